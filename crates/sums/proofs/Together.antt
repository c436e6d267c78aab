-- Document 02, order 12: the near and the far sum of a leaf are together the plain sum of all readings.
use mathlib.Core.Path.{◌≡◌, refl, sym, ap, ap₂, ◌∙◌}
use mathlib.Core.Bool.{Bool, true, false, cond}
use mathlib.Core.List.{List}
use Prim.Native.Nat.{ℕ}
use lib.IntN.{ℤ, pos, ◌+ℤ◌}
use lib.ListN.{length, get_or}
use Rattle.slices.specs.Lists.{sum, range, Mem}
use Rattle.morton.specs.Keys.{under, ancestors}
use Rattle.tree.specs.Nodes.{leaf}
use Rattle.tree.specs.WellFormed.{formed}
use Rattle.tree.proofs.Sourced.{under-self}
use Rattle.rows.specs.Lists.{u_row, v_row}
use Rattle.rows.specs.Written.{Gives}
use Rattle.rows.specs.Demand3.{Once}
use Rattle.rows.proofs.Demand3 as D
use Rattle.rows.proofs.RowTests.{u-leaf}
use Rattle.sums.specs.Adding.{added, addedℤ}
use Rattle.sums.specs.Sums.{places, reading_at, node_readings, cell_readings, near_sum, far_sum, plain_sum}
use Rattle.sums.specs.Arrangement.{AllIndices}
use Rattle.sums.proofs.Adding.{wholes, total-same, total-one}
use Rattle.sums.proofs.Weights.{weights}
use Rattle.sums.proofs.Arrangement.{total-arranged}
use Rattle.sums.proofs.Facts.{Tree, tree-facts}
use Rattle.sums.proofs.Right.{u_passes}

module _ (d : ℕ) (keys own begin order : List ℕ) (readings : List ℤ) where
  -- from demand 3's promise alone, where the U row has leaves
  module _ (t : Tree d keys own begin) (u v : ℕ → List ℕ) (once : Once d keys own begin u v) (b : ℕ) (mb : Mem b keys) (lb : leaf d keys b ≡ true) (leaves : (s : ℕ) → Mem s (u b) → Mem s keys × (leaf d keys s ≡ true)) where
    -- what lies in a leaf's cell is what the leaf owns
    leaf-cell : (s : ℕ) → leaf d keys s ≡ true → Mem s keys → cell_readings d keys own begin order readings s ≡ node_readings keys own begin order readings s
    unfolding cell_readings
    leaf-cell s ls ms = total-one (pos 0) ◌+ℤ◌ wholes (under d s) (node_readings keys own begin order readings) keys t.distinct s ms (λ x m h. sym (t.alone s x ls m h)) (under-self d s)

    pub together-places : near_sum d keys own begin order readings u b +ℤ far_sum d keys own begin order readings v b ≡ addedℤ (reading_at order readings) (range 0 (sum own))
    unfolding near_sum far_sum cell_readings node_readings
    together-places =
        ap (◌+ℤ far_sum d keys own begin order readings v b)
        (total-same (pos 0) ◌+ℤ◌ wholes (node_readings keys own begin order readings) (cell_readings d keys own begin order readings) (u b)
        (λ s m. let r = leaves s m in sym (leaf-cell s r.1 r.0)))
        ∙ weights (pos 0) ◌+ℤ◌ wholes d keys own begin t.distinct t.owns t.begins (reading_at order readings) t.runs u v once b mb lb

  -- in every well-formed tree, where the order column arranges all indices
  pub together : formed d keys own begin ≡ true → (u v : ℕ → List ℕ) → Gives keys (u_row d keys own) u → Gives keys (v_row d keys own) v
      → AllIndices order (sum own) → length readings ≡ sum own → (b : ℕ) → Mem b keys → leaf d keys b ≡ true
      → near_sum d keys own begin order readings u b +ℤ far_sum d keys own begin order readings v b ≡ plain_sum readings
  together tree u v gu gv a e b mb lb =
      together-places (tree-facts d keys own begin tree) u v (D.once d keys own begin tree u v gu gv) b mb lb
      (λ s m. let r = u_passes d keys own begin tree u v gu gv b s mb true lb m in (r.0, u-leaf d keys own b s r.1))
      ∙ total-arranged (pos 0) ◌+ℤ◌ wholes (λ i. get_or readings i (pos 0)) order (sum own) a
      ∙ ap (λ n. addedℤ (λ i. get_or readings i (pos 0)) (range 0 n)) (sym e)
