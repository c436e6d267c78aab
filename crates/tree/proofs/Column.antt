-- The laws of totals as the column of a well-formed tree has them.
use mathlib.Core.Path.{◌≡◌, refl, sym, ap, ◌∙◌}
use mathlib.Core.Bool.{Bool, true, false, cond}
use mathlib.Core.List.{List, map}
use Prim.Native.Nat.{ℕ, ◌+◌, ◌<◌}
use lib.Dec.{ltb}
use lib.ListN.{length, get_or}
use Rattle.slices.specs.Lists.{sum, Mem}
use Rattle.slices.proofs.Sums.{sum_same}
use Rattle.tree.specs.Nodes.{child_of, own_of, sourced}
use Rattle.tree.specs.Totals.{total_in}
use Rattle.tree.specs.WellFormed.{well_formed}
use Rattle.tree.proofs.Rules.{Tree, WellFormed, facts}
use Rattle.tree.proofs.Stored.{distinct, own_at}
use Rattle.tree.proofs.Verdict.{formed-of, totals-of, total-at, total-length}
use Rattle.tree.proofs.Sourced.{sourced-total}
use Rattle.tree.proofs.Totals.{root-total, total-children}

module _ (d : ℕ) (keys own begin total : List ℕ) (tree : well_formed d keys own begin total ≡ true) where
  w : WellFormed d keys own begin
  w = facts d keys own begin (formed-of d keys own begin total tree)

  nodes : Tree d keys
  nodes = record { ascending = w.ascending; parents = w.parents }

  at : (i : ℕ) → i < length keys → get_or total i 0 ≡ total_in d keys own (get_or keys i 0)
  at = total-at d keys own begin total (totals-of d keys own begin total tree)

  -- a node is sourced exactly when its total is above 0
  pub column-sourced : (i : ℕ) → i < length keys → sourced d keys own (get_or keys i 0) ≡ ltb 0 (get_or total i 0)
  column-sourced i l = sourced-total d keys own (get_or keys i 0) ∙ ap (ltb 0) (sym (at i l))

  -- the root's total is the sum of own
  pub column-root : get_or total 0 0 ≡ sum own
  column-root = at 0 w.some ∙ root-total d keys own nodes w.owns w.some

  -- what stands in the column beside a key is its total
  beside : (c : ℕ) → Mem c keys → total_in d keys own c ≡ own_of keys total c
  beside c m =
      ap (total_in d keys own) (sym m.2)
      ∙ sym (at m.0 m.1)
      ∙ sym (own_at keys total (distinct d keys w.ascending) (total-length d keys own begin total (totals-of d keys own begin total tree)) m.0 m.1)
      ∙ ap (own_of keys total) m.2

  -- a total is what the node owns and the totals that stand beside its children
  pub column-children : (i : ℕ) → i < length keys
      → get_or total i 0 ≡ get_or own i 0 + sum (map (λ c. cond (child_of d (get_or keys i 0) c) (own_of keys total c) 0) keys)
  column-children i l =
      at i l
      ∙ total-children d keys own nodes (get_or keys i 0) (i, l, refl)
      ∙ ap (λ n. n + sum (map (λ c. cond (child_of d (get_or keys i 0) c) (total_in d keys own c) 0) keys)) (own_at keys own (distinct d keys w.ascending) w.owns i l)
      ∙ ap (λ n. get_or own i 0 + n) (sum_same (λ c. cond (child_of d (get_or keys i 0) c) (total_in d keys own c) 0) (λ c. cond (child_of d (get_or keys i 0) c) (own_of keys total c) 0) keys (λ c m. ap (λ n. cond (child_of d (get_or keys i 0) c) n 0) (beside c m)))
