-- What a salvage gives is a well-formed tree with an order column as long as its total; so demand 3 holds of it.
use mathlib.Core.Path.{◌≡◌, refl, sym, ap, ◌∙◌}
use mathlib.Core.Bool.{Bool, true, false, ◌&&◌, cond}
use mathlib.Core.List.{List, [], ◌∷◌, ◌++◌, map}
use Prim.Native.Nat.{ℕ, zero, suc, ◌+◌, ◌-◌, ◌≤◌, ◌<◌, min}
use native.Mathlib.Omega.{arith}
use native.Mathlib.Nat.{zero-add}
use lib.ListN.{length, get_or, take, drop, length-map, length-append, length-take, length-drop}
use borrow.Author.Tests.{leb-true}
use Rattle.slices.specs.Lists.{sum, range, concat_map}
use Rattle.slices.proofs.Tests.{and_r}
use Rattle.slices.proofs.Lists.{length-range, get_or-range, get_d_map}
use Rattle.morton.specs.Keys.{axes_known}
use Rattle.tree.specs.Nodes.{leaf}
use Rattle.tree.specs.Totals.{total_in}
use Rattle.tree.specs.WellFormed.{most_sources, well_formed}
use Rattle.tree.proofs.Rules.{Formed, all_tested}
use Rattle.tree.proofs.Verdict.{formed-of}
use Rattle.rows.specs.Lists.{u_row, v_row}
use Rattle.rows.specs.Demand3.{Runs, Once, Near, Far, Few}
use Rattle.rows.proofs.Demand3 as D
use Rattle.growth.specs.Columns.{begin_column}
use Rattle.salvaged.specs.Nodes.{Input}
use Rattle.salvaged.specs.Columns.{new_keys, old_own, old_begin, run_fits, new_count, new_own, new_sources, new_begins, new_totals, new_order_of}
use Rattle.salvaged.proofs.Kept.{kept-some, kept-tree}

-- begins are the running sums, of any own counts
pub begins-length : (own : List ℕ) → length (begin_column own) ≡ length own
unfolding begin_column
begins-length own = length-map (range 0 (length own)) (λ i. sum (take i own)) ∙ length-range 0 (length own)

pub begins-at : (own : List ℕ) (j : ℕ) → j < length own → get_or (begin_column own) j 0 ≡ sum (take j own)
unfolding begin_column
begins-at own j h =
    get_d_map (λ i. sum (take i own)) (range 0 (length own)) j (omega (arith, length-range 0 (length own)))
    ∙ ap (λ (n : ℕ). sum (take n own)) (get_or-range 0 (length own) j h ∙ zero-add j)

-- lists one after the other, by the lengths of each
joined : (f : ℕ → List ℕ) (g : ℕ → ℕ) → ((k : ℕ) → length (f k) ≡ g k) → (ks : List ℕ) → length (concat_map f ks) ≡ sum (map g ks)
unfolding sum concat_map
joined f g e [] = refl
joined f g e (k ∷ ks) = omega (arith, e k, joined f g e ks, length-append (f k) (concat_map f ks))

module _ (i : Input) where
  pub own-length : length (new_own i) ≡ length (new_keys i)
  unfolding new_own
  own-length = length-map (new_keys i) (new_count i)

  pub own_at : (j : ℕ) → j < length (new_keys i) → get_or (new_own i) j 0 ≡ new_count i (get_or (new_keys i) j 0)
  unfolding new_own
  own_at j h = get_d_map (new_count i) (new_keys i) j h

  -- a node that is no leaf has no count
  pub count-inner : (k : ℕ) → leaf i.axes (new_keys i) k ≡ false → new_count i k ≡ 0
  unfolding new_count
  count-inner k e = ap (λ (b : Bool). cond (b && run_fits i k) (old_own i k) 0) e

  -- a run is copied whole
  run_length : (k : ℕ) → length (take (new_count i k) (drop (old_begin i k) i.order)) ≡ new_count i k
  unfolding new_count
  run_length k = go (leaf i.axes (new_keys i) k && run_fits i k) refl
    where
      go : (b : Bool) → (leaf i.axes (new_keys i) k && run_fits i k) ≡ b → length (take (cond b (old_own i k) 0) (drop (old_begin i k) i.order)) ≡ cond b (old_own i k) 0
      go false e = refl
      go true e =
          let h = leb-true (old_begin i k + old_own i k) (length i.order) (and_r (leaf i.axes (new_keys i) k) _ e) in
          omega (arith, length-take (old_own i k) (drop (old_begin i k) i.order), length-drop (old_begin i k) i.order)

  -- the new order column has as many entries as there are sources
  pub order-length : length (new_order_of i) ≡ new_sources i
  unfolding new_order_of new_own
  order-length = joined (λ k. take (new_count i k) (drop (old_begin i k) i.order)) (new_count i) run_length (new_keys i)

  module _ (known : axes_known i.axes ≡ true) (few : new_sources i ≤ most_sources) where
    pub formed : Formed i.axes (new_keys i) (new_own i) (new_begins i) (new_totals i)
    formed = record {
      owns = own-length;
      begins = begins-length (new_own i) ∙ own-length;
      totals = length-map (new_keys i) (total_in i.axes (new_keys i) (new_own i));
      some = kept-some i.axes i.key known;
      rows = record {
        tree = kept-tree i.axes i.key known;
        inner = λ j l f. own_at j l ∙ count-inner (get_or (new_keys i) j 0) f;
        runs = λ j l. begins-at (new_own i) j (omega (arith, own-length));
        most = few;
      };
      totalled = λ j l. get_d_map (total_in i.axes (new_keys i) (new_own i)) (new_keys i) j l;
    }

    -- all output is well formed
    pub well-formed : well_formed i.axes (new_keys i) (new_own i) (new_begins i) (new_totals i) ≡ true
    well-formed = all_tested i.axes (new_keys i) (new_own i) (new_begins i) (new_totals i) formed

    -- so demand 3 applies
    pub demand-3 : Runs i.axes (new_keys i) (new_own i) (new_begins i)
        × Once i.axes (new_keys i) (new_own i) (new_begins i) (u_row i.axes (new_keys i) (new_own i)) (v_row i.axes (new_keys i) (new_own i))
        × Near i.axes (new_keys i) (new_own i) (new_begins i) (u_row i.axes (new_keys i) (new_own i))
        × Far i.axes (new_keys i) (v_row i.axes (new_keys i) (new_own i))
        × Few i.axes (new_keys i) (v_row i.axes (new_keys i) (new_own i))
    demand-3 = D.demand-3 i.axes (new_keys i) (new_own i) (new_begins i) (formed-of i.axes (new_keys i) (new_own i) (new_begins i) (new_totals i) well-formed) known
