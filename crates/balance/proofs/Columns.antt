-- The columns beside the keys of the wanted tree, from the points' codes: it is well formed, so that demand 3 holds of it, and its order column is an arrangement of all points.
use mathlib.Core.Path.{◌≡◌, refl, sym, ap, ◌∙◌}
use mathlib.Core.Bool.{Bool, true, cond}
use mathlib.Core.List.{List}
use Prim.Native.Nat.{ℕ, ◌≤◌, ◌<◌}
use native.Mathlib.Omega.{arith}
use lib.ListN.{length, get_or, length-map}
use Rattle.slices.specs.Lists.{sum, range}
use Rattle.slices.specs.Order.{ascending}
use Rattle.refine.specs.Counts.{sources_in}
use Rattle.tree.specs.WellFormed.{most_sources, well_formed}
use Rattle.tree.specs.Finding.{TreeKeys}
use Rattle.tree.specs.Totals.{total_in, total_column}
use Rattle.tree.proofs.Rules.{Formed, all_tested}
use Rattle.tree.proofs.Stored.{distinct}
use Rattle.tree.proofs.Leaves as T
use Rattle.growth.specs.Columns.{own_column, begin_column, order_column}
use Rattle.growth.proofs.Arranged.{Codes, HeldOnce, once-arranged, once-length}
use Rattle.growth.proofs.Runs.{map_at, length-own, length-begin, begin-at, own_at, own-order}
use Rattle.balance.specs.Balance.{Tree, AllOrNone, Balances}
use Rattle.balance.specs.Splitting.{split, balanced_cells}
use Rattle.balance.proofs.Stored.{split-facts, splits}
use Rattle.balance.proofs.Holding.{held-once}
use Rattle.balance.proofs.Ordered.{keys-depth-first}
use Rattle.balance.proofs.Balance.{tree_of, balances-depth-first}

-- of any tree in Z order each of whose points is held by one leaf
module _ (d : ℕ) (keys s : List ℕ) (k : TreeKeys d keys) (once : HeldOnce d keys s) where
  pub order-arranged : ascending (order_column d keys s) ≡ range 0 (length s)
  order-arranged = once-arranged d keys s once

  pub own-total : sum (own_column d keys s) ≡ length s
  own-total = own-order d keys s ∙ once-length d keys s once

  module _ (few : length s ≤ most_sources) where
    pub formed : Formed d keys (own_column d keys s) (begin_column (own_column d keys s)) (total_column d keys (own_column d keys s))
    formed = record {
      owns = length-own d keys s;
      begins = length-begin d keys s;
      totals = length-map keys (total_in d keys (own_column d keys s));
      some = k.some;
      rows = record {
        tree = T.tree_of d keys k;
        inner = λ i l f. own_at d keys s i l ∙ ap (λ (b : Bool). cond b (sources_in d s (get_or keys i 0)) 0) f;
        runs = λ i l. begin-at d keys s i (omega (arith, length-own d keys s));
        most = omega (arith, own-total);
      };
      totalled = λ i l. map_at (total_in d keys (own_column d keys s)) keys i l;
    }

    pub well-formed : well_formed d keys (own_column d keys s) (begin_column (own_column d keys s)) (total_column d keys (own_column d keys s)) ≡ true
    well-formed = all_tested d keys (own_column d keys s) (begin_column (own_column d keys s)) (total_column d keys (own_column d keys s)) formed

-- so is each in a tree that stores all children or none, whose root is split if there are points
pub each-once : (d : ℕ) (keys s : List ℕ) → TreeKeys d keys → AllOrNone d keys → (0 < length s → split d keys 0 ≡ true) → Codes d s → HeldOnce d keys s
each-once d keys s k full top codes i l = held-once d keys (tree_of d keys k) full (top (omega arith)) (get_or s i 0) (codes i l) (distinct d keys (T.tree_of d keys k).ascending)

-- of the wanted tree: its root is split where the given one's is
pub root-split : (d : ℕ) (keys result : List ℕ) → Balances d keys result → split d keys 0 ≡ true → split d result 0 ≡ true
root-split d keys result r h = let s = split-facts d keys 0 h in rw s.parent_is at (splits d result s.cell (r.contains s.cell s.mem) s.deep)

module _ (d : ℕ) (keys s : List ℕ) (t : Tree d keys) (top : 0 < length s → split d keys 0 ≡ true) (codes : Codes d s) where
  pub balanced-once : HeldOnce d (balanced_cells d keys) s
  balanced-once =
      let b = balances-depth-first d keys t in
      each-once d (balanced_cells d keys) s (keys-depth-first d keys t) b.balanced.both_or_neither (λ l. root-split d keys (balanced_cells d keys) b (top l)) codes

  pub balanced-formed : length s ≤ most_sources
      → well_formed d (balanced_cells d keys) (own_column d (balanced_cells d keys) s) (begin_column (own_column d (balanced_cells d keys) s)) (total_column d (balanced_cells d keys) (own_column d (balanced_cells d keys) s)) ≡ true
  balanced-formed few = well-formed d (balanced_cells d keys) s (keys-depth-first d keys t) balanced-once few
