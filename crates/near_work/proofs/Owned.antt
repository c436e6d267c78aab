-- What nodes own, found by key.
use mathlib.Core.Path.{◌≡◌, refl, sym, ap, ◌∙◌, subst}
use mathlib.Core.Bool.{Bool, true, false, ◌||◌}
use mathlib.Core.List.{List, [], ◌∷◌}
use Prim.Native.Nat.{ℕ, suc, ◌≤◌, ◌<◌}
use native.Mathlib.Omega.{arith}
use lib.Dec.{eqb}
use lib.ListN.{length, get_or}
use borrow.Author.Tests.{eqb-false, ne_eqb}
use Rattle.slices.specs.Lists.{any}
use Rattle.slices.proofs.Tests.{clash}
use Rattle.slices.proofs.Sums.{sum-take, sum-whole}
use Rattle.axes.proofs.Known.{axes-known}
use Rattle.tree.specs.Nodes.{own_of, stored}
use Rattle.tree.specs.WellFormed.{most_sources, SoundTree}
use Rattle.tree.specs.Finding.{FoundNode}
use Rattle.sourced.proofs.Sound.{tree-facts, tree-ascends, own_count, own-length}
use Rattle.near_work.specs.Work.{Beside}
use Rattle.std.specs.Prelude.{None, Option, Some}

-- ---- what nodes own
own-none : (keys own : List ℕ) (k : ℕ) → stored keys k ≡ false → 0 ≡ own_of keys own k
unfolding own_of any
own-none [] own k h = refl
own-none (x ∷ xs) [] k h = refl
own-none (x ∷ xs) (n ∷ own) k h =
    let (a, b) = neither (eqb k x) (stored xs k) h in
    rw (ne_eqb x k (λ q. eqb-false k x a (sym q))) (own-none xs own k b)
  where
    neither : (a b : Bool) → (a || b) ≡ false → (a ≡ false) × (b ≡ false)
    neither true b e = absurd (clash refl e)
    neither false b e = (refl, e)

-- what a search for a key finds
module _ (d : ℕ) (keys own : List ℕ) (w : Beside d keys own) (k : ℕ) (r : Option ℕ) (f : FoundNode d keys k r) where
  pub found_in : (node : ℕ) → r ≡ Some node → node < length own
  found_in node e = omega (arith, w.owns, at.0)
    where
      at : (node < length keys) × (get_or keys node 0 ≡ k)
      at = subst (FoundNode d keys k) e f

  pub found-own : (node : ℕ) → r ≡ Some node → get_or own node 0 ≡ own_of keys own k
  found-own node e = let at : (node < length keys) × (get_or keys node 0 ≡ k) = subst (FoundNode d keys k) e f in sym (w.own_count node at.0) ∙ ap (own_of keys own) at.1

  pub found_nothing : r ≡ None → 0 ≡ own_of keys own k
  found_nothing e = own-none keys own k (subst (FoundNode d keys k) e f w.ordered)

module _ (d : ℕ) (keys own : List ℕ) (t : SoundTree d keys own) where
  pub beside : Beside d keys own
  beside = record { axes = axes-known d t.some t.most; ordered = tree-ascends d keys own t; owns = own-length d keys own t; own_count = own_count d keys own t }

  pub own-few : (i : ℕ) → i < length keys → get_or own i 0 ≤ most_sources
  own-few i l = omega (arith, sum-take own i, sum-whole own (suc i), (tree-facts d keys own t).total)
