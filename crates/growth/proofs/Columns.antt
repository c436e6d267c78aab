-- What a key owns in a column that is made key by key.
use mathlib.Core.Path.{◌≡◌, refl, sym, ap}
use mathlib.Core.Bool.{Bool, true, false, ◌||◌, cond}
use mathlib.Core.List.{List, [], ◌∷◌, map}
use Prim.Native.Nat.{ℕ}
use lib.Dec.{eqb}
use borrow.Author.Tests.{eqb-true, eqb-false, eq-eqb, ne_eqb}
use Rattle.slices.specs.Lists.{any}
use Rattle.tree.specs.Nodes.{stored, own_of}

pub own-map : (f : ℕ → ℕ) (keys : List ℕ) (k : ℕ) → own_of keys (map f keys) k ≡ cond (stored keys k) (f k) 0
unfolding own_of any
own-map f [] k = refl
own-map f (x ∷ xs) k = go (eqb x k) refl (own-map f xs k)
  where
    go : (b : Bool) → eqb x k ≡ b → own_of xs (map f xs) k ≡ cond (stored xs k) (f k) 0 → cond b (f x) (own_of xs (map f xs) k) ≡ cond (eqb k x || any (eqb k) xs) (f k) 0
    go true e i = let q = eqb-true x k e in rw (eq-eqb k x (sym q)) (ap f q)
    go false e i = rw (ne_eqb k x (λ q. eqb-false x k e (sym q))) i
