-- Every run that a salvage keeps is copied whole, in its order, to where the node's new begin says.
use mathlib.Core.Path.{◌≡◌, refl, sym, ap, ◌∙◌}
use mathlib.Core.Bool.{Bool, true, false, ◌&&◌, cond}
use mathlib.Core.List.{List, [], ◌∷◌, ◌++◌, map}
use Prim.Native.Nat.{ℕ, zero, suc, ◌+◌, ◌<◌}
use native.Mathlib.Omega.{arith}
use native.Mathlib.Nat.{not-suc-le-zero, le_of_suc-le-suc}
use lib.ListN.{length, get_or, take, drop, length-drop}
use lib.Seq.{length-take-le, take_at, drop_at, drop-drop}
use borrow.Author.Tests.{leb-true}
use Rattle.slices.specs.Lists.{sum, concat_map}
use Rattle.slices.proofs.Tests.{and_r}
use Rattle.tree.specs.Nodes.{leaf}
use Rattle.salvaged.specs.Nodes.{Input}
use Rattle.salvaged.specs.Columns.{new_keys, old_own, old_begin, run_fits, new_count, new_own, new_begins, new_order_of}
use Rattle.salvaged.proofs.Formed.{begins-at, own-length}

-- of lists one after the other, the one at a place
one_of : (f : ℕ → List ℕ) (g : ℕ → ℕ) → ((k : ℕ) → length (f k) ≡ g k) → (ks : List ℕ) (n : ℕ) → n < length ks
    → take (g (get_or ks n 0)) (drop (sum (take n (map g ks))) (concat_map f ks)) ≡ f (get_or ks n 0)
unfolding sum concat_map
one_of f g e [] n l = absurd (not-suc-le-zero l)
one_of f g e (k ∷ ks) zero l = take_at (f k) (concat_map f ks) (g k) (e k)
one_of f g e (k ∷ ks) (suc n) l =
    ap (take (g (get_or ks n 0))) (sym (drop-drop (sum (take n (map g ks))) (g k) (f k ++ concat_map f ks)) ∙ ap (drop (sum (take n (map g ks)))) (drop_at (f k) (concat_map f ks) (g k) (e k)))
    ∙ one_of f g e ks n (le_of_suc-le-suc l)

module _ (i : Input) where
  -- a run that is kept lies in the input's order column
  pub run-whole : (k : ℕ) → length (take (new_count i k) (drop (old_begin i k) i.order)) ≡ new_count i k
  unfolding new_count
  run-whole k = go (leaf i.axes (new_keys i) k && run_fits i k) refl
    where
      go : (b : Bool) → (leaf i.axes (new_keys i) k && run_fits i k) ≡ b → length (take (cond b (old_own i k) 0) (drop (old_begin i k) i.order)) ≡ cond b (old_own i k) 0
      go false e = refl
      go true e =
          let h = leb-true (old_begin i k + old_own i k) (length i.order) (and_r (leaf i.axes (new_keys i) k) _ e) in
          length-take-le (old_own i k) (drop (old_begin i k) i.order) (omega (arith, length-drop (old_begin i k) i.order))

  -- the run of the new order column from a node's new begin on is the run of the input's order column from its old begin on
  pub run-copied : (n : ℕ) → n < length (new_keys i)
      → take (new_count i (get_or (new_keys i) n 0)) (drop (get_or (new_begins i) n 0) (new_order_of i)) ≡ take (new_count i (get_or (new_keys i) n 0)) (drop (old_begin i (get_or (new_keys i) n 0)) i.order)
  unfolding new_order_of new_own
  run-copied n l =
      ap (λ (b : ℕ). take (new_count i (get_or (new_keys i) n 0)) (drop b (new_order_of i))) (begins-at (new_own i) n (omega (arith, own-length i)))
      ∙ one_of (λ k. take (new_count i k) (drop (old_begin i k) i.order)) (new_count i) run-whole (new_keys i) n l
