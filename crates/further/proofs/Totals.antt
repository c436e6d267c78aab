-- Where each source is in a leaf, a stored cell's total is the number of sources in it: the tests of order 7 may ask the totals.
use mathlib.Core.Path.{◌≡◌, refl, ap, ap₂, ◌∙◌}
use mathlib.Core.Bool.{Bool, true, false, ◌&&◌, cond}
use mathlib.Core.List.{List, [], ◌∷◌, map}
use mathlib.Core.Logic.{⊎_elim}
use Prim.Native.Nat.{ℕ, ◌+◌, ◌≤◌, ◌<◌}
use native.Mathlib.Omega.{arith}
use Rattle.slices.specs.Lists.{bit, count, sum, Mem, Distinct}
use Rattle.slices.proofs.Tests.{and_l, and_r, both, clash, lt-or-le}
use Rattle.slices.proofs.Counts.{here, there, count-one, count-zero}
use Rattle.morton.specs.Keys.{level_of, under, holds}
use Rattle.refine.specs.Counts.{count_at, sources_in}
use Rattle.tree.specs.Nodes.{leaf, own_of}
use Rattle.growth.specs.Columns.{own_column}
use Rattle.growth.proofs.Held.{leaf-mem, held-under}
use Rattle.further.specs.Built.{Tree, InLeaves}
use Rattle.tree.specs.Totals.{total_in}
use Rattle.further.proofs.Cells.{holds-up}
use Rattle.further.proofs.Facts.{own-map}
use Rattle.further.proofs.Built.{leaf-lowest, one-leaf}

-- one more in each that passes two tests
sum_more : (q r : ℕ → Bool) (n : ℕ → ℕ) (ks : List ℕ) → sum (map (λ j. cond (q j) (bit (r j) + n j) 0) ks) ≡ count (λ j. q j && r j) ks + sum (map (λ j. cond (q j) (n j) 0) ks)
unfolding sum count
sum_more q r n [] = refl
sum_more q r n (k ∷ ks) = omega (arith, one (q k) (r k) (n k), sum_more q r n ks)
  where
    one : (a b : Bool) (m : ℕ) → cond a (bit b + m) 0 ≡ bit (a && b) + cond a m 0
    one true b m = refl
    one false b m = refl

sum-none : (q : ℕ → Bool) (ks : List ℕ) → sum (map (λ j. cond (q j) 0 0) ks) ≡ 0
unfolding sum
sum-none q [] = refl
sum-none q (k ∷ ks) = omega (arith, one (q k), sum-none q ks)
  where
    one : (a : Bool) → ◌≡◌ {A = ℕ} (cond a 0 0) 0
    one true = refl
    one false = refl

map_same : (f h : ℕ → ℕ) (ks : List ℕ) → ((k : ℕ) → Mem k ks → f k ≡ h k) → map f ks ≡ map h ks
map_same f h [] e = refl
map_same f h (k ∷ ks) e = ap₂ (λ (x : ℕ) (xs : List ℕ). x ∷ xs) (e k (here k ks)) (map_same f h ks (λ j m. e j (there k j ks m)))

module _ (d : ℕ) (keys : List ℕ) (t : Tree d keys) (dist : Distinct keys) (k : ℕ) (mk : Mem k keys) where
  part : ℕ → Bool
  part j = under d k j && leaf d keys j

  -- a source in a leaf is in one leaf at or under k if it is in k, else in none
  one-part : (c : ℕ) → (x : ℕ) × (leaf d keys x ≡ true) × (holds d x c ≡ true) → count (λ j. part j && holds d j c) keys ≡ bit (holds d k c)
  unfolding part
  one-part c (x, lx, hx) = go (holds d k c) refl
    where
      mx : Mem x keys
      mx = leaf-mem d keys x lx

      below : holds d k c ≡ true → under d k x ≡ true
      below h = ⊎_elim
          (λ (l : level_of x < level_of k). absurd (omega (arith, l, ap level_of (leaf-lowest d keys t x k lx mk (held-under d x k c (omega (arith, l)) (t.sound k mk).level hx h)))))
          (λ (l : level_of k ≤ level_of x). held-under d k x c l (t.sound x mx).level h hx)
          (lt-or-le (level_of x) (level_of k))

      go : (b : Bool) → holds d k c ≡ b → count (λ j. (under d k j && leaf d keys j) && holds d j c) keys ≡ bit b
      go true e =
          count-one (λ j. (under d k j && leaf d keys j) && holds d j c) keys dist x mx
          (λ j m h. one-leaf d keys t j x c (and_r (under d k j) _ (and_l _ _ h)) lx (and_r (under d k j && leaf d keys j) _ h) hx)
          ∙ ap bit (both (both (below e) lx) hx)
      go false e =
          count-zero (λ j. (under d k j && leaf d keys j) && holds d j c) keys
          (λ j m h. clash (holds-up d k j c (and_l _ _ (and_l _ _ h)) (t.sound j m).level (and_r (under d k j && leaf d keys j) _ h)) e)

  parts : (s : List ℕ) → InLeaves d s keys → sum (map (λ j. cond (part j) (count (holds d j) s) 0) keys) ≡ count (holds d k) s
  unfolding count
  parts [] held = sum-none part keys
  parts (c ∷ s) held =
      sum_more part (λ j. holds d j c) (λ j. count (holds d j) s) keys
      ∙ ap₂ ◌+◌ (one-part c (held c (here c s))) (parts s (λ x m. held x (there c x s m)))

  pub total-is : (s : List ℕ) → InLeaves d s keys → total_in d keys (own_column d keys s) k ≡ sources_in d s k
  unfolding total_in own_column count_at part
  total-is s held =
      ap sum (map_same (λ j. cond (under d k j) (own_of keys (own_column d keys s) j) 0) (λ j. cond (part j) (count (holds d j) s) 0) keys
      (λ j m. ap (λ (n : ℕ). cond (under d k j) n 0) (own-map (λ i. cond (leaf d keys i) (sources_in d s i) 0) keys j m) ∙ nest (under d k j) (leaf d keys j) (count (holds d j) s)))
      ∙ parts s held
    where
      nest : (a b : Bool) (n : ℕ) → cond a (cond b n 0) 0 ≡ cond (a && b) n 0
      nest true b n = refl
      nest false b n = refl
