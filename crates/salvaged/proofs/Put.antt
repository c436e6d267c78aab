-- Keys put in the nodes' order: the same keys, each before all that stand behind it; and there is only one such list.
use mathlib.Core.Path.{◌≡◌, refl, sym, ap, ap₂, ◌∙◌, subst}
use mathlib.Core.Bool.{Bool, true, false, cond}
use mathlib.Core.List.{List, [], ◌∷◌}
use mathlib.Core.Logic.{◌⊎◌, inl, inr}
use Prim.Native.Nat.{ℕ, zero, suc, ◌≤◌, ◌<◌}
use native.Mathlib.Omega.{arith}
use native.Mathlib.Nat.{not-suc-le-zero}
use native.Mathlib.Decide.{dec_lt}
use lib.Dec.{eqb}
use lib.ListN.{length, get_or}
use borrow.Author.Tests.{eqb-true, eqb-false}
use Rattle.slices.specs.Lists.{Mem}
use Rattle.slices.proofs.Tests.{clash}
use Rattle.slices.proofs.Counts.{here, there}
use Rattle.slices.proofs.Members.{mem-cases}
use Rattle.morton.specs.Keys.{level_of}
use Rattle.tree.specs.Order.{before, first}
use Rattle.tree.proofs.Spans.{Earlier, earlier, before_of, earlier-trans, earlier-not, same-cell}
use Rattle.growth.proofs.Chains.{Chain}
use Rattle.salvaged.specs.Nodes.{put, put_all}

-- no key is below level 16
abbrev pub Shallow : List ℕ → Type 0
Shallow xs = (y : ℕ) → Mem y xs → level_of y ≤ 16

-- of two cells, one comes before the other or both are one
later : (d k x : ℕ) → level_of k ≤ 16 → level_of x ≤ 16 → eqb k x ≡ false → before d k x ≡ false → Earlier d x k
later d k x lk lx n b = go (dec_lt (first d x) (first d k)) (dec_lt (first d k) (first d x)) (dec_lt (level_of x) (level_of k)) (dec_lt (level_of k) (level_of x))
  where
    go : Dec (first d x < first d k) → Dec (first d k < first d x) → Dec (level_of x < level_of k) → Dec (level_of k < level_of x) → Earlier d x k
    go (yes l) _ _ _ = (omega arith, λ e. absurd (omega arith))
    go (no m) (yes l) _ _ = absurd (clash (before_of d k x lk lx (omega arith, λ e. absurd (omega arith))) b)
    go (no m) (no l) (yes s) _ = (omega arith, λ e. s)
    go (no m) (no l) (no s) (yes t) = absurd (clash (before_of d k x lk lx (omega arith, λ e. t)) b)
    go (no m) (no l) (no s) (no t) = absurd (eqb-false k x n (same-cell d k x (omega arith) lx (omega arith)))

-- ---- the same keys

module _ (d k : ℕ) where
  pub put-new : (xs : List ℕ) → Mem k (put d k xs)
  unfolding put
  put-new [] = here k []
  put-new (x ∷ xs) = go (eqb k x) refl (before d k x) (put-new xs)
    where
      go : (b : Bool) → eqb k x ≡ b → (c : Bool) → Mem k (put d k xs) → Mem k (cond b (x ∷ xs) (cond c (k ∷ x ∷ xs) (x ∷ put d k xs)))
      go true e c m = (0, omega arith, sym (eqb-true k x e))
      go false e true m = here k (x ∷ xs)
      go false e false m = there x k (put d k xs) m

  pub put-old : (xs : List ℕ) (y : ℕ) → Mem y xs → Mem y (put d k xs)
  unfolding put
  put-old [] y (i, l, e) = absurd (not-suc-le-zero l)
  put-old (x ∷ xs) y m = go (eqb k x) (before d k x) (mem-cases y x xs m) (put-old xs y)
    where
      go : (b c : Bool) → (x ≡ y) ⊎ Mem y xs → (Mem y xs → Mem y (put d k xs)) → Mem y (cond b (x ∷ xs) (cond c (k ∷ x ∷ xs) (x ∷ put d k xs)))
      go true c _ rest = m
      go false true _ rest = there k y (x ∷ xs) m
      go false false (inl e) rest = (0, omega arith, e)
      go false false (inr n) rest = there x y (put d k xs) (rest n)

  pub mem-put : (xs : List ℕ) (y : ℕ) → Mem y (put d k xs) → (k ≡ y) ⊎ Mem y xs
  unfolding put
  mem-put [] y m = mem-cases y k [] m
  mem-put (x ∷ xs) y m = go (eqb k x) (before d k x) m (mem-put xs y)
    where
      up : (k ≡ y) ⊎ Mem y xs → (k ≡ y) ⊎ Mem y (x ∷ xs)
      up (inl e) = inl e
      up (inr n) = inr (there x y xs n)

      behind : (x ≡ y) ⊎ Mem y (put d k xs) → (Mem y (put d k xs) → (k ≡ y) ⊎ Mem y xs) → (k ≡ y) ⊎ Mem y (x ∷ xs)
      behind (inl e) rest = inr (0, omega arith, e)
      behind (inr n) rest = up (rest n)

      go : (b c : Bool) → Mem y (cond b (x ∷ xs) (cond c (k ∷ x ∷ xs) (x ∷ put d k xs))) → (Mem y (put d k xs) → (k ≡ y) ⊎ Mem y xs) → (k ≡ y) ⊎ Mem y (x ∷ xs)
      go true c n rest = inr n
      go false true n rest = mem-cases y k (x ∷ xs) n
      go false false n rest = behind (mem-cases y x (put d k xs) n) rest

  -- ---- in their order

  pub put-chain : (xs : List ℕ) → level_of k ≤ 16 → Shallow xs → Chain (Earlier d) xs → Chain (Earlier d) (put d k xs)
  unfolding put Chain
  put-chain [] lk s c = (λ y m. absurd (not-suc-le-zero m.1), tt)
  put-chain (x ∷ xs) lk s c = go (eqb k x) refl (before d k x) refl (put-chain xs lk (λ y m. s y (there x y xs m)) c.1)
    where
      lx : level_of x ≤ 16
      lx = s x (here x xs)

      behind : Earlier d k x → (y : ℕ) → (x ≡ y) ⊎ Mem y xs → Earlier d k y
      behind h y (inl e) = subst (Earlier d k) e h
      behind h y (inr m) = earlier-trans d k x y h (c.0 y m)

      ahead : Earlier d x k → (y : ℕ) → (k ≡ y) ⊎ Mem y xs → Earlier d x y
      ahead h y (inl e) = subst (Earlier d x) e h
      ahead h y (inr m) = c.0 y m

      go : (b : Bool) → eqb k x ≡ b → (t : Bool) → before d k x ≡ t → Chain (Earlier d) (put d k xs) → Chain (Earlier d) (cond b (x ∷ xs) (cond t (k ∷ x ∷ xs) (x ∷ put d k xs)))
      go true e t f rest = c
      go false e true f rest = (λ y m. behind (earlier d k x lk lx f) y (mem-cases y x xs m), c)
      go false e false f rest = (λ y m. ahead (later d k x lk lx e f) y (mem-put xs y m), rest)

module _ (d : ℕ) where
  pub all-put : (ks : List ℕ) (y : ℕ) → Mem y ks → Mem y (put_all d ks)
  unfolding put_all
  all-put [] y m = m
  all-put (k ∷ ks) y m = go (mem-cases y k ks m) (all-put ks y)
    where
      go : (k ≡ y) ⊎ Mem y ks → (Mem y ks → Mem y (put_all d ks)) → Mem y (put d k (put_all d ks))
      go (inl e) rest = subst (λ z. Mem z (put d k (put_all d ks))) e (put-new d k (put_all d ks))
      go (inr n) rest = put-old d k (put_all d ks) y (rest n)

  pub put-all : (ks : List ℕ) (y : ℕ) → Mem y (put_all d ks) → Mem y ks
  unfolding put_all
  put-all [] y m = m
  put-all (k ∷ ks) y m = go (mem-put d k (put_all d ks) y m) (put-all ks y)
    where
      go : (k ≡ y) ⊎ Mem y (put_all d ks) → (Mem y (put_all d ks) → Mem y ks) → Mem y (k ∷ ks)
      go (inl e) rest = (0, omega arith, e)
      go (inr n) rest = there k y ks (rest n)

  pub all-chain : (ks : List ℕ) → Shallow ks → Chain (Earlier d) (put_all d ks)
  unfolding put_all Chain
  all-chain [] s = tt
  all-chain (k ∷ ks) s = put-chain d k (put_all d ks) (s k (here k ks)) (λ y m. s y (there k y ks (put-all ks y m))) (all-chain ks (λ y m. s y (there k y ks m)))

  -- ---- two lists of the same keys in order are one

  one-rest : (x : ℕ) (xs ys : List ℕ) → ((y : ℕ) → Mem y xs → Earlier d x y) → ((y : ℕ) → Mem y (x ∷ xs) → Mem y (x ∷ ys)) → (y : ℕ) → Mem y xs → Mem y ys
  one-rest x xs ys c into y m = go (mem-cases y x ys (into y (there x y xs m)))
    where
      go : (x ≡ y) ⊎ Mem y ys → Mem y ys
      go (inr n) = n
      go (inl e) = let h = subst (Earlier d x) (sym e) (c y m) in absurd (earlier-not d x x h h)

  pub one-order : (xs ys : List ℕ) → Chain (Earlier d) xs → Chain (Earlier d) ys → ((y : ℕ) → Mem y xs → Mem y ys) → ((y : ℕ) → Mem y ys → Mem y xs) → xs ≡ ys
  unfolding Chain
  one-order [] [] c e into back = refl
  one-order [] (y ∷ ys) c e into back = absurd (not-suc-le-zero (back y (here y ys)).1)
  one-order (x ∷ xs) [] c e into back = absurd (not-suc-le-zero (into x (here x xs)).1)
  one-order (x ∷ xs) (y ∷ ys) c e into back =
      let h = heads (mem-cases x y ys (into x (here x xs))) (mem-cases y x xs (back y (here y ys))) in
      let a = one-rest x xs ys c.0 (λ z m. subst (λ v. Mem z (v ∷ ys)) (sym h) (into z m)) in
      let b = one-rest y ys xs e.0 (λ z m. subst (λ v. Mem z (v ∷ xs)) h (back z m)) in
      ap₂ (λ (v : ℕ) (t : List ℕ). v ∷ t) h (one-order xs ys c.1 e.1 a b)
    where
      heads : (y ≡ x) ⊎ Mem x ys → (x ≡ y) ⊎ Mem y xs → x ≡ y
      heads (inl q) _ = sym q
      heads (inr m) (inl q) = q
      heads (inr m) (inr n) = absurd (earlier-not d x y (c.0 y n) (e.0 x m))

-- what stands so by its places is such a list
pub chain-of : (R : ℕ → ℕ → Type 0) (xs : List ℕ) → ((i j : ℕ) → i < j → j < length xs → R (get_or xs i 0) (get_or xs j 0)) → Chain R xs
unfolding Chain
chain-of R [] h = tt
chain-of R (x ∷ xs) h = (λ y m. subst (R x) m.2 (h 0 (suc m.0) (omega arith) (omega (arith, m.1))), chain-of R xs (λ i j l n. h (suc i) (suc j) (omega arith) (omega arith)))
