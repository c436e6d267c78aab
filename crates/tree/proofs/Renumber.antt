-- The old numbers: of one set of nodes, by level then code and in Z order.
use mathlib.Core.Path.{◌≡◌, refl, sym, ap, ap₂, ◌∙◌, subst}
use mathlib.Core.Bool.{Bool, true, false, ◌&&◌, ◌||◌}
use mathlib.Core.List.{List, [], ◌∷◌}
use mathlib.Core.Logic.{◌⊎◌, inl, inr}
use Prim.Native.Nat.{ℕ, zero, suc, ◌+◌, ◌*◌, ◌≤◌, ◌<◌, suc-le-suc, zero-le}
use native.Mathlib.Omega.{arith}
use native.Mathlib.Nat.{not-suc-le-zero}
use native.Mathlib.Decide.{dec_lt}
use lib.Dec.{leb, ltb, eqb}
use lib.ListN.{length, get_or, take}
use lib.Seq.{length-take-le}
use borrow.Author.Tests.{ltb-true, eqb-true, eqb-false, lt-ltb, le-ltb, eq-eqb, ne_eqb}
use Rattle.slices.specs.Lists.{bit, count, Mem}
use Rattle.slices.proofs.Tests.{and_l, and_r, both, clash, refute, same_test}
use Rattle.slices.proofs.Counts.{count_add, count-ext, length-count}
use Rattle.morton.specs.Keys.{level_of, code_of}
use Rattle.tree.specs.ByLevel.{before_by_level}
use Rattle.tree.proofs.ByLevel as by_level
use Rattle.tree.specs.Order.{first, size}
use Rattle.tree.specs.Arrangement.{Arrangement, old_number}
use Rattle.tree.proofs.Spans.{size-pos}
use Rattle.tree.proofs.Rules.{Ascending}
use Rattle.tree.proofs.Ranges.{level-le, earlier-at}
use Rattle.tree.proofs.Perm.{perm-count, perm-mem}

-- a count that sees the first i only
count-first : (q r : ℕ → Bool) (xs : List ℕ) (i : ℕ) → i ≤ length xs → ((j : ℕ) → j < length xs → j < i → q (get_or xs j 0) ≡ r (get_or xs j 0))
    → ((j : ℕ) → j < length xs → i ≤ j → q (get_or xs j 0) ≡ false) → count q xs ≡ count r (take i xs)
unfolding count
count-first q r [] zero l a b = refl
count-first q r [] (suc i) l a b = absurd (not-suc-le-zero l)
count-first q r (x ∷ xs) zero l a b =
    rw (b 0 (omega arith) (omega arith)) (omega (arith, count-first q r xs 0 (omega arith) (λ j s t. absurd (not-suc-le-zero t)) (λ j s t. b (suc j) (omega arith) (omega arith))))
count-first q r (x ∷ xs) (suc i) l a b =
    rw (a 0 (omega arith) (omega arith)) (omega (arith, count-first q r xs i (omega arith) (λ j s t. a (suc j) (omega arith) (omega arith)) (λ j s t. b (suc j) (omega arith) (omega arith))))

-- in the old order a node's number is how many come before it
old-place : (d : ℕ) (old : List ℕ) → by_level.Ascending d old → (m : ℕ) → m < length old → count (λ k. before_by_level k (get_or old m 0)) old ≡ m
old-place d old w m l =
    count-first (λ k. before_by_level k (get_or old m 0)) (λ _. true) old m (omega arith)
    (λ j s t. by_level.before_of (get_or old j 0) (get_or old m 0) (by_level.earlier-at d old w j m t l))
    (λ j s t. refute (λ h. late j s t h (dec_lt m j)))
    ∙ sym (length-count (take m old)) ∙ length-take-le m old (omega arith)
  where
    late : (j : ℕ) → j < length old → m ≤ j → before_by_level (get_or old j 0) (get_or old m 0) ≡ true → Dec (m < j) → ⊥
    late j s t h (yes g) =
        let p = by_level.earlier (get_or old j 0) (get_or old m 0) h in
        let q = by_level.earlier-at d old w m j g s in
        omega (arith, p.0, q.0, p.1 (omega (arith, p.0, q.0)), q.1 (omega (arith, p.0, q.0)))
    late j s t h (no g) = let e : j ≡ m = omega arith in by_level.earlier-not (get_or old m 0) (by_level.earlier (get_or old m 0) (get_or old m 0) (subst (λ x. before_by_level (get_or old x 0) (get_or old m 0) ≡ true) e h))

-- within a level Z order is by code
same-level-code : (d : ℕ) (keys : List ℕ) → Ascending d keys → (i j : ℕ) → i < j → j < length keys → level_of (get_or keys i 0) ≡ level_of (get_or keys j 0) → code_of (get_or keys i 0) < code_of (get_or keys j 0)
unfolding first size
same-level-code d keys w i j h l e =
    let p = earlier-at d keys w i j h l in
    go (dec_lt (code_of (get_or keys i 0)) (code_of (get_or keys j 0))) p
  where
    go : Dec (code_of (get_or keys i 0) < code_of (get_or keys j 0)) → (first d (get_or keys i 0) ≤ first d (get_or keys j 0)) × (first d (get_or keys i 0) ≡ first d (get_or keys j 0) → level_of (get_or keys i 0) < level_of (get_or keys j 0))
        → code_of (get_or keys i 0) < code_of (get_or keys j 0)
    go (yes s) p = s
    go (no n) p =
        let z : size d (get_or keys i 0) ≡ size d (get_or keys j 0) = ap (λ x. Prim.Native.Nat.◌^◌ 2 (d * Prim.Native.Nat.◌-◌ 16 x)) e in
        let m = native.Mathlib.Nat.mul-le-mul_right {m = code_of (get_or keys j 0)} {n = code_of (get_or keys i 0)} (size d (get_or keys j 0)) (omega arith) in
        let q : first d (get_or keys i 0) ≡ code_of (get_or keys i 0) * size d (get_or keys j 0) = ap (code_of (get_or keys i 0) *◌) z in
        absurd (omega (arith, p.1 (omega (arith, p.0))))

-- node i of the Z order has its old number in the old order
pub renumbered : (d : ℕ) (keys old : List ℕ) → Ascending d keys → by_level.Ascending d old → Arrangement keys old → (i : ℕ) → i < length keys
    → (old_number keys i < length old) × (get_or old (old_number keys i) 0 ≡ get_or keys i 0)
unfolding old_number
renumbered d keys old w v a i l = go (perm-mem keys old a (get_or keys i 0) (i, l, refl))
  where
    parts : count (λ k. before_by_level k (get_or keys i 0)) keys ≡ count (λ k. ltb (level_of k) (level_of (get_or keys i 0))) keys + count (λ k. eqb (level_of k) (level_of (get_or keys i 0)) && ltb (code_of k) (code_of (get_or keys i 0))) keys
    parts = count_add (λ k. before_by_level k (get_or keys i 0)) (λ k. ltb (level_of k) (level_of (get_or keys i 0))) (λ k. eqb (level_of k) (level_of (get_or keys i 0)) && ltb (code_of k) (code_of (get_or keys i 0))) keys
        (λ k m. one k (ltb (level_of k) (level_of (get_or keys i 0))) refl)
      where
        one : (k : ℕ) (b : Bool) → ltb (level_of k) (level_of (get_or keys i 0)) ≡ b
            → bit (b || (eqb (level_of k) (level_of (get_or keys i 0)) && ltb (code_of k) (code_of (get_or keys i 0)))) ≡ bit b + bit (eqb (level_of k) (level_of (get_or keys i 0)) && ltb (code_of k) (code_of (get_or keys i 0)))
        one k true e = rw (ne_eqb (level_of k) (level_of (get_or keys i 0)) (λ q. omega (arith, ltb-true (level_of k) (level_of (get_or keys i 0)) e)))
        one k false e = omega arith

    level : count (λ k. eqb (level_of k) (level_of (get_or keys i 0)) && ltb (code_of k) (code_of (get_or keys i 0))) keys ≡ count (λ k. eqb (level_of k) (level_of (get_or keys i 0))) (take i keys)
    level = count-first (λ k. eqb (level_of k) (level_of (get_or keys i 0)) && ltb (code_of k) (code_of (get_or keys i 0))) (λ k. eqb (level_of k) (level_of (get_or keys i 0))) keys i (omega arith)
        (λ j s t. same_test (eqb (level_of (get_or keys j 0)) (level_of (get_or keys i 0)) && ltb (code_of (get_or keys j 0)) (code_of (get_or keys i 0))) (eqb (level_of (get_or keys j 0)) (level_of (get_or keys i 0)))
        (λ h. and_l _ _ h)
        (λ h. both h (lt-ltb (code_of (get_or keys j 0)) (code_of (get_or keys i 0)) (same-level-code d keys w j i t l (eqb-true (level_of (get_or keys j 0)) (level_of (get_or keys i 0)) h)))))
        (λ j s t. refute (λ h. late j s t (eqb-true (level_of (get_or keys j 0)) (level_of (get_or keys i 0)) (and_l _ _ h)) (ltb-true (code_of (get_or keys j 0)) (code_of (get_or keys i 0)) (and_r (eqb (level_of (get_or keys j 0)) (level_of (get_or keys i 0))) _ h)) (dec_lt i j)))
      where
        late : (j : ℕ) → j < length keys → i ≤ j → level_of (get_or keys j 0) ≡ level_of (get_or keys i 0) → code_of (get_or keys j 0) < code_of (get_or keys i 0) → Dec (i < j) → ⊥
        late j s t e c (yes g) = omega (arith, same-level-code d keys w i j g s (sym e))
        late j s t e c (no g) = let z : j ≡ i = omega arith in omega (arith, ap (λ x. code_of (get_or keys x 0)) z)

    go : Mem (get_or keys i 0) old
        → (count (λ k. ltb (level_of k) (level_of (get_or keys i 0))) keys + count (λ k. eqb (level_of k) (level_of (get_or keys i 0))) (take i keys) < length old)
        × (get_or old (count (λ k. ltb (level_of k) (level_of (get_or keys i 0))) keys + count (λ k. eqb (level_of k) (level_of (get_or keys i 0))) (take i keys)) 0 ≡ get_or keys i 0)
    go (m, lm, e) =
        let n : count (λ k. ltb (level_of k) (level_of (get_or keys i 0))) keys + count (λ k. eqb (level_of k) (level_of (get_or keys i 0))) (take i keys) ≡ m =
        sym (parts ∙ ap (count (λ k. ltb (level_of k) (level_of (get_or keys i 0))) keys +◌) level)
        ∙ perm-count keys old a (λ k. before_by_level k (get_or keys i 0))
        ∙ ap (λ x. count (λ k. before_by_level k x) old) (sym e)
        ∙ old-place d old v m lm in
        (omega arith, ap (λ x. get_or old x 0) n ∙ e)
