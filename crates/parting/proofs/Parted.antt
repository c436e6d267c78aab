-- A cell's sources, dealt by pairs of digits: children in order, and the children of a child that splits.
use mathlib.Core.Path.{◌≡◌, refl, sym, ap, ◌∙◌}
use mathlib.Core.Bool.{Bool, true, false, ◌&&◌, cond}
use mathlib.Core.List.{List, [], ◌∷◌, ◌++◌, append-nil}
use mathlib.Core.Logic.{⊎_elim}
use Prim.Native.Nat.{ℕ, zero, suc, ◌+◌, ◌*◌, ◌-◌, ◌/◌, ◌%◌, ◌^◌, ◌≤◌, ◌<◌}
use native.Mathlib.Omega.{arith}
use native.Mathlib.Nat.{mod-lt}
use lib.Dec.{eqb}
use lib.ListN.{length, get_or}
use lib.Pow.{pow_pos}
use borrow.Author.Tests.{eq-eqb, eqb-true, ne_eqb}
use Rattle.slices.specs.Lists.{filter, range, concat_map}
use Rattle.slices.proofs.Tests.{same_test, clash, both, and_l, and_r, lt-or-le}
use Rattle.slices.proofs.Members.{mem-range}
use Rattle.morton.specs.Keys.{level_of, child, holds}
use Rattle.growth.specs.declared.Rule.{Rule}
use Rattle.growth.specs.Columns.{indices_in}
use Rattle.dealing.specs.Dealt.{of_place, dealt}
use Rattle.parting.specs.Cells.{Points, splitting, within, by_child, child_part, dealt_out}
use Rattle.parting.specs.Parts.{PairsPlaced}
use Rattle.parting.proofs.Joins.{filter_same, filter-twice, concat-same, concat-map, concat-none, concat-cons, range-parts, range_cons, mem-from}
use Rattle.parting.proofs.Digits.{pair_of, pair-many, pair_parts, first_small, second-small, holds-first, holds-pair}

-- c·m + b below m tells c and b
first_of : (a b c e m : ℕ) → b < m → e < m → a * m + b ≡ c * m + e → a ≡ c
first_of a b c e m l k q =
    ⊎_elim
    (λ (h : a < c). absurd (go a b c e m h l q))
    (λ (h : c ≤ a). ⊎_elim (λ (u : c < a). absurd (go c e a b m u k (sym q))) (λ (u : a ≤ c). omega arith) (lt-or-le c a))
    (lt-or-le a c)
  where
    go : (a b c e m : ℕ) → a < c → b < m → a * m + b ≡ c * m + e → ⊥
    go a b c e m h l q = omega (arith, l, q, native.Mathlib.Nat.mul-le-mul_right m h)

-- a number's place is c·m + b: its own where S splits, else the first of its part
module _ (S : ℕ → Bool) (m p₁ p₂ c b to : ℕ) (small : p₂ < m) (few : b < m) (is : to ≡ cond (S p₁) (p₁ * m + p₂) (p₁ * m)) where
  zero-few : 0 < m
  zero-few = omega arith

  differ : (t : Bool) → S p₁ ≡ t → (S c ≡ t → ⊥) → p₁ ≡ c → ⊥
  differ t e n q = n (sym (ap S q) ∙ e)

  at_first : to ≡ p₁ * m → to ≡ c * m + b → p₁ ≡ c
  at_first e q = first_of p₁ 0 c b m zero-few few (let z : p₁ * m + 0 ≡ p₁ * m = omega arith in z ∙ sym e ∙ q)

  place-test : eqb to (c * m + b) ≡ cond (S c) (eqb (p₁ * m + p₂) (c * m + b)) (eqb b 0 && eqb p₁ c)
  place-test = go (S c) refl (S p₁) refl
    where
      go : (t : Bool) → S c ≡ t → (u : Bool) → S p₁ ≡ u → eqb to (c * m + b) ≡ cond t (eqb (p₁ * m + p₂) (c * m + b)) (eqb b 0 && eqb p₁ c)
      go true s true r = ap (λ (n : ℕ). eqb n (c * m + b)) (is ∙ ap (λ (t : Bool). cond t (p₁ * m + p₂) (p₁ * m)) r)
      go true s false r =
          let e : to ≡ p₁ * m = is ∙ ap (λ (t : Bool). cond t (p₁ * m + p₂) (p₁ * m)) r in
          let n : S c ≡ false → ⊥ = λ f. clash s f in
          same_test (eqb to (c * m + b)) (eqb (p₁ * m + p₂) (c * m + b))
          (λ h. absurd (differ false r n (at_first e (eqb-true to (c * m + b) h))))
          (λ h. absurd (differ false r n (first_of p₁ p₂ c b m small few (eqb-true (p₁ * m + p₂) (c * m + b) h))))
      go false s true r =
          let e : to ≡ p₁ * m + p₂ = is ∙ ap (λ (t : Bool). cond t (p₁ * m + p₂) (p₁ * m)) r in
          let n : S c ≡ true → ⊥ = λ f. clash f s in
          same_test (eqb to (c * m + b)) (eqb b 0 && eqb p₁ c)
          (λ h. absurd (differ true r n (first_of p₁ p₂ c b m small few (sym e ∙ eqb-true to (c * m + b) h))))
          (λ h. absurd (differ true r n (eqb-true p₁ c (and_r (eqb b 0) _ h))))
      go false s false r =
          let e : to ≡ p₁ * m = is ∙ ap (λ (t : Bool). cond t (p₁ * m + p₂) (p₁ * m)) r in
          same_test (eqb to (c * m + b)) (eqb b 0 && eqb p₁ c)
          (λ h. let q = eqb-true to (c * m + b) h in let f = at_first e q in
          both (eq-eqb b 0 (let w : p₁ * m ≡ c * m = ap (◌* m) f in omega arith)) (eq-eqb p₁ c f))
          (λ h. eq-eqb to (c * m + b) (let w : p₁ * m ≡ c * m = ap (◌* m) (eqb-true p₁ c (and_r (eqb b 0) _ h)) in omega (arith, eqb-true b 0 (and_l _ _ h))))

none : (xs : List ℕ) → filter (λ _. false) xs ≡ []
unfolding filter
none [] = refl
none (x ∷ xs) = none xs

-- of a list at 0 and nothing else
first_alone : (xs : List ℕ) (n : ℕ) → 0 < n → concat_map (λ b. cond (eqb b 0) xs []) (range 0 n) ≡ xs
first_alone xs zero h = absurd (omega arith)
first_alone xs (suc n) h =
    ap (concat_map (λ b. cond (eqb b 0) xs [])) (range_cons 0 n)
    ∙ concat-cons (λ b. cond (eqb b 0) xs []) 0 (range 1 n)
    ∙ ap (λ (t : List ℕ). xs ++ t) (concat-none (λ b. cond (eqb b 0) xs []) (range 1 n) (λ x i. ap (λ (t : Bool). cond t xs []) (ne_eqb x 0 (λ z. omega (arith, z, mem-from 1 n x i)))))
    ∙ append-nil xs

module _ (g : Rule) (p : Points) (k : ℕ) (l : level_of k ≤ 14) (e : ℕ) (is : e ≡ g.axes * (14 - level_of k)) where
  abbrev d : ℕ
  d = g.axes

  abbrev m : ℕ
  m = 2 ^ g.axes

  abbrev code : ℕ → ℕ
  code i = get_or p.sources i 0

  -- the sources with a pair of digits are those of a child's child
  pub of_pair : (c b : ℕ) → c < m → b < m → of_place (λ i. pair_of d e (code i)) (c * m + b) (within g p k) ≡ within g p (child d (child d k c) b)
  unfolding indices_in
  of_pair c b hc hb =
      filter-twice (λ i. eqb (pair_of d e (code i)) (c * m + b)) (λ i. holds d k (code i)) (range 0 (length p.sources))
      ∙ filter_same (λ i. holds d k (code i) && eqb (pair_of d e (code i)) (c * m + b)) (λ i. holds d (child d (child d k c) b) (code i)) (range 0 (length p.sources))
      (λ i _. sym (holds-pair d k l e is c b hc hb (code i)))

  -- those with a first digit are those of a child
  pub of-first : (c : ℕ) → c < m → filter (λ i. eqb (pair_of d e (code i) / m) c) (within g p k) ≡ within g p (child d k c)
  unfolding indices_in
  of-first c hc =
      filter-twice (λ i. eqb (pair_of d e (code i) / m) c) (λ i. holds d k (code i)) (range 0 (length p.sources))
      ∙ filter_same (λ i. holds d k (code i) && eqb (pair_of d e (code i) / m) c) (λ i. holds d (child d k c) (code i)) (range 0 (length p.sources))
      (λ i _. sym (holds-first d k l e is c hc (code i)))

  module _ (to : List ℕ) (placed : PairsPlaced g p k to) where
    abbrev place : ℕ → ℕ
    place i = get_or to (pair_of d e (code i)) 0

    place_is : (x c b : ℕ) → b < m → eqb (get_or to (pair_of d e x) 0) (c * m + b) ≡ cond (splitting g p (child d k c)) (eqb (pair_of d e x) (c * m + b)) (eqb b 0 && eqb (pair_of d e x / m) c)
    place_is x c b hb =
        place-test (λ j. splitting g p (child d k j)) m (pair_of d e x / m) (pair_of d e x % m) c b (get_or to (pair_of d e x) 0) (second-small d e x) hb
        (ap (λ (n : ℕ). get_or to n 0) (pair_parts d e x) ∙ placed.places (pair_of d e x / m) (pair_of d e x % m) (first_small d e x) (second-small d e x))
        ∙ ap (λ (n : ℕ). cond (splitting g p (child d k c)) (eqb n (c * m + b)) (eqb b 0 && eqb (pair_of d e x / m) c)) (sym (pair_parts d e x))

    -- what one place has
    of-place : (c b : ℕ) → c < m → b < m
        → of_place place (c * m + b) (within g p k) ≡ cond (splitting g p (child d k c)) (within g p (child d (child d k c) b)) (cond (eqb b 0) (within g p (child d k c)) [])
    of-place c b hc hb =
        filter_same (λ i. eqb (place i) (c * m + b)) (λ i. cond (splitting g p (child d k c)) (eqb (pair_of d e (code i)) (c * m + b)) (eqb b 0 && eqb (pair_of d e (code i) / m) c)) (within g p k) (λ i _. place_is (code i) c b hb)
        ∙ go (splitting g p (child d k c)) (eqb b 0)
      where
        go : (t u : Bool) → filter (λ i. cond t (eqb (pair_of d e (code i)) (c * m + b)) (u && eqb (pair_of d e (code i) / m) c)) (within g p k) ≡ cond t (within g p (child d (child d k c) b)) (cond u (within g p (child d k c)) [])
        go true u = of_pair c b hc hb
        go false true = of-first c hc
        go false false = none (within g p k)

    -- what the places of one child have
    of-child : (c : ℕ) → c < m → concat_map (λ b. of_place place (c * m + b) (within g p k)) (range 0 m) ≡ child_part g p (child d k c)
    of-child c hc =
        concat-same (λ b. of_place place (c * m + b) (within g p k)) (λ b. cond (splitting g p (child d k c)) (within g p (child d (child d k c) b)) (cond (eqb b 0) (within g p (child d k c)) [])) (range 0 m)
        (λ b i. of-place c b hc (mem-range m b i))
        ∙ go (splitting g p (child d k c))
      where
        go : (t : Bool) → concat_map (λ b. cond t (within g p (child d (child d k c) b)) (cond (eqb b 0) (within g p (child d k c)) [])) (range 0 m) ≡ cond t (by_child g p (child d k c)) (within g p (child d k c))
        go true = sym (concat-map (within g p) (child d (child d k c)) (range 0 m))
        go false = first_alone (within g p (child d k c)) m (pow_pos d)

    -- the sources of the cell, dealt to the places of their pairs
    pub parted : dealt place (2 ^ (2 * d)) (within g p k) ≡ dealt_out g p k
    unfolding dealt dealt_out
    parted =
        ap (λ (n : ℕ). concat_map (λ b. of_place place b (within g p k)) (range 0 n)) (pair-many d e 0)
        ∙ range-parts (λ b. of_place place b (within g p k)) m m
        ∙ concat-same (λ c. concat_map (λ b. of_place place (c * m + b) (within g p k)) (range 0 m)) (λ c. child_part g p (child d k c)) (range 0 m) (λ c i. of-child c (mem-range m c i))
        ∙ sym (concat-map (child_part g p) (child d k) (range 0 m))
