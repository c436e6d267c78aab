-- The walk depth first: from each cell the next, and all cells in the end.
use mathlib.Core.Path.{◌≡◌, refl, sym, ap, ap₂, ◌∙◌, subst}
use mathlib.Core.Bool.{Bool, true, false, cond}
use mathlib.Core.List.{List, [], ◌∷◌, ◌++◌, map, append_assoc, append-nil}
use mathlib.Core.Logic.{◌⊎◌, inl, inr}
use Prim.Native.Nat.{ℕ, zero, suc, ◌+◌, ◌*◌, ◌-◌, ◌/◌, ◌%◌, ◌^◌, ◌≤◌, ◌<◌, min}
use native.Mathlib.Omega.{arith}
use lib.Dec.{ltb, eqb}
use lib.Pow.{pow-add, pow_pos, pow_mono, low, high, shr_le}
use lib.ListN.{length, get_or, take, set, length-append, length-set}
use lib.Seq.{take-suc-set, take_all, length-take-le}
use borrow.Author.Tests.{ltb-true, ltb-false, lt-ltb, le-ltb, eqb-true, eq-eqb, ne_eqb}
use Rattle.slices.specs.Lists.{range, concat_map}
use Rattle.slices.proofs.Tests.{clash, lt-or-le}
use Rattle.morton.specs.Keys.{key, level_of, code_of, ValidKey, child, children}
use Rattle.morton.proofs.Cells.{key-level, key-code, key-parts}
use Rattle.morton.proofs.Arithmetic.{child-valid, one_shifted, code-48}
use Rattle.tree.specs.Finding.{TreeKeys}
use Rattle.balance.specs.Balance.{Tree}
use Rattle.balance.specs.Splitting.{must_split, cells_from, balanced_cells}
use Rattle.balance.proofs.Balance.{tree_of}
use Rattle.balance.proofs.Wanted.{must-shallow}
use Rattle.balancing.specs.Walk.{next_after, next_cell, Put}

-- ---- numbers

axes-are : (d : ℕ) → 1 ≤ d → d ≤ 3 → (2 ^ d ≡ 2) ⊎ ((2 ^ d ≡ 4) ⊎ (2 ^ d ≡ 8))
axes-are zero p q = absurd (omega arith)
axes-are (suc zero) p q = inl refl
axes-are (suc (suc zero)) p q = inr (inl refl)
axes-are (suc (suc (suc zero))) p q = inr (inr refl)
axes-are (suc (suc (suc (suc d)))) p q = absurd (omega arith)

-- the next sibling has the same parent, and the last none
sibling-parts : (m c : ℕ) → (m ≡ 2) ⊎ ((m ≡ 4) ⊎ (m ≡ 8)) → c % m + 1 < m → ((c + 1) % m ≡ c % m + 1) × ((c + 1) / m ≡ c / m)
sibling-parts m c (inl e) h = rw e (omega (arith, rw e at h), omega (arith, rw e at h))
sibling-parts m c (inr (inl e)) h = rw e (omega (arith, rw e at h), omega (arith, rw e at h))
sibling-parts m c (inr (inr e)) h = rw e (omega (arith, rw e at h), omega (arith, rw e at h))

last-part : (m c : ℕ) → (m ≡ 2) ⊎ ((m ≡ 4) ⊎ (m ≡ 8)) → m ≤ c % m + 1 → m - (c % m + 1) ≡ 0
last-part m c s h = omega arith

sibling-small : (m c n : ℕ) → (m ≡ 2) ⊎ ((m ≡ 4) ⊎ (m ≡ 8)) → c < m * n → (c / m < n) × (c % m + 1 < m → c + 1 < m * n)
sibling-small m c n (inl e) h = rw e (omega (arith, rw e at h), λ q. omega (arith, rw e at h))
sibling-small m c n (inr (inl e)) h = rw e (omega (arith, rw e at h), λ q. omega (arith, rw e at h))
sibling-small m c n (inr (inr e)) h = rw e (omega (arith, rw e at h), λ q. omega (arith, rw e at h))

pow_more : (d l : ℕ) → 2 ^ (d * suc l) ≡ 2 ^ d * 2 ^ (d * l)
pow_more d l = let e : d * suc l ≡ d + d * l = omega arith in ap (λ (n : ℕ). 2 ^ n) e ∙ pow-add 2 d (d * l)

-- ---- the next cell is valid, or 0

pub record Step (d level code : ℕ) : Type 0 where
  pub some : 1 ≤ d
  pub most : d ≤ 3
  pub deep : level ≤ 16
  pub fits : code < 2 ^ (d * level)

pub step_of : (d k : ℕ) → ValidKey d k → Step d (level_of k) (code_of k)
step_of d k v = record { some = v.some; most = v.most; deep = v.level; fits = v.code }

pub root-valid : (d : ℕ) → 1 ≤ d → d ≤ 3 → ValidKey d 0
root-valid d p q = record { some = p; most = q; level = omega arith; code = omega (arith, pow_pos (d * 0)) }

pub step-up : (d l c : ℕ) → Step d (suc l) c → Step d l (c / 2 ^ d)
step-up d l c s = record {
  some = s.some;
  most = s.most;
  deep = omega (arith, s.deep);
  fits = (sibling-small (2 ^ d) c (2 ^ (d * l)) (axes-are d s.some s.most) (rw pow_more at s.fits)).0;
}

pub sibling-valid : (d l c : ℕ) → Step d (suc l) c → c % 2 ^ d + 1 < 2 ^ d → ValidKey d (key (suc l) (c + 1))
sibling-valid d l c s h =
    let lk : level_of (key (suc l) (c + 1)) ≡ suc l = key-level (suc l) (c + 1) (omega (arith, s.deep)) in
    let ck : code_of (key (suc l) (c + 1)) ≡ c + 1 = key-code (suc l) (c + 1) (omega (arith, s.deep)) in
    let f : c + 1 < 2 ^ (d * suc l) = rw pow_more ((sibling-small (2 ^ d) c (2 ^ (d * l)) (axes-are d s.some s.most) (rw pow_more at s.fits)).1 h) in
    record { some = s.some; most = s.most; level = omega (arith, s.deep); code = rw (lk, ck) f }

after-valid : (d l c : ℕ) → Step d l c → ValidKey d (next_after d l c)
unfolding next_after
after-valid d zero c s = root-valid d s.some s.most
after-valid d (suc l) c s = go (ltb (c % 2 ^ d + 1) (2 ^ d)) refl (after-valid d l (c / 2 ^ d))
  where
    go : (b : Bool) → ltb (c % 2 ^ d + 1) (2 ^ d) ≡ b → (Step d l (c / 2 ^ d) → ValidKey d (next_after d l (c / 2 ^ d)))
        → ValidKey d (cond b (key (suc l) (c + 1)) (next_after d l (c / 2 ^ d)))
    go true e rest = sibling-valid d l c s (ltb-true (c % 2 ^ d + 1) (2 ^ d) e)
    go false e rest = rest (step-up d l c s)

-- as the code goes up
pub after-here : (d l m c : ℕ) → l ≡ suc m → c % 2 ^ d + 1 < 2 ^ d → key l (c + 1) ≡ next_after d l c
unfolding next_after
after-here d l m c e h = rw e (rw (lt-ltb (c % 2 ^ d + 1) (2 ^ d) h))

pub after-up : (d l m c : ℕ) → l ≡ suc m → 2 ^ d ≤ c % 2 ^ d + 1 → next_after d m (c / 2 ^ d) ≡ next_after d l c
unfolding next_after
after-up d l m c e h = rw e (rw (le-ltb (c % 2 ^ d + 1) (2 ^ d) h))

pub after-root : (d l c : ℕ) → l ≤ 0 → 0 ≡ next_after d l c
unfolding next_after
after-root d l c h = let e : l ≡ 0 = omega arith in rw e

-- the climb to a cell with a next sibling
pub record Climbing (d k level code : ℕ) : Type 0 where
  pub step : Step d level code
  pub small : code < 2 ^ 48
  pub same : next_after d level code ≡ next_after d (level_of k) (code_of k)

pub many_is : (d : ℕ) → d ≤ 3 → 1 * 2 ^ d % 2 ^ 64 ≡ 2 ^ d
many_is d h = one_shifted d (omega arith)

pub many-some : (d : ℕ) → d ≤ 3 → (0 < 2 ^ d) × (2 ^ d ≤ 8)
many-some d h = (pow_pos d, pow_mono {i = d} {j = 3} h)

pub climb-start : (d k : ℕ) → ValidKey d k → Climbing d k (level_of k) (code_of k)
climb-start d k v = record { step = step_of d k v; small = code-48 d k v; same = refl }

module _ (d k level code : ℕ) (w : Climbing d k level code) where
  pub climb-fits : (level ≤ 16) × (code < 281474976710656)
  climb-fits = (w.step.deep, w.small)

  module _ (h : 0 < level) where
    down : level ≡ suc (level - 1)
    down = omega arith

    pub climb-here : (m : ℕ) → m ≡ 2 ^ d → code % m + 1 < m → key level (code + 1) ≡ next_after d (level_of k) (code_of k)
    climb-here m e l = after-here d level (level - 1) code down (rw e at l) ∙ w.same

    pub climb-up : (m : ℕ) → m ≡ 2 ^ d → m ≤ code % m + 1 → Climbing d k (level - 1) (code / 2 ^ d)
    climb-up m e l = record {
      step = step-up d (level - 1) code (subst (λ (n : ℕ). Step d n code) down w.step);
      small = omega (arith, shr_le code d, w.small);
      same = after-up d level (level - 1) code down (rw e at l) ∙ w.same;
    }

  pub climb-root : level ≤ 0 → 0 ≡ next_after d (level_of k) (code_of k)
  climb-root l = after-root d level code l ∙ w.same

-- ---- what is still to come

first_of : (a n m : ℕ) → n ≡ suc m → range a n ≡ a ∷ range (a + 1) m
unfolding range
first_of a n m e = let q : a + 1 ≡ suc a = omega arith in rw (e, q)

range_none : (a n : ℕ) → n ≡ 0 → range a n ≡ []
unfolding range
range_none a n e = rw e

joined : (f : ℕ → List ℕ) (x : ℕ) (xs ys : List ℕ) → concat_map f (x ∷ xs) ++ ys ≡ f x ++ (concat_map f xs ++ ys)
unfolding concat_map
joined f x xs ys = append_assoc (f x) (concat_map f xs) ys

none-joined : (f : ℕ → List ℕ) (ys : List ℕ) → concat_map f [] ++ ys ≡ ys
unfolding concat_map
none-joined f ys = refl

-- the same numbers, from another place on
range-shift : (f : ℕ → ℕ) (b a n : ℕ) → map (λ i. f (b + i)) (range a n) ≡ map f (range (b + a) n)
unfolding range
range-shift f b a zero = refl
range-shift f b a (suc n) = let q : b + suc a ≡ suc (b + a) = omega arith in ap (λ (xs : List ℕ). f (b + a) ∷ xs) (range-shift f b (suc a) n ∙ ap (λ (m : ℕ). map f (range m n)) q)

module _ (d : ℕ) (keys : List ℕ) where
  -- the cells after one of this level and code and all below it
  later : ℕ → ℕ → List ℕ
  later zero c = []
  later (suc l) c = concat_map (cells_from d keys (16 - suc l)) (map (key (suc l)) (range (c + 1) (2 ^ d - (c % 2 ^ d + 1)))) ++ later l (c / 2 ^ d)

  -- the cells from cell k on; none from 0 on, which is never next
  pub onward : ℕ → List ℕ
  onward k = cells_from d keys (16 - level_of k) k ++ later (level_of k) (code_of k)

  pub starting : ℕ → List ℕ
  starting k = cond (eqb k 0) [] (onward k)

  siblings-next : (l c : ℕ) → Step d (suc l) c → c % 2 ^ d + 1 < 2 ^ d → later (suc l) c ≡ starting (key (suc l) (c + 1))
  unfolding later starting onward
  siblings-next l c s h =
      let lk : level_of (key (suc l) (c + 1)) ≡ suc l = key-level (suc l) (c + 1) (omega (arith, s.deep)) in
      let ck : code_of (key (suc l) (c + 1)) ≡ c + 1 = key-code (suc l) (c + 1) (omega (arith, s.deep)) in
      let nz : eqb (key (suc l) (c + 1)) 0 ≡ false = ne_eqb (key (suc l) (c + 1)) 0 (λ z. omega arith) in
      ap (λ (xs : List ℕ). concat_map (cells_from d keys (16 - suc l)) (map (key (suc l)) xs) ++ later l (c / 2 ^ d)) (first_of (c + 1) (2 ^ d - (c % 2 ^ d + 1)) (2 ^ d - ((c + 1) % 2 ^ d + 1)) (omega (arith, parts.0)))
      ∙ joined (cells_from d keys (16 - suc l)) (key (suc l) (c + 1)) (map (key (suc l)) (range (c + 1 + 1) (2 ^ d - ((c + 1) % 2 ^ d + 1)))) (later l (c / 2 ^ d))
      ∙ ap (λ (n : ℕ). cells_from d keys (16 - suc l) (key (suc l) (c + 1)) ++ (concat_map (cells_from d keys (16 - suc l)) (map (key (suc l)) (range (c + 1 + 1) (2 ^ d - ((c + 1) % 2 ^ d + 1)))) ++ later l n)) (sym parts.1)
      ∙ sym (ap (λ (b : Bool). cond b [] (onward (key (suc l) (c + 1)))) nz ∙ ap₂ (λ (m n : ℕ). cells_from d keys (16 - m) (key (suc l) (c + 1)) ++ later m n) lk ck)
    where
      parts : ((c + 1) % 2 ^ d ≡ c % 2 ^ d + 1) × ((c + 1) / 2 ^ d ≡ c / 2 ^ d)
      parts = sibling-parts (2 ^ d) c (axes-are d s.some s.most) h

  siblings-none : (l c : ℕ) → 2 ^ d ≤ c % 2 ^ d + 1 → later (suc l) c ≡ later l (c / 2 ^ d)
  unfolding later
  siblings-none l c h =
      ap (λ (xs : List ℕ). concat_map (cells_from d keys (16 - suc l)) (map (key (suc l)) xs) ++ later l (c / 2 ^ d)) (range_none (c + 1) (2 ^ d - (c % 2 ^ d + 1)) (omega arith))
      ∙ none-joined (cells_from d keys (16 - suc l)) (later l (c / 2 ^ d))

  -- what comes after a cell is what the next one starts
  later-next : (l c : ℕ) → Step d l c → later l c ≡ starting (next_after d l c)
  unfolding next_after later starting
  later-next zero c s = refl
  later-next (suc l) c s = go (ltb (c % 2 ^ d + 1) (2 ^ d)) refl (later-next l (c / 2 ^ d))
    where
      go : (b : Bool) → ltb (c % 2 ^ d + 1) (2 ^ d) ≡ b → (Step d l (c / 2 ^ d) → later l (c / 2 ^ d) ≡ starting (next_after d l (c / 2 ^ d)))
          → later (suc l) c ≡ starting (cond b (key (suc l) (c + 1)) (next_after d l (c / 2 ^ d)))
      go true e rest = siblings-next l c s (ltb-true (c % 2 ^ d + 1) (2 ^ d) e)
      go false e rest = siblings-none l c (ltb-false (c % 2 ^ d + 1) (2 ^ d) e) ∙ rest (step-up d l c s)

  onward-is : (k : ℕ) → onward k ≡ cells_from d keys (16 - level_of k) k ++ later (level_of k) (code_of k)
  unfolding onward
  onward-is k = refl

  -- ---- a cell that must be split, and one that need not be

  split-cells : (n k : ℕ) → must_split d keys k ≡ true → cells_from d keys (suc n) k ≡ k ∷ concat_map (cells_from d keys n) (children d k)
  unfolding cells_from
  split-cells n k h = rw h

  whole_cells : (n k : ℕ) → must_split d keys k ≡ false → cells_from d keys n k ≡ k ∷ []
  unfolding cells_from
  whole_cells zero k h = refl
  whole_cells (suc n) k h = rw h

  -- the children of k, listed, and what comes after k
  children-next : (k : ℕ) → ValidKey d k → level_of k < 16 → concat_map (cells_from d keys (15 - level_of k)) (children d k) ++ later (level_of k) (code_of k) ≡ starting (child d k 0)
  unfolding later starting onward
  children-next k v h =
      let lk : level_of (child d k 0) ≡ suc (level_of k) = key-level (level_of k + 1) (code_of k * 2 ^ d + 0) (omega arith) ∙ omega arith in
      let ck : code_of (child d k 0) ≡ code_of k * 2 ^ d + 0 = key-code (level_of k + 1) (code_of k * 2 ^ d + 0) (omega arith) in
      let nz : eqb (child d k 0) 0 ≡ false = ne_eqb (child d k 0) 0 (λ z. omega (arith, ap level_of z)) in
      let m : 16 - suc (level_of k) ≡ 15 - level_of k = omega arith in
      let r : (code_of k * 2 ^ d + 0) % 2 ^ d ≡ 0 = low (code_of k) d (pow_pos d) in
      let q : (code_of k * 2 ^ d + 0) / 2 ^ d ≡ code_of k = high (code_of k) d (pow_pos d) in
      let p : 2 ^ d ≡ suc (2 ^ d - (0 + 1)) = omega (arith, pow_pos d) in
      let s : level_of k + 1 ≡ suc (level_of k) = omega arith in
      ap (λ (xs : List ℕ). concat_map (cells_from d keys (15 - level_of k)) (map (child d k) xs) ++ later (level_of k) (code_of k)) (first_of 0 (2 ^ d) (2 ^ d - (0 + 1)) p)
      ∙ joined (cells_from d keys (15 - level_of k)) (child d k 0) (map (child d k) (range (0 + 1) (2 ^ d - (0 + 1)))) (later (level_of k) (code_of k))
      ∙ ap (λ (xs : List ℕ). cells_from d keys (15 - level_of k) (child d k 0) ++ (concat_map (cells_from d keys (15 - level_of k)) xs ++ later (level_of k) (code_of k)))
      (range-shift (key (level_of k + 1)) (code_of k * 2 ^ d) 1 (2 ^ d - (0 + 1)))
      ∙ ap₂ (λ (a b : ℕ). cells_from d keys a (child d k 0) ++ (concat_map (cells_from d keys a) (map (key b) (range (code_of k * 2 ^ d + 1) (2 ^ d - (0 + 1)))) ++ later (level_of k) (code_of k))) (sym m) s
      ∙ ap₂ (λ (a b : ℕ). cells_from d keys (16 - suc (level_of k)) (child d k 0) ++ (concat_map (cells_from d keys (16 - suc (level_of k))) (map (key (suc (level_of k))) (range (code_of k * 2 ^ d + 1) (2 ^ d - (a + 1)))) ++ later (level_of k) b)) (sym r) (sym q)
      ∙ ap (λ (e : ℕ). cells_from d keys (16 - suc (level_of k)) (child d k 0) ++ (concat_map (cells_from d keys (16 - suc (level_of k))) (map (key (suc (level_of k))) (range e (2 ^ d - ((code_of k * 2 ^ d + 0) % 2 ^ d + 1)))) ++ later (level_of k) ((code_of k * 2 ^ d + 0) / 2 ^ d))) (plus_one (code_of k * 2 ^ d))
      ∙ sym (ap (λ (b : Bool). cond b [] (onward (child d k 0))) nz ∙ ap₂ (λ (m n : ℕ). cells_from d keys (16 - m) (child d k 0) ++ later m n) lk ck)
    where
      plus_one : (x : ℕ) → x + 1 ≡ x + 0 + 1
      plus_one x = omega arith

  module _ (k : ℕ) (tk : TreeKeys d keys) (v : ValidKey d k) where
    -- from a cell on: the cell, then all from the next on
    pub onward-next : onward k ≡ k ∷ starting (next_cell d keys k)
    onward-next = go (must_split d keys k) refl
      where
        go : (b : Bool) → must_split d keys k ≡ b → onward k ≡ k ∷ starting (cond b (child d k 0) (next_after d (level_of k) (code_of k)))
        go true e =
            let l = must-shallow d keys (tree_of d keys tk) k e in
            let n : 16 - level_of k ≡ suc (15 - level_of k) = omega arith in
            onward-is k
            ∙ ap (λ (m : ℕ). cells_from d keys m k ++ later (level_of k) (code_of k)) n
            ∙ ap (λ (xs : List ℕ). xs ++ later (level_of k) (code_of k)) (split-cells (15 - level_of k) k e)
            ∙ ap (λ (xs : List ℕ). k ∷ xs) (children-next k v l)
        go false e =
            onward-is k
            ∙ ap (λ (xs : List ℕ). xs ++ later (level_of k) (code_of k)) (whole_cells (16 - level_of k) k e)
            ∙ ap (λ (xs : List ℕ). k ∷ xs) (later-next (level_of k) (code_of k) (step_of d k v))

    module _ (b : Bool) (e : b ≡ must_split d keys k) (x : ℕ) where
      pub next-shallow : b ≡ true → level_of k < 16
      next-shallow h = must-shallow d keys (tree_of d keys tk) k (sym e ∙ h)

      pub next-first : b ≡ true → x ≡ child d k 0 → (x ≡ next_cell d keys k) × ValidKey d x
      next-first h q = (q ∙ sym (ap (λ (s : Bool). cond s (child d k 0) (next_after d (level_of k) (code_of k))) (sym e ∙ h)), rw q (child-valid d k v (next-shallow h) 0 (pow_pos d)))

      pub next-later : b ≡ false → x ≡ next_after d (level_of k) (code_of k) → (x ≡ next_cell d keys k) × ValidKey d x
      next-later h q = (q ∙ sym (ap (λ (s : Bool). cond s (child d k 0) (next_after d (level_of k) (code_of k))) (sym e ∙ h)), rw q (after-valid d (level_of k) (code_of k) (step_of d k v)))

  all-cells : balanced_cells d keys ≡ onward 0
  unfolding balanced_cells onward later
  all-cells = sym (append-nil (cells_from d keys 16 0))

  -- ---- the walk

  pub keys-root : TreeKeys d keys → ValidKey d 0
  keys-root tk = let v = (tree_of d keys tk).sound 0 (tree_of d keys tk).root in v

  pub record Walked (room : ℕ) (out : List ℕ) (n k : ℕ) : Type 0 where
    pub fits : n ≤ room
    pub within : room ≤ length out
    pub good : ValidKey d k
    pub cells : take n out ++ starting k ≡ balanced_cells d keys

  pub walk_start : (room : ℕ) (out : List ℕ) (k : ℕ) → TreeKeys d keys → ValidKey d 0 → 1 ≤ room → room ≤ length out → (k ≡ next_cell d keys 0) × ValidKey d k → Walked room (set out 0 0) 1 k
  walk_start room out k tk v h l (e, vk) = record {
    fits = h;
    within = omega (arith, length-set out 0 0);
    good = vk;
    cells = ap (λ (xs : List ℕ). xs ++ starting k) (take-suc-set out 0 0 (omega arith)) ∙ ap (λ (x : ℕ). 0 ∷ starting x) e ∙ sym (all-cells ∙ onward-next 0 tk v);
  }

  starts : (k : ℕ) → 0 < k → starting k ≡ onward k
  unfolding starting
  starts k h = rw (ne_eqb k 0 (λ z. omega arith))

  module _ (room : ℕ) (out : List ℕ) (n k : ℕ) (tk : TreeKeys d keys) (w : Walked room out n k) (h : 0 < k) where
    here : balanced_cells d keys ≡ take n out ++ (k ∷ starting (next_cell d keys k))
    here = sym w.cells ∙ ap (λ (xs : List ℕ). take n out ++ xs) (starts k h ∙ onward-next k tk w.good)

    pub walk-full : room ≤ n → Put d keys room (room + 1) out
    walk-full l = record {
      counted = omega (arith, ap length here, length-append (take n out) (k ∷ starting (next_cell d keys k)), length-take-le n out (omega (arith, w.fits, w.within)));
      written = λ q. absurd (omega arith);
    }

    pub walk_more : n < room → (j : ℕ) → (j ≡ next_cell d keys k) × ValidKey d j → Walked room (set out n k) (n + 1) j
    walk_more l j (e, vj) =
        let q : n + 1 ≡ suc n = omega arith in
        record {
          fits = omega arith;
          within = omega (arith, w.within, length-set out n k);
          good = vj;
          cells = ap (λ (m : ℕ). take m (set out n k) ++ starting j) q
              ∙ ap (λ (xs : List ℕ). xs ++ starting j) (take-suc-set out n k (omega (arith, w.within)))
              ∙ append_assoc (take n out) (k ∷ []) (starting j)
              ∙ ap (λ (x : ℕ). take n out ++ (k ∷ starting x)) e
              ∙ sym here;
        }

  pub walk-done : (room : ℕ) (out : List ℕ) (n k : ℕ) → Walked room out n k → k ≤ 0 → Put d keys room n out
  unfolding starting
  walk-done room out n k w h =
      let z : k ≡ 0 = omega arith in
      let all : take n out ≡ balanced_cells d keys = sym (append-nil (take n out)) ∙ ap (λ (x : ℕ). take n out ++ cond (eqb x 0) [] (onward x)) (sym z) ∙ w.cells in
      record {
        counted = omega (arith, ap length all, length-take-le n out (omega (arith, w.fits, w.within)), w.fits);
        written = λ _. all;
      }

  pub walk_none : (out : List ℕ) (room : ℕ) → TreeKeys d keys → ValidKey d 0 → room < 1 → Put d keys room (room + 1) out
  walk_none out room tk v h = record {
    counted = omega (arith, ap length (all-cells ∙ onward-next 0 tk v));
    written = λ q. absurd (omega arith);
  }

  -- what is left to walk falls
  pub left-falls : (room : ℕ) (out : List ℕ) (n k j : ℕ) → TreeKeys d keys → Walked room out n k → 0 < k → j ≡ next_cell d keys k → length (starting j) < length (starting k)
  left-falls room out n k j tk w h e = omega (arith, ap length (starts k h ∙ onward-next k tk w.good), ap (λ (x : ℕ). length (starting x)) e)
