-- Rows handed in flat, with their starts: where they pass the checks they are the tree's, to the last entry, and the tree's pass.
use mathlib.Core.Path.{◌≡◌, refl, sym, ap, ap₂, ◌∙◌, subst}
use mathlib.Core.Bool.{Bool, true, false, ◌&&◌}
use mathlib.Core.List.{List, [], ◌∷◌, ◌++◌, append-nil}
use mathlib.Core.Logic.{◌⊎◌, inl, inr, ◌↔◌}
use Prim.Native.Nat.{ℕ, zero, suc, ◌+◌, ◌-◌, ◌≤◌, ◌<◌, suc-le-suc, zero-le}
use native.Mathlib.Omega.{arith}
use native.Mathlib.Nat.{sub-zero, eq-or-lt_of_le, not-suc-le-zero, le_of_suc-le-suc}
use borrow.Author.Tests.{eqb-true, eq-eqb}
use lib.Dec.{eqb}
use lib.ListN.{length, get_or, take, drop, length-append, length-drop, take-append-drop}
use lib.Seq.{drop-drop, length-take-le}
use Rattle.slices.specs.Lists.{concat_map, Mem, Distinct}
use Rattle.slices.proofs.Tests.{and_l, and_r, both, clash}
use Rattle.tree.specs.WellFormed.{formed}
use Rattle.rows.specs.Lists.{u_row, v_row}
use Rattle.rows.specs.Written.{starts_from, row_starts, row_keys, row_at, row_of, Gives, Written}
use Rattle.tree.proofs.Leaves.{place_is}
use Rattle.rows.proofs.Agree.{gives-written}
use Rattle.sums.specs.Right.{StartsRight, ListsRight, Flat, same, lists_are}
use Rattle.sums.proofs.Facts.{Tree, tree-facts}
use Rattle.sums.proofs.Right.{lists-right, right-passes}

-- ---- one list
pub same_true : (xs ys : List ℕ) → same xs ys ≡ true → xs ≡ ys
unfolding same
same_true [] [] h = refl
same_true [] (y ∷ ys) h = absurd (clash h refl)
same_true (x ∷ xs) [] h = absurd (clash h refl)
same_true (x ∷ xs) (y ∷ ys) h = ap₂ (λ (a : ℕ) (l : List ℕ). a ∷ l) (eqb-true x y (and_l _ _ h)) (same_true xs ys (and_r (eqb x y) _ h))

same_self : (xs : List ℕ) → same xs xs ≡ true
unfolding same
same_self [] = refl
same_self (x ∷ xs) = both (eq-eqb x x refl) (same_self xs)

pub true_same : (xs ys : List ℕ) → xs ≡ ys → same xs ys ≡ true
true_same xs ys e = subst (λ l. same xs l ≡ true) e (same_self xs)

-- ---- from the checks

nil : (l : List ℕ) → length l ≡ 0 → l ≡ []
nil [] e = refl
nil (x ∷ l) e = absurd (omega arith)

-- starts that do not fall
module _ (starts : List ℕ) (n : ℕ) (rises : (i : ℕ) → i < n → get_or starts i 0 ≤ get_or starts (suc i) 0) where
  pub climbs : (i j : ℕ) → i ≤ j → j ≤ n → get_or starts i 0 ≤ get_or starts j 0
  climbs i zero h l = let e : i ≡ 0 = omega arith in rw e (omega arith)
  climbs i (suc j) h l = go (eq-or-lt_of_le h) (λ g. climbs i j g (omega arith))
    where
      go : (i ≡ suc j) ⊎ (i < suc j) → (i ≤ j → get_or starts i 0 ≤ get_or starts j 0) → get_or starts i 0 ≤ get_or starts (suc j) 0
      go (inl e) ih = rw e (omega arith)
      go (inr g) ih = omega (arith, ih (omega arith), rises j (omega arith))

flat-from : (row : ℕ → List ℕ) (keys starts flat : List ℕ) (a : ℕ) → length starts ≡ suc (length keys) → get_or starts 0 0 ≡ a
    → ((i : ℕ) → i < length keys → get_or starts i 0 ≤ get_or starts (suc i) 0) → get_or starts (length keys) 0 ≡ a + length flat
    → ((i : ℕ) → i < length keys → take (get_or starts (suc i) 0 - get_or starts i 0) (drop (get_or starts i 0 - a) flat) ≡ row (get_or keys i 0))
    → (starts ≡ starts_from a row keys) × (flat ≡ concat_map row keys)
unfolding starts_from concat_map
flat-from row [] [] flat a n f r l at = absurd (omega arith)
flat-from row [] (s ∷ t ∷ ss) flat a n f r l at = absurd (omega arith)
flat-from row [] (s ∷ []) flat a n f r l at = (ap (◌∷ []) f, nil flat (omega arith))
flat-from row (k ∷ ks) [] flat a n f r l at = absurd (omega arith)
flat-from row (k ∷ ks) (s ∷ []) flat a n f r l at = absurd (omega arith)
flat-from row (k ∷ ks) (s ∷ t ∷ ss) flat a n f r l at =
    let up : s ≤ t = r 0 (omega arith) in
    let m = t - s in
    let top = climbs (s ∷ t ∷ ss) (suc (length ks)) r 1 (suc (length ks)) (omega arith) (omega arith) in
    let z : s - a ≡ 0 = omega arith in
    let here : take m flat ≡ row k = ap (λ x. take m (drop x flat)) (sym z) ∙ at 0 (omega arith) in
    let fits : m ≤ length flat = omega arith in
    let size : length (row k) ≡ m = ap length (sym here) ∙ length-take-le m flat fits in
    let begins : a + length (row k) ≡ t = omega arith in
    let ih = flat-from row ks (t ∷ ss) (drop m flat) t (omega arith) refl (λ i h. r (suc i) (suc-le-suc h)) (omega (arith, length-drop m flat))
    (λ i h. ap (take (get_or (t ∷ ss) (suc i) 0 - get_or (t ∷ ss) i 0)) (drop-drop (get_or (t ∷ ss) i 0 - t) m flat ∙ ap (λ x. drop x flat) (further i h up)) ∙ at (suc i) (suc-le-suc h)) in (
      ap₂ (λ (x : ℕ) (l : List ℕ). x ∷ l) f (ih.0 ∙ ap (λ x. starts_from x row ks) (sym begins)),
      sym (take-append-drop m flat) ∙ ap₂ ◌++◌ here ih.1,
    )
  where
    further : (i : ℕ) → i < length ks → s ≤ t → (t - s) + (get_or (t ∷ ss) i 0 - t) ≡ get_or (t ∷ ss) i 0 - a
    further i h up = omega (arith, climbs (s ∷ t ∷ ss) (suc (length ks)) r 1 (suc i) (omega arith) (omega arith))

pub flat-is : (row : ℕ → List ℕ) (keys starts flat : List ℕ) → StartsRight keys starts flat → ((i : ℕ) → i < length keys → row_at starts flat i ≡ row (get_or keys i 0))
    → (starts ≡ row_starts row keys) × (flat ≡ row_keys row keys)
flat-is row keys starts flat s at = flat-from row keys starts flat 0 s.entries s.first s.rises (omega (arith, s.last))
    (λ i h. ap (λ x. take (get_or starts (suc i) 0 - get_or starts i 0) (drop x flat)) (sub-zero (get_or starts i 0)) ∙ at i h)

pub flat-gives : (row : ℕ → List ℕ) (keys starts flat : List ℕ) → Distinct keys → StartsRight keys starts flat → Gives keys row (row_of keys starts flat)
    → (starts ≡ row_starts row keys) × (flat ≡ row_keys row keys)
flat-gives row keys starts flat dist s g = flat-is row keys starts flat s
    (λ i h. ap (row_at starts flat) (sym (place_is keys dist i h)) ∙ g (get_or keys i 0) (i, h, refl))

-- ---- and to them

starts-length : (a : ℕ) (row : ℕ → List ℕ) (keys : List ℕ) → length (starts_from a row keys) ≡ suc (length keys)
unfolding starts_from
starts-length a row [] = refl
starts-length a row (k ∷ ks) = ap suc (starts-length (a + length (row k)) row ks)

starts_first : (a : ℕ) (row : ℕ → List ℕ) (keys : List ℕ) → get_or (starts_from a row keys) 0 0 ≡ a
unfolding starts_from
starts_first a row [] = refl
starts_first a row (k ∷ ks) = refl

starts-rise : (a : ℕ) (row : ℕ → List ℕ) (keys : List ℕ) (i : ℕ) → i < length keys → get_or (starts_from a row keys) i 0 ≤ get_or (starts_from a row keys) (suc i) 0
unfolding starts_from
starts-rise a row [] i h = absurd (not-suc-le-zero h)
starts-rise a row (k ∷ ks) zero h = omega (arith, starts_first (a + length (row k)) row ks)
starts-rise a row (k ∷ ks) (suc i) h = starts-rise (a + length (row k)) row ks i (le_of_suc-le-suc h)

starts-last : (a : ℕ) (row : ℕ → List ℕ) (keys : List ℕ) → get_or (starts_from a row keys) (length keys) 0 ≡ a + length (concat_map row keys)
unfolding starts_from concat_map
starts-last a row [] = omega arith
starts-last a row (k ∷ ks) = starts-last (a + length (row k)) row ks ∙ omega (arith, length-append (row k) (concat_map row ks))

pub starts_right : (row : ℕ → List ℕ) (keys : List ℕ) → StartsRight keys (row_starts row keys) (row_keys row keys)
starts_right row keys = record {
  entries = starts-length 0 row keys;
  first = starts_first 0 row keys;
  rises = starts-rise 0 row keys;
  last = starts-last 0 row keys ∙ omega arith;
}

pub exact : (row : ℕ → List ℕ) (keys : List ℕ) → Written keys row (row_starts row keys) (row_keys row keys)
exact row keys = record { more = []; rest = []; starts_are = sym (append-nil _); keys_are = sym (append-nil _) }

-- ---- of a well-formed tree
module _ (d : ℕ) (keys own begin : List ℕ) (tree : formed d keys own begin ≡ true) (us uk vs vk : List ℕ) where
  pub flat-right : StartsRight keys us uk → StartsRight keys vs vk → ListsRight d keys own (row_of keys us uk) (row_of keys vs vk) → Flat d keys own us uk vs vk
  flat-right su sv r =
      let dist = (tree-facts d keys own begin tree).distinct in
      let g = lists-right d keys own begin tree (row_of keys us uk) (row_of keys vs vk) r in
      let u = flat-gives (u_row d keys own) keys us uk dist su g.0 in
      let v = flat-gives (v_row d keys own) keys vs vk dist sv g.1 in
      record { u_starts = u.0; u_keys = u.1; v_starts = v.0; v_keys = v.1 }

  pub right-flat : Flat d keys own us uk vs vk → StartsRight keys us uk × StartsRight keys vs vk × ListsRight d keys own (row_of keys us uk) (row_of keys vs vk)
  right-flat f = rw (f.u_starts, f.u_keys, f.v_starts, f.v_keys) (
    starts_right (u_row d keys own) keys,
    starts_right (v_row d keys own) keys,
    right-passes d keys own begin tree _ _ (gives-written (u_row d keys own) keys _ _ (exact (u_row d keys own) keys)) (gives-written (v_row d keys own) keys _ _ (exact (v_row d keys own) keys)),
  )

  -- the test, and what it tests
  pub lists-are : lists_are d keys own us uk vs vk ≡ true ↔ Flat d keys own us uk vs vk
  unfolding lists_are
  lists-are = (to, from)
    where
      to : lists_are d keys own us uk vs vk ≡ true → Flat d keys own us uk vs vk
      to h =
          let u = and_l _ _ h in
          let v = and_r (same us (row_starts (u_row d keys own) keys) && same uk (row_keys (u_row d keys own) keys)) _ h in
          record {
            u_starts = same_true us _ (and_l _ _ u);
            u_keys = same_true uk _ (and_r (same us (row_starts (u_row d keys own) keys)) _ u);
            v_starts = same_true vs _ (and_l _ _ v);
            v_keys = same_true vk _ (and_r (same vs (row_starts (v_row d keys own) keys)) _ v);
          }

      from : Flat d keys own us uk vs vk → lists_are d keys own us uk vs vk ≡ true
      from f = both (both (true_same us _ f.u_starts) (true_same uk _ f.u_keys)) (both (true_same vs _ f.v_starts) (true_same vk _ f.v_keys))
