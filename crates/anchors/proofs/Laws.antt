-- What is proved of keys, once over the number of axes d.
use mathlib.Core.Path.{◌≡◌, sym, ap, ap₂, ◌∙◌, subst}
use mathlib.Core.Bool.{true}
use mathlib.Core.List.{List}
use mathlib.Core.Logic.{◌↔◌}
use Prim.Native.Nat.{ℕ, suc, ◌+◌, ◌*◌, ◌-◌, ◌/◌, ◌%◌, ◌^◌, ◌≤◌, ◌<◌}
use native.Mathlib.Omega.{arith}
use native.Mathlib.Nat.{mod-eq_of_lt, div-add-mod', mod-lt}
use lib.Dec.{leb, ltb, eqb}
use lib.ListN.{get_or}
use lib.Pow.{pow_pos, high, low}
use borrow.Author.Tests.{eqb-true, le-leb, lt-ltb, eq-eqb}
use Rattle.slices.specs.Lists.{range, Mem}
use Rattle.slices.proofs.Tests.{and_l, and_r, both}
use Rattle.slices.proofs.Every.{every-all}
use Rattle.slices.proofs.Members.{map-mem, mem-map, range-mem, mem-range}
use Rattle.codes.proofs.Codes.{anchor-bit, anchor-encode, anchor-lt, encode-lt}
use Rattle.morton.specs.Keys.{key, level_of, code_of, above, ValidKey, parent, child, children, child_index, under}
use Rattle.morton.specs.Anchors.{anchor, encode, anchors, key_at, on_level, near, touching}
use Rattle.morton.proofs.Cells.{key-parts, key-level, key-code, above-one, level-parent, code-parent}
use Rattle.morton.proofs.Nearness.{near_up, anchors-tell}
use Rattle.anchors.proofs.Placing.{anchors-at, on-level-at}

-- ---- codes and anchors

-- bit i of axis a's anchor is bit d * i + a of the code
pub bit-of-code : (d a level i code : ℕ) → i < level → anchor d a level code / 2 ^ i % 2 ≡ code / 2 ^ (d * i + a) % 2
bit-of-code d a level i code h = anchor-bit d a level i code h

module _ (d level : ℕ) (xs : List ℕ) (h : level ≤ 16) (on : on_level d level xs ≡ true) where
  abbrev pub made : ℕ
  made = key_at d level xs

  pub level-made : level_of made ≡ level
  level-made = key-level level (encode d d level xs) (omega arith)

  pub code-made : code_of made ≡ encode d d level xs
  code-made = key-code level (encode d d level xs) (omega arith)

  pub made-anchor : (a : ℕ) → a < d → anchor d a (level_of made) (code_of made) ≡ get_or xs a 0
  made-anchor a l =
      ap₂ (anchor d a) level-made code-made ∙ anchor-encode d level a xs l ∙ mod-eq_of_lt (on-level-at d level xs h on a l)

  -- the key of anchors on their level is valid, and decodes to them
  pub encode-valid : 1 ≤ d → d ≤ 3 → ValidKey d made
  encode-valid l m = record { some = l; most = m; level = rw level-made h; code = rw (level-made, code-made) (encode-lt d level xs) }

  pub decode-encode : (a : ℕ) → a < d → get_or (anchors d made) a 0 ≡ get_or xs a 0
  decode-encode a l = anchors-at d made a l ∙ made-anchor a l

-- two valid keys of one level with the same anchors are one
pub same-cell : (d j k : ℕ) → ValidKey d j → ValidKey d k → level_of j ≡ level_of k
    → ((a : ℕ) → a < d → anchor d a (level_of j) (code_of j) ≡ anchor d a (level_of k) (code_of k)) → j ≡ k
same-cell d j k vj vk l same =
    let cj : code_of j < 2 ^ (d * level_of k) = subst (λ (n : ℕ). code_of j < 2 ^ (d * n)) l vj.code in
    let e = anchors-tell d (level_of k) (code_of j) (code_of k) cj vk.code (λ a h. ap (λ (n : ℕ). anchor d a n (code_of j)) (sym l) ∙ same a h) in
    sym (key-parts j) ∙ ap₂ key l e ∙ key-parts k

pub anchors-on : (d k : ℕ) → on_level d (level_of k) (anchors d k) ≡ true
anchors-on d k = every-all (λ a. ltb (get_or (anchors d k) a 0) (2 ^ level_of k)) d
    (λ a h. lt-ltb (get_or (anchors d k) a 0) (2 ^ level_of k) (rw (anchors-at d k a h) (anchor-lt d a (level_of k) (code_of k))))

-- a valid key is the key of its anchors
pub encode-decode : (d k : ℕ) → ValidKey d k → key_at d (level_of k) (anchors d k) ≡ k
encode-decode d k v =
    same-cell d (key_at d (level_of k) (anchors d k)) k
    (encode-valid d (level_of k) (anchors d k) v.level (anchors-on d k) v.some v.most) v
    (level-made d (level_of k) (anchors d k) v.level (anchors-on d k))
    (λ a h. made-anchor d (level_of k) (anchors d k) v.level (anchors-on d k) a h ∙ anchors-at d k a h)

-- ---- parents and children

module _ (d k : ℕ) (v : ValidKey d k) (h : level_of k < 16) where
  child-level : (c : ℕ) → level_of (child d k c) ≡ level_of k + 1
  child-level c = key-level (level_of k + 1) (code_of k * 2 ^ d + c) (omega arith)

  child-code : (c : ℕ) → code_of (child d k c) ≡ code_of k * 2 ^ d + c
  child-code c = key-code (level_of k + 1) (code_of k * 2 ^ d + c) (omega arith)

  -- the parent of a child is the cell, and the child's index is its number
  pub parent-child : (c : ℕ) → c < 2 ^ d → parent d (child d k c) ≡ k
  parent-child c l =
      ap₂ key (omega (arith, child-level c)) (ap (λ (n : ℕ). n / 2 ^ d) (child-code c) ∙ high (code_of k) d l) ∙ key-parts k

  pub index-child : (c : ℕ) → c < 2 ^ d → child_index d (child d k c) ≡ c
  index-child c l = ap (λ (n : ℕ). n % 2 ^ d) (child-code c) ∙ low (code_of k) d l

  -- the children are the cells one level down that lie in the cell
  pub children-under : (j : ℕ) → Mem j (children d k) ↔ ((level_of j ≡ level_of k + 1) × (under d k j ≡ true))
  children-under j = (into, from)
    where
      into : Mem j (children d k) → (level_of j ≡ level_of k + 1) × (under d k j ≡ true)
      into m =
          let r = mem-map (child d k) (range 0 (2 ^ d)) j m in
          let l = mem-range (2 ^ d) r.0 r.1 in
          let e : level_of j ≡ level_of k + 1 = ap level_of (sym r.2) ∙ child-level r.0 in
          let one : level_of j - level_of k ≡ 1 = omega arith in
          let up : above d (level_of j - level_of k) (code_of j) ≡ code_of k =
          ap (λ (n : ℕ). above d n (code_of j)) one ∙ above-one d (code_of j)
          ∙ ap (λ (n : ℕ). n / 2 ^ d) (ap code_of (sym r.2) ∙ child-code r.0) ∙ high (code_of k) d l in
          (e, both (le-leb (level_of k) (level_of j) (omega arith)) (eq-eqb (above d (level_of j - level_of k) (code_of j)) (code_of k) up))

      from : (level_of j ≡ level_of k + 1) × (under d k j ≡ true) → Mem j (children d k)
      from (e, u) =
          let one : level_of j - level_of k ≡ 1 = omega arith in
          let up : code_of j / 2 ^ d ≡ code_of k =
          sym (ap (λ (n : ℕ). above d n (code_of j)) one ∙ above-one d (code_of j)) ∙ eqb-true (above d (level_of j - level_of k) (code_of j)) (code_of k) (and_r (leb (level_of k) (level_of j)) _ u) in
          let same : child d k (code_of j % 2 ^ d) ≡ j =
          ap₂ key (sym e) (ap (λ (n : ℕ). n * 2 ^ d + code_of j % 2 ^ d) (sym up) ∙ div-add-mod' (code_of j) (2 ^ d)) ∙ key-parts j in
          subst (λ (x : ℕ). Mem x (children d k)) same (map-mem (child d k) (range 0 (2 ^ d)) (code_of j % 2 ^ d) (range-mem (2 ^ d) (code_of j % 2 ^ d) (mod-lt (code_of j) (pow_pos d))))

-- touching goes up to parents
pub touching-up : (d j k : ℕ) → 0 < level_of j → touching d j k ≡ true → touching d (parent d j) (parent d k) ≡ true
touching-up d j k h t =
    let l : level_of j ≡ level_of k = eqb-true (level_of j) (level_of k) (and_l _ _ t) in
    let n : near d d (level_of j) (code_of j) (code_of k) ≡ true = and_r (eqb (level_of j) (level_of k)) _ t in
    let e : level_of j ≡ suc (level_of j - 1) = omega arith in
    let up : near d d (level_of j - 1) (code_of j / 2 ^ d) (code_of k / 2 ^ d) ≡ true =
    near_up d d (level_of j - 1) (code_of j) (code_of k) (subst (λ (m : ℕ). near d d m (code_of j) (code_of k) ≡ true) e n) in
    both (eq-eqb (level_of (parent d j)) (level_of (parent d k)) (omega (arith, level-parent d j, level-parent d k)))
    (rw (level-parent d j, code-parent d j, code-parent d k) up)
