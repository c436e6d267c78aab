-- Cells by their anchors: the parent's are half of them, and any anchors on a level are those of a cell.
use mathlib.Core.Path.{◌≡◌, sym, ap, ap₂, ◌∙◌, subst}
use mathlib.Core.Bool.{true}
use mathlib.Core.List.{List, map}
use Prim.Native.Nat.{ℕ, zero, suc, ◌+◌, ◌*◌, ◌-◌, ◌/◌, ◌^◌, ◌≤◌, ◌<◌}
use native.Mathlib.Omega.{arith}
use native.Mathlib.Nat.{mul-zero, mul_assoc, div-one, zero-add}
use lib.Pow.{shr-shr}
use lib.Dec.{ltb}
use lib.ListN.{get_or}
use borrow.Author.Tests.{ltb-true, lt-ltb, eqb-true, eq-eqb}
use Rattle.slices.specs.Lists.{range, Mem}
use Rattle.slices.proofs.Tests.{and_l, and_r, both}
use Rattle.slices.proofs.Every.{every-all}
use Rattle.slices.proofs.Members.{mem-map, mem-range}
use Rattle.codes.proofs.Codes.{anchor-more}
use Rattle.morton.specs.Keys.{level_of, code_of, above, ValidKey, parent, child, children}
use Rattle.morton.specs.Anchors.{anchor, on_level, key_at}
use Rattle.morton.proofs.Cells.{level-parent, code-parent, key-level}
use Rattle.morton.proofs.Arithmetic.{child-valid}
use Rattle.codes.proofs.Entries.{tabled}
use Rattle.anchors.proofs.Laws.{level-made, made-anchor, encode-valid, parent-child, children-under}
use Rattle.tree.specs.Nodes.{child_of}
use Rattle.tree.proofs.Sourced.{child-under}

-- the anchor of cell k on axis a
abbrev pub at : ℕ → ℕ → ℕ → ℕ
at d a k = anchor d a (level_of k) (code_of k)

-- an anchor of more levels: the lower ones of it, and above them the anchor of the cell so many levels up
pub anchor-split : (d a m n c : ℕ) → anchor d a (m + n) c ≡ anchor d a m c + 2 ^ m * anchor d a n (above d m c)
unfolding anchor
anchor-split d a zero n c = rw (zero-add n, mul-zero d, div-one c) (omega arith)
anchor-split d a (suc m) n c =
    let s : d + d * m ≡ d * suc m = omega arith in
    let e : c / 2 ^ d / 2 ^ (d * m) ≡ c / 2 ^ (d * suc m) = shr-shr c d (d * m) ∙ ap (λ (x : ℕ). c / 2 ^ x) s in
    let q : suc m + n ≡ suc (m + n) = omega arith in
    let w : 2 ^ suc m ≡ 2 * 2 ^ m = omega arith in
    rw (← e, q, w) (doubled (2 ^ m) (anchor d a n (c / 2 ^ d / 2 ^ (d * m))) (anchor-split d a m n (c / 2 ^ d)))
  where
    doubled : (p b : ℕ) → anchor d a (m + n) (c / 2 ^ d) ≡ anchor d a m (c / 2 ^ d) + p * b → anchor d a (suc (m + n)) c ≡ anchor d a (suc m) c + 2 * p * b
    doubled p b h = let w : 2 * p * b ≡ 2 * (p * b) = mul_assoc 2 p b in omega (arith, anchor-more d a m c, anchor-more d a (m + n) c)

half_of : (d a l n c : ℕ) → l ≡ suc n → anchor d a n (c / 2 ^ d) ≡ anchor d a l c / 2
half_of d a l n c e = rw e (omega (arith, anchor-more d a n c))

pub half : (d a k : ℕ) → 0 < level_of k → at d a (parent d k) ≡ at d a k / 2
half d a k h = ap₂ (anchor d a) (level-parent d k) (code-parent d k) ∙ half_of d a (level_of k) (level_of k - 1) (code_of k) (omega arith)

-- a valid cell at level 0 is the root
pub root-only : (d k : ℕ) → ValidKey d k → level_of k ≡ 0 → k ≡ 0
root-only d k v e =
    let lt : code_of k < 2 ^ (d * 0) = rw e at v.code in
    omega (arith, rw mul-zero at lt)

-- the cell at a level with these anchors
pub record Made (d l : ℕ) (f : ℕ → ℕ) : Type 0 where
  pub cell : ℕ
  pub sound : ValidKey d cell
  pub level : level_of cell ≡ l
  pub anchors : (a : ℕ) → a < d → at d a cell ≡ f a

pub make : (d l : ℕ) (f : ℕ → ℕ) → 1 ≤ d → d ≤ 3 → l ≤ 16 → ((a : ℕ) → a < d → f a < 2 ^ l) → Made d l f
make d l f p q h lt = record {
  cell = key_at d l xs;
  sound = encode-valid d l xs h on p q;
  level = level-made d l xs h on;
  anchors = λ a i. made-anchor d l xs h on a i ∙ tabled f d a i;
}
  where
    xs : List ℕ
    xs = map f (range 0 d)

    on : on_level d l xs ≡ true
    on = every-all (λ a. ltb (get_or xs a 0) (2 ^ l)) d (λ a i. lt-ltb (get_or xs a 0) (2 ^ l) (rw (tabled f d a i) (lt a i)))

-- ---- children

pub record Child (d k c : ℕ) : Type 0 where
  pub sound : ValidKey d c
  pub level : level_of c ≡ level_of k + 1
  pub parent_is : parent d c ≡ k

pub child-facts : (d k c : ℕ) → ValidKey d k → level_of k < 16 → Mem c (children d k) → Child d k c
child-facts d k c v h m =
    let r = mem-map (child d k) (range 0 (2 ^ d)) c m in
    let few = mem-range (2 ^ d) r.0 r.1 in
    record {
      sound = subst (ValidKey d) r.2 (child-valid d k v h r.0 few);
      level = ap level_of (sym r.2) ∙ key-level (level_of k + 1) (code_of k * 2 ^ d + r.0) (omega arith);
      parent_is = ap (parent d) (sym r.2) ∙ parent-child d k v h r.0 few;
    }

-- c has a parent, which is k
pub its_child : (d k c : ℕ) → 0 < level_of c → parent d c ≡ k → child_of d k c ≡ true
its_child d k c h e = both (lt-ltb 0 (level_of c) h) (eq-eqb (parent d c) k e)

pub of-child : (d k c : ℕ) → child_of d k c ≡ true → (0 < level_of c) × (parent d c ≡ k)
of-child d k c h = (ltb-true 0 (level_of c) (and_l _ _ h), eqb-true (parent d c) k (and_r (ltb 0 (level_of c)) _ h))

pub in-children : (d k c : ℕ) → ValidKey d k → level_of c ≤ 16 → 0 < level_of c → parent d c ≡ k → Mem c (children d k)
in-children d k c v l h e =
    let up : level_of k ≡ level_of c - 1 = ap level_of (sym e) ∙ level-parent d c in
    (children-under d k v (omega arith) c).1 (omega arith, child-under d k c (its_child d k c h e))
