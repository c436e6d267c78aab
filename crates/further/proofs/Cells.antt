-- Cells that hold a code or lie in one another, and how their sources add up.
use mathlib.Core.Path.{◌≡◌, refl, sym, ap, ap₂, ◌∙◌, subst}
use mathlib.Core.Bool.{Bool, true, false}
use mathlib.Core.List.{List, [], ◌∷◌}
use Prim.Native.Nat.{ℕ, zero, suc, ◌+◌, ◌*◌, ◌-◌, ◌/◌, ◌^◌, ◌≤◌, ◌<◌, min}
use native.Mathlib.Omega.{arith}
use native.Mathlib.Nat.{mul-add, mul-zero}
use lib.Pow.{shr-shr}
use borrow.Author.Tests.{eq-eqb}
use Rattle.slices.specs.Lists.{bit, count, Mem}
use Rattle.slices.specs.Every.{every}
use Rattle.slices.proofs.Tests.{both}
use Rattle.morton.specs.Keys.{deepest, level_of, code_of, above, ValidKey, parent, children, under, holds}
use Rattle.morton.specs.Anchors.{near, anchor, close}
use Rattle.morton.proofs.Cells.{above_zero, above-one, key-parts, level-parent, code-parent}
use Rattle.morton.proofs.Nearness.{within, near_up}
use Rattle.anchors.proofs.Laws.{children-under}
use Rattle.tree.proofs.Sourced.{under-facts, facts-under}
use Rattle.tree.proofs.Ranges.{parent-under}
use Rattle.refine.specs.Counts.{count_at, sources_in}
use Rattle.growth.proofs.Leaves.{holds-code}

pub above-above : (d m n c : ℕ) → above d n (above d m c) ≡ above d (m + n) c
above-above d m n c = shr-shr c (d * m) (d * n) ∙ ap (λ (x : ℕ). c / 2 ^ x) (sym (mul-add d m n))

-- level 0 is the root's alone
pub root-only : (d k : ℕ) → ValidKey d k → level_of k ≡ 0 → k ≡ 0
root-only d k v z = let c = rw (z, mul-zero) at v.code in omega (arith, key-parts k, c)

-- what holds a cell holds its codes
pub holds-up : (d a b c : ℕ) → under d a b ≡ true → level_of b ≤ 16 → holds d b c ≡ true → holds d a c ≡ true
holds-up d a b c u l h =
    let f = under-facts d a b u in
    let e : (deepest - level_of b) + (level_of b - level_of a) ≡ deepest - level_of a = omega (arith, f.level) in
    eq-eqb (above d (deepest - level_of a) c) (code_of a)
    (ap (λ (n : ℕ). above d n c) (sym e)
    ∙ sym (above-above d (deepest - level_of b) (level_of b - level_of a) c)
    ∙ ap (above d (level_of b - level_of a)) (holds-code d b c h)
    ∙ f.code)

-- what holds a cell and is larger holds its parent
pub under_parent : (d a b : ℕ) → under d a b ≡ true → level_of a < level_of b → under d a (parent d b) ≡ true
under_parent d a b u l =
    let f = under-facts d a b u in
    let e : 1 + (level_of (parent d b) - level_of a) ≡ level_of b - level_of a = omega (arith, level-parent d b) in
    facts-under d a (parent d b) (record {
      level = omega (arith, level-parent d b);
      code = ap (above d (level_of (parent d b) - level_of a)) (code-parent d b ∙ sym (above-one d (code_of b)))
          ∙ above-above d 1 (level_of (parent d b) - level_of a) (code_of b)
          ∙ ap (λ (n : ℕ). above d n (code_of b)) e
          ∙ f.code;
    })

-- a cell is a child of its parent
pub its_child : (d k : ℕ) → ValidKey d (parent d k) → level_of k ≤ 16 → 0 < level_of k → Mem k (children d (parent d k))
its_child d k v l h = (children-under d (parent d k) v (omega (arith, level-parent d k)) k).1 (omega (arith, level-parent d k), parent-under d k h)

-- a test that passes more often
pub count_most : (p q : ℕ → Bool) (xs : List ℕ) → ((x : ℕ) → p x ≡ true → q x ≡ true) → count p xs ≤ count q xs
unfolding count
count_most p q [] h = omega arith
count_most p q (x ∷ xs) h = omega (arith, one (p x) (q x) (h x), count_most p q xs h)
  where
    one : (a b : Bool) → (a ≡ true → b ≡ true) → bit a ≤ bit b
    one true b f = rw (f refl) (omega arith)
    one false b f = omega arith

-- a cell has no more sources than what holds it
pub count-up : (d : ℕ) (s : List ℕ) (a b : ℕ) → under d a b ≡ true → level_of b ≤ 16 → sources_in d s b ≤ sources_in d s a
unfolding count_at
count-up d s a b u l = count_most (holds d b) (holds d a) s (λ c. holds-up d a b c u l)

-- ---- closeness goes up

near-self : (n d level x : ℕ) → near n d level x x ≡ true
unfolding near every
near-self zero d level x = refl
near-self (suc n) d level x = both (within (anchor d n level x) (anchor d n level x) (omega arith) (omega arith)) (near-self n d level x)

near-above : (n d m level x y : ℕ) → m ≡ n + level → near d d m x y ≡ true → near d d level (above d n x) (above d n y) ≡ true
near-above zero d m level x y e h = let z : m ≡ level = omega arith in rw (above_zero d x, above_zero d y) (subst (λ (l : ℕ). near d d l x y ≡ true) z h)
near-above (suc n) d m level x y e h =
    let z : m ≡ suc (n + level) = omega arith in
    rw (step x, step y) (near-above n d (n + level) level (x / 2 ^ d) (y / 2 ^ d) refl (near_up d d (n + level) x y (subst (λ (l : ℕ). near d d l x y ≡ true) z h)))
  where
    step : (z : ℕ) → above d (suc n) z ≡ above d n (z / 2 ^ d)
    step z = let o : suc n ≡ 1 + n = omega arith in ap (λ (i : ℕ). above d i z) o ∙ sym (above-above d 1 n z) ∙ ap (above d n) (above-one d z)

between : (a m n : ℕ) → n ≤ m → m ≤ a → a - m + (m - n) ≡ a - n
between a m n h l = omega arith

pub close-self : (d b : ℕ) → close d b b ≡ true
close-self d b = near-self d d (min (level_of b) (level_of b)) (above d (level_of b - min (level_of b) (level_of b)) (code_of b))

-- what is close to a cell is close to what holds it
pub close_up : (d b s c : ℕ) → under d c s ≡ true → close d b s ≡ true → close d b c ≡ true
close_up d b s c u h =
    let f = under-facts d c s u in
    go (level_of b) (code_of b) (level_of s) (code_of s) (level_of c) (code_of c) f.level f.code h
  where
    go : (lb xb ls xs lc xc : ℕ) → lc ≤ ls → above d (ls - lc) xs ≡ xc → near d d (min lb ls) (above d (lb - min lb ls) xb) (above d (ls - min lb ls) xs) ≡ true
        → near d d (min lb lc) (above d (lb - min lb lc) xb) (above d (lc - min lb lc) xc) ≡ true
    go lb xb ls xs lc xc l e h =
        let m = min lb ls in
        let n = min lb lc in
        let h₁ : n ≤ m = omega arith in
        let h₂ : m ≤ lb = omega arith in
        let h₃ : m ≤ ls = omega arith in
        let h₄ : n ≤ lc = omega arith in
        let s : m ≡ (m - n) + n = omega (h₁, arith) in
        let up = near-above (m - n) d m n (above d (lb - m) xb) (above d (ls - m) xs) s h in
        let left : above d (m - n) (above d (lb - m) xb) ≡ above d (lb - n) xb = above-above d (lb - m) (m - n) xb ∙ ap (λ (i : ℕ). above d i xb) (between lb m n h₁ h₂) in
        let right : above d (m - n) (above d (ls - m) xs) ≡ above d (lc - n) xc =
        above-above d (ls - m) (m - n) xs
        ∙ ap (λ (i : ℕ). above d i xs) (between ls m n h₁ h₃ ∙ sym (between ls lc n h₄ l))
        ∙ sym (above-above d (ls - lc) (lc - n) xs)
        ∙ ap (above d (lc - n)) e in
        sym (ap₂ (near d d n) left right) ∙ up
