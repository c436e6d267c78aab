-- Document 01's test for U is the tender's: two cells taken at the coarser one's level coincide or touch.
use mathlib.Core.Path.{◌≡◌, refl, sym, ap, ap₂, ◌∙◌}
use mathlib.Core.Bool.{Bool, true, false, ◌&&◌, ◌||◌, not}
use mathlib.Core.List.{List, [], ◌∷◌}
use Prim.Native.Nat.{ℕ, zero, suc, ◌+◌, ◌*◌, ◌-◌, ◌/◌, ◌%◌, ◌^◌, ◌≤◌, ◌<◌, min}
use native.Mathlib.Omega.{arith}
use native.Mathlib.Nat.{mul-suc, add_comm}
use native.Mathlib.Decide.{dec_lt}
use lib.Dec.{leb, ltb, eqb}
use lib.Pow.{shr-shr}
use borrow.Author.Tests.{eq-eqb, ne_eqb, le-leb, lt-leb}
use Rattle.slices.specs.Lists.{any}
use Rattle.morton.specs.Keys.{key, level_of, code_of, above, parent, upwards, ancestors}
use Rattle.morton.specs.Anchors.{near, touching, close}
use Rattle.morton.proofs.Cells.{above_zero, level_begins, code_at, level-parent, code-parent}
use Rattle.tree.specs.Nodes.{cell_at}
use Rattle.rows.specs.Lists.{at_or_under, beside_ancestor}

or-false : (a : Bool) → (a || false) ≡ a
or-false true = refl
or-false false = refl

or_same : (a : Bool) → (a || a) ≡ a
or_same true = refl
or_same false = refl

above_parent : (d m c : ℕ) → above d m (c / 2 ^ d) ≡ above d (suc m) c
above_parent d m c = shr-shr c d (d * m) ∙ ap (λ n. c / 2 ^ n) (add_comm d (d * m) ∙ sym (mul-suc d m))

-- at levels l and m, the cells with codes x and y: the one at level l, taken at level m, coincides with the other or touches it
abbrev from : ℕ → ℕ → ℕ → ℕ → ℕ → Bool
from d l x m y = leb m l && near d d m (above d (l - m) x) y

touch-parts : (d b s l x m y : ℕ) → level_of b ≡ l → code_of b ≡ x → level_of s ≡ m → code_of s ≡ y → touching d b s ≡ (eqb l m && near d d l x y)
touch-parts d b s l x m y e f g h = rw (e, f, g, h)

any-touching : (n d b s x m y : ℕ) → level_of b ≡ n → code_of b ≡ x → level_of s ≡ m → code_of s ≡ y → any (λ a. touching d a s) (upwards n d b) ≡ from d n x m y
unfolding any upwards
any-touching zero d b s x m y e f g h = or-false _ ∙ touch-parts d b s 0 x m y e f g h ∙ go (dec_lt 0 m)
  where
    go : Dec (0 < m) → (eqb 0 m && near d d 0 x y) ≡ from d 0 x m y
    go (yes l) = rw (ne_eqb 0 m (λ q. omega arith), lt-leb m 0 l)
    go (no k) = let z : m ≡ 0 = omega arith in rw (z, above_zero d x)
any-touching (suc n) d b s x m y e f g h =
    ap₂ (λ p q. p || q) (touch-parts d b s (suc n) x m y e f g h)
    (any-touching n d (parent d b) s (x / 2 ^ d) m y (level-parent d b ∙ omega arith) (code-parent d b ∙ ap (◌/ 2 ^ d) f) g h)
    ∙ go (dec_lt m (suc n)) (dec_lt (suc n) m)
  where
    go : Dec (m < suc n) → Dec (suc n < m) → ((eqb (suc n) m && near d d (suc n) x y) || from d n (x / 2 ^ d) m y) ≡ from d (suc n) x m y
    go (yes l) _ =
        let u : suc n - m ≡ suc (n - m) = omega arith in
        rw (ne_eqb (suc n) m (λ q. omega arith), le-leb m n (omega arith), le-leb m (suc n) (omega arith), u, above_parent d (n - m) x)
    go (no k) (yes l) = rw (ne_eqb (suc n) m (λ q. omega arith), lt-leb m n (omega arith), lt-leb m (suc n) l)
    go (no k) (no l) =
        let z : m ≡ suc n = omega arith in
        let u : suc n - suc n ≡ 0 = omega arith in
        rw (z, eq-eqb (suc n) (suc n) refl, lt-leb (suc n) n (omega arith), le-leb (suc n) (suc n) (omega arith), u, above_zero d x) (or-false _)

under-touching : (d b s l x m y : ℕ) → level_of b ≡ l → code_of b ≡ x → level_of s ≡ m → code_of s ≡ y → at_or_under d b s ≡ (leb l m && near d d l x (above d (m - l) y))
under-touching d b s l x m y e f g h = go (dec_lt m l)
  where
    go : Dec (m < l) → at_or_under d b s ≡ (leb l m && near d d l x (above d (m - l) y))
    go (yes k) = rw (e, g, lt-leb l m k)
    go (no k) =
        let q : level_of b ≤ level_of s = omega arith in
        rw (level_begins d (level_of b) s q, code_at d (level_of b) s q, e, f, g, h, eq-eqb l l refl)

pub near-is-close : (d b s : ℕ) → (at_or_under d b s || beside_ancestor d b s) ≡ close d b s
near-is-close d b s =
    ap₂ (λ p q. p || q) (under-touching d b s l x m y refl refl refl refl) (any-touching l d b s x m y refl refl refl refl) ∙ go l x m y (dec_lt l m) (dec_lt m l)
  where
    l : ℕ
    l = level_of b

    x : ℕ
    x = code_of b

    m : ℕ
    m = level_of s

    y : ℕ
    y = code_of s

    go : (l x m y : ℕ) → Dec (l < m) → Dec (m < l)
        → ((leb l m && near d d l x (above d (m - l) y)) || from d l x m y) ≡ near d d (min l m) (above d (l - min l m) x) (above d (m - min l m) y)
    go l x m y (yes k) _ =
        let e : min l m ≡ l = omega arith in
        let u : l - l ≡ 0 = omega arith in
        rw (le-leb l m (omega arith), lt-leb m l k, e, u, above_zero d x) (or-false _)
    go l x m y (no k) (yes j) =
        let e : min l m ≡ m = omega arith in
        let u : m - m ≡ 0 = omega arith in
        rw (lt-leb l m j, le-leb m l (omega arith), e, u, above_zero d y)
    go l x m y (no k) (no j) =
        let z : m ≡ l = omega arith in
        let e : min l l ≡ l = omega arith in
        let u : l - l ≡ 0 = omega arith in
        rw (z, e, u, le-leb l l (omega arith), above_zero d x, above_zero d y) (or_same _)
