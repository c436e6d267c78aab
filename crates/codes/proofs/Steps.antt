-- Four steps apart and four together, over the number of axes and of anchors.
use mathlib.Core.Path.{◌≡◌, refl, sym, ap, ◌∙◌}
use Prim.Native.Nat.{ℕ, ◌+◌, ◌*◌, ◌-◌, ◌/◌, ◌%◌, ◌^◌, ◌≤◌, ◌<◌}
use native.Mathlib.Omega.{arith}
use native.Mathlib.Nat.{mul_comm, zero-mul, zero-mod}
use lib.Bits.{bit_and}
use Rattle.codes.specs.Codes.{spread, anchor}
use Rattle.codes.specs.Runs.{runs, mask, Apart, Together}
use Rattle.codes.specs.Masks.{masks_of}
use Rattle.codes.specs.declared.Masks.{Masks}
use Rattle.codes.proofs.Places.{ends}
use Rattle.codes.proofs.Codes.{anchor-lt, anchor-ends}
use Rattle.codes.proofs.Runs.{singles, whole, first-axis}

-- a step apart and a step together, with a name h for twice the gap and k for twice the number of runs
module _ (w g h n k x y s m r : ℕ) (wide : w ≤ s) (gap : g ≡ s + w) (eh : h ≡ g + g) (ek : k ≡ n + n) where
  up : h * n ≤ 64 → m ≡ mask g w k → Apart y s m r → y ≡ runs h (w + w) n x → r ≡ runs g w k x
  up room em a ey =
      let whole_word = rw eh at room in
      a w g n x wide gap whole_word (em ∙ ap (mask g w) ek) (ey ∙ ap (λ (i : ℕ). runs i (w + w) n x) eh) ∙ ap (λ (i : ℕ). runs g w i x) (sym ek)

  down : m ≡ mask h (w + w) n → Together y s m r → y ≡ runs g w k x → r ≡ runs h (w + w) n x
  down em t ey =
      t w g n x wide gap (em ∙ ap (λ (i : ℕ). mask i (w + w) n) eh) (ey ∙ ap (λ (i : ℕ). runs g w i x) ek) ∙ ap (λ (i : ℕ). runs i (w + w) n x) (sym eh)

-- a number that ends below 2 ^ (w * m) has its bits in the lowest m runs
runs-ends : (g w m k x : ℕ) → x < 2 ^ (w * m) → runs g w (m + k) x ≡ runs g w m x
unfolding runs
runs-ends g w = ends (runs g w) (λ x. x % 2 ^ w) g w (λ x. refl) (λ n x. omega (arith, mul_comm (runs g w n (x / 2 ^ w)) (2 ^ g))) (zero-mod (2 ^ w))

module _ (m : Masks) (d n : ℕ) (more : 2 ≤ d) (is : m ≡ masks_of d n) where
  pub four-apart : (y r1 r2 r3 r x : ℕ) → 16 * d * n ≤ 64 → Apart y (8 * m.gap) m.eights r1 → Apart r1 (4 * m.gap) m.fours r2 → Apart r2 (2 * m.gap) m.twos r3 → Apart r3 m.gap m.ones r
      → y ≡ runs (16 * d) 16 n x → r ≡ spread d (16 * n) x
  four-apart y r1 r2 r3 r x room a8 a4 a2 a1 e =
      let gap : m.gap ≡ d - 1 = ap (λ (q : Masks). q.gap) is in
      up 1 d (2 * d) (8 * n) (16 * n) x _ _ _ _ (omega arith) (omega arith) (omega arith) (omega arith) (omega arith) (ap (λ (q : Masks). q.ones) is) a1
      (up 2 (2 * d) (4 * d) (4 * n) (8 * n) x _ _ _ _ (omega arith) (omega arith) (omega arith) (omega arith) (omega arith) (ap (λ (q : Masks). q.twos) is) a2
      (up 4 (4 * d) (8 * d) (2 * n) (4 * n) x _ _ _ _ (omega arith) (omega arith) (omega arith) (omega arith) (omega arith) (ap (λ (q : Masks). q.fours) is) a4
      (up 8 (8 * d) (16 * d) n (2 * n) x _ _ _ _ (omega arith) (omega arith) (omega arith) (omega arith) room (ap (λ (q : Masks). q.eights) is) a8 e)))
      ∙ singles d (16 * n) x

  pub four_together : (c r1 r2 r3 r : ℕ) → 1 ≤ n → Together (bit_and c m.ones) m.gap m.twos r1 → Together r1 (2 * m.gap) m.fours r2 → Together r2 (4 * m.gap) m.eights r3 → Together r3 (8 * m.gap) 65535 r
      → c < 2 ^ (d * 16) → r ≡ anchor d 0 16 c
  unfolding mask
  four_together c r1 r2 r3 r some t1 t2 t4 t8 below =
      let gap : m.gap ≡ d - 1 = ap (λ (q : Masks). q.gap) is in
      let x = anchor d 0 16 c in
      let lt : x < 2 ^ (8 * 2) = anchor-lt d 0 16 c in
      let ends : anchor d 0 (16 * n) c ≡ x = ap (λ (i : ℕ). anchor d 0 i c) (omega arith) ∙ anchor-ends d 0 16 (16 * n - 16) c below in
      down 8 (8 * d) (16 * d) 1 2 x _ _ _ _ (omega arith) (omega arith) (omega arith) (omega arith) (sym (ap (λ (i : ℕ). i + 65535) (zero-mul (2 ^ (16 * d))))) t8
      (down 4 (4 * d) (8 * d) (2 * n) (4 * n) x _ _ _ _ (omega arith) (omega arith) (omega arith) (omega arith) (ap (λ (q : Masks). q.eights) is) t4
      (down 2 (2 * d) (4 * d) (4 * n) (8 * n) x _ _ _ _ (omega arith) (omega arith) (omega arith) (omega arith) (ap (λ (q : Masks). q.fours) is) t2
      (down 1 d (2 * d) (8 * n) (16 * n) x _ _ _ _ (omega arith) (omega arith) (omega arith) (omega arith) (ap (λ (q : Masks). q.twos) is) t1
      (ap (bit_and c) (ap (λ (q : Masks). q.ones) is) ∙ first-axis d (16 * n) c (omega arith) ∙ ap (runs d 1 (16 * n)) ends)))
      ∙ ap (λ (i : ℕ). runs (8 * d) 8 i x) (omega arith)
      ∙ runs-ends _ 8 2 (2 * n - 2) x lt)
      ∙ sym (whole _ 16 x lt)
