-- The centres of cells, and the float test of two cells.
use mathlib.Core.Path.{◌≡◌, refl, sym, ap, ap₂, ◌∙◌}
use mathlib.Core.Bool.{true, false}
use mathlib.Core.List.{List}
use Prim.Native.Nat.{ℕ, ◌+◌, ◌≤◌, ◌<◌}
use native.Mathlib.Omega.{arith}
use lib.IntN.{pos}
use lib.Dec.{T}
use lib.ListN.{get_or}
use lib.Ieee.{Float, binary64, in_float, of_bits, of_int, add, sub, mul, le}
use borrow.Author.Tests.{lt-ltb, le-ltb}
use Rattle.slices.specs.Lists.{filled}
use Rattle.slices.proofs.Every.{every-next, every-none}
use Rattle.refusal.specs.declared.Refusal.{Refusal}
use Rattle.refusal.specs.declared.Refusal.TheVariants.{Dims, Key}
use Rattle.morton.specs.Keys.{level_of, code_of, axes_known, valid, ValidKey}
use Rattle.morton.specs.Anchors.{anchors}
use Rattle.morton.specs.Answers.{key_check}
use Rattle.morton.proofs.Checks.{axes-known, checked}
use Rattle.anchors.proofs.Placing.{held_at, anchor-small}
use Rattle.space.specs.declared.Box.{Box}
use Rattle.space.specs.Floats.{size_of}
use Rattle.refusal.specs.Chain.{ask}
use Rattle.refusal.proofs.Chain.{both-done, after-done, after-refused}
use Rattle.space.specs.Domain.{box_outcome}
use Rattle.space.specs.Cells.{displacement, side}
use Rattle.centres.specs.Centres.{key_outcome, keys_outcome, half, tolerance, centre_on, reach, near_at, near_on}
use Rattle.space.proofs.Literals.{zero_is}
use Rattle.space.proofs.Boxes.{every-false}
use Rattle.centres.proofs.Literals.{half_is}
use Rattle.space.proofs.Patterns.{le→leb}
use Rattle.space.proofs.Refusals.{Fine, fine}
use Rattle.std.specs.Prelude.{Err}
use Rattle.refusal.specs.Outcome.{accepted}

-- a centre on axis a, by an array of anchors
module _ (b : Box) (key a : ℕ) where
  pub centre-past : b.axes ≤ a → of_bits binary64 0 ≡ centre_on b (level_of key) (code_of key) a
  unfolding centre_on
  centre-past h = rw (le-ltb a b.axes h) zero_is

  module _ (held : List ℕ) (e : held ≡ filled 3 (anchors b.axes key)) (h : a < b.axes) where
    pub held-float : ValidKey b.axes key → T (in_float binary64 (pos (get_or held a 0)))
    unfolding in_float
    held-float v = le→leb (get_or held a 0) 9007199254740992 (omega (arith, held_at b.axes key held e a h, anchor-small b.axes key a v))

    pub centre-at : (s d : Float) → s ≡ side b.radius (level_of key) → d ≡ displacement b a
        → add binary64 (mul binary64 (add binary64 (of_int binary64 (pos (get_or held a 0))) (of_bits binary64 4602678819172646912)) s) d ≡ centre_on b (level_of key) (code_of key) a
    unfolding centre_on
    centre-at s d f g =
        ap₂ (λ x y. add binary64 (mul binary64 (add binary64 (of_int binary64 (pos (get_or held a 0))) x) y) d) half_is f
        ∙ ap₂ (λ n y. add binary64 (mul binary64 (add binary64 (of_int binary64 (pos n)) half) (side b.radius (level_of key))) y) (held_at b.axes key held e a h) g
        ∙ rw (lt-ltb a b.axes h)

-- the test of two cells, one axis more
module _ (b : Box) (j k : ℕ) where
  pub reach-is : (s t : Float) → s ≡ side b.radius (level_of j) → t ≡ side b.radius (level_of k) → mul binary64 (of_bits binary64 4602678819172646912) (add binary64 s t) ≡ reach b j k
  reach-is s t e f = ap (λ h. mul binary64 h (add binary64 s t)) half_is ∙ ap₂ (λ x y. mul binary64 half (add binary64 x y)) e f

  pub record Axis (m : ℕ) (x y d l : Float) : Type 0 where
    pub first : x ≡ centre_on b (level_of j) (code_of j) m
    pub second : y ≡ centre_on b (level_of k) (code_of k) m
    pub apart : d ≡ size_of (sub binary64 y x)
    pub length : l ≡ reach b j k

  test-is : (m : ℕ) (x y d l q : Float) → q ≡ tolerance → Axis m x y d l → near_at b j k m ≡ le d (add binary64 q l)
  unfolding near_at
  test-is m x y d l q i a = sym (
      ap₂ (λ p q. le p (add binary64 q l)) (a.apart ∙ ap₂ (λ p q. size_of (sub binary64 p q)) a.second a.first) i
      ∙ ap (λ q. le (size_of (sub binary64 (centre_on b (level_of k) (code_of k) m) (centre_on b (level_of j) (code_of j) m))) (add binary64 tolerance q)) a.length)

  pub near_next : (m : ℕ) (x y d l q : Float) → q ≡ tolerance → near_on m b j k ≡ true → Axis m x y d l → le d (add binary64 q l) ≡ true → near_on (m + 1) b j k ≡ true
  near_next m x y d l q i before a h = every-next (near_at b j k) (m + 1) m refl (test-is m x y d l q i a ∙ h) ∙ before

  pub near-stop : (n m : ℕ) (x y d l q : Float) → q ≡ tolerance → m < n → Axis m x y d l → le d (add binary64 q l) ≡ false → false ≡ near_on n b j k
  near-stop n m x y d l q i less a h = sym (every-false (near_at b j k) n m less (test-is m x y d l q i a ∙ h))

  pub near_none : near_on 0 b j k ≡ true
  near_none = every-none (near_at b j k) 0 refl

-- the refusals of a key
module _ (b : Box) (k : ℕ) where
  -- what the key's check tells where the box is not refused: its axes are 1 to 3
  check-is : Fine b → key_check b.axes k ≡ ask (valid b.axes k) Key
  check-is f = after-done (ask (axes_known b.axes) Dims) (ask (valid b.axes k) Key) (ap (λ t. ask t Dims) (axes-known b.axes f.least f.most))

  pub key-box-refused : (r : Refusal) → box_outcome b ≡ Err r → Err r ≡ key_outcome b k
  key-box-refused r e = sym (after-refused (box_outcome b) (ask (valid b.axes k) Key) r e)

  pub key-checked : box_outcome b ≡ accepted → key_check b.axes k ≡ key_outcome b k
  key-checked e = check-is (fine b e) ∙ sym (after-done (box_outcome b) (ask (valid b.axes k) Key) e)

  pub key-done : key_outcome b k ≡ accepted → Fine b × ValidKey b.axes k
  key-done e =
      let p = both-done (box_outcome b) (ask (valid b.axes k) Key) e in
      let f = fine b p.0 in
      (f, checked b.axes k (check-is f ∙ p.1))

  -- and those of two keys
  pub keys-refused : (j : ℕ) (r : Refusal) → key_outcome b j ≡ Err r → Err r ≡ keys_outcome b j k
  keys-refused j r e = sym (after-refused (key_outcome b j) (ask (valid b.axes k) Key) r e)

  pub keys-checked : (j : ℕ) → Fine b → key_outcome b j ≡ accepted → key_check b.axes k ≡ keys_outcome b j k
  keys-checked j f e = check-is f ∙ sym (after-done (key_outcome b j) (ask (valid b.axes k) Key) e)
