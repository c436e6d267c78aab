-- For every box of the domain and any two valid keys of one level, the float test and the anchor test give the same yes or no.
use mathlib.Core.Path.{◌≡◌, refl, sym, ap, ap₂, ◌∙◌, subst}
use mathlib.Core.Bool.{Bool, true}
use Prim.Native.Nat.{ℕ, ◌*◌, ◌^◌, ◌≤◌, ◌<◌}
use native.Mathlib.Nat.{lt_of_lt_of_le}
use lib.IntN.{pos}
use lib.Dec.{lit<}
use lib.ListN.{get_or}
use lib.Pow.{pow_mono}
use lib.Ieee.{Float, nan, binary64, of_int, add, sub, mul, le}
use borrow.Author.Tests.{lt-ltb, eq-eqb, leb-true}
use Rattle.slices.proofs.Tests.{and_l}
use Rattle.slices.proofs.Every.{every-same, every-at}
use Rattle.codes.proofs.Codes.{anchor-lt}
use Rattle.morton.specs.Keys.{level_of, code_of}
use Rattle.morton.specs.Anchors.{anchor, within1, near, touching}
use Rattle.morton.proofs.Checks.{axes-known}
use Rattle.std.specs.Prelude.{Ok}
use Rattle.refusal.specs.Chain.{◌then◌}
use Rattle.anchors.specs.Answers.{pair_check}
use Rattle.space.specs.declared.Box.{Box}
use Rattle.space.specs.Floats.{size_of}
use Rattle.space.specs.Domain.{centre_known, centres_known}
use Rattle.space.specs.Cells.{side}
use Rattle.space.proofs.Refusals.{Fine, fine}
use Rattle.points.proofs.Sides.{Radius, radius}
use Rattle.centres.specs.Centres.{keys_outcome, half, tolerance, centre_on, near_at, near_on, are_adjacent}
use Rattle.centres.specs.Agreement.{OneLevel, Agree}
use Rattle.centres.proofs.Held.{Held}
use Rattle.centres.proofs.OneAxis.{Scale, axis-agrees}
use Rattle.centres.proofs.Values.{sided, tolerant, half-value, and-half, difference, radius-units, centre-units}
use Rattle.refusal.specs.Outcome.{Answer, accepted}

-- ---- what the test of one axis computes
abbrev centre_at : Float → ℕ → Float → Float
centre_at s i d = add binary64 (mul binary64 (add binary64 (of_int binary64 (pos i)) half) s) d

abbrev moved : Box → ℕ → Float
moved b a = sub binary64 (get_or b.centre a nan) b.radius

centre-is : (b : Box) (level code a : ℕ) → a < b.axes → centre_on b level code a ≡ centre_at (side b.radius level) (anchor b.axes a level code) (moved b a)
unfolding centre_on
centre-is b level code a h = rw (lt-ltb a b.axes h)

abbrev test_at : Float → ℕ → ℕ → Float → Bool
test_at s i j d = le (size_of (sub binary64 (centre_at s j d) (centre_at s i d))) (add binary64 tolerance (mul binary64 half (add binary64 s s)))

near-is : (b : Box) (j k a : ℕ) → level_of j ≡ level_of k → a < b.axes
    → near_at b j k a ≡ test_at (side b.radius (level_of j)) (anchor b.axes a (level_of j) (code_of j)) (anchor b.axes a (level_of j) (code_of k)) (moved b a)
unfolding near_at
near-is b j k a e h =
    ap (λ (l : ℕ). le (size_of (sub binary64 (centre_on b l (code_of k) a) (centre_on b (level_of j) (code_of j) a))) (add binary64 tolerance (mul binary64 half (add binary64 (side b.radius (level_of j)) (side b.radius l))))) (sym e)
    ∙ ap₂ (λ (x y : Float). le (size_of (sub binary64 x y)) (add binary64 tolerance (mul binary64 half (add binary64 (side b.radius (level_of j)) (side b.radius (level_of j))))))
    (centre-is b (level_of j) (code_of k) a h) (centre-is b (level_of j) (code_of j) a h)

centre-known : (b : Box) (a : ℕ) → Fine b → a < b.axes → centre_known (get_or b.centre a nan) ≡ true
unfolding centres_known
centre-known b a F h = every-at (λ a. centre_known (get_or b.centre a nan)) b.axes F.centre a h

-- ---- one axis agrees
module _ (k e m : ℕ) (S : Scale binary64 k e m) (b : Box) (H : Held b) (F : Fine b) where
  R : Radius b.radius
  R = radius b.radius H.radius F.radius

  axis : (l a i j : ℕ) → l ≤ 16 → a < b.axes → i < 2 ^ l → j < 2 ^ l → test_at (side b.radius l) i j (moved b a) ≡ within1 i j
  axis l a i j L h I J =
      let s = sided e b.radius l S.unit R L in
      let t = tolerant k e m S in
      let r = radius-units b.radius R in
      let c = centre-units (get_or b.centre a nan) (H.centre a) (centre-known b a F h) in
      let d = difference binary64 k e m S (get_or b.centre a nan) b.radius c.0 c.1 r.0 c.2 r.1 c.3 r.2 in
      let deep : 2 ^ l ≤ 65536 = pow_mono L in
      axis-agrees binary64 k e m S (side b.radius l) tolerance half (moved b a) s.0 t.0 d.0
      (record {
        side_is = s.1.value;
        tolerance_is = t.1.value;
        half_is = half-value;
        displacement_is = d.1.is;
        s_least = s.1.least;
        s_most = s.1.most;
        t_least = t.1.least;
        t_most = t.1.most;
        d_least = d.1.least;
        d_most = d.1.most;
      })
      (add binary64 (of_int binary64 (pos i)) half) (add binary64 (of_int binary64 (pos j)) half) i j (and-half i (lt_of_lt_of_le I deep)) (and-half j (lt_of_lt_of_le J deep)) (s.1.part i I) (s.1.part j J)

-- ---- in binary64 an error of 2 ^ 1046 units is 2 ^ -28
scale : Scale binary64 1046 (2 ^ 1046) (18014398509481984 * 2 ^ 1046)
scale = record { fine = lit< tt; error = refl; top = refl; middle = refl; unit = refl }

-- ---- every axis agrees
module _ (b : Box) (H : Held b) (F : Fine b) (j k : ℕ) (l : level_of j ≤ 16) (e : level_of j ≡ level_of k) where
  all-agree : near_on b.axes b j k ≡ near b.axes b.axes (level_of j) (code_of j) (code_of k)
  unfolding near
  all-agree =
      every-same (near_at b j k) (λ a. within1 (anchor b.axes a (level_of j) (code_of j)) (anchor b.axes a (level_of j) (code_of k))) b.axes
      (λ a h. near-is b j k a e h ∙ axis 1046 (2 ^ 1046) (18014398509481984 * 2 ^ 1046) scale b H F (level_of j) a (anchor b.axes a (level_of j) (code_of j)) (anchor b.axes a (level_of j) (code_of k)) l h
      (anchor-lt b.axes a (level_of j) (code_of j)) (anchor-lt b.axes a (level_of j) (code_of k)))

  pub tests_agree : near_on b.axes b j k ≡ touching b.axes j k
  tests_agree = all-agree ∙ rw (eq-eqb (level_of j) (level_of k) e)

-- ---- the calls
module _ (b : Box) (j k : ℕ) (o : OneLevel b j k) where
  float-done : keys_outcome b j k ≡ accepted
  float-done = rw (o.box, o.first, o.second)

  anchor-done : pair_check b.axes j k ≡ accepted
  anchor-done = let F = fine b o.box in rw (axes-known b.axes F.least F.most, o.first, o.second)

-- the float test and the anchor test give the same yes or no
pub agree : (b : Box) (j k : ℕ) → Held b → Agree b j k (are_adjacent b j k)
agree b j k H o =
    let l : level_of j ≤ 16 = leb-true (level_of j) 16 (and_l _ _ o.first) in
    record {
      answer = touching b.axes j k;
      float = ap (λ x. x then Ok (near_on b.axes b j k)) (float-done b j k o) ∙ ap Ok (tests_agree b H (fine b o.box) j k l o.level);
      anchor = ap (λ x. x then Ok (touching b.axes j k)) (anchor-done b j k o);
    }

-- both promises of the call, from the first
pub promised : (b : Box) (j k : ℕ) (r : Answer Bool) → Held b → r ≡ are_adjacent b j k → (r ≡ are_adjacent b j k) × Agree b j k r
promised b j k r H e = (e, subst (λ (r : Answer Bool). Agree b j k r) (sym e) (agree b j k H))
