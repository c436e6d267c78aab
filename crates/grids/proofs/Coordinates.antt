-- On an axis of a known grid the coordinates rise with the index, and so do the level-16 cells of a box of the domain: the indices before a cell come first.
use mathlib.Core.Path.{◌≡◌, refl, sym, subst, ◌∙◌}
use mathlib.Core.Bool.{Bool, true, ◌&&◌}
use Prim.Native.Nat.{ℕ, ◌≤◌, ◌<◌}
use native.Mathlib.Omega.{arith}
use lib.IntN.{pos}
use lib.Dec.{T, leb}
use lib.Ieee.{Float, nan, inf, fin, binary64, add, sub, mul, div, of_int}
use lib.Ieee.Scale.{finite}
use lib.Ieee.Positive.{positive}
use lib.ListN.{get_or}
use borrow.Author.Tests.{leb-true, leb-false, le-leb}
use Rattle.slices.proofs.Tests.{and_l, and_r}
use Rattle.slices.proofs.Every.{every-at}
use Rattle.space.specs.declared.Box.{Box}
use Rattle.space.specs.declared.Frame.{Frame}
use Rattle.space.specs.Floats.{is_finite}
use Rattle.space.specs.Cells.{quotient, frame_of, side}
use Rattle.space.proofs.Refusals.{Fine}
use Rattle.grids.specs.declared.Grid.{Grid}
use Rattle.grids.specs.Grids.{coordinate, shape_on, axis_known, grid_known}
use Rattle.grids.specs.Ranges.{step_on, frame_known, first_from}
use Rattle.grids.proofs.Compare.{Le}
use Rattle.grids.proofs.Monotone.{rises, whole_le, mul-rises, add-rises, sub-rises, div-rises}
use Rattle.grids.proofs.Steps.{steps-rise}
use Rattle.grids.proofs.Tallies.{tally-in, tally-out}
use Rattle.grids.proofs.Domain.{side-positive, frame-finite}

pub sure : {b : Bool} → b ≡ true → T b
sure h = subst T (sym h) tt

-- two words for one test
pub finite-is : (x : Float) → is_finite x ≡ finite x
finite-is nan = refl
finite-is (inf s) = refl
finite-is (fin s m e) = refl

pub surely-finite : (x : Float) → is_finite x ≡ true → T (finite x)
surely-finite x h = sure (sym (finite-is x) ∙ h)

-- ---- an axis of a known grid
pub record Axis (g : Grid) (a : ℕ) : Type 0 where
  pub shape : 1 ≤ shape_on g a
  pub origin : T (finite (get_or g.origin a nan))
  pub spacing : T (positive (get_or g.spacing a nan))

pub axis-known : (g : Grid) (a : ℕ) → axis_known g a ≡ true → Axis g a
axis-known g a h =
    let o = get_or g.origin a nan in
    let x = is_finite o in
    let y = positive (get_or g.spacing a nan) in
    let r = and_r (leb 1 (shape_on g a)) (x && y) h in
    record { shape = leb-true 1 (shape_on g a) (and_l (leb 1 (shape_on g a)) (x && y) h); origin = surely-finite o (and_l x y r); spacing = sure (and_r x y r) }

pub grid-axis : (d : ℕ) (g : Grid) → grid_known d g ≡ true → (a : ℕ) → a < d → Axis g a
unfolding grid_known
grid-axis d g h a l = axis-known g a (every-at (axis_known g) d h a l)

-- ---- the coordinates rise
pub coordinates-rise : (g : Grid) (a i j : ℕ) → Axis g a → i ≤ j → Le (coordinate g a i) (coordinate g a j)
coordinates-rise g a i j A h =
    let o = get_or g.origin a nan in
    let s = get_or g.spacing a nan in
    let x = of_int binary64 (pos i) in
    let y = of_int binary64 (pos j) in
    rises (λ z. add binary64 o z) (add-rises binary64 o A.origin) (mul binary64 x s) (mul binary64 y s)
    (rises (λ z. mul binary64 z s) (mul-rises binary64 s A.spacing) x y (whole_le binary64 i j h))

-- ---- and so do the steps of a frame's axis
pub record Framed (f : Frame) (a : ℕ) : Type 0 where
  pub displacement : T (finite (get_or f.displacement a nan))
  pub side : T (positive f.side)

pub box-framed : (b : Box) → Fine b → (a : ℕ) → a < b.axes → Framed (frame_of b) a
box-framed b F a h = record { displacement = frame-finite b F a h; side = side-positive b.radius F.radius }

pub axis-framed : (f : Frame) (a : ℕ) → frame_known f a ≡ true → Framed f a
axis-framed f a h =
    let o = get_or f.displacement a nan in
    let u = is_finite o in
    let v = positive f.side in
    record { displacement = surely-finite o (and_l u v h); side = sure (and_r u v h) }

module _ (f : Frame) (g : Grid) (a : ℕ) (F : Framed f a) (A : Axis g a) where
  pub quotients-rise : (i j : ℕ) → i ≤ j
      → Le (quotient (coordinate g a i) (get_or f.displacement a nan) f.side) (quotient (coordinate g a j) (get_or f.displacement a nan) f.side)
  quotients-rise i j h =
      let d = get_or f.displacement a nan in
      let s = f.side in
      let x = coordinate g a i in
      let y = coordinate g a j in
      rises (λ z. div binary64 z s) (div-rises binary64 s F.side) (sub binary64 x d) (sub binary64 y d)
      (rises (λ z. sub binary64 z d) (sub-rises binary64 d F.displacement) x y (coordinates-rise g a i j A h))

  pub grid-steps-rise : (i j : ℕ) → i ≤ j → step_on f g a i ≤ step_on f g a j
  unfolding step_on
  grid-steps-rise i j h =
      steps-rise (quotient (coordinate g a i) (get_or f.displacement a nan) f.side) (quotient (coordinate g a j) (get_or f.displacement a nan) f.side) (quotients-rise i j h)

-- ---- the indices before level-16 cell x are the first ones
module _ (f : Frame) (g : Grid) (a : ℕ) (F : Framed f a) (A : Axis g a) where
  before_falls : (x i j : ℕ) → i ≤ j → leb (step_on f g a j) x ≡ true → leb (step_on f g a i) x ≡ true
  before_falls x i j h e = le-leb (step_on f g a i) x (omega (arith, grid-steps-rise f g a F A i j h, leb-true (step_on f g a j) x e))

  pub before : (x i : ℕ) → i < first_from f g a x → step_on f g a i ≤ x
  unfolding first_from
  before x i h = leb-true (step_on f g a i) x (tally-in (λ i. leb (step_on f g a i) x) (before_falls x) (shape_on g a) i h)

  pub from : (x i : ℕ) → i < shape_on g a → first_from f g a x ≤ i → x < step_on f g a i
  unfolding first_from
  from x i l h = leb-false (step_on f g a i) x (tally-out (λ i. leb (step_on f g a i) x) (before_falls x) (shape_on g a) i l h)
