-- A build on a grid: its chain of checks is that of a build on the listed points.
use mathlib.Core.Path.{◌≡◌, refl, sym, ap, ap₂, subst, ◌∙◌}
use mathlib.Core.Bool.{Bool, true, false, cond, true≢false}
use mathlib.Core.List.{List, []}
use Prim.Native.Nat.{ℕ, suc, ◌+◌, ◌*◌, ◌-◌, ◌/◌, ◌%◌, ◌^◌, ◌≤◌, ◌<◌}
use native.Mathlib.Nat.{zero-add, zero-div, zero-mod, mul-pos}
use mathlib.Core.Logic.{◌⊎◌, inl, inr}
use native.Mathlib.Omega.{arith}
use lib.Dec.{leb, ltb, eqb}
use lib.Ieee.{Float}
use lib.ListN.{length, get_or, take, drop}
use lib.Seq.{slice}
use borrow.Author.Tests.{leb-true, le-leb, lt-leb, le-ltb, eq-eqb, ne_eqb, eqb-true}
use Rattle.slices.proofs.Tests.{lt-or-le}
use Rattle.refusal.specs.declared.Refusal.{Refusal}
use Rattle.refusal.specs.declared.Refusal.TheVariants.{Shape, Count, Order, Source, Point, Room, Grid as GridRefused}
use Rattle.refusal.specs.Chain.{ask, ◌then◌}
use Rattle.refusal.proofs.Chain.{after-done, after-refused, both-done, asked}
use Rattle.axes.proofs.Known.{axes-known}
use Rattle.space.specs.declared.Box.{Box}
use Rattle.space.specs.declared.Frame.{Frame}
use Rattle.space.specs.Domain.{box_outcome}
use Rattle.space.specs.Cells.{frame_of}
use Rattle.space.specs.Rows.{inside_rows, or_inside, row_wall, first_outside, rows_of, rows_inside, wall_of}
use Rattle.space.proofs.Refusals.{Fine, fine}
use Rattle.space.proofs.Batches.{codes-length}
use Rattle.laying.specs.Points.{codes_of}
use Rattle.laying.specs.Outcomes.{order_fits, asked_outcome, inside_outcome, work_need, work_outcome}
use Rattle.laying.specs.Layout.{CodesLaid}
use Rattle.laying.proofs.Calls.{Called, checked}
use Rattle.laying.proofs.Inside.{walled, as-walls}
use Rattle.grids.specs.declared.Grid.{Grid}
use Rattle.grids.specs.Grids.{shape_on, points_of, listed, grid_known, few_points}
use Rattle.grids.specs.Ranges.{Fitting, grid_codes}
use Rattle.grids.proofs.Products.{product-pos}
use Rattle.grids.proofs.Sized.{some-points}
use Rattle.grids.proofs.Listing.{listed-length, listed-rows}
use Rattle.grids.proofs.Totals.{listed-whole, listed-few, listed-codes, fitting}
use Rattle.grid_laying.specs.Outcomes.{grid_outcome}
use Rattle.grid_laying.specs.Layout.{Sited, GridLaid}
use Rattle.refusal.specs.Outcome.{Outcome, accepted}
use Rattle.std.specs.Prelude.{Err, Ok}
use Rattle.space.specs.Inside.{Inside, all_inside}

-- ---- chains
pub then-done : (o : Outcome) → o then accepted ≡ o
then-done (Ok tt) = refl
then-done (Err r) = refl

pub then-all : (o p q : Outcome) → o then (p then q) ≡ (o then p) then q
then-all (Ok tt) p q = refl
then-all (Err r) p q = refl

pass : (t : Bool) (r : Refusal) → t ≡ true → ask t r ≡ accepted
pass t r e = ap (λ (b : Bool). ask b r) e

-- ---- no points
no_rows : (b : Box) → rows_of b [] ≡ 0
no_rows b = zero-div b.axes

none_inside : (b : Box) → eqb (rows_inside b []) (rows_of b []) ≡ true
none_inside b = subst (λ (n : ℕ). eqb (inside_rows n (frame_of b) []) n ≡ true) (sym (no_rows b)) start
  where
    start : eqb (inside_rows 0 (frame_of b) []) 0 ≡ true
    start = unfold inside_rows in refl

none-outside-rows : (b : Box) → first_outside (rows_of b []) (frame_of b) [] ≡ all_inside
none-outside-rows b = subst (λ (n : ℕ). first_outside n (frame_of b) [] ≡ all_inside) (sym (no_rows b)) (unfold inside_rows in refl)

-- the checks of the sources alone, and of the points alone
pub sources-walls : (b : Box) (s : List Float) → inside_outcome b s [] ≡ walled Source (first_outside (rows_of b s) (frame_of b) s)
sources-walls b s = as-walls b s [] ∙ ap (λ (i : Inside). walled Source (first_outside (rows_of b s) (frame_of b) s) then walled Point i) (none-outside-rows b) ∙ then-done (walled Source (first_outside (rows_of b s) (frame_of b) s))

pub points-walls : (b : Box) (t : List Float) → inside_outcome b [] t ≡ walled Point (first_outside (rows_of b t) (frame_of b) t)
points-walls b t = as-walls b [] t ∙ ap (λ (i : Inside). walled Source i then walled Point (first_outside (rows_of b t) (frame_of b) t)) (none-outside-rows b)

pub none_needed : (b : Box) (s : List Float) → work_need b s [] ≡ rows_of b s + rows_of b s
none_needed b s = omega (arith, no_rows b)

module _ (b : Box) (s : List Float) (g : Grid) (order : ℕ) (least : 1 ≤ b.axes) where
  abbrev t : List Float
  t = listed b.axes g

  -- 3, 4 and 5 of the listed points: they are whole rows
  asked-split : asked_outcome b s (listed b.axes g) order ≡ (asked_outcome b s [] order then ask (few_points b.axes g) Count) then ask (order_fits order (listed b.axes g)) Order
  unfolding asked_outcome
  asked-split =
      let x = box_outcome b then ask (eqb (length s % b.axes) 0) Shape in
      let y = ask (leb (rows_of b s) 1048576) Count in
      let few = ask (few_points b.axes g) Count in
      let last = ask (order_fits order t) Order in
      let whole = pass (eqb (length t % b.axes) 0) Shape (eq-eqb (length t % b.axes) 0 (listed-whole b.axes g)) in
      let whole0 = pass (eqb (0 % b.axes) 0) Shape (eq-eqb (0 % b.axes) 0 (zero-mod b.axes)) in
      let few0 = pass (leb (rows_of b []) 1048576) Count (le-leb (rows_of b []) 1048576 (omega (arith, no_rows b))) in
      ap₂ (λ (p q : Outcome). (((x then p) then y) then q) then last) whole (ap (λ (u : Bool). ask u Count) (listed-few b g least))
      ∙ ap (λ (p : Outcome). (p then few) then last) (sym (then-done ((x then accepted) then y)))
      ∙ ap (λ (p : Outcome). (p then few) then last) (sym (then-done (((x then accepted) then y) then accepted)))
      ∙ ap₂ (λ (p q : Outcome). (((((x then p) then y) then q) then accepted) then few) then last) (sym whole0) (sym few0)

  pub call-split : (r : Refusal) → asked_outcome b s [] order ≡ Err r → Err r ≡ asked_outcome b s (listed b.axes g) order
  call-split r e = sym (asked-split ∙ ap (λ (o : Outcome). (o then ask (few_points b.axes g) Count) then ask (order_fits order t) Order) e)

  module _ (o : asked_outcome b s [] order ≡ accepted) where
    rest : asked_outcome b s (listed b.axes g) order ≡ ask (few_points b.axes g) Count then ask (order_fits order (listed b.axes g)) Order
    rest = asked-split ∙ ap (λ (o : Outcome). (o then ask (few_points b.axes g) Count) then ask (order_fits order t) Order) o

    pub many-points : few_points b.axes g ≡ false → Err Count ≡ asked_outcome b s (listed b.axes g) order
    many-points e = sym (rest ∙ ap (λ (u : Bool). ask u Count then ask (order_fits order t) Order) e)

    module _ (few : few_points b.axes g ≡ true) where
      last : asked_outcome b s (listed b.axes g) order ≡ ask (order_fits order (listed b.axes g)) Order
      last = rest ∙ ap (λ (u : Bool). ask u Count then ask (order_fits order t) Order) few

      module _ (some : length (listed b.axes g) ≡ 0 → ⊥) where
        pub order-none : order < 1 → Err Order ≡ asked_outcome b s (listed b.axes g) order
        order-none h = sym (rw (last, ne_eqb (length t) 0 some, lt-leb 1 order h))

        module _ (one : 1 ≤ order) where
          pub order-large : 64 < order → Err Order ≡ asked_outcome b s (listed b.axes g) order
          order-large h = sym (rw (last, ne_eqb (length t) 0 some, le-leb 1 order one, lt-leb order 64 h))

          pub order-known : order ≤ 64 → accepted ≡ asked_outcome b s (listed b.axes g) order
          order-known h = sym (rw (last, ne_eqb (length t) 0 some, le-leb 1 order one, le-leb order 64 h))

-- ---- 6 and 7: the sources, and then the points
pub inside-split : (b : Box) (s t : List Float) → inside_outcome b s t ≡ inside_outcome b s [] then inside_outcome b [] t
unfolding inside_outcome
inside-split b s t =
    let x = ask (eqb (rows_inside b s) (rows_of b s)) (Source (wall_of b s)) in
    let y = ask (eqb (rows_inside b t) (rows_of b t)) (Point (wall_of b t)) in
    ap (λ (p : Outcome). p then y) (sym (then-done x))
    ∙ ap₂ (λ (p q : Outcome). (x then p) then (q then y)) (sym (pass (eqb (rows_inside b []) (rows_of b [])) (Point (wall_of b [])) (none_inside b))) (sym (pass (eqb (rows_inside b []) (rows_of b [])) (Source (wall_of b [])) (none_inside b)))

-- ---- a sited build
module _ (b : Box) (g : Grid) (S : Sited b g) where
  pub sited-box : Fine b
  sited-box = fine b S.box

  pub sited-fits : Fitting (frame_of b) g
  sited-fits = fitting b g sited-box S.known S.few

  pub sited-rows : rows_of b (listed b.axes g) ≡ points_of b.axes g
  sited-rows = listed-rows b g sited-box.least

  -- all listed points are inside
  pub sited-inside : inside_outcome b [] (listed b.axes g) ≡ accepted → first_outside (points_of b.axes g) (frame_of b) (listed b.axes g) ≡ all_inside
  unfolding inside_outcome
  sited-inside e =
      let t = listed b.axes g in
      let q = (both-done (ask (eqb (rows_inside b []) (rows_of b [])) (Source (wall_of b []))) (ask (eqb (rows_inside b t) (rows_of b t)) (Point (wall_of b t))) e).1 in
      let all : rows_inside b t ≡ rows_of b t = eqb-true (rows_inside b t) (rows_of b t) (asked _ _ q) in
      subst (λ (n : ℕ). first_outside n (frame_of b) t ≡ all_inside) sited-rows (stays (rows_inside b t) (rows_of b t) all)
    where
      stays : (i n : ℕ) → i ≡ n → or_inside (ltb i n) (Err (row_wall (frame_of b) (listed b.axes g) i)) ≡ all_inside
      stays i n e = ap (λ (u : Bool). or_inside u (Err (row_wall (frame_of b) (listed b.axes g) i))) (le-ltb i n (omega (arith, e)))

-- what the grid's first point that is outside tells, as a build on the listed points reads it
pub points-out : (b : Box) (g : Grid) → 1 ≤ b.axes → (f : Frame) → f ≡ frame_of b → (r : Inside) → r ≡ first_outside (points_of f.axes g) f (listed f.axes g)
    → r ≡ first_outside (rows_of b (listed b.axes g)) (frame_of b) (listed b.axes g)
points-out b g h f e r is =
    is ∙ ap (λ (x : Frame). first_outside (points_of x.axes g) x (listed x.axes g)) e ∙ ap (λ (n : ℕ). first_outside n (frame_of b) (listed b.axes g)) (sym (listed-rows b g h))

-- ---- 1, 2 and 16 first
module _ (b : Box) (g : Grid) (o : Outcome) where
  pub box-first : (r : Refusal) → box_outcome b ≡ Err r → Err r ≡ grid_outcome b g then o
  box-first r e = sym (ap (λ (x : Outcome). (x then ask (grid_known b.axes g) GridRefused) then o) e)

  module _ (e : box_outcome b ≡ accepted) where
    pub grid-first : grid_known b.axes g ≡ false → Err GridRefused ≡ grid_outcome b g then o
    grid-first k = sym (ap (λ (x : Outcome). (x then ask (grid_known b.axes g) GridRefused) then o) e ∙ ap (λ (u : Bool). ask u GridRefused then o) k)

    pub grid-passed : grid_known b.axes g ≡ true → (r : Outcome) → r ≡ o → r ≡ grid_outcome b g then o
    grid-passed k r is = is ∙ sym (ap (λ (x : Outcome). (x then ask (grid_known b.axes g) GridRefused) then o) e ∙ ap (λ (u : Bool). ask u GridRefused then o) k)

-- a known grid has points
pub listed-some : (d : ℕ) (g : Grid) → 1 ≤ d → grid_known d g ≡ true → length (listed d g) ≡ 0 → ⊥
listed-some d g h k e =
    let p : 1 ≤ points_of d g = product-pos (shape_on g) 0 d (λ i l. subst (λ (a : ℕ). 1 ≤ shape_on g a) (sym (zero-add i)) (some-points d g k i l)) in
    omega (arith, e, listed-length d g, mul-pos p h)

-- where the call is not refused
pub sited-of : (b : Box) (s : List Float) (g : Grid) (order : ℕ) → grid_outcome b g then asked_outcome b s (listed b.axes g) order ≡ accepted
    → Sited b g × (rows_of b s ≤ 1048576) × (order ≤ 64)
sited-of b s g order e =
    let q = both-done (grid_outcome b g) (asked_outcome b s (listed b.axes g) order) e in
    let p = both-done (box_outcome b) (ask (grid_known b.axes g) GridRefused) q.0 in
    let c = checked b s (listed b.axes g) order q.1 in
    let known = asked (grid_known b.axes g) GridRefused p.1 in
    let some = listed-some b.axes g c.box.least known in (
      record { box = p.0; known = known; few = sym (listed-few b g c.box.least) ∙ le-leb (rows_of b (listed b.axes g)) 1048576 c.fewer },
      c.few,
      c.fits (more (length (listed b.axes g)) some),
    )
  where
    more : (n : ℕ) → (n ≡ 0 → ⊥) → 0 < n
    more n h = go (lt-or-le 0 n)
      where
        go : (0 < n) ⊎ (n ≤ 0) → 0 < n
        go (inl l) = l
        go (inr l) = absurd (h (omega arith))

-- ---- the points, and then the work
module _ (b : Box) (s t : List Float) where
  pub sources-first : (r : Refusal) → inside_outcome b s [] ≡ Err r → inside_outcome b s t ≡ Err r
  sources-first r e = inside-split b s t ∙ ap (λ (o : Outcome). o then inside_outcome b [] t) e

  pub points-then : inside_outcome b s [] ≡ accepted → inside_outcome b s t ≡ inside_outcome b [] t
  points-then e = inside-split b s t ∙ ap (λ (o : Outcome). o then inside_outcome b [] t) e

  pub points-passed : inside_outcome b s t ≡ accepted → inside_outcome b [] t ≡ accepted
  points-passed e = (both-done (inside_outcome b s []) (inside_outcome b [] t) (sym (inside-split b s t) ∙ e)).1

  module _ (work : ℕ) where
    pub work-short : work < rows_of b s + rows_of b s → work_outcome b s [] work ≡ Err (Room 1)
    unfolding work_outcome
    work-short h = ap (λ (u : Bool). ask u (Room 1)) (lt-leb (work_need b s []) work (omega (arith, none_needed b s)))

    pub work-passed : rows_of b s + rows_of b s ≤ work → work_outcome b s [] work ≡ accepted
    unfolding work_outcome
    work-passed h = ap (λ (u : Bool). ask u (Room 1)) (le-leb (work_need b s []) work (omega (arith, none_needed b s)))

    pub work-room : inside_outcome b s t then work_outcome b s [] work ≡ accepted → rows_of b s + rows_of b s ≤ work
    unfolding work_outcome
    work-room e = omega (arith, none_needed b s, leb-true (work_need b s []) work (asked (leb (work_need b s []) work) (Room 1) (both-done (inside_outcome b s t) (ask (leb (work_need b s []) work) (Room 1)) e).1))

-- ---- the chain up to the work
module _ (b : Box) (s : List Float) (g : Grid) (order work : ℕ) where
  abbrev t' : List Float
  t' = listed b.axes g

  pub checks-early : (r : Refusal) → grid_outcome b g then asked_outcome b s (listed b.axes g) order ≡ Err r
      → grid_outcome b g then asked_outcome b s (listed b.axes g) order then inside_outcome b s (listed b.axes g) then work_outcome b s [] work ≡ Err r
  checks-early r e = ap (λ (o : Outcome). (o then inside_outcome b s t') then work_outcome b s [] work) e

  pub checks-of : grid_outcome b g then asked_outcome b s (listed b.axes g) order ≡ accepted
      → grid_outcome b g then asked_outcome b s (listed b.axes g) order then inside_outcome b s (listed b.axes g) then work_outcome b s [] work ≡ inside_outcome b s (listed b.axes g) then work_outcome b s [] work
  checks-of e = ap (λ (o : Outcome). (o then inside_outcome b s t') then work_outcome b s [] work) e

  pub laid_of : grid_outcome b g then asked_outcome b s (listed b.axes g) order ≡ accepted → inside_outcome b s (listed b.axes g) then work_outcome b s [] work ≡ accepted
      → (words : List ℕ) → length words ≡ work → CodesLaid b s [] words → GridLaid b s g order words
  laid_of e d words long laid =
      let sited = sited-of b s g order e in
      record {
        sited = sited.0;
        few = sited.1;
        fits = sited.2;
        inside = points-passed b s t' (both-done (inside_outcome b s t') (work_outcome b s [] work) d).0;
        room = omega (arith, long, work-room b s t' work d);
        laid = laid;
      }
