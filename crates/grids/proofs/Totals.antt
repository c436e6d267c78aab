-- What a build reads off a grid is what it would read off the listed points: how many there are, the first that is outside, and how many lie in each cell.
use mathlib.Core.Path.{◌≡◌, refl, sym, ap, ◌∙◌, subst}
use mathlib.Core.Bool.{true}
use mathlib.Core.List.{List}
use Prim.Native.Nat.{ℕ, ◌*◌, ◌%◌, ◌^◌, ◌≤◌, ◌<◌}
use native.Mathlib.Nat.{mul-mod_left}
use native.Mathlib.Omega.{arith}
use lib.Dec.{leb, ltb}
use lib.Ieee.{Float, nan}
use lib.Ieee.Scale.{finite}
use lib.Ieee.Positive.{positive}
use lib.Ieee.Bits.{is_true}
use lib.ListN.{length, get_or}
use borrow.Author.Tests.{leb-true, lt-ltb, le-ltb}
use Rattle.slices.proofs.Tests.{both}
use Rattle.refine.specs.Counts.{count_at}
use Rattle.space.specs.declared.Box.{Box}
use Rattle.space.specs.declared.Frame.{Frame}
use Rattle.space.specs.Cells.{frame_of, cell16}
use Rattle.space.specs.Walls.{first_wall}
use Rattle.space.specs.Rows.{inside_rows, codes16, or_inside, row_wall, first_outside, rows_of}
use Rattle.space.proofs.Refusals.{Fine}
use Rattle.space.proofs.Batches.{all-inside}
use Rattle.space.proofs.Unread.{point-unread}
use Rattle.laying.specs.Points.{codes_of}
use Rattle.grids.specs.declared.Grid.{Grid}
use Rattle.grids.specs.declared.Exit.{Exit}
use Rattle.grids.specs.Grids.{coordinate, shape_on, points_of, index_on, listed, grid_known, few_points}
use Rattle.grids.specs.Ranges.{first_from, Fitting, grid_count, grid_codes}
use Rattle.grids.specs.Exits.{grid_exit}
use Rattle.grids.proofs.Coordinates.{finite-is, grid-axis, axis-framed, box-framed}
use Rattle.grids.proofs.Listing.{listed-length, listed-rows, point, point_at}
use Rattle.grids.proofs.Counted.{counted-by}
use Rattle.grids.proofs.Exits.{Exits, exits, stays-whole}
use Rattle.space.specs.Inside.{Inside, all_inside}
use Rattle.std.specs.Prelude.{Err, None, Option, Some}

-- whole rows: 3 SHAPE is never told
pub listed-whole : (d : ℕ) (g : Grid) → length (listed d g) % d ≡ 0
listed-whole d g = ap (λ (n : ℕ). n % d) (listed-length d g) ∙ mul-mod_left (points_of d g) d

-- 4 COUNT
pub listed-few : (b : Box) (g : Grid) → 1 ≤ b.axes → leb (rows_of b (listed b.axes g)) 1048576 ≡ few_points b.axes g
listed-few b g h = ap (λ (n : ℕ). leb n 1048576) (listed-rows b g h)

module _ (b : Box) (g : Grid) (F : Fine b) (k : grid_known b.axes g ≡ true) where
  -- the calls of this crate may be made
  pub fitting : few_points b.axes g ≡ true → Fitting (frame_of b) g
  fitting h = record {
    least = F.least;
    most = F.most;
    known = k;
    framed = λ a l.
        let f = box-framed b F a l in
        both (finite-is (get_or (frame_of b).displacement a nan) ∙ is_true (finite (get_or (frame_of b).displacement a nan)) f.displacement) (is_true (positive (frame_of b).side) f.side);
    few = leb-true (points_of b.axes g) 1048576 h;
  }

-- ---- the first row that is outside, where a grid has one
abbrev pub outside_by : Frame → Grid → Option Exit → Inside
outside_by f g None = all_inside
outside_by f g (Some x) = Err (row_wall f (listed f.axes g) x.row)

-- two points with the same cells have the same wall
walls-agree : (i : ℕ) (f : Frame) (xs ys : List Float) → ((a : ℕ) → cell16 f xs a ≡ cell16 f ys a) → first_wall i f xs ≡ first_wall i f ys
unfolding first_wall
walls-agree i f xs ys e = rw (e 0, e 1, e 2)

module _ (f : Frame) (g : Grid) (F : Fitting f g) where
  pub fitting-exits : Exits f g (grid_exit f g)
  fitting-exits = exits f g F.most (λ a h. axis-framed f a (F.framed a h)) (grid-axis f.axes g F.known)

  exit-told : (e : Option Exit) → Exits f g e → first_outside (points_of f.axes g) f (listed f.axes g) ≡ outside_by f g e
  exit-told None h = stays (inside_rows (points_of f.axes g) f (listed f.axes g)) (points_of f.axes g) h
    where
      stays : (i n : ℕ) → i ≡ n → or_inside (ltb i n) (Err (row_wall f (listed f.axes g) i)) ≡ all_inside
      stays i n e = ap (λ t. or_inside t (Err (row_wall f (listed f.axes g) i))) (le-ltb i n (omega (arith, e)))
  exit-told (Some x) h = leaves (inside_rows (points_of f.axes g) f (listed f.axes g)) (points_of f.axes g) h.first h.row
    where
      leaves : (i n : ℕ) → i ≡ x.row → x.row < n → or_inside (ltb i n) (Err (row_wall f (listed f.axes g) i)) ≡ Err (row_wall f (listed f.axes g) x.row)
      leaves i n e l = ap (λ t. or_inside t (Err (row_wall f (listed f.axes g) i))) (lt-ltb i n (omega (arith, e))) ∙ ap (λ (j : ℕ). Err (row_wall f (listed f.axes g) j)) e

  stays : first_outside (points_of f.axes g) f (listed f.axes g) ≡ all_inside → grid_exit f g ≡ None
  stays e = go (grid_exit f g) fitting-exits
    where
      go : (x : Option Exit) → Exits f g x → x ≡ None
      go None h = refl
      go (Some x) h = let z : ◌≡◌ {A = ℕ} 0 1 = clash (sym (exit-told (Some x) h) ∙ e) in absurd (omega arith)
        where
          clash : Err (row_wall f (listed f.axes g) x.row) ≡ all_inside → ◌≡◌ {A = ℕ} 0 1
          clash q = cc

  -- where all points are inside, all indices of an axis are
  pub ends-of-whole : first_outside (points_of f.axes g) f (listed f.axes g) ≡ all_inside → (a : ℕ) → a < f.axes → (first_from f g a 0 ≡ 0) × (first_from f g a 65536 ≡ shape_on g a)
  ends-of-whole e a h = stays-whole f g F.most (λ a h. axis-framed f a (F.framed a h)) (grid-axis f.axes g F.known) (stays e) a h

  -- what the exit tells is the wall of the first listed point that is outside
  pub outside_told : (e : Option Exit) → e ≡ grid_exit f g → outside_by f g e ≡ first_outside (points_of f.axes g) f (listed f.axes g)
  outside_told e h = sym (exit-told e (subst (λ x. Exits f g x) (sym h) fitting-exits))

  pub exit-row : (e : Option Exit) (x : Exit) → e ≡ grid_exit f g → e ≡ Some x → x.row < points_of f.axes g
  exit-row e x p q = (subst (λ y. Exits f g y) (sym p ∙ q) fitting-exits).row

  -- a point with the row's coordinates has the row's wall
  pub wall-same : (r : ℕ) → r < points_of f.axes g → (xs : List Float) → ((a : ℕ) → a < f.axes → get_or xs a nan ≡ coordinate g a (index_on f.axes g a r))
      → first_wall r f xs ≡ row_wall f (listed f.axes g) r
  wall-same r R xs same = walls-agree r f xs (point f g r R) (point-unread f (point f g r R) xs (λ a h. same a h ∙ sym (point_at f g r R a h)))

  -- all points are inside: then as many lie in a cell as its ranges say
  pub grid-counted : first_outside (points_of f.axes g) f (listed f.axes g) ≡ all_inside → (level code : ℕ) → level ≤ 16 → code < 2 ^ (f.axes * level)
      → count_at f.axes (grid_codes f g) level code ≡ grid_count f g level code
  unfolding grid_codes
  grid-counted e level code l c = counted-by f g F.most level code l c (points_of f.axes g) refl (all-inside (points_of f.axes g) f (listed f.axes g) e)

-- the listed points' codes
pub listed-codes : (b : Box) (g : Grid) → 1 ≤ b.axes → codes_of b (listed b.axes g) ≡ grid_codes (frame_of b) g
unfolding grid_codes
listed-codes b g h = ap (λ (n : ℕ). codes16 n (frame_of b) (listed b.axes g)) (listed-rows b g h)
