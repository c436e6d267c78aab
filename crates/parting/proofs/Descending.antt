-- The span of a cell from that of its parent, and the count of a grid's points by it.
use mathlib.Core.Path.{◌≡◌, refl, sym, ap, ◌∙◌, subst}
use mathlib.Core.Bool.{Bool, true, false, cond, true≢false}
use mathlib.Core.List.{List}
use Prim.Native.Nat.{ℕ, ◌*◌, ◌%◌, ◌^◌, ◌≤◌, ◌<◌}
use native.Mathlib.Nat.{le_of_eq, mod-lt}
use native.Mathlib.Omega.{arith}
use lib.ListN.{take}
use lib.Pow.{low, pow_pos}
use Rattle.morton.specs.Keys.{level_of, code_of, child, ValidKey}
use Rattle.morton.specs.Depth.{reference_depth}
use Rattle.morton.proofs.Arithmetic.{one_shifted}
use Rattle.refine.specs.Counts.{targets_in}
use Rattle.refine.specs.Refinement.{splits_by}
use Rattle.refine.specs.Sums.{OfSources}
use Rattle.grids.specs.declared.spans.Span.{Span}
use Rattle.grids.specs.Grids.{product}
use Rattle.grids.specs.Ranges.{grid_codes}
use Rattle.grids.specs.Spans.{length_on, Spanned, Parted, HalfTaken, Counts}
use Rattle.grids.proofs.Halves.{half-spanned, span_counts, span-targets}
use Rattle.growth.specs.declared.Rule.{Rule}
use Rattle.parting.specs.declared.Sizes.{Sizes}
use Rattle.parting.specs.Cells.{Points}
use Rattle.parting.specs.Setting.{setting, Refined, Given, CountsPoints}
use Rattle.parting.specs.Spans.{At, SpanAt, Over, SpanOver, Descended}
use Rattle.parting.proofs.Digits.{child-code}

-- the parent of each child of a cell is the cell
pub over-child : (d : ℕ) (z : Sizes) (k c j : ℕ) → SpanAt d z k → level_of k < 16 → c < 2 ^ d → j ≡ child d k c → SpanOver d z j
over-child d z k c j s l h e t = record { above = k; digit = c; is = e; small = h; low = l; at = s t }

module _ (d : ℕ) (z : Sizes) (k : ℕ) (o : Over d z k) where
  -- the digit of a cell in its parent, as it is read off its code
  pub digit-is : code_of k % 2 ^ d ≡ o.digit
  digit-is = ap (λ (n : ℕ). n % 2 ^ d) (ap code_of o.is ∙ child-code d o.above o.low o.digit o.small) ∙ low (code_of o.above) d o.small

  -- the half that the digit takes, as the code computes it
  pub half-by : (m : ℕ) → m ≡ code_of k % 2 ^ d → (s : Span) → HalfTaken d z.span m s → HalfTaken d z.span o.digit s
  half-by m e s h = subst (λ (n : ℕ). HalfTaken d z.span n s) (e ∙ digit-is) h

  -- its half of the parent's span is its span
  pub half_is : (s : Span) → HalfTaken d z.span o.digit s → Spanned z.frame z.grid k s
  half_is s h =
      let f = z.frame in
      let axes = o.at.axes in
      subst (λ (j : ℕ). Spanned f z.grid j s) (ap (λ (n : ℕ). child n o.above o.digit) axes ∙ sym o.is)
      (half-spanned f z.grid o.above o.digit o.low (subst (λ (n : ℕ). o.digit < 2 ^ n) (sym axes) o.small) z.span s o.at.parted (subst (λ (n : ℕ). HalfTaken n z.span o.digit s) (sym axes) h))

  pub half-counts : (s : Span) → HalfTaken d z.span o.digit s → Counts d s
  half-counts s h = subst (λ (n : ℕ). Counts n s) o.at.axes (span_counts z.frame z.grid o.at.fits k s (half_is s h))

-- ---- the digit as the code computes it
module _ (d : ℕ) (most : d ≤ 3) (k : ℕ) (m : ℕ) (is : m ≡ code_of k % (1 * 2 ^ d % 2 ^ 64)) where
  pub digit-read : m ≡ code_of k % 2 ^ d
  digit-read = is ∙ ap (λ (n : ℕ). code_of k % n) (one_shifted d (omega arith))

  pub digit-small : m < 2 ^ d
  digit-small = subst (λ (n : ℕ). n < 2 ^ d) (sym digit-read) (mod-lt (code_of k) (pow_pos d))

pub some-children : (d : ℕ) → d ≤ 3 → 0 < 1 * 2 ^ d % 2 ^ 64
some-children d h = subst (λ (n : ℕ). 0 < n) (sym (one_shifted d (omega arith))) (pow_pos d)

-- ---- what the grid's points decide
module _ (g : Rule) (z : Sizes) (sums : List ℕ) (k : ℕ) (good : ValidKey g.axes k) (some : 0 < z.targets) (on : z.gridded ≡ true) (o : Over g.axes z k) (half : Span) (h : HalfTaken g.axes z.span o.digit half)
    (held : ℕ) (is : held ≡ product (length_on half) 0 g.axes) where
  pub points-few : held ≤ 1048576
  points-few = omega (arith, (half-counts g.axes z k o half h).few g.axes (le_of_eq refl), is)

  module _ (p : Points) (v : Given g (setting z sums) p) where
    refined : Refined g (setting z sums) p.sources p.targets
    refined = v.refined some

    targets_are : p.targets ≡ grid_codes z.frame z.grid
    targets_are = v.aimed ∙ ap (λ (t : Bool). cond t (grid_codes z.frame z.grid) (take z.targets p.beyond)) on

    held-is : held ≡ targets_in g.axes p.targets k
    held-is =
        let f = z.frame in
        let axes = o.at.axes in
        is
        ∙ ap (product (length_on half) 0) (sym axes)
        ∙ span-targets f z.grid o.at.fits k half (half_is g.axes z k o half h) (refined.lies_on_grid on).inside (subst (λ (n : ℕ). ValidKey n k) (sym axes) good)
        ∙ ap (λ (n : ℕ). targets_in n (grid_codes f z.grid) k) axes
        ∙ ap (λ (ts : List ℕ). targets_in g.axes ts k) (sym targets_are)

  pub points-told : (r : Bool) → OfSources g.axes z.depth sums (λ sources. r ≡ splits_by g.axes z.depth g.limit g.order sources held k) → CountsPoints g (setting z sums) k r
  points-told r told p v =
      told p.sources (refined p v).sums
      ∙ ap (λ (n : ℕ). splits_by g.axes z.depth g.limit g.order p.sources n k) (held-is p v)
      ∙ ap (λ (depth : ℕ). splits_by g.axes depth g.limit g.order p.sources (targets_in g.axes p.targets k) k) ((refined p v).deep ∙ ap (reference_depth g.axes) (sym v.all))

-- ---- the sizes with the span of the cell
abbrev pub spanning : Sizes → Span → Sizes
spanning z s = record { sources = z.sources; targets = z.targets; room = z.room; depth = z.depth; gridded = z.gridded; frame = z.frame; grid = z.grid; span = s }

pub stays_same : (d : ℕ) (z : Sizes) (k : ℕ) → z.gridded ≡ false → Descended d z k z
stays_same d z k off = record { same = λ sums. refl; at = λ on. absurd (true≢false (sym on ∙ off)) }

pub descended : (d : ℕ) (z : Sizes) (k : ℕ) → Over d z k → (s : Span) → Parted z.frame z.grid k s → (r : Sizes) → r ≡ spanning z s → Descended d z k r
descended d z k o s parted r e = record {
  same = λ sums. ap (λ (x : Sizes). setting x sums) e;
  at = λ on. subst (λ (x : Sizes). At d x k) (sym e) (record { fits = o.at.fits; axes = o.at.axes; parted = parted });
}
