-- `survey::check_file` meets its contract.
use mathlib.Core.Path.{sym, ap, ◌∙◌}
use mathlib.Core.Bool.{◌&&◌}
use Prim.Native.Nat.{ℕ, ◌/◌}
use native.Mathlib.Omega.{arith}
use lib.ListN.{length}
use borrow.Author.Tests.{not-true, not-false}
use Rattle.morton.specs.Keys.{axes_known}
use Rattle.morton.proofs.Checks.{axes-facts}
use Rattle.survey.specs.File.{axes, flags, size_known, flags_known, rows_fill}
use Rattle.survey.proofs.Surveys.{size-off, axes-off, rest-off, all_right, size_low, size-high, size-fine, flags-off, flags-fine}
use Rattle.survey.proofs.check_file.Goals as goal

pub returns-then-file-lt64 : goal.returns-then-file-lt64
returns-then-file-lt64 c = size-off (size_known c.args.file.now) (axes_known (axes c.args.file.now)) (flags_known c.args.file.now && rows_fill c.args.file.now) (size_low (length c.args.file.now) c.if-file-lt64.true)

pub returns-then-file-gt32768 : goal.returns-then-file-gt32768
returns-then-file-gt32768 c = size-off (size_known c.args.file.now) (axes_known (axes c.args.file.now)) (flags_known c.args.file.now && rows_fill c.args.file.now) (size-high (length c.args.file.now) c.if-file-gt32768.true)

pub returns-then-not-axes_known : goal.returns-then-not-axes_known
returns-then-not-axes_known c = axes-off (size_known c.args.file.now) (axes_known (axes c.args.file.now)) (flags_known c.args.file.now && rows_fill c.args.file.now) (size-fine (length c.args.file.now) c.if-file-lt64.false c.if-file-gt32768.false) (ap axes_known (sym c.u32_at-axes.ensures.0) ∙ sym c.axes_known.ensures ∙ c.if-not-axes_known.true)

pub returns-then-u32_at-ne0 : goal.returns-then-u32_at-ne0
returns-then-u32_at-ne0 c = rest-off (size_known c.args.file.now) (axes_known (axes c.args.file.now)) (flags_known c.args.file.now && rows_fill c.args.file.now) (size-fine (length c.args.file.now) c.if-file-lt64.false c.if-file-gt32768.false) (ap axes_known (sym c.u32_at-axes.ensures.0) ∙ sym c.axes_known.ensures ∙ c.if-not-axes_known.false) (flags-off (flags c.args.file.now / 2) (rows_fill c.args.file.now) (λ e. c.if-u32_at-ne0.true (ap (λ (n : ℕ). n / 2) c.u32_at.ensures.0 ∙ e)))

pub rows_fill-requires : goal.rows_fill-requires
rows_fill-requires c = let k = axes-facts _ (sym c.axes_known.ensures ∙ c.if-not-axes_known.false) in
    (omega (arith, c.if-file-lt64.false), c.u32_at-axes.ensures.0, k.1)

pub returns-then-not-rows_fill : goal.returns-then-not-rows_fill
returns-then-not-rows_fill c = rest-off (size_known c.args.file.now) (axes_known (axes c.args.file.now)) (flags_known c.args.file.now && rows_fill c.args.file.now) (size-fine (length c.args.file.now) c.if-file-lt64.false c.if-file-gt32768.false) (ap axes_known (sym c.u32_at-axes.ensures.0) ∙ sym c.axes_known.ensures ∙ c.if-not-axes_known.false)
    (flags-fine (flags c.args.file.now / 2) (rows_fill c.args.file.now) (ap (λ (n : ℕ). n / 2) (sym c.u32_at.ensures.0) ∙ c.if-u32_at-ne0.false) ∙ sym c.rows_fill.ensures ∙ c.if-not-rows_fill.true)

pub returns : goal.returns
returns c = all_right (size_known c.args.file.now) (axes_known (axes c.args.file.now)) (flags_known c.args.file.now && rows_fill c.args.file.now) (size-fine (length c.args.file.now) c.if-file-lt64.false c.if-file-gt32768.false) (ap axes_known (sym c.u32_at-axes.ensures.0) ∙ sym c.axes_known.ensures ∙ c.if-not-axes_known.false)
    (flags-fine (flags c.args.file.now / 2) (rows_fill c.args.file.now) (ap (λ (n : ℕ). n / 2) (sym c.u32_at.ensures.0) ∙ c.if-u32_at-ne0.false) ∙ sym c.rows_fill.ensures ∙ c.if-not-rows_fill.false)
