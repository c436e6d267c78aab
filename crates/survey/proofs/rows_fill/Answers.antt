-- `survey::rows_fill` meets its contract.
use mathlib.Core.Path.{sym, ap₂, ◌∙◌}
use Prim.Native.Nat.{ℕ, ◌+◌}
use lib.Dec.{eqb}
use Rattle.survey.specs.File.{back_to_sources, back_to_targets, bytes_of, sources, targets, trailer}
use Rattle.survey.proofs.Surveys.{back-off, targets-off, sum-decides, in_bytes}
use Rattle.survey.proofs.rows_fill.Goals as goal

pub returns-then-u32_at-trailer : goal.returns-then-u32_at-trailer
returns-then-u32_at-trailer c = back-off (back_to_sources c.args.file.now) (back_to_targets c.args.file.now) (bytes_of c.args.file.now (targets c.args.file.now)) (bytes_of c.args.file.now (sources c.args.file.now)) (bytes_of c.args.file.now (targets c.args.file.now)) (trailer c.args.file.now) (λ e. c.if-u32_at-trailer.true (c.u32_at-3.ensures.0 ∙ e))

pub returns-then-u32_at-target_bytes : goal.returns-then-u32_at-target_bytes
returns-then-u32_at-target_bytes c = targets-off (back_to_sources c.args.file.now) (back_to_targets c.args.file.now) (bytes_of c.args.file.now (targets c.args.file.now)) (bytes_of c.args.file.now (sources c.args.file.now)) (bytes_of c.args.file.now (targets c.args.file.now)) (trailer c.args.file.now) (sym c.u32_at-3.ensures.0 ∙ c.if-u32_at-trailer.false)
    (λ e. c.if-u32_at-target_bytes.true (c.u32_at-4.ensures.0 ∙ e ∙ sym (c.bytes_of-target_bytes.ensures.0 ∙ in_bytes _ _ _ _ c.u32_at.ensures.0 c.requires.1)))

pub returns : goal.returns
returns c = let t = c.bytes_of-target_bytes.ensures.0 ∙ in_bytes _ _ _ _ c.u32_at.ensures.0 c.requires.1 in
    let s = c.bytes_of-source_bytes.ensures.0 ∙ in_bytes _ _ _ _ c.u32_at-2.ensures.0 c.requires.1 in
    ap₂ (λ (x y : ℕ). eqb (x + y) (trailer c.args.file.now)) s t
    ∙ sum-decides (back_to_sources c.args.file.now) (back_to_targets c.args.file.now) (bytes_of c.args.file.now (targets c.args.file.now)) (bytes_of c.args.file.now (sources c.args.file.now)) (bytes_of c.args.file.now (targets c.args.file.now)) (trailer c.args.file.now) (sym c.u32_at-3.ensures.0 ∙ c.if-u32_at-trailer.false) (sym c.u32_at-4.ensures.0 ∙ c.if-u32_at-target_bytes.false ∙ t)
