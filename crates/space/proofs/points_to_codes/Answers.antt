-- `space::points_to_codes` meets its contract: the rows seen are inside, and their codes are written (`proofs/Batches.antt`).
use mathlib.Core.Path.{◌≡◌, sym, ap, ◌∙◌, subst}
use Prim.Native.Nat.{◌+◌, ◌*◌, ◌/◌, ◌≤◌, ◌<◌}
use native.Mathlib.Omega.{arith}
use lib.ListN.{length, drop}
use Rattle.space.proofs.Points.{placed-in, placed-out}
use Rattle.space.proofs.Batches.{written_none, row-there, written-length, written-more, written-stop, written_all, rows_fit}
use Rattle.space.proofs.points_to_codes.Goals as goal

pub loop-row-init : goal.loop-row-init
loop-row-init c = written_none _ _ _ _

pub code_at-requires : goal.code_at-requires
code_at-requires c =
    let axes-are : c.frame_of-f.result.axes ≡ c.args.b.axes = ap (λ f. f.axes) c.frame_of-f.ensures in
    let there : c.loop-row.at + c.frame_of-f.result.axes ≤ length c.args.points.now = row-there _ _ _ _ _ _ _ c.loop-row.invariant c.loop-row-test.true (subst (λ d. length c.args.points.now / c.args.b.axes * d ≤ length c.args.points.now) (sym axes-are) (rows_fit c.args.b.axes (length c.args.points.now))) in
    (omega (arith, axes-are, c.requires.0), omega (arith, axes-are, c.requires.1), there)

pub offset_bounds-codes-row : goal.offset_bounds-codes-row
offset_bounds-codes-row c =
    let kept : length c.loop-row.codes ≡ length c.args.codes.now = written-length _ _ _ _ _ _ _ c.loop-row.invariant c.requires.2 in
    let place : c.loop-row.row < length c.loop-row.codes = omega (arith, kept, c.requires.2, c.loop-row-test.true) in
    omega (arith, place, kept)

pub bounds-codes-row : goal.bounds-codes-row
bounds-codes-row c =
    let kept : length c.loop-row.codes ≡ length c.args.codes.now = written-length _ _ _ _ _ _ _ c.loop-row.invariant c.requires.2 in
    let place : c.loop-row.row < length c.loop-row.codes = omega (arith, kept, c.requires.2, c.loop-row-test.true) in
    place

pub wall_of-requires : goal.wall_of-requires
wall_of-requires c =
    let axes-are : c.frame_of-f.result.axes ≡ c.args.b.axes = ap (λ f. f.axes) c.frame_of-f.ensures in
    let there : c.loop-row.at + c.frame_of-f.result.axes ≤ length c.args.points.now = row-there _ _ _ _ _ _ _ c.loop-row.invariant c.loop-row-test.true (subst (λ d. length c.args.points.now / c.args.b.axes * d ≤ length c.args.points.now) (sym axes-are) (rows_fit c.args.b.axes (length c.args.points.now))) in
    there

pub returns-in-None : goal.returns-in-None
returns-in-None c = let s = written-stop (length c.args.points.now / c.args.b.axes) c.frame_of-f.result c.args.points.now _ _ _ _ c.loop-row.invariant c.wall_of.result c.wall_of.ensures (placed-out c.frame_of-f.result (drop c.loop-row.at c.args.points.now) (sym c.code_at.ensures ∙ c.in-None.is)) c.loop-row-test.true in let all = rw c.frame_of-f.ensures at s in record { value = all.0; codes_after = all.1 }

pub overflow_add-at : goal.overflow_add-at
overflow_add-at c =
    let axes-are : c.frame_of-f.result.axes ≡ c.args.b.axes = ap (λ f. f.axes) c.frame_of-f.ensures in
    let there : c.loop-row.at + c.frame_of-f.result.axes ≤ length c.args.points.now = row-there _ _ _ _ _ _ _ c.loop-row.invariant c.loop-row-test.true (subst (λ d. length c.args.points.now / c.args.b.axes * d ≤ length c.args.points.now) (sym axes-are) (rows_fit c.args.b.axes (length c.args.points.now))) in
    omega (arith, there, axes-are)

pub loop-row-preserved : goal.loop-row-preserved
loop-row-preserved c =
    let axes-are : c.frame_of-f.result.axes ≡ c.args.b.axes = ap (λ f. f.axes) c.frame_of-f.ensures in
    let p = placed-in c.frame_of-f.result (drop c.loop-row.at c.args.points.now) c.in-Some.code (sym c.code_at.ensures ∙ c.in-Some.is) in
    written-more _ c.frame_of-f.result c.args.points.now _ _ _ _ c.loop-row.invariant c.in-Some.code _ c.loop-row-test.true c.requires.2 p.0 p.1 (ap (λ d. c.loop-row.at + d) (sym axes-are))

pub returns : goal.returns
returns c = let s = written_all _ _ _ _ _ _ _ c.loop-row.invariant c.loop-row-test.false in let all = rw c.frame_of-f.ensures at s in record { value = all.0; codes_after = all.1 }
