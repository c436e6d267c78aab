-- The shifts give the first of the cell's cells and the first after them, and the sums before these differ by the cell's sources.
use Rattle.std.proofs.Common.{rules}
use mathlib.Core.Path.{ap}
use Prim.Native.Nat.{ℕ, ◌*◌, ◌-◌}
use native.Mathlib.Omega.{arith}
use Rattle.refine.proofs.CellSpans.{up-width, ends, lo-first, none_in, to_room, from-room, first-in, no_less, later-in}
use Rattle.refine.proofs.sums.sources_in.Goals as goal

pub returns-then-sums-eq0 : goal.returns-then-sums-eq0
returns-then-sums-eq0 c = λ ss t. none_in c.args.axes c.args.depth c.args.key c.requires.0 c.requires.1 c.requires.2.1.shallow ss c.args.sums.now t (omega (arith, c.if-sums-eq0.true))

pub overflow_mul-shift : goal.overflow_mul-shift
overflow_mul-shift c = let u = up-width c.args.axes c.args.depth c.args.key c.requires.0 c.requires.1 c.requires.2.1.shallow in let e = ap (λ (n : ℕ). c.args.axes * (c.args.depth - 1 - n)) c.level_of.ensures in omega arith

pub overflow_shl-from : goal.overflow_shl-from
overflow_shl-from c = let u = up-width c.args.axes c.args.depth c.args.key c.requires.0 c.requires.1 c.requires.2.1.shallow in let e = ap (λ (n : ℕ). c.args.axes * (c.args.depth - 1 - n)) c.level_of.ensures in omega arith

pub overflow_shl-to : goal.overflow_shl-to
overflow_shl-to c = let u = up-width c.args.axes c.args.depth c.args.key c.requires.0 c.requires.1 c.requires.2.1.shallow in let e = ap (λ (n : ℕ). c.args.axes * (c.args.depth - 1 - n)) c.level_of.ensures in omega arith

pub overflow_sub-result : goal.overflow_sub-result
overflow_sub-result c = let g = ends c.args.axes c.args.depth c.args.key c.requires.0 c.requires.1 c.requires.2.1.shallow _ _ c.code_of-code.ensures c.level_of.ensures in omega (arith, g.next, lo-first c.args.axes c.args.depth c.args.key c.requires.0 c.requires.1 c.requires.2.1.shallow)

pub offset_bounds-sums-to : goal.offset_bounds-sums-to
offset_bounds-sums-to c = let g = ends c.args.axes c.args.depth c.args.key c.requires.0 c.requires.1 c.requires.2.1.shallow _ _ c.code_of-code.ensures c.level_of.ensures in let r = to_room c.args.axes c.args.depth c.args.key c.requires.0 c.requires.1 c.requires.2.1.shallow c.requires.2.0 c.args.sums.now c.requires.2.1 _ _ g (omega (arith, c.if-sums-eq0.false)) in search rules

pub bounds-sums-to : goal.bounds-sums-to
bounds-sums-to c = let g = ends c.args.axes c.args.depth c.args.key c.requires.0 c.requires.1 c.requires.2.1.shallow _ _ c.code_of-code.ensures c.level_of.ensures in omega (arith, to_room c.args.axes c.args.depth c.args.key c.requires.0 c.requires.1 c.requires.2.1.shallow c.requires.2.0 c.args.sums.now c.requires.2.1 _ _ g (omega (arith, c.if-sums-eq0.false)))

pub returns-then-from-eq0 : goal.returns-then-from-eq0
returns-then-from-eq0 c = let g = ends c.args.axes c.args.depth c.args.key c.requires.0 c.requires.1 c.requires.2.1.shallow _ _ c.code_of-code.ensures c.level_of.ensures in λ ss t. first-in c.args.axes c.args.depth c.args.key c.requires.0 c.requires.1 c.requires.2.1.shallow ss c.args.sums.now t _ _ g (omega (arith, c.if-from-eq0.true))

pub overflow_sub-result-2 : goal.overflow_sub-result-2
overflow_sub-result-2 c = let g = ends c.args.axes c.args.depth c.args.key c.requires.0 c.requires.1 c.requires.2.1.shallow _ _ c.code_of-code.ensures c.level_of.ensures in omega (arith, g.next, lo-first c.args.axes c.args.depth c.args.key c.requires.0 c.requires.1 c.requires.2.1.shallow)

pub offset_bounds-sums-to-2 : goal.offset_bounds-sums-to-2
offset_bounds-sums-to-2 c = let g = ends c.args.axes c.args.depth c.args.key c.requires.0 c.requires.1 c.requires.2.1.shallow _ _ c.code_of-code.ensures c.level_of.ensures in let r = to_room c.args.axes c.args.depth c.args.key c.requires.0 c.requires.1 c.requires.2.1.shallow c.requires.2.0 c.args.sums.now c.requires.2.1 _ _ g (omega (arith, c.if-sums-eq0.false)) in search rules

pub bounds-sums-to-2 : goal.bounds-sums-to-2
bounds-sums-to-2 c = let g = ends c.args.axes c.args.depth c.args.key c.requires.0 c.requires.1 c.requires.2.1.shallow _ _ c.code_of-code.ensures c.level_of.ensures in omega (arith, to_room c.args.axes c.args.depth c.args.key c.requires.0 c.requires.1 c.requires.2.1.shallow c.requires.2.0 c.args.sums.now c.requires.2.1 _ _ g (omega (arith, c.if-sums-eq0.false)))

pub offset_bounds-sums-from : goal.offset_bounds-sums-from
offset_bounds-sums-from c = let g = ends c.args.axes c.args.depth c.args.key c.requires.0 c.requires.1 c.requires.2.1.shallow _ _ c.code_of-code.ensures c.level_of.ensures in let r = from-room c.args.axes c.args.depth c.args.key c.requires.0 c.requires.1 c.requires.2.1.shallow c.requires.2.0 c.args.sums.now c.requires.2.1 _ _ g (omega (arith, c.if-sums-eq0.false)) in search rules

pub bounds-sums-from : goal.bounds-sums-from
bounds-sums-from c = let g = ends c.args.axes c.args.depth c.args.key c.requires.0 c.requires.1 c.requires.2.1.shallow _ _ c.code_of-code.ensures c.level_of.ensures in omega (arith, from-room c.args.axes c.args.depth c.args.key c.requires.0 c.requires.1 c.requires.2.1.shallow c.requires.2.0 c.args.sums.now c.requires.2.1 _ _ g (omega (arith, c.if-sums-eq0.false)))

pub overflow_sub-result-4 : goal.overflow_sub-result-4
overflow_sub-result-4 c = let g = ends c.args.axes c.args.depth c.args.key c.requires.0 c.requires.1 c.requires.2.1.shallow _ _ c.code_of-code.ensures c.level_of.ensures in omega (arith, no_less c.args.axes c.args.depth c.args.key c.requires.0 c.requires.1 c.requires.2.1.shallow c.requires.2.0 c.args.sums.now c.requires.2.1 _ _ g (omega (arith, c.if-from-eq0.false)))

pub returns : goal.returns
returns c = let g = ends c.args.axes c.args.depth c.args.key c.requires.0 c.requires.1 c.requires.2.1.shallow _ _ c.code_of-code.ensures c.level_of.ensures in λ ss t. later-in c.args.axes c.args.depth c.args.key c.requires.0 c.requires.1 c.requires.2.1.shallow ss c.args.sums.now t _ _ g (omega (arith, c.if-from-eq0.false))
