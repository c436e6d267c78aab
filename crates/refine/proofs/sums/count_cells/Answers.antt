-- At each turn the counts and the codes ahead give each cell's count.
use Rattle.std.proofs.Common.{rules}
use mathlib.Core.Path.{refl, ap}
use Prim.Native.Nat.{ℕ}
use lib.ListN.{length-replicate, length}
use native.Mathlib.Omega.{arith}
use Rattle.refine.proofs.Tallies.{tallied-none, tallied-small, tallied-more, tallied-all}
use Rattle.refine.proofs.sums.count_cells.Goals as goal

pub loop-code-init : goal.loop-code-init
loop-code-init c = tallied-none c.args.shift c.args.codes.now (length c.args.counts.now) _ c.clear_usize.ensures

pub offset_bounds-counts-cell : goal.offset_bounds-counts-cell
offset_bounds-counts-cell c = let b = c.requires.1.below c.loop-code.code-index (omega arith) in let m = length-replicate {A = ℕ} (length c.args.counts.now) 0 in let e = ap length c.clear_usize.ensures in search rules

pub bounds-counts-cell : goal.bounds-counts-cell
bounds-counts-cell c = let b = c.requires.1.below c.loop-code.code-index (omega arith) in let m = length-replicate {A = ℕ} (length c.args.counts.now) 0 in let e = ap length c.clear_usize.ensures in omega (arith, c.loop-code.invariant.wide)

pub overflow_add-counts : goal.overflow_add-counts
overflow_add-counts c = let b = c.requires.1.below c.loop-code.code-index (omega arith) in let m = length-replicate {A = ℕ} (length c.args.counts.now) 0 in let e = ap length c.clear_usize.ensures in omega (arith, tallied-small c.args.shift c.args.codes.now (length c.clear_usize.new.column) c.loop-code.counts c.loop-code.code-index c.loop-code.invariant (omega arith) _ refl (omega arith))

pub bounds-counts-cell-in-loop-code : goal.bounds-counts-cell-in-loop-code
bounds-counts-cell-in-loop-code c = let b = c.requires.1.below c.loop-code.code-index (omega arith) in let m = length-replicate {A = ℕ} (length c.args.counts.now) 0 in let e = ap length c.clear_usize.ensures in omega (arith, c.loop-code.invariant.wide)

pub loop-code-preserved : goal.loop-code-preserved
loop-code-preserved c = let b = c.requires.1.below c.loop-code.code-index (omega arith) in let m = length-replicate {A = ℕ} (length c.args.counts.now) 0 in let e = ap length c.clear_usize.ensures in tallied-more c.args.shift c.args.codes.now (length c.clear_usize.new.column) c.loop-code.counts c.loop-code.code-index c.loop-code.invariant (omega arith) _ refl (omega arith)

pub returns : goal.returns
returns c = tallied-all c.args.shift c.args.codes.now (length c.clear_usize.new.column) c.loop-code.counts c.loop-code.code-index c.loop-code.invariant (omega arith)
