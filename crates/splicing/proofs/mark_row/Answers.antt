-- `splicing::mark_row` meets its contract.
use mathlib.Core.Bool.{true, false}
use native.Mathlib.Omega.{arith}
use Rattle.morton.specs.Keys.{holds}
use Rattle.splicing.proofs.Copies.{row-inner, row-leaf, bit-most}
use Rattle.splicing.proofs.mark_row.Goals as goal

pub overflow_mul-result : goal.overflow_mul-result
overflow_mul-result c = omega (arith, c.sum_with-sum.ensures, bit-most (holds c.args.axes c.args.k c.args.code), c.requires.2)

pub returns-then-own-eq0 : goal.returns-then-own-eq0
returns-then-own-eq0 c = row-inner c.args.axes c.args.code c.args.k c.args.own c.args.total c.sum_with-sum.result c.sum_with-sum.ensures c.if-own-eq0.true

pub overflow_mul-result-2 : goal.overflow_mul-result-2
overflow_mul-result-2 c = omega (arith, c.sum_with-sum.ensures, bit-most (holds c.args.axes c.args.k c.args.code), c.requires.2)

pub overflow_add-result : goal.overflow_add-result
overflow_add-result c = omega (arith, c.sum_with-sum.ensures, bit-most (holds c.args.axes c.args.k c.args.code), c.requires.2)

pub returns : goal.returns
returns c = row-leaf c.args.axes c.args.code c.args.k c.args.own c.args.total c.sum_with-sum.result c.sum_with-sum.ensures c.if-own-eq0.false
