-- `leaf_search::up_to` meets its contract.
use Rattle.std.proofs.Common.{◌-◌, arith}
use Rattle.morton.specs.Keys.{level_of}
use Rattle.tree.proofs.KeyTests.{three}
use Rattle.leaf_search.proofs.Searching.{shift-few}
use Rattle.leaf_search.proofs.up_to.Goals as goal

pub overflow_mul-result : goal.overflow_mul-result
overflow_mul-result c = omega (arith, shift-few c.args.axes (16 - level_of c.args.k) (three c.args.axes c.requires.0) (omega arith))

pub overflow_shr-result : goal.overflow_shr-result
overflow_shr-result c = omega (arith, shift-few c.args.axes (16 - level_of c.args.k) (three c.args.axes c.requires.0) (omega arith))
