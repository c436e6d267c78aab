-- `lookup::leaves_by` meets its contract.
use mathlib.Core.Path.{sym, ◌∙◌}
use native.Mathlib.Omega.{arith}
use lib.ListN.{get_or}
use Rattle.tree.proofs.Leaves.{tree_of, depth_le}
use Rattle.lookup.proofs.Batch.{holder-leaf, holder-none, look-few, look-more, look-failed, look-short, look-ended, look-written}
use Rattle.lookup.proofs.leaves_by.Goals as goal

pub overflow_add-steps : goal.overflow_add-steps
overflow_add-steps c = let few = depth_le c.args.axes c.args.key.now (tree_of c.args.axes c.args.key.now c.requires.0) in let f = holder-leaf c.args.axes c.args.key.now (get_or c.loop-row.codes c.loop-row.row 0) _ (sym c.holder_of.ensures ∙ c.in-Some.is) in omega (arith, look-few c.args.axes c.args.key.now c.args.n c.args.codes.now c.requires.1 c.loop-row.row c.loop-row.steps c.loop-row.codes c.loop-row.invariant c.loop-row-test.true _ few f.2, c.requires.2, c.loop-row-test.true)

pub returns-in_default : goal.returns-in_default
returns-in_default c = let f = holder-none c.args.axes c.args.key.now (get_or c.loop-row.codes c.loop-row.row 0) (sym c.holder_of.ensures ∙ c.in_default.is) in record { value = look-failed c.args.axes c.args.key.now c.args.n c.args.codes.now c.requires.1 c.loop-row.row c.loop-row.steps c.loop-row.codes c.loop-row.invariant c.loop-row-test.true f; codes_len_unchanged = (c.loop-row.invariant.kept, λ q. absurd (look-short c.args.axes c.args.key.now c.args.n c.args.codes.now c.requires.1 c.loop-row.row c.loop-row.steps c.loop-row.codes c.loop-row.invariant c.loop-row-test.true f q)) }

pub loop-row-preserved : goal.loop-row-preserved
loop-row-preserved c = let few = depth_le c.args.axes c.args.key.now (tree_of c.args.axes c.args.key.now c.requires.0) in let f = holder-leaf c.args.axes c.args.key.now (get_or c.loop-row.codes c.loop-row.row 0) _ (sym c.holder_of.ensures ∙ c.in-Some.is) in look-more c.args.axes c.args.key.now c.args.n c.args.codes.now c.requires.1 c.loop-row.row c.loop-row.steps c.loop-row.codes c.loop-row.invariant c.loop-row-test.true _ few _ f.0 f.1 f.2

pub returns : goal.returns
returns c = record { value = look-ended c.args.axes c.args.key.now c.args.n c.args.codes.now c.requires.1 c.loop-row.row c.loop-row.steps c.loop-row.codes c.loop-row.invariant c.loop-row-test.false; codes_len_unchanged = (c.loop-row.invariant.kept, λ q. look-written c.args.axes c.args.key.now c.args.n c.args.codes.now c.requires.1 c.loop-row.row c.loop-row.steps c.loop-row.codes c.loop-row.invariant c.loop-row-test.false) }
