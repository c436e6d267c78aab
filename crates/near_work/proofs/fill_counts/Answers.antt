-- `near_work::fill_counts` meets its contract.
use Rattle.std.proofs.Common.{rules}
use native.Mathlib.Omega.{arith}
use lib.ListN.{length}
use Rattle.around.proofs.Nodes.{well}
use Rattle.sourced.proofs.Sound.{tree-keys}
use Rattle.near_work.proofs.Counts.{none-points, none-column, target-column}
use Rattle.near_work.proofs.fill_counts.Goals as goal

pub copy_own-requires : goal.copy_own-requires
copy_own-requires c = (omega (arith, (well c.args.b.axes c.args.key.now c.args.own.now c.requires.sound_tree.0).owns, c.requires.key_in_bounds.0), c.requires.key_in_bounds.1)

pub returns-then-targets-eq0 : goal.returns-then-targets-eq0
returns-then-targets-eq0 c = record { value = none-points c.args.b c.args.key.now c.args.own.now c.requires.sound_tree.0 c.args.targets.now c.if-targets-eq0.true; counts_after = λ _. none-column c.args.b c.args.key.now c.args.own.now c.requires.sound_tree.0 c.args.targets.now c.if-targets-eq0.true (length c.args.counts.now) c.requires.key_in_bounds.0 _ c.copy_own.ensures }

pub count_targets-requires : goal.count_targets-requires
count_targets-requires c = record { le_axes = (c.requires.sound_tree.0.some, c.requires.sound_tree.0.most, tree-keys c.args.b.axes c.args.key.now c.args.own.now c.requires.sound_tree.0, c.requires.sound_tree.1); key_in_bounds = (c.requires.key_in_bounds.0, c.requires.key_in_bounds.1) }

pub returns : goal.returns
returns c = record { value = c.count_targets.ensures.value; counts_after = λ done. target-column c.args.b c.args.key.now c.args.own.now c.requires.sound_tree.0 c.args.targets.now c.if-targets-eq0.false done (length c.args.counts.now) c.requires.key_in_bounds.0 _ (search rules) (c.count_targets.ensures.counted done) }
