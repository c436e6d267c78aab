-- `grow::grow` meets its contract.
use mathlib.Core.Path.{◌∙◌}
use mathlib.Core.List.{[]}
use native.Mathlib.Omega.{arith}
use Rattle.parting.specs.Setting.{setting}
use Rattle.grow.specs.Rows.{marked}
use Rattle.parting.specs.Parts.{points_of}
use Rattle.parting.proofs.Root.{root-left, points-given, points-dealt}
use Rattle.grow.proofs.Starting.{root-at}
use Rattle.grow.proofs.Ending.{grown}
use Rattle.grow.proofs.grow.Goals as goal

pub deal_root-pairs-requires : goal.deal_root-pairs-requires
deal_root-pairs-requires c = (c.requires.0, c.requires.2)

pub grow_children-requires : goal.grow_children-requires
grow_children-requires c = ((root-left c.args.g c.requires.0.known, omega arith, ((points_of (setting c.args.z c.args.sums.now) c.args.work.now), [], [], (root-at c.args.g (setting c.args.z c.args.sums.now) (points_of (setting c.args.z c.args.sums.now) c.args.work.now) c.deal_root-pairs.result.counts c.deal_root-pairs.result.to c.deal_root-pairs.new.work c.args.key.now c.args.mark.now (points-given c.args.g (setting c.args.z c.args.sums.now) c.args.work.now c.requires.0) c.requires.1 (points-dealt c.args.g (setting c.args.z c.args.sums.now) c.args.work.now c.requires.0 c.deal_root-pairs.result.counts c.deal_root-pairs.result.to c.deal_root-pairs.new.work c.deal_root-pairs.ensures)))), c.requires.2)

pub returns : goal.returns
returns c = grown c.args.g (setting c.args.z c.args.sums.now) c.args.work.now c.grow_children.new.work (marked c.grow_children.new.key c.grow_children.new.mark c.grow_children.result) (c.grow_children.auto.work ∙ c.deal_root-pairs.auto.work) (c.grow_children.ensures (points_of (setting c.args.z c.args.sums.now) c.args.work.now) [] [] (root-at c.args.g (setting c.args.z c.args.sums.now) (points_of (setting c.args.z c.args.sums.now) c.args.work.now) c.deal_root-pairs.result.counts c.deal_root-pairs.result.to c.deal_root-pairs.new.work c.args.key.now c.args.mark.now (points-given c.args.g (setting c.args.z c.args.sums.now) c.args.work.now c.requires.0) c.requires.1 (points-dealt c.args.g (setting c.args.z c.args.sums.now) c.args.work.now c.requires.0 c.deal_root-pairs.result.counts c.deal_root-pairs.result.to c.deal_root-pairs.new.work c.deal_root-pairs.ensures)))
