-- The targets are counted, and their number decides.
use mathlib.Core.Path.{ap, ◌∙◌}
use Prim.Native.Nat.{ℕ}
use Rattle.refine.specs.Refinement.{splits_by}
use Rattle.refine.proofs.Splits.{held-few}
use Rattle.refine.proofs.splits_for_targets.Goals as goal

pub target_count-held-requires : goal.target_count-held-requires
target_count-held-requires c = (c.requires.0, c.requires.3)

pub splits_for_count-requires : goal.splits_for_count-requires
splits_for_count-requires c = (c.requires.0, c.requires.1, c.requires.2, held-few c.args.axes c.args.targets.now c.args.key _ c.target_count-held.ensures c.requires.4)

pub returns : goal.returns
returns c = λ ss t. c.splits_for_count.ensures ss t ∙ ap (λ (n : ℕ). splits_by c.args.axes c.args.depth c.args.limit c.args.order ss n c.args.key) c.target_count-held.ensures
