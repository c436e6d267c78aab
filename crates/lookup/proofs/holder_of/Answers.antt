-- `lookup::holder_of` meets its contract.
use mathlib.Core.Path.{◌∙◌}
use Rattle.lookup.proofs.Leaves.{holder-within, holder-told}
use Rattle.lookup.proofs.holder_of.Goals as goal

pub holder_at-requires : goal.holder_at-requires
holder_at-requires c = holder-within c.args.axes c.args.key.now c.requires.0 c.args.code c.args.depth c.requires.1 _ c.leaf_from-leaf.ensures

pub returns : goal.returns
returns c = c.holder_at.ensures ∙ holder-told c.args.axes c.args.key.now c.requires.0 c.args.code c.args.depth c.requires.1 _ c.leaf_from-leaf.ensures
