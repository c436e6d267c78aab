-- `grids::first_within` meets its contract: the middle tells on which side the answer is.
use mathlib.Core.Path.{sym, ◌∙◌}
use Rattle.grids.proofs.Halving.{sought-above, sought-below}
use Rattle.grids.proofs.first_within.Goals as goal

pub first_near-requires : goal.first_near-requires
first_near-requires c = sought-above c.args.f c.args.g c.args.a c.args.x c.requires.axis c.args.from c.args.to c.requires c.if-from-to.false (sym c.comes_before.ensures ∙ c.if-comes_before.true)

pub first_near-requires-2 : goal.first_near-requires-2
first_near-requires-2 c = sought-below c.args.f c.args.g c.args.a c.args.x c.requires.axis c.args.from c.args.to c.requires c.if-from-to.false (sym c.comes_before.ensures ∙ c.if-comes_before.false)
