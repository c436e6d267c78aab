-- By the number of axes: the code itself, or the bits of each axis gathered.
use native.Mathlib.Omega.{arith}
use Rattle.codes.proofs.Axes.{anchors-one, anchors-two, anchors-three}
use Rattle.codes.proofs.decode.Goals as goal

pub returns-in-1 : goal.returns-in-1
returns-in-1 c = anchors-one c.args.axes c.args.code (omega arith) c.requires.2

pub returns-in-2 : goal.returns-in-2
returns-in-2 c = anchors-two c.args.axes c.args.code _ _ c.in-2.is c.requires.2 c.gather.ensures c.gather-in-2.ensures

pub returns-in_default : goal.returns-in_default
returns-in_default c = anchors-three c.args.axes c.args.code _ _ _ (omega arith) c.requires.2 c.gather-in_default.ensures c.gather-in_default-2.ensures c.gather-in_default-3.ensures
