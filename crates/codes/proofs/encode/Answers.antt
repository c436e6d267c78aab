-- By the number of axes: the anchor itself, or the code of two or three.
use native.Mathlib.Omega.{arith}
use Rattle.codes.proofs.Axes.{code_one, code-two, code-three}
use Rattle.codes.proofs.encode.Goals as goal

pub returns-in-1 : goal.returns-in-1
returns-in-1 c = code_one c.args.axes c.args.anchor (omega arith) c.requires.2.first

pub returns-in-2 : goal.returns-in-2
returns-in-2 c = code-two c.args.axes c.args.anchor _ (omega arith) c.code_2.ensures

pub returns-in_default : goal.returns-in_default
returns-in_default c = code-three c.args.axes c.args.anchor _ (omega arith) c.code_3.ensures
