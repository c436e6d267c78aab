-- The code is below its level's end, so that 16 levels of it give the level's anchors.
use mathlib.Core.Path.{sym, ap, ◌∙◌, subst}
use Prim.Native.Nat.{ℕ, ◌*◌, ◌^◌, ◌<◌}
use Rattle.slices.specs.Lists.{filled}
use Rattle.morton.specs.Keys.{level_of, code_of}
use Rattle.morton.specs.Anchors.{anchors_of}
use Rattle.morton.proofs.Arithmetic.{code-16}
use Rattle.anchors.proofs.Placing.{anchors-ends}
use Rattle.anchors.proofs.anchors_of.Goals as goal

pub decode-requires : goal.decode-requires
decode-requires c = (c.requires.some, c.requires.most, subst (λ (n : ℕ). n < 2 ^ (c.args.axes * 16)) (sym c.code_of.ensures) (code-16 c.args.axes c.args.key c.requires))

pub returns : goal.returns
returns c = c.decode.ensures ∙ ap (λ n. filled 3 (anchors_of c.args.axes 16 n)) c.code_of.ensures ∙ ap (filled 3) (anchors-ends c.args.axes (level_of c.args.key) (code_of c.args.key) c.requires.level c.requires.code)
