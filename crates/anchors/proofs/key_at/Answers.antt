-- The code of the anchors on the axes, and the level.
use mathlib.Core.Path.{ap, ◌∙◌}
use Prim.Native.Nat.{ℕ, ◌+◌, ◌*◌}
use native.Mathlib.Omega.{arith}
use Rattle.anchors.proofs.Placing.{two_bytes, code-used, code_fits}
use Rattle.anchors.proofs.key_at.Goals as goal

pub encode-requires : goal.encode-requires
encode-requires c = (c.requires.0, c.requires.1, two_bytes c.args.axes c.args.level c.args.anchor c.requires.2 c.requires.3 _ c.on_axes-used.ensures c.requires.1)

pub overflow_mul-result : goal.overflow_mul-result
overflow_mul-result c = omega (arith, c.encode.ensures ∙ code-used c.args.axes c.args.level c.args.anchor c.requires.2 c.requires.3 _ c.on_axes-used.ensures c.requires.1, code_fits c.args.axes c.args.level c.args.anchor c.requires.1 c.requires.2)

pub overflow_add-result : goal.overflow_add-result
overflow_add-result c = omega (arith, c.encode.ensures ∙ code-used c.args.axes c.args.level c.args.anchor c.requires.2 c.requires.3 _ c.on_axes-used.ensures c.requires.1, code_fits c.args.axes c.args.level c.args.anchor c.requires.1 c.requires.2)

pub returns : goal.returns
returns c = ap (λ (x : ℕ). x * 32768 + c.args.level) (c.encode.ensures ∙ code-used c.args.axes c.args.level c.args.anchor c.requires.2 c.requires.3 _ c.on_axes-used.ensures c.requires.1)
