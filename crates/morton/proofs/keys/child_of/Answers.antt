-- The code, shifted up, with the child's number, and the level and one.
use mathlib.Core.Path.{ap, ap₂, ◌∙◌}
use Prim.Native.Nat.{ℕ, ◌+◌, ◌*◌, ◌%◌, ◌^◌}
use native.Mathlib.Omega.{arith}
use Rattle.morton.proofs.Arithmetic.{code-shifted, child-48}
use Rattle.morton.proofs.keys.child_of.Goals as goal

pub overflow_mul-result : goal.overflow_mul-result
overflow_mul-result c = omega (arith, ap (λ (x : ℕ). x * 2 ^ c.args.axes % 2 ^ 64) c.code_of.ensures ∙ code-shifted c.args.axes c.args.key c.requires.0 c.requires.1, child-48 c.args.axes c.args.key c.requires.0 c.requires.1 c.args.c c.requires.2)

pub overflow_add-result-3 : goal.overflow_add-result-3
overflow_add-result-3 c = omega (arith, ap (λ (x : ℕ). x * 2 ^ c.args.axes % 2 ^ 64) c.code_of.ensures ∙ code-shifted c.args.axes c.args.key c.requires.0 c.requires.1, child-48 c.args.axes c.args.key c.requires.0 c.requires.1 c.args.c c.requires.2, c.level_of.ensures)

pub returns : goal.returns
returns c = ap₂ (λ (x l : ℕ). (x + c.args.c) * 32768 + (l + 1)) (ap (λ (x : ℕ). x * 2 ^ c.args.axes % 2 ^ 64) c.code_of.ensures ∙ code-shifted c.args.axes c.args.key c.requires.0 c.requires.1) c.level_of.ensures
