-- `kept_keys::is_valid` meets its contract.
use mathlib.Core.Path.{sym}
use native.Mathlib.Omega.{arith}
use Prim.Native.Nat.{◌%◌}
use Rattle.morton.proofs.Checks.{width-le, too-deep, no_code, is-valid}
use Rattle.tree.proofs.KeyTests.{three}
use Rattle.kept_keys.proofs.is_valid.Goals as goal

pub returns-then-level-gt16 : goal.returns-then-level-gt16
returns-then-level-gt16 c = sym (too-deep _ _ c.if-level-gt16.true)

pub overflow_mul-shift : goal.overflow_mul-shift
overflow_mul-shift c = omega (arith, width-le c.args.axes (c.args.k % 32768) (three _ c.requires) c.if-level-gt16.false)

pub overflow_shr-k : goal.overflow_shr-k
overflow_shr-k c = omega (arith, width-le c.args.axes (c.args.k % 32768) (three _ c.requires) c.if-level-gt16.false)

pub returns-then-k-shift-eq0 : goal.returns-then-k-shift-eq0
returns-then-k-shift-eq0 c = sym (is-valid _ _ c.if-level-gt16.false c.if-k-shift-eq0.true)

pub returns : goal.returns
returns c = sym (no_code _ _ c.if-level-gt16.false c.if-k-shift-eq0.false)
