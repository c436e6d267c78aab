-- The axes are tested from the last to the first; those passed are on the level.
use mathlib.Core.Path.{sym, ◌∙◌}
use Prim.Native.Nat.{◌-◌, ◌^◌}
use native.Mathlib.Omega.{arith}
use lib.Dec.{ltb}
use lib.ListN.{get_or}
use borrow.Author.Tests.{lt-ltb, le-ltb}
use Rattle.slices.proofs.Every.{every-fails, every-next, every-none}
use Rattle.morton.proofs.Arithmetic.{one_shifted}
use Rattle.anchors.proofs.on_level.Goals as goal

pub returns-then-end-anchor : goal.returns-then-end-anchor
returns-then-end-anchor c = sym (every-fails (λ a. ltb (get_or c.args.anchor a 0) (2 ^ c.args.level)) c.loop-n.n (c.loop-n.n - 1) (omega arith) (le-ltb (get_or c.args.anchor (c.loop-n.n - 1) 0) (2 ^ c.args.level) (omega (arith, one_shifted c.args.level c.requires.1)))) ∙ c.loop-n.invariant

pub loop-n-preserved : goal.loop-n-preserved
loop-n-preserved c = sym (every-next (λ a. ltb (get_or c.args.anchor a 0) (2 ^ c.args.level)) c.loop-n.n (c.loop-n.n - 1) (omega arith) (lt-ltb (get_or c.args.anchor (c.loop-n.n - 1) 0) (2 ^ c.args.level) (omega (arith, one_shifted c.args.level c.requires.1)))) ∙ c.loop-n.invariant

pub returns : goal.returns
returns c = sym (every-none _ c.loop-n.n (omega arith)) ∙ c.loop-n.invariant
