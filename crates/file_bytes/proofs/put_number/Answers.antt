-- `file_bytes::put_number` meets its contract.
use mathlib.Core.Path.{ap, ◌∙◌}
use native.Mathlib.Omega.{arith}
use lib.ListN.{length-set}
use Rattle.file_bytes.specs.Pasted.{pasted}
use Rattle.file_bytes.proofs.Pasted.{four-stores}
use Rattle.file_bytes.proofs.Numbers.{four_bytes}
use Rattle.file_bytes.proofs.put_number.Goals as goal

pub bounds-out-at-2 : goal.bounds-out-at-2
bounds-out-at-2 c = simp length-set (omega arith)

pub bounds-out-at-3 : goal.bounds-out-at-3
bounds-out-at-3 c = simp length-set (omega arith)

pub bounds-out-at-4 : goal.bounds-out-at-4
bounds-out-at-4 c = simp length-set (omega arith)

pub returns : goal.returns
returns c = four-stores c.args.out.now c.args.at _ _ _ _ c.requires ∙ ap (pasted c.args.out.now c.args.at) (four_bytes c.args.x)
