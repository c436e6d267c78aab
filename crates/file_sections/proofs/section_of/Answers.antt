-- `file_sections::section_of` meets its contract.
use native.Mathlib.Omega.{arith}
use Rattle.file_sections.proofs.Codes.{of-wide, of-eight, of_narrow, of-later, of_none, of-past}
use Rattle.file_sections.proofs.section_of.Goals as goal

pub returns-in-1 : goal.returns-in-1
returns-in-1 c = of-wide _ c.in-1.is

pub returns-in-10-to-31 : goal.returns-in-10-to-31
returns-in-10-to-31 c = of-later _ (omega arith) (omega arith) (omega arith) (omega arith)

pub returns-in_default : goal.returns-in_default
returns-in_default c = of_none _ (omega arith)

pub returns-in_default-2 : goal.returns-in_default-2
returns-in_default-2 c = of-past _ (omega arith)

pub returns-in-2-to-6 : goal.returns-in-2-to-6
returns-in-2-to-6 c = of-eight _ (omega arith)

pub returns-in-2-to-6-2 : goal.returns-in-2-to-6-2
returns-in-2-to-6-2 c = of_narrow _ (omega arith) (omega arith) (omega arith)
