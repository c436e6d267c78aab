-- `read_file::take_columns` meets its contract.
use native.Mathlib.Omega.{arith}
use mathlib.Core.Path.{refl}
use Rattle.read_file.proofs.take_columns.Goals as goal

pub take_numbers-requires : goal.take_numbers-requires
take_numbers-requires c = (c.requires.0, omega arith, omega arith, refl, c.requires.1.places)

pub take_keys-requires : goal.take_keys-requires
take_keys-requires c = (c.requires.0, omega arith, omega arith, refl, c.requires.1.keys)

pub take_numbers-requires-2 : goal.take_numbers-requires-2
take_numbers-requires-2 c = (c.requires.0, omega arith, omega arith, refl, c.requires.1.owns)

pub take_numbers-requires-3 : goal.take_numbers-requires-3
take_numbers-requires-3 c = (c.requires.0, omega arith, omega arith, refl, c.requires.1.begins)

pub take_numbers-requires-4 : goal.take_numbers-requires-4
take_numbers-requires-4 c = (c.requires.0, omega arith, omega arith, refl, c.requires.1.totals)

pub returns : goal.returns
returns c = record { indices_after = c.take_numbers.ensures; key_after = c.take_keys.ensures; own_after = c.take_numbers-2.ensures; begin_after = c.take_numbers-3.ensures; total_after = c.take_numbers-4.ensures }
