-- `read_file::take_lists` meets its contract.
use native.Mathlib.Omega.{arith}
use mathlib.Core.Path.{refl}
use Rattle.read_file.proofs.take_lists.Goals as goal

pub take_numbers-requires : goal.take_numbers-requires
take_numbers-requires c = (c.requires.0, omega arith, omega arith, refl, c.requires.1.u_starts)

pub take_keys-requires : goal.take_keys-requires
take_keys-requires c = (c.requires.0, omega arith, omega arith, refl, c.requires.1.u_keys)

pub take_numbers-requires-2 : goal.take_numbers-requires-2
take_numbers-requires-2 c = (c.requires.0, omega arith, omega arith, refl, c.requires.1.v_starts)

pub take_keys-requires-2 : goal.take_keys-requires-2
take_keys-requires-2 c = (c.requires.0, omega arith, omega arith, refl, c.requires.1.v_keys)

pub returns : goal.returns
returns c = record { u_starts_after = c.take_numbers.ensures; u_keys_after = c.take_keys.ensures; v_starts_after = c.take_numbers-2.ensures; v_keys_after = c.take_keys-2.ensures }
