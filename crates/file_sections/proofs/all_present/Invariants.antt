-- `file_sections::all_present` meets its contract.
use Prim.Native.Nat.{suc}
use mathlib.Core.Path.{◌≡◌}
use mathlib.Core.Bool.{true}
use lib.Dec.{ltb}
use lib.ListN.{get_or}
use Rattle.slices.specs.Every.{every}
use Rattle.file_sections.proofs.all_present.Given as goal

abbrev pub invariant-loop-c : goal.invariant-loop-c
invariant-loop-c l = every l.c (λ k. ltb 0 (get_or l.at (suc k) 0)) ≡ true
