-- How large a refusal's number is, and how many values go with it.
use Prim.Native.Nat.{ℕ, ◌≤◌}
use native.Mathlib.Omega.{arith}
use lib.ListN.{length}
use Rattle.refusal.specs.declared.Refusal.{Refusal}
use Rattle.refusal.specs.declared.Refusal.TheVariants.{Dims, Box, Shape, Count, Order, Source, Point, Room, Key, Root, Deep, Unstored, Tree, NotLeaf, File, Grid, Section, NotBuilt, Partial, Reading}
use Rattle.refusal.specs.Numbers.{number_of, values_of, outcome_number}
use Rattle.refusal.specs.Outcome.{Outcome}
use Rattle.std.specs.Prelude.{Err, Ok}

both : (r : Refusal) → (number_of r ≤ 20) × (length (values_of r) ≤ 3)
both Dims = (omega arith, omega arith)
both Box = (omega arith, omega arith)
both Shape = (omega arith, omega arith)
both Count = (omega arith, omega arith)
both Order = (omega arith, omega arith)
both (Source v) = (omega arith, omega arith)
both (Point v) = (omega arith, omega arith)
both (Room v) = (omega arith, omega arith)
both Key = (omega arith, omega arith)
both Root = (omega arith, omega arith)
both Deep = (omega arith, omega arith)
both (Unstored v) = (omega arith, omega arith)
both Tree = (omega arith, omega arith)
both (NotLeaf v) = (omega arith, omega arith)
both File = (omega arith, omega arith)
both Grid = (omega arith, omega arith)
both Section = (omega arith, omega arith)
both NotBuilt = (omega arith, omega arith)
both Partial = (omega arith, omega arith)
both (Reading v) = (omega arith, omega arith)

pub values-most : (r : Refusal) → length (values_of r) ≤ 3
values-most r = (both r).1

pub number-most : (o : Outcome) → outcome_number o ≤ 20
number-most (Ok tt) = omega arith
number-most (Err r) = (both r).0
