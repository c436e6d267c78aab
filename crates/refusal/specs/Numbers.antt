-- Document 01, "Refusal numbers", and the numbers 16 to 20 of document 02, with order 5: the number of each refusal, and its values.
use Rattle.std.specs.Prelude.{List, [], ◌∷◌, ℕ, length, get_or, Err, Ok}
use Rattle.refusal.specs.declared.Told.{Told}
use Rattle.refusal.specs.declared.Refusal.{Refusal}
use Rattle.refusal.specs.declared.Refusal.TheVariants.{Dims, Box, Shape, Count, Order, Source, Point, Room, Key, Root, Deep, Unstored, Tree, NotLeaf, File, Grid, Section, NotBuilt, Partial, Reading}
use Rattle.refusal.specs.Outcome.{Outcome}

abbrev pub number_of : Refusal → ℕ
number_of Dims = 1
number_of Box = 2
number_of Shape = 3
number_of Count = 4
number_of Order = 5
number_of (Source wall) = 6
number_of (Point wall) = 7
number_of (Room which) = 8
number_of Key = 9
number_of Root = 10
number_of Deep = 11
number_of (Unstored index) = 12
number_of Tree = 13
number_of (NotLeaf index) = 14
number_of File = 15
number_of Grid = 16
number_of Section = 17
number_of NotBuilt = 18
number_of Partial = 19
number_of (Reading index) = 20

-- the lowest failing index, which slice is short, or 0; and after the index of 6 and 7 the axis from 0 and the reason: 1 not finite, 2 below, 3 above
abbrev pub values_of : Refusal → List ℕ
values_of Dims = 0 ∷ []
values_of Box = 0 ∷ []
values_of Shape = 0 ∷ []
values_of Count = 0 ∷ []
values_of Order = 0 ∷ []
values_of (Source wall) = wall.index ∷ wall.axis ∷ wall.reason ∷ []
values_of (Point wall) = wall.index ∷ wall.axis ∷ wall.reason ∷ []
values_of (Room which) = which ∷ []
values_of Key = 0 ∷ []
values_of Root = 0 ∷ []
values_of Deep = 0 ∷ []
values_of (Unstored index) = index ∷ []
values_of Tree = 0 ∷ []
values_of (NotLeaf index) = index ∷ []
values_of File = 0 ∷ []
values_of Grid = 0 ∷ []
values_of Section = 0 ∷ []
values_of NotBuilt = 0 ∷ []
values_of Partial = 0 ∷ []
values_of (Reading index) = index ∷ []

-- 0 and no values for a call that was not refused
abbrev pub outcome_number : Outcome → ℕ
outcome_number (Ok tt) = 0
outcome_number (Err refusal) = number_of refusal

abbrev pub outcome_values : Outcome → List ℕ
outcome_values (Ok tt) = []
outcome_values (Err refusal) = values_of refusal

-- a number and how many values go with it, with the first three of them, 0 past the last
abbrev pub tells : ℕ → List ℕ → Told
tells n vs = record { number = n; count = length vs; value = get_or vs 0 0; axis = get_or vs 1 0; reason = get_or vs 2 0 }
