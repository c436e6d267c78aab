-- Rows put one after the other into the key column and a column of marks, and counted on when they are full; and the three columns that the marks tell.
use Rattle.std.specs.Prelude.{◌≡◌, Bool, cond, List, [], ◌∷◌, ◌++◌, map, ℕ, ◌+◌, ◌*◌, ◌/◌, ◌%◌, ◌≤◌, min, eqb, length, take}
use Rattle.growth.specs.declared.Rule.{Rule}
use Rattle.growth.specs.Columns.{begin_column}
use Rattle.parting.specs.Cells.{Points, splitting, size_of}

-- a row's mark: twice the sources in its cell, and one more where the cell does not split
abbrev pub mark_of : ℕ → Bool → ℕ
mark_of sum split = cond split (2 * sum) (2 * sum + 1)

-- what it tells: the sources in the cell, and those that the node owns
abbrev pub sum_marked : ℕ → ℕ
sum_marked m = m / 2

abbrev pub own_marked : ℕ → ℕ
own_marked m = cond (eqb (m % 2) 0) 0 (m / 2)

-- the key column and the marks; and how many rows were put, or one more than the room
pub record Marked : Type 0 where
  pub key : List ℕ
  pub mark : List ℕ
  pub number : ℕ

abbrev pub marked : List ℕ → List ℕ → ℕ → Marked
marked key mark m = record { key = key; mark = mark; number = m }

-- both begin with the rows of these nodes
pub record Filled (g : Rule) (p : Points) (s : Marked) (done : List ℕ) : Type 0 where
  pub keys : take (length done) s.key ≡ done
  pub marks : take (length done) s.mark ≡ map (λ k. mark_of (size_of g p k) (splitting g p k)) done

-- the nodes `done` were put: they are counted, and where there is room for all both columns begin with them, if they have that room
pub record Holds (g : Rule) (p : Points) (room : ℕ) (s : Marked) (done : List ℕ) : Type 0 where
  pub bounded : room ≤ 1048576
  pub counted : s.number ≡ min (length done) (room + 1)
  pub filled : length done ≤ room → room ≤ length s.key → room ≤ length s.mark → Filled g p s done

-- one row more was put: cell k with its sources, and whether it splits
abbrev pub PutsRow : ℕ → ℕ → ℕ → Bool → Marked → Marked → Type 0
PutsRow room k sum split s t =
    (g : Rule) (p : Points) (done : List ℕ) → Holds g p room s done → sum ≡ size_of g p k → split ≡ splitting g p k → Holds g p room t (done ++ k ∷ [])

-- the first n marks were spread out into three columns
pub record Spread (n : ℕ) (marks own begin total : List ℕ) : Type 0 where
  pub owns : take n own ≡ map own_marked (take n marks)
  pub begins : take n begin ≡ begin_column (map own_marked (take n marks))
  pub totals : take n total ≡ map sum_marked (take n marks)
