-- Codes counted by their cell: a code without its last w bits.
use Rattle.std.specs.Prelude.{List, ◌≡◌, ℕ, suc, ◌/◌, ◌^◌, ◌<◌, leb, eqb, length, get_or, take}
use Rattle.slices.specs.Lists.{count, sum}

-- how many codes lie in cell x
abbrev pub in_cell : ℕ → List ℕ → ℕ → ℕ
in_cell w codes x = count (λ c. eqb (c / 2 ^ w) x) codes

-- how many lie in cell x and those before it
abbrev pub up_to_cell : ℕ → List ℕ → ℕ → ℕ
up_to_cell w codes x = count (λ c. leb (c / 2 ^ w) x) codes

-- each code's cell is one of n
pub record Shifted (w : ℕ) (codes : List ℕ) (n : ℕ) : Type 0 where
  pub below : (i : ℕ) → i < length codes → get_or codes i 0 / 2 ^ w < n

-- each entry counts the codes in its cell
pub record CellCounts (w : ℕ) (codes counts : List ℕ) : Type 0 where
  pub each : (x : ℕ) → x < length counts → get_or counts x 0 ≡ in_cell w codes x

-- each entry counts those in its cell and before it
pub record CellSums (w : ℕ) (codes sums : List ℕ) : Type 0 where
  pub each : (x : ℕ) → x < length sums → get_or sums x 0 ≡ up_to_cell w codes x

-- each entry is the sum of the column's entries up to its place
pub record RunningSums (column sums : List ℕ) : Type 0 where
  pub each : (x : ℕ) → x < length column → get_or sums x 0 ≡ sum (take (suc x) column)
