-- The slices lent to a build: as the growth leaves them, and at the build's end.
use Rattle.std.specs.Prelude.{◌≡◌, List, ◌++◌, map, ℕ, ◌-◌, ◌%◌, ◌≤◌, length, take, replicate, Ok, Err}
use Rattle.slices.specs.Lists.{sum}
use Rattle.tree.specs.Order.{depth_of}
use Rattle.refusal.specs.Outcome.{Answer}
use Rattle.growth.specs.declared.Grown.{Grown}
use Rattle.growth.specs.Columns.{begin_column}
use Rattle.filling.specs.declared.Started.{Started}
use Rattle.grow.specs.Rows.{own_marked, sum_marked}

-- a word's last 20 bits are its source's index
abbrev pub indices : List ℕ → List ℕ
indices words = map (λ w. w % 1048576) words

-- the work, the order column and the four node columns
pub record Slices : Type 0 where
  pub work : List ℕ
  pub order : List ℕ
  pub key : List ℕ
  pub own : List ℕ
  pub begin : List ℕ
  pub total : List ℕ

abbrev pub slices : (work order key own begin total : List ℕ) → Slices
slices work order key own begin total = record { work = work; order = order; key = key; own = own; begin = begin; total = total }

-- n rows are put, their marks in the column of the totals, and the words of so many sources stand in the work
pub record RowsPut (rows n : ℕ) (s : Slices) : Type 0 where
  pub in_work : rows ≤ length s.work
  pub in_order : rows ≤ length s.order
  pub in_key : n ≤ length s.key
  pub in_own : n ≤ length s.own
  pub in_begin : n ≤ length s.begin
  pub in_total : n ≤ length s.total
  pub few : sum (map own_marked (take n s.total)) ≤ 1048576

-- what was put is spread out, with 0 in the unused places
pub record Filled (rows n : ℕ) (s t : Slices) : Type 0 where
  pub worked : t.work ≡ replicate (length s.work) 0
  pub ordered : t.order ≡ indices (take rows s.work) ++ replicate (length s.order - rows) 0
  pub keyed : t.key ≡ take n s.key ++ replicate (length s.key - n) 0
  pub owned : t.own ≡ map own_marked (take n s.total) ++ replicate (length s.own - n) 0
  pub begun : t.begin ≡ begin_column (map own_marked (take n s.total)) ++ replicate (length s.begin - n) 0
  pub summed : t.total ≡ map sum_marked (take n s.total) ++ replicate (length s.total - n) 0

-- all is 0
pub record Cleared (s t : Slices) : Type 0 where
  pub worked : t.work ≡ replicate (length s.work) 0
  pub ordered : t.order ≡ replicate (length s.order) 0
  pub keyed : t.key ≡ replicate (length s.key) 0
  pub owned : t.own ≡ replicate (length s.own) 0
  pub begun : t.begin ≡ replicate (length s.begin) 0
  pub summed : t.total ≡ replicate (length s.total) 0

-- the number of nodes that are put and their depth, or the refusal
abbrev pub grown_of : Answer Started → List ℕ → Answer Grown
grown_of (Ok p) key = Ok (record { nodes = p.nodes; depth = depth_of (take p.nodes key) })
grown_of (Err r) key = Err r

-- the slices at the build's end
abbrev pub Ended : Answer Started → Slices → Slices → Type 0
Ended (Ok p) s t = Filled p.rows p.nodes s t
Ended (Err r) s t = Cleared s t
