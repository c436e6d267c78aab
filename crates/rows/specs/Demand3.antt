-- Demand 3 of the tender, as promises about rows: u and v give each node's row by its key, whoever wrote them.
use Rattle.std.specs.Prelude.{◌≡◌, Bool, true, false, List, map, ℕ, ◌+◌, ◌≤◌, ◌<◌, length, get_or}
use Rattle.slices.specs.Lists.{count, bit, sum, Mem}
use Rattle.morton.specs.Keys.{far_room, under, ancestors}
use Rattle.morton.specs.Anchors.{close}
use Rattle.tree.specs.Nodes.{leaf}
use Rattle.tree.specs.WellFormed.{Run}

-- a listed cell brings all sources in it: how often a row brings those of leaf s
abbrev pub brings : ℕ → ℕ → List ℕ → ℕ
brings d s row = count (λ x. under d x s) row

-- how often leaf b meets a source of leaf s, over its own U row and the V rows of itself and all its ancestors
abbrev pub meetings : ℕ → (u v : ℕ → List ℕ) → ℕ → ℕ → ℕ
meetings d u v b s = brings d s (u b) + sum (map (λ a. brings d s (v a)) (ancestors d b))

-- each source place lies in exactly one run, and the run is a leaf's
pub record Runs (d : ℕ) (keys own begin : List ℕ) : Type 0 where
  pub one : (p : ℕ) → p < sum own → (j : ℕ) × Run own begin j p
  pub only : (p j k : ℕ) → Run own begin j p → Run own begin k p → j ≡ k
  pub leaf's : (p j : ℕ) → Run own begin j p → leaf d keys (get_or keys j 0) ≡ true

-- each leaf, node i, meets each source, place p in the run of node j, exactly once
pub record Once (d : ℕ) (keys own begin : List ℕ) (u v : ℕ → List ℕ) : Type 0 where
  pub once : (i j p : ℕ) → i < length keys → leaf d keys (get_or keys i 0) ≡ true → Run own begin j p
      → meetings d u v (get_or keys i 0) (get_or keys j 0) ≡ 1

-- it is met in U exactly when the two leaves' cells at the coarser one's level coincide or touch: then once, else not at all
pub record Near (d : ℕ) (keys own begin : List ℕ) (u : ℕ → List ℕ) : Type 0 where
  pub near : (i j p : ℕ) → i < length keys → leaf d keys (get_or keys i 0) ≡ true → Run own begin j p
      → brings d (get_or keys j 0) (u (get_or keys i 0)) ≡ bit (close d (get_or keys i 0) (get_or keys j 0))

-- no V row pairs touching cells, taken at the coarser one's level
pub record Far (d : ℕ) (keys : List ℕ) (v : ℕ → List ℕ) : Type 0 where
  pub far : (i c : ℕ) → i < length keys → Mem c (v (get_or keys i 0)) → close d (get_or keys i 0) c ≡ false

-- and none has more than 3, 27 or 189 entries in one, two or three dimensions
pub record Few (d : ℕ) (keys : List ℕ) (v : ℕ → List ℕ) : Type 0 where
  pub few : (i : ℕ) → i < length keys → length (v (get_or keys i 0)) ≤ far_room d
