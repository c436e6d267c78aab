-- Totals worked out afresh from the begins.
use Rattle.std.specs.Prelude.{◌≡◌, true, List, ℕ, length}
use Rattle.slices.specs.Lists.{sum}
use Rattle.tree.specs.WellFormed.{formed}
use Rattle.tree.specs.Finding.{TreeKeys}

-- own counts with which the begins are a tree's, and so many sources
pub record Counted (d : ℕ) (key begin : List ℕ) (sources : ℕ) (own : List ℕ) : Type 0 where
  pub sound : formed d key own begin ≡ true
  pub many : sum own ≡ sources

pub record Totallable (d : ℕ) (key begin : List ℕ) (sources : ℕ) (total : List ℕ) : Type 0 where
  pub nodes : TreeKeys d key
  pub own : List ℕ
  pub counted : Counted d key begin sources own
  pub placed : length total ≡ length key
