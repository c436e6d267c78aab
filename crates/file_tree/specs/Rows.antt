-- The lengths and the first row of the columns of a tree file; for the house.
use Rattle.std.specs.Prelude.{◌≡◌, List, ℕ, ◌<◌, length, get_or}

-- one length N ≥ 1
pub record OneLength (keys own begin total : List ℕ) : Type 0 where
  pub some : 0 < length keys
  pub owns : length own ≡ length keys
  pub begins : length begin ≡ length keys
  pub totals : length total ≡ length keys

-- the root's row
pub record RootRow (keys own begin : List ℕ) : Type 0 where
  pub root : get_or keys 0 0 ≡ 0
  pub rootless : get_or own 0 0 ≡ 0
  pub first : get_or begin 0 0 ≡ 0
