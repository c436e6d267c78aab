-- What `encode` takes: anchors of 16 levels or fewer.
use Rattle.std.specs.Prelude.{ℕ, ◌<◌, List, get_or}

-- three numbers of two bytes
pub record Bytes2 (xs : List ℕ) : Type 0 where
  pub first : get_or xs 0 0 < 65536
  pub second : get_or xs 1 0 < 65536
  pub third : get_or xs 2 0 < 65536
