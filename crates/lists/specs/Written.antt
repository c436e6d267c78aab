-- A list as it is written: the rows of all nodes one after the other, with their starts.
use Rattle.std.specs.Prelude.{◌≡◌, Bool, true, false, List, ℕ, ◌+◌, ◌≤◌, ◌<◌, leb, length, take, replicate}
use Rattle.slices.specs.Lists.{filled}
use Rattle.rows.specs.Written.{row_starts, row_keys, keys_room}

-- the rows of all nodes were written, n keys in all, unless they have more than the slice has room for
pub record WritesRows (row : ℕ → List ℕ) (keys starts out : List ℕ) (n : ℕ) : Type 0 where
  pub over : length out < n → length out < length (row_keys row keys)
  pub counted : n ≤ length out → n ≡ length (row_keys row keys)
  pub written : n ≤ length out → take n out ≡ row_keys row keys
  pub begins : n ≤ length out → take (length keys + 1) starts ≡ row_starts row keys

-- one list: written whole, with 0 in the unused rest, if its keys have room, else 0 throughout
pub record WritesList (row : ℕ → List ℕ) (keys : List ℕ) (places len : ℕ) (starts out : List ℕ) (enough : Bool) : Type 0 where
  pub fits : enough ≡ leb (length (row_keys row keys)) (keys_room len)
  pub begins : enough ≡ true → starts ≡ filled places (row_starts row keys)
  pub written : enough ≡ true → out ≡ filled len (row_keys row keys)
  pub cleared : enough ≡ false → (starts ≡ replicate places 0) × (out ≡ replicate len 0)
