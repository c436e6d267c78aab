-- When the numbers of a tree have room in their bytes.
use Rattle.std.specs.Prelude.{ℕ, ◌<◌, ◌^◌, List, length, get_or}
use Rattle.tree_file.specs.Contents.{Contents}
use Rattle.tree_file.specs.Written.{sections, body}

-- each number has room in w bytes
abbrev pub InBytes : ℕ → List ℕ → Type 0
InBytes w xs = (i : ℕ) → i < length xs → get_or xs i 0 < 256 ^ w

-- keys in eight bytes, other numbers in four, and no distance past u32
pub record Fits (t : Contents) : Type 0 where
  pub axes : t.axes < 256 ^ 4
  pub keys : InBytes 8 t.keys
  pub own : InBytes 4 t.own
  pub begin : InBytes 4 t.begin
  pub total : InBytes 4 t.total
  pub order : InBytes 4 t.order
  pub u_starts : InBytes 4 t.u_starts
  pub u_keys : InBytes 8 t.u_keys
  pub v_starts : InBytes 4 t.v_starts
  pub v_keys : InBytes 8 t.v_keys
  pub bytes : length (body (sections t)) < 256 ^ 4
