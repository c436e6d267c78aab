-- How long a row is, by its starts.
use mathlib.Core.Path.{◌≡◌, sym, ap, ◌∙◌}
use mathlib.Core.List.{List}
use Prim.Native.Nat.{ℕ, ◌+◌, ◌-◌, ◌≤◌, ◌<◌}
use native.Mathlib.Omega.{arith}
use lib.ListN.{length, get_or, take, drop, length-drop}
use lib.Seq.{length-take-le}
use Rattle.rows.specs.Written.{row_at}
use Rattle.sums.specs.Right.{StartsRight}
use Rattle.list_check.proofs.Starts.{part-is, part_up, part_in}

pub row-length : (keys starts flat : List ℕ) → StartsRight keys starts flat → (i : ℕ) → i < length keys → get_or starts (i + 1) 0 - get_or starts i 0 ≡ length (row_at starts flat i)
row-length keys starts flat s i l = sym (ap length (sym (part-is keys starts flat s i l))
    ∙ length-take-le (get_or starts (i + 1) 0 - get_or starts i 0) (drop (get_or starts i 0) flat) (omega (arith, length-drop (get_or starts i 0) flat, part_up keys starts flat s i l, part_in keys starts flat s i l)))
