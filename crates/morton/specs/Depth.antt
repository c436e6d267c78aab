-- Document 01, "How the tree grows": the reference depth.
use Rattle.std.specs.Prelude.{Bool, true, false, cond, ℕ, zero, suc, ◌*◌, ◌^◌, leb}

-- the least k from here on with 2 ^ (d * k) at least the number of sources, held to `left` steps more
unfoldable pub depth_from : ℕ → ℕ → ℕ → ℕ → ℕ
depth_from d sources zero k = k
depth_from d sources (suc left) k = cond (leb sources (2 ^ (d * k))) k (depth_from d sources left (suc k))

-- held to 1..16
abbrev pub reference_depth : ℕ → ℕ → ℕ
reference_depth d sources = depth_from d sources 15 1
