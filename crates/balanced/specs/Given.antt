-- Document 02, order 9: what is asked of the tree that is given, and of its points.
use Rattle.std.specs.Prelude.{Bool, true, false, ◌&&◌, ◌||◌, not, List, [], ◌∷◌, ℕ, ◌^◌, eqb, length, get_or}
use Rattle.slices.specs.Lists.{any}
use Rattle.slices.specs.Every.{every}
use Rattle.morton.specs.Keys.{child}
use Rattle.tree.specs.Nodes.{stored, child_of}
use Rattle.tree.specs.Leaves.{held}
use Rattle.growth.specs.Columns.{own_column, order_column}

-- a cell has no child stored, or all of them
abbrev pub all_or_none : ℕ → List ℕ → ℕ → Bool
all_or_none d keys k = not (any (child_of d k) keys) || every (2 ^ d) (λ c. stored keys (child d k c))

-- no split cell lacks a child
unfoldable pub is_full : ℕ → List ℕ → Bool
is_full d keys = every (length keys) (λ i. all_or_none d keys (get_or keys i 0))

-- two lists are the same
unfoldable pub same : List ℕ → List ℕ → Bool
same [] [] = true
same [] (y ∷ ys) = false
same (x ∷ xs) [] = false
same (x ∷ xs) (y ∷ ys) = eqb x y && same xs ys

-- every point is in a leaf, and the own counts and the order are those that the points give, by their codes
unfoldable pub is_given : ℕ → (keys own order codes : List ℕ) → Bool
is_given d keys own order codes = every (length codes) (λ i. held d keys (get_or codes i 0)) && (same own (own_column d keys codes) && same order (order_column d keys codes))
