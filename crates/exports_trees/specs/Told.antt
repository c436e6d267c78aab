-- What the C face tells of the answers on trees: what stands in place of a leaf after a refusal, and where a node's part starts.
use Rattle.std.specs.Prelude.{cond, List, ℕ, eqb, length, get_or}
use Rattle.tree.specs.Sources.{leaf_sources}
use Rattle.lookup.specs.declared.Holder.{Holder}

abbrev pub no_leaf : Holder
no_leaf = record { key = 0; steps = 0 }

-- ---- where a node's part of the order column starts; 0 where the part is empty
abbrev pub part_start : List ℕ → List ℕ → List ℕ → ℕ → ℕ
part_start own begin order node = cond (eqb (length (leaf_sources own begin order node)) 0) 0 (get_or begin node 0)
