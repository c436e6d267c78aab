-- What is used of a well-formed tree, whatever order its nodes stand in.
use mathlib.Core.Path.{◌≡◌, refl, sym, ap, ◌∙◌}
use mathlib.Core.Bool.{Bool, true, false}
use mathlib.Core.List.{List}
use Prim.Native.Nat.{ℕ, ◌≤◌, ◌<◌}
use native.Mathlib.Omega.{arith}
use lib.Dec.{ltb}
use lib.ListN.{length, get_or, take}
use Rattle.slices.specs.Lists.{sum, Mem, Distinct}
use Rattle.morton.specs.Keys.{level_of, parent, under}
use Rattle.tree.specs.Nodes.{leaf, own_of, sourced}
use Rattle.tree.specs.WellFormed.{formed}
use Rattle.tree.proofs.Rules.{WellFormed, facts}
use Rattle.tree.proofs.Stored.{distinct, level-le, parent-mem, leaf-under}
use Rattle.tree.proofs.Sourced.{sourced-leaf}

pub record Tree (d : ℕ) (keys own begin : List ℕ) : Type 0 where
  pub distinct : Distinct keys
  pub owns : length own ≡ length keys
  pub begins : length begin ≡ length keys
  pub runs : (i : ℕ) → i < length own → get_or begin i 0 ≡ sum (take i own)
  pub levels : (k : ℕ) → Mem k keys → level_of k ≤ 16
  pub parents : (k : ℕ) → Mem k keys → 0 < level_of k → Mem (parent d k) keys
  -- the only node at or under a leaf is the leaf, and it is sourced if it owns sources
  pub alone : (x s : ℕ) → leaf d keys x ≡ true → Mem s keys → under d x s ≡ true → x ≡ s
  pub leaf_sourced : (k : ℕ) → leaf d keys k ≡ true → Mem k keys → sourced d keys own k ≡ ltb 0 (own_of keys own k)

pub tree-facts : (d : ℕ) (keys own begin : List ℕ) → formed d keys own begin ≡ true → Tree d keys own begin
tree-facts d keys own begin h =
    let w = facts d keys own begin h in
    record {
      distinct = distinct d keys w.ascending;
      owns = w.owns;
      begins = w.begins;
      runs = λ i l. w.runs i (omega (arith, w.owns));
      levels = level-le d keys w.ascending;
      parents = parent-mem d keys w.ascending w.parents;
      alone = leaf-under d keys w.ascending w.parents;
      leaf_sourced = sourced-leaf d keys own begin w;
    }
