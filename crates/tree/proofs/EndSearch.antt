-- The search for the end of a node's range, by the test whether a row lies under the node.
use mathlib.Core.Path.{◌≡◌, refl, sym, ap, ◌∙◌}
use mathlib.Core.Bool.{Bool, true, false, ◌&&◌}
use mathlib.Core.List.{List}
use Prim.Native.Nat.{ℕ, suc, ◌+◌, ◌-◌, ◌≤◌, ◌<◌}
use native.Mathlib.Omega.{arith}
use native.Mathlib.Decide.{dec_lt}
use lib.Dec.{leb, ltb, eqb}
use lib.ListN.{length, get_or}
use borrow.Author.Tests.{ltb-true, lt-ltb, lt-leb, le-leb}
use Rattle.slices.proofs.Tests.{and_r, both, clash}
use Rattle.morton.specs.Keys.{level_of, code_of, above, under}
use Rattle.tree.specs.Order.{end_of}
use Rattle.tree.specs.Finding.{TreeKeys}
use Rattle.tree.proofs.Ends.{ends}
use Rattle.tree.proofs.Laws.{under-range}
use Rattle.tree.proofs.Leaves.{tree_of}

-- the test, by level and by code
pub holds_not : (d a b : ℕ) → level_of b < level_of a → false ≡ under d a b
holds_not d a b h = rw (lt-leb (level_of a) (level_of b) h)

pub holds-code : (d a b u : ℕ) → u ≡ above d (level_of b - level_of a) (code_of b) → level_of a ≤ level_of b → eqb u (code_of a) ≡ under d a b
holds-code d a b u e h = rw (le-leb (level_of a) (level_of b) h, ← e)

-- the end is past one number, and at or before another
pub record Ending (keys : List ℕ) (node low high : ℕ) : Type 0 where
  pub from : node ≤ low
  pub most : high ≤ length keys
  pub inside : low < end_of keys node
  pub outside : end_of keys node ≤ high

module _ (d : ℕ) (keys : List ℕ) (k : TreeKeys d keys) (node : ℕ) (l : node < length keys) where
  pub ending-start : Ending keys node node (length keys)
  ending-start = record { from = omega arith; most = omega arith; inside = (ends keys node l).after; outside = (ends keys node l).within }

  module _ (low high m : ℕ) (e : Ending keys node low high) (p : low < m) (q : m < high) where
    test : under d (get_or keys node 0) (get_or keys m 0) ≡ (leb node m && ltb m (end_of keys node))
    test = under-range d keys (tree_of d keys k) node m l (omega (arith, e.most))

    pub ending-low : under d (get_or keys node 0) (get_or keys m 0) ≡ true → Ending keys node m high
    ending-low u = record {
      from = omega (arith, e.from);
      most = e.most;
      inside = ltb-true m (end_of keys node) (and_r (leb node m) _ (sym test ∙ u));
      outside = e.outside;
    }

    pub ending-high : under d (get_or keys node 0) (get_or keys m 0) ≡ false → Ending keys node low m
    ending-high u = record { from = e.from; most = omega (arith, e.most); inside = e.inside; outside = past (dec_lt m (end_of keys node)) }
      where
        past : Dec (m < end_of keys node) → end_of keys node ≤ m
        past (no n) = omega arith
        past (yes n) = absurd (clash (test ∙ both (le-leb node m (omega (arith, e.from))) (lt-ltb m (end_of keys node) n)) u)

pub ending-done : (keys : List ℕ) (node low high : ℕ) → Ending keys node low high → high ≤ low + 1 → low + 1 ≡ end_of keys node
ending-done keys node low high e h = omega (arith, e.inside, e.outside)
