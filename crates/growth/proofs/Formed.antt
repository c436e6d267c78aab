-- The columns of a build: well formed, and all sources are in the leaves.
use mathlib.Core.Path.{◌≡◌, refl, ap, ◌∙◌, subst}
use mathlib.Core.Bool.{Bool, true, cond}
use mathlib.Core.List.{List}
use Prim.Native.Nat.{ℕ, ◌≤◌, ◌<◌}
use native.Mathlib.Omega.{arith}
use lib.ListN.{length, get_or, length-map}
use Rattle.slices.specs.Lists.{sum, Mem}
use Rattle.morton.specs.Keys.{axes_known, level_of}
use Rattle.refine.specs.Counts.{sources_in}
use Rattle.tree.specs.Order.{depth_of}
use Rattle.tree.specs.Totals.{total_in, total_column}
use Rattle.tree.specs.WellFormed.{most_sources, well_formed}
use Rattle.tree.proofs.Rules.{Formed, all_tested}
use Rattle.tree.proofs.Leaves.{level-greatest, greatest-le}
use Rattle.growth.specs.declared.Rule.{Rule}
use Rattle.growth.specs.Nodes.{nodes}
use Rattle.growth.specs.Columns.{own_column, begin_column, order_column}
use Rattle.growth.proofs.Sorted.{node-good, nodes-some, nodes-tree}
use Rattle.growth.proofs.Arranged.{Codes, order-length}
use Rattle.growth.proofs.Runs.{map_at, length-own, length-begin, begin-at, own_at, own-order}

module _ (g : Rule) (s t : List ℕ) (known : axes_known g.axes ≡ true) where
  abbrev pub keys : List ℕ
  keys = nodes g s t

  abbrev pub own : List ℕ
  own = own_column g.axes (nodes g s t) s

  abbrev pub begin : List ℕ
  begin = begin_column (own_column g.axes (nodes g s t) s)

  abbrev pub order : List ℕ
  order = order_column g.axes (nodes g s t) s

  abbrev pub total : List ℕ
  total = total_column g.axes (nodes g s t) (own_column g.axes (nodes g s t) s)

  -- no node is below level 16
  pub node-level : (k : ℕ) → Mem k (nodes g s t) → level_of k ≤ 16
  node-level k m = (node-good g s t known k m).level

  -- the depth is at least each node's level, and at most 16
  pub node-depth : (k : ℕ) → Mem k (nodes g s t) → level_of k ≤ depth_of (nodes g s t)
  node-depth k (i, l, e) = omega (arith, level-greatest (nodes g s t) i l, ap level_of e)

  pub depth-most : depth_of (nodes g s t) ≤ 16
  depth-most = omega (arith, greatest-le (nodes g s t) 16 (λ i l. node-level (get_or (nodes g s t) i 0) (i, l, refl)))

  -- own sources add up to the number of sources
  pub own-total : Codes g.axes s → sum own ≡ length s
  own-total codes = own-order g.axes keys s ∙ order-length g s t known codes

  module _ (codes : Codes g.axes s) (few : length s ≤ most_sources) where
    pub formed : Formed g.axes keys own begin total
    formed = record {
      owns = length-own g.axes keys s;
      begins = length-begin g.axes keys s;
      totals = length-map keys (total_in g.axes keys own);
      some = nodes-some g s t known;
      rows = record {
        tree = nodes-tree g s t known;
        inner = λ i l f. own_at g.axes keys s i l ∙ ap (λ (b : Bool). cond b (sources_in g.axes s (get_or keys i 0)) 0) f;
        runs = λ i l. begin-at g.axes keys s i (omega (arith, length-own g.axes keys s));
        most = omega (arith, own-total codes);
      };
      totalled = λ i l. map_at (total_in g.axes keys own) keys i l;
    }

    -- the tree that grows is well formed
    pub well-formed : well_formed g.axes keys own begin total ≡ true
    well-formed = all_tested g.axes keys own begin total formed
