-- Order 10: beside the nodes by level, the same own counts, totals, leaves' sources and rows of each key.
use mathlib.Core.Path.{◌≡◌, refl, sym, ap, ap₂, ◌∙◌}
use mathlib.Core.Bool.{Bool, true, cond}
use mathlib.Core.List.{List, [], map}
use Prim.Native.Nat.{ℕ, ◌<◌}
use lib.ListN.{length, get_or}
use Rattle.slices.specs.Lists.{Mem}
use Rattle.morton.specs.Keys.{axes_known}
use Rattle.refine.specs.Counts.{sources_in}
use Rattle.tree.specs.Nodes.{leaf, own_of}
use Rattle.tree.specs.Sources.{leaf_sources}
use Rattle.tree.specs.Totals.{total_in, total_column}
use Rattle.tree.specs.Arrangement.{SameTree, old_number}
use Rattle.tree.proofs.Perm.{perm-length, perm-mem, perm-stored, perm-leaf, same_total}
use Rattle.tree.proofs.Ranges.{distinct}
use Rattle.tree.proofs.Renumber.{renumbered}
use Rattle.rows.specs.Lists.{u_row, v_row, sourced_cells, near_work}
use Rattle.growth.specs.declared.Rule.{Rule}
use Rattle.growth.specs.Nodes.{nodes}
use Rattle.growth.specs.ByLevel.{nodes_by_level}
use Rattle.growth.specs.Columns.{own_column, begin_column, indices_in, order_column}
use Rattle.growth.proofs.ByLevel.{level-ascending, level-distinct}
use Rattle.growth.proofs.Renumbered.{nodes-arranged}
use Rattle.growth.proofs.Sorted.{nodes-ascending}
use Rattle.growth.proofs.Columns.{own-map}
use Rattle.growth.proofs.Runs.{map_at, own_at, leaf-part}
use Rattle.growth.proofs.SameRows.{same-u-row, same-v-row, same-sourced-cells, same-near-work}

module _ (g : Rule) (s t : List ℕ) (known : axes_known g.axes ≡ true) where
  abbrev keys : List ℕ
  keys = nodes g s t

  abbrev own : List ℕ
  own = own_column g.axes (nodes g s t) s

  abbrev begin : List ℕ
  begin = begin_column (own_column g.axes (nodes g s t) s)

  abbrev order : List ℕ
  order = order_column g.axes (nodes g s t) s

  -- the columns by level
  abbrev pub old_own : List ℕ
  old_own = own_column g.axes (nodes_by_level g s t) s

  counts : (k : ℕ) → cond (leaf g.axes (nodes g s t) k) (sources_in g.axes s k) 0 ≡ cond (leaf g.axes (nodes_by_level g s t) k) (sources_in g.axes s k) 0
  counts k = ap (λ (b : Bool). cond b (sources_in g.axes s k) 0) (perm-leaf (nodes g s t) (nodes_by_level g s t) (nodes-arranged g s t) g.axes k)

  -- order 10's Z1: the same keys, each owning the same
  pub same-tree : SameTree keys own (nodes_by_level g s t) old_own
  unfolding own_column
  same-tree = record {
    arranged = nodes-arranged g s t;
    owned = λ k.
        own-map (λ k. cond (leaf g.axes (nodes g s t) k) (sources_in g.axes s k) 0) (nodes g s t) k
        ∙ ap₂ (λ (b : Bool) (n : ℕ). cond b n 0) (perm-stored (nodes g s t) (nodes_by_level g s t) (nodes-arranged g s t) k) (counts k)
        ∙ sym (own-map (λ k. cond (leaf g.axes (nodes_by_level g s t) k) (sources_in g.axes s k) 0) (nodes_by_level g s t) k);
  }

  pub same-totals : (k : ℕ) → total_in g.axes keys own k ≡ total_in g.axes (nodes_by_level g s t) old_own k
  same-totals = same_total g.axes keys own (nodes_by_level g s t) old_own same-tree

  -- node i stands in the old order at its old number
  pub old-node : (i : ℕ) → i < length keys → (old_number keys i < length (nodes_by_level g s t)) × (get_or (nodes_by_level g s t) (old_number keys i) 0 ≡ get_or keys i 0)
  old-node i l = renumbered g.axes keys (nodes_by_level g s t) (nodes-ascending g s t known) (level-ascending g s t known) (nodes-arranged g s t) i l

  -- order 10's Z2: each node's sources are what they were
  pub same-sources : (i : ℕ) → i < length keys
      → leaf_sources own begin order i ≡ leaf_sources old_own (begin_column old_own) (order_column g.axes (nodes_by_level g s t) s) (old_number keys i)
  same-sources i l =
      let o = old-node i l in
      leaf-part g.axes keys s i l
      ∙ ap (λ (b : Bool). cond b (indices_in g.axes s (get_or keys i 0)) []) (perm-leaf keys (nodes_by_level g s t) (nodes-arranged g s t) g.axes (get_or keys i 0))
      ∙ ap (λ (k : ℕ). cond (leaf g.axes (nodes_by_level g s t) k) (indices_in g.axes s k) []) (sym o.1)
      ∙ sym (leaf-part g.axes (nodes_by_level g s t) s (old_number keys i) o.0)

  -- order 10's Z3: each key's rows are what they were, and so are sourced cells and near work
  pub same-u-rows : (b : ℕ) → u_row g.axes keys own b ≡ u_row g.axes (nodes_by_level g s t) old_own b
  same-u-rows = same-u-row g.axes keys own (nodes_by_level g s t) old_own same-tree

  pub same-v-rows : (b : ℕ) → v_row g.axes keys own b ≡ v_row g.axes (nodes_by_level g s t) old_own b
  same-v-rows = same-v-row g.axes keys own (nodes_by_level g s t) old_own same-tree

  pub same-cells : sourced_cells g.axes keys own ≡ sourced_cells g.axes (nodes_by_level g s t) old_own
  same-cells = same-sourced-cells g.axes keys own (nodes_by_level g s t) old_own same-tree

  pub same-work : (weigh : ℕ → ℕ) → near_work g.axes keys own weigh ≡ near_work g.axes (nodes_by_level g s t) old_own weigh
  same-work weigh = same-near-work g.axes keys own (nodes_by_level g s t) old_own same-tree weigh weigh (λ b. refl)

-- ---- the columns are renumberings of each other: entry i of each stands in the column by level at its old number, and each number is one node's

module _ (g : Rule) (s t : List ℕ) (known : axes_known g.axes ≡ true) where
  abbrev new_keys : List ℕ
  new_keys = nodes g s t

  abbrev old_keys : List ℕ
  old_keys = nodes_by_level g s t

  abbrev new_own : List ℕ
  new_own = own_column g.axes (nodes g s t) s

  abbrev level_own : List ℕ
  level_own = own_column g.axes (nodes_by_level g s t) s

  pub same_length : length old_keys ≡ length new_keys
  same_length = sym (perm-length new_keys old_keys (nodes-arranged g s t))

  -- own counts
  pub old-own : (i : ℕ) → i < length new_keys → get_or level_own (old_number new_keys i) 0 ≡ get_or new_own i 0
  old-own i l =
      let o = old-node g s t known i l in
      own_at g.axes old_keys s (old_number new_keys i) o.0
      ∙ ap (λ (k : ℕ). cond (leaf g.axes old_keys k) (sources_in g.axes s k) 0) o.1
      ∙ ap (λ (b : Bool). cond b (sources_in g.axes s (get_or new_keys i 0)) 0) (sym (perm-leaf new_keys old_keys (nodes-arranged g s t) g.axes (get_or new_keys i 0)))
      ∙ sym (own_at g.axes new_keys s i l)

  -- totals
  pub old-total : (i : ℕ) → i < length new_keys → get_or (total_column g.axes old_keys level_own) (old_number new_keys i) 0 ≡ get_or (total_column g.axes new_keys new_own) i 0
  old-total i l =
      let o = old-node g s t known i l in
      map_at (total_in g.axes old_keys level_own) old_keys (old_number new_keys i) o.0
      ∙ ap (total_in g.axes old_keys level_own) o.1
      ∙ sym (same-totals g s t known (get_or new_keys i 0))
      ∙ sym (map_at (total_in g.axes new_keys new_own) new_keys i l)

  -- no two nodes had one number
  pub old_apart : (i j : ℕ) → i < length new_keys → j < length new_keys → old_number new_keys i ≡ old_number new_keys j → i ≡ j
  old_apart i j li lj e =
      distinct g.axes new_keys (nodes-ascending g s t known) i j li lj
      (sym (old-node g s t known i li).1 ∙ ap (λ (n : ℕ). get_or old_keys n 0) e ∙ (old-node g s t known j lj).1)

  -- and each number was one's
  pub old-each : (n : ℕ) → n < length old_keys → (i : ℕ) × (i < length new_keys) × (old_number new_keys i ≡ n)
  old-each n l = go (perm-mem old_keys new_keys (λ x. sym (nodes-arranged g s t x)) (get_or old_keys n 0) (n, l, refl))
    where
      go : Mem (get_or old_keys n 0) new_keys → (i : ℕ) × (i < length new_keys) × (old_number new_keys i ≡ n)
      go (i, li, e) = let o = old-node g s t known i li in (i, li, level-distinct g s t known (old_number new_keys i) n o.0 l (o.1 ∙ e))
