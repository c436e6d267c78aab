-- Order 10: the listing prints of a tree in Z order what it printed of the tree by level, to the byte.
use mathlib.Core.Path.{◌≡◌, refl, sym, ap, ap₂, ◌∙◌, subst, fun_ext}
use mathlib.Core.Bool.{true}
use mathlib.Core.List.{List, [], ◌∷◌, ◌++◌, map}
use Prim.Native.Nat.{ℕ, suc, ◌+◌, ◌<◌}
use native.Mathlib.Nat.{zero-add}
use native.Mathlib.Omega.{arith}
use native.Mathlib.Decide.{dec_lt}
use lib.ListN.{length, get_or, length-append}
use Rattle.slices.specs.Lists.{range, concat_map, sum, Distinct}
use Rattle.slices.proofs.Lists.{get_or-range, get_d_map}
use Rattle.morton.specs.Keys.{level_of, code_of, axes_known}
use Rattle.tree.specs.Nodes.{own_of}
use Rattle.tree.proofs.ByLevel as by_level_nodes
use Rattle.tree.proofs.Members.{own_at}
use Rattle.rows.specs.Lists.{u_row, v_row, near_work}
use Rattle.rows.specs.Written.{row_keys}
use Rattle.growth.specs.declared.Rule.{Rule}
use Rattle.growth.specs.ByLevel.{nodes_by_level}
use Rattle.growth.specs.Columns.{own_column}
use Rattle.growth.proofs.ByLevel.{level-some, level-ascending}
use Rattle.growth.proofs.Runs.{length-own}
use Rattle.tree.specs.Order.{depth_of}
use Rattle.tree.specs.Arrangement.{Arrangement, SameTree, old_number}
use Rattle.tree.proofs.Rules.{Ascending}
use Rattle.tree.proofs.Ranges.{distinct, level-le}
use Rattle.tree.proofs.Perm.{perm-length, perm-sum}
use Rattle.tree.proofs.Renumber.{renumbered}
use Rattle.growth.specs.Nodes.{nodes}
use Rattle.growth.proofs.Sorted.{nodes-ascending}
use Rattle.growth.proofs.SameRows.{same-u-row, same-v-row, same-near-work}
use Rattle.growth.proofs.SameDepth.{same-depth}
use Rattle.growth.proofs.BothOrders.{same-tree}
use Rattle.text.specs.Digits.{decimal}
use Rattle.text.specs.ByLevel.{listing_by_level, tree_listing_by_level}
use Rattle.text.specs.Listing.{field, lettered, by_level, first_line, node_line, lines_from, listing, tree_listing}
use Rattle.text.proofs.Levels.{printed-node, old-numbers, all-printed}

-- ---- lines

module _ (keys own keys' own' : List ℕ) (u v u' v' : ℕ → List ℕ) where
  -- node i prints under number n what node n printed
  same_line : (n i : ℕ) → get_or keys i 0 ≡ get_or keys' n 0 → get_or own i 0 ≡ get_or own' n 0 → u i ≡ u' n → v i ≡ v' n → node_line keys own u v n i ≡ node_line keys' own' u' v' n n
  unfolding node_line
  same_line n i ek eo eu ev =
      ap (λ (l : List ℕ). l ++ 10 ∷ [])
      (ap₂ ◌++◌ (ap₂ ◌++◌ (ap₂ ◌++◌ (ap (λ (l : List ℕ). decimal n ++ l) (ap field ek)) (ap field eo)) (ap (lettered 85) eu)) (ap (lettered 86) ev))

  same_lines : (n : ℕ) (printed : List ℕ) → ((j : ℕ) → j < length printed → node_line keys own u v (n + j) (get_or printed j 0) ≡ node_line keys' own' u' v' (n + j) (n + j))
      → lines_from keys own u v n printed ≡ concat_map (λ m. node_line keys' own' u' v' m m) (range n (length printed))
  unfolding lines_from concat_map range
  same_lines n [] h = refl
  same_lines n (i ∷ rest) h =
      let e : n + 0 ≡ n = omega arith in
      ap₂ ◌++◌ (subst (λ (m : ℕ). node_line keys own u v m i ≡ node_line keys' own' u' v' m m) e (h 0 (omega arith)))
      (same_lines (suc n) rest (λ j l.
      let q : n + suc j ≡ suc n + j = omega arith in
      subst (λ (m : ℕ). node_line keys own u v m (get_or rest j 0) ≡ node_line keys' own' u' v' m m) q (h (suc j) (omega arith))))

-- ---- the text of one tree in two orders

distinct-by-level : (d : ℕ) (keys : List ℕ) → by_level_nodes.Ascending d keys → Distinct keys
distinct-by-level d keys w i j li lj e = go (dec_lt i j) (dec_lt j i)
  where
    go : Dec (i < j) → Dec (j < i) → i ≡ j
    go (yes l) _ = absurd (omega (arith, (by_level_nodes.earlier-at d keys w i j l lj).1 (ap level_of e), ap code_of e))
    go (no n) (yes l) = absurd (omega (arith, (by_level_nodes.earlier-at d keys w j i l li).1 (sym (ap level_of e)), ap code_of e))
    go (no n) (no m) = omega arith

-- the same nodes in Z order and by level, each owning the same
pub record TwoOrders (d : ℕ) (keys own keys' own' : List ℕ) : Type 0 where
  pub same : SameTree keys own keys' own'
  pub ascend : Ascending d keys
  pub ascend' : by_level_nodes.Ascending d keys'
  pub owns : length own ≡ length keys
  pub owns' : length own' ≡ length keys'

module _ (d : ℕ) (keys own keys' own' : List ℕ) (two : TwoOrders d keys own keys' own') where
  all : length (by_level keys) ≡ length keys'
  all = all-printed keys (level-le d keys two.ascend) ∙ perm-length keys keys' two.same.arranged

  -- the node printed under number j is the one that had it
  printed-key : (j : ℕ) → j < length (by_level keys) → get_or keys (get_or (by_level keys) j 0) 0 ≡ get_or keys' j 0
  printed-key j l =
      let o : old_number keys (get_or (by_level keys) j 0) ≡ j =
      sym (get_d_map (old_number keys) (by_level keys) j l) ∙ ap (λ (x : List ℕ). get_or x j 0) (old-numbers keys) ∙ get_or-range 0 (length (by_level keys)) j l ∙ zero-add j in
      sym (renumbered d keys keys' two.ascend two.ascend' two.same.arranged (get_or (by_level keys) j 0) (printed-node keys (get_or (by_level keys) j 0) (j, l, refl))).1
      ∙ ap (λ (n : ℕ). get_or keys' n 0) o

  printed-own : (j : ℕ) → j < length (by_level keys) → get_or own (get_or (by_level keys) j 0) 0 ≡ get_or own' j 0
  printed-own j l =
      sym (own_at keys own (distinct d keys two.ascend) two.owns (get_or (by_level keys) j 0) (printed-node keys (get_or (by_level keys) j 0) (j, l, refl)))
      ∙ two.same.owned (get_or keys (get_or (by_level keys) j 0) 0)
      ∙ ap (own_of keys' own') (printed-key j l)
      ∙ own_at keys' own' (distinct-by-level d keys' two.ascend') two.owns' j (omega (arith, all))

  -- rows that go by the node's key
  pub same_text : (u v : ℕ → List ℕ) (axes depth sources work : ℕ)
      → listing keys own (λ i. u (get_or keys i 0)) (λ i. v (get_or keys i 0)) axes depth sources work
      ≡ listing_by_level keys' own' (λ i. u (get_or keys' i 0)) (λ i. v (get_or keys' i 0)) axes depth sources work
  same_text u v axes depth sources work =
      ap₂ ◌++◌ (ap (λ (n : ℕ). first_line axes n depth sources work) (perm-length keys keys' two.same.arranged))
      (same_lines keys own keys' own' (λ i. u (get_or keys i 0)) (λ i. v (get_or keys i 0)) (λ i. u (get_or keys' i 0)) (λ i. v (get_or keys' i 0)) 0 (by_level keys) each
      ∙ ap (λ (n : ℕ). concat_map (λ m. node_line keys' own' (λ i. u (get_or keys' i 0)) (λ i. v (get_or keys' i 0)) m m) (range 0 n)) all)
    where
      each : (j : ℕ) → j < length (by_level keys)
          → node_line keys own (λ i. u (get_or keys i 0)) (λ i. v (get_or keys i 0)) (0 + j) (get_or (by_level keys) j 0) ≡ node_line keys' own' (λ i. u (get_or keys' i 0)) (λ i. v (get_or keys' i 0)) (0 + j) (0 + j)
      each j l =
          let k = printed-key j l in
          subst
          (λ (n : ℕ). node_line keys own (λ i. u (get_or keys i 0)) (λ i. v (get_or keys i 0)) n (get_or (by_level keys) j 0) ≡ node_line keys' own' (λ i. u (get_or keys' i 0)) (λ i. v (get_or keys' i 0)) n n)
          (sym (zero-add j))
          (same_line keys own keys' own' (λ i. u (get_or keys i 0)) (λ i. v (get_or keys i 0)) (λ i. u (get_or keys' i 0)) (λ i. v (get_or keys' i 0)) j (get_or (by_level keys) j 0) k (printed-own j l) (ap u k) (ap v k))

-- ---- the numbers that decide whether a listing has room

length-rows : (row : ℕ → List ℕ) (keys : List ℕ) → length (row_keys row keys) ≡ sum (map (λ k. length (row k)) keys)
unfolding concat_map sum
length-rows row [] = refl
length-rows row (k ∷ ks) = length-append (row k) (concat_map row ks) ∙ ap (λ (n : ℕ). length (row k) + n) (length-rows row ks)

-- rows that go by the node's key have as many keys in both orders
same_size : (keys keys' : List ℕ) → Arrangement keys keys' → (row : ℕ → List ℕ) → length (row_keys row keys) ≡ length (row_keys row keys')
same_size keys keys' a row = length-rows row keys ∙ perm-sum keys keys' a (λ k. length (row k)) ∙ sym (length-rows row keys')

module _ (d : ℕ) (keys own keys' own' : List ℕ) (same : SameTree keys own keys' own') where
  pub same-u-size : length (row_keys (u_row d keys own) keys) ≡ length (row_keys (u_row d keys' own') keys')
  same-u-size = ap (λ (u : ℕ → List ℕ). length (row_keys u keys)) (fun_ext (same-u-row d keys own keys' own' same)) ∙ same_size keys keys' same.arranged (u_row d keys' own')

  pub same-v-size : length (row_keys (v_row d keys own) keys) ≡ length (row_keys (v_row d keys' own') keys')
  same-v-size = ap (λ (v : ℕ → List ℕ). length (row_keys v keys)) (fun_ext (same-v-row d keys own keys' own' same)) ∙ same_size keys keys' same.arranged (v_row d keys' own')

-- ---- with the tree's own rows, depth and near work

pub same-listing : (d : ℕ) (keys own keys' own' : List ℕ) → TwoOrders d keys own keys' own' → 0 < length keys' → (sources : ℕ) (weigh weigh' : ℕ → ℕ) → ((b : ℕ) → weigh b ≡ weigh' b)
    → tree_listing d keys own sources weigh ≡ tree_listing_by_level d keys' own' sources weigh'
same-listing d keys own keys' own' two some sources weigh weigh' e =
    ap₂ (λ (u v : ℕ → List ℕ). listing keys own (λ i. u (get_or keys i 0)) (λ i. v (get_or keys i 0)) d (depth_of keys) sources (near_work d keys own weigh))
    (fun_ext (same-u-row d keys own keys' own' two.same)) (fun_ext (same-v-row d keys own keys' own' two.same))
    ∙ same_text d keys own keys' own' two (u_row d keys' own') (v_row d keys' own') d (depth_of keys) sources (near_work d keys own weigh)
    ∙ ap₂ (λ (n w : ℕ). listing_by_level keys' own' (λ i. u_row d keys' own' (get_or keys' i 0)) (λ i. v_row d keys' own' (get_or keys' i 0)) d n sources w)
    (same-depth d keys keys' two.same.arranged two.ascend' some) (same-near-work d keys own keys' own' two.same weigh weigh' e)

-- the text of a build is what it was
module _ (g : Rule) (s t : List ℕ) (known : axes_known g.axes ≡ true) where
  pub build-orders : TwoOrders g.axes (nodes g s t) (own_column g.axes (nodes g s t) s) (nodes_by_level g s t) (own_column g.axes (nodes_by_level g s t) s)
  build-orders = record {
    same = same-tree g s t known;
    ascend = nodes-ascending g s t known;
    ascend' = level-ascending g s t known;
    owns = length-own g.axes (nodes g s t) s;
    owns' = length-own g.axes (nodes_by_level g s t) s;
  }

  pub build-text : (sources : ℕ) (weigh weigh' : ℕ → ℕ) → ((b : ℕ) → weigh b ≡ weigh' b)
      → tree_listing g.axes (nodes g s t) (own_column g.axes (nodes g s t) s) sources weigh ≡ tree_listing_by_level g.axes (nodes_by_level g s t) (own_column g.axes (nodes_by_level g s t) s) sources weigh'
  build-text = same-listing g.axes (nodes g s t) (own_column g.axes (nodes g s t) s) (nodes_by_level g s t) (own_column g.axes (nodes_by_level g s t) s) build-orders (level-some g s t known)

  -- as many nodes, U keys and V keys as before: a file has room where it had room
  pub build-sizes : (length (nodes g s t) ≡ length (nodes_by_level g s t))
      × (length (row_keys (u_row g.axes (nodes g s t) (own_column g.axes (nodes g s t) s)) (nodes g s t))
      ≡ length (row_keys (u_row g.axes (nodes_by_level g s t) (own_column g.axes (nodes_by_level g s t) s)) (nodes_by_level g s t)))
      × (length (row_keys (v_row g.axes (nodes g s t) (own_column g.axes (nodes g s t) s)) (nodes g s t))
      ≡ length (row_keys (v_row g.axes (nodes_by_level g s t) (own_column g.axes (nodes_by_level g s t) s)) (nodes_by_level g s t)))
  build-sizes = (
    perm-length (nodes g s t) (nodes_by_level g s t) build-orders.same.arranged,
    same-u-size g.axes (nodes g s t) (own_column g.axes (nodes g s t) s) (nodes_by_level g s t) (own_column g.axes (nodes_by_level g s t) s) build-orders.same,
    same-v-size g.axes (nodes g s t) (own_column g.axes (nodes g s t) s) (nodes_by_level g s t) (own_column g.axes (nodes_by_level g s t) s) build-orders.same,
  )
