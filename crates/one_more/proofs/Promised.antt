-- Document 02, order 7: what holds of the tree that the call has returned, where it was not refused, beside the tree that was handed in.
use mathlib.Core.Path.{◌≡◌, refl, sym, ap, ap₂, ◌∙◌, subst}
use mathlib.Core.Bool.{true, false}
use mathlib.Core.List.{List, [], ◌∷◌}
use Prim.Native.Nat.{ℕ, ◌+◌, ◌*◌, ◌-◌, ◌^◌, ◌<◌}
use native.Mathlib.Omega.{arith}
use lib.ListN.{length, take, replicate, length-append}
use lib.Seq.{take_at, get_or-append-add}
use Rattle.refusal.specs.Left.{left}
use Rattle.refusal.proofs.Chain.{both-done, after-done}
use Rattle.slices.specs.Lists.{Mem}
use Rattle.morton.specs.Keys.{axes_known}
use Rattle.axes.proofs.Known.{axes-known}
use Rattle.morton.specs.Anchors.{close}
use Rattle.space.specs.Cells.{frame_of, code16}
use Rattle.space.proofs.Refusals.{fine}
use Rattle.tree.specs.Nodes.{leaf}
use Rattle.tree.specs.Columns.{Columns, columns}
use Rattle.tree.specs.WellFormed.{well_formed}
use Rattle.tree.proofs.Rules.{Formed, all-facts}
use Rattle.tree.proofs.Verdict.{formed-of}
use Rattle.rows.specs.Demand3.{Runs, Once, Near, Far, Few}
use Rattle.rows.specs.Lists.{u_rows, v_rows}
use Rattle.rows.proofs.Demand3.{demand-3}
use Rattle.growth.specs.declared.Rule.{Rule}
use Rattle.growth.specs.Grown.{grown}
use Rattle.growth.specs.Nodes.{nodes}
use Rattle.growth.specs.Columns.{own_column}
use Rattle.growth.proofs.Arranged.{Codes}
use Rattle.laying.specs.Points.{codes_of}
use Rattle.further.specs.Further.{further, TreeOf, beside_parent, DeepestHolder, holder_of}
use Rattle.further.proofs.Holder.{tree-holder}
use Rattle.further.proofs.Rows.{stays, v-same, leaf-stays, u_same}
use Rattle.further.proofs.Build.{build-tree}
use Rattle.build.specs.Asked.{rule_of, built_keys, built_own, built_begins, built_totals, built_columns}
use Rattle.build.specs.Outcomes.{Rooms, build_check, room_of}
use Rattle.build.proofs.Growing.{codes-lt}
use Rattle.build.proofs.Returned.{built-formed}
use Rattle.was_built.proofs.Judged.{alone-keys, alone-own}
use Rattle.one_more.specs.More.{More, longer_of, longer_build, judged, more_check, more_answer, keys_more, own_more, begins_more, totals_more}
use Rattle.one_more.specs.Steps.{Sound}
use Rattle.one_more.proofs.Judging.{sound, handed-in}
use Rattle.one_more.proofs.Longer.{codes-longer}
use Rattle.std.specs.Prelude.{Ok}
use Rattle.refusal.specs.Outcome.{Outcome, accepted}

-- the tree in the slices after the call: as many entries of each column as nodes are answered
module _ (q : More) (r : Rooms) where
  abbrev pub nodes_after : ℕ
  nodes_after = length (built_keys (longer_build q))

  abbrev pub after : Columns
  after = columns (take nodes_after (keys_more q r)) (take nodes_after (own_more q r)) (take nodes_after (begins_more q r)) (take nodes_after (totals_more q r))

  -- the tender's third demand of it
  pub record Demand3 : Type 0 where
    -- each place of the order column lies in the run of one leaf
    pub runs : Runs q.box.axes after.keys after.own after.begin
    -- each leaf meets each source exactly once, over its own U row and the V rows of itself and all its ancestors
    pub once : Once q.box.axes after.keys after.own after.begin (u_rows q.box.axes after) (v_rows q.box.axes after)
    -- in U exactly when the two leaves' cells at the coarser one's level coincide or touch
    pub near : Near q.box.axes after.keys after.own after.begin (u_rows q.box.axes after)
    -- no V row pairs touching cells, and none is too long
    pub far : Far q.box.axes after.keys (v_rows q.box.axes after)
    pub few : Few q.box.axes after.keys (v_rows q.box.axes after)

-- a slice's first entries, after a call that was not refused, are the answer
first-entries : (o : Outcome) (n m : ℕ) (answer : List ℕ) → o ≡ accepted → length answer ≡ m → take m (left o n answer) ≡ answer
first-entries o n m answer e l = ap (λ (x : Outcome). take m (left x n answer)) e ∙ take_at answer (replicate (n - length answer) 0) m l

-- the columns of a build, as the tree of its sources
tree_of : (g : Rule) (codes keys own : List ℕ) → axes_known g.axes ≡ true → keys ≡ nodes g codes [] → own ≡ own_column g.axes (nodes g codes []) codes → TreeOf g codes keys own
tree_of g codes keys own known k o =
    subst (λ (ks : List ℕ). TreeOf g codes ks own) (sym k) (subst (λ (os : List ℕ). TreeOf g codes (nodes g codes []) os) (sym o) (build-tree g codes known))

module _ (q : More) (r : Rooms) (done : more_check q r ≡ accepted) (long : length q.point ≡ 3) where
  judged-done : judged q ≡ accepted
  judged-done = (both-done (judged q) (build_check (longer_build q) r) done).0

  s : Sound q.box q.sources q.point
  s = sound q judged-done long

  known : axes_known q.box.axes ≡ true
  known = axes-known q.box.axes (fine q.box s.box).least (fine q.box s.box).most

  fresh-formed : well_formed q.box.axes (built_keys (longer_build q)) (built_own (longer_build q)) (built_begins (longer_build q)) (built_totals (longer_build q)) ≡ true
  fresh-formed = built-formed (longer_build q) r.work r.order (room_of r) (both-done (judged q) (build_check (longer_build q) r) done).1

  lengths : Formed q.box.axes (built_keys (longer_build q)) (built_own (longer_build q)) (built_begins (longer_build q)) (built_totals (longer_build q))
  lengths = all-facts _ _ _ _ _ fresh-formed

  -- so many nodes are answered
  pub answered : more_answer q r ≡ Ok (grown (built_keys (longer_build q)))
  answered = after-done (more_check q r) (Ok (grown (built_keys (longer_build q)))) done

  -- its columns are those of the fresh build of the longer list
  pub is-fresh : after q r ≡ built_columns (longer_build q)
  is-fresh =
      let o = more_check q r in
      let m = nodes_after q r in
      let k = first-entries o r.keys m (built_keys (longer_build q)) done refl in
      let w = first-entries o r.own m (built_own (longer_build q)) done lengths.owns in
      let b = first-entries o r.begins m (built_begins (longer_build q)) done lengths.begins in
      let t = first-entries o r.totals m (built_totals (longer_build q)) done lengths.totals in
      ap₂ (λ (ks os : List ℕ). columns ks os (after q r).begin (after q r).total) k w ∙ ap₂ (columns (built_keys (longer_build q)) (built_own (longer_build q))) b t

  -- it is well formed
  pub well-formed : well_formed q.box.axes (after q r).keys (after q r).own (after q r).begin (after q r).total ≡ true
  well-formed = subst (λ (t : Columns). well_formed q.box.axes t.keys t.own t.begin t.total ≡ true) (sym is-fresh) fresh-formed

  -- demand 3 holds of it
  pub meets-demand-3 : Demand3 q r
  meets-demand-3 =
      let t = after q r in
      let whole = demand-3 q.box.axes t.keys t.own t.begin (formed-of q.box.axes t.keys t.own t.begin t.total well-formed) known in
      record { runs = whole.0; once = whole.1; near = whole.2; far = whole.3; few = whole.4 }

  -- its U and V rows are those of the fresh build
  pub u-fresh : (b : ℕ) → u_rows q.box.axes (after q r) b ≡ u_rows q.box.axes (built_columns (longer_build q)) b
  u-fresh b = ap (λ (t : Columns). u_rows q.box.axes t b) is-fresh

  pub v-fresh : (b : ℕ) → v_rows q.box.axes (after q r) b ≡ v_rows q.box.axes (built_columns (longer_build q)) b
  v-fresh b = ap (λ (t : Columns). v_rows q.box.axes t b) is-fresh

  -- ---- beside the tree that was handed in
  abbrev g : Rule
  g = rule_of (longer_build q)

  abbrev former : List ℕ
  former = codes_of q.box q.sources

  -- the code of the new source
  abbrev new : ℕ
  new = code16 (frame_of q.box) q.point

  -- the tree handed in is the tree of the former sources, and the tree returned that of them and the new one
  old-tree : TreeOf g former q.tree.keys q.tree.own
  old-tree =
      let r = handed-in q judged-done in
      tree_of g former q.tree.keys q.tree.own known (r.keys ∙ alone-keys q.box q.limit q.keep q.sources) (r.own ∙ alone-own q.box q.limit q.keep q.sources)

  new-tree : TreeOf g (further former new) (after q r).keys (after q r).own
  new-tree =
      let l = longer_of q.box q.sources q.point in
      subst (λ (cs : List ℕ). TreeOf g cs (after q r).keys (after q r).own) (codes-longer q.box q.sources q.point s)
      (tree_of g (codes_of q.box l) (after q r).keys (after q r).own known
      (ap (λ (t : Columns). t.keys) is-fresh ∙ alone-keys q.box q.limit q.keep l)
      (ap (λ (t : Columns). t.own) is-fresh ∙ alone-own q.box q.limit q.keep l))

  old-codes : Codes q.box.axes former
  old-codes = codes-lt q.box q.sources

  new-codes : Codes q.box.axes (further former new)
  new-codes = subst (Codes q.box.axes) (codes-longer q.box q.sources q.point s) (codes-lt q.box (longer_of q.box q.sources q.point))

  small : new < 2 ^ (q.box.axes * 16)
  small =
      subst (λ (x : ℕ). x < 2 ^ (q.box.axes * 16)) (get_or-append-add former (new ∷ []) 0 0) (new-codes (length former + 0) (omega (arith, length-append former (new ∷ []))))

  -- every cell stored before is stored after
  pub cells_stay : (k : ℕ) → Mem k q.tree.keys → Mem k (after q r).keys
  cells_stay = stays g former new q.tree.keys q.tree.own (after q r).keys (after q r).own known old-codes new-codes old-tree new-tree

  -- the V row of b holds the same keys if the new point's cell at the level of b's parent neither is that parent nor touches it
  pub v-unchanged : (b : ℕ) → beside_parent q.box.axes b (code16 (frame_of q.box) q.point) ≡ false → v_rows q.box.axes (after q r) b ≡ v_rows q.box.axes q.tree b
  v-unchanged b far = sym (v-same g former new q.tree.keys q.tree.own (after q r).keys (after q r).own known old-codes new-codes old-tree new-tree b far)

  -- there is a deepest cell stored before that holds the new point
  pub holder-there : DeepestHolder q.box.axes q.tree.keys (code16 (frame_of q.box) q.point) (holder_of q.box.axes q.tree.keys (code16 (frame_of q.box) q.point))
  holder-there = tree-holder g former q.tree.keys q.tree.own new known old-tree small

  -- where it is C, a leaf b whose cell and C, at the coarser one's level, neither coincide nor touch stays a leaf, and its U row holds the same keys
  module _ (b C : ℕ) (holder : DeepestHolder q.box.axes q.tree.keys (code16 (frame_of q.box) q.point) C) (lf : leaf q.box.axes q.tree.keys b ≡ true)
      (far : close q.box.axes b C ≡ false) where
    pub leaf-unchanged : leaf q.box.axes (after q r).keys b ≡ true
    leaf-unchanged = leaf-stays g former new q.tree.keys q.tree.own (after q r).keys (after q r).own known old-codes new-codes old-tree new-tree b C holder lf far

    pub u-unchanged : u_rows q.box.axes (after q r) b ≡ u_rows q.box.axes q.tree b
    u-unchanged = sym (u_same g former new q.tree.keys q.tree.own (after q r).keys (after q r).own known old-codes new-codes old-tree new-tree b C holder lf far)
