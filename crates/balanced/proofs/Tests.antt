-- The tests of what is given say what the passes over it tell.
use mathlib.Core.Path.{◌≡◌, refl, sym, ap, ap₂, ◌∙◌, subst}
use mathlib.Core.Bool.{Bool, true, false, ◌&&◌, ◌||◌, not}
use mathlib.Core.List.{List, [], ◌∷◌}
use mathlib.Core.Logic.{◌↔◌}
use Prim.Native.Nat.{ℕ, suc, ◌+◌, ◌*◌, ◌^◌, ◌≤◌, ◌<◌}
use native.Mathlib.Omega.{arith}
use lib.Dec.{eqb}
use lib.Ieee.{Float}
use lib.ListN.{length, get_or, take, drop, length-map}
use lib.Seq.{ext_get_or}
use borrow.Author.Tests.{eqb-true, eq-eqb, not-false}
use Rattle.slices.specs.Lists.{any, range, sum, Mem, Distinct}
use Rattle.slices.specs.Every.{every}
use Rattle.slices.proofs.Tests.{and_l, and_r, both, clash, refute, or-not, or_right, same_test}
use Rattle.slices.proofs.Every.{every-at, every-all}
use Rattle.slices.proofs.Members.{mem-map, map-mem, mem-range, range-mem}
use Rattle.codes.proofs.Codes.{encode-lt}
use Rattle.morton.specs.Keys.{axes_known, holds, child, children}
use Rattle.space.specs.declared.Box.{Box}
use Rattle.space.specs.declared.Frame.{Frame}
use Rattle.space.specs.Cells.{frame_of, code16, anchors16}
use Rattle.space.specs.Rows.{rows_of, rows_inside, codes16}
use Rattle.space.proofs.Batches.{codes-length, code-at-row}
use Rattle.laying.specs.Points.{codes_of}
use Rattle.tree.specs.Nodes.{stored, child_of, leaf}
use Rattle.tree.specs.Leaves.{held, leaf_key, cell_of, leaf_level}
use Rattle.tree.specs.Finding.{TreeKeys}
use Rattle.tree.specs.Totals.{total_in, total_column}
use Rattle.tree.specs.WellFormed.{well_formed}
use Rattle.tree.proofs.Rules.{all-facts}
use Rattle.tree.proofs.Stored.{stored-mem, mem-stored, distinct}
use Rattle.tree.proofs.Leaves as T
use Rattle.growth.specs.Columns.{own_column, begin_column, order_column}
use Rattle.growth.proofs.Arranged.{Codes}
use Rattle.growth.proofs.Leaves.{cell_holds}
use Rattle.growth.proofs.Runs.{map_at, length-begin, length-own, begin-at}
use Rattle.sums.specs.Tells.{Tells}
use Rattle.sums.proofs.Tells.{tell-true, tell-false}
use Rattle.full.specs.Full.{Full}
use Rattle.points_right.specs.Points.{point_in, code_in, PointsRight}
use Rattle.points_right.proofs.Codes.{points-codes}
use Rattle.further.specs.Built as B
use Rattle.further.specs.Points.{Beside, SourcesRight}
use Rattle.further.proofs.Held.{holding}
use Rattle.further.proofs.Columns.{in-leaves, owns-are, orders-are, column-points}
use Rattle.further.proofs.Columns as F
use Rattle.leaf_search.proofs.Leaves.{leaf-told}
use Rattle.lookup.proofs.Leaves.{climb-le, found-leaf, held-leaf}
use Rattle.tree.specs.Order.{depth_of}
use Rattle.growth.proofs.Held.{leaf-mem}
use Rattle.balance.proofs.Balance.{tree_of}
use Rattle.balanced.specs.Given.{all_or_none, is_full, same, is_given}
use Rattle.std.specs.Prelude.{Some}

-- an answer that tells P is the test that says P
pub tells-test : {P : Type 0} (r test : Bool) → Tells P r → (P → test ≡ true) → (test ≡ true → P) → r ≡ test
tells-test {P} r test h to from = same_test r test (λ e. to (tell-true r h e)) (λ e. go r refl (from e))
  where
    go : (b : Bool) → r ≡ b → P → r ≡ true
    go true e p = e
    go false e p = absurd (tell-false r h e p)

-- ---- all children or none

module _ (d : ℕ) (keys : List ℕ) where
  pub full-test : Full d keys → is_full d keys ≡ true
  unfolding is_full
  full-test f = every-all (λ i. all_or_none d keys (get_or keys i 0)) (length keys) (λ i l. one (get_or keys i 0) (i, l, refl))
    where
      one : (k : ℕ) → Mem k keys → all_or_none d keys k ≡ true
      one k m = or_right (not (any (child_of d k) keys)) (every (2 ^ d) (λ c. stored keys (child d k c))) (λ n.
          every-all (λ c. stored keys (child d k c)) (2 ^ d) (λ c l. mem-stored keys (child d k c) (f k (child d k c) m (split n) (map-mem (child d k) (range 0 (2 ^ d)) c (range-mem (2 ^ d) c l)))))
        where
          split : not (any (child_of d k) keys) ≡ false → any (child_of d k) keys ≡ true
          split = not-false (any (child_of d k) keys)

  pub test-full : is_full d keys ≡ true → Full d keys
  unfolding is_full
  test-full h k j (i, l, e) s m =
      let a : all_or_none d keys (get_or keys i 0) ≡ true = every-at (λ i. all_or_none d keys (get_or keys i 0)) (length keys) h i l in
      let b : all_or_none d keys k ≡ true = rw e at a in
      let n : not (any (child_of d k) keys) ≡ false = rw s in
      let all = or-not (not (any (child_of d k) keys)) (every (2 ^ d) (λ c. stored keys (child d k c))) b n in
      let (c, mc, q) = mem-map (child d k) (range 0 (2 ^ d)) j m in
      rw q at (stored-mem keys (child d k c) (every-at (λ c. stored keys (child d k c)) (2 ^ d) all c (mem-range (2 ^ d) c mc)))

-- ---- the same lists

self : (xs : List ℕ) → same xs xs ≡ true
unfolding same
self [] = refl
self (x ∷ xs) = both (eq-eqb x x refl) (self xs)

pub same_self : (xs ys : List ℕ) → xs ≡ ys → same xs ys ≡ true
same_self xs ys e = subst (λ (zs : List ℕ). same xs zs ≡ true) e (self xs)

pub same_lists : (xs ys : List ℕ) → same xs ys ≡ true → xs ≡ ys
unfolding same
same_lists [] [] h = refl
same_lists [] (y ∷ ys) h = absurd (clash refl (sym h))
same_lists (x ∷ xs) [] h = absurd (clash refl (sym h))
same_lists (x ∷ xs) (y ∷ ys) h = ap₂ ◌∷◌ (eqb-true x y (and_l _ _ h)) (same_lists xs ys (and_r (eqb x y) _ h))

-- ---- the codes of points

code_lt : (f : Frame) (xs : List Float) → code16 f xs < 2 ^ (f.axes * 16)
unfolding code16
code_lt f xs = encode-lt f.axes 16 (anchors16 f xs)

pub codes-lt : (b : Box) (xs : List Float) → Codes b.axes (codes_of b xs)
codes-lt b xs i h =
    let l : i < rows_of b xs = omega (arith, h, codes-length (rows_of b xs) (frame_of b) xs) in
    subst (λ (c : ℕ). c < 2 ^ (b.axes * 16)) (sym (code-at-row (rows_of b xs) i (frame_of b) xs l)) (code_lt (frame_of b) (drop (i * b.axes) xs))

-- ---- what the points give

module _ (d : ℕ) (s keys own begin order : List ℕ) (tk : TreeKeys d keys) (bs : Beside d keys own begin) where
  tree : B.Tree d keys
  tree = let t = tree_of d keys tk in record { sound = t.sound; root = t.root; parents = t.parents }

  apart : Distinct keys
  apart = distinct d keys (T.tree_of d keys tk).ascending

  -- held by a leaf
  in_leaf : B.InLeaves d s keys → (i : ℕ) → i < length s → held d keys (get_or s i 0) ≡ true
  in_leaf f i l =
      let (k, lf, h) = f (get_or s i 0) (i, l, refl) in
      let (j, lj, e) = leaf-mem d keys k lf in
      let hj : holds d (get_or keys j 0) (get_or s i 0) ≡ true = rw e h in
      let lj2 : leaf d keys (get_or keys j 0) ≡ true = rw e lf in
      (found-leaf d keys tk (get_or s i 0) (Some j) (leaf-told d keys tk (get_or s i 0) j lj (both hj lj2)) j refl).0

  leaf-in : (held' : (i : ℕ) → i < length s → held d keys (get_or s i 0) ≡ true) → B.InLeaves d s keys
  leaf-in f c (i, l, e) =
      let h : held d keys c ≡ true = rw e at (f i l) in
      let lf = held-leaf d keys tk c h in
      (leaf_key d keys c, lf, cell_holds d (leaf_level d keys c) c (omega (arith, climb-le d keys c (depth_of keys), T.depth_le d keys (T.tree_of d keys tk))))

  pub right-given : SourcesRight d s keys own begin order → is_given d keys own order s ≡ true
  unfolding is_given
  right-given p =
      let whole : sum own ≡ length order = p.whole ∙ sym p.many in
      let h = holding d s keys own begin order bs.owns p in
      let os = owns-are d s keys own begin order tree apart bs whole h p.many in
      let bg = F.begins-are d s keys own begin order tree apart bs whole h p.many in
      let leaves = in-leaves d s keys own begin order tree apart bs whole h p.many in
      let q : SourcesRight d s keys (own_column d keys s) (begin_column (own_column d keys s)) order = subst (λ (o : List ℕ). SourcesRight d s keys o (begin_column o) order) os (subst (λ (c : List ℕ). SourcesRight d s keys own c order) bg p) in
      both (every-all (λ i. held d keys (get_or s i 0)) (length s) (in_leaf leaves))
      (both (same_self own (own_column d keys s) os) (same_self order (order_column d keys s) (orders-are d s keys order tree apart q)))

  -- given: the own counts, the order and the begins are those of the points
  module _ (h : is_given d keys own order s ≡ true) where
    columns-same : (same own (own_column d keys s) && same order (order_column d keys s)) ≡ true
    unfolding is_given
    columns-same = and_r (every (length s) (λ i. held d keys (get_or s i 0))) _ h

    pub own-given : own ≡ own_column d keys s
    own-given = same_lists own (own_column d keys s) (and_l _ _ columns-same)

    pub order-given : order ≡ order_column d keys s
    order-given = same_lists order (order_column d keys s) (and_r (same own (own_column d keys s)) _ columns-same)

    pub begin-given : begin ≡ begin_column (own_column d keys s)
    begin-given = ext_get_or 0 begin (begin_column (own_column d keys s)) (bs.begins ∙ sym (length-begin d keys s)) (λ i l.
        let n : i < length keys = omega (arith, l, bs.begins) in
        bs.runs i n ∙ ap (λ (xs : List ℕ). sum (take i xs)) own-given ∙ sym (begin-at d keys s i (omega (arith, n, length-own d keys s))))

    pub given-right : SourcesRight d s keys own begin order
    unfolding is_given
    given-right =
        let leaves = leaf-in (every-at (λ i. held d keys (get_or s i 0)) (length s) (and_l _ _ h)) in
        let p = column-points d s keys tree apart leaves in
        subst (λ (c : List ℕ). SourcesRight d s keys own c order) (sym begin-given)
        (subst (λ (o : List ℕ). SourcesRight d s keys o (begin_column (own_column d keys s)) order) (sym own-given)
        (subst (λ (x : List ℕ). SourcesRight d s keys (own_column d keys s) (begin_column (own_column d keys s)) x) (sym order-given) p))

-- and the totals of a well-formed tree are those of its own counts
pub total-given : (d : ℕ) (keys own begin total : List ℕ) → well_formed d keys own begin total ≡ true → total ≡ total_column d keys own
total-given d keys own begin total w =
    let f = all-facts d keys own begin total w in
    ext_get_or 0 total (total_column d keys own) (f.totals ∙ sym (length-map keys (total_in d keys own))) (λ i l.
    let n : i < length keys = omega (arith, l, f.totals) in
    f.totalled i n ∙ sym (map_at (total_in d keys own) keys i n))

module _ (b : Box) (points : List Float) (keys own begin total order : List ℕ) (tk : TreeKeys b.axes keys) (w : well_formed b.axes keys own begin total ≡ true) (all : rows_inside b points ≡ rows_of b points) where
  pub beside : Beside b.axes keys own begin
  beside = let f = all-facts b.axes keys own begin total w in record { owns = f.owns; begins = f.begins; inner = f.rows.inner; runs = f.rows.runs }

  many : length (codes_of b points) ≡ rows_of b points
  many = codes-length (rows_of b points) (frame_of b) points

  -- the points are right exactly when they give the own counts and the order
  pub points-given : (r : Bool) → Tells (PointsRight (rows_of b points) (point_in (frame_of b) points) keys own begin order) r → r ≡ is_given b.axes keys own order (codes_of b points)
  points-given r h = tells-test r (is_given b.axes keys own order (codes_of b points)) h
      (λ p. right-given b.axes (codes_of b points) keys own begin order tk beside
      (subst (λ (n : ℕ). PointsRight n (code_in b.axes (codes_of b points)) keys own begin order) (sym many) ((points-codes b points all keys own begin order).0 p)))
      (λ e. (points-codes b points all keys own begin order).1
      (subst (λ (n : ℕ). PointsRight n (code_in b.axes (codes_of b points)) keys own begin order) many (given-right b.axes (codes_of b points) keys own begin order tk beside e)))
