-- The judge's two tests are the test of a build.
use mathlib.Core.Path.{◌≡◌, refl, sym, ap, ap₂, ◌∙◌, subst}
use mathlib.Core.Bool.{Bool, true, false, ◌&&◌}
use mathlib.Core.List.{List, [], ◌∷◌}
use Prim.Native.Nat.{ℕ}
use lib.Dec.{eqb}
use lib.Ieee.{Float}
use lib.ListN.{length, take, drop, length-map}
use lib.Seq.{ext_get_or, take_at}
use borrow.Author.Tests.{eqb-true, eq-eqb}
use native.Mathlib.Omega.{arith}
use native.Mathlib.Nat.{zero-div}
use Rattle.slices.proofs.Tests.{and_l, and_r, both, refute}
use Rattle.slices.proofs.Lists.{get_d_map}
use Rattle.morton.specs.Keys.{axes_known}
use Rattle.space.specs.declared.Box.{Box}
use Rattle.space.specs.Cells.{frame_of}
use Rattle.space.specs.Rows.{rows_of, rows_inside, codes16, coded, first_outside}
use Rattle.space.proofs.Batches.{codes-length, one_outside}
use Rattle.space.proofs.Batches as batches
use Rattle.laying.proofs.Inside.{coded-all}
use Rattle.laying.specs.Points.{codes_of}
use Rattle.tree.specs.Columns.{Columns, columns}
use Rattle.tree.specs.Totals.{total_in, total_column}
use Rattle.tree.specs.WellFormed.{well_formed}
use Rattle.tree.specs.Finding.{TreeKeys}
use Rattle.tree.proofs.Clauses.{facts-parents}
use Rattle.tree.proofs.Rules.{all-facts, facts-ascend}
use Rattle.sums.specs.Tells.{Tells}
use Rattle.sums.specs.Right.{same}
use Rattle.sums.proofs.Flat.{same_true}
use Rattle.points_right.specs.Points.{point_in, PointsRight}
use Rattle.growth.specs.declared.Rule.{Rule}
use Rattle.growth.specs.Nodes.{nodes}
use Rattle.growth.specs.Columns.{own_column, begin_column, order_column}
use Rattle.further.specs.Points.{SourcesRight}
use Rattle.further.proofs.Ordered.{formed-iff}
use Rattle.grown_right.specs.Grown.{Grown}
use Rattle.grown_right.proofs.Judged.{grown-right, right-grown}
use Rattle.build.specs.Asked.{Asked, rule_of, built_keys, built_own, built_begins, built_totals, built_order}
use Rattle.build.proofs.Growing.{codes-lt}
use Rattle.was_built.specs.Build.{asks_alone, columns_are, is_build}
use Rattle.was_built.proofs.Inside.{by_codes, from-codes, all-inside}
use Rattle.std.specs.Prelude.{Err, Ok, is_err}
use Rattle.space.specs.Inside.{Inside, all_inside}

same_self : (xs : List ℕ) → same xs xs ≡ true
unfolding same
same_self [] = refl
same_self (x ∷ xs) = both (eq-eqb x x refl) (same_self xs)

equal-same : (xs ys : List ℕ) → xs ≡ ys → same xs ys ≡ true
equal-same xs ys e = subst (λ (zs : List ℕ). same xs zs ≡ true) e (same_self xs)

-- the columns as facts
pub record Are (a : Asked) (t : Columns) (order : List ℕ) : Type 0 where
  pub keys : t.keys ≡ built_keys a
  pub own : t.own ≡ built_own a
  pub begin : t.begin ≡ built_begins a
  pub total : t.total ≡ built_totals a
  pub orders : order ≡ built_order a

pub are : (a : Asked) (t : Columns) (order : List ℕ) → columns_are a t order ≡ true → Are a t order
unfolding columns_are
are a t order h =
    let x = and_l (same t.keys (built_keys a) && same t.own (built_own a)) _ h in
    let y = and_r (same t.keys (built_keys a) && same t.own (built_own a)) _ h in
    let z = and_l (same t.begin (built_begins a) && same t.total (built_totals a)) _ y in
    record {
      keys = same_true t.keys (built_keys a) (and_l _ _ x);
      own = same_true t.own (built_own a) (and_r (same t.keys (built_keys a)) _ x);
      begin = same_true t.begin (built_begins a) (and_l _ _ z);
      total = same_true t.total (built_totals a) (and_r (same t.begin (built_begins a)) _ z);
      orders = same_true order (built_order a) (and_r (same t.begin (built_begins a) && same t.total (built_totals a)) _ y);
    }

all_are : (a : Asked) (t : Columns) (order : List ℕ) → Are a t order → columns_are a t order ≡ true
unfolding columns_are
all_are a t order r =
    both (both (equal-same t.keys (built_keys a) r.keys) (equal-same t.own (built_own a) r.own))
    (both (both (equal-same t.begin (built_begins a) r.begin) (equal-same t.total (built_totals a) r.total)) (equal-same order (built_order a) r.orders))

-- the keys and own sources of a build without targets, by the codes of its sources
module _ (b : Box) (limit : ℕ) (keep : Bool) (sources : List Float) where
  no-codes : codes_of b [] ≡ []
  unfolding codes16
  no-codes = ap (λ (m : ℕ). codes16 m (frame_of b) []) (zero-div b.axes)

  pub alone-keys : built_keys (asks_alone b limit keep sources) ≡ nodes (rule_of (asks_alone b limit keep sources)) (codes_of b sources) []
  unfolding built_keys
  alone-keys = ap (nodes (rule_of (asks_alone b limit keep sources)) (codes_of b sources)) no-codes

  pub alone-own : built_own (asks_alone b limit keep sources) ≡ own_column b.axes (nodes (rule_of (asks_alone b limit keep sources)) (codes_of b sources) []) (codes_of b sources)
  unfolding built_own
  alone-own = ap (λ (ks : List ℕ). own_column b.axes ks (codes_of b sources)) alone-keys

module _ (b : Box) (limit : ℕ) (keep : Bool) (sources : List Float) (keys own begin total order : List ℕ)
    (known : axes_known b.axes ≡ true) (formed : well_formed b.axes keys own begin total ≡ true) where
  abbrev a : Asked
  a = asks_alone b limit keep sources

  abbrev g : Rule
  g = rule_of (asks_alone b limit keep sources)

  abbrev s : List ℕ
  s = codes_of b sources

  order-are : built_order a ≡ order_column b.axes (nodes g s []) s
  unfolding built_order
  order-are = ap (λ (ks : List ℕ). order_column b.axes ks s) (alone-keys b limit keep sources)

  begin-are : built_begins a ≡ begin_column (built_own a)
  unfolding built_begins
  begin-are = refl

  totals-are : built_totals a ≡ total_column b.axes (built_keys a) (built_own a)
  unfolding built_totals
  totals-are = refl

  -- the totals of a well-formed tree are the column of its cells
  total-column : total ≡ total_column b.axes keys own
  total-column =
      let w = all-facts b.axes keys own begin total formed in
      ext_get_or 0 total (total_column b.axes keys own) (w.totals ∙ sym (length-map keys (total_in b.axes keys own)))
      (λ i l. w.totalled i (omega (arith, l, w.totals)) ∙ sym (get_d_map (total_in b.axes keys own) keys i (omega (arith, l, w.totals))))

  to : PointsRight (rows_of b sources) (point_in (frame_of b) sources) keys own begin order → Grown g keys total → is_build b limit keep sources (columns keys own begin total) order ≡ true
  unfolding is_build
  to p r =
      let codes = codes-lt b sources in
      let right = by_codes b sources keys own begin order p in
      let c = (formed-iff g s keys own begin order known codes total formed).0 (right, grown-right g s keys own begin total order known codes formed right r) in
      let ks : keys ≡ built_keys a = c.keys_are ∙ sym (alone-keys b limit keep sources) in
      let os : own ≡ built_own a = c.owns-are ∙ sym (alone-own b limit keep sources) in
      both (eq-eqb (rows_inside b sources) (rows_of b sources) (all-inside b sources g refl keys own begin total order known codes formed p))
      (all_are a (columns keys own begin total) order (record {
        keys = ks;
        own = os;
        begin = c.begins-are ∙ ap begin_column os ∙ sym begin-are;
        total = total-column ∙ ap₂ (total_column b.axes) ks os ∙ sym totals-are;
        orders = c.orders-are ∙ sym order-are;
      }))

  from : is_build b limit keep sources (columns keys own begin total) order ≡ true → PointsRight (rows_of b sources) (point_in (frame_of b) sources) keys own begin order × Grown g keys total
  unfolding is_build
  from h =
      let codes = codes-lt b sources in
      let ins = eqb-true (rows_inside b sources) (rows_of b sources) (and_l _ _ h) in
      let r = are a (columns keys own begin total) order (and_r (eqb (rows_inside b sources) (rows_of b sources)) _ h) in
      let (p, q) = (formed-iff g s keys own begin order known codes total formed).1 (record {
        keys_are = r.keys ∙ alone-keys b limit keep sources;
        owns-are = r.own ∙ alone-own b limit keep sources;
        begins-are = r.begin ∙ begin-are ∙ sym (ap begin_column r.own);
        orders-are = r.orders ∙ order-are;
      }) in
      (from-codes b sources keys own begin order ins p, right-grown g s keys own begin total order known codes formed p q)

  pub not-points : (PointsRight (rows_of b sources) (point_in (frame_of b) sources) keys own begin order → ⊥) → false ≡ is_build b limit keep sources (columns keys own begin total) order
  not-points h = sym (refute (λ t. h (from t).0))

  pub by-growth : (r : Bool) → Tells (Grown g keys total) r → PointsRight (rows_of b sources) (point_in (frame_of b) sources) keys own begin order
      → r ≡ is_build b limit keep sources (columns keys own begin total) order
  by-growth true t p = sym (to p t)
  by-growth false t p = sym (refute (λ h. t (from h).1))

  -- by the codes of the sources
  pub not-inside : (rows_inside b sources ≡ rows_of b sources → ⊥) → false ≡ is_build b limit keep sources (columns keys own begin total) order
  unfolding is_build
  not-inside h = sym (refute (λ t. h (eqb-true (rows_inside b sources) (rows_of b sources) (and_l _ _ t))))

  module _ (codes : List ℕ) (e : codes ≡ codes_of b sources) where
    pub not-codes : (SourcesRight b.axes codes keys own begin order → ⊥) → false ≡ is_build b limit keep sources (columns keys own begin total) order
    not-codes h = not-points (λ p. h (subst (λ (c : List ℕ). SourcesRight b.axes c keys own begin order) (sym e) (by_codes b sources keys own begin order p)))

    pub coded-growth : (r : Bool) → Tells (Grown g keys total) r → rows_inside b sources ≡ rows_of b sources → SourcesRight b.axes codes keys own begin order
        → r ≡ is_build b limit keep sources (columns keys own begin total) order
    coded-growth r t ins p = by-growth r t (from-codes b sources keys own begin order ins (subst (λ (c : List ℕ). SourcesRight b.axes c keys own begin order) e p))

-- what the tests ask of the tree
pub tree-keys : (d : ℕ) (keys own begin total : List ℕ) → axes_known d ≡ true → well_formed d keys own begin total ≡ true → TreeKeys d keys × (length total ≡ length keys)
tree-keys d keys own begin total known formed =
    let w = all-facts d keys own begin total formed in
    (record { axes = known; some = w.some; ascend = facts-ascend d keys w.rows.tree.ascending; parents = facts-parents d keys w.rows.tree.parents }, w.totals)

-- a source is outside
pub not-all-in : (b : Box) (sources : List Float) (r : Inside) → r ≡ first_outside (rows_of b sources) (frame_of b) sources → (t : Bool) → t ≡ is_err r → t ≡ true → rows_inside b sources ≡ rows_of b sources → ⊥
not-all-in b sources (Err wall) e t h k q = omega (arith, (one_outside (rows_of b sources) wall (frame_of b) sources (sym e)).1, q)
not-all-in b sources (Ok x) e t h k q = let z : ◌≡◌ {A = ℕ} 0 1 = cc in omega arith

-- no source is
pub no_wall : (r : Inside) (t : Bool) → t ≡ is_err r → t ≡ false → r ≡ all_inside
no_wall (Ok x) t h k = refl
no_wall (Err wall) t h k = let z : ◌≡◌ {A = ℕ} 0 1 = cc in absurd (omega arith)

-- the codes that were written, of sources that are all inside
module _ (b : Box) (sources : List Float) (old work : List ℕ) (all : first_outside (rows_of b sources) (frame_of b) sources ≡ all_inside) (e : work ≡ coded (rows_of b sources) (frame_of b) sources old) where
  pub all_in : rows_inside b sources ≡ rows_of b sources
  all_in = batches.all-inside (rows_of b sources) (frame_of b) sources all

  pub codes-first : take (rows_of b sources) work ≡ codes_of b sources
  codes-first =
      ap (take (rows_of b sources)) (e ∙ coded-all b sources old all)
      ∙ take_at (codes_of b sources) (drop (rows_of b sources) old) (rows_of b sources) (codes-length (rows_of b sources) (frame_of b) sources)
