-- The pass over the nodes: what is met on the path from the root to the node before, and which nodes were right.
use mathlib.Core.Path.{◌≡◌, refl, sym, ap, ap₂, ◌∙◌, subst}
use mathlib.Core.Bool.{Bool, true, false}
use mathlib.Core.List.{List, [], map}
use mathlib.Core.Logic.{⊎_elim}
use Prim.Native.Nat.{ℕ, suc, ◌+◌, ◌-◌, ◌≤◌, ◌<◌, min}
use native.Mathlib.Omega.{arith}
use lib.ListN.{length, get_or, set, replicate}
use Rattle.slices.specs.Lists.{sum, Mem}
use Rattle.slices.proofs.Tests.{clash, lt-or-le}
use Rattle.slices.proofs.Sums.{sum_same}
use Rattle.morton.specs.Keys.{level_of, parent, upwards, ancestors}
use Rattle.morton.proofs.Cells.{level-parent}
use Rattle.tree.specs.Nodes.{leaf, own_of}
use Rattle.tree.specs.Totals.{total_in}
use Rattle.tree.proofs.Rules as Rules
use Rattle.tree.proofs.Rules.{facts, rows_of}
use Rattle.tree.proofs.Leaves.{place_is}
use Rattle.tree.proofs.Members.{root-no-leaf}
use Rattle.tree.proofs.Totals.{root-total}
use Rattle.tree.proofs.Verdict.{total-at}
use Rattle.rows.specs.Written.{row_at, row_of}
use Rattle.rows.proofs.RowTests.{u-leaf, v-facts}
use Rattle.sums.specs.Right.{sources_met, ListsPass, ListsRight}
use Rattle.sums.proofs.Facts.{Tree, tree-facts}
use Rattle.sums.proofs.Parts.{empty}
use Rattle.sums.proofs.Lines.{ancestor-mem}
use Rattle.sums.proofs.Counts.{leaf-total}
use Rattle.list_rows.specs.Entries.{Counted, takes}
use Rattle.list_rows.specs.Rows.{too_many, RowPasses, row_total}
use Rattle.list_rows.proofs.Rows.{total_of}
use Rattle.list_check.specs.Checks.{Started, far_met, met_here, NodeRight, NodeSays, Below}
use Rattle.list_check.proofs.Starts.{row-empty, empty-row}
use Rattle.list_check.proofs.Riding.{Rides, ride-start, ride-deep, ride-in, ride-above, ride-more}
use Rattle.std.specs.Prelude.{None, Some, Option}

module _ (d : ℕ) (keys own total us uk vs vk : List ℕ) where
  abbrev far : ℕ → ℕ
  far b = far_met d keys total vs vk b

  abbrev here : ℕ → ℕ
  here a = row_total keys total (row_of keys vs vk a)

  far-root : (k : ℕ) → level_of k ≡ 0 → far k ≡ here k
  unfolding upwards sum
  far-root k e = ap (λ n. sum (map here (upwards n d k))) e ∙ omega arith

  far-more : (k : ℕ) → 0 < level_of k → far k ≡ here k + far (parent d k)
  unfolding upwards sum
  far-more k h =
      let e : level_of k ≡ suc (level_of (parent d k)) = omega (arith, level-parent d k) in
      ap (λ n. sum (map here (upwards n d k))) e

  -- a node below the root whose rows are right
  pub record Right (i : ℕ) : Type 0 where
    pub v_passes : RowPasses d keys own true (get_or keys i 0) (row_at vs vk i)
    pub u-none : leaf d keys (get_or keys i 0) ≡ false → row_at us uk i ≡ []
    pub u_passes : leaf d keys (get_or keys i 0) ≡ true → RowPasses d keys own false (get_or keys i 0) (row_at us uk i)
    pub meets : leaf d keys (get_or keys i 0) ≡ true → row_total keys total (row_at us uk i) + far (get_or keys i 0) ≡ sum own

  pub record Judging (counts : List ℕ) (i : ℕ) : Type 0 where
    pub some : 0 < i
    pub upto : i ≤ length keys
    pub rides : Rides d keys (λ a. min (far a) too_many) counts i
    pub right : (j : ℕ) → 0 < j → j < i → Right j

  module _ (c : Counted d keys own total) (s : Started keys us uk vs vk) where
    abbrev begin : List ℕ
    begin = c.tree.begin

    w : Rules.WellFormed d keys own begin
    w = facts d keys own begin c.tree.sound

    t : Tree d keys own begin
    t = tree-facts d keys own begin c.tree.sound

    nodes : Rules.Tree d keys
    nodes = (rows_of d keys own begin w).tree

    row-at : (starts flat : List ℕ) (i : ℕ) → i < length keys → row_of keys starts flat (get_or keys i 0) ≡ row_at starts flat i
    row-at starts flat i l = ap (row_at starts flat) (place_is keys t.distinct i l)

    all-sources : get_or total 0 0 ≡ sum own
    all-sources = total-at d keys own begin total c.totals 0 w.some ∙ root-total d keys own nodes w.owns w.some

    -- ---- the root has no rows
    module _ (zu : get_or us 1 0 ≡ 0) (zv : get_or vs 1 0 ≡ 0) where
      pub root-u : row_at us uk 0 ≡ []
      root-u = row-empty keys us uk s.near 0 w.some (omega arith)

      pub root-v : row_at vs vk 0 ≡ []
      root-v = row-empty keys vs vk s.far 0 w.some (omega arith)

      pub judge-start : Judging (replicate 17 0) 1
      unfolding sum
      judge-start = record {
        some = omega arith;
        upto = omega (arith, w.some);
        rides = ride-start d keys (λ a. min (far a) too_many) own begin w (ap (λ n. min n too_many) none);
        right = λ j p q. absurd (omega arith);
      }
        where
          none : far 0 ≡ 0
          none = far-root 0 refl ∙ ap (row_total keys total) (ap (row_of keys vs vk) (sym w.ascending.root) ∙ row-at vs vk 0 w.some ∙ root-v)

    -- ---- one node more
    module _ (counts : List ℕ) (i : ℕ) (g : Judging counts i) (l : i < length keys) where
      abbrev k : ℕ
      k = get_or keys i 0

      pub below : Below keys i
      below = record { some = g.some; within = l }

      deep : 0 < level_of k
      deep = ride-deep d keys (λ a. min (far a) too_many) own begin w i g.some l

      pub level_in : (0 < level_of k) × (level_of k < length counts)
      level_in = (deep, ride-in d keys (λ a. min (far a) too_many) own begin w i g.some l counts g.rides)

      above-is : get_or counts (level_of k - 1) 0 ≡ min (far (parent d k)) too_many
      above-is = ride-above d keys (λ a. min (far a) too_many) own begin w i g.some l counts g.rides

      pub above-small : get_or counts (level_of k - 1) 0 ≤ too_many
      above-small = omega (arith, above-is)

      far-is : far k ≡ row_total keys total (row_at vs vk i) + far (parent d k)
      far-is = far-more k deep ∙ ap (λ r. row_total keys total r + far (parent d k)) (row-at vs vk i l)

      pub judge-more : (a : Option ℕ) → NodeSays d keys own total us uk vs vk i (get_or counts (level_of k - 1) 0) a → (met : ℕ) → a ≡ Some met → Judging (set counts (level_of k) met) (i + 1)
      judge-more a h met e = record {
        some = omega arith;
        upto = omega arith;
        rides = ride-more d keys (λ a. min (far a) too_many) own begin w i g.some l counts g.rides met met_is;
        right = λ j p q. ⊎_elim (λ (z : j < i). g.right j p z) (λ (z : i ≤ j). let same : i ≡ j = omega arith in subst Right same now-right) (lt-or-le j i);
      }
        where
          says : NodeRight d keys own total us uk vs vk i (get_or counts (level_of k - 1) 0) × (met ≡ met_here keys total vs vk i (get_or counts (level_of k - 1) 0))
          says = subst (NodeSays d keys own total us uk vs vk i (get_or counts (level_of k - 1) 0)) e h

          now-right : Right i
          now-right = record {
            v_passes = says.0.far;
            u-none = says.0.near.none;
            u_passes = says.0.near.passes;
            meets = λ y. omega (arith, says.0.near.meets y, all-sources, above-is, far-is, w.total);
          }

          met_is : met ≡ min (far k) too_many
          met_is = omega (arith, says.1, above-is, far-is)

    -- ---- what is met, by the definition
    total-in : (x : ℕ) → Mem x keys → own_of keys total x ≡ total_in d keys own x
    total-in x (j, l, e) = subst (λ y. own_of keys total y ≡ total_in d keys own y) e (total_of d keys own total c j l ∙ total-at d keys own begin total c.totals j l)

    mem : (i : ℕ) → i < length keys → Mem (get_or keys i 0) keys
    mem i l = (i, l, refl)

    module _ (p : ListsPass d keys own (row_of keys us uk) (row_of keys vs vk)) where
      v-total : (a : ℕ) → Mem a keys → row_total keys total (row_of keys vs vk a) ≡ sum (map (total_in d keys own) (row_of keys vs vk a))
      v-total a m = sum_same (own_of keys total) (total_in d keys own) (row_of keys vs vk a) (λ x n. total-in x (p.v_passes a x m n).0)

      u-total : (b : ℕ) → Mem b keys → row_total keys total (row_of keys us uk b) ≡ sum (map (own_of keys own) (row_of keys us uk b))
      u-total b m = sum_same (own_of keys total) (own_of keys own) (row_of keys us uk b) (λ x n.
          let q = p.u_passes b x m n in total-in x q.0 ∙ leaf-total d keys own begin t x (u-leaf d keys own b x q.1) q.0)

      pub met_is : (i : ℕ) → (l : i < length keys) → sources_met d keys own (row_of keys us uk) (row_of keys vs vk) (get_or keys i 0) ≡ row_total keys total (row_at us uk i) + far (get_or keys i 0)
      met_is i l = sym (ap₂ ◌+◌ (ap (row_total keys total) (sym (row-at us uk i l)) ∙ u-total (get_or keys i 0) (mem i l))
          (sum_same here (λ a. sum (map (total_in d keys own) (row_of keys vs vk a))) (ancestors d (get_or keys i 0)) (λ a m. v-total a (ancestor-mem d keys own begin t (get_or keys i 0) a (mem i l) m))))

    -- ---- from the lists
    module _ (r : ListsRight d keys own (row_of keys us uk) (row_of keys vs vk)) where
      p : ListsPass d keys own (row_of keys us uk) (row_of keys vs vk)
      p = r.passing

      u-row : (i : ℕ) → i < length keys → RowPasses d keys own false (get_or keys i 0) (row_at us uk i)
      u-row i l = subst (RowPasses d keys own false (get_or keys i 0)) (row-at us uk i l) (record {
        ascends = p.u_ascends _ (mem i l);
        nodes = λ j g. (p.u_passes _ _ (mem i l) (j, g, refl)).0;
        passes = λ j g. (p.u_passes _ _ (mem i l) (j, g, refl)).1;
      })

      v-row : (i : ℕ) → i < length keys → RowPasses d keys own true (get_or keys i 0) (row_at vs vk i)
      v-row i l = subst (RowPasses d keys own true (get_or keys i 0)) (row-at vs vk i l) (record {
        ascends = p.v_ascends _ (mem i l);
        nodes = λ j g. (p.v_passes _ _ (mem i l) (j, g, refl)).0;
        passes = λ j g. (p.v_passes _ _ (mem i l) (j, g, refl)).1;
      })

      -- a node is right, so the check of it does not fail
      pub judge-fails : (counts : List ℕ) (i : ℕ) → Judging counts i → (l : i < length keys) → (a : Option ℕ) → NodeSays d keys own total us uk vs vk i (get_or counts (level_of (get_or keys i 0) - 1) 0) a → a ≡ None → ⊥
      judge-fails counts i g l a h e = subst (NodeSays d keys own total us uk vs vk i (get_or counts (level_of (get_or keys i 0) - 1) 0)) e h (record {
        far = v-row i l;
        near = record {
          none = λ q. sym (row-at us uk i l) ∙ p.u_inner (get_or keys i 0) (mem i l) q;
          passes = λ q. u-row i l;
          meets = λ q. omega (arith, sym (met_is p i l) ∙ r.adds (get_or keys i 0) (mem i l) q, all-sources, above-is counts i g l, far-is counts i g l, w.total);
        };
      })

      pub root-no-u : get_or us 1 0 ≡ 0
      root-no-u = omega (arith, empty-row keys us uk s.near 0 w.some (sym (row-at us uk 0 w.some) ∙ p.u_inner (get_or keys 0 0) (mem 0 w.some) (root-no-leaf d keys (get_or keys 0 0) w.ascending.root)), s.near.first)

      pub root-no-v : get_or vs 1 0 ≡ 0
      root-no-v = omega (
        arith,
        empty-row keys vs vk s.far 0 w.some (empty (row_at vs vk 0) (λ x (j, lj, ej).
            let q = v-facts d keys own (get_or keys 0 0) (get_or (row_at vs vk 0) j 0) ((v-row 0 w.some).passes j lj) in
            omega (arith, q.deep, ap level_of w.ascending.root))),
        s.far.first,
      )

    -- ---- to the lists
    module _ (counts : List ℕ) (i : ℕ) (g : Judging counts i) (done : length keys ≤ i) (zu : get_or us 1 0 ≡ 0) (zv : get_or vs 1 0 ≡ 0) where
      at : (j : ℕ) → 0 < j → j < length keys → Right j
      at j q l = g.right j q (omega arith)

      none_passes : (far' : Bool) (b : ℕ) (row : List ℕ) → row ≡ [] → RowPasses d keys own far' b row
      none_passes far' b row e = subst (RowPasses d keys own far' b) (sym e) (record { ascends = λ j h. absurd (omega arith); nodes = λ j h. absurd (omega arith); passes = λ j h. absurd (omega arith) })

      u-all : (j : ℕ) → j < length keys → RowPasses d keys own false (get_or keys j 0) (row_at us uk j)
      u-all j l = ⊎_elim (λ (q : 0 < j). go j q l (leaf d keys (get_or keys j 0)) refl) (λ (q : j ≤ 0). let z : 0 ≡ j = omega arith in subst (λ n. RowPasses d keys own false (get_or keys n 0) (row_at us uk n)) z (none_passes false (get_or keys 0 0) (row_at us uk 0) (root-u zu zv))) (lt-or-le 0 j)
        where
          go : (j : ℕ) → 0 < j → j < length keys → (b : Bool) → leaf d keys (get_or keys j 0) ≡ b → RowPasses d keys own false (get_or keys j 0) (row_at us uk j)
          go j q l true e = (at j q l).u_passes e
          go j q l false e = none_passes false (get_or keys j 0) (row_at us uk j) ((at j q l).u-none e)

      v-all : (j : ℕ) → j < length keys → RowPasses d keys own true (get_or keys j 0) (row_at vs vk j)
      v-all j l = ⊎_elim (λ (q : 0 < j). (at j q l).v_passes) (λ (q : j ≤ 0). let z : 0 ≡ j = omega arith in subst (λ n. RowPasses d keys own true (get_or keys n 0) (row_at vs vk n)) z (none_passes true (get_or keys 0 0) (row_at vs vk 0) (root-v zu zv))) (lt-or-le 0 j)

      u_empty : (j : ℕ) → j < length keys → leaf d keys (get_or keys j 0) ≡ false → row_at us uk j ≡ []
      u_empty j l e = ⊎_elim (λ (q : 0 < j). (at j q l).u-none e) (λ (q : j ≤ 0). let z : 0 ≡ j = omega arith in subst (λ n. row_at us uk n ≡ []) z (root-u zu zv)) (lt-or-le 0 j)

      by_key : (far' : Bool) (starts flat : List ℕ) → ((j : ℕ) → j < length keys → RowPasses d keys own far' (get_or keys j 0) (row_at starts flat j)) → (k : ℕ) → Mem k keys → RowPasses d keys own far' k (row_of keys starts flat k)
      by_key far' starts flat h k (j, l, e) = subst (λ x. RowPasses d keys own far' x (row_of keys starts flat x)) e (subst (RowPasses d keys own far' (get_or keys j 0)) (sym (row-at starts flat j l)) (h j l))

      entry : (far' : Bool) (k : ℕ) (row : List ℕ) → RowPasses d keys own far' k row → (x : ℕ) → Mem x row → Mem x keys × (takes d keys own far' k x ≡ true)
      entry far' k row h x (j, l, e) = (subst (λ y. Mem y keys) e (h.nodes j l), subst (λ y. takes d keys own far' k y ≡ true) e (h.passes j l))

      passing : ListsPass d keys own (row_of keys us uk) (row_of keys vs vk)
      passing = record {
        u_ascends = λ k m. (by_key false us uk u-all k m).ascends;
        v_ascends = λ k m. (by_key true vs vk v-all k m).ascends;
        u_inner = λ k m h. subst (λ x. leaf d keys x ≡ false → row_of keys us uk x ≡ []) m.2 (λ q. row-at us uk m.0 m.1 ∙ u_empty m.0 m.1 q) h;
        u_passes = λ k x m n. entry false k (row_of keys us uk k) (by_key false us uk u-all k m) x n;
        v_passes = λ k x m n. entry true k (row_of keys vs vk k) (by_key true vs vk v-all k m) x n;
      }

      pub judge-done : ListsRight d keys own (row_of keys us uk) (row_of keys vs vk)
      judge-done = record { passing = passing; adds = λ b m y. subst (λ x. leaf d keys x ≡ true → sources_met d keys own (row_of keys us uk) (row_of keys vs vk) x ≡ sum own) m.2 (meet m.0 m.1) y }
        where
          meet : (j : ℕ) → j < length keys → leaf d keys (get_or keys j 0) ≡ true → sources_met d keys own (row_of keys us uk) (row_of keys vs vk) (get_or keys j 0) ≡ sum own
          meet j l y = ⊎_elim (λ (q : 0 < j). met_is passing j l ∙ (at j q l).meets y)
              (λ (q : j ≤ 0). let z : j ≡ 0 = omega arith in absurd (clash y (root-no-leaf d keys (get_or keys j 0) (ap (λ n. get_or keys n 0) z ∙ w.ascending.root)))) (lt-or-le 0 j)
