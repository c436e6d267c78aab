-- Rows that pass the checks of specs/Right.antt are the tree's rows, and the tree's rows pass them.
-- Each row handed in is part of the right one; each leaf meets all sources by either; and each entry that is right brings a source.
use mathlib.Core.Path.{◌≡◌, refl, sym, ap, ◌∙◌, subst}
use mathlib.Core.Bool.{Bool, true, false, ◌&&◌, ◌||◌, not, cond}
use mathlib.Core.List.{List, [], map}
use mathlib.Core.Logic.{◌↔◌, ⊎_elim}
use Prim.Native.Nat.{ℕ, suc, ◌+◌, ◌≤◌, ◌<◌}
use native.Mathlib.Omega.{arith}
use native.Mathlib.Nat.{not-suc-le-zero}
use lib.Dec.{ltb}
use lib.ListN.{length, get_or}
use borrow.Author.Tests.{ltb-true}
use Rattle.slices.specs.Lists.{filter, sum, Mem}
use Rattle.slices.specs.Order.{ascending}
use Rattle.slices.proofs.Tests.{and_l, and_r, lt-or-le}
use Rattle.slices.proofs.Rows.{row-mem}
use Rattle.slices.proofs.Sums.{sum_less}
use Rattle.morton.specs.Keys.{level_of, parent, ancestors}
use Rattle.morton.specs.Anchors.{touching}
use Rattle.tree.specs.Nodes.{leaf, own_of, sourced}
use Rattle.tree.specs.WellFormed.{formed}
use Rattle.rows.specs.Lists.{neighbour, in_u, in_v, u_row, v_row}
use Rattle.rows.specs.Written.{Gives}
use Rattle.rows.specs.Demand3.{Once}
use Rattle.rows.proofs.Demand3 as D
use Rattle.rows.proofs.RowTests.{u-leaf, v-facts}
use Rattle.tree.specs.Totals.{total_in}
use Rattle.sums.specs.Right.{Strict, sources_met, ListsPass, ListsRight}
use Rattle.sums.proofs.Facts.{Tree, tree-facts}
use Rattle.sums.proofs.Parts.{Part, row-strict, row-part, empty, sums-tight}
use Rattle.sums.proofs.Lines.{ancestor-mem, Line, line}
use Rattle.sums.proofs.Counts.{leaf-total, sources-met, total-pos}

module _ (d : ℕ) (keys own : List ℕ) where
  -- the rows, by their tests
  u-is : (b : ℕ) → leaf d keys b ≡ true → u_row d keys own b ≡ ascending (filter (in_u d keys own b) keys)
  unfolding u_row
  u-is b h = rw h

  pub u-none : (b : ℕ) → leaf d keys b ≡ false → u_row d keys own b ≡ []
  unfolding u_row
  u-none b h = rw h

  v-is : (b : ℕ) → v_row d keys own b ≡ ascending (filter (in_v d keys own b) keys)
  unfolding v_row
  v-is b = refl

  pub u-sourced : (b s : ℕ) → in_u d keys own b s ≡ true → sourced d keys own s ≡ true
  unfolding in_u
  u-sourced b s h = and_l _ _ (and_r (leaf d keys s) _ h)

  pub v-sourced : (b c : ℕ) → in_v d keys own b c ≡ true → sourced d keys own c ≡ true
  unfolding in_v
  v-sourced b c h = and_l _ _ (and_r (neighbour d (parent d b) (parent d c)) _ (and_r (ltb 0 (level_of b) && ltb 0 (level_of c)) _ h))

module _ (d : ℕ) (keys own begin : List ℕ) (tree : formed d keys own begin ≡ true) where
  t : Tree d keys own begin
  t = tree-facts d keys own begin tree

  abbrev u₀ : ℕ → List ℕ
  u₀ = u_row d keys own

  abbrev v₀ : ℕ → List ℕ
  v₀ = v_row d keys own

  -- the tree's rows pass
  module _ (u v : ℕ → List ℕ) (gu : Gives keys u₀ u) (gv : Gives keys v₀ v) where
    pub u_passes : (k s : ℕ) → Mem k keys → (b : Bool) → leaf d keys k ≡ b → Mem s (u k) → Mem s keys × (in_u d keys own k s ≡ true)
    u_passes k s mk true e m = row-mem (in_u d keys own k) keys s (subst (Mem s) (gu k mk ∙ u-is d keys own k e) m)
    u_passes k s mk false e m = absurd (not-suc-le-zero (subst (Mem s) (gu k mk ∙ u-none d keys own k e) m).1)

    pub right-passes : ListsRight d keys own u v
    right-passes = record {
      passing = record {
        u_ascends = λ k m. u-strict k m (leaf d keys k) refl;
        v_ascends = λ k m. subst Strict (sym (gv k m ∙ v-is d keys own k)) (row-strict (in_v d keys own k) keys t.distinct);
        u_inner = λ k m e. gu k m ∙ u-none d keys own k e;
        u_passes = λ k s mk m. u_passes k s mk (leaf d keys k) refl m;
        v_passes = λ k c mk m. row-mem (in_v d keys own k) keys c (subst (Mem c) (gv k mk ∙ v-is d keys own k) m);
      };
      adds = λ b mb lb. sources-met d keys own begin t u v (D.once d keys own begin tree u v gu gv) b mb lb
          (λ s m. let r = u_passes b s mb true lb m in (r.0, u-leaf d keys own b s r.1));
    }
      where
        u-strict : (k : ℕ) → Mem k keys → (b : Bool) → leaf d keys k ≡ b → Strict (u k)
        u-strict k m true e = subst Strict (sym (gu k m ∙ u-is d keys own k e)) (row-strict (in_u d keys own k) keys t.distinct)
        u-strict k m false e = subst Strict (sym (gu k m ∙ u-none d keys own k e)) (λ i l. absurd (not-suc-le-zero l))

  abbrev far : (ℕ → List ℕ) → ℕ → ℕ
  far v a = sum (map (total_in d keys own) (v a))

  -- rows that pass are part of the tree's
  module _ (u v : ℕ → List ℕ) (r : ListsPass d keys own u v) where
    u-part : (b : ℕ) → Mem b keys → leaf d keys b ≡ true → Part (own_of keys own) (u b) (u₀ b)
    u-part b mb lb = subst (Part (own_of keys own) (u b)) (sym (u-is d keys own b lb))
        (row-part (own_of keys own) (in_u d keys own b) keys (u b) t.distinct (r.u_ascends b mb) (λ s m. r.u_passes b s mb m)
        (λ s m h. ltb-true 0 (own_of keys own s) (sym (t.leaf_sourced s (u-leaf d keys own b s h) m) ∙ u-sourced d keys own b s h)))

    v-part : (a : ℕ) → Mem a keys → Part (total_in d keys own) (v a) (v₀ a)
    v-part a ma = subst (Part (total_in d keys own) (v a)) (sym (v-is d keys own a))
        (row-part (total_in d keys own) (in_v d keys own a) keys (v a) t.distinct (r.v_ascends a ma) (λ c m. r.v_passes a c ma m)
        (λ c m h. total-pos d keys own begin t c (v-sourced d keys own a c h)))

    far-le : (b : ℕ) → Mem b keys → (a : ℕ) → Mem a (ancestors d b) → far v a ≤ far v₀ a
    far-le b mb a m = (v-part a (ancestor-mem d keys own begin t b a mb m)).least

    -- so no leaf meets more sources than there are
    pub met-most : (b : ℕ) → Mem b keys → leaf d keys b ≡ true → sources_met d keys own u v b ≤ sum own
    met-most b mb lb = omega (arith, (right-passes u₀ v₀ (λ k m. refl) (λ k m. refl)).adds b mb lb, (u-part b mb lb).least, sum_less (far v) (far v₀) (ancestors d b) (far-le b mb))

  -- and where each leaf meets all sources, they are the tree's
  module _ (u v : ℕ → List ℕ) (r : ListsRight d keys own u v) where
    p : ListsPass d keys own u v
    p = r.passing

    both-add : (b : ℕ) → Mem b keys → leaf d keys b ≡ true → sources_met d keys own u v b ≡ sources_met d keys own u₀ v₀ b
    both-add b mb lb = r.adds b mb lb ∙ sym ((right-passes u₀ v₀ (λ k m. refl) (λ k m. refl)).adds b mb lb)

    leaf-same : (b : ℕ) → Mem b keys → leaf d keys b ≡ true → (u b ≡ u₀ b) × ((a : ℕ) → Mem a (ancestors d b) → v a ≡ v₀ a)
    leaf-same b mb lb =
        let e = both-add b mb lb in
        let q = u-part u v p b mb lb in
        let least = q.least in
        let rest = sum_less (far v) (far v₀) (ancestors d b) (far-le u v p b mb) in (
          q.same (omega arith),
          λ a m. (v-part u v p a (ancestor-mem d keys own begin t b a mb m)).same (sums-tight (far v) (far v₀) (ancestors d b) (far-le u v p b mb) (omega arith) a m),
        )

    u_same : (k : ℕ) → Mem k keys → (b : Bool) → leaf d keys k ≡ b → u k ≡ u₀ k
    u_same k m true e = (leaf-same k m e).0
    u_same k m false e = p.u_inner k m e ∙ sym (u-none d keys own k e)

    -- the root has no V row, and each other node a leaf at or under it
    v-same : (k : ℕ) → Mem k keys → v k ≡ v₀ k
    v-same k m = ⊎_elim
        (λ (h : 0 < level_of k). let l = line d keys own begin t k m h in (leaf-same l.end l.node l.leaf's).1 k l.above)
        (λ (h : level_of k ≤ 0). empty (v k) (λ c n. omega (arith, (v-facts d keys own k c (p.v_passes k c m n).1).deep))
        ∙ sym (v-is d keys own k ∙ empty (ascending (filter (in_v d keys own k) keys)) (λ c n. omega (arith, (v-facts d keys own k c (row-mem (in_v d keys own k) keys c n).1).deep))))
        (lt-or-le 0 (level_of k))

    pub lists-right : Gives keys u₀ u × Gives keys v₀ v
    lists-right = (λ k m. u_same k m (leaf d keys k) refl, v-same)

  pub right-iff : (u v : ℕ → List ℕ) → ListsRight d keys own u v ↔ (Gives keys (u_row d keys own) u × Gives keys (v_row d keys own) v)
  right-iff u v = (lists-right u v, λ g. right-passes u v g.0 g.1)
