-- Order 10's laws of a tree in Z order: Z1 a node's range, Z2 leaves and children, Z3 the last earlier node of a level.
use mathlib.Core.Path.{◌≡◌, refl, sym, ap, ap₂, ◌∙◌, subst}
use mathlib.Core.Bool.{Bool, true, false, ◌&&◌, ◌||◌, not}
use mathlib.Core.List.{List, [], ◌∷◌}
use mathlib.Core.Logic.{◌⊎◌, inl, inr}
use Prim.Native.Nat.{ℕ, zero, suc, ◌+◌, ◌-◌, ◌≤◌, ◌<◌}
use native.Mathlib.Omega.{arith}
use native.Mathlib.Nat.{eq-or-lt_of_le, not-suc-le-zero}
use native.Mathlib.Decide.{dec_lt}
use lib.Dec.{leb, ltb, eqb}
use lib.ListN.{length, get_or}
use borrow.Author.Tests.{ltb-true, leb-true, eqb-true, lt-ltb, le-ltb, le-leb, lt-leb, eq-eqb, ne_eqb, not-true}
use Rattle.slices.specs.Lists.{any, Mem}
use Rattle.slices.proofs.Tests.{and_l, and_r, both, clash, refute, same_test, or-not, or_right}
use Rattle.slices.proofs.Counts.{any-intro, any-elim}
use Rattle.morton.specs.Keys.{key, level_of, code_of, parent, under}
use Rattle.morton.proofs.Cells.{key-parts, level-parent}
use Rattle.tree.specs.Nodes.{cell_at, stored, child_of, leaf}
use Rattle.tree.proofs.Members.{stored-mem, mem-stored}
use Rattle.tree.proofs.Under.{under-facts, under-self, under-trans, child-under}
use Rattle.tree.specs.Order.{end_of}
use Rattle.tree.proofs.Rules.{Ascending, Tree}
use Rattle.tree.proofs.Ranges.{nested, same-level, parent-under, parent_is, level-le, distinct, under-later, under-between, same_number, level-pos}
use Rattle.tree.proofs.Ends.{Ends, ends}

module _ (d : ℕ) (keys : List ℕ) (t : Tree d keys) where
  -- a node's parent is an earlier node, and holds the node just before it
  pub parent-at : (j : ℕ) → 0 < j → j < length keys → (m : ℕ) × (m < j) × (get_or keys m 0 ≡ parent d (get_or keys j 0))
  parent-at j p l = go (stored-mem keys (parent d (get_or keys j 0)) (t.parents j p l))
    where
      h : 0 < level_of (get_or keys j 0)
      h = level-pos d keys t.ascending j p l

      go : Mem (parent d (get_or keys j 0)) keys → (m : ℕ) × (m < j) × (get_or keys m 0 ≡ parent d (get_or keys j 0))
      go (m, lm, e) =
          let u : under d (get_or keys m 0) (get_or keys j 0) ≡ true = rw e (parent-under d (get_or keys j 0) h) in
          let a = under-later d keys t.ascending m j lm l u in
          let c : level_of (get_or keys m 0) ≡ level_of (get_or keys j 0) - 1 = ap level_of e ∙ level-parent d (get_or keys j 0) in
          let n : (m ≡ j) → ⊥ = λ q. omega (arith, h, c, ap (λ x. level_of (get_or keys x 0)) q) in
          (m, less (eq-or-lt_of_le a) n, e)
        where
          less : (m ≡ j) ⊎ (m < j) → ((m ≡ j) → ⊥) → m < j
          less (inl q) n = absurd (n q)
          less (inr q) n = q

  pub parent-holds : (i : ℕ) → suc i < length keys → under d (parent d (get_or keys (suc i) 0)) (get_or keys i 0) ≡ true
  parent-holds i l =
      let (m, h, e) = parent-at (suc i) (omega arith) l in
      let u : under d (get_or keys m 0) (get_or keys (suc i) 0) ≡ true = rw e (parent-under d (get_or keys (suc i) 0) (level-pos d keys t.ascending (suc i) (omega arith) l)) in
      rw e at (under-between d keys t.ascending m i (suc i) (omega arith) (omega arith) l u)

  -- Z3: every cell that holds a node is a node, of no higher number
  pub holder-at : (a i : ℕ) → i < length keys → under d a (get_or keys i 0) ≡ true → (m : ℕ) × (m ≤ i) × (get_or keys m 0 ≡ a)
  holder-at a i l u = go i l u
    where
      step : (i : ℕ) → ((m : ℕ) → m < i → m < length keys → under d a (get_or keys m 0) ≡ true → (n : ℕ) × (n ≤ m) × (get_or keys n 0 ≡ a))
          → i < length keys → under d a (get_or keys i 0) ≡ true → (m : ℕ) × (m ≤ i) × (get_or keys m 0 ≡ a)
      step i ih l u = by (dec_lt (level_of a) (level_of (get_or keys i 0))) (dec_lt 0 i)
        where
          by : Dec (level_of a < level_of (get_or keys i 0)) → Dec (0 < i) → (m : ℕ) × (m ≤ i) × (get_or keys m 0 ≡ a)
          by (no n) _ = (i, omega arith, same-level d a (get_or keys i 0) u (omega arith))
          by (yes h) (no z) =
              let q : i ≡ 0 = omega arith in
              absurd (omega (arith, ap (λ x. level_of (get_or keys x 0)) q, t.ascending.root, ap level_of t.ascending.root))
          by (yes h) (yes p) =
              let (m, s, e) = parent-at i p l in
              let v = nested d a (parent d (get_or keys i 0)) (get_or keys i 0) (level-le d keys t.ascending i l) (omega (arith, level-parent d (get_or keys i 0))) u
              (parent-under d (get_or keys i 0) (omega arith)) in
              let (n, s2, e2) = ih m s (omega arith) (rw e v) in
              (n, omega arith, e2)

      below : (n i : ℕ) → i < n → i < length keys → under d a (get_or keys i 0) ≡ true → (m : ℕ) × (m ≤ i) × (get_or keys m 0 ≡ a)
      below zero i h l u = absurd (not-suc-le-zero h)
      below (suc n) i h l u = step i (λ m s lm v. below n m (omega arith) lm v) l u

      go : (i : ℕ) → i < length keys → under d a (get_or keys i 0) ≡ true → (m : ℕ) × (m ≤ i) × (get_or keys m 0 ≡ a)
      go i l u = below (suc i) i (omega arith) l u

  -- Z3: the last earlier node of a level is the cell of that level that holds the node
  pub last-of-level : (i j : ℕ) → j < i → i < length keys → level_of (get_or keys j 0) < level_of (get_or keys i 0)
      → ((m : ℕ) → j < m → m < i → level_of (get_or keys m 0) ≡ level_of (get_or keys j 0) → ⊥)
      → get_or keys j 0 ≡ cell_at d (level_of (get_or keys j 0)) (get_or keys i 0)
  last-of-level i j h l s none =
      let a = cell_at d (level_of (get_or keys j 0)) (get_or keys i 0) in
      let la = Rattle.morton.proofs.Cells.level_begins d (level_of (get_or keys j 0)) (get_or keys i 0) (omega arith) in
      let u : under d (cell_at d (level_of (get_or keys j 0)) (get_or keys i 0)) (get_or keys i 0) ≡ true = Rattle.tree.proofs.Under.facts-under d (cell_at d (level_of (get_or keys j 0)) (get_or keys i 0)) (get_or keys i 0) (record {
        level = omega (arith, la);
        code = rw la (sym (Rattle.morton.proofs.Cells.code_at d (level_of (get_or keys j 0)) (get_or keys i 0) (omega arith)));
      }) in
      let (m, g, e) = holder-at (cell_at d (level_of (get_or keys j 0)) (get_or keys i 0)) i l u in
      let lm : level_of (get_or keys m 0) ≡ level_of (get_or keys j 0) = ap level_of e ∙ la in
      go m g e lm (rw e u) (dec_lt m j) (dec_lt j m)
    where
      go : (m : ℕ) → m ≤ i → get_or keys m 0 ≡ cell_at d (level_of (get_or keys j 0)) (get_or keys i 0) → level_of (get_or keys m 0) ≡ level_of (get_or keys j 0)
          → under d (get_or keys m 0) (get_or keys i 0) ≡ true → Dec (m < j) → Dec (j < m) → get_or keys j 0 ≡ cell_at d (level_of (get_or keys j 0)) (get_or keys i 0)
      go m g e lm u (yes q) _ =
          absurd (omega (arith, same_number d keys t.ascending m j (omega arith) (omega arith) (under-between d keys t.ascending m j i (omega arith) (omega arith) l u) (omega arith)))
      go m g e lm u (no n) (yes q) = absurd (none m q (less (eq-or-lt_of_le g)) lm)
        where
          less : (m ≡ i) ⊎ (m < i) → m < i
          less (inl z) = absurd (omega (arith, ap (λ x. level_of (get_or keys x 0)) z))
          less (inr z) = z
      go m g e lm u (no n) (no p) = let z : j ≡ m = omega arith in ap (λ x. get_or keys x 0) z ∙ e

  -- Z1, by any end: what follows and is deeper lies under the node
  module _ (i e : ℕ) (li : i < length keys) (en : Ends keys i e) where
    deep-under : (n j : ℕ) → j < n → i ≤ j → j < e → under d (get_or keys i 0) (get_or keys j 0) ≡ true
    deep-under zero j s h g = absurd (not-suc-le-zero s)
    deep-under (suc n) j s h g = go (eq-or-lt_of_le h) (λ m a b c. deep-under n m a b c)
      where
        go : (i ≡ j) ⊎ (i < j) → ((m : ℕ) → m < n → i ≤ m → m < e → under d (get_or keys i 0) (get_or keys m 0) ≡ true) → under d (get_or keys i 0) (get_or keys j 0) ≡ true
        go (inl q) ih = rw q (under-self d (get_or keys j 0))
        go (inr q) ih =
            let lj : j < length keys = omega (arith, en.within) in
            let (m, a, c) = parent-at j (omega arith) lj in
            let u : under d (get_or keys m 0) (get_or keys j 0) ≡ true = rw c (parent-under d (get_or keys j 0) (level-pos d keys t.ascending j (omega arith) lj)) in
            by m a u (ap level_of c ∙ level-parent d (get_or keys j 0)) (en.deeper j q g) (dec_lt m i)
          where
            by : (m : ℕ) → m < j → under d (get_or keys m 0) (get_or keys j 0) ≡ true → level_of (get_or keys m 0) ≡ level_of (get_or keys j 0) - 1
                → level_of (get_or keys i 0) < level_of (get_or keys j 0) → Dec (m < i) → under d (get_or keys i 0) (get_or keys j 0) ≡ true
            by m a u lm deep (no r) = under-trans d (get_or keys i 0) (get_or keys m 0) (get_or keys j 0) (ih m (omega arith) (omega arith) (omega arith)) u
            by m a u lm deep (yes r) =
                let v = under-between d keys t.ascending m i j (omega arith) (omega arith) (omega (arith, en.within)) u in
                absurd (omega (arith, same_number d keys t.ascending m i (omega arith) li v (omega arith)))

    -- the nodes at or under node i are those from i up to its end
    pub under-are : (j : ℕ) → j < length keys → under d (get_or keys i 0) (get_or keys j 0) ≡ (leb i j && ltb j e)
    under-are j l = same_test (under d (get_or keys i 0) (get_or keys j 0)) (leb i j && ltb j e) to from
      where
        to : under d (get_or keys i 0) (get_or keys j 0) ≡ true → (leb i j && ltb j e) ≡ true
        to u = let h = under-later d keys t.ascending i j li l u in both (le-leb i j h) (lt-ltb j e (less h (dec_lt j e)))
          where
            less : i ≤ j → Dec (j < e) → j < e
            less h (yes g) = g
            less h (no g) =
                let v = under-between d keys t.ascending i e j (omega (arith, en.after)) (omega arith) l u in
                absurd (omega (arith, en.after, same_number d keys t.ascending i e li (omega arith) v (en.next (omega arith))))

        from : (leb i j && ltb j e) ≡ true → under d (get_or keys i 0) (get_or keys j 0) ≡ true
        from h = deep-under (suc j) j (omega arith) (leb-true i j (and_l _ _ h)) (ltb-true j e (and_r (leb i j) _ h))

  pub under-range : (i j : ℕ) → i < length keys → j < length keys → under d (get_or keys i 0) (get_or keys j 0) ≡ (leb i j && ltb j (end_of keys i))
  under-range i j li lj = under-are i (end_of keys i) li (ends keys i li) j lj

  -- Z2: node i + 1, if deeper, is node i's first child
  pub first-child : (i : ℕ) → suc i < length keys → level_of (get_or keys i 0) < level_of (get_or keys (suc i) 0) → parent d (get_or keys (suc i) 0) ≡ get_or keys i 0
  first-child i l h =
      let u = parent-holds i l in
      let p = (under-facts d (parent d (get_or keys (suc i) 0)) (get_or keys i 0) u).level in
      sym (same-level d (parent d (get_or keys (suc i) 0)) (get_or keys i 0) u (omega (arith, level-parent d (get_or keys (suc i) 0))))

  -- no row is more than one level deeper than the one before it
  pub level-step : (i : ℕ) → suc i < length keys → level_of (get_or keys (suc i) 0) ≤ suc (level_of (get_or keys i 0))
  level-step i l = omega (arith, (under-facts d (parent d (get_or keys (suc i) 0)) (get_or keys i 0) (parent-holds i l)).level, level-parent d (get_or keys (suc i) 0))

  -- a node with a child has it next
  pub child-next : (i c : ℕ) → i < length keys → Mem c keys → child_of d (get_or keys i 0) c ≡ true → (suc i < length keys) × (level_of (get_or keys i 0) < level_of (get_or keys (suc i) 0))
  child-next i c li (n, ln, e) h =
      let u : under d (get_or keys i 0) (get_or keys n 0) ≡ true = rw e (child-under d (get_or keys i 0) c h) in
      let up : level_of (get_or keys i 0) ≡ level_of c - 1 = sym (ap level_of (eqb-true (parent d c) (get_or keys i 0) (and_r (ltb 0 (level_of c)) _ h))) ∙ level-parent d c in
      let pos = ltb-true 0 (level_of c) (and_l _ _ h) in
      let le = under-later d keys t.ascending i n li ln u in
      go (eq-or-lt_of_le le) up pos (ap level_of e) u
    where
      go : (i ≡ n) ⊎ (i < n) → level_of (get_or keys i 0) ≡ level_of c - 1 → 0 < level_of c → level_of (get_or keys n 0) ≡ level_of c → under d (get_or keys i 0) (get_or keys n 0) ≡ true
          → (suc i < length keys) × (level_of (get_or keys i 0) < level_of (get_or keys (suc i) 0))
      go (inl q) up pos lc u = absurd (omega (arith, ap (λ x. level_of (get_or keys x 0)) q))
      go (inr q) up pos lc u =
          let v = under-between d keys t.ascending i (suc i) n (omega arith) (omega arith) ln u in
          (omega arith, deep v (dec_lt (level_of (get_or keys i 0)) (level_of (get_or keys (suc i) 0))))
        where
          deep : under d (get_or keys i 0) (get_or keys (suc i) 0) ≡ true → Dec (level_of (get_or keys i 0) < level_of (get_or keys (suc i) 0)) → level_of (get_or keys i 0) < level_of (get_or keys (suc i) 0)
          deep v (yes r) = r
          deep v (no r) = absurd (omega (arith, same_number d keys t.ascending i (suc i) li (omega arith) v (omega arith)))

  -- Z2: a node other than the root is a leaf iff it is the last, or the next row is not deeper
  pub leaf-is : (i : ℕ) → 0 < i → i < length keys → leaf d keys (get_or keys i 0) ≡ (leb (length keys) (suc i) || leb (level_of (get_or keys (suc i) 0)) (level_of (get_or keys i 0)))
  unfolding leaf
  leaf-is i p l =
      rw (mem-stored keys (get_or keys i 0) (i, l, refl), ne_eqb (get_or keys i 0) 0 (λ e. omega (arith, distinct d keys t.ascending i 0 l (omega arith) (e ∙ sym t.ascending.root))))
      (go (dec_lt (suc i) (length keys)) (dec_lt (level_of (get_or keys i 0)) (level_of (get_or keys (suc i) 0))))
    where
      none : ((suc i < length keys) × (level_of (get_or keys i 0) < level_of (get_or keys (suc i) 0)) → ⊥) → any (child_of d (get_or keys i 0)) keys ≡ false
      none n = refute (λ r. let (c, m, e) = any-elim (child_of d (get_or keys i 0)) keys r in n (child-next i c l m e))

      go : Dec (suc i < length keys) → Dec (level_of (get_or keys i 0) < level_of (get_or keys (suc i) 0))
          → not (any (child_of d (get_or keys i 0)) keys) ≡ (leb (length keys) (suc i) || leb (level_of (get_or keys (suc i) 0)) (level_of (get_or keys i 0)))
      go (no n) _ = rw (none (λ h. n h.0), le-leb (length keys) (suc i) (omega arith))
      go (yes s) (no n) = rw (none (λ h. n h.1), lt-leb (length keys) (suc i) s, le-leb (level_of (get_or keys (suc i) 0)) (level_of (get_or keys i 0)) (omega arith))
      go (yes s) (yes h) =
          rw (
            any-intro (child_of d (get_or keys i 0)) keys (get_or keys (suc i) 0) (suc i, s, refl)
                (both (lt-ltb 0 (level_of (get_or keys (suc i) 0)) (omega arith)) (eq-eqb (parent d (get_or keys (suc i) 0)) (get_or keys i 0) (first-child i s h))),
            lt-leb (length keys) (suc i) s,
            lt-leb (level_of (get_or keys (suc i) 0)) (level_of (get_or keys i 0)) h,
          )

  -- Z2: the next sibling of a child stands at the child's end, where that is before the parent's end
  pub next-sibling : (i c : ℕ) → i < length keys → c < length keys → child_of d (get_or keys i 0) (get_or keys c 0) ≡ true → end_of keys c < end_of keys i
      → child_of d (get_or keys i 0) (get_or keys (end_of keys c) 0) ≡ true
  next-sibling i c li lc h s =
      let a = ends keys i li in
      let b = ends keys c lc in
      let u = child-under d (get_or keys i 0) (get_or keys c 0) h in
      let ic = under-later d keys t.ascending i c li lc u in
      let pos = ltb-true 0 (level_of (get_or keys c 0)) (and_l _ _ h) in
      let up : level_of (get_or keys i 0) ≡ level_of (get_or keys c 0) - 1 = sym (ap level_of (eqb-true (parent d (get_or keys c 0)) (get_or keys i 0) (and_r (ltb 0 (level_of (get_or keys c 0))) _ h))) ∙ level-parent d (get_or keys c 0) in
      let le : end_of keys c < length keys = omega (arith, a.within) in
      let v = under-range i (end_of keys c) li le ∙ both (le-leb i (end_of keys c) (omega (arith, b.after))) (lt-ltb (end_of keys c) (end_of keys i) s) in
      let x = a.deeper (end_of keys c) (omega (arith, b.after)) s in
      let y = b.next le in
      both (lt-ltb 0 (level_of (get_or keys (end_of keys c) 0)) (omega arith))
      (eq-eqb (parent d (get_or keys (end_of keys c) 0)) (get_or keys i 0) (parent_is d (get_or keys i 0) (get_or keys (end_of keys c) 0) v (omega arith)))

  -- Z2: and there is none between
  pub sibling-after : (i c s : ℕ) → i < length keys → c < length keys → s < length keys → child_of d (get_or keys i 0) (get_or keys c 0) ≡ true → child_of d (get_or keys i 0) (get_or keys s 0) ≡ true → c < s → end_of keys c ≤ s
  sibling-after i c s li lc ls h g l = go (dec_lt s (end_of keys c))
    where
      level : (x : ℕ) → child_of d (get_or keys i 0) x ≡ true → level_of x ≡ suc (level_of (get_or keys i 0))
      level x h = omega (arith, ltb-true 0 (level_of x) (and_l _ _ h), sym (ap level_of (eqb-true (parent d x) (get_or keys i 0) (and_r (ltb 0 (level_of x)) _ h))) ∙ level-parent d x)

      go : Dec (s < end_of keys c) → end_of keys c ≤ s
      go (no n) = omega arith
      go (yes q) = absurd (omega (arith, (ends keys c lc).deeper s l q, level (get_or keys c 0) h, level (get_or keys s 0) g))
