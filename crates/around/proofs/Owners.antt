-- The owners close to a cell: those of its level and above are close to its parent or near it, the others lie under the near nodes with children.
use mathlib.Core.Path.{◌≡◌, refl, sym, ap, ap₂, ◌∙◌, subst}
use mathlib.Core.Bool.{Bool, true, false, not, ◌&&◌, and-true, cond}
use mathlib.Core.List.{List, [], ◌++◌, map}
use Prim.Native.Nat.{ℕ, zero, suc, ◌+◌, ◌*◌, ◌-◌, ◌≤◌, ◌<◌}
use native.Mathlib.Omega.{arith}
use native.Mathlib.Nat.{zero-add}
use native.Mathlib.Decide.{dec_lt}
use lib.Dec.{ltb, eqb}
use lib.ListN.{length, get_or, take}
use lib.Seq.{length-take-le}
use borrow.Author.Tests.{ltb-true, eqb-true, lt-ltb, le-ltb, eq-eqb, ne_eqb}
use Rattle.slices.specs.Lists.{any, bit, count, filter, range, Mem}
use Rattle.slices.specs.Order.{ascending}
use Rattle.slices.proofs.Tests.{and_l, and_r, both, clash, refute, same_test}
use Rattle.slices.proofs.Counts.{any-intro, any-elim, count-zero, count_add}
use Rattle.slices.proofs.Rows.{count-filter}
use Rattle.slices.proofs.Lists.{count-append, length-filter, length-ascending}
use Rattle.slices.proofs.Members.{mem-filter, filter-mem, mem-range, range-mem}
use Rattle.slices.proofs.Same.{ascending-same}
use Rattle.morton.specs.Keys.{level_of, code_of, above, parent, under, ValidKey}
use Rattle.morton.specs.Anchors.{near, close}
use Rattle.morton.proofs.Cells.{level_begins, code_at, at_self}
use Rattle.tree.specs.Nodes.{cell_at, leaf, own_of, sourced}
use Rattle.tree.specs.WellFormed.{SoundTree}
use Rattle.tree.proofs.Follow.{root-no-leaf}
use Rattle.tree.proofs.Ranges as R
use Rattle.tree.proofs.Stored.{above-mem, sourced-by}
use Rattle.tree.proofs.Sourced.{under-facts, facts-under, sourced-leaf, child-at}
use Rattle.rows.specs.Lists.{in_u, u_row}
use Rattle.rows.proofs.Closeness.{near-is-close}
use Rattle.sourced.specs.Room.{Holds, Puts}
use Rattle.sourced.specs.Room.{PutsThose, PutsRow}
use Rattle.sourced.proofs.Those.{those-join}
use Rattle.links.specs.Links.{inner}
use Rattle.around.specs.Around.{near_to, owner, near_nodes, near_inner, Kept}
use Rattle.around.specs.Parting.{key_of, inner_at, leaves_at}
use Rattle.around.proofs.Lists.{filter_same, filter-twice, filter_map, keys_filter, map-twice, filter-fewer}
use Rattle.around.proofs.Nodes.{well, own_count, own-sourced, only-root, child-inner, inner-none, leaf-owns}
use Rattle.around.proofs.Nearby.{close-finer, close-coarser, close-above, up-level}
use Rattle.around.proofs.Few.{near-few}

-- the test for the levels up to one is the test for those below it, or the one for the level
bits : (o c a b e z a' b' e' : Bool) → a ≡ a' → b ≡ b' → e ≡ e' → bit (o && (c && a')) ≡ bit (o && (c && b')) + bit ((e' && z) && o) → bit (o && (c && a)) ≡ bit (o && (c && b)) + bit ((e && z) && o)
bits o c a b e z a' b' e' ea eb ee h = rw (ea, eb, ee) h

either : (o c a z : Bool) → bit (o && (c && a)) ≡ bit (o && (c && a)) + bit ((false && z) && o)
either o c a z = omega arith

level : (o c s : Bool) → (o ≡ true → s ≡ true) → bit (o && (c && true)) ≡ bit (o && (c && false)) + bit ((true && (c && s)) && o)
level true true true h = refl
level true true false h = absurd (clash (h refl) refl)
level true false s h = refl
level false true true h = refl
level false true false h = refl
level false false s h = refl

-- counted with another test
joined : (p q r e : ℕ → Bool) (keys : List ℕ) → ((x : ℕ) → Mem x keys → bit (r x) ≡ bit (p x) + bit (q x)) → count e (filter p keys) + count e (filter q keys) ≡ count e (filter r keys)
joined p q r e keys split =
    sym (count-filter e r keys
    ∙ count_add (λ x. r x && e x) (λ x. p x && e x) (λ x. q x && e x) keys (λ x m. at (r x) (p x) (q x) (e x) (split x m))
    ∙ sym (ap₂ ◌+◌ (count-filter e p keys) (count-filter e q keys)))
  where
    at : (r p q e : Bool) → bit r ≡ bit p + bit q → bit (r && e) ≡ bit (p && e) + bit (q && e)
    at true true true e h = absurd (omega arith)
    at true true false true h = refl
    at true true false false h = refl
    at true false true true h = refl
    at true false true false h = refl
    at true false false e h = absurd (omega arith)
    at false true q e h = absurd (omega arith)
    at false false true e h = absurd (omega arith)
    at false false false e h = refl

module _ (d : ℕ) (keys own : List ℕ) (t : SoundTree d keys own) where
  -- x owns sources
  abbrev owns : ℕ → Bool
  owns x = ltb 0 (own_of keys own x)

  -- the owners of one more level
  level-split : (q l : ℕ) → l ≤ level_of q → (x : ℕ) → Mem x keys → bit (owner d keys own q (suc l) x) ≡ bit (owner d keys own q l x) + bit (near_to d keys own (cell_at d l q) x && owns x)
  level-split q l h x m = go (dec_lt (level_of x) l) (dec_lt l (level_of x))
    where
      at : level_of (cell_at d l q) ≡ l
      at = level_begins d l q h

      rest : Bool
      rest = near d d (level_of (cell_at d l q)) (code_of (cell_at d l q)) (code_of x) && sourced d keys own x

      go : Dec (level_of x < l) → Dec (l < level_of x) → bit (owner d keys own q (suc l) x) ≡ bit (owner d keys own q l x) + bit (near_to d keys own (cell_at d l q) x && owns x)
      go (yes k) g = bits (owns x) (close d q x) _ _ _ rest true true false (lt-ltb (level_of x) (suc l) (omega arith)) (lt-ltb (level_of x) l k) (ne_eqb (level_of x) (level_of (cell_at d l q)) (λ z. omega (arith, at, z))) (either (owns x) (close d q x) true rest)
      go (no k) (yes g) = bits (owns x) (close d q x) _ _ _ rest false false false (le-ltb (level_of x) (suc l) (omega arith)) (le-ltb (level_of x) l (omega arith)) (ne_eqb (level_of x) (level_of (cell_at d l q)) (λ z. omega (arith, at, z))) (either (owns x) (close d q x) false rest)
      go (no k) (no g) =
          let e : level_of x ≡ l = omega arith in
          let nr : near d d (level_of (cell_at d l q)) (code_of (cell_at d l q)) (code_of x) ≡ close d q x = subst (λ n. near d d (level_of (cell_at d n q)) (code_of (cell_at d n q)) (code_of x) ≡ close d q x) e (close-coarser d q x (omega arith)) in
          bits (owns x) (close d q x) _ _ _ rest true false true (lt-ltb (level_of x) (suc l) (omega arith)) (le-ltb (level_of x) l (omega arith)) (eq-eqb (level_of x) (level_of (cell_at d l q)) (omega (arith, at)))
          (level (owns x) (close d q x) (sourced d keys own x) (own-sourced d keys own t x m) ∙ ap (λ b. bit (owns x && (close d q x && false)) + bit ((true && (b && sourced d keys own x)) && owns x)) (sym nr))

  -- the root owns nothing
  pub root_none : own_of keys own (get_or keys 0 0) ≡ 0
  root_none = own_count d keys own t 0 (well d keys own t).some ∙ (well d keys own t).inner 0 (well d keys own t).some (root-no-leaf d keys own (record { ascending = (well d keys own t).ascending; parents = (well d keys own t).parents }))

  pub none_above : (q x : ℕ) → Mem x keys → owner d keys own q 1 x ≡ true → ⊥
  none_above q x m h =
      let lv = ltb-true (level_of x) 1 (and_r (close d q x) _ (and_r (owns x) _ h)) in
      let z : x ≡ get_or keys 0 0 = only-root d keys own t x m (omega (arith, lv)) ∙ sym (well d keys own t).ascending.root in
      omega (arith, ltb-true 0 (own_of keys own x) (and_l _ _ h), ap (own_of keys own) z ∙ root_none)

  -- at most 27 of each level
  pub owners-few : (q l : ℕ) → l ≤ level_of q → count (owner d keys own q (suc l)) keys ≤ 27 * l
  owners-few q zero h = omega (arith, count-zero (owner d keys own q 1) keys (none_above q))
  owners-few q (suc l) h = omega (
    arith,
    count_add (owner d keys own q (suc (suc l))) (owner d keys own q (suc l)) (λ x. near_to d keys own (cell_at d (suc l) q) x && owns x) keys (level-split q (suc l) h),
    owners-few q l (omega arith),
    filter-fewer (λ x. near_to d keys own (cell_at d (suc l) q) x && owns x) (near_to d keys own (cell_at d (suc l) q)) keys (λ x g. and_l _ _ g),
    near-few d keys own t (cell_at d (suc l) q),
  )

  -- an owner is a sourced leaf, and the other way round
  pub u-owner : (b x : ℕ) → Mem x keys → in_u d keys own b x ≡ (owns x && close d b x)
  unfolding in_u
  u-owner b x m = same_test (in_u d keys own b x) (owns x && close d b x)
      (λ h. both (sym (sourced-leaf d keys own t.begin (well d keys own t) x (and_l (leaf d keys x) _ h) m) ∙ and_l (sourced d keys own x) _ (and_r (leaf d keys x) _ h))
      (sym (near-is-close d b x) ∙ and_r (sourced d keys own x) _ (and_r (leaf d keys x) _ h)))
      (λ h. let l = is_leaf (leaf d keys x) refl (ltb-true 0 (own_of keys own x) (and_l _ _ h)) in
      both l (both (sourced-leaf d keys own t.begin (well d keys own t) x l m ∙ and_l (owns x) _ h) (near-is-close d b x ∙ and_r (owns x) _ h)))
    where
      is_leaf : (f : Bool) → leaf d keys x ≡ f → 0 < own_of keys own x → leaf d keys x ≡ true
      is_leaf true e h = e
      is_leaf false e h =
          let o : own_of keys own x ≡ get_or own m.0 0 = ap (own_of keys own) (sym m.2) ∙ own_count d keys own t m.0 m.1 in
          absurd (omega (arith, (well d keys own t).inner m.0 m.1 (subst (λ y. leaf d keys y ≡ false) (sym m.2) e)))

  module _ (q : ℕ) where
    -- ---- the near nodes at some positions, those without children and the others
    module _ (nodes cells : List ℕ) (are : map (λ i. get_or nodes i 0) cells ≡ near_nodes d keys own q) where
      pub inner-are : map (λ i. get_or nodes i 0) (inner_at keys nodes cells) ≡ near_inner d keys own q
      inner-are = filter_map (inner keys) (λ i. get_or nodes i 0) cells ∙ ap (filter (inner keys)) are ∙ filter-twice (inner keys) (λ j. near_to d keys own q (get_or keys j 0)) (range 0 (length keys))

      -- those without children are the owners
      pub leaves-are : map (key_of keys nodes) (leaves_at keys nodes cells) ≡ filter (λ x. near_to d keys own q x && owns x) keys
      leaves-are =
          sym (map-twice (λ j. get_or keys j 0) (λ i. get_or nodes i 0) (leaves_at keys nodes cells))
          ∙ ap (map (λ j. get_or keys j 0)) (filter_map (λ j. not (inner keys j)) (λ i. get_or nodes i 0) cells ∙ ap (filter (λ j. not (inner keys j))) are
          ∙ filter-twice (λ j. not (inner keys j)) (λ j. near_to d keys own q (get_or keys j 0)) (range 0 (length keys))
          ∙ filter_same (λ j. near_to d keys own q (get_or keys j 0) && not (inner keys j)) (λ j. near_to d keys own q (get_or keys j 0) && owns (get_or keys j 0)) (length keys) same)
          ∙ keys_filter (λ x. near_to d keys own q x && owns x) keys
        where
          same : (j : ℕ) → j < length keys → (near_to d keys own q (get_or keys j 0) && not (inner keys j)) ≡ (near_to d keys own q (get_or keys j 0) && owns (get_or keys j 0))
          same j l = go (inner keys j) refl
            where
              so : near_to d keys own q (get_or keys j 0) ≡ true → sourced d keys own (get_or keys j 0) ≡ true
              so h = and_r (near d d (level_of q) (code_of q) (code_of (get_or keys j 0))) _ (and_r (eqb (level_of (get_or keys j 0)) (level_of q)) _ h)

              go : (b : Bool) → inner keys j ≡ b → (near_to d keys own q (get_or keys j 0) && not b) ≡ (near_to d keys own q (get_or keys j 0) && owns (get_or keys j 0))
              go true e = ap (λ b. near_to d keys own q (get_or keys j 0) && b) (sym (le-ltb 0 (own_of keys own (get_or keys j 0)) (omega (arith, inner-none d keys own t j l e))))
              go false e = same_test (near_to d keys own q (get_or keys j 0) && true) (near_to d keys own q (get_or keys j 0) && owns (get_or keys j 0))
                  (λ h. both {a = near_to d keys own q (get_or keys j 0)} (and_l (near_to d keys own q (get_or keys j 0)) _ h) (leaf-owns d keys own t j l e (so (and_l (near_to d keys own q (get_or keys j 0)) _ h)))) (λ h. both {a = near_to d keys own q (get_or keys j 0)} {b = true} (and_l (near_to d keys own q (get_or keys j 0)) _ h) refl)

    -- ---- the U row's test in two parts
    under_inner : ℕ → Bool
    under_inner x = any (λ j. under d (get_or keys j 0) x) (near_inner d keys own q)

    module _ (x : ℕ) (m : Mem x keys) (o : owns x ≡ true) where
      -- node j is near q, has children, and x lies in it
      held : under_inner x ≡ true → (j : ℕ) × (j < length keys) × ((near_to d keys own q (get_or keys j 0) && inner keys j) ≡ true) × (under d (get_or keys j 0) x ≡ true)
      unfolding under_inner
      held g =
          let (j, mj, u) = any-elim (λ j. under d (get_or keys j 0) x) (near_inner d keys own q) g in
          let (r, pass) = mem-filter (λ j. near_to d keys own q (get_or keys j 0) && inner keys j) (range 0 (length keys)) j mj in
          (j, mem-range (length keys) j r, pass, u)

      not-under : level_of x ≤ level_of q → under_inner x ≡ true → ⊥
      not-under h g =
          let (j, l, pass, u) = held g in
          let lv = eqb-true (level_of (get_or keys j 0)) (level_of q) (and_l _ _ (and_l (near_to d keys own q (get_or keys j 0)) _ pass)) in
          let e : x ≡ get_or keys j 0 = R.same-level d (get_or keys j 0) x u (omega arith) in
          omega (arith, ltb-true 0 (own_of keys own x) o, ap (own_of keys own) e ∙ inner-none d keys own t j l (and_r (near_to d keys own q (get_or keys j 0)) _ pass))

      under-close : level_of q < level_of x → under_inner x ≡ close d q x
      unfolding under_inner
      under-close h = same_test (under_inner x) (close d q x) there back
        where
          there : under_inner x ≡ true → close d q x ≡ true
          there g =
              let (j, l, pass, u) = held g in
              let n = and_l (near_to d keys own q (get_or keys j 0)) _ pass in
              let lv = eqb-true (level_of (get_or keys j 0)) (level_of q) (and_l _ _ n) in
              let c : code_of (cell_at d (level_of q) x) ≡ code_of (get_or keys j 0) = code_at d (level_of q) x (omega arith) ∙ ap (λ (l : ℕ). above d (level_of x - l) (code_of x)) (sym lv) ∙ (under-facts d (get_or keys j 0) x u).code in
              sym (close-finer d q x (omega arith)) ∙ ap (near d d (level_of q) (code_of q)) c ∙ and_l (near d d (level_of q) (code_of q) (code_of (get_or keys j 0))) _ (and_r (eqb (level_of (get_or keys j 0)) (level_of q)) _ n)

          back : close d q x ≡ true → under_inner x ≡ true
          back g = go (above-mem d keys (well d keys own t).ascending (well d keys own t).parents x (level_of q) m (omega arith))
            where
              at : level_of (cell_at d (level_of q) x) ≡ level_of q
              at = level_begins d (level_of q) x (omega arith)

              below : under d (cell_at d (level_of q) x) x ≡ true
              below = facts-under d (cell_at d (level_of q) x) x (record { level = omega (arith, at); code = rw at (sym (code_at d (level_of q) x (omega arith))) })

              passes : near_to d keys own q (cell_at d (level_of q) x) ≡ true
              passes = both (eq-eqb (level_of (cell_at d (level_of q) x)) (level_of q) at) (both (close-finer d q x (omega arith) ∙ g) (sourced-by d keys own (cell_at d (level_of q) x) x m (ltb-true 0 (own_of keys own x) o) below))

              go : Mem (cell_at d (level_of q) x) keys → under_inner x ≡ true
              go (j, l, e) =
                  let u : under d (get_or keys j 0) x ≡ true = subst (λ y. under d y x ≡ true) (sym e) below in
                  let lv : level_of (get_or keys j 0) < level_of x = omega (arith, ap level_of e, at) in
                  let (ch, _) = child-at d (get_or keys j 0) x u lv in
                  let kid = above-mem d keys (well d keys own t).ascending (well d keys own t).parents x (suc (level_of (get_or keys j 0))) m lv in
                  any-intro (λ j. under d (get_or keys j 0) x) (near_inner d keys own q) j
                  (filter-mem (λ j. near_to d keys own q (get_or keys j 0) && inner keys j) (range 0 (length keys)) j (range-mem (length keys) j l) (both (subst (λ y. near_to d keys own q y ≡ true) (sym e) passes) (child-inner d keys own t j _ l kid ch))) u

    u-split : (x : ℕ) → Mem x keys → bit (in_u d keys own q x) ≡ bit (owner d keys own q (suc (level_of q)) x) + bit (under_inner x && owns x)
    u-split x m = ap bit (u-owner q x m) ∙ go (owns x) refl (dec_lt (level_of q) (level_of x))
      where
        last : (s : Bool) → (s && false) ≡ false
        last true = refl
        last false = refl

        go : (o : Bool) → owns x ≡ o → Dec (level_of q < level_of x) → bit (o && close d q x) ≡ bit (o && (close d q x && ltb (level_of x) (suc (level_of q)))) + bit (under_inner x && o)
        go false e _ = sym (zero-add (bit (under_inner x && false)) ∙ ap bit (last (under_inner x)))
        go true e (yes h) =
            let off : ltb (level_of x) (suc (level_of q)) ≡ false = le-ltb (level_of x) (suc (level_of q)) h in
            sym (ap₂ (λ u v. bit u + bit (v && true)) (ap (λ u. close d q x && u) off ∙ last (close d q x)) (under-close x m e h) ∙ omega (arith, ap bit (and-true (close d q x))))
        go true e (no h) =
            let low : ltb (level_of x) (suc (level_of q)) ≡ true = lt-ltb (level_of x) (suc (level_of q)) (omega arith) in
            let none : under_inner x ≡ false = refute (not-under x m e (omega arith)) in
            sym (ap₂ (λ u v. bit u + bit (v && true)) (ap (λ u. close d q x && u) low ∙ and-true (close d q x)) none ∙ omega arith)

  -- ---- a cell q with the parent p
  module _ (p q : ℕ) (v : ValidKey d q) (deep : 0 < level_of q) (up : parent d q ≡ p) where
    -- the owners of q's level and above are those kept for p, or near q
    pub kept-split : (x : ℕ) → Mem x keys → bit (owner d keys own q (suc (level_of q)) x) ≡ bit (owner d keys own p (suc (level_of p)) x) + bit (near_to d keys own q x && owns x)
    kept-split x m =
        level-split q (level_of q) (omega arith) x m
        ∙ ap₂ (λ a b. bit a + bit (near_to d keys own b x && owns x)) (go (dec_lt (level_of x) (level_of q))) (at_self d q)
      where
        last : (o c : Bool) → (o && (c && false)) ≡ false
        last true true = refl
        last true false = refl
        last false c = refl

        go : Dec (level_of x < level_of q) → owner d keys own q (level_of q) x ≡ owner d keys own p (suc (level_of p)) x
        go (yes h) = ap₂ (λ c l. owns x && (c && ltb (level_of x) l)) (sym (close-above d p q deep up x h)) (sym (up-level d p q deep up))
        go (no h) =
            let a : ltb (level_of x) (level_of q) ≡ false = le-ltb (level_of x) (level_of q) (omega arith) in
            let b : ltb (level_of x) (suc (level_of p)) ≡ false = ap (ltb (level_of x)) (up-level d p q deep up) ∙ a in
            ap (λ s. owns x && (close d q x && s)) a ∙ last (owns x) (close d q x) ∙ sym (ap (λ s. owns x && (close d p x && s)) b ∙ last (owns x) (close d p x))

    module _ (nodes cells : List ℕ) (are : map (λ i. get_or nodes i 0) cells ≡ near_nodes d keys own q) where
      -- the owners kept for p, and those near q put after them, are those kept for q
      pub kept_more : (held held' : List ℕ) (n n' : ℕ) → Kept d keys own p held n → Puts held n (map (key_of keys nodes) (leaves_at keys nodes cells)) held' n' → length held' ≡ length held → 432 ≤ length held → Kept d keys own q held' n'
      kept_more held held' n n' k put same big = record {
        fits = omega (arith, holds.counted, size);
        those = λ x. ap (count (λ c. eqb c x)) written ∙ those x;
      }
        where
          all : List ℕ
          all = take n held ++ filter (λ x. near_to d keys own q x && owns x) keys

          length-first : length (take n held) ≡ n
          length-first = length-take-le n held k.fits

          holds : Holds held' n' all
          holds = subst (λ xs. Holds held' n' (take n held ++ xs)) (leaves-are q nodes cells are) (put (take n held) (record {
            counted = omega (arith, length-first, k.fits);
            begins = λ h. ap (λ (i : ℕ). take i held) length-first;
          }))

          those : (x : ℕ) → count (λ c. eqb c x) all ≡ count (λ c. eqb c x) (filter (owner d keys own q (suc (level_of q))) keys)
          those x =
              count-append (λ c. eqb c x) (take n held) (filter (λ x. near_to d keys own q x && owns x) keys)
              ∙ ap (λ i. i + count (λ c. eqb c x) (filter (λ x. near_to d keys own q x && owns x) keys)) (k.those x)
              ∙ joined (owner d keys own p (suc (level_of p))) (λ x. near_to d keys own q x && owns x) (owner d keys own q (suc (level_of q))) (λ c. eqb c x) keys kept-split

          size : length all ≤ 432
          size = omega (
            arith,
            sym (length-ascending all) ∙ ap length (ascending-same all (filter (owner d keys own q (suc (level_of q))) keys) those) ∙ length-ascending (filter (owner d keys own q (suc (level_of q))) keys) ∙ length-filter (owner d keys own q (suc (level_of q))) keys,
            owners-few q (level_of q) (omega arith),
            v.level,
          )

          written : take n' held' ≡ all
          written =
              let e : n' ≡ length all = omega (arith, holds.counted, size) in
              ap (λ (i : ℕ). take i held') e ∙ holds.begins (omega (arith, size))

      -- a leaf's U row: the owners kept for its parent, those near it, and those under the near nodes with children
      pub near-row : leaf d keys q ≡ true → (held : List ℕ) (h : ℕ) → Kept d keys own p held h → (out out₁ out₂ out' : List ℕ) (n n₁ n₂ n' : ℕ)
          → Puts out n (take h held) out₁ n₁ → Puts out₁ n₁ (map (key_of keys nodes) (leaves_at keys nodes cells)) out₂ n₂
          → (listed : List ℕ) (c : ℕ) → take c listed ≡ near_inner d keys own q
          → PutsThose keys (λ x. any (λ j. under d (get_or keys j 0) x) (take c listed) && ltb 0 (own_of keys own x)) out₂ n₂ out' n' → PutsRow (u_row d keys own q) out n out' n'
      unfolding under_inner
      near-row f held h k out out₁ out₂ out' n n₁ n₂ n' first second listed c e third =
          let a : PutsThose keys (owner d keys own p (suc (level_of p))) out n out₁ n₁ = record { cells = take h held; puts = first; those = k.those } in
          let b : PutsThose keys (λ x. near_to d keys own q x && owns x) out₁ n₁ out₂ n₂ = record {
            cells = map (key_of keys nodes) (leaves_at keys nodes cells);
            puts = second;
            those = λ x. ap (count (λ c. eqb c x)) (leaves-are q nodes cells are);
          } in
          let low = those-join keys (owner d keys own p (suc (level_of p))) (λ x. near_to d keys own q x && owns x) (owner d keys own q (suc (level_of q))) out out₁ out₂ n n₁ n₂ kept-split a b in
          let deeper = subst (λ xs. PutsThose keys (λ x. any (λ j. under d (get_or keys j 0) x) xs && owns x) out₂ n₂ out' n') e third in
          row f out out' n n' (those-join keys (owner d keys own q (suc (level_of q))) (λ x. any (λ j. under d (get_or keys j 0) x) (near_inner d keys own q) && owns x) (in_u d keys own q) out out₂ out' n n₂ n' (u-split q) low deeper)
        where
          row : leaf d keys q ≡ true → (out out' : List ℕ) (n n' : ℕ) → PutsThose keys (in_u d keys own q) out n out' n' → PutsRow (u_row d keys own q) out n out' n'
          row f out out' n n' a = record {
            cells = a.cells;
            puts = a.puts;
            sorted = ascending-same a.cells (filter (in_u d keys own q) keys) a.those ∙ unfold u_row in (sym (ap (λ b. cond b (ascending (filter (in_u d keys own q) keys)) []) f));
          }
