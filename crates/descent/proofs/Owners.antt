-- The owners under a node are those numbered from the node on up to where the walk goes on: so the steps put one run of numbers after the other.
use mathlib.Core.Path.{◌≡◌, refl, sym, ap, ap₂, ◌∙◌, subst}
use mathlib.Core.Bool.{Bool, true, false, ◌&&◌, cond}
use mathlib.Core.List.{List, [], ◌∷◌}
use Prim.Native.Nat.{ℕ, suc, ◌+◌, ◌≤◌, ◌<◌}
use native.Mathlib.Omega.{arith}
use native.Mathlib.Decide.{dec_lt}
use lib.Dec.{leb, ltb, eqb}
use lib.ListN.{length, get_or}
use borrow.Author.Tests.{ltb-true, ltb-false, leb-true, eqb-true, lt-ltb, le-ltb, le-leb, lt-leb, eq-eqb}
use Rattle.slices.specs.Lists.{bit, Mem}
use Rattle.slices.proofs.Tests.{and_l, and_r, both, same_test}
use Rattle.morton.specs.Keys.{under}
use Rattle.tree.specs.Nodes.{node_number, own_of, child_of, sourced}
use Rattle.tree.specs.Order.{end_of}
use Rattle.tree.proofs.Laws.{under-range}
use Rattle.tree.proofs.Leaves.{place_is}
use Rattle.tree.proofs.Stored.{own_at, distinct, sourced-by}
use Rattle.tree.proofs.Sourced.{under-self, sourced-facts}
use Rattle.links.specs.Links.{next_of, inner, after_of, LinkedTree}
use Rattle.links.proofs.Links.{Next, next-is, hop-far}
use Rattle.links.proofs.Walk.{inner-inside, sourced-at}
use Rattle.links.proofs.Children.{tree-formed, tree-linked}
use Rattle.sourced.specs.Room.{Puts}
use Rattle.sourced.specs.Room.{PutsThose}
use Rattle.sourced.proofs.Those.{those-none, those-past, those-join, those-same, those-one}
use Rattle.descent.specs.Steps.{Parent, Siblings}
use Rattle.descent.specs.Owners.{owns, owns_under, owns_within}
use Rattle.descent.proofs.Walk.{parent-owns, leaf-end, siblings-most}

-- a number stands between two others: as a test, and as facts
inside : (a b j : ℕ) (s : Bool) → ((leb a j && ltb j b) && s) ≡ true → (a ≤ j) × (j < b) × (s ≡ true)
inside a b j s h =
    let l = and_l (leb a j && ltb j b) s h in
    (leb-true a j (and_l _ _ l), ltb-true j b (and_r (leb a j) _ l), and_r (leb a j && ltb j b) s h)

insides : (a b j : ℕ) (s : Bool) → a ≤ j → j < b → s ≡ true → ((leb a j && ltb j b) && s) ≡ true
insides a b j s g h e = both (both (le-leb a j g) (lt-ltb j b h)) e

-- two runs of numbers, one after the other
joined : (a b c j : ℕ) (s : Bool) → a ≤ b → b ≤ c → bit ((leb a j && ltb j c) && s) ≡ bit ((leb a j && ltb j b) && s) + bit ((leb b j && ltb j c) && s)
joined a b c j s p q = go (dec_lt j a) (dec_lt j b) (dec_lt j c)
  where
    zero-too : (s : Bool) → bit s ≡ 0 + bit s
    zero-too s = omega arith

    too-zero : (s : Bool) → bit s ≡ bit s + 0
    too-zero s = omega arith

    go : Dec (j < a) → Dec (j < b) → Dec (j < c) → bit ((leb a j && ltb j c) && s) ≡ bit ((leb a j && ltb j b) && s) + bit ((leb b j && ltb j c) && s)
    go (yes h) _ _ = rw (lt-leb a j h, lt-leb b j (omega arith))
    go (no h) (yes g) _ = rw (le-leb a j (omega arith), lt-leb b j g, lt-ltb j c (omega arith), lt-ltb j b g) (too-zero s)
    go (no h) (no g) (yes f) = rw (le-leb a j (omega arith), le-leb b j (omega arith), lt-ltb j c f, le-ltb j b (omega arith)) (zero-too s)
    go (no h) (no g) (no f) = rw (le-leb a j (omega arith), le-leb b j (omega arith), le-ltb j c (omega arith), le-ltb j b (omega arith))

module _ (d : ℕ) (keys own total links : List ℕ) (t : LinkedTree d keys own total links) where
  own_count : (j : ℕ) → j < length keys → own_of keys own (get_or keys j 0) ≡ get_or own j 0
  own_count = own_at keys own (distinct d keys (tree-formed t).rows.tree.ascending) (tree-formed t).owns

  -- the tests, by numbers
  within-at : (a b j : ℕ) → j < length keys → owns_within keys own a b (get_or keys j 0) ≡ ((leb a j && ltb j b) && ltb 0 (get_or own j 0))
  within-at a b j l =
      let n = place_is keys (distinct d keys (tree-formed t).rows.tree.ascending) j l in
      ap₂ (λ m o. (leb a m && ltb m b) && ltb 0 o) n (own_count j l)

  under_at : (i j : ℕ) → i < length keys → j < length keys → owns_under d keys own i (get_or keys j 0) ≡ ((leb i j && ltb j (end_of keys i)) && ltb 0 (get_or own j 0))
  under_at i j li lj = ap₂ (λ u o. u && ltb 0 o) (under-range d keys (tree-formed t).rows.tree i j li lj) (own_count j lj)

  -- an owner is sourced
  own-total : (j : ℕ) → j < length keys → ltb 0 (get_or own j 0) ≡ true → 0 < get_or total j 0
  own-total j l h =
      let o : 0 < own_of keys own (get_or keys j 0) = omega (arith, own_count j l, ltb-true 0 (get_or own j 0) h) in
      ltb-true 0 (get_or total j 0)
      (sym (sourced-at d keys own t.tree.begin total (tree-formed t) j l)
      ∙ sourced-by d keys own (get_or keys j 0) (get_or keys j 0) (j, l, refl) o (under-self d (get_or keys j 0)))

  -- and so it stands before the end, if it stands before the next sourced node
  own-before : (i j : ℕ) → i < length keys → j < length keys → ltb 0 (get_or own j 0) ≡ true → j < next_of keys total i → j < end_of keys i
  own-before i j li lj o h = go (dec_lt j (end_of keys i)) (next-is keys total (tree-formed t).totals i li)
    where
      go : Dec (j < end_of keys i) → Next keys total i (next_of keys total i) → j < end_of keys i
      go (yes s) x = s
      go (no s) x = absurd (omega (arith, own-total j lj o, x.none j (omega arith) h))

  -- a sourced node with no children owns its sources
  pub leaf-owns : (i : ℕ) → i < length keys → inner keys i ≡ false → sourced d keys own (get_or keys i 0) ≡ true → owns keys own (get_or keys i 0) ≡ true
  leaf-owns i l p s =
      let (x, (j, lj, e), u, o) = sourced-facts d keys own (get_or keys i 0) s in
      let v : (leb i j && ltb j (end_of keys i)) ≡ true = sym (under-range d keys (tree-formed t).rows.tree i j l lj) ∙ subst (λ y. under d (get_or keys i 0) y ≡ true) (sym e) u in
      let z : j ≡ i = omega (arith, leb-true i j (and_l _ _ v), ltb-true j (end_of keys i) (and_r (leb i j) _ v), leaf-end keys i l p) in
      lt-ltb 0 (own_of keys own (get_or keys i 0)) (subst (λ y. 0 < own_of keys own y) (sym e ∙ ap (λ n. get_or keys n 0) z) o)

  -- the owners under a node, by their numbers
  pub under-within : (i : ℕ) → i < length keys → (y : ℕ) → Mem y keys → owns_under d keys own i y ≡ owns_within keys own i (next_of keys total i) y
  under-within i li y (j, lj, e) =
      subst (λ x. owns_under d keys own i x ≡ owns_within keys own i (next_of keys total i) x) e
      (under_at i j li lj
      ∙ same_test ((leb i j && ltb j (end_of keys i)) && ltb 0 (get_or own j 0)) ((leb i j && ltb j (next_of keys total i)) && ltb 0 (get_or own j 0))
      (λ h. let (a, b, o) = inside i (end_of keys i) j (ltb 0 (get_or own j 0)) h in insides i (next_of keys total i) j (ltb 0 (get_or own j 0)) a (omega (arith, b, (next-is keys total (tree-formed t).totals i li).from)) o)
      (λ h. let (a, b, o) = inside i (next_of keys total i) j (ltb 0 (get_or own j 0)) h in insides i (end_of keys i) j (ltb 0 (get_or own j 0)) a (own-before i j li lj o b) o)
      ∙ sym (within-at i (next_of keys total i) j lj))

  -- between a node with children and the first sourced node after it there is no owner
  own-after : (i j : ℕ) → i < length keys → inner keys i ≡ true → j < length keys → ltb 0 (get_or own j 0) ≡ true → i ≤ j → after_of keys total i ≤ j
  unfolding after_of
  own-after i j li p lj o h = go (ltb 0 (get_or total (suc i) 0)) refl (inner-inside keys i p)
    where
      later : i < j
      later = at (dec_lt i j)
        where
          at : Dec (i < j) → i < j
          at (yes s) = s
          at (no s) = let z : j ≡ i = omega arith in absurd (omega (arith, ltb-true 0 (get_or own j 0) o, ap (λ n. get_or own n 0) z, parent-owns d keys own total links t i li p))

      go : (b : Bool) → ltb 0 (get_or total (suc i) 0) ≡ b → suc i < length keys → after_of keys total i ≤ j
      go true e s = subst (λ b. cond b (suc i) (next_of keys total (suc i)) ≤ j) (sym e) later
      go false e s = subst (λ b. cond b (suc i) (next_of keys total (suc i)) ≤ j) (sym e) (at (dec_lt j (next_of keys total (suc i))))
        where
          empty : get_or total (suc i) 0 ≤ 0
          empty = ltb-false 0 (get_or total (suc i) 0) e

          -- what holds an owner is sourced
          same : Dec (suc i < j) → j < end_of keys (suc i) → ⊥
          same (yes g) b = omega (arith, empty, (tree-linked t).up (suc i) j g b lj (own-total j lj o))
          same (no g) b = let z : j ≡ suc i = omega (arith, later) in omega (arith, empty, own-total j lj o, ap (λ n. get_or total n 0) z)

          at : Dec (j < next_of keys total (suc i)) → next_of keys total (suc i) ≤ j
          at (no n) = omega arith
          at (yes n) = absurd (same (dec_lt (suc i) j) (own-before (suc i) j s lj o n))

  pub under-children : (i : ℕ) → i < length keys → inner keys i ≡ true → (y : ℕ) → Mem y keys → owns_within keys own (after_of keys total i) (next_of keys total i) y ≡ owns_under d keys own i y
  unfolding after_of
  under-children i li p y (j, lj, e) =
      sym (under-within i li y (j, lj, e)
      ∙ subst (λ x. owns_within keys own i (next_of keys total i) x ≡ owns_within keys own (after_of keys total i) (next_of keys total i) x) e
      (within-at i (next_of keys total i) j lj
      ∙ same_test ((leb i j && ltb j (next_of keys total i)) && ltb 0 (get_or own j 0)) ((leb (after_of keys total i) j && ltb j (next_of keys total i)) && ltb 0 (get_or own j 0))
      (λ h. let (a, b, o) = inside i (next_of keys total i) j (ltb 0 (get_or own j 0)) h in insides (after_of keys total i) (next_of keys total i) j (ltb 0 (get_or own j 0)) (own-after i j li p lj o a) b o)
      (λ h. let (a, b, o) = inside (after_of keys total i) (next_of keys total i) j (ltb 0 (get_or own j 0)) h in insides i (next_of keys total i) j (ltb 0 (get_or own j 0)) (before (inner-inside keys i p) a) b o)
      ∙ sym (within-at (after_of keys total i) (next_of keys total i) j lj)))
    where
      before : suc i < length keys → after_of keys total i ≤ j → i ≤ j
      before s = at (ltb 0 (get_or total (suc i) 0))
        where
          at : (b : Bool) → cond b (suc i) (next_of keys total (suc i)) ≤ j → i ≤ j
          at true h = omega arith
          at false h = omega (arith, hop-far keys total (tree-linked t) (suc i) s)

  -- the cell step: what the children step put
  pub cell-done : (i left from to : ℕ) → Parent keys i left → from ≡ after_of keys total i → to ≡ next_of keys total i → (out out' : List ℕ) (n n' : ℕ)
      → PutsThose keys (owns_within keys own from to) out n out' n' → PutsThose keys (owns_under d keys own i) out n out' n'
  cell-done i left from to p ef et out out' n n' a =
      those-same keys (owns_within keys own (after_of keys total i) (next_of keys total i)) (owns_under d keys own i) out out' n n' (under-children i p.inside p.children)
      (subst (λ f. PutsThose keys (owns_within keys own f (next_of keys total i)) out n out' n') ef (subst (λ z. PutsThose keys (owns_within keys own from z) out n out' n') et a))

  -- the children step: none yet, then those of one child after the other
  pub none-put : (from : ℕ) (out : List ℕ) (n : ℕ) → PutsThose keys (owns_within keys own from from) out n out n
  none-put from out n = those-none keys (owns_within keys own from from) out n none
    where
      none : (y : ℕ) → Mem y keys → owns_within keys own from from y ≡ true → ⊥
      none y m h = let (a, b, o) = inside from from (node_number keys y) (owns keys own y) h in omega (arith, a, b)

  -- a run of numbers whose first is the only owner in it
  one-owner : (c e : ℕ) → c < length keys → c < e → ((j : ℕ) → j < length keys → c ≤ j → j < e → ltb 0 (get_or own j 0) ≡ true → c ≡ j) → owns keys own (get_or keys c 0) ≡ true
      → (out out' : List ℕ) (m m' : ℕ) → Puts out m (get_or keys c 0 ∷ []) out' m' → PutsThose keys (owns_within keys own c e) out m out' m'
  one-owner c e l h only o out out' m m' put =
      those-same keys (λ y. eqb (get_or keys c 0) y && owns keys own y) (owns_within keys own c e) out out' m m' same (those-one keys (owns keys own) (get_or keys c 0) apart (c, l, refl) o out out' m m' put)
    where
      apart : Rattle.slices.specs.Lists.Distinct keys
      apart = distinct d keys (tree-formed t).rows.tree.ascending

      same : (y : ℕ) → Mem y keys → (eqb (get_or keys c 0) y && owns keys own y) ≡ owns_within keys own c e y
      same y (j, lj, q) = subst (λ x. (eqb (get_or keys c 0) x && owns keys own x) ≡ owns_within keys own c e x) q
          (ap (λ o. eqb (get_or keys c 0) (get_or keys j 0) && ltb 0 o) (own_count j lj)
          ∙ same_test (eqb (get_or keys c 0) (get_or keys j 0) && ltb 0 (get_or own j 0)) ((leb c j && ltb j e) && ltb 0 (get_or own j 0))
          (λ g.
          let z = apart c j l lj (eqb-true (get_or keys c 0) (get_or keys j 0) (and_l _ _ g)) in
          insides c e j (ltb 0 (get_or own j 0)) (omega arith) (omega arith) (and_r (eqb (get_or keys c 0) (get_or keys j 0)) _ g))
          (λ g.
          let (x, b, w) = inside c e j (ltb 0 (get_or own j 0)) g in
          both (eq-eqb (get_or keys c 0) (get_or keys j 0) (ap (λ n. get_or keys n 0) (only j lj x b w))) w)
          ∙ sym (within-at c e j lj))

  -- one node after the other: its key is counted if it owns sources
  module _ (from c : ℕ) (f : from ≤ c) (l : c < length keys) (out₀ out out' : List ℕ) (n m : ℕ) (a : PutsThose keys (owns_within keys own from c) out₀ n out m) where
    next : (m' : ℕ) → PutsThose keys (owns_within keys own c (c + 1)) out m out' m' → PutsThose keys (owns_within keys own from (c + 1)) out₀ n out' m'
    next m' b = those-join keys (owns_within keys own from c) (owns_within keys own c (c + 1)) (owns_within keys own from (c + 1)) out₀ out out' n m m'
        (λ y my. joined from c (c + 1) (node_number keys y) (owns keys own y) f (omega arith)) a b

    pub stored-owner : 0 < get_or own c 0 → Puts out m (get_or keys c 0 ∷ []) out' (m + 1) → PutsThose keys (owns_within keys own from (c + 1)) out₀ n out' (m + 1)
    stored-owner o put = next (m + 1) (one-owner c (c + 1) l (omega arith) (λ j lj g b w. omega arith) (ap (ltb 0) (own_count c l) ∙ lt-ltb 0 (get_or own c 0) o) out out' m (m + 1) put)

    pub stored_past : get_or own c 0 ≤ 0 → Puts out m [] out' m → PutsThose keys (owns_within keys own from (c + 1)) out₀ n out' m
    stored_past o put = next m (those-past keys (owns_within keys own c (c + 1)) out out' m none put)
      where
        none : (y : ℕ) → Mem y keys → owns_within keys own c (c + 1) y ≡ true → ⊥
        none y (j, lj, q) h =
            let (x, b, w) = inside c (c + 1) j (ltb 0 (get_or own j 0)) (sym (within-at c (c + 1) j lj) ∙ subst (λ z. owns_within keys own c (c + 1) z ≡ true) (sym q) h) in
            let z : j ≡ c = omega (arith, x, b) in
            omega (arith, ltb-true 0 (get_or own j 0) w, ap (λ i. get_or own i 0) z, o)

  -- all of a run
  pub run-put : (from c to : ℕ) → c ≤ to → to ≤ c → (out₀ out : List ℕ) (n m : ℕ) → PutsThose keys (owns_within keys own from c) out₀ n out m → PutsThose keys (owns_within keys own from to) out₀ n out m
  run-put from c to g h out₀ out n m a = let z : c ≡ to = omega arith in subst (λ x. PutsThose keys (owns_within keys own from x) out₀ n out m) z a

  -- and all under a node with children
  pub cell-stored : (i left to : ℕ) → Parent keys i left → to ≡ next_of keys total i → (out out' : List ℕ) (n n' : ℕ)
      → PutsThose keys (owns_within keys own i to) out n out' n' → PutsThose keys (owns_under d keys own i) out n out' n'
  cell-stored i left to p e out out' n n' a =
      those-same keys (owns_within keys own i (next_of keys total i)) (owns_under d keys own i) out out' n n' (λ y m. sym (under-within i p.inside y m))
      (subst (λ z. PutsThose keys (owns_within keys own i z) out n out' n') e a)

  pub goes_on : (c to left r : ℕ) → Siblings d keys own total c to left → c < to → r ≡ next_of keys total c → c < r
  goes_on c to left r s h e = omega (arith, e, hop-far keys total (tree-linked t) c (omega (arith, siblings-most d keys own total links t c to left s)))

  module _ (from c to left r : ℕ) (f : from ≤ c) (s : Siblings d keys own total c to left) (h : c < to) (e : r ≡ next_of keys total c) (out₀ out out' : List ℕ) (n m m' : ℕ) (a : PutsThose keys (owns_within keys own from c) out₀ n out m) where
    here : c < length keys
    here = omega (arith, siblings-most d keys own total links t c to left s)

    more : PutsThose keys (owns_within keys own c (next_of keys total c)) out m out' m' → PutsThose keys (owns_within keys own from r) out₀ n out' m'
    more b = subst (λ z. PutsThose keys (owns_within keys own from z) out₀ n out' m') (sym e)
        (those-join keys (owns_within keys own from c) (owns_within keys own c (next_of keys total c)) (owns_within keys own from (next_of keys total c)) out₀ out out' n m m'
        (λ y my. joined from c (next_of keys total c) (node_number keys y) (owns keys own y) f (omega (arith, e, goes_on c to left r s h e))) a b)

    pub more-under : PutsThose keys (owns_under d keys own c) out m out' m' → PutsThose keys (owns_within keys own from r) out₀ n out' m'
    more-under b = more (those-same keys (owns_under d keys own c) (owns_within keys own c (next_of keys total c)) out out' m m' (under-within c here) b)

    pub more-leaf : inner keys c ≡ false → Puts out m (get_or keys c 0 ∷ []) out' m' → PutsThose keys (owns_within keys own from r) out₀ n out' m'
    more-leaf p put =
        more
        (one-owner c (next_of keys total c) here (omega (arith, e, goes_on c to left r s h e)) (λ j lj g b o. omega (arith, own-before c j here lj o b, leaf-end keys c here p))
        (leaf-owns c here p (and_r (child_of d (get_or keys s.cell 0) (get_or keys c 0)) _ (s.child h))) out out' m m' put)

  pub all-put : (from c to left : ℕ) → Siblings d keys own total c to left → to ≤ c → (out₀ out : List ℕ) (n m : ℕ) → PutsThose keys (owns_within keys own from c) out₀ n out m → PutsThose keys (owns_within keys own from to) out₀ n out m
  all-put from c to left s h = run-put from c to s.most h
