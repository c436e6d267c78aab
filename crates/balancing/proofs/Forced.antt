-- A cell is forced by what is stored under its neighbours: a run of nodes for each.
use mathlib.Core.Path.{◌≡◌, refl, sym, ap, ◌∙◌, subst}
use mathlib.Core.Bool.{Bool, true, false, ◌&&◌, ◌||◌}
use mathlib.Core.List.{List, [], ◌∷◌}
use Prim.Native.Nat.{ℕ, zero, suc, ◌+◌, ◌-◌, ◌≤◌, ◌<◌}
use native.Mathlib.Omega.{arith}
use native.Mathlib.Nat.{not-suc-le-zero}
use lib.Dec.{leb, ltb}
use lib.ListN.{length, get_or, drop}
use lib.Seq.{drop-cons, drop-nil}
use borrow.Author.Tests.{leb-true, ltb-true, le-leb, lt-ltb}
use Rattle.slices.specs.Lists.{any, range, Mem, filled}
use Rattle.slices.proofs.Tests.{and_l, and_r, both, same_test}
use Rattle.slices.proofs.Counts.{any-intro, any-elim}
use Rattle.slices.proofs.Lists.{length-range, get_or-range, get_or-filled}
use Rattle.morton.specs.Keys.{ValidKey, under}
use Rattle.morton.specs.declared.KeyList.{KeyList}
use Rattle.morton.specs.Answers.{key_list}
use Rattle.morton.proofs.Checks.{facts-valid}
use Rattle.neighbours.specs.Directions.{neighbours}
use Rattle.neighbours.specs.Answer.{neighbours_answer}
use Rattle.refine.proofs.Peers.{neighbours-few}
use Rattle.tree.specs.Nodes.{stored}
use Rattle.tree.specs.Order.{end_of}
use Rattle.tree.specs.Finding.{TreeKeys, FoundNode}
use Rattle.leaf_points.proofs.OneKey.{found_at}
use Rattle.tree.proofs.Laws.{under-range}
use Rattle.tree.proofs.Ends.{ends}
use Rattle.tree.proofs.Leaves as T
use Rattle.balance.specs.Splitting.{inside, split, forced_by, must_split}
use Rattle.balance.proofs.Around as A
use Rattle.balance.proofs.Balance.{tree_of}
use Rattle.balancing.specs.Walk.{split_among}
use Rattle.balancing.proofs.Splits.{split-none, split-found, not-stored}
use Rattle.std.specs.Prelude.{None, Option, Some}
use Rattle.refusal.specs.Outcome.{accepted}

any-yes : (p : ℕ → Bool) (x : ℕ) (xs : List ℕ) → p x ≡ true → any p (x ∷ xs) ≡ true
unfolding any
any-yes p x xs h = rw h

any-skip : (p : ℕ → Bool) (x : ℕ) (xs : List ℕ) → p x ≡ false → any p (x ∷ xs) ≡ any p xs
unfolding any
any-skip p x xs h = rw h

any-nil : (p : ℕ → Bool) → any p [] ≡ false
unfolding any
any-nil p = refl

range_cons : (a n m : ℕ) → n ≡ suc m → range a n ≡ a ∷ range (a + 1) m
unfolding range
range_cons a n m e = let q : a + 1 ≡ suc a = omega arith in rw (e, q)

-- ---- nodes looked at one after the other

module _ (d : ℕ) (keys : List ℕ) (r : ℕ) where
  abbrev hit : ℕ → Bool
  hit j = split d keys (get_or keys j 0) && inside d r (get_or keys j 0)

  pub among-end : (i e : ℕ) → e ≤ i → split_among d keys r i (e - i) ≡ false
  unfolding split_among range
  among-end i e h = let z : e - i ≡ 0 = omega arith in rw z (any-nil hit)

  pub among-hit : (i e : ℕ) → i < e → split d keys (get_or keys i 0) ≡ true → inside d r (get_or keys i 0) ≡ true → split_among d keys r i (e - i) ≡ true
  unfolding split_among
  among-hit i e h s n = rw (range_cons i (e - i) (e - (i + 1)) (omega arith)) (any-yes hit i (range (i + 1) (e - (i + 1))) (both s n))

  passed : (i e : ℕ) → i < e → hit i ≡ false → split_among d keys r (i + 1) (e - (i + 1)) ≡ split_among d keys r i (e - i)
  unfolding split_among
  passed i e h n = sym (ap (any hit) (range_cons i (e - i) (e - (i + 1)) (omega arith)) ∙ any-skip hit i (range (i + 1) (e - (i + 1))) n)

  pub among-outside : (i e : ℕ) → i < e → inside d r (get_or keys i 0) ≡ false → split_among d keys r (i + 1) (e - (i + 1)) ≡ split_among d keys r i (e - i)
  among-outside i e h n = passed i e h (go (split d keys (get_or keys i 0)))
    where
      go : (b : Bool) → (b && inside d r (get_or keys i 0)) ≡ false
      go true = n
      go false = refl

  pub among-whole : (i e : ℕ) → i < e → split d keys (get_or keys i 0) ≡ false → split_among d keys r (i + 1) (e - (i + 1)) ≡ split_among d keys r i (e - i)
  among-whole i e h n = passed i e h (rw n)

-- ---- a stored cell's nodes are a run

module _ (d : ℕ) (keys : List ℕ) (k : TreeKeys d keys) (r : ℕ) where
  pub forced-run : (i : ℕ) → i < length keys → split_among d keys r i (end_of keys i - i) ≡ forced_by d keys r (get_or keys i 0)
  unfolding split_among
  forced-run i l = same_test (any (hit d keys r) (range i (end_of keys i - i))) (forced_by d keys r (get_or keys i 0)) to from
    where
      n : ℕ
      n = end_of keys i - i

      to : any (hit d keys r) (range i n) ≡ true → forced_by d keys r (get_or keys i 0) ≡ true
      to h = found (any-elim (hit d keys r) (range i n) h)
        where
          found : (j : ℕ) × Mem j (range i n) × (hit d keys r j ≡ true) → forced_by d keys r (get_or keys i 0) ≡ true
          found (j, (m, lm, e), q) =
              let f : m < n = omega (arith, length-range i n) in
              let g = get_or-range i n m f in
              let lj : j < length keys = omega (arith, (ends keys i l).within) in
              any-intro (λ p. under d (get_or keys i 0) p && (split d keys p && inside d r p)) keys (get_or keys j 0) (j, lj, refl)
              (both (under-range d keys (T.tree_of d keys k) i j l lj ∙ both (le-leb i j (omega arith)) (lt-ltb j (end_of keys i) (omega arith))) q)

      from : forced_by d keys r (get_or keys i 0) ≡ true → any (hit d keys r) (range i n) ≡ true
      from h = found (any-elim (λ p. under d (get_or keys i 0) p && (split d keys p && inside d r p)) keys h)
        where
          found : (p : ℕ) × Mem p keys × ((under d (get_or keys i 0) p && (split d keys p && inside d r p)) ≡ true) → any (hit d keys r) (range i n) ≡ true
          found (p, (j, lj, e), q) =
              let u : under d (get_or keys i 0) (get_or keys j 0) ≡ true = rw e (and_l _ _ q) in
              let w = sym (under-range d keys (T.tree_of d keys k) i j l lj) ∙ u in
              let a = leb-true i j (and_l _ _ w) in
              let b = ltb-true j (end_of keys i) (and_r (leb i j) _ w) in
              let g = get_or-range i n (j - i) (omega arith) in
              any-intro (hit d keys r) (range i n) j (j - i, omega (arith, length-range i n), omega (arith, g))
              (rw e (and_r (under d (get_or keys i 0) p) _ q))

  pub forced-not : (c : ℕ) → stored keys c ≡ false → false ≡ forced_by d keys r c
  forced-not c n = sym (A.forced-none d keys (tree_of d keys k) r c (split-none d keys k c n))

  module _ (c : ℕ) (f : Option ℕ) (g : FoundNode d keys c f) where
    pub run-found : (node : ℕ) → f ≡ Some node → (e : ℕ) → e ≡ end_of keys node → (node ≤ e) × (e ≤ length keys)
    run-found node q e h = let l = (found_at d keys c f g node q).0 in (omega (arith, (ends keys node l).after), omega (arith, (ends keys node l).within))

    pub forced-found : (node : ℕ) → f ≡ Some node → (e : ℕ) → e ≡ end_of keys node → (b : Bool) → b ≡ split_among d keys r node (e - node) → b ≡ forced_by d keys r c
    forced-found node q e h b s =
        let (l, w) = found_at d keys c f g node q in
        s ∙ ap (λ (x : ℕ). split_among d keys r node (x - node)) h ∙ forced-run node l ∙ ap (forced_by d keys r) w

    -- nothing is split under a cell that is not
    pub forced-leaf : (node : ℕ) → f ≡ Some node → (b : Bool) → b ≡ split d keys (get_or keys node 0) → b ≡ false → false ≡ forced_by d keys r c
    forced-leaf node q b s h = sym (A.forced-none d keys (tree_of d keys k) r c (sym (split-found d keys k c f g node q b s) ∙ h))

    pub forced-nowhere : f ≡ None → false ≡ forced_by d keys r c
    forced-nowhere q = forced-not c (not-stored d keys k c f g q)

-- ---- all neighbours

-- the first i neighbours do not force r
pub record Looked (d : ℕ) (keys : List ℕ) (r : ℕ) (others : List ℕ) (len i : ℕ) : Type 0 where
  pub keys_are : others ≡ filled 26 (neighbours d r)
  pub len_is : len ≡ length (neighbours d r)
  pub most : len ≤ 26
  pub rest : any (forced_by d keys r) (drop i (neighbours d r)) ≡ must_split d keys r

module _ (d : ℕ) (keys : List ℕ) (k : TreeKeys d keys) (r : ℕ) (v : ValidKey d r) where
  pub must-split : (b : Bool) → b ≡ split d keys r → b ≡ true → true ≡ must_split d keys r
  must-split b e h = sym (A.must-around d keys (tree_of d keys k) r v ∙ rw (sym e ∙ h))

  pub looked-none : (list : KeyList) → list ≡ key_list (neighbours d r) → (b : Bool) → b ≡ split d keys r → b ≡ false → Looked d keys r list.keys list.len 0
  looked-none list e b s h = record {
    keys_are = ap (λ (x : KeyList). x.keys) e;
    len_is = ap (λ (x : KeyList). x.len) e;
    most = omega (arith, ap (λ (x : KeyList). x.len) e, neighbours-few d r);
    rest = sym (A.must-around d keys (tree_of d keys k) r v ∙ rw (sym s ∙ h));
  }

  module _ (others : List ℕ) (len i : ℕ) (p : Looked d keys r others len i) (h : i < len) where
    here : drop i (neighbours d r) ≡ get_or others i 0 ∷ drop (i + 1) (neighbours d r)
    here =
        let q : i + 1 ≡ suc i = omega arith in
        let l : i < length (neighbours d r) = omega (arith, p.len_is) in
        let g : get_or others i 0 ≡ get_or (neighbours d r) i 0 = ap (λ xs. get_or xs i 0) p.keys_are ∙ get_or-filled 26 (neighbours d r) i l in
        rw (q, g) (drop-cons (neighbours d r) i 0 l)

    module _ (b : Bool) (e : b ≡ forced_by d keys r (get_or others i 0)) where
      pub looked-hit : b ≡ true → true ≡ must_split d keys r
      looked-hit t = sym (sym p.rest ∙ ap (any (forced_by d keys r)) here ∙ any-yes (forced_by d keys r) (get_or others i 0) (drop (i + 1) (neighbours d r)) (sym e ∙ t))

      pub looked-more : b ≡ false → Looked d keys r others len (i + 1)
      looked-more t = record {
        keys_are = p.keys_are;
        len_is = p.len_is;
        most = p.most;
        rest = sym (any-skip (forced_by d keys r) (get_or others i 0) (drop (i + 1) (neighbours d r)) (sym e ∙ t)) ∙ sym (ap (any (forced_by d keys r)) here) ∙ p.rest;
      }

  pub looked-all : (others : List ℕ) (len i : ℕ) → Looked d keys r others len i → len ≤ i → false ≡ must_split d keys r
  looked-all others len i p h = sym (any-nil (forced_by d keys r)) ∙ sym (ap (any (forced_by d keys r)) (past i (neighbours d r) (omega (arith, p.len_is)))) ∙ p.rest
    where
      past : (i : ℕ) (xs : List ℕ) → length xs ≤ i → drop i xs ≡ []
      past i [] l = drop-nil i
      past zero (x ∷ xs) l = absurd (not-suc-le-zero l)
      past (suc i) (x ∷ xs) l = past i xs (omega arith)
