-- Where a node's walk goes on: the least sourced number from its end on, and how hops find it.
use mathlib.Core.Path.{◌≡◌, refl, sym, ap, ◌∙◌, subst}
use mathlib.Core.Bool.{Bool, true, false, ◌&&◌, cond}
use mathlib.Core.List.{List, [], ◌∷◌}
use mathlib.Core.Logic.{◌⊎◌, inl, inr}
use Prim.Native.Nat.{ℕ, zero, suc, ◌+◌, ◌-◌, ◌≤◌, ◌<◌}
use native.Mathlib.Omega.{arith}
use native.Mathlib.Decide.{dec_lt}
use lib.Dec.{leb, ltb}
use lib.ListN.{length, get_or, drop, set, length-drop, length-set}
use lib.Seq.{get_or-drop, get_or-set_same, get_or-set_other}
use borrow.Author.Tests.{ltb-true, ltb-false, leb-true, leb-false, le-leb, lt-leb, lt-ltb}
use Rattle.slices.proofs.Tests.{and_l, and_r, both, clash}
use Rattle.morton.specs.Keys.{level_of}
use Rattle.tree.specs.Order.{end_of}
use Rattle.tree.proofs.Ends.{Ends, ends}
use Rattle.links.specs.Links.{zeros, next_of, inner, Linked, From, Links}

record Zeros (ns : List ℕ) (r : ℕ) : Type 0 where
  most : r ≤ length ns
  all : (m : ℕ) → m < r → get_or ns m 0 ≡ 0
  stop : r < length ns → 0 < get_or ns r 0

run : (ns : List ℕ) → Zeros ns (zeros ns)
unfolding zeros
run [] = record { most = omega arith; all = λ m h. absurd (omega arith); stop = λ h. absurd (omega arith) }
run (n ∷ ns) = go (ltb 0 n) refl (run ns)
  where
    at : (r : ℕ) → Zeros ns r → n ≡ 0 → (m : ℕ) → m < suc r → get_or (n ∷ ns) m 0 ≡ 0
    at r z e zero h = e
    at r z e (suc m) h = z.all m (omega arith)

    go : (b : Bool) → ltb 0 n ≡ b → Zeros ns (zeros ns) → Zeros (n ∷ ns) (cond b 0 (suc (zeros ns)))
    go true e z = record { most = omega arith; all = λ m h. absurd (omega arith); stop = λ h. ltb-true 0 n e }
    go false e z = record { most = omega (arith, z.most); all = at (zeros ns) z (omega (arith, ltb-false 0 n e)); stop = λ h. z.stop (omega arith) }

-- n is the least sourced number from the end on, or the number of nodes
pub record Next (keys total : List ℕ) (i n : ℕ) : Type 0 where
  pub from : end_of keys i ≤ n
  pub within : n ≤ length keys
  pub none : (m : ℕ) → end_of keys i ≤ m → m < n → get_or total m 0 ≡ 0
  pub sourced : n < length keys → 0 < get_or total n 0

pub next-is : (keys total : List ℕ) → length total ≡ length keys → (i : ℕ) → i < length keys → Next keys total i (next_of keys total i)
unfolding next_of
next-is keys total e i l = go (zeros (drop (end_of keys i) total)) (run (drop (end_of keys i) total)) (ends keys i l)
  where
    go : (r : ℕ) → Zeros (drop (end_of keys i) total) r → Ends keys i (end_of keys i) → Next keys total i (end_of keys i + r)
    go r z en = record {
      from = omega arith;
      within = omega (arith, z.most, length-drop (end_of keys i) total, en.within);
      none = λ m h g.
          let q : end_of keys i + (m - end_of keys i) ≡ m = omega arith in
          sym (get_or-drop (end_of keys i) total (m - end_of keys i) 0 ∙ ap (λ x. get_or total x 0) q) ∙ z.all (m - end_of keys i) (omega arith);
      sourced = λ h. subst (λ x. 0 < x) (get_or-drop (end_of keys i) total r 0) (z.stop (omega (arith, length-drop (end_of keys i) total)));
    }

-- nothing lies under a leaf
pub leaf-end : (keys : List ℕ) (i : ℕ) → i < length keys → inner keys i ≡ false → end_of keys i ≡ suc i
leaf-end keys i l leaf = go (dec_lt (suc i) (end_of keys i)) (ends keys i l)
  where
    go : Dec (suc i < end_of keys i) → Ends keys i (end_of keys i) → end_of keys i ≡ suc i
    go (no n) en = omega (arith, en.after)
    go (yes y) en =
        let deep = en.deeper (suc i) (omega arith) y in
        absurd (clash (both (lt-ltb (suc i) (length keys) (omega (arith, en.within))) (lt-ltb (level_of (get_or keys i 0)) (level_of (get_or keys (suc i) 0)) deep)) leaf)

-- a walk from node i has come to j
pub record Hop (keys total : List ℕ) (i j : ℕ) : Type 0 where
  pub after : i < j
  pub most : j ≤ next_of keys total i

module _ (keys total : List ℕ) (k : Linked keys total) where
  -- of the rows before n down to e, the last that is coarser than n holds it
  holder : (e m n : ℕ) → e ≤ m → m < n → n < length keys → level_of (get_or keys e 0) < level_of (get_or keys n 0)
      → ((x : ℕ) → m < x → x < n → level_of (get_or keys n 0) ≤ level_of (get_or keys x 0)) → (h : ℕ) × (e ≤ h) × (h < n) × (n < end_of keys h)
  holder e zero n a b l c deep = (0, a, b, past 0 b (λ x p q. omega (arith, deep x p q)) (subst (λ x. level_of (get_or keys x 0) < level_of (get_or keys n 0)) (none a) c))
    where
      none : e ≤ 0 → e ≡ 0
      none h = omega arith

      past : (h : ℕ) → h < n → ((x : ℕ) → h < x → x < n → level_of (get_or keys n 0) ≤ level_of (get_or keys x 0)) → level_of (get_or keys h 0) < level_of (get_or keys n 0) → n < end_of keys h
      past h p q r = far (dec_lt n (end_of keys h)) (ends keys h (omega arith))
        where
          far : Dec (n < end_of keys h) → Ends keys h (end_of keys h) → n < end_of keys h
          far (yes s) en = s
          far (no s) en = same (dec_lt (end_of keys h) n)
            where
              same : Dec (end_of keys h < n) → n < end_of keys h
              same (yes u) = absurd (omega (arith, en.next (omega arith), q (end_of keys h) en.after u))
              same (no u) = let z : end_of keys h ≡ n = omega arith in absurd (omega (arith, en.next (omega arith), ap (λ x. level_of (get_or keys x 0)) z))
  holder e (suc m) n a b l c deep = go (dec_lt (level_of (get_or keys (suc m) 0)) (level_of (get_or keys n 0))) (λ p q. holder e m n p (omega arith) l c q)
    where
      past : level_of (get_or keys (suc m) 0) < level_of (get_or keys n 0) → n < end_of keys (suc m)
      past r = far (dec_lt n (end_of keys (suc m))) (ends keys (suc m) (omega arith))
        where
          far : Dec (n < end_of keys (suc m)) → Ends keys (suc m) (end_of keys (suc m)) → n < end_of keys (suc m)
          far (yes s) en = s
          far (no s) en = same (dec_lt (end_of keys (suc m)) n)
            where
              same : Dec (end_of keys (suc m) < n) → n < end_of keys (suc m)
              same (yes u) = absurd (omega (arith, en.next (omega arith), deep (end_of keys (suc m)) en.after u))
              same (no u) = let z : end_of keys (suc m) ≡ n = omega arith in absurd (omega (arith, en.next (omega arith), ap (λ x. level_of (get_or keys x 0)) z))

      go : Dec (level_of (get_or keys (suc m) 0) < level_of (get_or keys n 0))
          → (e ≤ m → ((x : ℕ) → m < x → x < n → level_of (get_or keys n 0) ≤ level_of (get_or keys x 0)) → (h : ℕ) × (e ≤ h) × (h < n) × (n < end_of keys h)) → (h : ℕ) × (e ≤ h) × (h < n) × (n < end_of keys h)
      go (yes r) ih = (suc m, a, b, past r)
      go (no r) ih = lower (dec_lt m e)
        where
          deeper : (x : ℕ) → m < x → x < n → level_of (get_or keys n 0) ≤ level_of (get_or keys x 0)
          deeper x p q = at (dec_lt (suc m) x)
            where
              at : Dec (suc m < x) → level_of (get_or keys n 0) ≤ level_of (get_or keys x 0)
              at (yes s) = deep x s q
              at (no s) = let z : x ≡ suc m = omega arith in rw z (omega arith)

          lower : Dec (m < e) → (h : ℕ) × (e ≤ h) × (h < n) × (n < end_of keys h)
          lower (yes s) = let z : e ≡ suc m = omega arith in absurd (r (subst (λ x. level_of (get_or keys x 0) < level_of (get_or keys n 0)) z c))
          lower (no s) = ih (omega arith) deeper

  -- the next sourced node is no deeper
  pub next_level : (i n : ℕ) → i < length keys → Next keys total i n → n < length keys → level_of (get_or keys n 0) ≤ level_of (get_or keys i 0)
  next_level i n li x ln = go (dec_lt (level_of (get_or keys i 0)) (level_of (get_or keys n 0)))
    where
      go : Dec (level_of (get_or keys i 0) < level_of (get_or keys n 0)) → level_of (get_or keys n 0) ≤ level_of (get_or keys i 0)
      go (no h) = omega arith
      go (yes h) = by (dec_lt (end_of keys i) n) (ends keys i li)
        where
          by : Dec (end_of keys i < n) → Ends keys i (end_of keys i) → level_of (get_or keys n 0) ≤ level_of (get_or keys i 0)
          by (no s) en = let z : end_of keys i ≡ n = omega (arith, x.from) in subst (λ y. level_of (get_or keys y 0) ≤ level_of (get_or keys i 0)) z (en.next (omega arith))
          by (yes s) en =
              let c : level_of (get_or keys (end_of keys i) 0) < level_of (get_or keys n 0) = omega (arith, en.next (omega arith)) in
              let (m, a, b, w) = holder (end_of keys i) (n - 1) n (omega arith) (omega arith) ln c (λ y p q. absurd (omega arith)) in
              absurd (omega (arith, k.up m n b w ln (x.sourced ln), x.none m a b))

  module _ (i : ℕ) (li : i < length keys) where
    nx : Next keys total i (next_of keys total i)
    nx = next-is keys total k.totals i li

    pub hop-start : Hop keys total i (i + 1)
    hop-start = record { after = omega arith; most = omega (arith, nx.from, (ends keys i li).after) }

    pub hop-most : (j : ℕ) → Hop keys total i j → j ≤ length keys
    hop-most j h = omega (arith, h.most, nx.within)

    pub hop-here : (j : ℕ) → Hop keys total i j → j < length keys → level_of (get_or keys j 0) ≤ level_of (get_or keys i 0) → (get_or total j 0 ≡ 0 → ⊥) → j ≡ next_of keys total i
    hop-here j h l s o = go (dec_lt j (next_of keys total i)) (dec_lt j (end_of keys i))
      where
        go : Dec (j < next_of keys total i) → Dec (j < end_of keys i) → j ≡ next_of keys total i
        go (no n) _ = omega (arith, h.most)
        go (yes a) (yes b) = absurd (omega (arith, (ends keys i li).deeper j h.after b))
        go (yes a) (no b) = absurd (o (nx.none j (omega arith) a))

    pub hop-end : (j : ℕ) → Hop keys total i j → length keys ≤ j → j ≡ next_of keys total i
    hop-end j h l = omega (arith, h.most, nx.within)

    pub hop-more : (j : ℕ) → Hop keys total i j → j < length keys → (level_of (get_or keys i 0) < level_of (get_or keys j 0)) ⊎ (get_or total j 0 ≡ 0) → (r : ℕ) → r ≡ next_of keys total j → Hop keys total i r
    hop-more j h l c r e =
        let y = next-is keys total k.totals j l in
        subst (Hop keys total i) (sym e) (record { after = omega (arith, h.after, (ends keys j l).after, y.from); most = go (dec_lt (next_of keys total i) (next_of keys total j)) })
      where
        go : Dec (next_of keys total i < next_of keys total j) → next_of keys total j ≤ next_of keys total i
        go (no s) = omega arith
        go (yes s) = absurd (bad c)
          where
            y : Next keys total j (next_of keys total j)
            y = next-is keys total k.totals j l

            ln : next_of keys total i < length keys
            ln = omega (arith, y.within)

            so : 0 < get_or total (next_of keys total i) 0
            so = nx.sourced ln

            lv : level_of (get_or keys (next_of keys total i) 0) ≤ level_of (get_or keys i 0)
            lv = next_level i (next_of keys total i) li nx ln

            -- the next of i is sourced and below the next of j, so it lies under j
            under : next_of keys total i < end_of keys j
            under = at (dec_lt (next_of keys total i) (end_of keys j))
              where
                at : Dec (next_of keys total i < end_of keys j) → next_of keys total i < end_of keys j
                at (yes p) = p
                at (no p) = absurd (omega (arith, so, y.none (next_of keys total i) (omega arith) s))

            bad : (level_of (get_or keys i 0) < level_of (get_or keys j 0)) ⊎ (get_or total j 0 ≡ 0) → ⊥
            bad cc = same (dec_lt j (next_of keys total i)) cc
              where
                same : Dec (j < next_of keys total i) → (level_of (get_or keys i 0) < level_of (get_or keys j 0)) ⊎ (get_or total j 0 ≡ 0) → ⊥
                same (yes p) (inl d) = omega (arith, lv, (ends keys j l).deeper (next_of keys total i) p under)
                same (yes p) (inr z) = omega (arith, k.up j (next_of keys total i) p under ln so)
                same (no p) (inl d) = let e : j ≡ next_of keys total i = omega (arith, h.most) in omega (arith, lv, ap (λ x. level_of (get_or keys x 0)) e)
                same (no p) (inr z) = let e : j ≡ next_of keys total i = omega (arith, h.most) in omega (arith, so, ap (λ x. get_or total x 0) e)

    -- past a node where it does not stop
    pub hop-past : (j : ℕ) → Hop keys total i j → j < length keys → (level_of (get_or keys i 0) < level_of (get_or keys j 0)) ⊎ (get_or total j 0 ≡ 0) → Hop keys total i (j + 1)
    hop-past j h l c = record { after = omega (arith, h.after); most = go (dec_lt j (next_of keys total i)) c }
      where
        go : Dec (j < next_of keys total i) → (level_of (get_or keys i 0) < level_of (get_or keys j 0)) ⊎ (get_or total j 0 ≡ 0) → j + 1 ≤ next_of keys total i
        go (yes s) _ = omega arith
        go (no s) c = absurd (bad c)
          where
            here : j ≡ next_of keys total i
            here = omega (arith, h.most)

            ln : next_of keys total i < length keys
            ln = omega (arith, here)

            bad : (level_of (get_or keys i 0) < level_of (get_or keys j 0)) ⊎ (get_or total j 0 ≡ 0) → ⊥
            bad (inl d) = omega (arith, next_level i (next_of keys total i) li nx ln, ap (λ x. level_of (get_or keys x 0)) here)
            bad (inr z) = omega (arith, nx.sourced ln, ap (λ x. get_or total x 0) here)

    -- after a leaf it stops at the first sourced node
    pub leaf-here : inner keys i ≡ false → (j : ℕ) → Hop keys total i j → j < length keys → 0 < get_or total j 0 → j ≡ next_of keys total i
    leaf-here leaf j h l s = go (dec_lt j (next_of keys total i))
      where
        go : Dec (j < next_of keys total i) → j ≡ next_of keys total i
        go (no n) = omega (arith, h.most)
        go (yes n) = absurd (omega (arith, leaf-end keys i li leaf, nx.none j (omega (arith, h.after, leaf-end keys i li leaf)) n))

    -- the same by the test
    pub stop-here : (j : ℕ) → Hop keys total i j → j < length keys → (leb (level_of (get_or keys j 0)) (level_of (get_or keys i 0)) && ltb 0 (get_or total j 0)) ≡ true → j ≡ next_of keys total i
    stop-here j h l b =
        hop-here j h l (leb-true (level_of (get_or keys j 0)) (level_of (get_or keys i 0)) (and_l _ _ b))
        (λ z. omega (arith, ltb-true 0 (get_or total j 0) (and_r (leb (level_of (get_or keys j 0)) (level_of (get_or keys i 0))) _ b)))

    pub stop-not : (j : ℕ) → (leb (level_of (get_or keys j 0)) (level_of (get_or keys i 0)) && ltb 0 (get_or total j 0)) ≡ false → (level_of (get_or keys i 0) < level_of (get_or keys j 0)) ⊎ (get_or total j 0 ≡ 0)
    stop-not j b = go (leb (level_of (get_or keys j 0)) (level_of (get_or keys i 0))) refl b
      where
        go : (t : Bool) → leb (level_of (get_or keys j 0)) (level_of (get_or keys i 0)) ≡ t → (t && ltb 0 (get_or total j 0)) ≡ false → (level_of (get_or keys i 0) < level_of (get_or keys j 0)) ⊎ (get_or total j 0 ≡ 0)
        go false q b = inl (leb-false (level_of (get_or keys j 0)) (level_of (get_or keys i 0)) q)
        go true q b = inr (omega (arith, ltb-false 0 (get_or total j 0) b))

-- the pass from the last node back
pub record Linking (keys total old links : List ℕ) (i : ℕ) : Type 0 where
  pub most : i ≤ length keys
  pub long : length links ≡ length old
  pub right : (j : ℕ) → i ≤ j → inner keys j ≡ true → get_or links j 0 ≡ next_of keys total j
  pub rest : (j : ℕ) → inner keys j ≡ false → get_or links j 0 ≡ get_or old j 0

module _ (keys total old : List ℕ) (k : Linked keys total) (room : length keys ≤ length old) where
  pub linking-start : Linking keys total old old (length keys)
  linking-start = record { most = omega arith; long = refl; right = λ j h l. absurd (omega (arith, ltb-true (suc j) (length keys) (and_l _ _ l))); rest = λ j h. refl }

  pub linking-from : (links : List ℕ) (n i : ℕ) → Linking keys total old links n → n ≡ suc i → From keys total links (suc i)
  linking-from links n i a e = record { linked = k; room = omega (arith, a.long); right = λ j h l. a.right j (omega arith) l }

  -- a leaf is left as it is
  pub linking-leaf : (links : List ℕ) (n i : ℕ) → Linking keys total old links n → n ≡ suc i → inner keys i ≡ false → Linking keys total old links i
  linking-leaf links n i a e leaf = record { most = omega (arith, a.most); long = a.long; right = λ j h l. here j h l (dec_lt i j); rest = a.rest }
    where
      here : (j : ℕ) → i ≤ j → inner keys j ≡ true → Dec (i < j) → get_or links j 0 ≡ next_of keys total j
      here j h l (yes g) = a.right j (omega arith) l
      here j h l (no g) = let z : j ≡ i = omega arith in absurd (clash l (ap (inner keys) z ∙ leaf))

  pub linking-more : (links : List ℕ) (n i : ℕ) → Linking keys total old links n → n ≡ suc i → inner keys i ≡ true → (next : ℕ) → next ≡ next_of keys total i → Linking keys total old (set links i next) i
  linking-more links n i a e has next en = record {
    most = omega (arith, a.most);
    long = length-set links i next ∙ a.long;
    right = λ j h l. here j h l (dec_lt i j);
    rest = λ j h. get_or-set_other links i j next 0 (λ q. clash has (sym (ap (inner keys) q) ∙ h)) ∙ a.rest j h;
  }
    where
      here : (j : ℕ) → i ≤ j → inner keys j ≡ true → Dec (i < j) → get_or (set links i next) j 0 ≡ next_of keys total j
      here j h l (yes g) = get_or-set_other links i j next 0 (λ q. omega arith) ∙ a.right j (omega arith) l
      here j h l (no g) =
          let z : j ≡ i = omega arith in
          subst (λ x. get_or (set links i next) x 0 ≡ next_of keys total x) (sym z)
          (get_or-set_same links i next 0 (omega (arith, a.long, a.most)) ∙ en)

  pub linking-done : (links : List ℕ) (i : ℕ) → Linking keys total old links i → i ≤ 0 → Links keys total old links
  linking-done links i a h = record { long = a.long; right = λ j l. a.right j (omega arith) l; rest = a.rest }

-- each hop goes on
pub hop-far : (keys total : List ℕ) → Linked keys total → (j : ℕ) → j < length keys → j < next_of keys total j
hop-far keys total k j l = omega (arith, (next-is keys total k.totals j l).from, (ends keys j l).after)

pub goes_on : (level k n : ℕ) → level < level_of k → false ≡ (leb (level_of k) level && ltb 0 n)
goes_on level k n h = rw (lt-leb (level_of k) level h)

pub may-stop : (level k n : ℕ) → level_of k ≤ level → ltb 0 n ≡ (leb (level_of k) level && ltb 0 n)
may-stop level k n h = rw (le-leb (level_of k) level h)
