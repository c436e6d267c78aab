-- The rows gone through one by one.
use mathlib.Core.Path.{◌≡◌, refl, sym, ap, ◌∙◌, subst}
use mathlib.Core.Bool.{true, false}
use mathlib.Core.List.{List, ◌∷◌}
use mathlib.Core.Logic.{◌⊎◌, inl, inr}
use Prim.Native.Nat.{ℕ, zero, suc, ◌+◌, ◌≤◌, ◌<◌}
use native.Mathlib.Omega.{arith}
use native.Mathlib.Decide.{dec_lt}
use lib.ListN.{length, get_or, take}
use lib.Seq.{get_or-take, length-take-le}
use Rattle.slices.specs.Lists.{Mem, Distinct}
use Rattle.slices.proofs.Tests.{clash}
use Rattle.slices.proofs.Members.{mem-cases, distinct_cons}
use Rattle.morton.specs.Keys.{axes_known, level_of, valid, parent, ancestors}
use Rattle.tree.proofs.Ranges.{distinct}
use Rattle.salvaged.specs.Nodes.{kept_keys}
use Rattle.salvaged.proofs.Kept.{Kept, kept-mem, mem-kept, kept-ascending, up-within}
use Rattle.gathering.specs.Links.{Linked, Roomy, PutAll}
use Rattle.kept_keys.specs.Gathered.{Rooted, Gathered}
use Rattle.kept_keys.proofs.Fewer.{no_more}

pub record So (d : ℕ) (rows : List ℕ) (room : ℕ) (key child next : List ℕ) (n i : ℕ) : Type 0 where
  pub linked : Linked d n key child next
  pub fits : Roomy room n key child next
  pub seen : i ≤ length rows
  pub only : (q : ℕ) → q < n → Kept d rows (get_or key q 0)
  pub rows_in : (j : ℕ) → j < i → valid d (get_or rows j 0) ≡ true → (q : ℕ) × (q < n) × (get_or key q 0 ≡ get_or rows j 0)

pub roomy-still : (room n : ℕ) (key child next key' child' next' : List ℕ) → Roomy room n key child next → length key' ≡ length key → length child' ≡ length child → length next' ≡ length next → Roomy room n key' child' next'
roomy-still room n key child next key' child' next' r a b c = record { within = r.within; keys = omega (arith, r.keys); childs = omega (arith, r.childs); nexts = omega (arith, r.nexts) }

pub so-start : (d : ℕ) (rows : List ℕ) (room : ℕ) (key child next : List ℕ) → Roomy room 1 key child next → Rooted key child → So d rows room key child next 1 0
so-start d rows room key child next r o = record {
  linked = record {
    some = omega arith;
    keys = omega (arith, r.within, r.keys);
    childs = omega (arith, r.within, r.childs);
    nexts = omega (arith, r.within, r.nexts);
    root = o.root;
    levels = λ q h l. absurd (omega arith);
    parents = λ q h l. absurd (omega arith);
    once = λ p q lp lq e. omega arith;
    child_in = λ p l. let z : p ≡ 0 = omega arith in omega (arith, ap (λ x. get_or child x 0) z, o.alone);
    its_child = λ p l h. let z : p ≡ 0 = omega arith in absurd (omega (arith, ap (λ x. get_or child x 0) z, o.alone));
    child_last = λ p q lp h l e. absurd (omega arith);
    next_in = λ j h l. absurd (omega arith);
    next_of = λ j h l g. absurd (omega arith);
    next_last = λ j q h g l e. absurd (omega arith);
  };
  fits = r;
  seen = omega arith;
  only = λ q l. let z : q ≡ 0 = omega arith in inl (sym (ap (λ x. get_or key x 0) z ∙ o.root));
  rows_in = λ j l v. absurd (omega arith);
}

module _ (d : ℕ) (rows : List ℕ) (room : ℕ) (key child next : List ℕ) (n i : ℕ) (s : So d rows room key child next n i) where
  pub so-invalid : i < length rows → valid d (get_or rows i 0) ≡ false → So d rows room key child next n (i + 1)
  so-invalid l e = record { linked = s.linked; fits = s.fits; seen = omega arith; only = s.only; rows_in = λ j h v. go j h v (dec_lt j i) }
    where
      go : (j : ℕ) → j < i + 1 → valid d (get_or rows j 0) ≡ true → Dec (j < i) → (q : ℕ) × (q < n) × (get_or key q 0 ≡ get_or rows j 0)
      go j h v (yes g) = s.rows_in j g v
      go j h v (no g) = let z : j ≡ i = omega arith in absurd (clash (subst (λ x. valid d (get_or rows x 0) ≡ true) z v) e)

  module _ (l : i < length rows) (v : valid d (get_or rows i 0) ≡ true) (key' child' next' : List ℕ) (r : ℕ) (t : PutAll d room n (get_or rows i 0) key key' child' next' r) where
    kept-still : (m : ℕ) → ((q : ℕ) → n ≤ q → q < m → Mem (get_or key' q 0) (ancestors d (get_or rows i 0))) → (q : ℕ) → q < m → Kept d rows (get_or key' q 0)
    kept-still m new q h = go (dec_lt q n)
      where
        go : Dec (q < n) → Kept d rows (get_or key' q 0)
        go (yes g) = subst (Kept d rows) (sym (t.old q g)) (s.only q g)
        go (no g) = inr (get_or rows i 0, (i, l, refl), v, new q (omega arith) h)

    pub so-valid : length key' ≡ length key → length child' ≡ length child → length next' ≡ length next → r ≤ room → So d rows room key' child' next' r (i + 1)
    so-valid lk lc ln h =
        let f = t.fits h in
        record {
          linked = f.1;
          fits = record { within = h; keys = omega (arith, s.fits.keys); childs = omega (arith, s.fits.childs); nexts = omega (arith, s.fits.nexts) };
          seen = omega arith;
          only = kept-still r f.2;
          rows_in = λ j g w. go j g w (dec_lt j i);
        }
      where
        go : (j : ℕ) → j < i + 1 → valid d (get_or rows j 0) ≡ true → Dec (j < i) → (q : ℕ) × (q < r) × (get_or key' q 0 ≡ get_or rows j 0)
        go j g w (yes b) = let (q, lq, e) = s.rows_in j b w in (q, omega (arith, (t.fits h).0), t.old q lq ∙ e)
        go j g w (no b) = let z : j ≡ i = omega arith in let (q, lq, e) = (t.fits h).3 in (q, lq, e ∙ ap (λ x. get_or rows x 0) (sym z))

    pub so-short : axes_known d ≡ true → room < r → Gathered d rows room key' r
    so-short known h =
        let f = t.short h in
        record {
          some = omega arith;
          within = λ g. absurd (omega arith);
          only = λ g. absurd (omega arith);
          all = λ g. absurd (omega arith);
          once = λ g. absurd (omega arith);
          short = λ g. (f.0, more f.4);
        }
      where
        lk : Linked d room key' child' next'
        lk = (t.short h).2

        at : (q : ℕ) → q < length (take room key') → (q < room) × (get_or (take room key') q 0 ≡ get_or key' q 0)
        at q g = let f : q < room = omega (arith, length-take-le room key' lk.keys) in (f, get_or-take room key' q 0 f)

        apart : Distinct (take room key')
        apart x y gx gy e = let a = at x gx in let b = at y gy in lk.once x y a.0 b.0 (sym a.1 ∙ e ∙ b.1)

        in_kept : (y : ℕ) → Mem y (take room key') → Mem y (kept_keys d rows)
        in_kept y (q, g, e) = let a = at q g in kept-mem d rows y (subst (Kept d rows) (sym a.1 ∙ e) (kept-still room (t.short h).3 q a.0))

        more : (c : ℕ) × Mem c (ancestors d (get_or rows i 0)) × ((q : ℕ) → q < room → get_or key' q 0 ≡ c → ⊥) → room < length (kept_keys d rows)
        more (c, mc, no-c) =
            let m = no_more (c ∷ take room key') (kept_keys d rows)
            (distinct_cons c (take room key') (λ w. let a = at w.0 w.1 in no-c w.0 a.0 (sym a.1 ∙ w.2)) apart)
            (distinct d (kept_keys d rows) (kept-ascending d rows known))
            (λ y w. go y (mem-cases y c (take room key') w)) in
            omega (arith, m, length-take-le room key' lk.keys)
          where
            go : (y : ℕ) → (c ≡ y) ⊎ Mem y (take room key') → Mem y (kept_keys d rows)
            go y (inl e) = subst (λ z. Mem z (kept_keys d rows)) e (kept-mem d rows c (inr (get_or rows i 0, (i, l, refl), v, mc)))
            go y (inr w) = in_kept y w

  pub so-done : length rows ≤ i → Gathered d rows room key n
  so-done g = record {
    some = s.linked.some;
    within = λ h. s.linked.keys;
    only = λ h q l. kept-mem d rows (get_or key q 0) (s.only q l);
    all = λ h y m. found y (mem-kept d rows y m);
    once = λ h. s.linked.once;
    short = λ h. absurd (omega (arith, s.fits.within));
  }
    where
      node_at : (q : ℕ) → q < n → Mem (get_or key q 0) (take n key)
      node_at q l = (q, omega (arith, length-take-le n key s.linked.keys), get_or-take n key q 0 l)

      at-node : (y : ℕ) → Mem y (take n key) → (q : ℕ) × (q < n) × (get_or key q 0 ≡ y)
      at-node y (q, l, e) = let f : q < n = omega (arith, length-take-le n key s.linked.keys) in (q, f, sym (get_or-take n key q 0 f) ∙ e)

      up : (k : ℕ) → Mem k (take n key) → 0 < level_of k → Mem (parent d k) (take n key)
      up k m h = go (at-node k m)
        where
          go : (q : ℕ) × (q < n) × (get_or key q 0 ≡ k) → Mem (parent d k) (take n key)
          go (zero, l, e) = absurd (omega (arith, ap level_of (sym e ∙ s.linked.root)))
          go (suc q, l, e) =
              let (p, lp, ep) = s.linked.parents (suc q) (omega arith) l in
              subst (λ z. Mem z (take n key)) (ep ∙ ap (parent d) e) (node_at p (omega arith))

      found : (y : ℕ) → Kept d rows y → (q : ℕ) × (q < n) × (get_or key q 0 ≡ y)
      found y (inl e) = (0, s.linked.some, s.linked.root ∙ e)
      found y (inr (k, (j, lj, ej), w, a)) =
          let (q, lq, eq) = s.rows_in j (omega arith) (subst (λ z. valid d z ≡ true) (sym ej) w) in
          at-node y (up-within d (take n key) up (level_of k) k refl (subst (λ z. Mem z (take n key)) (eq ∙ ej) (node_at q lq)) y a)
