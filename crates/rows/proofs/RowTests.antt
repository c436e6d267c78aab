-- The rows, by their tests.
use mathlib.Core.Path.{◌≡◌, refl, sym, ap, ap₂, ◌∙◌}
use mathlib.Core.Bool.{Bool, true, false, ◌&&◌, ◌||◌, not, and-true, cond}
use mathlib.Core.List.{List, [], ◌∷◌}
use Prim.Native.Nat.{ℕ, zero, suc, ◌+◌, ◌*◌, ◌-◌, ◌/◌, ◌%◌, ◌^◌, ◌≤◌, ◌<◌, min}
use native.Mathlib.Omega.{arith}
use lib.Dec.{leb, ltb, eqb}
use lib.ListN.{length}
use borrow.Author.Tests.{ltb-true, eqb-true, eqb-false, eq-eqb, ne_eqb, lt-ltb, not-true}
use Rattle.slices.specs.Lists.{filter, count, Mem}
use Rattle.slices.specs.Order.{ascending}
use Rattle.slices.proofs.Tests.{and_l, and_r, both}
use Rattle.slices.proofs.Counts.{count-ext, length-count}
use Rattle.slices.proofs.Rows.{count-row, row-mem}
use Rattle.morton.specs.Keys.{key, level_of, code_of, parent}
use Rattle.morton.specs.Anchors.{near, touching, close}
use Rattle.morton.proofs.Cells.{above_zero, key-parts, level-parent, code-parent}
use Rattle.morton.proofs.Nearness.{near-siblings}
use Rattle.tree.specs.Nodes.{leaf, own_of, sourced}
use Rattle.tree.proofs.Stored.{sourced-by}
use Rattle.tree.proofs.Sourced.{under-self}
use Rattle.rows.specs.Lists.{neighbour, in_u, in_v, u_row, v_row}
use Rattle.rows.proofs.Closeness.{near-is-close}

-- cells of one level whose parents are neighbours
neighbour-parents : (d a c l x y : ℕ) → level_of a ≡ suc l → level_of c ≡ suc l → code_of a ≡ x → code_of c ≡ y
    → neighbour d (parent d a) (parent d c) ≡ (near d d l (x / 2 ^ d) (y / 2 ^ d) && not (eqb (x / 2 ^ d) (y / 2 ^ d)))
neighbour-parents d a c l x y ea ec xa yc =
    ap₂ (λ p q. p && not q) touch (ap₂ eqb pa pc ∙ go (eqb (x / 2 ^ d) (y / 2 ^ d)) refl)
  where
    one : suc l - 1 ≡ l
    one = omega arith

    touch : touching d (parent d a) (parent d c) ≡ near d d l (x / 2 ^ d) (y / 2 ^ d)
    touch = rw (level-parent d a, level-parent d c, code-parent d a, code-parent d c, ea, ec, xa, yc, one, eq-eqb l l refl)

    pa : parent d a ≡ key l (x / 2 ^ d)
    pa = rw (ea, xa, one)

    pc : parent d c ≡ key l (y / 2 ^ d)
    pc = rw (ec, yc, one)

    go : (t : Bool) → eqb (x / 2 ^ d) (y / 2 ^ d) ≡ t → eqb (key l (x / 2 ^ d)) (key l (y / 2 ^ d)) ≡ eqb (x / 2 ^ d) (y / 2 ^ d)
    go true e = let q = eqb-true (x / 2 ^ d) (y / 2 ^ d) e in eq-eqb (key l (x / 2 ^ d)) (key l (y / 2 ^ d)) (ap (key l) q) ∙ sym e
    go false e = let q = eqb-false (x / 2 ^ d) (y / 2 ^ d) e in ne_eqb (key l (x / 2 ^ d)) (key l (y / 2 ^ d)) (λ r. q (omega arith)) ∙ sym e

module _ (d : ℕ) (keys own : List ℕ) where
  pub count-u : (p : ℕ → Bool) (b : ℕ) → leaf d keys b ≡ true → count p (u_row d keys own b) ≡ count (λ x. in_u d keys own b x && p x) keys
  unfolding u_row
  count-u p b h = rw h (count-row p (in_u d keys own b) keys)

  pub count-v : (p : ℕ → Bool) (b : ℕ) → count p (v_row d keys own b) ≡ count (λ x. in_v d keys own b x && p x) keys
  unfolding v_row
  count-v p b = count-row p (in_v d keys own b) keys

  pub length-v : (b : ℕ) → length (v_row d keys own b) ≡ count (in_v d keys own b) keys
  length-v b = length-count (v_row d keys own b) ∙ count-v (λ _. true) b ∙ count-ext (λ x. in_v d keys own b x && true) (in_v d keys own b) keys (λ x m. and-true _)

  -- a leaf with sources is in a U row if the two are close
  pub u-test : (b s : ℕ) → Mem s keys → leaf d keys s ≡ true → 0 < own_of keys own s → in_u d keys own b s ≡ close d b s
  unfolding in_u
  u-test b s m l o = rw (l, sourced-by d keys own s s m o (under-self d s)) (near-is-close d b s)

  pub u-leaf : (b s : ℕ) → in_u d keys own b s ≡ true → leaf d keys s ≡ true
  unfolding in_u
  u-leaf b s h = and_l _ _ h

  -- cells with sources of one level are in one another's V rows if they are apart and their parents are not
  pub v-test : (a c x y l : ℕ) → level_of a ≡ suc l → level_of c ≡ suc l → code_of a ≡ x → code_of c ≡ y → sourced d keys own c ≡ true
      → in_v d keys own a c ≡ (near d d l (x / 2 ^ d) (y / 2 ^ d) && not (near d d (suc l) x y))
  unfolding in_v
  v-test a c x y l ea ec xa yc has =
      rw (neighbour-parents d a c l x y ea ec xa yc, has, ea, ec, xa, yc, eq-eqb (suc l) (suc l) refl, lt-ltb 0 (suc l) (omega arith))
      (go (eqb (x / 2 ^ d) (y / 2 ^ d)) refl)
    where
      go : (t : Bool) → eqb (x / 2 ^ d) (y / 2 ^ d) ≡ t
          → ((near d d l (x / 2 ^ d) (y / 2 ^ d) && not (eqb (x / 2 ^ d) (y / 2 ^ d))) && not (near d d (suc l) x y)) ≡ (near d d l (x / 2 ^ d) (y / 2 ^ d) && not (near d d (suc l) x y))
      go true e = rw (e, near-siblings d d l x y (eqb-true (x / 2 ^ d) (y / 2 ^ d) e)) (no (near d d l (x / 2 ^ d) (y / 2 ^ d)))
        where
          no : (b : Bool) → ((b && false) && false) ≡ (b && false)
          no true = refl
          no false = refl
      go false e = rw (e, and-true _)

  pub record Facts (b c : ℕ) : Type 0 where
    pub deep : 0 < level_of b
    pub level : level_of c ≡ level_of b
    pub window : near d d (level_of b - 1) (code_of b / 2 ^ d) (code_of c / 2 ^ d) ≡ true
    pub apart : near d d (level_of b) (code_of b) (code_of c) ≡ false

  pub v-facts : (b c : ℕ) → in_v d keys own b c ≡ true → Facts b c
  unfolding in_v
  v-facts b c h =
      let deep = ltb-true 0 (level_of b) (and_l _ _ (and_l _ _ h)) in
      let deep-c = ltb-true 0 (level_of c) (and_r (ltb 0 (level_of b)) _ (and_l _ _ h)) in
      let rest = and_r (ltb 0 (level_of b) && ltb 0 (level_of c)) _ h in
      let up = and_l (touching d (parent d b) (parent d c)) _ (and_l (neighbour d (parent d b) (parent d c)) _ rest) in
      let same = eqb-true (level_of (parent d b)) (level_of (parent d c)) (and_l _ _ up) in
      let level : level_of c ≡ level_of b = omega (arith, level-parent d b, level-parent d c) in
      let off : touching d b c ≡ false = not-true _ (and_r (sourced d keys own c) _ (and_r (neighbour d (parent d b) (parent d c)) _ rest)) in
      record {
        deep = deep;
        level = level;
        window = rw (level-parent d b, code-parent d b, code-parent d c) at (and_r (eqb (level_of (parent d b)) (level_of (parent d c))) _ up);
        apart = rw (level, eq-eqb (level_of b) (level_of b) refl) at off;
      }

  -- no cell of a V row touches the row's cell
  pub v-far : (b c : ℕ) → Mem c (v_row d keys own b) → close d b c ≡ false
  unfolding v_row
  v-far b c m =
      let f = v-facts b c (row-mem (in_v d keys own b) keys c m).1 in
      let e : min (level_of b) (level_of c) ≡ level_of b = omega (arith, f.level) in
      let g : level_of b - level_of b ≡ 0 = omega arith in
      let h : level_of c - level_of b ≡ 0 = omega (arith, f.level) in
      rw (e, g, h, above_zero d (code_of b), above_zero d (code_of c)) f.apart
