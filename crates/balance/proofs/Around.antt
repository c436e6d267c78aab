-- Where a program has to look: a cell must be split if it is split, or if a split cell under one of its neighbours lies inside its block.
use mathlib.Core.Path.{◌≡◌, refl, sym, ap, ◌∙◌, subst}
use mathlib.Core.Bool.{Bool, true, false, ◌&&◌, ◌||◌}
use mathlib.Core.List.{List, ◌∷◌}
use mathlib.Core.Logic.{◌⊎◌, inl, inr}
use Prim.Native.Nat.{ℕ, suc, ◌+◌, ◌*◌, ◌-◌, ◌^◌, ◌≤◌, ◌<◌}
use native.Mathlib.Omega.{arith}
use native.Mathlib.Nat.{lt_of_mul-lt-mul_right, eq-or-lt_of_le}
use borrow.Author.Tests.{le-leb, eq-eqb}
use Rattle.slices.specs.Lists.{any, Mem}
use Rattle.slices.specs.Every.{every}
use Rattle.slices.proofs.Tests.{and_l, and_r, both, same_test, or_right, refute, clash}
use Rattle.slices.proofs.Every.{every-all}
use Rattle.slices.proofs.Counts.{any-intro, any-elim}
use Rattle.slices.proofs.Members.{mem-cases}
use Rattle.codes.proofs.Codes.{anchor-lt}
use Rattle.morton.specs.Keys.{level_of, code_of, above, ValidKey, under}
use Rattle.morton.specs.Anchors.{anchor, near, within1}
use Rattle.morton.proofs.Cells.{key-parts, level_begins, code_at, at_self, parent-at}
use Rattle.morton.proofs.Checks.{facts-valid}
use Rattle.morton.proofs.Nearness.{within}
use Rattle.neighbours.specs.Directions.{neighbours}
use Rattle.tree.specs.Nodes.{cell_at, child_of}
use Rattle.tree.proofs.Sourced.{Under, under-facts, facts-under, under-self, under-trans, child-under}
use Rattle.rows.specs.Lists.{at_or_under}
use Rattle.rows.proofs.Around.{around, by-neighbours}
use Rattle.balance.specs.Balance.{Tree}
use Rattle.balance.specs.Splitting.{inside, split, must_split, forced_by}
use Rattle.balance.proofs.Cells.{at, anchor-split, its_child}
use Rattle.balance.proofs.Blocks.{Off, Inside, inside-facts, inside-self}
use Rattle.balance.proofs.Stored.{split-mem, above-mem, split-over}
use Rattle.balance.proofs.Wanted.{Forced, must-facts, facts-must}

or_left : (a b : Bool) → a ≡ true → (a || b) ≡ true
or_left a b h = rw h

-- on one axis, p is part l of n of anchor q
beside : (n r p q l : ℕ) → l < n → p ≡ l + n * q → Off n r p → (r ≤ q + 1) × (q ≤ r + 1)
beside n r p q l h e o =
    let a : r * n < (q + 2) * n = omega (arith, o.low) in
    let b : q * n < (r + 2) * n = omega (arith, o.high) in
    (omega (arith, lt_of_mul-lt-mul_right n a), omega (arith, lt_of_mul-lt-mul_right n b))

-- what lies inside the block lies at or under the cell or a neighbour
pub inside-around : (d r p : ℕ) → inside d r p ≡ true → at_or_under d r p ≡ true
unfolding near every
inside-around d r p h =
    both (le-leb (level_of r) (level_of p) f.level)
    (both (eq-eqb (level_of r) (level_of (cell_at d (level_of r) p)) (sym (level_begins d (level_of r) p f.level)))
    (rw (code_at d (level_of r) p f.level) (every-all (λ a. within1 (anchor d a (level_of r) (code_of r)) (anchor d a (level_of r) c)) d (λ a i. let (x, y) = near_by a i in within (at d a r) (anchor d a (level_of r) c) x y)))
    )
  where
    f : Inside d r p
    f = inside-facts d r p h

    n : ℕ
    n = level_of p - level_of r

    c : ℕ
    c = above d n (code_of p)

    near_by : (a : ℕ) → a < d → (at d a r ≤ anchor d a (level_of r) c + 1) × (anchor d a (level_of r) c ≤ at d a r + 1)
    near_by a i =
        let e : level_of p ≡ n + level_of r = omega (arith, f.level) in
        beside (2 ^ n) (at d a r) (at d a p) (anchor d a (level_of r) c) (anchor d a n (code_of p)) (anchor-lt d a n (code_of p)) (ap (λ (l : ℕ). anchor d a l (code_of p)) e ∙ anchor-split d a n (level_of r) (code_of p)) (f.off a i)

module _ (d : ℕ) (keys : List ℕ) (t : Tree d keys) where
  -- what holds a split cell is split
  pub split-above : (r p : ℕ) → under d r p ≡ true → split d keys p ≡ true → split d keys r ≡ true
  split-above r p u h = go (eq-or-lt_of_le f.level)
    where
      f : Under d r p
      f = under-facts d r p u

      held : cell_at d (level_of r) p ≡ r
      held = ap (λ (c : ℕ). c * 32768 + level_of r) f.code ∙ key-parts r

      go : (level_of r ≡ level_of p) ⊎ (level_of r < level_of p) → split d keys r ≡ true
      go (inl e) = subst (λ (x : ℕ). split d keys x ≡ true) (sym (at_self d p) ∙ ap (λ (l : ℕ). cell_at d l p) (sym e) ∙ held) h
      go (inr l) = split-over d keys t r p held (split-mem d keys t p h).0 l

  -- by the neighbours
  pub must-around : (r : ℕ) → ValidKey d r → must_split d keys r ≡ (split d keys r || any (forced_by d keys r) (neighbours d r))
  must-around r v = same_test (must_split d keys r) (split d keys r || any (forced_by d keys r) (neighbours d r)) there-is holds
    where
      forced : (c : ℕ) → forced_by d keys r c ≡ true → must_split d keys r ≡ true
      forced c h =
          let (p, m, e) = any-elim (λ p. under d c p && (split d keys p && inside d r p)) keys h in
          let s = and_r (under d c p) _ e in
          facts-must d keys r p m (and_l _ _ s) (and_r (split d keys p) _ s)

      holds : (split d keys r || any (forced_by d keys r) (neighbours d r)) ≡ true → must_split d keys r ≡ true
      holds h = go (split d keys r) refl h
        where
          go : (b : Bool) → split d keys r ≡ b → (b || any (forced_by d keys r) (neighbours d r)) ≡ true → must_split d keys r ≡ true
          go true e h = facts-must d keys r r (split-mem d keys t r e).0 e (inside-self d r)
          go false e h = let (c, m, g) = any-elim (forced_by d keys r) (neighbours d r) h in forced c g

      there-is : must_split d keys r ≡ true → (split d keys r || any (forced_by d keys r) (neighbours d r)) ≡ true
      there-is h = or_right (split d keys r) _ (λ n. found n (mem-cases u.0 r (neighbours d r) u.1))
        where
          f : Forced d keys r
          f = must-facts d keys r h

          m : Mem f.cell keys
          m = (split-mem d keys t f.cell f.splits).0

          u : (c : ℕ) × Mem c (r ∷ neighbours d r) × (under d c f.cell ≡ true)
          u = any-elim (λ c. under d c f.cell) (r ∷ neighbours d r)
              (sym (by-neighbours d r f.cell (neighbours d r) (around d r v) (facts-valid d f.cell (t.sound f.cell m)).1) ∙ inside-around d r f.cell f.inside_is)

          found : split d keys r ≡ false → (r ≡ u.0) ⊎ Mem u.0 (neighbours d r) → any (forced_by d keys r) (neighbours d r) ≡ true
          found n (inl e) = absurd (clash (split-above r f.cell (subst (λ (c : ℕ). under d c f.cell ≡ true) (sym e) u.2) f.splits) n)
          found n (inr mc) = any-intro (forced_by d keys r) (neighbours d r) u.0 mc
              (any-intro (λ p. under d u.0 p && (split d keys p && inside d r p)) keys f.cell m (both u.2 (both f.splits f.inside_is)))

  -- ---- under a neighbour q: nothing if it is not split; else q itself, or under a child

  pub forced-none : (r q : ℕ) → split d keys q ≡ false → forced_by d keys r q ≡ false
  forced-none r q n = refute (λ h.
      let (p, m, e) = any-elim (λ p. under d q p && (split d keys p && inside d r p)) keys h in
      clash (split-above q p (and_l _ _ e) (and_l _ _ (and_r (under d q p) _ e))) n)

  pub forced-down : (r q : ℕ) → forced_by d keys r q ≡ ((split d keys q && inside d r q) || any (λ s. child_of d q s && forced_by d keys r s) keys)
  forced-down r q =
      same_test (forced_by d keys r q) ((split d keys q && inside d r q) || any (λ s. child_of d q s && forced_by d keys r s) keys)
      (λ h. let (p, m, e) = any-elim (λ p. under d q p && (split d keys p && inside d r p)) keys h in down p m (and_l _ _ e) (and_r (under d q p) _ e))
      (λ h. up (split d keys q && inside d r q) refl h)
    where
      down : (p : ℕ) → Mem p keys → under d q p ≡ true → (split d keys p && inside d r p) ≡ true → ((split d keys q && inside d r q) || any (λ s. child_of d q s && forced_by d keys r s) keys) ≡ true
      down p m u h = go (eq-or-lt_of_le f.level)
        where
          f : Under d q p
          f = under-facts d q p u

          held : cell_at d (level_of q) p ≡ q
          held = ap (λ (c : ℕ). c * 32768 + level_of q) f.code ∙ key-parts q

          go : (level_of q ≡ level_of p) ⊎ (level_of q < level_of p) → ((split d keys q && inside d r q) || any (λ s. child_of d q s && forced_by d keys r s) keys) ≡ true
          go (inl e) =
              let same : p ≡ q = sym (at_self d p) ∙ ap (λ (l : ℕ). cell_at d l p) (sym e) ∙ held in
              or_left (split d keys q && inside d r q) (any (λ s. child_of d q s && forced_by d keys r s) keys) (subst (λ (x : ℕ). (split d keys x && inside d r x) ≡ true) same h)
          go (inr l) =
              let c = cell_at d (suc (level_of q)) p in
              let lc : level_of c ≡ suc (level_of q) = level_begins d (suc (level_of q)) p l in
              let mc : Mem c keys = above-mem d keys t (level_of p - suc (level_of q)) p (suc (level_of q)) m (omega arith) in
              let uc : under d c p ≡ true = facts-under d c p (record { level = omega arith; code = rw lc (sym (code_at d (suc (level_of q)) p l)) }) in
              or_right (split d keys q && inside d r q) (any (λ s. child_of d q s && forced_by d keys r s) keys) (λ _. any-intro (λ s. child_of d q s && forced_by d keys r s) keys c mc
              (both (its_child d q c (omega arith) (parent-at d (level_of q) p l ∙ held)) (any-intro (λ p. under d c p && (split d keys p && inside d r p)) keys p m (both uc h))))

      up : (b : Bool) → (split d keys q && inside d r q) ≡ b → (b || any (λ s. child_of d q s && forced_by d keys r s) keys) ≡ true → forced_by d keys r q ≡ true
      up true e h = any-intro (λ p. under d q p && (split d keys p && inside d r p)) keys q (split-mem d keys t q (and_l _ _ e)).0 (both (under-self d q) e)
      up false e h =
          let (s, ms, g) = any-elim (λ s. child_of d q s && forced_by d keys r s) keys h in
          let (p, mp, i) = any-elim (λ p. under d s p && (split d keys p && inside d r p)) keys (and_r (child_of d q s) _ g) in
          any-intro (λ p. under d q p && (split d keys p && inside d r p)) keys p mp (both (under-trans d q s p (child-under d q s (and_l _ _ g)) (and_l _ _ i)) (and_r (under d s p) _ i))
