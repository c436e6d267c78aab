-- Cells within cells, and which cells are sourced.
use mathlib.Core.Path.{◌≡◌, refl, sym, ap, ap₂, ◌∙◌, subst}
use mathlib.Core.Bool.{Bool, true, false, ◌&&◌, ◌||◌, not}
use mathlib.Core.List.{List}
use mathlib.Core.Logic.{◌⊎◌, inl, inr}
use Prim.Native.Nat.{ℕ, zero, suc, ◌+◌, ◌*◌, ◌-◌, ◌/◌, ◌%◌, ◌^◌, ◌≤◌, ◌<◌}
use native.Mathlib.Omega.{arith}
use native.Mathlib.Nat.{eq-or-lt_of_le, mul-add}
use native.Mathlib.Decide.{dec_lt}
use lib.Dec.{leb, ltb, eqb}
use lib.ListN.{length, get_or}
use lib.Pow.{shr-shr}
use borrow.Author.Tests.{ltb-true, leb-true, eqb-true, lt-ltb, le-ltb, le-leb, eq-eqb}
use Rattle.slices.specs.Lists.{any, Mem}
use Rattle.slices.proofs.Tests.{and_l, and_r, both, clash, refute}
use Rattle.slices.proofs.Counts.{any-intro, any-elim}
use Rattle.morton.specs.Keys.{key, level_of, code_of, above, parent, under}
use Rattle.morton.proofs.Cells.{above_zero, above-one, key-parts, level_begins, code_at, at_self, level-parent, code-parent, parent-at}
use Rattle.tree.specs.Nodes.{cell_at, stored, child_of, leaf, own_of, sourced}
use Rattle.slices.proofs.Tests.{same_test}
use Rattle.tree.proofs.Members.{sourced-by}

-- cells within cells
pub record Under (d k j : ℕ) : Type 0 where
  pub level : level_of k ≤ level_of j
  pub code : above d (level_of j - level_of k) (code_of j) ≡ code_of k

pub under-facts : (d k j : ℕ) → under d k j ≡ true → Under d k j
under-facts d k j h = record {
  level = leb-true (level_of k) (level_of j) (and_l _ _ h);
  code = eqb-true (above d (level_of j - level_of k) (code_of j)) (code_of k) (and_r (leb (level_of k) (level_of j)) _ h);
}

pub facts-under : (d k j : ℕ) → Under d k j → under d k j ≡ true
facts-under d k j u = both (le-leb (level_of k) (level_of j) u.level) (eq-eqb (above d (level_of j - level_of k) (code_of j)) (code_of k) u.code)

above-above : (d m n c : ℕ) → above d n (above d m c) ≡ above d (m + n) c
above-above d m n c = shr-shr c (d * m) (d * n) ∙ ap (λ x. c / 2 ^ x) (sym (mul-add d m n))

pub under-self : (d k : ℕ) → under d k k ≡ true
under-self d k = facts-under d k k (record { level = omega arith; code = let e : level_of k - level_of k ≡ 0 = omega arith in rw e (above_zero d (code_of k)) })

pub under-trans : (d a b c : ℕ) → under d a b ≡ true → under d b c ≡ true → under d a c ≡ true
under-trans d a b c p q =
    let u = under-facts d a b p in
    let v = under-facts d b c q in
    facts-under d a c (record {
      level = omega (arith, u.level, v.level);
      code =
          let e : level_of c - level_of a ≡ (level_of c - level_of b) + (level_of b - level_of a) = omega (arith, u.level, v.level) in
          rw e (sym (above-above d (level_of c - level_of b) (level_of b - level_of a) (code_of c)) ∙ ap (above d (level_of b - level_of a)) v.code ∙ u.code);
    })

-- a cell lies under its parent
pub child-under : (d k c : ℕ) → child_of d k c ≡ true → under d k c ≡ true
child-under d k c h =
    let p = ltb-true 0 (level_of c) (and_l _ _ h) in
    let e = eqb-true (parent d c) k (and_r (ltb 0 (level_of c)) _ h) in
    let l : level_of k ≡ level_of c - 1 = sym (ap level_of e) ∙ level-parent d c in
    facts-under d k c (record {
      level = omega arith;
      code = let o : level_of c - level_of k ≡ 1 = omega arith in rw o (above-one d (code_of c) ∙ sym (code-parent d c) ∙ ap code_of e);
    })

-- two cells of one level that hold a cell are one
pub same-holder : (d a b j : ℕ) → level_of a ≡ level_of b → under d a j ≡ true → under d b j ≡ true → a ≡ b
same-holder d a b j e p q =
    sym (key-parts a) ∙ ap₂ key e (sym (under-facts d a j p).code ∙ ap (λ l. above d (level_of j - l) (code_of j)) e ∙ (under-facts d b j q).code) ∙ key-parts b

module _ (d : ℕ) (keys own : List ℕ) where
  pub sourced-facts : (k : ℕ) → sourced d keys own k ≡ true → (j : ℕ) × Mem j keys × (under d k j ≡ true) × (0 < own_of keys own j)
  unfolding sourced
  sourced-facts k h =
      let (j, m, e) = any-elim (λ j. under d k j && ltb 0 (own_of keys own j)) keys h in
      (j, m, and_l _ _ e, ltb-true 0 (own_of keys own j) (and_r (under d k j) _ e))

  -- what holds a sourced cell is sourced
  pub sourced-up : (k c : ℕ) → under d k c ≡ true → sourced d keys own c ≡ true → sourced d keys own k ≡ true
  sourced-up k c u h = let (j, m, v, o) = sourced-facts c h in sourced-by d keys own k j m o (under-trans d k c j u v)
