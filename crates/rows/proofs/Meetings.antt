-- In a well-formed tree each leaf meets each leaf with sources exactly once: level by level, the pair stays near or parts.
use mathlib.Core.Path.{◌≡◌, refl, sym, ap, ap₂, ◌∙◌, subst}
use mathlib.Core.Bool.{Bool, true, false, ◌&&◌, not, and-true}
use mathlib.Core.List.{List, [], ◌∷◌, map}
use Prim.Native.Nat.{ℕ, zero, suc, ◌+◌, ◌*◌, ◌-◌, ◌/◌, ◌%◌, ◌^◌, ◌≤◌, ◌<◌, min}
use native.Mathlib.Omega.{arith}
use native.Mathlib.Nat.{zero-min, add_comm, le_refl}
use native.Mathlib.Decide.{dec_lt}
use lib.Dec.{leb, ltb, eqb}
use borrow.Author.Tests.{eqb-true, eq-eqb, le-leb, leb-true}
use Rattle.slices.specs.Lists.{sum, count, bit, Mem}
use Rattle.slices.proofs.Tests.{and_l, and_r, both}
use Rattle.slices.proofs.Counts.{count-one, count-zero}
use Rattle.morton.specs.Keys.{key, level_of, code_of, above, parent, under, upwards, ancestors}
use Rattle.morton.specs.Anchors.{near, close}
use Rattle.morton.proofs.Cells.{above-up, key-parts, level_begins, code_at, at_self, parent-at}
use Rattle.morton.proofs.Nearness.{near-root, near_up}
use Rattle.tree.specs.Nodes.{cell_at, leaf, own_of}
use Rattle.tree.proofs.Rules.{WellFormed}
use Rattle.tree.proofs.Stored.{distinct, above-mem, leaf-under, sourced-by}
use Rattle.tree.proofs.Sourced.{under-self}
use Rattle.rows.specs.Lists.{in_u, in_v, u_row, v_row}
use Rattle.rows.specs.Demand3.{brings, meetings}
use Rattle.rows.proofs.RowTests.{count-u, count-v, u-test, u-leaf, v-test, v-facts}

-- b and s, both taken at level m, coincide or touch
abbrev near_at : ℕ → ℕ → ℕ → ℕ → Bool
near_at d m b s = near d d m (above d (level_of b - m) (code_of b)) (above d (level_of s - m) (code_of s))

near_at-up : (d m b s : ℕ) → m < level_of b → m < level_of s → near_at d (suc m) b s ≡ true → near_at d m b s ≡ true
near_at-up d m b s p q h = rw (above-up d m (level_of b) (code_of b) p, above-up d m (level_of s) (code_of s) q) at
    (near_up d d m (above d (level_of b - suc m) (code_of b)) (above d (level_of s - suc m) (code_of s)) h)

-- what one level adds, as the pair parts or stays together
step : (a b : Bool) → (b ≡ true → a ≡ true) → bit (a && not b) + bit b ≡ bit a
step true true h = refl
step true false h = refl
step false true h = let e = h refl in cc
step false false h = refl

module _ (d : ℕ) (keys own begin : List ℕ) (w : WellFormed d keys own begin) (b s : ℕ) (lb : leaf d keys b ≡ true) (ms : Mem s keys) (ls : leaf d keys s ≡ true) (os : 0 < own_of keys own s) where
  pub in-u : brings d s (u_row d keys own b) ≡ bit (close d b s)
  in-u =
      let test : (in_u d keys own b s && under d s s) ≡ close d b s = rw (u-test d keys own b s ms ls os, under-self d s) (and-true _) in
      count-u d keys own (λ x. under d x s) b lb
      ∙ count-one (λ x. in_u d keys own b x && under d x s) keys (distinct d keys w.ascending) s ms
      (λ x m h. leaf-under d keys w.ascending w.parents x s (u-leaf d keys own b x (and_l _ _ h)) ms (and_r (in_u d keys own b x) _ h))
      ∙ ap bit test

  -- how often the V row of b's cell at level l brings s
  met : ℕ → ℕ
  met l = brings d s (v_row d keys own (cell_at d l b))

  -- s's cell at level suc l is in the V row of b's cell there if they part between levels l and suc l
  part : (l : ℕ) → suc l ≤ level_of b → suc l ≤ level_of s
      → (in_v d keys own (cell_at d (suc l) b) (cell_at d (suc l) s) && under d (cell_at d (suc l) s) s) ≡ (near_at d l b s && not (near_at d (suc l) b s))
  part l p q =
      rw (
        holds,
        v-test d keys own (cell_at d (suc l) b) (cell_at d (suc l) s) _ _ l (level_begins d (suc l) b p) (level_begins d (suc l) s q) (code_at d (suc l) b p) (code_at d (suc l) s q)
            (sourced-by d keys own (cell_at d (suc l) s) s ms os holds),
        above-up d l (level_of b) (code_of b) p,
        above-up d l (level_of s) (code_of s) q,
      ) (and-true _)
    where
      holds : under d (cell_at d (suc l) s) s ≡ true
      holds = rw (level_begins d (suc l) s q, code_at d (suc l) s q)
          (both (le-leb (suc l) (level_of s) q) (eq-eqb (above d (level_of s - suc l) (code_of s)) (above d (level_of s - suc l) (code_of s)) refl))

  -- and no other cell there holds s
  level-of : (l x : ℕ) → suc l ≤ level_of b → (in_v d keys own (cell_at d (suc l) b) x && under d x s) ≡ true
      → (level_of x ≡ suc l) × (suc l ≤ level_of s) × (above d (level_of s - suc l) (code_of s) ≡ code_of x)
  level-of l x p h =
      let e = (v-facts d keys own (cell_at d (suc l) b) x (and_l _ _ h)).level ∙ level_begins d (suc l) b p in
      let u : under d x s ≡ true = and_r (in_v d keys own (cell_at d (suc l) b) x) _ h in
      (e, rw e at (leb-true (level_of x) (level_of s) (and_l _ _ u)), rw e at (eqb-true (above d (level_of s - level_of x) (code_of s)) (code_of x) (and_r (leb (level_of x) (level_of s)) _ u)))

  met-there : (l : ℕ) → suc l ≤ level_of b → suc l ≤ level_of s → met (suc l) ≡ bit (near_at d l b s && not (near_at d (suc l) b s))
  unfolding met
  met-there l p q = count-v d keys own (λ c. under d c s) (cell_at d (suc l) b)
      ∙ count-one (λ x. in_v d keys own (cell_at d (suc l) b) x && under d x s) keys (distinct d keys w.ascending) (cell_at d (suc l) s)
      (above-mem d keys w.ascending w.parents s (suc l) ms q)
      (λ x m h. let (e, i, u) = level-of l x p h in sym (key-parts x) ∙ ap₂ key e (sym u))
      ∙ ap bit (part l p q)

  met-nowhere : (l : ℕ) → suc l ≤ level_of b → level_of s ≤ l → met (suc l) ≡ 0
  unfolding met
  met-nowhere l p q = count-v d keys own (λ c. under d c s) (cell_at d (suc l) b)
      ∙ count-zero (λ x. in_v d keys own (cell_at d (suc l) b) x && under d x s) keys (λ x m h. omega (arith, (level-of l x p h).1))

  -- the root's V row is empty
  met-root : met 0 ≡ 0
  unfolding met
  met-root = count-v d keys own (λ c. under d c s) (cell_at d 0 b)
      ∙ count-zero (λ x. in_v d keys own (cell_at d 0 b) x && under d x s) keys (λ x m h. omega (arith, (v-facts d keys own (cell_at d 0 b) x (and_l _ _ h)).deep))

  -- over the V rows of b's cell at level l and its ancestors
  over : ℕ → ℕ
  over l = sum (map (λ a. brings d s (v_row d keys own a)) (upwards l d (cell_at d l b)))

  over-more : (l : ℕ) → suc l ≤ level_of b → over (suc l) ≡ met (suc l) + over l
  unfolding over met sum upwards
  over-more l p = ap (λ c. met (suc l) + sum (map (λ a. brings d s (v_row d keys own a)) (upwards l d c))) (parent-at d l b p)

  telescope : (l : ℕ) → l ≤ level_of b → over l + bit (near_at d (min l (level_of s)) b s) ≡ 1
  unfolding over met sum upwards
  telescope zero p = rw (zero-min (level_of s), near-root d d) (omega (arith, met-root))
  telescope (suc l) p = go (dec_lt l (level_of s)) (telescope l (omega arith))
    where
      go : Dec (l < level_of s) → over l + bit (near_at d (min l (level_of s)) b s) ≡ 1 → over (suc l) + bit (near_at d (min (suc l) (level_of s)) b s) ≡ 1
      go (yes h) ih =
          let e : min (suc l) (level_of s) ≡ suc l = omega arith in
          let f : min l (level_of s) ≡ l = omega arith in
          rw e (omega (arith, over-more l p, met-there l p h, rw f at ih, step (near_at d l b s) (near_at d (suc l) b s) (near_at-up d l b s p h)))
      go (no n) ih =
          let e : min (suc l) (level_of s) ≡ level_of s = omega arith in
          let f : min l (level_of s) ≡ level_of s = omega arith in
          rw e (omega (arith, over-more l p, met-nowhere l p (omega arith), rw f at ih))

  pub meet-once : meetings d (u_row d keys own) (v_row d keys own) b s ≡ 1
  unfolding over
  meet-once =
      let t = telescope (level_of b) (le_refl _) in
      let e : over (level_of b) ≡ sum (map (λ a. brings d s (v_row d keys own a)) (ancestors d b)) = ap (λ c. sum (map (λ a. brings d s (v_row d keys own a)) (upwards (level_of b) d c))) (at_self d b) in
      omega (arith, in-u, t, e)
