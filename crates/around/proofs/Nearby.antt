-- Nearness one level up and more, by places and by codes.
use mathlib.Core.Path.{◌≡◌, refl, sym, ap, ap₂, ◌∙◌}
use mathlib.Core.Bool.{true}
use Prim.Native.Nat.{ℕ, zero, suc, ◌+◌, ◌*◌, ◌-◌, ◌/◌, ◌%◌, ◌^◌, ◌≤◌, ◌<◌, min}
use native.Mathlib.Omega.{arith}
use native.Mathlib.Nat.{mul-suc, add_comm}
use lib.Pow.{shr-shr}
use Rattle.slices.specs.Every.{every}
use Rattle.slices.proofs.Tests.{and_l, and_r, both, same_test}
use Rattle.morton.specs.Keys.{level_of, code_of, above, ValidKey, parent}
use Rattle.morton.specs.Anchors.{near, anchor, within1, close}
use Rattle.morton.proofs.Cells.{above_zero, level_begins, code_at, level-parent, code-parent}
use Rattle.morton.proofs.Nearness.{within, within-lo, within-hi}
use Rattle.tree.specs.Nodes.{cell_at}
use Rattle.places.specs.Places.{step_of, place_at, place_of, beside}
use Rattle.places.proofs.Laws.{beside-near, place-more}

near-turned : (n d level x y : ℕ) → near n d level x y ≡ true → near n d level y x ≡ true
unfolding near every
near-turned zero d level x y h = refl
near-turned (suc n) d level x y h =
    let w : within1 (anchor d n level x) (anchor d n level y) ≡ true = and_l _ _ h in
    both (within (anchor d n level y) (anchor d n level x) (within-hi (anchor d n level x) (anchor d n level y) w) (within-lo (anchor d n level x) (anchor d n level y) w))
    (near-turned n d level x y (and_r (within1 (anchor d n level x) (anchor d n level y)) _ h))

pub near-sym : (d level x y : ℕ) → near d d level x y ≡ near d d level y x
near-sym d level x y = same_test (near d d level x y) (near d d level y x) (near-turned d d level x y) (near-turned d d level y x)

pub near-self : (n d level x : ℕ) → near n d level x x ≡ true
unfolding near every
near-self zero d level x = refl
near-self (suc n) d level x = both (within (anchor d n level x) (anchor d n level x) (omega arith) (omega arith)) (near-self n d level x)

above_parent : (d m c : ℕ) → above d m (c / 2 ^ d) ≡ above d (suc m) c
above_parent d m c = shr-shr c d (d * m) ∙ ap (λ n. c / 2 ^ n) (add_comm d (d * m) ∙ sym (mul-suc d m))

-- of two cells the one with the higher level is taken at the other's
pub close-finer : (d b k : ℕ) → level_of b ≤ level_of k → near d d (level_of b) (code_of b) (code_of (cell_at d (level_of b) k)) ≡ close d b k
close-finer d b k h =
    let m : min (level_of b) (level_of k) ≡ level_of b = omega arith in
    let z : level_of b - level_of b ≡ 0 = omega arith in
    sym (rw (m, z, above_zero d (code_of b), code_at d (level_of b) k h) refl)

pub close-coarser : (d b k : ℕ) → level_of k ≤ level_of b → near d d (level_of (cell_at d (level_of k) b)) (code_of (cell_at d (level_of k) b)) (code_of k) ≡ close d b k
close-coarser d b k h =
    let m : min (level_of b) (level_of k) ≡ level_of k = omega arith in
    let z : level_of k - level_of k ≡ 0 = omega arith in
    sym (rw (m, z, above_zero d (code_of k), level_begins d (level_of k) b h, code_at d (level_of k) b h) refl)

-- a cell q and its parent p
module _ (d p q : ℕ) (deep : 0 < level_of q) (up : parent d q ≡ p) where
  pub up-level : suc (level_of p) ≡ level_of q
  up-level = omega (arith, ap level_of (sym up) ∙ level-parent d q)

  pub up-code : code_of p ≡ code_of q / 2 ^ d
  up-code = ap code_of (sym up) ∙ code-parent d q

  -- a cell above q's level is close to q as it is to q's parent
  pub close-above : (x : ℕ) → level_of x < level_of q → close d p x ≡ close d q x
  close-above x h = go (level_of p) (level_of q) (level_of x) (code_of p) (code_of q) (code_of x) up-level up-code h
    where
      go : (lp lq lx cp cq cx : ℕ) → suc lp ≡ lq → cp ≡ cq / 2 ^ d → lx < lq
          → near d d (min lp lx) (above d (lp - min lp lx) cp) (above d (lx - min lp lx) cx) ≡ near d d (min lq lx) (above d (lq - min lq lx) cq) (above d (lx - min lq lx) cx)
      go lp lq lx cp cq cx e r l =
          let u : min lp lx ≡ lx = omega arith in
          let v : min lq lx ≡ lx = omega arith in
          let f : lq - lx ≡ suc (lp - lx) = omega arith in
          let s : above d (lp - lx) cp ≡ above d (lq - lx) cq = ap (above d (lp - lx)) r ∙ above_parent d (lp - lx) cq ∙ ap (λ (m : ℕ). above d m cq) (sym f) in
          rw (u, v) (ap (λ z. near d d lx z (above d (lx - lx) cx)) s)

  -- its place, by its index among the parent's children
  pub child-place : (s : ℕ) → s ≡ code_of q % 2 ^ d → step_of s + 2 * place_of d p ≡ place_of d q
  child-place s e =
      ap (λ n. step_of n + 2 * place_of d p) e
      ∙ place-more d (level_of q) (code_of q) (place_of d p) deep (ap (place_of d) (sym up) ∙ ap₂ (place_at d) (level-parent d q) (code-parent d q))

-- at one level the test by places is the test of nearness
pub touch-near : (d q x : ℕ) → ValidKey d q → level_of x ≡ level_of q → beside (place_of d x) (place_of d q) 0 ≡ near d d (level_of q) (code_of q) (code_of x)
touch-near d q x v e =
    let g : level_of q ≡ 0 + level_of x = omega arith in
    ap (λ n. beside (place_of d x) (place_at d n (code_of q)) 0) g
    ∙ beside-near d (level_of x) 0 (code_of x) (code_of q) v.some v.most (omega (arith, v.level))
    ∙ ap₂ (λ l y. near d d l (code_of x) y) e (above_zero d (code_of q)) ∙ near-sym d (level_of q) (code_of x) (code_of q)
