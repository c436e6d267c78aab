-- The neighbours of a key, once over the number of axes d: exactly the valid keys of its level that touch it and are not it, each once, in the direction rows' order.
use mathlib.Core.Path.{◌≡◌, sym, ap, ◌∙◌, subst}
use mathlib.Core.Bool.{true}
use mathlib.Core.Logic.{◌↔◌, ◌≢◌}
use Prim.Native.Nat.{ℕ, ◌+◌, ◌-◌, ◌^◌, ◌≤◌, ◌<◌}
use native.Mathlib.Omega.{arith}
use lib.Dec.{ltb, eqb}
use lib.IntN.{nat_abs}
use lib.ListN.{length, get_or}
use borrow.Author.Tests.{eqb-true, lt-ltb, eq-eqb}
use Rattle.slices.specs.Lists.{range, filter, Mem, Distinct}
use Rattle.slices.proofs.Tests.{and_l, and_r, both}
use Rattle.slices.proofs.Every.{every-at, every-all}
use Rattle.slices.proofs.Members.{map-mem, mem-map, filter-mem, mem-filter, range-mem, mem-range, filter-distinct, map-distinct, range-distinct}
use Rattle.codes.proofs.Codes.{anchor-lt}
use Rattle.codes.proofs.Entries.{tabled}
use Rattle.morton.specs.Keys.{level_of, code_of, ValidKey, axes_known}
use Rattle.morton.specs.Anchors.{anchor, anchors, on_level, within1, near, touching}
use Rattle.neighbours.specs.Directions.{directions, direction_row, ahead, moved, on_box, toward, neighbours, none}
use Rattle.morton.proofs.Nearness.{within, within-lo, within-hi}
use Rattle.morton.proofs.Checks.{facts-valid}
use Rattle.anchors.proofs.Placing.{anchors-at}
use Rattle.neighbours.proofs.Steps.{up, stays-lt, stays_all, stays_at}
use Rattle.neighbours.proofs.Tied.{step, step-le, row-unit, rows_tell, row-moves, row-for}
use Rattle.anchors.proofs.Laws.{level-made, made-anchor, encode-valid, same-cell}

module _ (d k : ℕ) (v : ValidKey d k) where
  known : axes_known d ≡ true
  known = (facts-valid d k v).0

  module _ (i : ℕ) (l : i < length (directions d)) (s : on_box d k i ≡ true) where
    on : on_level d (level_of k) (moved d (anchors d k) (direction_row d i)) ≡ true
    on = every-all (λ a. ltb (get_or (moved d (anchors d k) (direction_row d i)) a 0) (2 ^ level_of k)) d
        (λ a h. lt-ltb (get_or (moved d (anchors d k) (direction_row d i)) a 0) (2 ^ level_of k)
        (omega (arith, tabled (λ a. nat_abs (ahead (anchors d k) (direction_row d i) a)) d a h, stays-lt (level_of k) (anchors d k) (direction_row d i) d s a h)))

    toward-valid : ValidKey d (toward d k i)
    toward-valid = encode-valid d (level_of k) (moved d (anchors d k) (direction_row d i)) v.level on v.some v.most

    toward-level : level_of (toward d k i) ≡ level_of k
    toward-level = level-made d (level_of k) (moved d (anchors d k) (direction_row d i)) v.level on

    -- on each axis the anchor one step on, by the row
    toward-anchor : (a : ℕ) → a < d → anchor d a (level_of (toward d k i)) (code_of (toward d k i)) + 1 ≡ anchor d a (level_of k) (code_of k) + step d i a
    toward-anchor a h =
        omega (
          arith,
          made-anchor d (level_of k) (moved d (anchors d k) (direction_row d i)) v.level on a h,
          tabled (λ a. nat_abs (ahead (anchors d k) (direction_row d i) a)) d a h,
          stays_at (level_of k) (anchors d k) (direction_row d i) (row-unit d known i l) d v.most s a h,
          anchors-at d k a h,
        )

    toward-touches : touching d (toward d k i) k ≡ true
    unfolding near
    toward-touches =
        both (eq-eqb (level_of (toward d k i)) (level_of k) toward-level)
        (every-all (λ a. within1 (anchor d a (level_of (toward d k i)) (code_of (toward d k i))) (anchor d a (level_of (toward d k i)) (code_of k))) d
        (λ a h. let f : anchor d a (level_of (toward d k i)) (code_of k) ≡ anchor d a (level_of k) (code_of k) = ap (λ (l : ℕ). anchor d a l (code_of k)) toward-level in
        within (anchor d a (level_of (toward d k i)) (code_of (toward d k i))) (anchor d a (level_of (toward d k i)) (code_of k)) (omega (arith, toward-anchor a h, step-le (get_or (direction_row d i) a none))) (omega (arith, toward-anchor a h, step-le (get_or (direction_row d i) a none)))))

    toward-other : toward d k i ≢ k
    toward-other e =
        row-moves d known i l (λ a h. omega (arith, toward-anchor a h, ap (λ (x : ℕ). anchor d a (level_of x) (code_of x)) e))

  -- a cell that touches k, and the row that leads to it
  module _ (j : ℕ) (w : ValidKey d j) (t : touching d j k ≡ true) where
    level-same : level_of j ≡ level_of k
    level-same = eqb-true (level_of j) (level_of k) (and_l _ _ t)

    abbrev X : ℕ → ℕ
    X a = anchor d a (level_of j) (code_of j)

    abbrev Y : ℕ → ℕ
    Y a = anchor d a (level_of k) (code_of k)

    close-by : (a : ℕ) → a < d → (X a ≤ Y a + 1) × (Y a ≤ X a + 1)
    unfolding near
    close-by a h =
        let e : anchor d a (level_of j) (code_of k) ≡ Y a = ap (λ (l : ℕ). anchor d a l (code_of k)) level-same in
        let b = every-at (λ a. within1 (X a) (anchor d a (level_of j) (code_of k))) d (and_r (eqb (level_of j) (level_of k)) _ t) a h in
        (omega (arith, within-lo (X a) (anchor d a (level_of j) (code_of k)) b), omega (arith, within-hi (X a) (anchor d a (level_of j) (code_of k)) b))

    row-to : j ≢ k → (i : ℕ) × (i < length (directions d)) × ((a : ℕ) → a < d → step d i a ≡ X a + 1 - Y a)
    row-to n = row-for d known (λ a. X a + 1 - Y a) (λ a h. omega (arith, close-by a h))
        (λ same. n (same-cell d j k w v level-same (λ a h. omega (arith, same a h, close-by a h))))

    on_row : (i : ℕ) → i < length (directions d) → ((a : ℕ) → a < d → step d i a ≡ X a + 1 - Y a) → on_box d k i ≡ true
    on_row i l steps = stays_all (level_of k) (anchors d k) (direction_row d i) (row-unit d known i l) d v.most reach
      where
        reach : (a : ℕ) → a < d → (1 ≤ up (anchors d k) (direction_row d i) a) × (up (anchors d k) (direction_row d i) a ≤ 2 ^ level_of k)
        reach a h =
            let e : up (anchors d k) (direction_row d i) a ≡ X a + 1 = omega (arith, anchors-at d k a h, steps a h, close-by a h) in
            let lt : X a < 2 ^ level_of k = subst (λ (l : ℕ). X a < 2 ^ l) level-same (anchor-lt d a (level_of j) (code_of j)) in
            (omega arith, omega arith)

    row-leads : (i : ℕ) → i < length (directions d) → ((a : ℕ) → a < d → step d i a ≡ X a + 1 - Y a) → toward d k i ≡ j
    row-leads i l steps =
        let s = on_row i l steps in
        same-cell d (toward d k i) j (toward-valid i l s) w (toward-level i l s ∙ sym level-same)
        (λ a h. omega (arith, toward-anchor i l s a h, steps a h, close-by a h))

  -- the neighbours of a key are exactly the valid keys of its level that touch it and are not it
  pub neighbours-are : (j : ℕ) → Mem j (neighbours d k) ↔ (ValidKey d j × (touching d j k ≡ true) × (j ≢ k))
  neighbours-are j = (into, from)
    where
      into : Mem j (neighbours d k) → ValidKey d j × (touching d j k ≡ true) × (j ≢ k)
      into m =
          let r = mem-map (toward d k) (filter (on_box d k) (range 0 (length (directions d)))) j m in
          let f = mem-filter (on_box d k) (range 0 (length (directions d))) r.0 r.1 in
          let l = mem-range (length (directions d)) r.0 f.0 in
          subst (λ (x : ℕ). ValidKey d x × (touching d x k ≡ true) × (x ≢ k)) r.2
          (toward-valid r.0 l f.1, toward-touches r.0 l f.1, toward-other r.0 l f.1)

      from : ValidKey d j × (touching d j k ≡ true) × (j ≢ k) → Mem j (neighbours d k)
      from (w, t, n) =
          let r = row-to j w t n in
          subst (λ (x : ℕ). Mem x (neighbours d k)) (row-leads j w t r.0 r.1 r.2)
          (map-mem (toward d k) (filter (on_box d k) (range 0 (length (directions d)))) r.0
          (filter-mem (on_box d k) (range 0 (length (directions d))) r.0 (range-mem (length (directions d)) r.0 r.1) (on_row j w t r.0 r.1 r.2)))

  -- each once
  pub neighbours-once : Distinct (neighbours d k)
  neighbours-once =
      map-distinct (toward d k) (filter (on_box d k) (range 0 (length (directions d)))) tells (filter-distinct (on_box d k) (range 0 (length (directions d))) (range-distinct (length (directions d))))
    where
      tells : (x y : ℕ) → Mem x (filter (on_box d k) (range 0 (length (directions d)))) → Mem y (filter (on_box d k) (range 0 (length (directions d)))) → toward d k x ≡ toward d k y → x ≡ y
      tells x y mx my e =
          let fx = mem-filter (on_box d k) (range 0 (length (directions d))) x mx in
          let fy = mem-filter (on_box d k) (range 0 (length (directions d))) y my in
          let lx = mem-range (length (directions d)) x fx.0 in
          let ly = mem-range (length (directions d)) y fy.0 in
          rows_tell d known x y lx ly
          (λ a h. omega (arith, toward-anchor x lx fx.1 a h, toward-anchor y ly fy.1 a h, ap (λ (z : ℕ). anchor d a (level_of z) (code_of z)) e))
