-- The steps of a lookup that is not refused: with the leaf's level they make up the depth, and they are at most 15.
use mathlib.Core.Path.{◌≡◌, refl, sym, ◌∙◌, subst}
use mathlib.Core.List.{List, [], ◌∷◌, map}
use Prim.Native.Nat.{ℕ, suc, ◌*◌, ◌-◌, ◌≤◌, ◌<◌}
use native.Mathlib.Omega.{arith}
use lib.Dec.{eqb}
use lib.Ieee.{Float}
use lib.ListN.{length, get_or}
use borrow.Author.Tests.{eqb-true}
use Rattle.refusal.specs.declared.Refusal.TheVariants.{Point, Unstored}
use Rattle.refusal.specs.Chain.{ask, ◌then◌}
use Rattle.refusal.proofs.Chain.{asked, both-done}
use Rattle.slices.specs.Lists.{sum}
use Rattle.space.specs.declared.Box.{Box}
use Rattle.space.specs.Cells.{frame_of, inside, code16}
use Rattle.space.specs.Walls.{first_wall}
use Rattle.space.proofs.Batches.{codes-length}
use Rattle.space.specs.Rows.{rows_of, rows_inside}
use Rattle.tree.specs.Columns.{columns}
use Rattle.grouping.proofs.Passing.{passing-before}
use Rattle.space.proofs.Refusals.{fine}
use Rattle.morton.proofs.Checks.{axes-known}
use Rattle.tree.specs.Leaves.{held, leaf_key, steps_to}
use Rattle.lookup.specs.declared.Holder.{Holder}
use Rattle.lookup.specs.Lookup.{Steps, BatchSteps}
use Rattle.lookup.specs.Batch.{held_before, steps_sum, codes_inside, call_outcome, points_outcome, lookup_outcome}
use Rattle.lookup.specs.Single.{tree_outcome, leaf_for, single_outcome, point_to_leaf}
use Rattle.lookup.proofs.TreeRule.{tree-keys}
use Rattle.lookup.proofs.Leaves.{steps-to}
use Rattle.lookup.proofs.Single.{tree-fine}
use Rattle.lookup.proofs.Calls.{checked, found-is}
use Rattle.refusal.specs.Outcome.{Answer, Outcome, accepted}
use Rattle.std.specs.Prelude.{Err, Ok, IfOk}

-- ---- one point
module _ (b : Box) (keys own begin total : List ℕ) (xs : List Float) where
  abbrev code : ℕ
  code = code16 (frame_of b) xs

  steps-of : single_outcome b (columns keys own begin total) xs ≡ accepted → Steps keys (leaf_key b.axes keys code) (steps_to b.axes keys code)
  steps-of e =
      let third = both-done (tree_outcome b (columns keys own begin total) then ask (inside (frame_of b) xs) (Point (first_wall 0 (frame_of b) xs))) (ask (held b.axes keys code) (Unstored 0)) e in
      let second = both-done (tree_outcome b (columns keys own begin total)) (ask (inside (frame_of b) xs) (Point (first_wall 0 (frame_of b) xs))) third.0 in
      let (box, rule) = tree-fine b keys own begin total second.0 in
      let f = fine b box in
      let tree = tree-keys b.axes keys own begin total (axes-known b.axes f.least f.most) rule in
      steps-to b.axes keys tree code (asked (held b.axes keys code) (Unstored 0) third.1)

  pub point-steps : IfOk (point_to_leaf b (columns keys own begin total) xs) (λ leaf. Steps keys leaf.key leaf.steps)
  point-steps = go (single_outcome b (columns keys own begin total) xs) refl
    where
      go : (o : Outcome) → single_outcome b (columns keys own begin total) xs ≡ o → IfOk (o then Ok (leaf_for b.axes keys code)) (λ leaf. Steps keys leaf.key leaf.steps)
      go (Ok tt) e = steps-of e
      go (Err r) e = tt

  pub with-steps : (r : Answer Holder) → r ≡ point_to_leaf b (columns keys own begin total) xs → (r ≡ point_to_leaf b (columns keys own begin total) xs) × IfOk r (λ leaf. Steps keys leaf.key leaf.steps)
  with-steps r q = (q, subst (λ (r : Answer Holder). IfOk r (λ leaf. Steps keys leaf.key leaf.steps)) (sym q) point-steps)

-- ---- a batch
sum-few : (f : ℕ → ℕ) (xs : List ℕ) → ((i : ℕ) → i < length xs → f (get_or xs i 0) ≤ 15) → sum (map f xs) ≤ 15 * length xs
unfolding sum
sum-few f [] h = omega arith
sum-few f (x ∷ xs) h = omega (arith, h 0 (omega arith), sum-few f xs (λ i l. h (suc i) (omega arith)))

module _ (b : Box) (keys own begin total : List ℕ) (xs : List Float) (room : ℕ) where
  abbrev codes : List ℕ
  codes = codes_inside b xs

  pub batch-steps : (r : Answer ℕ) → r ≡ lookup_outcome b (columns keys own begin total) xs room then Ok (steps_sum b.axes keys (codes_inside b xs))
      → (n : ℕ) → r ≡ Ok n → BatchSteps b.axes keys (codes_inside b xs) (rows_of b xs) n
  unfolding points_outcome
  batch-steps r q n e =
      let whole = found-is (lookup_outcome b (columns keys own begin total) xs room) (steps_sum b.axes keys codes) n (sym q ∙ e) in
      let parts = both-done (call_outcome b (columns keys own begin total) xs room) (points_outcome b keys xs) whole.0 in
      let call = checked b keys own begin total xs room parts.0 in
      let p = both-done (ask (eqb (held_before b.axes keys codes) (rows_inside b xs)) _) (ask (eqb (rows_inside b xs) (rows_of b xs)) _) parts.1 in
      let all : held_before b.axes keys codes ≡ rows_inside b xs = eqb-true (held_before b.axes keys codes) (rows_inside b xs) (asked _ _ p.0) in
      let rows : rows_inside b xs ≡ rows_of b xs = eqb-true (rows_inside b xs) (rows_of b xs) (asked _ _ p.1) in
      let long : length codes ≡ rows_inside b xs = codes-length (rows_inside b xs) (frame_of b) xs in
      let each : (i : ℕ) → i < rows_of b xs → Steps keys (leaf_key b.axes keys (get_or codes i 0)) (steps_to b.axes keys (get_or codes i 0)) =
      λ i l. steps-to b.axes keys call.tree (get_or codes i 0) (passing-before (held b.axes keys) codes i (omega (arith, all, rows))) in
      record { each = each; few = omega (arith, whole.1, long, rows, sum-few (steps_to b.axes keys) codes (λ i l. (each i (omega (arith, long, rows))).few)) }

  pub both-steps : {A : Type 0} (r : Answer ℕ) → r ≡ lookup_outcome b (columns keys own begin total) xs room then Ok (steps_sum b.axes keys (codes_inside b xs)) → A
      → (r ≡ lookup_outcome b (columns keys own begin total) xs room then Ok (steps_sum b.axes keys (codes_inside b xs))) × (A × ((n : ℕ) → r ≡ Ok n → BatchSteps b.axes keys (codes_inside b xs) (rows_of b xs) n))
  both-steps r q a = (q, (a, batch-steps r q))
