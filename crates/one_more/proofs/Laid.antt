-- The codes of the longer list in the work, behind as many free places.
use mathlib.Core.Path.{◌≡◌, refl, sym, ap, ap₂, ◌∙◌, subst}
use mathlib.Core.Bool.{Bool, cond}
use mathlib.Core.List.{List, [], ◌++◌}
use mathlib.Core.Logic.{◌⊎◌, inl, inr}
use Prim.Native.Nat.{ℕ, suc, ◌+◌, ◌*◌, ◌-◌, ◌≤◌, ◌<◌}
use native.Mathlib.Omega.{arith}
use native.Mathlib.Nat.{add-zero, zero-mul}
use lib.Ieee.{Float}
use lib.ListN.{length, get_or, take, drop, length-append, length-drop, drop_of_length-le}
use lib.Seq.{slice, ext_get_or, length-slice, length-take-le, get_or-append-add}
use borrow.Author.Tests.{eq-eqb}
use borrow.Rule.Slice.PartMut.{put_mid}
use Rattle.slices.specs.Order.{ascending}
use Rattle.slices.proofs.Parts.{put-tail}
use Rattle.slices.proofs.Tests.{lt-or-le}
use Rattle.dealing.proofs.Frames.{slice_at}
use Rattle.space.specs.declared.Box.{Box}
use Rattle.space.specs.Cells.{frame_of, code16}
use Rattle.space.specs.Rows.{rows_of, rows_inside, inside_rows}
use Rattle.space.proofs.Batches.{codes-length, code-at-row}
use Rattle.laying.specs.Points.{codes_of}
use Rattle.laying.specs.Outcomes.{inside_outcome, work_need}
use Rattle.laying.specs.Layout.{Laid, CodesLaid, PointsLaid}
use Rattle.one_more.specs.More.{longer_of}
use Rattle.one_more.specs.Steps.{Sound}
use Rattle.one_more.proofs.Longer.{known, rows-longer, former-code, last_code, new-inside, one-row, no_rows, no-codes}
use Rattle.refusal.specs.Outcome.{accepted}

module _ (b : Box) (sources point : List Float) (s : Sound b sources point) where
  new-insides : rows_inside b (take b.axes point) ≡ rows_of b (take b.axes point)
  unfolding inside_rows
  new-insides =
      ap (λ (m : ℕ). inside_rows m (frame_of b) (take b.axes point)) (one-row b sources point s)
      ∙ ap (λ (t : Bool). cond t 1 0) (new-inside b sources point s) ∙ sym (one-row b sources point s)

  -- nothing is outside
  pub all_in : inside_outcome b sources (take b.axes point) ≡ accepted
  unfolding inside_outcome
  all_in = rw (eq-eqb (rows_inside b sources) (rows_of b sources) s.insides, eq-eqb (rows_inside b (take b.axes point)) (rows_of b (take b.axes point)) new-insides)

  pub code-needs : (room : ℕ) → 2 * suc (rows_of b sources) ≤ suc room → (1 ≤ b.axes) × (b.axes ≤ 3) × (work_need b sources (take b.axes point) ≤ room)
  code-needs room h = ((known b sources point s).least, (known b sources point s).most, omega (arith, one-row b sources point s))

module _ (b : Box) (sources point : List Float) (s : Sound b sources point) (w₀ w' w : List ℕ) (room : 2 * suc (rows_of b sources) ≤ length w₀) (kept : length w' ≡ length w₀ - 1)
    (put : w ≡ put_mid 1 (length w₀ - 1) w₀ w') (laid : CodesLaid b sources (take b.axes point) w') where
  abbrev n : ℕ
  n = rows_of b sources

  abbrev longer : List Float
  longer = longer_of b sources point

  behind : w ≡ take 1 w₀ ++ w'
  behind = put ∙ put-tail 1 w₀ w'

  one : length (take 1 w₀) ≡ 1
  one = length-take-le 1 w₀ (omega (arith, room))

  long : length w ≡ length w₀
  long = ap length behind ∙ length-append (take 1 w₀) w' ∙ omega (arith, one, kept, room)

  at : (i : ℕ) → get_or w (suc i) 0 ≡ get_or w' i 0
  at i =
      let e : suc i ≡ length (take 1 w₀) + i = omega (arith, one) in
      ap₂ (λ (xs : List ℕ) (j : ℕ). get_or xs j 0) behind e ∙ get_or-append-add (take 1 w₀) w' i 0

  -- the code at each place
  each : (i : ℕ) → i < suc n → get_or w (suc n + i) 0 ≡ get_or (codes_of b longer) i 0
  each i l =
      let e : suc n + i ≡ suc (n + i) = omega arith in
      ap (λ (j : ℕ). get_or w j 0) e ∙ at (n + i) ∙ go (lt-or-le i n) ∙ sym (code-at-row (rows_of b longer) i (frame_of b) longer (omega (arith, l, rows-longer b sources point s)))
    where
      first : code16 (frame_of b) (drop (0 * b.axes) (take b.axes point)) ≡ code16 (frame_of b) (take b.axes point)
      first = ap (λ (x : ℕ). code16 (frame_of b) (drop x (take b.axes point))) (zero-mul b.axes)

      go : (i < n) ⊎ (n ≤ i) → get_or w' (n + i) 0 ≡ code16 (frame_of b) (drop (i * b.axes) longer)
      go (inl q) =
          sym (slice_at n (2 * n) w' i (omega arith)) ∙ ap (λ (xs : List ℕ). get_or xs i 0) laid.sources_at ∙ code-at-row n i (frame_of b) sources q ∙ sym (former-code b sources point s i q)
      go (inr q) =
          let e : n ≡ i = omega arith in
          let z : n + i ≡ 2 * n + 0 = omega arith in
          let m = one-row b sources point s in
          ap (λ (j : ℕ). get_or w' j 0) z
          ∙ sym (slice_at (2 * n) (2 * n + rows_of b (take b.axes point)) w' 0 (omega (arith, m)))
          ∙ ap (λ (xs : List ℕ). get_or xs 0 0) laid.targets_begin
          ∙ code-at-row (rows_of b (take b.axes point)) 0 (frame_of b) (take b.axes point) (omega (arith, m))
          ∙ first
          ∙ sym (last_code b sources point s)
          ∙ ap (λ (x : ℕ). code16 (frame_of b) (drop (x * b.axes) longer)) e

  sources-there : slice (suc n) (2 * suc n) w ≡ codes_of b longer
  sources-there =
      let k = length-slice (suc n) (2 * suc n) w (omega (arith, long, room)) in
      ext_get_or 0 (slice (suc n) (2 * suc n) w) (codes_of b longer) (k ∙ omega arith ∙ sym (codes-length (rows_of b longer) (frame_of b) longer ∙ rows-longer b sources point s))
      (λ i l. let h : i < suc n = omega (arith, l, k) in slice_at (suc n) (2 * suc n) w i (omega arith) ∙ each i h)

  none : (x : ℕ) → x ≤ length w → slice x (x + rows_of b []) w ≡ ascending (codes_of b [])
  none x h =
      ap (λ (m : ℕ). slice x (x + m) w) (no_rows b) ∙ ap (λ (m : ℕ). drop x (take m w)) (add-zero x) ∙ drop_of_length-le (take x w) {i = x} (omega (arith, length-take-le x w h))
      ∙ empty ∙ ap ascending (sym (no-codes b))
    where
      empty : [] ≡ ascending []
      empty = unfold ascending in refl

  pub all_laid : PointsLaid b (longer_of b sources point) [] w
  all_laid = subst (λ (m : ℕ). Laid m (rows_of b []) (codes_of b longer) (ascending (codes_of b [])) w) (sym (rows-longer b sources point s))
      (record { sources_at = sources-there; targets_begin = none (2 * suc n) (omega (arith, long, room)) })

-- all but the first place
pub mid-long : (w : List ℕ) → length (take (length w - 1) (drop 1 w)) ≡ length w - 1
mid-long w = length-take-le (length w - 1) (drop 1 w) (omega (arith, length-drop 1 w))
