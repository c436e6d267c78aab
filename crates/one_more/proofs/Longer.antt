-- The list with one source more: its rows, their codes, and that all are inside.
use mathlib.Core.Path.{◌≡◌, sym, ap, ap₂, ◌∙◌, subst}
use mathlib.Core.Bool.{true, ◌&&◌}
use mathlib.Core.List.{List, [], ◌∷◌}
use mathlib.Core.Logic.{◌⊎◌, inl, inr}
use Prim.Native.Nat.{ℕ, suc, ◌+◌, ◌*◌, ◌-◌, ◌/◌, ◌%◌, ◌≤◌, ◌<◌}
use native.Mathlib.Omega.{arith}
use native.Mathlib.Nat.{div-add-mod', mul-div_left, mul-mod_left, suc-mul, zero-div, mul-le-mul_right}
use lib.Ieee.{Float, nan}
use lib.ListN.{length, get_or, take, drop, length-append, get_or-append}
use lib.Seq.{ext_get_or, get_or-drop, get_or-take, get_or-append-add, length-take-le}
use Rattle.slices.proofs.Tests.{clash, lt-or-le}
use Rattle.morton.specs.Anchors.{encode}
use Rattle.space.specs.declared.Box.{Box}
use Rattle.space.specs.declared.Frame.{Frame}
use Rattle.space.specs.declared.Place.{Place}
use Rattle.space.specs.Cells.{frame_of, cell16, is_at, place_number, inside, anchors16, code16}
use Rattle.space.specs.Rows.{rows_of, rows_inside, codes16}
use Rattle.space.proofs.Batches.{codes-length, code-at-row, rows-le, row_inside, row-outside}
use Rattle.space.proofs.Refusals.{Fine, fine}
use Rattle.space.proofs.Unread.{point-unread}
use Rattle.laying.specs.Points.{codes_of}
use Rattle.further.specs.Further.{further}
use Rattle.one_more.specs.More.{longer_of}
use Rattle.one_more.specs.Steps.{Sound}

-- points that agree on the axes are both inside or not, and have one code
module _ (f : Frame) (xs ys : List Float) (same : (a : ℕ) → a < f.axes → get_or ys a nan ≡ get_or xs a nan) where
  cells : (a : ℕ) → cell16 f ys a ≡ cell16 f xs a
  cells = point-unread f xs ys same

  pub inside-same : inside f ys ≡ inside f xs
  unfolding inside
  inside-same = ap₂ (λ (p q : Place). is_at p && (is_at q && is_at (cell16 f ys 2))) (cells 0) (cells 1) ∙ ap (λ (r : Place). is_at (cell16 f xs 0) && (is_at (cell16 f xs 1) && is_at r)) (cells 2)

  pub code_same : code16 f ys ≡ code16 f xs
  unfolding code16 anchors16
  code_same =
      ap (encode f.axes f.axes 16)
      (ap₂ (λ (p q : Place). place_number p ∷ place_number q ∷ place_number (cell16 f ys 2) ∷ []) (cells 0) (cells 1) ∙ ap (λ (r : Place). place_number (cell16 f xs 0) ∷ place_number (cell16 f xs 1) ∷ place_number r ∷ []) (cells 2))

pub no_rows : (b : Box) → rows_of b [] ≡ 0
no_rows b = zero-div b.axes

pub no-codes : (b : Box) → codes_of b [] ≡ []
unfolding codes16
no-codes b = ap (λ (m : ℕ). codes16 m (frame_of b) []) (no_rows b)

module _ (b : Box) (sources point : List Float) (w : Sound b sources point) where
  pub known : Fine b
  known = fine b w.box

  abbrev n : ℕ
  n = rows_of b sources

  abbrev longer : List Float
  longer = longer_of b sources point

  size : length sources ≡ n * b.axes
  size = omega (arith, div-add-mod' (length sources) b.axes, w.whole)

  pub new-long : length (take b.axes point) ≡ b.axes
  new-long = length-take-le b.axes point (omega (arith, known.most, w.long))

  all-long : length longer ≡ suc n * b.axes
  all-long = omega (arith, length-append sources (take b.axes point), size, new-long, suc-mul n b.axes)

  pub rows-longer : rows_of b (longer_of b sources point) ≡ suc (rows_of b sources)
  rows-longer = ap (λ (x : ℕ). x / b.axes) all-long ∙ mul-div_left (suc n) {n = b.axes} (omega (arith, known.least))

  pub whole-longer : length (longer_of b sources point) % b.axes ≡ 0
  whole-longer = ap (λ (x : ℕ). x % b.axes) all-long ∙ mul-mod_left (suc n) b.axes

  -- the former rows, and the last
  former : (i : ℕ) → i < n → (a : ℕ) → a < b.axes → get_or (drop (i * b.axes) longer) a nan ≡ get_or (drop (i * b.axes) sources) a nan
  former i l a h =
      get_or-drop (i * b.axes) longer a nan
      ∙ get_or-append sources (take b.axes point) nan (i * b.axes + a) (omega (arith, h, size, mul-le-mul_right {m = suc i} {n = n} b.axes l, suc-mul i b.axes))
      ∙ sym (get_or-drop (i * b.axes) sources a nan)

  last : (a : ℕ) → a < b.axes → get_or (drop (n * b.axes) longer) a nan ≡ get_or (take b.axes point) a nan
  last a h =
      get_or-drop (n * b.axes) longer a nan
      ∙ ap (λ (x : ℕ). get_or longer (x + a) nan) (sym size)
      ∙ get_or-append-add sources (take b.axes point) a nan

  pub former-code : (i : ℕ) → i < rows_of b sources → code16 (frame_of b) (drop (i * b.axes) (longer_of b sources point)) ≡ code16 (frame_of b) (drop (i * b.axes) sources)
  former-code i l = code_same (frame_of b) (drop (i * b.axes) sources) (drop (i * b.axes) longer) (former i l)

  pub last_code : code16 (frame_of b) (drop (rows_of b sources * b.axes) (longer_of b sources point)) ≡ code16 (frame_of b) (take b.axes point)
  last_code = code_same (frame_of b) (take b.axes point) (drop (n * b.axes) longer) last

  pub new-inside : inside (frame_of b) (take b.axes point) ≡ true
  new-inside = inside-same (frame_of b) point (take b.axes point) (λ a h. get_or-take b.axes point a nan h) ∙ w.point_inside

  each : (i : ℕ) → i < suc n → inside (frame_of b) (drop (i * b.axes) longer) ≡ true
  each i l = go (lt-or-le i n)
    where
      go : (i < n) ⊎ (n ≤ i) → inside (frame_of b) (drop (i * b.axes) longer) ≡ true
      go (inl q) =
          inside-same (frame_of b) (drop (i * b.axes) sources) (drop (i * b.axes) longer) (former i q)
          ∙ row_inside n i (frame_of b) sources (subst (λ (x : ℕ). i < x) (sym w.insides) q)
      go (inr q) =
          let e : n ≡ i = omega arith in
          subst (λ (x : ℕ). inside (frame_of b) (drop (x * b.axes) longer) ≡ true) e
          (inside-same (frame_of b) (take b.axes point) (drop (n * b.axes) longer) last ∙ new-inside)

  pub insides-longer : rows_inside b (longer_of b sources point) ≡ rows_of b (longer_of b sources point)
  insides-longer = go (lt-or-le (rows_inside b longer) (rows_of b longer))
    where
      go : (rows_inside b longer < rows_of b longer) ⊎ (rows_of b longer ≤ rows_inside b longer) → rows_inside b longer ≡ rows_of b longer
      go (inl l) = absurd (clash (each (rows_inside b longer) (omega (arith, l, rows-longer))) (row-outside (rows_of b longer) (frame_of b) longer l))
      go (inr l) = omega (arith, rows-le (rows_of b longer) (frame_of b) longer)

  -- the new source by itself
  pub one-row : rows_of b (take b.axes point) ≡ 1
  one-row = ap (λ (x : ℕ). x / b.axes) (new-long ∙ sym (omega (arith, suc-mul 0 b.axes))) ∙ mul-div_left 1 {n = b.axes} (omega (arith, known.least))

  -- the codes of the longer list are the former codes and the new source's
  pub codes-longer : codes_of b (longer_of b sources point) ≡ further (codes_of b sources) (code16 (frame_of b) point)
  codes-longer = ext_get_or 0 (codes_of b longer) (further (codes_of b sources) new) (l₁ ∙ sym l₂) (λ i l. go i (omega (arith, l, l₁)) (lt-or-le i n))
    where
      new : ℕ
      new = code16 (frame_of b) point

      l₀ : length (codes_of b sources) ≡ n
      l₀ = codes-length n (frame_of b) sources

      l₁ : length (codes_of b longer) ≡ suc n
      l₁ = codes-length (rows_of b longer) (frame_of b) longer ∙ rows-longer

      l₂ : length (further (codes_of b sources) new) ≡ suc n
      l₂ = length-append (codes_of b sources) (new ∷ []) ∙ omega (arith, l₀)

      go : (i : ℕ) → i < suc n → (i < n) ⊎ (n ≤ i) → get_or (codes_of b longer) i 0 ≡ get_or (further (codes_of b sources) new) i 0
      go i l (inl q) =
          code-at-row (rows_of b longer) i (frame_of b) longer (omega (arith, l, rows-longer))
          ∙ former-code i q
          ∙ sym (code-at-row n i (frame_of b) sources q)
          ∙ sym (get_or-append (codes_of b sources) (new ∷ []) 0 i (omega (arith, q, l₀)))
      go i l (inr q) =
          let e : i ≡ n = omega arith in
          let z : i ≡ length (codes_of b sources) + 0 = omega (arith, e, l₀) in
          code-at-row (rows_of b longer) i (frame_of b) longer (omega (arith, l, rows-longer))
          ∙ ap (λ (x : ℕ). code16 (frame_of b) (drop (x * b.axes) longer)) e
          ∙ last_code
          ∙ code_same (frame_of b) point (take b.axes point) (λ a h. get_or-take b.axes point a nan h)
          ∙ sym (ap (λ (x : ℕ). get_or (further (codes_of b sources) new) x 0) z ∙ get_or-append-add (codes_of b sources) (new ∷ []) 0 0)
