-- The points of a build: which is the first that is outside, and the codes where none is.
use mathlib.Core.Path.{◌≡◌, refl, sym, ap, ◌∙◌}
use mathlib.Core.Bool.{Bool, true, false, not}
use mathlib.Core.List.{List, ◌++◌}
use Prim.Native.Nat.{ℕ, ◌+◌, ◌*◌, ◌≤◌, ◌<◌}
use native.Mathlib.Nat.{le_of_eq}
use native.Mathlib.Omega.{arith}
use lib.Ieee.{Float}
use lib.ListN.{length, set, drop, replicate, length-replicate}
use borrow.Author.Tests.{eq-eqb, ne_eqb}
use Rattle.refusal.specs.declared.Refusal.TheVariants.{Source, Point}
use Rattle.refusal.specs.declared.Refusal.{Refusal}
use Rattle.refusal.specs.declared.Wall.{Wall}
use Rattle.space.specs.declared.Box.{Box}
use Rattle.space.specs.declared.Frame.{Frame}
use Rattle.space.specs.Cells.{frame_of, inside, code16, located_of}
use Rattle.space.specs.Walls.{first_wall}
use Rattle.space.specs.Rows.{codes16, first_outside, coded, rows_of, rows_inside}
use Rattle.space.proofs.Points.{located-in, located-out}
use Rattle.space.proofs.Batches.{Written, written_none, row-there, written-more, written-stop, written_all, all-inside, one_outside}
use Rattle.laying.specs.Points.{codes_of}
use Rattle.laying.specs.Outcomes.{inside_outcome}
use Rattle.std.specs.Prelude.{Err, Ok, None, Option, Some, is_some, MatchResult, IsErrAnd}
use Rattle.space.specs.Inside.{Inside, all_inside}
use Rattle.refusal.specs.Outcome.{Outcome, accepted}
use Rattle.refusal.specs.Chain.{◌then◌}
use Rattle.refusal.proofs.Chain.{never}

-- ---- a point that is located is inside
module _ (f : Frame) (xs : List Float) where
  pub is_lost : (o : Option (List ℕ)) (t : Bool) → o ≡ located_of f xs → is_some o ≡ not t → t ≡ true → inside f xs ≡ false
  is_lost None t e h g = located-out f xs e
  is_lost (Some p) true e h g = let z : ◌≡◌ {A = ℕ} 0 1 = cc in absurd (omega arith)
  is_lost (Some p) false e h g = let z : ◌≡◌ {A = ℕ} 0 1 = cc in absurd (omega arith)

  pub is-found : (o : Option (List ℕ)) (t : Bool) → o ≡ located_of f xs → is_some o ≡ not t → t ≡ false → inside f xs ≡ true
  is-found (Some p) t e h g = (located-in f xs p e).0
  is-found None true e h g = let z : ◌≡◌ {A = ℕ} 0 1 = cc in absurd (omega arith)
  is-found None false e h g = let z : ◌≡◌ {A = ℕ} 0 1 = cc in absurd (omega arith)

-- ---- the refusal of a wall
abbrev pub walled : (Wall → Refusal) → Inside → Outcome
walled f (Ok tt) = accepted
walled f (Err w) = Err (f w)

pub walled-done : (f : Wall → Refusal) (i : Inside) → walled f i ≡ accepted → i ≡ all_inside
walled-done f (Ok tt) e = refl
walled-done f (Err w) e = absurd (never (f w) e)

-- what `map_err` makes of a wall
pub wall-mapped : (f : Wall → Refusal) (i j : Inside) (a : Outcome) → i ≡ j → MatchResult i (λ x. a ≡ Ok x) (λ w. IsErrAnd a (λ r. r ≡ f w)) → a ≡ walled f j
wall-mapped f i j a e h = go i a h ∙ ap (walled f) e
  where
    go : (i : Inside) (a : Outcome) → MatchResult i (λ x. a ≡ Ok x) (λ w. IsErrAnd a (λ r. r ≡ f w)) → a ≡ walled f i
    go (Ok tt) a h = h
    go (Err w) (Err r) h = ap Err h
    go (Err w) (Ok x) h = absurd h

-- ---- a pass that only tests: as if the codes went into a list of zeros
pub record Tested (n : ℕ) (f : Frame) (xs : List Float) (row at : ℕ) : Type 0 where
  pub codes : List ℕ
  pub as_written : Written n f xs (replicate n 0) codes row at

module _ (n : ℕ) (f : Frame) (xs : List Float) where
  pub tested-none : Tested n f xs 0 0
  tested-none = record { codes = replicate n 0; as_written = written_none n f xs (replicate n 0) }

  module _ (row at : ℕ) (s : Tested n f xs row at) where
    pub tested-there : row < n → n * f.axes ≤ length xs → at + f.axes ≤ length xs
    tested-there = row-there n f xs (replicate n 0) s.codes row at s.as_written

    pub tested-more : (next : ℕ) → row < n → inside f (drop at xs) ≡ true → next ≡ at + f.axes → Tested n f xs (row + 1) next
    tested-more next l i e = record {
      codes = set s.codes row (code16 f (drop at xs));
      as_written = written-more n f xs (replicate n 0) s.codes row at s.as_written (code16 f (drop at xs)) next l (le_of_eq (sym (length-replicate {A = ℕ} n 0))) i refl e;
    }

    pub tested-stop : (wall : Wall) → wall ≡ first_wall row f (drop at xs) → inside f (drop at xs) ≡ false → row < n → Err wall ≡ first_outside n f xs
    tested-stop wall e i l = (written-stop n f xs (replicate n 0) s.codes row at s.as_written wall e i l).0

    pub tested-all : n ≤ row → all_inside ≡ first_outside n f xs
    tested-all l = (written_all n f xs (replicate n 0) s.codes row at s.as_written l).0

-- ---- the two checks
module _ (b : Box) (s t : List Float) where
  pub source-outside : (wall : Wall) → first_outside (rows_of b s) (frame_of b) s ≡ Err wall → inside_outcome b s t ≡ Err (Source wall)
  unfolding inside_outcome
  source-outside wall e =
      let o = one_outside (rows_of b s) wall (frame_of b) s e in
      rw (ne_eqb (rows_inside b s) (rows_of b s) (λ q. omega (arith, o.1, q)), o.0)

  module _ (all : first_outside (rows_of b s) (frame_of b) s ≡ all_inside) where
    pub target-outside : (wall : Wall) → first_outside (rows_of b t) (frame_of b) t ≡ Err wall → inside_outcome b s t ≡ Err (Point wall)
    unfolding inside_outcome
    target-outside wall e =
        let o = one_outside (rows_of b t) wall (frame_of b) t e in
        rw (eq-eqb (rows_inside b s) (rows_of b s) (all-inside (rows_of b s) (frame_of b) s all), ne_eqb (rows_inside b t) (rows_of b t) (λ q. omega (arith, o.1, q)), o.0)

    pub none-outside : first_outside (rows_of b t) (frame_of b) t ≡ all_inside → inside_outcome b s t ≡ accepted
    unfolding inside_outcome
    none-outside e = rw (eq-eqb (rows_inside b s) (rows_of b s) (all-inside (rows_of b s) (frame_of b) s all), eq-eqb (rows_inside b t) (rows_of b t) (all-inside (rows_of b t) (frame_of b) t e))

  -- the two as a chain
  pub as-walls : inside_outcome b s t ≡ walled Source (first_outside (rows_of b s) (frame_of b) s) then walled Point (first_outside (rows_of b t) (frame_of b) t)
  as-walls = go (first_outside (rows_of b s) (frame_of b) s) (first_outside (rows_of b t) (frame_of b) t) refl refl
    where
      go : (i j : Inside) → first_outside (rows_of b s) (frame_of b) s ≡ i → first_outside (rows_of b t) (frame_of b) t ≡ j → inside_outcome b s t ≡ walled Source i then walled Point j
      go (Err w) j e h = source-outside w e
      go (Ok u) (Err w) e h = target-outside e w h
      go (Ok u) (Ok v) e h = none-outside e h

-- the codes that were written, where every row is inside
pub coded-all : (b : Box) (xs : List Float) (old : List ℕ) → first_outside (rows_of b xs) (frame_of b) xs ≡ all_inside → coded (rows_of b xs) (frame_of b) xs old ≡ codes_of b xs ++ drop (rows_of b xs) old
coded-all b xs old e = ap (λ (n : ℕ). codes16 n (frame_of b) xs ++ drop n old) (all-inside (rows_of b xs) (frame_of b) xs e)
