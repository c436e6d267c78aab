-- A column of f64 that is filled from the front.
use mathlib.Core.Path.{◌≡◌, refl, sym, ap, ap₂, ◌∙◌}
use mathlib.Core.Bool.{Bool, true, false}
use mathlib.Core.List.{List, [], ◌∷◌, ◌++◌, append-nil}
use Prim.Native.Nat.{ℕ, zero, suc, ◌+◌, ◌-◌, ◌*◌, ◌≤◌, ◌<◌}
use native.Mathlib.Numerals.{add-one}
use native.Mathlib.Omega.{arith}
use mathlib.Core.Logic.{⊎_elim}
use lib.Dec.{ltb}
use lib.Ieee.{Float}
use lib.ListN.{length, get_or, take, drop, set, replicate, length-append, length-set, length-replicate, get_or-replicate, length-drop, get_or-append}
use lib.Seq.{take-suc, drop-cons, append_snoc, set_at, length-take-le, take_all, drop-length, get_or-append-add}
use borrow.Author.Tests.{lt-ltb, le-ltb}
use Rattle.slices.proofs.Tests.{lt-or-le}
use Rattle.space.specs.Cells.{on_axis}
use Rattle.survey.specs.Bytes.{f64_at, f64s_at}
use Rattle.space.specs.Floats.{nought}
use Rattle.survey.specs.File.{filled_with, entry_at}
use Rattle.survey.proofs.Numbers.{f64s-length, f64s-at}

-- after i turns: the first i of what is to stand there, and the rest as it was
pub record Filling (whole s₀ s : List Float) (i : ℕ) : Type 0 where
  pub size : length whole ≡ length s₀
  pub within : i ≤ length s₀
  pub kept : length s ≡ length s₀
  pub front : s ≡ take i whole ++ drop i s₀

pub filling-none : (whole s : List Float) → length whole ≡ length s → Filling whole s s 0
filling-none whole s e = record { size = e; within = omega arith; kept = refl; front = refl }

module _ (whole s₀ s : List Float) (i : ℕ) (g : Filling whole s₀ s i) where
  stored : (x : Float) → x ≡ get_or whole i nought → i < length s₀ → set s i x ≡ take (suc i) whole ++ drop (suc i) s₀
  stored x e h =
      let l : i < length whole = omega (arith, g.size) in
      let k : length (take i whole) ≡ i = length-take-le i whole (omega arith) in
      ap (λ (t : List Float). set t i x) (g.front ∙ ap (λ (t : List Float). take i whole ++ t) (drop-cons s₀ i nought h))
      ∙ set_at (take i whole) (get_or s₀ i nought) (drop (suc i) s₀) x i k
      ∙ sym (append_snoc (take i whole) x (drop (suc i) s₀))
      ∙ ap (λ (t : List Float). t ++ drop (suc i) s₀) (ap (λ (y : Float). take i whole ++ y ∷ []) e ∙ sym (take-suc whole i nought l))

  pub filling-more : (x : Float) → x ≡ get_or whole i nought → i < length s → Filling whole s₀ (set s i x) (i + 1)
  filling-more x e h =
      let h₀ : i < length s₀ = omega (arith, g.kept) in
      record {
        size = g.size;
        within = omega arith;
        kept = length-set s i x ∙ g.kept;
        front = stored x e h₀ ∙ ap (λ (n : ℕ). take n whole ++ drop n s₀) (sym (add-one i));
      }

  pub filling-all : length s ≤ i → s ≡ whole
  filling-all h =
      let e : i ≡ length s₀ = omega (arith, g.kept, g.within) in
      g.front ∙ ap₂ ◌++◌ (take_all i whole (omega (arith, g.size))) (ap (λ (n : ℕ). drop n s₀) e ∙ drop-length s₀) ∙ append-nil whole

-- n numbers of a file, and then 0, in so many places
module _ (file : List ℕ) (at n places : ℕ) (h : n ≤ places) where
  pub filled-length : length (filled_with places (f64s_at file n at)) ≡ places
  filled-length =
      let a = f64s-length file n at in
      length-append (f64s_at file n at) (replicate (places - length (f64s_at file n at)) nought) ∙ ap (λ (k : ℕ). length (f64s_at file n at) + k) (length-replicate (places - length (f64s_at file n at)) nought) ∙ omega arith

  first-are : (i : ℕ) → i < n → entry_at file at n i ≡ get_or (filled_with places (f64s_at file n at)) i nought
  first-are i k =
      let l : i < length (f64s_at file n at) = omega (arith, f64s-length file n at) in
      ap (λ (t : Bool). on_axis t (f64_at file (at + 8 * i))) (lt-ltb i n k)
      ∙ sym (get_or-append (f64s_at file n at) (replicate (places - length (f64s_at file n at)) nought) nought i l ∙ f64s-at file nought n at i k)

  rest-are : (i : ℕ) → n ≤ i → i < places → entry_at file at n i ≡ get_or (filled_with places (f64s_at file n at)) i nought
  rest-are i k l =
      let a = f64s-length file n at in
      let e : i ≡ length (f64s_at file n at) + (i - n) = omega arith in
      ap (λ (t : Bool). on_axis t (f64_at file (at + 8 * i))) (le-ltb i n k)
      ∙ sym (ap (λ (j : ℕ). get_or (filled_with places (f64s_at file n at)) j nought) e
      ∙ get_or-append-add (f64s_at file n at) (replicate (places - length (f64s_at file n at)) nought) (i - n) nought
      ∙ get_or-replicate (places - length (f64s_at file n at)) (i - n) nought nought (omega arith))

  pub entry-is : (i : ℕ) → i < places → entry_at file at n i ≡ get_or (filled_with places (f64s_at file n at)) i nought
  entry-is i l = ⊎_elim (λ k. first-are i k) (λ k. rest-are i k l) (lt-or-le i n)
