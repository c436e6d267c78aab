-- Slices that are being cleared, whatever their numbers' width.
use mathlib.Core.Path.{◌≡◌, refl, ap, sym, ◌∙◌}
use mathlib.Core.List.{List, ◌++◌, append-nil}
use Prim.Native.Nat.{ℕ, ◌+◌, ◌-◌, ◌≤◌, ◌<◌}
use native.Mathlib.Nat.{sub-eq-zero_of_le}
use native.Mathlib.Omega.{arith}
use borrow.Author.Fill.{fill_none, fill_more}
use borrow.Rule.Slice.PartMut.{put_mid, mid_of}
use lib.ListN.{length, take, drop, set, replicate, length-set, length-drop}
use lib.Seq.{drop-length, take_all}
use Rattle.slices.proofs.Parts.{mid-tail, put-tail}

-- after i turns: i zeros, and the rest as it was
pub record Clearing (s₀ s : List ℕ) (i : ℕ) : Type 0 where
  pub within : i ≤ length s₀
  pub kept : length s ≡ length s₀
  pub zeros : s ≡ replicate i 0 ++ drop i s₀

pub clearing-none : (s : List ℕ) → Clearing s s 0
clearing-none s = record { within = omega arith; kept = refl; zeros = fill_none s 0 }

pub clearing-more : (s₀ s : List ℕ) (i : ℕ) → Clearing s₀ s i → i < length s → Clearing s₀ (set s i 0) (i + 1)
clearing-more s₀ s i g h =
    let h₀ : i < length s₀ = omega (arith, g.kept) in
    record { within = omega arith; kept = simp length-set g.kept; zeros = ap (λ (t : List ℕ). set t i 0) g.zeros ∙ fill_more i 0 s₀ h₀ }

pub clearing-all : (s₀ s : List ℕ) (i : ℕ) → Clearing s₀ s i → length s ≤ i → s ≡ replicate (length s₀) 0
clearing-all s₀ s i g h =
    let e : i ≡ length s₀ = omega (arith, g.kept, g.within) in
    g.zeros ∙ ap (λ (n : ℕ). replicate n 0 ++ drop n s₀) e ∙ rw (drop-length, append-nil)

-- from f on
module _ (f : ℕ) (s : List ℕ) where
  pub tail-cleared : (ys : List ℕ) → ys ≡ replicate (length (mid_of f (length s - f) s)) 0 → put_mid f (length s - f) s ys ≡ take f s ++ replicate (length s - f) 0
  tail-cleared ys e = put-tail f s ys ∙ ap (λ (z : List ℕ). take f s ++ z) (e ∙ ap (λ (n : ℕ). replicate n 0) (ap length (mid-tail f s) ∙ length-drop f s))

  pub past_end : length s ≤ f → s ≡ take f s ++ replicate (length s - f) 0
  past_end h = sym (ap (λ (n : ℕ). take f s ++ replicate n 0) (sub-eq-zero_of_le h) ∙ append-nil (take f s) ∙ take_all f s h)
