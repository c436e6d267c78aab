-- A column that is put into a slice, one entry a turn.
use mathlib.Core.Path.{◌≡◌, refl, sym, ap, ◌∙◌, subst}
use mathlib.Core.List.{List, ◌++◌}
use mathlib.Core.Logic.{⊎_elim}
use Prim.Native.Nat.{ℕ, suc, ◌+◌, ◌-◌, ◌≤◌, ◌<◌}
use native.Mathlib.Omega.{arith}
use lib.ListN.{length, get_or, set, take, replicate, length-set}
use lib.Seq.{get_or-set_same, get_or-set_other, get_or-take, length-take-le, ext_get_or}
use Rattle.slices.specs.Lists.{filled}
use Rattle.slices.proofs.Lists.{cleared-filled}
use Rattle.slices.proofs.Tests.{same_or_not}

pub record Taking (col s₀ s : List ℕ) (i : ℕ) : Type 0 where
  pub within : i ≤ length col
  pub room : length col ≤ length s₀
  pub kept : length s ≡ length s₀
  pub puts : (j : ℕ) → j < i → get_or s j 0 ≡ get_or col j 0

module _ (col s₀ : List ℕ) where
  pub taking-none : length col ≤ length s₀ → Taking col s₀ s₀ 0
  taking-none h = record { within = omega arith; room = h; kept = refl; puts = λ j l. absurd (omega arith) }

  module _ (s : List ℕ) (i : ℕ) (t : Taking col s₀ s i) where
    pub taking-more : i < length col → (x : ℕ) → x ≡ get_or col i 0 → Taking col s₀ (set s i x) (i + 1)
    taking-more l x e = record {
      within = omega arith;
      room = t.room;
      kept = length-set s i x ∙ t.kept;
      puts = λ j h. ⊎_elim
          (λ q. ap (λ (k : ℕ). get_or (set s i x) k 0) q ∙ get_or-set_same s i x 0 (omega (arith, t.kept, t.room)) ∙ e ∙ ap (λ (k : ℕ). get_or col k 0) (sym q))
          (λ q. get_or-set_other s i j x 0 q ∙ t.puts j (below j h q))
          (same_or_not j i);
    }
      where
        below : (j : ℕ) → j < i + 1 → (j ≡ i → ⊥) → j < i
        below j h q = omega (arith, q)

    pub taking-all : (n : ℕ) → n ≡ length col → n ≤ i → (s' : List ℕ) → s' ≡ take n s ++ replicate (length s - n) 0 → s' ≡ filled (length s₀) col
    taking-all n e h s' q =
        q ∙ ap (λ (k : ℕ). take k s ++ replicate (length s - k) 0) e
        ∙ cleared-filled col s (ext_get_or 0 (take (length col) s) col size (λ j l. get_or-take (length col) s j 0 (omega (arith, size)) ∙ t.puts j (omega (arith, size))))
        ∙ ap (λ (k : ℕ). filled k col) t.kept
      where
        size : length (take (length col) s) ≡ length col
        size = length-take-le (length col) s (omega (arith, t.kept, t.room))
