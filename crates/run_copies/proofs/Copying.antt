-- Entries copied one by one, and runs one after the other.
use mathlib.Core.Path.{◌≡◌, refl, sym, ap, ap₂, ◌∙◌}
use mathlib.Core.List.{List, [], ◌∷◌, ◌++◌, append_assoc, append-nil}
use Prim.Native.Nat.{ℕ, zero, suc, ◌+◌, ◌-◌, ◌≤◌, ◌<◌}
use native.Mathlib.Omega.{arith}
use native.Mathlib.Nat.{add-zero}
use native.Mathlib.Numerals.{add-one}
use lib.ListN.{length, get_or, set, take, drop, replicate, length-set, length-drop, drop_of_length-le}
use lib.Seq.{take-suc, take-suc-set, get_or-drop, drop-cons, length-take-le}
use Rattle.slices.specs.Lists.{sum, filled}
use Rattle.slices.proofs.Lists.{cleared-filled}
use Rattle.slices.proofs.Sums.{sum-take, sum-whole}
use Rattle.run_copies.specs.Runs.{runs, Copiable}

-- ---- one run

pub record Copied (order : List ℕ) (from n : ℕ) (out₀ : List ℕ) (at : ℕ) (out : List ℕ) (j : ℕ) : Type 0 where
  pub within : j ≤ n
  pub kept : length out ≡ length out₀
  pub entries : take (at + j) out ≡ take at out₀ ++ take j (drop from order)

module _ (order : List ℕ) (from n : ℕ) (out₀ : List ℕ) (at : ℕ) where
  pub copied_none : Copied order from n out₀ at out₀ 0
  copied_none = record { within = omega arith; kept = refl; entries = ap (λ (m : ℕ). take m out₀) (add-zero at) ∙ sym (append-nil (take at out₀)) }

  module _ (out : List ℕ) (j : ℕ) (s : Copied order from n out₀ at out j) (l : j < n) (f : from + n ≤ length order) (h : at + n ≤ length out₀) where
    pub copied_more : Copied order from n out₀ at (set out (at + j) (get_or order (from + j) 0)) (j + 1)
    copied_more =
        let a : at + j < length out = omega (arith, s.kept) in
        let d : j < length (drop from order) = omega (arith, length-drop from order) in
        let e : at + (j + 1) ≡ suc (at + j) = omega arith in
        record {
          within = omega arith;
          kept = length-set out (at + j) (get_or order (from + j) 0) ∙ s.kept;
          entries =
              ap (λ (m : ℕ). take m (set out (at + j) (get_or order (from + j) 0))) e
              ∙ take-suc-set out (at + j) (get_or order (from + j) 0) a
              ∙ ap (λ (l : List ℕ). l ++ get_or order (from + j) 0 ∷ []) s.entries
              ∙ append_assoc (take at out₀) (take j (drop from order)) (get_or order (from + j) 0 ∷ [])
              ∙ ap (λ (l : List ℕ). take at out₀ ++ l) (ap (λ (x : ℕ). take j (drop from order) ++ x ∷ []) (sym (get_or-drop from order j 0)) ∙ sym (take-suc (drop from order) j 0 d))
              ∙ ap (λ (m : ℕ). take at out₀ ++ take m (drop from order)) (sym (add-one j));
        }

  pub copied_all : (out : List ℕ) (j : ℕ) → Copied order from n out₀ at out j → n ≤ j → take (at + n) out ≡ take at out₀ ++ take n (drop from order)
  copied_all out j s h = let e : j ≡ n = omega (arith, s.within) in ap (λ (m : ℕ). take (at + m) out) (sym e) ∙ s.entries ∙ ap (λ (m : ℕ). take at out₀ ++ take m (drop from order)) e

-- ---- all runs

pub record Running (order begin own out₀ out : List ℕ) (at q : ℕ) : Type 0 where
  pub within : q ≤ length own
  pub kept : length out ≡ length out₀
  pub adds : at ≡ sum (take q own)
  pub whole : take at out ++ runs order (drop q begin) (drop q own) ≡ runs order begin own

module _ (order begin own out₀ : List ℕ) (c : Copiable order begin own out₀) where
  pub running_none : Running order begin own out₀ out₀ 0 0
  unfolding sum
  running_none = record { within = omega arith; kept = refl; adds = refl; whole = refl }

  module _ (out : List ℕ) (at q : ℕ) (s : Running order begin own out₀ out at q) where
    next-run : q < length own → runs order (drop q begin) (drop q own) ≡ take (get_or own q 0) (drop (get_or begin q 0) order) ++ runs order (drop (suc q) begin) (drop (suc q) own)
    unfolding runs
    next-run l = ap₂ (runs order) (drop-cons begin q 0 (omega (arith, c.begins))) (drop-cons own q 0 l)

    pub run_fits : q < length own → at + get_or own q 0 ≤ length out
    run_fits l = omega (arith, s.adds, s.kept, sum-take own q, sum-whole own (suc q), c.fits)

    pub at_most : at ≤ length out
    at_most = omega (arith, s.adds, s.kept, sum-whole own q, c.fits)

    pub run-skip : q < length own → get_or own q 0 ≤ 0 → Running order begin own out₀ out at (q + 1)
    run-skip l z =
        let e : get_or own q 0 ≡ 0 = omega arith in
        record {
          within = omega arith;
          kept = s.kept;
          adds = omega (arith, s.adds, sum-take own q, ap (λ (n : ℕ). sum (take n own)) (add-one q));
          whole =
              ap (λ (n : ℕ). take at out ++ runs order (drop n begin) (drop n own)) (add-one q)
              ∙ ap (λ (l : List ℕ). take at out ++ l) (sym (next-run l ∙ ap (λ (n : ℕ). take n (drop (get_or begin q 0) order) ++ runs order (drop (suc q) begin) (drop (suc q) own)) e))
              ∙ s.whole;
        }

    pub run_more : (out' : List ℕ) (n : ℕ) → n ≡ get_or own q 0 → q < length own → length out' ≡ length out → take (at + n) out' ≡ take at out ++ take n (drop (get_or begin q 0) order) → Running order begin own out₀ out' (at + n) (q + 1)
    run_more out' n e l k h = record {
      within = omega arith;
      kept = k ∙ s.kept;
      adds = omega (arith, s.adds, sum-take own q, ap (λ (n : ℕ). sum (take n own)) (add-one q));
      whole =
          ap (λ (m : ℕ). take (at + n) out' ++ runs order (drop m begin) (drop m own)) (add-one q)
          ∙ ap (λ (l : List ℕ). l ++ runs order (drop (suc q) begin) (drop (suc q) own)) (h ∙ ap (λ (m : ℕ). take at out ++ take m (drop (get_or begin q 0) order)) e)
          ∙ append_assoc (take at out) (take (get_or own q 0) (drop (get_or begin q 0) order)) (runs order (drop (suc q) begin) (drop (suc q) own))
          ∙ ap (λ (l : List ℕ). take at out ++ l) (sym (next-run l))
          ∙ s.whole;
    }

    none_left : length own ≤ q → runs order (drop q begin) (drop q own) ≡ []
    unfolding runs
    none_left h = ap (λ (bs : List ℕ). runs order bs (drop q own)) (drop_of_length-le begin {i = q} (omega (arith, c.begins)))

    pub running-all : length own ≤ q → (out' : List ℕ) → out' ≡ take at out ++ replicate (length out - at) 0 → out' ≡ filled (length out₀) (runs order begin own)
    running-all h out' e =
        let w : take at out ≡ runs order begin own = sym (append-nil (take at out)) ∙ ap (λ (l : List ℕ). take at out ++ l) (sym (none_left h)) ∙ s.whole in
        let n : at ≡ length (runs order begin own) = sym (length-take-le at out at_most) ∙ ap length w in
        e ∙ ap (λ (m : ℕ). take m out ++ replicate (length out - m) 0) n
        ∙ cleared-filled (runs order begin own) out (ap (λ (m : ℕ). take m out) (sym n) ∙ w)
        ∙ ap (λ (m : ℕ). filled m (runs order begin own)) s.kept
