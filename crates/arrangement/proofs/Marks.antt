-- The table of a window: each index of it has a bit, which is how often it was met.
use mathlib.Core.Path.{◌≡◌, refl, sym, ap, ap₂, ◌∙◌, subst}
use mathlib.Core.List.{List, [], ◌∷◌}
use mathlib.Core.Logic.{◌⊎◌, inl, inr, ⊎_elim, ◌≢◌}
use Prim.Native.Nat.{ℕ, suc, ◌+◌, ◌*◌, ◌-◌, ◌/◌, ◌%◌, ◌^◌, ◌≤◌, ◌<◌, zero-le}
use native.Mathlib.Omega.{arith}
use native.Mathlib.Numerals.{add-one}
use native.Mathlib.Nat.{zero-div}
use native.Mathlib.Decide.{dec_lt}
use lib.Dec.{eqb}
use lib.ListN.{length, get_or, take, drop, set, replicate, length-replicate, get_or-replicate, length-set, take-append-drop}
use lib.Seq.{take-suc, take_all, get_or-set_same, get_or-set_other}
use borrow.Author.Tests.{eq-eqb, ne_eqb}
use Rattle.slices.specs.Lists.{count, bit}
use Rattle.slices.proofs.Tests.{lt-or-le, same_or_not}
use Rattle.slices.proofs.Lists.{count-append}
use Rattle.slices.proofs.Same.{times}
use Rattle.arrangement.specs.Windows.{window, OnceFrom}
use Rattle.arrangement.proofs.Bits.{bit_of, set_same, set-above, set_below, set-fits}

-- ---- an index by its window and its place there
pub elsewhere : (x w : ℕ) → (x / 131072 ≡ w → ⊥) → (x < w * 131072) ⊎ (131072 ≤ x - w * 131072)
elsewhere x w n = go (dec_lt x (w * 131072))
  where
    go : Dec (x < w * 131072) → (x < w * 131072) ⊎ (131072 ≤ x - w * 131072)
    go (yes l) = inl l
    go (no l) = go2 (dec_lt (x - w * 131072) 131072)
      where
        go2 : Dec (x - w * 131072 < 131072) → (x < w * 131072) ⊎ (131072 ≤ x - w * 131072)
        go2 (yes k) = absurd (n (omega arith))
        go2 (no k) = inr (omega arith)

pub place_in : (x w : ℕ) → x / 131072 ≡ w → (x ≡ w * 131072 + x % 131072) × (x % 131072 < 131072)
place_in x w e = (omega arith, omega arith)

-- the bit of the index v places into the window
abbrev pub mark : List ℕ → ℕ → ℕ
mark seen v = bit_of (get_or seen (v / 64) 0) (v % 64)

times-take : (v : ℕ) (l : List ℕ) (i : ℕ) → i < length l → times v (take (suc i) l) ≡ times v (take i l) + bit (eqb (get_or l i 0) v)
unfolding count
times-take v l i h = ap (times v) (take-suc l i 0 h) ∙ count-append (λ c. eqb c v) (take i l) (get_or l i 0 ∷ []) ∙ omega arith

times-part : (v : ℕ) (l : List ℕ) (i : ℕ) → times v (take i l) ≤ times v l
times-part v l i = omega (arith, ap (times v) (sym (take-append-drop i l)) ∙ count-append (λ c. eqb c v) (take i l) (drop i l))

pub record Marking (order : List ℕ) (from : ℕ) (seen : List ℕ) (i : ℕ) : Type 0 where
  pub upto : i ≤ length order
  pub size : length seen ≡ 2048
  pub words : (w : ℕ) → w < 2048 → get_or seen w 0 < 2 ^ 64
  pub marks : (v : ℕ) → v < window → mark seen v ≡ times (from + v) (take i order)

module _ (order : List ℕ) (from : ℕ) where
  pub mark-start : Marking order from (replicate 2048 0) 0
  unfolding count
  mark-start = record {
    upto = zero-le;
    size = length-replicate {A = ℕ} 2048 0;
    words = λ w h. rw (get_or-replicate {A = ℕ} 2048 w 0 0 h) (omega arith);
    marks = λ v h. let w : v / 64 < 2048 = omega arith in rw (get_or-replicate {A = ℕ} 2048 (v / 64) 0 0 w, zero-div (2 ^ (v % 64))) refl;
  }

  pub mark-done : (seen : List ℕ) (i : ℕ) → Marking order from seen i → length order ≤ i → OnceFrom order from
  mark-done seen i m h v l = omega (arith, m.marks v l ∙ ap (times (from + v)) (take_all i order h))

  module _ (seen : List ℕ) (i : ℕ) (m : Marking order from seen i) (l : i < length order) where
    -- an index outside the window
    pub mark-past : (get_or order i 0 < from) ⊎ (window ≤ get_or order i 0 - from) → Marking order from seen (i + 1)
    mark-past out = record {
      upto = omega arith;
      size = m.size;
      words = m.words;
      marks = λ v g. m.marks v g ∙ omega (arith, times-take (from + v) order i l, ap bit (ne_eqb (get_or order i 0) (from + v) (other v g out))) ∙ ap (λ k. times (from + v) (take k order)) (sym (add-one i));
    }
      where
        other : (v : ℕ) → v < window → (get_or order i 0 < from) ⊎ (window ≤ get_or order i 0 - from) → get_or order i 0 ≢ from + v
        other v g (inl h) e = omega arith
        other v g (inr h) e = omega arith

    -- one inside, so many places on
    module _ (x : ℕ) (at : get_or order i 0 ≡ from + x) (h : x < window) where
      pub word_in : x / 64 < length seen
      word_in = let s = m.size in omega arith

      pub mark-twice : (mark seen x ≡ 0 → ⊥) → OnceFrom order from → ⊥
      mark-twice some once =
          let here : bit (eqb (get_or order i 0) (from + x)) ≡ 1 = ap bit (eq-eqb (get_or order i 0) (from + x) at) in
          some (omega (arith, m.marks x h, once x h, times-take (from + x) order i l, times-part (from + x) order (suc i)))

      module _ (off : mark seen x ≡ 0) where
        word : x / 64 < 2048
        word = omega arith

        abbrev next : ℕ
        next = get_or seen (x / 64) 0 + 2 ^ (x % 64)

        pub mark-fits : next < 2 ^ 64
        mark-fits = set-fits (get_or seen (x / 64) 0) (x % 64) off (m.words (x / 64) word) (omega arith)

        other-bit : (b : ℕ) → b ≢ x % 64 → bit_of next b ≡ bit_of (get_or seen (x / 64) 0) b
        other-bit b n = ⊎_elim (λ (g : b < x % 64). set_below (get_or seen (x / 64) 0) (x % 64) off b g)
            (λ (g : x % 64 ≤ b). set-above (get_or seen (x / 64) 0) (x % 64) off b (omega arith)) (lt-or-le b (x % 64))

        marked : (v : ℕ) → mark (set seen (x / 64) next) v ≡ mark seen v + bit (eqb x v)
        marked v = ⊎_elim same other (same_or_not x v)
          where
            there : get_or (set seen (x / 64) next) (x / 64) 0 ≡ next
            there = get_or-set_same seen (x / 64) next 0 word_in

            same : x ≡ v → mark (set seen (x / 64) next) v ≡ mark seen v + bit (eqb x v)
            same e = subst (λ v. mark (set seen (x / 64) next) v ≡ mark seen v + bit (eqb x v)) e
                (ap (λ y. bit_of y (x % 64)) there ∙ set_same (get_or seen (x / 64) 0) (x % 64) off ∙ omega (arith, ap bit (eq-eqb x x refl)))

            kept : x ≢ v → mark (set seen (x / 64) next) v ≡ mark seen v
            kept g = ⊎_elim
                (λ (e : v / 64 ≡ x / 64). ap (λ w. bit_of (get_or (set seen (x / 64) next) w 0) (v % 64)) e ∙ ap (λ y. bit_of y (v % 64)) there
                ∙ other-bit (v % 64) (λ q. g (omega arith)) ∙ ap (λ w. bit_of (get_or seen w 0) (v % 64)) (sym e))
                (λ (e : v / 64 ≢ x / 64). ap (λ y. bit_of y (v % 64)) (get_or-set_other seen (x / 64) (v / 64) next 0 e))
                (same_or_not (v / 64) (x / 64))

            other : x ≢ v → mark (set seen (x / 64) next) v ≡ mark seen v + bit (eqb x v)
            other g = kept g ∙ omega (arith, ap bit (ne_eqb x v g))

        shifted : (v : ℕ) → eqb (get_or order i 0) (from + v) ≡ eqb x v
        shifted v = ⊎_elim (λ (e : x ≡ v). eq-eqb (get_or order i 0) (from + v) (at ∙ ap (from +◌) e) ∙ sym (eq-eqb x v e))
            (λ (e : x ≢ v). ne_eqb (get_or order i 0) (from + v) (λ q. e (omega arith)) ∙ sym (ne_eqb x v e)) (same_or_not x v)

        pub mark-more : Marking order from (set seen (x / 64) next) (i + 1)
        mark-more = record {
          upto = omega arith;
          size = length-set seen (x / 64) next ∙ m.size;
          words = λ w g. word_small w g (same_or_not w (x / 64));
          marks = λ v g. marked v ∙ ap₂ ◌+◌ (m.marks v g) (ap bit (sym (shifted v))) ∙ sym (times-take (from + v) order i l) ∙ ap (λ k. times (from + v) (take k order)) (sym (add-one i));
        }
          where
            word_small : (w : ℕ) → w < 2048 → (w ≡ x / 64) ⊎ (w ≢ x / 64) → get_or (set seen (x / 64) next) w 0 < 2 ^ 64
            word_small w g (inl e) = rw (e, get_or-set_same seen (x / 64) next 0 word_in) mark-fits
            word_small w g (inr e) = rw (get_or-set_other seen (x / 64) w next 0 e) (m.words w g)

        -- the same with the bit as the code has it
        module _ (t : ℕ) (e : t ≡ 2 ^ (x % 64)) where
          pub room : get_or seen (x / 64) 0 + t < 2 ^ 64
          room = rw e mark-fits

          pub more : Marking order from (set seen (x / 64) (get_or seen (x / 64) 0 + t)) (i + 1)
          more = rw e mark-more
