-- The rows of one list, written node by node, with their starts; keys past the room are only counted.
use mathlib.Core.Path.{◌≡◌, sym, ap, ap₂, ◌∙◌, subst}
use mathlib.Core.List.{List, [], ◌∷◌, ◌++◌}
use Prim.Native.Nat.{ℕ, ◌+◌, ◌≤◌, ◌<◌}
use native.Mathlib.Omega.{arith}
use native.Mathlib.Numerals.{add-one}
use lib.ListN.{length, get_or, set, take, drop, length-append, take-append-drop}
use lib.Seq.{take-suc, take-suc-set, take_all}
use Rattle.slices.specs.Lists.{concat_map}
use Rattle.slices.proofs.Lists.{concat_map-append}
use Rattle.rows.specs.Written.{starts_from, row_starts, row_keys}
use Rattle.sourced.specs.Room.{Holds, Puts}
use Rattle.sourced.proofs.Putting.{holds-none}
use Rattle.lists.specs.Written.{WritesRows}
use Rattle.lists.proofs.Writing.{starts-snoc, more-keys}

-- after i nodes: their rows were put into `out`, n keys counted, and while they have room their starts stand in `starts`
pub record Progress (row : ℕ → List ℕ) (keys starts out : List ℕ) (i n : ℕ) : Type 0 where
  pub holds : Holds out n (row_keys row (take i keys))
  pub begins : n ≤ length out → take (i + 1) starts ≡ row_starts row (take i keys)

module _ (row : ℕ → List ℕ) (keys : List ℕ) where
  pub progress-none : (starts starts' out : List ℕ) → 0 < length starts → starts' ≡ set starts 0 0 → Progress row keys starts' out 0 0
  unfolding concat_map starts_from
  progress-none starts starts' out h e = record { holds = holds-none out; begins = λ _. ap (take 1) e ∙ take-suc-set starts 0 0 h }

  module _ (starts out out' : List ℕ) (i n m : ℕ) (g : Progress row keys starts out i n) (l : i < length keys) (p : Puts out n (row (get_or keys i 0)) out' m) where
    after : Holds out' m (row_keys row (take (i + 1) keys))
    after = subst (λ (x : List ℕ). Holds out' m x) (sym (more-keys row keys i l)) (p (row_keys row (take i keys)) g.holds)

    longer : length (row_keys row (take (i + 1) keys)) ≡ length (row_keys row (take i keys)) + length (row (get_or keys i 0))
    longer = ap length (more-keys row keys i l) ∙ length-append (row_keys row (take i keys)) (row (get_or keys i 0))

    -- at most one more than the room is counted
    pub progress-most : m ≤ length out' + 1
    progress-most = omega (arith, after.counted)

    pub progress-over : length out' < m → (starts' : List ℕ) → WritesRows row keys starts' out' m
    progress-over h starts' = record {
      over = λ _. omega (arith, after.counted, part);
      counted = λ b. absurd (omega arith);
      written = λ b. absurd (omega arith);
      begins = λ b. absurd (omega arith);
    }
      where
        part : length (row_keys row (take (i + 1) keys)) ≤ length (row_keys row keys)
        part = omega (arith, ap (λ (k : List ℕ). length (concat_map row k)) (sym (take-append-drop (i + 1) keys)) ∙ ap length (concat_map-append row (take (i + 1) keys) (drop (i + 1) keys)) ∙ length-append (concat_map row (take (i + 1) keys)) (concat_map row (drop (i + 1) keys)))

    pub progress-more : length out' ≡ length out → (starts' : List ℕ) → i + 1 < length starts → starts' ≡ set starts (i + 1) m → Progress row keys starts' out' (i + 1) m
    progress-more k starts' b w = record {
      holds = after;
      begins = λ r.
          ap (take (i + 1 + 1)) w ∙ ap (λ (j : ℕ). take j (set starts (i + 1) m)) (add-one (i + 1)) ∙ take-suc-set starts (i + 1) m b
          ∙ ap₂ (λ (x : List ℕ) (j : ℕ). x ++ j ∷ []) (g.begins (omega (arith, after.counted, g.holds.counted, longer))) (last r)
          ∙ sym (starts-snoc 0 row (take i keys) (get_or keys i 0))
          ∙ ap (starts_from 0 row) (sym next);
    }
      where
        next : take (i + 1) keys ≡ take i keys ++ get_or keys i 0 ∷ []
        next = ap (λ (j : ℕ). take j keys) (add-one i) ∙ take-suc keys i 0 l

        last : m ≤ length out' → m ≡ 0 + length (concat_map row (take i keys ++ get_or keys i 0 ∷ []))
        last r = omega (arith, after.counted, ap (λ (x : List ℕ). length (concat_map row x)) next)

  pub progress-all : (starts out : List ℕ) (i n : ℕ) → Progress row keys starts out i n → i ≡ length keys → WritesRows row keys starts out n
  progress-all starts out i n g e =
      let all : take i keys ≡ keys = take_all i keys (omega arith) in
      let a : Holds out n (row_keys row keys) = subst (λ (x : List ℕ). Holds out n (row_keys row x)) all g.holds in
      record {
        over = λ o. omega (arith, a.counted);
        counted = λ f. omega (arith, a.counted);
        written = λ f. let z : n ≡ length (row_keys row keys) = omega (arith, a.counted) in ap (λ (j : ℕ). take j out) z ∙ a.begins (omega arith);
        begins = λ f. ap (λ (j : ℕ). take (j + 1) starts) (sym e) ∙ g.begins f ∙ ap (row_starts row) all;
      }
