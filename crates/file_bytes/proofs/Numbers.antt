-- Laws of numbers in bytes, and of columns of them that are put one number after the other.
use mathlib.Core.Path.{◌≡◌, refl, sym, ap, ap₂, ◌∙◌, subst}
use mathlib.Core.List.{List, [], ◌∷◌, ◌++◌, append-nil}
use Prim.Native.Nat.{ℕ, zero, suc, ◌+◌, ◌-◌, ◌*◌, ◌/◌, ◌%◌, ◌≤◌, ◌<◌}
use native.Mathlib.Omega.{arith}
use native.Mathlib.Numerals.{add-one}
use native.Mathlib.Nat.{le_of_suc-le-suc, not-suc-le-zero, mul-suc, add_comm, mul-le-mul_left}
use lib.ListN.{length, get_or, take, length-append, get_or-eq_default}
use lib.Seq.{take-suc, take_all, length-take-le}
use Rattle.slices.specs.Lists.{concat_map}
use Rattle.slices.proofs.Lists.{concat_map-append}
use Rattle.survey.specs.Bytes.{number_at}
use Rattle.survey.proofs.Numbers.{eight}
use Rattle.tree_file.specs.Bytes.{bytes_of, in_bytes, entries_at}
use Rattle.file_bytes.specs.Pasted.{pasted}
use Rattle.file_bytes.proofs.Pasted.{pasted-none, pasted_length, pasted-join}

pub bytes-length : (n x : ℕ) → length (bytes_of n x) ≡ n
unfolding bytes_of
bytes-length zero x = refl
bytes-length (suc n) x = ap suc (bytes-length n (x / 256))

pub column-length : (w : ℕ) (xs : List ℕ) → length (in_bytes w xs) ≡ w * length xs
unfolding concat_map
column-length w [] = omega arith
column-length w (x ∷ xs) = length-append (bytes_of w x) (in_bytes w xs) ∙ ap₂ ◌+◌ (bytes-length w x) (column-length w xs) ∙ more w (length xs)
  where
    more : (w n : ℕ) → w + w * n ≡ w * suc n
    more w n = sym (mul-suc w n ∙ add_comm (w * n) w)

-- four bytes one by one, and eight as twice four
pub four_bytes : (x : ℕ) → x % 256 ∷ x / 256 % 256 ∷ x / 256 / 256 % 256 ∷ x / 256 / 256 / 256 % 256 ∷ [] ≡ bytes_of 4 x
unfolding bytes_of
four_bytes x = refl

pub eight-bytes : (x : ℕ) → bytes_of 4 x ++ bytes_of 4 (x / 4294967296) ≡ bytes_of 8 x
eight-bytes x = ap (λ (y : ℕ). bytes_of 4 x ++ bytes_of 4 y) (omega arith) ∙ twice x
  where
    twice : (x : ℕ) → bytes_of 4 x ++ bytes_of 4 (x / 256 / 256 / 256 / 256) ≡ bytes_of 8 x
    twice x = unfold bytes_of in refl

pub key-bytes : (s : List ℕ) (at x : ℕ) → at + 8 ≤ length s → (s' s'' : List ℕ) → s' ≡ pasted s at (bytes_of 4 x) → s'' ≡ pasted s' (at + 4) (bytes_of 4 (x / 4294967296)) → s'' ≡ pasted s at (bytes_of 8 x)
key-bytes s at x h s' s'' e f =
    f ∙ ap (λ (t : List ℕ). pasted t (at + 4) (bytes_of 4 (x / 4294967296))) e
    ∙ pasted-join s at (bytes_of 4 x) (omega (arith, bytes-length 4 x)) (bytes_of 4 (x / 4294967296)) (at + 4) (omega (arith, bytes-length 4 x))
    ∙ ap (pasted s at) (eight-bytes x)

-- ---- a column that is put number by number

pub record Putting (w : ℕ) (xs : List ℕ) (at : ℕ) (s₀ s : List ℕ) (i : ℕ) : Type 0 where
  pub within : i ≤ length xs
  pub room : at + w * length xs ≤ length s₀
  pub kept : length s ≡ length s₀
  pub puts : s ≡ pasted s₀ at (in_bytes w (take i xs))

module _ (w : ℕ) (xs : List ℕ) (at : ℕ) (s₀ : List ℕ) where
  pub putting-none : at + w * length xs ≤ length s₀ → Putting w xs at s₀ s₀ 0
  putting-none h = record { within = omega arith; room = h; kept = refl; puts = none }
    where
      none : s₀ ≡ pasted s₀ at (in_bytes w (take 0 xs))
      none = unfold concat_map in pasted-none s₀ at

  one : (i : ℕ) → i < length xs → in_bytes w (take (i + 1) xs) ≡ in_bytes w (take i xs) ++ bytes_of w (get_or xs i 0)
  one i h =
      ap (λ (k : ℕ). in_bytes w (take k xs)) (add-one i)
      ∙ ap (in_bytes w) (take-suc xs i 0 h)
      ∙ concat_map-append (bytes_of w) (take i xs) (get_or xs i 0 ∷ [])
      ∙ ap (λ (l : List ℕ). in_bytes w (take i xs) ++ l) (single (get_or xs i 0))
    where
      single : (x : ℕ) → concat_map (bytes_of w) (x ∷ []) ≡ bytes_of w x
      single x = unfold concat_map in append-nil (bytes_of w x)

  module _ (s : List ℕ) (i : ℕ) (g : Putting w xs at s₀ s i) where
    before : length (in_bytes w (take i xs)) ≡ w * i
    before = column-length w (take i xs) ∙ ap (λ (k : ℕ). w * k) (length-take-le i xs g.within)

    upto : w * i ≤ w * length xs
    upto = mul-le-mul_left w g.within

    pub putting-more : (s' : List ℕ) → i < length xs → s' ≡ pasted s (at + w * i) (bytes_of w (get_or xs i 0)) → length s' ≡ length s → Putting w xs at s₀ s' (i + 1)
    putting-more s' h e k = record {
      within = omega arith;
      room = g.room;
      kept = k ∙ g.kept;
      puts = e ∙ ap (λ (t : List ℕ). pasted t (at + w * i) (bytes_of w (get_or xs i 0))) g.puts
          ∙ pasted-join s₀ at (in_bytes w (take i xs)) (omega (arith, before, upto, g.room)) (bytes_of w (get_or xs i 0)) (at + w * i) (omega (arith, before))
          ∙ ap (pasted s₀ at) (sym (one i h));
    }

    pub putting-all : length xs ≤ i → s ≡ pasted s₀ at (in_bytes w xs)
    putting-all h = g.puts ∙ ap (λ (l : List ℕ). pasted s₀ at (in_bytes w l)) (take_all i xs h)

-- ---- numbers that are read

pub entries-length : (file : List ℕ) (w at n : ℕ) → length (entries_at file w at n) ≡ n
unfolding entries_at
entries-length file w at zero = refl
entries-length file w at (suc n) = ap suc (entries-length file w (at + w) n)

pub entries-past : (file : List ℕ) (w at n i : ℕ) → n ≤ i → 0 ≡ get_or (entries_at file w at n) i 0
entries-past file w at n i h = sym (get_or-eq_default (entries_at file w at n) 0 (omega (arith, entries-length file w at n)))

pub entries-at : (file : List ℕ) (w at n i : ℕ) → i < n → get_or (entries_at file w at n) i 0 ≡ number_at file w (at + w * i)
unfolding entries_at
entries-at file w at zero i h = absurd (not-suc-le-zero h)
entries-at file w at (suc n) zero h = ap (number_at file w) (none at w)
  where
    none : (at w : ℕ) → at ≡ at + w * 0
    none at w = omega arith
entries-at file w at (suc n) (suc i) h = entries-at file w (at + w) n i (le_of_suc-le-suc h) ∙ ap (number_at file w) (more at w i)
  where
    more : (at w i : ℕ) → at + w + w * i ≡ at + w * suc i
    more at w i = omega (arith, mul-suc w i)

pub number_is : (file : List ℕ) (at n i : ℕ) → i < n → (r : ℕ) → r ≡ number_at file 4 (at + 4 * i) → r ≡ get_or (entries_at file 4 at n) i 0
number_is file at n i h r e = e ∙ sym (entries-at file 4 at n i h)

pub key-is : (file : List ℕ) (at n i : ℕ) → i < n → (low high : ℕ) → low ≡ number_at file 4 (at + 8 * i) → high ≡ number_at file 4 (at + 8 * i + 4)
    → low + 4294967296 * high ≡ get_or (entries_at file 8 at n) i 0
key-is file at n i h low high e f = eight file (at + 8 * i) low high e f ∙ sym (entries-at file 8 at n i h)
