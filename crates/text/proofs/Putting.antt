-- Texts put one after the other into a lent slice.
use mathlib.Core.Path.{◌≡◌, refl, sym, ap, ap₂, ◌∙◌, subst}
use mathlib.Core.Bool.{Bool, true, false, cond}
use mathlib.Core.List.{List, [], ◌∷◌, ◌++◌, append_assoc, append-nil}
use mathlib.Core.Logic.{⊎_elim}
use Prim.Native.Nat.{ℕ, zero, suc, ◌+◌, ◌-◌, ◌/◌, ◌%◌, ◌^◌, ◌≤◌, ◌<◌, min}
use native.Mathlib.Nat.{sub-eq-zero_of_le}
use native.Mathlib.Numerals.{add-one}
use native.Mathlib.Omega.{arith}
use lib.Dec.{ltb, leb}
use lib.ListN.{length, get_or, take, drop, replicate, length-drop, drop_of_length-le}
use lib.Seq.{take-suc, take_all, take-nil}
use borrow.Author.Tests.{lt-ltb, le-ltb, le-leb, lt-leb}
use Rattle.slices.specs.Lists.{range, concat_map, filled}
use Rattle.slices.proofs.Lists.{concat_map-append, range-append, cleared-filled, filled_none}
use Rattle.slices.proofs.Tests.{lt-or-le}
use Rattle.rows.specs.Written.{row_at}
use Rattle.sourced.specs.Room.{Holds, Puts}
use Rattle.sourced.proofs.Putting.{holds-none, fits, over}
use Rattle.text.specs.Digits.{digit, digits, decimal}
use Rattle.text.specs.Listing.{fields, lettered, length_or, text_if, text_answer, text_left}
use Rattle.std.specs.Prelude.{None, Option, Some}

pub puts_none : (out : List ℕ) (n : ℕ) → Puts out n [] out n
puts_none out n done h = subst (λ (l : List ℕ). Holds out n l) (sym (append-nil done)) h

pub puts-join : (a b c xs ys : List ℕ) (n m k : ℕ) → Puts a n xs b m → Puts b m ys c k → Puts a n (xs ++ ys) c k
puts-join a b c xs ys n m k p q done h = subst (λ (l : List ℕ). Holds c k l) (append_assoc done xs ys) (q (done ++ xs) (p done h))

pub puts-same : (a b xs ys : List ℕ) (n m : ℕ) → xs ≡ ys → Puts a n xs b m → Puts a n ys b m
puts-same a b xs ys n m e p done h = subst (λ (l : List ℕ). Holds b m (done ++ l)) e (p done h)

-- ---- digits

more_room : (k n : ℕ) → n < 10 ^ suc k → digits (suc k) n ≡ digits (suc (suc k)) n
unfolding digits
more_room zero n h = ap (λ (b : Bool). cond b (digit n ∷ []) (digit (n % 10) ∷ [])) few ∙ sym (ap (λ (b : Bool). cond b (digit n ∷ []) (cond (ltb (n / 10) 10) (digit (n / 10) ∷ []) (digit (n / 10 % 10) ∷ []) ++ digit (n % 10) ∷ [])) few)
  where
    few : ltb n 10 ≡ true
    few = lt-ltb n 10 h
more_room (suc k) n h = ap (λ (l : List ℕ). cond (ltb n 10) (digit n ∷ []) (l ++ digit (n % 10) ∷ [])) (more_room k (n / 10) (omega arith))

pub decimal-one : (n : ℕ) → n < 10 → digit n ∷ [] ≡ decimal n
decimal-one n h = sym (one 19)
  where
    one : (k : ℕ) → digits (suc k) n ≡ digit n ∷ []
    one k = unfold digits in ap (λ (b : Bool). cond b (digit n ∷ []) (digits k (n / 10) ++ digit (n % 10) ∷ [])) (lt-ltb n 10 h)

pub decimal-more : (n : ℕ) → 10 ≤ n → n < 18446744073709551616 → decimal (n / 10) ++ digit (n % 10) ∷ [] ≡ decimal n
decimal-more n h k = ap (λ (l : List ℕ). l ++ digit (n % 10) ∷ []) (sym (more_room 18 (n / 10) few)) ∙ sym (more 19)
  where
    few : n / 10 < 10 ^ 19
    few = omega arith

    more : (k : ℕ) → digits (suc k) n ≡ digits k (n / 10) ++ digit (n % 10) ∷ []
    more k = unfold digits in ap (λ (b : Bool). cond b (digit n ∷ []) (digits k (n / 10) ++ digit (n % 10) ∷ [])) (le-ltb n 10 h)

-- ---- loops

next : (xs : List ℕ) (i : ℕ) → i < length xs → take (i + 1) xs ≡ take i xs ++ get_or xs i 0 ∷ []
next xs i h = ap (λ (n : ℕ). take n xs) (add-one i) ∙ take-suc xs i 0 h

single : (f : ℕ → List ℕ) (x : ℕ) → concat_map f (x ∷ []) ≡ f x
unfolding concat_map
single f x = append-nil (f x)

-- after i turns of a loop that puts one text a turn
pub record Turns (text : ℕ → List ℕ) (out₀ : List ℕ) (n : ℕ) (out : List ℕ) (m i most : ℕ) : Type 0 where
  pub within : i ≤ most
  pub kept : length out ≡ length out₀
  pub puts : Puts out₀ n (text i) out m

pub turns-none : (text : ℕ → List ℕ) (out : List ℕ) (n most : ℕ) → text 0 ≡ [] → Turns text out n out n 0 most
turns-none text out n most e = record { within = omega arith; kept = refl; puts = puts-same out out [] (text 0) n n (sym e) (puts_none out n) }

pub turns_more : (text : ℕ → List ℕ) (out₀ out : List ℕ) (n m i most : ℕ) → Turns text out₀ n out m i most → i < most
    → (out' piece : List ℕ) (m' : ℕ) → length out' ≡ length out → Puts out m piece out' m' → text (i + 1) ≡ text i ++ piece → Turns text out₀ n out' m' (i + 1) most
turns_more text out₀ out n m i most g h out' piece m' same p e = record {
  within = omega arith;
  kept = same ∙ g.kept;
  puts = puts-same out₀ out' (text i ++ piece) (text (i + 1)) n m' (sym e) (puts-join out₀ out out' (text i) piece n m m' g.puts p);
}

pub turns-all : (text : ℕ → List ℕ) (out₀ out : List ℕ) (n m i most : ℕ) → Turns text out₀ n out m i most → most ≤ i → (whole : List ℕ) → text most ≡ whole → Puts out₀ n whole out m
turns-all text out₀ out n m i most g h whole e =
    let same : i ≡ most = omega (arith, g.within) in
    puts-same out₀ out (text i) whole n m (ap text same ∙ e) g.puts

-- the first i numbers, each by f
pub mapped-none : (f : ℕ → List ℕ) (xs : List ℕ) → concat_map f (take 0 xs) ≡ []
unfolding concat_map
mapped-none f xs = refl

pub mapped-more : (f : ℕ → List ℕ) (xs : List ℕ) (i : ℕ) → i < length xs → concat_map f (take (i + 1) xs) ≡ concat_map f (take i xs) ++ f (get_or xs i 0)
mapped-more f xs i h =
    ap (concat_map f) (next xs i h) ∙ concat_map-append f (take i xs) (get_or xs i 0 ∷ []) ∙ ap (λ (l : List ℕ). concat_map f (take i xs) ++ l) (single f (get_or xs i 0))

-- a word
pub word_more : (xs : List ℕ) (i : ℕ) → i < length xs → take (i + 1) xs ≡ take i xs ++ get_or xs i 0 ∷ []
word_more xs i h = next xs i h

-- the nodes below i
pub numbered-none : (f : ℕ → List ℕ) → concat_map f (range 0 0) ≡ []
unfolding concat_map range
numbered-none f = refl

pub numbered_more : (f : ℕ → List ℕ) (i : ℕ) → concat_map f (range 0 (i + 1)) ≡ concat_map f (range 0 i) ++ f i
numbered_more f i =
    ap (concat_map f) (range-append 0 i 1) ∙ concat_map-append f (range 0 i) (range (0 + i) 1) ∙ ap (λ (l : List ℕ). concat_map f (range 0 i) ++ l) (last ∙ single f i)
  where
    one : (k : ℕ) → range k 1 ≡ k ∷ []
    one k = unfold range in refl

    last : concat_map f (range (0 + i) 1) ≡ concat_map f (i ∷ [])
    last = ap (concat_map f) (one (0 + i) ∙ ap (λ (k : ℕ). k ∷ []) (omega arith))

-- ---- a row as a part of the flat keys

part-empty : (keys : List ℕ) (a z : ℕ) → min z (length keys) ≤ a → take (z - a) (drop a keys) ≡ []
part-empty keys a z h = ⊎_elim (λ l. ap (take (z - a)) (drop_of_length-le keys {i = a} (omega arith)) ∙ take-nil (z - a)) (λ l. ap (λ (k : ℕ). take k (drop a keys)) (sub-eq-zero_of_le l)) (lt-or-le a z)

part-whole : (keys : List ℕ) (a z : ℕ) → a < min z (length keys) → take (min z (length keys) - a) (drop a keys) ≡ take (z - a) (drop a keys)
part-whole keys a z h = ⊎_elim (λ l. all (min z (length keys) - a) (omega arith) ∙ sym (all (z - a) (omega arith))) (λ l. ap (λ (k : ℕ). take (k - a) (drop a keys)) (omega arith)) (lt-or-le (length keys) z)
  where
    all : (k : ℕ) → length keys - a ≤ k → take k (drop a keys) ≡ drop a keys
    all k g = take_all k (drop a keys) (omega (arith, length-drop a keys))

module _ (starts keys : List ℕ) (node a z to : ℕ) (ea : a ≡ get_or starts node 0) (ez : z ≡ get_or starts (node + 1) 0) (e : to ≡ min z (length keys)) where
  is_row : take (z - a) (drop a keys) ≡ row_at starts keys node
  is_row = ap₂ (λ (a z : ℕ). take (z - a) (drop a keys)) ea (ez ∙ ap (λ (k : ℕ). get_or starts k 0) (add-one node))

  pub row-empty : to ≤ a → [] ≡ row_at starts keys node
  row-empty h = sym (part-empty keys a z (omega (arith, e))) ∙ is_row

  pub row-part : a < to → take (to - a) (drop a keys) ≡ row_at starts keys node
  row-part h = ap (λ (k : ℕ). take (k - a) (drop a keys)) e ∙ part-whole keys a z (omega (arith, e)) ∙ is_row

-- ---- the end

module _ (out text : List ℕ) (n : ℕ) (g : Holds out n text) where
  pub ends-short : length out < n → (None ≡ text_answer (length out) text) × (replicate (length out) 0 ≡ text_left (length out) text)
  ends-short h =
      let e : leb (length text) (length out) ≡ false = lt-leb (length text) (length out) (over out text n g h) in
      (sym (ap (λ (b : Bool). length_or b (length text)) e), sym (ap (λ (b : Bool). filled (length out) (text_if b text)) e ∙ filled_none (length out)))

  pub ends-long : n ≤ length out → (Some n ≡ text_answer (length out) text) × (take n out ++ replicate (length out - n) 0 ≡ text_left (length out) text)
  ends-long h =
      let k : n ≡ length text = fits out text n g h in
      let e : leb (length text) (length out) ≡ true = le-leb (length text) (length out) (omega arith) in (
        ap Some k ∙ sym (ap (λ (b : Bool). length_or b (length text)) e),
        ap (λ (i : ℕ). take i out ++ replicate (length out - i) 0) k ∙ cleared-filled text out (g.begins (omega arith)) ∙ sym (ap (λ (b : Bool). filled (length out) (text_if b text)) e),
      )

-- a letter and a row
pub puts-lettered : (a b c d keys : List ℕ) (letter n m k j : ℕ) → Puts a n (32 ∷ []) b m → Puts b m (letter ∷ []) c k → Puts c k (fields keys) d j → Puts a n (lettered letter keys) d j
puts-lettered a b c d keys letter n m k j p q r = puts-join a b d (32 ∷ []) (letter ∷ fields keys) n m j p (puts-join b c d (letter ∷ []) (fields keys) m k j q r)

pub puts-no-keys : (a keys : List ℕ) (n : ℕ) → [] ≡ keys → Puts a n (fields keys) a n
puts-no-keys a keys n e = puts-same a a [] (fields keys) n n (sym none ∙ ap fields e) (puts_none a n)
  where
    none : fields [] ≡ []
    none = unfold concat_map in refl

pub puts-keys : (a b keys row : List ℕ) (n m : ℕ) → keys ≡ row → Puts a n (fields keys) b m → Puts a n (fields row) b m
puts-keys a b keys row n m e p = puts-same a b (fields keys) (fields row) n m (ap fields e) p

-- a text that was put into an empty slice, and ended
pub ended : (out₀ out out' text : List ℕ) (n : ℕ) (r : Option ℕ) → Puts out₀ 0 text out n → length out ≡ length out₀
    → ((text : List ℕ) → Holds out n text → (r ≡ text_answer (length out) text) × (out' ≡ text_left (length out) text))
    → (r ≡ text_answer (length out₀) text) × (out' ≡ text_left (length out₀) text)
ended out₀ out out' text n r p same f =
    let e = f text (p [] (holds-none out₀)) in
    (e.0 ∙ ap (λ (k : ℕ). text_answer k text) same, e.1 ∙ ap (λ (k : ℕ). text_left k text) same)
