-- The entries of a trailer that was written, and where each section stands.
use mathlib.Core.Path.{◌≡◌, refl, sym, ap, ap₂, ◌∙◌}
use mathlib.Core.Bool.{Bool, true, false, cond}
use mathlib.Core.List.{List, [], ◌∷◌, ◌++◌, append_assoc}
use mathlib.Core.Logic.{⊎_elim}
use Prim.Native.Nat.{ℕ, zero, suc, ◌+◌, ◌-◌, ◌*◌, ◌^◌, ◌≤◌, ◌<◌}
use native.Mathlib.Omega.{arith}
use native.Mathlib.Nat.{not-suc-le-zero, le_of_suc-le-suc}
use lib.Dec.{eqb}
use lib.ListN.{length, get_or, drop, length-append}
use lib.Seq.{drop-drop, drop_at}
use borrow.Author.Tests.{eq-eqb, ne_eqb}
use Rattle.slices.proofs.Tests.{same_or_not}
use Rattle.survey.specs.Bytes.{number_at}
use Rattle.tree_file.specs.Bytes.{bytes_of, u32}
use Rattle.tree_file.specs.Written.{body, entries}
use Rattle.tree_file.specs.Trailer.{code_at, entry_of}
use Rattle.file_bytes.proofs.Numbers.{bytes-length}
use Rattle.file_round.proofs.Bytes.{number-back, past}

-- what entry i of these sections says
pub record Says (file : List ℕ) (at code : ℕ) (ss : List (List ℕ)) (i : ℕ) : Type 0 where
  pub code_is : number_at file 4 (at + 12 * i) ≡ code + i
  pub back_is : number_at file 4 (at + 12 * i + 4) ≡ length (body (drop i ss))
  pub length_is : number_at file 4 (at + 12 * i + 8) ≡ length (get_or ss i [])

body_more : (s : List ℕ) (ss : List (List ℕ)) → length (body (s ∷ ss)) ≡ length s + length (body ss)
unfolding body
body_more s ss = length-append s (body ss)

entries-more : (code : ℕ) (s : List ℕ) (ss : List (List ℕ)) (post : List ℕ) → entries code (s ∷ ss) ++ post ≡ u32 code ++ (u32 (length (body (s ∷ ss))) ++ (u32 (length s) ++ (entries (suc code) ss ++ post)))
unfolding entries
entries-more code s ss post =
    append_assoc (u32 code ++ u32 (length (body (s ∷ ss))) ++ u32 (length s)) (entries (suc code) ss) post
    ∙ append_assoc (u32 code ++ u32 (length (body (s ∷ ss)))) (u32 (length s)) (entries (suc code) ss ++ post)
    ∙ append_assoc (u32 code) (u32 (length (body (s ∷ ss)))) (u32 (length s) ++ (entries (suc code) ss ++ post))

module _ (file : List ℕ) where
  module _ (at code : ℕ) (s : List ℕ) (ss : List (List ℕ)) (post : List ℕ) (e : drop at file ≡ entries code (s ∷ ss) ++ post) where
    abbrev back : ℕ
    back = length (body (s ∷ ss))

    first-at : drop at file ≡ u32 code ++ (u32 back ++ (u32 (length s) ++ (entries (suc code) ss ++ post)))
    first-at = e ∙ entries-more code s ss post

    second_at : drop (at + 4) file ≡ u32 back ++ (u32 (length s) ++ (entries (suc code) ss ++ post))
    second_at = past file at 4 (u32 code) (u32 back ++ (u32 (length s) ++ (entries (suc code) ss ++ post))) (bytes-length 4 code) first-at

    third_at : drop (at + 4 + 4) file ≡ u32 (length s) ++ (entries (suc code) ss ++ post)
    third_at = past file (at + 4) 4 (u32 back) (u32 (length s) ++ (entries (suc code) ss ++ post)) (bytes-length 4 back) second_at

    rest_at : drop (at + 12) file ≡ entries (suc code) ss ++ post
    rest_at = let z : at + 12 ≡ at + 4 + 4 + 4 = omega arith in ap (λ (k : ℕ). drop k file) z ∙ past file (at + 4 + 4) 4 (u32 (length s)) (entries (suc code) ss ++ post) (bytes-length 4 (length s)) third_at

    says_first : code < 256 ^ 4 → back < 256 ^ 4 → Says file at code (s ∷ ss) 0
    says_first c b =
        let z₀ : at + 12 * 0 ≡ at = omega arith in
        let z₁ : at + 12 * 0 + 4 ≡ at + 4 = omega arith in
        let z₂ : at + 12 * 0 + 8 ≡ at + 4 + 4 = omega arith in
        let z₃ : code ≡ code + 0 = omega arith in
        record {
          code_is = ap (number_at file 4) z₀ ∙ number-back 4 file at code (u32 back ++ (u32 (length s) ++ (entries (suc code) ss ++ post))) first-at c ∙ z₃;
          back_is = ap (number_at file 4) z₁ ∙ number-back 4 file (at + 4) back (u32 (length s) ++ (entries (suc code) ss ++ post)) second_at b;
          length_is = ap (number_at file 4) z₂ ∙ number-back 4 file (at + 4 + 4) (length s) (entries (suc code) ss ++ post) third_at (omega (arith, body_more s ss));
        }

  pub says : (ss : List (List ℕ)) (at code : ℕ) (post : List ℕ) → drop at file ≡ entries code ss ++ post → code + length ss ≤ 256 ^ 4 → length (body ss) < 256 ^ 4 → (i : ℕ) → i < length ss → Says file at code ss i
  says [] at code post e c b i h = absurd (not-suc-le-zero h)
  says (s ∷ ss) at code post e c b zero h = says_first at code s ss post e (omega arith) b
  says (s ∷ ss) at code post e c b (suc i) h =
      let r = says ss (at + 12) (suc code) post (rest_at at code s ss post e) (omega arith) (omega (arith, body_more s ss)) i (le_of_suc-le-suc h) in
      let z₀ : at + 12 * suc i ≡ at + 12 + 12 * i = omega arith in
      let z₁ : at + 12 * suc i + 4 ≡ at + 12 + 12 * i + 4 = omega arith in
      let z₂ : at + 12 * suc i + 8 ≡ at + 12 + 12 * i + 8 = omega arith in
      let z₃ : suc code + i ≡ code + suc i = omega arith in
      record { code_is = ap (number_at file 4) z₀ ∙ r.code_is ∙ z₃; back_is = ap (number_at file 4) z₁ ∙ r.back_is; length_is = ap (number_at file 4) z₂ ∙ r.length_is }

-- ---- a section in the middle

pub body_less : (ss : List (List ℕ)) (i : ℕ) → length (body (drop i ss)) ≤ length (body ss)
body_less [] zero = omega arith
body_less [] (suc i) = omega arith
body_less (s ∷ ss) zero = omega arith
body_less (s ∷ ss) (suc i) = omega (arith, body_less ss i, body_more s ss)

pub section-less : (ss : List (List ℕ)) (i : ℕ) → i < length ss → length (get_or ss i []) ≤ length (body (drop i ss))
section-less [] i h = absurd (not-suc-le-zero h)
section-less (s ∷ ss) zero h = omega (arith, body_more s ss)
section-less (s ∷ ss) (suc i) h = section-less ss i (le_of_suc-le-suc h)

pub body_at : (ss : List (List ℕ)) (i : ℕ) (post : List ℕ) → i < length ss → drop (length (body ss) - length (body (drop i ss))) (body ss ++ post) ≡ get_or ss i [] ++ (body (drop (suc i) ss) ++ post)
body_at [] i post h = absurd (not-suc-le-zero h)
body_at (s ∷ ss) zero post h = ap (λ (k : ℕ). drop k (body (s ∷ ss) ++ post)) (none (length (body (s ∷ ss)))) ∙ front s ss
  where
    none : (n : ℕ) → n - n ≡ 0
    none n = omega arith

    front : (s : List ℕ) (ss : List (List ℕ)) → body (s ∷ ss) ++ post ≡ s ++ (body ss ++ post)
    front s ss = unfold body in append_assoc s (body ss) post
body_at (s ∷ ss) (suc i) post h = ap₂ drop (size (body_less ss i)) (front s ss) ∙ sym (drop-drop (length (body ss) - length (body (drop i ss))) (length s) (s ++ (body ss ++ post)))
    ∙ ap (drop (length (body ss) - length (body (drop i ss)))) (drop_at s (body ss ++ post) (length s) refl) ∙ body_at ss i post (le_of_suc-le-suc h)
  where
    size : length (body (drop i ss)) ≤ length (body ss) → length (body (s ∷ ss)) - length (body (drop i ss)) ≡ length s + (length (body ss) - length (body (drop i ss)))
    size l = omega (arith, body_more s ss)

    front : (s : List ℕ) (ss : List (List ℕ)) → body (s ∷ ss) ++ post ≡ s ++ (body ss ++ post)
    front s ss = unfold body in append_assoc s (body ss) post

-- ---- codes 1, 2, 3 ..

module _ (file : List ℕ) where
  step : (n c : ℕ) (b : Bool) → eqb (code_at file n) c ≡ b → entry_of file (suc n) c ≡ cond b (suc n) (entry_of file n c)
  unfolding entry_of
  step n c b e = ap (λ (t : Bool). cond t (suc n) (entry_of file n c)) e

  -- none of the first n entries has a later code
  pub entry-none : (n c : ℕ) → ((i : ℕ) → i < n → code_at file i ≡ suc i) → n < c → entry_of file n c ≡ 0
  entry-none zero c h l = none
    where
      none : entry_of file zero c ≡ 0
      none = unfold entry_of in refl
  entry-none (suc n) c h l =
      step n c false (ne_eqb (code_at file n) c (λ e. other (sym (h n (omega arith)) ∙ e))) ∙ entry-none n c (λ i k. h i (omega arith)) (omega arith)
    where
      other : suc n ≡ c → ⊥
      other e = omega arith

  -- code c has entry c
  pub entry-of : (n c : ℕ) → ((i : ℕ) → i < n → code_at file i ≡ suc i) → 1 ≤ c → c ≤ n → entry_of file n c ≡ c
  entry-of zero c h a b = absurd (omega arith)
  entry-of (suc n) c h a b = ⊎_elim
      (λ e. step n c true (eq-eqb (code_at file n) c (h n (omega arith) ∙ e)) ∙ e)
      (λ q. step n c false (ne_eqb (code_at file n) c (λ e. q (sym (h n (omega arith)) ∙ e))) ∙ entry-of n c (λ i k. h i (omega arith)) a (below q))
      (same_or_not (suc n) c)
    where
      below : (suc n ≡ c → ⊥) → c ≤ n
      below q = omega (arith, q)
