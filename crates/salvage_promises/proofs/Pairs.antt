-- The change list as pairs: entry by entry a code and its key, code after code, and each as often as it is told.
use mathlib.Core.Path.{◌≡◌, refl, ap, ◌∙◌}
use mathlib.Core.Bool.{Bool, ◌&&◌, not}
use mathlib.Core.List.{List, [], ◌∷◌, ◌++◌, map}
use Prim.Native.Nat.{ℕ, ◌+◌}
use lib.Dec.{eqb}
use lib.ListN.{length, replicate, length-append}
use Rattle.slices.specs.Lists.{filter, bit, count, range}
use Rattle.slices.proofs.Rows.{count-filter, count-row}
use Rattle.tree.specs.Nodes.{stored}
use Rattle.salvaged.specs.Nodes.{Input}
use Rattle.salvaged.specs.Columns.{new_keys}
use Rattle.salvaged.specs.Changes.{key_at, keys_where, not_valid, repeated, added, cleared, moved, changed_keys, change_codes}
use Rattle.salvaged.proofs.Listed.{codes-length}
use Rattle.salvage_promises.specs.Promises.{pairs, with_code}

-- one code's part stands before the rest
part-first : (code : ℕ) (keys codes rest : List ℕ) → pairs (replicate (length keys) code ++ codes) (keys ++ rest) ≡ with_code code keys ++ pairs codes rest
unfolding pairs
part-first code [] codes rest = refl
part-first code (k ∷ keys) codes rest = ap (λ (ps : List (ℕ × ℕ)). (code, k) ∷ ps) (part-first code keys codes rest)

part-last : (code : ℕ) (keys : List ℕ) → pairs (replicate (length keys) code) keys ≡ with_code code keys
unfolding pairs
part-last code [] = refl
part-last code (k ∷ keys) = ap (λ (ps : List (ℕ × ℕ)). (code, k) ∷ ps) (part-last code keys)

-- numbers that pass a test after a step
count_map : (p : ℕ → Bool) (f : ℕ → ℕ) (xs : List ℕ) → count p (map f xs) ≡ count (λ x. p (f x)) xs
unfolding count
count_map p f [] = refl
count_map p f (x ∷ xs) = ap (λ (n : ℕ). bit (p (f x)) + n) (count_map p f xs)

module _ (i : Input) where
  -- entry by entry, a code and its key are those of one of the five parts, in the order of the codes
  pub listed-pairs : pairs (change_codes i) (changed_keys i) ≡ with_code 1 (not_valid i) ++ (with_code 2 (repeated i) ++ (with_code 3 (added i) ++ (with_code 4 (cleared i) ++ with_code 5 (moved i))))
  unfolding change_codes changed_keys
  listed-pairs =
      part-first 1 (not_valid i) _ _
      ∙ ap (λ (ps : List (ℕ × ℕ)). with_code 1 (not_valid i) ++ ps) (part-first 2 (repeated i) _ _
      ∙ ap (λ (ps : List (ℕ × ℕ)). with_code 2 (repeated i) ++ ps) (part-first 3 (added i) _ _
      ∙ ap (λ (ps : List (ℕ × ℕ)). with_code 3 (added i) ++ ps) (part-first 4 (cleared i) _ _
      ∙ ap (λ (ps : List (ℕ × ℕ)). with_code 4 (cleared i) ++ ps) (part-last 5 (moved i)))))

  -- both columns are as long as the five parts together
  pub listed-length : length (changed_keys i) ≡ length (not_valid i) + (length (repeated i) + (length (added i) + (length (cleared i) + length (moved i))))
  unfolding changed_keys
  listed-length =
      length-append (not_valid i) _ ∙ ap (λ (n : ℕ). length (not_valid i) + n) (length-append (repeated i) _
      ∙ ap (λ (n : ℕ). length (repeated i) + n) (length-append (added i) _
      ∙ ap (λ (n : ℕ). length (added i) + n) (length-append (cleared i) (moved i))))

  pub codes-listed : length (change_codes i) ≡ length (not_valid i) + (length (repeated i) + (length (added i) + (length (cleared i) + length (moved i))))
  codes-listed = codes-length i ∙ listed-length

  -- 1, 2, 4 and 5: a key stands under a code as often as rows with it pass the code's test
  pub where-times : (p : ℕ → Bool) (k : ℕ) → count (λ x. eqb x k) (keys_where i p) ≡ count (λ row. p row && eqb (key_at i row) k) (range 0 (length i.key))
  unfolding keys_where
  where-times p k =
      count_map (λ x. eqb x k) (key_at i) (filter p (range 0 (length i.key)))
      ∙ count-filter (λ row. eqb (key_at i row) k) p (range 0 (length i.key))

  -- 3: and under this one as often as it is a node's, if it is no row's
  pub added-times : (k : ℕ) → count (λ x. eqb x k) (added i) ≡ count (λ x. not (stored i.key x) && eqb x k) (new_keys i)
  added-times k = count-row (λ x. eqb x k) (λ x. not (stored i.key x)) (new_keys i)
