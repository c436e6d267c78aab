-- Laws of the lengths in a tree file.
use mathlib.Core.Path.{◌≡◌, refl, sym, ap, ap₂, ◌∙◌}
use mathlib.Core.List.{List, [], ◌∷◌, ◌++◌, map, append_assoc}
use Prim.Native.Nat.{ℕ, suc, ◌+◌, ◌*◌}
use native.Mathlib.Omega.{arith}
use lib.ListN.{length, length-append}
use Rattle.slices.specs.Lists.{sum}
use Rattle.tree_file.specs.Bytes.{u32, in_bytes}
use Rattle.tree_file.specs.Contents.{Contents}
use Rattle.tree_file.specs.Written.{sections, body, entries, trailer_of, file_of}
use Rattle.file_bytes.proofs.Numbers.{bytes-length, column-length}
use Rattle.file_layout.specs.Lengths.{section_lengths, body_length, entry, entries_from}

module _ (keys own begin total order us uk vs vk : ℕ) where
  pub lengths-sum : sum (section_lengths keys own begin total order us uk vs vk) ≡ body_length keys own begin total order us uk vs vk
  unfolding sum
  lengths-sum = omega arith

-- ---- sections of these bytes

pub body-sum : (ss : List (List ℕ)) → length (body ss) ≡ sum (map length ss)
unfolding body sum
body-sum [] = refl
body-sum (s ∷ ss) = length-append s (body ss) ∙ ap (λ (k : ℕ). length s + k) (body-sum ss)

pub body-append : (xs ys : List (List ℕ)) → body (xs ++ ys) ≡ body xs ++ body ys
unfolding body
body-append [] ys = refl
body-append (x ∷ xs) ys = ap (λ (l : List ℕ). x ++ l) (body-append xs ys) ∙ sym (append_assoc x (body xs) (body ys))

entries_by : (code : ℕ) (ss : List (List ℕ)) → entries code ss ≡ entries_from code (map length ss)
unfolding entries entries_from
entries_by code [] = refl
entries_by code (s ∷ ss) = ap₂ (λ (k : ℕ) (l : List ℕ). entry code k (length s) ++ l) (body-sum (s ∷ ss)) (entries_by (suc code) ss)

pub entry_length : (code back bytes : ℕ) → length (entry code back bytes) ≡ 12
entry_length code back bytes =
    length-append (u32 code ++ u32 back) (u32 bytes) ∙ ap₂ ◌+◌ (length-append (u32 code) (u32 back) ∙ ap₂ ◌+◌ (bytes-length 4 code) (bytes-length 4 back)) (bytes-length 4 bytes)

pub entries-length : (code : ℕ) (ns : List ℕ) → length (entries_from code ns) ≡ 12 * length ns
unfolding entries_from
entries-length code [] = refl
entries-length code (n ∷ ns) = length-append (entry code (sum (n ∷ ns)) n) (entries_from (suc code) ns) ∙ omega (arith, entry_length code (sum (n ∷ ns)) n, entries-length (suc code) ns)

module _ (t : Contents) where
  abbrev pub lengths_of : List ℕ
  lengths_of = section_lengths (length t.keys) (length t.own) (length t.begin) (length t.total) (length t.order) (length t.u_starts) (length t.u_keys) (length t.v_starts) (length t.v_keys)

  abbrev pub bytes_of_all : ℕ
  bytes_of_all = body_length (length t.keys) (length t.own) (length t.begin) (length t.total) (length t.order) (length t.u_starts) (length t.u_keys) (length t.v_starts) (length t.v_keys)

  pub section-lengths : map length (sections t) ≡ lengths_of
  section-lengths =
      ap₂ ◌∷◌ (column-length 8 t.keys) (ap₂ ◌∷◌ (column-length 4 t.own) (ap₂ ◌∷◌ (column-length 4 t.begin) (ap₂ ◌∷◌ (column-length 4 t.total) (ap₂ ◌∷◌ (column-length 4 t.order)
      (ap₂ ◌∷◌ (column-length 4 t.u_starts) (ap₂ ◌∷◌ (column-length 8 t.u_keys) (ap₂ ◌∷◌ (column-length 4 t.v_starts) (ap₂ ◌∷◌ (column-length 8 t.v_keys) refl))))))))

  pub body-length : length (body (sections t)) ≡ bytes_of_all
  body-length = body-sum (sections t) ∙ ap sum section-lengths ∙ lengths-sum (length t.keys) (length t.own) (length t.begin) (length t.total) (length t.order) (length t.u_starts) (length t.u_keys) (length t.v_starts) (length t.v_keys)

  pub trailer-is : entries_from 1 lengths_of ++ u32 t.axes ++ u32 9 ≡ trailer_of t
  trailer-is = ap (λ (l : List ℕ). l ++ u32 t.axes ++ u32 9) (sym (entries_by 1 (sections t) ∙ ap (entries_from 1) section-lengths))

  trailer-length : length (trailer_of t) ≡ 116
  trailer-length =
      ap length (sym trailer-is) ∙ length-append (entries_from 1 lengths_of ++ u32 t.axes) (u32 9)
      ∙ ap₂ ◌+◌ (length-append (entries_from 1 lengths_of) (u32 t.axes) ∙ ap₂ ◌+◌ (entries-length 1 lengths_of) (bytes-length 4 t.axes)) (bytes-length 4 9)

  pub file-length : length (file_of t) ≡ bytes_of_all + 116
  file-length = length-append (body (sections t)) (trailer_of t) ∙ ap₂ ◌+◌ body-length trailer-length
