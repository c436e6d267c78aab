-- Where the nine sections stand, and the chain of refusals.
use mathlib.Core.Path.{◌≡◌, refl, sym, ap, ap₂, ◌∙◌, subst}
use mathlib.Core.Bool.{Bool, true, false, ◌&&◌, ◌||◌, cond}
use mathlib.Core.List.{List, [], ◌∷◌, map}
use mathlib.Core.Logic.{⊎_elim}
use Prim.Native.Nat.{ℕ, zero, suc, ◌+◌, ◌-◌, ◌*◌, ◌/◌, ◌≤◌, ◌<◌}
use native.Mathlib.Omega.{arith}
use native.Mathlib.Numerals.{add-one}
use lib.Dec.{leb, ltb, eqb}
use lib.ListN.{length, get_or, set, replicate, length-set, length-map}
use lib.Seq.{get_or-set_same, get_or-set_other, ext_get_or}
use borrow.Author.Tests.{leb-true, le-leb, lt-leb, eq-eqb, ne_eqb, ltb-true}
use Rattle.slices.specs.Lists.{range}
use Rattle.slices.specs.Every.{every}
use Rattle.slices.proofs.Every.{every-at, every-same}
use Rattle.slices.proofs.Lists.{length-range, get_or-range, get_d_map}
use Rattle.slices.proofs.Tests.{and_l, and_r, both, same_or_not}
use Rattle.refusal.specs.declared.Refusal.TheVariants.{Dims, Section}
use Rattle.refusal.specs.Chain.{ask, ◌then◌}
use Rattle.morton.specs.Keys.{axes_known}
use Rattle.survey.specs.Bytes.{u32_at}
use Rattle.tree_file.specs.Trailer.{width_of, axes_in, entries_in, trailer_bytes, trailer_fits, trailer, back_at, length_at, code_at, code_taken, is_new, is_inside, is_whole, entry_of, entry_good, sections_good, section_of, start_of, numbers_of}
use Rattle.tree_file.specs.Checks.{sections_check}
use Rattle.file_sections.specs.Answers.{Found, Entered, Placed, located, sections_in}
use Rattle.file_sections.specs.declared.Sections.{Sections}
use Rattle.refusal.specs.Outcome.{Answer}
use Rattle.std.specs.Prelude.{Option, None, Some, Err, Ok}

-- ---- the width of a code

module _ (code : ℕ) where
  pub width-1 : code ≡ 1 → (8 ≡ width_of code) × (4 ≤ 8)
  width-1 e = (rw (eq-eqb code 1 e), omega arith)

  pub width-7 : (code ≡ 1 → ⊥) → code ≡ 7 → (8 ≡ width_of code) × (4 ≤ 8)
  width-7 a e = (rw (ne_eqb code 1 a, eq-eqb code 7 e), omega arith)

  pub width-9 : (code ≡ 1 → ⊥) → (code ≡ 7 → ⊥) → code ≡ 9 → (8 ≡ width_of code) × (4 ≤ 8)
  width-9 a b e = (rw (ne_eqb code 1 a, ne_eqb code 7 b, eq-eqb code 9 e), omega arith)

  pub width-4 : (code ≡ 1 → ⊥) → (code ≡ 7 → ⊥) → (code ≡ 9 → ⊥) → (4 ≡ width_of code) × (4 ≤ 4)
  width-4 a b e = (rw (ne_eqb code 1 a, ne_eqb code 7 b, ne_eqb code 9 e), omega arith)

-- ---- one section

pub entry-most : (file : List ℕ) (n c : ℕ) → entry_of file n c ≤ n
unfolding entry_of
entry-most file zero c = omega arith
entry-most file (suc n) c = go (eqb (code_at file n) c) (entry_of file n c) (entry-most file n c)
  where
    go : (b : Bool) (m : ℕ) → m ≤ n → cond b (suc n) m ≤ suc n
    go true m h = omega arith
    go false m h = omega arith

module _ (file : List ℕ) (tr axes : ℕ) (at : List ℕ) (g : Placed file tr axes at) where
  module _ (c : ℕ) (l : c < 9) where
    entry-is : get_or at (c + 1) 0 ≡ entry_of file (entries_in file) (suc c)
    entry-is = ap (λ (k : ℕ). get_or at k 0) (add-one c) ∙ g.found c l

    pub entry-some : 1 ≤ get_or at (c + 1) 0
    entry-some = omega (arith, entry-is, g.present c l)

    pub entry-fits : tr + 12 * (get_or at (c + 1) 0 - 1) + 12 ≤ length file
    entry-fits = omega (arith, entry-is, g.present c l, entry-most file (entries_in file) (suc c), g.room)

    module _ (back bytes : ℕ) (eb : back ≡ u32_at file (tr + 12 * (get_or at (c + 1) 0 - 1) + 4)) (el : bytes ≡ u32_at file (tr + 12 * (get_or at (c + 1) 0 - 1) + 8)) where
      back_is : back ≡ back_at file (section_of file (suc c))
      back_is = eb ∙ ap₂ (λ (k e : ℕ). u32_at file (k + 12 * (e - 1) + 4)) g.is entry-is

      bytes-is : bytes ≡ length_at file (section_of file (suc c))
      bytes-is = el ∙ ap₂ (λ (k e : ℕ). u32_at file (k + 12 * (e - 1) + 8)) g.is entry-is

      pub back_fits : back ≤ tr
      back_fits = omega (arith, back_is, g.is, g.inside (section_of file (suc c)) (omega (arith, g.present c l, entry-most file (entries_in file) (suc c))))

      start_is : tr - back ≡ start_of file (suc c)
      start_is = ap₂ ◌-◌ g.is back_is

      count-is : (w : ℕ) → w ≡ width_of (c + 1) → bytes / w ≡ numbers_of file (suc c)
      count-is w e = ap₂ ◌/◌ bytes-is (e ∙ ap width_of (add-one c))

-- ---- all nine, one a turn

pub record Locating (file starts counts : List ℕ) (c : ℕ) : Type 0 where
  pub within : c ≤ 9
  pub starts_size : length starts ≡ 9
  pub counts_size : length counts ≡ 9
  pub starts_are : (j : ℕ) → j < c → get_or starts j 0 ≡ start_of file (suc j)
  pub counts_are : (j : ℕ) → j < c → get_or counts j 0 ≡ numbers_of file (suc j)

pub locating-none : (file : List ℕ) → Locating file (replicate 9 0) (replicate 9 0) 0
locating-none file = record { within = omega arith; starts_size = refl; counts_size = refl; starts_are = λ j h. absurd (native.Mathlib.Nat.not-suc-le-zero h); counts_are = λ j h. absurd (native.Mathlib.Nat.not-suc-le-zero h) }

-- one more entry of a column
stored : (f : ℕ → ℕ) (xs : List ℕ) (c x : ℕ) → c < length xs → x ≡ f (suc c) → ((j : ℕ) → j < c → get_or xs j 0 ≡ f (suc j)) → (j : ℕ) → j < c + 1 → get_or (set xs c x) j 0 ≡ f (suc j)
stored f xs c x l e h j k = ⊎_elim
    (λ q. ap (λ (m : ℕ). get_or (set xs c x) m 0) (sym q) ∙ get_or-set_same xs c x 0 l ∙ e ∙ ap (λ (m : ℕ). f (suc m)) q)
    (λ q. get_or-set_other xs c j x 0 (λ z. q (sym z)) ∙ h j (below q))
    (same_or_not c j)
  where
    below : (c ≡ j → ⊥) → j < c
    below q = omega (arith, q)

module _ (file : List ℕ) (tr axes : ℕ) (at : List ℕ) (g : Placed file tr axes at) (starts counts : List ℕ) (c : ℕ) (i : Locating file starts counts c) where
  pub locating-more : c < 9 → (back bytes w : ℕ) → back ≡ u32_at file (tr + 12 * (get_or at (c + 1) 0 - 1) + 4) → bytes ≡ u32_at file (tr + 12 * (get_or at (c + 1) 0 - 1) + 8) → w ≡ width_of (c + 1)
      → Locating file (set starts c (tr - back)) (set counts c (bytes / w)) (c + 1)
  locating-more l back bytes w eb el ew = record {
    within = omega arith;
    starts_size = length-set starts c (tr - back) ∙ i.starts_size;
    counts_size = length-set counts c (bytes / w) ∙ i.counts_size;
    starts_are = stored (start_of file) starts c (tr - back) (omega (arith, i.starts_size)) (start_is file tr axes at g c l back bytes eb el) i.starts_are;
    counts_are = stored (numbers_of file) counts c (bytes / w) (omega (arith, i.counts_size)) (count-is file tr axes at g c l back bytes eb el w ew) i.counts_are;
  }

  pub locating-done : 9 ≤ c → record { axes = axes; starts = starts; counts = counts } ≡ located file
  locating-done h =
      ap (λ (a : ℕ). answer a starts counts) g.says ∙ ap₂ (answer (axes_in file)) (column (start_of file) starts i.starts_size (λ j k. i.starts_are j (omega arith))) (column (numbers_of file) counts i.counts_size (λ j k. i.counts_are j (omega arith)))
    where
      answer : ℕ → List ℕ → List ℕ → Sections
      answer a s k = record { axes = a; starts = s; counts = k }

      column : (f : ℕ → ℕ) (xs : List ℕ) → length xs ≡ 9 → ((j : ℕ) → j < 9 → get_or xs j 0 ≡ f (suc j)) → xs ≡ map f (range 1 9)
      column f xs n e = ext_get_or 0 xs (map f (range 1 9)) (n ∙ sym (length-map (range 1 9) f ∙ length-range 1 9)) (λ j h.
          let k : j < 9 = omega arith in
          e j k ∙ sym (get_d_map f (range 1 9) j (omega (arith, length-range 1 9)) ∙ ap f (get_or-range 1 9 j k ∙ omega arith)))

-- ---- the chain

-- the entries that were found, or that one is not good
pub entries-found : (file : List ℕ) (n : ℕ) (r : Option (List ℕ)) (at : List ℕ) → Entered file n r → r ≡ Some at → Found file n at
entries-found file n r at h e = subst (Entered file n) e h

pub entries-bad : (file : List ℕ) (n : ℕ) (r : Option (List ℕ)) → Entered file n r → r ≡ None → every n (entry_good file) ≡ false
entries-bad file n r h e = subst (Entered file n) e h

module _ (file : List ℕ) where
  abbrev by : Bool → Bool → Bool → Answer Sections
  by f a s = ask f Section then ask a Dims then ask s Section then Ok (located file)

  pub too_short : length file < 8 → Err Section ≡ sections_in file
  too_short h = sym (ap (λ (f : Bool). by f (axes_known (axes_in file)) (sections_good file)) (ap (λ (b : Bool). b && leb (trailer_bytes file) (length file)) (lt-leb 8 (length file) h)))

  module _ (long : 8 ≤ length file) (n : ℕ) (en : n ≡ entries_in file) where
    pub no-trailer : length file < 12 * n + 8 → Err Section ≡ sections_in file
    no-trailer h = sym (ap (λ (f : Bool). by f (axes_known (axes_in file)) (sections_good file)) (ap₂ ◌&&◌ (le-leb 8 (length file) long) (lt-leb (trailer_bytes file) (length file) (omega (arith, en)))))

    module _ (fits : 12 * n + 8 ≤ length file) where
      trailer-fits : trailer_fits file ≡ true
      trailer-fits = both (le-leb 8 (length file) long) (le-leb (trailer_bytes file) (length file) (omega (arith, en)))

      pub trailer-is : length file - (12 * n + 8) ≡ trailer file
      trailer-is = ap (λ (k : ℕ). length file - (12 * k + 8)) en

      pub trailer-room : length file - (12 * n + 8) + 12 * n + 8 ≤ length file
      trailer-room = omega arith

      module _ (axes : ℕ) (ea : axes ≡ axes_in file) (b : Bool) (known : b ≡ axes_known axes) where
        pub not_known : b ≡ false → Err Dims ≡ sections_in file
        not_known q = sym (ap₂ (λ (f a : Bool). by f a (sections_good file)) trailer-fits (ap axes_known (sym ea) ∙ sym known ∙ q))

        module _ (y : b ≡ true) where
          by-sections : (s : Bool) → sections_good file ≡ s → (ask s Section then Ok (located file)) ≡ sections_in file
          by-sections s q = ap (λ (t : Bool). ask t Section then Ok (located file)) (sym q) ∙ sym (ap₂ (λ (f a : Bool). by f a (sections_good file)) trailer-fits (ap axes_known (sym ea) ∙ sym known ∙ y))

          good-is : sections_good file ≡ (every (entries_in file) (entry_good file) && every 9 (λ c. ltb 0 (entry_of file (entries_in file) (suc c))))
          unfolding sections_good
          good-is = refl

          judged : every (entries_in file) (entry_good file) ≡ every n (entry_good file)
          judged = ap (λ (k : ℕ). every k (entry_good file)) (sym en)

          pub not_good : every n (entry_good file) ≡ false → Err Section ≡ sections_in file
          not_good q = by-sections false (good-is ∙ ap (λ (t : Bool). t && every 9 (λ c. ltb 0 (entry_of file (entries_in file) (suc c)))) (judged ∙ q))

          module _ (at : List ℕ) (h : Found file n at) (p : Bool) (all : p ≡ every 9 (λ c. ltb 0 (get_or at (suc c) 0))) where
            found : (c : ℕ) → c < 9 → get_or at (suc c) 0 ≡ entry_of file (entries_in file) (suc c)
            found c l = h.found (suc c) (omega arith) ∙ ap (λ (k : ℕ). entry_of file k (suc c)) en

            present : p ≡ every 9 (λ c. ltb 0 (entry_of file (entries_in file) (suc c)))
            present = all ∙ every-same (λ c. ltb 0 (get_or at (suc c) 0)) (λ c. ltb 0 (entry_of file (entries_in file) (suc c))) 9 (λ c l. ap (ltb 0) (found c l))

            sections-are : sections_good file ≡ p
            sections-are = good-is ∙ ap₂ ◌&&◌ (judged ∙ h.good) (sym present)

            pub not-present : p ≡ false → Err Section ≡ sections_in file
            not-present q = by-sections false (sections-are ∙ q)

            module _ (yes : p ≡ true) where
              pub placed : Placed file (length file - (12 * n + 8)) axes at
              placed = record {
                is = trailer-is;
                says = ea;
                room = omega (arith, en);
                size = h.size;
                found = found;
                present = λ c l. ltb-true 0 (entry_of file (entries_in file) (suc c)) (every-at (λ c. ltb 0 (entry_of file (entries_in file) (suc c))) 9 (sym present ∙ yes) c l);
                inside = λ i l. inside_of i (every-at (entry_good file) (entries_in file) (judged ∙ h.good) i l);
              }
                where
                  inside_of : (i : ℕ) → entry_good file i ≡ true → back_at file i ≤ trailer file
                  inside_of i e =
                      leb-true (back_at file i) (trailer file) (and_l (leb (back_at file i) (trailer file)) (leb (length_at file i) (back_at file i))
                      (and_l (is_inside file i) (is_whole file i) (and_r (is_new file i) (is_inside file i && is_whole file i) (and_r (code_taken file i) (is_new file i && (is_inside file i && is_whole file i)) e))))

              pub all_found : (r : Sections) → r ≡ located file → Ok r ≡ sections_in file
              all_found r e = ap Ok e ∙ by-sections true (sections-are ∙ yes)
