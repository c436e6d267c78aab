-- A file whose trailer and sections were not refused: where its sections stand, and what is read there.
use mathlib.Core.Path.{◌≡◌, refl, sym, ap, ap₂, ◌∙◌, subst}
use mathlib.Core.Bool.{Bool, true, false, ◌&&◌, ◌||◌, cond}
use mathlib.Core.List.{List, map}
use Prim.Native.Nat.{ℕ, zero, suc, ◌+◌, ◌-◌, ◌*◌, ◌/◌, ◌%◌, ◌≤◌, ◌<◌}
use native.Mathlib.Omega.{arith}
use lib.Dec.{leb, ltb, eqb}
use lib.ListN.{length, get_or, length-map}
use borrow.Author.Tests.{leb-true, ltb-true, eqb-true}
use Rattle.slices.specs.Lists.{range}
use Rattle.slices.specs.Every.{every}
use Rattle.slices.proofs.Every.{every-at}
use Rattle.slices.proofs.Lists.{length-range, get_or-range, get_d_map}
use Rattle.slices.proofs.Tests.{and_l, and_r}
use Rattle.refusal.specs.declared.Refusal.TheVariants.{Dims, Section}
use Rattle.refusal.specs.Chain.{ask, ◌then◌}
use Rattle.refusal.proofs.Chain.{asked, both-done, after-done, answered-done}
use Rattle.morton.specs.Keys.{axes_known}
use Rattle.tree_file.specs.Bytes.{entries_at}
use Rattle.tree_file.specs.Trailer.{width_of, axes_in, entries_in, trailer_bytes, trailer_fits, trailer, back_at, length_at, code_at, code_taken, is_new, is_inside, is_whole, entry_of, entry_good, sections_good, section_of, start_of, numbers_of, column_in}
use Rattle.tree_file.specs.Checks.{sections_check}
use Rattle.file_bytes.proofs.Numbers.{entries-length}
use Rattle.file_sections.specs.declared.Sections.{Sections}
use Rattle.file_sections.specs.Answers.{located, sections_in}
use Rattle.file_sections.proofs.Located.{entry-most}
use Rattle.file_columns.specs.Columns.{Sectioned}
use Rattle.refusal.specs.Outcome.{Answer, accepted}
use Rattle.std.specs.Prelude.{Ok}

-- ---- a column is entries at a place

pub column-is : (file : List ℕ) (code : ℕ) → column_in file code ≡ entries_at file (width_of code) (start_of file code) (numbers_of file code)
unfolding column_in
column-is file code = refl

pub column-length : (file : List ℕ) (code : ℕ) → length (column_in file code) ≡ numbers_of file code
column-length file code = ap length (column-is file code) ∙ entries-length file (width_of code) (start_of file code) (numbers_of file code)

module _ (file : List ℕ) (s : Sections) (g : Sectioned file s) (code : ℕ) (some : 1 ≤ code) (most : code ≤ 9) where
  back : suc (code - 1) ≡ code
  back = omega arith

  low : code - 1 < 9
  low = omega arith

  pub start_is : get_or s.starts (code - 1) 0 ≡ start_of file code
  start_is = g.start (code - 1) low ∙ ap (start_of file) back

  pub count-is : get_or s.counts (code - 1) 0 ≡ numbers_of file code
  count-is = g.count (code - 1) low ∙ ap (numbers_of file) back

  pub counted : get_or s.counts (code - 1) 0 ≡ length (column_in file code)
  counted = count-is ∙ sym (column-length file code)

  module _ (w : ℕ) (e : width_of code ≡ w) where
    pub inside : get_or s.starts (code - 1) 0 + w * get_or s.counts (code - 1) 0 ≤ length file
    inside =
        let h = subst (λ c. start_of file c + width_of c * numbers_of file c ≤ length file) back (g.inside (code - 1) low) in
        let q : start_of file code + w * numbers_of file code ≤ length file = subst (λ k. start_of file code + k * numbers_of file code ≤ length file) e h in
        subst (λ k. k + w * get_or s.counts (code - 1) 0 ≤ length file) (sym start_is) (subst (λ k. start_of file code + w * k ≤ length file) (sym count-is) q)

    pub entry-is : (i r : ℕ) → r ≡ get_or (entries_at file w (get_or s.starts (code - 1) 0) (get_or s.counts (code - 1) 0)) i 0 → r ≡ get_or (column_in file code) i 0
    entry-is i r h = h ∙ ap₂ (λ (a n : ℕ). get_or (entries_at file w a n) i 0) start_is count-is
        ∙ ap (λ k. get_or (entries_at file k (start_of file code) (numbers_of file code)) i 0) (sym e)
        ∙ ap (λ l. get_or l i 0) (sym (column-is file code))

-- ---- the sections of a file that was not refused

good-is : (file : List ℕ) → sections_good file ≡ (every (entries_in file) (entry_good file) && every 9 (λ c. ltb 0 (entry_of file (entries_in file) (suc c))))
unfolding sections_good
good-is file = refl

module _ (file : List ℕ) (fits : trailer_fits file ≡ true) (known : axes_known (axes_in file) ≡ true) (good : sections_good file ≡ true) where
  all : (every (entries_in file) (entry_good file) && every 9 (λ c. ltb 0 (entry_of file (entries_in file) (suc c)))) ≡ true
  all = sym (good-is file) ∙ good

  present : (c : ℕ) → c < 9 → 0 < entry_of file (entries_in file) (suc c)
  present c l = ltb-true 0 (entry_of file (entries_in file) (suc c)) (every-at (λ c. ltb 0 (entry_of file (entries_in file) (suc c))) 9 (and_r (every (entries_in file) (entry_good file)) (every 9 (λ c. ltb 0 (entry_of file (entries_in file) (suc c)))) all) c l)

  trailer-in : trailer file ≤ length file
  trailer-in = omega arith

  inside_of : (i : ℕ) → i < entries_in file → (back_at file i ≤ trailer file) × (length_at file i ≤ back_at file i)
  inside_of i l =
      let e = every-at (entry_good file) (entries_in file) (and_l (every (entries_in file) (entry_good file)) (every 9 (λ c. ltb 0 (entry_of file (entries_in file) (suc c)))) all) i l in
      let h = and_l (is_inside file i) (is_whole file i) (and_r (is_new file i) (is_inside file i && is_whole file i) (and_r (code_taken file i) (is_new file i && (is_inside file i && is_whole file i)) e)) in (
        leb-true (back_at file i) (trailer file) (and_l (leb (back_at file i) (trailer file)) (leb (length_at file i) (back_at file i)) h),
        leb-true (length_at file i) (back_at file i) (and_r (leb (back_at file i) (trailer file)) (leb (length_at file i) (back_at file i)) h),
      )

  width-cases : (w n : ℕ) (b : Bool) → w ≡ cond b 8 4 → w * (n / w) ≤ n
  width-cases w n true e = subst (λ k. k * (n / k) ≤ n) (sym e) (omega arith)
  width-cases w n false e = subst (λ k. k * (n / k) ≤ n) (sym e) (omega arith)

  stands : (c : ℕ) → c < 9 → start_of file (suc c) + width_of (suc c) * numbers_of file (suc c) ≤ length file
  stands c l =
      let i : section_of file (suc c) < entries_in file = omega (arith, present c l, entry-most file (entries_in file) (suc c)) in
      let h = inside_of (section_of file (suc c)) i in
      let q : width_of (suc c) * numbers_of file (suc c) ≤ length_at file (section_of file (suc c)) = width-cases (width_of (suc c)) (length_at file (section_of file (suc c))) (eqb (suc c) 1 || (eqb (suc c) 7 || eqb (suc c) 9)) refl in
      add (trailer file) (back_at file (section_of file (suc c))) (length_at file (section_of file (suc c))) (width_of (suc c) * numbers_of file (suc c)) (length file) h.0 h.1 q trailer-in
    where
      add : (t b n x l : ℕ) → b ≤ t → n ≤ b → x ≤ n → t ≤ l → (t - b) + x ≤ l
      add t b n x l h g q z = omega arith

  pub sectioned-at : Sectioned file (located file)
  sectioned-at = record {
    says = refl;
    known = known;
    starts_size = length-map (range 1 9) (start_of file) ∙ length-range 1 9;
    counts_size = length-map (range 1 9) (numbers_of file) ∙ length-range 1 9;
    start = entry (start_of file);
    count = entry (numbers_of file);
    inside = stands;
  }
    where
      entry : (f : ℕ → ℕ) (c : ℕ) → c < 9 → get_or (map f (range 1 9)) c 0 ≡ f (suc c)
      entry f c l = get_d_map f (range 1 9) c (omega (arith, length-range 1 9)) ∙ ap f (get_or-range 1 9 c l ∙ omega arith)

-- not refused
pub sections-passed : (file : List ℕ) → sections_check file ≡ accepted → (trailer_fits file ≡ true) × (axes_known (axes_in file) ≡ true) × (sections_good file ≡ true)
sections-passed file e =
    let (a, b) = both-done (ask (trailer_fits file) Section then ask (axes_known (axes_in file)) Dims) (ask (sections_good file) Section) e in
    let (c, d) = both-done (ask (trailer_fits file) Section) (ask (axes_known (axes_in file)) Dims) a in
    (asked (trailer_fits file) Section c, asked (axes_known (axes_in file)) Dims d, asked (sections_good file) Section b)

-- the sections of a file that were handed on
pub answers-located : (file : List ℕ) (s : Sections) → Ok s ≡ sections_in file → (sections_check file ≡ accepted) × (s ≡ located file)
answers-located file s e =
    let d = answered-done (sections_check file) (located file) s e in
    let z : ◌≡◌ {A = Answer Sections} (Ok s) (Ok (located file)) = e ∙ after-done (sections_check file) (Ok (located file)) d in
    (d, cc)

pub sectioned : (file : List ℕ) (s : Sections) → Ok s ≡ sections_in file → Sectioned file s
sectioned file s e =
    let (d, is) = answers-located file s e in
    let (a, b, c) = sections-passed file d in
    subst (Sectioned file) (sym is) (sectioned-at file a b c)
