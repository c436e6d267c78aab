-- What the answers on the way from a file to its text say of the columns.
use mathlib.Core.Path.{◌≡◌, refl, sym, ap, ap₂, ◌∙◌}
use mathlib.Core.Bool.{Bool, true, false}
use mathlib.Core.List.{List, [], ◌∷◌, ◌++◌, map}
use Prim.Native.Nat.{ℕ, ◌+◌, ◌-◌, ◌*◌, ◌≤◌, min}
use native.Mathlib.Omega.{arith}
use lib.Dec.{leb}
use lib.Ieee.{Float}
use lib.ListN.{length, take, replicate, length-append, length-replicate, length-map}
use lib.Seq.{take_at}
use borrow.Author.Tests.{leb-true}
use Rattle.refusal.specs.declared.Refusal.{Refusal}
use Rattle.refusal.specs.declared.Refusal.TheVariants.{Room}
use Rattle.refusal.specs.Left.{left}
use Rattle.refusal.specs.Chain.{ask, ◌then◌}
use Rattle.refusal.proofs.Chain.{answered-refused}
use Rattle.slices.specs.Lists.{filled, range, sum}
use Rattle.slices.proofs.Lists.{length-range}
use Rattle.tree.specs.Columns.{columns}
use Rattle.growth.specs.Columns.{own_column, begin_column}
use Rattle.laying.specs.Outcomes.{asked_outcome, inside_outcome, work_outcome}
use Rattle.space.specs.Rows.{rows_of}
use Rattle.growth.specs.declared.Grown.{Grown}
use Rattle.growth.specs.Grown.{grown}
use Rattle.build.specs.Asked.{Asked, built_keys, built_own, built_begins, built_totals}
use Rattle.build.specs.Outcomes.{column_outcome, build_outcome}
use Rattle.survey.specs.declared.Survey.{Survey}
use Rattle.space.specs.Floats.{nought}
use Rattle.survey.specs.File.{file_outcome, said, survey, source_rows, target_rows, filled_with}
use Rattle.survey.proofs.Numbers.{f64s-length}
use Rattle.survey.proofs.Surveys.{reads-said, answers-said}
use Rattle.text.specs.Listing.{length_or, refusal_line}
use Rattle.text.specs.Listing.{text_answer}
use Rattle.report.specs.Report.{text_or}
use Rattle.printing.specs.Printed.{asked_by, columns_text, survey_text_in, survey_text, file_text}
use Rattle.refusal.specs.Outcome.{Answer, Outcome, accepted}
use Rattle.std.specs.Prelude.{Err, Ok, Some}

-- ---- a build's answer

was-built : (o : Outcome) (k : List ℕ) (g : Grown) → Ok g ≡ (o then Ok (grown k)) → (o ≡ accepted) × (g.nodes ≡ length k)
was-built (Ok tt) k g e = let z : g ≡ grown k = cc in (refl, ap (λ (g : Grown). g.nodes) z)
was-built (Err r) k g e = absurd (let z : ◌≡◌ {A = ℕ} 0 1 = cc in omega arith)

own-length : (a : Asked) → length (built_own a) ≡ length (built_keys a)
unfolding built_own own_column
own-length a = length-map (built_keys a) _

begin-length : (a : Asked) → length (built_begins a) ≡ length (built_keys a)
unfolding built_begins begin_column
begin-length a = length-map (range 0 (length (built_own a))) (λ i. sum (take i (built_own a))) ∙ length-range 0 (length (built_own a)) ∙ own-length a

totals-length : (a : Asked) → length (built_totals a) ≡ length (built_keys a)
unfolding built_totals
totals-length a = length-map (built_keys a) _

-- a column that is left by a build: its first entries
column-front : (o : Outcome) (s xs : List ℕ) (n room : ℕ) → s ≡ left o room xs → o ≡ accepted → n ≡ length xs → take n s ≡ xs
column-front o s xs n room e f k = ap (take n) (e ∙ ap (λ (o : Outcome). left o room xs) f) ∙ take_at xs (replicate (room - length xs) 0) n (sym k)

column-long : (o : Outcome) (s xs : List ℕ) (n room : ℕ) → s ≡ left o room xs → o ≡ accepted → n ≡ length xs → n ≤ length s
column-long o s xs n room e f k = omega (arith, ap length (e ∙ ap (λ (o : Outcome). left o room xs) f) ∙ length-append xs (replicate (room - length xs) 0))

module _ (s : Survey) (sources targets : List Float) (work order nodes : ℕ) (r : Answer Grown) (e : r ≡ (build_outcome (asked_by s sources targets) work order nodes then Ok (grown (built_keys (asked_by s sources targets))))) where
  abbrev a : Asked
  a = asked_by s sources targets

  abbrev o : Outcome
  o = build_outcome (asked_by s sources targets) work order nodes

  pub built-refused : (x : Refusal) → r ≡ Err x → refusal_line x ≡ survey_text_in work order nodes s sources targets
  built-refused x f =
      sym (ap (λ (o : Outcome). text_or o (columns_text s.b (columns (built_keys a) (built_own a) (built_begins a) (built_totals a)) targets s.sources)) (answered-refused o (grown (built_keys a)) x (sym f ∙ e)))

  module _ (g : Grown) (f : r ≡ Ok g) where
    abbrev n : ℕ
    n = g.nodes

    done : o ≡ accepted
    done = (was-built o (built_keys a) g (sym f ∙ e)).0

    count : n ≡ length (built_keys a)
    count = (was-built o (built_keys a) g (sym f ∙ e)).1

    pub key-long : (key : List ℕ) (room : ℕ) → key ≡ left o room (built_keys a) → n ≤ length key
    key-long key room g = column-long o key (built_keys a) n room g done count

    pub own-long : (own : List ℕ) (room : ℕ) → own ≡ left o room (built_own a) → n ≤ length own
    own-long own room g = column-long o own (built_own a) n room g done (count ∙ sym (own-length a))

    pub begin-long : (begin : List ℕ) (room : ℕ) → begin ≡ left o room (built_begins a) → n ≤ length begin
    begin-long begin room g = column-long o begin (built_begins a) n room g done (count ∙ sym (begin-length a))

    pub total-long : (total : List ℕ) (room : ℕ) → total ≡ left o room (built_totals a) → n ≤ length total
    total-long total room g = column-long o total (built_totals a) n room g done (count ∙ sym (totals-length a))

    pub built-text : (key own begin total : List ℕ) (keys owns begins totals : ℕ)
        → key ≡ left o keys (built_keys a) → own ≡ left o owns (built_own a) → begin ≡ left o begins (built_begins a) → total ≡ left o totals (built_totals a)
        → columns_text s.b (columns (take n key) (take n own) (take n begin) (take n total)) targets s.sources ≡ survey_text_in work order nodes s sources targets
    built-text key own begin total keys owns begins totals g h i j =
        ap₂ (λ (k w : List ℕ). columns_text s.b (columns k w (take n begin) (take n total)) targets s.sources) (column-front o key (built_keys a) n keys g done count) (column-front o own (built_own a) n owns h done (count ∙ sym (own-length a)))
        ∙ ap₂ (λ (b t : List ℕ). columns_text s.b (columns (built_keys a) (built_own a) b t) targets s.sources) (column-front o begin (built_begins a) n begins i done (count ∙ sym (begin-length a))) (column-front o total (built_totals a) n totals j done (count ∙ sym (totals-length a)))
        ∙ sym (ap (λ (o : Outcome). text_or o (columns_text s.b (columns (built_keys a) (built_own a) (built_begins a) (built_totals a)) targets s.sources)) done)

-- ---- a file's answer

pub file-refused : (file : List ℕ) (x : Refusal) → Err x ≡ survey file → refusal_line x ≡ file_text file
file-refused file x e = sym (ap (λ (o : Outcome). text_or o (survey_text (said file) (source_rows file) (target_rows file))) (answered-refused (file_outcome file) (said file) x e))

module _ (file : List ℕ) (s : Survey) (e : Ok s ≡ survey file) where
  long : (m : ℕ) (column rows : List Float) → column ≡ filled_with 4088 rows → m ≡ length rows → m ≤ length column
  long m column rows g k = omega (arith, ap length g ∙ length-append rows (replicate (4088 - length rows) nought))

  sources-count : s.sources * s.b.axes ≡ length (source_rows file)
  sources-count = sym (ap length (sym (reads-said file s e).sources_are) ∙ f64s-length file (s.sources * s.b.axes) 0)

  targets-count : s.targets * s.b.axes ≡ length (target_rows file)
  targets-count = sym (ap length (sym (reads-said file s e).targets_are) ∙ f64s-length file (s.targets * s.b.axes) (8 * (s.sources * s.b.axes)))

  pub sources-long : (column : List Float) → column ≡ filled_with 4088 (source_rows file) → s.sources * s.b.axes ≤ length column
  sources-long column g = long (s.sources * s.b.axes) column (source_rows file) g sources-count

  pub targets-long : (column : List Float) → column ≡ filled_with 4088 (target_rows file) → s.targets * s.b.axes ≤ length column
  targets-long column g = long (s.targets * s.b.axes) column (target_rows file) g targets-count

  pub file-text : (xs ts : List Float) → xs ≡ filled_with 4088 (source_rows file) → ts ≡ filled_with 4088 (target_rows file)
      → survey_text s (take (s.sources * s.b.axes) xs) (take (s.targets * s.b.axes) ts) ≡ file_text file
  file-text xs ts g h =
      ap₂ (λ (x t : List Float). survey_text s x t)
      (ap (take (s.sources * s.b.axes)) g ∙ take_at (source_rows file) (replicate (4088 - length (source_rows file)) nought) (s.sources * s.b.axes) (sym sources-count))
      (ap (take (s.targets * s.b.axes)) h ∙ take_at (target_rows file) (replicate (4088 - length (target_rows file)) nought) (s.targets * s.b.axes) (sym targets-count))
      ∙ ap (λ (s : Survey). survey_text s (source_rows file) (target_rows file)) (answers-said file s e).1
      ∙ sym (ap (λ (o : Outcome). text_or o (survey_text (said file) (source_rows file) (target_rows file))) (answers-said file s e).0)

-- ---- a text that was written has its length in the slice

told : (b : Bool) (k n : ℕ) → Some n ≡ length_or b k → (b ≡ true) × (n ≡ k)
told true k n e = (refl, cc)
told false k n e = absurd (let z : ◌≡◌ {A = ℕ} 0 1 = cc in omega arith)

pub written-within : (room : ℕ) (text : List ℕ) (n : ℕ) → Some n ≡ text_answer room text → n ≤ room
written-within room text n e =
    let (b, k) = told (leb (length text) room) (length text) n e in
    omega (arith, leb-true (length text) room b)
