-- No text that the program makes is longer than its slice.
use mathlib.Core.Path.{◌≡◌, refl}
use mathlib.Core.List.{List}
use Prim.Native.Nat.{ℕ, ◌≤◌, ◌<◌}
use native.Mathlib.Omega.{arith}
use lib.Dec.{leb, ltb}
use lib.Ieee.{Float}
use lib.ListN.{length}
use borrow.Author.Tests.{leb-true, ltb-true}
use Rattle.refusal.specs.declared.Refusal.TheVariants.{Room}
use Rattle.refusal.specs.Chain.{ask, ◌then◌}
use Rattle.refusal.proofs.Chain.{asked, both-done}
use Rattle.space.specs.declared.Box.{Box}
use Rattle.tree.specs.Columns.{columns}
use Rattle.near_work.specs.Work.{weights}
use Rattle.near_work.specs.Answers.{work_check}
use Rattle.tree.specs.Order.{depth_of}
use Rattle.rows.specs.Lists.{u_row, v_row, near_work}
use Rattle.sourced.specs.Answers.{tree_check}
use Rattle.interaction.specs.Answers.{keys_of, starts_check, lists_check}
use Rattle.rows.specs.Written.{keys_room}
use Rattle.build.specs.Asked.{built_keys, built_own, built_begins, built_totals}
use Rattle.build.specs.Outcomes.{build_outcome}
use Rattle.survey.specs.declared.Survey.{Survey}
use Rattle.survey.specs.File.{file_outcome, said, source_rows, target_rows}
use Rattle.text.proofs.Bound.{listing-fits, refusal-most}
use Rattle.text.specs.Listing.{tree_listing}
use Rattle.report.specs.Report.{text_or}
use Rattle.printing.specs.Printed.{asked_by, columns_text, survey_text, file_text}
use Rattle.refusal.specs.Outcome.{Outcome, accepted}
use Rattle.std.specs.Prelude.{Err, Ok}

text-most : (o : Outcome) (text : List ℕ) → (o ≡ accepted → length text ≤ 481390) → length (text_or o text) ≤ 481390
text-most (Ok tt) text f = f refl
text-most (Err r) text f = omega (arith, refusal-most r)

columns-most : (b : Box) (key own begin total : List ℕ) (targets : List Float) (sources : ℕ) → length (columns_text b (columns key own begin total) targets sources) ≤ 481390
columns-most b key own begin total targets sources = text-most (lists_check b.axes (columns key own begin total) 2049 8192 2049 8192 then work_check b (columns key own begin total) targets 2048) (tree_listing b.axes key own sources (weights b key own targets)) fits
  where
    fits : (lists_check b.axes (columns key own begin total) 2049 8192 2049 8192 then work_check b (columns key own begin total) targets 2048) ≡ accepted → length (tree_listing b.axes key own sources (weights b key own targets)) ≤ 481390
    fits w =
        let e = (both-done (lists_check b.axes (columns key own begin total) 2049 8192 2049 8192) (work_check b (columns key own begin total) targets 2048) w).0 in
        let p = both-done (starts_check b.axes (columns key own begin total) 2049 2049 then ask (leb (keys_of (u_row b.axes key own) key) (keys_room 8192)) (Room 6)) (ask (leb (keys_of (v_row b.axes key own) key) (keys_room 8192)) (Room 7)) e in
        let q = both-done (starts_check b.axes (columns key own begin total) 2049 2049) (ask (leb (keys_of (u_row b.axes key own) key) (keys_room 8192)) (Room 6)) p.0 in
        let s = both-done (tree_check b.axes (columns key own begin total) then ask (ltb (length key) 2049) (Room 4)) (ask (ltb (length key) 2049) (Room 5)) q.0 in
        let t = both-done (tree_check b.axes (columns key own begin total)) (ask (ltb (length key) 2049) (Room 4)) s.0 in
        let n : length key < 2049 = ltb-true (length key) 2049 (asked (ltb (length key) 2049) (Room 4) t.1) in
        let u : keys_of (u_row b.axes key own) key ≤ 8192 = leb-true (keys_of (u_row b.axes key own) key) (keys_room 8192) (asked (leb (keys_of (u_row b.axes key own) key) (keys_room 8192)) (Room 6) q.1) in
        let v : keys_of (v_row b.axes key own) key ≤ 8192 = leb-true (keys_of (v_row b.axes key own) key) (keys_room 8192) (asked (leb (keys_of (v_row b.axes key own) key) (keys_room 8192)) (Room 7) p.1) in
        listing-fits key own (u_row b.axes key own) (v_row b.axes key own) (omega arith) u v b.axes (depth_of key) sources (near_work b.axes key own (weights b key own targets))

survey-most : (s : Survey) (sources targets : List Float) → length (survey_text s sources targets) ≤ 481390
survey-most s sources targets =
    let a = asked_by s sources targets in
    text-most (build_outcome a 8176 4088 2048) (columns_text s.b (columns (built_keys a) (built_own a) (built_begins a) (built_totals a)) targets s.sources) (λ _. columns-most s.b (built_keys a) (built_own a) (built_begins a) (built_totals a) targets s.sources)

pub file-most : (file : List ℕ) → length (file_text file) ≤ 481390
file-most file = text-most (file_outcome file) (survey_text (said file) (source_rows file) (target_rows file)) (λ _. survey-most (said file) (source_rows file) (target_rows file))
