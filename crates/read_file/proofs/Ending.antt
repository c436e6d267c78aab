-- What the reader answers and leaves, refused and not.
use mathlib.Core.Path.{◌≡◌, refl, sym, ap, ap₂, ◌∙◌, subst}
use mathlib.Core.Bool.{true}
use mathlib.Core.List.{List}
use Prim.Native.Nat.{ℕ, ◌≤◌, min}
use native.Mathlib.Omega.{arith}
use lib.ListN.{length, replicate}
use Rattle.slices.specs.Lists.{filled}
use Rattle.refusal.specs.declared.Refusal.{Refusal}
use Rattle.refusal.specs.Chain.{◌then◌}
use Rattle.refusal.specs.Left.{left}
use Rattle.refusal.proofs.Chain.{after-done, after-refused, answered, answered-done, answered-refused}
use Rattle.rows.specs.Written.{keys_room}
use Rattle.tree.specs.Columns.{node_room}
use Rattle.tree.proofs.Rules.{all-facts}
use Rattle.tree_file.specs.Trailer.{axes_in, column_in, tree_in}
use Rattle.file_sections.specs.declared.Sections.{Sections}
use Rattle.file_sections.specs.Answers.{located}
use Rattle.file_columns.specs.Columns.{Sectioned}
use Rattle.read_file.specs.declared.ReadTree.{ReadTree}
use Rattle.file_judged.specs.Rooms.{Rooms, rooms, given, read_check}
use Rattle.file_judged.proofs.Chain.{Passed, passed}
use Rattle.read_file.specs.Answers.{numbers_of, reading_answer, reading_left}
use Rattle.read_file.specs.Held.{Columned, Listed}
use Rattle.refusal.specs.Outcome.{Answer, accepted}
use Rattle.std.specs.Prelude.{Err, Ok}

module _ (file order key own begin total us uk vs vk : List ℕ) (n u v : ℕ)
    (en : n ≡ node_room (length key) (length own) (length begin) (length total)) (eu : u ≡ keys_room (length uk)) (ev : v ≡ keys_room (length vk))
    (a : Answer Sections) (ea : a ≡ (read_check file (given (length order) n (length us) u (length vs) v) then Ok (located file))) where
  abbrev r : Rooms
  r = rooms order key own begin total us uk vs vk

  rooms-are : given (length order) n (length us) u (length vs) v ≡ r
  rooms-are =
      ap (λ x. given (length order) x (length us) u (length vs) v) en
      ∙ ap₂ (λ x y. given (length order) (node_room (length key) (length own) (length begin) (length total)) (length us) x (length vs) y) eu ev

  judged : a ≡ (read_check file r then Ok (located file))
  judged = ea ∙ ap (λ g. read_check file g then Ok (located file)) rooms-are

  module _ (x : Refusal) (q : a ≡ Err x) where
    no : read_check file r ≡ Err x
    no = answered-refused (read_check file r) (located file) x (sym q ∙ judged)

    pub refused-answer : Err x ≡ reading_answer file r
    refused-answer = sym (after-refused (read_check file r) (Ok (numbers_of (tree_in file))) x no)

    pub refused-left : (places : ℕ) (column out : List ℕ) → out ≡ replicate places 0 → out ≡ reading_left file r places column
    refused-left places column out h = h ∙ sym (ap (λ z. left z places column) no)

  module _ (s : Sections) (q : a ≡ Ok s) where
    yes-read : read_check file r ≡ accepted
    yes-read = answered-done (read_check file r) (located file) s (sym q ∙ judged)

    p : Passed file r
    p = passed file r yes-read

    pub stands : Sectioned file s
    stands =
        let z : ◌≡◌ {A = Answer Sections} (Ok s) (Ok (located file)) = sym q ∙ judged ∙ after-done (read_check file r) (Ok (located file)) yes-read in
        let e : s ≡ located file = cc in
        subst (Sectioned file) (sym e) p.stands

    pub columned : Columned file order key own begin total
    columned =
        let w = all-facts (axes_in file) (column_in file 1) (column_in file 2) (column_in file 3) (column_in file 4) p.columns in
        let k : length (column_in file 1) ≤ node_room (length key) (length own) (length begin) (length total) = p.room.nodes in
        record { places = p.room.order; keys = omega arith; owns = omega (arith, w.owns); begins = omega (arith, w.begins); totals = omega (arith, w.totals) }

    pub listed : Listed file us uk vs vk
    listed =
        let a : length (column_in file 7) ≤ keys_room (length uk) = p.room.u_keys in
        let b : length (column_in file 9) ≤ keys_room (length vk) = p.room.v_keys in
        record { u_starts = p.room.u_starts; u_keys = omega arith; v_starts = p.room.v_starts; v_keys = omega arith }

    pub read_answer : (t : ReadTree) → t ≡ numbers_of (tree_in file) → Ok t ≡ reading_answer file r
    read_answer t h = answered (read_check file r) t (numbers_of (tree_in file)) yes-read h

    pub read_left : (places : ℕ) (column out : List ℕ) → out ≡ filled places column → out ≡ reading_left file r places column
    read_left places column out h = h ∙ sym (ap (λ z. left z places column) yes-read)

-- the numbers of a tree that was read
pub numbers : (file : List ℕ) (a n m u v : ℕ) → a ≡ axes_in file → n ≡ length (column_in file 1) → m ≡ length (column_in file 5) → u ≡ length (column_in file 7) → v ≡ length (column_in file 9)
    → record { axes = a; nodes = n; sources = m; u = u; v = v } ≡ numbers_of (tree_in file)
numbers file a n m u v ea en em eu ev =
    ap₂ (λ x y. tree x y m u v) ea en ∙ ap₂ (λ x y. tree (axes_in file) (length (column_in file 1)) x y v) em eu ∙ ap (λ x. tree (axes_in file) (length (column_in file 1)) (length (column_in file 5)) (length (column_in file 7)) x) ev
  where
    tree : (a n m u v : ℕ) → ReadTree
    tree a n m u v = record { axes = a; nodes = n; sources = m; u = u; v = v }
