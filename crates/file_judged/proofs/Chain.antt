-- The chain of the reader, case by case.
use mathlib.Core.Path.{◌≡◌, refl, sym, ap, ap₂, ◌∙◌, subst}
use mathlib.Core.Bool.{Bool, true, false, ◌&&◌}
use mathlib.Core.List.{List}
use Prim.Native.Nat.{ℕ, suc, ◌≤◌, ◌<◌, min}
use native.Mathlib.Omega.{arith}
use lib.Dec.{leb}
use lib.ListN.{length, get_or}
use borrow.Author.Tests.{leb-true, le-leb, lt-leb}
use Rattle.slices.specs.Lists.{sum}
use Rattle.slices.proofs.Tests.{and_l, and_r}
use Rattle.refusal.specs.declared.Refusal.{Refusal}
use Rattle.refusal.specs.declared.Refusal.TheVariants.{Tree, Section, Room}
use Rattle.refusal.specs.Chain.{ask, ◌then◌}
use Rattle.refusal.specs.Left.{left}
use Rattle.refusal.proofs.Chain.{asked, both-done, after-done, after-refused, answered, answered-refused}
use Rattle.morton.specs.Keys.{axes_known}
use Rattle.tree.specs.WellFormed.{well_formed, SoundTree}
use Rattle.tree.proofs.Rules.{all-facts, rows_of, facts}
use Rattle.tree.proofs.Verdict.{formed-of, totals-of, total-at}
use Rattle.tree.proofs.Totals.{root-total}
use Rattle.sums.specs.Arrangement.{arranges}
use Rattle.sums.specs.Right.{lists_are}
use Rattle.list_rows.specs.Entries.{Counted}
use Rattle.tree_file.specs.Contents.{Contents}
use Rattle.tree_file.specs.Trailer.{axes_in, column_in, tree_in}
use Rattle.tree_file.specs.Checks.{columns_right, rest_right, sections_check, readable}
use Rattle.file_sections.specs.declared.Sections.{Sections}
use Rattle.file_sections.specs.Answers.{located, sections_in}
use Rattle.file_columns.specs.Columns.{Sectioned}
use Rattle.file_columns.proofs.Sectioned.{sections-passed, sectioned-at, answers-located, sectioned}
use Rattle.file_judged.specs.Rooms.{Rooms, given, room_check, read_check}
use Rattle.refusal.specs.Outcome.{Answer, Outcome, accepted}
use Rattle.std.specs.Prelude.{Err, Ok}

-- ---- 13 and 17

module _ (file : List ℕ) (s : Sections) (g : Sectioned file s) where
  abbrev outcome : Outcome
  outcome = ask (columns_right (tree_in file)) Tree then ask (rest_right (tree_in file)) Section

  -- the columns, by the axes as they were read
  abbrev right : Bool
  right = well_formed s.axes (column_in file 1) (column_in file 2) (column_in file 3) (column_in file 4)

  right_is : right ≡ columns_right (tree_in file)
  right_is = ap (λ d. well_formed d (column_in file 1) (column_in file 2) (column_in file 3) (column_in file 4)) g.says

  pub not-tree : (b : Bool) → b ≡ right → b ≡ false → Err Tree ≡ outcome
  not-tree b e f = sym (ap (λ t. ask t Tree then ask (rest_right (tree_in file)) Section) (sym right_is ∙ sym e ∙ f))

  module _ (b : Bool) (e : b ≡ right) (f : b ≡ true) where
    well : right ≡ true
    well = sym e ∙ f

    some-axes : (1 ≤ s.axes) × (s.axes ≤ 3)
    some-axes = (leb-true 1 s.axes (and_l _ _ g.known), leb-true s.axes 3 (and_r (leb 1 s.axes) _ g.known))

    pub counted : Counted s.axes (column_in file 1) (column_in file 2) (column_in file 4)
    counted = record {
      tree = record { some = some-axes.0; most = some-axes.1; begin = column_in file 3; sound = formed-of s.axes (column_in file 1) (column_in file 2) (column_in file 3) (column_in file 4) well };
      totals = totals-of s.axes (column_in file 1) (column_in file 2) (column_in file 3) (column_in file 4) well;
    }

    -- the root's total is that of all
    all-sources : (n : ℕ) → n ≡ get_or (column_in file 4) 0 0 → n ≡ sum (column_in file 2)
    all-sources n q =
        let w = all-facts s.axes (column_in file 1) (column_in file 2) (column_in file 3) (column_in file 4) well in
        q ∙ w.totalled 0 w.some ∙ root-total s.axes (column_in file 1) (column_in file 2) w.rows.tree w.owns w.some

    ending : (a l : Bool) → arranges (column_in file 5) (sum (column_in file 2)) ≡ a
        → lists_are s.axes (column_in file 1) (column_in file 2) (column_in file 6) (column_in file 7) (column_in file 8) (column_in file 9) ≡ l → ask (a && l) Section ≡ outcome
    ending a l p q =
        ap₂ (λ x y. ask (x && y) Section) (sym p)
        (sym q ∙ ap (λ d. lists_are d (column_in file 1) (column_in file 2) (column_in file 6) (column_in file 7) (column_in file 8) (column_in file 9)) g.says)
        ∙ sym (ap (λ t. ask t Tree then ask (rest_right (tree_in file)) Section) (sym right_is ∙ well))

    module _ (n : ℕ) (en : n ≡ get_or (column_in file 4) 0 0) (a : Bool) (ea : a ≡ arranges (column_in file 5) n) where
      arranged : arranges (column_in file 5) (sum (column_in file 2)) ≡ a
      arranged = ap (arranges (column_in file 5)) (sym (all-sources n en)) ∙ sym ea

      pub not-order : a ≡ false → Err Section ≡ outcome
      not-order z = ending false (lists_are s.axes (column_in file 1) (column_in file 2) (column_in file 6) (column_in file 7) (column_in file 8) (column_in file 9)) (arranged ∙ z) refl

      module _ (y : a ≡ true) (l : Bool) (el : l ≡ lists_are s.axes (column_in file 1) (column_in file 2) (column_in file 6) (column_in file 7) (column_in file 8) (column_in file 9)) where
        pub not-lists : l ≡ false → Err Section ≡ outcome
        not-lists z = ending true false (arranged ∙ y) (sym el ∙ z)

        pub all_right : l ≡ true → accepted ≡ outcome
        all_right z = ending true true (arranged ∙ y) (sym el ∙ z)

-- ---- 8

module _ (t : Contents) (r : Rooms) where
  abbrev by : (a b c d e f : Bool) → Outcome
  by a b c d e f = ask a (Room 2) then ask b (Room 3) then ask c (Room 4) then ask d (Room 5) then ask e (Room 6) then ask f (Room 7)

  abbrev o : Bool
  o = leb (length t.order) r.order

  abbrev k : Bool
  k = leb (length t.keys) r.nodes

  abbrev us : Bool
  us = leb (length t.u_starts) r.u_starts

  abbrev vs : Bool
  vs = leb (length t.v_starts) r.v_starts

  abbrev uk : Bool
  uk = leb (length t.u_keys) r.u_keys

  abbrev vk : Bool
  vk = leb (length t.v_keys) r.v_keys

  short : (n m room : ℕ) → n ≡ m → room < n → leb m room ≡ false
  short n m room e h = lt-leb m room (omega arith)

  long : (n m room : ℕ) → n ≡ m → n ≤ room → leb m room ≡ true
  long n m room e h = le-leb m room (omega arith)

  pub room_2 : (n : ℕ) → n ≡ length t.order → r.order < n → Err (Room 2) ≡ room_check t r
  room_2 n e h = sym (ap (λ b. by b k us vs uk vk) (short n (length t.order) r.order e h))

  module _ (n2 : ℕ) (e2 : n2 ≡ length t.order) (h2 : n2 ≤ r.order) where
    pub room-3 : (n : ℕ) → n ≡ length t.keys → r.nodes < n → Err (Room 3) ≡ room_check t r
    room-3 n e h = sym (ap₂ (λ a b. by a b us vs uk vk) (long n2 (length t.order) r.order e2 h2) (short n (length t.keys) r.nodes e h))

    module _ (n3 : ℕ) (e3 : n3 ≡ length t.keys) (h3 : n3 ≤ r.nodes) where
      two : (c d e f : Bool) → by o k c d e f ≡ by true true c d e f
      two c d e f = ap₂ (λ a b. by a b c d e f) (long n2 (length t.order) r.order e2 h2) (long n3 (length t.keys) r.nodes e3 h3)

      pub room-4 : (n : ℕ) → n ≡ length t.u_starts → r.u_starts < n → Err (Room 4) ≡ room_check t r
      room-4 n e h = sym (two us vs uk vk ∙ ap (λ c. by true true c vs uk vk) (short n (length t.u_starts) r.u_starts e h))

      module _ (n4 : ℕ) (e4 : n4 ≡ length t.u_starts) (h4 : n4 ≤ r.u_starts) where
        three : (d e f : Bool) → by o k us d e f ≡ by true true true d e f
        three d e f = two us d e f ∙ ap (λ c. by true true c d e f) (long n4 (length t.u_starts) r.u_starts e4 h4)

        pub room-5 : (n : ℕ) → n ≡ length t.v_starts → r.v_starts < n → Err (Room 5) ≡ room_check t r
        room-5 n e h = sym (three vs uk vk ∙ ap (λ d. by true true true d uk vk) (short n (length t.v_starts) r.v_starts e h))

        module _ (n5 : ℕ) (e5 : n5 ≡ length t.v_starts) (h5 : n5 ≤ r.v_starts) where
          four : (e f : Bool) → by o k us vs e f ≡ by true true true true e f
          four e f = three vs e f ∙ ap (λ d. by true true true d e f) (long n5 (length t.v_starts) r.v_starts e5 h5)

          pub room-6 : (n : ℕ) → n ≡ length t.u_keys → r.u_keys < n → Err (Room 6) ≡ room_check t r
          room-6 n e h = sym (four uk vk ∙ ap (λ x. by true true true true x vk) (short n (length t.u_keys) r.u_keys e h))

          module _ (n6 : ℕ) (e6 : n6 ≡ length t.u_keys) (h6 : n6 ≤ r.u_keys) where
            five : (f : Bool) → by o k us vs uk f ≡ by true true true true true f
            five f = four uk f ∙ ap (λ x. by true true true true x f) (long n6 (length t.u_keys) r.u_keys e6 h6)

            pub room-7 : (n : ℕ) → n ≡ length t.v_keys → r.v_keys < n → Err (Room 7) ≡ room_check t r
            room-7 n e h = sym (five vk ∙ ap (λ x. by true true true true true x) (short n (length t.v_keys) r.v_keys e h))

            pub room-all : (n : ℕ) → n ≡ length t.v_keys → n ≤ r.v_keys → accepted ≡ room_check t r
            room-all n e h = sym (five vk ∙ ap (λ x. by true true true true true x) (long n (length t.v_keys) r.v_keys e h))

  -- all that was asked, where nothing is refused
  pub record Fits : Type 0 where
    pub order : length t.order ≤ r.order
    pub nodes : length t.keys ≤ r.nodes
    pub u_starts : length t.u_starts ≤ r.u_starts
    pub v_starts : length t.v_starts ≤ r.v_starts
    pub u_keys : length t.u_keys ≤ r.u_keys
    pub v_keys : length t.v_keys ≤ r.v_keys

  pub fits : room_check t r ≡ accepted → Fits
  fits h =
      let (h6, v7) = both-done (ask o (Room 2) then ask k (Room 3) then ask us (Room 4) then ask vs (Room 5) then ask uk (Room 6)) (ask vk (Room 7)) h in
      let (h5, v6) = both-done (ask o (Room 2) then ask k (Room 3) then ask us (Room 4) then ask vs (Room 5)) (ask uk (Room 6)) h6 in
      let (h4, v5) = both-done (ask o (Room 2) then ask k (Room 3) then ask us (Room 4)) (ask vs (Room 5)) h5 in
      let (h3, v4) = both-done (ask o (Room 2) then ask k (Room 3)) (ask us (Room 4)) h4 in
      let (v2, v3) = both-done (ask o (Room 2)) (ask k (Room 3)) h3 in
      record {
        order = leb-true (length t.order) r.order (asked o (Room 2) v2);
        nodes = leb-true (length t.keys) r.nodes (asked k (Room 3) v3);
        u_starts = leb-true (length t.u_starts) r.u_starts (asked us (Room 4) v4);
        v_starts = leb-true (length t.v_starts) r.v_starts (asked vs (Room 5) v5);
        u_keys = leb-true (length t.u_keys) r.u_keys (asked uk (Room 6) v6);
        v_keys = leb-true (length t.v_keys) r.v_keys (asked vk (Room 7) v7);
      }

-- ---- all of it

join : (o a b c : Outcome) → o then a then b then c ≡ o then (a then b then c)
join (Ok tt) a b c = refl
join (Err r) a b c = refl

module _ (file : List ℕ) (r : Rooms) where
  abbrev tree : Outcome
  tree = ask (columns_right (tree_in file)) Tree then ask (rest_right (tree_in file)) Section

  abbrev rest : Outcome
  rest = tree then room_check (tree_in file) r

  check : read_check file r ≡ sections_check file then rest
  unfolding read_check
  check = join (sections_check file) (ask (columns_right (tree_in file)) Tree) (ask (rest_right (tree_in file)) Section) (room_check (tree_in file) r)

  abbrev judged : Answer Sections
  judged = read_check file r then Ok (located file)

  refused : (x : Refusal) → read_check file r ≡ Err x → Err x ≡ judged
  refused x e = sym (after-refused (read_check file r) (Ok (located file)) x e)

  pub not-sectioned : (a : Answer Sections) (x : Refusal) → a ≡ sections_in file → a ≡ Err x → Err x ≡ judged
  not-sectioned a x e h = refused x (check ∙ after-refused (sections_check file) rest x (answered-refused (sections_check file) (located file) x (sym h ∙ e)))

  module _ (s : Sections) (e : Ok s ≡ sections_in file) where
    pub sections : Sectioned file s
    sections = sectioned file s e

    go_on : read_check file r ≡ rest
    go_on = check ∙ after-done (sections_check file) rest (answers-located file s e).0

    module _ (o : Outcome) (eo : o ≡ tree) where
      pub not_right : (x : Refusal) → o ≡ Err x → Err x ≡ judged
      not_right x q = refused x (go_on ∙ after-refused tree (room_check (tree_in file) r) x (sym eo ∙ q))

      module _ (q : o ≡ accepted) (p : Outcome) (ep : p ≡ room_check (tree_in file) r) where
        by-room : read_check file r ≡ p
        by-room = go_on ∙ after-done tree (room_check (tree_in file) r) (sym eo ∙ q) ∙ sym ep

        pub no-room : (x : Refusal) → p ≡ Err x → Err x ≡ judged
        no-room x z = refused x (by-room ∙ z)

        pub all-judged : p ≡ accepted → Ok s ≡ judged
        all-judged z = answered (read_check file r) s (located file) (by-room ∙ z) (answers-located file s e).1

  -- where nothing is refused: the sections stand, the tree is right, and there is room
  pub record Passed : Type 0 where
    pub checked : sections_check file ≡ accepted
    pub stands : Sectioned file (located file)
    pub columns : columns_right (tree_in file) ≡ true
    pub others : rest_right (tree_in file) ≡ true
    pub room : Fits (tree_in file) r

  pub passed : read_check file r ≡ accepted → Passed
  passed d =
      let (a, b) = both-done (sections_check file) rest (sym check ∙ d) in
      let (c, f) = both-done tree (room_check (tree_in file) r) b in
      let (p, q) = both-done (ask (columns_right (tree_in file)) Tree) (ask (rest_right (tree_in file)) Section) c in
      let (x, y, z) = sections-passed file a in
      record {
        checked = a;
        stands = sectioned-at file x y z;
        columns = asked (columns_right (tree_in file)) Tree p;
        others = asked (rest_right (tree_in file)) Section q;
        room = fits (tree_in file) r f;
      }
