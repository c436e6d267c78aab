-- The chain of refusals, and what is known where it has passed.
use mathlib.Core.Path.{◌≡◌, refl, sym, ap, ap₂, ◌∙◌}
use mathlib.Core.Bool.{Bool, true, false, ◌&&◌}
use mathlib.Core.List.{List}
use Prim.Native.Nat.{ℕ, ◌+◌, ◌≤◌, ◌<◌}
use native.Mathlib.Omega.{arith}
use lib.Dec.{leb}
use lib.ListN.{length, get_or, replicate}
use borrow.Author.Tests.{leb-true, le-leb, lt-leb}
use Rattle.slices.specs.Lists.{sum, filled}
use Rattle.refusal.specs.declared.Refusal.{Refusal}
use Rattle.refusal.specs.declared.Refusal.TheVariants.{Dims, Count, Tree, Section, Room}
use Rattle.refusal.specs.Chain.{ask, ◌then◌}
use Rattle.refusal.proofs.Chain.{both-done, asked, after-refused}
use Rattle.morton.specs.Keys.{axes_known}
use Rattle.tree.specs.Columns.{columns}
use Rattle.tree.specs.WellFormed.{well_formed}
use Rattle.tree.proofs.Column.{column-root}
use Rattle.tree.proofs.Rules.{all-facts}
use Rattle.sourced.specs.Answers.{tree_check}
use Rattle.sourced.proofs.Checks.{passed, passed-totals}
use Rattle.sums.specs.Right.{lists_are}
use Rattle.sums.specs.Arrangement.{arranges}
use Rattle.list_rows.specs.Entries.{Counted}
use Rattle.tree_file.specs.Contents.{Contents, contents}
use Rattle.tree_file.specs.Written.{body, sections, file_of}
use Rattle.tree_file.specs.Checks.{counts_fit, columns_right, rest_right, writeable}
use Rattle.file_layout.specs.Lengths.{body_length}
use Rattle.file_layout.proofs.Lengths.{file-length}
use Rattle.write_file.specs.Fitting.{lengths_fit}
use Rattle.write_file.specs.Answers.{write_check, write_answer, write_left}
use Rattle.write_file.proofs.Fitting.{Fit, fit-facts, counts-fit}
use Rattle.refusal.specs.Outcome.{Outcome, accepted}
use Rattle.std.specs.Prelude.{Err, Ok}

-- ---- the tree

module _ (d : ℕ) (keys own begin total : List ℕ) (done : tree_check d (columns keys own begin total) ≡ accepted) where
  well : well_formed d keys own begin total ≡ true
  well = asked (well_formed d keys own begin total) Tree (both-done (ask (axes_known d) Dims) (ask (well_formed d keys own begin total) Tree) done).1

  pub counted : Counted d keys own total
  counted = record { tree = passed d keys own begin total done; totals = passed-totals d keys own begin total done }

  pub root_in : 0 < length total
  root_in = let w = all-facts d keys own begin total well in omega (arith, w.totals, w.some)

  module _ (order us uk vs vk : List ℕ) (r : Bool) (e : r ≡ arranges order (get_or total 0 0)) where
    arranged : r ≡ arranges order (sum own)
    arranged = e ∙ ap (arranges order) (column-root d keys own begin total well)

    pub not-arranged : r ≡ false → false ≡ rest_right (contents d keys own begin total order us uk vs vk)
    not-arranged n = sym (ap (λ (b : Bool). b && lists_are d keys own us uk vs vk) (sym arranged ∙ n))

    pub by-lists : r ≡ true → (b : Bool) → b ≡ lists_are d keys own us uk vs vk → b ≡ rest_right (contents d keys own begin total order us uk vs vk)
    by-lists y b q = q ∙ sym (ap (λ (z : Bool). z && lists_are d keys own us uk vs vk) (sym arranged ∙ y))

-- ---- the chain

chain : (a c w r : Bool) → Outcome
chain a c w r = ask a Dims then ask c Count then ask w Tree then ask r Section

module _ (a c w r : Bool) where
  axes-off : a ≡ false → Err Dims ≡ chain a c w r
  unfolding chain
  axes-off e = rw e

  counts-off : a ≡ true → c ≡ false → Err Count ≡ chain a c w r
  unfolding chain
  counts-off e f = rw (e, f)

  tree-off : a ≡ true → c ≡ true → (x : Refusal) → ask a Dims then ask w Tree ≡ Err x → Err x ≡ chain a c w r
  unfolding chain
  tree-off e f x h = rw (e, f) (sym (after-refused (ask w Tree) (ask r Section) x (ap (λ (t : Bool). ask t Dims then ask w Tree) (sym e) ∙ h)))

  tree-on : a ≡ true → c ≡ true → ask a Dims then ask w Tree ≡ accepted → ask r Section ≡ chain a c w r
  unfolding chain
  tree-on e f h = rw (e, f) (sym (ap (λ (o : Outcome). o then ask r Section) (ap (λ (t : Bool). ask t Dims then ask w Tree) (sym e) ∙ h)))

module _ (d : ℕ) (keys own begin total order us uk vs vk : List ℕ) where
  abbrev t : Contents
  t = contents d keys own begin total order us uk vs vk

  abbrev fit : Bool
  fit = lengths_fit (length keys) (length own) (length begin) (length total) (length order) (length us) (length uk) (length vs) (length vk)

  pub not_known : (b : Bool) → b ≡ axes_known d → b ≡ false → Err Dims ≡ writeable t
  unfolding chain
  not_known b e n = axes-off (axes_known d) (counts_fit t) (columns_right t) (rest_right t) (sym e ∙ n)

  module _ (b : Bool) (e : b ≡ axes_known d) (y : b ≡ true) (f : Bool) (g : f ≡ fit) where
    pub not-counted : f ≡ false → Err Count ≡ writeable t
    unfolding chain
    not-counted n = counts-off (axes_known d) (counts_fit t) (columns_right t) (rest_right t) (sym e ∙ y) (counts-fit t ∙ sym g ∙ n)

    module _ (z : f ≡ true) where
      pub not-tree : (x : Refusal) → tree_check d (columns keys own begin total) ≡ Err x → Err x ≡ writeable t
      unfolding chain
      not-tree x h = tree-off (axes_known d) (counts_fit t) (columns_right t) (rest_right t) (sym e ∙ y) (counts-fit t ∙ sym g ∙ z) x h

      module _ (done : tree_check d (columns keys own begin total) ≡ accepted) (r : Bool) (q : r ≡ rest_right t) where
        by-rest : ask r Section ≡ writeable t
        unfolding chain
        by-rest = ap (λ (p : Bool). ask p Section) q ∙ tree-on (axes_known d) (counts_fit t) (columns_right t) (rest_right t) (sym e ∙ y) (counts-fit t ∙ sym g ∙ z) done

        pub tree-done : r ≡ true → accepted ≡ writeable t
        tree-done h = ap (λ (p : Bool). ask p Section) (sym h) ∙ by-rest

        pub not_right : r ≡ false → Err Section ≡ writeable t
        not_right h = ap (λ (p : Bool). ask p Section) (sym h) ∙ by-rest

  -- ---- what has passed
  pub fits : writeable t ≡ accepted → Fit (length keys) (length own) (length begin) (length total) (length order) (length us) (length uk) (length vs) (length vk)
  fits e =
      let front = (both-done (ask (axes_known d) Dims then ask (counts_fit t) Count then ask (columns_right t) Tree) (ask (rest_right t) Section) e).0 in
      let counts = (both-done (ask (axes_known d) Dims then ask (counts_fit t) Count) (ask (columns_right t) Tree) front).0 in
      fit-facts _ _ _ _ _ _ _ _ _ (sym (counts-fit t) ∙ asked (counts_fit t) Count (both-done (ask (axes_known d) Dims) (ask (counts_fit t) Count) counts).1)

  -- ---- the room
  module _ (room : ℕ) where
    pub not-writeable : (x : Refusal) → writeable t ≡ Err x → Err x ≡ write_check t room
    not-writeable x e = sym (after-refused (writeable t) (ask (leb (length (file_of t)) room) (Room 11)) x e)

    module _ (done : writeable t ≡ accepted) (bytes : ℕ) (is : bytes ≡ body_length (length keys) (length own) (length begin) (length total) (length order) (length us) (length uk) (length vs) (length vk)) where
      size : length (file_of t) ≡ bytes + 116
      size = file-length t ∙ ap (λ (n : ℕ). n + 116) (sym is)

      pub has_room : bytes + 116 ≤ room → accepted ≡ write_check t room
      has_room h = sym (ap₂ (λ (o : Outcome) (b : Bool). o then ask b (Room 11)) done (le-leb (length (file_of t)) room (omega (arith, size))))

      pub no_room : room < bytes + 116 → Err (Room 11) ≡ write_check t room
      no_room h = sym (ap₂ (λ (o : Outcome) (b : Bool). o then ask b (Room 11)) done (lt-leb (length (file_of t)) room (omega (arith, size))))

    pub checked : write_check t room ≡ accepted → (writeable t ≡ accepted) × (length (file_of t) ≤ room)
    checked e =
        let (a, b) = both-done (writeable t) (ask (leb (length (file_of t)) room) (Room 11)) e in
        (a, leb-true (length (file_of t)) room (asked (leb (length (file_of t)) room) (Room 11) b))
