-- The refusals of the count, case by case.
use mathlib.Core.Path.{◌≡◌, refl, sym, ap, ap₂, ◌∙◌}
use mathlib.Core.Bool.{Bool, true, false}
use mathlib.Core.List.{List}
use Prim.Native.Nat.{ℕ, ◌≤◌, ◌<◌, min}
use native.Mathlib.Omega.{arith}
use native.Mathlib.Decide.{dec_lt}
use lib.Dec.{leb}
use lib.ListN.{length}
use borrow.Author.Tests.{leb-true, le-leb, lt-leb}
use Rattle.refusal.specs.declared.Refusal.{Refusal}
use Rattle.refusal.specs.declared.Refusal.TheVariants.{Room}
use Rattle.refusal.specs.Chain.{ask, ◌then◌}
use Rattle.refusal.proofs.Chain.{asked, both-done, after-done, after-refused}
use Rattle.tree.specs.Columns.{columns}
use Rattle.tree.specs.WellFormed.{SoundTree, totals_right}
use Rattle.rows.specs.Lists.{u_row, v_row}
use Rattle.sourced.specs.Answers.{tree_check}
use Rattle.sourced.proofs.Checks.{passed, passed-totals}
use Rattle.node_rows.specs.declared.Sizes.{Sizes}
use Rattle.interaction.specs.Answers.{keys_of, both_keys}
use Rattle.list_sizes.specs.Sizes.{counted, CountsBoth, keys_check, room_check, sizes_answer}
use Rattle.std.specs.Prelude.{Err, Ok}
use Rattle.refusal.specs.Outcome.{Answer, Outcome, accepted}

-- ---- the answer from the two counts
abbrev pub told_of : (u v : ℕ) → Answer Sizes
told_of u v = keys_check u v then Ok (record { u = u; v = v })

module _ (u v : ℕ) where
  abbrev from : (s t : Bool) → Answer Sizes
  from s t = ask s (Room 6) then ask t (Room 7) then Ok (record { u = u; v = v })

  over-u : 16777216 < u → Err (Room 6) ≡ told_of u v
  over-u l = sym (ap (λ s. from s (leb v 16777216)) (lt-leb u 16777216 l))

  over-v : u ≤ 16777216 → 16777216 < v → Err (Room 7) ≡ told_of u v
  over-v g l = sym (ap₂ from (le-leb u 16777216 g) (lt-leb v 16777216 l))

-- counts, as far as they count, tell what the numbers themselves tell
pub same-told : (u v m n : ℕ) → u ≡ counted m → v ≡ counted n → told_of u v ≡ told_of m n
same-told u v m n a b = go (dec_lt 16777216 m) (dec_lt 16777216 n)
  where
    go : Dec (16777216 < m) → Dec (16777216 < n) → told_of u v ≡ told_of m n
    go (yes p) q = sym (over-u u v (omega arith)) ∙ over-u m n p
    go (no p) (yes q) = sym (over-v u v (omega arith) (omega arith)) ∙ over-v m n (omega arith) q
    go (no p) (no q) = let x : u ≡ m = omega arith in let y : v ≡ n = omega arith in ap₂ told_of x y

-- ---- the tree and the room
module _ (d : ℕ) (keys own begin total : List ℕ) (ls rs : ℕ) where
  pub not-tree : (r : Refusal) → tree_check d (columns keys own begin total) ≡ Err r → Err r ≡ room_check d (columns keys own begin total) ls rs
  not-tree r h = sym (ap (λ o. o then ask (leb (length keys) ls) (Room 1) then ask (leb (length keys) rs) (Room 1)) h)

  module _ (h : tree_check d (columns keys own begin total) ≡ accepted) where
    after-tree : (s t : Bool) → leb (length keys) ls ≡ s → leb (length keys) rs ≡ t → ask s (Room 1) then ask t (Room 1) ≡ room_check d (columns keys own begin total) ls rs
    after-tree s t a b =
        sym (ap (λ o. o then ask (leb (length keys) ls) (Room 1) then ask (leb (length keys) rs) (Room 1)) h ∙ ap₂ (λ s t. ask s (Room 1) then ask t (Room 1)) a b)

    pub short-links : ls < length keys → Err (Room 1) ≡ room_check d (columns keys own begin total) ls rs
    short-links l = after-tree false _ (lt-leb (length keys) ls l) refl

    pub short_row : length keys ≤ ls → rs < length keys → Err (Room 1) ≡ room_check d (columns keys own begin total) ls rs
    short_row g l = after-tree true false (le-leb (length keys) ls g) (lt-leb (length keys) rs l)

    pub both-have : length keys ≤ ls → length keys ≤ rs → accepted ≡ room_check d (columns keys own begin total) ls rs
    both-have g l = after-tree true true (le-leb (length keys) ls g) (le-leb (length keys) rs l)

  -- what has passed
  pub record Passed : Type 0 where
    pub sound : SoundTree d keys own
    pub totals : totals_right d keys own total ≡ true
    pub links : length keys ≤ ls
    pub row : length keys ≤ rs

  pub has-passed : room_check d (columns keys own begin total) ls rs ≡ accepted → Passed
  has-passed h =
      let (front, r) = both-done (tree_check d (columns keys own begin total) then ask (leb (length keys) ls) (Room 1)) (ask (leb (length keys) rs) (Room 1)) h in
      let (tree, l) = both-done (tree_check d (columns keys own begin total)) (ask (leb (length keys) ls) (Room 1)) front in
      record {
        sound = passed d keys own begin total tree;
        totals = passed-totals d keys own begin total tree;
        links = leb-true (length keys) ls (asked _ (Room 1) l);
        row = leb-true (length keys) rs (asked _ (Room 1) r);
      }

  -- ---- the answer
  abbrev sizes : Outcome → Answer Sizes
  sizes o = o then keys_check (keys_of (u_row d keys own) keys) (keys_of (v_row d keys own) keys) then Ok (both_keys (u_row d keys own) (v_row d keys own) keys)

  pub refused : (r : Refusal) → room_check d (columns keys own begin total) ls rs ≡ Err r → Err r ≡ sizes_answer d (columns keys own begin total) ls rs
  refused r h = sym (ap sizes h)

  module _ (h : room_check d (columns keys own begin total) ls rs ≡ accepted) (u v : ℕ) (c : CountsBoth d keys own u v) where
    told : told_of u v ≡ sizes_answer d (columns keys own begin total) ls rs
    told = same-told u v (keys_of (u_row d keys own) keys) (keys_of (v_row d keys own) keys) c.0 c.1 ∙ sym (ap sizes h)

    pub told-over : (r : Refusal) → keys_check u v ≡ Err r → Err r ≡ sizes_answer d (columns keys own begin total) ls rs
    told-over r e = sym (after-refused (keys_check u v) _ r e) ∙ told

    pub told-sizes : keys_check u v ≡ accepted → Ok (record { u = u; v = v }) ≡ sizes_answer d (columns keys own begin total) ls rs
    told-sizes e = sym (after-done (keys_check u v) _ e) ∙ told
