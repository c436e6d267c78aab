-- The refusals of the list call, case by case.
use mathlib.Core.Path.{◌≡◌, refl, sym, ap, ap₂, ◌∙◌}
use mathlib.Core.Bool.{Bool, true, false}
use mathlib.Core.List.{List}
use Prim.Native.Nat.{ℕ, ◌≤◌, ◌<◌}
use native.Mathlib.Omega.{arith}
use lib.Dec.{leb, ltb}
use lib.ListN.{length}
use borrow.Author.Tests.{ltb-true, lt-ltb, le-ltb}
use Rattle.refusal.specs.declared.Refusal.{Refusal}
use Rattle.refusal.specs.declared.Refusal.TheVariants.{Room}
use Rattle.refusal.specs.Chain.{ask, ◌then◌}
use Rattle.refusal.proofs.Chain.{asked, both-done, answered-done, answered-refused}
use Rattle.tree.specs.Columns.{columns}
use Rattle.rows.specs.Lists.{u_row, v_row}
use Rattle.sourced.specs.Answers.{tree_check}
use Rattle.tree.specs.WellFormed.{SoundTree}
use Rattle.sourced.proofs.Checks.{passed}
use Rattle.rows.specs.Written.{keys_room}
use Rattle.node_rows.specs.declared.Sizes.{Sizes}
use Rattle.interaction.specs.Answers.{keys_of, both_keys, starts_check, lists_check, lists_answer}
use Rattle.std.specs.Prelude.{Err, Ok}
use Rattle.refusal.specs.Outcome.{Answer, Outcome, accepted}

-- ---- the tree and the starts
module _ (d : ℕ) (keys own begin total : List ℕ) (us vs : ℕ) where
  pub not-tree : (r : Refusal) → tree_check d (columns keys own begin total) ≡ Err r → Err r ≡ starts_check d (columns keys own begin total) us vs
  not-tree r h = sym (ap (λ o. o then ask (ltb (length keys) us) (Room 4) then ask (ltb (length keys) vs) (Room 5)) h)

  module _ (h : tree_check d (columns keys own begin total) ≡ accepted) where
    after-tree : (s t : Bool) → ltb (length keys) us ≡ s → ltb (length keys) vs ≡ t → ask s (Room 4) then ask t (Room 5) ≡ starts_check d (columns keys own begin total) us vs
    after-tree s t a b =
        sym (ap (λ o. o then ask (ltb (length keys) us) (Room 4) then ask (ltb (length keys) vs) (Room 5)) h ∙ ap₂ (λ s t. ask s (Room 4) then ask t (Room 5)) a b)

    pub short-u : us ≤ length keys → Err (Room 4) ≡ starts_check d (columns keys own begin total) us vs
    short-u l = after-tree false _ (le-ltb (length keys) us l) refl

    pub short-v : length keys < us → vs ≤ length keys → Err (Room 5) ≡ starts_check d (columns keys own begin total) us vs
    short-v g l = after-tree true false (lt-ltb (length keys) us g) (le-ltb (length keys) vs l)

    pub both-have : length keys < us → length keys < vs → accepted ≡ starts_check d (columns keys own begin total) us vs
    both-have g l = after-tree true true (lt-ltb (length keys) us g) (lt-ltb (length keys) vs l)

  -- what has passed
  pub record Ready : Type 0 where
    pub tree : tree_check d (columns keys own begin total) ≡ accepted
    pub sound : SoundTree d keys own
    pub u : length keys < us
    pub v : length keys < vs

  pub ready : starts_check d (columns keys own begin total) us vs ≡ accepted → Ready
  ready h =
      let (front, v) = both-done (tree_check d (columns keys own begin total) then ask (ltb (length keys) us) (Room 4)) (ask (ltb (length keys) vs) (Room 5)) h in
      let (tree, u) = both-done (tree_check d (columns keys own begin total)) (ask (ltb (length keys) us) (Room 4)) front in
      record {
        tree = tree;
        sound = passed d keys own begin total tree;
        u = ltb-true (length keys) us (asked _ (Room 4) u);
        v = ltb-true (length keys) vs (asked _ (Room 5) v);
      }

-- ---- the keys
module _ (d : ℕ) (keys own begin total : List ℕ) (us uk vs vk : ℕ) where
  abbrev u_fits : Bool
  u_fits = leb (keys_of (u_row d keys own) keys) (keys_room uk)

  abbrev v_fits : Bool
  v_fits = leb (keys_of (v_row d keys own) keys) (keys_room vk)

  abbrev told : Outcome → (s t : Bool) → Outcome
  told o s t = o then ask s (Room 6) then ask t (Room 7)

  abbrev sizes : Answer Sizes
  sizes = Ok (both_keys (u_row d keys own) (v_row d keys own) keys)

  pub early : (r : Refusal) → starts_check d (columns keys own begin total) us vs ≡ Err r → Err r ≡ lists_answer d (columns keys own begin total) us uk vs vk
  early r h = sym (ap (λ o. told o u_fits v_fits then sizes) h)

  module _ (h : starts_check d (columns keys own begin total) us vs ≡ accepted) where
    late : (s t : Bool) → s ≡ u_fits → t ≡ v_fits → ask s (Room 6) then ask t (Room 7) then sizes ≡ lists_answer d (columns keys own begin total) us uk vs vk
    late s t a b = ap₂ (λ s t. ask s (Room 6) then ask t (Room 7) then sizes) a b ∙ sym (ap (λ o. told o u_fits v_fits then sizes) h)

    pub over-u : (s : Bool) → s ≡ u_fits → s ≡ false → Err (Room 6) ≡ lists_answer d (columns keys own begin total) us uk vs vk
    over-u s a e = late false v_fits (sym e ∙ a) refl

    pub over-v : (s t : Bool) → s ≡ u_fits → s ≡ true → t ≡ v_fits → t ≡ false → Err (Room 7) ≡ lists_answer d (columns keys own begin total) us uk vs vk
    over-v s t a e b f = late true false (sym e ∙ a) (sym f ∙ b)

    pub in_room : (s t : Bool) → s ≡ u_fits → s ≡ true → t ≡ v_fits → t ≡ true → sizes ≡ lists_answer d (columns keys own begin total) us uk vs vk
    in_room s t a e b f = late true true (sym e ∙ a) (sym f ∙ b)

  -- what an answer tells of the checks
  pub told-listed : (s : Sizes) → Ok s ≡ lists_answer d (columns keys own begin total) us uk vs vk → lists_check d (columns keys own begin total) us uk vs vk ≡ accepted
  told-listed s e = answered-done _ _ _ e

  pub told-refused : (r : Refusal) → Err r ≡ lists_answer d (columns keys own begin total) us uk vs vk → lists_check d (columns keys own begin total) us uk vs vk ≡ Err r
  told-refused r e = answered-refused _ _ _ e

  pub listed-tree : (s : Sizes) → Ok s ≡ lists_answer d (columns keys own begin total) us uk vs vk → tree_check d (columns keys own begin total) ≡ accepted
  listed-tree s e =
      let p = (both-done (starts_check d (columns keys own begin total) us vs then ask u_fits (Room 6)) (ask v_fits (Room 7)) (told-listed s e)).0 in
      (ready d keys own begin total us vs (both-done (starts_check d (columns keys own begin total) us vs) (ask u_fits (Room 6)) p).0).tree
