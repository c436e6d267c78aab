-- The whole judgement, and the call's answer.
use mathlib.Core.Path.{◌≡◌, sym, ap, ◌∙◌}
use mathlib.Core.Bool.{Bool, true, false}
use mathlib.Core.List.{List}
use Prim.Native.Nat.{ℕ}
use Rattle.slices.proofs.Tests.{refute}
use Rattle.refusal.specs.Chain.{◌then◌}
use Rattle.tree.specs.Columns.{columns}
use Rattle.rows.specs.Written.{row_of}
use Rattle.sourced.specs.Answers.{tree_check}
use Rattle.sourced.proofs.Checks.{passed, passed-totals}
use Rattle.sums.specs.Tells.{Tells}
use Rattle.sums.specs.Right.{StartsRight, ListsRight, lists_are}
use Rattle.sums.proofs.Flat.{flat-right, right-flat, lists-are}
use Rattle.list_rows.specs.Entries.{Counted}
use Rattle.list_check.specs.Answers.{right_answer}
use Rattle.std.specs.Prelude.{Ok}
use Rattle.refusal.specs.Outcome.{Outcome, accepted}

module _ (d : ℕ) (keys own total us uk vs vk : List ℕ) (c : Counted d keys own total) where
  pub not-u : (StartsRight keys us uk → ⊥) → false ≡ lists_are d keys own us uk vs vk
  not-u n = sym (refute (λ h. n (right-flat d keys own c.tree.begin c.tree.sound us uk vs vk ((lists-are d keys own c.tree.begin c.tree.sound us uk vs vk).0 h)).0))

  pub not-v : (StartsRight keys vs vk → ⊥) → false ≡ lists_are d keys own us uk vs vk
  not-v n = sym (refute (λ h. n (right-flat d keys own c.tree.begin c.tree.sound us uk vs vk ((lists-are d keys own c.tree.begin c.tree.sound us uk vs vk).0 h)).1))

  pub judged : StartsRight keys us uk → StartsRight keys vs vk → (r : Bool) → Tells (ListsRight d keys own (row_of keys us uk) (row_of keys vs vk)) r → r ≡ lists_are d keys own us uk vs vk
  judged su sv true h = sym ((lists-are d keys own c.tree.begin c.tree.sound us uk vs vk).1 (flat-right d keys own c.tree.begin c.tree.sound us uk vs vk su sv h))
  judged su sv false h = sym (refute (λ e. h (right-flat d keys own c.tree.begin c.tree.sound us uk vs vk ((lists-are d keys own c.tree.begin c.tree.sound us uk vs vk).0 e)).2))

module _ (d : ℕ) (keys own begin total us uk vs vk : List ℕ) where
  pub counted : tree_check d (columns keys own begin total) ≡ accepted → Counted d keys own total
  counted e = record { tree = passed d keys own begin total e; totals = passed-totals d keys own begin total e }

  pub answered : tree_check d (columns keys own begin total) ≡ accepted → (r : Bool) → r ≡ lists_are d keys own us uk vs vk → Ok r ≡ right_answer d (columns keys own begin total) us uk vs vk
  answered e r h = sym (ap (λ (o : Outcome). o then Ok (lists_are d keys own us uk vs vk)) e ∙ ap Ok (sym h))
