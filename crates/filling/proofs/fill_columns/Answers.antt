-- `filling::fill_columns` meets its contract.
use mathlib.Core.Path.{ap, ap₂, ◌∙◌}
use mathlib.Core.List.{List, ◌++◌}
use Prim.Native.Nat.{ℕ, ◌-◌}
use lib.ListN.{replicate}
use Rattle.filling.proofs.fill_columns.Goals as goal

pub returns : goal.returns
returns c = record { own_after = (c.clear_from_usize.ensures ∙ ap₂ (λ (xs : List ℕ) (m : ℕ). xs ++ replicate m 0) c.spread_marks.ensures.owns (ap (λ (m : ℕ). m - c.args.n) c.spread_marks.auto.own)); begin_after = (c.clear_from_usize-2.ensures ∙ ap₂ (λ (xs : List ℕ) (m : ℕ). xs ++ replicate m 0) c.spread_marks.ensures.begins (ap (λ (m : ℕ). m - c.args.n) c.spread_marks.auto.begin)); total_after = (c.clear_from_usize-3.ensures ∙ ap₂ (λ (xs : List ℕ) (m : ℕ). xs ++ replicate m 0) c.spread_marks.ensures.totals (ap (λ (m : ℕ). m - c.args.n) c.spread_marks.auto.total)) }
