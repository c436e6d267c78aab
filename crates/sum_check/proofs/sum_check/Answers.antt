-- `sum_check::sum_check` meets its contract.
use Rattle.sum_check.proofs.Leaf.{told}
use Rattle.refusal.proofs.Chain.{answered, after-refused, passed-on}
use mathlib.Core.Path.{refl, sym, ap₂, ◌∙◌}
use lib.IntN.{◌+ℤ◌}
use Rattle.sum_check.proofs.sum_check.Goals as goal

pub returns-in_err-sum_outcome : goal.returns-in_err-sum_outcome
returns-in_err-sum_outcome c =
    let e = passed-on _ _ c.from_residual.ensures.1 in
    record { answer = e ∙ sym (after-refused _ _ _ (sym c.sum_outcome.ensures ∙ c.in_err-sum_outcome.was)); together = rw e tt }

pub leaf_sums-requires : goal.leaf_sums-requires
leaf_sums-requires c = sym c.sum_outcome.ensures ∙ c.in_ok-sum_outcome.was

pub returns : goal.returns
returns c =
    let done = sym c.sum_outcome.ensures ∙ c.in_ok-sum_outcome.was in
    record { answer = answered _ _ _ done c.leaf_sums.ensures; together = rw c.leaf_sums.ensures (told c.args.axes c.args.key.now c.args.own.now c.args.begin.now c.args.total.now c.args.readings.now c.args.indices.now c.args.u_starts.now c.args.u_keys.now c.args.v_starts.now c.args.v_keys.now c.args.node done) }
