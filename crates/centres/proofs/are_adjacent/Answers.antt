-- `centres::are_adjacent` meets its contract: the box, the first key and the second are checked, in this order; and what it answers agrees (`proofs/Agree.antt`).
use mathlib.Core.Path.{◌≡◌, sym, ap, ◌∙◌}
use Rattle.std.specs.Prelude.{Ok, Err}
use Rattle.refusal.specs.Chain.{◌then◌}
use Rattle.refusal.proofs.Chain.{passed-on}
use Rattle.morton.specs.Keys.{ValidKey}
use Rattle.morton.proofs.Checks.{checked}
use Rattle.centres.specs.Centres.{are_adjacent, near_on}
use Rattle.space.proofs.Refusals.{Fine}
use Rattle.centres.proofs.Centres.{key-done, keys-refused, keys-checked}
use Rattle.centres.proofs.Held.{held}
use Rattle.centres.proofs.Agree.{promised}
use Rattle.centres.proofs.are_adjacent.Goals as goal

pub returns-in_err-key_outcome : goal.returns-in_err-key_outcome
returns-in_err-key_outcome c =
    let all = promised c.args.b c.args.first c.args.second _ (held c.args.b c.well_formed.0.1.1.0.0 c.well_formed.0.1.1.1.0.1 c.well_formed.0.1.1.0.1.1)
    (passed-on _ _ c.from_residual.ensures.1 ∙ ap (λ o. o then Ok (near_on c.args.b.axes c.args.b c.args.first c.args.second)) (keys-refused c.args.b c.args.second c.args.first _ (sym c.key_outcome.ensures ∙ c.in_err-key_outcome.was))) in
    record { answer = all.0; agrees = all.1 }

pub returns-in_err-check_key : goal.returns-in_err-check_key
returns-in_err-check_key c =
    let e = sym c.key_outcome.ensures ∙ c.in_ok-key_outcome.was in
    let all = promised c.args.b c.args.first c.args.second _ (held c.args.b c.well_formed.0.1.1.0.0 c.well_formed.0.1.1.1.0.1 c.well_formed.0.1.1.0.1.1)
    (passed-on _ _ c.from_residual-in_err-check_key.ensures.1 ∙ ap (λ o. o then Ok (near_on c.args.b.axes c.args.b c.args.first c.args.second))
    (sym c.in_err-check_key.was ∙ c.check_key.ensures ∙ keys-checked c.args.b c.args.second c.args.first (key-done c.args.b c.args.first e).0 e)) in
    record { answer = all.0; agrees = all.1 }

pub centres_near-requires : goal.centres_near-requires
centres_near-requires c = ((key-done c.args.b c.args.first (sym c.key_outcome.ensures ∙ c.in_ok-key_outcome.was)).1, checked c.args.b.axes c.args.second (sym c.check_key.ensures ∙ c.in_ok-check_key.was))

pub returns : goal.returns
returns c =
    let e = sym c.key_outcome.ensures ∙ c.in_ok-key_outcome.was in
    let all = promised c.args.b c.args.first c.args.second _ (held c.args.b c.well_formed.0.1.1.0.0 c.well_formed.0.1.1.1.0.1 c.well_formed.0.1.1.0.1.1)
    (ap Ok c.centres_near.ensures ∙ ap (λ o. o then Ok (near_on c.args.b.axes c.args.b c.args.first c.args.second))
    (sym c.in_ok-check_key.was ∙ c.check_key.ensures ∙ keys-checked c.args.b c.args.second c.args.first (key-done c.args.b c.args.first e).0 e)) in
    record { answer = all.0; agrees = all.1 }
