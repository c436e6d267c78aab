-- `lookup::points_to_keys` meets its contract.
use lib.ListN.{length}
use Rattle.lookup.proofs.Calls.{found-axes, output-left}
use Rattle.lookup.proofs.Steps.{both-steps}
use Rattle.lookup.proofs.points_to_keys.Goals as goal

pub clear_rest-requires : goal.clear_rest-requires
clear_rest-requires c = found-axes c.args.b c.args.key.now c.args.own.now c.args.begin.now c.args.total.now c.args.points.now (length c.args.output.now) c.attempt-found.result c.attempt-found.ensures.value

pub returns : goal.returns
returns c = let all = both-steps c.args.b c.args.key.now c.args.own.now c.args.begin.now c.args.total.now c.args.points.now (length c.args.output.now) _ c.attempt-found.ensures.value (output-left c.args.b c.args.key.now c.args.own.now c.args.begin.now c.args.total.now c.args.points.now (length c.args.output.now) c.attempt-found.result c.attempt-found.ensures.value c.args.output.now _ _ c.attempt-found.ensures.output_len_unchanged.0 c.attempt-found.ensures.output_len_unchanged.1 c.clear_rest.ensures) in record { value = all.0; output_after = all.1.0; steps = all.1.1 }
