-- `kept_sources::sum_rows` meets its contract.
use Rattle.salvaged.specs.Nodes.{input}
use Rattle.kept_sources.proofs.Adding.{Adding}
use Rattle.kept_sources.proofs.sum_rows.Given as goal

abbrev pub invariant-loop-row : goal.invariant-loop-row
invariant-loop-row l = Adding (input l.axes l.key l.own l.begin l.order) l.exact l.sum l.row
