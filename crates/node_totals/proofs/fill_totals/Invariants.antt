-- `node_totals::fill_totals` meets its contract.
use mathlib.Core.Path.{◌≡◌}
use lib.ListN.{length}
use Rattle.node_totals.proofs.Totals.{Filled}
use Rattle.node_totals.proofs.fill_totals.Given as goal

abbrev pub invariant-loop-q : goal.invariant-loop-q
invariant-loop-q l = Filled l.axes l.key l.begin l.sources l.total l.q × (length l.total ≡ length l.initial.total)
