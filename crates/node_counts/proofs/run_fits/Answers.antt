-- `node_counts::run_fits` meets its contract.
use Rattle.node_counts.proofs.Counts.{run_past, run-within}
use Rattle.node_counts.proofs.run_fits.Goals as goal

pub returns-then-entries-begin : goal.returns-then-entries-begin
returns-then-entries-begin c = run_past _ _ _ c.if-entries-begin.true

pub returns : goal.returns
returns c = run-within _ _ _ c.if-entries-begin.false
