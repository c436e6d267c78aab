-- `sum_check::is_small` meets its contract.
use Rattle.sum_check.proofs.Readings.{small-below, small_is}
use Rattle.sum_check.proofs.is_small.Goals as goal

pub returns-then-reading-ltminus1099511627776 : goal.returns-then-reading-ltminus1099511627776
returns-then-reading-ltminus1099511627776 c = small-below c.args.reading (record { sfits = c.well_formed.0 }) c.if-reading-ltminus1099511627776.true

pub returns : goal.returns
returns c = small_is c.args.reading (record { sfits = c.well_formed.0 }) c.if-reading-ltminus1099511627776.false
