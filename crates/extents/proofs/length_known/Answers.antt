-- `extents::length_known` meets its contract.
use Rattle.extents.proofs.Spans.{two-known, four-known, six-known}
use Rattle.extents.proofs.length_known.Goals as goal

pub returns-then-n-eq2 : goal.returns-then-n-eq2
returns-then-n-eq2 c = two-known c.args.n c.if-n-eq2.true

pub returns-then-n-eq4 : goal.returns-then-n-eq4
returns-then-n-eq4 c = four-known c.args.n c.if-n-eq2.false c.if-n-eq4.true

pub returns : goal.returns
returns c = six-known c.args.n c.if-n-eq2.false c.if-n-eq4.false
