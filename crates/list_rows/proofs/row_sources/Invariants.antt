-- The first i entries pass, and what they bring is counted.
use Rattle.list_rows.proofs.Rows.{Passing}
use Rattle.list_rows.specs.Entries.{Table}
use Rattle.list_rows.proofs.row_sources.Given as goal

abbrev pub invariant-loop-i : goal.invariant-loop-i
invariant-loop-i l = Table l.axes l.key l.nodes l.spots × Passing l.axes l.key l.own l.total l.far l.row.cell l.flat l.i l.sum
