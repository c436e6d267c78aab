-- The first j entries are parted.
use Rattle.around.proofs.Parting.{PartsTo}
use Rattle.around.proofs.try_parts.Given as goal

abbrev pub invariant-loop-j : goal.invariant-loop-j
invariant-loop-j l = PartsTo l.key l.nodes l.masks l.s l.initial.far l.f l.far l.m l.near l.t l.j
