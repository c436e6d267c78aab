-- `links::first_sourced_child` meets its contract.
use native.Mathlib.Omega.{arith}
use mathlib.Core.Path.{refl}
use Rattle.links.proofs.Children.{tree-linked}
use Rattle.links.proofs.Readers.{after-here, after-past}
use Rattle.links.proofs.first_sourced_child.Goals as goal

pub bounds-total-c : goal.bounds-total-c
bounds-total-c c = omega (arith, c.requires.1, (tree-linked c.requires.0.1).totals)

pub returns-then-total-c-gt0 : goal.returns-then-total-c-gt0
returns-then-total-c-gt0 c = after-here c.args.key.now c.args.total.now c.args.i _ refl c.if-total-c-gt0.true

pub next_of-requires : goal.next_of-requires
next_of-requires c = (c.requires.0, omega (arith, c.requires.1))

pub returns : goal.returns
returns c = after-past c.args.key.now c.args.total.now c.args.i _ refl c.if-total-c-gt0.false _ c.next_of.ensures
