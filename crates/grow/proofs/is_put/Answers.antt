-- `grow::is_put` meets its contract.
use mathlib.Core.Path.{sym, ap, ap₂, ◌∙◌}
use mathlib.Core.Bool.{Bool, ◌&&◌, ◌||◌}
use lib.Dec.{ltb}
use borrow.Author.Tests.{le-leb, lt-leb}
use Rattle.grow.proofs.is_put.Goals as goal

pub returns-then-z-from : goal.returns-then-z-from
returns-then-z-from c = sym (ap (λ (t : Bool). t && (c.args.g.keep || ltb 0 c.args.count)) (lt-leb c.args.from c.args.z.room c.if-z-from.true))

pub returns-then-g : goal.returns-then-g
returns-then-g c = c.if-g.true ∙ sym (ap₂ (λ (t u : Bool). t && (u || ltb 0 c.args.count)) (le-leb c.args.from c.args.z.room c.if-z-from.false) c.if-g.true)

pub returns-else-g : goal.returns-else-g
returns-else-g c = sym (ap₂ (λ (t u : Bool). t && (u || ltb 0 c.args.count)) (le-leb c.args.from c.args.z.room c.if-z-from.false) c.if-g.false)
