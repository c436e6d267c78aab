-- `text::finish` meets its contract.
use Rattle.std.proofs.Common.{rules}
use mathlib.Core.Path.{◌≡◌, ◌∙◌}
use lib.ListN.{length, replicate}
use Rattle.text.proofs.Putting.{ends-short, ends-long}
use Rattle.text.proofs.finish.Goals as goal

pub returns-then-out-n : goal.returns-then-out-n
returns-then-out-n c =
    let zeros : c.fill.new.self ≡ replicate (length c.args.out.now) 0 = search rules in
    λ text g. let e = ends-short c.args.out.now text c.args.n g c.if-out-n.true in (e.0, zeros ∙ e.1)

pub returns : goal.returns
returns c = λ text g. let e = ends-long c.args.out.now text c.args.n g c.if-out-n.false in (e.0, c.clear_from.ensures ∙ e.1)
