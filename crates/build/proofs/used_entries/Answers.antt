-- `build::used_entries` meets its contract.
use mathlib.Core.Path.{sym, ap, ◌∙◌}
use mathlib.Core.Bool.{Bool, cond}
use Rattle.build.proofs.used_entries.Goals as goal

pub returns-then-both : goal.returns-then-both
returns-then-both c = sym (ap (λ (u : Bool). cond u c.args.targets 0) (sym c.both.ensures ∙ c.if-both.true))

pub returns : goal.returns
returns c = sym (ap (λ (u : Bool). cond u c.args.targets 0) (sym c.both.ensures ∙ c.if-both.false))
