-- `build::lay` meets its contract.
use mathlib.Core.Path.{◌≡◌, sym, subst}
use mathlib.Core.Bool.{Bool, true}
use Prim.Native.Nat.{ℕ}
use lib.ListN.{length}
use Rattle.std.specs.Prelude.{IfOk}
use Rattle.refusal.specs.Outcome.{ending}
use Rattle.parting.specs.declared.Sizes.{Sizes}
use Rattle.build.specs.Asked.{asks_at}
use Rattle.build.specs.Steps.{lay_outcome, LaidOut}
use Rattle.build.proofs.lay.Goals as goal

pub returns-then-sited : goal.returns-then-sited
returns-then-sited c = record { outcome_value = subst (λ (u : Bool). ending c.lay_on_grid.result ≡ lay_outcome (asks_at c.args.b 0 c.args.order true c.args.sources.now c.args.targets.now u c.args.grid) (length c.args.work.now) (length c.args.indices.now)) (sym c.if-sited.true) c.lay_on_grid.ensures.outcome_value; laid_out = subst (λ (u : Bool). IfOk c.lay_on_grid.result (λ (z : Sizes). (limit : ℕ) (keep : Bool) → LaidOut (asks_at c.args.b limit c.args.order keep c.args.sources.now c.args.targets.now u c.args.grid) c.args.room z c.lay_on_grid.new.work c.lay_on_grid.new.indices)) (sym c.if-sited.true) c.lay_on_grid.ensures.laid_out }

pub returns : goal.returns
returns c = record { outcome_value = subst (λ (u : Bool). ending c.lay_out.result ≡ lay_outcome (asks_at c.args.b 0 c.args.order true c.args.sources.now c.args.targets.now u c.args.grid) (length c.args.work.now) (length c.args.indices.now)) (sym c.if-sited.false) c.lay_out.ensures.outcome_value; laid_out = subst (λ (u : Bool). IfOk c.lay_out.result (λ (z : Sizes). (limit : ℕ) (keep : Bool) → LaidOut (asks_at c.args.b limit c.args.order keep c.args.sources.now c.args.targets.now u c.args.grid) c.args.room z c.lay_out.new.work c.lay_out.new.indices)) (sym c.if-sited.false) c.lay_out.ensures.laid_out }
