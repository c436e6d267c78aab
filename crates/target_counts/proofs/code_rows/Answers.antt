-- `target_counts::code_rows` meets its contract.
use mathlib.Core.Path.{◌≡◌, sym, ◌∙◌, subst}
use native.Mathlib.Omega.{arith}
use lib.ListN.{drop}
use Rattle.space.proofs.Points.{placed-in, placed-out}
use Rattle.target_counts.proofs.Targets.{coding-start, coding-more, coded-stop, coded-all}
use Rattle.target_counts.specs.Pieces.{Piece}
use Rattle.target_counts.proofs.code_rows.Goals as goal

pub loop-n-init : goal.loop-n-init
loop-n-init c = coding-start c.args.f c.args.targets.now c.args.from c.args.far c.args.codes.now c.requires.le_axes.5

pub returns-in-None : goal.returns-in-None
returns-in-None c = (c.loop-n.invariant.long, coded-stop c.args.f c.args.targets.now c.args.from c.args.far c.loop-n.codes c.loop-n.n c.loop-n.at c.loop-n.invariant c.args.most (omega (arith, c.loop-n.auto.n-end)) (placed-out c.args.f (drop c.loop-n.at c.args.targets.now) (sym c.code_at.ensures ∙ c.in-None.is)))

pub loop-n-preserved : goal.loop-n-preserved
loop-n-preserved c = let g = placed-in c.args.f (drop c.loop-n.at c.args.targets.now) c.in-Some.code (sym c.code_at.ensures ∙ c.in-Some.is) in coding-more c.args.f c.args.targets.now c.args.from c.args.far c.loop-n.codes c.loop-n.n c.loop-n.at c.loop-n.invariant c.in-Some.code (omega (arith, c.loop-n-test.true, c.requires.le_axes.4)) g.0 g.1

pub returns : goal.returns
returns c =
    let e : c.loop-n.n ≡ c.args.most = omega (arith, c.loop-n.auto.n-end, c.loop-n-test.false) in
    (c.loop-n.invariant.long, subst (λ k. Piece c.args.f c.args.targets.now c.args.from c.args.far c.args.most c.loop-n.codes k) e (coded-all c.args.f c.args.targets.now c.args.from c.args.far c.loop-n.codes c.loop-n.n c.loop-n.at c.loop-n.invariant c.args.most (omega (arith, c.loop-n.auto.n-end)) c.loop-n-test.false))
