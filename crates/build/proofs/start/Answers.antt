-- `build::start` meets its contract.
use mathlib.Core.Path.{◌≡◌, refl, sym, ap, subst, ◌∙◌}
use Prim.Native.Nat.{ℕ, ◌≤◌}
use native.Mathlib.Omega.{arith}
use lib.Dec.{leb}
use lib.ListN.{length}
use borrow.Author.Tests.{leb-true}
use Rattle.refusal.specs.declared.Refusal.TheVariants.{Room}
use Rattle.refusal.specs.Outcome.{Answer, ending}
use Rattle.refusal.specs.Chain.{ask}
use Rattle.refusal.proofs.Chain.{passed-on}
use Rattle.growth.specs.Nodes.{nodes}
use Rattle.parting.specs.Setting.{setting}
use Rattle.parting.specs.Parts.{source_codes, target_codes}
use Rattle.grow.specs.Rows.{marked}
use Rattle.filling.specs.declared.Started.{Started}
use Rattle.build.specs.Asked.{asks_at, rule_of, built_keys}
use Rattle.build.specs.Steps.{TreeStarted}
use Rattle.build.proofs.Answers.{early-so, late-so, ends, if-asked}
use Rattle.build.proofs.Columns.{keys-asked, nodes-counted, tree-started}
use Rattle.build.proofs.start.Goals as goal

pub returns-in_err-z-clause-outcome_value : goal.returns-in_err-z-clause-outcome_value
returns-in_err-z-clause-outcome_value c = ap (λ (a : Answer Started). ending a) (passed-on _ _ c.from_residual.ensures.1) ∙ early-so (asks_at c.args.b c.args.limit c.args.order c.args.keep c.args.sources.now c.args.targets.now c.args.sited c.args.grid) (length c.args.work.now) (length c.args.indices.now) c.args.room _ c.in_err-z.ensures.outcome_value

pub grow-n-requires : goal.grow-n-requires
grow-n-requires c = let l = c.in_ok-z.ensures.laid_out c.args.limit c.args.keep in (l.coded, omega (arith, l.room_is, c.requires), l.spanned)

pub returns : goal.returns
returns c =
    let a = (asks_at c.args.b c.args.limit c.args.order c.args.keep c.args.sources.now c.args.targets.now c.args.sited c.args.grid) in
    let z = c.in_ok-z.z in
    let l = c.in_ok-z.ensures.laid_out c.args.limit c.args.keep in
    let t = setting z c.lay.new.indices in
    let work = c.lay.new.work in
    let s = marked c.grow-n.new.key c.grow-n.new.mark c.grow-n.result in
    let so = c.settle.ensures in
    record {
      outcome_value = ap (λ (p : Answer Started). ending p) so ∙ ends (ask (leb c.grow-n.result z.room) (Room 3)) (record { rows = z.sources; nodes = c.grow-n.result }) ∙ late-so a (length c.args.work.now) (length c.args.indices.now) c.args.room c.in_ok-z.ensures.outcome_value c.grow-n.result z.room (nodes (rule_of a) (source_codes t work) (target_codes t work)) (keys-asked a t work c.grow-n.new.work s l.coded c.grow-n.ensures l.sources_are l.nodes_are) l.room_is c.grow-n.ensures.counted;
      nodes_value = if-asked (λ (p : Started). p.nodes ≡ length (built_keys a)) _ _ _ _ so (λ h. nodes-counted a t work c.grow-n.new.work s l.coded c.grow-n.ensures l.sources_are l.nodes_are (leb-true c.grow-n.result z.room h));
      tree_started = if-asked (λ (p : Started). c.args.room ≤ length c.args.key.now → c.args.room ≤ length c.args.mark.now → TreeStarted a c.args.room p.rows p.nodes c.grow-n.new.work c.lay.new.indices c.grow-n.new.key c.grow-n.new.mark) _ _ _ _ so (λ h i j.
          subst (λ (m : ℕ). TreeStarted a m z.sources c.grow-n.result c.grow-n.new.work c.lay.new.indices c.grow-n.new.key c.grow-n.new.mark) l.room_is
          (tree-started a t work c.grow-n.new.work s l.coded c.grow-n.ensures l.sources_are l.nodes_are c.lay.new.indices z.sources c.grow-n.result refl refl (leb-true c.grow-n.result z.room h) l.fits (omega (arith, i, l.room_is, c.grow-n.auto.key)) (omega (arith, j, l.room_is, c.grow-n.auto.mark))));
    }
