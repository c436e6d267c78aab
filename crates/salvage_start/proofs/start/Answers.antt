-- `salvage_start::start` meets its contract.
use mathlib.Core.Path.{sym, ap, ◌∙◌}
use native.Mathlib.Omega.{arith}
use lib.Seq.{length-take-le}
use Rattle.refusal.specs.Outcome.{Answer, ending}
use Rattle.refusal.proofs.Chain.{passed-on}
use Rattle.salvaged.specs.Nodes.{input}
use Rattle.salvage_start.specs.declared.Started.{Started}
use Rattle.salvage_start.proofs.Starting.{other-axes, other-own, other-begin, counted-refused, nodes-short, too_many, no-places, all-fine, started}
use Rattle.salvage_start.proofs.start.Goals as goal

pub axes_known-requires : goal.axes_known-requires
axes_known-requires c = tt

pub returns-then-not-axes_known : goal.returns-then-not-axes_known
returns-then-not-axes_known c = record { outcome_value = other-axes (input c.args.axes c.args.key.now c.args.own.now c.args.begin.now c.args.order.now) c.args.places c.args.room (sym c.axes_known.ensures ∙ c.if-not-axes_known.true); started_with = tt }

pub returns-then-own-key : goal.returns-then-own-key
returns-then-own-key c = record { outcome_value = other-own (input c.args.axes c.args.key.now c.args.own.now c.args.begin.now c.args.order.now) c.args.places c.args.room (sym c.axes_known.ensures ∙ c.if-not-axes_known.false) c.if-own-key.true; started_with = tt }

pub returns-then-begin-key : goal.returns-then-begin-key
returns-then-begin-key c = record { outcome_value = other-begin (input c.args.axes c.args.key.now c.args.own.now c.args.begin.now c.args.order.now) c.args.places c.args.room (sym c.axes_known.ensures ∙ c.if-not-axes_known.false) c.if-own-key.false c.if-begin-key.true; started_with = tt }

pub fill_nodes-n-requires : goal.fill_nodes-n-requires
fill_nodes-n-requires c = ((record { axes = (sym c.axes_known.ensures ∙ c.if-not-axes_known.false); owns = c.if-own-key.false; begins = c.if-begin-key.false }), c.requires)

pub sources_outcome-requires : goal.sources_outcome-requires
sources_outcome-requires c = (record { axes = (sym c.axes_known.ensures ∙ c.if-not-axes_known.false); owns = c.if-own-key.false; begins = c.if-begin-key.false })

pub returns-in_err-sources_outcome-clause-outcome_value : goal.returns-in_err-sources_outcome-clause-outcome_value
returns-in_err-sources_outcome-clause-outcome_value c = ap (λ (a : Answer Started). ending a) (passed-on _ _ c.from_residual.ensures.1) ∙ counted-refused (input c.args.axes c.args.key.now c.args.own.now c.args.begin.now c.args.order.now) c.args.places c.args.room (record { axes = (sym c.axes_known.ensures ∙ c.if-not-axes_known.false); owns = c.if-own-key.false; begins = c.if-begin-key.false }) c.sources_outcome.result _ c.sources_outcome.ensures c.in_err-sources_outcome.was

pub returns-then-room-n : goal.returns-then-room-n
returns-then-room-n c = record { outcome_value = nodes-short (input c.args.axes c.args.key.now c.args.own.now c.args.begin.now c.args.order.now) c.args.places c.args.room (record { axes = (sym c.axes_known.ensures ∙ c.if-not-axes_known.false); owns = c.if-own-key.false; begins = c.if-begin-key.false }) c.sources_outcome.result c.sources_outcome.ensures c.in_ok-sources_outcome.was (c.fill_nodes-n.ensures.short c.if-room-n.true); started_with = tt }

pub slice_bounds-sum_own-end : goal.slice_bounds-sum_own-end
slice_bounds-sum_own-end c = omega (arith, c.if-room-n.false, c.requires.owns, c.fill_nodes-n.auto.new_own)

pub slice_bounds-sum_own-end-2 : goal.slice_bounds-sum_own-end-2
slice_bounds-sum_own-end-2 c = sym (length-take-le _ _ (omega (arith, c.if-room-n.false, c.requires.owns, c.fill_nodes-n.auto.new_own)))

pub sum_own-sources-requires : goal.sum_own-sources-requires
sum_own-sources-requires c = tt

pub returns-then-sources-gt-MOST_SOURCES : goal.returns-then-sources-gt-MOST_SOURCES
returns-then-sources-gt-MOST_SOURCES c = record { outcome_value = too_many (input c.args.axes c.args.key.now c.args.own.now c.args.begin.now c.args.order.now) c.args.places c.args.room (record { axes = (sym c.axes_known.ensures ∙ c.if-not-axes_known.false); owns = c.if-own-key.false; begins = c.if-begin-key.false }) _ _ _ _ _ c.fill_nodes-n.ensures c.if-room-n.false c.sum_own-sources.ensures c.if-sources-gt-MOST_SOURCES.true; started_with = tt }

pub returns-then-places-sources : goal.returns-then-places-sources
returns-then-places-sources c = record { outcome_value = no-places (input c.args.axes c.args.key.now c.args.own.now c.args.begin.now c.args.order.now) c.args.places c.args.room (record { axes = (sym c.axes_known.ensures ∙ c.if-not-axes_known.false); owns = c.if-own-key.false; begins = c.if-begin-key.false }) _ _ _ _ _ c.fill_nodes-n.ensures c.if-room-n.false c.sum_own-sources.ensures c.if-sources-gt-MOST_SOURCES.false c.if-places-sources.true; started_with = tt }

pub returns : goal.returns
returns c = record { outcome_value = all-fine (input c.args.axes c.args.key.now c.args.own.now c.args.begin.now c.args.order.now) c.args.places c.args.room (record { axes = (sym c.axes_known.ensures ∙ c.if-not-axes_known.false); owns = c.if-own-key.false; begins = c.if-begin-key.false }) _ _ _ _ _ c.fill_nodes-n.ensures c.if-room-n.false c.sum_own-sources.ensures c.if-sources-gt-MOST_SOURCES.false c.if-places-sources.false; started_with = started (input c.args.axes c.args.key.now c.args.own.now c.args.begin.now c.args.order.now) c.args.places c.args.room (record { axes = (sym c.axes_known.ensures ∙ c.if-not-axes_known.false); owns = c.if-own-key.false; begins = c.if-begin-key.false }) _ _ _ _ _ c.fill_nodes-n.ensures c.if-room-n.false c.sum_own-sources.ensures c.if-sources-gt-MOST_SOURCES.false }
