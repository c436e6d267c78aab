-- `kept_sources::sources_outcome` meets its contract.
use Rattle.salvaged.specs.Nodes.{input}
use Rattle.kept_sources.proofs.Adding.{settled, too_many, no-places, all_placed}
use Rattle.kept_sources.proofs.sources_outcome.Goals as goal

pub sum_rows-most-requires : goal.sum_rows-most-requires
sum_rows-most-requires c = c.requires

pub returns-then-most-places : goal.returns-then-most-places
returns-then-most-places c = settled (input c.args.axes c.args.key.now c.args.own.now c.args.begin.now c.args.order.now) c.requires c.args.places _ c.sum_rows-most.ensures c.if-most-le-MOST_SOURCES.true c.if-most-places.true

pub sum_rows-sum-requires : goal.sum_rows-sum-requires
sum_rows-sum-requires c = c.requires

pub returns-then-sum-gt-MOST_SOURCES : goal.returns-then-sum-gt-MOST_SOURCES
returns-then-sum-gt-MOST_SOURCES c = too_many (input c.args.axes c.args.key.now c.args.own.now c.args.begin.now c.args.order.now) c.requires c.args.places _ c.sum_rows-sum.ensures c.if-sum-gt-MOST_SOURCES.true

pub returns-then-places-sum : goal.returns-then-places-sum
returns-then-places-sum c = no-places (input c.args.axes c.args.key.now c.args.own.now c.args.begin.now c.args.order.now) c.requires c.args.places _ c.sum_rows-sum.ensures c.if-sum-gt-MOST_SOURCES.false c.if-places-sum.true

pub returns : goal.returns
returns c = all_placed (input c.args.axes c.args.key.now c.args.own.now c.args.begin.now c.args.order.now) c.requires c.args.places _ c.sum_rows-sum.ensures c.if-sum-gt-MOST_SOURCES.false c.if-places-sum.false
