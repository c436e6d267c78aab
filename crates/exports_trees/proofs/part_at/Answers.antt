-- An empty part starts at 0; any other lies where the columns say.
use Rattle.std.proofs.Common.{rules}
use mathlib.Core.Path.{◌≡◌, ap, sym, ◌∙◌}
use lib.ListN.{length, get_or, take, drop}
use Rattle.tree.specs.Sources.{leaf_sources}
use Rattle.exports_trees.proofs.Parts.{empty-part, empty-start, in_begin, other-part, other-start}
use Rattle.exports_trees.proofs.part_at.Goals as goal

pub returns-then-count-eq0 : goal.returns-then-count-eq0
returns-then-count-eq0 c = let e = sym (ap length c.leaf_sources-part.ensures) ∙ c.if-count-eq0.true in record { length = sym e; part = empty-part c.args.counts.now c.args.begin.now c.args.order.now c.args.node e; start = empty-start c.args.counts.now c.args.begin.now c.args.order.now c.args.node e }

pub offset_bounds-begin-node : goal.offset_bounds-begin-node
offset_bounds-begin-node c = let n : length (leaf_sources c.args.counts.now c.args.begin.now c.args.order.now c.args.node) ≡ 0 → ⊥ = λ z. c.if-count-eq0.false (ap length c.leaf_sources-part.ensures ∙ z) in search (rules, in_begin c.args.counts.now c.args.begin.now c.args.order.now c.args.node n)

pub bounds-begin-node : goal.bounds-begin-node
bounds-begin-node c = let n : length (leaf_sources c.args.counts.now c.args.begin.now c.args.order.now c.args.node) ≡ 0 → ⊥ = λ z. c.if-count-eq0.false (ap length c.leaf_sources-part.ensures ∙ z) in in_begin c.args.counts.now c.args.begin.now c.args.order.now c.args.node n

pub returns : goal.returns
returns c = let n : length (leaf_sources c.args.counts.now c.args.begin.now c.args.order.now c.args.node) ≡ 0 → ⊥ = λ z. c.if-count-eq0.false (ap length c.leaf_sources-part.ensures ∙ z) in record { length = ap length c.leaf_sources-part.ensures; part = ap (λ k. take k (drop (get_or c.args.begin.now c.args.node 0) c.args.order.now)) (ap length c.leaf_sources-part.ensures) ∙ other-part c.args.counts.now c.args.begin.now c.args.order.now c.args.node n; start = other-start c.args.counts.now c.args.begin.now c.args.order.now c.args.node n }
