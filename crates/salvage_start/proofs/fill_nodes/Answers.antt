-- `salvage_start::fill_nodes` meets its contract.
use mathlib.Core.Path.{sym}
use native.Mathlib.Omega.{arith}
use lib.Seq.{length-take-le}
use Rattle.salvaged.specs.Nodes.{input}
use Rattle.salvage_start.proofs.Filling.{whole-kept, filled_none, filled-short, fillable, countable, filled-all}
use Rattle.salvage_start.proofs.fill_nodes.Goals as goal

pub returns-then-room-eq0 : goal.returns-then-room-eq0
returns-then-room-eq0 c = filled_none (input c.args.axes c.args.key.now c.args.own.now c.args.begin.now c.args.order.now) c.requires.0 _ _ _ _ c.if-room-eq0.true

pub keep_keys-n-requires : goal.keep_keys-n-requires
keep_keys-n-requires c = (c.requires.0.axes, record { within = omega (arith, c.if-room-eq0.false); keys = c.requires.1.keys; childs = c.requires.1.owns; nexts = c.requires.1.begins })

pub returns-then-room-n : goal.returns-then-room-n
returns-then-room-n c = filled-short (input c.args.axes c.args.key.now c.args.own.now c.args.begin.now c.args.order.now) c.requires.0 _ _ _ c.keep_keys-n.ensures _ _ c.if-room-n.true

pub slice_bounds-take_first-end : goal.slice_bounds-take_first-end
slice_bounds-take_first-end c = (omega (arith, c.if-room-n.false, c.requires.1.keys, c.keep_keys-n.auto.key))

pub slice_bounds-take_first-end-2 : goal.slice_bounds-take_first-end-2
slice_bounds-take_first-end-2 c = sym (length-take-le _ _ (omega (arith, c.if-room-n.false, c.requires.1.keys, c.keep_keys-n.auto.key)))

pub slice_bounds-take_first-end-3 : goal.slice_bounds-take_first-end-3
slice_bounds-take_first-end-3 c = (omega (arith, c.if-room-n.false, c.requires.1.owns, c.keep_keys-n.auto.child))

pub slice_bounds-take_first-end-4 : goal.slice_bounds-take_first-end-4
slice_bounds-take_first-end-4 c = sym (length-take-le _ _ (omega (arith, c.if-room-n.false, c.requires.1.owns, c.keep_keys-n.auto.child)))

pub take_first-requires : goal.take_first-requires
take_first-requires c = fillable (input c.args.axes c.args.key.now c.args.own.now c.args.begin.now c.args.order.now) c.requires.0 _ _ _ c.keep_keys-n.ensures c.if-room-n.false _ _ c.requires.0.owns (omega (arith, c.if-room-n.false, c.requires.1.owns, c.keep_keys-n.auto.child))

pub slice_bounds-take_first-end-5 : goal.slice_bounds-take_first-end-5
slice_bounds-take_first-end-5 c = (omega (arith, c.if-room-n.false, c.requires.1.keys, c.keep_keys-n.auto.key))

pub slice_bounds-take_first-end-6 : goal.slice_bounds-take_first-end-6
slice_bounds-take_first-end-6 c = sym (length-take-le _ _ (omega (arith, c.if-room-n.false, c.requires.1.keys, c.keep_keys-n.auto.key)))

pub slice_bounds-take_first-end-7 : goal.slice_bounds-take_first-end-7
slice_bounds-take_first-end-7 c = (omega (arith, c.if-room-n.false, c.requires.1.begins, c.keep_keys-n.auto.next))

pub slice_bounds-take_first-end-8 : goal.slice_bounds-take_first-end-8
slice_bounds-take_first-end-8 c = sym (length-take-le _ _ (omega (arith, c.if-room-n.false, c.requires.1.begins, c.keep_keys-n.auto.next)))

pub take_first-requires-2 : goal.take_first-requires-2
take_first-requires-2 c = fillable (input c.args.axes c.args.key.now c.args.own.now c.args.begin.now c.args.order.now) c.requires.0 _ _ _ c.keep_keys-n.ensures c.if-room-n.false _ _ c.requires.0.begins (omega (arith, c.if-room-n.false, c.requires.1.begins, c.keep_keys-n.auto.next))

pub slice_bounds-keep_counts-end : goal.slice_bounds-keep_counts-end
slice_bounds-keep_counts-end c = (omega (arith, c.if-room-n.false, c.requires.1.keys, c.keep_keys-n.auto.key))

pub slice_bounds-keep_counts-end-2 : goal.slice_bounds-keep_counts-end-2
slice_bounds-keep_counts-end-2 c = sym (length-take-le _ _ (omega (arith, c.if-room-n.false, c.requires.1.keys, c.keep_keys-n.auto.key)))

pub slice_bounds-keep_counts-end-3 : goal.slice_bounds-keep_counts-end-3
slice_bounds-keep_counts-end-3 c = (omega (arith, c.if-room-n.false, c.requires.1.begins, c.keep_keys-n.auto.next, whole-kept c.take_first-2.new.out c.keep_keys-n.new.next c.keep_keys-n.result (omega (arith, c.if-room-n.false, c.requires.1.begins, c.keep_keys-n.auto.next)) c.take_first-2.auto.out))

pub slice_bounds-keep_counts-end-4 : goal.slice_bounds-keep_counts-end-4
slice_bounds-keep_counts-end-4 c = sym (length-take-le _ _ (omega (arith, c.if-room-n.false, c.requires.1.begins, c.keep_keys-n.auto.next, whole-kept c.take_first-2.new.out c.keep_keys-n.new.next c.keep_keys-n.result (omega (arith, c.if-room-n.false, c.requires.1.begins, c.keep_keys-n.auto.next)) c.take_first-2.auto.out)))

pub slice_bounds-keep_counts-end-5 : goal.slice_bounds-keep_counts-end-5
slice_bounds-keep_counts-end-5 c = (omega (arith, c.if-room-n.false, c.requires.1.owns, c.keep_keys-n.auto.child, whole-kept c.take_first.new.out c.keep_keys-n.new.child c.keep_keys-n.result (omega (arith, c.if-room-n.false, c.requires.1.owns, c.keep_keys-n.auto.child)) c.take_first.auto.out))

pub slice_bounds-keep_counts-end-6 : goal.slice_bounds-keep_counts-end-6
slice_bounds-keep_counts-end-6 c = sym (length-take-le _ _ (omega (arith, c.if-room-n.false, c.requires.1.owns, c.keep_keys-n.auto.child, whole-kept c.take_first.new.out c.keep_keys-n.new.child c.keep_keys-n.result (omega (arith, c.if-room-n.false, c.requires.1.owns, c.keep_keys-n.auto.child)) c.take_first.auto.out)))

pub keep_counts-requires : goal.keep_counts-requires
keep_counts-requires c = countable (input c.args.axes c.args.key.now c.args.own.now c.args.begin.now c.args.order.now) c.requires.0 _ _ _ c.keep_keys-n.ensures c.if-room-n.false _ _ _ _ c.take_first.ensures c.take_first-2.ensures

pub returns : goal.returns
returns c = filled-all (input c.args.axes c.args.key.now c.args.own.now c.args.begin.now c.args.order.now) c.requires.0 _ _ _ c.keep_keys-n.ensures c.if-room-n.false _ _ _ _ c.take_first.ensures c.take_first-2.ensures _ c.keep_counts.ensures
