-- `kept_keys::keep_keys` meets its contract.
use mathlib.Core.Path.{sym}
use lib.Seq.{length-take-le}
use Rattle.kept_keys.proofs.Ordering.{order-short, order-fits, all_valid}
use Rattle.kept_keys.proofs.keep_keys.Goals as goal

pub gather-n-requires : goal.gather-n-requires
gather-n-requires c = c.requires

pub returns-then-room-n : goal.returns-then-room-n
returns-then-room-n c = order-short _ _ _ _ _ c.requires.0 c.gather-n.ensures c.if-room-n.true

pub slice_bounds-sort_keys-end : goal.slice_bounds-sort_keys-end
slice_bounds-sort_keys-end c = c.gather-n.ensures.within c.if-room-n.false

pub slice_bounds-sort_keys-end-2 : goal.slice_bounds-sort_keys-end-2
slice_bounds-sort_keys-end-2 c = sym (length-take-le _ _ (c.gather-n.ensures.within c.if-room-n.false))

pub sort_keys-requires : goal.sort_keys-requires
sort_keys-requires c = all_valid _ _ _ _ _ c.requires.0 c.gather-n.ensures c.if-room-n.false

pub returns : goal.returns
returns c = order-fits _ _ _ _ _ c.requires.0 c.gather-n.ensures c.if-room-n.false _ c.sort_keys.ensures
