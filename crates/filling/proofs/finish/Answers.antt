-- `filling::finish` meets its contract.
use mathlib.Core.Path.{sym, ap, ap₂, ◌∙◌}
use mathlib.Core.List.{List, ◌++◌}
use Prim.Native.Nat.{ℕ, ◌-◌}
use lib.ListN.{replicate}
use lib.Seq.{length-take-le}
use Rattle.filling.proofs.finish.Goals as goal

pub slice_bounds-depth_of-end-2 : goal.slice_bounds-depth_of-end-2
slice_bounds-depth_of-end-2 c = sym (length-take-le c.args.n c.args.key.now c.requires.2)

pub returns : goal.returns
returns c = record { value = c.depth_of-depth.ensures; work_after = c.clear.ensures; indices_after = c.clear_from_usize.ensures ∙ ap₂ (λ (xs : List ℕ) (m : ℕ). xs ++ replicate m 0) c.take_indices.ensures.taken (ap (λ (m : ℕ). m - c.args.rows) c.take_indices.auto.order); key_after = c.clear_from.ensures }
