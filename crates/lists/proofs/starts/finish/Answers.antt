-- `starts::finish` meets its contract.
use mathlib.Core.Path.{ap₂, ◌∙◌}
use mathlib.Core.List.{List, ◌++◌}
use Prim.Native.Nat.{ℕ, ◌-◌}
use lib.ListN.{replicate}
use Rattle.lists.proofs.starts.finish.Goals as goal

pub part_starts-requires : goal.part_starts-requires
part_starts-requires c = c.requires

pub returns : goal.returns
returns c = record { u_starts_after = c.clear_from_usize.ensures ∙ ap₂ (λ (x : List ℕ) (k : ℕ). x ++ replicate (k - c.args.n) 0) c.part_starts.ensures.0 c.part_starts.auto.both; v_starts_after = c.clear_from_usize-2.ensures ∙ ap₂ (λ (x : List ℕ) (k : ℕ). x ++ replicate (k - c.args.n) 0) c.part_starts.ensures.1 c.part_starts.auto.low; u_keys_after = (c.clear_from.ensures, c.clear_from-2.ensures) }
