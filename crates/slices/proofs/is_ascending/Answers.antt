-- `slices::is_ascending` meets its contract: the test of each pair of neighbours is the test of the whole.
use Rattle.std.proofs.Common.{rules}
use Rattle.slices.proofs.Rises.{rises_pairs}
use Rattle.slices.proofs.is_ascending.Goals as goal

pub returns : goal.returns
returns c = rises_pairs _ _ (search rules)
