-- `places::place_at` meets its contract.
use Rattle.places.proofs.+place_at.Given as goal

abbrev pub decreases-place_at : goal.decreases-place_at
decreases-place_at l = l.level
