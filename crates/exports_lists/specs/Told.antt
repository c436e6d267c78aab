-- What the C face tells of the list call: what stands in place of the sizes of lists after a refusal.
use Rattle.node_rows.specs.declared.Sizes.{Sizes}

abbrev pub no_sizes : Sizes
no_sizes = record { u = 0; v = 0 }
