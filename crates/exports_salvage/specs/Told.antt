-- What the C face tells of a salvage beside how it ended: the numbers of nodes, sources and changes, 0 after a refusal.
use Rattle.salvaged.specs.declared.Salvaged.{Salvaged}

-- what is told in place of these after a refusal
abbrev pub no_salvage : Salvaged
no_salvage = record { nodes = 0; sources = 0; changes = 0 }
