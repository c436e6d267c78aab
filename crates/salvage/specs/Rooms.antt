-- The slices that are lent to a salvage.
use Rattle.std.specs.Prelude.{List, ℕ, length}
use Rattle.salvaged.specs.Answers.{Rooms}

abbrev pub rooms : (order keys own begins totals codes changed : List ℕ) → Rooms
rooms order keys own begins totals codes changed = record {
  order = length order;
  keys = length keys;
  own = length own;
  begins = length begins;
  totals = length totals;
  codes = length codes;
  changed = length changed;
}
