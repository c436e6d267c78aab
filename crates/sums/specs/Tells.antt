-- What a test tells.
use Rattle.std.specs.Prelude.{Bool, true, false}

-- an answer that is true where P holds, and false where it does not
abbrev pub Tells : Type 0 → Bool → Type 0
Tells P true = P
Tells P false = P → ⊥
