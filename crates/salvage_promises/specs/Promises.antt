-- What is promised of columns that are sound already, and the change list read as pairs: document 02, order 8.
use Rattle.std.specs.Prelude.{◌≡◌, List, [], ◌∷◌, map, ℕ, length, replicate, Ok}
use Rattle.slices.specs.Lists.{sum, filled}
use Rattle.salvaged.specs.Nodes.{Input}
use Rattle.salvaged.specs.Answers.{Rooms, salvage_check, salvage_answer, order_left, keys_left, own_left, begins_left, totals_left, codes_left, changed_left}
use Rattle.refusal.specs.Outcome.{accepted}

-- the call is not refused and leaves the input's own columns, each with 0 in the unused rest, and an empty list
pub record GivenBack (i : Input) (r : Rooms) (total : List ℕ) : Type 0 where
  pub check : salvage_check i r ≡ accepted
  pub answer : salvage_answer i r ≡ Ok (record { nodes = length i.key; sources = sum i.own; changes = 0 })
  pub order : order_left i r ≡ filled r.order i.order
  pub keys : keys_left i r ≡ filled r.keys i.key
  pub own : own_left i r ≡ filled r.own i.own
  pub begins : begins_left i r ≡ filled r.begins i.begin
  pub totals : totals_left i r ≡ filled r.totals total
  pub codes : codes_left i r ≡ replicate r.codes 0
  pub changed : changed_left i r ≡ replicate r.changed 0

-- two columns read side by side
unfoldable pub pairs : List ℕ → List ℕ → List (ℕ × ℕ)
pairs [] ks = []
pairs (c ∷ cs) [] = []
pairs (c ∷ cs) (k ∷ ks) = (c, k) ∷ pairs cs ks

-- keys of which one code is told
abbrev pub with_code : ℕ → List ℕ → List (ℕ × ℕ)
with_code code keys = map (λ (k : ℕ). (code, k)) keys
