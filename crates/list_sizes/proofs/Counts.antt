-- The keys of all rows, counted node by node.
use mathlib.Core.Path.{◌≡◌, refl, sym, ap, ◌∙◌}
use mathlib.Core.Bool.{Bool, true, false, cond}
use mathlib.Core.List.{List, [], ◌∷◌, ◌++◌}
use Prim.Native.Nat.{ℕ, zero, suc, ◌+◌, ◌≤◌, ◌<◌, min}
use native.Mathlib.Omega.{arith}
use lib.ListN.{length, get_or, take, length-append}
use lib.Seq.{take_all}
use Rattle.slices.specs.Lists.{concat_map, filter}
use Rattle.slices.specs.Order.{ascending}
use Rattle.slices.proofs.Lists.{filter-shorter, length-ascending}
use Rattle.morton.specs.Keys.{far_room}
use Rattle.morton.proofs.Checks.{axes-known}
use Rattle.tree.specs.Nodes.{leaf}
use Rattle.tree.specs.WellFormed.{SoundTree}
use Rattle.rows.specs.Lists.{u_row, v_row, in_u}
use Rattle.rows.specs.Written.{row_keys}
use Rattle.rows.proofs.Demand3.{few, room}
use Rattle.sourced.specs.Room.{Holds, Puts}
use Rattle.sourced.proofs.Putting.{holds-none}
use Rattle.lists.proofs.Writing.{more-keys}
use Rattle.interaction.specs.Answers.{keys_of}
use Rattle.list_sizes.specs.Sizes.{counted}

-- a row that is put into room for it is counted whole
pub row_count : (out out' xs : List ℕ) (m : ℕ) → Puts out 0 xs out' m → length out' ≡ length out → length xs ≤ length out → m ≡ length xs
row_count out out' xs m p e l = omega (arith, (p [] (holds-none out)).counted, e, l)

module _ (row : ℕ → List ℕ) (keys : List ℕ) where
  -- n is the count of the rows of the first i nodes
  abbrev pub Counted : ℕ → ℕ → Type 0
  Counted i n = n ≡ counted (length (row_keys row (take i keys)))

  pub counted_none : row (get_or keys 0 0) ≡ [] → 0 < length keys → Counted 1 0
  unfolding concat_map
  counted_none e l = omega (arith, ap length (more-keys row keys 0 l) ∙ length-append (row_keys row (take 0 keys)) (row (get_or keys 0 0)), ap length e)

  pub counted-more : (i n m r : ℕ) → i < length keys → Counted i n → m ≡ length (row (get_or keys i 0)) → r ≡ counted (n + m) → Counted (i + 1) r
  counted-more i n m r l g e f = omega (arith, ap length (more-keys row keys i l) ∙ length-append (row_keys row (take i keys)) (row (get_or keys i 0)), g, e, f)

  pub counted-all : (i n : ℕ) → Counted i n → length keys ≤ i → n ≡ counted (keys_of row keys)
  counted-all i n g l = g ∙ ap (λ (ks : List ℕ). counted (length (row_keys row ks))) (take_all i keys l)

-- ---- no U row has more keys than there are nodes, no V row more than 189
pub u_short : (d : ℕ) (keys own : List ℕ) (b : ℕ) → length (u_row d keys own b) ≤ length keys
unfolding u_row
u_short d keys own b = go (leaf d keys b)
  where
    go : (t : Bool) → length (cond t (ascending (filter (in_u d keys own b) keys)) []) ≤ length keys
    go true = omega (arith, length-ascending (filter (in_u d keys own b) keys), filter-shorter (in_u d keys own b) keys)
    go false = omega arith

far-room : (d : ℕ) → 1 ≤ d → d ≤ 3 → far_room d ≤ 189
far-room zero p q = absurd (omega (arith, p))
far-room (suc zero) p q = omega (arith, room.0)
far-room (suc (suc zero)) p q = omega (arith, room.1)
far-room (suc (suc (suc zero))) p q = omega (arith, room.2)
far-room (suc (suc (suc (suc d)))) p q = absurd (omega (arith, q))

pub v_short : (d : ℕ) (keys own : List ℕ) → SoundTree d keys own → (i : ℕ) → i < length keys → length (v_row d keys own (get_or keys i 0)) ≤ 189
v_short d keys own t i l =
    omega (arith, (few d keys own t.begin t.sound (u_row d keys own) (v_row d keys own) (λ k m. refl) (λ k m. refl) (axes-known d t.some t.most)).few i l, far-room d t.some t.most)
