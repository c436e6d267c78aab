-- The root: what is near it, and its rows.
use mathlib.Core.Path.{◌≡◌, refl, sym, ap, ◌∙◌, subst}
use mathlib.Core.Bool.{Bool, true, false}
use mathlib.Core.List.{List, []}
use Prim.Native.Nat.{ℕ, ◌≤◌, ◌<◌}
use native.Mathlib.Omega.{arith}
use lib.Dec.{ltb}
use lib.ListN.{length, get_or}
use borrow.Author.Tests.{ltb-true, ltb-false, lt-ltb, le-ltb}
use Rattle.slices.specs.Lists.{bit, filter}
use Rattle.slices.specs.Order.{ascending}
use Rattle.tree.specs.WellFormed.{totals_right}
use Rattle.tree.specs.WellFormed.{SoundTree}
use Rattle.tree.proofs.Follow.{root-no-leaf}
use Rattle.rows.specs.Lists.{in_v, u_row, v_row}
use Rattle.links.proofs.Children.{filter_none}
use Rattle.around.specs.Around.{NearListed}
use Rattle.around.proofs.Nodes.{well, tree_of}
use Rattle.around.proofs.Root.{root-listed, root-empty}

-- near it is itself, if it is sourced
pub root-near : (d : ℕ) (keys own total : List ℕ) (t : SoundTree d keys own) → totals_right d keys own total ≡ true → (listed spots : List ℕ) → 1 ≤ length listed → 1 ≤ length spots → get_or listed 0 0 ≡ 0 → get_or spots 0 0 ≡ 0
    → (r : ℕ) → r ≡ bit (ltb 0 (get_or total 0 0)) → NearListed d keys own 0 listed spots r
root-near d keys own total t h listed spots a b e f r q = go (ltb 0 (get_or total 0 0)) refl
  where
    go : (s : Bool) → ltb 0 (get_or total 0 0) ≡ s → NearListed d keys own 0 listed spots r
    go true g = subst (λ c. NearListed d keys own 0 listed spots c) (sym (q ∙ ap bit g)) (root-listed d keys own t total h (ltb-true 0 (get_or total 0 0) g) listed spots a b e f)
    go false g = subst (λ c. NearListed d keys own 0 listed spots c) (sym (q ∙ ap bit g)) (root-empty d keys own t total h (omega (arith, ltb-false 0 (get_or total 0 0) g)) listed spots)

-- how many that are, as the code counts them
pub one-near : (n : ℕ) → 0 < n → ◌≡◌ {A = ℕ} 1 (bit (ltb 0 n))
one-near n h = rw (lt-ltb 0 n h)

pub none-near : (n : ℕ) → n ≤ 0 → ◌≡◌ {A = ℕ} 0 (bit (ltb 0 n))
none-near n h = rw (le-ltb 0 n h)

-- both rows of the root are empty
pub root-u : (d : ℕ) (keys own : List ℕ) → SoundTree d keys own → u_row d keys own (get_or keys 0 0) ≡ []
unfolding u_row
root-u d keys own t = rw (root-no-leaf d keys own (tree_of d keys own t))

pub root-v : (d : ℕ) (keys own : List ℕ) → SoundTree d keys own → v_row d keys own (get_or keys 0 0) ≡ []
unfolding v_row ascending
root-v d keys own t = ap (λ k. ascending (filter (in_v d keys own k) keys)) (well d keys own t).ascending.root ∙ ap ascending (filter_none (in_v d keys own 0) keys (λ x m. unfold in_v in refl))
