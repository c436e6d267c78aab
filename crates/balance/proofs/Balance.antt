-- Document 02, order 9: what is proved of balanced trees, once over the number of axes d. The words are in specs/Balance.antt.
use mathlib.Core.Path.{◌≡◌, refl, subst}
use mathlib.Core.Bool.{Bool, true, false, not}
use mathlib.Core.List.{List, [], ◌∷◌}
use mathlib.Core.Logic.{◌↔◌}
use Prim.Native.Nat.{ℕ, suc, ◌+◌, ◌≤◌, ◌<◌}
use native.Mathlib.Omega.{arith}
use native.Mathlib.Decide.{dec_lt}
use lib.Dec.{eqb}
use lib.ListN.{length, get_or}
use borrow.Author.Tests.{eq-eqb, ne_eqb}
use Rattle.slices.specs.Lists.{Mem, Distinct, filter, count, bit}
use Rattle.slices.proofs.Counts.{here, there, count-pos, count_add, length-count}
use Rattle.slices.proofs.Lists.{length-filter}
use Rattle.slices.proofs.Members.{filter-mem, distinct-rest, distinct_head}
use Rattle.morton.specs.Keys.{level_of, parent}
use Rattle.morton.proofs.Checks.{valid-facts}
use Rattle.morton.proofs.Cells.{level-parent}
use Rattle.tree.specs.Finding.{TreeKeys}
use Rattle.tree.specs.Order.{greatest_level, depth_of}
use Rattle.tree.proofs.Rules.{ascend-facts}
use Rattle.tree.proofs.Stored.{parent-mem}
use Rattle.tree.proofs.Leaves.{level-greatest, greatest-le}
use Rattle.tree.proofs.Leaves as T
use Rattle.balance.specs.Meeting.{Reaches, meets}
use Rattle.balance.specs.Balance.{Tree, Contains, Balanced, Balances}
use Rattle.balance.specs.Splitting.{balanced_cells, Wanted}
use Rattle.balance.proofs.Points as P
use Rattle.balance.proofs.Wanted.{result-tree, result-contains, result-balanced, result-least, wanted-deep, must-level}
use Rattle.balance.proofs.DepthFirst.{depth-first}
use Rattle.balance.proofs.Ordered.{distinct-depth-first, ascending-depth-first, same-list}

-- closed cells share a point exactly when `meets` says so
pub meets-is : (d j k : ℕ) → (meets d j k ≡ true) ↔ ((x : ℕ → ℕ) × Reaches d j x × Reaches d k x)
meets-is = P.meets-is

-- the keys of a well-formed tree are one
pub tree_of : (d : ℕ) (keys : List ℕ) → TreeKeys d keys → Tree d keys
tree_of d keys k =
    let w = T.tree_of d keys k in
    record {
      sound = λ x m. valid-facts d x k.axes (rw m.2 at (w.ascending.sound m.0 m.1));
      root = (0, k.some, w.ascending.root);
      parents = parent-mem d keys w.ascending w.parents;
    }

module _ (d : ℕ) (keys : List ℕ) (t : Tree d keys) where
  -- a list of the cells that the test wants, in any order, is what order 9 asks for
  pub balances : (result : List ℕ) → Wanted d keys result → Balances d keys result
  balances result w = record {
    tree = result-tree d keys t result w;
    contains = result-contains d keys t result w;
    balanced = result-balanced d keys t result w;
    least = result-least d keys t result w;
  }

  -- and there is one
  pub balances-depth-first : Balances d keys (balanced_cells d keys)
  balances-depth-first = balances (balanced_cells d keys) (depth-first d keys t)

-- only one tree is asked for
pub only : (d : ℕ) (keys one two : List ℕ) → Balances d keys one → Balances d keys two → (k : ℕ) → Mem k one ↔ Mem k two
only d keys one two a b k = (a.least two b.tree b.contains b.balanced k, b.least one a.tree a.contains a.balanced k)

-- a balanced tree comes back the same
pub same : (d : ℕ) (keys result : List ℕ) → Tree d keys → Balanced d keys → Balances d keys result → (k : ℕ) → Mem k result ↔ Mem k keys
same d keys result t b r k = (r.least keys t (λ _ m. m) b k, r.contains k)

-- in Z order, the very same column
pub same_keys : (d : ℕ) (keys : List ℕ) → TreeKeys d keys → Balanced d keys → balanced_cells d keys ≡ keys
same_keys d keys k b =
    let t = tree_of d keys k in
    same-list d (balanced_cells d keys) keys (ascending-depth-first d keys t) (ascend-facts d keys k.ascend) (same d keys (balanced_cells d keys) t b (balances-depth-first d keys t))

-- no cell is deeper than the deepest that was given
pub no_deeper : (d : ℕ) (keys result : List ℕ) → Tree d keys → Balances d keys result → (k : ℕ) → Mem k result → (p : ℕ) × Mem p keys × (level_of k ≤ level_of p)
no_deeper d keys result t r k m = go (dec_lt 0 (level_of k))
  where
    go : Dec (0 < level_of k) → (p : ℕ) × Mem p keys × (level_of k ≤ level_of p)
    go (yes h) =
        let listed = depth-first d keys t in
        let b = wanted-deep d keys t k ((listed k).0 ((only d keys result (balanced_cells d keys) r (balances-depth-first d keys t) k).0 m)) h in
        let (p, mp, l) = must-level d keys t (parent d k) b.must in
        (p, mp, omega (arith, level-parent d k))
    go (no n) = (0, t.root, omega arith)

-- so the depth stays what it was
pub as-deep : (d : ℕ) (keys result : List ℕ) → Tree d keys → Balances d keys result → depth_of result ≡ depth_of keys
as-deep d keys result t r =
    omega (arith, greatest-le result (greatest_level keys) (λ i l. down (get_or result i 0) (i, l, refl)), greatest-le keys (greatest_level result) (λ i l. level result (get_or keys i 0) (r.contains (get_or keys i 0) (i, l, refl))))
  where
    level : (xs : List ℕ) (k : ℕ) → Mem k xs → level_of k ≤ greatest_level xs
    level xs k (i, l, e) = subst (λ (j : ℕ). level_of j ≤ greatest_level xs) e (level-greatest xs i l)

    down : (k : ℕ) → Mem k result → level_of k ≤ greatest_level keys
    down k m = let (p, mp, h) = no_deeper d keys result t r k m in omega (arith, h, level keys p mp)

-- ---- it has the fewest cells

other-than : ℕ → ℕ → Bool
other-than x y = not (eqb y x)

fewer : (x : ℕ) (ys : List ℕ) → Mem x ys → suc (count (other-than x) ys) ≤ length ys
unfolding other-than
fewer x ys (i, l, e) =
    omega (arith, length-count ys, count_add (λ _. true) (λ y. eqb y x) (other-than x) ys (λ y m. one (eqb y x)), count-pos (λ y. eqb y x) ys i l (eq-eqb (get_or ys i 0) x e))
  where
    one : (b : Bool) → bit true ≡ bit b + bit (not b)
    one true = refl
    one false = refl

-- no list without repeats is longer than one that contains it
pub shorter : (xs ys : List ℕ) → Distinct xs → Contains xs ys → length xs ≤ length ys
unfolding other-than
shorter [] ys dist c = omega arith
shorter (x ∷ xs) ys dist c =
    omega (arith, shorter xs (filter (other-than x) ys) (distinct-rest x xs dist) rest, length-filter (other-than x) ys, fewer x ys (c x (here x xs)))
  where
    rest : Contains xs (filter (other-than x) ys)
    rest k m = filter-mem (other-than x) ys k (c k (there x k xs m)) (unfold other-than in rw (ne_eqb k x (λ e. distinct_head x xs dist (subst (λ (y : ℕ). Mem y xs) e m))))

pub fewest : (d : ℕ) (keys result other : List ℕ) → Balances d keys result → Distinct result → Tree d other → Contains keys other → Balanced d other → length result ≤ length other
fewest d keys result other r dist t c b = shorter result other dist (r.least other t c b)

pub fewest-depth-first : (d : ℕ) (keys other : List ℕ) → Tree d keys → Tree d other → Contains keys other → Balanced d other → length (balanced_cells d keys) ≤ length other
fewest-depth-first d keys other t = fewest d keys (balanced_cells d keys) other (balances-depth-first d keys t) (distinct-depth-first d keys t)
