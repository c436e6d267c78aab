-- From the checks to the columns: the cells put, and the slices at the end.
use mathlib.Core.Path.{◌≡◌, refl, sym, ap, ap₂, ◌∙◌, subst}
use mathlib.Core.Bool.{Bool, true, false}
use mathlib.Core.List.{List, ◌++◌}
use Prim.Native.Nat.{ℕ, ◌+◌, ◌*◌, ◌-◌, ◌^◌, ◌≤◌, ◌<◌, min}
use native.Mathlib.Omega.{arith}
use native.Mathlib.Nat.{div-eq_of_lt}
use lib.Dec.{leb}
use lib.Ieee.{Float}
use lib.ListN.{length, get_or, take, replicate}
use borrow.Author.Tests.{le-leb, lt-leb}
use Rattle.refusal.specs.declared.Refusal.{Refusal}
use Rattle.refusal.specs.declared.Refusal.TheVariants.{Room}
use Rattle.refusal.specs.Left.{left}
use Rattle.slices.specs.Lists.{any, Mem, filled}
use Rattle.slices.specs.Every.{every}
use Rattle.slices.proofs.Tests.{and_l}
use Rattle.slices.proofs.Every.{every-at}
use Rattle.slices.proofs.Lists.{cleared-filled}
use Rattle.morton.specs.Keys.{key, level_of, code_of, ValidKey}
use Rattle.space.specs.declared.Box.{Box}
use Rattle.space.specs.Cells.{frame_of}
use Rattle.space.specs.Rows.{rows_of}
use Rattle.space.proofs.Batches.{codes-length}
use Rattle.laying.specs.Points.{codes_of}
use Rattle.tree.specs.Columns.{Columns, columns}
use Rattle.tree.specs.Finding.{TreeKeys}
use Rattle.tree.specs.Nodes.{cell_at, leaf}
use Rattle.tree.specs.Leaves.{held, leaf_key}
use Rattle.lookup.proofs.Leaves.{held-leaf}
use Rattle.full.specs.Full.{Full}
use Rattle.balance.specs.Balance.{Tree}
use Rattle.balance.specs.Splitting.{split, balanced_cells}
use Rattle.balance.proofs.Balance.{tree_of}
use Rattle.balance.proofs.Columns.{balanced-once}
use Rattle.balance.proofs.Ordered.{keys-depth-first}
use Rattle.balance.proofs.Stored.{splits, leaf-facts, deep}
use Rattle.balance.proofs.Stored as S
use Rattle.balancing.specs.Walk.{Put}
use Rattle.settling.specs.Settled.{Settles}
use Rattle.balanced.specs.Given.{is_given}
use Rattle.balanced.specs.Outcomes.{given_check, new_keys, balance_outcome, Started}
use Rattle.growth.specs.declared.Grown.{Grown}
use Rattle.growth.specs.Grown.{grown}
use Rattle.refusal.specs.Chain.{◌then◌}
use Rattle.refusal.proofs.Chain.{after-done}
use Rattle.tree.specs.Order.{depth_of}
use Rattle.balanced.proofs.Tests.{codes-lt}
use Rattle.balanced.proofs.Verdict.{Passed, passed}
use Rattle.refusal.specs.Outcome.{Answer, Outcome, accepted}
use Rattle.std.specs.Prelude.{Err, Ok}

-- the root is split if a leaf is stored
root-cell : (d k : ℕ) → ValidKey d k → cell_at d 0 k ≡ 0
root-cell d k v =
    let e : level_of k - 0 ≡ level_of k = omega arith in
    let h : code_of k < 2 ^ (d * (level_of k - 0)) = rw e v.code in
    ap (key 0) (div-eq_of_lt h)

root-above : (d : ℕ) (keys : List ℕ) → Tree d keys → (k : ℕ) → leaf d keys k ≡ true → split d keys 0 ≡ true
root-above d keys t k lf =
    let f = leaf-facts d keys k lf in
    S.split-over d keys t 0 k (root-cell d k (t.sound k f.mem)) f.mem (deep d keys t k f.mem f.below)

module _ (b : Box) (points : List Float) (keys own begin total order : List ℕ) (ok : given_check b points (columns keys own begin total) order ≡ accepted) where
  p : Passed b points keys own begin total order
  p = passed b points keys own begin total order ok

  first-held : 0 < length (codes_of b points) → is_given b.axes keys own order (codes_of b points) ≡ true → held b.axes keys (get_or (codes_of b points) 0 0) ≡ true
  unfolding is_given
  first-held l h = every-at (λ i. held b.axes keys (get_or (codes_of b points) i 0)) (length (codes_of b points)) (and_l _ _ h) 0 l

  top : 0 < length (codes_of b points) → split b.axes keys 0 ≡ true
  top l = root-above b.axes keys (tree_of b.axes keys p.tree) (leaf_key b.axes keys (get_or (codes_of b points) 0 0)) (held-leaf b.axes keys p.tree (get_or (codes_of b points) 0 0) (first-held l p.given))

  pub keys-known : TreeKeys b.axes keys
  keys-known = p.tree

  pub checked : (1 ≤ b.axes) × (rows_of b points ≤ 1048576)
  checked = (p.box.least, p.few)

  pub settles : Settles b points (balanced_cells b.axes keys)
  settles = record {
    some = p.box.least;
    most = p.box.most;
    tree = keys-depth-first b.axes keys (tree_of b.axes keys p.tree);
    inside = p.inside;
    few = p.few;
    once = balanced-once b.axes keys (codes_of b points) (tree_of b.axes keys p.tree) top (codes-lt b points);
  }

  module _ (work places room : ℕ) where
    pub short-work : work < rows_of b points + rows_of b points → Err (Room 1) ≡ balance_outcome b points (columns keys own begin total) order work places room
    unfolding balance_outcome
    short-work h = rw (ok, lt-leb (rows_of b points + rows_of b points) work h)

    module _ (w : rows_of b points + rows_of b points ≤ work) where
      pub short-order : places < rows_of b points → Err (Room 2) ≡ balance_outcome b points (columns keys own begin total) order work places room
      unfolding balance_outcome
      short-order h = rw (ok, le-leb (rows_of b points + rows_of b points) work w, lt-leb (rows_of b points) places h)

      module _ (o : rows_of b points ≤ places) (n : ℕ) (key : List ℕ) (c : Put b.axes keys room n key) where
        pub short-nodes : room < n → Err (Room 3) ≡ balance_outcome b points (columns keys own begin total) order work places room
        unfolding balance_outcome
        short-nodes h = rw (ok, le-leb (rows_of b points + rows_of b points) work w, le-leb (rows_of b points) places o, lt-leb (length (balanced_cells b.axes keys)) room (omega (arith, c.counted)))

        pub all-put : n ≤ room → accepted ≡ balance_outcome b points (columns keys own begin total) order work places room
        unfolding balance_outcome
        all-put h = rw (ok, le-leb (rows_of b points + rows_of b points) work w, le-leb (rows_of b points) places o, le-leb (length (balanced_cells b.axes keys)) room (omega (arith, c.counted)))

        pub started : n ≤ room → Started b points (columns keys own begin total) order work places room n key
        started h = record {
          fits = h;
          number = omega (arith, c.counted);
          cells = c.written h;
          works = omega arith;
          orders = o;
          settles = settles;
        }

pub given-refused : (b : Box) (points : List Float) (t : Columns) (order : List ℕ) (work places room : ℕ) (r : Refusal) → given_check b points t order ≡ Err r → Err r ≡ balance_outcome b points t order work places room
unfolding balance_outcome
given-refused b points t order work places room r e = rw e

-- ---- the slices at the end

pub left-refused : (o : Outcome) (x : Refusal) → o ≡ Err x → (n : ℕ) (xs ys : List ℕ) → ys ≡ replicate n 0 → ys ≡ left o n xs
left-refused o x z n xs ys e = e ∙ sym (ap (λ (p : Outcome). left p n xs) z)

pub left-done : (o : Outcome) → o ≡ accepted → (n : ℕ) (xs zs ys : List ℕ) → zs ≡ xs → ys ≡ filled n zs → ys ≡ left o n xs
left-done o z n xs zs ys q e = e ∙ ap (filled n) q ∙ sym (ap (λ (p : Outcome). left p n xs) z)

pub left-keys : (o : Outcome) → o ≡ accepted → (m n : ℕ) (xs key ys : List ℕ) → n ≡ length xs → take n key ≡ xs → length key ≡ m → ys ≡ take n key ++ replicate (length key - n) 0 → ys ≡ left o m xs
left-keys o z m n xs key ys e q k h =
    h ∙ ap (λ (zs : List ℕ). zs ++ replicate (length key - n) 0) q ∙ ap (λ (i : ℕ). xs ++ replicate (i - n) 0) k ∙ ap (λ (i : ℕ). xs ++ replicate (m - i) 0) e
    ∙ sym (ap (λ (p : Outcome). left p m xs) z)

pub answer-done : (o : Outcome) → o ≡ accepted → (n depth : ℕ) (xs zs : List ℕ) → n ≡ length xs → zs ≡ xs → depth ≡ depth_of zs → Ok (record { nodes = n; depth = depth }) ≡ o then Ok (grown xs)
answer-done o z n depth xs zs e q h = ap₂ tree e (h ∙ ap depth_of q) ∙ sym (after-done o (Ok (grown xs)) z)
  where
    tree : ℕ → ℕ → Answer Grown
    tree n depth = Ok (record { nodes = n; depth = depth })
