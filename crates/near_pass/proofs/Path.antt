-- The sums kept along the path from one node to the next.
use mathlib.Core.Path.{◌≡◌, refl, sym, ap, ◌∙◌, subst}
use mathlib.Core.Bool.{true, false}
use mathlib.Core.List.{List}
use Prim.Native.Nat.{ℕ, suc, ◌+◌, ◌-◌, ◌≤◌, ◌<◌}
use native.Mathlib.Omega.{arith}
use native.Mathlib.Numerals.{add-one}
use native.Mathlib.Decide.{dec_lt}
use lib.Dec.{ltb}
use lib.ListN.{length, get_or, set, length-set}
use lib.Seq.{get_or-set_same, get_or-set_other}
use borrow.Author.Tests.{ltb-true, lt-ltb}
use Rattle.slices.specs.Lists.{sum}
use Rattle.slices.proofs.Tests.{and_r, both}
use Rattle.morton.specs.Keys.{level_of, parent, under}
use Rattle.morton.proofs.Cells.{at_self, level-parent}
use Rattle.tree.specs.Nodes.{cell_at}
use Rattle.tree.specs.WellFormed.{SoundTree}
use Rattle.tree.proofs.Laws.{first-child}
use Rattle.tree.proofs.Ranges.{parent-under, level-pos}
use Rattle.tree.proofs.Sourced.{under-facts}
use Rattle.links.specs.Links.{inner}
use Rattle.around.proofs.Nodes.{well, tree_of, node-valid}
use Rattle.node_rows.specs.Near.{near_entries}
use Rattle.node_rows.proofs.Stacks.{same_above, parent_above}
use Rattle.node_rows.proofs.Nodes.{node-deep, inner-less}
use Rattle.near_pass.specs.Sums.{kept_sources, PathSums, SumsFor}
use Rattle.near_pass.proofs.Near.{kept-root, kept-down}

module _ (d : ℕ) (keys own sums : List ℕ) where
  -- the path to a cell holds the path to each cell above it
  path-above : (p q : ℕ) → PathSums d keys own p sums → under d q p ≡ true → PathSums d keys own q sums
  path-above p q s u = record { room = s.room; at = λ l h. s.at l (omega (arith, (under-facts d q p u).level)) ∙ ap (kept_sources d keys own) (same_above d q p l u h) }

  module _ (t : SoundTree d keys own) (i : ℕ) (l : i < length keys) where
    on : SumsFor d keys own (suc i) sums → SumsFor d keys own (i + 1) sums
    on r = subst (λ n. SumsFor d keys own n sums) (sym (add-one i)) r

    pub sums-child : inner keys i ≡ true → PathSums d keys own (get_or keys i 0) sums → SumsFor d keys own (i + 1) sums
    sums-child h s = on (λ k.
        let deep = ltb-true (level_of (get_or keys i 0)) (level_of (get_or keys (suc i) 0)) (and_r (ltb (suc i) (length keys)) _ h) in
        subst (λ x. PathSums d keys own x sums) (sym (first-child d keys (tree_of d keys own t) i k deep)) s)

    pub sums-after : inner keys i ≡ false → 0 < i → SumsFor d keys own i sums → SumsFor d keys own (i + 1) sums
    sums-after h z s = on (λ k. path-above (parent d (get_or keys i 0)) (parent d (get_or keys (suc i) 0)) (s l) (parent_above d keys own sums sums t i l h z k))

  -- the root: nothing is kept for it
  pub sums-root : SoundTree d keys own → 16 ≤ length sums → get_or sums 0 0 ≡ 0 → SumsFor d keys own 1 sums
  sums-root t room zero k =
      let w = (well d keys own t).ascending in
      let deep : level_of (get_or keys 0 0) < level_of (get_or keys 1 0) = omega (arith, level-pos d keys w 1 (omega arith) k, ap level_of w.root) in
      sums-child t 0 (omega arith) (both (lt-ltb 1 (length keys) k) (lt-ltb (level_of (get_or keys 0 0)) (level_of (get_or keys 1 0)) deep))
      (subst (λ x. PathSums d keys own x sums) (sym w.root) root) k
    where
      root : PathSums d keys own 0 sums
      root = record {
        room = room;
        at = λ l h.
            let z : 0 ≡ l = omega arith in
            subst (λ n. get_or sums n 0 ≡ kept_sources d keys own (cell_at d n 0)) z (zero ∙ sym (ap (kept_sources d keys own) (at_self d 0) ∙ kept-root d keys own t));
      }

-- one level down, to a node with children
module _ (d : ℕ) (keys own : List ℕ) (t : SoundTree d keys own) (i : ℕ) (pos : 0 < i) (l : i < length keys) (sums : List ℕ) (s : SumsFor d keys own i sums) where
  q : ℕ
  q = get_or keys i 0

  deep : 0 < level_of q
  unfolding q
  deep = node-deep d keys own t i pos l

  -- what stands for the parent
  pub sums-above : get_or sums (level_of (get_or keys i 0) - 1) 0 ≡ kept_sources d keys own (parent d (get_or keys i 0))
  sums-above =
      let e : level_of (get_or keys i 0) - 1 ≡ level_of (parent d (get_or keys i 0)) = sym (level-parent d (get_or keys i 0)) in
      (s l).at (level_of (get_or keys i 0) - 1) (omega (arith, e)) ∙ ap (kept_sources d keys own) (ap (λ n. cell_at d n (parent d (get_or keys i 0))) e ∙ at_self d (parent d (get_or keys i 0)))

  pub sums-down : inner keys i ≡ true → (n : ℕ) → n ≡ get_or sums (level_of (get_or keys i 0) - 1) 0 + sum (near_entries d keys own (get_or keys i 0) own)
      → SumsFor d keys own (i + 1) (set sums (level_of (get_or keys i 0)) n)
  unfolding q deep
  sums-down h n e = sums-child d keys own (set sums (level_of (get_or keys i 0)) n) t i l h (record { room = omega (arith, length-set sums (level_of q) n, (s l).room); at = λ j k. go j k (dec_lt j (level_of q)) })
    where
      less : level_of q < 16
      less = inner-less d keys own t i pos l h

      go : (j : ℕ) → j ≤ level_of q → Dec (j < level_of q) → get_or (set sums (level_of q) n) j 0 ≡ kept_sources d keys own (cell_at d j q)
      go j k (yes b) =
          let lp : j ≤ level_of (parent d q) = omega (arith, level-parent d q) in
          get_or-set_other sums (level_of q) j n 0 (λ z. omega arith) ∙ (s l).at j lp
          ∙ ap (kept_sources d keys own) (sym (same_above d (parent d q) q j (parent-under d q deep) lp))
      go j k (no b) =
          let z : level_of q ≡ j = omega arith in
          subst (λ x. get_or (set sums (level_of q) n) x 0 ≡ kept_sources d keys own (cell_at d x q)) z
          (get_or-set_same sums (level_of q) n 0 (omega (arith, less, (s l).room)) ∙ e ∙ ap (λ x. x + sum (near_entries d keys own q own)) sums-above
          ∙ sym (kept-down d keys own t (parent d q) q (node-valid d keys own t i l) deep refl) ∙ ap (kept_sources d keys own) (sym (at_self d q)))
