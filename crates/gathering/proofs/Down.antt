-- The way from the root down to a key, each cell found or put.
use mathlib.Core.Path.{◌≡◌, refl, sym, ap, ◌∙◌, subst}
use mathlib.Core.List.{List}
use mathlib.Core.Logic.{◌⊎◌, inl, inr}
use Prim.Native.Nat.{ℕ, suc, ◌+◌, ◌-◌, ◌≤◌, ◌<◌}
use native.Mathlib.Omega.{arith}
use native.Mathlib.Nat.{eq-or-lt_of_le}
use native.Mathlib.Numerals.{add-one}
use native.Mathlib.Decide.{dec_lt}
use lib.ListN.{length, get_or}
use Rattle.slices.specs.Lists.{Mem}
use Rattle.morton.specs.Keys.{level_of, ValidKey, ancestors}
use Rattle.morton.proofs.Cells.{at_self, parent-at, level_begins}
use Rattle.tree.specs.Nodes.{cell_at}
use Rattle.gathering.specs.Links.{Linked, Below, Walkable, Roomy, Stepped, PutAll}
use Rattle.gathering.proofs.Cells.{root-cell, cell-up}

-- n nodes, of which those from `nodes` on were put on the way; node p is the cell of level l
pub record Down (d room nodes k : ℕ) (key₀ key child next : List ℕ) (n p l : ℕ) : Type 0 where
  pub linked : Linked d n key child next
  pub fits : Roomy room n key child next
  pub more : nodes ≤ n
  pub old : (q : ℕ) → q < nodes → get_or key q 0 ≡ get_or key₀ q 0
  pub new : (q : ℕ) → nodes ≤ q → q < n → Mem (get_or key q 0) (ancestors d k)
  pub node : p < n
  pub at : get_or key p 0 ≡ cell_at d l k
  pub depth : l ≤ level_of k

pub down-start : (d room nodes k : ℕ) (key child next : List ℕ) → ValidKey d k → Linked d nodes key child next → Roomy room nodes key child next → Down d room nodes k key key child next nodes 0 0
down-start d room nodes k key child next v s r = record {
  linked = s;
  fits = r;
  more = omega arith;
  old = λ q l. refl;
  new = λ q l h. absurd (omega arith);
  node = s.some;
  at = s.root ∙ sym (root-cell d k v);
  depth = omega arith;
}

module _ (d room nodes k : ℕ) (key₀ key child next : List ℕ) (n p l : ℕ) (s : Down d room nodes k key₀ key child next n p l) where
  module _ (c : ℕ) (h : l < level_of k) (e : c ≡ cell_at d (l + 1) k) where
    e' : c ≡ cell_at d (suc l) k
    e' = e ∙ ap (λ x. cell_at d x k) (add-one l)

    pub down-below : Below d n key p c
    down-below = record {
      node = s.node;
      up = ap (Rattle.morton.specs.Keys.parent d) e' ∙ parent-at d l k h ∙ sym s.at;
      level = let f : level_of c ≡ suc l = ap level_of e' ∙ level_begins d (suc l) k h in omega arith;
    }

    pub down-walk : Walkable key child next p c
    down-walk = record { d = d; n = n; linked = s.linked; below = down-below }

    cell_in : Mem c (ancestors d k)
    cell_in = subst (λ x. Mem x (ancestors d k)) (sym e') (cell-up d k (level_of k - suc l) (suc l) (omega arith))

    module _ (key' child' next' : List ℕ) (r : ℕ) (t : Stepped d room n key child next c key' child' next' r) where
      old : (q : ℕ) → q < nodes → get_or key' q 0 ≡ get_or key₀ q 0
      old q g = t.old q (omega (arith, s.more)) ∙ s.old q g

      new : (q : ℕ) → nodes ≤ q → q < n → Mem (get_or key' q 0) (ancestors d k)
      new q a g = subst (λ x. Mem x (ancestors d k)) (sym (t.old q g)) (s.new q a g)

      module _ (lk : length key' ≡ length key) (lc : length child' ≡ length child) (ln : length next' ≡ length next) where
        pub down-found : (r ≡ n → ⊥) → Down d room nodes k key₀ key' child' next' n r (l + 1)
        down-found ne =
            let f : r < n = less (eq-or-lt_of_le t.most) in
            record {
              linked = (t.found f).0;
              fits = record { within = s.fits.within; keys = omega (arith, s.fits.keys); childs = omega (arith, s.fits.childs); nexts = omega (arith, s.fits.nexts) };
              more = s.more;
              old = old;
              new = new;
              node = f;
              at = (t.found f).1 ∙ e;
              depth = omega arith;
            }
          where
            less : (r ≡ n) ⊎ (r < n) → r < n
            less (inl z) = absurd (ne z)
            less (inr z) = z

        pub down-put : r ≡ n → n < room → Down d room nodes k key₀ key' child' next' (n + 1) r (l + 1)
        down-put z g =
            let u = t.put z g in
            record {
              linked = subst (λ x. Linked d x key' child' next') (sym (add-one n)) u.0;
              fits = record { within = omega arith; keys = omega (arith, s.fits.keys); childs = omega (arith, s.fits.childs); nexts = omega (arith, s.fits.nexts) };
              more = omega (arith, s.more);
              old = old;
              new = λ q a b. newer q a (dec_lt q n) b;
              node = omega arith;
              at = ap (λ x. get_or key' x 0) z ∙ u.1 ∙ e;
              depth = omega arith;
            }
          where
            newer : (q : ℕ) → nodes ≤ q → Dec (q < n) → q < n + 1 → Mem (get_or key' q 0) (ancestors d k)
            newer q a (yes f) b = new q a f
            newer q a (no f) b = let w : q ≡ n = omega arith in subst (λ x. Mem x (ancestors d k)) (sym (ap (λ x. get_or key' x 0) w ∙ (t.put z g).1)) cell_in

      pub down-short : r ≡ n → room ≤ n → PutAll d room nodes k key₀ key' child' next' (room + 1)
      down-short z g =
          let w : n ≡ room = omega (arith, s.fits.within) in
          record {
            old = old;
            fits = λ f. absurd (omega arith);
            short = λ f. (
              omega arith,
              omega (arith, s.more),
              subst (λ x. Linked d x key' child' next') w (t.full z g),
              λ q a b. new q a (omega arith),
              (c, cell_in, λ q b. t.absent z q (omega arith)),
            );
          }

  pub down-done : level_of k ≤ l → PutAll d room nodes k key₀ key child next n
  down-done g =
      let w : l ≡ level_of k = omega (arith, s.depth) in
      record {
        old = s.old;
        fits = λ f. (s.more, s.linked, s.new, (p, s.node, s.at ∙ ap (λ x. cell_at d x k) w ∙ at_self d k));
        short = λ f. absurd (omega (arith, s.fits.within));
      }
