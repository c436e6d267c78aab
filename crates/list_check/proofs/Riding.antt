-- Numbers that ride on the path from the root: in a pass over the nodes, one for each level, that of the node before or its ancestor.
use mathlib.Core.Path.{◌≡◌, sym, ap, ◌∙◌, subst}
use mathlib.Core.Bool.{true}
use mathlib.Core.List.{List}
use mathlib.Core.Logic.{⊎_elim}
use Prim.Native.Nat.{ℕ, suc, ◌+◌, ◌-◌, ◌≤◌, ◌<◌}
use native.Mathlib.Omega.{arith}
use lib.ListN.{length, get_or, set, replicate, length-replicate, length-set}
use lib.Seq.{get_or-set_same, get_or-set_other}
use Rattle.slices.proofs.Tests.{lt-or-le}
use Rattle.morton.specs.Keys.{level_of, parent, under}
use Rattle.morton.proofs.Cells.{level-parent}
use Rattle.tree.proofs.Rules as Rules
use Rattle.tree.proofs.Rules.{rows_of}
use Rattle.tree.proofs.Laws.{parent-holds}
use Rattle.tree.proofs.Ranges.{nested, same-level, parent-under, level-pos, level-le}
use Rattle.tree.proofs.Sourced.{under-facts, under-trans}

module _ (d : ℕ) (keys : List ℕ) (value : ℕ → ℕ) where
  -- i nodes were passed
  pub record Rides (numbers : List ℕ) (i : ℕ) : Type 0 where
    pub size : length numbers ≡ 17
    pub path : (a : ℕ) → under d a (get_or keys (i - 1) 0) ≡ true → get_or numbers (level_of a) 0 ≡ value a

  module _ (own begin : List ℕ) (w : Rules.WellFormed d keys own begin) where
    -- the root's alone
    pub ride-start : value 0 ≡ 0 → Rides (replicate 17 0) 1
    ride-start none = record {
      size = length-replicate {A = ℕ} 17 0;
      path = λ a u. start a (subst (λ x. under d a x ≡ true) w.ascending.root u);
    }
      where
        start : (a : ℕ) → under d a 0 ≡ true → get_or (replicate 17 0) (level_of a) 0 ≡ value a
        start a u =
            let z : level_of a ≡ 0 = omega (arith, (under-facts d a 0 u).level) in
            let e : 0 ≡ a = same-level d a 0 u (omega arith) in
            ap (λ n. get_or (replicate 17 0) n 0) z ∙ sym (ap value (sym e) ∙ none)

    module _ (i : ℕ) (some : 0 < i) (l : i < length keys) where
      abbrev k : ℕ
      k = get_or keys i 0

      pub ride-deep : 0 < level_of k
      ride-deep = level-pos d keys w.ascending i some l

      last : suc (i - 1) ≡ i
      last = omega arith

      -- its parent holds the node before
      over : under d (parent d k) (get_or keys (i - 1) 0) ≡ true
      over = subst (λ n. under d (parent d (get_or keys n 0)) (get_or keys (i - 1) 0) ≡ true) last (parent-holds d keys (rows_of d keys own begin w).tree (i - 1) (omega arith))

      module _ (numbers : List ℕ) (r : Rides numbers i) where
        pub ride-in : level_of k < length numbers
        ride-in = omega (arith, level-le d keys w.ascending i l, r.size)

        pub ride-above : get_or numbers (level_of k - 1) 0 ≡ value (parent d k)
        ride-above = ap (λ n. get_or numbers n 0) (sym (level-parent d k)) ∙ r.path (parent d k) over

        pub ride-more : (x : ℕ) → x ≡ value k → Rides (set numbers (level_of k) x) (i + 1)
        ride-more x is = record {
          size = length-set numbers (level_of k) x ∙ r.size;
          path = λ a u. by_level a (subst (λ n. under d a (get_or keys n 0) ≡ true) (let z : (i + 1) - 1 ≡ i = omega arith in z) u);
        }
          where
            by_level : (a : ℕ) → under d a k ≡ true → get_or (set numbers (level_of k) x) (level_of a) 0 ≡ value a
            by_level a u = ⊎_elim
                (λ (z : level_of a < level_of k). get_or-set_other numbers (level_of k) (level_of a) x 0 (λ q. omega arith)
                ∙ r.path a (under-trans d a (parent d k) (get_or keys (i - 1) 0) (nested d a (parent d k) k (level-le d keys w.ascending i l) (omega (arith, level-parent d k)) u (parent-under d k ride-deep)) over))
                (λ (z : level_of k ≤ level_of a).
                let same : k ≡ a = same-level d a k u z in
                subst (λ y. get_or (set numbers (level_of k) x) (level_of y) 0 ≡ value y) same (get_or-set_same numbers (level_of k) x 0 ride-in ∙ is))
                (lt-or-le (level_of a) (level_of k))
