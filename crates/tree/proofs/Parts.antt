-- A leaf's part of the order column, case by case.
use mathlib.Core.Path.{◌≡◌, refl, sym, ap, ◌∙◌}
use mathlib.Core.Bool.{Bool, true, false, ◌&&◌, cond}
use mathlib.Core.List.{List, []}
use Prim.Native.Nat.{ℕ, ◌+◌, ◌-◌, ◌≤◌, ◌<◌}
use native.Mathlib.Omega.{arith}
use lib.Dec.{ltb, leb}
use lib.ListN.{length, get_or, take, drop}
use borrow.Author.Tests.{ltb-true, leb-true, lt-ltb, le-leb}
use Rattle.slices.proofs.Tests.{and_l, and_r, both, refute}
use Rattle.tree.specs.Sources.{has_part, leaf_sources}

module _ (own begin order : List ℕ) (node : ℕ) where
  empty : (has_part own begin order node ≡ true → ⊥) → [] ≡ leaf_sources own begin order node
  unfolding leaf_sources
  empty h = sym (ap (λ b. cond b (take (get_or own node 0) (drop (get_or begin node 0) order)) []) (refute h))

  both-columns : has_part own begin order node ≡ true → (ltb node (length own) && ltb node (length begin)) ≡ true
  both-columns h = and_l _ _ h

  pub no_own : length own ≤ node → [] ≡ leaf_sources own begin order node
  no_own l = empty (λ h. omega (arith, ltb-true node (length own) (and_l _ _ (both-columns h))))

  pub no-begin : length begin ≤ node → [] ≡ leaf_sources own begin order node
  no-begin l = empty (λ h. omega (arith, ltb-true node (length begin) (and_r (ltb node (length own)) _ (both-columns h))))

  pub no_room : length order < get_or begin node 0 + get_or own node 0 → [] ≡ leaf_sources own begin order node
  no_room l = empty (λ h. omega (arith, leb-true (get_or begin node 0 + get_or own node 0) (length order) (and_r (ltb node (length own) && ltb node (length begin)) _ h)))

  pub whole : node < length own → node < length begin → get_or begin node 0 + get_or own node 0 ≤ length order
      → take ((get_or begin node 0 + get_or own node 0) - get_or begin node 0) (drop (get_or begin node 0) order) ≡ leaf_sources own begin order node
  unfolding leaf_sources
  whole a b l =
      let e : (get_or begin node 0 + get_or own node 0) - get_or begin node 0 ≡ get_or own node 0 = omega arith in
      rw (both (both (lt-ltb node (length own) a) (lt-ltb node (length begin) b)) (le-leb (get_or begin node 0 + get_or own node 0) (length order) l), e)
