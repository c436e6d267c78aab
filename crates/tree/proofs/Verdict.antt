-- The well-formed rule at the axes, the lengths, the first row and the rows: each test that fails decides.
use mathlib.Core.Path.{◌≡◌, refl, sym, ap, ◌∙◌}
use mathlib.Core.Bool.{Bool, true, false, ◌&&◌}
use mathlib.Core.List.{List}
use Prim.Native.Nat.{ℕ, ◌<◌}
use native.Mathlib.Omega.{arith}
use lib.ListN.{length, get_or, take}
use Rattle.slices.specs.Lists.{sum}
use Rattle.slices.proofs.Tests.{and_l, and_r, clash, refute}
use Rattle.morton.specs.Keys.{axes_known}
use Rattle.tree.specs.Totals.{total_in}
use Rattle.tree.specs.WellFormed.{totals_right}
use Rattle.tree.specs.WellFormed.{keys_ascend, formed, well_formed}
use Rattle.tree.specs.Pass.{rows_right}
use Rattle.tree.proofs.Rules.{Formed, all-facts, total-facts, facts-ascend}
use Rattle.tree.proofs.Follow.{root-no-leaf}
use Rattle.tree.proofs.Pass.{facts-rows}

module _ (d : ℕ) (keys own begin total : List ℕ) where
  abbrev verdict : Bool
  verdict = axes_known d && well_formed d keys own begin total

  no : (verdict ≡ true → ⊥) → false ≡ verdict
  no f = sym (refute f)

  w : verdict ≡ true → Formed d keys own begin total
  w h = all-facts d keys own begin total (and_r (axes_known d) _ h)

  pub other-axes : axes_known d ≡ false → false ≡ verdict
  other-axes e = no (λ h. clash (and_l _ _ h) e)

  pub other-own : (length own ≡ length keys → ⊥) → false ≡ verdict
  other-own n = no (λ h. n (w h).owns)

  pub other-begin : (length begin ≡ length keys → ⊥) → false ≡ verdict
  other-begin n = no (λ h. n (w h).begins)

  pub other-total : (length total ≡ length keys → ⊥) → false ≡ verdict
  other-total n = no (λ h. n (w h).totals)

  pub no-nodes : length keys < 1 → false ≡ verdict
  no-nodes l = no (λ h. omega (arith, (w h).some))

  pub other-root : (get_or keys 0 0 ≡ 0 → ⊥) → false ≡ verdict
  other-root n = no (λ h. n (w h).rows.tree.ascending.root)

  pub root-owns : (get_or own 0 0 ≡ 0 → ⊥) → false ≡ verdict
  root-owns n = no (λ h. n ((w h).rows.inner 0 (w h).some (root-no-leaf d keys own (w h).rows.tree)))

  pub other-first : (get_or begin 0 0 ≡ 0 → ⊥) → false ≡ verdict
  unfolding sum
  other-first n = no (λ h. n ((w h).rows.runs 0 (w h).some))

  pub other-rows : rows_right d keys own begin ≡ false → false ≡ verdict
  other-rows e = no (λ h. clash (facts-rows d keys own begin (w h).owns (w h).rows) e)

  pub by-totals : (r : Bool) → axes_known d ≡ true → r ≡ well_formed d keys own begin total → r ≡ verdict
  by-totals r a e = e ∙ rw a

  -- what a caller has once the verdict is true
  pub formed-of : well_formed d keys own begin total ≡ true → formed d keys own begin ≡ true
  unfolding well_formed
  formed-of h = and_l _ _ h

  pub totals-of : well_formed d keys own begin total ≡ true → totals_right d keys own total ≡ true
  unfolding well_formed
  totals-of h = and_r (formed d keys own begin) _ h

  pub total-at : totals_right d keys own total ≡ true → (i : ℕ) → i < length keys → get_or total i 0 ≡ total_in d keys own (get_or keys i 0)
  total-at h = (total-facts d keys own total h).1

  pub total-length : totals_right d keys own total ≡ true → length total ≡ length keys
  total-length h = (total-facts d keys own total h).0

  pub keys_of : well_formed d keys own begin total ≡ true → keys_ascend d keys ≡ true
  keys_of h = facts-ascend d keys (all-facts d keys own begin total h).rows.tree.ascending
