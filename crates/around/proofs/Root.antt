-- What is near the root: the root itself, if it is sourced; and no owner is kept for it.
use mathlib.Core.Path.{◌≡◌, refl, sym, ap, ◌∙◌, subst}
use mathlib.Core.Bool.{Bool, true, false, ◌&&◌}
use mathlib.Core.List.{List, [], ◌∷◌, ◌++◌}
use Prim.Native.Nat.{ℕ, ◌≤◌, ◌<◌}
use native.Mathlib.Omega.{arith}
use lib.Dec.{ltb, eqb}
use lib.ListN.{length, get_or}
use lib.Seq.{take-suc}
use borrow.Author.Tests.{ltb-true, eqb-true, lt-ltb, le-ltb, eq-eqb}
use Rattle.slices.specs.Lists.{count, filter, range}
use Rattle.slices.proofs.Tests.{and_l, and_r, both, clash, refute}
use Rattle.slices.proofs.Counts.{count-zero}
use Rattle.slices.proofs.Rows.{count-filter}
use Rattle.morton.specs.Keys.{level_of, code_of}
use Rattle.morton.specs.Anchors.{near}
use Rattle.tree.specs.Nodes.{own_of, sourced}
use Rattle.tree.specs.WellFormed.{totals_right}
use Rattle.tree.specs.WellFormed.{SoundTree}
use Rattle.tree.proofs.Rules.{total-facts}
use Rattle.tree.proofs.Ranges.{level-pos}
use Rattle.tree.proofs.Sourced.{sourced-total}
use Rattle.places.specs.Places.{place_at, place_of}
use Rattle.links.specs.Links.{inner}
use Rattle.links.proofs.Children.{filter-here, filter-past, filter-gap}
use Rattle.around.specs.Around.{near_to, owner, near_inner, NearListed, Kept}
use Rattle.around.proofs.Nodes.{well, leaf-owns}
use Rattle.around.proofs.Nearby.{near-self}
use Rattle.around.proofs.Owners.{root_none, none_above}

module _ (d : ℕ) (keys own : List ℕ) (t : SoundTree d keys own) where
  root : get_or keys 0 0 ≡ 0
  root = (well d keys own t).ascending.root

  passes : ℕ → Bool
  passes j = near_to d keys own 0 (get_or keys j 0) && inner keys j

  -- no other node is of its level
  others : (j : ℕ) → 1 ≤ j → j < length keys → passes j ≡ false
  unfolding passes
  others j a l = refute (λ h. omega (arith, level-pos d keys (well d keys own t).ascending j a l, eqb-true (level_of (get_or keys j 0)) (level_of 0) (and_l _ _ (and_l (near_to d keys own 0 (get_or keys j 0)) _ h))))

  -- a sourced root has children
  has-children : sourced d keys own (get_or keys 0 0) ≡ true → inner keys 0 ≡ true
  has-children so = go (inner keys 0) refl
    where
      go : (b : Bool) → inner keys 0 ≡ b → inner keys 0 ≡ true
      go true e = e
      go false e = absurd (omega (arith, root_none d keys own t, ltb-true 0 (own_of keys own (get_or keys 0 0)) (leaf-owns d keys own t 0 (well d keys own t).some e so)))

  near-root : sourced d keys own (get_or keys 0 0) ≡ true → near_inner d keys own 0 ≡ 0 ∷ []
  unfolding passes filter range
  near-root so = filter-gap passes 1 (length keys) (well d keys own t).some others ∙ filter-here passes 0 here ∙ first
    where
      here : passes 0 ≡ true
      here = both (subst (λ x. near_to d keys own 0 x ≡ true) (sym root) (both (eq-eqb (level_of 0) (level_of 0) refl) (both (near-self d d (level_of 0) (code_of 0)) (subst (λ x. sourced d keys own x ≡ true) root so)))) (has-children so)

      first : filter passes (range 0 0) ++ 0 ∷ [] ≡ 0 ∷ []
      first = refl

  near_none : sourced d keys own (get_or keys 0 0) ≡ false → near_inner d keys own 0 ≡ []
  unfolding passes filter range
  near_none off = filter-gap passes 1 (length keys) (well d keys own t).some others ∙ filter-past passes 0 (refute (λ h.
      clash (and_r (near d d (level_of 0) (code_of 0) (code_of (get_or keys 0 0))) _ (and_r (eqb (level_of (get_or keys 0 0)) (level_of 0)) _ (and_l (near_to d keys own 0 (get_or keys 0 0)) _ h))) off)) ∙ none
    where
      none : filter passes (range 0 0) ≡ []
      none = refl

  module _ (total : List ℕ) (right : totals_right d keys own total ≡ true) where
    told : sourced d keys own (get_or keys 0 0) ≡ ltb 0 (get_or total 0 0)
    told = sourced-total d keys own (get_or keys 0 0) ∙ ap (ltb 0) (sym ((total-facts d keys own total right).1 0 (well d keys own t).some))

    -- the list of one, the root
    pub root-listed : 0 < get_or total 0 0 → (listed spots : List ℕ) → 1 ≤ length listed → 1 ≤ length spots → get_or listed 0 0 ≡ 0 → get_or spots 0 0 ≡ 0 → NearListed d keys own 0 listed spots 1
    unfolding place_at
    root-listed h listed spots a b e f = record {
      fits = a;
      room = b;
      numbers = take-suc listed 0 0 a ∙ ap (λ x. x ∷ []) e ∙ sym (near-root (told ∙ lt-ltb 0 (get_or total 0 0) h));
      placed = λ i l.
          let z : i ≡ 0 = omega arith in
          ap (λ n. get_or spots n 0) z ∙ f ∙ sym (ap (λ n. place_of d (get_or keys (get_or listed n 0) 0)) z ∙ ap (λ n. place_of d (get_or keys n 0)) e ∙ ap (place_of d) root);
    }

    -- or of none
    pub root-empty : get_or total 0 0 ≡ 0 → (listed spots : List ℕ) → NearListed d keys own 0 listed spots 0
    root-empty h listed spots = record {
      fits = omega arith;
      room = omega arith;
      numbers = sym (near_none (told ∙ le-ltb 0 (get_or total 0 0) (omega arith)));
      placed = λ i l. absurd (omega arith);
    }

  pub root_kept : (held : List ℕ) → Kept d keys own 0 held 0
  root_kept held = record {
    fits = omega arith;
    those = λ x. none x ∙ sym (count-filter (λ c. eqb c x) (owner d keys own 0 1) keys ∙ count-zero (λ y. owner d keys own 0 1 y && eqb y x) keys (λ y m h. none_above d keys own t 0 y m (and_l _ _ h)));
  }
    where
      none : (x : ℕ) → count (λ c. eqb c x) [] ≡ 0
      none x = unfold count in refl
