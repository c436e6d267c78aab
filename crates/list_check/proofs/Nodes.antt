-- The two rows of one node.
use mathlib.Core.Path.{◌≡◌, refl, sym, ap, ◌∙◌, subst}
use mathlib.Core.Bool.{Bool, true, false}
use mathlib.Core.List.{List}
use mathlib.Core.Logic.{⊎_elim}
use Prim.Native.Nat.{ℕ, ◌+◌, ◌-◌, ◌≤◌, ◌<◌, min}
use native.Mathlib.Omega.{arith}
use lib.Dec.{leb, eqb}
use lib.ListN.{length, get_or, take, drop}
use borrow.Author.Tests.{le-leb, lt-leb, eqb-true, eq-eqb}
use Rattle.slices.proofs.Tests.{clash, lt-or-le}
use Rattle.morton.specs.Keys.{level_of, parent, ValidKey}
use Rattle.tree.specs.Nodes.{leaf}
use Rattle.tree.specs.WellFormed.{SoundTree}
use Rattle.tree.proofs.Rules.{facts}
use Rattle.tree.proofs.Ranges.{level-pos}
use Rattle.rows.specs.Written.{row_at}
use Rattle.sums.specs.Tells.{Tells}
use Rattle.sums.specs.Right.{StartsRight}
use Rattle.places.specs.Places.{place_of}
use Rattle.list_rows.specs.Entries.{Cell}
use Rattle.list_rows.specs.Rows.{too_many, Brings}
use Rattle.list_rows.proofs.Entries.{node-valid}
use Rattle.list_check.specs.Checks.{FarSays, NearRight, NodeRight, NodeSays, Below}
use Rattle.list_check.proofs.Starts.{part-is, row-empty, empty-row}
use Rattle.std.specs.Prelude.{None, Some, Option}

-- ---- the node
module _ (d : ℕ) (keys own : List ℕ) (t : SoundTree d keys own) (i : ℕ) (b : Below keys i) where
  pub valid : ValidKey d (get_or keys i 0)
  valid = node-valid d keys own t (get_or keys i 0) (i, b.within, refl)

  pub deep : 0 < level_of (get_or keys i 0)
  deep = level-pos d keys (facts d keys own t.begin t.sound).ascending i b.some b.within

  pub cell : (p q : ℕ) → p ≡ place_of d (get_or keys i 0) → q ≡ place_of d (parent d (get_or keys i 0)) → Cell d keys (record { cell = get_or keys i 0; place = p; above = q })
  cell p q e h = record { node = (i, b.within, refl); deep = deep; place = e; above = h }

-- ---- V
module _ (d : ℕ) (keys own total starts flat : List ℕ) (i above : ℕ) (s : StartsRight keys starts flat) (l : i < length keys) (k : ℕ) (is : k ≡ get_or keys i 0) (a : Option ℕ)
    (h : Brings d keys own total true k (take (get_or starts (i + 1) 0 - get_or starts i 0) (drop (get_or starts i 0) flat)) a) where
  brings : Brings d keys own total true (get_or keys i 0) (row_at starts flat i) a
  brings = subst (λ x. Brings d keys own total true x (row_at starts flat i) a) is (subst (λ r. Brings d keys own total true k r a) (part-is keys starts flat s i l) h)

  pub far-lost : a ≡ None → FarSays d keys own total starts flat i above None
  far-lost e = subst (Brings d keys own total true (get_or keys i 0) (row_at starts flat i)) e brings

  module _ (count : ℕ) (e : a ≡ Some count) where
    found : Brings d keys own total true (get_or keys i 0) (row_at starts flat i) (Some count)
    found = subst (Brings d keys own total true (get_or keys i 0) (row_at starts flat i)) e brings

    pub far-small : count ≤ too_many
    far-small = omega (arith, found.1)

    pub far-says : (n : ℕ) → n ≡ min (above + count) too_many → FarSays d keys own total starts flat i above (Some n)
    far-says n q = (found.0, q ∙ ap (λ x. min (above + x) too_many) found.1)

-- ---- U
module _ (d : ℕ) (keys own total starts flat : List ℕ) (i met : ℕ) (s : StartsRight keys starts flat) (l : i < length keys) where
  pub inner-tells : leaf d keys (get_or keys i 0) ≡ false → Tells (NearRight d keys own total starts flat i met) (leb (get_or starts (i + 1) 0) (get_or starts i 0))
  inner-tells q = ⊎_elim
      (λ (h : get_or starts i 0 < get_or starts (i + 1) 0). subst (Tells (NearRight d keys own total starts flat i met)) (sym (lt-leb (get_or starts (i + 1) 0) (get_or starts i 0) h)) (λ r. omega (arith, empty-row keys starts flat s i l (r.none q))))
      (λ (h : get_or starts (i + 1) 0 ≤ get_or starts i 0). subst (Tells (NearRight d keys own total starts flat i met)) (sym (le-leb (get_or starts (i + 1) 0) (get_or starts i 0) h))
      (record { none = λ _. row-empty keys starts flat s i l h; passes = λ y. absurd (clash y q); meets = λ y. absurd (clash y q) }))
      (lt-or-le (get_or starts i 0) (get_or starts (i + 1) 0))

  module _ (lf : leaf d keys (get_or keys i 0) ≡ true) (k : ℕ) (is : k ≡ get_or keys i 0) (a : Option ℕ)
      (h : Brings d keys own total false k (take (get_or starts (i + 1) 0 - get_or starts i 0) (drop (get_or starts i 0) flat)) a) where
    brought : Brings d keys own total false (get_or keys i 0) (row_at starts flat i) a
    brought = subst (λ x. Brings d keys own total false x (row_at starts flat i) a) is (subst (λ r. Brings d keys own total false k r a) (part-is keys starts flat s i l) h)

    pub near-lost : a ≡ None → NearRight d keys own total starts flat i met → ⊥
    near-lost e r = subst (Brings d keys own total false (get_or keys i 0) (row_at starts flat i)) e brought (r.passes lf)

    module _ (count : ℕ) (e : a ≡ Some count) where
      has : Brings d keys own total false (get_or keys i 0) (row_at starts flat i) (Some count)
      has = subst (Brings d keys own total false (get_or keys i 0) (row_at starts flat i)) e brought

      pub near-small : count ≤ too_many
      near-small = omega (arith, has.1)

      pub near-tells : Tells (NearRight d keys own total starts flat i met) (eqb (count + met) (get_or total 0 0))
      near-tells = go (eqb (count + met) (get_or total 0 0)) refl
        where
          go : (r : Bool) → eqb (count + met) (get_or total 0 0) ≡ r → Tells (NearRight d keys own total starts flat i met) r
          go true q = record { none = λ n. absurd (clash lf n); passes = λ _. has.0; meets = λ _. ap (◌+ met) (sym has.1) ∙ eqb-true (count + met) (get_or total 0 0) q }
          go false q = λ r. clash (eq-eqb (count + met) (get_or total 0 0) (ap (◌+ met) has.1 ∙ r.meets lf)) q

-- ---- both
module _ (d : ℕ) (keys own total us uk vs vk : List ℕ) (i above : ℕ) (a : Option ℕ) (h : FarSays d keys own total vs vk i above a) where
  pub node-lost : a ≡ None → NodeRight d keys own total us uk vs vk i above → ⊥
  node-lost e r = subst (FarSays d keys own total vs vk i above) e h r.far

  module _ (met : ℕ) (e : a ≡ Some met) where
    far-is : FarSays d keys own total vs vk i above (Some met)
    far-is = subst (FarSays d keys own total vs vk i above) e h

    pub met-small : met ≤ too_many
    met-small = omega (arith, far-is.1)

    pub node-says : NearRight d keys own total us uk i met → NodeSays d keys own total us uk vs vk i above (Some met)
    node-says n = (record { far = far-is.0; near = subst (NearRight d keys own total us uk i) far-is.1 n }, far-is.1)

    pub node-fails : (NearRight d keys own total us uk i met → ⊥) → NodeSays d keys own total us uk vs vk i above None
    node-fails n r = n (subst (NearRight d keys own total us uk i) (sym far-is.1) r.near)
