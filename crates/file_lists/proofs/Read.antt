-- The check of the lists of a file, at numbers that were read: the laws of `list_check`.
use mathlib.Core.Path.{◌≡◌, refl, sym, ap, ap₂, ◌∙◌, subst}
use mathlib.Core.Bool.{Bool, true, false}
use mathlib.Core.List.{List}
use Prim.Native.Nat.{ℕ, suc, ◌+◌, ◌-◌, ◌*◌, ◌%◌, ◌≤◌, ◌<◌, min}
use native.Mathlib.Omega.{arith}
use lib.Dec.{leb, eqb}
use lib.ListN.{length, get_or, set, replicate}
use Rattle.morton.specs.Keys.{level_of, parent, ValidKey}
use Rattle.morton.proofs.Arithmetic.{parent-valid}
use Rattle.tree.specs.Nodes.{leaf}
use Rattle.tree.specs.Finding.{TreeKeys}
use Rattle.rows.specs.Written.{row_of}
use Rattle.sums.specs.Tells.{Tells}
use Rattle.sums.specs.Right.{StartsRight, ListsRight}
use Rattle.places.specs.Places.{place_of}
use Rattle.list_rows.specs.declared.Row.{Row}
use Rattle.list_rows.specs.Entries.{Counted, Cell}
use Rattle.list_rows.specs.Rows.{too_many, Brings}
use Rattle.list_rows.proofs.Entries.{tree-keys}
use Rattle.list_check.specs.Checks.{Started, FarSays, NearRight, NodeSays, Below}
use Rattle.list_check.proofs.Nodes as N
use Rattle.list_check.proofs.Path as P
use Rattle.list_check.proofs.Starts.{part_up, part_in}
use Rattle.tree_file.specs.Trailer.{start_of, numbers_of, column_in}
use Rattle.file_sections.specs.declared.Sections.{Sections}
use Rattle.file_columns.specs.Columns.{Sectioned}
use Rattle.file_columns.proofs.Sectioned.{column-length}
use Rattle.file_rows.specs.Parts.{part}
use Rattle.std.specs.Prelude.{None, Some, Option}

-- a file has fewer nodes than bytes
pub few : (file : List ℕ) (s : Sections) → Sectioned file s → 8 * length (column_in file 1) ≤ length file
few file s g =
    let h : start_of file 1 + 8 * numbers_of file 1 ≤ length file = g.inside 0 (omega arith) in
    omega (arith, column-length file 1)

-- ---- a node below the root

module _ (d : ℕ) (keys own total : List ℕ) (c : Counted d keys own total) (i : ℕ) (b : Below keys i) (k : ℕ) (ek : k ≡ get_or keys i 0) where
  pub valid-here : ValidKey d k
  valid-here = subst (ValidKey d) (sym ek) (N.valid d keys own c.tree i b)

  pub deep-here : 0 < level_of k
  deep-here = subst (λ x. 0 < level_of x) (sym ek) (N.deep d keys own c.tree i b)

  pub valid-above : (p : ℕ) → p ≡ parent d k → ValidKey d p
  valid-above p e = subst (ValidKey d) (sym e) (parent-valid d k valid-here deep-here)

  pub cell-here : (p q a : ℕ) → p ≡ place_of d k → a ≡ parent d k → q ≡ place_of d a → Cell d keys (record { cell = k; place = p; above = q })
  cell-here p q a e f h = subst (λ x. Cell d keys (record { cell = x; place = p; above = q })) (sym ek)
      (N.cell d keys own c.tree i b p q (e ∙ ap (place_of d) ek) (h ∙ ap (place_of d) (f ∙ ap (parent d) ek)))

-- ---- where a row stands, as it was read

module _ (keys starts flat : List ℕ) (s : StartsRight keys starts flat) (i : ℕ) (l : i < length keys) (from to : ℕ) (ef : from ≡ get_or starts i 0) (et : to ≡ get_or starts (i + 1) 0) where
  pub row_up : from ≤ to
  row_up = omega (arith, part_up keys starts flat s i l)

  pub row_in : to ≤ length flat
  row_in = omega (arith, part_in keys starts flat s i l)

  part-read : part flat from to ≡ part flat (get_or starts i 0) (get_or starts (i + 1) 0)
  part-read = ap₂ (part flat) ef et

-- ---- V

module _ (d : ℕ) (keys own total starts flat : List ℕ) (i above : ℕ) (s : StartsRight keys starts flat) (l : i < length keys) (from to : ℕ) (ef : from ≡ get_or starts i 0) (et : to ≡ get_or starts (i + 1) 0)
    (k : ℕ) (is : k ≡ get_or keys i 0) (a : Option ℕ) (h : Brings d keys own total true k (part flat from to) a) where
  brings : Brings d keys own total true k (part flat (get_or starts i 0) (get_or starts (i + 1) 0)) a
  brings = subst (λ r. Brings d keys own total true k r a) (part-read keys starts flat s i l from to ef et) h

  pub far-lost : a ≡ None → FarSays d keys own total starts flat i above None
  far-lost = N.far-lost d keys own total starts flat i above s l k is a brings

  pub far-small : (count : ℕ) → a ≡ Some count → count ≤ too_many
  far-small = N.far-small d keys own total starts flat i above s l k is a brings

  pub far-says : (count : ℕ) → a ≡ Some count → (n : ℕ) → n ≡ min (above + count) too_many → FarSays d keys own total starts flat i above (Some n)
  far-says = N.far-says d keys own total starts flat i above s l k is a brings

-- ---- U

module _ (d : ℕ) (keys own total starts flat : List ℕ) (i met : ℕ) (s : StartsRight keys starts flat) (l : i < length keys) (from to : ℕ) (ef : from ≡ get_or starts i 0) (et : to ≡ get_or starts (i + 1) 0) where
  pub inner-tells : leaf d keys (get_or keys i 0) ≡ false → Tells (NearRight d keys own total starts flat i met) (leb to from)
  inner-tells q = subst (Tells (NearRight d keys own total starts flat i met)) (sym (ap₂ leb et ef)) (N.inner-tells d keys own total starts flat i met s l q)

  module _ (lf : leaf d keys (get_or keys i 0) ≡ true) (k : ℕ) (is : k ≡ get_or keys i 0) (a : Option ℕ) (h : Brings d keys own total false k (part flat from to) a) where
    brought : Brings d keys own total false k (part flat (get_or starts i 0) (get_or starts (i + 1) 0)) a
    brought = subst (λ r. Brings d keys own total false k r a) (part-read keys starts flat s i l from to ef et) h

    pub near-lost : a ≡ None → NearRight d keys own total starts flat i met → ⊥
    near-lost = N.near-lost d keys own total starts flat i met s l lf k is a brought

    pub near-small : (count : ℕ) → a ≡ Some count → count ≤ too_many
    near-small = N.near-small d keys own total starts flat i met s l lf k is a brought

    pub near-tells : (count : ℕ) → a ≡ Some count → (all : ℕ) → all ≡ get_or total 0 0 → Tells (NearRight d keys own total starts flat i met) (eqb (count + met) all)
    near-tells count e all q = subst (λ x. Tells (NearRight d keys own total starts flat i met) (eqb (count + met) x)) (sym q) (N.near-tells d keys own total starts flat i met s l lf k is a brought count e)

-- ---- all nodes

module _ (d : ℕ) (keys own total us uk vs vk : List ℕ) (c : Counted d keys own total) (s : Started keys us uk vs vk) where
  pub nodes : TreeKeys d keys
  nodes = tree-keys d keys own c.tree

  pub u-none : (x : ℕ) → x ≡ get_or us 1 0 → (x ≡ 0 → ⊥) → ListsRight d keys own (row_of keys us uk) (row_of keys vs vk) → ⊥
  u-none x e n r = n (e ∙ P.root-no-u d keys own total us uk vs vk c s r)

  pub v-none : (x : ℕ) → x ≡ get_or vs 1 0 → (x ≡ 0 → ⊥) → ListsRight d keys own (row_of keys us uk) (row_of keys vs vk) → ⊥
  v-none x e n r = n (e ∙ P.root-no-v d keys own total us uk vs vk c s r)

  module _ (x y : ℕ) (ex : x ≡ get_or us 1 0) (ey : y ≡ get_or vs 1 0) (zx : x ≡ 0) (zy : y ≡ 0) where
    pub start : P.Judging d keys own total us uk vs vk (replicate 17 0) 1
    start = P.judge-start d keys own total us uk vs vk c s (sym ex ∙ zx) (sym ey ∙ zy)

    pub done : (counts : List ℕ) (i : ℕ) → P.Judging d keys own total us uk vs vk counts i → length keys ≤ i → ListsRight d keys own (row_of keys us uk) (row_of keys vs vk)
    done counts i g h = P.judge-done d keys own total us uk vs vk c s counts i g h (sym ex ∙ zx) (sym ey ∙ zy)

  module _ (counts : List ℕ) (i : ℕ) (g : P.Judging d keys own total us uk vs vk counts i) (l : i < length keys) (k : ℕ) (ek : k ≡ get_or keys i 0) where
    pub below : Below keys i
    below = P.below d keys own total us uk vs vk c s counts i g l

    pub level_in : (0 < k % 32768) × (k % 32768 < 17)
    level_in =
        let h = P.level_in d keys own total us uk vs vk c s counts i g l in
        (subst (λ x. 0 < x % 32768) (sym ek) h.0, subst (λ x. x % 32768 < 17) (sym ek) (omega (arith, h.1, g.rides.size)))

    pub above-small : get_or counts (k % 32768 - 1) 0 ≤ too_many
    above-small = subst (λ x. get_or counts (x % 32768 - 1) 0 ≤ too_many) (sym ek) (P.above-small d keys own total us uk vs vk c s counts i g l)

    module _ (a : Option ℕ) (h : NodeSays d keys own total us uk vs vk i (get_or counts (k % 32768 - 1) 0) a) where
      says : NodeSays d keys own total us uk vs vk i (get_or counts (level_of (get_or keys i 0) - 1) 0) a
      says = subst (λ x. NodeSays d keys own total us uk vs vk i (get_or counts (x % 32768 - 1) 0) a) ek h

      pub fails : a ≡ None → ListsRight d keys own (row_of keys us uk) (row_of keys vs vk) → ⊥
      fails e r = P.judge-fails d keys own total us uk vs vk c s r counts i g l a says e

      pub more : (met : ℕ) → a ≡ Some met → P.Judging d keys own total us uk vs vk (set counts (k % 32768) met) (i + 1)
      more met e = subst (λ x. P.Judging d keys own total us uk vs vk (set counts (x % 32768) met) (i + 1)) (sym ek) (P.judge-more d keys own total us uk vs vk c s counts i g l a says met e)
