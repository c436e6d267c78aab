-- From the last row back: what the rows from i on say.
use mathlib.Core.Path.{◌≡◌, refl, sym, ap, ap₂, ◌∙◌, subst}
use mathlib.Core.Bool.{Bool, true, false, cond}
use mathlib.Core.List.{List, [], ◌∷◌, map}
use Prim.Native.Nat.{ℕ, zero, suc, ◌+◌, ◌-◌, ◌≤◌, ◌<◌}
use native.Mathlib.Omega.{arith}
use native.Mathlib.Decide.{dec_lt}
use lib.Dec.{eqb}
use lib.ListN.{length, get_or, set, drop, replicate, length-set, length-map, length-replicate, drop_of_length-le}
use lib.Seq.{get_or-set_same, get_or-set_other, drop-cons, ext_get_or}
use borrow.Author.Tests.{eq-eqb, ne_eqb}
use Rattle.slices.specs.Lists.{Mem, range}
use Rattle.slices.proofs.Lists.{get_d_map, get_or-range}
use Rattle.slices.proofs.Tests.{clash}
use Rattle.tree.specs.Nodes.{stored, own_of}
use Rattle.tree.proofs.Members.{mem-stored}
use Rattle.tree.proofs.Ranges.{distinct}
use Rattle.tree.proofs.Rules.{ascend-facts}
use Rattle.tree.specs.WellFormed.{keys_ascend}
use Rattle.tree.specs.Finding.{FoundNode}
use Rattle.first_rows.specs.First.{Fillable}
use Rattle.std.specs.Prelude.{None, Option, Some}

pub record From (key rows column out : List ℕ) (i : ℕ) : Type 0 where
  pub within : i ≤ length rows
  pub placed : length out ≡ length key
  pub filled : (q : ℕ) → q < length key → get_or out q 0 ≡ own_of (drop i rows) (drop i column) (get_or key q 0)

zeros : (n q : ℕ) → ◌≡◌ {A = ℕ} (get_or (replicate n 0) q 0) 0
zeros zero q = refl
zeros (suc n) zero = refl
zeros (suc n) (suc q) = zeros n q

pub from_end : (key rows column out : List ℕ) → length out ≡ length key → out ≡ replicate (length out) 0 → From key rows column out (length rows)
unfolding own_of
from_end key rows column out e z = record {
  within = omega arith;
  placed = e;
  filled = λ q l. ap (λ s. get_or s q 0) z ∙ zeros (length out) q ∙ sym (ap (λ rs. own_of rs (drop (length rows) column) (get_or key q 0)) (drop_of_length-le rows {i = length rows} (omega arith)));
}

pub cleared : (d : ℕ) (key rows column out : List ℕ) → Fillable d key rows column out → (out' : List ℕ) → out' ≡ replicate (length out) 0 → From key rows column out' (length rows)
cleared d key rows column out f out' z =
    let n : length out' ≡ length out = ap length z ∙ length-replicate (length out) 0 in
    from_end key rows column out' (n ∙ f.placed) (z ∙ ap (λ m. replicate m 0) (sym n))

-- a row more, at the front
row_more : (rows column : List ℕ) (i k : ℕ) → i < length rows → length column ≡ length rows → (b : Bool) → eqb (get_or rows i 0) k ≡ b
    → own_of (drop i rows) (drop i column) k ≡ cond b (get_or column i 0) (own_of (drop (suc i) rows) (drop (suc i) column) k)
unfolding own_of
row_more rows column i k l e b h =
    ap₂ (λ rs cs. own_of rs cs k) (drop-cons rows i 0 l) (drop-cons column i 0 (omega arith))
    ∙ ap (λ (b : Bool). cond b (get_or column i 0) (own_of (drop (suc i) rows) (drop (suc i) column) k)) h

module _ (d : ℕ) (key rows column out₀ : List ℕ) (f : Fillable d key rows column out₀) (out : List ℕ) (n i : ℕ) (s : From key rows column out n) (e : n ≡ suc i) where
  row-at : i < length rows
  row-at = omega (arith, s.within)

  before : (q : ℕ) → q < length key → get_or out q 0 ≡ own_of (drop (suc i) rows) (drop (suc i) column) (get_or key q 0)
  before q l = s.filled q l ∙ ap (λ m. own_of (drop m rows) (drop m column) (get_or key q 0)) e

  -- a row whose key is no node's
  pub from-none : stored key (get_or rows i 0) ≡ false → From key rows column out i
  from-none no_node = record {
    within = omega (arith, s.within);
    placed = s.placed;
    filled = λ q l. before q l ∙ sym (row_more rows column i (get_or key q 0) row-at f.rowed false
        (ne_eqb (get_or rows i 0) (get_or key q 0) (λ z. clash (mem-stored key (get_or rows i 0) (q, l, sym z)) no_node)));
  }

  -- a node's row
  pub from-node : (node : ℕ) → node < length key → get_or key node 0 ≡ get_or rows i 0 → From key rows column (set out node (get_or column i 0)) i
  from-node node ln en = record {
    within = omega (arith, s.within);
    placed = length-set out node (get_or column i 0) ∙ s.placed;
    filled = λ q l. go q l (dec_lt q node) (dec_lt node q);
  }
    where
      other : (q : ℕ) → q < length key → (q ≡ node → ⊥) → get_or (set out node (get_or column i 0)) q 0 ≡ own_of (drop i rows) (drop i column) (get_or key q 0)
      other q l ne =
          get_or-set_other out node q (get_or column i 0) 0 ne ∙ before q l
          ∙ sym (row_more rows column i (get_or key q 0) row-at f.rowed false
          (ne_eqb (get_or rows i 0) (get_or key q 0) (λ z. ne (distinct d key (ascend-facts d key f.ascend) q node l ln (sym z ∙ sym en)))))

      go : (q : ℕ) → q < length key → Dec (q < node) → Dec (node < q) → get_or (set out node (get_or column i 0)) q 0 ≡ own_of (drop i rows) (drop i column) (get_or key q 0)
      go q l (yes a) _ = other q l (λ z. omega arith)
      go q l (no a) (yes b) = other q l (λ z. omega arith)
      go q l (no a) (no b) =
          let z : q ≡ node = omega arith in
          ap (λ x. get_or (set out node (get_or column i 0)) x 0) z
          ∙ get_or-set_same out node (get_or column i 0) 0 (omega (arith, s.placed))
          ∙ sym (row_more rows column i (get_or key q 0) row-at f.rowed true (eq-eqb (get_or rows i 0) (get_or key q 0) (sym (ap (λ x. get_or key x 0) z ∙ en))))

-- the column of the rows' numbers, counted from 1
number_of : (n i number : ℕ) → i < n → number ≡ suc i → number ≡ get_or (range 1 n) i 0
number_of n i number l e = omega (arith, get_or-range 1 n i l)

pub from-number : (d : ℕ) (key rows out₀ : List ℕ) → Fillable d key rows (range 1 (length rows)) out₀ → (out : List ℕ) (n i : ℕ) → From key rows (range 1 (length rows)) out n → n ≡ suc i
    → (node : ℕ) → node < length key → get_or key node 0 ≡ get_or rows i 0 → From key rows (range 1 (length rows)) (set out node n) i
from-number d key rows out₀ f out n i s e node l en =
    let h : i < length rows = omega (arith, s.within) in
    subst (λ z. From key rows (range 1 (length rows)) (set out node z) i) (sym (number_of (length rows) i n h e)) (from-node d key rows (range 1 (length rows)) out₀ f out n i s e node l en)

pub from_all : (key rows column out : List ℕ) (i : ℕ) → From key rows column out i → i ≤ 0 → out ≡ map (own_of rows column) key
from_all key rows column out i s h =
    let z : i ≡ 0 = omega arith in
    ext_get_or 0 out (map (own_of rows column) key) (s.placed ∙ sym (length-map key (own_of rows column)))
    (λ q l. s.filled q (omega (arith, s.placed)) ∙ ap (λ m. own_of (drop m rows) (drop m column) (get_or key q 0)) z ∙ sym (get_d_map (own_of rows column) key q (omega (arith, s.placed))))

-- what a search found
module _ (d : ℕ) (key : List ℕ) (k : ℕ) (found : Option ℕ) (h : FoundNode d key k found) where
  pub found_at : (i : ℕ) → found ≡ Some i → (i < length key) × (get_or key i 0 ≡ k)
  found_at i e = subst (FoundNode d key k) e h

  pub found_none : found ≡ None → keys_ascend d key ≡ true → stored key k ≡ false
  found_none e = subst (FoundNode d key k) e h
