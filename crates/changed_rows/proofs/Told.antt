-- What is told of a row, test by test.
use mathlib.Core.Path.{◌≡◌, refl, sym, ap, ap₂, ◌∙◌, subst}
use mathlib.Core.Bool.{Bool, true, false, ◌&&◌, not, cond}
use mathlib.Core.List.{List, [], ◌∷◌, map}
use Prim.Native.Nat.{ℕ, suc, ◌+◌, ◌≤◌, ◌<◌}
use native.Mathlib.Omega.{arith}
use native.Mathlib.Numerals.{add-one}
use lib.Dec.{ltb, eqb}
use lib.ListN.{length, get_or, length-map}
use borrow.Author.Tests.{eqb-true, eq-eqb, ne_eqb, lt-ltb, le-ltb}
use Rattle.slices.specs.Lists.{filter, range, Mem, Distinct}
use Rattle.slices.proofs.Lists.{get_d_map}
use Rattle.slices.proofs.Tests.{clash, same_test}
use Rattle.morton.specs.Keys.{valid}
use Rattle.tree.specs.Nodes.{stored, node_number, own_of}
use Rattle.tree.proofs.Members.{mem-stored, own_at}
use Rattle.tree.proofs.Ranges.{distinct}
use Rattle.tree.proofs.Rules.{ascend-facts}
use Rattle.sourced.specs.Room.{Puts}
use Rattle.first_rows.proofs.Numbers.{numbered}
use Rattle.changed_rows.specs.Told.{Beside, key_in, valid_in, first_in, told_node, told_row, told_keys, Comparable}
use Rattle.changed_rows.proofs.Putting.{picked}

-- ---- of a row with a valid key

module _ (code : ℕ) (first : Bool) (own begin count new_begin : ℕ) where
  by_codes : (a f b : Bool) → eqb code 2 ≡ a → first ≡ f → eqb code 4 ≡ b → cond a (not f) (f && cond b (ltb 0 own && eqb count 0) (not (eqb begin new_begin))) ≡ told_node code first own begin count new_begin
  unfolding told_node
  by_codes a f b ea ef eb = rw (ea, ef, eb)

  pub told-repeat : code ≡ 2 → not first ≡ told_node code first own begin count new_begin
  told-repeat e = by_codes true first (eqb code 4) (eq-eqb code 2 e) refl refl

  module _ (n : code ≡ 2 → ⊥) where
    pub told-later : first ≡ false → false ≡ told_node code first own begin count new_begin
    told-later f = by_codes false false (eqb code 4) (ne_eqb code 2 n) f refl

    module _ (f : first ≡ true) where
      pub told_none : code ≡ 4 → own ≡ 0 → false ≡ told_node code first own begin count new_begin
      told_none e z = ap (λ (x : Bool). x && eqb count 0) (sym (le-ltb 0 own (omega arith))) ∙ by_codes false true true (ne_eqb code 2 n) f (eq-eqb code 4 e)

      pub told-cleared : code ≡ 4 → (own ≡ 0 → ⊥) → eqb count 0 ≡ told_node code first own begin count new_begin
      told-cleared e z = ap (λ (x : Bool). x && eqb count 0) (sym (lt-ltb 0 own (omega arith))) ∙ by_codes false true true (ne_eqb code 2 n) f (eq-eqb code 4 e)

      pub told_moved : (code ≡ 4 → ⊥) → not (eqb begin new_begin) ≡ told_node code first own begin count new_begin
      told_moved m = by_codes false true false (ne_eqb code 2 n) f (ne_eqb code 4 m)

-- ---- of any row

module _ (b : Beside) (code row : ℕ) where
  node : Bool
  node = told_node code (first_in b row) (get_or b.own row 0) (get_or b.begin row 0) (own_of b.nodes b.counts (key_in b row)) (own_of b.nodes b.begins (key_in b row))

  by_row : (a v : Bool) → eqb code 1 ≡ a → valid_in b row ≡ v
      → cond a (not v) (v && told_node code (first_in b row) (get_or b.own row 0) (get_or b.begin row 0) (own_of b.nodes b.counts (key_in b row)) (own_of b.nodes b.begins (key_in b row))) ≡ told_row b code row
  unfolding told_row
  by_row a v ea ev = rw (ea, ev)

  pub row-invalid : (v : Bool) → v ≡ valid_in b row → code ≡ 1 → not v ≡ told_row b code row
  row-invalid v ev e = by_row true v (eq-eqb code 1 e) (sym ev)

  pub row-dropped : (code ≡ 1 → ⊥) → valid_in b row ≡ false → false ≡ told_row b code row
  row-dropped n v = by_row false false (ne_eqb code 1 n) v

  module _ (firsts : List ℕ) (c : Comparable b firsts) (l : row < length b.key) (n : code ≡ 1 → ⊥) (v : valid_in b row ≡ true) where
    once : Distinct b.nodes
    once = distinct b.axes b.nodes (ascend-facts b.axes b.nodes c.ascend)

    pub row-lost : stored b.nodes (key_in b row) ≡ false → false ≡ told_row b code row
    row-lost s = absurd (clash (mem-stored b.nodes (key_in b row) (c.kept row l v)) s)

    module _ (q : ℕ) (lq : q < length b.nodes) (e : get_or b.nodes q 0 ≡ key_in b row) where
      number : get_or firsts q 0 ≡ suc (node_number b.key (key_in b row))
      number =
          ap (λ (s : List ℕ). get_or s q 0) c.first
          ∙ get_d_map (own_of b.key (range 1 (length b.key))) b.nodes q lq
          ∙ ap (own_of b.key (range 1 (length b.key))) e
          ∙ numbered b.key (key_in b row) row l refl

      same_first : eqb (get_or firsts q 0) (row + 1) ≡ first_in b row
      same_first = same_test (eqb (get_or firsts q 0) (row + 1)) (first_in b row)
          (λ h. let z = eqb-true (get_or firsts q 0) (row + 1) h in eq-eqb (node_number b.key (key_in b row)) row (omega (arith, number)))
          (λ h. let z = eqb-true (node_number b.key (key_in b row)) row h in eq-eqb (get_or firsts q 0) (row + 1) (omega (arith, number)))

      pub row-node : (r : Bool) → r ≡ told_node code (eqb (get_or firsts q 0) (row + 1)) (get_or b.own row 0) (get_or b.begin row 0) (get_or b.counts q 0) (get_or b.begins q 0) → r ≡ told_row b code row
      row-node r h =
          h
          ∙ ap (λ (f : Bool). told_node code f (get_or b.own row 0) (get_or b.begin row 0) (get_or b.counts q 0) (get_or b.begins q 0)) same_first
          ∙ ap₂ (λ (x y : ℕ). told_node code (first_in b row) (get_or b.own row 0) (get_or b.begin row 0) x y)
          (sym (own_at b.nodes b.counts once c.counted q lq) ∙ ap (own_of b.nodes b.counts) e)
          (sym (own_at b.nodes b.begins once c.placed q lq) ∙ ap (own_of b.nodes b.begins) e)
          ∙ by_row false true (ne_eqb code 1 n) v

      pub firsts-in : q < length firsts
      firsts-in = omega (arith, ap length c.first, length-map b.nodes (own_of b.key (range 1 (length b.key))))

-- ---- all rows

pub keys-all : (b : Beside) (code : ℕ) → picked (key_in b) (told_row b code) (length b.key) ≡ told_keys b code
unfolding told_keys
keys-all b code = refl

pub puts-all : (b : Beside) (code : ℕ) (out : List ℕ) (from : ℕ) (out' : List ℕ) (m row : ℕ) → row ≤ length b.key → length b.key ≤ row → Puts out from (picked (key_in b) (told_row b code) row) out' m → Puts out from (told_keys b code) out' m
puts-all b code out from out' m row l h s =
    let e : row ≡ length b.key = omega arith in
    subst (λ ks. Puts out from ks out' m) (ap (picked (key_in b) (told_row b code)) e ∙ keys-all b code) s
