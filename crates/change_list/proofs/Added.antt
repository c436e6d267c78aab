-- The nodes that no row has are those beside which the number of the first row is 0.
use mathlib.Core.Path.{◌≡◌, refl, sym, ap, ◌∙◌, subst}
use mathlib.Core.Bool.{Bool, true, false, not, cond}
use mathlib.Core.List.{List, [], ◌∷◌, ◌++◌, map, append-nil}
use Prim.Native.Nat.{ℕ, zero, suc, ◌+◌, ◌≤◌, ◌<◌}
use native.Mathlib.Omega.{arith}
use native.Mathlib.Numerals.{add-one}
use native.Mathlib.Decide.{dec_lt}
use lib.Dec.{eqb}
use lib.ListN.{length, get_or, take}
use lib.Seq.{take_all}
use borrow.Author.Tests.{eq-eqb, ne_eqb}
use Rattle.slices.specs.Lists.{filter, range}
use Rattle.slices.proofs.Lists.{get_d_map}
use Rattle.slices.proofs.Tests.{clash}
use Rattle.tree.specs.Nodes.{stored, node_number, own_of}
use Rattle.tree.proofs.Members.{stored-mem, mem-stored}
use Rattle.sourced.specs.Room.{Puts}
use Rattle.sourced.proofs.Putting.{filter-yes, filter-no}
use Rattle.first_rows.proofs.Numbers.{number_at, numbered, none_owned}
use Rattle.changed_rows.specs.Told.{Beside, Comparable}
use Rattle.changed_rows.proofs.Putting.{picked, one_more}
use Rattle.change_list.specs.List.{new_nodes, zero_nodes}

-- those that pass a test, by their numbers
module _ (xs : List ℕ) (p q : ℕ → Bool) (same : (n : ℕ) → n < length xs → q n ≡ p (get_or xs n 0)) where
  by_number : (n : ℕ) → n ≤ length xs → picked (λ j. get_or xs j 0) q n ≡ filter p (take n xs)
  unfolding filter range
  by_number zero l = refl
  by_number (suc n) l = go (p (get_or xs n 0)) refl (by_number n (omega arith))
    where
      go : (b : Bool) → p (get_or xs n 0) ≡ b → picked (λ j. get_or xs j 0) q n ≡ filter p (take n xs) → picked (λ j. get_or xs j 0) q (suc n) ≡ filter p (take (suc n) xs)
      go true e rest =
          ap (picked (λ j. get_or xs j 0) q) (sym (add-one n))
          ∙ one_more (λ j. get_or xs j 0) q n true (same n l ∙ e)
          ∙ ap (λ (l : List ℕ). l ++ get_or xs n 0 ∷ []) rest
          ∙ sym (filter-yes p xs n l e) ∙ ap (λ (m : ℕ). filter p (take m xs)) (add-one n)
      go false e rest =
          ap (picked (λ j. get_or xs j 0) q) (sym (add-one n))
          ∙ one_more (λ j. get_or xs j 0) q n false (same n l ∙ e)
          ∙ append-nil (picked (λ j. get_or xs j 0) q n)
          ∙ rest
          ∙ sym (filter-no p xs n l e) ∙ ap (λ (m : ℕ). filter p (take m xs)) (add-one n)

  picked_all : picked (λ j. get_or xs j 0) q (length xs) ≡ filter p xs
  picked_all = by_number (length xs) (omega arith) ∙ ap (filter p) (take_all (length xs) xs (omega arith))

-- no row has a key where its number is 0
zero-first : (rows : List ℕ) (k : ℕ) → eqb (own_of rows (range 1 (length rows)) k) 0 ≡ not (stored rows k)
zero-first rows k = go (stored rows k) refl (dec_lt (node_number rows k) (length rows))
  where
    go : (b : Bool) → stored rows k ≡ b → Dec (node_number rows k < length rows) → eqb (own_of rows (range 1 (length rows)) k) 0 ≡ not b
    go true e _ = let m = stored-mem rows k e in ne_eqb (own_of rows (range 1 (length rows)) k) 0 (λ z. omega (arith, numbered rows k m.0 m.1 m.2))
    go false e (yes l) = absurd (clash (mem-stored rows k (node_number rows k, l, number_at rows k l)) e)
    go false e (no n) = eq-eqb (own_of rows (range 1 (length rows)) k) 0 (none_owned rows (range 1 (length rows)) k (omega arith))

pub zero-new : (b : Beside) (firsts : List ℕ) → Comparable b firsts → zero_nodes b.nodes firsts ≡ new_nodes b
unfolding zero_nodes new_nodes
zero-new b firsts c = picked_all b.nodes (λ k. not (stored b.key k)) (λ q. eqb (get_or firsts q 0) 0)
    (λ n l. ap (λ (s : List ℕ). eqb (get_or s n 0) 0) c.first
    ∙ ap (λ (x : ℕ). eqb x 0) (get_d_map (own_of b.key (range 1 (length b.key))) b.nodes n l)
    ∙ zero-first b.key (get_or b.nodes n 0))

pub zeros-all : (nodes firsts out : List ℕ) (from : ℕ) (out' : List ℕ) (m q : ℕ) → q ≤ length nodes → length nodes ≤ q
    → Puts out from (picked (λ j. get_or nodes j 0) (λ j. eqb (get_or firsts j 0) 0) q) out' m → Puts out from (zero_nodes nodes firsts) out' m
unfolding zero_nodes
zeros-all nodes firsts out from out' m q l h s =
    let e : q ≡ length nodes = omega arith in
    subst (λ n. Puts out from (picked (λ j. get_or nodes j 0) (λ j. eqb (get_or firsts j 0) 0) n) out' m) e s
