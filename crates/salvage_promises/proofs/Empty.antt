-- An empty list and rows in Z order: the columns are the input's, and the order column is its first part.
use mathlib.Core.Path.{◌≡◌, refl, sym, ap, ap₂, ◌∙◌, subst}
use mathlib.Core.Bool.{Bool, true, false}
use mathlib.Core.List.{List, [], ◌∷◌, ◌++◌, append-nil}
use mathlib.Core.Logic.{◌⊎◌, inl, inr}
use Prim.Native.Nat.{ℕ, zero, suc, ◌+◌, ◌≤◌, ◌<◌}
use native.Mathlib.Omega.{arith}
use lib.ListN.{length, get_or, take, drop}
use lib.Seq.{ext_get_or, take-suc, take-add, take-length}
use borrow.Author.Tests.{leb-true}
use Rattle.slices.specs.Lists.{sum, concat_map, Mem, Distinct}
use Rattle.slices.proofs.Tests.{and_l}
use Rattle.slices.proofs.Lists.{concat_map-append}
use Rattle.slices.proofs.Sums.{sum-take, sum-all}
use Rattle.morton.specs.Keys.{level_of, axes_known}
use Rattle.tree.specs.Nodes.{stored}
use Rattle.tree.specs.Order.{before}
use Rattle.tree.proofs.Members.{stored-mem, own_at}
use Rattle.tree.proofs.Ranges.{distinct}
use Rattle.tree.proofs.Spans.{Earlier, earlier}
use Rattle.salvaged.specs.Nodes.{Input}
use Rattle.salvaged.specs.Columns.{first_of, new_keys, old_begin, new_count, new_own, new_begins, new_order_of}
use Rattle.salvaged.specs.Changes.{key_at, valid_row, first_row, kept_row, not_valid, repeated, added, cleared, moved, changed_keys}
use Rattle.salvaged.proofs.Put.{one-order, chain-of}
use Rattle.salvaged.proofs.Kept.{kept-chain, kept-ascending, valid-kept}
use Rattle.salvaged.proofs.Formed as F
use Rattle.salvaged.proofs.Listed.{row_told, new-added, count-told, begin-told}
use Rattle.salvage_promises.proofs.Pairs.{listed-length}

-- pieces of one list, each from where those before it end, are its first part
first_part : (f : ℕ → List ℕ) (s ks own : List ℕ) → ((n : ℕ) → n < length ks → f (get_or ks n 0) ≡ take (get_or own n 0) (drop (sum (take n own)) s))
    → (n : ℕ) → n ≤ length ks → concat_map f (take n ks) ≡ take (sum (take n own)) s
unfolding concat_map sum
first_part f s ks own h zero l = refl
first_part f s ks own h (suc n) l =
    ap (concat_map f) (take-suc ks n 0 l) ∙ concat_map-append f (take n ks) (get_or ks n 0 ∷ [])
    ∙ ap₂ (λ (a b : List ℕ). a ++ b) (first_part f s ks own h n (omega arith)) (append-nil (f (get_or ks n 0)) ∙ h n l)
    ∙ sym (take-add (sum (take n own)) (get_or own n 0) s) ∙ ap (λ (m : ℕ). take m s) (sym (sum-take own n))

none : (part : List ℕ) → length part ≡ 0 → (k : ℕ) → Mem k part → ⊥
none part e k m = omega (arith, e, m.1)

module _ (i : Input) (known : axes_known i.axes ≡ true) (owns : length i.own ≡ length i.key) (begins : length i.begin ≡ length i.key)
    (ordered : (a b : ℕ) → a < b → b < length i.key → before i.axes (key_at i a) (key_at i b) ≡ true) (empty : changed_keys i ≡ []) where
  parts : length (not_valid i) + (length (repeated i) + (length (added i) + (length (cleared i) + length (moved i)))) ≡ 0
  parts = sym (listed-length i) ∙ ap length empty

  kept : (r : ℕ) → r < length i.key → kept_row i r ≡ true
  kept r l = go (row_told i r l)
    where
      go : Mem (key_at i r) (not_valid i) ⊎ (Mem (key_at i r) (repeated i) ⊎ ((kept_row i r ≡ true) × Mem (key_at i r) (new_keys i))) → kept_row i r ≡ true
      go (inl m) = absurd (none (not_valid i) (omega (arith, parts)) (key_at i r) m)
      go (inr (inl m)) = absurd (none (repeated i) (omega (arith, parts)) (key_at i r) m)
      go (inr (inr (h, m))) = h

  row-valid : (r : ℕ) → r < length i.key → valid_row i r ≡ true
  row-valid r l = and_l (valid_row i r) (first_row i r) (kept r l)

  row-level : (r : ℕ) → r < length i.key → level_of (key_at i r) ≤ 16
  row-level r l = leb-true (level_of (key_at i r)) 16 (and_l _ _ (row-valid r l))

  pub same_keys : new_keys i ≡ i.key
  same_keys = one-order i.axes (new_keys i) i.key (kept-chain i.axes i.key known) (chain-of (Earlier i.axes) i.key rising) into back
    where
      rising : (a b : ℕ) → a < b → b < length i.key → Earlier i.axes (key_at i a) (key_at i b)
      rising a b h l = earlier i.axes (key_at i a) (key_at i b) (row-level a (omega arith)) (row-level b l) (ordered a b h l)

      into : (y : ℕ) → Mem y (new_keys i) → Mem y i.key
      into y m = go (stored i.key y) refl
        where
          go : (b : Bool) → stored i.key y ≡ b → Mem y i.key
          go true e = stored-mem i.key y e
          go false e = absurd (none (added i) (omega (arith, parts)) y (new-added i y m e))

      back : (y : ℕ) → Mem y i.key → Mem y (new_keys i)
      back y (r, l, e) = subst (λ z. Mem z (new_keys i)) e (valid-kept i.axes i.key (key_at i r) (r, l, refl) (row-valid r l))

  once : Distinct (new_keys i)
  once = distinct i.axes (new_keys i) (kept-ascending i.axes i.key known)

  many : length (new_keys i) ≡ length i.key
  many = ap length same_keys

  key-at : (r : ℕ) → get_or (new_keys i) r 0 ≡ key_at i r
  key-at r = ap (λ (ks : List ℕ). get_or ks r 0) same_keys

  row_count : (r : ℕ) → r < length i.key → new_count i (key_at i r) ≡ get_or i.own r 0
  row_count r l = go (count-told i r l (kept r l) owns)
    where
      go : (new_count i (key_at i r) ≡ get_or i.own r 0) ⊎ Mem (key_at i r) (cleared i) → new_count i (key_at i r) ≡ get_or i.own r 0
      go (inl e) = e
      go (inr m) = absurd (none (cleared i) (omega (arith, parts)) (key_at i r) m)

  pub same-own : new_own i ≡ i.own
  same-own = ext_get_or 0 (new_own i) i.own (F.own-length i ∙ many ∙ sym owns) each
    where
      each : (r : ℕ) → r < length (new_own i) → get_or (new_own i) r 0 ≡ get_or i.own r 0
      each r l =
          let h : r < length (new_keys i) = omega (arith, F.own-length i) in
          F.own_at i r h ∙ ap (new_count i) (key-at r) ∙ row_count r (omega (arith, many))

  row-begin : (r : ℕ) → r < length i.key → get_or i.begin r 0 ≡ get_or (new_begins i) r 0
  row-begin r l =
      go (begin-told i r l (kept r l)) ∙ ap (first_of (new_keys i) (new_begins i)) (sym (key-at r))
      ∙ own_at (new_keys i) (new_begins i) once (F.begins-length (new_own i) ∙ F.own-length i) r (omega (arith, many))
    where
      go : (get_or i.begin r 0 ≡ first_of (new_keys i) (new_begins i) (key_at i r)) ⊎ Mem (key_at i r) (moved i) → get_or i.begin r 0 ≡ first_of (new_keys i) (new_begins i) (key_at i r)
      go (inl e) = e
      go (inr m) = absurd (none (moved i) (omega (arith, parts)) (key_at i r) m)

  pub same-begins : new_begins i ≡ i.begin
  same-begins = sym (ext_get_or 0 i.begin (new_begins i) (begins ∙ sym many ∙ sym (F.own-length i) ∙ sym (F.begins-length (new_own i))) (λ r l. row-begin r (omega (arith, begins))))

  run : ℕ → List ℕ
  run k = take (new_count i k) (drop (old_begin i k) i.order)

  run_at : (n : ℕ) → n < length i.key → run (key_at i n) ≡ take (get_or i.own n 0) (drop (sum (take n i.own)) i.order)
  unfolding run
  run_at n l = ap₂ (λ (c b : ℕ). take c (drop b i.order)) (row_count n l)
      (own_at i.key i.begin (subst Distinct same_keys once) begins n l ∙ row-begin n l
      ∙ F.begins-at (new_own i) n (omega (arith, many, F.own-length i)) ∙ ap (λ (own : List ℕ). sum (take n own)) same-own)

  pub order-first : new_order_of i ≡ take (sum i.own) i.order
  unfolding new_order_of run
  order-first =
      ap (concat_map run) (same_keys ∙ sym (take-length i.key))
      ∙ first_part run i.order i.key i.own run_at (length i.key) (omega arith)
      ∙ ap (λ (n : ℕ). take (sum (take n i.own)) i.order) (sym owns) ∙ ap (λ (n : ℕ). take n i.order) (sum-all i.own)

  -- nothing but the order column has changed, and that only at its end
  pub empty-list : (new_keys i ≡ i.key) × (new_own i ≡ i.own) × (new_begins i ≡ i.begin) × (new_order_of i ≡ take (sum i.own) i.order)
  empty-list = (same_keys, same-own, same-begins, order-first)
