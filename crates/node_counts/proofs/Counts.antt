-- Counts kept or cleared node by node; and that a salvage's own counts are these.
use mathlib.Core.Path.{◌≡◌, sym, ap, ap₂, ◌∙◌}
use mathlib.Core.Bool.{Bool, true, false, ◌&&◌, cond}
use mathlib.Core.List.{List, map}
use Prim.Native.Nat.{ℕ, ◌+◌, ◌-◌, ◌≤◌, ◌<◌}
use native.Mathlib.Omega.{arith}
use native.Mathlib.Nat.{zero-add}
use native.Mathlib.Decide.{dec_lt}
use lib.Dec.{leb}
use lib.ListN.{length, get_or, set, length-set, length-map}
use lib.Seq.{get_or-set_same, get_or-set_other, ext_get_or}
use borrow.Author.Tests.{le-leb, lt-leb}
use Rattle.slices.specs.Lists.{range}
use Rattle.slices.proofs.Lists.{length-range, get_or-range, get_d_map}
use Rattle.tree.specs.Nodes.{leaf}
use Rattle.salvaged.specs.Nodes.{Input}
use Rattle.salvaged.specs.Columns.{new_keys, old_own, old_begin, new_count, new_own}
use Rattle.node_counts.specs.Counts.{count_at, counts_kept}

pub run_past : (begin own entries : ℕ) → entries < begin → false ≡ leb (begin + own) entries
run_past begin own entries h = sym (lt-leb (begin + own) entries (omega arith))

pub run-within : (begin own entries : ℕ) → begin ≤ entries → leb own (entries - begin) ≡ leb (begin + own) entries
run-within begin own entries h = go (dec_lt (entries - begin) own)
  where
    go : Dec (entries - begin < own) → leb own (entries - begin) ≡ leb (begin + own) entries
    go (yes l) = lt-leb own (entries - begin) l ∙ sym (lt-leb (begin + own) entries (omega arith))
    go (no n) = le-leb own (entries - begin) (omega arith) ∙ sym (le-leb (begin + own) entries (omega arith))

-- the first q counts are settled, the others not yet
pub record Settled (d : ℕ) (key begin own₀ : List ℕ) (entries : ℕ) (own : List ℕ) (q : ℕ) : Type 0 where
  pub within : q ≤ length key
  pub owns : length own ≡ length own₀
  pub done : (p : ℕ) → p < q → get_or own p 0 ≡ count_at d key begin own₀ entries p
  pub rest : (p : ℕ) → q ≤ p → get_or own p 0 ≡ get_or own₀ p 0

module _ (d : ℕ) (key begin own₀ : List ℕ) (entries : ℕ) where
  module _ (own : List ℕ) (q : ℕ) (s : Settled d key begin own₀ entries own q) (l : q < length key) where
    pub settled_same : leaf d key (get_or key q 0) ≡ true → leb (get_or begin q 0 + get_or own q 0) entries ≡ true → Settled d key begin own₀ entries own (q + 1)
    unfolding count_at
    settled_same a b = record { within = omega arith; owns = s.owns; done = λ p h. go p h (dec_lt p q); rest = λ p h. s.rest p (omega arith) }
      where
        go : (p : ℕ) → p < q + 1 → Dec (p < q) → get_or own p 0 ≡ count_at d key begin own₀ entries p
        go p h (yes g) = s.done p g
        go p h (no g) =
            let z : p ≡ q = omega arith in
            let e = s.rest q (omega arith) in
            ap (λ x. get_or own x 0) z ∙ e
            ∙ sym (ap₂ (λ (x y : Bool). cond (x && y) (get_or own₀ q 0) 0) a (ap (λ n. leb (get_or begin q 0 + n) entries) (sym e) ∙ b))
            ∙ ap (count_at d key begin own₀ entries) (sym z)

    cleared_by : count_at d key begin own₀ entries q ≡ 0 → q < length own → Settled d key begin own₀ entries (set own q 0) (q + 1)
    cleared_by e f = record {
      within = omega arith;
      owns = length-set own q 0 ∙ s.owns;
      done = λ p h. go p h (dec_lt p q);
      rest = λ p h. get_or-set_other own q p 0 0 (λ z. omega arith) ∙ s.rest p (omega arith);
    }
      where
        go : (p : ℕ) → p < q + 1 → Dec (p < q) → get_or (set own q 0) p 0 ≡ count_at d key begin own₀ entries p
        go p h (yes g) = get_or-set_other own q p 0 0 (λ z. omega arith) ∙ s.done p g
        go p h (no g) = let z : p ≡ q = omega arith in ap (λ x. get_or (set own q 0) x 0) z ∙ get_or-set_same own q 0 0 f ∙ sym e ∙ ap (count_at d key begin own₀ entries) (sym z)

    pub settled-past : leaf d key (get_or key q 0) ≡ true → leb (get_or begin q 0 + get_or own q 0) entries ≡ false → q < length own → Settled d key begin own₀ entries (set own q 0) (q + 1)
    unfolding count_at
    settled-past a b = cleared_by (ap₂ (λ (x y : Bool). cond (x && y) (get_or own₀ q 0) 0) a (ap (λ n. leb (get_or begin q 0 + n) entries) (sym (s.rest q (omega arith))) ∙ b))

    pub settled-inner : leaf d key (get_or key q 0) ≡ false → q < length own → Settled d key begin own₀ entries (set own q 0) (q + 1)
    unfolding count_at
    settled-inner a = cleared_by (ap (λ (x : Bool). cond (x && leb (get_or begin q 0 + get_or own₀ q 0) entries) (get_or own₀ q 0) 0) a)

  pub settled-all : (own : List ℕ) (q : ℕ) → length own₀ ≡ length key → Settled d key begin own₀ entries own q → length key ≤ q → own ≡ counts_kept d key begin own₀ entries
  settled-all own q e s h = ext_get_or 0 own (counts_kept d key begin own₀ entries) (s.owns ∙ e ∙ sym (length-map (range 0 (length key)) (count_at d key begin own₀ entries) ∙ length-range 0 (length key)))
      (λ p l. let f : p < length key = omega (arith, s.owns) in
      s.done p (omega arith) ∙ sym (get_d_map (count_at d key begin own₀ entries) (range 0 (length key)) p (omega (arith, length-range 0 (length key)))
      ∙ ap (count_at d key begin own₀ entries) (get_or-range 0 (length key) p f ∙ zero-add p)))

-- from the first rows' columns the counts are those of the salvage
pub counts-new : (i : Input) → counts_kept i.axes (new_keys i) (map (old_begin i) (new_keys i)) (map (old_own i) (new_keys i)) (length i.order) ≡ new_own i
unfolding new_own new_count count_at
counts-new i = ext_get_or 0 (counts_kept i.axes (new_keys i) (map (old_begin i) (new_keys i)) (map (old_own i) (new_keys i)) (length i.order)) (new_own i)
    (many ∙ sym (length-map (new_keys i) (new_count i)))
    (λ p l. let f : p < length (new_keys i) = omega (arith, many) in
    get_d_map (count_at i.axes (new_keys i) (map (old_begin i) (new_keys i)) (map (old_own i) (new_keys i)) (length i.order)) (range 0 (length (new_keys i))) p (omega (arith, length-range 0 (length (new_keys i))))
    ∙ ap (count_at i.axes (new_keys i) (map (old_begin i) (new_keys i)) (map (old_own i) (new_keys i)) (length i.order)) (get_or-range 0 (length (new_keys i)) p f ∙ zero-add p)
    ∙ ap₂ (λ (b o : ℕ). cond (leaf i.axes (new_keys i) (get_or (new_keys i) p 0) && leb (b + o) (length i.order)) o 0) (get_d_map (old_begin i) (new_keys i) p f) (get_d_map (old_own i) (new_keys i) p f)
    ∙ sym (get_d_map (new_count i) (new_keys i) p f))
  where
    many : length (counts_kept i.axes (new_keys i) (map (old_begin i) (new_keys i)) (map (old_own i) (new_keys i)) (length i.order)) ≡ length (new_keys i)
    many = length-map (range 0 (length (new_keys i))) (count_at i.axes (new_keys i) (map (old_begin i) (new_keys i)) (map (old_own i) (new_keys i)) (length i.order)) ∙ length-range 0 (length (new_keys i))
