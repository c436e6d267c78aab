-- The counts around a cell, as the loop over its neighbours takes them.
use mathlib.Core.Path.{◌≡◌, refl, sym, ap, ap₂, ◌∙◌}
use mathlib.Core.Bool.{Bool, true}
use mathlib.Core.List.{List, ◌∷◌, map}
use Prim.Native.Nat.{ℕ, suc, ◌+◌, ◌*◌, ◌^◌, ◌≤◌, ◌<◌}
use native.Mathlib.Omega.{arith}
use lib.ListN.{length, get_or, length-map}
use Rattle.slices.specs.Lists.{filled, filter, range}
use Rattle.slices.proofs.Lists.{get_or-filled, filter-shorter, length-range}
use Rattle.slices.proofs.Sorted.{count-le}
use Rattle.morton.specs.declared.KeyList.{KeyList}
use Rattle.morton.specs.Keys.{level_of, code_of, ValidKey, axes_known, valid}
use Rattle.neighbours.specs.Directions.{directions, on_box, toward, neighbours}
use Rattle.morton.specs.Answers.{key_list}
use Rattle.neighbours.proofs.Along.{rows_few}
use Rattle.neighbours.proofs.Laws.{neighbours-are}
use Rattle.refine.specs.declared.Around.{Around}
use Rattle.refine.specs.Counts.{count_at, sources_in}
use Rattle.refine.specs.Refinement.{lifted, counts_around, around_by, Refinable}
use Rattle.refine.proofs.Summing.{map_at, square-small, Summed, summed-first, summed-more, summed-fits, summed-all}

-- a cell has no more codes than there are
pub count-at-few : (d : ℕ) (codes : List ℕ) (level code : ℕ) → count_at d codes level code ≤ length codes
unfolding count_at
count-at-few d codes level code = count-le _ codes

-- at most 26 neighbours
pub neighbours-few : (d k : ℕ) → length (neighbours d k) ≤ 26
neighbours-few d k =
    omega (
      arith,
      length-map (filter (on_box d k) (range 0 (length (directions d)))) (toward d k),
      filter-shorter (on_box d k) (range 0 (length (directions d))),
      length-range 0 (length (directions d)),
      rows_few d,
    )

-- the count found for a peer
abbrev pub seen : ℕ → ℕ → List ℕ → ℕ → ℕ
seen d depth sources p = sources_in d sources (lifted d depth p)

counts_are : (d depth : ℕ) (sources : List ℕ) (k : ℕ) → counts_around d depth sources k ≡ seen d depth sources k ∷ map (seen d depth sources) (neighbours d k)
unfolding counts_around
counts_are d depth sources k = refl

counts-length : (d depth : ℕ) (sources : List ℕ) (k : ℕ) → length (counts_around d depth sources k) ≡ length (neighbours d k) + 1
counts-length d depth sources k = ap length (counts_are d depth sources k) ∙ omega (arith, length-map (neighbours d k) (seen d depth sources))

-- the cell and the first i of its neighbours are counted
pub record Counting (d depth : ℕ) (sources : List ℕ) (k : ℕ) (others : List ℕ) (len s q i : ℕ) : Type 0 where
  pub keys : others ≡ filled 26 (neighbours d k)
  pub all : len ≡ length (neighbours d k)
  pub within : i ≤ len
  pub summed : Summed (counts_around d depth sources k) (i + 1) s q

module _ (d depth k : ℕ) (sources : List ℕ) (g : Refinable d k depth sources) where
  abbrev look : ℕ → ℕ
  look = seen d depth sources

  abbrev around : List ℕ
  around = counts_around d depth sources k

  pub few-seen : (p : ℕ) → look p ≤ 1048576
  few-seen p = omega (arith, g.few, count-at-few d sources (level_of (lifted d depth p)) (code_of (lifted d depth p)))

  pub own-fits : (cell own : ℕ) → cell ≡ lifted d depth k → own ≡ sources_in d sources cell → own * own < 2 ^ 64
  own-fits cell own l h = let o : own ≡ look k = h ∙ ap (sources_in d sources) l in omega (arith, square-small own (omega (arith, few-seen k)))

  pub counting-start : (list : KeyList) (cell own : ℕ) → list ≡ key_list (neighbours d k) → cell ≡ lifted d depth k → own ≡ sources_in d sources cell
      → Counting d depth sources k list.keys list.len own (own * own) 0
  counting-start list cell own e l h =
      let o : own ≡ look k = h ∙ ap (sources_in d sources) l in
      record {
        keys = ap (λ (a : KeyList). a.keys) e;
        all = ap (λ (a : KeyList). a.len) e;
        within = omega arith;
        summed = rw (counts_are d depth sources k, o) (summed-first (look k) (map look (neighbours d k)) (few-seen k));
      }

  module _ (others : List ℕ) (len s q i : ℕ) (c : Counting d depth sources k others len s q i) where
    pub counting-room : len ≤ 26
    counting-room = omega (arith, c.all, neighbours-few d k)

    module _ (h : i < len) where
      other-is : get_or others i 0 ≡ get_or (neighbours d k) i 0
      other-is = ap (λ (l : List ℕ). get_or l i 0) c.keys ∙ get_or-filled 26 (neighbours d k) i (omega (arith, c.all))

      pub other-valid : ValidKey d (get_or others i 0)
      other-valid =
          let l : i < length (neighbours d k) = omega (arith, c.all) in
          rw other-is ((neighbours-are d k g.good (get_or (neighbours d k) i 0)).0 (i, l, refl)).0

      module _ (cell found : ℕ) (l : cell ≡ lifted d depth (get_or others i 0)) (f : found ≡ sources_in d sources cell) where
        is_seen : found ≡ look (get_or (neighbours d k) i 0)
        is_seen = f ∙ ap (sources_in d sources) l ∙ ap look other-is

        found-few : found ≤ 1048576
        found-few = omega (arith, is_seen, few-seen (get_or (neighbours d k) i 0))

        place : get_or around (i + 1) 0 ≡ look (get_or (neighbours d k) i 0)
        place =
            let e : i + 1 ≡ suc i = omega arith in
            ap₂ (λ (l : List ℕ) (n : ℕ). get_or l n 0) (counts_are d depth sources k) e ∙ map_at look (neighbours d k) i (omega (arith, c.all))

        pub counting-fits : (s + found < 2 ^ 64) × (found * found < 2 ^ 64) × (q + found * found < 2 ^ 64)
        counting-fits = summed-fits around (i + 1) s q c.summed found (omega (arith, counting-room)) found-few

        pub counting_more : Counting d depth sources k others len (s + found) (q + found * found) (i + 1)
        counting_more = record {
          keys = c.keys;
          all = c.all;
          within = omega arith;
          summed = summed-more around (i + 1) s q c.summed found (omega (arith, counts-length d depth sources k, c.all)) (is_seen ∙ sym place) found-few;
        }

    pub counting-end : len ≤ i → ◌≡◌ {A = Around} (record { peers = len + 1; sum = s; squares = q }) (around_by around)
    counting-end h =
        let t = summed-all around (i + 1) s q c.summed (omega (arith, counts-length d depth sources k, c.all)) in
        let e : len + 1 ≡ length around = omega (arith, counts-length d depth sources k, c.all) in
        rw (e, t.0, t.1)
