-- The counts around a cell, asked of sums: the laws on counts serve whichever sources the sums are of.
use mathlib.Core.Path.{◌≡◌}
use mathlib.Core.List.{List}
use mathlib.Core.Logic.{⊎_elim}
use Prim.Native.Nat.{ℕ, ◌+◌, ◌*◌, ◌^◌, ◌≤◌, ◌<◌}
use native.Mathlib.Omega.{arith}
use lib.ListN.{get_or}
use Rattle.slices.proofs.Tests.{lt-or-le}
use Rattle.morton.specs.declared.KeyList.{KeyList}
use Rattle.morton.specs.Keys.{level_of, ValidKey}
use Rattle.morton.specs.Answers.{key_list}
use Rattle.neighbours.specs.Directions.{neighbours}
use Rattle.refine.specs.declared.Around.{Around}
use Rattle.refine.specs.Counts.{sources_in}
use Rattle.refine.specs.Refinement.{lifted, counts_around, around_by, Refinable}
use Rattle.refine.proofs.Lifting.{lift-stays, lift-level, lift-valid}
use Rattle.refine.proofs.Peers.{Counting, own-fits, counting-start, counting-room, other-valid, counting-fits, counting_more, counting-end}
use Rattle.refine.proofs.Factors.{around-fits}
use Rattle.refine.specs.Sums.{Sums, Summed, OfSources}

-- a cell that is lifted lies above the depth
pub lift-above : (d depth k : ℕ) → ValidKey d k → 1 ≤ depth → level_of (lifted d depth k) < depth
lift-above d depth k v deep = ⊎_elim (λ h. rw (← lift-stays d depth k v deep h) h) (λ h. omega (arith, lift-level d depth k v deep h)) (lt-or-le (level_of k) depth)

-- the cell and the first i of its neighbours are counted, whichever the sources are
abbrev pub CountingBySums : ℕ → ℕ → List ℕ → ℕ → List ℕ → ℕ → ℕ → ℕ → ℕ → Type 0
CountingBySums d depth sums k others len s q i = OfSources d depth sums (λ sources. Counting d depth sources k others len s q i)

-- how many sources a cell has, whichever they are
abbrev pub Found : ℕ → ℕ → List ℕ → ℕ → ℕ → Type 0
Found d depth sums cell r = OfSources d depth sums (λ sources. r ≡ sources_in d sources cell)

module _ (d depth k : ℕ) (sums : List ℕ) (v : ValidKey d k) where
  refinable : (sources : List ℕ) → Sums d depth sources sums → Refinable d k depth sources
  refinable sources s = record { good = v; deep = s.deep; few = s.few }

  pub start : (list : KeyList) (cell own : ℕ) → list ≡ key_list (neighbours d k) → cell ≡ lifted d depth k → Found d depth sums cell own
      → CountingBySums d depth sums k list.keys list.len own (own * own) 0
  start list cell own e l f sources s =
      counting-start d depth k sources (refinable sources s) list cell own e l (f sources s)

  pub end : (others : List ℕ) (len s q i : ℕ) → CountingBySums d depth sums k others len s q i → len ≤ i
      → OfSources d depth sums (λ sources. ◌≡◌ {A = Around} (record { peers = len + 1; sum = s; squares = q }) (around_by (counts_around d depth sources k)))
  end others len s q i c h sources t =
      counting-end d depth k sources (refinable sources t) others len s q i (c sources t) h

  pub more : (others : List ℕ) (len s q i : ℕ) → CountingBySums d depth sums k others len s q i → i < len
      → (cell found : ℕ) → cell ≡ lifted d depth (get_or others i 0) → Found d depth sums cell found
      → CountingBySums d depth sums k others len (s + found) (q + found * found) (i + 1)
  more others len s q i c h cell found l f sources t =
      counting_more d depth k sources (refinable sources t) others len s q i (c sources t) h cell found l (f sources t)

  -- that the sums are of some sources is what keeps all in bounds
  module _ (w : Summed d depth sums) where
    pub own-small : (cell own : ℕ) → cell ≡ lifted d depth k → Found d depth sums cell own → own * own < 2 ^ 64
    own-small cell own l f = own-fits d depth k w.0 (refinable w.0 w.1) cell own l (f w.0 w.1)

    module _ (others : List ℕ) (len s q i : ℕ) (c : CountingBySums d depth sums k others len s q i) where
      pub room : len ≤ 26
      room = counting-room d depth k w.0 (refinable w.0 w.1) others len s q i (c w.0 w.1)

      pub valid-other : i < len → ValidKey d (get_or others i 0)
      valid-other h = other-valid d depth k w.0 (refinable w.0 w.1) others len s q i (c w.0 w.1) h

      pub fits : i < len → (cell found : ℕ) → cell ≡ lifted d depth (get_or others i 0) → Found d depth sums cell found
          → (s + found < 2 ^ 64) × (found * found < 2 ^ 64) × (q + found * found < 2 ^ 64)
      fits h cell found l f =
          counting-fits d depth k w.0 (refinable w.0 w.1) others len s q i (c w.0 w.1) h cell found l (f w.0 w.1)

    pub test_fits : (a : Around) → OfSources d depth sums (λ sources. a ≡ around_by (counts_around d depth sources k))
        → (a.peers * a.squares < 2 ^ 64) × (a.sum * a.sum < 2 ^ 62)
    test_fits a e = around-fits d depth k w.0 (refinable w.0 w.1) a (e w.0 w.1)

    pub lifted-good : (cell j : ℕ) → ValidKey d j → cell ≡ lifted d depth j → ValidKey d cell × (level_of cell < depth) × Summed d depth sums
    lifted-good cell j u e = rw e (lift-valid d depth j u w.1.deep, lift-above d depth j u w.1.deep, w)
