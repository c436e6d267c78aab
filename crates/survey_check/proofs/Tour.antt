-- The pass over the nodes: what is far on the path from the root to the node before, and how many leaves agreed so far.
use mathlib.Core.Path.{◌≡◌, refl, sym, ap, ap₂, ◌∙◌, subst}
use mathlib.Core.Bool.{Bool, true, false}
use mathlib.Core.List.{List, [], map}
use mathlib.Core.Logic.{⊎_elim}
use Prim.Native.Nat.{ℕ, suc, ◌+◌, ◌-◌, ◌≤◌, ◌<◌, min}
use native.Mathlib.Omega.{arith}
use native.Mathlib.Numerals.{add-one}
use lib.IntN.{ℤ}
use lib.ListN.{length, get_or, set, take, replicate, length-map}
use lib.Seq.{take_all}
use Rattle.slices.specs.Lists.{sum, bit, count, Mem}
use Rattle.slices.proofs.Lists.{get_d_map}
use Rattle.slices.proofs.Sums.{sum-take, sum_same, sum-bits}
use Rattle.slices.proofs.Tests.{clash, lt-or-le}
use Rattle.morton.specs.Keys.{level_of, parent}
use Rattle.tree.specs.Columns.{columns}
use Rattle.tree.specs.Nodes.{leaf, stored}
use Rattle.tree.proofs.Rules as Rules
use Rattle.tree.proofs.Members.{root-no-leaf}
use Rattle.tree.proofs.Stored.{stored-mem, level-le}
use Rattle.rows.specs.Written.{row_at, row_of}
use Rattle.list_check.proofs.Riding.{Rides, ride-start, ride-in, ride-above, ride-more}
use Rattle.row_sums.specs.Climb.{far_cells}
use Rattle.cell_sums.specs.Lifted.{row_lifted, Before}
use Rattle.survey_check.specs.Answers.{most_additions, agrees, additions_at, agreeing, all_additions}
use Rattle.survey_check.specs.Pass.{Passed, far_lifted, FarKnown}
use Rattle.survey_check.proofs.Ancestors.{up_root, up_more}
use Rattle.survey_check.proofs.Leaves as of

module _ (d : ℕ) (keys own begin total : List ℕ) (readings : List ℤ) (order us uk vs vk : List ℕ) where
  abbrev far : ℕ → ℕ
  far = far_lifted d keys total begin order readings vs vk

  abbrev cells : ℕ → ℕ
  cells = far_cells d keys vs vk

  abbrev agreed : List ℕ
  agreed = map (λ b. bit (agrees d (columns keys own begin total) order readings b)) keys

  abbrev adds : List ℕ
  adds = map (additions_at d (columns keys own begin total) order readings) keys

  pub record Touring (fars cellss : List ℕ) (leaves additions i : ℕ) : Type 0 where
    pub some : 0 < i
    pub upto : i ≤ length keys
    pub far-rides : Rides d keys (far_lifted d keys total begin order readings vs vk) fars i
    pub cells-rides : Rides d keys (far_cells d keys vs vk) cellss i
    pub leaves-is : leaves ≡ sum (take i (map (λ b. bit (agrees d (columns keys own begin total) order readings b)) keys))
    pub leaves-few : leaves ≤ i
    pub additions-is : additions ≡ min (sum (take i (map (additions_at d (columns keys own begin total) order readings) keys))) most_additions

  module _ (p : Passed d keys own begin total readings order us uk vs vk) where
    w : Rules.WellFormed d keys own begin
    w = of.w d keys own begin total readings order us uk vs vk p

    -- ---- the root
    root-row : row_of keys vs vk 0 ≡ []
    root-row = ap (row_of keys vs vk) (sym w.ascending.root) ∙ of.row-at d keys own begin total readings order us uk vs vk p vs vk 0 w.some
        ∙ of.root-far d keys own begin total readings order us uk vs vk p

    first : (f : ℕ → ℕ) → f (get_or keys 0 0) ≡ 0 → 0 ≡ sum (take 1 (map f keys))
    unfolding sum
    first f e = omega (arith, sum-take (map f keys) 0, get_d_map f keys 0 w.some)

    inner : leaf d keys (get_or keys 0 0) ≡ false
    inner = root-no-leaf d keys (get_or keys 0 0) w.ascending.root

    pub tour-start : Touring (replicate 17 0) (replicate 17 0) 0 0 1
    unfolding sum
    tour-start = record {
      some = omega arith;
      upto = omega (arith, w.some);
      far-rides = ride-start d keys far own begin w (up_root d (λ a. row_lifted keys total begin order readings (row_of keys vs vk a)) 0 refl ∙ ap (row_lifted keys total begin order readings) root-row);
      cells-rides = ride-start d keys cells own begin w (up_root d (λ a. length (row_of keys vs vk a)) 0 refl ∙ ap length root-row);
      leaves-is = first (λ b. bit (agrees d (columns keys own begin total) order readings b)) (sym (of.inner-agrees d keys own begin total readings order us uk vs vk p (get_or keys 0 0) inner));
      leaves-few = omega arith;
      additions-is = ap (λ n. min n most_additions) (first (additions_at d (columns keys own begin total) order readings) (sym (of.inner-additions d keys own begin total readings order us uk vs vk p (get_or keys 0 0) inner)));
    }

    -- no node has the key that the slots start with
    pub no_node : stored keys 32767 ≡ false
    no_node = go (stored keys 32767) refl
      where
        go : (b : Bool) → stored keys 32767 ≡ b → b ≡ false
        go false e = refl
        go true e = let q : 32767 ≤ 16 = level-le d keys w.ascending 32767 (stored-mem keys 32767 e) in absurd (omega arith)

    -- ---- one node more
    module _ (fars cellss : List ℕ) (leaves additions i : ℕ) (g : Touring fars cellss leaves additions i) (l : i < length keys) where
      abbrev k : ℕ
      k = get_or keys i 0

      pub tour-deep : 0 < level_of k
      tour-deep = of.deep d keys own begin total readings order us uk vs vk p i g.some l

      pub far-in : level_of k < length fars
      far-in = ride-in d keys far own begin w i g.some l fars g.far-rides

      pub cells_in : level_of k < length cellss
      cells_in = ride-in d keys cells own begin w i g.some l cellss g.cells-rides

      module _ (x n : ℕ) (sum-is : x ≡ row_lifted keys total begin order readings (row_at vs vk i)) (length_is : n ≡ length (row_at vs vk i)) where
        met_is : get_or fars (level_of k - 1) 0 + x ≡ far k
        met_is = omega (
          arith,
          ride-above d keys far own begin w i g.some l fars g.far-rides,
          up_more d (λ a. row_lifted keys total begin order readings (row_of keys vs vk a)) k tour-deep,
          sum-is,
          ap (row_lifted keys total begin order readings) (of.row-at d keys own begin total readings order us uk vs vk p vs vk i l),
        )

        listed_is : get_or cellss (level_of k - 1) 0 + n ≡ cells k
        listed_is = omega (
          arith,
          ride-above d keys cells own begin w i g.some l cellss g.cells-rides,
          up_more d (λ a. length (row_of keys vs vk a)) k tour-deep,
          length_is,
          ap length (of.row-at d keys own begin total readings order us uk vs vk p vs vk i l),
        )

        pub met-fits : (sums : List ℕ) → Before order readings sums → get_or fars (level_of k - 1) 0 + x ≤ 2305843009213693952
        met-fits sums b = omega (arith, met_is, of.far-size d keys own begin total readings order us uk vs vk p i g.some l sums b)

        pub listed-fits : get_or cellss (level_of k - 1) 0 + n ≤ 1048576
        listed-fits = omega (arith, listed_is, of.cells_few d keys own begin total readings order us uk vs vk p i g.some l)

        pub far-known : FarKnown d keys total begin order readings vs vk i (get_or fars (level_of k - 1) 0 + x) (get_or cellss (level_of k - 1) 0 + n)
        far-known = record { some = g.some; within = l; met_is = met_is; listed_is = listed_is }

        module _ (more adding all : ℕ) (leaves-more : more ≡ bit (agrees d (columns keys own begin total) order readings k)) (additions-more : adding ≡ additions_at d (columns keys own begin total) order readings k)
            (all-is : all ≡ min (additions + adding) most_additions) where
          bit-few : (b : Bool) → bit b ≤ 1
          bit-few true = omega arith
          bit-few false = omega arith

          pub leaves-fit : leaves + more ≤ length keys
          leaves-fit = omega (arith, g.leaves-few, leaves-more, bit-few (agrees d (columns keys own begin total) order readings k))

          pub tour-more : Touring (set fars (level_of k) (get_or fars (level_of k - 1) 0 + x)) (set cellss (level_of k) (get_or cellss (level_of k - 1) 0 + n)) (leaves + more) all (i + 1)
          tour-more = record {
            some = omega arith;
            upto = omega arith;
            far-rides = ride-more d keys far own begin w i g.some l fars g.far-rides _ met_is;
            cells-rides = ride-more d keys cells own begin w i g.some l cellss g.cells-rides _ listed_is;
            leaves-is = omega (arith, g.leaves-is, leaves-more, sum-take agreed i, get_d_map (λ b. bit (agrees d (columns keys own begin total) order readings b)) keys i l, ap (λ m. sum (take m agreed)) (add-one i));
            leaves-few = omega (arith, g.leaves-few, leaves-more, bit-few (agrees d (columns keys own begin total) order readings k));
            additions-is = omega (arith, g.additions-is, additions-more, all-is, sum-take adds i, get_d_map (additions_at d (columns keys own begin total) order readings) keys i l, ap (λ m. sum (take m adds)) (add-one i));
          }

    pub tour-done : (fars cellss : List ℕ) (leaves additions i : ℕ) → Touring fars cellss leaves additions i → length keys ≤ i
        → (leaves ≡ agreeing d (columns keys own begin total) order readings) × (additions ≡ min (all_additions d (columns keys own begin total) order readings) most_additions)
    tour-done fars cellss leaves additions i g h = (
      g.leaves-is ∙ ap sum (take_all i agreed (omega (arith, length-map keys (λ b. bit (agrees d (columns keys own begin total) order readings b))))) ∙ sum-bits (agrees d (columns keys own begin total) order readings) keys,
      g.additions-is ∙ ap (λ xs. min (sum xs) most_additions) (take_all i adds (omega (arith, length-map keys (additions_at d (columns keys own begin total) order readings)))),
    )

    -- ---- every leaf agrees
    pub all-agree : agreeing d (columns keys own begin total) order readings ≡ count (leaf d keys) keys
    all-agree = sym (sum-bits (agrees d (columns keys own begin total) order readings) keys)
        ∙ sum_same (λ b. bit (agrees d (columns keys own begin total) order readings b)) (λ b. bit (leaf d keys b)) keys (λ b (i, l, e). subst (λ x. bit (agrees d (columns keys own begin total) order readings x) ≡ bit (leaf d keys x)) e (at i l (leaf d keys (get_or keys i 0)) refl))
        ∙ sum-bits (leaf d keys) keys
      where
        at : (i : ℕ) → i < length keys → (b : Bool) → leaf d keys (get_or keys i 0) ≡ b → bit (agrees d (columns keys own begin total) order readings (get_or keys i 0)) ≡ bit (leaf d keys (get_or keys i 0))
        at i l false e = sym (of.inner-agrees d keys own begin total readings order us uk vs vk p (get_or keys i 0) e) ∙ sym (ap bit e)
        at i l true e = ⊎_elim
            (λ (q : 0 < i). sym (of.agrees-here d keys own begin total readings order us uk vs vk p i q l e) ∙ sym (ap bit e))
            (λ (q : i ≤ 0). let z : i ≡ 0 = omega arith in absurd (clash e (ap (λ n. leaf d keys (get_or keys n 0)) z ∙ inner)))
            (lt-or-le 0 i)
