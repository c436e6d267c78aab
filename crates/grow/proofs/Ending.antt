-- The end of the growth: the columns are those of the tree, and the words stand in the order of its order column.
use mathlib.Core.Path.{◌≡◌, refl, sym, ap, ap₂, ◌∙◌, subst}
use mathlib.Core.Bool.{Bool, true, false, not, cond}
use mathlib.Core.List.{List, [], ◌∷◌, ◌++◌, map, append-nil}
use Prim.Native.Nat.{ℕ, ◌+◌, ◌*◌, ◌%◌, ◌≤◌, ◌<◌}
use native.Mathlib.Omega.{arith}
use lib.ListN.{length, get_or, set, take, drop, length-set}
use lib.Pow.{low}
use lib.Seq.{take-suc, take-suc-set, drop-set-lt}
use native.Mathlib.Numerals.{add-one}
use Rattle.slices.specs.Lists.{filter, sum, Mem}
use Rattle.slices.proofs.Counts.{here, there}
use Rattle.tree.specs.Nodes.{leaf}
use Rattle.tree.specs.Totals.{total_in, total_column}
use Rattle.growth.specs.declared.Rule.{Rule}
use Rattle.growth.specs.Columns.{own_column, indices_in, order_column}
use Rattle.growth.proofs.Arranged.{indices-hold}
use Rattle.growth.proofs.Leaves.{leaf-unsplit}
use Rattle.growth.proofs.Joined.{mem-concat}
use Rattle.growth.specs.Nodes.{preorder, nodes}
use Rattle.growth.proofs.CellTotals.{total-sources}
use Rattle.dealing.specs.Dealt.{word_of}
use Rattle.dealing.proofs.Laws.{map-join}
use Rattle.parting.specs.Cells.{Points, splitting, size_of, within}
use Rattle.grow.specs.Cells.{own_in, owned_by}
use Rattle.grow.specs.Rows.{mark_of, sum_marked, own_marked, Marked}
use Rattle.parting.specs.Setting.{Setting, Given}
use Rattle.parting.specs.Parts.{source_codes, target_codes, points_of}
use Rattle.grow.specs.Steps.{Stands, Built, Grown, Grows, IndicesTaken}
use Rattle.parting.proofs.Joins.{concat-same, concat-filter}
use Rattle.grow.proofs.Putting.{map-agree, map-twice, owned-length}
use Rattle.grow.proofs.Spreading.{own-told, sum_told}

module _ (g : Rule) (p : Points) (z : Setting) (v : Given g z p) where
  abbrev keys : List ℕ
  keys = nodes g p.sources p.targets

  -- the leaves are the nodes that do not split
  leaf-is : (k : ℕ) → Mem k (nodes g p.sources p.targets) → leaf g.axes (nodes g p.sources p.targets) k ≡ not (splitting g p k)
  leaf-is k m = leaf-unsplit g p.sources p.targets v.known k m

  pub owns-are : map (own_in g p) (nodes g p.sources p.targets) ≡ own_column g.axes (nodes g p.sources p.targets) p.sources
  unfolding own_column
  owns-are = map-agree (own_in g p) (λ k. cond (leaf g.axes (nodes g p.sources p.targets) k) (size_of g p k) 0) (nodes g p.sources p.targets)
      (λ k m. flip (splitting g p k) (size_of g p k) ∙ ap (λ (b : Bool). cond b (size_of g p k) 0) (sym (leaf-is k m)))
    where
      flip : (b : Bool) (x : ℕ) → cond b 0 x ≡ cond (not b) x 0
      flip true x = refl
      flip false x = refl

  pub totals-are : map (size_of g p) (nodes g p.sources p.targets) ≡ total_column g.axes (nodes g p.sources p.targets) (own_column g.axes (nodes g p.sources p.targets) p.sources)
  totals-are = map-agree (size_of g p) (total_in g.axes (nodes g p.sources p.targets) (own_column g.axes (nodes g p.sources p.targets) p.sources)) (nodes g p.sources p.targets)
      (λ k m. sym (total-sources g p.sources p.targets v.known v.codes k m))

  pub order_is : owned_by g p (nodes g p.sources p.targets) ≡ order_column g.axes (nodes g p.sources p.targets) p.sources
  unfolding owned_by order_column
  order_is =
      concat-same (λ k. cond (splitting g p k) [] (within g p k)) (λ k. cond (leaf g.axes (nodes g p.sources p.targets) k) (within g p k) []) (nodes g p.sources p.targets)
      (λ k m. flip (splitting g p k) (within g p k) ∙ ap (λ (b : Bool). cond b (within g p k) []) (sym (leaf-is k m)))
      ∙ sym (concat-filter (within g p) (leaf g.axes (nodes g p.sources p.targets)) (nodes g p.sources p.targets))
    where
      flip : (b : Bool) (xs : List ℕ) → cond b [] xs ≡ cond (not b) xs []
      flip true xs = refl
      flip false xs = refl

pub nodes_are : (g : Rule) (s t : List ℕ) → [] ++ preorder g s t (2 * 8) 0 ≡ nodes g s t
unfolding nodes
nodes_are g s t = refl

-- all is put
module _ (g : Rule) (z : Setting) (work work' : List ℕ) (s : Marked) (len : length work' ≡ length work) where
  abbrev p : Points
  p = points_of z work

  abbrev all : List ℕ
  all = nodes g (source_codes z work) (target_codes z work)

  module _ (q : Stands g z (points_of z work) work' s z.sources (nodes g (source_codes z work) (target_codes z work)) []) where
    -- there is room for all, in the columns too
    module _ (few : s.number ≤ z.room) (key-room : z.room ≤ length s.key) (mark-room : z.room ≤ length s.mark) where
      same : length all ≡ s.number
      same = omega (arith, q.rows.counted)

      marks-are : take s.number s.mark ≡ map (λ k. mark_of (size_of g p k) (splitting g p k)) all
      marks-are = ap (λ (i : ℕ). take i s.mark) (sym same) ∙ (q.rows.filled (omega (arith, q.rows.counted)) key-room mark-room).marks

      told : (f h : ℕ → ℕ) → ((k : ℕ) → f (mark_of (size_of g p k) (splitting g p k)) ≡ h k) → map f (take s.number s.mark) ≡ map h all
      told f h e = ap (map f) marks-are ∙ map-twice f (λ k. mark_of (size_of g p k) (splitting g p k)) all ∙ map-agree (λ k. f (mark_of (size_of g p k) (splitting g p k))) h all (λ k _. e k)

      owns-told : map own_marked (take s.number s.mark) ≡ map (own_in g p) all
      owns-told = told own_marked (own_in g p) (λ k. own-told (size_of g p k) (splitting g p k))

      built : Built g (source_codes z work) (target_codes z work) s
      built = record {
        keys = ap (λ (i : ℕ). take i s.key) (sym same) ∙ (q.rows.filled (omega (arith, q.rows.counted)) key-room mark-room).keys;
        owns = owns-told ∙ owns-are g p z q.behind.given;
        totals = told sum_marked (size_of g p) (λ k. sum_told (size_of g p k) (splitting g p k)) ∙ totals-are g p z q.behind.given;
        few = omega (arith, ap sum owns-told, owned-length g p all, (q.ordered few).reached, q.behind.given.few);
      }

    all_grown : Grows g z work work' s
    all_grown = record {
      counted = q.rows.counted;
      rows = built;
      words = λ few. (q.ordered few).words.words ∙ ap (map (word_of (source_codes z work))) (append-nil (owned_by g p all) ∙ order_is g p z q.behind.given);
      kept = len;
      beyond = q.behind.beyond;
    }

  pub grown : Stands g z (points_of z work) work' s z.sources ([] ++ preorder g (source_codes z work) (target_codes z work) (2 * 8) 0) [] → Grows g z work work' s
  grown r = all_grown (subst (λ (xs : List ℕ). Stands g z p work' s z.sources xs []) (nodes_are g (source_codes z work) (target_codes z work)) r)

-- ---- the indices of the words
word-index : (codes : List ℕ) (i : ℕ) → i < 1048576 → word_of codes i % 1048576 ≡ i
word-index codes i h = low (get_or codes i 0 % 17592186044416) 20 h

indices-of : (codes xs : List ℕ) → ((i : ℕ) → Mem i xs → i < 1048576) → map (λ w. w % 1048576) (map (word_of codes) xs) ≡ xs
indices-of codes [] h = refl
indices-of codes (x ∷ xs) h = ap₂ (λ (a : ℕ) (t : List ℕ). a ∷ t) (word-index codes x (h x (here x xs))) (indices-of codes xs (λ i m. h i (there x i xs m)))

-- what `take_indices` writes after a growth is the order column
pub order-taken : (g : Rule) (z : Setting) (sources targets work work' order order' : List ℕ) (s : Marked) → length sources ≤ 1048576
    → Grown g z sources targets work work' s → s.number ≤ z.room → IndicesTaken z.sources work' order order' → take z.sources order' ≡ order_column g.axes (nodes g sources targets) sources
unfolding order_column
order-taken g z sources targets work work' order order' s few q fits t =
    t.taken
    ∙ ap (map (λ w. w % 1048576)) (q.words fits)
    ∙ indices-of sources (order_column g.axes (nodes g sources targets) sources)
    (λ i m. let r = mem-concat (indices_in g.axes sources) (filter (leaf g.axes (nodes g sources targets)) (nodes g sources targets)) i m in omega (arith, (indices-hold g.axes sources r.0 i r.2).0))

-- ---- the loop that takes them
pub record Taking (n : ℕ) (work order₀ order : List ℕ) (i : ℕ) : Type 0 where
  pub upto : i ≤ n
  pub kept : length order ≡ length order₀
  pub taken : take i order ≡ map (λ w. w % 1048576) (take i work)
  pub rest : drop n order ≡ drop n order₀

module _ (n : ℕ) (work order₀ : List ℕ) (inside : n ≤ length work) (room : n ≤ length order₀) where
  pub taking-start : Taking n work order₀ order₀ 0
  taking-start = record { upto = omega arith; kept = refl; taken = refl; rest = refl }

  pub taking-more : (order : List ℕ) (i : ℕ) → Taking n work order₀ order i → i < n → Taking n work order₀ (set order i (get_or work i 0 % 1048576)) (i + 1)
  taking-more order i g l = record {
    upto = omega arith;
    kept = length-set order i (get_or work i 0 % 1048576) ∙ g.kept;
    taken =
        ap (λ (j : ℕ). take j (set order i (get_or work i 0 % 1048576))) (add-one i)
        ∙ take-suc-set order i (get_or work i 0 % 1048576) (omega (arith, g.kept))
        ∙ ap (λ (t : List ℕ). t ++ (get_or work i 0 % 1048576) ∷ []) g.taken
        ∙ sym (ap (λ (j : ℕ). map (λ w. w % 1048576) (take j work)) (add-one i) ∙ ap (map (λ w. w % 1048576)) (take-suc work i 0 (omega arith)) ∙ map-join (λ w. w % 1048576) (take i work) (get_or work i 0 ∷ []));
    rest = drop-set-lt n order i (get_or work i 0 % 1048576) l ∙ g.rest;
  }

  pub taking-done : (order : List ℕ) (i : ℕ) → Taking n work order₀ order i → n ≤ i → IndicesTaken n work order₀ order
  taking-done order i g h =
      let e : i ≡ n = omega (arith, g.upto) in
      record { taken = ap (λ (j : ℕ). take j order) (sym e) ∙ g.taken ∙ ap (λ (j : ℕ). map (λ w. w % 1048576) (take j work)) e; rest = g.rest }
