-- One row more in the key column and the marks; and what the nodes own.
use mathlib.Core.Path.{◌≡◌, refl, sym, ap, ap₂, subst, ◌∙◌}
use mathlib.Core.Bool.{Bool, true, false, cond}
use mathlib.Core.List.{List, [], ◌∷◌, ◌++◌, map}
use Prim.Native.Nat.{ℕ, suc, ◌+◌, ◌≤◌, ◌<◌, min}
use native.Mathlib.Omega.{arith}
use lib.ListN.{length, set, take, length-append, length-set}
use lib.Seq.{take-suc-set, take-append-le, take_at}
use Rattle.slices.specs.Lists.{sum, range, Mem}
use Rattle.slices.proofs.Counts.{here, there}
use Rattle.slices.proofs.Lists.{concat_map-append}
use Rattle.slices.proofs.Members.{mem-range}
use Rattle.dealing.proofs.Laws.{map-join}
use Rattle.growth.specs.declared.Rule.{Rule}
use Rattle.growth.specs.Columns.{begin_column}
use Rattle.growth.proofs.Arranged.{length-indices}
use Rattle.parting.specs.Cells.{Points, splitting, size_of, within}
use Rattle.grow.specs.Cells.{own_in, owned_by}
use Rattle.grow.specs.Rows.{mark_of, marked, Filled, Holds}
use Rattle.parting.proofs.Joins.{concat-one, concat-empty, concat-length, range-more}

pub map-agree : (f h : ℕ → ℕ) (xs : List ℕ) → ((x : ℕ) → Mem x xs → f x ≡ h x) → map f xs ≡ map h xs
map-agree f h [] e = refl
map-agree f h (x ∷ xs) e = ap₂ (λ (a : ℕ) (t : List ℕ). a ∷ t) (e x (here x xs)) (map-agree f h xs (λ y m. e y (there x y xs m)))

pub map-twice : (f h : ℕ → ℕ) (xs : List ℕ) → map f (map h xs) ≡ map (λ x. f (h x)) xs
map-twice f h [] = refl
map-twice f h (x ∷ xs) = ap (λ (t : List ℕ). f (h x) ∷ t) (map-twice f h xs)

-- the begin of one more node is the sum of all before it
pub begin-more : (own : List ℕ) (x : ℕ) → begin_column (own ++ x ∷ []) ≡ begin_column own ++ sum own ∷ []
unfolding begin_column
begin-more own x =
    let n = length own in
    let e : length (own ++ x ∷ []) ≡ suc n = length-append own (x ∷ []) ∙ omega arith in
    ap (λ (m : ℕ). map (λ i. sum (take i (own ++ x ∷ []))) (range 0 m)) e
    ∙ ap (map (λ i. sum (take i (own ++ x ∷ [])))) (range-more n)
    ∙ map-join (λ i. sum (take i (own ++ x ∷ []))) (range 0 n) (n ∷ [])
    ∙ ap₂ (λ (t u : List ℕ). t ++ u)
    (map-agree (λ i. sum (take i (own ++ x ∷ []))) (λ i. sum (take i own)) (range 0 n) (λ i m. ap sum (take-append-le i own (x ∷ []) (omega (arith, mem-range n i m)))))
    (ap (λ (t : List ℕ). sum t ∷ []) (take_at own (x ∷ []) n refl))

-- ---- what the nodes own
module _ (g : Rule) (p : Points) where
  pub owned-none : owned_by g p [] ≡ []
  unfolding owned_by
  owned-none = concat-empty (λ k. cond (splitting g p k) [] (within g p k))

  pub owned-join : (xs ys : List ℕ) → owned_by g p (xs ++ ys) ≡ owned_by g p xs ++ owned_by g p ys
  unfolding owned_by
  owned-join xs ys = concat_map-append (λ k. cond (splitting g p k) [] (within g p k)) xs ys

  pub owned-one : (k : ℕ) → owned_by g p (k ∷ []) ≡ cond (splitting g p k) [] (within g p k)
  unfolding owned_by
  owned-one k = concat-one (λ k. cond (splitting g p k) [] (within g p k)) k

  owned-size : (k : ℕ) → length (cond (splitting g p k) [] (within g p k)) ≡ own_in g p k
  owned-size k = go (splitting g p k)
    where
      go : (b : Bool) → length (cond b [] (within g p k)) ≡ cond b 0 (size_of g p k)
      go true = refl
      go false = length-indices g.axes p.sources k

  pub owned-length : (done : List ℕ) → length (owned_by g p done) ≡ sum (map (own_in g p) done)
  unfolding owned_by
  owned-length done = concat-length (λ k. cond (splitting g p k) [] (within g p k)) (own_in g p) done owned-size

-- ---- a column
pub column : (xs col : List ℕ) (n x : ℕ) → take n col ≡ xs → n < length col → take (suc n) (set col n x) ≡ xs ++ x ∷ []
column xs col n x e l = take-suc-set col n x l ∙ ap (λ (t : List ℕ). t ++ x ∷ []) e

module _ (g : Rule) (p : Points) (room k sum : ℕ) (split : Bool) (key mark : List ℕ) (m : ℕ) (done : List ℕ)
    (h : Holds g p room (marked key mark m) done) (is_sum : sum ≡ size_of g p k) (is-split : split ≡ splitting g p k) where
  abbrev marks : List ℕ → List ℕ
  marks ks = map (λ k. mark_of (size_of g p k) (splitting g p k)) ks

  one_more : length (done ++ k ∷ []) ≡ suc (length done)
  one_more = length-append done (k ∷ []) ∙ omega arith

  pub row_put : (x : ℕ) → x ≡ mark_of sum split → m < room → Holds g p room (marked (set key m k) (set mark m x) (m + 1)) (done ++ k ∷ [])
  row_put x is l = record {
    bounded = h.bounded;
    counted = omega (arith, one_more, h.counted);
    filled = λ r i j.
        let a : room ≤ length key = omega (arith, i, length-set key m k) in
        let b : room ≤ length mark = omega (arith, j, length-set mark m x) in
        subst (λ (n : ℕ). Filled g p (marked (set key n k) (set mark n x) (m + 1)) (done ++ k ∷ [])) (sym same) (rows a b (h.filled (omega (arith, r, one_more)) a b));
  }
    where
      same : m ≡ length done
      same = omega (arith, h.counted)

      rows : room ≤ length key → room ≤ length mark → Filled g p (marked key mark m) done → Filled g p (marked (set key (length done) k) (set mark (length done) x) (m + 1)) (done ++ k ∷ [])
      rows a b f = record {
        keys = ap (λ (i : ℕ). take i (set key (length done) k)) one_more ∙ column done key (length done) k f.keys (omega (arith, a, same));
        marks =
            ap (λ (i : ℕ). take i (set mark (length done) x)) one_more
            ∙ column (marks done) mark (length done) x f.marks (omega (arith, b, same))
            ∙ ap (λ (y : ℕ). marks done ++ y ∷ []) (is ∙ ap₂ mark_of is_sum is-split)
            ∙ sym (map-join (λ k. mark_of (size_of g p k) (splitting g p k)) done (k ∷ []));
      }

  -- a column does not reach
  pub row-counted : m < room → min (length key) (length mark) ≤ m → Holds g p room (marked key mark (m + 1)) (done ++ k ∷ [])
  row-counted l e = record {
    bounded = h.bounded;
    counted = omega (arith, one_more, h.counted);
    filled = λ r i j. absurd (omega (arith, l, e, i, j));
  }

  pub row-full : room ≤ m → Holds g p room (marked key mark (room + 1)) (done ++ k ∷ [])
  row-full l = record {
    bounded = h.bounded;
    counted = omega (arith, one_more, h.counted);
    filled = λ r i j. absurd (omega (arith, r, one_more, h.counted));
  }
