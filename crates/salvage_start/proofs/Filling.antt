-- The nodes put in turn: keys, what the first rows say, and the counts that are kept.
use mathlib.Core.Path.{◌≡◌, refl, sym, ap, ap₂, ◌∙◌, subst}
use mathlib.Core.Bool.{true}
use mathlib.Core.List.{List, ◌++◌, map}
use Prim.Native.Nat.{ℕ, suc, ◌+◌, ◌-◌, ◌≤◌, ◌<◌, min}
use native.Mathlib.Omega.{arith}
use native.Mathlib.Numerals.{add-one}
use lib.ListN.{length, get_or, take, drop, length-map, length-append, length-drop}
use lib.Seq.{take_at, take_all, length-take-le}
use Rattle.slices.specs.Lists.{sum, range}
use Rattle.slices.proofs.Lists.{length-range}
use Rattle.slices.proofs.Sums.{sum-take, sum-whole}
use Rattle.tree.specs.Finding.{TreeKeys}
use Rattle.tree.specs.WellFormed.{keys_ascend}
use Rattle.tree.proofs.Rules.{facts-ascend}
use Rattle.tree.proofs.Clauses.{facts-parents}
use Rattle.salvaged.specs.Nodes.{Input, kept_keys}
use Rattle.salvaged.specs.Columns.{first_of, new_keys, new_own, old_own, old_begin}
use Rattle.salvaged.proofs.Formed.{own-length}
use Rattle.salvaged.proofs.Kept.{kept-some, kept-ascending, kept-tree}
use Rattle.kept_keys.specs.Gathered.{Ordered}
use Rattle.first_rows.specs.First.{Fillable}
use Rattle.node_counts.specs.Counts.{count_at, counts_kept, Countable}
use Rattle.node_counts.proofs.Counts.{counts-new}
use Rattle.kept_sources.specs.Rows.{Readable}
use Rattle.salvage_start.specs.Started.{Roomy, Filled}

-- a part written back
pub whole-kept : (e s : List ℕ) (n : ℕ) → n ≤ length s → length e ≡ length (take n s) → length (e ++ drop n s) ≡ length s
whole-kept e s n l k = omega (arith, length-append e (drop n s), k, length-take-le n s l, length-drop n s)

module _ (i : Input) (ok : Readable i) where
  pub keys-ascend : keys_ascend i.axes (new_keys i) ≡ true
  keys-ascend = facts-ascend i.axes (new_keys i) (kept-ascending i.axes i.key ok.axes)

  pub keys-tree : TreeKeys i.axes (new_keys i)
  keys-tree = record {
    axes = ok.axes;
    some = kept-some i.axes i.key ok.axes;
    ascend = keys-ascend;
    parents = facts-parents i.axes (new_keys i) (kept-tree i.axes i.key ok.axes).parents;
  }

  -- no room at all
  pub filled_none : (room : ℕ) (key own begin : List ℕ) → room ≡ 0 → Filled i room key own begin 1
  filled_none room key own begin z = record {
    short = λ h. omega (arith, kept-some i.axes i.key ok.axes);
    number = λ h. absurd (omega arith);
    keys = λ h. absurd (omega arith);
    owns = λ h. absurd (omega arith);
    begins = λ h. absurd (omega arith);
  }

  module _ (room n : ℕ) (key : List ℕ) (o : Ordered i.axes i.key room key n) where
    pub filled-short : (own begin : List ℕ) → room < n → Filled i room key own begin n
    filled-short own begin l = record {
      short = λ h. (o.short h).1;
      number = λ h. absurd (omega arith);
      keys = λ h. absurd (omega arith);
      owns = λ h. absurd (omega arith);
      begins = λ h. absurd (omega arith);
    }

    module _ (h : n ≤ room) where
      keys_are : take n key ≡ new_keys i
      keys_are = (o.fits h).1

      many : n ≡ length (new_keys i)
      many = (o.fits h).0

      prefix : (s : List ℕ) → n ≤ length s → length (take n s) ≡ length (take n key)
      prefix s l = length-take-le n s l ∙ many ∙ sym (ap length keys_are)

      -- the first rows' columns can be taken
      pub fillable : (column out : List ℕ) → length column ≡ length i.key → n ≤ length out → Fillable i.axes (take n key) i.key column (take n out)
      fillable column out e l = record {
        axes = ok.axes;
        ascend = subst (λ ks. keys_ascend i.axes ks ≡ true) (sym keys_are) keys-ascend;
        rowed = e;
        placed = prefix out l;
      }

      module _ (own₀ begin₀ e₁ e₂ : List ℕ) (q₁ : e₁ ≡ map (first_of i.key i.own) (take n key)) (q₂ : e₂ ≡ map (first_of i.key i.begin) (take n key)) where
        own_is : e₁ ≡ map (old_own i) (new_keys i)
        own_is = q₁ ∙ ap (map (old_own i)) keys_are

        begin-is : e₂ ≡ map (old_begin i) (new_keys i)
        begin-is = q₂ ∙ ap (map (old_begin i)) keys_are

        own-part : take n (e₁ ++ drop n own₀) ≡ map (old_own i) (new_keys i)
        own-part = take_at e₁ (drop n own₀) n (ap length own_is ∙ length-map (new_keys i) (old_own i) ∙ sym many) ∙ own_is

        begin-part : take n (e₂ ++ drop n begin₀) ≡ map (old_begin i) (new_keys i)
        begin-part = take_at e₂ (drop n begin₀) n (ap length begin-is ∙ length-map (new_keys i) (old_begin i) ∙ sym many) ∙ begin-is

        pub countable : Countable i.axes (take n key) (take n (e₂ ++ drop n begin₀)) (take n (e₁ ++ drop n own₀))
        countable = record {
          nodes = subst (TreeKeys i.axes) (sym keys_are) keys-tree;
          begins = ap length begin-part ∙ length-map (new_keys i) (old_begin i) ∙ sym (ap length keys_are);
          owns = ap length own-part ∙ length-map (new_keys i) (old_own i) ∙ sym (ap length keys_are);
        }

        counted : (e₃ : List ℕ) → e₃ ≡ counts_kept i.axes (take n key) (take n (e₂ ++ drop n begin₀)) (take n (e₁ ++ drop n own₀)) (length i.order) → e₃ ≡ new_own i
        counted e₃ q =
            q
            ∙ ap (λ (ks : List ℕ). counts_kept i.axes ks (take n (e₂ ++ drop n begin₀)) (take n (e₁ ++ drop n own₀)) (length i.order)) keys_are
            ∙ ap₂ (λ (bs os : List ℕ). counts_kept i.axes (new_keys i) bs os (length i.order)) begin-part own-part
            ∙ counts-new i

        pub filled-all : (e₃ : List ℕ) → e₃ ≡ counts_kept i.axes (take n key) (take n (e₂ ++ drop n begin₀)) (take n (e₁ ++ drop n own₀)) (length i.order)
            → Filled i room key (e₃ ++ drop n (e₁ ++ drop n own₀)) (e₂ ++ drop n begin₀) n
        filled-all e₃ q = record {
          short = λ l. absurd (omega arith);
          number = λ l. many;
          keys = λ l. keys_are;
          owns = λ l. take_at e₃ (drop n (e₁ ++ drop n own₀)) n (ap length (counted e₃ q) ∙ own-length i ∙ sym many) ∙ counted e₃ q;
          begins = λ l. begin-part;
        }

-- ---- the sum of the counts

pub record Adding (own : List ℕ) (run q : ℕ) : Type 0 where
  pub within : q ≤ length own
  pub adds : run ≡ sum (take q own)
  pub small : run ≤ 1048576

pub adding-start : (own : List ℕ) → Adding own 0 0
unfolding sum
adding-start own = record { within = omega arith; adds = refl; small = omega arith }

module _ (own : List ℕ) (run q : ℕ) (s : Adding own run q) where
  pub adding-more : q < length own → get_or own q 0 ≤ 1048576 - run → Adding own (run + get_or own q 0) (q + 1)
  adding-more l h = record {
    within = omega arith;
    adds = omega (arith, s.adds, sum-take own q, ap (λ (n : ℕ). sum (take n own)) (add-one q));
    small = omega (arith, s.small);
  }

  pub adding-over : q < length own → 1048576 - run < get_or own q 0 → 1048577 ≡ min (sum own) 1048577
  adding-over l h = omega (arith, s.adds, s.small, sum-take own q, sum-whole own (suc q))

  pub adding-done : length own ≤ q → run ≡ min (sum own) 1048577
  adding-done h = omega (arith, s.adds, s.small, ap sum (take_all q own h))
