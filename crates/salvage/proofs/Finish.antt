-- The end of the call: the last refusal, the totals, and what is left in each slice.
use mathlib.Core.Path.{◌≡◌, refl, sym, ap, ap₂, ◌∙◌, subst}
use mathlib.Core.Bool.{Bool, true, false, ◌&&◌}
use mathlib.Core.List.{List, ◌++◌, map}
use Prim.Native.Nat.{ℕ, ◌+◌, ◌-◌, ◌≤◌, ◌<◌, min}
use native.Mathlib.Omega.{arith}
use lib.Dec.{leb, eqb}
use lib.ListN.{length, take, drop, replicate, length-map}
use lib.Seq.{take_at, length-take-le}
use borrow.Author.Tests.{leb-true, eqb-true, le-leb, lt-leb}
use Rattle.refusal.specs.declared.Refusal.{Refusal}
use Rattle.refusal.specs.declared.Refusal.TheVariants.{Dims, Shape, Tree, Room}
use Rattle.refusal.specs.Chain.{ask, ◌then◌}
use Rattle.refusal.specs.Left.{left}
use Rattle.refusal.proofs.Chain.{asked, both-done, after-done}
use Rattle.slices.specs.Lists.{sum, filled}
use Rattle.slices.proofs.Tests.{and_l, and_r}
use Rattle.morton.specs.Keys.{axes_known}
use Rattle.tree.specs.Finding.{TreeKeys}
use Rattle.tree.specs.Totals.{total_in, total_column}
use Rattle.tree.specs.WellFormed.{most_sources, formed}
use Rattle.tree.proofs.Verdict.{formed-of}
use Rattle.sourced.specs.Room.{Holds}
use Rattle.salvaged.specs.declared.Salvaged.{Salvaged}
use Rattle.salvaged.specs.Nodes.{Input}
use Rattle.salvaged.specs.Columns.{new_keys, new_own, new_sources, new_begins, new_totals, new_order_of, old_begin}
use Rattle.salvaged.specs.Changes.{changed_keys, change_codes}
use Rattle.salvaged.specs.Answers.{Rooms, node_room, salvage_check, counts}
use Rattle.salvaged.proofs.Formed.{well-formed, own-length, begins-length}
use Rattle.salvaged.proofs.Listed.{codes-length}
use Rattle.node_totals.specs.Totals.{Counted, Totallable}
use Rattle.kept_sources.specs.Rows.{Readable}
use Rattle.salvage_start.specs.Started.{Filled, start_check, StartedWith}
use Rattle.salvage_start.proofs.Filling.{keys-tree}
use Rattle.salvage_list.specs.Listed.{Listable, Listed}
use Rattle.refusal.specs.Outcome.{Answer, Outcome, accepted}
use Rattle.std.specs.Prelude.{Err, Ok}

-- ---- the refusals

module _ (i : Input) (r : Rooms) where
  pub last-check : salvage_check i r ≡ (start_check i r.order (node_room r) then ask (leb (length (changed_keys i)) (min r.codes r.changed)) (Room 10))
  unfolding salvage_check start_check
  last-check = refl

  pub start-refused : (o : Outcome) (x : Refusal) → o ≡ start_check i r.order (node_room r) → o ≡ Err x → salvage_check i r ≡ Err x
  start-refused o x e f = last-check ∙ ap (λ (p : Outcome). p then ask (leb (length (changed_keys i)) (min r.codes r.changed)) (Room 10)) (sym e ∙ f)

  module _ (o : Outcome) (e : o ≡ start_check i r.order (node_room r)) (f : o ≡ accepted) where
    then-last : (b : Bool) → leb (length (changed_keys i)) (min r.codes r.changed) ≡ b → salvage_check i r ≡ ask b (Room 10)
    then-last b q = last-check ∙ ap₂ (λ (p : Outcome) (b : Bool). p then ask b (Room 10)) (sym e ∙ f) q

    module _ (codes changed : List ℕ) (c : ℕ) (l : Listed i codes changed c) (kc : length codes ≡ r.codes) (kk : length changed ≡ r.changed) where
      pub list-short : min (length codes) (length changed) < c → salvage_check i r ≡ Err (Room 10)
      list-short h = then-last false (lt-leb (length (changed_keys i)) (min r.codes r.changed) (omega (arith, l.keys.counted)))

      pub list-fits : c ≤ min (length codes) (length changed) → salvage_check i r ≡ accepted
      list-fits h = then-last true (le-leb (length (changed_keys i)) (min r.codes r.changed) (omega (arith, l.keys.counted)))

-- the list where it fits
pub told-are : (i : Input) (codes changed : List ℕ) (c : ℕ) → Listed i codes changed c → c ≤ min (length codes) (length changed)
    → (c ≡ length (changed_keys i)) × (take c codes ≡ change_codes i) × (take c changed ≡ changed_keys i)
told-are i codes changed c l h =
    let e : c ≡ length (changed_keys i) = omega (arith, l.keys.counted) in
    (e, l.coded (omega arith) (omega arith), ap (λ (n : ℕ). take n changed) e ∙ l.keys.begins (omega arith))

-- what is known where the start was not refused
pub record Passed (i : Input) (places : ℕ) : Type 0 where
  pub readable : Readable i
  pub few : new_sources i ≤ most_sources
  pub placed : new_sources i ≤ places

pub passed : (i : Input) (places room : ℕ) (o : Outcome) → o ≡ start_check i places room → o ≡ accepted → Passed i places
unfolding start_check
passed i places room o e f =
    let b = (both-done _ (ask (leb (length (new_keys i)) room) (Room 3)) (sym e ∙ f)).0 in
    let c = both-done _ (ask (leb (new_sources i) places) (Room 2)) b in
    let d = both-done _ (ask (leb (new_sources i) most_sources) Tree) c.0 in
    let g = both-done (ask (axes_known i.axes) Dims) (ask (eqb (length i.own) (length i.key) && eqb (length i.begin) (length i.key)) Shape) d.0 in
    let s = asked (eqb (length i.own) (length i.key) && eqb (length i.begin) (length i.key)) Shape g.1 in
    record {
      readable = record {
        axes = asked (axes_known i.axes) Dims g.0;
        owns = eqb-true (length i.own) (length i.key) (and_l (eqb (length i.own) (length i.key)) (eqb (length i.begin) (length i.key)) s);
        begins = eqb-true (length i.begin) (length i.key) (and_r (eqb (length i.own) (length i.key)) (eqb (length i.begin) (length i.key)) s);
      };
      few = leb-true (new_sources i) most_sources (asked (leb (new_sources i) most_sources) Tree d.1);
      placed = leb-true (new_sources i) places (asked (leb (new_sources i) places) (Room 2) c.1);
    }

-- ---- the columns

module _ (i : Input) (places room n s : ℕ) (key own begin : List ℕ) (p : Passed i places) (w : StartedWith i places room n s key own begin) where
  pub many : n ≡ length (new_keys i)
  many = w.filled.number w.fits

  pub keys_are : take n key ≡ new_keys i
  keys_are = w.filled.keys w.fits

  pub owns-are : take n own ≡ new_own i
  owns-are = w.filled.owns w.fits

  pub own-many : n ≡ length (new_own i)
  own-many = many ∙ sym (own-length i)

  pub begin-many : n ≡ length (new_begins i)
  begin-many = own-many ∙ sym (begins-length (new_own i))

  pub total-many : n ≡ length (new_totals i)
  total-many = many ∙ sym (length-map (new_keys i) (total_in i.axes (new_keys i) (new_own i)))

  pub listable : (order total : List ℕ) → places ≡ length order → n ≤ length total → Listable i order (take n key) (take n own) (take n begin) (take n total)
  listable order total e l = record {
    readable = p.readable;
    keys = keys_are;
    owns = owns-are;
    begins = w.filled.begins w.fits;
    few = p.few;
    placed = omega (arith, p.placed);
    totals = length-take-le n total l ∙ many ∙ sym (ap length keys_are);
  }

  module _ (eb : List ℕ) (q : eb ≡ new_begins i) where
    pub begins-are : take n (eb ++ drop n begin) ≡ new_begins i
    begins-are = take_at eb (drop n begin) n (ap length q ∙ begins-length (new_own i) ∙ own-length i ∙ sym many) ∙ q

    counted : Counted i.axes (take n key) (take n (eb ++ drop n begin)) s (new_own i)
    counted = record {
      sound = subst (λ (ks : List ℕ). formed i.axes ks (new_own i) (take n (eb ++ drop n begin)) ≡ true) (sym keys_are)
          (subst (λ (bs : List ℕ). formed i.axes (new_keys i) (new_own i) bs ≡ true) (sym begins-are)
          (formed-of i.axes (new_keys i) (new_own i) (new_begins i) (new_totals i) (well-formed i p.readable.axes p.few)));
      many = sym w.sum;
    }

    pub totallable : (total : List ℕ) → n ≤ length total → Totallable i.axes (take n key) (take n (eb ++ drop n begin)) s (take n total)
    totallable total l = record {
      nodes = subst (TreeKeys i.axes) (sym keys_are) (keys-tree i p.readable);
      own = new_own i;
      counted = counted;
      placed = length-take-le n total l ∙ many ∙ sym (ap length keys_are);
    }

    pub totals-are : (et rest : List ℕ) → ((os : List ℕ) → Counted i.axes (take n key) (take n (eb ++ drop n begin)) s os → et ≡ total_column i.axes (take n key) os) → take n (et ++ rest) ≡ new_totals i
    totals-are et rest h =
        let e : et ≡ new_totals i = h (new_own i) counted ∙ ap (λ (ks : List ℕ). total_column i.axes ks (new_own i)) keys_are in
        take_at et rest n (ap length e ∙ sym total-many) ∙ e

-- ---- the slices at the end

pub left-refused : (o : Outcome) (x : Refusal) → o ≡ Err x → (n : ℕ) (xs ys : List ℕ) (m : ℕ) → m ≡ n → ys ≡ replicate m 0 → ys ≡ left o n xs
left-refused o x z n xs ys m k e = e ∙ ap (λ (j : ℕ). replicate j 0) k ∙ sym (ap (λ (p : Outcome). left p n xs) z)

pub left-filled : (o : Outcome) → o ≡ accepted → (n : ℕ) (xs ys : List ℕ) → ys ≡ filled n xs → ys ≡ left o n xs
left-filled o z n xs ys e = e ∙ sym (ap (λ (p : Outcome). left p n xs) z)

pub left-part : (o : Outcome) → o ≡ accepted → (m n : ℕ) (xs s ys : List ℕ) → n ≡ length xs → take n s ≡ xs → length s ≡ m → ys ≡ take n s ++ replicate (length s - n) 0 → ys ≡ left o m xs
left-part o z m n xs s ys e q k h =
    h ∙ ap (λ (zs : List ℕ). zs ++ replicate (length s - n) 0) q ∙ ap (λ (j : ℕ). xs ++ replicate (j - n) 0) k ∙ ap (λ (j : ℕ). xs ++ replicate (m - j) 0) e
    ∙ sym (ap (λ (p : Outcome). left p m xs) z)

pub answer-done : (i : Input) (o : Outcome) → o ≡ accepted → (n s c : ℕ) → n ≡ length (new_keys i) → s ≡ new_sources i → c ≡ length (changed_keys i) → Ok (record { nodes = n; sources = s; changes = c }) ≡ o then Ok (counts i)
answer-done i o z n s c en es ec =
    ap (λ (x : ℕ). tree x s c) en ∙ ap₂ (λ (x y : ℕ). tree (length (new_keys i)) x y) es ec ∙ sym (after-done o (Ok (counts i)) z)
  where
    tree : ℕ → ℕ → ℕ → Answer Salvaged
    tree n s c = Ok (record { nodes = n; sources = s; changes = c })
