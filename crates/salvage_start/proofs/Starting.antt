-- The refusals one test after the other.
use mathlib.Core.Path.{◌≡◌, refl, sym, ap, ◌∙◌, subst}
use mathlib.Core.Bool.{Bool, true, false, ◌&&◌}
use mathlib.Core.List.{List}
use Prim.Native.Nat.{ℕ, ◌≤◌, ◌<◌, min}
use native.Mathlib.Omega.{arith}
use lib.Dec.{leb, eqb}
use lib.ListN.{length, take}
use lib.Seq.{length-take-le}
use borrow.Author.Tests.{le-leb, lt-leb, eq-eqb, ne_eqb}
use Rattle.refusal.specs.declared.Refusal.{Refusal}
use Rattle.refusal.specs.declared.Refusal.TheVariants.{Dims, Shape, Tree, Room}
use Rattle.refusal.specs.Chain.{ask, ◌then◌}
use Rattle.slices.specs.Lists.{sum}
use Rattle.morton.specs.Keys.{axes_known}
use Rattle.salvaged.specs.Nodes.{Input}
use Rattle.salvaged.specs.Columns.{new_keys, new_own, new_sources}
use Rattle.kept_sources.specs.Rows.{Readable, sources_check}
use Rattle.salvage_start.specs.Started.{Filled, start_check, StartedWith}
use Rattle.std.specs.Prelude.{Err}
use Rattle.refusal.specs.Outcome.{Outcome, accepted}

sources-by : (i : Input) (places : ℕ) (a b : Bool) → leb (new_sources i) 1048576 ≡ a → leb (new_sources i) places ≡ b → sources_check i places ≡ (ask a Tree then ask b (Room 2))
unfolding sources_check
sources-by i places a b ea eb = rw (ea, eb)

module _ (i : Input) (places room : ℕ) where
  pub other-axes : axes_known i.axes ≡ false → Err Dims ≡ start_check i places room
  unfolding start_check
  other-axes e = rw e

  pub other-own : axes_known i.axes ≡ true → (length i.own ≡ length i.key → ⊥) → Err Shape ≡ start_check i places room
  unfolding start_check
  other-own e n = rw (e, ne_eqb (length i.own) (length i.key) n)

  pub other-begin : axes_known i.axes ≡ true → length i.own ≡ length i.key → (length i.begin ≡ length i.key → ⊥) → Err Shape ≡ start_check i places room
  unfolding start_check
  other-begin e o n = rw (e, eq-eqb (length i.own) (length i.key) o, ne_eqb (length i.begin) (length i.key) n)

  module _ (ok : Readable i) where
    checked : start_check i places room ≡ (sources_check i places then ask (leb (length (new_keys i)) room) (Room 3))
    unfolding start_check sources_check
    checked = rw (ok.axes, eq-eqb (length i.own) (length i.key) ok.owns, eq-eqb (length i.begin) (length i.key) ok.begins)

    -- no room for the nodes
    pub counted-refused : (o : Outcome) (x : Refusal) → o ≡ sources_check i places → o ≡ Err x → Err x ≡ start_check i places room
    counted-refused o x e f = sym (checked ∙ ap (λ (p : Outcome). p then ask (leb (length (new_keys i)) room) (Room 3)) (sym e ∙ f))

    pub nodes-short : (o : Outcome) → o ≡ sources_check i places → o ≡ accepted → room < length (new_keys i) → Err (Room 3) ≡ start_check i places room
    nodes-short o e f h =
        sym (checked ∙ ap (λ (p : Outcome). p then ask (leb (length (new_keys i)) room) (Room 3)) (sym e ∙ f)
        ∙ ap (λ (b : Bool). ask b (Room 3)) (lt-leb (length (new_keys i)) room h))

    -- and where they have room
    module _ (key own begin : List ℕ) (n s : ℕ) (f : Filled i room key own begin n) (h : n ≤ room) (e : s ≡ min (sum (take n own)) 1048577) where
      added : s ≡ min (new_sources i) 1048577
      added = e ∙ ap (λ (os : List ℕ). min (sum os) 1048577) (f.owns h)

      with-sources : (a b : Bool) → leb (new_sources i) 1048576 ≡ a → leb (new_sources i) places ≡ b → start_check i places room ≡ ((ask a Tree then ask b (Room 2)) then ask (leb (length (new_keys i)) room) (Room 3))
      with-sources a b ea eb = checked ∙ ap (λ (o : Outcome). o then ask (leb (length (new_keys i)) room) (Room 3)) (sources-by i places a b ea eb)

      pub too_many : 1048576 < s → Err Tree ≡ start_check i places room
      too_many l = sym (with-sources false (leb (new_sources i) places) (lt-leb (new_sources i) 1048576 (omega (arith, added))) refl)

      pub no-places : s ≤ 1048576 → places < s → Err (Room 2) ≡ start_check i places room
      no-places a l = sym (with-sources true false (le-leb (new_sources i) 1048576 (omega (arith, added))) (lt-leb (new_sources i) places (omega (arith, added))))

      pub all-fine : s ≤ 1048576 → s ≤ places → accepted ≡ start_check i places room
      all-fine a l =
          sym (with-sources true true (le-leb (new_sources i) 1048576 (omega (arith, added))) (le-leb (new_sources i) places (omega (arith, added)))
          ∙ ap (λ (b : Bool). ask b (Room 3)) (le-leb (length (new_keys i)) room (omega (arith, f.number h))))

      pub started : s ≤ 1048576 → StartedWith i places room n s key own begin
      started a = record { filled = f; fits = h; sum = omega (arith, added) }
