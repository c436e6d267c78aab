-- What stands in the four slices at the end, and demand 3 of it.
use mathlib.Core.Path.{◌≡◌, refl, ap, ◌∙◌}
use mathlib.Core.Bool.{Bool, true, false}
use mathlib.Core.List.{List}
use Prim.Native.Nat.{ℕ}
use lib.ListN.{length}
use Rattle.refusal.specs.declared.Refusal.{Refusal}
use Rattle.refusal.specs.declared.Refusal.TheVariants.{Dims, Tree, Room}
use Rattle.refusal.specs.Chain.{ask}
use Rattle.refusal.proofs.Chain.{asked, both-done}
use Rattle.refusal.proofs.Left.{left-done, left-refused}
use Rattle.slices.specs.Lists.{filled}
use Rattle.slices.proofs.Tests.{clash}
use Rattle.morton.specs.Keys.{axes_known}
use Rattle.tree.specs.Columns.{columns}
use Rattle.tree.specs.WellFormed.{well_formed}
use Rattle.tree.proofs.Verdict.{formed-of}
use Rattle.rows.specs.Lists.{u_row, v_row}
use Rattle.rows.specs.Written.{row_starts, row_keys, row_of, Written}
use Rattle.rows.specs.Demand3.{Once, Near, Far, Few}
use Rattle.rows.proofs.Demand3 as demand
use Rattle.sourced.specs.Answers.{tree_check}
use Rattle.lists.specs.Halves.{has_room, Cleared, WritesTree}
use Rattle.node_rows.specs.declared.Sizes.{Sizes}
use Rattle.interaction.specs.Answers.{starts_check, lists_answer, u_starts_left, u_keys_left, v_starts_left, v_keys_left}
use Rattle.interaction.proofs.Checks.{over-u, over-v, in_room, told-listed, told-refused, listed-tree}
use Rattle.refusal.specs.Outcome.{Answer, accepted}
use Rattle.std.specs.Prelude.{Err, IsOk, is_ok}

-- ---- rows as they stand in slices with an unused rest
pub filled-written : (row : ℕ → List ℕ) (keys starts flat : List ℕ) (m n : ℕ) → starts ≡ filled m (row_starts row keys) → flat ≡ filled n (row_keys row keys) → Written keys row starts flat
filled-written row keys starts flat m n a b = record { more = _; rest = _; starts_are = a; keys_are = b }

-- ---- demand 3 of what was written
module _ (d : ℕ) (keys own begin total us uk vs vk : List ℕ) (m n p q : ℕ) where
  pub demand-3 : tree_check d (columns keys own begin total) ≡ accepted
      → us ≡ filled m (row_starts (u_row d keys own) keys) → uk ≡ filled n (row_keys (u_row d keys own) keys)
      → vs ≡ filled p (row_starts (v_row d keys own) keys) → vk ≡ filled q (row_keys (v_row d keys own) keys)
      → Once d keys own begin (row_of keys us uk) (row_of keys vs vk) × Near d keys own begin (row_of keys us uk) × Far d keys (row_of keys vs vk) × Few d keys (row_of keys vs vk)
  demand-3 h a b e f =
      let checks = both-done (ask (axes_known d) Dims) (ask (well_formed d keys own begin total) Tree) h in
      let formed = formed-of d keys own begin total (asked (well_formed d keys own begin total) Tree checks.1) in
      demand.written d keys own begin formed (asked (axes_known d) Dims checks.0) us uk vs vk (filled-written _ keys us uk m n a b) (filled-written _ keys vs vk p q e f)

-- ---- what is promised where nothing but the room for keys can be short
module _ (d : ℕ) (keys own begin total us uk vs vk us' uk' vs' vk' : List ℕ) (done : starts_check d (columns keys own begin total) (length us) (length vs) ≡ accepted)
    (r : Answer Sizes) (w : WritesTree d keys own us uk vs vk us' uk' vs' vk' r) where
  pub record Promised : Type 0 where
    pub answer : r ≡ lists_answer d (columns keys own begin total) (length us) (length uk) (length vs) (length vk)
    pub u_starts : us' ≡ u_starts_left d (columns keys own begin total) (length us) (length uk) (length vs) (length vk)
    pub u_keys : uk' ≡ u_keys_left d (columns keys own begin total) (length us) (length uk) (length vs) (length vk)
    pub v_starts : vs' ≡ v_starts_left d (columns keys own begin total) (length us) (length uk) (length vs) (length vk)
    pub v_keys : vk' ≡ v_keys_left d (columns keys own begin total) (length us) (length uk) (length vs) (length vk)
    pub rows : IsOk r
        → Once d keys own begin (row_of keys us' uk') (row_of keys vs' vk') × Near d keys own begin (row_of keys us' uk') × Far d keys (row_of keys vs' vk') × Few d keys (row_of keys vs' vk')

  refused : (e : Refusal) → r ≡ Err e → Err e ≡ lists_answer d (columns keys own begin total) (length us) (length uk) (length vs) (length vk) → Cleared (length us) (length uk) (length vs) (length vk) us' uk' vs' vk' → Promised
  refused e a b z =
      let o = told-refused d keys own begin total (length us) (length uk) (length vs) (length vk) e b in
      record {
        answer = a ∙ b;
        u_starts = left-refused _ (length us) _ us' e (length us) o refl z.0;
        u_keys = left-refused _ (length uk) _ uk' e (length uk) o refl z.1;
        v_starts = left-refused _ (length vs) _ vs' e (length vs) o refl z.2;
        v_keys = left-refused _ (length vk) _ vk' e (length vk) o refl z.3;
        rows = λ q. absurd (clash q (ap is_ok a));
      }

  go : (s t : Bool) → has_room (u_row d keys own) keys (length uk) ≡ s → has_room (v_row d keys own) keys (length vk) ≡ t → Promised
  go false t a b =
      let (six, z) = w.u_short a in
      refused (Room 6) six (over-u d keys own begin total (length us) (length uk) (length vs) (length vk) done _ refl a) z
  go true false a b =
      let (seven, z) = w.v_short a b in
      refused (Room 7) seven (over-v d keys own begin total (length us) (length uk) (length vs) (length vk) done _ _ refl a refl b) z
  go true true a b =
      let (whole, lu, lv) = w.written a b in
      let e = in_room d keys own begin total (length us) (length uk) (length vs) (length vk) done _ _ refl a refl b in
      let o = told-listed d keys own begin total (length us) (length uk) (length vs) (length vk) _ e in
      record {
        answer = whole ∙ e;
        u_starts = left-done _ (length us) _ us' o (lu.begins refl);
        u_keys = left-done _ (length uk) _ uk' o (lu.written refl);
        v_starts = left-done _ (length vs) _ vs' o (lv.begins refl);
        v_keys = left-done _ (length vk) _ vk' o (lv.written refl);
        rows = λ _.
            demand-3 d keys own begin total us' uk' vs' vk' (length us) (length uk) (length vs) (length vk) (listed-tree d keys own begin total (length us) (length uk) (length vs) (length vk) _ e)
            (lu.begins refl) (lu.written refl) (lv.begins refl) (lv.written refl);
      }

  pub promised : Promised
  promised = go _ _ refl refl
