-- Columns with as many entries as nodes are counted are enough for the build, and shorter ones are refused 8 with 3.
use mathlib.Core.Path.{◌≡◌, refl, sym, ap, ◌∙◌}
use mathlib.Core.List.{List}
use Prim.Native.Nat.{ℕ}
use lib.Dec.{leb}
use lib.ListN.{length}
use Rattle.refusal.specs.declared.Refusal.TheVariants.{Room}
use Rattle.refusal.specs.Chain.{ask, ◌then◌}
use Rattle.refusal.proofs.Chain.{never, after-done, answered-done}
use Rattle.space.specs.Rows.{rows_of}
use Rattle.laying.specs.Outcomes.{asked_outcome, inside_outcome, work_outcome}
use Rattle.build.specs.Asked.{Asked, built_keys}
use Rattle.build.specs.Outcomes.{column_outcome, build_outcome}
use Rattle.node_count.specs.Counts.{most_nodes, nodes_answer}
use Rattle.refusal.specs.Outcome.{Answer, Outcome, accepted}
use Rattle.std.specs.Prelude.{Err, Ok}

-- where nothing is refused, another last check decides alone
last-decides : (p q r s : Outcome) → p then (q then r) ≡ accepted → p then (q then s) ≡ s
last-decides (Ok u) (Ok v) r s e = refl
last-decides (Ok u) (Err x) r s e = absurd (never x e)
last-decides (Err x) q r s e = absurd (never x e)

number : Answer ℕ → ℕ → ℕ
number (Ok n) m = n
number (Err r) m = m

counted-done : (o : Outcome) (k n : ℕ) → o then Ok k ≡ Ok n → (o ≡ accepted) × (k ≡ n)
unfolding number
counted-done o k n e = let d = answered-done o k n (sym e) in (d, ap (λ (a : Answer ℕ). number a n) (sym (after-done o (Ok k) d) ∙ e))

module _ (a : Asked) (work order : List ℕ) (n : ℕ) (counted : nodes_answer a work order ≡ Ok n) where
  abbrev checks : Outcome
  checks =
      a.early
      then asked_outcome a.box a.sources a.targets a.order
      then inside_outcome a.box a.sources a.targets
      then work_outcome a.box a.sources a.held (length work)

  done : (build_outcome a (length work) (length order) most_nodes ≡ accepted) × (length (built_keys a) ≡ n)
  done = counted-done (build_outcome a (length work) (length order) most_nodes) (length (built_keys a)) n counted

  -- of the build with the same work and order column only the room for nodes decides
  pub build-decided : (room : ℕ) → build_outcome a (length work) (length order) room ≡ ask (leb n room) (Room 3)
  unfolding column_outcome
  build-decided room =
      last-decides checks (ask (leb (rows_of a.box a.sources) (length order)) (Room 2)) (ask (leb (length (built_keys a)) most_nodes) (Room 3)) (ask (leb (length (built_keys a)) room) (Room 3)) done.0
      ∙ ap (λ (k : ℕ). ask (leb k room) (Room 3)) done.1
