-- What the call for near work promises is order 2's sum, target by target; without targets it is the sum over leaves by their own sources.
use mathlib.Core.Path.{◌≡◌, refl, ap, ◌∙◌}
use mathlib.Core.List.{List, map, map-map}
use Prim.Native.Nat.{ℕ}
use lib.Ieee.{Float}
use lib.ListN.{length, get_or}
use Rattle.refusal.specs.Chain.{◌then◌}
use Rattle.refusal.proofs.Chain.{both-done}
use Rattle.slices.specs.Lists.{sum}
use Rattle.space.specs.declared.Box.{Box}
use Rattle.space.specs.Cells.{frame_of}
use Rattle.space.specs.Rows.{codes16}
use Rattle.tree.specs.Columns.{Columns, columns}
use Rattle.tree.specs.Nodes.{own_of}
use Rattle.tree.specs.Leaves.{leaf_key}
use Rattle.tree.specs.WellFormed.{SoundTree}
use Rattle.rows.specs.Lists.{near_work, targets_at}
use Rattle.rows.proofs.NearWork.{near_sources, same-weights, by-target}
use Rattle.lookup.specs.Batch.{leaf_keys, codes_inside, points_outcome}
use Rattle.around.proofs.Nodes.{alone}
use Rattle.near_work.specs.Work.{weights}
use Rattle.near_work.specs.Answers.{room_check, work_check, work_answer}
use Rattle.near_work.specs.ByTarget.{sources_near, work_by_target}
use Rattle.near_work.proofs.Checks.{ready}
use Rattle.near_work.proofs.Counts.{own-weights, target-weights, all_in, mark-leaf}
use Rattle.refusal.specs.Outcome.{Outcome, accepted}
use Rattle.std.specs.Prelude.{Err, Ok}

-- figures that agree where nothing is refused give one answer
same_answer : (o : Outcome) (m n : ℕ) → (o ≡ accepted → m ≡ n) → o then Ok m ≡ o then Ok n
same_answer (Ok tt) m n e = ap Ok (e refl)
same_answer (Err r) m n e = refl

module _ (b : Box) (keys own begin total : List ℕ) (targets : List Float) (room : ℕ) where
  abbrev t : Columns
  t = columns keys own begin total

  abbrev d : ℕ
  d = b.axes

  -- with targets, in a tree that has passed its checks, with all targets in leaves
  module _ (some : length targets ≡ 0 → ⊥) (s : SoundTree d keys own) (done : points_outcome b keys targets ≡ accepted) where
    target-sum : near_work d keys own (weights b keys own targets) ≡ work_by_target b t targets
    target-sum =
        same-weights d keys own (weights b keys own targets) (targets_at (leaf_keys d keys (codes_inside b targets))) (λ k _ _. target-weights b keys own s targets some k)
        ∙ by-target d keys own (alone d keys own s) (leaf_keys d keys (codes_inside b targets)) (λ i l. mark-leaf b keys own s targets some done (get_or (leaf_keys d keys (codes_inside b targets)) i 0) (i, l, refl))
        ∙ ap sum (map-map (near_sources d keys own) (leaf_key d keys) (codes_inside b targets))
        ∙ ap (λ n. sum (map (sources_near d t) (codes16 n (frame_of b) targets))) (all_in b keys own s targets some done).1

  -- the answer of the call is the sum over its targets
  pub by-each-target : (length targets ≡ 0 → ⊥) → work_answer b t targets room ≡ work_check b t targets room then Ok (work_by_target b t targets)
  by-each-target some = same_answer (work_check b t targets room) _ _ figure
    where
      figure : work_check b t targets room ≡ accepted → near_work d keys own (weights b keys own targets) ≡ work_by_target b t targets
      figure e =
          let p = both-done (room_check b t (length targets) room) (points_outcome b keys targets) e in
          target-sum some (ready b keys own begin total (length targets) room p.0).tree p.1

  -- without targets the sources serve, each leaf's own
  pub by-own-sources : length targets ≡ 0 → work_answer b t targets room ≡ work_check b t targets room then Ok (near_work d keys own (own_of keys own))
  by-own-sources none = same_answer (work_check b t targets room) _ _ figure
    where
      figure : work_check b t targets room ≡ accepted → near_work d keys own (weights b keys own targets) ≡ near_work d keys own (own_of keys own)
      figure e =
          let p = both-done (room_check b t (length targets) room) (points_outcome b keys targets) e in
          same-weights d keys own (weights b keys own targets) (own_of keys own) (λ k _ _. own-weights b keys own (ready b keys own begin total (length targets) room p.0).tree targets none k)
