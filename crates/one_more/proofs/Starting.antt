-- The tree of the longer list is grown: the checks of its build, what is laid out for it, and what has started.
use mathlib.Core.Path.{◌≡◌, refl, sym, ap, ◌∙◌, subst}
use mathlib.Core.Bool.{Bool}
use mathlib.Core.List.{List, []}
use Prim.Native.Nat.{ℕ, suc, ◌+◌, ◌≤◌, ◌<◌}
use native.Mathlib.Omega.{arith}
use native.Mathlib.Nat.{zero-mod}
use lib.Dec.{leb}
use lib.Ieee.{Float}
use lib.ListN.{length}
use borrow.Author.Tests.{leb-true, eq-eqb}
use Rattle.refusal.specs.declared.Refusal.TheVariants.{Room}
use Rattle.refusal.specs.Chain.{ask, ◌then◌}
use Rattle.refusal.proofs.Chain.{after-done}
use Rattle.space.specs.declared.Box.{Box}
use Rattle.space.specs.Cells.{frame_of}
use Rattle.space.specs.Rows.{rows_of, rows_inside, inside_rows}
use Rattle.laying.specs.Outcomes.{asked_outcome, inside_outcome, work_outcome, work_need}
use Rattle.laying.specs.Layout.{PointsLaid}
use Rattle.laying.proofs.Calls.{no_targets}
use Rattle.laying.proofs.Prepared.{passed, work-short, all_pass}
use Rattle.growth.specs.Nodes.{nodes}
use Rattle.parting.specs.declared.Sizes.{Sizes}
use Rattle.parting.specs.Setting.{setting}
use Rattle.parting.specs.Parts.{source_codes, target_codes}
use Rattle.grow.specs.Rows.{marked}
use Rattle.grow.specs.Steps.{Grows}
use Rattle.filling.specs.declared.Started.{Started}
use Rattle.build.specs.Asked.{Asked, rule_of}
use Rattle.build.specs.Outcomes.{build_outcome}
use Rattle.build.specs.Steps.{Plain, LaidOut, TreeStarted, lay_outcome}
use Rattle.build.proofs.Answers.{early-so, late-so, refused-so, short-so, laid_so, ends, if-asked}
use Rattle.build.proofs.Growing.{work-laid}
use Rattle.build.proofs.Columns.{keys-asked, tree-started}
use Rattle.was_built.specs.Build.{asks_alone}
use Rattle.one_more.specs.More.{longer_of}
use Rattle.one_more.specs.Steps.{Sound}
use Rattle.one_more.proofs.Longer.{rows-longer, whole-longer, insides-longer, no_rows}
use Rattle.refusal.specs.Outcome.{Answer, accepted, ending}
use Rattle.std.specs.Prelude.{Err, Ok, IfOk}

module _ (b : Box) (limit : ℕ) (keep : Bool) (sources point : List Float) (s : Sound b sources point) where
  abbrev longer : List Float
  longer = longer_of b sources point

  abbrev a : Asked
  a = asks_alone b limit keep (longer_of b sources point)

  rows : rows_of b longer ≡ suc (rows_of b sources)
  rows = rows-longer b sources point s

  asked-done : asked_outcome b longer [] 0 ≡ accepted
  asked-done = sym (no_targets b longer [] 0 s.box (whole-longer b sources point s) (zero-mod b.axes) (omega (arith, rows, s.few)) (omega (arith, no_rows b)) refl)

  inside-done : inside_outcome b longer [] ≡ accepted
  unfolding inside_outcome inside_rows
  inside-done = rw (eq-eqb (rows_inside b longer) (rows_of b longer) (insides-longer b sources point s), eq-eqb (rows_inside b []) (rows_of b []) (ap (λ (m : ℕ). inside_rows m (frame_of b) []) (no_rows b) ∙ sym (no_rows b)))

  need : work_need b longer [] ≡ rows_of b sources + 1 + (rows_of b sources + 1)
  need = omega (arith, rows, no_rows b)

  -- no room for the codes, or for the order column
  pub short-work : (work order nodes : ℕ) → work < rows_of b sources + 1 + (rows_of b sources + 1) → Err (Room 1) ≡ build_outcome (asks_alone b limit keep (longer_of b sources point)) work order nodes
  short-work work order nodes h =
      early-so a work order nodes (Room 1) (refused-so a work order (Room 1) (Err (Room 1)) refl
      (sym (work-short b longer [] 0 work asked-done (Err (Room 1)) (sym (after-done (inside_outcome b longer []) (Err (Room 1)) inside-done)) (omega (arith, need)))))

  module _ (work : ℕ) (fits : rows_of b sources + 1 + (rows_of b sources + 1) ≤ work) where
    checks-done : asked_outcome b longer [] 0 then inside_outcome b longer [] then work_outcome b longer [] work ≡ accepted
    checks-done = sym (all_pass b longer [] 0 work asked-done inside-done (omega (arith, need)))

    pub short-order : (order nodes : ℕ) → order < rows_of b sources + 1 → Err (Room 2) ≡ build_outcome (asks_alone b limit keep (longer_of b sources point)) work order nodes
    short-order order nodes h = early-so a work order nodes (Room 2) (short-so a work order (Err (Room 2)) refl checks-done (omega (arith, rows)))

    pub laid_done : (order : ℕ) → rows_of b sources + 1 ≤ order → accepted ≡ lay_outcome (asks_alone b limit keep (longer_of b sources point)) work order
    laid_done order h = laid_so a work order checks-done (omega (arith, rows))

    pub laid_out : (w sums : List ℕ) (nodes' : ℕ) (z : Sizes) → length w ≡ work → PointsLaid b (longer_of b sources point) [] w → Plain (rows_of b sources + 1) 0 nodes' 0 z → rows_of b sources + 1 ≤ length sums
        → LaidOut (asks_alone b limit keep (longer_of b sources point)) nodes' z w sums
    laid_out w sums nodes' z len laid Z h =
        work-laid a work (passed b longer [] 0 work checks-done) w len laid 0 nodes' sums z
        (record { sources_are = Z.sources_are ∙ omega (arith, rows); targets_are = Z.targets_are ∙ sym (no_rows b); room_is = Z.room_is; depth_is = Z.depth_is; off_grid = Z.off_grid })
        (omega (arith, rows)) (record { deep = λ q. absurd (omega (arith, q, no_rows b)); made = λ q. absurd (omega (arith, q, no_rows b)) })

    -- as many nodes as are counted have started, or they have no room
    pub all-started : (order room : ℕ) (z : Sizes) (sums w w' key mark : List ℕ) (n : ℕ) (out : Answer Started) → length sums ≡ order → rows_of b sources + 1 ≤ order
        → LaidOut (asks_alone b limit keep (longer_of b sources point)) room z w sums
        → Grows (rule_of (asks_alone b limit keep (longer_of b sources point))) (setting z sums) w w' (marked key mark n)
        → out ≡ ask (leb n z.room) (Room 3) then Ok (record { rows = z.sources; nodes = n }) → room ≤ length key → room ≤ length mark
        → (ending out ≡ build_outcome (asks_alone b limit keep (longer_of b sources point)) work order room)
        × IfOk out (λ p. TreeStarted (asks_alone b limit keep (longer_of b sources point)) room p.rows p.nodes w' sums key mark)
    all-started order room z sums w w' key mark n out len h l g e i j = (
      ap (λ (p : Answer Started). ending p) e
          ∙ ends (ask (leb n z.room) (Room 3)) (record { rows = z.sources; nodes = n })
          ∙ late-so a work order room (laid_done order h) n z.room (nodes (rule_of a) (source_codes (setting z sums) w) (target_codes (setting z sums) w))
          (keys-asked a (setting z sums) w w' (marked key mark n) l.coded g l.sources_are l.nodes_are) l.room_is g.counted,
      if-asked (λ (p : Started). TreeStarted a room p.rows p.nodes w' sums key mark) (leb n z.room) (Room 3) (record { rows = z.sources; nodes = n }) out e
          (λ d. let fits = leb-true n z.room d in
          subst (λ (m : ℕ). TreeStarted a m z.sources n w' sums key mark) l.room_is
          (tree-started a (setting z sums) w w' (marked key mark n) l.coded g l.sources_are l.nodes_are sums z.sources n refl refl fits l.fits (omega (arith, i, l.room_is)) (omega (arith, j, l.room_is)))),
    )
