-- After the rows passed the array holds the neighbours along them.
use mathlib.Core.Path.{◌≡◌, sym, ap, ◌∙◌, subst}
use mathlib.Core.Bool.{true}
use mathlib.Core.List.{List, [], map}
use Prim.Native.Nat.{ℕ}
use native.Mathlib.Omega.{arith}
use lib.IntN.{ℤ}
use lib.ListN.{length, get_or}
use Rattle.slices.specs.Lists.{range, filter}
use Rattle.morton.specs.Anchors.{key_at, on_level}
use Rattle.neighbours.specs.Directions.{on_box, toward}
use Rattle.morton.proofs.Runs.{held-listed}
use Rattle.neighbours.proofs.Along.{in_rows, row-is-unit, from-small, stays-is, moved_on, key-is, along-start, along-room, along-in, along-out}
use Rattle.neighbours.proofs.Tied.{rows-number}
use Rattle.neighbours.proofs.list_along.Goals as goal
use Rattle.neighbours.proofs.list_along.Goals.{then-stays, else-stays}

pub anchors_of-from-requires : goal.anchors_of-from-requires
anchors_of-from-requires c = c.requires.0

pub loop-row-init : goal.loop-row-init
loop-row-init c = along-start _ _

pub stays-requires : goal.stays-requires
stays-requires c = (c.requires.0.most, omega (arith, c.level_of-level.ensures, c.requires.0.level), from-small c.args.axes c.args.key c.level_of-level.result c.requires.0 c.level_of-level.ensures _ c.anchors_of-from.ensures c.loop-row.row-index _ (ap (λ (rs : List (List ℤ)). get_or rs c.loop-row.row-index []) c.requires.1), row-is-unit c.args.axes c.args.key c.level_of-level.result c.requires.0 c.level_of-level.ensures _ c.anchors_of-from.ensures c.loop-row.row-index _ (ap (λ (rs : List (List ℤ)). get_or rs c.loop-row.row-index []) c.requires.1) (in_rows c.args.axes _ _ c.requires.1 c.loop-row-test.true))

pub moved-to-requires : goal.moved-to-requires
moved-to-requires c = (c.requires.0.most, from-small c.args.axes c.args.key c.level_of-level.result c.requires.0 c.level_of-level.ensures _ c.anchors_of-from.ensures c.loop-row.row-index _ (ap (λ (rs : List (List ℤ)). get_or rs c.loop-row.row-index []) c.requires.1), row-is-unit c.args.axes c.args.key c.level_of-level.result c.requires.0 c.level_of-level.ensures _ c.anchors_of-from.ensures c.loop-row.row-index _ (ap (λ (rs : List (List ℤ)). get_or rs c.loop-row.row-index []) c.requires.1) (in_rows c.args.axes _ _ c.requires.1 c.loop-row-test.true), sym c.stays.ensures ∙ c.if-stays.true)

pub key_at-requires : goal.key_at-requires
key_at-requires c = (
  c.requires.0.some,
  c.requires.0.most,
  omega (arith, c.level_of-level.ensures, c.requires.0.level),
  subst (λ xs. on_level c.args.axes c.level_of-level.result xs ≡ true) (sym c.moved-to.ensures) (moved_on c.args.axes c.args.key c.level_of-level.result c.requires.0 c.level_of-level.ensures _ c.anchors_of-from.ensures c.loop-row.row-index _ (ap (λ (rs : List (List ℤ)). get_or rs c.loop-row.row-index []) c.requires.1) (sym c.stays.ensures ∙ c.if-stays.true)),
)

pub offset_bounds-found-len : goal.offset_bounds-found-len
offset_bounds-found-len c = omega (arith, along-room c.args.axes c.args.key c.loop-row.row-index _ _ (in_rows c.args.axes _ _ c.requires.1 c.loop-row-test.true) c.loop-row.invariant)

pub bounds-found-len : goal.bounds-found-len
bounds-found-len c = omega (arith, along-room c.args.axes c.args.key c.loop-row.row-index _ _ (in_rows c.args.axes _ _ c.requires.1 c.loop-row-test.true) c.loop-row.invariant)

pub overflow_add-len : goal.overflow_add-len
overflow_add-len c = omega (arith, along-room c.args.axes c.args.key c.loop-row.row-index _ _ (in_rows c.args.axes _ _ c.requires.1 c.loop-row-test.true) c.loop-row.invariant)

pub loop-row-preserved : goal.loop-row-preserved
loop-row-preserved c =
    let s = stays-is c.args.axes c.args.key c.level_of-level.result c.requires.0 c.level_of-level.ensures _ c.anchors_of-from.ensures c.loop-row.row-index _ (ap (λ (rs : List (List ℤ)). get_or rs c.loop-row.row-index []) c.requires.1) in
    elim c.if-stays.branch [
      | then-stays w ↦ rw (w.found-is, w.len-is) (along-in c.args.axes c.args.key c.loop-row.row-index _ _ _ (sym s ∙ sym c.stays.ensures ∙ w.if-stays.true) (in_rows c.args.axes _ _ c.requires.1 c.loop-row-test.true) c.loop-row.invariant (w.key_at.ensures ∙ ap (key_at c.args.axes c.level_of-level.result) w.moved-to.ensures ∙ key-is c.args.axes c.args.key c.level_of-level.result c.requires.0 c.level_of-level.ensures _ c.anchors_of-from.ensures c.loop-row.row-index _ (ap (λ (rs : List (List ℤ)). get_or rs c.loop-row.row-index []) c.requires.1)))
      | else-stays w ↦ rw (w.found-is, w.len-is) (along-out c.args.axes c.args.key c.loop-row.row-index _ _ (sym s ∙ sym c.stays.ensures ∙ w.if-stays.false) c.loop-row.invariant)
    ]

pub returns : goal.returns
returns c = held-listed _ _ _ _ c.loop-row.invariant (ap (λ (n : ℕ). map (toward c.args.axes c.args.key) (filter (on_box c.args.axes c.args.key) (range 0 n))) (omega (arith, rows-number c.args.axes, ap length c.requires.1)))
