-- `places::place_at` meets its contract.
use Prim.Native.Nat.{◌<◌}
use mathlib.Core.Path.{sym, ◌∙◌, subst}
use native.Mathlib.Omega.{arith}
use Rattle.places.proofs.Laws.{place_none, place-more, place-small}
use Rattle.places.proofs.+place_at.Goals as goal

pub returns-then-level-lt1 : goal.returns-then-level-lt1
returns-then-level-lt1 t c = place_none c.args.axes _ c.args.code c.if-level-lt1.true

pub place_at-up-requires : goal.place_at-up-requires
place_at-up-requires t c = (omega (arith, c.decreases, c.if-level-lt1.false), (c.requires.0, omega (arith, c.requires.1)))

pub place_below-requires : goal.place_below-requires
place_below-requires t c = (c.requires.0, subst (λ n. n < 1152921504606846976) (sym c.place_at-up.ensures) (place-small c.args.axes _ _ (omega (arith, c.requires.1))))

pub returns : goal.returns
returns t c = c.place_below.ensures ∙ place-more c.args.axes _ c.args.code _ (omega (arith, c.if-level-lt1.false)) c.place_at-up.ensures
