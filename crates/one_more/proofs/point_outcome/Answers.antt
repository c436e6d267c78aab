-- `one_more::point_outcome` meets its contract.
use Rattle.std.proofs.Common.{rules}
use mathlib.Core.Path.{◌≡◌, sym, ap, ◌∙◌}
use native.Mathlib.Omega.{arith}
use lib.ListN.{length}
use Rattle.space.specs.declared.Frame.{Frame}
use Rattle.laying.proofs.Inside.{is_lost, is-found}
use Rattle.one_more.proofs.Judging.{point-out, point-in}
use Rattle.one_more.proofs.point_outcome.Goals as goal

pub locate-requires : goal.locate-requires
locate-requires c = let n : length c.args.point ≡ 3 = search rules in omega (arith, c.requires, ap (λ (f : Frame). f.axes) c.frame_of-f.ensures, n)

pub wall_of-requires : goal.wall_of-requires
wall_of-requires c = let n : length c.args.point ≡ 3 = search rules in omega (arith, c.requires, ap (λ (f : Frame). f.axes) c.frame_of-f.ensures, n)

pub returns-then-is_none : goal.returns-then-is_none
returns-then-is_none c = point-out c.args.b c.args.point c.args.n c.frame_of-f.result c.frame_of-f.ensures c.wall_of.result c.wall_of.ensures (is_lost _ _ _ _ c.locate.ensures c.is_none.ensures c.if-is_none.true)

pub returns : goal.returns
returns c = point-in c.args.b c.args.point c.args.n c.frame_of-f.result c.frame_of-f.ensures (is-found _ _ _ _ c.locate.ensures c.is_none.ensures c.if-is_none.false)
