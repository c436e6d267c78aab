-- `lookup::leaf_at` meets its contract.
use mathlib.Core.Path.{◌∙◌}
use Rattle.refusal.proofs.Chain.{passed-on}
use Rattle.lookup.proofs.Single.{point-in, point-outside}
use Rattle.lookup.proofs.leaf_at.Goals as goal

pub returns : goal.returns
returns c = c.code_to_leaf.ensures ∙ point-in c.args.b c.args.key.now c.args.point c.requires.0 c.point_to_key.result c.point_to_key.ensures _ c.in_ok-deepest.was

pub returns-in_err-deepest : goal.returns-in_err-deepest
returns-in_err-deepest c = passed-on _ _ c.from_residual.ensures.1 ∙ point-outside c.args.b c.args.key.now c.args.point c.requires.0 c.point_to_key.result c.point_to_key.ensures _ c.in_err-deepest.was
