-- `space::code_at` meets its contract: the point is outside by axis 0, 1 or 2, or its anchors are coded.
use mathlib.Core.Path.{refl, sym, ap, ◌∙◌}
use mathlib.Core.Bool.{true}
use mathlib.Core.List.{[], ◌∷◌}
use lib.ListN.{drop}
use Rattle.morton.specs.Anchors.{encode}
use Rattle.space.proofs.Points.{out-0, out-1, out-2, all_in, located-in, two_bytes, place_in, place_out}
use Rattle.space.proofs.code_at.Goals as goal

pub returns-in_err-x : goal.returns-in_err-x
returns-in_err-x c = c.from_residual.ensures ∙ place_out c.args.f (drop c.args.at c.args.points.now) (out-0 c.args.f (drop c.args.at c.args.points.now) (sym c.cell_on.ensures ∙ c.in_err-x.was))

pub returns-in_err-y : goal.returns-in_err-y
returns-in_err-y c = c.from_residual-in_err-y.ensures ∙ place_out c.args.f (drop c.args.at c.args.points.now) (out-1 c.args.f (drop c.args.at c.args.points.now) c.in_ok-x.x (sym c.cell_on.ensures ∙ c.in_ok-x.was) (sym c.cell_on-2.ensures ∙ c.in_err-y.was))

pub returns-in_err-z : goal.returns-in_err-z
returns-in_err-z c = c.from_residual-in_err-z.ensures ∙ place_out c.args.f (drop c.args.at c.args.points.now) (out-2 c.args.f (drop c.args.at c.args.points.now) c.in_ok-x.x c.in_ok-y.y (sym c.cell_on.ensures ∙ c.in_ok-x.was) (sym c.cell_on-2.ensures ∙ c.in_ok-y.was) (sym c.cell_on-3.ensures ∙ c.in_err-z.was))

pub encode-requires : goal.encode-requires
encode-requires c = let xs = drop c.args.at c.args.points.now in
    let i = located-in c.args.f xs (c.in_ok-x.x ∷ c.in_ok-y.y ∷ c.in_ok-z.z ∷ [])
    (all_in c.args.f xs c.in_ok-x.x c.in_ok-y.y c.in_ok-z.z (sym c.cell_on.ensures ∙ c.in_ok-x.was) (sym c.cell_on-2.ensures ∙ c.in_ok-y.was) (sym c.cell_on-3.ensures ∙ c.in_ok-z.was)) in
    (c.requires.0, c.requires.1, two_bytes c.args.f xs _ i.1)

pub returns : goal.returns
returns c = let xs = drop c.args.at c.args.points.now in
    let i = located-in c.args.f xs (c.in_ok-x.x ∷ c.in_ok-y.y ∷ c.in_ok-z.z ∷ [])
    (all_in c.args.f xs c.in_ok-x.x c.in_ok-y.y c.in_ok-z.z (sym c.cell_on.ensures ∙ c.in_ok-x.was) (sym c.cell_on-2.ensures ∙ c.in_ok-y.was) (sym c.cell_on-3.ensures ∙ c.in_ok-z.was)) in
    place_in c.args.f xs c.encode.result i.0 (c.encode.ensures ∙ ap (encode c.args.f.axes c.args.f.axes 16) i.1)
