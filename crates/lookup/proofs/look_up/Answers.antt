-- `lookup::look_up` meets its contract.
use mathlib.Core.Path.{◌∙◌}
use native.Mathlib.Omega.{arith}
use Rattle.lookup.proofs.Calls.{first-le, codes-room, look-answer, look-keys}
use Rattle.lookup.proofs.look_up.Goals as goal

pub leaves_of-holders-requires : goal.leaves_of-holders-requires
leaves_of-holders-requires c = (c.requires.2, omega (arith, first-le c.args.b c.args.key.now c.args.points.now c.args.output.now _ c.points_to_codes-rows.result c.inside_of-first.result c.points_to_codes-rows.ensures.value c.points_to_codes-rows.ensures.codes_after c.inside_of-first.ensures, codes-room c.args.b c.args.key.now c.args.points.now c.args.output.now _ c.points_to_codes-rows.result c.inside_of-first.result c.points_to_codes-rows.ensures.value c.points_to_codes-rows.ensures.codes_after c.inside_of-first.ensures c.requires.3, c.requires.3), omega (arith, first-le c.args.b c.args.key.now c.args.points.now c.args.output.now _ c.points_to_codes-rows.result c.inside_of-first.result c.points_to_codes-rows.ensures.value c.points_to_codes-rows.ensures.codes_after c.inside_of-first.ensures, c.requires.4))

pub returns : goal.returns
returns c = record { value = look-answer c.args.b c.args.key.now c.args.points.now c.args.output.now _ c.points_to_codes-rows.result c.inside_of-first.result c.points_to_codes-rows.ensures.value c.points_to_codes-rows.ensures.codes_after c.inside_of-first.ensures c.leaves_of-holders.result c.leaves_of-holders.ensures.value _ c.answer_of.ensures; output_len_unchanged = (c.leaves_of-holders.ensures.codes_len_unchanged.0 ∙ codes-room c.args.b c.args.key.now c.args.points.now c.args.output.now _ c.points_to_codes-rows.result c.inside_of-first.result c.points_to_codes-rows.ensures.value c.points_to_codes-rows.ensures.codes_after c.inside_of-first.ensures c.requires.3, look-keys c.args.b c.args.key.now c.args.points.now c.args.output.now _ c.points_to_codes-rows.result c.inside_of-first.result c.points_to_codes-rows.ensures.value c.points_to_codes-rows.ensures.codes_after c.inside_of-first.ensures _ c.leaves_of-holders.ensures.codes_len_unchanged.1) }
