-- `printing::print_listing` meets its contract.
use mathlib.Core.Path.{sym, ◌∙◌}
use native.Mathlib.Omega.{arith}
use lib.ListN.{length}
use lib.Seq.{length-take-le}
use Rattle.printing.specs.Printed.{file_text}
use Rattle.printing.proofs.Rooms.{written-within}
use Rattle.printing.proofs.print_listing.Goals as goal

pub slice_bounds-write_all-end : goal.slice_bounds-write_all-end
slice_bounds-write_all-end g c = let w = written-within (length c.args.out.now) (file_text c.args.file.now) _ (sym c.in-Some.is ∙ c.list_file-text.ensures.answer) in
    omega (arith, w, c.list_file-text.auto.out)

pub slice_bounds-write_all-end-in-Some : goal.slice_bounds-write_all-end-in-Some
slice_bounds-write_all-end-in-Some g c = let w = written-within (length c.args.out.now) (file_text c.args.file.now) _ (sym c.in-Some.is ∙ c.list_file-text.ensures.answer) in
    sym (length-take-le _ _ (omega (arith, w, c.list_file-text.auto.out)))
