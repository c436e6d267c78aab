-- `file_lists::starts_right` meets its contract.
use native.Mathlib.Omega.{arith}
use mathlib.Core.Path.{◌≡◌, sym, ap, ◌∙◌}
use Prim.Native.Nat.{◌+◌}
use lib.ListN.{get_or}
use Rattle.tree_file.specs.Trailer.{column_in}
use Rattle.list_check.proofs.Starts.{rise-start, rise-more, rise-falls, rise-done, rise-ends}
use Rattle.file_lists.proofs.Read.{few}
use Rattle.file_lists.proofs.starts_right.Goals as goal

pub count_of-n-requires : goal.count_of-n-requires
count_of-n-requires c = (c.requires.0, omega arith, omega arith)

pub count_of-requires : goal.count_of-requires
count_of-requires c = (c.requires.0, c.requires.1, omega (arith, c.requires.2))

pub overflow_add-n : goal.overflow_add-n
overflow_add-n c = omega (arith, c.count_of-n.ensures, few c.args.file.now c.args.s c.requires.0, c.well_formed.0)

pub returns-then-count_of-n : goal.returns-then-count_of-n
returns-then-count_of-n c = λ s. c.if-count_of-n.true (omega (arith, c.count_of-n.ensures, c.count_of.ensures, s.entries))

pub number_of-first-requires : goal.number_of-first-requires
number_of-first-requires c = (c.requires.0, c.requires.1, omega (arith, c.requires.2), c.requires.3)

pub returns-then-first-ne0 : goal.returns-then-first-ne0
returns-then-first-ne0 c = λ s. c.if-first-ne0.true (c.number_of-first.ensures ∙ s.first)

pub loop-i-init : goal.loop-i-init
loop-i-init c = rise-start (column_in c.args.file.now 1) (column_in c.args.file.now c.args.code)

pub number_of-here-requires : goal.number_of-here-requires
number_of-here-requires c = (c.requires.0, c.requires.1, omega (arith, c.requires.2), c.requires.3)

pub number_of-next-requires : goal.number_of-next-requires
number_of-next-requires c = (c.requires.0, c.requires.1, omega (arith, c.requires.2), c.requires.3)

pub returns-then-next-here : goal.returns-then-next-here
returns-then-next-here c = rise-falls (column_in c.args.file.now 1) (column_in c.args.file.now c.args.code) (column_in c.args.file.now (c.args.code + 1)) c.loop-i.i (omega (arith, c.loop-i-test.true, c.count_of-n.ensures)) (omega (arith, c.if-next-here.true, c.number_of-here.ensures, c.number_of-next.ensures))

pub loop-i-preserved : goal.loop-i-preserved
loop-i-preserved c = rise-more (column_in c.args.file.now 1) (column_in c.args.file.now c.args.code) c.loop-i.i c.loop-i.invariant (omega (arith, c.loop-i-test.true, c.count_of-n.ensures)) (omega (arith, c.if-next-here.false, c.number_of-here.ensures, c.number_of-next.ensures))

pub number_of-last-requires : goal.number_of-last-requires
number_of-last-requires c = (c.requires.0, c.requires.1, omega (arith, c.requires.2), c.requires.3)

pub count_of-flat-requires : goal.count_of-flat-requires
count_of-flat-requires c = (c.requires.0, omega arith, omega (arith, c.requires.2))

pub returns-then-last-flat : goal.returns-then-last-flat
returns-then-last-flat c = rise-ends (column_in c.args.file.now 1) (column_in c.args.file.now c.args.code) (column_in c.args.file.now (c.args.code + 1)) c.loop-i.i c.loop-i.invariant (omega (arith, c.loop-i-test.false, c.count_of-n.ensures)) (λ e. let end : c.count_of-n.result ≡ c.loop-i.i = omega arith in c.if-last-flat.true (c.number_of-last.ensures ∙ ap (λ k. get_or (column_in c.args.file.now c.args.code) k 0) end ∙ e ∙ sym c.count_of-flat.ensures))

pub returns : goal.returns
returns c = rise-done (column_in c.args.file.now 1) (column_in c.args.file.now c.args.code) (column_in c.args.file.now (c.args.code + 1)) c.loop-i.i c.loop-i.invariant (omega (arith, c.loop-i-test.false, c.count_of-n.ensures)) (omega (arith, c.if-count_of-n.false, c.count_of-n.ensures, c.count_of.ensures)) (sym c.number_of-first.ensures ∙ c.if-first-ne0.false) (let end : c.loop-i.i ≡ c.count_of-n.result = omega arith in ap (λ k. get_or (column_in c.args.file.now c.args.code) k 0) end ∙ sym c.number_of-last.ensures ∙ c.if-last-flat.false ∙ c.count_of-flat.ensures)
