-- `one_more::add_source` meets its contract.
use Rattle.std.proofs.Common.{rules}
use mathlib.Core.Path.{◌≡◌, sym, ap, ◌∙◌}
use Prim.Native.Nat.{ℕ}
use lib.ListN.{length, replicate}
use Rattle.tree.specs.Columns.{columns}
use Rattle.build.specs.Outcomes.{rooms}
use Rattle.one_more.specs.More.{asks_more}
use Rattle.one_more.proofs.Judging.{sound}
use Rattle.one_more.proofs.Ending.{refused_all, built-all, with-work}
use Rattle.one_more.proofs.add_source.Goals as goal

pub returns-in-Err : goal.returns-in-Err
returns-in-Err c = let all = refused_all (asks_more c.args.b c.args.sources.now c.args.point c.args.limit c.args.keep (columns c.args.key.now c.args.own.now c.args.begin.now c.args.total.now) c.args.indices.now) (rooms c.args.work.now c.args.new_indices.now c.args.new_key.now c.args.new_own.now c.args.new_begin.now c.args.new_total.now) c.clear_keys.new.work c.clear_keys.new.indices c.clear_keys.new.key c.clear_columns.new.own c.clear_columns.new.begin c.clear_columns.new.total c.in-Err.refusal (sym c.judge-judged.ensures ∙ c.in-Err.is) (c.clear_keys.ensures.work_after ∙ ap (λ (m : ℕ). replicate m 0) c.judge-judged.auto.work) c.clear_keys.ensures.indices_after c.clear_keys.ensures.key_after c.clear_columns.ensures.own_after c.clear_columns.ensures.begin_after c.clear_columns.ensures.total_after in record { value = all.0; work_after = all.1.0; new_indices_after = all.1.1.0; new_key_after = all.1.1.1.0; new_own_after = all.1.1.1.1.0; new_begin_after = all.1.1.1.1.1.0; new_total_after = all.1.1.1.1.1.1 }

pub raise-requires : goal.raise-requires
raise-requires c = let n : length c.args.point ≡ 3 = search rules in sound (asks_more c.args.b c.args.sources.now c.args.point c.args.limit c.args.keep (columns c.args.key.now c.args.own.now c.args.begin.now c.args.total.now) c.args.indices.now) (sym c.judge-judged.ensures ∙ c.in_default.is) n

pub returns : goal.returns
returns c = let all = with-work (asks_more c.args.b c.args.sources.now c.args.point c.args.limit c.args.keep (columns c.args.key.now c.args.own.now c.args.begin.now c.args.total.now) c.args.indices.now) c.args.work.now c.judge-judged.new.work c.args.new_indices.now c.args.new_key.now c.args.new_own.now c.args.new_begin.now c.args.new_total.now c.judge-judged.auto.work c.raise.result c.raise.new.work c.raise.new.indices c.raise.new.key c.raise.new.own c.raise.new.begin c.raise.new.total (built-all (asks_more c.args.b c.args.sources.now c.args.point c.args.limit c.args.keep (columns c.args.key.now c.args.own.now c.args.begin.now c.args.total.now) c.args.indices.now) (rooms c.judge-judged.new.work c.args.new_indices.now c.args.new_key.now c.args.new_own.now c.args.new_begin.now c.args.new_total.now) c.raise.new.work c.raise.new.indices c.raise.new.key c.raise.new.own c.raise.new.begin c.raise.new.total (sym c.judge-judged.ensures ∙ c.in_default.is) c.raise.result c.raise.ensures.value c.raise.ensures.work_after c.raise.ensures.indices_after c.raise.ensures.key_after c.raise.ensures.own_after c.raise.ensures.begin_after c.raise.ensures.total_after) in record { value = all.0; work_after = all.1.0; new_indices_after = all.1.1.0; new_key_after = all.1.1.1.0; new_own_after = all.1.1.1.1.0; new_begin_after = all.1.1.1.1.1.0; new_total_after = all.1.1.1.1.1.1 }
