use Rattle.std.proofs.Common.{rules, refl}
use Rattle.qback.proofs.Entries.{reads_rise, count_rose}
use Rattle.qback.proofs.table.Table.read_fault.Goals as goal

pub returns-clause-run : goal.returns-clause-run
returns-clause-run c = reads_rise _ _ _ _ c.index_mut-opened.ensures.value _ _ _ (search rules) refl refl (search rules)

pub returns-clause-read : goal.returns-clause-read
returns-clause-read c = count_rose (λ o. o.read_faults) _ _ c.index_mut-opened.result.now _ c.requires c.index_mut-opened.ensures.value (search rules)
