use Rattle.std.proofs.Common.{rules, refl}
use Rattle.qback.proofs.Entries.{writes_rise, count_rose}
use Rattle.qback.proofs.table.Table.write_fault.Goals as goal

pub returns-clause-run : goal.returns-clause-run
returns-clause-run c = writes_rise _ _ _ _ c.index_mut-opened.ensures.value _ _ _ (search rules) refl refl (search rules)

pub returns-clause-wrote : goal.returns-clause-wrote
returns-clause-wrote c = count_rose (λ o. o.write_faults) _ _ c.index_mut-opened.result.now _ c.requires c.index_mut-opened.ensures.value (search rules)
