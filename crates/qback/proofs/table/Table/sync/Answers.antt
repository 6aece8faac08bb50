use Rattle.std.proofs.Common.{refl}
use Rattle.disk_model.specs.World.{writes_of}
use Rattle.qback.proofs.Entries.{runs_same, quiet_same, runs_from, rose_from}
use Rattle.qback.proofs.table.Table.sync.Goals as goal

pub returns-in-Ok-clause-run : goal.returns-in-Ok-clause-run
returns-in-Ok-clause-run c = runs_same _ _ _ _ c.index_mut.ensures.value _ _ refl (writes_of c.args.file.0) refl refl

pub returns-in-Ok-clause-quiet : goal.returns-in-Ok-clause-quiet
returns-in-Ok-clause-quiet c = quiet_same _ _ _ _ c.index_mut.ensures.value _ _ refl refl refl

pub returns-in-Err-clause-run : goal.returns-in-Err-clause-run
returns-in-Err-clause-run c = runs_from _ _ _ _ c.index_mut.ensures.value _ _ refl _ _ refl refl c.write_fault.ensures.run

pub returns-in-Err-clause-cause : goal.returns-in-Err-clause-cause
returns-in-Err-clause-cause c = (c.write_fault.ensures.rose, rose_from c.args.self.now.entries.items c.args.file.0 c.index_mut.result.now _ c.index_mut.ensures.value c.args.self.now.faults c.args.self.now.print_faults refl (λ o. o.write_faults) _ refl c.write_fault.ensures.wrote)
