use Rattle.qc_alloc.proofs.Layouts.{counts_whole}
use Rattle.qc_alloc.proofs.tables.Layout.each.Goals as goal

pub returns-clause-each : goal.returns-clause-each
returns-clause-each c = counts_whole c.args.self c.requires
