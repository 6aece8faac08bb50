use Rattle.file_device.proofs.Laws.{puts_on}
use Rattle.backup_file.proofs.Calls.{make_refused, put_refused, created}
use Rattle.backup_file.proofs.making.put_file.Goals as goal

pub returns-in-Err-make-clause-refuses : goal.returns-in-Err-make-clause-refuses
returns-in-Err-make-clause-refuses g c = make_refused c.find.ensures.run (rw c.in-Ok-None.field-0-is at c.in-Ok-None.ensures.found) c.in-Err-make.ensures.failed

pub returns-in-Err-write-clause-refuses : goal.returns-in-Err-write-clause-refuses
returns-in-Err-write-clause-refuses g c = put_refused c.find.ensures.run (rw c.in-Ok-None.field-0-is at c.in-Ok-None.ensures.found) (rw c.in-Ok-New.field-0-is at c.in-Ok-New.ensures.made) c.in-Err-write.ensures.wrote.puts

pub returns-in-Err-sync-clause-refuses : goal.returns-in-Err-sync-clause-refuses
returns-in-Err-sync-clause-refuses g c =
    put_refused c.find.ensures.run (rw c.in-Ok-None.field-0-is at c.in-Ok-None.ensures.found) (rw c.in-Ok-New.field-0-is at c.in-Ok-New.ensures.made) (puts_on c.in-Ok.ensures.wrote.puts c.in-Err-sync.ensures.synced.puts)

pub returns-in-Ok-sync-clause-made : goal.returns-in-Ok-sync-clause-made
returns-in-Ok-sync-clause-made g c =
    created c.find.ensures.run (rw c.in-Ok-None.field-0-is at c.in-Ok-None.ensures.found) (rw c.in-Ok-New.field-0-is at c.in-Ok-New.ensures.made) c.in-Ok-None.ensures.quiet c.in-Ok.ensures.wrote c.in-Ok-sync.ensures.synced
