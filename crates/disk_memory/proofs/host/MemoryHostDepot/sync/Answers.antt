use Rattle.disk_model.specs.World.{Syncs, HasSynced}
use Rattle.disk_memory.specs.Held.{Held, world_of}
use Rattle.disk_memory.specs.Host.{held, told_by}
use Rattle.disk_memory.specs.Steps.{with_sync}
use Rattle.disk_memory.proofs.Calls.{stepped, syncs, has_synced}
use Rattle.disk_memory.proofs.host.MemoryHostDepot.sync.Goals as goal

pub returns-in-Ok-clause-call : goal.returns-in-Ok-clause-call
returns-in-Ok-clause-call c =
    stepped (λ (w : Held). Syncs c.args.file.0 (told_by c.args.self.now) (world_of w)) (with_sync c.args.file.0) (held c.args.self.now) (held c.begins_failing.new.self) (held c.note_sync.new.self) c.begins_failing.ensures.held c.in-Ok.ensures.ok
    (syncs c.args.file.0 (held c.args.self.now) c.args.self.now.kept)

pub returns-in-Ok-clause-done : goal.returns-in-Ok-clause-done
returns-in-Ok-clause-done c =
    stepped (λ (w : Held). HasSynced c.args.file.0 (told_by c.args.self.now) (world_of w)) (with_sync c.args.file.0) (held c.args.self.now) (held c.begins_failing.new.self) (held c.note_sync.new.self) c.begins_failing.ensures.held c.in-Ok.ensures.ok
    (has_synced c.args.file.0 (held c.args.self.now) c.args.self.now.kept)
