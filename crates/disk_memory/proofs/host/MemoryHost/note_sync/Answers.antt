use Rattle.std.proofs.lemmas.Result.{on_ok_weaker}
use Rattle.disk_memory.proofs.Kept.{kept_with_sync}
use Rattle.disk_memory.proofs.Fields.{kept_either, held_synced, held_unnoted, on_err_weaker}
use Rattle.disk_memory.proofs.host.MemoryHost.note_sync.Goals as goal

pub invariant_of-self : goal.invariant_of-self
invariant_of-self c =
    let self = c.args.self.now in
    let log = c.note_sync.new.log.items in
    let done = on_ok_weaker c.note_sync.result (held_synced self.keep self.files.items self.log.items log self.printed.items self.faults self.print_faults c.args.file) c.note_sync.ensures.ok in
    let failed = on_err_weaker c.note_sync.result (held_unnoted self.keep self.files.items self.log.items log self.printed.items self.faults self.print_faults) c.note_sync.ensures.err in
    record { kept = kept_either c.note_sync.result done failed (kept_with_sync c.args.file _ c.requires self.kept) self.kept }
