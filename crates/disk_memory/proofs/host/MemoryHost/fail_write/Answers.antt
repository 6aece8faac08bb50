use Rattle.std.proofs.Common.{◌<◌, length, refl, sym, subst, arith}
use Rattle.std.specs.Prelude.{string_bytes, vec_capacity}
use Rattle.std.proofs.lemmas.List.{length-map}
use Rattle.disk_memory.specs.declared.files.File.{File}
use Rattle.disk_memory.specs.Held.{IsKept}
use Rattle.disk_memory.proofs.Kept.{kept_failed_write}
use Rattle.disk_memory.proofs.Fields.{map-set_same, held_failed_write}
use Rattle.disk_memory.proofs.Rooms.{room_same}
use Rattle.disk_memory.proofs.host.MemoryHost.fail_write.Goals as goal

pub returns-clause-held : goal.returns-clause-held
returns-clause-held c =
    let self = c.args.self.now in
    held_failed_write self.keep self.files.items self.log.items self.printed.items self.faults self.print_faults c.args.file c.index_mut-failed.result.now _ c.requires c.index_mut-failed.ensures.value _ c.raised-self.ensures refl refl refl c.raised-failed.ensures

pub invariant_of-self : goal.invariant_of-self
invariant_of-self c =
    let self = c.args.self.now in
    let is = held_failed_write self.keep self.files.items self.log.items self.printed.items self.faults self.print_faults c.args.file c.index_mut-failed.result.now _ c.requires c.index_mut-failed.ensures.value _ c.raised-self.ensures refl refl refl c.raised-failed.ensures in
    record { kept = subst IsKept (sym is) (kept_failed_write c.args.file _ self.kept) }

pub returns-clause-room : goal.returns-clause-room
returns-clause-room c =
    let self = c.args.self.now in
    let files = self.files.items in
    let there : c.args.file < length files = omega (arith, c.requires, length-map files (λ (file : File). string_bytes file.name)) in
    room_same (vec_capacity self.files) files _ self.spare.items (vec_capacity self.printed) (map-set_same (λ (file : File). vec_capacity file.bytes) files c.args.file c.index_mut-failed.result.now _ there c.index_mut-failed.ensures.value refl)
