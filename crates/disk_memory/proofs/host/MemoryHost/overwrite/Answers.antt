use Rattle.std.proofs.Common.{◌<◌, length, arith}
use Rattle.std.specs.Prelude.{string_bytes, vec_capacity}
use Rattle.std.proofs.lemmas.List.{length-map}
use Rattle.disk_memory.specs.declared.files.File.{File}
use Rattle.disk_memory.proofs.Kept.{kept_with_bytes}
use Rattle.disk_memory.proofs.Fields.{both_ok, both_err, kept_either, held_written, held_roomier}
use Rattle.disk_memory.proofs.Rooms.{room_wider, set_wider}
use Rattle.disk_memory.proofs.host.MemoryHost.overwrite.Goals as goal

pub returns-clause-ok : goal.returns-clause-ok
returns-clause-ok c =
    let self = c.args.self.now in
    let call = c.overwrite.ensures in
    both_ok c.overwrite.result call.bytes call.noted
    (held_written self.keep self.files.items self.log.items self.printed.items self.faults self.print_faults c.args.file c.index_mut-target.result.now c.overwrite.new.file c.requires.there c.index_mut-target.ensures.value c.args.at c.args.bytes.now c.overwrite.new.log.items call.name call.reads call.writes)

pub returns-clause-err : goal.returns-clause-err
returns-clause-err c =
    let self = c.args.self.now in
    let call = c.overwrite.ensures in
    both_err c.overwrite.result call.unwritten call.unnoted
    (held_roomier self.keep self.files.items self.log.items self.printed.items self.faults self.print_faults c.args.file c.index_mut-target.result.now c.overwrite.new.file c.requires.there c.index_mut-target.ensures.value c.overwrite.new.log.items call.name call.reads call.writes)

pub invariant_of-self : goal.invariant_of-self
invariant_of-self c =
    let self = c.args.self.now in
    let call = c.overwrite.ensures in
    let done = both_ok c.overwrite.result call.bytes call.noted
    (held_written self.keep self.files.items self.log.items self.printed.items self.faults self.print_faults c.args.file c.index_mut-target.result.now c.overwrite.new.file c.requires.there c.index_mut-target.ensures.value c.args.at c.args.bytes.now c.overwrite.new.log.items call.name call.reads call.writes) in
    let failed = both_err c.overwrite.result call.unwritten call.unnoted
    (held_roomier self.keep self.files.items self.log.items self.printed.items self.faults self.print_faults c.args.file c.index_mut-target.result.now c.overwrite.new.file c.requires.there c.index_mut-target.ensures.value c.overwrite.new.log.items call.name call.reads call.writes) in
    record { kept = kept_either c.overwrite.result done failed (kept_with_bytes c.args.file c.args.at c.args.bytes.now _ c.requires.there self.kept) self.kept }

pub returns-clause-room : goal.returns-clause-room
returns-clause-room c =
    let self = c.args.self.now in
    let files = self.files.items in
    let there : c.args.file < length files = omega (arith, c.requires.there, length-map files (λ (file : File). string_bytes file.name)) in
    room_wider (vec_capacity self.files) files _ self.spare.items (vec_capacity self.printed) (set_wider files c.args.file c.index_mut-target.result.now c.overwrite.new.file there c.index_mut-target.ensures.value (λ (file : File). vec_capacity file.bytes) c.overwrite.ensures.kept)
