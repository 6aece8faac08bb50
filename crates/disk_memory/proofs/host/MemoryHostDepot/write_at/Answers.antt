use Rattle.std.proofs.Common.{◌≡◌, ◌<◌, ◌≤◌, false, length, get_or, refl, ap, ◌∙◌, arith}
use Rattle.std.specs.Prelude.{string_bytes, vec_capacity}
use Rattle.std.proofs.lemmas.List.{length-map}
use Rattle.disk_memory.specs.declared.files.File.{File}
use Rattle.disk_model.specs.World.{Writes, HasWritten}
use Rattle.disk_memory.specs.Steps.{with_bytes, failed_write}
use Rattle.disk_memory.specs.Held.{Held, world_of}
use Rattle.disk_memory.specs.Room.{Room}
use Rattle.disk_memory.specs.Host.{held, told_by, room}
use Rattle.disk_memory.proofs.Calls.{stepped, unwritten, writes, has_written}
use Rattle.disk_memory.proofs.host.MemoryHostDepot.write_at.Goals as goal

pub returns-then-begins_failing-clause-call : goal.returns-then-begins_failing-clause-call
returns-then-begins_failing-clause-call c =
    stepped (λ (w : Held). Writes c.args.file.0 c.args.at c.args.bytes.now (told_by c.args.self.now) (world_of w)) (failed_write c.args.file.0) (held c.args.self.now) (held c.begins_failing.new.self) (held c.fail_write.new.self) c.begins_failing.ensures.held c.fail_write.ensures.held
    (unwritten c.args.file.0 c.args.at c.args.bytes.now (held c.args.self.now))

pub returns-in-Ok-clause-call : goal.returns-in-Ok-clause-call
returns-in-Ok-clause-call c =
    stepped (λ (w : Held). Writes c.args.file.0 c.args.at c.args.bytes.now (told_by c.args.self.now) (world_of w)) (with_bytes c.args.file.0 c.args.at c.args.bytes.now) (held c.args.self.now) (held c.begins_failing.new.self) (held c.overwrite.new.self) c.begins_failing.ensures.held c.in-Ok.ensures.ok
    (writes c.args.file.0 (held c.args.self.now) c.args.self.now.kept c.args.at c.args.bytes.now c.requires.given)

pub returns-in-Ok-clause-done : goal.returns-in-Ok-clause-done
returns-in-Ok-clause-done c =
    stepped (λ (w : Held). HasWritten c.args.file.0 c.args.at c.args.bytes.now (told_by c.args.self.now) (world_of w)) (with_bytes c.args.file.0 c.args.at c.args.bytes.now) (held c.args.self.now) (held c.begins_failing.new.self) (held c.overwrite.new.self) c.begins_failing.ensures.held c.in-Ok.ensures.ok
    (has_written c.args.file.0 (held c.args.self.now) c.args.self.now.kept c.args.at c.args.bytes.now c.requires.given)

pub returns-in-Err-clause-call : goal.returns-in-Err-clause-call
returns-in-Err-clause-call c =
    stepped (λ (w : Held). Writes c.args.file.0 c.args.at c.args.bytes.now (told_by c.args.self.now) (world_of w)) (failed_write c.args.file.0) (held c.args.self.now) (held c.overwrite.new.self) (held c.fail_write-in-Err.new.self) (c.in-Err.ensures.err ∙ c.begins_failing.ensures.held) c.fail_write-in-Err.ensures.held
    (unwritten c.args.file.0 c.args.at c.args.bytes.now (held c.args.self.now))

-- within its room the write finds memory
pub returns-in-Err-clause-sure : goal.returns-in-Err-clause-sure
returns-in-Err-clause-sure c more size has keep fits failed =
    let file = c.args.file.0 in
    let files = c.args.self.now.files.items in
    let there : file < length (room c.args.self.now).files = omega (arith, c.requires.given, length-map files (λ (file : File). string_bytes file.name), length-map files (λ (file : File). vec_capacity file.bytes)) in
    let wide : size ≤ get_or (room c.begins_failing.new.self).files file 0 = omega (arith, has.files file there, ap (λ (r : Room). get_or r.files file 0) c.begins_failing.ensures.room) in
    let kept : c.begins_failing.new.self.keep ≡ false = ap (λ (h : Held). h.keep) c.begins_failing.ensures.held ∙ keep in
    absurd (cc (c.in-Err.ensures.sure kept (omega (arith, wide, fits))))

pub returns-in-Err-clause-ready : goal.returns-in-Err-clause-ready
returns-in-Err-clause-ready c more size ready fits =
    let failing = returns-in-Err-clause-sure c more size ready.has ready.unkept fits refl in
    absurd (omega (arith, failing.1, ap length ready.unfailing))
