use Rattle.std.proofs.Common.{◌<◌, length, ◌∙◌, arith, length-set}
use Rattle.std.specs.Prelude.{string_capacity, vec_capacity}
use Rattle.disk_memory.specs.declared.files.File.{File}
use Rattle.disk_memory.proofs.Rooms.{wider_on, same_files_on, same_set, set_wider, set_below}
use Rattle.disk_memory.proofs.files.widen.Goals as goal

pub loop-i-preserved : goal.loop-i-preserved
loop-i-preserved c =
    let l = c.loop-i.invariant in
    let call = c.widen_file.ensures in
    let done = c.in_ok-widen_file.ensures in
    let files = c.loop-i.files.items in
    let old = c.index_mut.result.now in
    let new = c.widen_file.new.file in
    let at = c.loop-i.i in
    let there : at < length files = omega arith in
    let is = c.index_mut.ensures.value in
    record {
      same = same_files_on c.args.files.now.items files _ l.same (same_set files at old new there is call.name call.bytes call.reads call.writes);
      places = l.places;
      long = length-set files at new ∙ l.long;
      end = l.end;
      wide_names = wider_on _ _ _ l.wide_names (set_wider files at old new there is (λ (file : File). string_capacity file.name) call.kept_name);
      wide_bytes = wider_on _ _ _ l.wide_bytes (set_wider files at old new there is (λ (file : File). vec_capacity file.bytes) call.kept_bytes);
      all_names = set_below files at old new there is (λ (file : File). string_capacity file.name) c.args.name l.all_names call.kept_name done.room_name;
      all_bytes = set_below files at old new there is (λ (file : File). vec_capacity file.bytes) c.args.size l.all_bytes call.kept_bytes done.room_bytes;
    }

pub returns-in_err-widen_file-clause-same : goal.returns-in_err-widen_file-clause-same
returns-in_err-widen_file-clause-same c =
    let call = c.widen_file.ensures in
    let files = c.loop-i.files.items in
    let there : c.loop-i.i < length files = omega arith in
    same_files_on c.args.files.now.items files _ c.loop-i.invariant.same (same_set files c.loop-i.i c.index_mut.result.now c.widen_file.new.file there c.index_mut.ensures.value call.name call.bytes call.reads call.writes)

pub returns-in_err-widen_file-clause-names : goal.returns-in_err-widen_file-clause-names
returns-in_err-widen_file-clause-names c =
    let files = c.loop-i.files.items in
    let there : c.loop-i.i < length files = omega arith in
    wider_on _ _ _ c.loop-i.invariant.wide_names (set_wider files c.loop-i.i c.index_mut.result.now c.widen_file.new.file there c.index_mut.ensures.value (λ (file : File). string_capacity file.name) c.widen_file.ensures.kept_name)

pub returns-in_err-widen_file-clause-bytes : goal.returns-in_err-widen_file-clause-bytes
returns-in_err-widen_file-clause-bytes c =
    let files = c.loop-i.files.items in
    let there : c.loop-i.i < length files = omega arith in
    wider_on _ _ _ c.loop-i.invariant.wide_bytes (set_wider files c.loop-i.i c.index_mut.result.now c.widen_file.new.file there c.index_mut.ensures.value (λ (file : File). vec_capacity file.bytes) c.widen_file.ensures.kept_bytes)
