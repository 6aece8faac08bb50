use Rattle.std.proofs.Common.{◌≡◌, inl, inr, ℕ, ◌+◌, ◌-◌, ◌/◌, ◌%◌, ◌<◌, ◌≤◌, List, length, sym, ◌∙◌, arith}
use Rattle.std.proofs.lemmas.Bool.{cases_lt}
use Rattle.disk_model.specs.Files.{byte}
use Rattle.disk_model.proofs.Laws.{is_reading}
use Rattle.file_device.specs.File.{file_of}
use Rattle.file_device.proofs.Laws.{looks_on, gives_back}
use Rattle.image_model.specs.Clusters.{guest, size}
use Rattle.image_model.specs.Disks.{disk_of}
use Rattle.image_steps.proofs.Disk.{byte-disk_of}
use Rattle.qc_map.specs.Mapping.{mapping, shape_by}
use Rattle.qc_map.proofs.Looking.{looks_failed, looks_ok}
use Rattle.qc_map.proofs.Pieces.{length_mid, length_put, put_before, put_in}
use Rattle.qc_map.proofs.Places.{cluster_some, guest_disk}
use Rattle.qc_map.proofs.layout.Layout.read.Goals as goal

pub returns-in_err-read_part-clause-looks : goal.returns-in_err-read_part-clause-looks
returns-in_err-read_part-clause-looks g c = looks_failed c.from_residual.result _ c.loop-done.invariant.looks c.in_err-read_part.ensures.looks c.from_residual.ensures.1

pub loop-done-preserved : goal.loop-done-preserved
loop-done-preserved g c =
    let inv = c.loop-done.invariant in
    let done = c.loop-done.done in
    let part = c.part_at-part.result in
    let e = c.part_at-part.ensures in
    let end : ℕ = done + part.length in
    let out = c.loop-done.out in
    let piece = c.read_part.new.out in
    let s = shape_by (mapping c.args.self) in
    let test = c.loop-done-test.true in
    let order : done ≤ end = omega arith in
    let within : end ≤ length out = omega (arith, e.within, test) in
    let mid = length_mid out done end order within in
    let long : length piece ≡ end - done = c.read_part.auto.out ∙ mid in
    record {
      looks = looks_ok 0 (looks_on inv.looks c.in_ok-read_part.ensures.looks);
      order = omega (arith, within, length_put out piece done end order within long);
      bytes = λ told x inside.
          let file = (file_of (g.D.Outside.world c.args.depot.now) c.args.self.file.0).bytes in
          elim (cases_lt x done) [
            | inl before ↦ put_before out piece done end order within long x before ∙ inv.bytes told x before
            | inr from ↦
                let P : List ℕ → Type 0 = λ b. (t : ℕ) → t < part.length → byte piece t ≡ guest s b part.table (part.slot + (part.from + t) / size s) ((part.from + t) % size s) in
                let read = gives_back P inv.looks c.in_ok-read_part.ensures.bytes told (x - done) (omega (arith, from, inside)) in
                put_in out piece done end order within long x from inside ∙ read
                ∙ guest_disk s file (cluster_some (mapping c.args.self) c.requires.mapping) part.table part.slot part.count (part.from + (x - done)) (c.args.at + x) e.lies.slots (omega (arith, e.lies.covers, from, inside))
                (omega (arith, e.part.begins, from))
          ];
    }

pub returns-clause-bytes : goal.returns-clause-bytes
returns-clause-bytes g c = λ told.
    let file = (file_of (g.D.Outside.world c.args.depot.now) c.args.self.file.0).bytes in
    let s = shape_by (mapping c.args.self) in
    let inv = c.loop-done.invariant in
    let out = c.loop-done.out in
    let test = c.loop-done-test.false in
    let long : length out ≡ length c.args.out.now = c.loop-done.auto.out in
    is_reading (disk_of s c.args.self.size file) out c.args.at (length c.args.out.now) long (λ x inside.
    inv.bytes told x (omega (arith, inside, long, test)) ∙ sym (byte-disk_of s c.args.self.size file (c.args.at + x) (omega (arith, inside, c.requires.inside))))
