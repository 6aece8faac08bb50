use Rattle.std.proofs.Common.{◌≡◌, ℕ, ◌+◌, ◌*◌, ◌/◌, ◌<◌, List, length, slice_index, ap, sym, subst, ◌∙◌, arith}
use Rattle.std.proofs.lemmas.Grind.{common_steps}
use Rattle.disk_model.specs.Files.{reading}
use Rattle.file_device.proofs.Laws.{given}
use Rattle.qc_layout.specs.Disks.{counts_in, refcount}
use Rattle.qc_alloc.specs.Tables.{Notes}
use Rattle.qc_alloc.proofs.Refcounts.{counts_read, half_row, near_row}
use Rattle.qc_alloc.proofs.tables.Layout.read_blocks.Goals as goal

pub returns-clause-notes : goal.returns-clause-notes
returns-clause-notes g c told table had =
    let self = c.args.self in
    let w = g.D.Outside.world c.args.depot.now in
    let seen : List ℕ = w.seen c.args.file.0 in
    let old : ℕ = length c.args.bytes.now in
    let n : ℕ = old / self.cluster in
    let least = c.requires.layout.least in
    let whole = c.requires.whole in
    let long : old ≡ n * self.cluster = grind (arith, common_steps) in
    let kept : length c.read.new.out ≡ old = c.read.auto.out in
    let X : List ℕ → Type 0 = λ file. c.read.new.out ≡ reading file (slice_index c.args.blocks.now c.args.first) old in
    let is : c.read.new.out ≡ reading seen (slice_index c.args.blocks.now c.args.first) old = given w c.args.file.0 X c.in_ok-read.ensures.bytes told in
    let read : c.read.new.out ≡ reading seen (slice_index c.args.blocks.now c.args.first) (length c.read.new.out) =
    is ∙ ap (λ (m : ℕ). reading seen (slice_index c.args.blocks.now c.args.first) m) (sym kept) in
    let agree = counts_read self seen c.args.blocks.now c.read.new.out c.args.first n c.requires.layout c.requires.few table c.requires.blocks c.requires.row (kept ∙ long) read in
    let from : c.args.first * c.each.result ≡ c.args.first * counts_in self.cluster_bits = ap (λ (e : ℕ). c.args.first * e) c.each.ensures.each in
    let P : ℕ → Type 0 = λ k. Notes (refcount seen) k c.note_counts.new.counted.set c.note_counts.new.counted.past in
    let Q : ℕ → Type 0 = λ k. Notes (refcount seen) k c.args.counted.now.set c.args.counted.now.past in
    let start : Notes (refcount seen) (c.args.first * c.each.result) c.args.counted.now.set c.args.counted.now.past = subst Q (sym from) had in
    let same = λ (i : ℕ) (below : i < length c.read.new.out / 2). ap (λ (k : ℕ). refcount seen (k + i)) from ∙ agree i below in
    let upto : c.args.first * c.each.result + length c.read.new.out / 2 ≡ (c.args.first + n) * counts_in self.cluster_bits =
    half_row self c.args.first n _ _ c.requires.layout (kept ∙ long) c.each.ensures.each in
    subst P upto (c.note_counts.ensures.notes (refcount seen) same start)

pub overflow_mul-first : goal.overflow_mul-first
overflow_mul-first g c =
    let near = near_row c.args.self c.args.blocks.now c.args.first _ c.requires.layout c.requires.few c.requires.row.inside in
    let same = ap (λ (e : ℕ). c.args.first * e) c.each.ensures.each in
    omega (arith, near, same)

pub note_counts-requires-clause-near : goal.note_counts-requires-clause-near
note_counts-requires-clause-near g c =
    let near = near_row c.args.self c.args.blocks.now c.args.first _ c.requires.layout c.requires.few c.requires.row.inside in
    let same = ap (λ (e : ℕ). c.args.first * e) c.each.ensures.each in
    let kept = c.read.auto.out in
    let long = c.requires.long in
    omega (arith, near, same, kept, long)
