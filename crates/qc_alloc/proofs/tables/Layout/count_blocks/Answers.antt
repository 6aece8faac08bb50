use Rattle.std.proofs.Common.{◌≡◌, ℕ, ◌+◌, ◌*◌, ◌<◌, List, length, IsTrue, sym, subst, ◌∙◌, arith, rules}
use Rattle.disk_model.proofs.Laws.{run_on}
use Rattle.file_device.proofs.Laws.{quiet_on, quiet_stay}
use Rattle.qc_layout.specs.Disks.{counts_in, refcount}
use Rattle.qc_alloc.specs.Tables.{Notes, IsRow}
use Rattle.qc_alloc.proofs.Layouts.{blocks_few}
use Rattle.qc_alloc.proofs.Refcounts.{HasCounted, counted_step, counted_none, piece_count, piece_whole}
use Rattle.qc_alloc.proofs.Reading.{reads_handed, reads_on, seen_back, seen_on}
use Rattle.qc_alloc.proofs.tables.Layout.count_blocks.Goals as goal

pub neighbours-count-requires-clause-few : goal.neighbours-count-requires-clause-few
neighbours-count-requires-clause-few g c = omega (arith, blocks_few c.args.self c.requires.layout, c.requires.few)

pub read_blocks-requires-clause-whole : goal.read_blocks-requires-clause-whole
read_blocks-requires-clause-whole g c =
    let least = c.requires.layout.least in
    piece_whole c.loop-index.buffer c.neighbours-count.result c.args.self.cluster (omega (arith, least)) c.neighbours-count.ensures.most

pub read_blocks-requires-clause-row : goal.read_blocks-requires-clause-row
read_blocks-requires-clause-row g c =
    let least = c.requires.layout.least in
    let n = piece_count c.loop-index.buffer c.neighbours-count.result c.args.self.cluster (omega (arith, least)) c.neighbours-count.ensures.most in
    let P : ℕ → Type 0 = λ m. IsRow c.args.self.cluster c.args.blocks.now c.loop-index.index m in
    subst P (sym n) c.neighbours-count.ensures.row

pub returns-in_err-read_blocks-clause-reads : goal.returns-in_err-read_blocks-clause-reads
returns-in_err-read_blocks-clause-reads g c =
    reads_handed c.from_residual.result (reads_on c.loop-index.invariant.0 c.loop-index.invariant.5 c.in_err-read_blocks.ensures.reads) c.from_residual.ensures.1

pub loop-index-preserved : goal.loop-index-preserved
loop-index-preserved g c =
    let self = c.args.self in
    let blocks = c.args.blocks.now in
    let index = c.loop-index.index in
    let start = c.args.counted.now.set in
    let first = c.args.counted.now.past in
    let set = c.read_blocks.new.counted.set in
    let past = c.read_blocks.new.counted.past in
    let inv = c.loop-index.invariant in
    let e = c.in_ok-read_blocks.ensures in
    let n : ℕ = c.neighbours-count.result in
    let least = self.cluster in
    let low = c.requires.layout.least in
    let row = c.neighbours-count.ensures.row.inside in
    let m = c.max-index.ensures in
    let below : index < length blocks = omega arith in
    let count = piece_count c.loop-index.buffer n self.cluster (omega (arith, low)) c.neighbours-count.ensures.most in
    let X : List ℕ → Type 0 = λ file. HasCounted self file blocks start first (index + n) set past in
    let Y : List ℕ → Type 0 = λ file. HasCounted self file blocks start first index c.loop-index.counted.set c.loop-index.counted.past in
    let w = g.D.Outside.world c.loop-index.depot in
    let seen : List ℕ = w.seen c.args.file.0 in
    let P : ℕ → Type 0 = λ k. Notes (refcount seen) ((index + k) * counts_in self.cluster_bits) set past in
    let here = λ (told : IsTrue w.tells). let had : Y seen = seen_on Y inv.0 inv.3 told in
    let is : X seen = record { on = λ table began. subst P count (e.notes told table (had.on table began)) } in is in (
      run_on inv.0 e.reads.run,
      e.limit.0 ∙ inv.1,
      e.limit.1,
      λ told. counted_step self _ blocks start first index n c.max-index.result set past c.requires.layout c.requires.blocks below m c.neighbours-count.ensures.none (seen_back X inv.0 here told),
      omega (arith, row, m, below),
      quiet_on inv.5 (e.reads.quiet (λ failed. cc)),
    )

pub returns-clause-notes : goal.returns-clause-notes
returns-clause-notes g c told table began =
    let w = g.D.Outside.world c.args.depot.now in
    let seen : List ℕ = w.seen c.args.file.0 in
    let inv = c.loop-index.invariant in
    let all : c.loop-index.index ≡ length c.args.blocks.now = omega (arith, inv.4) in
    let P : ℕ → Type 0 = λ k. Notes (refcount seen) (k * counts_in c.args.self.cluster_bits) c.loop-index.counted.set c.loop-index.counted.past in
    subst P all ((inv.3 told).on table began)

pub loop-index-init : goal.loop-index-init
loop-index-init g c = search (rules, counted_none, quiet_stay)
