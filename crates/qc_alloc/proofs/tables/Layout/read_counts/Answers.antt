use Rattle.std.proofs.Common.{◌≡◌, ℕ, ◌*◌, List, length, min, max, Bool, false, None, ap, sym, subst, ◌∙◌, arith, rules}
use Rattle.std.specs.Int.{div_ceil}
use Rattle.std.proofs.Math.ListN.{length-replicate}
use Rattle.disk_model.proofs.Laws.{run_on}
use Rattle.file_device.proofs.Laws.{given, quiet_on}
use Rattle.qc_layout.specs.Disks.{counts_in, refcount}
use Rattle.qc_alloc.specs.declared.refusals.ClusterRefusal.{ClusterRefusal}
use Rattle.qc_alloc.specs.Opening.{rule_of}
use Rattle.qc_alloc.specs.Tables.{Notes, IsTableOf, reach_by}
use Rattle.qc_alloc.proofs.Finding.{err_is}
use Rattle.qc_alloc.proofs.Noting.{notes_none}
use Rattle.qc_alloc.proofs.Refcounts.{counts_found, buffer_long, near_row}
use Rattle.qc_alloc.proofs.Reading.{reads_failed, reads_after, reads_on, reads_handed, seen_back, not_memory}
use Rattle.qc_alloc.proofs.tables.Layout.read_counts.Goals as goal

pub returns-in_err-length-clause-reads : goal.returns-in_err-length-clause-reads
returns-in_err-length-clause-reads g c = reads_failed _ c.in_err-length.ensures.looks c.from_residual.ensures.1

pub returns-in_err-new-clause-reads : goal.returns-in_err-new-clause-reads
returns-in_err-new-clause-reads g c = reads_after _ c.in_ok-length.ensures.looks.reads c.in_ok-length.ensures.looks.calls.quiet (not_memory _ c.from_residual-in_err-new.ensures.1)

pub returns-in_err-buffer-clause-reads : goal.returns-in_err-buffer-clause-reads
returns-in_err-buffer-clause-reads g c = reads_after _ c.in_ok-length.ensures.looks.reads c.in_ok-length.ensures.looks.calls.quiet (not_memory _ c.from_residual-in_err-buffer.ensures.1)

pub returns-in_err-count_blocks-clause-reads : goal.returns-in_err-count_blocks-clause-reads
returns-in_err-count_blocks-clause-reads g c =
    reads_handed c.from_residual-in_err-count_blocks.result (reads_on c.in_ok-length.ensures.looks.reads c.in_ok-length.ensures.looks.calls.quiet c.in_err-count_blocks.ensures.reads) c.from_residual-in_err-count_blocks.ensures.1

pub returns-in_err-count_blocks-clause-why : goal.returns-in_err-count_blocks-clause-why
returns-in_err-count_blocks-clause-why g c =
    let P : ClusterRefusal → Type 0 = λ why. rule_of why ≡ None in
    err_is P c.in_err-count_blocks.field-0.0 c.from_residual-in_err-count_blocks.result c.from_residual-in_err-count_blocks.ensures.1 c.in_err-count_blocks.ensures.why

pub overflow_mul-blocks_end : goal.overflow_mul-blocks_end
overflow_mul-blocks_end g c =
    let near = near_row c.args.self c.args.blocks.now c.blocks_end.result 0 c.requires.layout c.requires.few (omega (arith, c.blocks_end.ensures.within)) in
    let same = ap (λ (e : ℕ). c.blocks_end.result * e) c.each.ensures.each in
    omega (arith, near, same)

pub overflow_mul-most : goal.overflow_mul-most
overflow_mul-most g c = omega (arith, (buffer_long c.args.self.cluster c.max-most.result c.requires.layout.least c.requires.layout.most c.max-most.ensures).1)

pub count_blocks-requires-clause-given : goal.count_blocks-requires-clause-given
count_blocks-requires-clause-given g c = omega (arith, c.requires.given, c.in_ok-length.ensures.looks.reads.goes.given)

pub count_blocks-requires-clause-some : goal.count_blocks-requires-clause-some
count_blocks-requires-clause-some g c =
    let big = buffer_long c.args.self.cluster c.max-most.result c.requires.layout.least c.requires.layout.most c.max-most.ensures in
    let long : length c.in_ok-buffer.buffer.items ≡ c.max-most.result * c.args.self.cluster = search rules in
    let same = ap (λ (bytes : List ℕ). length bytes) c.deref_mut.ensures.value in
    omega (arith, big.0, long, same)

pub count_blocks-requires-clause-long : goal.count_blocks-requires-clause-long
count_blocks-requires-clause-long g c =
    let big = buffer_long c.args.self.cluster c.max-most.result c.requires.layout.least c.requires.layout.most c.max-most.ensures in
    let long : length c.in_ok-buffer.buffer.items ≡ c.max-most.result * c.args.self.cluster = search rules in
    let same = ap (λ (bytes : List ℕ). length bytes) c.deref_mut.ensures.value in
    omega (arith, big.1, long, same)

pub count_blocks-requires-clause-limit : goal.count_blocks-requires-clause-limit
count_blocks-requires-clause-limit g c = sym (ap (λ (set : List Bool). length set) c.in_ok-new.ensures ∙ length-replicate {A = Bool} c.min-limit.result false)

pub returns-clause-reads : goal.returns-clause-reads
returns-clause-reads g c = reads_after _ (run_on c.in_ok-length.ensures.looks.reads c.in_ok-count_blocks.ensures.reads.run) (quiet_on c.in_ok-length.ensures.looks.calls.quiet (c.in_ok-count_blocks.ensures.reads.quiet (λ failed. cc))) (λ failed. absurd (cc))

pub returns-clause-counts : goal.returns-clause-counts
returns-clause-counts g c told table =
    let self = c.args.self in
    let blocks = c.args.blocks.now in
    let w = g.D.Outside.world c.args.depot.now in
    let seen : List ℕ = w.seen c.args.file.0 in
    let set = c.count_blocks.new.counted.set in
    let past = c.count_blocks.new.counted.past in
    let e = c.in_ok-count_blocks.ensures in
    let X : List ℕ → Type 0 = λ file. IsTableOf self file blocks → Notes (refcount file) 0 c.in_ok-new.field-0 0 → Notes (refcount file) (length blocks * counts_in self.cluster_bits) set past in
    let P : List Bool → Type 0 = λ s. Notes (refcount seen) 0 s 0 in
    let start : P c.in_ok-new.field-0 = subst P (sym c.in_ok-new.ensures) (notes_none (refcount seen) c.min-limit.result) in
    let notes = seen_back X c.in_ok-length.ensures.looks.reads e.notes told table start in
    let S : List ℕ → Type 0 = λ file. c.in_ok-length.length ≡ length file in
    let size : c.in_ok-length.length ≡ length seen = given w c.args.file.0 S c.in_ok-length.ensures.size told in
    let limit : c.min-limit.result ≡ min (reach_by self) (c.blocks_end.result * counts_in self.cluster_bits) =
    c.min-limit.ensures ∙ (ap (λ (r : ℕ). min r (c.blocks_end.result * c.each.result)) c.reach.ensures ∙ ap (λ (x : ℕ). min (reach_by self) (c.blocks_end.result * x)) c.each.ensures.each) in
    let next = c.max.ensures ∙ ap (λ (d : ℕ). max d past) (c.div_ceil.ensures ∙ ap (λ (n : ℕ). div_ceil n self.cluster) size) in
    counts_found self seen blocks c.min-limit.result c.blocks_end.result past _ set c.requires.layout c.requires.few table c.requires.blocks (record { is = limit; behind = c.blocks_end.ensures.behind })
    (sym e.limit.1 ∙ e.limit.0) notes next
