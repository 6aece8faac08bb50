use Rattle.std.proofs.Common.{◌≡◌, ◌≢◌, ℕ, ◌*◌, List, [], length, None, IsTrue, refl, ap, sym, ◌∙◌, arith, rules}
use Rattle.qc_layout.specs.Opening.{count_checks, refused_after}
use Rattle.qc_alloc.specs.declared.refusals.ClusterRefusal.{ClusterRefusal}
use Rattle.qc_alloc.specs.Opening.{rule_of}
use Rattle.cluster_pool.specs.Pool.{Pool}
use Rattle.qc_alloc.proofs.Finding.{err_is}
use Rattle.qc_alloc.proofs.Layouts.{counts_half}
use Rattle.qc_alloc.proofs.Opened.{layout_read, layout_of_read, bits_read, found, allocator, refused_tests, refused_claims}
use Rattle.qc_alloc.proofs.Reading.{reads_handed, cause_of, not_failed, not_memory, rule_handed}
use Rattle.qc_alloc.proofs.clusters.Clusters.open.Goals as goal

pub of-layout-requires : goal.of-layout-requires
of-layout-requires g c = bits_read c.args.header.now c.args.file.0 (g.D.Outside.world c.args.depot.now) c.requires.header

pub read_pool-requires-clause-layout : goal.read_pool-requires-clause-layout
read_pool-requires-clause-layout g c =
    let e = c.of-layout.ensures in
    layout_read c.of-layout.result c.args.header.now c.args.file.0 (g.D.Outside.world c.args.depot.now) c.requires.header e.bits e.cluster e.table e.clusters

pub returns-in_err-pool-clause-refused : goal.returns-in_err-pool-clause-refused
returns-in_err-pool-clause-refused g c =
    let w = g.D.Outside.world c.args.depot.now in
    let seen : List ℕ = w.seen c.args.file.0 in
    let e = c.of-layout.ensures in
    let why : ClusterRefusal = c.in_err-pool.field-0.0 in
    let P : ClusterRefusal → Type 0 = λ x. rule_of x ≢ None → IsTrue w.tells → rule_of x ≡ refused_after seen [] (count_checks seen) in
    err_is P why c.from_residual.result c.from_residual.ensures.1
    (λ some told. refused_tests seen (rule_of why) (c.in_err-pool.ensures.refused some told (layout_of_read c.of-layout.result c.args.header.now c.args.file.0 w c.requires.header e.bits e.table e.clusters told)))

pub returns-in_err-pool-clause-failed : goal.returns-in_err-pool-clause-failed
returns-in_err-pool-clause-failed g c = cause_of c.from_residual.result (reads_handed c.from_residual.result c.in_err-pool.ensures.reads c.from_residual.ensures.1)

pub returns-in_err-pool-clause-run : goal.returns-in_err-pool-clause-run
returns-in_err-pool-clause-run g c = c.in_err-pool.ensures.reads.run

pub claim_all-requires-clause-layout : goal.claim_all-requires-clause-layout
claim_all-requires-clause-layout g c =
    let e = c.of-layout.ensures in
    layout_read c.of-layout.result c.args.header.now c.args.file.0 (g.D.Outside.world c.args.depot.now) c.requires.header e.bits e.cluster e.table e.clusters

pub claim_all-requires-clause-bits : goal.claim_all-requires-clause-bits
claim_all-requires-clause-bits g c = c.in_ok-pool.ensures.fresh.bits

pub claim_all-requires-clause-table : goal.claim_all-requires-clause-table
claim_all-requires-clause-table g c = c.in_ok-pool.ensures.fresh.table

pub returns-in_err-claim_all-clause-refused : goal.returns-in_err-claim_all-clause-refused
returns-in_err-claim_all-clause-refused g c =
    let w = g.D.Outside.world c.args.depot.now in
    let seen : List ℕ = w.seen c.args.file.0 in
    let e = c.of-layout.ensures in
    let why : ClusterRefusal = c.in_err-claim_all.field-0.0 in
    let P : ClusterRefusal → Type 0 = λ x. rule_of x ≢ None → IsTrue w.tells → rule_of x ≡ refused_after seen [] (count_checks seen) in
    err_is P why c.from_residual-in_err-claim_all.result c.from_residual-in_err-claim_all.ensures.1
    (λ some told.
    let of = layout_of_read c.of-layout.result c.args.header.now c.args.file.0 w c.requires.header e.bits e.table e.clusters told in
    let tested = c.in_ok-pool.ensures.tested told of in
    refused_claims c.in_ok-pool.pool seen (rule_of why) tested (c.in_err-claim_all.ensures.checks seen of tested.knows tested.names).1)

pub returns-in_err-claim_all-clause-failed : goal.returns-in_err-claim_all-clause-failed
returns-in_err-claim_all-clause-failed g c failed =
    absurd (not_failed c.from_residual-in_err-claim_all.result (rule_handed c.in_err-claim_all.field-0.0 c.from_residual-in_err-claim_all.result c.from_residual-in_err-claim_all.ensures.1 c.in_err-claim_all.ensures.rule) failed)

pub returns-in_err-claim_all-clause-run : goal.returns-in_err-claim_all-clause-run
returns-in_err-claim_all-clause-run g c = c.in_ok-pool.ensures.reads.run

pub returns-in_err-counts-clause-refused : goal.returns-in_err-counts-clause-refused
returns-in_err-counts-clause-refused g c = let P : ClusterRefusal → Type 0 = λ x. rule_of x ≢ None → IsTrue (g.D.Outside.world c.args.depot.now).tells →
    rule_of x ≡ refused_after ((g.D.Outside.world c.args.depot.now).seen c.args.file.0) [] (count_checks ((g.D.Outside.world c.args.depot.now).seen c.args.file.0)) in
    err_is P _ c.from_residual-in_err-counts.result c.from_residual-in_err-counts.ensures.1 (λ some told. absurd (some refl))

pub returns-in_err-counts-clause-failed : goal.returns-in_err-counts-clause-failed
returns-in_err-counts-clause-failed g c failed = absurd (not_memory c.from_residual-in_err-counts.result c.from_residual-in_err-counts.ensures.1 failed)

pub returns-in_err-counts-clause-run : goal.returns-in_err-counts-clause-run
returns-in_err-counts-clause-run g c = c.in_ok-pool.ensures.reads.run

pub returns-clause-opened : goal.returns-clause-opened
returns-clause-opened g c told =
    let w = g.D.Outside.world c.args.depot.now in
    let seen : List ℕ = w.seen c.args.file.0 in
    let e = c.of-layout.ensures in
    let l = c.of-layout.result in
    let layout = layout_read l c.args.header.now c.args.file.0 w c.requires.header e.bits e.cluster e.table e.clusters in
    let of = layout_of_read l c.args.header.now c.args.file.0 w c.requires.header e.bits e.table e.clusters told in
    let p = c.in_ok-pool.pool in
    let had = c.in_ok-pool.ensures in
    let did = c.in_ok-claim_all.ensures in
    let tested = had.tested told of in
    found p c.claim_all.new.pool l layout c.cluster_bits.ensures.pool had.fresh did.kept did.head did.below _ seen refl c.fresh_is_room.ensures tested (did.checks seen of tested.knows tested.names)

pub returns-clause-run : goal.returns-clause-run
returns-clause-run g c = c.in_ok-pool.ensures.reads.run

pub returns-clause-is : goal.returns-clause-is
returns-clause-is g c =
    let bits = ap (λ (x : Pool). x.bits) c.in_ok-claim_all.ensures.kept.is in
    (refl, c.of-layout.ensures.table, bits ∙ (c.in_ok-pool.ensures.fresh.bits ∙ c.of-layout.ensures.bits))

pub returns-clause-fresh : goal.returns-clause-fresh
returns-clause-fresh g c =
    let kept = c.in_ok-claim_all.ensures.kept in
    let new = c.in_ok-pool.ensures.fresh in
    (kept.ready new.ready, ap (λ (x : Pool). x.prepared) kept.is ∙ (new.prepared ∙ sym (ap (λ (x : Pool). x.next) kept.is)))

pub invariant_of-result : goal.invariant_of-result
invariant_of-result g c =
    let w = g.D.Outside.world c.args.depot.now in
    let e = c.of-layout.ensures in
    let l = c.of-layout.result in
    let layout = layout_read l c.args.header.now c.args.file.0 w c.requires.header e.bits e.cluster e.table e.clusters in
    let p = c.in_ok-pool.pool in
    let q = c.claim_all.new.pool in
    let new = c.in_ok-pool.ensures.fresh in
    let did = c.in_ok-claim_all.ensures in
    let bits : q.bits ≡ l.cluster_bits = ap (λ (x : Pool). x.bits) did.kept.is ∙ new.bits in
    let half = counts_half l q.bits c.cluster_bits.result layout bits c.cluster_bits.ensures.bits in
    let long : length c.in_ok-counts.counts.items ≡ 2 * c.min.result = search rules in
    let most = c.min.ensures in
    record {
      allocator = allocator p q l layout c.cluster_bits.ensures.pool new did.kept did.head did.below _ refl refl;
      counts = omega (arith, half, long, most);
      batch = omega arith;
    }

pub returns-in_err-pool-clause-quiet : goal.returns-in_err-pool-clause-quiet
returns-in_err-pool-clause-quiet g c = (reads_handed c.from_residual.result c.in_err-pool.ensures.reads c.from_residual.ensures.1).quiet

pub returns-in_err-claim_all-clause-quiet : goal.returns-in_err-claim_all-clause-quiet
returns-in_err-claim_all-clause-quiet g c other = c.in_ok-pool.ensures.reads.quiet (λ failed. cc)

pub returns-in_err-counts-clause-quiet : goal.returns-in_err-counts-clause-quiet
returns-in_err-counts-clause-quiet g c other = c.in_ok-pool.ensures.reads.quiet (λ failed. cc)

pub returns-clause-quiet : goal.returns-clause-quiet
returns-clause-quiet g c other = c.in_ok-pool.ensures.reads.quiet (λ failed. cc)
