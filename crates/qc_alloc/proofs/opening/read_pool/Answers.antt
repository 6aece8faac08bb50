use Rattle.std.proofs.Common.{◌≢◌, ℕ, List, [], length, None, IsTrue, ap, sym, subst, ◌∙◌, arith}
use Rattle.disk_model.proofs.Laws.{run_on}
use Rattle.file_device.proofs.Laws.{quiet_on}
use Rattle.qc_layout.specs.Opening.{count_tests}
use Rattle.qc_alloc.specs.declared.refusals.ClusterRefusal.{ClusterRefusal}
use Rattle.qc_alloc.specs.Opening.{rule_of}
use Rattle.qc_alloc.specs.Tables.{IsLayoutOf, Stops, AreBlocks, IsTableOf, HasCounts, reach_by}
use Rattle.qc_alloc.proofs.Finding.{err_is}
use Rattle.qc_alloc.proofs.Layouts.{blocks_few, entries_end, entries_stop, table_stops_tests}
use Rattle.qc_alloc.proofs.Opened.{fresh_found, tested_found}
use Rattle.qc_alloc.proofs.Reading.{reads_none, reads_on, reads_handed, reads_after, seen_back, not_failed, not_memory, rule_handed}
use Rattle.qc_alloc.proofs.opening.read_pool.Goals as goal

pub read_table-requires-clause-table : goal.read_table-requires-clause-table
read_table-requires-clause-table g c = entries_end c.args.layout c.requires.layout c.in_ok-test_table.ensures.reached

pub read_counts-requires-clause-given : goal.read_counts-requires-clause-given
read_counts-requires-clause-given g c = omega (arith, c.requires.given, c.in_ok-blocks.ensures.reads.run.goes.given)

pub read_counts-requires-clause-few : goal.read_counts-requires-clause-few
read_counts-requires-clause-few g c = ap (λ (bs : List ℕ). length bs) c.deref.ensures.value ∙ c.in_ok-blocks.ensures.count

pub read_counts-requires-clause-blocks : goal.read_counts-requires-clause-blocks
read_counts-requires-clause-blocks g c = let P : List ℕ → Type 0 = AreBlocks c.args.layout in subst P (sym c.deref.ensures.value) c.in_ok-blocks.ensures.blocks

pub returns-in_err-test_table-clause-refused : goal.returns-in_err-test_table-clause-refused
returns-in_err-test_table-clause-refused g c =
    let w = g.D.Outside.world c.args.depot.now in
    let seen : List ℕ = w.seen c.args.file.0 in
    let P : ClusterRefusal → Type 0 = λ why. rule_of why ≢ None → IsTrue w.tells → IsLayoutOf c.args.layout seen → Stops seen [] (count_tests seen) (rule_of why) in
    let why : ClusterRefusal = c.in_err-test_table.field-0.0 in
    err_is P why c.from_residual.result c.from_residual.ensures.1 (λ some told of. table_stops_tests seen (rule_of why) (c.in_err-test_table.ensures.refused some seen of))

pub returns-in_err-test_table-clause-reads : goal.returns-in_err-test_table-clause-reads
returns-in_err-test_table-clause-reads g c =
    reads_none c.args.file.0 _ c.from_residual.result (not_failed c.from_residual.result (rule_handed c.in_err-test_table.field-0.0 c.from_residual.result c.from_residual.ensures.1 c.in_err-test_table.ensures.rule))

pub returns-in_err-blocks-clause-refused : goal.returns-in_err-blocks-clause-refused
returns-in_err-blocks-clause-refused g c =
    let w = g.D.Outside.world c.args.depot.now in
    let seen : List ℕ = w.seen c.args.file.0 in
    let P : ClusterRefusal → Type 0 = λ why. rule_of why ≢ None → IsTrue w.tells → IsLayoutOf c.args.layout seen → Stops seen [] (count_tests seen) (rule_of why) in
    let why : ClusterRefusal = c.in_err-blocks.field-0.0 in
    err_is P why c.from_residual-in_err-blocks.result c.from_residual-in_err-blocks.ensures.1
    (λ some told of. entries_stop c.args.layout seen (rule_of why) c.requires.layout of c.in_ok-test_table.ensures.reached some (c.in_err-blocks.ensures.refused some told))

pub returns-in_err-blocks-clause-reads : goal.returns-in_err-blocks-clause-reads
returns-in_err-blocks-clause-reads g c = reads_handed c.from_residual-in_err-blocks.result c.in_err-blocks.ensures.reads c.from_residual-in_err-blocks.ensures.1

pub returns-in_err-found-clause-refused : goal.returns-in_err-found-clause-refused
returns-in_err-found-clause-refused g c =
    let w = g.D.Outside.world c.args.depot.now in
    let seen : List ℕ = w.seen c.args.file.0 in
    let P : ClusterRefusal → Type 0 = λ why. rule_of why ≢ None → IsTrue w.tells → IsLayoutOf c.args.layout seen → Stops seen [] (count_tests seen) (rule_of why) in
    err_is P c.in_err-found.field-0.0 c.from_residual-in_err-found.result c.from_residual-in_err-found.ensures.1 (λ some told of. absurd (some c.in_err-found.ensures.why))

pub returns-in_err-found-clause-reads : goal.returns-in_err-found-clause-reads
returns-in_err-found-clause-reads g c =
    reads_handed c.from_residual-in_err-found.result (reads_on c.in_ok-blocks.ensures.reads.run (c.in_ok-blocks.ensures.reads.quiet (λ failed. cc)) c.in_err-found.ensures.reads) c.from_residual-in_err-found.ensures.1

pub returns-in_err-pool-clause-reads : goal.returns-in_err-pool-clause-reads
returns-in_err-pool-clause-reads g c =
    reads_after c.from_residual-in_err-pool.result (run_on c.in_ok-blocks.ensures.reads.run c.in_ok-found.ensures.reads.run) (quiet_on (c.in_ok-blocks.ensures.reads.quiet (λ failed. cc)) (c.in_ok-found.ensures.reads.quiet (λ failed. cc))) (not_memory c.from_residual-in_err-pool.result c.from_residual-in_err-pool.ensures.1)

pub returns-clause-fresh : goal.returns-clause-fresh
returns-clause-fresh g c =
    let e = c.in_ok-blocks.ensures in
    fresh_found c.args.layout c.in_ok-pool.pool c.in_ok-blocks.blocks.items _ _ c.in_ok-test_table.ensures.reached e.count e.blocks c.in_ok-pool.ensures

pub returns-clause-tested : goal.returns-clause-tested
returns-clause-tested g c told of =
    let w = g.D.Outside.world c.args.depot.now in
    let seen : List ℕ = w.seen c.args.file.0 in
    let l = c.args.layout in
    let e = c.in_ok-blocks.ensures in
    let X : List ℕ → Type 0 = λ file. IsTableOf l file c.deref.result.now → HasCounts file (reach_by l) c.in_ok-found.found.0 c.in_ok-found.found.1 in
    let Y : List ℕ → Type 0 = λ blocks. IsTableOf l seen blocks in
    let table : Y c.deref.result.now = subst Y (sym c.deref.ensures.value) (record { layout = of; words = e.words told }) in
    let has = seen_back X e.reads.run c.in_ok-found.ensures.counts told table in
    tested_found l c.in_ok-pool.pool seen c.in_ok-blocks.blocks.items _ _ c.requires.layout of c.in_ok-test_table.ensures.reached e.count e.blocks (e.words told) has c.in_ok-pool.ensures

pub returns-clause-reads : goal.returns-clause-reads
returns-clause-reads g c = reads_after _ (run_on c.in_ok-blocks.ensures.reads.run c.in_ok-found.ensures.reads.run) (quiet_on (c.in_ok-blocks.ensures.reads.quiet (λ failed. cc)) (c.in_ok-found.ensures.reads.quiet (λ failed. cc))) (λ failed. absurd (cc))

pub new-requires-clause-few : goal.new-requires-clause-few
new-requires-clause-few g c = let few = blocks_few c.args.layout c.requires.layout in omega (arith, few, c.in_ok-blocks.ensures.count)
