use Rattle.std.proofs.Common.{◌≡◌, IsTrue, sym, ◌∙◌, subst, List, ℕ}
use Rattle.disk_model.proofs.Moments.{run_on}
use Rattle.qc_layout.specs.declared.header.Part.TheVariants as parts
use Rattle.qc_layout.specs.Spelling.{Spells}
use Rattle.qc_layout.specs.Opening.{map_checks, count_checks}
use Rattle.qc_layout.specs.Loading.{claimed_in}
use Rattle.qc_alloc.specs.Tables.{Gone, Knows}
use Rattle.alloc_tests.specs.Opening.{IsAllFound}
use Rattle.alloc_tests.proofs.OnFile.{read_on}
use Rattle.alloc_tests.proofs.Begun.{all_found}
use Rattle.alloc_tests.proofs.opening.find_clusters.Goals as goal

pub returns-in_err-clusters-clause-run : goal.returns-in_err-clusters-clause-run
returns-in_err-clusters-clause-run g c = run_on c.read_image_header.ensures.run c.open.ensures.run

pub claim_tables-requires-clause-header : goal.claim_tables-requires-clause-header
claim_tables-requires-clause-header g c = read_on c.open.ensures.run c.in_ok-header.ensures.read

pub returns-in_err-claim_tables-clause-run : goal.returns-in_err-claim_tables-clause-run
returns-in_err-claim_tables-clause-run g c = run_on c.read_image_header.ensures.run (run_on c.open.ensures.run c.claim_tables.ensures.run)

pub returns-clause-found : goal.returns-clause-found
returns-clause-found g c told =
    let f = c.args.file.0 in
    let w0 = g.D.Outside.world c.args.depot.now in
    let w1 = g.D.Outside.world c.read_image_header.new.depot in
    let w2 = g.D.Outside.world c.open.new.depot in
    let told1 : IsTrue w1.tells = subst IsTrue (sym c.read_image_header.ensures.run.goes.tells) told in
    let told2 : IsTrue w2.tells = subst IsTrue (sym c.open.ensures.run.goes.tells) told1 in
    let same1 : w1.seen f ≡ w0.seen f = (c.read_image_header.ensures.run.files f (λ none. none)).seen in
    let same2 : w2.seen f ≡ w1.seen f = (c.open.ensures.run.files f (λ none. none)).seen in
    let found = c.in_ok-clusters.ensures.opened told1 in
    let at2 = subst (λ (file : List ℕ). Gone file (claimed_in (count_checks file)) (map_checks file) c.claim_tables.new.clusters.pool) same2
    (c.in_ok-claim_tables.ensures.claims (claimed_in (count_checks (w2.seen f))) told2
    (subst (λ (file : List ℕ). Knows c.in_ok-clusters.clusters.pool file (claimed_in (count_checks file))) (sym same2) (record { blocks = found.blocks; spoken = found.spoken; counted = found.counted }))) in
    subst (λ (file : List ℕ). IsAllFound c.claim_tables.new.clusters file) same1
    (all_found (w1.seen f) c.in_ok-header.header c.in_ok-clusters.clusters c.claim_tables.new.clusters
    (subst (λ (file : List ℕ). Spells parts.Target file c.in_ok-header.header) (sym same1) (c.in_ok-header.ensures.header told).spells)
    c.opening_is_exact.ensures c.backup_opens.ensures c.backup_claims.ensures found c.claim_tables.ensures.kept at2 c.room-room.ensures.allocator
    (c.claim_tables.ensures.same.1 ∙ c.in_ok-clusters.ensures.is.1) c.in_ok-clusters.ensures.fresh.1)

pub returns-clause-run : goal.returns-clause-run
returns-clause-run g c = run_on c.read_image_header.ensures.run (run_on c.open.ensures.run c.claim_tables.ensures.run)
