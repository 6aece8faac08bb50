use Rattle.std.proofs.Common.{◌≡◌, ℕ, List, [], None, Ok, Err, Result, IsTrue, rules, sym, ◌∙◌, ap, subst}
use Rattle.disk_model.specs.World.{World, ReadCause}
use Rattle.disk_model.proofs.Laws.{run_on, rose_after}
use Rattle.file_device.proofs.Laws.{quiet_on}
use Rattle.qc_layout.specs.Opening.{map_checks, count_checks, refused_after}
use Rattle.qc_layout.specs.Loading.{claimed_in}
use Rattle.qc_alloc.specs.declared.refusals.ClusterRefusal.TheVariants as cluster
use Rattle.map_opening.specs.declared.refusals.MapRefusal.TheVariants as table
use Rattle.qc_alloc.specs.Opening.{IsFound}
use Rattle.qc_alloc.specs.Opening as clusters
use Rattle.qc_alloc.specs.Tables.{Knows}
use Rattle.qc_alloc.proofs.Finding.{err_is}
use Rattle.map_opening.specs.declared.refusals.MapRefusal.{MapRefusal}
use Rattle.map_opening.specs.Opening.{Went}
use Rattle.map_opening.specs.Refusals as tables
use Rattle.image_store.specs.declared.refusals.NotOpened.{NotOpened}
use Rattle.image_store.specs.declared.refusals.NotOpened.TheVariants as refusals
use Rattle.qc_map.specs.Mapping.{Mapping}
use Rattle.image_store.specs.Refusals.{of_clusters, of_tables, own_refusal, IsPlain, IsRefused}
use Rattle.image_store.proofs.Taken.{is_rule, read_on, all_found, own_refused, clusters_refused, tables_refused, stopped_by, of_failed_tables, is_handed}
use Rattle.image_store.proofs.finding.find.Given.{Over}
use Rattle.image_store.proofs.finding.find.Goals.{After-open, After-open-2}
use Rattle.image_store.proofs.finding.find.Goals as goal

-- the file is the same after each call
module _ (g : Over) (c : After-open g) where
  abbrev f : ℕ
  f = c.args.file.0

  abbrev w0 : World
  w0 = g.D.Outside.world c.args.depot.now

  abbrev w1 : World
  w1 = g.D.Outside.world c.read_image_header.new.depot

  told1 : IsTrue w0.tells → IsTrue w1.tells
  told1 = subst IsTrue (sym c.read_image_header.ensures.run.goes.tells)

  same1 : w1.seen f ≡ w0.seen f
  same1 = (c.read_image_header.ensures.run.files f (λ none. none)).seen

  bare : c.in_ok-header.header.bitmaps ≡ None
  bare = search rules

  own : own_refusal c.args.wanted c.in_ok-header.header.own ≡ None
  own = search rules

  plain : IsTrue w0.tells → IsPlain (w0.seen f) None c.args.wanted
  plain told = record { header = c.in_ok-header.header; spelled = (c.in_ok-header.ensures.header told).spells; bare = bare; own = own }

-- and the pool knows it
module _ (g : Over) (c : After-open-2 g) where
  abbrev h : ℕ
  h = c.args.file.0

  abbrev x0 : World
  x0 = g.D.Outside.world c.args.depot.now

  abbrev x1 : World
  x1 = g.D.Outside.world c.read_image_header.new.depot

  abbrev x2 : World
  x2 = g.D.Outside.world c.open.new.depot

  told_on : IsTrue x0.tells → IsTrue x1.tells
  told_on = subst IsTrue (sym c.read_image_header.ensures.run.goes.tells)

  found : IsTrue x0.tells → IsFound c.in_ok-clusters.clusters (x0.seen h)
  found told = subst (IsFound c.in_ok-clusters.clusters) (c.read_image_header.ensures.run.files h (λ none. none)).seen (c.in_ok-clusters.ensures.opened (told_on told))

  abbrev Goes : {T : Type 0} → Result T MapRefusal → Type 0
  Goes result = IsTrue x0.tells → Went (x0.seen h) (claimed_in (count_checks (x0.seen h))) (map_checks (x0.seen h)) c.open-2.new.clusters.pool result

  went : {T : Type 0} (result : Result T MapRefusal) → ((claimed : List ℕ) → IsTrue x2.tells → Knows c.in_ok-clusters.clusters.pool (x2.seen h) claimed → Went (x2.seen h) claimed (map_checks (x2.seen h)) c.open-2.new.clusters.pool result) → Goes result
  went {T} result claims told =
      let is = found told in
      let claimed = claimed_in (count_checks (x0.seen h)) in
      let same : x2.seen h ≡ x0.seen h = (c.open.ensures.run.files h (λ none. none)).seen ∙ (c.read_image_header.ensures.run.files h (λ none. none)).seen in
      subst (λ (file : List ℕ). Went {T = T} file claimed (map_checks file) c.open-2.new.clusters.pool result) same
      (claims claimed (subst IsTrue (sym c.open.ensures.run.goes.tells) (told_on told)) (subst (λ (file : List ℕ). Knows c.in_ok-clusters.clusters.pool file claimed) (sym same) (record { blocks = is.blocks; spoken = is.spoken; counted = is.counted })))

pub returns-then-is_some-clause-refused : goal.returns-then-is_some-clause-refused
returns-then-is_some-clause-refused g c told = record {
  header = c.in_ok-header.header;
  spelled = (c.in_ok-header.ensures.header told).spells;
  some = search rules;
}

pub returns-in-Some-clause-refused : goal.returns-in-Some-clause-refused
returns-in-Some-clause-refused g c told =
    let f = c.args.file.0 in
    let file = (g.D.Outside.world c.args.depot.now).seen f in
    (own_refused c.args.wanted c.in_ok-header.header.own c.in-Some.why file c.in-Some.ensures).1
    (record { header = c.in_ok-header.header; spelled = (c.in_ok-header.ensures.header told).spells; bare = search rules; own = sym c.in-Some.ensures })

pub returns-in-Some-clause-failed : goal.returns-in-Some-clause-failed
returns-in-Some-clause-failed g c is =
    let rule : IsTrue (is_rule c.in-Some.why) = (own_refused c.args.wanted c.in_ok-header.header.own c.in-Some.why [] c.in-Some.ensures).0 in
    let why : c.in-Some.why ≡ refusals.Failed = cc in
    absurd (let no : IsTrue (is_rule refusals.Failed) = subst (λ (e : NotOpened). IsTrue (is_rule e)) why rule in cc)

pub returns-in_err-clusters-clause-refused : goal.returns-in_err-clusters-clause-refused
returns-in_err-clusters-clause-refused g c =
    let b = (goal.at.returns-in_err-clusters-clause-refused g c).After-open in
    let file = (w0 g b).seen (f g b) in
    let why = c.in_err-clusters.field-0.0 in
    err_is (λ (e : NotOpened). IsTrue (w0 g b).tells → IsRefused c.args.wanted file e) (of_clusters why) c.from_residual-in_err-clusters.result c.from_residual-in_err-clusters.ensures.1
    (λ told. clusters_refused c.args.wanted file why (plain g b told)
    (λ some. subst (λ (at : List ℕ). clusters.rule_of why ≡ refused_after at [] (count_checks at)) (same1 g b) (c.in_err-clusters.ensures.refused some (told1 g b told))))

pub returns-in_err-clusters-clause-quiet : goal.returns-in_err-clusters-clause-quiet
returns-in_err-clusters-clause-quiet g c other =
    quiet_on (c.in_ok-header.ensures.quiet (λ e. cc))
    (c.in_err-clusters.ensures.quiet (λ failed.
    let why : c.in_err-clusters.field-0.0 ≡ cluster.Failed = cc in
    other (is_handed c.from_residual-in_err-clusters.result (of_clusters c.in_err-clusters.field-0.0) c.from_residual-in_err-clusters.ensures.1 ∙ ap (λ e. Err (of_clusters e)) why)))

pub returns-in_err-clusters-clause-run : goal.returns-in_err-clusters-clause-run
returns-in_err-clusters-clause-run g c = run_on c.read_image_header.ensures.run c.open.ensures.run

pub open-requires-2-clause-header : goal.open-requires-2-clause-header
open-requires-2-clause-header g c = read_on c.open.ensures.run c.in_ok-header.ensures.read

pub returns-in_err-map-clause-refused : goal.returns-in_err-map-clause-refused
returns-in_err-map-clause-refused g c =
    let at = goal.at.returns-in_err-map-clause-refused g c in
    let b = at.After-open in
    let a = at.After-open-2 in
    let file = (w0 g b).seen (f g b) in
    let why = c.in_err-map.field-0.0 in
    err_is (λ (e : NotOpened). IsTrue (w0 g b).tells → IsRefused c.args.wanted file e) (of_tables why) c.from_residual-in_err-map.result c.from_residual-in_err-map.ensures.1
    (λ told. tables_refused c.args.wanted file why (plain g b told)
    (λ some. stopped_by file c.in_ok-clusters.clusters (tables.rule_of why) (found g a told)
    (went g a {T = Mapping} (Err why) c.in_err-map.ensures.claims told some)))

pub returns-in_err-map-clause-failed : goal.returns-in_err-map-clause-failed
returns-in_err-map-clause-failed g c is =
    let handed = is_handed c.from_residual-in_err-map.result (of_tables c.in_err-map.field-0.0) c.from_residual-in_err-map.ensures.1 in
    let same : of_tables c.in_err-map.field-0.0 ≡ refusals.Failed = cc in
    let rose = c.in_err-map.ensures.failed (ap Err (of_failed_tables c.in_err-map.field-0.0 same)) in
    let before = (run_on c.read_image_header.ensures.run c.open.ensures.run).goes.counts in
    subst (ReadCause (g.D.Outside.world c.args.depot.now) (g.D.Outside.world c.open-2.new.depot) c.args.file.0) (sym is)
    (rose_after _ _ _ before.shared rose.0, rose_after _ _ _ (before.reads c.args.file.0) rose.1)

pub returns-in_err-map-clause-quiet : goal.returns-in_err-map-clause-quiet
returns-in_err-map-clause-quiet g c other =
    quiet_on (c.in_ok-header.ensures.quiet (λ e. cc)) (quiet_on (c.in_ok-clusters.ensures.quiet (λ e. cc))
    (c.in_err-map.ensures.quiet (λ failed.
    let why : c.in_err-map.field-0.0 ≡ table.Failed = cc in
    other (is_handed c.from_residual-in_err-map.result (of_tables c.in_err-map.field-0.0) c.from_residual-in_err-map.ensures.1 ∙ ap (λ e. Err (of_tables e)) why))))

pub returns-in_err-map-clause-run : goal.returns-in_err-map-clause-run
returns-in_err-map-clause-run g c = run_on c.read_image_header.ensures.run (run_on c.open.ensures.run c.open-2.ensures.run)

pub returns-clause-found : goal.returns-clause-found
returns-clause-found g c told =
    let at = goal.at.returns-clause-found g c in
    let b = at.After-open in
    let a = at.After-open-2 in
    let file = (w0 g b).seen (f g b) in
    let gone = went g a (Ok c.in_ok-map.map) c.in_ok-map.ensures.claims told in
    record {
      header = c.in_ok-header.ensures.header told;
      all = all_found file c.in_ok-header.header c.in_ok-clusters.clusters c.open-2.new.clusters (c.in_ok-header.ensures.header told) (bare g b) (found g a told) c.open-2.ensures.kept gone
          c.room-room.ensures.allocator (c.open-2.ensures.same.1 ∙ c.in_ok-clusters.ensures.is.1) c.in_ok-clusters.ensures.fresh.1;
      map = c.in_ok-map.ensures.map;
    }

pub returns-clause-quiet : goal.returns-clause-quiet
returns-clause-quiet g c other =
    quiet_on (c.in_ok-header.ensures.quiet (λ e. cc)) (quiet_on (c.in_ok-clusters.ensures.quiet (λ e. cc)) (c.in_ok-map.ensures.quiet (λ e. cc)))

pub returns-clause-run : goal.returns-clause-run
returns-clause-run g c = run_on c.read_image_header.ensures.run (run_on c.open.ensures.run c.open-2.ensures.run)
