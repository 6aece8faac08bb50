use Rattle.std.proofs.Common.{◌≡◌, ℕ, List, length, IsTrue, rules, sym, subst}
use Rattle.disk_model.specs.World.{World, EachSinceSync}
use Rattle.disk_model.proofs.Laws.{run_on, run_more, reads_within_file, spared_sync}
use Rattle.file_device.proofs.Laws.{quiet_on}
use Rattle.qc_layout.specs.declared.header.Header.{Header}
use Rattle.qc_alloc.specs.Allocator.{Allocator}
use Rattle.image_store.specs.declared.refusals.NotOpened.TheVariants as refusals
use Rattle.image_store.specs.Finding.{IsFound}
use Rattle.image_store.specs.Opening.{IsForeign, IsAdopting}
use Rattle.image_store.proofs.Adopted.{foreign, adopting_since, adopting_seen, whole_gives, adopted_header, adopted_holds, adopting_same}
use Rattle.image_store.proofs.Begun.{none_synced}
use Rattle.image_store.proofs.Taken.{of_fault, is_handed}
use Rattle.image_store.proofs.adopting.adopt.Given.{Over}
use Rattle.image_store.proofs.adopting.adopt.Goals.{After-rewrite_first_sector}
use Rattle.image_store.proofs.adopting.adopt.Goals as goal

module _ (g : Over) (c : After-rewrite_first_sector g) (told : IsTrue (g.D.Outside.world c.args.depot.now).tells) where
  abbrev f : ℕ
  f = c.args.file.0

  abbrev x : World
  x = g.D.Outside.world c.args.depot.now

  abbrev w : World
  w = g.D.Outside.world c.find.new.depot

  abbrev y : World
  y = g.D.Outside.world c.rewrite_first_sector.new.depot

  abbrev found : List ℕ
  found = x.seen f

  abbrev h : Header
  h = c.in_ok-found.found.header

  abbrev a : Allocator
  a = c.in_ok-found.found.clusters

  fnd : IsFound f c.in_ok-found.found found
  fnd = c.in_ok-found.ensures.found told

  same : w.seen f ≡ found
  same = (c.find.ensures.run.files f (λ none. none)).seen

  long : length c.sector_with-sector.result ≡ 512
  long = search rules

  told_y : IsTrue y.tells
  told_y = subst IsTrue (sym c.rewrite_first_sector.ensures.puts.writes.goes.tells) (subst IsTrue (sym c.find.ensures.run.goes.tells) told)

  since_of : (disk : List ℕ) → IsForeign disk found → EachSinceSync x y f (IsAdopting c.args.disk disk found)
  since_of disk is =
      spared_sync f _ c.find.ensures.run c.rewrite_first_sector.ensures.puts.writes (λ none. none)
      (adopting_since found h a fnd.all fnd.header c.in_ok-found.ensures.header.1 c.args.disk c.sector_with-sector.result c.sector_with-sector.ensures long f w y same disk is
      (c.rewrite_first_sector.ensures.crash (whole_gives found h a fnd.all fnd.header c.in_ok-found.ensures.header.1 c.args.disk c.sector_with-sector.result c.sector_with-sector.ensures long f w y same)))

  seen_of : (disk : List ℕ) → IsForeign disk found → IsAdopting c.args.disk disk found (y.seen f)
  seen_of disk is =
      adopting_seen found h a fnd.all fnd.header c.in_ok-found.ensures.header.1 c.args.disk c.sector_with-sector.result c.sector_with-sector.ensures long f w y same disk is
      (c.rewrite_first_sector.ensures.seen (whole_gives found h a fnd.all fnd.header c.in_ok-found.ensures.header.1 c.args.disk c.sector_with-sector.result c.sector_with-sector.ensures long f w y same)) told_y

pub returns-in_err-found-clause-since : goal.returns-in_err-found-clause-since
returns-in_err-found-clause-since g c disk told is = none_synced c.args.file.0 _ c.find.ensures.run (λ none. none)

pub returns-in_err-found-clause-seen : goal.returns-in_err-found-clause-seen
returns-in_err-found-clause-seen g c disk told is =
    let found = (g.D.Outside.world c.args.depot.now).seen c.args.file.0 in
    subst (IsAdopting c.args.disk disk found) (sym (c.find.ensures.run.files c.args.file.0 (λ none. none)).seen) (adopting_same c.args.disk disk found is)

pub returns-in_err-rewrite_first_sector-clause-since : goal.returns-in_err-rewrite_first_sector-clause-since
returns-in_err-rewrite_first_sector-clause-since g c disk told is = since_of g (goal.at.returns-in_err-rewrite_first_sector-clause-since g c).After-rewrite_first_sector told disk is

pub returns-in_err-rewrite_first_sector-clause-seen : goal.returns-in_err-rewrite_first_sector-clause-seen
returns-in_err-rewrite_first_sector-clause-seen g c disk told is = seen_of g (goal.at.returns-in_err-rewrite_first_sector-clause-seen g c).After-rewrite_first_sector told disk is

pub returns-in_err-rewrite_first_sector-clause-quiet : goal.returns-in_err-rewrite_first_sector-clause-quiet
returns-in_err-rewrite_first_sector-clause-quiet g c other = absurd (other (is_handed c.from_residual-in_err-rewrite_first_sector.result refusals.Failed c.from_residual-in_err-rewrite_first_sector.ensures.1))

pub returns-in_err-rewrite_first_sector-clause-run : goal.returns-in_err-rewrite_first_sector-clause-run
returns-in_err-rewrite_first_sector-clause-run g c = run_on (run_more (reads_within_file c.args.file.0) c.find.ensures.run) c.rewrite_first_sector.ensures.puts.calls.run

pub returns-clause-adopted : goal.returns-clause-adopted
returns-clause-adopted g c told =
    let r = (goal.at.returns-clause-adopted g c).After-rewrite_first_sector in
    let is = foreign (found g r told) (h g r told) (a g r told) (fnd g r told).all (fnd g r told).header c.in_ok-found.ensures.header.1 c.in_ok-found.ensures.header.0 in (
      _,
      is,
      adopted_holds (found g r told) (h g r told) (a g r told) (fnd g r told).all (fnd g r told).header c.in_ok-found.ensures.header.1 c.args.disk c.sector_with-sector.result c.sector_with-sector.ensures (long g r told) c.args.file.0
          (w g r told) (y g r told) (same g r told) _ is.stands c.in_ok-rewrite_first_sector.ensures.done,
      adopted_header (found g r told) (h g r told) (a g r told) (fnd g r told).all (fnd g r told).header c.in_ok-found.ensures.header.1 c.args.disk c.sector_with-sector.result c.sector_with-sector.ensures (long g r told) c.args.file.0
          (w g r told) (y g r told) (same g r told) c.in_ok-rewrite_first_sector.ensures.done (told_y g r told),
    )

pub returns-clause-since : goal.returns-clause-since
returns-clause-since g c disk told is = since_of g (goal.at.returns-clause-since g c).After-rewrite_first_sector told disk is

pub returns-clause-seen : goal.returns-clause-seen
returns-clause-seen g c disk told is = seen_of g (goal.at.returns-clause-seen g c).After-rewrite_first_sector told disk is

pub returns-clause-quiet : goal.returns-clause-quiet
returns-clause-quiet g c other = quiet_on (c.in_ok-found.ensures.quiet (λ e. cc)) c.in_ok-rewrite_first_sector.ensures.puts.calls.quiet

pub returns-clause-run : goal.returns-clause-run
returns-clause-run g c = run_on (run_more (reads_within_file c.args.file.0) c.find.ensures.run) c.rewrite_first_sector.ensures.puts.calls.run

pub returns-in_err-rewrite_first_sector-clause-untouched : goal.returns-in_err-rewrite_first_sector-clause-untouched
returns-in_err-rewrite_first_sector-clause-untouched g c = of_fault c.from_residual-in_err-rewrite_first_sector.result _ c.from_residual-in_err-rewrite_first_sector.ensures.1
