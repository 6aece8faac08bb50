use Rattle.std.proofs.Common.{◌≡◌, inl, inr, ℕ, ◌+◌, ◌^◌, ◌<◌, List, [], ◌∷◌, length, None, IsTrue, rules, refl, sym, ◌∙◌, ap, subst, arith}
use Rattle.disk_model.specs.World.{World, Runs, EachSinceSync, only_file}
use Rattle.disk_model.proofs.Laws.{run_on, run_more, reads_within_file, spared_sync, sync_on, sync_more, file_failed_after}
use Rattle.file_device.proofs.Laws.{quiet_on}
use Rattle.image_model.specs.Clusters.{Shape, IsSafe, IsLonger, IsStanding}
use Rattle.image_model.specs.Calls.{Told, shape_of}
use Rattle.image_model.specs.Turns.{IsTurn, Turning, IsEither}
use Rattle.image_steps.proofs.Turns.{stood_of}
use Rattle.qc_layout.specs.declared.header.Header.{Header}
use Rattle.qc_alloc.specs.Allocator.{Allocator, IsKnown}
use Rattle.qc_map.specs.Mapping.{Mapping, IsMapping}
use Rattle.image_store.specs.declared.refusals.NotOpened.TheVariants as refusals
use Rattle.image_store.specs.Finding.{IsAllFound, IsFound}
use Rattle.image_store.specs.Images.{IsInOrder}
use Rattle.image_store.specs.Opening.{IsOpening, Opens, Starts}
use Rattle.image_store.proofs.Begun.{none_synced}
use Rattle.image_store.proofs.Drawn.{is_turn, turned}
use Rattle.image_store.proofs.Epochs.{own_is, opening_same, opening_before, opening_after, opens, not_last, has_source, new_seen, turning_seen}
use Rattle.image_store.proofs.Taken.{of_fault, is_handed}
use Rattle.image_store.proofs.source.Source.open.Given.{Over}
use Rattle.image_store.proofs.source.Source.open.Goals.{After-start, After-turn}
use Rattle.image_store.proofs.source.Source.open.Goals as goal

-- after the start, whatever it answered
module _ (g : Over) (c : After-start g) where
  abbrev f : ℕ
  f = c.args.file.0

  abbrev w0 : World
  w0 = g.D.Outside.world c.args.depot.now

  abbrev w1 : World
  w1 = g.D.Outside.world c.find.new.depot

  abbrev w2 : World
  w2 = g.D.Outside.world c.start.new.depot

  abbrev found : List ℕ
  found = w0.seen f

  same1 : w1.seen f ≡ found
  same1 = (c.find.ensures.run.files f (λ none. none)).seen

  back1 : IsTrue w1.tells → IsTrue w0.tells
  back1 = subst IsTrue c.find.ensures.run.goes.tells

  all1 : Told (IsAllFound c.in_ok-found.found.clusters) f w1
  all1 told = subst (IsAllFound c.in_ok-found.found.clusters) (sym same1) (c.in_ok-found.ensures.found (back1 told)).all

  started : EachSinceSync w0 w2 f (IsSafe (shape_of found) (found ∷ []))
  started = spared_sync f _ c.find.ensures.run c.start.ensures.calls.run (λ none. none)
      (subst (λ (x : List ℕ). EachSinceSync w1 w2 f (IsSafe (shape_of x) (x ∷ []))) same1 (c.start.ensures.crash all1))

  started_seen : IsTrue w0.tells → IsSafe (shape_of found) (found ∷ []) (w2.seen f)
  started_seen told =
      subst (λ (x : List ℕ). IsSafe (shape_of x) (x ∷ []) (w2.seen f)) same1
      (c.start.ensures.seen all1 (subst IsTrue (sym c.start.ensures.calls.run.goes.tells) (subst IsTrue (sym c.find.ensures.run.goes.tells) told)))

  all_run : Runs (only_file f) w0 w2
  all_run = run_on (run_more (reads_within_file f) c.find.ensures.run) c.start.ensures.calls.run

-- after the new sector, whatever it answered
module _ (g : Over) (c : After-turn g) (told : IsTrue (g.D.Outside.world c.args.depot.now).tells) where
  abbrev at : ℕ
  at = c.args.file.0

  abbrev x0 : World
  x0 = g.D.Outside.world c.args.depot.now

  abbrev x2 : World
  x2 = g.D.Outside.world c.start.new.depot

  abbrev x3 : World
  x3 = g.D.Outside.world c.turn.new.depot

  abbrev was : List ℕ
  was = x0.seen at

  abbrev h : Header
  h = c.in_ok-found.found.header

  abbrev a : Allocator
  a = c.in_ok-found.found.clusters

  abbrev sector : List ℕ
  sector = c.sector_with-sector.result

  fnd : IsFound at c.in_ok-found.found was
  fnd = c.in_ok-found.ensures.found told

  bare : h.bitmaps ≡ None
  bare = c.in_ok-found.ensures.header.1

  told1 : IsTrue (g.D.Outside.world c.find.new.depot).tells
  told1 = subst IsTrue (sym c.find.ensures.run.goes.tells) told

  told2 : IsTrue x2.tells
  told2 = subst IsTrue (sym c.start.ensures.calls.run.goes.tells) told1

  told3 : IsTrue x3.tells
  told3 = subst IsTrue (sym c.turn.ensures.puts.writes.goes.tells) told2

  file_is : a.file ≡ at
  file_is = c.in_ok-found.ensures.same.0

  starts : Starts a was x2
  starts =
      let same = (c.find.ensures.run.files at (λ none. none)).seen in
      subst (λ (x : List ℕ). Starts a x x2) same (c.in_ok-start.ensures.stands told1 (subst (IsAllFound a) (sym same) fnd.all))

  longer : IsLonger was (x2.seen at)
  longer = subst (λ (k : ℕ). IsLonger was (x2.seen k)) file_is (starts.longer told2)

  long : length sector ≡ 512
  long = search rules

  abbrev s : Shape
  s = shape_of was

  abbrev t : Shape
  t = turned was h a.pool.next fnd.all.opened fnd.header bare c.in-Source.disk (c.in-Source.epoch + 1) sector c.sector_with-sector.ensures long (x2.seen at) longer.longer

  turn_is : IsTurn s t a.pool.next a.pool.prepared sector (x2.seen at)
  turn_is = is_turn was h a.pool.next fnd.all.opened fnd.header bare c.in-Source.disk (c.in-Source.epoch + 1) sector c.sector_with-sector.ensures long (x2.seen at) longer.longer a.pool.next a.pool.prepared

  stands2 : IsStanding s (was ∷ []) a.pool.next a.pool.prepared at x2
  stands2 = subst (λ (k : ℕ). IsStanding s (was ∷ []) a.pool.next a.pool.prepared k x2) file_is starts.stands.stands

  turning : Turning s t (was ∷ []) a.pool.next a.pool.prepared sector at x2
  turning told_x = inl (stands2 told_x, turn_is)

  says_of : (id : List ℕ) (epoch : ℕ) (disk : List ℕ) → IsInOrder id epoch disk was → (file : List ℕ) → IsEither s t (was ∷ []) file → IsOpening id epoch disk was file
  says_of id epoch disk before file (inl safe) = opening_before was h a fnd.all fnd.header bare id epoch disk before file safe
  says_of id epoch disk before file (inr safe) =
      let same = sym (own_is was h a fnd.all fnd.header bare id epoch disk before) ∙ c.in-Source.is in
      let same_id : c.in-Source.disk ≡ id = cc in
      let same_epoch : c.in-Source.epoch ≡ epoch = cc in
      subst (λ (i : List ℕ). IsOpening i epoch disk was file) same_id
      (opening_after was h a fnd.all fnd.header bare c.in-Source.disk (c.in-Source.epoch + 1) sector c.sector_with-sector.ensures long (x2.seen at) longer epoch disk (ap (λ (n : ℕ). n + 1) same_epoch)
      (subst (λ (i : List ℕ). IsInOrder i epoch disk was) (sym same_id) before) file safe)

  since_of : EachSinceSync x0 x2 at (IsSafe s (was ∷ [])) → (id : List ℕ) (epoch : ℕ) (disk : List ℕ) → IsInOrder id epoch disk was → EachSinceSync x0 x3 at (IsOpening id epoch disk was)
  since_of first id epoch disk before =
      sync_more (IsEither s t (was ∷ [])) (IsOpening id epoch disk was) (says_of id epoch disk before)
      (sync_on at (IsEither s t (was ∷ [])) c.turn.ensures.puts.writes (sync_more (IsSafe s (was ∷ [])) (IsEither s t (was ∷ [])) (λ file safe. inl safe) first) ((c.turn.ensures.moves s t (was ∷ []) a.pool.next a.pool.prepared).since turning))

  seen_of : (id : List ℕ) (epoch : ℕ) (disk : List ℕ) → IsInOrder id epoch disk was → IsOpening id epoch disk was (x3.seen at)
  seen_of id epoch disk before = says_of id epoch disk before (x3.seen at) (turning_seen ((c.turn.ensures.moves s t (was ∷ []) a.pool.next a.pool.prepared).stands turning) told3)

pub returns-in_err-found-clause-since : goal.returns-in_err-found-clause-since
returns-in_err-found-clause-since g c id epoch disk told was = none_synced c.args.file.0 _ c.find.ensures.run (λ none. none)

pub returns-in_err-found-clause-seen : goal.returns-in_err-found-clause-seen
returns-in_err-found-clause-seen g c id epoch disk told was =
    let found = (g.D.Outside.world c.args.depot.now).seen c.args.file.0 in
    subst (IsOpening id epoch disk found) (sym (c.find.ensures.run.files c.args.file.0 (λ none. none)).seen) (opening_same id epoch disk found was)

pub overflow_add-epoch : goal.overflow_add-epoch
overflow_add-epoch g c =
    let last = not_last c.in_ok-found.found.header.own c.in-Source.disk c.in-Source.epoch c.in-Source.spans_offset c.in-Source.spans_length c.in_ok-found.ensures.header.0 c.in-Source.is in
    let low : c.in-Source.epoch < 2 ^ 64 = search rules in
    omega (arith, last, low)

pub returns-in_default : goal.returns-in_default
returns-in_default g c = absurd (has_source c.in_ok-found.found.header.own c.in_ok-found.ensures.header.0 c.in_default.not-Source)

pub start-requires-clause-bits : goal.start-requires-clause-bits
start-requires-clause-bits g c = c.in_ok-found.ensures.same.3

pub returns-in_err-start-clause-since : goal.returns-in_err-start-clause-since
returns-in_err-start-clause-since g c id epoch disk told was =
    let a = (goal.at.returns-in_err-start-clause-since g c).After-start in
    let fnd = c.in_ok-found.ensures.found told in
    sync_more _ _ (opening_before (found g a) c.in_ok-found.found.header c.in_ok-found.found.clusters fnd.all fnd.header c.in_ok-found.ensures.header.1 id epoch disk was) (started g a)

pub returns-in_err-start-clause-seen : goal.returns-in_err-start-clause-seen
returns-in_err-start-clause-seen g c id epoch disk told was =
    let a = (goal.at.returns-in_err-start-clause-seen g c).After-start in
    let fnd = c.in_ok-found.ensures.found told in
    opening_before (found g a) c.in_ok-found.found.header c.in_ok-found.found.clusters fnd.all fnd.header c.in_ok-found.ensures.header.1 id epoch disk was _ (started_seen g a told)

pub returns-in_err-start-clause-failed : goal.returns-in_err-start-clause-failed
returns-in_err-start-clause-failed g c is = file_failed_after c.find.ensures.run c.in_err-start.ensures.calls.cause

pub returns-in_err-start-clause-quiet : goal.returns-in_err-start-clause-quiet
returns-in_err-start-clause-quiet g c other = absurd (other (is_handed c.from_residual-in_err-start.result refusals.Failed c.from_residual-in_err-start.ensures.1))

pub returns-in_err-start-clause-run : goal.returns-in_err-start-clause-run
returns-in_err-start-clause-run g c = all_run g (goal.at.returns-in_err-start-clause-run g c).After-start

pub returns-in_err-turn-clause-since : goal.returns-in_err-turn-clause-since
returns-in_err-turn-clause-since g c id epoch disk told was =
    let at = goal.at.returns-in_err-turn-clause-since g c in
    since_of g at.After-turn told (started g at.After-start) id epoch disk was

pub returns-in_err-turn-clause-seen : goal.returns-in_err-turn-clause-seen
returns-in_err-turn-clause-seen g c id epoch disk told was = seen_of g (goal.at.returns-in_err-turn-clause-seen g c).After-turn told id epoch disk was

pub returns-in_err-turn-clause-quiet : goal.returns-in_err-turn-clause-quiet
returns-in_err-turn-clause-quiet g c other = absurd (other (is_handed c.from_residual-in_err-turn.result refusals.Failed c.from_residual-in_err-turn.ensures.1))

pub returns-in_err-turn-clause-run : goal.returns-in_err-turn-clause-run
returns-in_err-turn-clause-run g c = run_on (all_run g (goal.at.returns-in_err-turn-clause-run g c).After-start) c.turn.ensures.puts.calls.run

pub returns-clause-opened : goal.returns-clause-opened
returns-clause-opened g c told =
    let r = (goal.at.returns-clause-opened g c).After-turn in
    let f = c.args.file.0 in
    let a = c.in_ok-found.found.clusters in
    let h = c.in_ok-found.found.header in
    let fnd = c.in_ok-found.ensures.found told in
    let found = (x0 g r told).seen f in
    let y = x3 g r told in
    let mapping : IsMapping c.in_ok-found.found.map = search rules in
    let done = c.in_ok-turn.ensures.done (s g r told) (t g r told) (found ∷ []) a.pool.next a.pool.prepared (λ told_x. inl (stood_of (stands2 g r told told_x), turn_is g r told)) in
    subst (λ (m : Mapping). Opens (record { id = c.in-Source.disk; epoch = c.in-Source.epoch + 1; map = m; clusters = a; event = 0; broken = None }) found y) (sym fnd.map)
    (opens found h a fnd.all fnd.header c.in_ok-found.ensures.header.1 c.in-Source.disk (c.in-Source.epoch + 1) (sector g r told) c.sector_with-sector.ensures (long g r told) ((x2 g r told).seen f) (longer g r told) f
    c.in-Source.epoch c.in-Source.spans_offset c.in-Source.spans_length c.in-Source.is refl (subst IsMapping fnd.map mapping) (file_is g r told) (g.met.D.Depot.sound _)
    (new_seen (sector g r told) f (x2 g r told) y c.in_ok-turn.ensures.new) (starts g r told).hands done.0
    (λ told_y. subst (λ (k : ℕ). IsKnown (s g r told) a ((x2 g r told).seen k)) (file_is g r told) ((starts g r told).known (told2 g r told))) (told3 g r told))

pub returns-clause-since : goal.returns-clause-since
returns-clause-since g c id epoch disk told was =
    let at = goal.at.returns-clause-since g c in
    since_of g at.After-turn told (started g at.After-start) id epoch disk was

pub returns-clause-seen : goal.returns-clause-seen
returns-clause-seen g c id epoch disk told was = seen_of g (goal.at.returns-clause-seen g c).After-turn told id epoch disk was

pub returns-clause-quiet : goal.returns-clause-quiet
returns-clause-quiet g c other = quiet_on (c.in_ok-found.ensures.quiet (λ e. cc)) (quiet_on c.in_ok-start.ensures.calls.quiet c.in_ok-turn.ensures.puts.calls.quiet)

pub returns-clause-run : goal.returns-clause-run
returns-clause-run g c = run_on (all_run g (goal.at.returns-clause-run g c).After-start) c.turn.ensures.puts.calls.run

pub returns-in_err-start-clause-untouched : goal.returns-in_err-start-clause-untouched
returns-in_err-start-clause-untouched g c = of_fault c.from_residual-in_err-start.result _ c.from_residual-in_err-start.ensures.1

pub returns-in_err-turn-clause-untouched : goal.returns-in_err-turn-clause-untouched
returns-in_err-turn-clause-untouched g c = of_fault c.from_residual-in_err-turn.result _ c.from_residual-in_err-turn.ensures.1
