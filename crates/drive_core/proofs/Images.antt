-- A write or a zero as code makes it: what the contracts of an image's calls say, for any image, and the answers that follow.
use Rattle.std.proofs.Common.{◌≡◌, ℕ, ◌<◌, ◌≤◌, List, Bool, true, false, IsTrue, Option, None, refl, sym, ap, subst, ◌∙◌, arith}
use Rattle.std.specs.Prelude.{◌≢◌, replicate, Result, Ok, Err, IsOk, OnOk, if◌then◌else◌}
use Rattle.std.proofs.lemmas.Bool.{false≢true}
use Rattle.disk_model.specs.World.{World, Runs, only_file, FileFailed}
use Rattle.disk_model.specs.declared.depot.WriteRefusal.{WriteRefusal}
use Rattle.disk_model.specs.declared.depot.WriteRefusal.TheVariants as refusals
use Rattle.span_algebra.specs.Timelines.{Extent}
use Rattle.span_algebra.specs.declared.lists.Run.{Run}
use Rattle.core_events.specs.Events.{Request, Guest}
use Rattle.core_events.specs.Views.{plain_reply}
use Rattle.core_events.specs.declared.answers.Reply as reply_type
use Rattle.core_events.specs.declared.answers.Reply.TheVariants as reply
use Rattle.core_events.specs.declared.answers.Errno.TheVariants as errno
use Rattle.core_events.specs.declared.answers.Errno.TheVariants.{Io, NoSpace}
use Rattle.core_events.specs.declared.events.Work.{Work}
use Rattle.core_events.specs.declared.events.Work.TheVariants.{Zero}
use Rattle.core_events.specs.Answers.{Reply, Fault}
use Rattle.image_model.specs.Space.{Store, need, store_written, store_zeroed}
use Rattle.plain_model.specs.Machine.{next_number}
use Rattle.plain_model.specs.Requests.{HasBytes, is_write, range_of}
use Rattle.plain_model.specs.Outcome.{bytes_of}
use Rattle.plain_model.specs.Lawful.{syncs}
use Rattle.core_layers.specs.Layers.{Facts, Spends, WritesDisk, MayBreak, KeepsHead}
use Rattle.core_layers.proofs.Exports.{from_ok}
use Rattle.drive_core.specs.Drive.{Drive, shown_of, machine_of, next, denies, Keeps, Answers}
use Rattle.drive_core.specs.Settling.{Settles}
use Rattle.drive_core.proofs.Laws.{IsBare}
use Rattle.drive_core.proofs.Going.{as_drive}
use Rattle.drive_core.proofs.Changes.{Knowing, is_short}
use Rattle.drive_core.proofs.Written.{Changes, begun, from_begun, same_knowing, drive_is, failed_call, short_call, settled_call}
use Rattle.drive_core.proofs.Works.{IsStored, zeroed, written, fits, lacks, lacks_room, takes_few, never_short, makes_zeroed, ok_not_failed, full_not_failed}

-- what images of one kind show and know, with the laws that are met here
pub record ImageOf (X : Type 0) : Type 1 where
  pub facts : X → Facts
  pub event : X → ℕ
  pub broken : X → Option ℕ
  pub room : X → ℕ
  pub space : X → World → Store
  pub holds : X → World → List ℕ → List (List ℕ) → Type 0
  pub knows : (x : X) → Knowing (facts x) (room x) (holds x) (space x)
  pub bare : (x : X) → IsBare (facts x) (holds x)
  pub same_space : (x : X) (old new : World) → new.seen (facts x).file ≡ old.seen (facts x).file → space x new ≡ space x old

abbrev pub drive_of : {X : Type 0} → ImageOf X → X → ℕ → Bool → Drive
drive_of im x event ended = record { facts = im.facts x; room = im.room x; broken = im.broken x; event = event; ended = ended }

-- the next event was begun
pub record Begins {X : Type 0} (im : ImageOf X) (x y : X) (event number : ℕ) (ended done : Bool) : Type 0 where
  pub drive : drive_of im y number done ≡ next (drive_of im x event ended)
  pub event_is : im.event y ≡ number
  pub space : (w : World) → im.space y w ≡ im.space x w
  pub holds : (w : World) (disk : List ℕ) (mixed : List (List ℕ)) → im.holds x w disk mixed → im.holds y w disk mixed

-- What a call that changes the disk says, whatever it answered.
pub record Calls {X : Type 0} (im : ImageOf X) (y z : X) (at : ℕ) (bytes : List ℕ) {T E : Type 0} (result : Result T E) (goal : Store) (most : ℕ) (old new : World) : Type 0 where
  pub writes : IsTrue old.tells → (left : List ℕ) × OnOk result (left ≡ bytes) × ((disk : List ℕ) (mixed : List (List ℕ)) → im.holds y old disk mixed → WritesDisk (im.facts y).file (im.facts y).id (im.facts y).directory at bytes left disk mixed (im.holds z new) old new)
  pub space : (disk : List ℕ) (mixed : List (List ℕ)) → IsTrue old.tells → im.holds y old disk mixed → Spends (im.space y old) goal (im.space z new) most
  pub breaks : MayBreak (im.facts y).file (im.event y) (im.broken y) (im.broken z) old new
  pub facts : im.facts z ≡ im.facts y
  pub event : im.event z ≡ im.event y
  pub head : (disk : List ℕ) (mixed : List (List ℕ)) → im.holds y old disk mixed → KeepsHead (im.facts y).file (im.space y old).cluster old new
  pub run : Runs (only_file (im.facts y).file) old new

-- and what a FUA adds, and leaves of the drive
pub record Syncs {X : Type 0} (im : ImageOf X) (z s : X) (number then_number : ℕ) (done then_done : Bool) (fua : Bool) (result : reply_type.Reply) (mid new : World) : Type 0 where
  pub settles : (ok : Bool) × (result ≡ (if ok then reply.Done else reply.Fault errno.Io))
      × Settles fua ok (im.facts z) (im.space z mid).cluster (im.event z) (im.broken z) (im.broken s) (im.holds z mid) (im.holds s new) mid new
  pub space : im.space s new ≡ im.space z mid
  pub facts : im.facts s ≡ im.facts z
  pub event : then_number ≡ number
  pub ended : then_done ≡ done
  pub run : Runs (only_file (im.facts z).file) mid new

module _ {X : Type 0} (im : ImageOf X) (x y z : X) (event number : ℕ) (ended done : Bool) (begin : Begins im x y event number ended done) (r : Request) (old mid : World) (undenied : denies (shown_of (drive_of im x event ended)) r ≡ None) where
  abbrev d : Drive
  d = drive_of im x event ended

  abbrev pub AnswersSo : X → ℕ → Bool → World → Reply → Type 0
  AnswersSo s then_number then_done new said =
      Answers (shown_of d) (shown_of (drive_of im s then_number then_done)) (Keeps d (im.holds x) (im.space x) old) (Keeps (drive_of im s then_number then_done) (im.holds s) (im.space s) new) old new (Guest r) said

  facts_are : (drive_of im y number done).facts ≡ d.facts
  facts_are = ap (λ (v : Drive). v.facts) begin.drive

  broken_is : im.broken y ≡ d.broken
  broken_is = ap (λ (v : Drive). v.broken) begin.drive

  -- ---- one that stores its range

  module _ (fua : Bool) (bytes : List ℕ) (e : Extent) (work : IsStored r fua bytes e) {T : Type 0} (result : Result T WriteRefusal)
      (call : Calls im y z r.offset bytes result (store_written (im.space y old) e) (need (im.space y old) e) old mid)
      (kept : (disk : List ℕ) (mixed : List (List ℕ)) → IsTrue old.tells → im.holds y old disk mixed → (im.space y old).room < need (im.space y old) e → (z ≡ y) × (mid.seen (im.facts y).file ≡ old.seen (im.facts y).file)) where
    same : im.facts z ≡ d.facts
    same = call.facts ∙ facts_are

    changes : Changes d.facts (next_number d.event) d.broken (im.broken z) (im.holds x old) (im.holds z mid) (im.space x old) (store_written (im.space x old) e) (im.space z mid) (need (im.space x old) e) r.offset (bytes_of r r.work) (IsOk result) old mid
    changes = begun (begin.holds old) (from_begun d (drive_of im y number done) (im.event y) (λ (size : ℕ) (s : Store). store_written s e) (λ (s : Store). need s e) begin.drive begin.event_is (begin.space old) work.bytes_are (record {
      writes = λ told. (let w = call.writes told in (w.0, λ (well : IsOk result). from_ok _ result well w.1, w.2));
      space = call.space;
      breaks = call.breaks;
      head = call.head;
      run = call.run;
    }))

    kept_so : (disk : List ℕ) (mixed : List (List ℕ)) → IsTrue old.tells → im.holds x old disk mixed → is_short r (im.space x old) ≡ true
        → (im.broken z ≡ d.broken) × (mid.seen d.facts.file ≡ old.seen d.facts.file) × (im.space z mid ≡ im.space x old)
    kept_so disk mixed told k short =
        let k = kept disk mixed told (begin.holds old disk mixed k) (subst (λ (s : Store). s.room < need s e) (sym (begin.space old)) (lacks_room r e work.range work.stored (im.space x old) short)) in (
          ap im.broken k.0 ∙ broken_is,
          subst (λ (f : Facts). mid.seen f.file ≡ old.seen f.file) facts_are k.1,
          ap (λ (v : X). im.space v mid) k.0 ∙ im.same_space y old mid k.1 ∙ begin.space old,
        )

    abbrev clusters : Store
    clusters = im.space x old

    pub failed_store : (result ≡ Err refusals.Failed → FileFailed (im.facts y).file old mid) → (why : WriteRefusal) → result ≡ Err why → why ≡ refusals.Failed → AnswersSo z number done mid (Fault Io)
    failed_store failed why is is_failed = as_drive (drive_is d (im.facts z) number done (im.room z) (im.broken z) same (ap (λ (v : Drive). v.event) begin.drive) (ap (λ (v : Drive). v.ended) begin.drive))
        (failed_call d r work.writes work.has undenied (im.holds x) (im.space x) old (im.knows x) (im.bare x) (written clusters e) (need clusters e) (λ freed h start. work.makes (machine_of d clusters freed h)) (takes_few r e work.range work.stored clusters)
        (im.holds z) (im.space z) (im.room z) (im.broken z) mid (IsOk result) (same_knowing same (im.knows z)) changes kept_so
        (subst (λ (f : Facts). FileFailed f.file old mid) facts_are (failed (is ∙ ap Err is_failed))))

    pub short_store : (result ≡ Err refusals.NoRoom → (disk : List ℕ) (mixed : List (List ℕ)) → IsTrue old.tells → im.holds y old disk mixed → (im.space y old).room < need (im.space y old) e)
        → (result ≢ Err refusals.Failed → im.broken z ≡ im.broken y) → (why : WriteRefusal) → result ≡ Err why → why ≡ refusals.NoRoom → AnswersSo z number done mid (Fault NoSpace)
    short_store short whole why is is_full = as_drive (drive_is d (im.facts z) number done (im.room z) (im.broken z) same (ap (λ (v : Drive). v.event) begin.drive) (ap (λ (v : Drive). v.ended) begin.drive))
        (short_call d r work.writes work.has undenied (im.holds x) (im.space x) old (im.knows x) (im.bare x) (written clusters e) (need clusters e) (λ freed h start. work.makes (machine_of d clusters freed h)) (takes_few r e work.range work.stored clusters)
        (im.holds z) (im.space z) (im.room z) (im.broken z) mid (IsOk result) (same_knowing same (im.knows z)) changes kept_so
        (λ disk mixed told k. lacks r e work.range work.stored clusters (subst (λ (s : Store). s.room < need s e) (begin.space old) (short (is ∙ ap Err is_full) disk mixed told (begin.holds old disk mixed k))))
        (whole (full_not_failed result why is is_full) ∙ broken_is))

    pub stored : (s : X) (then_number : ℕ) (then_done : Bool) (said : reply_type.Reply) (new : World) → Syncs im z s number then_number done then_done fua said mid new
        → OnOk result ((disk : List ℕ) (mixed : List (List ℕ)) → IsTrue old.tells → im.holds y old disk mixed → (need (im.space y old) e ≤ (im.space y old).room) × (im.space z mid ≡ store_written (im.space y old) e))
        → (result ≢ Err refusals.Failed → im.broken z ≡ im.broken y) → (value : T) → result ≡ Ok value → (held : List ℕ) (runs : List Run) → AnswersSo s then_number then_done new (plain_reply said held runs)
    stored s then_number then_done said new sync spent whole value is held runs =
        let well : IsOk result = subst IsOk (sym is) refl in
        let had = from_ok _ result well spent in
        let t = sync.settles in
        as_drive (drive_is d (im.facts s) then_number then_done (im.room s) (im.broken s) (sync.facts ∙ same) (sync.event ∙ ap (λ (v : Drive). v.event) begin.drive) (sync.ended ∙ ap (λ (v : Drive). v.ended) begin.drive))
        (settled_call d r work.writes work.has undenied (im.holds x) (im.space x) old (im.knows x) (im.bare x) (written clusters e) (need clusters e) (λ freed h start. work.makes (machine_of d clusters freed h)) (takes_few r e work.range work.stored clusters)
        (im.holds z) (im.holds s) (im.space z) (im.space s) (im.room z) (im.room s) (im.broken z) (im.broken s) mid new (IsOk result) (same_knowing same (im.knows z)) (same_knowing (sync.facts ∙ same) (im.knows s)) changes well
        (whole (ok_not_failed result value is) ∙ broken_is)
        (λ disk mixed told k. fits r e work.range work.stored clusters (subst (λ (c : Store). need c e ≤ c.room) (begin.space old) (had disk mixed told (begin.holds old disk mixed k)).0))
        (λ disk mixed told k. (had disk mixed told (begin.holds old disk mixed k)).1 ∙ ap (λ (c : Store). store_written c e) (begin.space old))
        fua t.0 work.asks (im.event z) (call.event ∙ begin.event_is ∙ ap (λ (v : Drive). v.event) begin.drive)
        (subst (λ (f : Facts). Settles fua t.0 f (im.space z mid).cluster (im.event z) (im.broken z) (im.broken s) (im.holds z mid) (im.holds s new) mid new) same t.2)
        (subst (λ (f : Facts). Runs (only_file f.file) mid new) same sync.run) sync.space said held runs t.1)

  -- ---- a zero

  module _ (fua : Bool) (work : r.work ≡ Zero fua false) {T E : Type 0} (result : Result T E)
      (call : Calls im y z r.offset (replicate r.length 0) result (store_zeroed (im.facts y).size (im.space y old) (range_of r)) 0 old mid) where
    zero_same : im.facts z ≡ d.facts
    zero_same = call.facts ∙ facts_are

    zero_changes : Changes d.facts (next_number d.event) d.broken (im.broken z) (im.holds x old) (im.holds z mid) (im.space x old) (store_zeroed d.facts.size (im.space x old) (range_of r)) (im.space z mid) 0 r.offset (bytes_of r r.work) (IsOk result) old mid
    zero_changes = begun (begin.holds old) (from_begun d (drive_of im y number done) (im.event y) (λ (size : ℕ) (s : Store). store_zeroed size s (range_of r)) (λ (s : Store). 0) begin.drive begin.event_is (begin.space old) (sym (ap (λ (w : Work). bytes_of r w) work)) (record {
      writes = λ told. (let w = call.writes told in (w.0, λ (well : IsOk result). from_ok _ result well w.1, w.2));
      space = call.space;
      breaks = call.breaks;
      head = call.head;
      run = call.run;
    }))

    pub failed_zero : FileFailed (im.facts y).file old mid → AnswersSo z number done mid (Fault Io)
    failed_zero failed = as_drive (drive_is d (im.facts z) number done (im.room z) (im.broken z) zero_same (ap (λ (v : Drive). v.event) begin.drive) (ap (λ (v : Drive). v.ended) begin.drive))
        (failed_call d r (ap is_write work) (subst (HasBytes r) (sym work) tt) undenied (im.holds x) (im.space x) old (im.knows x) (im.bare x) (zeroed d.facts.size (im.space x old) (range_of r)) 0 (makes_zeroed d r fua (im.space x old) work) (λ fits. omega arith)
        (im.holds z) (im.space z) (im.room z) (im.broken z) mid (IsOk result) (same_knowing zero_same (im.knows z)) zero_changes
        (λ disk mixed told k short. absurd (false≢true (sym (never_short r fua (im.space x old) work) ∙ short)))
        (subst (λ (f : Facts). FileFailed f.file old mid) facts_are failed))

    pub zeroed_well : (s : X) (then_number : ℕ) (then_done : Bool) (said : reply_type.Reply) (new : World) → Syncs im z s number then_number done then_done fua said mid new
        → OnOk result ((disk : List ℕ) (mixed : List (List ℕ)) → IsTrue old.tells → im.holds y old disk mixed → im.space z mid ≡ store_zeroed (im.facts y).size (im.space y old) (range_of r))
        → OnOk result (im.broken z ≡ im.broken y) → (value : T) → result ≡ Ok value → (held : List ℕ) (runs : List Run) → AnswersSo s then_number then_done new (plain_reply said held runs)
    zeroed_well s then_number then_done said new sync cleared whole value is held runs =
        let well : IsOk result = subst IsOk (sym is) refl in
        let t = sync.settles in
        as_drive (drive_is d (im.facts s) then_number then_done (im.room s) (im.broken s) (sync.facts ∙ zero_same) (sync.event ∙ ap (λ (v : Drive). v.event) begin.drive) (sync.ended ∙ ap (λ (v : Drive). v.ended) begin.drive))
        (settled_call d r (ap is_write work) (subst (HasBytes r) (sym work) tt) undenied (im.holds x) (im.space x) old (im.knows x) (im.bare x) (zeroed d.facts.size (im.space x old) (range_of r)) 0 (makes_zeroed d r fua (im.space x old) work) (λ fits. omega arith)
        (im.holds z) (im.holds s) (im.space z) (im.space s) (im.room z) (im.room s) (im.broken z) (im.broken s) mid new (IsOk result) (same_knowing zero_same (im.knows z)) (same_knowing (sync.facts ∙ zero_same) (im.knows s)) zero_changes well
        (from_ok _ result well whole ∙ broken_is) (λ disk mixed told k. never_short r fua (im.space x old) work)
        (λ disk mixed told k. from_ok _ result well cleared disk mixed told (begin.holds old disk mixed k)
        ∙ ap (λ (f : Facts). store_zeroed f.size (im.space y old) (range_of r)) facts_are ∙ ap (λ (c : Store). store_zeroed d.facts.size c (range_of r)) (begin.space old))
        fua t.0 (ap syncs work) (im.event z) (call.event ∙ begin.event_is ∙ ap (λ (v : Drive). v.event) begin.drive)
        (subst (λ (f : Facts). Settles fua t.0 f (im.space z mid).cluster (im.event z) (im.broken z) (im.broken s) (im.holds z mid) (im.holds s new) mid new) zero_same t.2)
        (subst (λ (f : Facts). Runs (only_file f.file) mid new) zero_same sync.run) sync.space said held runs t.1)
