-- Reads, statuses and flushes, from the contracts of the image's calls.
use Rattle.std.proofs.Common.{◌≡◌, ⊎_elim, ℕ, List, [], ◌∷◌, ◌++◌, length, Bool, false, Option, Some, None, sym, ap, subst, ◌∙◌}
use Rattle.std.specs.Prelude.{◌≢◌}
use Rattle.disk_model.specs.World.{World, Runs, reads_of, only_file, Rose, FileFailed, EachSince, IsSpared}
use Rattle.core_events.specs.Events.{Request, Guest}
use Rattle.core_events.specs.declared.events.Work.TheVariants.{Flush}
use Rattle.core_events.specs.declared.answers.Errno.TheVariants.{Io}
use Rattle.core_events.specs.Answers.{Reply, Done, Fault}
use Rattle.image_model.specs.Space.{Store}
use Rattle.plain_model.specs.History.{History}
use Rattle.plain_model.specs.Machine.{next_number}
use Rattle.plain_model.specs.Requests.{is_write, is_flush, granted}
use Rattle.plain_model.specs.Faults.{is_io}
use Rattle.core_node.specs.Causes.{IsRefusal}
use Rattle.core_layers.specs.Layers.{Facts, IsMixed, KeepsHead, MayBreak}
use Rattle.drive_core.specs.Drive.{Drive, shown_of, machine_of, next, denies, IsHeld, Keeps, Answers}
use Rattle.drive_core.proofs.Laws.{HasSpace}
use Rattle.drive_core.proofs.Denials.{granted_is}
use Rattle.drive_core.proofs.Going.{after, as_drive}
use Rattle.drive_core.proofs.Still.{Rests}
use Rattle.drive_core.proofs.Changes.{Knowing}
use Rattle.drive_core.proofs.Written.{same_knowing}
use Rattle.drive_core.proofs.Images.{ImageOf, drive_of, Begins}
use Rattle.drive_core.proofs.Unwritten.{read_answers, unread_answers, synced_answers, unsynced_answers}

module _ {X : Type 0} (im : ImageOf X) (was begun : X) (event number : ℕ) (ended done : Bool) (begin : Begins im was begun event number ended done) (r : Request) (old new : World)
    (undenied : denies (shown_of (drive_of im was event ended)) r ≡ None) where
  abbrev d : Drive
  d = drive_of im was event ended

  abbrev AnswersOf : X → Reply → Type 0
  AnswersOf left reply = Answers (shown_of d) (shown_of (drive_of im left number done)) (Keeps d (im.holds was) (im.space was) old) (Keeps (drive_of im left number done) (im.holds left) (im.space left) new) old new (Guest r) reply

  same_facts : im.facts begun ≡ im.facts was
  same_facts = ap (λ (x : Drive). x.facts) begin.drive

  -- ---- a read or a status

  module _ (more : (w : World) (disk : List ℕ) (mixed : List (List ℕ)) (other : List ℕ) → length other ≡ (im.facts begun).size → im.holds begun w disk mixed → im.holds begun w disk (mixed ++ other ∷ []))
      (spared : (old new : World) (disk : List ℕ) (mixed : List (List ℕ)) → IsSpared old new (im.facts begun).file → im.holds begun old disk mixed → im.holds begun new disk mixed)
      (reads : is_write r.work ≡ false) (calm : is_flush r.work ≡ false) (run : Runs (reads_of (im.facts begun).file) old new) where
    rests : Rests (im.facts was) (im.holds was) (im.holds begun)
    rests = subst (λ (f : Facts). Rests f (im.holds was) (im.holds begun)) same_facts (record {
      in_order = (im.knows begun).in_order;
      sizes = (im.knows begun).sizes;
      among = (im.knows begun).among;
      mixes_more = more;
      spared = spared;
      goes_on = begin.holds;
    })

    runs : Runs (reads_of (im.facts was).file) old new
    runs = subst (λ (f : Facts). Runs (reads_of f.file) old new) same_facts run

    has_space_then : HasSpace (im.facts was) (im.room was) (im.holds begun) (im.space begun)
    has_space_then = subst (λ (x : Drive). HasSpace x.facts x.room (im.holds begun) (im.space begun)) begin.drive (im.knows begun).has_space

    same_store : im.space begun new ≡ im.space was old
    same_store = im.same_space begun old new (run.files (im.facts begun).file (λ none. none)).seen ∙ begin.space old

    pub read_call : (left : X) → left ≡ begun → (reply : Reply) → is_io reply ≡ false → (IsRefusal reply → ⊥)
        → ((freed : ℕ) (h : History) (disks : List (List ℕ)) → IsHeld d (im.holds was old) (im.space was old) old freed h disks → granted r r.work (machine_of (next d) (im.space was old) freed h) ≡ reply) → AnswersOf left reply
    read_call left same reply good unrefused says = subst (λ (x : X). AnswersOf x reply) (sym same)
        (as_drive begin.drive (read_answers d r reads calm undenied runs rests (im.knows was).sizes (im.knows was).has_space has_space_then (im.bare was) same_store reply good unrefused says))

    pub unread_call : (left : X) → left ≡ begun → FileFailed (im.facts begun).file old new → AnswersOf left (Fault Io)
    unread_call left same failed = subst (λ (x : X). AnswersOf x (Fault Io)) (sym same)
        (as_drive begin.drive (unread_answers d r reads calm undenied runs rests (im.knows was).sizes (im.knows was).has_space has_space_then (im.bare was) same_store
        (subst (λ (f : Facts). FileFailed f.file old new) same_facts failed)))

  -- ---- a flush

  module _ (work : r.work ≡ Flush) (left : X) (facts_stay : im.facts left ≡ im.facts begun) (run : Runs (only_file (im.facts begun).file) old new)
      (since : (disk : List ℕ) (mixed : List (List ℕ)) → im.holds begun old disk mixed → EachSince new old.now (im.facts begun).file (IsMixed (im.facts begun).id (im.facts begun).directory mixed))
      (head : (disk : List ℕ) (mixed : List (List ℕ)) → im.holds begun old disk mixed → KeepsHead (im.facts begun).file (im.space begun old).cluster old new)
      (same : im.space left new ≡ im.space begun old) where
    facts_are : im.facts left ≡ im.facts was
    facts_are = facts_stay ∙ same_facts

    -- the drive as the call left it
    left_is : (is : Option ℕ) → im.broken left ≡ is → drive_of im left number done ≡ after is (im.room left) ended d
    left_is is same = λ i. record { facts = facts_are i; room = im.room left; broken = same i; event = ap (λ (x : Drive). x.event) begin.drive i; ended = ap (λ (x : Drive). x.ended) begin.drive i }

    synced_run : Runs (only_file (im.facts was).file) old new
    synced_run = subst (λ (f : Facts). Runs (only_file f.file) old new) same_facts run

    since_was : (disk : List ℕ) (mixed : List (List ℕ)) → im.holds was old disk mixed → EachSince new old.now (im.facts was).file (IsMixed (im.facts was).id (im.facts was).directory mixed)
    since_was disk mixed k = subst (λ (f : Facts). EachSince new old.now f.file (IsMixed f.id f.directory mixed)) same_facts (since disk mixed (begin.holds old disk mixed k))

    head_was : (disk : List ℕ) (mixed : List (List ℕ)) → im.holds was old disk mixed → KeepsHead (im.facts was).file (im.space was old).cluster old new
    head_was disk mixed k = subst (λ (f : Facts). KeepsHead f.file (im.space was old).cluster old new) same_facts
        (subst (λ (s : Store). KeepsHead (im.facts begun).file s.cluster old new) (begin.space old) (head disk mixed (begin.holds old disk mixed k)))

    knows_left : Knowing (im.facts was) (im.room left) (im.holds left) (im.space left)
    knows_left = same_knowing facts_are (im.knows left)

    pub flush_call : ((disk : List ℕ) (mixed : List (List ℕ)) → im.holds begun old disk mixed → im.holds left new disk (disk ∷ [])) → im.broken left ≡ im.broken begun → AnswersOf left Done
    flush_call lasts whole = as_drive (left_is (im.broken was) (whole ∙ ap (λ (x : Drive). x.broken) begin.drive))
        (synced_answers d r work undenied synced_run (im.knows was).sizes knows_left.in_order knows_left.sizes knows_left.among (im.knows was).has_space knows_left.has_space (im.bare was) (same ∙ begin.space old) since_was head_was
        (λ disk mixed k. lasts disk mixed (begin.holds old disk mixed k)))

    pub unflushed_call : ((disk : List ℕ) (mixed : List (List ℕ)) → im.holds begun old disk mixed → im.holds left new disk mixed)
        → MayBreak (im.facts begun).file (im.event begun) (im.broken begun) (im.broken left) old new × (im.broken left ≢ None) → FileFailed (im.facts begun).file old new → AnswersOf left (Fault Io)
    unflushed_call undone breaks failed = ⊎_elim
        (λ (still : im.broken left ≡ im.broken begun). absurd (breaks.1 (still ∙ ap (λ (x : Drive). x.broken) begin.drive ∙ (granted_is (shown_of d) r undenied).whole)))
        (λ (broke : (im.broken begun ≡ None) × (im.broken left ≡ Some (im.event begun)) × Rose old.faults.shared new.faults.shared × Rose (old.faults.writes (im.facts begun).file) (new.faults.writes (im.facts begun).file)).
        as_drive (left_is (Some (next_number event)) (broke.1 ∙ ap (λ (n : ℕ). Some n) (begin.event_is ∙ ap (λ (x : Drive). x.event) begin.drive)))
        (unsynced_answers d r work undenied synced_run (im.knows was).sizes knows_left.in_order knows_left.sizes knows_left.among (im.knows was).has_space knows_left.has_space (im.bare was) (same ∙ begin.space old) since_was head_was
        (λ disk mixed k. undone disk mixed (begin.holds old disk mixed k)) (subst (λ (f : Facts). FileFailed f.file old new) same_facts failed)
        (subst (λ (f : Facts). Rose (old.faults.writes f.file) (new.faults.writes f.file)) same_facts broke.3)))
        breaks.0
