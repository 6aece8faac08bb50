-- A write or a zero, as it ends: it goes well, a call on the file fails in it or in the sync behind it, it lacks room, or a test for room fails.
use Rattle.std.proofs.Common.{◌≡◌, ⊎_elim, ℕ, ◌+◌, ◌-◌, ◌<◌, ◌≤◌, List, [], ◌∷◌, ◌++◌, length, Bool, true, false, ◌&&◌, IsTrue, None, refl, sym, ap, subst, ◌∙◌, arith}
use Rattle.std.specs.Prelude.{All, Contains, is_none, IsSome, nat_lt, ◌||◌, if◌then◌else◌}
use Rattle.std.proofs.lemmas.Bool.{false≢true}
use Rattle.disk_model.specs.Files.{overlay}
use Rattle.disk_model.specs.World.{World, Runs, only_file, Rose, FileFailed, EachSince}
use Rattle.core_events.specs.Events.{Request, Guest}
use Rattle.core_events.specs.declared.answers.Errno.TheVariants.{Io, NoSpace}
use Rattle.core_events.specs.Answers.{Reply, Done, Fault}
use Rattle.image_model.specs.Space.{Store, Change, need}
use Rattle.plain_model.specs.History.{History, Wrote, with_entry, now, timeline_of}
use Rattle.plain_model.specs.Machine.{Machine}
use Rattle.plain_model.specs.Requests.{place_of, Drive as OnDrive, HasBytes, is_write, is_flush, stores, denial, lacks_room, range_of}
use Rattle.plain_model.specs.Actions.{Held, Absent}
use Rattle.plain_model.specs.Outcome.{no_trouble, Untouched, Torn, Fate, Denied, Lost, Carried, CarriedInPart, fate, breaks_by, bytes_of, outcome}
use Rattle.plain_model.specs.Step.{change_by, no_change, StepSpace, SpaceBy}
use Rattle.plain_model.specs.Faults.{StepFaults}
use Rattle.plain_model.specs.Lawful.{IsOfEpoch, syncs, disks_after}
use Rattle.plain_model.specs.Sound.{IsSound}
use Rattle.plain_model.proofs.Histories.{length-now}
use Rattle.plain_model.proofs.Points.{now-wrote}
use Rattle.plain_model.proofs.Steps.{guest_outcome}
use Rattle.core_node.specs.Rest.{IsSafe}
use Rattle.core_node.specs.Step.{kept_during}
use Rattle.core_node.specs.Ends.{IsHeadKnown}
use Rattle.core_node.proofs.Rises.{rise_of, is_rise, rose_up, rose_at, quiet}
use Rattle.core_node.proofs.Causing.{quiet_causes, io_causes}
use Rattle.core_node.specs.Touches.{SameSource, is_denied, works_on}
use Rattle.core_layers.specs.Layers.{Facts, Spends}
use Rattle.core_layers.proofs.Exports.{epochs-wrote, target_goes_on}
use Rattle.drive_core.specs.Drive.{Drive, shown_of, machine_of, next, denies, IsHeld, Keeps, Answers}
use Rattle.drive_core.proofs.Laws.{Knows, InOrder, HasSpace, HasSizes, IsBare, named_on}
use Rattle.drive_core.proofs.Denials.{denial_is, granted_place, failed_for, may_work}
use Rattle.drive_core.proofs.Going.{Leaves, Served, steps}
use Rattle.drive_core.proofs.Fates.{fate_is, reply_with, ended, broken_by, unbroken, wrote, tore, lost, refused, changed, changed_in_part, faulty}
use Rattle.drive_core.proofs.Puts.{cluster_stays, kinds_stay, tables_stay, Puts, same_disk, held_by, crashes_by}

abbrev pub none_held : List ℕ → Held
none_held name = Absent

-- the laws of an image that are met here
pub record Knowing (f : Facts) (room : ℕ) (holds : Knows) (space : World → Store) : Type 0 where
  pub in_order : InOrder f holds
  pub has_space : HasSpace f room holds space
  pub has_head : (w : World) (disk : List ℕ) (mixed : List (List ℕ)) → IsTrue w.tells → holds w disk mixed → IsHeadKnown f.file w
  pub among : (w : World) (disk : List ℕ) (mixed : List (List ℕ)) → holds w disk mixed → Contains mixed disk
  pub sizes : HasSizes f holds

-- after the event: the source may be broken, and its room is another
abbrev pub after_it : Bool → ℕ → Drive → Drive
after_it broke room d = record (broken_by broke d) { room = room }

pub never : (b : Bool) → (b && false) ≡ false
never false = refl
never true = refl

abbrev pub mixed_after : Bool → List (List ℕ) → List ℕ → List (List ℕ)
mixed_after alone disks disk = if alone then disk ∷ [] else disks ++ disk ∷ []

-- it needs more clusters than can be handed out
abbrev pub is_short : Request → Store → Bool
is_short r store = stores r.work && nat_lt store.room (need store (range_of r))

module _ (d : Drive) (r : Request) (writes : is_write r.work ≡ true) (has : HasBytes r r.work) (undenied : denies (shown_of d) r ≡ None)
    (holds holding : World → List ℕ → List (List ℕ) → Type 0) (space spacing : World → Store) (room : ℕ) (old new : World) (run : Runs (only_file d.facts.file) old new)
    (before : Knowing d.facts d.room holds space) (after : Knowing d.facts room holding spacing) where
  granted : (store : Store) (freed : ℕ) (h : History) → length h.start ≡ d.facts.size → denial r (machine_of (next d) store freed h) ≡ None
  granted store freed h start = denial_is (shown_of d) r (machine_of (next d) store freed h) refl refl refl refl (sym start) refl ∙ undenied

  place : (store : Store) (freed : ℕ) (h : History) → place_of r.way (machine_of d store freed h) ≡ OnDrive
  place store freed h = granted_place (shown_of d) r (machine_of d store freed h) undenied refl refl refl

  lacks_is : (freed : ℕ) (h : History) → lacks_room r (machine_of (next d) (space old) freed h) ≡ is_short r (space old)
  unfolding lacks_room
  lacks_is freed h = refl

  during_is : (disks : List (List ℕ)) (disk : List ℕ) → kept_during disks (Guest r) disk ≡ disks ++ disk ∷ []
  during_is disks disk = ap (λ (b : Bool). if b then disks ++ disk ∷ [] else disks) writes

  after_is : (ok : Bool) (disks : List (List ℕ)) (disk : List ℕ) → disks_after disks r.work ok disk ≡ mixed_after (syncs r.work && ok) disks disk
  after_is ok disks disk = ap (λ (b : Bool). if syncs r.work && ok then disk ∷ [] else if b then disks ++ disk ∷ [] else disks) writes

  module _ (freed : ℕ) (h : History) (disks : List (List ℕ)) (k : IsHeld d (holds old) (space old) old freed h disks) where
    abbrev m : Machine
    m = machine_of d (space old) freed h

    told_new : IsTrue new.tells
    told_new = subst IsTrue (sym run.goes.tells) k.told

    start : length h.start ≡ d.facts.size
    start = sym (length-now h k.sound.history_is.inside) ∙ (before.sizes old (now h) disks k.holds_it).0

    none : denial r (machine_of (next d) (space old) freed h) ≡ None
    none = granted (space old) freed h start

    own_failed : FileFailed d.facts.file old new → 0 < (rise_of old new).reads (old.named d.facts.file) + (rise_of old new).writes (old.named d.facts.file)
    own_failed failed = ⊎_elim
        (λ (own : Rose (old.faults.reads d.facts.file) (new.faults.reads d.facts.file)). let some = rose_at old.faults.reads new.faults.reads (old.found (old.named d.facts.file)) d.facts.file k.named.found own in omega (arith, some))
        (λ (own : Rose (old.faults.writes d.facts.file) (new.faults.writes d.facts.file)). let some = rose_at old.faults.writes new.faults.writes (old.found (old.named d.facts.file)) d.facts.file k.named.found own in omega (arith, some)) failed.own

    -- ---- the file

    module _ (left : List ℕ) (alone : Bool) (p : Puts d.facts (space old).cluster r.offset (bytes_of r r.work) left alone (holding new) (now h) disks old new) where
      abbrev disk : List ℕ
      disk = overlay (now h) r.offset left

      known : IsTrue new.tells → (spacing new).cluster ≡ (space old).cluster
      known told = cluster_stays k.told told (before.has_space old (now h) disks k.told k.holds_it).0 (after.has_space new disk (mixed_after alone disks disk) told p.after).0
          (before.has_head old (now h) disks k.told k.holds_it) p.head

      -- what is known then, for a history that leads to the disk that was left
      held_then : (broke : Bool) (freed_then : ℕ) (next_one : History) → now next_one ≡ disk → All (IsOfEpoch d.facts.directory.epoch) (timeline_of next_one).entries → IsSound (machine_of (after_it broke room d) (spacing new) freed_then next_one)
          → IsHeld (after_it broke room d) (holding new) (spacing new) new freed_then next_one (mixed_after alone disks (now next_one))
      held_then broke freed_then next_one is epochs sound =
          let in_order = ((after.in_order new disk (mixed_after alone disks disk) p.after).seen told_new).0 in
          let sizes = after.sizes new disk (mixed_after alone disks disk) p.after in
          held_by {e = after_it broke room d} in_order.sectors told_new (named_on d.facts.file run (λ none. none) k.named)
          (subst (λ (x : List ℕ). holding new x (mixed_after alone disks x)) (sym is) p.after)
          (subst (λ (x : List ℕ). (length x ≡ d.facts.size) × All (λ (other : List ℕ). length other ≡ d.facts.size) (mixed_after alone disks x)) (sym is) sizes)
          (ap length is ∙ in_order.whole)
          (subst (λ (x : List ℕ). Contains (mixed_after alone disks x) x) (sym is) (after.among new disk (mixed_after alone disks disk) p.after))
          epochs sound

      crashes_then : (next_one : History) → now next_one ≡ disk → EachSince new old.now d.facts.file (IsSafe (d.facts.directory ∷ []) d.facts.id h (kept_during disks (Guest r) (now next_one)))
      crashes_then next_one is = subst (λ (ds : List (List ℕ)). EachSince new old.now d.facts.file (IsSafe (d.facts.directory ∷ []) d.facts.id h ds))
          (sym (during_is disks (now next_one) ∙ ap (λ (x : List ℕ). disks ++ x ∷ []) is)) (crashes_by d.facts h disks disk old.now new k.sound.history_is k.epochs k.mixes.among p.since)

      abbrev written : History
      written = with_entry h (Wrote r.offset left)

      written_is : now written ≡ disk
      written_is = now-wrote h r.offset left

      written_epochs : All (IsOfEpoch d.facts.directory.epoch) (timeline_of written).entries
      written_epochs = epochs-wrote d.facts.directory.epoch h r.offset left k.epochs

      leaves : (ok broke : Bool) (freed_then : ℕ) (next_one : History) → syncs r.work && ok ≡ alone → now next_one ≡ disk → All (IsOfEpoch d.facts.directory.epoch) (timeline_of next_one).entries
          → Leaves d (after_it broke room d) holding spacing freed_then (space old).cluster h next_one (kept_during disks (Guest r) (now next_one)) (disks_after disks r.work ok (now next_one)) old new
      leaves ok broke freed_then next_one synced is epochs = record {
        holds = λ sound. subst (IsHeld (after_it broke room d) (holding new) (spacing new) new freed_then next_one)
            (sym (after_is ok disks (now next_one) ∙ ap (λ (b : Bool). mixed_after b disks (now next_one)) synced)) (held_then broke freed_then next_one is epochs sound);
        crashes = crashes_then next_one is;
        head = p.head;
      }

      -- ---- it goes well

      module _ (fits : is_short r (space old) ≡ false) where
        carried : fate no_trouble r (machine_of (next d) (space old) freed h) ≡ Carried
        carried = fate_is no_trouble r (machine_of (next d) (space old) freed h) false true none (lacks_is freed h ∙ fits) writes

        pub well_space : spacing new ≡ (change_by r r.work m).store → StepSpace no_trouble m (Guest r) (machine_of (after_it false room d) (spacing new) (freed + (change_by r r.work m).freed) written)
        well_space is = subst (λ (f : Fate). SpaceBy f r m (machine_of (after_it false room d) (spacing new) (freed + (change_by r r.work m).freed) written)) (sym carried)
            (changed m (change_by r r.work m) (machine_of (after_it false room d) (spacing new) (freed + (change_by r r.work m).freed) written) is refl)

        pub well_faults : StepFaults (old.named d.facts.file) (rise_of old new) no_trouble m (Guest r) (record { reply = Done; notices = [] })
        well_faults = quiet (old.named d.facts.file) (rise_of old new) m (Guest r) Done (never (is_none d.broken)) (ap (λ (f : Fate). breaks_by f no_trouble r.work) carried)

        pub well_outcome : left ≡ bytes_of r r.work → outcome none_held no_trouble (Guest r) m ≡ reply_with (after_it false room d) (space old) freed written Done
        well_outcome whole = wrote none_held d (space old) freed h r writes carried ∙ ap (λ (bytes : List ℕ). reply_with (next d) (space old) freed (with_entry h (Wrote r.offset bytes)) Done) (sym whole)

        well_served : (goal : Change) → left ≡ bytes_of r r.work → syncs r.work && true ≡ alone → change_by r r.work m ≡ goal → spacing new ≡ goal.store
            → Served none_held (rise_of old new) no_trouble d (after_it false room d) holding space spacing (λ n. n + goal.freed) (λ g. with_entry g (Wrote r.offset left)) old new (Guest r) Done freed h disks
        well_served goal whole synced change is = record {
          outcome_is = well_outcome whole;
          torn = tt;
          sound_outcome = guest_outcome none_held no_trouble r m has tt k.sound;
          space_is = subst (λ (c : Change). StepSpace no_trouble m (Guest r) (machine_of (after_it false room d) (spacing new) (freed + c.freed) written)) change (well_space (is ∙ ap (λ (c : Change). c.store) (sym change)));
          faults = well_faults;
          leaves = leaves true false (freed + goal.freed) written synced written_is written_epochs;
        }

        -- ---- a call on the file fails

        module _ (broke : Bool) where
          in_part : fate (ended (Torn left) broke) r (machine_of (next d) (space old) freed h) ≡ CarriedInPart left
          in_part = fate_is (ended (Torn left) broke) r (machine_of (next d) (space old) freed h) false true none (lacks_is freed h ∙ fits) writes

          pub torn_outcome : outcome none_held (ended (Torn left) broke) (Guest r) m ≡ reply_with (after_it broke room d) (space old) freed written (Fault Io)
          torn_outcome = tore none_held d (space old) freed h r left broke in_part

          pub torn_space : (most : ℕ) → Spends (space old) (change_by r r.work m).store (spacing new) most → most ≤ (space old).room - (change_by r r.work m).store.room
              → StepSpace (ended (Torn left) broke) m (Guest r) (machine_of (after_it broke room d) (spacing new) freed written)
          torn_space most spends few =
              let was = (before.has_space old (now h) disks k.told k.holds_it).1 in
              let is = (after.has_space new disk (mixed_after alone disks disk) told_new p.after).1 in
              subst (λ (f : Fate). SpaceBy f r m (machine_of (after_it broke room d) (spacing new) freed written)) (sym in_part)
              (changed_in_part m (change_by r r.work m) (machine_of (after_it broke room d) (spacing new) freed written) most spends few refl (known told_new)
              (kinds_stay d.facts.size (space old) (spacing new) was is (known told_new)) (tables_stay d.facts.size (space old) (spacing new) was is (known told_new)))

          pub torn_faults : FileFailed d.facts.file old new → (IsTrue broke → Rose (old.faults.writes d.facts.file) (new.faults.writes d.facts.file))
              → StepFaults (old.named d.facts.file) (rise_of old new) (ended (Torn left) broke) m (Guest r) (record { reply = Fault Io; notices = [] })
          torn_faults failed tied = faulty (old.named d.facts.file) (rise_of old new) (Torn left) broke m r (place (space old) freed h) (rose_up old.faults.shared new.faults.shared failed.shared) (own_failed failed)
              (λ breaks. rose_at old.faults.writes new.faults.writes (old.found (old.named d.facts.file)) d.facts.file k.named.found (tied (sym (ap (λ (f : Fate). breaks_by f (ended (Torn left) broke) r.work) in_part) ∙ breaks)))

          torn_served : (goal : Change) (most : ℕ) → syncs r.work && false ≡ alone → change_by r r.work m ≡ goal → Spends (space old) goal.store (spacing new) most → most ≤ (space old).room - goal.store.room
              → FileFailed d.facts.file old new → (IsTrue broke → Rose (old.faults.writes d.facts.file) (new.faults.writes d.facts.file))
              → Served none_held (rise_of old new) (ended (Torn left) broke) d (after_it broke room d) holding space spacing (λ n. n) (λ g. with_entry g (Wrote r.offset left)) old new (Guest r) (Fault Io) freed h disks
          torn_served goal most synced change spends few failed tied = record {
            outcome_is = torn_outcome;
            torn = p.torn;
            sound_outcome = guest_outcome none_held (ended (Torn left) broke) r m has p.torn k.sound;
            space_is = torn_space most (subst (λ (c : Change). Spends (space old) c.store (spacing new) most) (sym change) spends) (subst (λ (c : Change). most ≤ (space old).room - c.store.room) (sym change) few);
            faults = torn_faults failed tied;
            leaves = leaves false broke freed written synced written_is written_epochs;
          }

      -- ---- nothing changed

      module _ (seen : new.seen d.facts.file ≡ old.seen d.facts.file) where
        stayed : disk ≡ now h
        stayed = same_disk seen (before.has_space old (now h) disks k.told k.holds_it).0 (after.has_space new disk (mixed_after alone disks disk) told_new p.after).0

        lost_fate : fate (ended Untouched false) r (machine_of (next d) (space old) freed h) ≡ Lost
        lost_fate = fate_is (ended Untouched false) r (machine_of (next d) (space old) freed h) (lacks_room r (machine_of (next d) (space old) freed h)) true none refl writes

        pub lost_outcome : outcome none_held (ended Untouched false) (Guest r) m ≡ reply_with (after_it false room d) (space old) freed h (Fault Io)
        lost_outcome = lost none_held d (space old) freed h r writes lost_fate

        pub lost_space : spacing new ≡ space old → StepSpace (ended Untouched false) m (Guest r) (machine_of (after_it false room d) (spacing new) freed h)
        lost_space same = subst (λ (f : Fate). SpaceBy f r m (machine_of (after_it false room d) (spacing new) freed h)) (sym lost_fate)
            (changed m (no_change m) (machine_of (after_it false room d) (spacing new) freed h) same (omega arith))

        pub lost_faults : FileFailed d.facts.file old new → StepFaults (old.named d.facts.file) (rise_of old new) (ended Untouched false) m (Guest r) (record { reply = Fault Io; notices = [] })
        lost_faults failed = faulty (old.named d.facts.file) (rise_of old new) Untouched false m r (place (space old) freed h) (rose_up old.faults.shared new.faults.shared failed.shared) (own_failed failed)
            (λ breaks. absurd (false≢true (sym (ap (λ (f : Fate). breaks_by f (ended Untouched false) r.work) lost_fate ∙ unbroken r.work writes) ∙ breaks)))

        lost_served : syncs r.work && false ≡ alone → spacing new ≡ space old → FileFailed d.facts.file old new
            → Served none_held (rise_of old new) (ended Untouched false) d (after_it false room d) holding space spacing (λ n. n) (λ g. g) old new (Guest r) (Fault Io) freed h disks
        lost_served synced same failed = record {
          outcome_is = lost_outcome;
          torn = tt;
          sound_outcome = guest_outcome none_held (ended Untouched false) r m has tt k.sound;
          space_is = lost_space same;
          faults = lost_faults failed;
          leaves = leaves false false freed h synced (sym stayed) k.epochs;
        }

        module _ (lacks : is_short r (space old) ≡ true) where
          short_fate : fate no_trouble r (machine_of (next d) (space old) freed h) ≡ Denied NoSpace
          short_fate = fate_is no_trouble r (machine_of (next d) (space old) freed h) true true none (lacks_is freed h ∙ lacks) writes

          pub short_outcome : outcome none_held no_trouble (Guest r) m ≡ reply_with (after_it false room d) (space old) freed h (Fault NoSpace)
          short_outcome = refused none_held d (space old) freed h r no_trouble NoSpace short_fate

          pub short_space : spacing new ≡ space old → StepSpace no_trouble m (Guest r) (machine_of (after_it false room d) (spacing new) freed h)
          short_space same = subst (λ (f : Fate). SpaceBy f r m (machine_of (after_it false room d) (spacing new) freed h)) (sym short_fate)
              (changed m (no_change m) (machine_of (after_it false room d) (spacing new) freed h) same (omega arith))

          pub short_faults : StepFaults (old.named d.facts.file) (rise_of old new) no_trouble m (Guest r) (record { reply = Fault NoSpace; notices = [] })
          short_faults = quiet (old.named d.facts.file) (rise_of old new) m (Guest r) (Fault NoSpace) (never (is_none d.broken)) (ap (λ (f : Fate). breaks_by f no_trouble r.work) short_fate)

          short_served : syncs r.work && false ≡ alone → spacing new ≡ space old
              → Served none_held (rise_of old new) no_trouble d (after_it false room d) holding space spacing (λ n. n) (λ g. g) old new (Guest r) (Fault NoSpace) freed h disks
          short_served synced same = record {
            outcome_is = short_outcome;
            torn = tt;
            sound_outcome = guest_outcome none_held no_trouble r m has tt k.sound;
            space_is = short_space same;
            faults = short_faults;
            leaves = leaves false false freed h synced (sym stayed) k.epochs;
          }

  -- ---- what it does and answers

  module _ (bare : IsBare d.facts holds) where
    same_source : (broke : Bool) → SameSource (shown_of d) (shown_of (after_it broke room d))
    same_source broke = record { file_stays = refl; id_stays = refl; size_stays = refl; epoch_stays = refl; directory_stays = refl }

    works : (reply : Reply) (broke : Bool) → is_denied reply ≡ false → Runs (works_on (shown_of d) (shown_of (after_it broke room d)) new (Guest r) (record { reply = reply; notices = [] })) old new
    works reply broke carried = may_work (shown_of d) r (shown_of (after_it broke room d)) (record { reply = reply; notices = [] }) undenied carried (ap (λ (b : Bool). b || is_flush r.work) writes) run

    -- what the file has where this was left, for each disk that it stood for
    abbrev pub Ends : Bool → List ℕ → Type 0
    Ends alone left = (disk : List ℕ) (mixed : List (List ℕ)) → holds old disk mixed → Puts d.facts (space old).cluster r.offset (bytes_of r r.work) left alone (holding new) disk mixed old new

    abbrev pub AnswersSo : Bool → Reply → Type 0
    AnswersSo broke reply = Answers (shown_of d) (shown_of (after_it broke room d)) (Keeps d holds space old) (Keeps (after_it broke room d) holding spacing new) old new (Guest r) reply

    -- what a write of this kind makes of the clusters, and frees
    abbrev pub Makes : Change → Type 0
    Makes goal = (freed : ℕ) (h : History) → length h.start ≡ d.facts.size → change_by r r.work (machine_of d (space old) freed h) ≡ goal

    abbrev pub WhereHeld : (List ℕ → List (List ℕ) → Type 0) → Type 0
    WhereHeld P = (disk : List ℕ) (mixed : List (List ℕ)) → IsTrue old.tells → holds old disk mixed → P disk mixed

    pub well_answers : (goal : Change) → Makes goal → (IsTrue old.tells → (left : List ℕ) × (left ≡ bytes_of r r.work) × Ends (syncs r.work && true) left)
        → WhereHeld (λ disk mixed. is_short r (space old) ≡ false) → WhereHeld (λ disk mixed. spacing new ≡ goal.store) → AnswersSo false Done
    well_answers goal makes ends fits is = record {
      steps = λ told. steps (only_file d.facts.file) none_held (rise_of old new) no_trouble d d.broken room d.ended holds holding space spacing (λ n. n + goal.freed) (λ g. with_entry g (Wrote r.offset (ends told).0)) old new (Guest r) Done
          told run (λ g same. same) (is_rise old new) (λ name. refl) (λ h c law. target_goes_on (Wrote r.offset (ends told).0) law) before.has_space after.has_space bare
          (λ freed h disks k. well_served freed h disks k (ends told).0 (syncs r.work && true) ((ends told).2 (now h) disks k.holds_it) (fits (now h) disks told k.holds_it) goal (ends told).1 refl
          (makes freed h (start freed h disks k)) (is (now h) disks told k.holds_it));
      causes = quiet_causes refl (λ whole. refl) (λ refused. refused) refl;
      source = same_source false;
      run = works Done false refl;
    }

    pub torn_answers : (goal : Change) (most : ℕ) (broke : Bool) → Makes goal → (IsTrue old.tells → (left : List ℕ) × Ends (syncs r.work && false) left)
        → WhereHeld (λ disk mixed. is_short r (space old) ≡ false) → WhereHeld (λ disk mixed. Spends (space old) goal.store (spacing new) most) → WhereHeld (λ disk mixed. most ≤ (space old).room - goal.store.room)
        → FileFailed d.facts.file old new → (IsTrue broke → Rose (old.faults.writes d.facts.file) (new.faults.writes d.facts.file)) → AnswersSo broke (Fault Io)
    torn_answers goal most broke makes ends fits spends few failed tied = record {
      steps = λ told. steps (only_file d.facts.file) none_held (rise_of old new) (ended (Torn (ends told).0) broke) d (after_it broke room d).broken room d.ended holds holding space spacing (λ n. n) (λ g. with_entry g (Wrote r.offset (ends told).0)) old new (Guest r) (Fault Io)
          told run (λ g same. same) (is_rise old new) (λ name. refl) (λ h c law. target_goes_on (Wrote r.offset (ends told).0) law) before.has_space after.has_space bare
          (λ freed h disks k. torn_served freed h disks k (ends told).0 (syncs r.work && false) ((ends told).1 (now h) disks k.holds_it) (fits (now h) disks told k.holds_it) broke goal most refl
          (makes freed h (start freed h disks k)) (spends (now h) disks told k.holds_it) (few (now h) disks told k.holds_it) failed tied);
      causes = io_causes failed (failed_for (shown_of d) r undenied failed) (λ whole breaks. tied (broke_by broke whole breaks)) refl;
      source = same_source broke;
      run = works (Fault Io) broke refl;
    }
      where
        broke_by : (b : Bool) → d.broken ≡ None → IsSome (after_it b room d).broken → IsTrue b
        broke_by true whole breaks = refl
        broke_by false whole breaks = absurd (false≢true (subst IsSome whole breaks))

    pub lost_answers : (IsTrue old.tells → (left : List ℕ) × Ends (syncs r.work && false) left) → WhereHeld (λ disk mixed. new.seen d.facts.file ≡ old.seen d.facts.file) → WhereHeld (λ disk mixed. spacing new ≡ space old)
        → FileFailed d.facts.file old new → AnswersSo false (Fault Io)
    lost_answers ends seen same failed = record {
      steps = λ told. steps (only_file d.facts.file) none_held (rise_of old new) (ended Untouched false) d d.broken room d.ended holds holding space spacing (λ n. n) (λ g. g) old new (Guest r) (Fault Io)
          told run (λ g same. same) (is_rise old new) (λ name. refl) (λ h c law. law) before.has_space after.has_space bare
          (λ freed h disks k. lost_served freed h disks k (ends told).0 (syncs r.work && false) ((ends told).1 (now h) disks k.holds_it) (seen (now h) disks told k.holds_it) refl (same (now h) disks told k.holds_it) failed);
      causes = io_causes failed (failed_for (shown_of d) r undenied failed) (λ whole breaks. absurd (false≢true (subst IsSome whole breaks))) refl;
      source = same_source false;
      run = works (Fault Io) false refl;
    }

    pub short_answers : (IsTrue old.tells → (left : List ℕ) × Ends (syncs r.work && false) left) → WhereHeld (λ disk mixed. new.seen d.facts.file ≡ old.seen d.facts.file) → WhereHeld (λ disk mixed. spacing new ≡ space old)
        → WhereHeld (λ disk mixed. is_short r (space old) ≡ true) → AnswersSo false (Fault NoSpace)
    short_answers ends seen same lacks = record {
      steps = λ told. steps (only_file d.facts.file) none_held (rise_of old new) no_trouble d d.broken room d.ended holds holding space spacing (λ n. n) (λ g. g) old new (Guest r) (Fault NoSpace)
          told run (λ g same. same) (is_rise old new) (λ name. refl) (λ h c law. law) before.has_space after.has_space bare
          (λ freed h disks k. short_served freed h disks k (ends told).0 (syncs r.work && false) ((ends told).1 (now h) disks k.holds_it) (seen (now h) disks told k.holds_it) (lacks (now h) disks told k.holds_it) refl (same (now h) disks told k.holds_it));
      causes = quiet_causes refl (λ whole. refl) (λ refused. refused) refl;
      source = same_source false;
      run = works (Fault NoSpace) false refl;
    }
