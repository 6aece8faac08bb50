-- Each kind of event, as this core serves it.
use Rattle.std.proofs.Common.{◌≡◌, inl, inr, ℕ, ◌+◌, ◌<◌, ◌≤◌, List, [], ◌∷◌, ◌++◌, length, map, Bool, true, false, ◌&&◌, ◌||◌, IsTrue, Option, Some, None, refl, sym, ap, subst, ◌∙◌, arith, ltb-false}
use Rattle.std.specs.Prelude.{if◌then◌else◌, is_none, nat_lt}
use Rattle.std.proofs.lemmas.Bool.{cases_Bool, false≢true, or_parts}
use Rattle.disk_model.specs.Files.{reading}
use Rattle.disk_model.specs.World.{World, versions, IsSound, Runs, nothing, reads_of, writes_of, Writes, HasWritten, Syncs, HasSynced, Rose, EachSince, FileFailed}
use Rattle.disk_model.proofs.Laws.{stay, run_more, spared, since_more, sync_leads}
use Rattle.disk_model.proofs.Laws.{each_more, reading_written}
use Rattle.core_events.specs.Events.{Request, Event, Guest, Monitor, Tick}
use Rattle.core_events.specs.declared.events.Way.{Way}
use Rattle.core_events.specs.declared.events.Way.TheVariants.{Node, Export}
use Rattle.core_events.specs.declared.events.Work.{Work}
use Rattle.core_events.specs.declared.events.Work.TheVariants.{Read, Write, Zero, Flush, Status}
use Rattle.core_events.specs.declared.answers.Errno.{Errno}
use Rattle.core_events.specs.declared.answers.Errno.TheVariants.{Io}
use Rattle.core_events.specs.Answers.{Answer, Done, Content, Fault}
use Rattle.plain_model.specs.History.{History, Wrote, with_entry, now}
use Rattle.image_model.specs.Space.{Store}
use Rattle.plain_model.specs.Machine.{Machine, next_number}
use Rattle.plain_model.specs.Requests.{longest, HasBytes, is_write, denial, place_of, Drive, Nowhere, range_of, bytes_at}
use Rattle.disk_model.proofs.Laws.{length-reading}
use Rattle.disk_model.proofs.Laws.{reading_inside, reading-reading}
use Rattle.plain_model.specs.Actions.{Held, Absent}
use Rattle.plain_model.specs.Outcome.{Trouble, no_trouble, bytes_of, Untouched, Torn, Fate, Denied, Lost, Carried, CarriedInPart, fate, breaks_by, numbered}
use Rattle.plain_model.specs.Step.{IsTorn, IsChanged, IsChangedInPart, no_change, change_by, SpaceBy}
use Rattle.plain_model.specs.Lawful.{disks_after}
use Rattle.plain_model.proofs.Steps.{guest_outcome, tick_outcome}
use Rattle.plain_model.specs.Jobs.{Job}
use Rattle.plain_model.specs.Requests.{is_flush}
use Rattle.core_node.specs.Standing.{Shown, SameNumbers, SameBitmaps, shown_view}
use Rattle.plain_model.specs.Faults.{is_io_errno}
use Rattle.core_node.specs.Causes.{Causes, RequestFailed, WayFailed}
use Rattle.core_node.proofs.Causing.{quiet_causes}
use Rattle.core_node.proofs.Keeping.{still_leads}
use Rattle.core_node.proofs.Rests.{kept_in_event}
use Rattle.core_node.specs.Step.{HasHead, DeniesAs, kept_during, NodeSteps}
use Rattle.core_node.specs.Touches.{works_on, is_denied}
use Rattle.core_node.specs.Rest.{IsSafe}
use Rattle.core_node.specs.Files.{Reading}
use Rattle.core_layers.proofs.Exports.{target_goes_on}
use Rattle.toy_core.specs.declared.toy.Toy.{Toy}
use Rattle.toy_image.specs.Images.{store_of, IsVersionOf, disk_in}
use Rattle.toy_core.specs.Toy.{IsBuilt, on_drive, is_bad, denies, shown, machine_of, next, broke, IsHeld, Keeps, IsNamed}
use Rattle.toy_core.proofs.Space.{store_stays, freed_is}
use Rattle.toy_core.proofs.Served.{by_shape, denied_counts, reply_with, place_is, denial_is, fate_denied, fate_is, denied, wrote, tore, flushed, broken_by, unread, has_read, ticked}
use Rattle.toy_core.proofs.Holding.{directory, named_on, moved, disk_is, sized, mixes_more, version_more, write_holds, write_head, write_crashes, torn_after, still_holds, still_crashes, synced_holds, synced_crashes}
use Rattle.core_node.proofs.Rises.{rise_of, is_rise, rose_up, rose_at, quiet, faulty}
use Rattle.toy_core.proofs.Going.{Leaves, Served, steps}

abbrev none_held : List ℕ → Held
none_held name = Absent

-- ---- another disk that is the same

hold_more : (t : Toy) (w : World) (h : History) (disks : List (List ℕ)) → IsHeld t w h disks → IsHeld t w h (disks ++ now h ∷ [])
hold_more t w h disks k = record {
  told = k.told;
  named = k.named;
  suits = k.suits;
  sound = k.sound;
  mixes = mixes_more (now h) (record { long = k.image.size_is ∙ sym (sized t h t.source.image.size k.image.size_is k.sound); whole = (k.suits.sectors, k.image.size_is ∙ k.suits.size_is) }) k.mixes;
  epochs = k.epochs;
  image = k.image;
  clear = k.clear;
  each = each_more (IsVersionOf t.source.image disks (w.seen t.source.file.0)) (IsVersionOf t.source.image (disks ++ now h ∷ []) (w.seen t.source.file.0)) (versions w t.source.file.0) (λ u has. version_more (now h) has) k.each;
}

hold_during : (t : Toy) (w : World) (h : History) (disks : List (List ℕ)) (event : Event) → IsHeld t w h disks → IsHeld t w h (kept_during disks event (now h))
hold_during t w h disks (Guest r) k = elim (cases_Bool (is_write r.work)) [ inl e ↦ rw e (hold_more t w h disks k) | inr e ↦ rw e k ]
hold_during t w h disks (Monitor c) k = k
hold_during t w h disks Tick k = k

safe_during : (t : Toy) (h : History) (disks : List (List ℕ)) (event : Event) (c : List ℕ) → length (now h) ≡ length h.start → IsSafe (directory t ∷ []) t.source.image.id h disks c → IsSafe (directory t ∷ []) t.source.image.id h (kept_during disks event (now h)) c
safe_during t h disks event c long s = record { disk = s.disk; like = s.like; kept = kept_in_event disks event (now h) s.disk (s.like.long ∙ sym long) s.kept; ready = s.ready; trusted = s.trusted }

-- an answer that isn't Done, or to a request that doesn't sync, leaves the disks of the event
not_synced : (disks : List (List ℕ)) (work : Work) (disk : List ℕ) → disks_after disks work false disk ≡ (if is_write work then disks ++ disk ∷ [] else disks)
not_synced disks Read disk = refl
not_synced disks (Write false) disk = refl
not_synced disks (Write true) disk = refl
not_synced disks (Zero false no_hole) disk = refl
not_synced disks (Zero true no_hole) disk = refl
not_synced disks Flush disk = refl
not_synced disks (Status context one) disk = refl

-- ---- what leaves the file as it is

still : (t : Toy) (n : ℕ) (broken : Option ℕ) (old new : World) (h : History) (disks after : List (List ℕ)) (event : Event) → IsHeld t old h disks → (new.tells ≡ old.tells) → IsNamed t.source.file.0 new → new.seen t.source.file.0 ≡ old.seen t.source.file.0 → versions new t.source.file.0 ≡ versions old t.source.file.0
    → ((k : ℕ) → old.now ≤ k → k < new.now → new.past k t.source.file.0 ≡ versions old t.source.file.0) → after ≡ kept_during disks event (now h) → Leaves t n broken h h (kept_during disks event (now h)) after old new
still t n broken old new h disks after event k tells named seen same before is = record {
  holds = λ s. subst (IsHeld (moved t n broken) new h) (sym is) (hold_during (moved t n broken) new h disks event (still_holds t old new h disks n broken k s tells named seen same));
  crashes = since_more new old.now t.source.file.0 (IsSafe (directory t ∷ []) t.source.image.id h disks) (IsSafe (directory t ∷ []) t.source.image.id h (kept_during disks event (now h)))
      (λ c s. safe_during t h disks event c (k.image.size_is ∙ sym (sized t h t.source.image.size k.image.size_is k.sound)) s)
      (still_crashes t old new h disks k (λ i low high. inl (before i low high)) same);
  head = λ start short. still_leads (HasHead start) (HasHead start) tells seen same (λ i low high. inl (before i low high));
}

unchanged : (t : Toy) (n : ℕ) (broken : Option ℕ) (h next : History) → IsChanged (machine_of t h) (no_change (machine_of t h)) (machine_of (moved t n broken) next)
unchanged t n broken h next = record {
  moved = 0;
  store_is = let same : t.source.image.room ≡ t.source.image.room + 0 = omega arith in ap (λ (room : ℕ). record (store_of t.source.image) { room = room }) same;
  freed_is = refl;
}

-- a write changes nothing of the space
changed_not : (t : Toy) (r : Request) (fua : Bool) (n : ℕ) (broken : Option ℕ) (h next : History) → r.work ≡ Write fua → IsChanged (machine_of t h) (change_by r r.work (machine_of t h)) (machine_of (moved t n broken) next)
changed_not t r fua n broken h next work = subst (λ (w : Work). IsChanged (machine_of t h) (change_by r w (machine_of t h)) (machine_of (moved t n broken) next)) (sym work) (record {
  moved = 0;
  store_is = (let same : t.source.image.room ≡ t.source.image.room + 0 = omega arith in ap (λ (room : ℕ). record (store_of t.source.image) { room = room }) same) ∙ ap (λ (s : Store). record s { room = s.room + 0 }) (sym (store_stays t.source.image (range_of r)));
  freed_is = let freed = freed_is t.source.image (range_of r) in omega (arith, freed);
})

part_not : (t : Toy) (r : Request) (n : ℕ) (broken : Option ℕ) (h next : History) → IsChangedInPart (machine_of t h) (change_by r r.work (machine_of t h)) (machine_of (moved t n broken) next)
part_not t r n broken h next = record {
  taken = 0;
  given = 0;
  moved = 0;
  either = record { kind_of = λ k. inl refl; table_is = λ k. inl refl };
  taken_most = omega arith;
  given_most = omega arith;
  room_is = refl;
  freed_is = refl;
  cluster = refl;
  kind_count = refl;
  table_count = refl;
}

never : (b : Bool) → (b && false) ≡ false
never false = refl
never true = refl

-- a request that isn't denied leads to the drive
granted_drive : (t : Toy) (r : Request) → denies t r ≡ None → on_drive r.way ≡ true
granted_drive t r none = by_cases (on_drive r.way) (is_bad t r r.work) t.broken none
  where
    by_cases : (drive bad : Bool) (broken : Option ℕ) → by_shape drive bad broken ≡ None → drive ≡ true
    by_cases true bad broken is = refl
    by_cases false bad broken is = absurd (cc)

granted_range_of : (t : Toy) (r : Request) → denies t r ≡ None → is_bad t r r.work ≡ false
granted_range_of t r none = by_cases (on_drive r.way) (is_bad t r r.work) t.broken none
  where
    by_cases : (drive bad : Bool) (broken : Option ℕ) → by_shape drive bad broken ≡ None → bad ≡ false
    by_cases true true broken is = absurd (cc)
    by_cases true false broken is = refl
    by_cases false bad broken is = absurd (cc)

-- the range of a read or write that is granted
pub record IsInside (t : Toy) (r : Request) : Type 0 where
  pub range : r.offset + r.length ≤ t.source.image.size
  pub short : r.length ≤ longest

inside_by : (t : Toy) (r : Request) → (nat_lt t.source.image.size (r.offset + r.length) || nat_lt longest r.length) ≡ false → IsInside t r
inside_by t r is = let parts = or_parts (nat_lt t.source.image.size (r.offset + r.length)) (nat_lt longest r.length) is in record { range = ltb-false t.source.image.size (r.offset + r.length) parts.0; short = ltb-false longest r.length parts.1 }

pub inside_write : (t : Toy) (r : Request) (fua : Bool) → r.work ≡ Write fua → denies t r ≡ None → IsInside t r
inside_write t r fua work none = inside_by t r (sym (ap (λ (w : Work). is_bad t r w) work) ∙ granted_range_of t r none)

pub inside_read : (t : Toy) (r : Request) → r.work ≡ Read → denies t r ≡ None → IsInside t r
inside_read t r work none = inside_by t r (sym (ap (λ (w : Work). is_bad t r w) work) ∙ granted_range_of t r none)

pub long_bytes : (t : Toy) (r : Request) (fua : Bool) → r.work ≡ Write fua → HasBytes r r.work → IsInside t r → length r.bytes ≡ r.length
long_bytes t r fua work has inside = (subst (HasBytes r) work has) inside.short

module _ (t : Toy) (r : Request) (built : IsBuilt r.work) (has : HasBytes r r.work) where
  den : {w : World} {h : History} {disks : List (List ℕ)} → IsHeld t w h disks → denial r (machine_of (next t) h) ≡ denies t r
  den {w} {h} k = denial_is t r (machine_of (next t) h) built refl refl refl (sym (sized t h t.source.image.size k.image.size_is k.sound)) refl

  -- ---- a request that is denied

  module _ (errno : Errno) (is : denies t r ≡ Some errno) (w : World) (told : IsTrue w.tells) where
    denied_served : (h : History) (disks : List (List ℕ)) → IsHeld t w h disks → Served none_held (rise_of w w) no_trouble t (next t).event t.broken (λ g. g) w w (Guest r) (Fault errno) h disks
    denied_served h disks k =
        let fate_is_denied : fate no_trouble r (machine_of (next t) h) ≡ Denied errno = fate_denied no_trouble r (machine_of (next t) h) errno (den k ∙ is) in
        record {
          outcome_is = denied none_held t h r no_trouble errno (den k ∙ is);
          torn = tt;
          sound_outcome = guest_outcome none_held no_trouble r (machine_of t h) has tt k.sound;
          space = subst (λ (f : Fate). SpaceBy f r (machine_of t h) (machine_of (next t) h)) (sym fate_is_denied) (unchanged t (next t).event t.broken h h);
          faults = quiet (w.named t.source.file.0) (rise_of w w) (machine_of t h) (Guest r) (Fault errno) (denied_counts (on_drive r.way) (is_bad t r r.work) t.broken errno is)
              (ap (λ (f : Fate). breaks_by f no_trouble r.work) fate_is_denied);
          leaves = still t (next t).event t.broken w w h disks (disks_after disks r.work false (now h)) (Guest r) k refl k.named refl refl (λ i low high. absurd (omega (arith, low, high))) (not_synced disks r.work (now h));
        }

    pub denied_steps : {reading : Reading} → NodeSteps reading (shown t) (Keeps t w) (Keeps (next t) w) w w (Guest r) (record { reply = Fault errno; notices = [] })
    denied_steps = steps nothing none_held (rise_of w w) no_trouble t (next t).event t.broken (λ g. g) w w (Guest r) (Fault errno) told (stay nothing w) (λ g none. absurd none) (is_rise w w) (λ name. refl) (λ h c is. is) denied_served

  -- ---- one that isn't

  module _ (granted : denies t r ≡ None) where
    none : {w : World} {h : History} {disks : List (List ℕ)} → IsHeld t w h disks → denial r (machine_of (next t) h) ≡ None
    none k = den k ∙ granted

    place : (h : History) → place_of r.way (machine_of t h) ≡ Drive
    place h = place_is r.way (machine_of t h) refl refl refl ∙ ap (λ (b : Bool). if b then Drive else Nowhere) (granted_drive t r granted)

    -- ---- a write

    module _ (work : r.work ≡ Write false) (old new : World) (told : IsTrue old.tells) (sound_old : IsSound old) (sound_new : IsSound new) (call : Writes t.source.file.0 (t.source.image.base + r.offset) r.bytes old new) (long : length r.bytes ≡ r.length) (range : r.offset + r.length ≤ t.source.image.size) where
      fits : r.offset + length r.bytes ≤ t.source.image.size
      fits = omega (arith, long, range)

      abbrev left : List ℕ
      left = reading (new.seen t.source.file.0) (t.source.image.base + r.offset) (length r.bytes)

      abbrev grow : History → History
      grow h = with_entry h (Wrote r.offset left)

      during_is : (disks : List (List ℕ)) (disk : List ℕ) → kept_during disks (Guest r) disk ≡ disks ++ disk ∷ []
      during_is disks disk = ap (λ (w : Work). if is_write w then disks ++ disk ∷ [] else disks) work

      after_is : (ok : Bool) (disks : List (List ℕ)) (disk : List ℕ) → disks_after disks r.work ok disk ≡ disks ++ disk ∷ []
      after_is ok disks disk = ap (λ (w : Work). disks_after disks w ok disk) work

      write_leaves : (ok : Bool) (h : History) (disks : List (List ℕ)) → IsHeld t old h disks → Leaves t (next t).event t.broken h (grow h) (kept_during disks (Guest r) (now (grow h))) (disks_after disks r.work ok (now (grow h))) old new
      write_leaves ok h disks k = record {
        holds = λ s. subst (IsHeld (next t) new (grow h)) (sym (after_is ok disks (now (grow h)))) (write_holds t old new h disks r.offset r.bytes k sound_new call fits (next t).event t.broken s);
        crashes = subst (λ (ds : List (List ℕ)). EachSince new old.now t.source.file.0 (IsSafe (directory t ∷ []) t.source.image.id h ds)) (sym (during_is disks (now (grow h)))) (write_crashes t old new h disks r.offset r.bytes k sound_new call fits);
        head = λ start short. write_head t old new h disks r.offset r.bytes k sound_new call fits start sound_old short;
      }

      only : (g : ℕ) → (writes_of t.source.file.0).files g → g ≡ t.source.file.0
      only g is = is

      write_run : Runs (writes_of t.source.file.0) old new
      write_run = call.run

      module _ (done : HasWritten t.source.file.0 (t.source.image.base + r.offset) r.bytes old new) where
        whole : left ≡ r.bytes
        whole = reading_written (length r.bytes) done told refl

        wrote_served : (h : History) (disks : List (List ℕ)) → IsHeld t old h disks → Served none_held (rise_of old new) no_trouble t (next t).event t.broken grow old new (Guest r) Done h disks
        wrote_served h disks k =
            let carried : fate no_trouble r (machine_of (next t) h) ≡ Carried = fate_is no_trouble (next t) h r (Write false) work (none k) in
            record {
              outcome_is = wrote none_held t h r (none k) false work ∙ ap (λ (bytes : List ℕ). reply_with (next t) (with_entry h (Wrote r.offset bytes)) Done) (sym whole);
              torn = tt;
              sound_outcome = guest_outcome none_held no_trouble r (machine_of t h) has tt k.sound;
              space = subst (λ (f : Fate). SpaceBy f r (machine_of t h) (machine_of (next t) (grow h))) (sym carried) (changed_not t r false (next t).event t.broken h (grow h) work);
              faults = quiet (old.named t.source.file.0) (rise_of old new) (machine_of t h) (Guest r) Done (never (is_none t.broken)) (ap (λ (f : Fate). breaks_by f no_trouble r.work) carried);
              leaves = write_leaves true h disks k;
            }

        pub wrote_steps : {reading : Reading} → NodeSteps reading (shown t) (Keeps t old) (Keeps (next t) new) old new (Guest r) (record { reply = Done; notices = [] })
        wrote_steps = steps (writes_of t.source.file.0) none_held (rise_of old new) no_trouble t (next t).event t.broken grow old new (Guest r) Done told write_run only (is_rise old new) (λ name. refl) (λ h c is. target_goes_on (Wrote r.offset left) is) wrote_served

      module _ (shared : Rose old.faults.shared new.faults.shared) (failed : Rose (old.faults.writes t.source.file.0) (new.faults.writes t.source.file.0)) where
        torn_trouble : Trouble
        torn_trouble = record no_trouble { request = Torn left }

        tore_served : (h : History) (disks : List (List ℕ)) → IsHeld t old h disks → Served none_held (rise_of old new) (record no_trouble { request = Torn left }) t (next t).event t.broken grow old new (Guest r) (Fault Io) h disks
        tore_served h disks k =
            let carried : fate (record no_trouble { request = Torn left }) r (machine_of (next t) h) ≡ CarriedInPart left = fate_is (record no_trouble { request = Torn left }) (next t) h r (Write false) work (none k) in
            let some : 0 < (rise_of old new).writes (old.named t.source.file.0) = rose_at old.faults.writes new.faults.writes (old.found (old.named t.source.file.0)) t.source.file.0 k.named.found failed in
            let torn : IsTorn (now h) r.offset (bytes_of r r.work) left = subst (λ (w : Work). IsTorn (now h) r.offset (bytes_of r w) left) (sym work) (torn_after t old new h disks r.offset r.bytes k sound_new call fits) in
            record {
              outcome_is = tore none_held t h r (none k) false left work;
              torn = torn;
              sound_outcome = guest_outcome none_held (record no_trouble { request = Torn left }) r (machine_of t h) has torn k.sound;
              space = subst (λ (f : Fate). SpaceBy f r (machine_of t h) (machine_of (next t) (grow h))) (sym carried) (part_not t r (next t).event t.broken h (grow h));
              faults = faulty (old.named t.source.file.0) (rise_of old new) (Torn left) (machine_of t h) r (place h) (rose_up old.faults.shared new.faults.shared shared) (omega (arith, some))
                  (λ breaks. absurd (false≢true (sym (ap (λ (f : Fate). breaks_by f (record no_trouble { request = Torn left }) r.work) carried) ∙ breaks)));
              leaves = write_leaves false h disks k;
            }

        pub tore_steps : {reading : Reading} → NodeSteps reading (shown t) (Keeps t old) (Keeps (next t) new) old new (Guest r) (record { reply = Fault Io; notices = [] })
        tore_steps = steps (writes_of t.source.file.0) none_held (rise_of old new) (record no_trouble { request = Torn left }) t (next t).event t.broken grow old new (Guest r) (Fault Io) told write_run only (is_rise old new) (λ name. refl) (λ h c is. target_goes_on (Wrote r.offset left) is) tore_served

    -- ---- a flush

    module _ (work : r.work ≡ Flush) (old new : World) (told : IsTrue old.tells) (sound_old : IsSound old) (call : Syncs t.source.file.0 old new) where
      same_during : (disks : List (List ℕ)) (disk : List ℕ) → kept_during disks (Guest r) disk ≡ disks
      same_during disks disk = ap (λ (w : Work). if is_write w then disks ++ disk ∷ [] else disks) work

      module _ (done : HasSynced t.source.file.0 old new) where
        flushed_served : (h : History) (disks : List (List ℕ)) → IsHeld t old h disks → Served none_held (rise_of old new) no_trouble t (next t).event t.broken (λ g. g) old new (Guest r) Done h disks
        flushed_served h disks k =
            let carried : fate no_trouble r (machine_of (next t) h) ≡ Carried = fate_is no_trouble (next t) h r Flush work (none k) in
            record {
              outcome_is = flushed none_held t h r (none k) work;
              torn = tt;
              sound_outcome = guest_outcome none_held no_trouble r (machine_of t h) has tt k.sound;
              space = subst (λ (f : Fate). SpaceBy f r (machine_of t h) (machine_of (next t) h)) (sym carried)
                  (subst (λ (w : Work). IsChanged (machine_of t h) (change_by r w (machine_of t h)) (machine_of (next t) h)) (sym work) (unchanged t (next t).event t.broken h h));
              faults = quiet (old.named t.source.file.0) (rise_of old new) (machine_of t h) (Guest r) Done (never (is_none t.broken)) (ap (λ (f : Fate). breaks_by f no_trouble r.work) carried);
              leaves = record {
                holds = λ s. subst (IsHeld (next t) new h) (sym (ap (λ (w : Work). disks_after disks w true (now h)) work)) (synced_holds t old new h disks k sound_old call done (next t).event t.broken s);
                crashes = subst (λ (ds : List (List ℕ)). EachSince new old.now t.source.file.0 (IsSafe (directory t ∷ []) t.source.image.id h ds)) (sym (same_during disks (now h))) (synced_crashes t old new h disks k sound_old call done);
                head = λ start short. sync_leads (HasHead start) (HasHead start) (HasHead start) sound_old call (λ c is. is);
              };
            }

        pub flushed_steps : {reading : Reading} → NodeSteps reading (shown t) (Keeps t old) (Keeps (next t) new) old new (Guest r) (record { reply = Done; notices = [] })
        flushed_steps = steps (writes_of t.source.file.0) none_held (rise_of old new) no_trouble t (next t).event t.broken (λ g. g) old new (Guest r) Done told call.run (λ g is. is) (is_rise old new) (λ name. refl) (λ h c is. is) flushed_served

      module _ (same : versions new t.source.file.0 ≡ versions old t.source.file.0) (shared : Rose old.faults.shared new.faults.shared) (failed : Rose (old.faults.writes t.source.file.0) (new.faults.writes t.source.file.0)) where
        broke_served : (h : History) (disks : List (List ℕ)) → IsHeld t old h disks → Served none_held (rise_of old new) (record no_trouble { request = Untouched }) t (broke t).event (broke t).broken (λ g. g) old new (Guest r) (Fault Io) h disks
        broke_served h disks k =
            let lost : fate (record no_trouble { request = Untouched }) r (machine_of (next t) h) ≡ Lost = fate_is (record no_trouble { request = Untouched }) (next t) h r Flush work (none k) in
            let some : 0 < (rise_of old new).writes (old.named t.source.file.0) = rose_at old.faults.writes new.faults.writes (old.found (old.named t.source.file.0)) t.source.file.0 k.named.found failed in
            record {
              outcome_is = broken_by none_held t h r (none k) work;
              torn = tt;
              sound_outcome = guest_outcome none_held (record no_trouble { request = Untouched }) r (machine_of t h) has tt k.sound;
              space = subst (λ (f : Fate). SpaceBy f r (machine_of t h) (machine_of (broke t) h)) (sym lost) (unchanged t (broke t).event (broke t).broken h h);
              faults = faulty (old.named t.source.file.0) (rise_of old new) Untouched (machine_of t h) r (place h) (rose_up old.faults.shared new.faults.shared shared) (omega (arith, some)) (λ breaks. some);
              leaves = still t (broke t).event (broke t).broken old new h disks (disks_after disks r.work false (now h)) (Guest r) k call.run.goes.tells (named_on t.source.file.0 call.run (λ none. none) k.named) call.seen same call.steps (not_synced disks r.work (now h));
            }

        pub broke_steps : {reading : Reading} → NodeSteps reading (shown t) (Keeps t old) (Keeps (broke t) new) old new (Guest r) (record { reply = Fault Io; notices = [] })
        broke_steps = steps (writes_of t.source.file.0) none_held (rise_of old new) (record no_trouble { request = Untouched }) t (broke t).event (broke t).broken (λ g. g) old new (Guest r) (Fault Io) told call.run (λ g is. is) (is_rise old new) (λ name. refl) (λ h c is. is) broke_served

    -- ---- a read

    module _ (work : r.work ≡ Read) (old new : World) (told : IsTrue old.tells) (run : Runs (reads_of t.source.file.0) old new) where
      spare : versions new t.source.file.0 ≡ versions old t.source.file.0
      spare = spared t.source.file.0 run (λ none. none)

      past : (i : ℕ) → old.now ≤ i → i < new.now → new.past i t.source.file.0 ≡ versions old t.source.file.0
      past i low high = (run.files t.source.file.0 (λ none. none)).moments i low (omega (arith, high))

      read_leaves : (ok : Bool) (h : History) (disks : List (List ℕ)) → IsHeld t old h disks → Leaves t (next t).event t.broken h h (kept_during disks (Guest r) (now h)) (disks_after disks r.work ok (now h)) old new
      read_leaves ok h disks k = still t (next t).event t.broken old new h disks (disks_after disks r.work ok (now h)) (Guest r) k run.goes.tells (named_on t.source.file.0 run (λ none. none) k.named) (run.files t.source.file.0 (λ none. none)).seen spare past
          (ap (λ (w : Work). disks_after disks w ok (now h)) work ∙ sym (ap (λ (w : Work). if is_write w then disks ++ now h ∷ [] else disks) work))

      module _ (bytes : List ℕ) (is : bytes ≡ reading (old.seen t.source.file.0) (t.source.image.base + r.offset) r.length) (range : r.offset + r.length ≤ t.source.image.size) where
        read_is : {h : History} {disks : List (List ℕ)} → IsHeld t old h disks → bytes_at (now h) r ≡ bytes
        read_is {h} {disks} k =
            let was = disk_is t.source.image (now h) (old.seen t.source.file.0) k.suits k.image in
            let long = length-reading (old.seen t.source.file.0) t.source.image.base t.source.image.size in
            ap (λ (disk : List ℕ). bytes_at disk r) (sym was) ∙ sym (reading_inside (disk_in t.source.image (old.seen t.source.file.0)) r.offset r.length (omega (arith, long, range)))
            ∙ reading-reading (old.seen t.source.file.0) t.source.image.base t.source.image.size r.offset r.length range ∙ sym is

        read_served : (h : History) (disks : List (List ℕ)) → IsHeld t old h disks → Served none_held (rise_of old new) no_trouble t (next t).event t.broken (λ g. g) old new (Guest r) (Content bytes) h disks
        read_served h disks k =
            let carried : fate no_trouble r (machine_of (next t) h) ≡ Carried = fate_is no_trouble (next t) h r Read work (none k) in
            record {
              outcome_is = has_read none_held t h r (none k) (granted_drive t r granted) work ∙ ap (λ (bs : List ℕ). reply_with (next t) h (Content bs)) (read_is k);
              torn = tt;
              sound_outcome = guest_outcome none_held no_trouble r (machine_of t h) has tt k.sound;
              space = subst (λ (f : Fate). SpaceBy f r (machine_of t h) (machine_of (next t) h)) (sym carried)
                  (subst (λ (w : Work). IsChanged (machine_of t h) (change_by r w (machine_of t h)) (machine_of (next t) h)) (sym work) (unchanged t (next t).event t.broken h h));
              faults = quiet (old.named t.source.file.0) (rise_of old new) (machine_of t h) (Guest r) (Content bytes) (never (is_none t.broken)) (ap (λ (f : Fate). breaks_by f no_trouble r.work) carried);
              leaves = read_leaves false h disks k;
            }

        pub read_steps : {reading : Reading} → NodeSteps reading (shown t) (Keeps t old) (Keeps (next t) new) old new (Guest r) (record { reply = Content bytes; notices = [] })
        read_steps = steps (reads_of t.source.file.0) none_held (rise_of old new) no_trouble t (next t).event t.broken (λ g. g) old new (Guest r) (Content bytes) told run (λ g none. absurd none) (is_rise old new) (λ name. refl) (λ h c is. is) read_served

      module _ (shared : Rose old.faults.shared new.faults.shared) (failed : Rose (old.faults.reads t.source.file.0) (new.faults.reads t.source.file.0)) where
        unread_served : (h : History) (disks : List (List ℕ)) → IsHeld t old h disks → Served none_held (rise_of old new) (record no_trouble { request = Untouched }) t (next t).event t.broken (λ g. g) old new (Guest r) (Fault Io) h disks
        unread_served h disks k =
            let lost : fate (record no_trouble { request = Untouched }) r (machine_of (next t) h) ≡ Lost = fate_is (record no_trouble { request = Untouched }) (next t) h r Read work (none k) in
            let some : 0 < (rise_of old new).reads (old.named t.source.file.0) = rose_at old.faults.reads new.faults.reads (old.found (old.named t.source.file.0)) t.source.file.0 k.named.found failed in
            record {
              outcome_is = unread none_held t h r (none k) work;
              torn = tt;
              sound_outcome = guest_outcome none_held (record no_trouble { request = Untouched }) r (machine_of t h) has tt k.sound;
              space = subst (λ (f : Fate). SpaceBy f r (machine_of t h) (machine_of (next t) h)) (sym lost) (unchanged t (next t).event t.broken h h);
              faults = faulty (old.named t.source.file.0) (rise_of old new) Untouched (machine_of t h) r (place h) (rose_up old.faults.shared new.faults.shared shared) (omega (arith, some))
                  (λ breaks. absurd (false≢true (sym (ap (λ (f : Fate). breaks_by f (record no_trouble { request = Untouched }) r.work) lost ∙ ap (λ (w : Work). breaks_by Lost (record no_trouble { request = Untouched }) w) work) ∙ breaks)));
              leaves = read_leaves false h disks k;
            }

        pub unread_steps : {reading : Reading} → NodeSteps reading (shown t) (Keeps t old) (Keeps (next t) new) old new (Guest r) (record { reply = Fault Io; notices = [] })
        unread_steps = steps (reads_of t.source.file.0) none_held (rise_of old new) (record no_trouble { request = Untouched }) t (next t).event t.broken (λ g. g) old new (Guest r) (Fault Io) told run (λ g none. absurd none) (is_rise old new) (λ name. refl) (λ h c is. is) unread_served

-- ---- a tick

module _ (t : Toy) (w : World) (told : IsTrue w.tells) where
  tick_served : (h : History) (disks : List (List ℕ)) → IsHeld t w h disks → Served none_held (rise_of w w) no_trouble t (next t).event t.broken (λ g. g) w w Tick Done h disks
  tick_served h disks k = record {
    outcome_is = ticked none_held t h;
    torn = tt;
    sound_outcome = tick_outcome none_held no_trouble (machine_of t h) k.sound;
    space = unchanged t (next t).event t.broken h h;
    faults = quiet (w.named t.source.file.0) (rise_of w w) (machine_of t h) Tick Done (never (is_none t.broken)) refl;
    leaves = still t (next t).event t.broken w w h disks disks Tick k refl k.named refl refl (λ i low high. absurd (omega (arith, low, high))) refl;
  }

  pub tick_steps : {reading : Reading} → NodeSteps reading (shown t) (Keeps t w) (Keeps (next t) w) w w Tick (record { reply = Done; notices = [] })
  tick_steps = steps nothing none_held (rise_of w w) no_trouble t (next t).event t.broken (λ g. g) w w Tick Done told (stay nothing w) (λ g none. absurd none) (is_rise w w) (λ name. refl) (λ h c is. is) tick_served

-- ---- as the code leaves it

pub as_moved : {t : Toy} {old new : World} {event : Event} {answer : Answer} {reading : Reading} (n e : ℕ) (broken : Option ℕ) → n ≡ e
    → NodeSteps reading (shown t) (Keeps t old) (Keeps (moved t e broken) new) old new event answer → NodeSteps reading (shown t) (Keeps t old) (Keeps (moved t n broken) new) old new event answer
as_moved {t} {old} {new} {event} {answer} {reading} n e broken is steps =
    subst (λ (m : ℕ). NodeSteps reading (shown t) (Keeps t old) (Keeps (moved t m broken) new) old new event answer) (sym is) steps

pub as_broke : {t : Toy} {old new : World} {event : Event} {answer : Answer} {reading : Reading} (n e : ℕ) → n ≡ e
    → NodeSteps reading (shown t) (Keeps t old) (Keeps (moved t e (Some e)) new) old new event answer → NodeSteps reading (shown t) (Keeps t old) (Keeps (moved t n (Some n)) new) old new event answer
as_broke {t} {old} {new} {event} {answer} {reading} n e is steps =
    subst (λ (m : ℕ). NodeSteps reading (shown t) (Keeps t old) (Keeps (moved t m (Some m)) new) old new event answer) (sym is) steps

-- ---- denials, whatever files hold

no_views : (views : List Job) → [] ≡ map shown_view views → views ≡ []
no_views [] is = refl
no_views (v ∷ views) is = absurd (cc)

errno_in : Errno → Option Errno → Errno
errno_in other None = other
errno_in other (Some errno) = errno

one_errno : (a b : Errno) → Some a ≡ Some b → a ≡ b
unfolding errno_in
one_errno a b is = ap (errno_in a) is

den_for : (t : Toy) (r : Request) (m : Machine) → IsBuilt r.work → SameNumbers (shown t) m → SameBitmaps (shown t) m → [] ≡ map shown_view m.views → [] ≡ m.gone → denial r (numbered m) ≡ denies t r
den_for t r m built numbers bitmaps views gone = denial_is t r (numbered m) built (sym bitmaps.exports_are) (no_views m.views views) (sym gone) numbers.size_is numbers.broken_is

pub denied_as : (t : Toy) (r : Request) (errno : Errno) → IsBuilt r.work → denies t r ≡ Some errno → DeniesAs (shown t) (Guest r) (record { reply = Fault errno; notices = [] })
denied_as t r errno built is = λ m other numbers bitmaps views gone den.
    ap (λ (e : Errno). record { reply = Fault e; notices = [] }) (one_errno errno other (sym is ∙ sym (den_for t r m built numbers bitmaps views gone) ∙ den))

pub granted_as : (t : Toy) (r : Request) (answer : Answer) → IsBuilt r.work → denies t r ≡ None → DeniesAs (shown t) (Guest r) answer
granted_as t r answer built none = λ m other numbers bitmaps views gone den. absurd (apart other (sym none ∙ sym (den_for t r m built numbers bitmaps views gone) ∙ den))
  where
    apart : (e : Errno) → None ≡ Some e → ⊥
    apart e is = absurd (cc)

-- ---- what may be written

granted_whole : (t : Toy) (r : Request) → denies t r ≡ None → is_none t.broken ≡ true
granted_whole t r none = by_cases (on_drive r.way) (is_bad t r r.work) t.broken none
  where
    by_cases : (drive bad : Bool) (broken : Option ℕ) → by_shape drive bad broken ≡ None → is_none broken ≡ true
    by_cases true true broken is = absurd (cc)
    by_cases true false None is = refl
    by_cases true false (Some n) is = absurd (cc)
    by_cases false bad broken is = absurd (cc)

pub may_work : (t : Toy) (r : Request) (after : Shown) (answer : Answer) {old new : World} → denies t r ≡ None → is_denied answer.reply ≡ false → (is_write r.work || is_flush r.work) ≡ true
    → Runs (writes_of t.source.file.0) old new → Runs (works_on (shown t) after new (Guest r) answer) old new
may_work t r after answer none carried writes run = run_more (record {
  files = λ g is. ((rw (granted_whole t r none, carried) refl), inl (writes, is));
  reads = λ g none. absurd none;
  names = λ name none. none;
  text = λ none. none;
  wire = λ none. none;
}) run

pub may_read : (t : Toy) (r : Request) (after : Shown) (answer : Answer) {old new : World} → Runs (reads_of t.source.file.0) old new → Runs (works_on (shown t) after new (Guest r) answer) old new
may_read t r after answer run = run_more (record { files = λ g none. absurd none; reads = λ g is. inl is; names = λ name none. none; text = λ none. none; wire = λ none. none }) run

pub flush_left : (w : Work) → IsBuilt w → (w ≡ Read → ⊥) → ((fua : Bool) → w ≡ Write fua → ⊥) → w ≡ Flush
flush_left Read built a b = absurd (a refl)
flush_left (Write fua) built a b = absurd (b fua refl)
flush_left (Zero fua no_hole) built a b = absurd built
flush_left Flush built a b = refl
flush_left (Status context one) built a b = absurd built

-- ---- why an event met a fault

pub denied_causes : (t : Toy) (r : Request) (errno : Errno) (n : ℕ) (old new : World) → denies t r ≡ Some errno → n ≡ next_number t.event
    → Causes (shown t) (shown (moved t n t.broken)) old new (Guest r) (record { reply = Fault errno; notices = [] })
denied_causes t r errno n old new is number = quiet_causes refl (λ whole.
    ap (λ (o : Option ℕ). is_none o && is_io_errno errno) (sym whole) ∙ denied_counts (on_drive r.way) (is_bad t r r.work) t.broken errno is)
    (λ refused. refused) number

-- a request that isn't denied leads to the source's file
pub failed_for : (t : Toy) (r : Request) {old new : World} → denies t r ≡ None → FileFailed t.source.file.0 old new → RequestFailed (shown t) old new (Guest r)
failed_for t r {old} {new} none failed = by_way r.way (granted_drive t r none)
  where
    by_way : (way : Way) → on_drive way ≡ true → WayFailed (shown t) old new way
    by_way (Node name) drive = inl failed
    by_way (Export name) drive = absurd (false≢true drive)
