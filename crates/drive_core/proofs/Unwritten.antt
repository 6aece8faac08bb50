-- A request that writes nothing, as it ends: a read, a status or a flush goes well, or a call on the file fails.
use Rattle.std.proofs.Common.{◌≡◌, inl, ⊎_elim, ℕ, ◌+◌, ◌<◌, List, [], ◌∷◌, ◌++◌, length, map, take, Bool, true, false, not, ◌&&◌, ◌||◌, IsTrue, None, refl, sym, ap, subst, ◌∙◌, arith, ltb-false}
use Rattle.std.specs.Prelude.{Contains, is_none, IsSome, nat_lt, ◌==◌, bytes_eq, if◌then◌else◌}
use Rattle.std.proofs.lemmas.List.{take-take}
use Rattle.std.proofs.lemmas.Grind.{common_steps}
use Rattle.std.proofs.lemmas.Bool.{false≢true, or_parts}
use Rattle.disk_model.specs.Files.{reading}
use Rattle.disk_model.specs.World.{World, Parts, Runs, reads_of, only_file, Rose, FileFailed, EachSince}
use Rattle.disk_model.proofs.Laws.{run_more, since_more, reading_inside}
use Rattle.core_events.specs.Events.{Request, Guest}
use Rattle.core_events.specs.declared.events.Work.{Work}
use Rattle.core_events.specs.declared.events.Work.TheVariants.{Read, Flush, Status}
use Rattle.core_events.specs.declared.answers.Errno.TheVariants.{Io}
use Rattle.core_events.specs.Answers.{Reply, Done, Content, Flags, Fault}
use Rattle.image_model.specs.Space.{Store, allocation_flags}
use Rattle.bitmap_model.specs.Runs.{runs_of, first_runs, reply_runs}
use Rattle.span_algebra.specs.declared.lists.Run.{Run}
use Rattle.plain_model.specs.History.{History, now}
use Rattle.plain_model.specs.Machine.{Machine}
use Rattle.plain_model.specs.Requests.{Place, longest, allocation_name, HasBytes, is_write, is_flush, stores, denial, lacks_room, place_of, read_at, granted, range_of, context_of, Context, Allocation, status_runs}
use Rattle.plain_model.specs.Actions.{Held}
use Rattle.plain_model.specs.Outcome.{no_trouble, Untouched, Fate, Lost, Carried, fate, breaks_by, by_fate, or_break, after_writing, answered, bytes_of, outcome, guest}
use Rattle.plain_model.specs.Ending.{leave, after_break}
use Rattle.plain_model.specs.Step.{change_by, no_change, SpaceBy}
use Rattle.plain_model.specs.Faults.{is_io}
use Rattle.plain_model.specs.Lawful.{disks_after}
use Rattle.plain_model.proofs.Histories.{length-now}
use Rattle.plain_model.proofs.Steps.{guest_outcome}
use Rattle.core_node.specs.Causes.{IsRefusal}
use Rattle.core_node.specs.Step.{is_done, kept_during}
use Rattle.core_node.specs.Rest.{IsSafe}
use Rattle.core_node.specs.Touches.{works_on, is_denied}
use Rattle.core_node.proofs.Rises.{rise_of, is_rise, rose_up, rose_at, quiet}
use Rattle.core_node.proofs.Causing.{quiet_causes, io_causes}
use Rattle.core_layers.specs.Layers.{IsMixed, KeepsHead}
use Rattle.core_layers.proofs.Exports.{mixed_is_safe}
use Rattle.drive_core.specs.Drive.{Drive, shown_of, machine_of, next, leaves_disk, is_bad, denies, IsHeld, Keeps, Answers}
use Rattle.drive_core.proofs.Laws.{Knows, InOrder, HasSpace, HasSizes, IsBare, named_on}
use Rattle.drive_core.proofs.Denials.{denial_is, granted_is, granted_place, failed_for, may_work}
use Rattle.drive_core.proofs.Fates.{fate_is, reply_with, ended, broken_by, faulty}
use Rattle.drive_core.proofs.Puts.{held_by}
use Rattle.drive_core.proofs.Going.{Leaves, Served, after, steps}
use Rattle.drive_core.proofs.Changes.{none_held, never}
use Rattle.drive_core.proofs.Still.{Rests, unchanged, still}

-- ---- what writes nothing

brings : (r : Request) (work : Work) → is_write work ≡ false → HasBytes r work
brings r work rests = grind (arith, common_steps, rests)

stores_not : (work : Work) → is_write work ≡ false → stores work ≡ false
stores_not work rests = grind (arith, common_steps, rests)

changes_not : (r : Request) (work : Work) (m : Machine) → is_write work ≡ false → change_by r work m ≡ no_change m
changes_not r work m rests = grind (arith, common_steps, rests)

-- one that is no flush either leaves the disks of the event
rests_so : (disks : List (List ℕ)) (work : Work) (ok : Bool) (disk : List ℕ) → is_write work ≡ false → is_flush work ≡ false → disks_after disks work ok disk ≡ (if is_write work then disks ++ disk ∷ [] else disks)
rests_so disks work ok disk rests none = grind (arith, common_steps, rests, none)

-- ---- what the plain machine does for it

module _ (held : List ℕ → Held) (d : Drive) (store : Store) (freed : ℕ) (h : History) (r : Request) (reads : is_write r.work ≡ false) where
  abbrev m : Machine
  m = machine_of (next d) store freed h

  replied : fate no_trouble r m ≡ Carried → outcome held no_trouble (Guest r) (machine_of d store freed h) ≡ reply_with (next d) store freed h (granted r r.work m)
  unfolding outcome guest
  replied is = ap (λ (f : Fate). or_break (breaks_by f no_trouble r.work) (by_fate f no_trouble r m)) is
      ∙ ap (λ (b : Bool). if b then after_writing no_trouble (range_of r) (bytes_of r r.work) Done m else answered (granted r r.work m) m) reads

  failed_so : (flushes : Bool) → or_break (flushes || false) (answered (Fault Io) m) ≡ reply_with (broken_by flushes d) store freed h (Fault Io)
  unfolding after_break leave
  failed_so true = refl
  failed_so false = refl

  failed : (flushes : Bool) → is_flush r.work ≡ flushes → fate (ended Untouched false) r m ≡ Lost → outcome held (ended Untouched false) (Guest r) (machine_of d store freed h) ≡ reply_with (broken_by flushes d) store freed h (Fault Io)
  unfolding outcome guest
  failed flushes asks is = ap (λ (f : Fate). or_break (breaks_by f (ended Untouched false) r.work) (by_fate f (ended Untouched false) r m)) is
      ∙ ap (λ (b : Bool). or_break (is_flush r.work || (b && false)) (answered (Fault Io) m)) reads
      ∙ ap (λ (b : Bool). or_break (b || false) (answered (Fault Io) m)) asks ∙ failed_so flushes

-- ---- what it does and answers

module _ (d : Drive) (r : Request) (reads : is_write r.work ≡ false) (undenied : denies (shown_of d) r ≡ None) {parts : Parts} {holds holding : Knows} {space spacing : World → Store} {room : ℕ} {old new : World}
    (run : Runs parts old new) (only : (g : ℕ) → parts.files g → g ≡ d.facts.file) (sizes : HasSizes d.facts holds)
    (has_space : HasSpace d.facts d.room holds space) (has_space_then : HasSpace d.facts room holding spacing) (bare : IsBare d.facts holds) (same : spacing new ≡ space old) where
  -- the drive after it, broken or not
  abbrev pub then_is : Bool → Drive
  then_is broke = after (broken_by broke d).broken room d.ended d

  abbrev pub EndsAs : Bool → Bool → Type 0
  EndsAs broke ok = (freed : ℕ) (h : History) (disks : List (List ℕ)) → IsHeld d (holds old) (space old) old freed h disks
      → Leaves d (then_is broke) holding spacing freed (space old).cluster h h (kept_during disks (Guest r) (now h)) (disks_after disks r.work ok (now h)) old new

  abbrev pub AnswersAs : Bool → Reply → Type 0
  AnswersAs broke reply = Answers (shown_of d) (shown_of (then_is broke)) (Keeps d holds space old) (Keeps (then_is broke) holding spacing new) old new (Guest r) reply

  abbrev pub WorksAs : Bool → Reply → Type 0
  WorksAs broke reply = Runs (works_on (shown_of d) (shown_of (then_is broke)) new (Guest r) (record { reply = reply; notices = [] })) old new

  none : {freed : ℕ} {h : History} {disks : List (List ℕ)} → IsHeld d (holds old) (space old) old freed h disks → denial r (machine_of (next d) (space old) freed h) ≡ None
  none {freed} {h} {disks} k = denial_is (shown_of d) r (machine_of (next d) (space old) freed h) refl refl refl refl ((sym (sizes old (now h) disks k.holds_it).0) ∙ length-now h k.sound.history_is.inside) refl ∙ undenied

  roomy : (freed : ℕ) (h : History) → lacks_room r (machine_of (next d) (space old) freed h) ≡ false
  unfolding lacks_room
  roomy freed h = rw (stores_not r.work reads) refl

  carried : {freed : ℕ} {h : History} {disks : List (List ℕ)} → IsHeld d (holds old) (space old) old freed h disks → fate no_trouble r (machine_of (next d) (space old) freed h) ≡ Carried
  carried {freed} {h} k = fate_is no_trouble r (machine_of (next d) (space old) freed h) false false (none k) (roomy freed h) reads

  lost : {freed : ℕ} {h : History} {disks : List (List ℕ)} → IsHeld d (holds old) (space old) old freed h disks → fate (ended Untouched false) r (machine_of (next d) (space old) freed h) ≡ Lost
  lost {freed} {h} k = fate_is (ended Untouched false) r (machine_of (next d) (space old) freed h) false false (none k) (roomy freed h) reads

  -- ---- it goes well

  module _ (reply : Reply) (good : is_io reply ≡ false) (ends : EndsAs false (is_done reply))
      (says : (freed : ℕ) (h : History) (disks : List (List ℕ)) → IsHeld d (holds old) (space old) old freed h disks → granted r r.work (machine_of (next d) (space old) freed h) ≡ reply) where
    well_served : (freed : ℕ) (h : History) (disks : List (List ℕ)) → IsHeld d (holds old) (space old) old freed h disks
        → Served none_held (rise_of old new) no_trouble d (then_is false) holding space spacing (λ f. f) (λ g. g) old new (Guest r) reply freed h disks
    well_served freed h disks k = record {
      outcome_is = replied none_held d (space old) freed h r reads (carried k) ∙ ap (λ (x : Reply). reply_with (next d) (space old) freed h x) (says freed h disks k);
      torn = tt;
      sound_outcome = guest_outcome none_held no_trouble r (machine_of d (space old) freed h) (brings r r.work reads) tt k.sound;
      space_is = subst (λ (f : Fate). SpaceBy f r (machine_of d (space old) freed h) (machine_of (then_is false) (spacing new) freed h)) (sym (carried k))
          (rw (changes_not r r.work (machine_of d (space old) freed h) reads) (unchanged d d.broken room d.ended (space old) (spacing new) freed h same));
      faults = quiet (old.named d.facts.file) (rise_of old new) (machine_of d (space old) freed h) (Guest r) reply (ap (λ (b : Bool). is_none d.broken && b) good ∙ never (is_none d.broken)) (ap (λ (f : Fate). breaks_by f no_trouble r.work) (carried k));
      leaves = ends freed h disks k;
    }

    pub well_answers : (IsRefusal reply → ⊥) → WorksAs false reply → AnswersAs false reply
    well_answers unrefused works = record {
      steps = λ told. steps parts none_held (rise_of old new) no_trouble d d.broken room d.ended holds holding space spacing (λ f. f) (λ g. g) old new (Guest r) reply told run only (is_rise old new) (λ name. refl) (λ h c is. is)
          has_space has_space_then bare well_served;
      causes = quiet_causes refl (λ whole. good) unrefused refl;
      source = record { file_stays = refl; id_stays = refl; size_stays = refl; epoch_stays = refl; directory_stays = refl };
      run = works;
    }

  -- ---- a call on the file fails

  module _ (flushes : Bool) (asks : is_flush r.work ≡ flushes) (ends : EndsAs flushes false) (failed_call : FileFailed d.facts.file old new) (tied : IsTrue flushes → Rose (old.faults.writes d.facts.file) (new.faults.writes d.facts.file)) where
    own_failed : {freed : ℕ} {h : History} {disks : List (List ℕ)} → IsHeld d (holds old) (space old) old freed h disks → 0 < (rise_of old new).reads (old.named d.facts.file) + (rise_of old new).writes (old.named d.facts.file)
    own_failed k = ⊎_elim
        (λ (own : Rose (old.faults.reads d.facts.file) (new.faults.reads d.facts.file)). let some = rose_at old.faults.reads new.faults.reads (old.found (old.named d.facts.file)) d.facts.file k.named.found own in omega (arith, some))
        (λ (own : Rose (old.faults.writes d.facts.file) (new.faults.writes d.facts.file)). let some = rose_at old.faults.writes new.faults.writes (old.found (old.named d.facts.file)) d.facts.file k.named.found own in omega (arith, some)) failed_call.own

    breaks_so : {freed : ℕ} {h : History} {disks : List (List ℕ)} → IsHeld d (holds old) (space old) old freed h disks → breaks_by (fate (ended Untouched false) r (machine_of (next d) (space old) freed h)) (ended Untouched false) r.work ≡ flushes
    breaks_so k = ap (λ (f : Fate). breaks_by f (ended Untouched false) r.work) (lost k) ∙ ap (λ (b : Bool). is_flush r.work || (b && false)) reads ∙ ap (λ (b : Bool). b || false) asks ∙ or_false flushes
      where
        or_false : (b : Bool) → (b || false) ≡ b
        or_false true = refl
        or_false false = refl

    lost_served : (freed : ℕ) (h : History) (disks : List (List ℕ)) → IsHeld d (holds old) (space old) old freed h disks
        → Served none_held (rise_of old new) (ended Untouched false) d (then_is flushes) holding space spacing (λ f. f) (λ g. g) old new (Guest r) (Fault Io) freed h disks
    lost_served freed h disks k = record {
      outcome_is = failed none_held d (space old) freed h r reads flushes asks (lost k);
      torn = tt;
      sound_outcome = guest_outcome none_held (ended Untouched false) r (machine_of d (space old) freed h) (brings r r.work reads) tt k.sound;
      space_is = subst (λ (f : Fate). SpaceBy f r (machine_of d (space old) freed h) (machine_of (then_is flushes) (spacing new) freed h)) (sym (lost k))
          (unchanged d (broken_by flushes d).broken room d.ended (space old) (spacing new) freed h same);
      faults = faulty (old.named d.facts.file) (rise_of old new) Untouched false (machine_of d (space old) freed h) r (granted_place (shown_of d) r (machine_of d (space old) freed h) undenied refl refl refl)
          (rose_up old.faults.shared new.faults.shared failed_call.shared) (own_failed k)
          (λ breaks. rose_at old.faults.writes new.faults.writes (old.found (old.named d.facts.file)) d.facts.file k.named.found (tied (sym (breaks_so k) ∙ breaks)));
      leaves = ends freed h disks k;
    }

    broke_by : (b : Bool) → d.broken ≡ None → IsSome (then_is b).broken → IsTrue b
    broke_by true whole breaks = refl
    broke_by false whole breaks = absurd (false≢true (subst IsSome whole breaks))

    pub lost_answers : WorksAs flushes (Fault Io) → AnswersAs flushes (Fault Io)
    lost_answers works = record {
      steps = λ told. steps parts none_held (rise_of old new) (ended Untouched false) d (broken_by flushes d).broken room d.ended holds holding space spacing (λ f. f) (λ g. g) old new (Guest r) (Fault Io) told run only (is_rise old new) (λ name. refl) (λ h c is. is)
          has_space has_space_then bare lost_served;
      causes = io_causes failed_call (failed_for (shown_of d) r undenied failed_call) (λ whole breaks. tied (broke_by flushes whole breaks)) refl;
      source = record { file_stays = refl; id_stays = refl; size_stays = refl; epoch_stays = refl; directory_stays = refl };
      run = works;
    }

-- ---- one that reads alone: a read or a status

module _ (d : Drive) (r : Request) (reads : is_write r.work ≡ false) (rests_too : is_flush r.work ≡ false) (undenied : denies (shown_of d) r ≡ None) {holds holding : Knows} {space spacing : World → Store} {old new : World}
    (run : Runs (reads_of d.facts.file) old new) (rests : Rests d.facts holds holding) (sizes : HasSizes d.facts holds)
    (has_space : HasSpace d.facts d.room holds space) (has_space_then : HasSpace d.facts d.room holding spacing) (bare : IsBare d.facts holds) (same : spacing new ≡ space old) where
  ends : (ok : Bool) → EndsAs d r reads undenied run (λ g none. absurd none) sizes has_space has_space_then bare same false ok
  ends ok freed h disks k = still rests old new run (λ none. none) (λ name none. none) k (Guest r) (disks_after disks r.work ok (now h)) (rests_so disks r.work ok (now h) reads rests_too)

  works : (reply : Reply) → WorksAs d r reads undenied run (λ g none. absurd none) sizes has_space has_space_then bare same false reply
  works reply = run_more (record { files = λ g none. absurd none; reads = λ g is. inl is; names = λ name none. none; text = λ none. none; wire = λ none. none }) run

  pub read_answers : (reply : Reply) → is_io reply ≡ false → (IsRefusal reply → ⊥)
      → ((freed : ℕ) (h : History) (disks : List (List ℕ)) → IsHeld d (holds old) (space old) old freed h disks → granted r r.work (machine_of (next d) (space old) freed h) ≡ reply)
      → Answers (shown_of d) (shown_of (next d)) (Keeps d holds space old) (Keeps (next d) holding spacing new) old new (Guest r) reply
  read_answers reply good unrefused says = well_answers d r reads undenied run (λ g none. absurd none) sizes has_space has_space_then bare same reply good (ends (is_done reply)) says unrefused (works reply)

  pub unread_answers : FileFailed d.facts.file old new → Answers (shown_of d) (shown_of (next d)) (Keeps d holds space old) (Keeps (next d) holding spacing new) old new (Guest r) (Fault Io)
  unread_answers failed_call = lost_answers d r reads undenied run (λ g none. absurd none) sizes has_space has_space_then bare same false rests_too (ends false) failed_call (λ breaks. absurd (false≢true breaks)) (works (Fault Io))

-- what is read of the disk
pub read_says : (d : Drive) (r : Request) → r.work ≡ Read → denies (shown_of d) r ≡ None → (store : Store) (freed : ℕ) (h : History) (bytes : List ℕ) → length (now h) ≡ d.facts.size → bytes ≡ reading (now h) r.offset r.length
    → granted r r.work (machine_of (next d) store freed h) ≡ Content bytes
read_says d r work undenied store freed h bytes size is =
    let good : (leaves_disk (shown_of d) r || nat_lt longest r.length) ≡ false = sym (ap (λ (w : Work). is_bad (shown_of d) r w) work) ∙ (granted_is (shown_of d) r undenied).good in
    let inside = ltb-false d.facts.size (r.offset + r.length) (or_parts (leaves_disk (shown_of d) r) (nat_lt longest r.length) good).0 in
    ap (λ (w : Work). granted r w (machine_of (next d) store freed h)) work
    ∙ ap (λ (p : Place). Content (read_at p r (machine_of (next d) store freed h))) (granted_place (shown_of d) r (machine_of (next d) store freed h) undenied refl refl refl)
    ∙ ap Content (sym (is ∙ reading_inside (now h) r.offset r.length (omega (arith, inside, size))))

not_false : (b : Bool) → not b ≡ false → b ≡ true
not_false b is = grind (arith, is)

context_is : (name : List ℕ) (m : Machine) → bytes_eq name allocation_name ≡ true → context_of name m ≡ Allocation
context_is name m is = rw is refl

-- how its range is stored, of which the first run was asked or all
pub status_says : (d : Drive) (r : Request) (context : List ℕ) (one : Bool) → r.work ≡ Status context one → denies (shown_of d) r ≡ None → (store shown : Store) (freed : ℕ) (h : History) (before given cut : List Run) → before ≡ [] → shown ≡ store
    → given ≡ before ++ first_runs (runs_of shown.cluster (map allocation_flags shown.kinds) (range_of r)) → cut ≡ (if one then take 1 given else given) → granted r r.work (machine_of (next d) store freed h) ≡ Flags cut
status_says d r context one work undenied store shown freed h before given cut empty same gives is =
    let good : (leaves_disk (shown_of d) r || ((r.length == 0) || not (bytes_eq context allocation_name))) ≡ false = sym (ap (λ (w : Work). is_bad (shown_of d) r w) work) ∙ (granted_is (shown_of d) r undenied).good in
    let known = not_false (bytes_eq context allocation_name) (or_parts (r.length == 0) (not (bytes_eq context allocation_name)) (or_parts (leaves_disk (shown_of d) r) ((r.length == 0) || not (bytes_eq context allocation_name)) good).1).1 in
    let all : List Run = runs_of store.cluster (map allocation_flags store.kinds) (range_of r) in
    let given_is : given ≡ first_runs all = gives ∙ ap (λ (rs : List Run). rs ++ first_runs (runs_of shown.cluster (map allocation_flags shown.kinds) (range_of r))) empty
    ∙ ap (λ (s : Store). first_runs (runs_of s.cluster (map allocation_flags s.kinds) (range_of r))) same in
    ap (λ (w : Work). granted r w (machine_of (next d) store freed h)) work
    ∙ ap (λ (x : Context). Flags (reply_runs one (status_runs x (place_of r.way (machine_of (next d) store freed h)) r (machine_of (next d) store freed h)))) (context_is context (machine_of (next d) store freed h) known)
    ∙ ap (λ (p : Place). Flags (reply_runs one (status_runs Allocation p r (machine_of (next d) store freed h)))) (granted_place (shown_of d) r (machine_of (next d) store freed h) undenied refl refl refl)
    ∙ ap Flags (sym (is ∙ asked one given all given_is))
  where
    asked : (one : Bool) (given all : List Run) → given ≡ first_runs all → (if one then take 1 given else given) ≡ reply_runs one all
    asked true given all given_is = ap (λ (rs : List Run). take 1 rs) given_is ∙ take-take 1 1024 all (omega arith)
    asked false given all given_is = given_is

-- ---- a flush

module _ (d : Drive) (r : Request) (work : r.work ≡ Flush) (undenied : denies (shown_of d) r ≡ None) {holds holding : Knows} {space spacing : World → Store} {room : ℕ} {old new : World}
    (run : Runs (only_file d.facts.file) old new) (sizes : HasSizes d.facts holds) (in_order_then : InOrder d.facts holding) (sizes_then : HasSizes d.facts holding)
    (among_then : (w : World) (disk : List ℕ) (mixed : List (List ℕ)) → holding w disk mixed → Contains mixed disk)
    (has_space : HasSpace d.facts d.room holds space) (has_space_then : HasSpace d.facts room holding spacing) (bare : IsBare d.facts holds) (same : spacing new ≡ space old)
    (since : (disk : List ℕ) (mixed : List (List ℕ)) → holds old disk mixed → EachSince new old.now d.facts.file (IsMixed d.facts.id d.facts.directory mixed))
    (head : (disk : List ℕ) (mixed : List (List ℕ)) → holds old disk mixed → KeepsHead d.facts.file (space old).cluster old new) where
  unwritten : is_write r.work ≡ false
  unwritten = ap is_write work

  synced_ends : (broke ok : Bool) → ((disk : List ℕ) (mixed : List (List ℕ)) → holds old disk mixed → holding new disk (if ok then disk ∷ [] else mixed)) → EndsAs d r unwritten undenied run (λ g is. is) sizes has_space has_space_then bare same broke ok
  synced_ends broke ok then_holds freed h disks k =
      let told = subst IsTrue (sym run.goes.tells) k.told in
      let held = then_holds (now h) disks k.holds_it in
      let in_order = ((in_order_then new (now h) (if ok then now h ∷ [] else disks) held).seen told).0 in
      record {
        holds = λ sound. subst (IsHeld (after (broken_by broke d).broken room d.ended d) (holding new) (spacing new) new freed h) (sym (ap (λ (w : Work). disks_after disks w ok (now h)) work))
            (held_by {e = after (broken_by broke d).broken room d.ended d} in_order.sectors told (named_on d.facts.file run (λ none. none) k.named) held (sizes_then new (now h) (if ok then now h ∷ [] else disks) held) in_order.whole
            (among_then new (now h) (if ok then now h ∷ [] else disks) held) k.epochs sound);
        crashes = subst (λ (ds : List (List ℕ)). EachSince new old.now d.facts.file (IsSafe (d.facts.directory ∷ []) d.facts.id h ds)) (sym (ap (λ (b : Bool). if b then disks ++ now h ∷ [] else disks) unwritten))
            (since_more new old.now d.facts.file (IsMixed d.facts.id d.facts.directory disks) (IsSafe (d.facts.directory ∷ []) d.facts.id h disks) (λ c m. mixed_is_safe k.sound.history_is k.epochs k.mixes.among m) (since (now h) disks k.holds_it));
        head = head (now h) disks k.holds_it;
      }

  works_too : (broke : Bool) (reply : Reply) → is_denied reply ≡ false → WorksAs d r unwritten undenied run (λ g is. is) sizes has_space has_space_then bare same broke reply
  works_too broke reply carried = may_work (shown_of d) r (shown_of (after (broken_by broke d).broken room d.ended d)) (record { reply = reply; notices = [] }) undenied carried (ap (λ (w : Work). is_write w || is_flush w) work) run

  pub synced_answers : ((disk : List ℕ) (mixed : List (List ℕ)) → holds old disk mixed → holding new disk (disk ∷ []))
      → Answers (shown_of d) (shown_of (after d.broken room d.ended d)) (Keeps d holds space old) (Keeps (after d.broken room d.ended d) holding spacing new) old new (Guest r) Done
  synced_answers then_holds = well_answers d r unwritten undenied run (λ g is. is) sizes has_space has_space_then bare same Done refl (synced_ends false true then_holds)
      (λ freed h disks k. ap (λ (w : Work). granted r w (machine_of (next d) (space old) freed h)) work) (λ refused. refused) (works_too false Done refl)

  pub unsynced_answers : ((disk : List ℕ) (mixed : List (List ℕ)) → holds old disk mixed → holding new disk mixed) → FileFailed d.facts.file old new → Rose (old.faults.writes d.facts.file) (new.faults.writes d.facts.file)
      → Answers (shown_of d) (shown_of (after (broken_by true d).broken room d.ended d)) (Keeps d holds space old) (Keeps (after (broken_by true d).broken room d.ended d) holding spacing new) old new (Guest r) (Fault Io)
  unsynced_answers then_holds failed_call rose = lost_answers d r unwritten undenied run (λ g is. is) sizes has_space has_space_then bare same true (ap is_flush work) (synced_ends true false then_holds) failed_call (λ breaks. rose) (works_too true (Fault Io) refl)
