-- What the plain machine does for a write or a zero of the drive that isn't denied, however it ends.
use Rattle.std.proofs.Common.{◌≡◌, ℕ, ◌+◌, ◌-◌, ◌<◌, ◌≤◌, List, [], length, Bool, true, false, ◌&&◌, ◌||◌, IsTrue, Some, None, refl, sym, ap, subst, ◌∙◌, arith}
use Rattle.std.specs.Prelude.{if◌then◌else◌, is_none}
use Rattle.std.proofs.lemmas.Bool.{false≢true}
use Rattle.core_events.specs.Events.{Request, Guest}
use Rattle.core_events.specs.declared.events.Work.{Work}
use Rattle.core_events.specs.declared.events.Work.TheVariants.{Read, Write, Zero, Flush, Status}
use Rattle.core_events.specs.declared.answers.Errno.{Errno}
use Rattle.core_events.specs.declared.answers.Errno.TheVariants.{Io, NoSpace}
use Rattle.core_events.specs.Answers.{Reply, Done, Fault}
use Rattle.image_model.specs.Space.{Store, Change}
use Rattle.plain_model.specs.History.{History, Wrote, with_entry}
use Rattle.plain_model.specs.Machine.{Machine, next_number}
use Rattle.plain_model.specs.Requests.{place_of, Drive as OnDrive, is_write, is_flush, denial, lacks_room, granted, range_of}
use Rattle.plain_model.specs.Ending.{leave, after_break}
use Rattle.plain_model.specs.Actions.{Held}
use Rattle.plain_model.specs.Outcome.{Trouble, no_trouble, Well, Untouched, Torn, RequestEnd, Fate, Denied, Lost, Carried, CarriedInPart, fate_by, fate, after_copying, after_marking, after_writing, bytes_of, breaks_by, by_fate, or_break, guest, outcome, answered, numbered, Outcome}
use Rattle.plain_model.specs.Step.{IsChanged, IsChangedInPart}
use Rattle.plain_model.specs.Faults.{Rise, StepFaults, IsTiedAt}
use Rattle.core_layers.specs.Layers.{Spends}
use Rattle.drive_core.specs.Drive.{Drive, machine_of, next}

-- ---- fates

fate_granted : (tr : Trouble) (r : Request) (m : Machine) → denial r m ≡ None → fate tr r m ≡ fate_by tr.request r m
unfolding fate
fate_granted tr r m is = rw (is, fate) refl

abbrev pub by_room : RequestEnd → Bool → Bool → Fate
by_room Untouched lacks writes = Lost
by_room Well lacks writes = if lacks then Denied NoSpace else Carried
by_room (Torn bytes) lacks writes = if lacks then Denied NoSpace else if writes then CarriedInPart bytes else Lost

room_by : (end : RequestEnd) (r : Request) (m : Machine) → fate_by end r m ≡ by_room end (lacks_room r m) (is_write r.work)
room_by Untouched r m = refl
room_by Well r m = refl
room_by (Torn bytes) r m = refl

-- of a request that isn't denied, by what it lacks
pub fate_is : (tr : Trouble) (r : Request) (m : Machine) (lacks writes : Bool) → denial r m ≡ None → lacks_room r m ≡ lacks → is_write r.work ≡ writes → fate tr r m ≡ by_room tr.request lacks writes
fate_is tr r m lacks writes none room work =
    fate_granted tr r m none ∙ room_by tr.request r m ∙ ap (λ (b : Bool). by_room tr.request b (is_write r.work)) room ∙ ap (λ (b : Bool). by_room tr.request lacks b) work

-- ---- outcomes

abbrev pub reply_with : Drive → Store → ℕ → History → Reply → Outcome
reply_with d store freed h reply = record { machine = machine_of d store freed h; answer = record { reply = reply; notices = [] } }

-- how a write or a zero met a fault
abbrev pub ended : RequestEnd → Bool → Trouble
ended end broke = record no_trouble { request = end; broke = broke }

-- after an event that broke the source, or didn't
abbrev pub broken_by : Bool → Drive → Drive
broken_by broke d = record (next d) { broken = if broke then Some (next_number d.event) else d.broken }

-- a write is no flush
pub unbroken : (work : Work) → is_write work ≡ true → (is_flush work || (is_write work && false)) ≡ false
unbroken Read writes = refl
unbroken (Write fua) writes = refl
unbroken (Zero fua no_hole) writes = refl
unbroken Flush writes = absurd (false≢true writes)
unbroken (Status context one) writes = refl

module _ (held : List ℕ → Held) (d : Drive) (store : Store) (freed : ℕ) (h : History) (r : Request) where
  abbrev m : Machine
  m = machine_of (next d) store freed h

  by_fate_of : (tr : Trouble) (f : Fate) → fate tr r m ≡ f → outcome held tr (Guest r) (machine_of d store freed h) ≡ or_break (breaks_by f tr r.work) (by_fate f tr r m)
  unfolding outcome guest
  by_fate_of tr f is = ap (λ (f : Fate). or_break (breaks_by f tr r.work) (by_fate f tr r m)) is

  pub wrote : is_write r.work ≡ true → fate no_trouble r m ≡ Carried
      → outcome held no_trouble (Guest r) (machine_of d store freed h) ≡ reply_with (next d) store freed (with_entry h (Wrote r.offset (bytes_of r r.work))) Done
  unfolding after_copying after_marking leave
  wrote writes is = by_fate_of no_trouble Carried is
      ∙ ap (λ (b : Bool). if b then after_writing no_trouble (range_of r) (bytes_of r r.work) Done m else answered (granted r r.work m) m) writes

  pub tore : (left : List ℕ) (broke : Bool) → fate (ended (Torn left) broke) r m ≡ CarriedInPart left
      → outcome held (ended (Torn left) broke) (Guest r) (machine_of d store freed h) ≡ reply_with (broken_by broke d) store freed (with_entry h (Wrote r.offset left)) (Fault Io)
  unfolding after_copying after_marking leave after_break
  tore left true is = by_fate_of (ended (Torn left) true) (CarriedInPart left) is
  tore left false is = by_fate_of (ended (Torn left) false) (CarriedInPart left) is

  pub lost : is_write r.work ≡ true → fate (ended Untouched false) r m ≡ Lost
      → outcome held (ended Untouched false) (Guest r) (machine_of d store freed h) ≡ reply_with (next d) store freed h (Fault Io)
  lost writes is = by_fate_of (ended Untouched false) Lost is ∙ ap (λ (b : Bool). or_break b (answered (Fault Io) m)) (unbroken r.work writes)

  pub refused : (tr : Trouble) (errno : Errno) → fate tr r m ≡ Denied errno → outcome held tr (Guest r) (machine_of d store freed h) ≡ reply_with (next d) store freed h (Fault errno)
  refused tr errno is = by_fate_of tr (Denied errno) is

-- ---- space

pub changed : (old : Machine) (change : Change) (new : Machine) → new.store ≡ change.store → new.freed ≡ old.freed + change.freed → IsChanged old change new
changed old change new store freed = record {
  moved = 0;
  store_is = store ∙ (let same : change.store.room ≡ change.store.room + 0 = omega arith in ap (λ (room : ℕ). record (change.store) { room = room }) same);
  freed_is = omega (arith, freed);
}

pub changed_in_part : (old : Machine) (change : Change) (new : Machine) (most : ℕ) → Spends old.store change.store new.store most → most ≤ old.store.room - change.store.room → new.freed ≡ old.freed
    → new.store.cluster ≡ old.store.cluster → length new.store.kinds ≡ length old.store.kinds → length new.store.tables ≡ length old.store.tables → IsChangedInPart old change new
changed_in_part old change new most spends few freed cluster kinds tables = record {
  taken = old.store.room - new.store.room;
  given = 0;
  moved = 0;
  either = spends.either;
  taken_most = let least = spends.least in omega (arith, least, few);
  given_most = omega arith;
  room_is = let most = spends.most_is in omega (arith, most);
  freed_is = omega (arith, freed);
  cluster = cluster;
  kind_count = kinds;
  table_count = tables;
}

-- ---- faults

-- a call on the source's file failed
pub faulty : (source : List ℕ) (rise : Rise) (end : RequestEnd) (broke : Bool) (m : Machine) (r : Request) → place_of r.way m ≡ OnDrive → 0 < rise.shared → 0 < rise.reads source + rise.writes source
    → (IsTrue (breaks_by (fate (ended end broke) r (numbered m)) (ended end broke) r.work) → 0 < rise.writes source)
    → StepFaults source rise (ended end broke) m (Guest r) (record { reply = Fault Io; notices = [] })
faulty source rise end broke m r place shared failed break = record {
  bound = one_counted (is_none m.broken && true) rise.shared shared;
  request = λ ill. subst (IsTiedAt rise source) (sym place) failed;
  copies = λ id n j failing here. absurd (cc);
  break = break;
  starts = λ name unread. absurd (false≢true unread);
}
  where
    one_counted : (b : Bool) (n : ℕ) → 0 < n → 0 + (if b then 1 else 0) ≤ n
    one_counted false n some = omega arith
    one_counted true n some = omega (arith, some)
