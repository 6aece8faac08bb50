-- What the plain machine does for a core of this kind.
use Rattle.std.proofs.Common.{◌≡◌, ℕ, ◌+◌, List, [], ◌∷◌, Bool, true, false, not, ◌&&◌, ◌||◌, Option, Some, None, is_some, refl, sym, ap, ◌∙◌, arith}
use Rattle.std.specs.Prelude.{nat_lt, is_none, if◌then◌else◌, find, bytes_eq}
use Rattle.std.specs.Bool.{then_some}
use Rattle.core_events.specs.Events.{Request, Guest, Tick}
use Rattle.core_events.specs.declared.commands.ExportArgs.{ExportArgs}
use Rattle.core_events.specs.declared.events.Way.{Way}
use Rattle.core_events.specs.declared.events.Way.TheVariants.{Node, Export}
use Rattle.core_events.specs.declared.events.Work.{Work}
use Rattle.core_events.specs.declared.events.Work.TheVariants.{Read, Write, Zero, Flush, Status}
use Rattle.core_events.specs.declared.answers.Errno.{Errno}
use Rattle.core_events.specs.declared.answers.Errno.TheVariants.{Perm, Io, Invalid, NoSpace, Shutdown}
use Rattle.core_events.specs.Answers.{Reply, Done, Content, Fault}
use Rattle.script_model.specs.Recording.{is_drive}
use Rattle.plain_model.specs.History.{History, Wrote, with_entry, now}
use Rattle.plain_model.specs.Jobs.{Job}
use Rattle.plain_model.specs.Machine.{Machine, GoneView, size_of, has_target}
use Rattle.plain_model.specs.Requests.{Place, Drive, Nowhere, last_gone, view_place, export_place, is_view, is_nowhere, is_gone, is_drive_place, is_read_only, is_read_only_export, place_of, is_invalid, is_write, stores, longest, denial, lacks_room, granted, read_at, bytes_at, range_of}
use Rattle.monitor_model.specs.Commands.{first_of}
use Rattle.plain_model.specs.Faults.{is_io_errno}
use Rattle.plain_model.specs.Ending.{leave, after_break}
use Rattle.plain_model.specs.Actions.{Held}
use Rattle.plain_model.specs.Outcome.{Trouble, no_trouble, Well, Untouched, Torn, RequestEnd, Fate, Denied, Lost, Carried, CarriedInPart, fate_by, fate, after_copying, after_marking, after_writing, bytes_of, breaks_by, by_fate, or_break, guest, tick, outcome, answered, Outcome}
use Rattle.toy_core.specs.declared.toy.Toy.{Toy}
use Rattle.toy_core.specs.Toy.{IsBuilt, on_drive, is_bad, denies, machine_of, next, broke}
use Rattle.toy_core.proofs.Space.{need_is}

-- ---- why a request is denied

pub place_is : (way : Way) (m : Machine) → m.exports ≡ [] → m.views ≡ [] → m.gone ≡ [] → place_of way m ≡ (if on_drive way then Drive else Nowhere)
place_is (Node name) m exports views gone =
    ap (λ (vs : List Job). if is_drive name then Drive else view_place (find (has_target name) vs) (last_gone name m.gone)) views
    ∙ ap (λ (g : List GoneView). if is_drive name then Drive else view_place None (last_gone name g)) gone
place_is (Export name) m exports views gone = ap (λ (es : List ExportArgs). export_place (find (λ (e : ExportArgs). bytes_eq name e.name) es) m) exports

no_view : (b : Bool) → is_view (if b then Drive else Nowhere) ≡ false
no_view true = refl
no_view false = refl

writable : (way : Way) (m : Machine) → m.exports ≡ [] → m.views ≡ [] → m.gone ≡ [] → is_read_only way m ≡ false
writable (Node name) m exports views gone = ap is_view (place_is (Node name) m exports views gone) ∙ no_view (is_drive name)
writable (Export name) m exports views gone = ap (λ (es : List ExportArgs). is_read_only_export (find (λ (e : ExportArgs). bytes_eq name e.name) es) || is_view (export_place (find (λ (e : ExportArgs). bytes_eq name e.name) es) m)) exports

abbrev shape : Bool → Bool → Place → Bool → Option ℕ → Option Errno
shape writes read_only place bad broken = first_of (then_some (writes && read_only) Perm ∷ then_some (is_nowhere place || bad) Invalid ∷ then_some (is_gone place) Shutdown ∷ then_some (is_drive_place place && is_some broken) Io ∷ [])

abbrev pub by_shape : Bool → Bool → Option ℕ → Option Errno
by_shape drive bad broken = if not drive || bad then Some Invalid else if is_some broken then Some Io else None

shaped : (writes drive bad : Bool) (broken : Option ℕ) → shape writes false (if drive then Drive else Nowhere) bad broken ≡ by_shape drive bad broken
shaped true true true None = refl
shaped true true true (Some n) = refl
shaped true true false None = refl
shaped true true false (Some n) = refl
shaped true false bad None = refl
shaped true false bad (Some n) = refl
shaped false true true None = refl
shaped false true true (Some n) = refl
shaped false true false None = refl
shaped false true false (Some n) = refl
shaped false false bad None = refl
shaped false false bad (Some n) = refl

invalid_is : (t : Toy) (r : Request) (work : Work) (m : Machine) → IsBuilt work → t.source.image.size ≡ size_of m → is_invalid r work m ≡ is_bad t r work
invalid_is t r Read m built size = ap (λ (n : ℕ). nat_lt n (r.offset + r.length) || nat_lt longest r.length) (sym size)
invalid_is t r (Write fua) m built size = ap (λ (n : ℕ). nat_lt n (r.offset + r.length) || nat_lt longest r.length) (sym size)
invalid_is t r (Zero fua no_hole) m built size = absurd built
invalid_is t r Flush m built size = refl
invalid_is t r (Status context one) m built size = absurd built

pub denial_is : (t : Toy) (r : Request) (m : Machine) → IsBuilt r.work → m.exports ≡ [] → m.views ≡ [] → m.gone ≡ [] → t.source.image.size ≡ size_of m → t.broken ≡ m.broken → denial r m ≡ denies t r
unfolding denial
denial_is t r m built exports views gone size broken =
    ap (λ (b : Bool). shape (is_write r.work) b (place_of r.way m) (is_invalid r r.work m) m.broken) (writable r.way m exports views gone)
    ∙ ap (λ (p : Place). shape (is_write r.work) false p (is_invalid r r.work m) m.broken) (place_is r.way m exports views gone)
    ∙ ap (λ (b : Bool). shape (is_write r.work) false (if on_drive r.way then Drive else Nowhere) b m.broken) (invalid_is t r r.work m built size)
    ∙ ap (λ (b : Option ℕ). shape (is_write r.work) false (if on_drive r.way then Drive else Nowhere) (is_bad t r r.work) b) (sym broken)
    ∙ shaped (is_write r.work) (on_drive r.way) (is_bad t r r.work) t.broken

io_in : Option Errno → Bool
io_in None = false
io_in (Some errno) = is_io_errno errno

invalid : (errno : Errno) → Some Invalid ≡ Some errno → is_io_errno errno ≡ false
unfolding io_in
invalid errno is = ap io_in (sym is)

-- EIO is a denial only on a source that is broken
pub denied_counts : (drive bad : Bool) (broken : Option ℕ) (errno : Errno) → by_shape drive bad broken ≡ Some errno → (is_none broken && is_io_errno errno) ≡ false
denied_counts true true None errno is = invalid errno is
denied_counts true true (Some n) errno is = refl
denied_counts true false None errno is = absurd (cc)
denied_counts true false (Some n) errno is = refl
denied_counts false bad None errno is = invalid errno is
denied_counts false bad (Some n) errno is = refl

-- ---- fates

roomy : (t : Toy) (h : History) (r : Request) → lacks_room r (machine_of t h) ≡ false
unfolding lacks_room
roomy t h r = ap (λ (n : ℕ). stores r.work && nat_lt t.source.image.room n) (need_is t.source.image (range_of r)) ∙ never (stores r.work) t.source.image.room
  where
    never : (b : Bool) (room : ℕ) → (b && nat_lt room 0) ≡ false
    never false room = refl
    never true room = grind arith

pub fate_denied : (tr : Trouble) (r : Request) (m : Machine) (errno : Errno) → denial r m ≡ Some errno → fate tr r m ≡ Denied errno
unfolding fate
fate_denied tr r m errno is = rw (is, fate) refl

fate_granted : (tr : Trouble) (r : Request) (m : Machine) → denial r m ≡ None → fate tr r m ≡ fate_by tr.request r m
unfolding fate
fate_granted tr r m is = rw (is, fate) refl

abbrev by_room : RequestEnd → Bool → Bool → Fate
by_room Untouched lacks writes = Lost
by_room Well lacks writes = if lacks then Denied NoSpace else Carried
by_room (Torn bytes) lacks writes = if lacks then Denied NoSpace else if writes then CarriedInPart bytes else Lost

room_by : (end : RequestEnd) (r : Request) (m : Machine) → fate_by end r m ≡ by_room end (lacks_room r m) (is_write r.work)
room_by Untouched r m = refl
room_by Well r m = refl
room_by (Torn bytes) r m = refl

pub fate_is : (tr : Trouble) (t : Toy) (h : History) (r : Request) (work : Work) → r.work ≡ work → denial r (machine_of t h) ≡ None → fate tr r (machine_of t h) ≡ by_room tr.request false (is_write work)
fate_is tr t h r work is none =
    fate_granted tr r (machine_of t h) none ∙ room_by tr.request r (machine_of t h) ∙ ap (λ (b : Bool). by_room tr.request b (is_write r.work)) (roomy t h r)
    ∙ ap (λ (w : Work). by_room tr.request false (is_write w)) is

-- ---- outcomes

abbrev pub reply_with : Toy → History → Reply → Outcome
reply_with t h reply = record { machine = machine_of t h; answer = record { reply = reply; notices = [] } }

module _ (held : List ℕ → Held) (t : Toy) (h : History) (r : Request) where
  pub denied : (tr : Trouble) (errno : Errno) → denial r (machine_of (next t) h) ≡ Some errno → outcome held tr (Guest r) (machine_of t h) ≡ reply_with (next t) h (Fault errno)
  unfolding outcome guest
  denied tr errno is = ap (λ (f : Fate). or_break (breaks_by f tr r.work) (by_fate f tr r (machine_of (next t) h))) (fate_denied tr r (machine_of (next t) h) errno is)

  module _ (none : denial r (machine_of (next t) h) ≡ None) where
    pub wrote : (fua : Bool) → r.work ≡ Write fua → outcome held no_trouble (Guest r) (machine_of t h) ≡ reply_with (next t) (with_entry h (Wrote r.offset r.bytes)) Done
    unfolding outcome guest after_copying after_marking leave
    wrote fua is = ap (λ (f : Fate). or_break (breaks_by f no_trouble r.work) (by_fate f no_trouble r (machine_of (next t) h))) (fate_is no_trouble (next t) h r (Write fua) is none)
        ∙ ap (λ (w : Work). if is_write w then after_writing no_trouble (range_of r) (bytes_of r w) Done (machine_of (next t) h) else answered (granted r w (machine_of (next t) h)) (machine_of (next t) h)) is

    pub tore : (fua : Bool) (left : List ℕ) → r.work ≡ Write fua → outcome held (record no_trouble { request = Torn left }) (Guest r) (machine_of t h) ≡ reply_with (next t) (with_entry h (Wrote r.offset left)) (Fault Io)
    unfolding outcome guest after_copying after_marking leave
    tore fua left is = ap (λ (f : Fate). or_break (breaks_by f (record no_trouble { request = Torn left }) r.work) (by_fate f (record no_trouble { request = Torn left }) r (machine_of (next t) h)))
        (fate_is (record no_trouble { request = Torn left }) (next t) h r (Write fua) is none)

    pub flushed : r.work ≡ Flush → outcome held no_trouble (Guest r) (machine_of t h) ≡ reply_with (next t) h Done
    unfolding outcome guest
    flushed is = ap (λ (f : Fate). or_break (breaks_by f no_trouble r.work) (by_fate f no_trouble r (machine_of (next t) h))) (fate_is no_trouble (next t) h r Flush is none)
        ∙ ap (λ (w : Work). if is_write w then after_writing no_trouble (range_of r) (bytes_of r w) Done (machine_of (next t) h) else answered (granted r w (machine_of (next t) h)) (machine_of (next t) h)) is

    pub broken_by : r.work ≡ Flush → outcome held (record no_trouble { request = Untouched }) (Guest r) (machine_of t h) ≡ reply_with (broke t) h (Fault Io)
    unfolding outcome guest after_break leave
    broken_by is = ap (λ (f : Fate). or_break (breaks_by f (record no_trouble { request = Untouched }) r.work) (by_fate f (record no_trouble { request = Untouched }) r (machine_of (next t) h)))
        (fate_is (record no_trouble { request = Untouched }) (next t) h r Flush is none)
        ∙ ap (λ (w : Work). or_break (breaks_by Lost (record no_trouble { request = Untouched }) w) (answered (Fault Io) (machine_of (next t) h))) is

    pub unread : r.work ≡ Read → outcome held (record no_trouble { request = Untouched }) (Guest r) (machine_of t h) ≡ reply_with (next t) h (Fault Io)
    unfolding outcome guest
    unread is = ap (λ (f : Fate). or_break (breaks_by f (record no_trouble { request = Untouched }) r.work) (by_fate f (record no_trouble { request = Untouched }) r (machine_of (next t) h)))
        (fate_is (record no_trouble { request = Untouched }) (next t) h r Read is none)
        ∙ ap (λ (w : Work). or_break (breaks_by Lost (record no_trouble { request = Untouched }) w) (answered (Fault Io) (machine_of (next t) h))) is

    pub has_read : on_drive r.way ≡ true → r.work ≡ Read → outcome held no_trouble (Guest r) (machine_of t h) ≡ reply_with (next t) h (Content (bytes_at (now h) r))
    unfolding outcome guest
    has_read drive is = ap (λ (f : Fate). or_break (breaks_by f no_trouble r.work) (by_fate f no_trouble r (machine_of (next t) h))) (fate_is no_trouble (next t) h r Read is none)
        ∙ ap (λ (w : Work). if is_write w then after_writing no_trouble (range_of r) (bytes_of r w) Done (machine_of (next t) h) else answered (granted r w (machine_of (next t) h)) (machine_of (next t) h)) is
        ∙ ap (λ (p : Place). answered (Content (read_at p r (machine_of (next t) h))) (machine_of (next t) h)) (place_is r.way (machine_of (next t) h) refl refl refl ∙ ap (λ (b : Bool). if b then Drive else Nowhere) drive)

pub ticked : (held : List ℕ → Held) (t : Toy) (h : History) → outcome held no_trouble Tick (machine_of t h) ≡ reply_with (next t) h Done
unfolding outcome tick
ticked held t h = refl
