-- What each event answers, and what it makes of all but the space of the source.
use Rattle.std.specs.Prelude.{ℕ, List, [], ◌∷◌, ◌++◌, map, replicate, Bool, true, false, ◌&&◌, ◌||◌, Option, Some, None, is_some, Result, Ok, Err, if◌then◌else◌, bytes_eq}
use Rattle.std.specs.List.{list_any}
use Rattle.span_algebra.specs.Timelines.{Extent}
use Rattle.bitmap_model.specs.Bitmaps.{after_write}
use Rattle.core_events.specs.Events.{Request, Event, Guest, Monitor, Tick}
use Rattle.core_events.specs.declared.events.Work.{Work}
use Rattle.core_events.specs.declared.events.Work.TheVariants.{Read, Write, Zero, Flush, Status}
use Rattle.core_events.specs.declared.commands.Action.{Action}
use Rattle.core_events.specs.declared.commands.Command.{Command}
use Rattle.core_events.specs.declared.commands.Command.TheVariants.{Act, Transaction, JobCancel, QueryJobs, QueryNodes, ExportAdd, Quit}
use Rattle.core_events.specs.declared.answers.Errno.{Errno}
use Rattle.core_events.specs.declared.answers.Errno.TheVariants.{Io, NoSpace}
use Rattle.core_events.specs.declared.answers.JobFault.TheVariants.{Failed}
use Rattle.core_events.specs.declared.refusals.Refusal.{Refusal}
use Rattle.core_events.specs.declared.refusals.Refusal.TheVariants.{JobUnknown, OutOfMemory}
use Rattle.core_events.specs.Answers.{Reply, Done, Fault, Jobs, Nodes, Refused, Answer}
use Rattle.plain_model.specs.History.{with_entry, Wrote}
use Rattle.plain_model.specs.Jobs.{Job, Tried, has_id, copies, units_before, next_unit, completion}
use Rattle.plain_model.specs.Machine.{Machine, size_of, next_number, runners, job_of}
use Rattle.plain_model.specs.Requests.{denial, lacks_room, granted, is_write, is_flush, range_of}
use Rattle.plain_model.specs.Ending.{Noted, leave, given_back, completed, stop_notices, after_break, cancellation}
use Rattle.plain_model.specs.Actions.{Held, Hindrance, RefusedAt, transact}
use Rattle.plain_model.specs.Queries.{job_infos, node_infos, export_refusal, with_export}

-- ---- what may go wrong in one event

-- how a request went that wasn't denied
pub data RequestEnd : Type 0 where
  Well : RequestEnd
  -- a device call failed for it, and nothing changed
  Untouched : RequestEnd
  -- a device call failed while it was carried out, and its range reads so now
  Torn : (bytes : List ℕ) → RequestEnd

-- How a request went; the unit at which a device call failed for the job or view of an id; whether a table or a refcount of the
-- source wasn't written, or a sync of it failed; and what hindered a command. The rest of the event is computed from it.
pub record Trouble : Type 0 where
  pub request : RequestEnd
  pub failing : List ℕ → Option ℕ
  pub broke : Bool
  pub hindrance : Hindrance

abbrev pub no_trouble : Trouble
no_trouble = record { request = Well; failing = λ id. None; broke = false; hindrance = record { unread = λ name. false; memory = None } }

-- a machine, and an answer
pub record Outcome : Type 0 where
  pub machine : Machine
  pub answer : Answer

abbrev pub answered : Reply → Machine → Outcome
answered reply m = record { machine = m; answer = record { reply = reply; notices = [] } }

abbrev pub with_reply : Reply → Noted → Outcome
with_reply reply n = record { machine = n.machine; answer = record { reply = reply; notices = n.notices } }

-- ---- requests

-- what becomes of a request
pub data Fate : Type 0 where
  -- it is denied, and nothing is done
  Denied : (errno : Errno) → Fate
  -- it meets a device fault, and nothing changed
  Lost : Fate
  -- it is carried out
  Carried : Fate
  -- it meets a device fault while it is carried out, and its range reads so now
  CarriedInPart : (bytes : List ℕ) → Fate

-- a test for room reads tables, so a fault may come in its place
abbrev pub fate_by : RequestEnd → Request → Machine → Fate
fate_by Untouched r m = Lost
fate_by Well r m = if lacks_room r m then Denied NoSpace else Carried
fate_by (Torn bytes) r m = if lacks_room r m then Denied NoSpace else if is_write r.work then CarriedInPart bytes else Lost

unfoldable pub fate : Trouble → Request → Machine → Fate
fate t r m = elim (denial r m) [ Some errno ↦ Denied errno | None ↦ fate_by t.request r m ]

-- a job or a view copies what the range will change
abbrev pub tried_before : Trouble → Extent → ℕ → Job → Tried
tried_before t e size j = copies size (t.failing j.id) (units_before e j) j

-- this id's job or view stopped
abbrev pub has_stopped : List Tried → List ℕ → Bool
has_stopped tries id = list_any (λ (t : Tried). has_id id t.job && is_some t.stop) tries

-- Each job and view copies first. One that can't ends, and the request goes on.
unfoldable pub after_copying : Trouble → Extent → Machine → Noted
after_copying t e m =
    let try : Job → Tried = tried_before t e (size_of m) in
    let tries : List Tried = map try (runners m) in
    record {
      machine = leave given_back (has_stopped tries)
          (record m { jobs = map (λ (j : Job). (try j).job) m.jobs; views = map (λ (j : Job). (try j).job) m.views });
      notices = stop_notices (size_of m) tries m.created;
    }

-- then bitmaps are marked, and then the bytes are written
unfoldable pub after_marking : Extent → List ℕ → Machine → Machine
after_marking e bytes m = record m { bitmaps = after_write e m.bitmaps; history = with_entry m.history (Wrote e.at bytes) }

abbrev pub after_writing : Trouble → Extent → List ℕ → Reply → Machine → Outcome
after_writing t e bytes reply m = with_reply reply (record (after_copying t e m) { machine = after_marking e bytes (after_copying t e m).machine })

-- the bytes that a request writes
abbrev pub bytes_of : Request → Work → List ℕ
bytes_of r Read = []
bytes_of r (Write fua) = r.bytes
bytes_of r (Zero fua no_hole) = replicate r.length 0
bytes_of r Flush = []
bytes_of r (Status context one) = []

abbrev pub by_fate : Fate → Trouble → Request → Machine → Outcome
by_fate (Denied errno) t r m = answered (Fault errno) m
by_fate Lost t r m = answered (Fault Io) m
by_fate Carried t r m = if is_write r.work then after_writing t (range_of r) (bytes_of r r.work) Done m else answered (granted r r.work m) m
by_fate (CarriedInPart bytes) t r m = after_writing t (range_of r) bytes (Fault Io) m

-- The source breaks where a request met a device fault that left a table, a refcount or a sync undone. A flush that fails is a sync.
abbrev pub breaks_by : Fate → Trouble → Work → Bool
breaks_by (Denied errno) t work = false
breaks_by Lost t work = is_flush work || (is_write work && t.broke)
breaks_by Carried t work = false
breaks_by (CarriedInPart bytes) t work = t.broke

abbrev pub or_break : Bool → Outcome → Outcome
or_break b o =
    let noted : Noted = after_break (record { machine = o.machine; notices = o.answer.notices }) in
    if b then with_reply o.answer.reply noted else o

unfoldable pub guest : Trouble → Request → Machine → Outcome
guest t r m = or_break (breaks_by (fate t r m) t r.work) (by_fate (fate t r m) t r m)

-- ---- ticks

abbrev pub is_this : List ℕ → List ℕ → Bool
is_this id other = bytes_eq id other

-- the front job was served, and stands at the back; it leaves where something stopped it
abbrev pub after_try : List Job → Tried → Machine → Outcome
after_try rest tried m = elim tried.stop [
  | None ↦ answered Done (record m { jobs = rest ++ tried.job ∷ [] })
  | Some fault ↦ with_reply Done (record {
    machine = leave given_back (is_this tried.job.id) (record m { jobs = rest ++ tried.job ∷ [] });
    notices = completion (size_of m) (Some fault) tried.job ∷ [];
  })
]

-- the front job is sealed, and completes
abbrev pub after_seal : Job → Machine → Outcome
after_seal j m = with_reply Done (record { machine = leave completed (is_this j.id) m; notices = completion (size_of m) None j ∷ [] })

-- the front job copies its least missing unit, or else is sealed
abbrev pub served : Trouble → Job → List Job → Machine → Outcome
served t j rest m = elim (next_unit j) [
  | Some n ↦ after_try rest (copies (size_of m) (t.failing j.id) (n ∷ []) j) m
  | None ↦ if is_some (t.failing j.id) then after_try rest (record { job = j; stop = Some Failed }) m else after_seal j m
]

abbrev pub tick_of : Trouble → List Job → Machine → Outcome
tick_of t [] m = answered Done m
tick_of t (j ∷ rest) m = served t j rest m

unfoldable pub tick : Trouble → Machine → Outcome
tick t m = tick_of t m.jobs m

-- ---- commands

abbrev pub refused : Option ℕ → Refusal → Machine → Outcome
refused number refusal m = answered (Refused number refusal) m

-- in a transaction that has actions the number of the refused one is told
abbrev pub number_in : List Action → ℕ → Option ℕ
number_in [] k = None
number_in (a ∷ actions) k = Some k

abbrev pub after_transaction : (ℕ → Option ℕ) → Result Machine RefusedAt → Machine → Outcome
after_transaction number (Ok next) m = answered Done next
after_transaction number (Err r) m = refused (number r.action) r.refusal m

-- a job or a live view is cancelled
unfoldable pub after_cancel : List ℕ → Machine → Outcome
after_cancel id m = elim (job_of id (runners m)) [
  | None ↦ refused None (JobUnknown id) m
  | Some j ↦ with_reply Done (record { machine = leave given_back (is_this id) m; notices = cancellation (size_of m) j ∷ [] })
]

-- a command of its own may be refused for want of memory; the actions of a transaction may each
abbrev pub unless_wanting : Option ℕ → Outcome → Machine → Outcome
unless_wanting None o m = o
unless_wanting (Some number) o m = refused None OutOfMemory m

abbrev pub after_export : Option Refusal → Outcome → Machine → Outcome
after_export None o m = o
after_export (Some refusal) o m = refused None refusal m

unfoldable pub command : (List ℕ → Held) → Hindrance → Command → Machine → Outcome
command held h (Act action) m = after_transaction (λ k. None) (transact held h (action ∷ []) m) m
command held h (Transaction actions) m = after_transaction (number_in actions) (transact held h actions m) m
command held h (JobCancel id) m = unless_wanting h.memory (after_cancel id m) m
command held h QueryJobs m = unless_wanting h.memory (answered (Jobs (job_infos m)) m) m
command held h QueryNodes m = unless_wanting h.memory (answered (Nodes (node_infos m)) m) m
command held h (ExportAdd args) m = unless_wanting h.memory (after_export (export_refusal args m) (answered Done (with_export args m)) m) m
command held h Quit m = unless_wanting h.memory (answered Done (record m { ended = true })) m

-- ---- events

abbrev pub by_event : (List ℕ → Held) → Trouble → Event → Machine → Outcome
by_event held t (Guest r) m = guest t r m
by_event held t (Monitor c) m = command held t.hindrance c m
by_event held t Tick m = tick t m

-- the event has the next number
abbrev pub numbered : Machine → Machine
numbered m = record m { event = next_number m.event }

-- the event's answer and the machine after it, the source's space as before
unfoldable pub outcome : (List ℕ → Held) → Trouble → Event → Machine → Outcome
outcome held t event m = by_event held t event (numbered m)
