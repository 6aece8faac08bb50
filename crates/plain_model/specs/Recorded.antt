-- The lines that say an event, for a record of a run.
use Rattle.std.specs.Prelude.{◌≡◌, ℕ, ◌+◌, ◌-◌, ◌^◌, ◌<◌, ◌≤◌, nat_le, List, [], ◌∷◌, ◌++◌, length, Bool, true, false, Option, Some, None, if◌then◌else◌, codes}
use Rattle.core_events.specs.Events.{Request, Event, Guest, Monitor, Tick}
use Rattle.core_events.specs.declared.events.Way.{Way}
use Rattle.core_events.specs.declared.events.Way.TheVariants.{Node, Export}
use Rattle.core_events.specs.declared.events.Work.{Work}
use Rattle.core_events.specs.declared.events.Work.TheVariants as work
use Rattle.core_events.specs.declared.commands.Command.TheVariants.{QueryJobs, Quit}
use Rattle.core_events.specs.declared.commands.ExportArgs.{ExportArgs}
use Rattle.core_events.specs.declared.answers.Errno.{Errno}
use Rattle.core_events.specs.declared.answers.Errno.TheVariants as errno
use Rattle.core_events.specs.Answers.{Reply, Done, Content, Flags, Fault, Jobs, Nodes, Refused}
use Rattle.script_model.specs.Lines.{Line}
use Rattle.script_model.specs.Lines as script
use Rattle.script_model.specs.Texts.{written_line, script_text}
use Rattle.script_model.specs.Recording.{lines_of_request}
use Rattle.monitor_model.specs.Recorded.{recorded_text}
use Rattle.plain_model.specs.Machine.{Machine}
use Rattle.plain_model.specs.Requests.{export_of}

abbrev pub is_perm_errno : Errno → Bool
is_perm_errno errno.Perm = true
is_perm_errno errno.Io = false
is_perm_errno errno.NoMemory = false
is_perm_errno errno.Invalid = false
is_perm_errno errno.NoSpace = false
is_perm_errno errno.Shutdown = false

-- nothing may be written this way, so no line says the same on the node
abbrev pub is_perm : Reply → Bool
is_perm Done = false
is_perm (Content bytes) = false
is_perm (Flags runs) = false
is_perm (Fault e) = is_perm_errno e
is_perm (Jobs jobs) = false
is_perm (Nodes nodes) = false
is_perm (Refused action refusal) = false

abbrev pub node_of_export : Option ExportArgs → Option (List ℕ)
node_of_export None = None
node_of_export (Some e) = Some e.node

-- the node that a request leads to, by its name
abbrev pub node_of : Way → Machine → Option (List ℕ)
node_of (Node name) m = Some name
node_of (Export name) m = node_of_export (export_of name m)

abbrev pub lines_on : Option (List ℕ) → Request → List Line
lines_on None r = []
lines_on (Some node) r = lines_of_request node r

-- a command has the text of its message on one line
abbrev pub lines_of_message : Option (List ℕ) → List Line
lines_of_message None = []
lines_of_message (Some text) = script.Qmp text ∷ []

-- the lines of an event that was answered so by this machine, where a command came by this message
abbrev pub lines_of_event : Machine → Event → List ℕ → Reply → List Line
lines_of_event m (Guest r) message reply = if is_perm reply then [] else lines_on (node_of r.way m) r
lines_of_event m (Monitor c) message reply = lines_of_message (recorded_text message)
lines_of_event m Tick message reply = script.Tick ∷ []

-- ---- what a recording holds of a run

-- an event with the machine before it, the message that it came by where it is a command, and its reply
pub record Taken : Type 0 where
  pub machine : Machine
  pub event : Event
  pub message : List ℕ
  pub reply : Reply

abbrev pub lines_of_run : List Taken → List Line
lines_of_run [] = []
lines_of_run (t ∷ run) = lines_of_event t.machine t.event t.message t.reply ++ lines_of_run run

-- the lines up to the first that would end past so many bytes
abbrev pub kept_lines : ℕ → List Line → List Line
kept_lines room [] = []
kept_lines room (l ∷ lines) = if nat_le (length (written_line l)) room then l ∷ kept_lines (room - length (written_line l)) lines else []

-- so long a file is at most
abbrev pub longest_recording : ℕ
longest_recording = 2 ^ 62

-- what a recording holds that has room for so many bytes: whole lines, each ended by a line feed
abbrev pub recording_within : ℕ → List Taken → List ℕ
recording_within room run = script_text (kept_lines room (lines_of_run run))

abbrev pub recording_of : List Taken → List ℕ
recording_of run = recording_within longest_recording run

-- these lines are a beginning of the others, they have the room, and the next line doesn't
pub record AreKept (room : ℕ) (kept lines : List Line) : Type 0 where
  pub rest : List Line
  pub whole : lines ≡ kept ++ rest
  pub fit : length (script_text kept) ≤ room
  pub next : (l : Line) (more : List Line) → rest ≡ l ∷ more → room < length (script_text kept) + length (written_line l)

abbrev pub LinesAreKept : Type 0
LinesAreKept = (room : ℕ) (lines : List Line) → AreKept room (kept_lines room lines) lines

-- ---- examples

abbrev pub on_drive : Work → ℕ → ℕ → List ℕ → Event
on_drive work at n bytes = Guest (record { way = Node (codes "drive0"); work = work; offset = at; length = n; bytes = bytes })

abbrev pub taken : Event → List ℕ → Reply → Machine → Taken
taken event message reply m = record { machine = m; event = event; message = message; reply = reply }

abbrev pub short_run : Machine → List Taken
short_run m = taken Tick [] Done m ∷ taken (on_drive (work.Write true) 512 2 (1 ∷ 255 ∷ [])) [] Done m ∷ taken Tick [] Done m ∷ []

pub record Recordings : Type 0 where
  pub fua : (m : Machine) → recording_of (taken (on_drive (work.Write true) 512 2 (1 ∷ 255 ∷ [])) [] Done m ∷ []) ≡ codes "write 512 01ff\nflush\n"
  pub refused_write : (m : Machine) → recording_of (taken (on_drive (work.Write false) 0 1 (7 ∷ [])) [] (Fault errno.Perm) m ∷ taken Tick [] Done m ∷ []) ≡ codes "tick\n"
  pub failed_write : (m : Machine) → recording_of (taken (on_drive (work.Write false) 0 1 (7 ∷ [])) [] (Fault errno.Io) m ∷ []) ≡ codes "write 0 07\n"
  pub with_id : (m : Machine) → recording_of (taken (Monitor Quit) (codes "{\"id\": 7, \"execute\": \"quit\"} ") Done m ∷ []) ≡ codes "qmp {\"execute\":\"quit\",\"id\":7}\n"
  pub line_feed : (m : Machine) → recording_of (taken (Monitor QueryJobs) (codes "{\n\"execute\":\r\n\"query-jobs\",\"id\":\"a\\nb\"}") (Jobs []) m ∷ taken Tick [] Done m ∷ [])
      ≡ codes "qmp {\"execute\":\"query-jobs\",\"id\":\"a\\nb\"}\ntick\n"
  -- 5, 15, 6 and 5 bytes
  pub whole : (m : Machine) → recording_within 31 (short_run m) ≡ codes "tick\nwrite 512 01ff\nflush\ntick\n"
  pub cut : (m : Machine) → recording_within 30 (short_run m) ≡ codes "tick\nwrite 512 01ff\nflush\n"
  pub cut_between : (m : Machine) → recording_within 25 (short_run m) ≡ codes "tick\nwrite 512 01ff\n"
  pub none : (m : Machine) → recording_within 4 (short_run m) ≡ []
