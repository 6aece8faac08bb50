-- What a script gives the machine, and what a run of it prints.
use Rattle.std.specs.Prelude.{ℕ, List, [], ◌∷◌, ◌++◌, map, Bool, true, false, ◌&&◌, if◌then◌else◌, Option, Some, None, Result, Ok, Err, codes}
use Rattle.std.specs.Fmt.{decimal}
use Rattle.hex.specs.Hex.{encode_lower}
use Rattle.serde_json.specs.Data.{Data}
use Rattle.serde_json.specs.Written.{compact_text}
use Rattle.span_algebra.specs.declared.lists.Run.{Run}
use Rattle.core_events.specs.Events.{Event, Guest, Monitor, Tick}
use Rattle.core_events.specs.declared.commands.Command.{Command}
use Rattle.core_events.specs.declared.commands.Command.TheVariants.{Act, Transaction, JobCancel, QueryJobs, QueryNodes, ExportAdd, Quit}
use Rattle.core_events.specs.declared.answers.Errno.{Errno}
use Rattle.core_events.specs.declared.answers.Errno.TheVariants as errno
use Rattle.core_events.specs.declared.answers.Notice.{Notice}
use Rattle.core_events.specs.Answers.{Reply, Done, Content, Flags, Fault, Jobs, Nodes, Refused, Answer}
use Rattle.script_model.specs.Lines.{Line}
use Rattle.script_model.specs.Lines as script
use Rattle.monitor_model.specs.Commands.{Order, Negotiate, RefusedMessage, order_of}
use Rattle.monitor_model.specs.Commands as monitor
use Rattle.monitor_model.specs.Replies.{reply_data, refused_data, notice_data}
use Rattle.plain_model.specs.Machine.{next_number}

-- ---- answer lines

abbrev pub ok_line : List ℕ
ok_line = codes "ok\n"

abbrev pub stopped_line : List ℕ
stopped_line = codes "stopped\n"

-- `data`, and the bytes in lower-case hex unless there are none
abbrev pub data_line : List ℕ → List ℕ
data_line [] = codes "data\n"
data_line (b ∷ bytes) = codes "data " ++ encode_lower (b ∷ bytes) ++ 10 ∷ []

-- a blank, and a run as `LENGTH:FLAGS`
abbrev pub run_text : Run → List ℕ
run_text r = 32 ∷ decimal r.length ++ 58 ∷ decimal r.flags

abbrev pub runs_text : List Run → List ℕ
runs_text [] = []
runs_text (r ∷ runs) = run_text r ++ runs_text runs

abbrev pub status_line : List Run → List ℕ
status_line runs = codes "status" ++ runs_text runs ++ 10 ∷ []

abbrev pub errno_text : Errno → List ℕ
errno_text errno.Perm = codes "EPERM"
errno_text errno.Io = codes "EIO"
errno_text errno.NoMemory = codes "ENOMEM"
errno_text errno.Invalid = codes "EINVAL"
errno_text errno.NoSpace = codes "ENOSPC"
errno_text errno.Shutdown = codes "ESHUTDOWN"

abbrev pub error_line : Errno → List ℕ
error_line e = codes "error " ++ errno_text e ++ 10 ∷ []

-- JSON on a line of its own
abbrev pub json_line : Data → List ℕ
json_line d = compact_text d ++ 10 ∷ []

-- the answer to a request or a tick; commands are answered as JSON
abbrev pub request_line : Reply → List ℕ
request_line Done = ok_line
request_line (Content bytes) = data_line bytes
request_line (Flags runs) = status_line runs
request_line (Fault e) = error_line e
request_line (Jobs jobs) = []
request_line (Nodes nodes) = []
request_line (Refused action refusal) = []

-- notices of a moment in microseconds, one a line
abbrev pub notice_lines : ℕ → List Notice → List ℕ
notice_lines moment [] = []
notice_lines moment (n ∷ notices) = json_line (notice_data moment n) ++ notice_lines moment notices

-- ---- what lines give

-- what the monitor makes of a line's text: a command with the id of its message, or a text that is answered at once
pub data Asked : Type 0 where
  Commands : (command : Command) (id : Option Data) → Asked
  Answers : (reply : Data) → Asked

-- on a script the negotiation counts as done
abbrev pub asked_by : Result Order RefusedMessage → Asked
asked_by (Ok (monitor.Run command id)) = Commands command id
asked_by (Ok (Negotiate id)) = Answers (reply_data id Done)
asked_by (Err refused) = Answers (refused_data refused)

abbrev pub asked_on : List ℕ → Asked
asked_on json = asked_by (order_of true json)

-- how a run ends: stopped by a line, closed by a line or at the script's end, or closed by a command
pub data RunEnd : Type 0 where
  Stops : RunEnd
  Closes : RunEnd
  Quits : RunEnd

-- one line: it gives an event with the id of its message, it is answered at once, it ends the run, or it says nothing
pub data Said : Type 0 where
  Gives : (event : Event) (id : Option Data) → Said
  Replies : (reply : Data) → Said
  Ends : (end : RunEnd) → Said
  Silent : Said

abbrev pub said_to_monitor : Asked → Said
said_to_monitor (Commands command id) = Gives (Monitor command) id
said_to_monitor (Answers reply) = Replies reply

abbrev pub said_by : Line → Said
said_by (script.Ask r) = Gives (Guest r) None
said_by (script.Qmp json) = said_to_monitor (asked_on json)
said_by script.Tick = Gives Tick None
said_by script.Stop = Ends Stops
said_by script.Quit = Ends Closes
said_by script.Nothing = Silent

abbrev pub is_quit_command : Command → Bool
is_quit_command Quit = true
is_quit_command (Act action) = false
is_quit_command (Transaction actions) = false
is_quit_command (JobCancel job) = false
is_quit_command QueryJobs = false
is_quit_command QueryNodes = false
is_quit_command (ExportAdd args) = false

abbrev pub is_quit : Event → Bool
is_quit (Guest r) = false
is_quit (Monitor c) = is_quit_command c
is_quit Tick = false

-- ---- a run

abbrev pub is_done : Reply → Bool
is_done Done = true
is_done (Content bytes) = false
is_done (Flags runs) = false
is_done (Fault e) = false
is_done (Jobs jobs) = false
is_done (Nodes nodes) = false
is_done (Refused action refusal) = false

-- a command to quit ends the run, unless it is refused
abbrev pub ends_run : Event → Answer → Bool
ends_run event a = is_quit event && is_done a.reply

-- The events that the lines give while they are answered so: each that is answered, and one more; none after one that ends the run.
-- A line that is refused, or says nothing, gives none.
abbrev pub events_of : List Said → List Answer → List Event
events_of [] answers = []
events_of (Gives event id ∷ said) [] = event ∷ []
events_of (Gives event id ∷ said) (a ∷ answers) = event ∷ (if ends_run event a then [] else events_of said answers)
events_of (Replies reply ∷ said) answers = events_of said answers
events_of (Ends end ∷ said) answers = []
events_of (Silent ∷ said) answers = events_of said answers

-- the answer to one event, and its notices, whose moment is the event's number in microseconds
abbrev pub answer_text : ℕ → Event → Option Data → Answer → List ℕ
answer_text number (Guest r) id a = request_line a.reply ++ notice_lines number a.notices
answer_text number (Monitor c) id a = json_line (reply_data id a.reply) ++ notice_lines number a.notices
answer_text number Tick id a = request_line a.reply ++ notice_lines number a.notices

-- What is printed at the end, where a closing has these notices: they follow its answer line, and have the moment after the last
-- event's. A command that quits was answered itself. Where the closing is refused nothing is printed here; the status line says why.
abbrev pub end_text : ℕ → RunEnd → Option (List Notice) → List ℕ
end_text number Stops closing = stopped_line
end_text number Closes None = []
end_text number Closes (Some notices) = ok_line ++ notice_lines (next_number number) notices
end_text number Quits None = []
end_text number Quits (Some notices) = notice_lines (next_number number) notices

-- What a run prints from the event of this number on: of each line its answer, up to one that ends the run.
abbrev pub printed_from : ℕ → List Said → List Answer → Option (List Notice) → List ℕ
printed_from number [] answers closing = end_text number Closes closing
printed_from number (Gives event id ∷ said) [] closing = []
printed_from number (Gives event id ∷ said) (a ∷ answers) closing =
    answer_text (next_number number) event id a
    ++ (if ends_run event a then end_text (next_number number) Quits closing else printed_from (next_number number) said answers closing)
printed_from number (Replies reply ∷ said) answers closing = json_line reply ++ printed_from number said answers closing
printed_from number (Ends end ∷ said) answers closing = end_text number end closing
printed_from number (Silent ∷ said) answers closing = printed_from number said answers closing

abbrev pub all_said : List Line → List Said
all_said lines = map said_by lines

-- the events of a script that is answered so, and what its run prints
abbrev pub script_events : List Line → List Answer → List Event
script_events lines answers = events_of (all_said lines) answers

abbrev pub script_output : List Line → List Answer → Option (List Notice) → List ℕ
script_output lines answers closing = printed_from 0 (all_said lines) answers closing
