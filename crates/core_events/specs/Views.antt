-- The value of an event or an answer, without where it lies in memory.
use Rattle.std.specs.Prelude.{ℕ, List}
use Rattle.span_algebra.specs.declared.lists.Run.{Run}
use Rattle.core_events.specs.Events as events
use Rattle.core_events.specs.Answers as answers
use Rattle.core_events.specs.declared.events.Request.{Request}
use Rattle.core_events.specs.declared.events.Event.{Event}
use Rattle.core_events.specs.declared.events.Event.TheVariants.{Guest, Monitor, Tick}
use Rattle.core_events.specs.declared.answers.Answer.{Answer}
use Rattle.core_events.specs.declared.answers.Reply.{Reply}
use Rattle.core_events.specs.declared.answers.Reply.TheVariants.{Done, Bytes, Runs, Fault, Jobs, Nodes, Refused}

abbrev pub plain_request : Request → events.Request
plain_request r = record { way = r.way; work = r.work; offset = r.offset; length = r.length; bytes = r.bytes.items.items }

abbrev pub plain_event : Event → events.Event
plain_event (Guest request) = events.Guest (plain_request request)
plain_event (Monitor command) = events.Monitor command
plain_event Tick = events.Tick

-- a reply of an answer that has these bytes and these runs
abbrev pub plain_reply : Reply → List ℕ → List Run → answers.Reply
plain_reply Done bytes runs = answers.Done
plain_reply Bytes bytes runs = answers.Content bytes
plain_reply Runs bytes runs = answers.Flags runs
plain_reply (Fault errno) bytes runs = answers.Fault errno
plain_reply (Jobs jobs) bytes runs = answers.Jobs jobs
plain_reply (Nodes nodes) bytes runs = answers.Nodes nodes
plain_reply (Refused action refusal) bytes runs = answers.Refused action refusal

abbrev pub plain_answer : Answer → answers.Answer
plain_answer a = record { reply = plain_reply a.reply a.bytes.items.items a.runs.items.items; notices = a.notices.items.items }
