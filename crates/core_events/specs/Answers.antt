-- Answers without memory, and the room in an answer that an event may need.
use Rattle.std.specs.Prelude.{◌≡◌, ℕ, ◌≤◌, ◌^◌, List, [], Option, nat_le, if◌then◌else◌, vec_capacity}
use Rattle.span_algebra.specs.declared.lists.Run.{Run}
use Rattle.core_events.specs.declared.infos.JobInfo.{JobInfo}
use Rattle.core_events.specs.declared.infos.NodeInfo.{NodeInfo}
use Rattle.core_events.specs.declared.refusals.Refusal.{Refusal}
use Rattle.core_events.specs.declared.answers.Errno.{Errno}
use Rattle.core_events.specs.declared.answers.Notice.{Notice}
use Rattle.core_events.specs.declared.answers.Answer as declared
use Rattle.core_events.specs.declared.answers.Reply.TheVariants as reply
use Rattle.core_events.specs.declared.events.Work.{Work}
use Rattle.core_events.specs.declared.events.Work.TheVariants.{Read, Write, Zero, Flush, Status}
use Rattle.core_events.specs.declared.events.Event.{Event}
use Rattle.core_events.specs.declared.events.Event.TheVariants.{Guest, Monitor, Tick}

-- the reply to an event, with the bytes or the runs that it brings
pub data Reply : Type 0 where
  Done : Reply
  Content : (bytes : List ℕ) → Reply
  Flags : (runs : List Run) → Reply
  Fault : (errno : Errno) → Reply
  Jobs : (jobs : List JobInfo) → Reply
  Nodes : (nodes : List NodeInfo) → Reply
  Refused : (action : Option ℕ) (refusal : Refusal) → Reply

-- a reply, and the notices after it
pub record Answer : Type 0 where
  pub reply : Reply
  pub notices : List Notice

-- how many bytes a request of this length may bring: a read its length, up to 2^25
abbrev pub bytes_of_work : Work → ℕ → ℕ
bytes_of_work Read length = if nat_le length (2 ^ 25) then length else 0
bytes_of_work (Write fua) length = 0
bytes_of_work (Zero fua no_hole) length = 0
bytes_of_work Flush length = 0
bytes_of_work (Status context one) length = 0

-- how many runs a request may bring: a status 1024
abbrev pub runs_of_work : Work → ℕ
runs_of_work Read = 0
runs_of_work (Write fua) = 0
runs_of_work (Zero fua no_hole) = 0
runs_of_work Flush = 0
runs_of_work (Status context one) = 1024

-- how many bytes an event may bring
abbrev pub bytes_needed : Event → ℕ
bytes_needed (Guest request) = bytes_of_work request.work request.length
bytes_needed (Monitor command) = 0
bytes_needed Tick = 0

-- how many runs an event may bring
abbrev pub runs_needed : Event → ℕ
runs_needed (Guest request) = runs_of_work request.work
runs_needed (Monitor command) = 0
runs_needed Tick = 0

-- room for the notices of any event: twice as many as jobs and views can end in one
abbrev pub notices_needed : ℕ
notices_needed = 16

-- the answer has the room that the event may need
pub record Fits (answer : declared.Answer) (event : Event) : Type 0 where
  pub bytes : bytes_needed event ≤ vec_capacity answer.bytes.items
  pub runs : runs_needed event ≤ vec_capacity answer.runs.items
  pub notices : notices_needed ≤ vec_capacity answer.notices.items

-- the answer has room for so many bytes, for the runs of a status and for an event's notices
pub record HasRoom (count : ℕ) (answer : declared.Answer) : Type 0 where
  pub bytes : count ≤ vec_capacity answer.bytes.items
  pub runs : 1024 ≤ vec_capacity answer.runs.items
  pub notices : notices_needed ≤ vec_capacity answer.notices.items

-- the answer says that it is done, and nothing else
pub record IsEmptyAnswer (answer : declared.Answer) : Type 0 where
  pub reply : answer.reply ≡ reply.Done
  pub bytes : answer.bytes.items.items ≡ []
  pub runs : answer.runs.items.items ≡ []
  pub notices : answer.notices.items.items ≡ []

-- what stood in the answer stands there still
pub record KeepsContents (old new : declared.Answer) : Type 0 where
  pub reply : new.reply ≡ old.reply
  pub bytes : new.bytes.items.items ≡ old.bytes.items.items
  pub runs : new.runs.items.items ≡ old.runs.items.items
  pub notices : new.notices.items.items ≡ old.notices.items.items

-- each list of the answer has the room that it had, or more
pub record KeepsRoom (old new : declared.Answer) : Type 0 where
  pub bytes : vec_capacity old.bytes.items ≤ vec_capacity new.bytes.items
  pub runs : vec_capacity old.runs.items ≤ vec_capacity new.runs.items
  pub notices : vec_capacity old.notices.items ≤ vec_capacity new.notices.items
