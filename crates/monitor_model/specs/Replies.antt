-- What the monitor is sent: the greeting, replies and notices, as JSON with members in byte order of their names (QMP).
use Rattle.std.specs.Prelude.{ℕ, ◌/◌, ◌%◌, List, [], ◌∷◌, ◌++◌, Option, Some, None, codes}
use Rattle.std.specs.Fmt.{decimal}
use Rattle.serde_json.specs.Data.{Data, boolean, number, string, array, object, unsigned, Items, no_items, item, Members, no_members, member}
use Rattle.serde_json.specs.Written.{compact_text}
use Rattle.span_algebra.specs.declared.points.Point.{Point}
use Rattle.span_algebra.specs.declared.points.End.{End}
use Rattle.span_algebra.specs.declared.points.End.TheVariants.{Now, At}
use Rattle.span_algebra.specs.declared.spans.Span.{Span}
use Rattle.span_algebra.specs.declared.spans.Span.TheVariants.{Unknown, Known}
use Rattle.core_events.specs.declared.infos.JobInfo.{JobInfo}
use Rattle.core_events.specs.declared.infos.BitmapInfo.{BitmapInfo}
use Rattle.core_events.specs.declared.infos.NodeInfo.{NodeInfo}
use Rattle.core_events.specs.declared.refusals.Refusal.{Refusal}
use Rattle.core_events.specs.declared.refusals.Refusal.TheVariants as refusals
use Rattle.core_events.specs.declared.answers.JobFault.{JobFault}
use Rattle.core_events.specs.declared.answers.JobFault.TheVariants.{Failed, NoRoom, SourceBroken}
use Rattle.core_events.specs.declared.answers.Notice.{Notice}
use Rattle.core_events.specs.declared.answers.Notice.TheVariants.{Completed, Cancelled}
use Rattle.monitor_model.specs.Commands.{Fault, BadJson, NoExecute, WrongType, UnknownMember, NotNegotiated, UnknownCommand, MissingMember, UnknownAction, TooLong, RefusedMessage}
use Rattle.core_events.specs.Answers.{Reply, Done, Content, Flags, Jobs, Nodes, Refused}
use Rattle.core_events.specs.Answers as answers

-- ---- parts

abbrev pub count : ℕ → Data
count n = number (unsigned n)

abbrev pub text : List ℕ → Data
text s = string s

-- one member in front of others
abbrev pub with : List ℕ → Data → Members → Members
with name d ms = member name d ms

-- ---- refusals

abbrev pub named : List ℕ → List ℕ → List ℕ
named name value = name ++ codes ": " ++ value

-- the name of a refusal, and its value where it has one
abbrev pub refusal_text : Refusal → List ℕ
refusal_text (refusals.Unbuilt word) = named (codes "Unbuilt") word
refusal_text refusals.SerialSpent = codes "SerialSpent"
refusal_text (refusals.NodeUnknown node) = named (codes "NodeUnknown") node
refusal_text refusals.BadName = codes "BadName"
refusal_text (refusals.NameTaken name) = named (codes "NameTaken") name
refusal_text (refusals.TooMany n) = named (codes "TooMany") (decimal n)
refusal_text (refusals.BadGranularity n) = named (codes "BadGranularity") (decimal n)
refusal_text (refusals.TooFine n) = named (codes "TooFine") (decimal n)
refusal_text (refusals.NoSuchBitmap name) = named (codes "NoSuchBitmap") name
refusal_text (refusals.Busy name) = named (codes "Busy") name
refusal_text (refusals.Inconsistent name) = named (codes "Inconsistent") name
refusal_text (refusals.JobTaken id) = named (codes "JobTaken") id
refusal_text (refusals.TooManyJobs n) = named (codes "TooManyJobs") (decimal n)
refusal_text refusals.BitmapNeeded = codes "BitmapNeeded"
refusal_text (refusals.BitmapForbidden word) = named (codes "BitmapForbidden") word
refusal_text (refusals.SourceBroken event) = named (codes "SourceBroken") (decimal event)
refusal_text (refusals.TargetBusy target) = named (codes "TargetBusy") target
refusal_text (refusals.DeviceFailed target) = named (codes "DeviceFailed") target
refusal_text (refusals.TargetMissing target) = named (codes "TargetMissing") target
refusal_text (refusals.TargetFault reason) = named (codes "TargetFault") reason
refusal_text (refusals.TargetUsed target) = named (codes "TargetUsed") target
refusal_text (refusals.OtherSize target) = named (codes "OtherSize") target
refusal_text refusals.Aborted = codes "Aborted"
refusal_text (refusals.JobUnknown id) = named (codes "JobUnknown") id
refusal_text (refusals.ReadOnlyNode node) = named (codes "ReadOnlyNode") node
refusal_text (refusals.ExportTaken name) = named (codes "ExportTaken") name
refusal_text (refusals.TooManyExports n) = named (codes "TooManyExports") (decimal n)
refusal_text refusals.OutOfMemory = codes "OutOfMemory"

-- what is said of action k of a transaction
abbrev pub of_action : Option ℕ → List ℕ → List ℕ
of_action None desc = desc
of_action (Some k) desc = codes "action " ++ decimal k ++ codes ": " ++ desc

abbrev pub error : List ℕ → List ℕ → Data
error class desc = object (with (codes "class") (text class) (with (codes "desc") (text desc) no_members))

abbrev pub generic : List ℕ
generic = codes "GenericError"

-- ---- replies

-- with the id of the message, where it had one
abbrev pub returned : Option Data → Data → Data
returned None d = object (with (codes "return") d no_members)
returned (Some id) d = object (with (codes "id") id (with (codes "return") d no_members))

abbrev pub failed : Option Data → Data → Data
failed None e = object (with (codes "error") e no_members)
failed (Some id) e = object (with (codes "error") e (with (codes "id") id no_members))

abbrev pub point_text : Point → List ℕ
point_text p = decimal p.epoch ++ 46 ∷ decimal p.serial

abbrev pub end_text : End → List ℕ
end_text Now = codes "now"
end_text (At p) = point_text p

abbrev pub span_text : Span → List ℕ
span_text Unknown = codes "unknown"
span_text (Known from to) = point_text from ++ 32 ∷ end_text to

abbrev pub job_data : JobInfo → Data
job_data j = object (
    with (codes "current-progress") (count j.current)
    (with (codes "id") (text j.id)
    (with (codes "status") (text (codes "running"))
    (with (codes "total-progress") (count j.total)
    (with (codes "type") (text (codes "backup")) no_members)))))

abbrev pub bitmap_data : BitmapInfo → Data
bitmap_data b = object (
    with (codes "busy") (boolean b.busy)
    (with (codes "count") (count b.count)
    (with (codes "granularity") (count b.granularity)
    (with (codes "inconsistent") (boolean b.inconsistent)
    (with (codes "name") (text b.name)
    (with (codes "persistent") (boolean b.persistent)
    (with (codes "recording") (boolean b.recording)
    (with (codes "x-span") (text (span_text b.span)) no_members))))))))

abbrev pub job_items : List JobInfo → Items
job_items [] = no_items
job_items (j ∷ jobs) = item (job_data j) (job_items jobs)

abbrev pub bitmap_items : List BitmapInfo → Items
bitmap_items [] = no_items
bitmap_items (b ∷ bitmaps) = item (bitmap_data b) (bitmap_items bitmaps)

-- the event at which the drive broke, where it did
abbrev pub broken_member : Option ℕ → Members
broken_member None = no_members
broken_member (Some event) = with (codes "x-broken-at") (count event) no_members

abbrev pub node_members : NodeInfo → Members
node_members n =
    with (codes "image") (object (with (codes "virtual-size") (count n.size) no_members))
    (with (codes "node-name") (text n.name) (broken_member n.broken_at))

-- a view has no list of bitmaps
abbrev pub with_bitmaps : Option (List BitmapInfo) → Members → Members
with_bitmaps None ms = ms
with_bitmaps (Some bitmaps) ms = with (codes "dirty-bitmaps") (array (bitmap_items bitmaps)) ms

abbrev pub node_data : NodeInfo → Data
node_data n = object (with_bitmaps n.bitmaps (node_members n))

abbrev pub node_items : List NodeInfo → Items
node_items [] = no_items
node_items (n ∷ nodes) = item (node_data n) (node_items nodes)

-- the reply to a command; a guest's requests have none here
abbrev pub reply_data : Option Data → Reply → Data
reply_data id Done = returned id (object no_members)
reply_data id (Content bytes) = returned id (object no_members)
reply_data id (Flags runs) = returned id (object no_members)
reply_data id (answers.Fault errno) = returned id (object no_members)
reply_data id (Jobs jobs) = returned id (array (job_items jobs))
reply_data id (Nodes nodes) = returned id (array (node_items nodes))
reply_data id (Refused action refusal) = failed id (error generic (of_action action (refusal_text refusal)))

-- ---- notices

-- a moment in microseconds
abbrev pub timestamp : ℕ → Data
timestamp moment = object (with (codes "microseconds") (count (moment % 1000000)) (with (codes "seconds") (count (moment / 1000000)) no_members))

abbrev pub fault_text : JobFault → List ℕ
fault_text Failed = codes "Failed"
fault_text NoRoom = codes "NoRoom"
fault_text SourceBroken = codes "SourceBroken"

abbrev pub with_error : Option JobFault → Members → Members
with_error None ms = ms
with_error (Some fault) ms = with (codes "error") (text (fault_text fault)) ms

abbrev pub job_event : List ℕ → List ℕ → Option JobFault → ℕ → ℕ → ℕ → Data
job_event name job fault length offset moment = object (
    with (codes "data") (object (with (codes "device") (text job) (with_error fault
    (with (codes "len") (count length)
    (with (codes "offset") (count offset)
    (with (codes "speed") (count 0)
    (with (codes "type") (text (codes "backup")) no_members)))))))
    (with (codes "event") (text name)
    (with (codes "timestamp") (timestamp moment) no_members)))

abbrev pub notice_data : ℕ → Notice → Data
notice_data moment (Completed job length offset fault) = job_event (codes "BLOCK_JOB_COMPLETED") job fault length offset moment
notice_data moment (Cancelled job length offset) = job_event (codes "BLOCK_JOB_CANCELLED") job None length offset moment

-- ---- the greeting

abbrev pub version_data : Data
version_data = object (
    with (codes "package") (text (codes "qback"))
    (with (codes "qemu") (object (with (codes "major") (count 1) (with (codes "micro") (count 0) (with (codes "minor") (count 0) no_members)))) no_members))

abbrev pub greeting_data : Data
greeting_data = object (with (codes "QMP") (object (with (codes "capabilities") (array no_items) (with (codes "version") version_data no_members))) no_members)

-- a message as it is sent, ended by CR LF
abbrev pub message_text : Data → List ℕ
message_text d = compact_text d ++ 13 ∷ 10 ∷ []

-- ---- refused messages

abbrev pub message_fault_text : Fault → List ℕ
message_fault_text BadJson = codes "BadJson"
message_fault_text NoExecute = codes "NoExecute"
message_fault_text (WrongType name) = named (codes "WrongType") name
message_fault_text (UnknownMember name) = named (codes "UnknownMember") name
message_fault_text (NotNegotiated command) = named (codes "NotNegotiated") command
message_fault_text (UnknownCommand command) = named (codes "UnknownCommand") command
message_fault_text (MissingMember name) = named (codes "MissingMember") name
message_fault_text (UnknownAction kind) = named (codes "UnknownAction") kind
message_fault_text TooLong = codes "TooLong"

abbrev pub fault_class : Fault → List ℕ
fault_class BadJson = generic
fault_class NoExecute = generic
fault_class (WrongType name) = generic
fault_class (UnknownMember name) = generic
fault_class (NotNegotiated command) = codes "CommandNotFound"
fault_class (UnknownCommand command) = codes "CommandNotFound"
fault_class (MissingMember name) = generic
fault_class (UnknownAction kind) = generic
fault_class TooLong = generic

-- the reply to a message that is refused
abbrev pub refused_data : RefusedMessage → Data
refused_data r = failed r.id (error (fault_class r.fault) (of_action r.action (message_fault_text r.fault)))
