-- Whose names are text, and what is put behind the bytes to send.
use Rattle.std.specs.Prelude.{◌≡◌, ℕ, List, ◌++◌, Option, Some, None, option_map, All, IsUtf8}
use Rattle.std.specs.Str.Lossy.{utf8_lossy}
use Rattle.serde_json.specs.Data.{Data}
use Rattle.serde_json.specs.Written.{compact_text}
use Rattle.core_events.specs.declared.infos.BitmapInfo.{BitmapInfo}
use Rattle.core_events.specs.declared.infos.NodeInfo.{NodeInfo}
use Rattle.core_events.specs.declared.answers.Notice.{Notice}
use Rattle.core_events.specs.declared.answers.Notice.TheVariants.{Completed, Cancelled}
use Rattle.core_events.specs.Answers.{Reply, Done, Content, Flags, Fault, Jobs, Nodes, Refused}
use Rattle.monitor_model.specs.Replies.{message_text, refusal_text, failed, error, of_action}

-- ---- names that are text

abbrev pub BitmapsAreText : Option (List BitmapInfo) → Type 0
BitmapsAreText None = Unit {0}
BitmapsAreText (Some bitmaps) = All (λ b. IsUtf8 b.name) bitmaps

pub record NodeIsText (n : NodeInfo) : Type 0 where
  pub name : IsUtf8 n.name
  pub bitmaps : BitmapsAreText n.bitmaps

-- each name in the reply is UTF-8; of a refusal the name in its text
abbrev pub AreText : Reply → Type 0
AreText Done = Unit {0}
AreText (Content bytes) = Unit {0}
AreText (Flags runs) = Unit {0}
AreText (Fault errno) = Unit {0}
AreText (Jobs jobs) = All (λ j. IsUtf8 j.id) jobs
AreText (Nodes nodes) = All NodeIsText nodes
AreText (Refused action refusal) = IsUtf8 (refusal_text refusal)

-- the job's name is UTF-8
abbrev pub NoticeIsText : Notice → Type 0
NoticeIsText (Completed job length offset fault) = IsUtf8 job
NoticeIsText (Cancelled job length offset) = IsUtf8 job

-- ---- names that may be none

-- the notice with U+FFFD for each part of the job's name that isn't UTF-8
abbrev pub told_notice : Notice → Notice
told_notice (Completed job length offset fault) = Completed (utf8_lossy job) length offset fault
told_notice (Cancelled job length offset) = Cancelled (utf8_lossy job) length offset

-- a refusal of this class, with U+FFFD for each part of its text that isn't UTF-8
abbrev pub refusal_data : List ℕ → Option ℕ → List ℕ → Option Data → Data
refusal_data class action said id = failed id (error class (of_action action (utf8_lossy said)))

-- ---- what is sent

-- behind the bytes stands the message with the id that has this text, where there is one
abbrev pub Adds : List ℕ → List ℕ → Option (List ℕ) → (Option Data → Data) → Type 0
Adds old new id message = (d : Option Data) → option_map compact_text d ≡ id → new ≡ old ++ message_text (message d)
