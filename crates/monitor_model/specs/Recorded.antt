-- What a recording holds of a message to the monitor (QMP).
use Rattle.std.specs.Prelude.{◌≡◌, ℕ, List, Bool, Option, Some, None, option_and_then, if◌then◌else◌, codes}
use Rattle.std.specs.Str.{is_utf8}
use Rattle.serde_json.specs.Data.{Data}
use Rattle.serde_json.specs.Read.{read}
use Rattle.serde_json.specs.Written.{has_float, compact_text}
use Rattle.monitor_model.specs.Commands.{order_of}

abbrev pub recorded_data : Data → Option (List ℕ)
recorded_data d = if has_float d then None else Some (compact_text d)

-- the message on one line: no blanks, members in byte order of their names, each once; none where it is no JSON or has a number that is no whole one of 64 bits
abbrev pub recorded_text : List ℕ → Option (List ℕ)
recorded_text message = if is_utf8 message then option_and_then recorded_data (read message) else None

-- both texts are one order, or are refused alike
abbrev pub ReadsAlike : List ℕ → List ℕ → Type 0
ReadsAlike text message = (negotiated : Bool) → order_of negotiated text ≡ order_of negotiated message

-- examples
pub record RecordedTexts : Type 0 where
  pub with_id : recorded_text (codes "{\"id\": 7, \"execute\": \"quit\"} ") ≡ Some (codes "{\"execute\":\"quit\",\"id\":7}")
  pub out_of_order : recorded_text (codes "{\"execute\":\"block-dirty-bitmap-clear\",\"arguments\":{\"node\":\"drive0\",\"name\":\"b\"}}")
      ≡ Some (codes "{\"arguments\":{\"name\":\"b\",\"node\":\"drive0\"},\"execute\":\"block-dirty-bitmap-clear\"}")
  pub line_feeds : recorded_text (codes "{\n\"execute\":\r\n\t\"query-jobs\",\"id\":\"a\\nb\"}") ≡ Some (codes "{\"execute\":\"query-jobs\",\"id\":\"a\\nb\"}")
  pub member_twice : recorded_text (codes "{\"execute\":\"fly\",\"execute\":\"quit\"}") ≡ Some (codes "{\"execute\":\"quit\"}")
  pub escapes : recorded_text (codes "{\"\\u0065xecute\":\"query\\u002djobs\"}") ≡ Some (codes "{\"execute\":\"query-jobs\"}")
  pub fraction : recorded_text (codes "{\"execute\":\"quit\",\"id\":-0}") ≡ None
  pub no_json : recorded_text (codes "{\"execute\":\"quit\"} {}") ≡ None
