-- Messages of a monitor: the greeting, where they end, and why they are refused.
use Prim.Native.String.{String}
use Rattle.std.specs.Prelude.{◌≡◌, ℕ, List, ◌∷◌, ◌++◌, codes, Bool, true, false, Some, None, Result, Ok, Err}
use Rattle.serde_json.specs.Data.{number, unsigned}
use Rattle.serde_json.specs.Written.{compact_text}
use Rattle.core_events.specs.Answers.{Done}
use Rattle.monitor_model.specs.Commands.{Order, Negotiate, Run, RefusedMessage, order_of}
use Rattle.monitor_model.specs.Commands as commands
use Rattle.monitor_model.specs.Replies.{message_text, greeting_data, reply_data, refused_data}
use Rattle.machine_rows.specs.Commands.{refused}

abbrev pub refusal_of : Result Order RefusedMessage → List ℕ
refusal_of (Ok order) = codes "not refused"
refusal_of (Err r) = compact_text (refused_data r)

-- before the negotiation or after it, the text is refused with this reply
abbrev pub Replies : Bool → List ℕ → List ℕ → Type 0
Replies negotiated json reply = refusal_of (order_of negotiated json) ≡ reply

-- after the negotiation, with this desc and no id
abbrev pub Fails : String → String → Type 0
Fails json desc = Replies true (codes json) (refused desc)

-- the arguments of a command
abbrev pub FailsOn : String → String → String → Type 0
FailsOn command arguments desc = Replies true (codes "{\"execute\":\"" ++ codes command ++ codes "\",\"arguments\":" ++ codes arguments ++ codes "}") (refused desc)

abbrev pub not_found : String → List ℕ
not_found desc = codes "{\"error\":{\"class\":\"CommandNotFound\",\"desc\":\"" ++ codes desc ++ codes "\"}}"

pub record MonitorsNegotiate : Type 0 where
  pub greeting : message_text greeting_data
      ≡ codes "{\"QMP\":{\"capabilities\":[],\"version\":{\"package\":\"qback\",\"qemu\":{\"major\":1,\"micro\":0,\"minor\":0}}}}\r\n"
  pub too_early : Replies false (codes "{\"execute\":\"query-jobs\"}") (codes "{\"error\":{\"class\":\"CommandNotFound\",\"desc\":\"NotNegotiated: query-jobs\"}}")
  pub unknown_early : Replies false (codes "{\"execute\":\"fly\",\"arguments\":{\"x\":1}}") (not_found "NotNegotiated: fly")
  pub member_early : Replies false (codes "{\"execute\":\"query-jobs\",\"x\":1}") (refused "UnknownMember: x")
  pub early_with_id : Replies false (codes "{\"execute\":\"quit\",\"id\":{}}")
      (codes "{\"error\":{\"class\":\"CommandNotFound\",\"desc\":\"NotNegotiated: quit\"},\"id\":{}}")
  pub asked : order_of false (codes "{\"execute\":\"qmp_capabilities\",\"id\":7}") ≡ Ok (Negotiate (Some (number (unsigned 7))))
  pub answered : message_text (reply_data (Some (number (unsigned 7))) Done) ≡ codes "{\"id\":7,\"return\":{}}\r\n"
  pub nothing_enabled : order_of false (codes "{\"execute\":\"qmp_capabilities\",\"arguments\":{\"enable\":[]}}") ≡ Ok (Negotiate None)
  pub something_enabled : Replies false (codes "{\"execute\":\"qmp_capabilities\",\"arguments\":{\"enable\":[\"oob\"]}}") (refused "WrongType: enable")
  pub other_arguments : Replies false (codes "{\"execute\":\"qmp_capabilities\",\"arguments\":{\"x\":1}}") (refused "UnknownMember: x")
  pub asked_again : Replies true (codes "{\"execute\":\"qmp_capabilities\",\"id\":7}") (codes "{\"error\":{\"class\":\"CommandNotFound\",\"desc\":\"UnknownCommand: qmp_capabilities\"},\"id\":7}")

-- in the order of the tests
pub record MessagesAreRefused : Type 0 where
  pub no_text : Fails "" "BadJson"
  pub no_end : Fails "{" "BadJson"
  pub two_texts : Fails "{\"execute\":\"query-jobs\"} {\"execute\":\"query-jobs\"}" "BadJson"
  pub half_of_a_pair : Fails "{\"execute\":\"\\ud800\"}" "BadJson"
  pub huge_number : Fails "{\"execute\":\"query-jobs\",\"id\":1e999}" "BadJson"
  pub leading_zero : Fails "{\"execute\":\"query-jobs\",\"id\":07}" "BadJson"
  pub trailing_comma : Fails "{\"execute\":\"query-jobs\",}" "BadJson"
  pub single_quotes : Fails "{'execute':'query-jobs'}" "BadJson"
  pub no_utf8 : Replies true (codes "{\"execute\":\"query-jobs\",\"id\":\"" ++ 255 ∷ codes "\"}") (refused "BadJson")
  pub no_object : Fails "[]" "NoExecute"
  pub null : Fails "null" "NoExecute"
  pub no_command : Fails "{\"id\":7}" "NoExecute"
  pub command_is_number : Fails "{\"execute\":1,\"id\":1.5}" "NoExecute"
  pub id_with_fraction : Fails "{\"execute\":\"fly\",\"id\":1.5,\"x\":1}" "WrongType: id"
  pub id_with_exponent : Fails "{\"execute\":\"query-jobs\",\"id\":1e3}" "WrongType: id"
  pub id_too_large : Fails "{\"execute\":\"query-jobs\",\"id\":18446744073709551616}" "WrongType: id"
  pub id_too_small : Fails "{\"execute\":\"query-jobs\",\"id\":-9223372036854775809}" "WrongType: id"
  pub id_minus_zero : Fails "{\"execute\":\"query-jobs\",\"id\":-0}" "WrongType: id"
  pub number_in_id : Fails "{\"execute\":\"query-jobs\",\"id\":{\"a\":[1,2.0]}}" "WrongType: id"
  pub unknown_member : Fails "{\"execute\":\"fly\",\"z\":1,\"x\":1,\"arguments\":[]}" "UnknownMember: x"
  pub unknown_control : Fails "{\"execute\":\"query-jobs\",\"\\u0001\":1}" "UnknownMember: \\u0001"
  pub arguments_are_list : Fails "{\"execute\":\"fly\",\"arguments\":[]}" "WrongType: arguments"
  pub arguments_early : Replies false (codes "{\"execute\":\"fly\",\"arguments\":1}") (refused "WrongType: arguments")
  pub unknown_command : Replies true (codes "{\"execute\":\"fly\",\"arguments\":{\"x\":1}}") (not_found "UnknownCommand: fly")
  pub abort_alone : Replies true (codes "{\"execute\":\"abort\"}") (not_found "UnknownCommand: abort")
  pub too_long : compact_text (refused_data (record { fault = commands.TooLong; action = None; id = None })) ≡ refused "TooLong"
  -- with the id where one was read
  pub with_id : Replies true (codes "{\"execute\":\"query-jobs\",\"x\":1,\"id\":\"a\"}") (codes "{\"error\":{\"class\":\"GenericError\",\"desc\":\"UnknownMember: x\"},\"id\":\"a\"}")

pub record ArgumentsAreRefused : Type 0 where
  -- unknown members first, then missing ones, then those of a wrong type, each the least
  pub unknown : FailsOn "block-dirty-bitmap-add" "{\"node\":1,\"z\":1,\"x\":1}" "UnknownMember: x"
  pub missing : FailsOn "block-dirty-bitmap-clear" "{\"node\":\"drive0\"}" "MissingMember: name"
  pub missing_first : FailsOn "block-dirty-bitmap-add" "{\"granularity\":\"x\"}" "MissingMember: name"
  pub wrong : FailsOn "block-dirty-bitmap-add" "{\"node\":1,\"name\":2}" "WrongType: name"
  pub none_given : Fails "{\"execute\":\"job-cancel\"}" "MissingMember: id"
  pub none_wanted : FailsOn "query-jobs" "{\"x\":1}" "UnknownMember: x"
  pub none_to_quit : FailsOn "quit" "{\"id\":1}" "UnknownMember: id"
  pub flat : FailsOn "query-named-block-nodes" "{\"flat\":1}" "WrongType: flat"
  -- a number is a whole one
  pub with_point : FailsOn "block-dirty-bitmap-add" "{\"node\":\"drive0\",\"name\":\"b\",\"granularity\":1.0}" "WrongType: granularity"
  pub negative : FailsOn "block-dirty-bitmap-add" "{\"node\":\"drive0\",\"name\":\"b\",\"granularity\":-1}" "WrongType: granularity"
  pub null : FailsOn "block-dirty-bitmap-add" "{\"node\":\"drive0\",\"name\":\"b\",\"persistent\":null}" "WrongType: persistent"
  -- words of a list
  pub sync : FailsOn "blockdev-backup" "{\"device\":\"drive0\",\"target\":\"t\",\"sync\":\"top\"}" "WrongType: sync"
  pub sync_asks_no_mode : FailsOn "blockdev-backup" "{\"device\":\"drive0\",\"target\":\"t\",\"sync\":[\"bitmap\"]}" "WrongType: sync"
  pub mode : FailsOn "blockdev-backup" "{\"device\":\"drive0\",\"target\":\"t\",\"sync\":\"bitmap\",\"bitmap\":\"b\",\"bitmap-mode\":\"always\"}" "WrongType: bitmap-mode"
  pub mode_needed : FailsOn "blockdev-backup" "{\"device\":\"drive0\",\"target\":\"t\",\"sync\":\"bitmap\",\"bitmap\":\"b\"}" "MissingMember: bitmap-mode"
  pub mode_is_least : FailsOn "blockdev-backup" "{\"sync\":\"bitmap\"}" "MissingMember: bitmap-mode"
  pub sync_needed : FailsOn "blockdev-backup" "{\"device\":\"drive0\",\"target\":\"t\"}" "MissingMember: sync"
  pub export_type : FailsOn "block-export-add" "{\"type\":\"vhost\",\"id\":\"e\",\"node-name\":\"drive0\"}" "WrongType: type"
  pub export_type_needed : FailsOn "block-export-add" "{\"id\":\"e\",\"node-name\":\"drive0\"}" "MissingMember: type"
  pub export_bitmaps : FailsOn "block-export-add" "{\"type\":\"nbd\",\"id\":\"e\",\"node-name\":\"drive0\",\"bitmaps\":[{\"node\":\"drive0\",\"name\":\"b\"}]}" "WrongType: bitmaps"
  -- the sources of a merge, item by item
  pub source : FailsOn "block-dirty-bitmap-merge" "{\"node\":\"drive0\",\"target\":\"b\",\"bitmaps\":[\"a\",7]}" "WrongType: bitmaps"
  pub source_node : FailsOn "block-dirty-bitmap-merge" "{\"node\":\"drive0\",\"target\":\"b\",\"bitmaps\":[{\"name\":\"a\"},{\"x\":1}]}" "MissingMember: node"
  pub source_unknown : FailsOn "block-dirty-bitmap-merge" "{\"node\":\"drive0\",\"target\":\"b\",\"bitmaps\":[\"a\",{\"node\":\"drive0\",\"name\":\"c\"},{\"x\":1}]}" "UnknownMember: x"
  pub source_name : FailsOn "block-dirty-bitmap-merge" "{\"node\":\"drive0\",\"target\":\"b\",\"bitmaps\":[{\"node\":\"drive0\",\"name\":1}]}" "WrongType: name"

pub record TransactionsAreRefused : Type 0 where
  -- the arguments, then the properties, then action by action with its number
  pub no_actions : FailsOn "transaction" "{\"properties\":1}" "MissingMember: actions"
  pub no_list : FailsOn "transaction" "{\"actions\":{}}" "WrongType: actions"
  pub no_object : FailsOn "transaction" "{\"actions\":[{\"type\":\"abort\"},1]}" "WrongType: actions"
  pub properties : FailsOn "transaction" "{\"actions\":[{}],\"properties\":1}" "WrongType: properties"
  pub unknown_property : FailsOn "transaction" "{\"actions\":[{}],\"properties\":{\"x\":1}}" "UnknownMember: x"
  pub grouped : FailsOn "transaction" "{\"actions\":[{}],\"properties\":{\"completion-mode\":\"grouped\"}}" "WrongType: completion-mode"
  pub no_members : FailsOn "transaction" "{\"actions\":[{}],\"properties\":{\"completion-mode\":\"individual\"}}" "action 0: MissingMember: data"
  pub no_type : FailsOn "transaction" "{\"actions\":[{\"data\":{}}]}" "action 0: MissingMember: type"
  pub type_is_number : FailsOn "transaction" "{\"actions\":[{\"type\":1,\"data\":2}]}" "action 0: WrongType: data"
  pub own_member : FailsOn "transaction" "{\"actions\":[{\"type\":\"abort\",\"data\":{}},{\"type\":\"fly\",\"x\":1}]}" "action 1: UnknownMember: x"
  pub unknown_type : FailsOn "transaction" "{\"actions\":[{\"type\":\"abort\",\"data\":{}},{\"type\":\"job-cancel\",\"data\":{\"x\":1}}]}" "action 1: UnknownAction: job-cancel"
  pub data_of_action : FailsOn "transaction" "{\"actions\":[{\"type\":\"block-dirty-bitmap-clear\",\"data\":{\"node\":\"drive0\"}},{\"type\":\"fly\",\"data\":{}}]}" "action 0: MissingMember: name"
  pub abort_has_none : FailsOn "transaction" "{\"actions\":[{\"type\":\"abort\",\"data\":{\"x\":1}}]}" "action 0: UnknownMember: x"
  pub source : FailsOn "transaction" "{\"actions\":[{\"type\":\"block-dirty-bitmap-merge\",\"data\":{\"node\":\"drive0\",\"target\":\"b\",\"bitmaps\":[{\"name\":\"a\"}]}}]}" "action 0: MissingMember: node"
  pub mode_needed : FailsOn "transaction" "{\"actions\":[{\"type\":\"blockdev-backup\",\"data\":{\"device\":\"drive0\",\"target\":\"t\",\"sync\":\"bitmap\"}}]}" "action 0: MissingMember: bitmap-mode"
  pub with_id : Replies true (codes "{\"id\":[],\"execute\":\"transaction\",\"arguments\":{\"actions\":[{\"type\":\"fly\",\"data\":{}}]}}") (codes "{\"error\":{\"class\":\"GenericError\",\"desc\":\"action 0: UnknownAction: fly\"},\"id\":[]}")
