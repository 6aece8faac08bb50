-- Messages that are taken: what they command, their ids, and where they end in a stream.
use Rattle.std.specs.Prelude.{◌≡◌, ℕ, ◌+◌, ◌-◌, ◌^◌, List, [], ◌∷◌, ◌++◌, replicate, codes, true, false, Some, None, Ok}
use Rattle.core_events.specs.declared.commands.Command.TheVariants.{Act, QueryJobs, ExportAdd, Transaction, Quit}
use Rattle.core_events.specs.declared.commands.Action.TheVariants.{Add, Merge, Backup, Abort}
use Rattle.core_events.specs.declared.commands.Mode.TheVariants.{Never}
use Rattle.core_events.specs.declared.commands.SyncKind.TheVariants.{Full, Bitmap}
use Rattle.monitor_model.specs.Messages.{More, Message, TooLong, cut_of, cut_at}
use Rattle.monitor_model.specs.Commands.{Run, order_of}
use Rattle.script_model.specs.Lines.{drive}
use Rattle.machine_rows.specs.Play.{qmp}
use Rattle.machine_rows.specs.Commands.{refused, Prints}

pub record MessagesAreCommands : Type 0 where
  pub defaults_of_add : order_of true (codes "{\"execute\":\"block-dirty-bitmap-add\",\"arguments\":{\"node\":\"drive0\",\"name\":\"b\"}}")
      ≡ Ok (Run (Act (Add drive (codes "b") None false true)) None)
  pub given_to_add : order_of true (codes "{\"arguments\":{\"disabled\":true,\"granularity\":512,\"name\":\"b\",\"node\":\"w\",\"persistent\":true},\"execute\":\"block-dirty-bitmap-add\"}")
      ≡ Ok (Run (Act (Add (codes "w") (codes "b") (Some 512) true false)) None)
  -- a job's id is the device where none is given
  pub defaults_of_backup : order_of true (codes "{\"execute\":\"blockdev-backup\",\"arguments\":{\"device\":\"drive0\",\"sync\":\"full\",\"target\":\"t0\"}}")
      ≡ Ok (Run (Act (Backup (record { job = drive; device = drive; target = codes "t0"; sync = Full; bitmap = None; mode = None }))) None)
  pub given_to_backup : order_of true (codes "{\"execute\":\"blockdev-backup\",\"arguments\":{\"device\":\"drive0\",\"sync\":\"bitmap\",\"target\":\"t0\",\"job-id\":\"j0\",\"bitmap\":\"b\",\"bitmap-mode\":\"never\"}}")
      ≡ Ok (Run (Act (Backup (record { job = codes "j0"; device = drive; target = codes "t0"; sync = Bitmap; bitmap = Some (codes "b"); mode = Some Never }))) None)
  pub sources_of_merge : order_of true (codes "{\"execute\":\"block-dirty-bitmap-merge\",\"arguments\":{\"node\":\"drive0\",\"target\":\"b\",\"bitmaps\":[\"a\",{\"node\":\"w\",\"name\":\"c\"}]}}")
      ≡ Ok (Run (Act (Merge drive (codes "b") (record { node = None; name = codes "a" } ∷ record { node = Some (codes "w"); name = codes "c" } ∷ []))) None)
  pub actions : order_of true (codes "{\"execute\":\"transaction\",\"arguments\":{\"actions\":[{\"type\":\"block-dirty-bitmap-add\",\"data\":{\"node\":\"drive0\",\"name\":\"b\"}},{\"type\":\"abort\",\"data\":{}}],\"properties\":{\"completion-mode\":\"individual\"}}}")
      ≡ Ok (Run (Transaction (Add drive (codes "b") None false true ∷ Abort ∷ [])) None)
  pub no_actions : order_of true (codes "{\"execute\":\"transaction\",\"arguments\":{\"actions\":[],\"properties\":{}}}") ≡ Ok (Run (Transaction []) None)
  -- an export has its node's name where none is given
  pub defaults_of_export : order_of true (codes "{\"execute\":\"block-export-add\",\"arguments\":{\"type\":\"nbd\",\"id\":\"e\",\"node-name\":\"drive0\"}}")
      ≡ Ok (Run (ExportAdd (record { id = codes "e"; node = drive; name = drive; writable = false; bitmaps = [] })) None)
  pub given_to_export : order_of true (codes "{\"execute\":\"block-export-add\",\"arguments\":{\"type\":\"nbd\",\"id\":\"e\",\"node-name\":\"drive0\",\"name\":\"v\",\"writable\":true,\"bitmaps\":[\"b\"]}}")
      ≡ Ok (Run (ExportAdd (record { id = codes "e"; node = drive; name = codes "v"; writable = true; bitmaps = record { node = None; name = codes "b" } ∷ [] })) None)
  pub quit : order_of true (codes "{\"execute\":\"quit\",\"arguments\":{}}") ≡ Ok (Run Quit None)
  -- of two members of one name the last stands
  pub member_twice : order_of true (codes "{\"execute\":\"fly\",\"execute\":\"query-jobs\"}") ≡ Ok (Run QueryJobs None)
  pub blanks : order_of true (codes " { \"execute\" :\t\"query-jobs\" ,\r\n\"arguments\" : { } } ") ≡ Ok (Run QueryJobs None)
  pub escapes : order_of true (codes "{\"\\u0065xecute\":\"query\\u002djobs\"}") ≡ Ok (Run QueryJobs None)

pub record IdsAreEchoed : Type 0 where
  pub whole_numbers : Prints (qmp (codes "{\"execute\":\"query-jobs\",\"id\":18446744073709551615}")
      ∷ qmp (codes "{\"execute\":\"query-jobs\",\"id\":-9223372036854775808}") ∷ [])
      (codes "{\"id\":18446744073709551615,\"return\":[]}" ∷ codes "{\"id\":-9223372036854775808,\"return\":[]}" ∷ codes "ok" ∷ [])
  pub null : Prints (qmp (codes "{\"execute\":\"query-jobs\",\"id\":null}") ∷ []) (codes "{\"id\":null,\"return\":[]}" ∷ codes "ok" ∷ [])
  -- any value, in its compact form
  pub values : Prints (qmp (codes "{\"execute\":\"query-jobs\",\"id\":{ \"b\": [true, \"x y\"], \"a\": {} }}")
      ∷ qmp (codes "{\"id\":\"i\",\"execute\":\"job-cancel\",\"arguments\":{\"id\":\"j0\"}}") ∷ [])
      (codes "{\"id\":{\"a\":{},\"b\":[true,\"x y\"]},\"return\":[]}"
      ∷ codes "{\"error\":{\"class\":\"GenericError\",\"desc\":\"JobUnknown: j0\"},\"id\":\"i\"}" ∷ codes "ok" ∷ [])
  -- on a script the negotiation counts as done
  pub negotiated : Prints (qmp (codes "{\"execute\":\"qmp_capabilities\"}") ∷ [])
      (codes "{\"error\":{\"class\":\"CommandNotFound\",\"desc\":\"UnknownCommand: qmp_capabilities\"}}" ∷ codes "ok" ∷ [])

-- brackets stand n deep in the id
abbrev pub nested : ℕ → List ℕ
nested n = codes "{\"execute\":\"query-jobs\",\"id\":" ++ replicate n 91 ++ replicate n 93 ++ codes "}"

pub record DeepTextsAreRefused : Type 0 where
  -- 127 open brackets and braces are read, and 128 aren't
  pub deepest : Prints (qmp (nested 126) ∷ []) ((codes "{\"id\":" ++ replicate 126 91 ++ replicate 126 93 ++ codes ",\"return\":[]}") ∷ codes "ok" ∷ [])
  pub deeper : Prints (qmp (nested 127) ∷ []) (refused "BadJson" ∷ codes "ok" ∷ [])
  -- and the next message is served
  pub two_hundred : Prints (qmp (codes "{\"execute\":" ++ replicate 200 91 ++ replicate 200 93 ++ codes "}") ∷ qmp (codes "{\"execute\":\"query-jobs\"}") ∷ [])
      (refused "BadJson" ∷ codes "{\"return\":[]}" ∷ codes "ok" ∷ [])

pub record MessagesEndWhereTheyClose : Type 0 where
  pub nothing : cut_of [] ≡ More
  pub blanks : cut_of (codes " \t\r\n") ≡ More
  -- blanks before belong to no message
  pub object : cut_of (codes " \r\n{\"a\":1}{\"b\":2}") ≡ Message 3 10
  pub unfinished : cut_of (codes "{\"a\":{}") ≡ More
  pub inner : cut_of (codes "{\"a\":{\"b\":[1]}}\n") ≡ Message 0 15
  -- braces in strings don't count, and a quote behind a backslash ends no string
  pub in_string : cut_of (codes "{\"}]\":\"{[\"}x") ≡ Message 0 11
  pub escaped : cut_of (codes "{\"\\\"}\":\"\\\\\"}x") ≡ Message 0 12
  -- braces and brackets are counted alike
  pub crossed : cut_of (codes "{[}]}") ≡ Message 0 4
  -- any other text ends before a line feed
  pub text : cut_of (codes "abc\r\n{}") ≡ Message 0 4
  pub text_unfinished : cut_of (codes "abc{}") ≡ More
  pub list : cut_of (codes "[1]\n") ≡ Message 0 3
  -- the last byte of the longest message may be the closing one; a line feed stands behind its text
  pub longest : cut_at 123 5 (Some (2 ^ 20)) (2 ^ 20) ≡ Message 5 (2 ^ 20 + 5)
  pub longer : cut_at 123 0 (Some (2 ^ 20 + 1)) (2 ^ 20 + 1) ≡ TooLong
  pub longest_text : cut_at 97 0 (Some (2 ^ 20 - 1)) (2 ^ 20) ≡ Message 0 (2 ^ 20 - 1)
  pub longer_text : cut_at 97 0 (Some (2 ^ 20)) (2 ^ 20 + 1) ≡ TooLong
  pub still_open : cut_at 123 0 None (2 ^ 20 - 1) ≡ More
  pub open_too_long : cut_at 123 0 None (2 ^ 20) ≡ TooLong
