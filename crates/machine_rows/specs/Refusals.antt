-- Why commands are refused, and in which order that is tested.
use Prim.Native.String.{String}
use Rattle.std.specs.Prelude.{◌≡◌, ℕ, ◌+◌, ◌-◌, ◌^◌, List, [], ◌∷◌, ◌++◌, map, replicate, codes, true, false, Some, None, if◌then◌else◌, bytes_eq}
use Rattle.std.specs.List.{range_with_len}
use Rattle.script_model.specs.Lines.{Line}
use Rattle.script_model.specs.Lines as script
use Rattle.core_events.specs.declared.refusals.Refusal.TheVariants.{TargetMissing}
use Rattle.core_events.specs.declared.refusals.Refusal.TheVariants as refusals
use Rattle.core_events.specs.Answers.{Refused}
use Rattle.serde_json.specs.Written.{compact_text}
use Rattle.monitor_model.specs.Replies.{reply_data}
use Rattle.bitmap_model.specs.Bitmap.{BitmapState, new_bitmap}
use Rattle.bitmap_model.specs.Bitmaps.{TooFine, BadName, add_fault}
use Rattle.plain_model.specs.Machine.{Machine, last_number}
use Rattle.plain_model.specs.Actions.{Held, Absent, Faulty, Target, target_refusal}
use Rattle.plain_model.specs.Outcome.{no_trouble}
use Rattle.machine_rows.specs.Play.{empty_store, fresh, blank, write, read, qmp, output, output_amid, at_event, all_well}
use Rattle.machine_rows.specs.Commands.{alone, together, told, quoted, adding, add_b0, removing, clearing, enabling, disabling, merging, backup, full, incremental, fleece, cancel, aborting, query_nodes, query_jobs, quit_command, bitmap, b0, nodes, printed, returned, refused, completed, cancelled, Prints}
use Rattle.machine_rows.specs.Jobs.{ticks, at}

-- bitmaps of 1 to n letters
abbrev pub many : ℕ → List BitmapState
many n = map (λ k. new_bitmap 16384 (replicate (k + 1) 97) 4096 true false (at 1 1)) (range_with_len 0 n)

abbrev pub PrintsFrom : Machine → List Line → List (List ℕ) → Type 0
PrintsFrom m lines expected = output (blank 16384 4096) lines m ≡ printed expected

-- an addition to a node, of a name as JSON has it in quotes
abbrev pub add_to : String → String → Line
add_to node name = alone (told "block-dirty-bitmap-add" (codes "\"node\":" ++ quoted node ++ codes ",\"name\":" ++ quoted name ++ codes ",\"granularity\":256"))

pub record AdditionsAreRefused : Type 0 where
  pub too_many : PrintsFrom (record (fresh 16384 4096) { bitmaps = many 64 }) (alone (adding "b" "") ∷ alone (adding "b" ",\"granularity\":256")
      ∷ alone (adding "a" "") ∷ [])
      (refused "TooMany: 64" ∷ refused "TooMany: 64" ∷ refused "NameTaken: a" ∷ codes "ok" ∷ [])
  pub one_more : PrintsFrom (record (fresh 16384 4096) { bitmaps = many 63 }) (alone (adding "b" "") ∷ alone (adding "c" "") ∷ [])
      (returned ∷ refused "TooMany: 64" ∷ codes "ok" ∷ [])
  -- a granularity is a power of two within bounds
  pub granularities : Prints
      (alone (adding "a" ",\"granularity\":256") ∷ alone (adding "a" ",\"granularity\":4097") ∷ alone (adding "a" ",\"granularity\":0")
      ∷ alone (adding "c" ",\"granularity\":512") ∷ [])
      (refused "BadGranularity: 256" ∷ refused "BadGranularity: 4097" ∷ refused "BadGranularity: 0" ∷ returned ∷ codes "ok" ∷ [])
  pub too_fine : add_fault (2 ^ 40) (codes "a") 4096 [] ≡ Some TooFine
  pub too_fine_text : compact_text (reply_data None (Refused None (refusals.TooFine 512))) ≡ refused "TooFine: 512"
  pub just_fine : add_fault (2 ^ 39) (codes "a") 4096 [] ≡ None
  -- a name is some text without control characters
  pub names : Prints (add_to "drive0" "" ∷ add_to "drive0" "a\\nb" ∷ add_to "drive0" "a\\u007fb" ∷ add_to "drive0" "a b" ∷ [])
      (refused "BadName" ∷ refused "BadName" ∷ refused "BadName" ∷ refused "BadGranularity: 256" ∷ codes "ok" ∷ [])
  pub longest_name : add_fault 16384 (replicate 1023 97) 4096 [] ≡ None
  pub longer_name : add_fault 16384 (replicate 1024 97) 4096 [] ≡ Some BadName
  -- node, name, whether it is there, granularity
  pub order : Prints (alone add_b0 ∷ add_to "w" "" ∷ add_to "drive0" "b0" ∷ alone (fleece "f0" "v0") ∷ add_to "v0" "a" ∷ [])
      (returned ∷ refused "NodeUnknown: w" ∷ refused "NameTaken: b0" ∷ returned ∷ refused "NodeUnknown: v0" ∷ codes "ok" ∷ cancelled "f0" "16384" "0" "6" ∷ [])

pub record ChangesAreRefused : Type 0 where
  pub no_such_bitmap : Prints (alone (removing "b9") ∷ alone (clearing "b9") ∷ alone (enabling "b9") ∷ alone (disabling "b9")
      ∷ alone (merging "b9" "\"b8\"") ∷ [])
      (replicate 5 (refused "NoSuchBitmap: b9") ++ codes "ok" ∷ [])
  pub busy : Prints
      (alone add_b0 ∷ alone (adding "a" "") ∷ alone (incremental "j0" "t0") ∷ alone (removing "b0") ∷ alone (clearing "b0") ∷ alone (enabling "b0")
      ∷ alone (disabling "b0") ∷ alone (merging "b0" "\"a\"")
      ∷ alone (merging "a" "\"b0\"") ∷ alone (incremental "j1" "t1") ∷ alone (clearing "a") ∷ [])
      (returned ∷ returned ∷ returned ∷ replicate 7 (refused "Busy: b0") ++ returned ∷ codes "ok" ∷ cancelled "j0" "0" "0" "12" ∷ [])
  -- of a merge the target is tested first, then of each source its node and its name; what came before is undone
  pub merges : Prints
      (alone (adding "a" "") ∷ alone (adding "c" "") ∷ write 0 (1 ∷ []) ∷ alone (clearing "a")
      ∷ alone (merging "b9" "{\"node\":\"w\",\"name\":\"b8\"}") ∷ alone (merging "a" "{\"node\":\"w\",\"name\":\"b8\"}")
      ∷ alone (merging "a" "\"b8\",{\"node\":\"w\",\"name\":\"b8\"}") ∷ alone (merging "a" "\"c\",\"b8\"")
      ∷ alone (told "block-dirty-bitmap-merge" (codes "\"node\":\"w\",\"target\":\"b9\",\"bitmaps\":[]")) ∷ query_nodes ∷ [])
      (returned ∷ returned ∷ codes "ok" ∷ returned ∷ refused "NoSuchBitmap: b9" ∷ refused "NodeUnknown: w" ∷ refused "NoSuchBitmap: b8"
      ∷ refused "NoSuchBitmap: b8" ∷ refused "NodeUnknown: w"
      ∷ nodes (bitmap "false" "0" "4096" "false" "a" "false" "true" "1.3 now" ∷ bitmap "false" "4096" "4096" "false" "c" "false" "true" "1.2 now"
      ∷ []) ∷ codes "ok" ∷ [])

-- what the depot holds under some names
abbrev pub depot : List ℕ → Held
depot name =
    if bytes_eq name (codes "used") then Target false 16384 (empty_store 16384 4096 1000)
    else if bytes_eq name (codes "small") then Target true 8192 (empty_store 8192 4096 1000)
    else if bytes_eq name (codes "both") then Target false 8192 (empty_store 8192 4096 1000)
    else if bytes_eq name (codes "odd") then Faulty (codes "Uncounted 12288")
    else if bytes_eq name (codes "s") then Faulty (codes "OwnExtension")
    else if bytes_eq name (codes "none") then Absent
    else blank 16384 4096 name

abbrev pub PrintsBy : List Line → List (List ℕ) → Type 0
PrintsBy lines expected = output depot lines (fresh 16384 4096) ≡ printed expected

pub record BackupsAreRefused : Type 0 where
  pub targets : PrintsBy
      (alone (full "j0" "used") ∷ alone (full "j0" "small") ∷ alone (full "j0" "both") ∷ alone (full "j0" "odd") ∷ alone (full "j0" "s")
      ∷ alone (full "j0" "none") ∷ alone (full "j0" "") ∷ alone (full "j0" "drive0") ∷ [])
      (refused "TargetUsed: used" ∷ refused "OtherSize: small" ∷ refused "TargetUsed: both" ∷ refused "TargetFault: Uncounted 12288"
      ∷ refused "TargetFault: OwnExtension" ∷ refused "TargetMissing: none"
      ∷ refused "TargetMissing: " ∷ refused "TargetBusy: drive0" ∷ codes "ok" ∷ [])
  -- one id for two jobs, also that of a view, and one target for two; where both stand together the id is told
  pub taken : PrintsBy
      (alone (full "j0" "t0") ∷ alone (fleece "f0" "v0") ∷ alone (full "j0" "t1") ∷ alone (full "f0" "t1") ∷ alone (full "j1" "t0")
      ∷ alone (full "j1" "v0") ∷ alone (full "j0" "t0") ∷ cancel "j0" ∷ alone (full "j0" "v0") ∷ [])
      (returned ∷ returned ∷ refused "JobTaken: j0" ∷ refused "JobTaken: f0" ∷ refused "TargetBusy: t0" ∷ refused "TargetBusy: v0"
      ∷ refused "JobTaken: j0" ∷ returned ∷ cancelled "j0" "16384" "0" "8"
      ∷ refused "TargetBusy: v0" ∷ codes "ok" ∷ cancelled "f0" "16384" "0" "10" ∷ [])
  -- jobs and views are counted together
  pub too_many : PrintsBy
      (together (full "a" "a" ∷ full "b" "b" ∷ full "c" "c" ∷ full "d" "d" ∷ fleece "e" "e" ∷ fleece "f" "f" ∷ fleece "g" "g" ∷ full "h" "h" ∷ [])
      ∷ alone (full "i" "i") ∷ alone (backup "i" "a" "\"sync\":\"incremental\"")
      ∷ alone (full "a" "i") ∷ cancel "e" ∷ alone (full "i" "i") ∷ script.Stop ∷ [])
      (returned ∷ refused "TooManyJobs: 8" ∷ refused "TooManyJobs: 8" ∷ refused "JobTaken: a" ∷ returned ∷ cancelled "e" "16384" "0" "5" ∷ returned
      ∷ codes "stopped" ∷ [])
  pub bitmaps : PrintsBy
      (alone add_b0 ∷ alone (backup "j0" "none" "\"sync\":\"incremental\"")
      ∷ alone (backup "j0" "none" "\"sync\":\"bitmap\",\"bitmap-mode\":\"never\"") ∷ alone (backup "j0" "none" "\"sync\":\"full\",\"bitmap\":\"b9\"")
      ∷ alone (backup "j0" "none" "\"sync\":\"none\",\"bitmap\":\"b0\"")
      ∷ alone (backup "j0" "none" "\"sync\":\"incremental\",\"bitmap\":\"b9\",\"bitmap-mode\":\"never\"")
      ∷ alone (backup "j0" "none" "\"sync\":\"incremental\",\"bitmap-mode\":\"never\"")
      ∷ alone (backup "j0" "none" "\"sync\":\"incremental\",\"bitmap\":\"b9\"") ∷ alone (incremental "j0" "none") ∷ alone (incremental "j0" "t0")
      ∷ alone (incremental "j1" "none") ∷ [])
      (returned ∷ refused "BitmapNeeded" ∷ refused "BitmapNeeded" ∷ refused "BitmapForbidden: b9" ∷ refused "BitmapForbidden: b0"
      ∷ refused "BitmapForbidden: never" ∷ refused "BitmapNeeded"
      ∷ refused "NoSuchBitmap: b9" ∷ refused "TargetMissing: none" ∷ returned ∷ refused "Busy: b0" ∷ codes "ok" ∷ cancelled "j0" "0" "0" "12" ∷ [])
  -- a mode has no effect without a bitmap, and any may stand by the word bitmap
  pub modes : PrintsBy
      (alone (backup "j0" "t0" "\"sync\":\"full\",\"bitmap-mode\":\"never\"") ∷ alone add_b0
      ∷ alone (backup "j1" "t1" "\"sync\":\"bitmap\",\"bitmap\":\"b0\",\"bitmap-mode\":\"on-success\"") ∷ script.Tick ∷ script.Tick ∷ query_nodes
      ∷ script.Stop ∷ [])
      (returned ∷ returned ∷ returned ∷ codes "ok" ∷ codes "ok" ∷ completed "j1" "0" "0" "5" ∷ nodes (b0 "false" "0" "1.3 now" ∷ []) ∷ codes "stopped" ∷ [])
  -- the device is tested first, and is the job's id where none is given
  pub device : PrintsBy
      (qmp (codes "{\"execute\":\"blockdev-backup\",\"arguments\":{\"device\":\"w\",\"sync\":\"incremental\",\"target\":\"none\"}}")
      ∷ qmp (codes "{\"execute\":\"blockdev-backup\",\"arguments\":{\"device\":\"drive0\",\"sync\":\"full\",\"target\":\"t0\"}}") ∷ ticks 5)
      (refused "NodeUnknown: w" ∷ returned ∷ replicate 5 (codes "ok") ++ completed "drive0" "16384" "16384" "7" ∷ codes "ok" ∷ [])
  -- which is the drive and no view, whatever else is wrong
  pub view_as_device : PrintsBy
      (alone (fleece "f0" "v0") ∷ qmp (codes "{\"execute\":\"blockdev-backup\",\"arguments\":{\"device\":\"v0\",\"job-id\":\"f0\",\"sync\":\"full\",\"target\":\"none\"}}") ∷ script.Stop ∷ [])
      (returned ∷ refused "NodeUnknown: v0" ∷ codes "stopped" ∷ [])
  -- a target that can't be read, after the test whether it is busy
  pub unread : output_amid depot (at_event 2 (record no_trouble { hindrance = record { unread = λ name. true; memory = None } })) (alone (full "j0" "t0") ∷ alone (full "j1" "none") ∷ alone (full "j1" "none") ∷ script.Stop ∷ []) (fresh 16384 4096)
      ≡ printed (returned ∷ refused "DeviceFailed: none" ∷ refused "TargetMissing: none" ∷ codes "stopped" ∷ [])
  -- and no call is made for a name that no file may have
  pub never_opened : output_amid depot (at_event 1 (record no_trouble { hindrance = record { unread = λ name. true; memory = None } })) (alone (full "j0" "") ∷ script.Stop ∷ []) (fresh 16384 4096)
      ≡ printed (refused "TargetMissing: " ∷ codes "stopped" ∷ [])
  pub busy_before_unread : output_amid depot (at_event 2 (record no_trouble { hindrance = record { unread = λ name. true; memory = None } })) (alone (full "j0" "t0") ∷ alone (full "j1" "t0") ∷ script.Stop ∷ []) (fresh 16384 4096)
      ≡ printed (returned ∷ refused "TargetBusy: t0" ∷ codes "stopped" ∷ [])
  -- names that no file may have
  pub longest_name : target_refusal 16384 (replicate 4096 97) (blank 16384 4096 []) ≡ None
  pub longer_name : target_refusal 16384 (replicate 4097 97) (blank 16384 4096 []) ≡ Some (TargetMissing (replicate 4097 97))
  pub no_text : target_refusal 16384 (255 ∷ []) (blank 16384 4096 []) ≡ Some (TargetMissing (255 ∷ []))
  pub unknown_job : PrintsBy (cancel "j0" ∷ []) (refused "JobUnknown: j0" ∷ codes "ok" ∷ [])

-- want of memory at this event: at the action of this number
abbrev pub wanting : ℕ → ℕ → List Line → List ℕ
wanting event action lines = output_amid (blank 16384 4096) (at_event event (record no_trouble { hindrance = record { unread = λ name. false; memory = Some action } })) lines (fresh 16384 4096)

pub record EndsOfMeansAreRefused : Type 0 where
  -- a last serial is drawn, and then no command that draws one is done
  pub last_serial : PrintsFrom (record (fresh 16384 4096) { serial = last_number - 1 }) (alone add_b0 ∷ alone (adding "a" "") ∷ query_nodes ∷ [])
      (returned ∷ refused "SerialSpent" ∷ nodes (b0 "false" "0" "1.18446744073709551615 now" ∷ []) ∷ codes "ok" ∷ [])
  -- it is tested before all else, and without a number for a transaction without actions
  pub spent : PrintsFrom (record (fresh 16384 4096) { serial = last_number })
      (add_to "w" "" ∷ together (aborting ∷ []) ∷ together [] ∷ alone (full "j0" "none") ∷ cancel "j0" ∷ query_jobs ∷ write 0 (1 ∷ []) ∷ [])
      (refused "SerialSpent" ∷ refused "action 0: SerialSpent" ∷ refused "SerialSpent" ∷ refused "SerialSpent" ∷ refused "JobUnknown: j0"
      ∷ codes "{\"return\":[]}" ∷ codes "ok" ∷ codes "ok" ∷ [])
  -- want of memory at an action of a transaction tells its number, and undoes what was before
  pub memory_in_transaction : wanting 1 1 (together (add_b0 ∷ adding "a" "" ∷ []) ∷ query_nodes ∷ [])
      ≡ printed (refused "action 1: OutOfMemory" ∷ nodes [] ∷ codes "ok" ∷ [])
  pub refused_before : wanting 1 1 (together (removing "b9" ∷ adding "a" "" ∷ []) ∷ []) ≡ printed (refused "action 0: NoSuchBitmap: b9" ∷ codes "ok" ∷ [])
  pub memory_alone : wanting 1 0 (alone add_b0 ∷ []) ≡ printed (refused "OutOfMemory" ∷ codes "ok" ∷ [])
  pub memory_of_query : wanting 1 0 (query_nodes ∷ query_jobs ∷ []) ≡ printed (refused "OutOfMemory" ∷ codes "{\"return\":[]}" ∷ codes "ok" ∷ [])
  -- a quit that is refused ends nothing
  pub memory_of_quit : wanting 1 0 (quit_command ∷ read 0 1 ∷ quit_command ∷ read 0 1 ∷ []) ≡ printed (refused "OutOfMemory" ∷ codes "data 00" ∷ returned ∷ [])
  -- numbers of events end too
  pub last_event : output_amid (blank 16384 4096) all_well (alone (full "j0" "t0") ∷ cancel "j0" ∷ []) (record (fresh 16384 4096) { event = last_number })
      ≡ printed (returned ∷ returned ∷ codes "{\"data\":{\"device\":\"j0\",\"len\":16384,\"offset\":0,\"speed\":0,\"type\":\"backup\"},\"event\":\"BLOCK_JOB_CANCELLED\",\"timestamp\":{\"microseconds\":551615,\"seconds\":18446744073709}}" ∷ codes "ok" ∷ [])
