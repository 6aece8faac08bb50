-- What connections are sent: negotiations, requests and replies over NBD, and the monitor beside them.
use Rattle.std.specs.Prelude.{◌≡◌, ℕ, List, [], ◌∷◌, ◌++◌, Bool, true, false, None, replicate, codes, map, length}
use Rattle.std.specs.List.{range_with_len}
use Rattle.disk_model.specs.World.{Taking, Opened, Bytes, Idle}
use Rattle.core_events.specs.Events.{Event, Guest, Monitor, Tick}
use Rattle.core_events.specs.declared.commands.SourceName.{SourceName}
use Rattle.core_events.specs.declared.commands.Command.TheVariants.{Quit}
use Rattle.core_events.specs.declared.infos.ExportInfo.{ExportInfo}
use Rattle.core_events.specs.declared.answers.Errno.TheVariants.{Perm}
use Rattle.core_events.specs.declared.answers.Notice.TheVariants.{Cancelled}
use Rattle.core_events.specs.declared.events.Work.{Work}
use Rattle.core_events.specs.declared.events.Work.TheVariants as work
use Rattle.core_events.specs.declared.events.Way.TheVariants as way
use Rattle.core_events.specs.Answers.{Reply, Done, Content, Flags, Fault}
use Rattle.hex.specs.Hex.{encode_lower}
use Rattle.monitor_model.specs.Replies.{greeting_data, notice_data, message_text}
use Rattle.plain_model.specs.Serving.{Given, Gave, Lacked, Serving, begin, after_takings, after_end, sent_to}

-- ---- what is said

-- the client's flags
abbrev pub flags : ℕ → List ℕ
flags n = 0 ∷ 0 ∷ 0 ∷ n ∷ []

-- an option of less than 256 bytes
abbrev pub option : ℕ → List ℕ → List ℕ
option number content = codes "IHAVEOPT" ++ 0 ∷ 0 ∷ 0 ∷ number ∷ 0 ∷ 0 ∷ 0 ∷ length content ∷ content

abbrev pub go_v : List ℕ
go_v = option 7 (0 ∷ 0 ∷ 0 ∷ 1 ∷ 118 ∷ 0 ∷ 0 ∷ [])

-- a request's head, with a small cookie and a small range
abbrev pub head : ℕ → ℕ → ℕ → List ℕ → List ℕ → List ℕ
head bits kind cookie offset length =
    37 ∷ 96 ∷ 149 ∷ 19 ∷ 0 ∷ bits ∷ 0 ∷ kind ∷ 0 ∷ 0 ∷ 0 ∷ 0 ∷ 0 ∷ 0 ∷ 0 ∷ cookie ∷ 0 ∷ 0 ∷ 0 ∷ 0 ∷ 0 ∷ 0 ∷ offset ++ length

-- ---- exports and answers

abbrev pub tmp : SourceName
tmp = record { node = None; name = codes "tmp" }

abbrev pub export_v : Bool → List SourceName → ExportInfo
export_v writable contexts = record { name = codes "v"; size = 16384; writable = writable; contexts = contexts }

abbrev pub answer : Reply → Given
answer reply = Gave (record { reply = reply; notices = [] }) 0

-- a run over these takings, with one export from the start
abbrev pub run : ExportInfo → List Taking → List Given → Serving
run export takings given = after_takings takings (record (begin 16384 given []) { exports = export ∷ [] })

-- what connection 2 was sent behind the greeting, as hex
abbrev pub sent : Serving → List ℕ
sent s = encode_lower (sent_to 2 s)

abbrev pub greeting_hex : List ℕ
greeting_hex = codes "4e42444d4147494349484156454f50540003"

-- each byte in a taking of its own
abbrev pub byte_by_byte : List ℕ → List Taking
byte_by_byte bytes = map (λ b. Bytes 2 (b ∷ [])) bytes

-- ---- negotiations

pub record Negotiations : Type 0 where
  -- one export is listed by its name
  pub listed : sent (run (export_v false []) (Opened 2 false ∷ Bytes 2 (flags 3 ++ option 3 []) ∷ []) [])
      ≡ greeting_hex ++ codes "0003e889045565a900000003000000020000000500000001760003e889045565a9000000030000000100000000"
  -- an option that isn't served
  pub unserved : sent (run (export_v false []) (Opened 2 false ∷ Bytes 2 (flags 3 ++ option 5 []) ∷ []) [])
      ≡ greeting_hex ++ codes "0003e889045565a9000000058000000100000000"
  -- bits of the client's flags that aren't known
  pub other_flags : (run (export_v false []) (Opened 2 false ∷ Bytes 2 (flags 4) ∷ []) []).hung_up ≡ 2 ∷ []
  -- an option that is longer than any may be ends the connection at its head
  pub too_long : (run (export_v false []) (Opened 2 false ∷ Bytes 2 (flags 3 ++ codes "IHAVEOPT" ++ 0 ∷ 0 ∷ 0 ∷ 3 ∷ 2 ∷ 0 ∷ 0 ∷ 1 ∷ []) ∷ []) []).hung_up ≡ 2 ∷ []
  -- one of 65,537 bytes is skipped, and the next is served
  pub skipped : sent (run (export_v false [])
      (Opened 2 false ∷ Bytes 2 (flags 3 ++ codes "IHAVEOPT" ++ 0 ∷ 0 ∷ 0 ∷ 3 ∷ 0 ∷ 1 ∷ 0 ∷ 1 ∷ (replicate 65537 7 ++ option 5 [])) ∷ []) [])
      ≡ greeting_hex ++ codes "0003e889045565a9000000038000000900000000" ++ codes "0003e889045565a9000000058000000100000000"
  -- an unknown export by its old option
  pub unknown_name : (run (export_v false []) (Opened 2 false ∷ Bytes 2 (flags 3 ++ option 1 (codes "w")) ∷ []) []).hung_up ≡ 2 ∷ []

-- a bitmap's status: structured replies, the bitmap's context, the export, and a request of the whole disk
abbrev pub asking_status : ℕ → List ℕ
asking_status bits =
    flags 3 ++ option 8 [] ++ option 10 (0 ∷ 0 ∷ 0 ∷ 1 ∷ 118 ∷ 0 ∷ 0 ∷ 0 ∷ 1 ∷ 0 ∷ 0 ∷ 0 ∷ 21 ∷ codes "qemu:dirty-bitmap:tmp") ++ go_v
    ++ head bits 7 7 (0 ∷ 0 ∷ []) (0 ∷ 0 ∷ 64 ∷ 0 ∷ [])

abbrev pub asked_before : List ℕ
asked_before =
    greeting_hex ++ codes "0003e889045565a9000000080000000100000000"
    ++ codes "0003e889045565a90000000a00000004000000190000000171656d753a64697274792d6269746d61703a746d70" ++ codes "0003e889045565a90000000a0000000100000000"
    ++ codes "0003e889045565a900000007000000030000000c0000000000000000400000" ++ codes "070003e889045565a9000000070000000100000000"

pub record StatusOverWire : Type 0 where
  pub two_runs : sent (run (export_v false (tmp ∷ [])) (Opened 2 false ∷ Bytes 2 (asking_status 0) ∷ [])
      (answer (Flags (record { length = 12288; flags = 0 } ∷ record { length = 4096; flags = 1 } ∷ [])) ∷ []))
      ≡ asked_before ++ codes "668e33ef00010005000000000000000700000014000000010000300000000000" ++ codes "0000100000000001"
  -- one run is asked
  pub one_run : (run (export_v false (tmp ∷ [])) (Opened 2 false ∷ Bytes 2 (asking_status 8) ∷ []) []).events
      ≡ Guest (record { way = way.Export (codes "v"); work = work.Status (codes "qemu:dirty-bitmap:tmp") true; offset = 0; length = 16384; bytes = [] }) ∷ []
  -- a cut of the bytes changes nothing
  pub byte_by_byte_too : sent (run (export_v false (tmp ∷ [])) (Opened 2 false ∷ byte_by_byte (asking_status 0))
      (answer (Flags (record { length = 12288; flags = 0 } ∷ record { length = 4096; flags = 1 } ∷ [])) ∷ []))
      ≡ asked_before ++ codes "668e33ef00010005000000000000000700000014000000010000300000000000" ++ codes "0000100000000001"

-- ---- requests

pub record RequestsOverWire : Type 0 where
  -- a read with structured replies
  pub read_chunk : sent (run (export_v true []) (Opened 2 false ∷ Bytes 2 (flags 3 ++ option 8 [] ++ go_v ++ head 0 0 9 (15 ∷ 255 ∷ []) (0 ∷ 0 ∷ 0 ∷ 2 ∷ [])) ∷ [])
      (answer (Content (170 ∷ 187 ∷ [])) ∷ []))
      ≡ greeting_hex ++ codes "0003e889045565a9000000080000000100000000" ++ codes "0003e889045565a900000007000000030000000c00000000000000004000004d" ++ codes "0003e889045565a9000000070000000100000000"
      ++ codes "668e33ef0001000100000000000000090000000a0000000000000fffaabb"
  -- a write where none is allowed; the next request is served
  pub refused_write : sent (run (export_v false []) (Opened 2 false ∷ Bytes 2 (flags 3 ++ go_v ++ head 0 1 5 (0 ∷ 0 ∷ []) (0 ∷ 0 ∷ 0 ∷ 1 ∷ []) ++ 1 ∷ head 0 3 6 (0 ∷ 0 ∷ []) (0 ∷ 0 ∷ 0 ∷ 0 ∷ [])) ∷ [])
      (answer (Fault Perm) ∷ answer Done ∷ []))
      ≡ greeting_hex ++ codes "0003e889045565a900000007000000030000000c000000000000000040000007" ++ codes "0003e889045565a9000000070000000100000000"
      ++ codes "67446698000000010000000000000005" ++ codes "67446698000000000000000000000006"
  -- a flag that isn't known gives no event, and a write's bytes are skipped
  pub unknown_flag : sent (run (export_v true []) (Opened 2 false ∷ Bytes 2 (flags 3 ++ go_v ++ head 2 1 5 (0 ∷ 0 ∷ []) (0 ∷ 0 ∷ 0 ∷ 1 ∷ []) ++ 1 ∷ head 0 3 6 (0 ∷ 0 ∷ []) (0 ∷ 0 ∷ 0 ∷ 0 ∷ [])) ∷ [])
      (answer Done ∷ []))
      ≡ greeting_hex ++ codes "0003e889045565a900000007000000030000000c00000000000000004000004d" ++ codes "0003e889045565a9000000070000000100000000"
      ++ codes "67446698000000160000000000000005" ++ codes "67446698000000000000000000000006"
  -- there was no memory to take the request in
  pub no_memory : sent (run (export_v true []) (Opened 2 false ∷ Bytes 2 (flags 3 ++ go_v ++ head 0 3 6 (0 ∷ 0 ∷ []) (0 ∷ 0 ∷ 0 ∷ 0 ∷ [])) ∷ []) (Lacked ∷ []))
      ≡ greeting_hex ++ codes "0003e889045565a900000007000000030000000c00000000000000004000004d" ++ codes "0003e889045565a9000000070000000100000000"
      ++ codes "674466980000000c0000000000000006"
  -- a client that ends
  pub disconnects : (run (export_v true []) (Opened 2 false ∷ Bytes 2 (flags 3 ++ go_v ++ head 0 2 0 (0 ∷ 0 ∷ []) (0 ∷ 0 ∷ 0 ∷ 0 ∷ [])) ∷ []) []).hung_up ≡ 2 ∷ []

-- ---- the monitor

-- 1 for a write, 0 for anything else
abbrev pub kind_of_work : Work → ℕ
kind_of_work work.Read = 0
kind_of_work (work.Write fua) = 1
kind_of_work (work.Zero fua no_hole) = 0
kind_of_work work.Flush = 0
kind_of_work (work.Status context one) = 0

abbrev pub kind_of : Event → ℕ
kind_of (Guest r) = kind_of_work r.work
kind_of (Monitor c) = 0
kind_of Tick = 0

pub record MonitorOverWire : Type 0 where
  -- the negotiation in pieces of a byte, and a quit
  pub greeted_and_quit : sent_to 2 (run (export_v true []) (Opened 2 true ∷ byte_by_byte (codes "{\"execute\":\"qmp_capabilities\"}") ++ Bytes 2 (codes "{\"execute\":\"quit\"}") ∷ Idle ∷ []) (answer Done ∷ []))
      ≡ message_text greeting_data ++ codes "{\"return\":{}}\r\n{\"return\":{}}\r\n"
  pub quit_is_last : (run (export_v true []) (Opened 2 true ∷ Bytes 2 (codes "{\"execute\":\"qmp_capabilities\"} {\"execute\":\"quit\"}") ∷ Idle ∷ []) (answer Done ∷ answer Done ∷ [])).events
      ≡ Monitor Quit ∷ []
  pub greets : message_text greeting_data ≡ codes "{\"QMP\":{\"capabilities\":[],\"version\":{\"package\":\"qback\",\"qemu\":{\"major\":1,\"micro\":0,\"minor\":0}}}}\r\n"
  -- two clients are served in turn
  pub in_turn : map (λ (e : Event). kind_of e) (run (export_v true [])
      (Opened 2 false ∷ Opened 3 false ∷ Bytes 2 (flags 3 ++ go_v) ∷ Bytes 3 (flags 3 ++ go_v)
      ∷ Bytes 2 (head 0 1 1 (0 ∷ 0 ∷ []) (0 ∷ 0 ∷ 0 ∷ 1 ∷ []) ++ 1 ∷ []) ∷ Bytes 3 (head 0 0 1 (0 ∷ 0 ∷ []) (0 ∷ 0 ∷ 0 ∷ 1 ∷ []))
      ∷ Bytes 2 (head 0 1 2 (0 ∷ 0 ∷ []) (0 ∷ 0 ∷ 0 ∷ 1 ∷ []) ++ 2 ∷ []) ∷ Bytes 3 (head 0 0 2 (0 ∷ 0 ∷ []) (0 ∷ 0 ∷ 0 ∷ 1 ∷ [])) ∷ [])
      (answer Done ∷ answer (Content (1 ∷ [])) ∷ answer Done ∷ answer (Content (2 ∷ [])) ∷ [])).events
      ≡ 1 ∷ 0 ∷ 1 ∷ 0 ∷ []

-- ---- connections

-- a taking in which sends fail on these connections
abbrev pub failing_run : List Taking → List Given → List (List ℕ) → Serving
failing_run takings given failing = after_takings takings (record (begin 16384 given failing) { exports = export_v true [] ∷ [] })

-- a run ends with a cancelled job
abbrev pub ending : Serving → Serving
ending s = after_end 7 (Cancelled (codes "j") 4096 0 ∷ []) s

pub record ConnectionsEnd : Type 0 where
  -- a second monitor is hung up, and the first is served on
  pub second_monitor : (run (export_v true []) (Opened 2 true ∷ Opened 3 true ∷ Bytes 2 (codes "{\"execute\":\"qmp_capabilities\"} {\"execute\":\"quit\"}") ∷ []) (answer Done ∷ [])).events
      ≡ Monitor Quit ∷ []
  pub is_hung_up : (run (export_v true []) (Opened 2 true ∷ Opened 3 true ∷ []) []).hung_up ≡ 3 ∷ []
  -- so is a seventeenth client
  pub seventeenth : (run (export_v true []) (map (λ n. Opened n false) (range_with_len 1 17)) []).hung_up ≡ 17 ∷ []
  -- a connection on which a send failed is hung up before the next taking, and what it asks afterwards isn't looked at
  pub failed_send : (failing_run (Opened 2 false ∷ Bytes 2 (flags 3) ∷ Bytes 2 (go_v ++ head 0 3 6 (0 ∷ 0 ∷ []) (0 ∷ 0 ∷ 0 ∷ 0 ∷ [])) ∷ [])
      (answer Done ∷ []) ([] ∷ (2 ∷ []) ∷ [])).events ≡ []
  pub failed_is_hung_up : (failing_run (Opened 2 false ∷ Opened 3 true ∷ Idle ∷ []) (answer Done ∷ []) ([] ∷ (2 ∷ 3 ∷ []) ∷ [])).hung_up ≡ 2 ∷ 3 ∷ []
  -- at the end the monitor is told of the closing, and all are hung up
  pub told_of_closing : sent_to 3 (ending (run (export_v true []) (Opened 2 false ∷ Opened 3 true ∷ []) []))
      ≡ message_text greeting_data ++ message_text (notice_data 7 (Cancelled (codes "j") 4096 0))
  pub all_hung_up : (ending (run (export_v true []) (Opened 2 true ∷ Opened 3 false ∷ Opened 4 false ∷ []) [])).hung_up ≡ 3 ∷ 4 ∷ 2 ∷ []
