-- Whole runs of a server: takings in, the machine's own answers, bytes out.
use Rattle.std.specs.Prelude.{◌≡◌, ℕ, zero, suc, ◌+◌, List, [], ◌∷◌, ◌++◌, true, false, codes}
use Rattle.disk_model.specs.World.{Taking, Opened, Bytes, Closed, Idle, Stopped}
use Rattle.core_events.specs.Events.{Event}
use Rattle.hex.specs.Hex.{encode_lower}
use Rattle.monitor_model.specs.Replies.{greeting_data, message_text}
use Rattle.plain_model.specs.Machine.{Machine}
use Rattle.plain_model.specs.Ending.{closed}
use Rattle.plain_model.specs.Outcome.{no_trouble, Outcome}
use Rattle.plain_model.specs.Serving.{Given, Gave, Serving, begin, inputs, after_takings, after_end, sent_to}
use Rattle.machine_rows.specs.Play.{fresh, blank, played}
use Rattle.machine_rows.specs.Commands.{completed, cancelled}
use Rattle.machine_rows.specs.Clients.{flags, go_v, head, greeting_hex}

-- ---- runs

-- the machine's answers to events, each with the event's number as its moment, and the machine after them
pub record Server : Type 0 where
  pub given : List Given
  pub machine : Machine

abbrev pub given_first : Given → Server → Server
given_first g s = record s { given = g ∷ s.given }

abbrev pub answers_to : List Event → Machine → Server
answers_to [] m = record { given = []; machine = m }
answers_to (event ∷ events) m =
    let o : Outcome = played (blank 16384 4096) no_trouble event m in
    given_first (Gave o.answer o.machine.event) (answers_to events o.machine)

-- what the takings give is answered, and with these answers they may give more, so many times
abbrev pub rounds : ℕ → List Taking → List Given → List Given
rounds zero takings given = given
rounds (suc n) takings given = rounds n takings (answers_to (inputs 16384 takings given []) (fresh 16384 4096)).given

abbrev pub ended : Serving → Serving
ended s =
    let m : Machine = (answers_to s.events (fresh 16384 4096)).machine in
    after_end (m.event + 1) (closed m).notices s

-- a run over these takings, in which there are at most so many events, and its closing
abbrev pub served : ℕ → List Taking → Serving
served n takings = ended (after_takings takings (begin 16384 (rounds n takings []) []))

-- ---- what is said

abbrev pub negotiate : List ℕ
negotiate = codes "{\"execute\":\"qmp_capabilities\"}"

abbrev pub quit : List ℕ
quit = codes "{\"execute\":\"quit\"}"

abbrev pub export_drive : List ℕ
export_drive = codes "{\"execute\":\"block-export-add\",\"arguments\":{\"type\":\"nbd\",\"id\":\"e\",\"node-name\":\"drive0\",\"name\":\"v\",\"writable\":true}}"

abbrev pub back_up : List ℕ
back_up = codes "{\"execute\":\"blockdev-backup\",\"arguments\":{\"job-id\":\"j0\",\"device\":\"drive0\",\"target\":\"t0\",\"sync\":\"full\"}}"

abbrev pub returned : List ℕ
returned = codes "{\"return\":{}}\r\n"

-- a request of one byte at 0: a write of it, or a read
abbrev pub write_one : ℕ → ℕ → List ℕ
write_one cookie byte = head 0 1 cookie (0 ∷ 0 ∷ []) (0 ∷ 0 ∷ 0 ∷ 1 ∷ []) ++ byte ∷ []

abbrev pub read_one : ℕ → List ℕ
read_one cookie = head 0 0 cookie (0 ∷ 0 ∷ []) (0 ∷ 0 ∷ 0 ∷ 1 ∷ [])

-- ---- the runs

-- what two clients and the monitor were sent, and who was hung up
pub record Outputs : Type 0 where
  pub writer : List ℕ
  pub reader : List ℕ
  pub monitor : List ℕ
  pub hung_up : List ℕ

abbrev pub outputs : Serving → Outputs
outputs s = record { writer = encode_lower (sent_to 2 s); reader = encode_lower (sent_to 3 s); monitor = sent_to 1 s; hung_up = s.hung_up }

abbrev pub negotiated_hex : List ℕ
negotiated_hex = greeting_hex ++ codes "0003e889045565a900000007000000030000000c00000000000000004000004d" ++ codes "0003e889045565a9000000070000000100000000"

-- The monitor exports the drive, and two clients come in turn: what was written by one is read by the other, between its own two writes.
pub record ClientsAreServedInTurn : Type 0 where
  pub two_clients : outputs (served 6 (
      Opened 1 true ∷ Bytes 1 negotiate ∷ Bytes 1 export_drive ∷ Opened 2 false ∷ Opened 3 false ∷ Bytes 2 (flags 3 ++ go_v) ∷ Bytes 3 (flags 3 ++ go_v)
      ∷ Bytes 2 (write_one 1 1) ∷ Bytes 3 (read_one 2) ∷ Bytes 2 (write_one 3 2) ∷ Bytes 3 (read_one 4) ∷ Bytes 1 quit ∷ []))
      ≡ record {
        writer = negotiated_hex ++ codes "67446698000000000000000000000001" ++ codes "67446698000000000000000000000003";
        reader = negotiated_hex ++ codes "6744669800000000000000000000000201" ++ codes "6744669800000000000000000000000402";
        monitor = message_text greeting_data ++ returned ++ returned ++ returned;
        hung_up = 2 ∷ 3 ∷ 1 ∷ [];
      }

-- idle takings serve a job, and its notice is told
pub record IdleTakingsServeJobs : Type 0 where
  pub a_backup : sent_to 1 (served 7 (Opened 1 true ∷ Bytes 1 (negotiate ++ back_up) ∷ Idle ∷ Idle ∷ Idle ∷ Idle ∷ Idle ∷ Bytes 1 quit ∷ Idle ∷ []))
      ≡ message_text greeting_data ++ returned ++ returned ++ completed "j0" "16384" "16384" "6" ++ codes "\r\n" ++ returned

-- a job that is left is cancelled by the closing, and a monitor that came later gets its notices too
pub record ClosingsAreTold : Type 0 where
  pub a_job_is_left : sent_to 2 (served 2 (Opened 1 true ∷ Bytes 1 (negotiate ++ back_up) ∷ Closed 1 ∷ Opened 2 true ∷ Idle ∷ Stopped ∷ []))
      ≡ message_text greeting_data ++ cancelled "j0" "16384" "4096" "3" ++ codes "\r\n"
