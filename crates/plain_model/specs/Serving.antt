-- What the takings of a host give the machine, and what each connection is sent.
use Rattle.std.specs.Prelude.{ℕ, zero, suc, ◌+◌, ◌-◌, List, [], ◌∷◌, ◌++◌, take, drop, length, filter, find, map, Bool, true, false, not, ◌||◌, ◌==◌, nat_le, Option, Some, None, Result, Ok, Err, if◌then◌else◌}
use Rattle.std.specs.List.{list_any}
use Rattle.disk_model.specs.World.{Taking, Opened, Bytes, Closed, Idle, Stopped}
use Rattle.serde_json.specs.Data.{Data}
use Rattle.core_events.specs.Events.{Request, Event, Guest, Monitor, Tick}
use Rattle.core_events.specs.declared.commands.Command.{Command}
use Rattle.core_events.specs.declared.commands.Command.TheVariants.{Act, Transaction, JobCancel, QueryJobs, QueryNodes, ExportAdd, Quit}
use Rattle.core_events.specs.declared.infos.ExportInfo.{ExportInfo}
use Rattle.core_events.specs.declared.answers.Errno.TheVariants.{NoMemory}
use Rattle.core_events.specs.declared.answers.Notice.{Notice}
use Rattle.core_events.specs.Answers.{Reply, Done, Answer}
use Rattle.monitor_model.specs.Messages.{More, Message, TooLong, cut_of}
use Rattle.monitor_model.specs.Commands.{Order, Negotiate, Run, RefusedMessage, order_of}
use Rattle.monitor_model.specs.Commands as monitor
use Rattle.monitor_model.specs.Replies.{reply_data, refused_data, notice_data, greeting_data, message_text}
use Rattle.nbd_model.specs.Requests.{Head, error_reply, error_number, replies_of}
use Rattle.nbd_model.specs.Sessions.{Session, new_session, greeting, Answered, Asks, HangsUp, taken_of}
use Rattle.nbd_model.specs.Sessions as nbd
use Rattle.plain_model.specs.Queries.{export_info}
use Rattle.plain_model.specs.Console.{is_done}

-- ---- what is given beside the takings

-- the answer to an event, and the number that the clock gave for it; or there was no memory to take a client's request in
pub data Given : Type 0 where
  Gave : (answer : Answer) (moment : ℕ) → Given
  Lacked : Given

-- ---- connections

-- a client's connection, and the bytes that came and weren't taken yet
pub record Client : Type 0 where
  pub number : ℕ
  pub session : Session
  pub unread : List ℕ

-- the monitor's
pub record Desk : Type 0 where
  pub number : ℕ
  pub negotiated : Bool
  pub unread : List ℕ

-- bytes that a connection is sent
pub record Sending : Type 0 where
  pub to : ℕ
  pub bytes : List ℕ

-- A run so far: the exports, the clients and the monitor; what is still to be given, and of each taking to come the connections on which a
-- send fails in it; the events taken, what was sent in order, and the connections hung up; whether the run has ended, and whether it waits
-- for the answer to its last event.
pub record Serving : Type 0 where
  pub size : ℕ
  pub exports : List ExportInfo
  pub clients : List Client
  pub desk : Option Desk
  pub given : List Given
  pub failing : List (List ℕ)
  pub events : List Event
  pub sent : List Sending
  pub hung_up : List ℕ
  pub ended : Bool
  pub waits : Bool

-- no more is taken
abbrev pub is_over : Serving → Bool
is_over s = s.ended || s.waits

-- how many clients there may be at once
abbrev pub most_clients : ℕ
most_clients = 16

abbrev pub send : ℕ → List ℕ → Serving → Serving
send to bytes s = record s { sent = s.sent ++ record { to = to; bytes = bytes } ∷ [] }

abbrev pub is_client : ℕ → Client → Bool
is_client number c = c.number == number

abbrev pub without_client : ℕ → Serving → Serving
without_client number s = record s { clients = filter (λ (c : Client). not (is_client number c)) s.clients }

-- the connection is hung up
abbrev pub hang_up : ℕ → Serving → Serving
hang_up number s = record (without_client number s) { hung_up = s.hung_up ++ number ∷ [] }

abbrev pub with_client : Client → Serving → Serving
with_client c s = record s { clients = map (λ (d : Client). if is_client c.number d then c else d) s.clients }

abbrev pub without_desk : Serving → Serving
without_desk s = record s { desk = None }

-- ---- events

-- an export that was added is one of the exports from now on
abbrev pub with_command : Command → Serving → Serving
with_command (ExportAdd args) s = record s { exports = s.exports ++ export_info s.size args ∷ [] }
with_command (Act action) s = s
with_command (Transaction actions) s = s
with_command (JobCancel job) s = s
with_command QueryJobs s = s
with_command QueryNodes s = s
with_command Quit s = record s { ended = true }

abbrev pub with_event : Event → Serving → Serving
with_event (Guest r) s = s
with_event (Monitor c) s = with_command c s
with_event Tick s = s

-- the event was taken and answered
abbrev pub answered : Event → Answer → List Given → Serving → Serving
answered event a rest s =
    let next : Serving = record s { events = s.events ++ event ∷ []; given = rest } in
    if is_done a.reply then with_event event next else next

-- the event was taken, and the run isn't further yet
abbrev pub pending : Event → Serving → Serving
pending event s = record s { events = s.events ++ event ∷ []; given = []; waits = true }

-- ---- notices

abbrev pub notice_texts : ℕ → List Notice → List ℕ
notice_texts moment [] = []
notice_texts moment (n ∷ notices) = message_text (notice_data moment n) ++ notice_texts moment notices

-- the monitor is told, whether it has negotiated or not; without one they are dropped
abbrev pub tell_desk : List ℕ → Option Desk → Serving → Serving
tell_desk text None s = s
tell_desk text (Some d) s = send d.number text s

abbrev pub tell : ℕ → List Notice → Serving → Serving
tell moment notices s = tell_desk (notice_texts moment notices) s.desk s

-- ---- clients

-- replies to events that were taken one after another
pub record Replied : Type 0 where
  pub replies : List Reply
  pub run : Serving

abbrev pub one_more : Reply → Replied → Replied
one_more reply r = record r { replies = reply ∷ r.replies }

-- the events of one request are taken in a row
abbrev pub take_requests : List Request → List Given → Serving → Replied
take_requests [] given s = record { replies = []; run = s }
take_requests (r ∷ requests) (Gave a moment ∷ rest) s = one_more a.reply (take_requests requests rest (tell moment a.notices (answered (Guest r) a rest s)))
take_requests (r ∷ requests) (Lacked ∷ rest) s = record { replies = []; run = pending (Guest r) s }
take_requests (r ∷ requests) [] s = record { replies = []; run = pending (Guest r) s }

abbrev pub is_lacking : List Given → Bool
is_lacking [] = false
is_lacking (Gave a moment ∷ rest) = false
is_lacking (Lacked ∷ rest) = true

-- a request is answered once all its events are
abbrev pub reply_to : Client → Head → Replied → Serving
reply_to c head r = if is_over r.run then r.run else send c.number (replies_of c.session.structured head r.replies) r.run

-- the request gives its events, unless there was no memory to take it in
abbrev pub serve_request : Client → Head → List Request → Serving → Serving
serve_request c head requests s =
    if is_lacking s.given then send c.number (error_reply c.session.structured head (error_number NoMemory)) (record s { given = drop 1 s.given })
    else reply_to c head (take_requests requests s.given s)

abbrev pub past : ℕ → Client → Client
past used c = record c { unread = drop used c.unread }

-- The whole messages of a client, one after another, at most so many.
abbrev pub serve_client : ℕ → Client → Serving → Serving
serve_client zero c s = with_client c s
serve_client (suc n) c s = if is_over s then s else elim (taken_of s.exports c.session c.unread) [
  | nbd.More ↦ with_client c s
  | Answered used sent next ↦ serve_client n (record (past used c) { session = next }) (send c.number sent s)
  | Asks used head requests ↦ serve_client n (past used c) (serve_request c head requests s)
  | HangsUp sent ↦ hang_up c.number (send c.number sent s)
]

-- each message has a byte at least
abbrev pub serve_bytes : Client → List ℕ → Serving → Serving
serve_bytes c bytes s = serve_client (suc (length c.unread + length bytes)) (record c { unread = c.unread ++ bytes }) s

-- ---- the monitor

abbrev pub with_desk : Desk → Serving → Serving
with_desk d s = record s { desk = Some d }

-- a command gives an event; its reply goes before its notices
abbrev pub serve_command : Desk → Command → Option Data → List Given → Serving → Serving
serve_command d c id (Gave a moment ∷ rest) s = tell moment a.notices (send d.number (message_text (reply_data id a.reply)) (answered (Monitor c) a rest s))
serve_command d c id (Lacked ∷ rest) s = pending (Monitor c) s
serve_command d c id [] s = pending (Monitor c) s

abbrev pub serve_order : Desk → Result Order RefusedMessage → Serving → Serving
serve_order d (Ok (Negotiate id)) s = send d.number (message_text (reply_data id Done)) s
serve_order d (Ok (Run c id)) s = serve_command d c id s.given s
serve_order d (Err refused) s = send d.number (message_text (refused_data refused)) s

abbrev pub negotiates : Result Order RefusedMessage → Bool
negotiates (Ok (Negotiate id)) = true
negotiates (Ok (Run c id)) = false
negotiates (Err refused) = false

abbrev pub too_long : RefusedMessage
too_long = record { fault = monitor.TooLong; action = None; id = None }

-- the whole messages of the monitor, one after another, at most so many
abbrev pub serve_desk : ℕ → Desk → Serving → Serving
serve_desk zero d s = with_desk d s
serve_desk (suc n) d s = if is_over s then s else elim (cut_of d.unread) [
  | More ↦ with_desk d s
  | Message start end ↦
      let order : Result Order RefusedMessage = order_of d.negotiated (take (end - start) (drop start d.unread)) in
      let next : Desk = record d { unread = drop end d.unread; negotiated = if negotiates order then true else d.negotiated } in
      serve_desk n next (serve_order d order (with_desk next s))
  | TooLong ↦ hang_up d.number (without_desk (send d.number (message_text (refused_data too_long)) s))
]

abbrev pub serve_text : Desk → List ℕ → Serving → Serving
serve_text d bytes s = serve_desk (suc (length d.unread + length bytes)) (record d { unread = d.unread ++ bytes }) s

-- ---- takings

abbrev pub open_client : ℕ → Serving → Serving
open_client number s =
    if nat_le most_clients (length s.clients) then hang_up number s
    else send number greeting (record s { clients = s.clients ++ record { number = number; session = new_session; unread = [] } ∷ [] })

-- a second monitor is hung up
abbrev pub open_desk : ℕ → Option Desk → Serving → Serving
open_desk number (Some d) s = hang_up number s
open_desk number None s = send number (message_text greeting_data) (with_desk (record { number = number; negotiated = false; unread = [] }) s)

abbrev pub is_desk : ℕ → Option Desk → Bool
is_desk number None = false
is_desk number (Some d) = d.number == number

abbrev pub give_client : Option Client → List ℕ → Serving → Serving
give_client None bytes s = s
give_client (Some c) bytes s = serve_bytes c bytes s

abbrev pub give_desk : Option Desk → List ℕ → Serving → Serving
give_desk None bytes s = s
give_desk (Some d) bytes s = serve_text d bytes s

abbrev pub give_bytes : ℕ → List ℕ → Serving → Serving
give_bytes number bytes s =
    if is_desk number s.desk then give_desk s.desk bytes s else give_client (find (is_client number) s.clients) bytes s

abbrev pub close : ℕ → Serving → Serving
close number s = if is_desk number s.desk then without_desk s else without_client number s

-- a tick
abbrev pub idle : List Given → Serving → Serving
idle (Gave a moment ∷ rest) s = tell moment a.notices (answered Tick a rest s)
idle (Lacked ∷ rest) s = pending Tick s
idle [] s = pending Tick s

abbrev pub after_taking : Taking → Serving → Serving
after_taking (Opened number true) s = open_desk number s.desk s
after_taking (Opened number false) s = open_client number s
after_taking (Bytes number bytes) s = give_bytes number bytes s
after_taking (Closed number) s = close number s
after_taking Idle s = idle s.given s
after_taking Stopped s = record s { ended = true }

-- A connection on which a send failed has got a part of what it was sent. What it asked in this taking is carried out, and it is hung up
-- before the next one.
abbrev pub drop_connection : ℕ → Serving → Serving
drop_connection number s =
    if is_desk number s.desk then hang_up number (without_desk s) else if list_any (is_client number) s.clients then hang_up number s else s

abbrev pub drop_connections : List ℕ → Serving → Serving
drop_connections [] s = s
drop_connections (number ∷ numbers) s = drop_connections numbers (drop_connection number s)

abbrev pub drop_failed : List (List ℕ) → Serving → Serving
drop_failed [] s = s
drop_failed (numbers ∷ more) s = drop_connections numbers (record s { failing = more })

-- the takings in order, up to one that ends the run
abbrev pub after_takings : List Taking → Serving → Serving
after_takings [] s = s
after_takings (t ∷ takings) s = if is_over s then s else after_takings takings (drop_failed s.failing (after_taking t s))

-- ---- a run

-- how a run begins that is given these answers, and in whose takings these sends fail
abbrev pub begin : ℕ → List Given → List (List ℕ) → Serving
begin size given failing =
    record { size = size; exports = []; clients = []; desk = None; given = given; failing = failing; events = []; sent = []; hung_up = []; ended = false; waits = false }

-- the events that takings give, where these answers are given
abbrev pub inputs : ℕ → List Taking → List Given → List (List ℕ) → List Event
inputs size takings given failing = (after_takings takings (begin size given failing)).events

abbrev pub is_to : ℕ → Sending → Bool
is_to number p = p.to == number

abbrev pub joined : List Sending → List ℕ
joined [] = []
joined (p ∷ sent) = p.bytes ++ joined sent

-- what a connection is sent
abbrev pub sent_to : ℕ → Serving → List ℕ
sent_to number s = joined (filter (is_to number) s.sent)

abbrev pub desk_numbers : Option Desk → List ℕ
desk_numbers None = []
desk_numbers (Some d) = d.number ∷ []

-- clients in order of opening, and then the monitor
abbrev pub hang_all_up : Serving → Serving
hang_all_up s = record s { clients = []; desk = None; hung_up = s.hung_up ++ map (λ (c : Client). c.number) s.clients ++ desk_numbers s.desk }

-- the end of a run: the notices of the closing are told, if it closed, and all connections are hung up
abbrev pub after_end : ℕ → List Notice → Serving → Serving
after_end moment notices s = hang_all_up (tell moment notices s)
