-- What a session knows of a message that it has begun to read, and of which connection it is the state.
use Rattle.std.specs.Prelude.{◌≡◌, ◌≢◌, ◌⊎◌, ℕ, ◌+◌, ◌-◌, ◌<◌, ◌≤◌, ◌^◌, List, [], ◌++◌, take, drop, map, length, get_or, nat_lt, ◌==◌, if◌then◌else◌, true, false, not, ◌||◌, Bool, Result, Ok, Err}
use Rattle.std.specs.declared.alloc.AllocError.{AllocError}
use Rattle.core_events.specs.Events.{Request}
use Rattle.core_events.specs.Answers.{Reply}
use Rattle.core_events.specs.declared.infos.ExportInfo.{ExportInfo}
use Rattle.core_events.specs.Views.{plain_request}
use Rattle.core_events.specs.declared.answers.Errno.TheVariants.{Invalid, NoMemory}
use Rattle.core_events.specs.declared.events.Next.{Next}
use Rattle.core_events.specs.declared.events.Next.TheVariants as next
use Rattle.core_events.specs.declared.events.Event.TheVariants.{Guest, Monitor, Tick}
use Rattle.core_events.specs.declared.events.Work.{Work}
use Rattle.core_events.specs.declared.events.Work.TheVariants.{Read, Write, Zero, Flush, Status}
use Rattle.nbd_model.specs.Numbers.{longest_data, longest_option, longest_skipped}
use Rattle.nbd_model.specs.Requests.{Head, read_kind, write_kind, disc_kind, flush_kind, zero_kind, status_kind, fua, no_hole, one_run, bytes_behind, asked, requests_of, is_refused, error_reply, error_number, reply_of}
use Rattle.nbd_model.specs.Sessions.{Taken, More, Answered, Asks, HangsUp, skipped, option_taken, taken_of}
use Rattle.nbd_session.specs.Turns as turns
use Rattle.nbd_session.specs.Connections.{Connection, Gives}
use Rattle.nbd_session.specs.Parts.{plain_agreed, plain_head}
use Rattle.nbd_session.specs.declared.agreed.Agreed.{Agreed}
use Rattle.nbd_session.specs.declared.session.Reading.{Reading}
use Rattle.nbd_session.specs.declared.session.Reading.TheVariants as reading
use Rattle.nbd_session.specs.declared.session.Turn.{Turn}
use Rattle.nbd_session.specs.declared.session.Turn.TheVariants as code
use Rattle.nbd_session.specs.declared.session.Session.{Session}
use Rattle.nbd_session.specs.declared.session.Asked.{Asked}
use Rattle.nbd_session.specs.declared.agreed.Phase.TheVariants.{Greeted}
use Rattle.nbd_session.specs.declared.asking.Opened.{Opened}
use Rattle.nbd_session.specs.declared.asking.Opened.TheVariants.{Waits, HangsUp as Hangs, Reads}
use Rattle.nbd_codec.specs.declared.heads.RequestHead.{RequestHead}
use Rattle.nbd_codec.specs.declared.heads.OptionHead.{OptionHead}

-- ---- messages

-- a request whose bytes are here
abbrev pub request_taken : ℕ → Head → List ℕ → Agreed → Taken
request_taken used h content a =
    if is_refused a.selected h then Answered used (error_reply a.structured h (error_number Invalid)) (plain_agreed a)
    else Asks used h (requests_of a.export a.selected h content)

-- what a message gives, of which so many bytes were read, once these follow them
abbrev pub given_by : Reading → List ExportInfo → Agreed → ℕ → List ℕ → Taken
given_by reading.Head exports a done rest = taken_of exports (plain_agreed a) rest
given_by (reading.Content head) exports a done rest =
    if nat_lt (length rest) head.length then More else option_taken (done + head.length) head.number (take head.length rest) exports (plain_agreed a)
given_by (reading.LongOption number left) exports a done rest = if nat_lt (length rest) left then More else skipped (done + left) number (plain_agreed a)
given_by (reading.Bytes head) exports a done rest =
    if nat_lt (length rest) (bytes_behind (plain_head head)) then More
    else Asks (done + bytes_behind (plain_head head)) (plain_head head) (requests_of a.export a.selected (plain_head head) (take (bytes_behind (plain_head head)) rest))
given_by (reading.Skipped head left) exports a done rest = if nat_lt (length rest) left then More else request_taken (done + left) (plain_head head) [] a

-- how many bytes are to be skipped, and what is read once so many of them were
abbrev pub skips : Reading → ℕ
skips reading.Head = 0
skips (reading.Content head) = 0
skips (reading.LongOption number left) = left
skips (reading.Bytes head) = 0
skips (reading.Skipped head left) = left

abbrev pub without : Reading → ℕ → Reading
without reading.Head n = reading.Head
without (reading.Content head) n = reading.Content head
without (reading.LongOption number left) n = reading.LongOption number (left - n)
without (reading.Bytes head) n = reading.Bytes head
without (reading.Skipped head left) n = reading.Skipped head (left - n)

-- what is kept of a message
abbrev pub Keeps : Reading → ℕ → Agreed → List ℕ → Type 0
Keeps reading.Head done a rest = done ≡ 0
Keeps (reading.Content head) done a rest = head.length ≤ longest_option
Keeps (reading.LongOption number left) done a rest = (left ≡ 0) ⊎ (rest ≡ [])
Keeps (reading.Bytes head) done a rest = (bytes_behind (plain_head head) ≤ longest_data) × (is_refused a.selected (plain_head head) ≡ false)
Keeps (reading.Skipped head left) done a rest = (left ≡ 0) ⊎ (rest ≡ [])

-- what is known of a message that was begun, besides
abbrev pub IsShort : Reading → Agreed → Type 0
IsShort reading.Head a = ⊥
IsShort (reading.Content head) a = head.length ≤ longest_option
IsShort (reading.LongOption number left) a = Unit {0}
IsShort (reading.Bytes head) a = (bytes_behind (plain_head head) ≤ longest_data) × (is_refused a.selected (plain_head head) ≡ false)
IsShort (reading.Skipped head left) a = Unit {0}

-- ---- requests

-- what a request asks, a status of this context
abbrev pub work_of : Head → List ℕ → Work
work_of h context =
    if h.kind == read_kind then Read
    else if h.kind == write_kind then Write (fua h)
    else if h.kind == flush_kind then Flush
    else if h.kind == zero_kind then Zero (fua h) (no_hole h)
    else Status context (one_run h)

-- the request of this number, where a status asks once for each context
abbrev pub request_at : Agreed → Head → ℕ → List ℕ → Request
request_at a h n bytes = asked a.export h (work_of h (get_or a.selected n [])) bytes

-- the requests behind that of this number
abbrev pub left_behind : Agreed → Head → ℕ → List Request
left_behind a h n = if h.kind == status_kind then map (λ context. asked a.export h (Status context (one_run h)) []) (drop (n + 1) a.selected) else []

-- one more request of that head is to be asked
pub record IsLeft (a : Agreed) (h : Head) (n : ℕ) : Type 0 where
  pub status : h.kind ≡ status_kind
  pub there : n < length a.selected

abbrev pub TurnIs : Agreed → Turn → turns.Turn → Type 0
TurnIs a code.Idle turn = turn ≡ turns.Idle
TurnIs a (code.Due asked) turn = turn ≡ turns.Due (plain_head asked.head) (left_behind a (plain_head asked.head) asked.answered) asked.answered asked.ended
TurnIs a (code.Left asked) turn =
    IsLeft a (plain_head asked.head) asked.answered
    × (turn ≡ turns.Left (plain_head asked.head) (request_at a (plain_head asked.head) asked.answered []) (left_behind a (plain_head asked.head) asked.answered) asked.answered asked.ended)

-- ---- connections

-- The session is the state of this connection. Of the bytes that weren't taken it keeps those behind the ones that it has read.
pub record IsAt (s : Session) (c : Connection) : Type 0 where
  pub done : List ℕ
  pub unread : c.unread ≡ done ++ s.unread
  pub agreed : c.session ≡ plain_agreed s.agreed
  pub turn : TurnIs s.agreed s.turn c.turn
  pub gives : (exports : List ExportInfo) (rest : List ℕ) → taken_of exports (plain_agreed s.agreed) (done ++ rest) ≡ given_by s.reading exports s.agreed (length done) rest
  pub keeps : Keeps s.reading (length done) s.agreed s.unread

-- no head is whole
abbrev pub WaitsForHead : Session → List ExportInfo → Type 0
WaitsForHead s exports = s.reading ≡ reading.Head → s.agreed.phase ≢ Greeted → (taken_of exports (plain_agreed s.agreed) s.unread ≡ More) × (length s.unread < 28)

-- how the first bytes of a message are read, whatever follows them
pub record IsBegun (r : Reading) (size : ℕ) (exports : List ExportInfo) (a : Agreed) (bytes : List ℕ) : Type 0 where
  pub some : 0 < size
  pub within : size ≤ length bytes
  pub gives : (rest : List ℕ) → taken_of exports (plain_agreed a) (take size bytes ++ rest) ≡ given_by r exports a size rest
  pub short : IsShort r a

abbrev pub Opens : Opened → List ExportInfo → Agreed → List ℕ → Type 0
Opens Waits exports a bytes = a.phase ≢ Greeted → (taken_of exports (plain_agreed a) bytes ≡ More) × (length bytes < 28)
Opens Hangs exports a bytes = taken_of exports (plain_agreed a) bytes ≡ HangsUp []
Opens (Reads r size) exports a bytes = IsBegun r size exports a bytes

-- ---- calls

-- where it waits for more, less than this is kept
abbrev pub IsBounded : Next → List ℕ → Type 0
IsBounded next.More unread = length unread < 2 ^ 25
IsBounded next.Answered unread = Unit {0}
IsBounded (next.Take event) unread = Unit {0}
IsBounded next.HangUp unread = Unit {0}

pub record Does (exports : List ExportInfo) (c : Connection) (new : Session) (out sent : List ℕ) (next : Next) : Type 0 where
  pub gives : Gives exports c out sent (IsAt new) next
  pub bounded : IsBounded next new.unread

-- a call for the next message came to this; without memory the connection is as it was
abbrev pub Answers : List ExportInfo → Session → Session → List ℕ → List ℕ → Result Next AllocError → Type 0
Answers exports old new out sent (Ok next) = (c : Connection) → IsAt old c → Does exports c new out sent next
Answers exports old new out sent (Err e) = ((c : Connection) → IsAt old c → IsAt new c) × (sent ≡ out)

-- the message ends behind so many bytes of those that are kept
abbrev pub ended : Session → ℕ → Session
ended s size = record s { unread = drop size s.unread; reading = reading.Head }

abbrev pub first_asked : RequestHead → Asked
first_asked head = record { head = head; answered = 0; ended = false }

-- a request was asked, or refused for want of memory
abbrev pub AsksFirst : RequestHead → ℕ → Session → Session → List ℕ → List ℕ → Result Next AllocError → Type 0
AsksFirst head size old new out sent (Ok (next.Take (Guest r))) =
    (plain_request r ≡ request_at old.agreed (plain_head head) 0 (take size old.unread)) × (new ≡ record (ended old size) { turn = code.Due (first_asked head) }) × (sent ≡ out)
AsksFirst head size old new out sent (Ok next.Answered) = (new ≡ ended old size) × (sent ≡ out ++ error_reply old.agreed.structured (plain_head head) (error_number NoMemory))
AsksFirst head size old new out sent (Ok (next.Take (Monitor command))) = ⊥
AsksFirst head size old new out sent (Ok (next.Take Tick)) = ⊥
AsksFirst head size old new out sent (Ok next.More) = ⊥
AsksFirst head size old new out sent (Ok next.HangUp) = ⊥
AsksFirst head size old new out sent (Err e) = (new ≡ old) × (sent ≡ out)

-- no reply is due
abbrev pub NoneIsDue : turns.Turn → Type 0
NoneIsDue turns.Idle = Unit {0}
NoneIsDue (turns.Due head left answered ended) = ⊥
NoneIsDue (turns.Left head next left answered ended) = Unit {0}

-- what a reply adds, by whether it is that of the last context
abbrev pub part : Bool → Head → Bool → ℕ → Bool → Reply → List ℕ
part structured h last answered ended reply =
    if ended then [] else if h.kind == status_kind then turns.status_part h last answered reply else reply_of structured h reply

-- what waits behind a reply
abbrev pub next_turn : Bool → Asked → Reply → Turn
next_turn last asked reply = if last then code.Idle else code.Left (record { head = asked.head; answered = asked.answered + 1; ended = if asked.ended then true else not (turns.is_flags reply) })

-- how an option and a request begin, by their heads
abbrev pub opened_option : OptionHead → Opened
opened_option head =
    if nat_lt longest_skipped head.length then Hangs
    else if nat_lt longest_option head.length then Reads (reading.LongOption head.number head.length) 16
    else Reads (reading.Content head) 16

abbrev pub opened_request : List (List ℕ) → RequestHead → Opened
opened_request selected head =
    if head.kind == disc_kind then Hangs
    else if is_refused selected (plain_head head) || nat_lt longest_data (bytes_behind (plain_head head)) then Reads (reading.Skipped head (bytes_behind (plain_head head))) 28
    else Reads (reading.Bytes head) 28
