-- A request that is taken asks something.
use Rattle.std.proofs.Common.{List, ℕ, ◌+◌, [], length, drop, take, Bool, true, false, rules, arith}
use Rattle.std.proofs.lemmas.Grind.{common_steps}
use Rattle.std.specs.Prelude.{nat_lt, ◌==◌, if◌then◌else◌}
use Rattle.core_events.specs.declared.answers.Errno.TheVariants.{Invalid}
use Rattle.core_events.specs.declared.infos.ExportInfo.{ExportInfo}
use Rattle.nbd_model.specs.Numbers.{u32_at, option_magic, request_magic, longest_option, longest_skipped}
use Rattle.nbd_model.specs.Requests.{Head, head_of, head_length, bytes_behind, disc_kind, requests_of, is_refused, error_reply, error_number}
use Rattle.nbd_model.specs.Sessions.{Phase, Greeted, Haggling, Transmitting, Session, Taken, More, Answered, Asks, HangsUp, skipped, option_taken, whole_option, whole_request, by_magic, taken_in, taken_of}
use Rattle.nbd_session.specs.Connections.{AsksSomething}

either : (c : Bool) (x y : Taken) → AsksSomething x → AsksSomething y → AsksSomething (if c then x else y)
either true x y first second = first
either false x y first second = second

answer_asks : (used option : ℕ) (content : List ℕ) (exports : List ExportInfo) (s : Session) → AsksSomething (option_taken used option content exports s)
answer_asks used option content exports s = search rules

option_asks : (size option : ℕ) (bytes content : List ℕ) (exports : List ExportInfo) (s : Session)
    → AsksSomething (if nat_lt longest_skipped size then HangsUp []
    else if nat_lt (length bytes) (16 + size) then More
    else if nat_lt longest_option size then skipped (16 + size) option s
    else option_taken (16 + size) option content exports s)
option_asks size option bytes content exports s =
    either (nat_lt longest_skipped size) _ _ tt (either (nat_lt (length bytes) (16 + size)) _ _ tt (either (nat_lt longest_option size) _ _ tt (answer_asks (16 + size) option content exports s)))

here_asks : (head : Head) (content export : List ℕ) (s : Session)
    → AsksSomething (if is_refused s.selected head then Answered (head_length + bytes_behind head) (error_reply s.structured head (error_number Invalid)) s
    else Asks (head_length + bytes_behind head) head (requests_of export s.selected head content))
here_asks head content export s = grind (arith, common_steps)

request_asks : (head : Head) (bytes content export : List ℕ) (s : Session)
    → AsksSomething (if head.kind == disc_kind then HangsUp []
    else if nat_lt (length bytes) (head_length + bytes_behind head) then More
    else if is_refused s.selected head then Answered (head_length + bytes_behind head) (error_reply s.structured head (error_number Invalid)) s
    else Asks (head_length + bytes_behind head) head (requests_of export s.selected head content))
request_asks head bytes content export s = search (rules, here_asks)

magic_asks : (magic : List ℕ) (head : ℕ) (bytes : List ℕ) (x : Taken) → AsksSomething x → AsksSomething (by_magic magic head bytes x)
magic_asks magic head bytes x each = search rules

in_asks : (phase : Phase) (exports : List ExportInfo) (s : Session) (bytes : List ℕ) → AsksSomething (taken_in phase exports s bytes)
in_asks Greeted exports s bytes = search rules
in_asks Haggling exports s bytes =
    magic_asks option_magic 16 bytes (whole_option bytes exports s)
    (option_asks (u32_at bytes 12) (u32_at bytes 8) bytes (take (u32_at bytes 12) (drop 16 bytes)) exports s)
in_asks (Transmitting export) exports s bytes =
    magic_asks request_magic head_length bytes (whole_request bytes export s)
    (request_asks (head_of bytes) bytes (take (bytes_behind (head_of bytes)) (drop head_length bytes)) export s)

pub taken_asks : (exports : List ExportInfo) (s : Session) (bytes : List ℕ) → AsksSomething (taken_of exports s bytes)
unfolding taken_of
taken_asks exports s bytes = in_asks s.phase exports s bytes
