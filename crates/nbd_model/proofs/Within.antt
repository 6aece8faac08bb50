-- What a message takes: a byte at least, and no more than are there.
use Rattle.std.proofs.Common.{List, ℕ, ◌+◌, [], length, drop, take, rules, arith}
use Rattle.std.proofs.lemmas.Grind.{common_steps}
use Rattle.std.specs.Prelude.{nat_lt, ◌==◌, if◌then◌else◌}
use Rattle.core_events.specs.declared.answers.Errno.TheVariants.{Invalid}
use Rattle.core_events.specs.declared.infos.ExportInfo.{ExportInfo}
use Rattle.nbd_model.specs.Numbers.{u32_at, option_magic, request_magic, longest_option, longest_skipped}
use Rattle.nbd_model.specs.Requests.{Head, head_of, head_length, bytes_behind, disc_kind, requests_of, is_refused, error_reply, error_number}
use Rattle.nbd_model.specs.Sessions.{Phase, Greeted, Haggling, Transmitting, Session, Taken, More, Answered, Asks, HangsUp, skipped, option_taken, whole_option, whole_request, by_magic, taken_in, taken_of}
use Rattle.nbd_model.specs.Laws.{IsWithin, TakesWithin}

answer_within : (used option : ℕ) (bytes content : List ℕ) (exports : List ExportInfo) (s : Session) → IsWithin used bytes
    → TakesWithin bytes (option_taken used option content exports s)
answer_within used option bytes content exports s w = search rules

option_within : (size option : ℕ) (bytes content : List ℕ) (exports : List ExportInfo) (s : Session)
    → TakesWithin bytes (if nat_lt longest_skipped size then HangsUp []
    else if nat_lt (length bytes) (16 + size) then More
    else if nat_lt longest_option size then skipped (16 + size) option s
    else option_taken (16 + size) option content exports s)
option_within size option bytes content exports s = grind (arith, common_steps, answer_within)

request_within : (head : Head) (bytes content export : List ℕ) (s : Session)
    → TakesWithin bytes (if head.kind == disc_kind then HangsUp []
    else if nat_lt (length bytes) (head_length + bytes_behind head) then More
    else if is_refused s.selected head then Answered (head_length + bytes_behind head) (error_reply s.structured head (error_number Invalid)) s
    else Asks (head_length + bytes_behind head) head (requests_of export s.selected head content))
request_within head bytes content export s = search rules

magic_within : (magic : List ℕ) (head : ℕ) (bytes : List ℕ) (x : Taken) → TakesWithin bytes x → TakesWithin bytes (by_magic magic head bytes x)
magic_within magic head bytes x each = search rules

in_within : (phase : Phase) (exports : List ExportInfo) (s : Session) (bytes : List ℕ) → TakesWithin bytes (taken_in phase exports s bytes)
in_within Greeted exports s bytes = search rules
in_within Haggling exports s bytes =
    magic_within option_magic 16 bytes (whole_option bytes exports s)
    (option_within (u32_at bytes 12) (u32_at bytes 8) bytes (take (u32_at bytes 12) (drop 16 bytes)) exports s)
in_within (Transmitting export) exports s bytes =
    magic_within request_magic head_length bytes (whole_request bytes export s)
    (request_within (head_of bytes) bytes (take (bytes_behind (head_of bytes)) (drop head_length bytes)) export s)

pub taken_within : (exports : List ExportInfo) (s : Session) (bytes : List ℕ) → TakesWithin bytes (taken_of exports s bytes)
unfolding taken_of
taken_within exports s bytes = in_within s.phase exports s bytes
