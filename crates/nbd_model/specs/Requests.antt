-- The transmission: what a request asks, and how it is answered (NBD protocol, "Request types", "Structured reply chunks").
use Rattle.std.specs.Prelude.{ℕ, ◌+◌, ◌/◌, ◌%◌, ◌^◌, List, [], ◌∷◌, ◌++◌, length, map, Bool, true, false, not, ◌&&◌, ◌||◌, ◌==◌, nat_lt, if◌then◌else◌}
use Rattle.span_algebra.specs.declared.lists.Run.{Run}
use Rattle.core_events.specs.Events.{Request}
use Rattle.core_events.specs.declared.events.Work.{Work}
use Rattle.core_events.specs.declared.events.Work.TheVariants.{Read, Write, Zero, Flush, Status}
use Rattle.core_events.specs.declared.events.Way.TheVariants.{Export}
use Rattle.core_events.specs.declared.answers.Errno.{Errno}
use Rattle.core_events.specs.declared.answers.Errno.TheVariants.{Perm, Io, NoMemory, Invalid, NoSpace, Shutdown}
use Rattle.core_events.specs.Answers.{Reply, Done, Content, Flags, Fault, Jobs, Nodes, Refused}
use Rattle.nbd_model.specs.Numbers.{be16, be32, be64, u16_at, u32_at, u64_at, simple_magic, chunk_magic, longest_data}

-- ---- heads

-- a request's head, of 28 bytes
pub record Head : Type 0 where
  pub flags : ℕ
  pub kind : ℕ
  pub cookie : ℕ
  pub offset : ℕ
  pub length : ℕ

abbrev pub head_length : ℕ
head_length = 28

abbrev pub head_of : List ℕ → Head
head_of bytes = record { flags = u16_at bytes 4; kind = u16_at bytes 6; cookie = u64_at bytes 8; offset = u64_at bytes 16; length = u32_at bytes 24 }

abbrev pub read_kind : ℕ
read_kind = 0

abbrev pub write_kind : ℕ
write_kind = 1

abbrev pub disc_kind : ℕ
disc_kind = 2

abbrev pub flush_kind : ℕ
flush_kind = 3

abbrev pub zero_kind : ℕ
zero_kind = 6

abbrev pub status_kind : ℕ
status_kind = 7

-- a write's bytes follow its head, whatever else is wrong with it
abbrev pub bytes_behind : Head → ℕ
bytes_behind h = if h.kind == write_kind then h.length else 0

-- ---- flags

abbrev pub has_flag : ℕ → ℕ → Bool
has_flag flags bit = flags / 2 ^ bit % 2 == 1

abbrev pub fua : Head → Bool
fua h = has_flag h.flags 0

abbrev pub no_hole : Head → Bool
no_hole h = has_flag h.flags 1

abbrev pub one_run : Head → Bool
one_run h = has_flag h.flags 3

-- FUA may stand in each request, NO_HOLE in a zero, REQ_ONE in a status, and no other flag
abbrev pub are_allowed : Head → Bool
are_allowed h =
    (h.flags % 2 + (if (h.kind == zero_kind) && no_hole h then 2 else 0) + (if (h.kind == status_kind) && one_run h then 8 else 0)) == h.flags

abbrev pub is_known : ℕ → Bool
is_known kind =
    (kind == read_kind) || ((kind == write_kind) || ((kind == flush_kind) || ((kind == zero_kind) || (kind == status_kind))))

-- ---- requests

-- a request on an export
abbrev pub asked : List ℕ → Head → Work → List ℕ → Request
asked export h work bytes = record { way = Export export; work = work; offset = h.offset; length = h.length; bytes = bytes }

-- the bytes of a write that is too long are skipped
abbrev pub written : Head → List ℕ → List ℕ
written h bytes = if nat_lt longest_data h.length then [] else bytes

-- what a request of a known kind asks; a status asks once for each selected context, in their order
abbrev pub requests_of : List ℕ → List (List ℕ) → Head → List ℕ → List Request
requests_of export contexts h bytes =
    if h.kind == read_kind then asked export h Read [] ∷ []
    else if h.kind == write_kind then asked export h (Write (fua h)) (written h bytes) ∷ []
    else if h.kind == flush_kind then asked export h Flush [] ∷ []
    else if h.kind == zero_kind then asked export h (Zero (fua h) (no_hole h)) [] ∷ []
    else map (λ context. asked export h (Status context (one_run h)) []) contexts

-- it is refused at once by its kind, by its flags, or as a status without a context
abbrev pub is_refused : List (List ℕ) → Head → Bool
is_refused contexts h = not (is_known h.kind) || (not (are_allowed h) || ((h.kind == status_kind) && (length contexts == 0)))

-- ---- replies

abbrev pub error_number : Errno → ℕ
error_number Perm = 1
error_number Io = 5
error_number NoMemory = 12
error_number Invalid = 22
error_number NoSpace = 28
error_number Shutdown = 108

abbrev pub simple_reply : ℕ → ℕ → List ℕ → List ℕ
simple_reply error cookie bytes = simple_magic ++ be32 error ++ be64 cookie ++ bytes

-- a chunk, the last one of its reply or not
abbrev pub chunk : Bool → ℕ → ℕ → List ℕ → List ℕ
chunk done kind cookie content = chunk_magic ++ be16 (if done then 1 else 0) ++ be16 kind ++ be64 cookie ++ be32 (length content) ++ content

-- an error ends a reply; its message is empty
abbrev pub error_chunk : ℕ → ℕ → List ℕ
error_chunk error cookie = chunk true 32769 cookie (be32 error ++ be16 0)

abbrev pub is_chunked : Bool → ℕ → Bool
is_chunked structured kind = structured && ((kind == read_kind) || (kind == status_kind))

-- an error, by the way in which the request is answered
abbrev pub error_reply : Bool → Head → ℕ → List ℕ
error_reply structured h error = if is_chunked structured h.kind then error_chunk error h.cookie else simple_reply error h.cookie []

-- the bytes of a read
abbrev pub read_reply : Bool → Head → List ℕ → List ℕ
read_reply false h bytes = simple_reply 0 h.cookie bytes
read_reply true h [] = chunk true 0 h.cookie []
read_reply true h (b ∷ bytes) = chunk true 1 h.cookie (be64 h.offset ++ b ∷ bytes)

abbrev pub run_bytes : List Run → List ℕ
run_bytes [] = []
run_bytes (r ∷ runs) = be32 r.length ++ be32 r.flags ++ run_bytes runs

-- the reply to a request that isn't a status
abbrev pub reply_of : Bool → Head → Reply → List ℕ
reply_of structured h Done = simple_reply 0 h.cookie []
reply_of structured h (Content bytes) = read_reply structured h bytes
reply_of structured h (Flags runs) = simple_reply 0 h.cookie []
reply_of structured h (Fault errno) = error_reply structured h (error_number errno)
reply_of structured h (Jobs jobs) = simple_reply 0 h.cookie []
reply_of structured h (Nodes nodes) = simple_reply 0 h.cookie []
reply_of structured h (Refused action refusal) = simple_reply 0 h.cookie []

-- The reply to a status, from the context of this number on: a chunk for each, the last one marked. Where one fails, an error stands in
-- its place and ends the reply; what the later ones are answered is dropped.
abbrev pub status_reply : Head → ℕ → List Reply → List ℕ
status_reply h id [] = []
status_reply h id (Flags runs ∷ []) = chunk true 5 h.cookie (be32 id ++ run_bytes runs)
status_reply h id (Flags runs ∷ reply ∷ replies) = chunk false 5 h.cookie (be32 id ++ run_bytes runs) ++ status_reply h (id + 1) (reply ∷ replies)
status_reply h id (Fault errno ∷ replies) = error_chunk (error_number errno) h.cookie
status_reply h id (Done ∷ replies) = []
status_reply h id (Content bytes ∷ replies) = []
status_reply h id (Jobs jobs ∷ replies) = []
status_reply h id (Nodes nodes ∷ replies) = []
status_reply h id (Refused action refusal ∷ replies) = []

abbrev pub first_reply : Bool → Head → List Reply → List ℕ
first_reply structured h [] = []
first_reply structured h (reply ∷ replies) = reply_of structured h reply

-- what a request is answered, once each event that it gave is
abbrev pub replies_of : Bool → Head → List Reply → List ℕ
replies_of structured h replies = if h.kind == status_kind then status_reply h 1 replies else first_reply structured h replies
