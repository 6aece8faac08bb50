-- A connection: its greeting, its whole messages, and what each makes of it.
use Rattle.std.specs.Prelude.{ℕ, ◌+◌, List, [], ◌∷◌, ◌++◌, take, drop, length, filter, replicate, Bool, true, false, ◌||◌, ◌==◌, nat_lt, nat_le, Option, Some, None, if◌then◌else◌, bytes_eq}
use Rattle.core_events.specs.Events.{Request}
use Rattle.core_events.specs.declared.infos.ExportInfo.{ExportInfo}
use Rattle.nbd_model.specs.Numbers.{be16, u32_at, greeting_magic, option_magic, request_magic, ack, err_unsup, err_invalid, err_unknown, err_too_big, longest_option, longest_skipped}
use Rattle.nbd_model.specs.Options.{option_reply, option_error, export_of, size_and_flags, list_replies, InfoAsk, info_of, info_replies, MetaAsk, meta_of, meta_fault, contexts_of, is_listed, listed_replies, selected_by, selected_replies}
use Rattle.nbd_model.specs.Requests.{Head, head_of, head_length, bytes_behind, disc_kind, requests_of, is_refused, error_reply, error_number}
use Rattle.core_events.specs.declared.answers.Errno.TheVariants.{Invalid}

-- ---- the state of a connection

pub data Phase : Type 0 where
  -- the client's flags are due
  Greeted : Phase
  -- options are due
  Haggling : Phase
  -- requests on this export are due
  Transmitting : (export : List ℕ) → Phase

pub record Session : Type 0 where
  pub phase : Phase
  -- the client wants no zeros behind an export's flags; and structured replies
  pub no_zeroes : Bool
  pub structured : Bool
  -- the contexts that were selected last, and of which export
  pub selected : List (List ℕ)
  pub selected_of : List ℕ

abbrev pub new_session : Session
new_session = record { phase = Greeted; no_zeroes = false; structured = false; selected = []; selected_of = [] }

-- what the server sends first: fixed newstyle, and no zeros if the client likes
abbrev pub greeting : List ℕ
greeting = greeting_magic ++ option_magic ++ be16 3

-- ---- what the bytes that are left give

pub data Taken : Type 0 where
  -- no whole message
  More : Taken
  -- a message of so many bytes that gives no event, and is answered so
  Answered : (used : ℕ) (sent : List ℕ) (next : Session) → Taken
  -- a request of so many bytes that gives these events
  Asks : (used : ℕ) (head : Head) (requests : List Request) → Taken
  -- the connection is hung up, after these bytes
  HangsUp : (sent : List ℕ) → Taken

-- ---- the client's flags: fixed newstyle, no zeros

abbrev pub greeted : ℕ → Session → Taken
greeted flags s = if nat_lt 3 flags then HangsUp [] else Answered 4 [] (record s { phase = Haggling; no_zeroes = nat_le 2 flags })

-- ---- options

abbrev pub without_selection : Session → Session
without_selection s = record s { selected = []; selected_of = [] }

-- a selection is for its own export
abbrev pub begun : List ℕ → Session → Session
begun export s = record (if bytes_eq export s.selected_of then s else without_selection s) { phase = Transmitting export }

abbrev pub zeros_if : Bool → List ℕ
zeros_if no_zeroes = if no_zeroes then [] else replicate 124 0

abbrev pub export_name : ℕ → Option ExportInfo → Session → Taken
export_name used None s = HangsUp []
export_name used (Some e) s = Answered used (size_and_flags e ++ zeros_if s.no_zeroes) (begun e.name s)

-- an option without content
abbrev pub plain_option : ℕ → ℕ → List ℕ → List ℕ → Session → Session → Taken
plain_option used option [] reply next s = Answered used reply next
plain_option used option (b ∷ content) reply next s = Answered used (option_error option err_invalid) s

abbrev pub is_go : ℕ → Bool
is_go option = option == 7

abbrev pub informed : ℕ → ℕ → Bool → Option ExportInfo → Session → Taken
informed used option sizes None s = Answered used (option_error option err_unknown) s
informed used option sizes (Some e) s = Answered used (info_replies option sizes e) (if is_go option then begun e.name s else s)

abbrev pub info_option : ℕ → ℕ → List ExportInfo → Option InfoAsk → Session → Taken
info_option used option exports None s = Answered used (option_error option err_invalid) s
info_option used option exports (Some ask) s = informed used option ask.sizes (export_of ask.name exports) s

abbrev pub listed : ℕ → ℕ → List (List ℕ) → Option ExportInfo → Session → Taken
listed used option queries None s = Answered used (option_error option err_unknown) s
listed used option queries (Some e) s = Answered used (listed_replies option (filter (is_listed queries) (contexts_of e))) s

abbrev pub selected : ℕ → ℕ → List (List ℕ) → Option ExportInfo → Session → Taken
selected used option queries None s = Answered used (option_error option err_unknown) s
selected used option queries (Some e) s =
    Answered used (selected_replies option 1 (selected_by queries e)) (record s { selected = selected_by queries e; selected_of = e.name })

abbrev pub is_set : ℕ → Bool
is_set option = option == 10

abbrev pub meta_asked : ℕ → ℕ → List ExportInfo → Option MetaAsk → Session → Taken
meta_asked used option exports None s = Answered used (option_error option err_invalid) s
meta_asked used option exports (Some ask) s =
    if is_set option then selected used option ask.queries (export_of ask.name exports) s else listed used option ask.queries (export_of ask.name exports) s

-- setting contexts drops the earlier selection, also where it is refused
abbrev pub meta_option : ℕ → ℕ → List ExportInfo → Option MetaAsk → Session → Taken
meta_option used option exports ask s =
    let next : Session = if is_set option then without_selection s else s in
    elim (meta_fault s.structured exports ask) [ Some kind ↦ Answered used (option_error option kind) next | None ↦ meta_asked used option exports ask next ]

-- an option whose content is here
abbrev pub option_taken : ℕ → ℕ → List ℕ → List ExportInfo → Session → Taken
option_taken used option content exports s =
    if option == 1 then export_name used (export_of content exports) s
    else if option == 2 then HangsUp (option_reply option ack [])
    else if option == 3 then plain_option used option content (list_replies option exports) s s
    else if (option == 6) || (option == 7) then info_option used option exports (info_of content) s
    else if option == 8 then plain_option used option content (option_reply option ack []) (record s { structured = true }) s
    else if (option == 9) || (option == 10) then meta_option used option exports (meta_of content) s
    else Answered used (option_error option err_unsup) s

-- an option that is too long is skipped
abbrev pub skipped : ℕ → ℕ → Session → Taken
skipped used option s = Answered used (option_error option err_too_big) (if is_set option then without_selection s else s)

abbrev pub whole_option : List ℕ → List ExportInfo → Session → Taken
whole_option bytes exports s =
    let size : ℕ = u32_at bytes 12 in
    if nat_lt longest_skipped size then HangsUp []
    else if nat_lt (length bytes) (16 + size) then More
    else if nat_lt longest_option size then skipped (16 + size) (u32_at bytes 8) s
    else option_taken (16 + size) (u32_at bytes 8) (take size (drop 16 bytes)) exports s

-- ---- requests

abbrev pub whole_request : List ℕ → List ℕ → Session → Taken
whole_request bytes export s =
    let head : Head = head_of bytes in
    let used : ℕ = head_length + bytes_behind head in
    if head.kind == disc_kind then HangsUp []
    else if nat_lt (length bytes) used then More
    else if is_refused s.selected head then Answered used (error_reply s.structured head (error_number Invalid)) s
    else Asks used head (requests_of export s.selected head (take (bytes_behind head) (drop head_length bytes)))

-- ---- messages

-- a wrong magic shows once the head is whole
abbrev pub by_magic : List ℕ → ℕ → List ℕ → Taken → Taken
by_magic magic head bytes taken =
    if nat_lt (length bytes) head then More else if bytes_eq (take (length magic) bytes) magic then taken else HangsUp []

abbrev pub taken_in : Phase → List ExportInfo → Session → List ℕ → Taken
taken_in Greeted exports s bytes = if nat_lt (length bytes) 4 then More else greeted (u32_at bytes 0) s
taken_in Haggling exports s bytes = by_magic option_magic 16 bytes (whole_option bytes exports s)
taken_in (Transmitting export) exports s bytes = by_magic request_magic head_length bytes (whole_request bytes export s)

-- what the first whole message of these bytes gives, where these are the exports
unfoldable pub taken_of : List ExportInfo → Session → List ℕ → Taken
taken_of exports s bytes = taken_in s.phase exports s bytes
