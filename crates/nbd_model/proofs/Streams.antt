-- Streams that are cut: what a whole message gives doesn't depend on the bytes behind it.
use Rattle.std.proofs.Common.{rules}
use Rattle.std.proofs.lemmas.Grind.{common_steps}
use Rattle.std.proofs.Common.{◌≡◌, ◌≢◌, ℕ, ◌+◌, ◌≤◌, List, [], ◌++◌, length, drop, take, Bool, true, false, refl, ap, ◌∙◌, arith}
use Rattle.std.specs.Prelude.{nat_lt, ◌==◌, if◌then◌else◌}
use Rattle.std.specs.Int.{from_be_bytes, w64}
use Rattle.core_events.specs.declared.infos.ExportInfo.{ExportInfo}
use Rattle.core_events.specs.declared.answers.Errno.TheVariants.{Invalid}
use Rattle.nbd_model.specs.Numbers.{u16_at, u32_at, u64_at, longest_option, longest_skipped}
use Rattle.nbd_model.specs.Requests.{Head, head_of, head_length, bytes_behind, disc_kind, requests_of, is_refused, error_reply, error_number}
use Rattle.nbd_model.specs.Sessions.{Phase, Greeted, Haggling, Transmitting, Session, Taken, More, Answered, Asks, HangsUp, skipped, option_taken, whole_option, whole_request, by_magic, taken_in, taken_of}

-- ---- bytes in front

part_same : (a b : List ℕ) (at n : ℕ) → at + n ≤ length a → take n (drop at (a ++ b)) ≡ take n (drop at a)
part_same a b at n inside = grind (arith, common_steps)

u16_same : (a b : List ℕ) (at : ℕ) → at + 2 ≤ length a → u16_at (a ++ b) at ≡ u16_at a at
u16_same a b at inside = grind (arith, common_steps)

u32_same : (a b : List ℕ) (at : ℕ) → at + 4 ≤ length a → u32_at (a ++ b) at ≡ u32_at a at
u32_same a b at inside = grind (arith, common_steps)

u64_same : (a b : List ℕ) (at : ℕ) → at + 8 ≤ length a → u64_at (a ++ b) at ≡ u64_at a at
u64_same a b at inside = ap (λ (l : List ℕ). from_be_bytes w64 l) (part_same a b at 8 inside)

head_same : (a b : List ℕ) → 28 ≤ length a → head_of (a ++ b) ≡ head_of a
head_same a b inside =
    rw (u16_same a b 4 (omega arith), u16_same a b 6 (omega arith), u64_same a b 8 (omega arith), u64_same a b 16 (omega arith), u32_same a b 24 (omega arith)) refl

-- ---- tests

-- a length that is there is there with more
grown : (n : ℕ) (a b : List ℕ) (x y : Taken) → (n ≤ length a → x ≢ More → y ≡ x) → (if nat_lt (length a) n then More else x) ≢ More
    → (if nat_lt (length (a ++ b)) n then More else y) ≡ (if nat_lt (length a) n then More else x)
grown n a b x y same whole = grind (arith, common_steps)

unless_hung : (c : Bool) (x y : Taken) → (x ≢ More → y ≡ x) → (if c then HangsUp [] else x) ≢ More
    → (if c then HangsUp [] else y) ≡ (if c then HangsUp [] else x)
unless_hung true x y same whole = refl
unless_hung false x y same whole = search rules

magic_same : (magic : List ℕ) (head : ℕ) (a b : List ℕ) (x y : Taken) → length magic ≤ head → (head ≤ length a → x ≢ More → y ≡ x)
    → by_magic magic head a x ≢ More → by_magic magic head (a ++ b) y ≡ by_magic magic head a x
magic_same magic head a b x y fits same whole = grind (arith, common_steps)

-- ---- options

abbrev option_here : ℕ → ℕ → List ℕ → List ExportInfo → Session → Taken
option_here size option content exports s =
    if nat_lt longest_option size then skipped (16 + size) option s else option_taken (16 + size) option content exports s

abbrev option_of : ℕ → ℕ → List ℕ → List ExportInfo → Session → Taken
option_of size option bytes exports s =
    if nat_lt longest_skipped size then HangsUp []
    else if nat_lt (length bytes) (16 + size) then More else option_here size option (take size (drop 16 bytes)) exports s

option_of_same : (size option : ℕ) (a b : List ℕ) (exports : List ExportInfo) (s : Session) → option_of size option a exports s ≢ More
    → option_of size option (a ++ b) exports s ≡ option_of size option a exports s
option_of_same size option a b exports s whole = search (rules, unless_hung, grown, part_same)

option_same : (a b : List ℕ) (exports : List ExportInfo) (s : Session) → 16 ≤ length a → whole_option a exports s ≢ More
    → whole_option (a ++ b) exports s ≡ whole_option a exports s
option_same a b exports s there whole =
    rw (u32_same a b 12 (omega arith), u32_same a b 8 (omega arith)) (option_of_same (u32_at a 12) (u32_at a 8) a b exports s whole)

-- ---- requests

abbrev request_here : Head → List ℕ → List ℕ → Session → Taken
request_here head content export s =
    if is_refused s.selected head then Answered (head_length + bytes_behind head) (error_reply s.structured head (error_number Invalid)) s
    else Asks (head_length + bytes_behind head) head (requests_of export s.selected head content)

abbrev request_of : Head → List ℕ → List ℕ → Session → Taken
request_of head bytes export s =
    if head.kind == disc_kind then HangsUp []
    else if nat_lt (length bytes) (head_length + bytes_behind head) then More
    else request_here head (take (bytes_behind head) (drop head_length bytes)) export s

request_of_same : (head : Head) (a b export : List ℕ) (s : Session) → request_of head a export s ≢ More
    → request_of head (a ++ b) export s ≡ request_of head a export s
request_of_same head a b export s whole = search (rules, unless_hung, grown, part_same)

request_same : (a b export : List ℕ) (s : Session) → 28 ≤ length a → whole_request a export s ≢ More
    → whole_request (a ++ b) export s ≡ whole_request a export s
request_same a b export s there whole =
    ap (λ (head : Head). request_of head (a ++ b) export s) (head_same a b there) ∙ request_of_same (head_of a) a b export s whole

-- ---- messages

in_same : (phase : Phase) (exports : List ExportInfo) (s : Session) (a b : List ℕ) → taken_in phase exports s a ≢ More
    → taken_in phase exports s (a ++ b) ≡ taken_in phase exports s a
in_same Greeted exports s a b whole = search rules
in_same Haggling exports s a b whole = search (rules, magic_same, option_same)
in_same (Transmitting export) exports s a b whole = search (rules, magic_same, request_same)

pub taken_same : (exports : List ExportInfo) (s : Session) (a b : List ℕ) → taken_of exports s a ≢ More → taken_of exports s (a ++ b) ≡ taken_of exports s a
unfolding taken_of
taken_same exports s a b whole = in_same s.phase exports s a b whole
