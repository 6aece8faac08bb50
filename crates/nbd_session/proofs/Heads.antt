-- A head is read alike, whatever follows it.
use Rattle.std.proofs.Common.{◌≡◌, ℕ, ◌+◌, ◌≤◌, List, [], ◌++◌, length, take, drop, true, refl, arith, sym, ap, ◌∙◌}
use Rattle.std.proofs.lemmas.Grind.{common_steps}
use Rattle.std.specs.Prelude.{nat_lt, ◌==◌, bytes_eq, if◌then◌else◌}
use Rattle.std.specs.Int.{from_be_bytes, w32}
use Rattle.core_events.specs.declared.infos.ExportInfo.{ExportInfo}
use Rattle.core_events.specs.declared.answers.Errno.TheVariants.{Invalid}
use Rattle.nbd_model.specs.Numbers.{u32_at, option_magic, request_magic, longest_option, longest_skipped}
use Rattle.nbd_model.specs.Requests.{Head, head_of, head_length, bytes_behind, disc_kind, requests_of, is_refused, error_reply, error_number}
use Rattle.nbd_model.specs.Sessions.{Session, Taken, More, Answered, Asks, HangsUp, skipped, option_taken, whole_option, whole_request, by_magic}

part_same : (a b : List ℕ) (at n : ℕ) → at + n ≤ length a → take n (drop at (a ++ b)) ≡ take n (drop at a)
part_same a b at n inside = grind (arith, common_steps)

parted : (a : List ℕ) (n : ℕ) → take n a ++ drop n a ≡ a
parted a n = grind (arith, common_steps)

long : (a : List ℕ) (n : ℕ) → n ≤ length a → length (take n a) ≡ n
long a n there = grind (arith, common_steps)

-- a part of what is in front, with other bytes behind
pub part_front : (a b : List ℕ) (n at k : ℕ) → at + k ≤ n → n ≤ length a → take k (drop at (take n a ++ b)) ≡ take k (drop at a)
part_front a b n at k inside there =
    let size = long a n there in
    part_same (take n a) b at k (omega arith) ∙ sym (part_same (take n a) (drop n a) at k (omega arith)) ∙ ap (λ l. take k (drop at l)) (parted a n)

pub head_front : (a b : List ℕ) → 28 ≤ length a → head_of (take 28 a ++ b) ≡ head_of a
head_front a b there =
    rw (
      part_front a b 28 4 2 (omega arith) there,
      part_front a b 28 6 2 (omega arith) there,
      part_front a b 28 8 8 (omega arith) there,
      part_front a b 28 16 8 (omega arith) there,
      part_front a b 28 24 4 (omega arith) there,
    ) refl

magic_front : (magic a b : List ℕ) (n : ℕ) (x : Taken) → length magic ≤ n → n ≤ length a → bytes_eq (take (length magic) a) magic ≡ true → by_magic magic n (take n a ++ b) x ≡ x
magic_front magic a b n x fits there is = let e = part_front a b n 0 (length magic) (omega arith) there in let size = long a n there in grind (arith, common_steps)

abbrev pub option_by : ℕ → ℕ → List ℕ → List ExportInfo → Session → Taken
option_by size number rest exports s =
    if nat_lt longest_skipped size then HangsUp []
    else if nat_lt (length rest) size then More
    else if nat_lt longest_option size then skipped (16 + size) number s else option_taken (16 + size) number (take size rest) exports s

abbrev option_in : ℕ → ℕ → ℕ → List ℕ → List ExportInfo → Session → Taken
option_in size number count content exports s =
    if nat_lt longest_skipped size then HangsUp []
    else if nat_lt count (16 + size) then More
    else if nat_lt longest_option size then skipped (16 + size) number s else option_taken (16 + size) number content exports s

moved : (n m k : ℕ) → nat_lt (k + n) (k + m) ≡ nat_lt n m
moved n m k = grind arith

behind_front : (a b : List ℕ) (n : ℕ) → n ≤ length a → drop n (take n a ++ b) ≡ b
behind_front a b n there = let size = long a n there in grind (arith, common_steps)

count_front : (a b : List ℕ) (n : ℕ) → n ≤ length a → length (take n a ++ b) ≡ n + length b
count_front a b n there = let size = long a n there in grind (arith, common_steps)

pub option_reads : (a rest : List ℕ) (exports : List ExportInfo) (s : Session) → 16 ≤ length a → bytes_eq (take 8 a) option_magic ≡ true
    → by_magic option_magic 16 (take 16 a ++ rest) (whole_option (take 16 a ++ rest) exports s) ≡ option_by (u32_at a 12) (u32_at a 8) rest exports s
option_reads a rest exports s there is =
    let bytes : List ℕ = take 16 a ++ rest in
    magic_front option_magic a rest 16 (whole_option bytes exports s) (omega arith) there is
    ∙ ap (λ l. option_in (from_be_bytes w32 l) (u32_at bytes 8) (length bytes) (take (from_be_bytes w32 l) (drop 16 bytes)) exports s) (part_front a rest 16 12 4 (omega arith) there)
    ∙ ap (λ l. option_in (u32_at a 12) (from_be_bytes w32 l) (length bytes) (take (u32_at a 12) (drop 16 bytes)) exports s) (part_front a rest 16 8 4 (omega arith) there)
    ∙ ap (λ l. option_in (u32_at a 12) (u32_at a 8) (length bytes) (take (u32_at a 12) l) exports s) (behind_front a rest 16 there)
    ∙ ap (λ n. option_in (u32_at a 12) (u32_at a 8) n (take (u32_at a 12) rest) exports s) (count_front a rest 16 there)
    ∙ ap (λ b. if nat_lt longest_skipped (u32_at a 12) then HangsUp [] else if b then More else if nat_lt longest_option (u32_at a 12) then skipped (16 + u32_at a 12) (u32_at a 8) s
    else option_taken (16 + u32_at a 12) (u32_at a 8) (take (u32_at a 12) rest) exports s) (moved (length rest) (u32_at a 12) 16)

abbrev request_in : Head → ℕ → List ℕ → List ℕ → Session → Taken
request_in h count content export s =
    if h.kind == disc_kind then HangsUp []
    else if nat_lt count (head_length + bytes_behind h) then More
    else if is_refused s.selected h then Answered (head_length + bytes_behind h) (error_reply s.structured h (error_number Invalid)) s
    else Asks (head_length + bytes_behind h) h (requests_of export s.selected h content)

abbrev pub request_by : Head → List ℕ → List ℕ → Session → Taken
request_by h rest export s =
    if h.kind == disc_kind then HangsUp []
    else if nat_lt (length rest) (bytes_behind h) then More
    else if is_refused s.selected h then Answered (28 + bytes_behind h) (error_reply s.structured h (error_number Invalid)) s
    else Asks (28 + bytes_behind h) h (requests_of export s.selected h (take (bytes_behind h) rest))

pub request_reads : (a rest export : List ℕ) (s : Session) → 28 ≤ length a → bytes_eq (take 4 a) request_magic ≡ true
    → by_magic request_magic head_length (take 28 a ++ rest) (whole_request (take 28 a ++ rest) export s) ≡ request_by (head_of a) rest export s
request_reads a rest export s there is =
    let bytes : List ℕ = take 28 a ++ rest in
    magic_front request_magic a rest 28 (whole_request bytes export s) (omega arith) there is
    ∙ ap (λ (h : Head). request_in h (length bytes) (take (bytes_behind h) (drop head_length bytes)) export s) (head_front a rest there)
    ∙ ap (λ l. request_in (head_of a) (length bytes) (take (bytes_behind (head_of a)) l) export s) (behind_front a rest 28 there)
    ∙ ap (λ n. request_in (head_of a) n (take (bytes_behind (head_of a)) rest) export s) (count_front a rest 28 there)
    ∙ ap (λ b. if (head_of a).kind == disc_kind then HangsUp [] else if b then More else if is_refused s.selected (head_of a) then Answered (28 + bytes_behind (head_of a)) (error_reply s.structured (head_of a) (error_number Invalid)) s
    else Asks (28 + bytes_behind (head_of a)) (head_of a) (requests_of export s.selected (head_of a) (take (bytes_behind (head_of a)) rest))) (moved (length rest) (bytes_behind (head_of a)) 28)
