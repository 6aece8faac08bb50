-- Between a request that was taken and its replies: what is left to be asked, and what each reply adds to what is sent.
use Rattle.std.specs.Prelude.{◌≡◌, ℕ, ◌+◌, List, [], ◌∷◌, ◌++◌, length, Bool, true, false, not, ◌==◌, nat_eq, if◌then◌else◌}
use Rattle.core_events.specs.Events.{Request}
use Rattle.core_events.specs.Answers.{Reply, Done, Content, Flags, Fault, Jobs, Nodes, Refused}
use Rattle.nbd_model.specs.Numbers.{be32}
use Rattle.nbd_model.specs.Requests.{Head, status_kind, chunk, error_chunk, error_number, run_bytes, reply_of, replies_of}

pub data Turn : Type 0 where
  -- no request waits
  Idle : Turn
  -- a reply to a request of this head is due, and then these are left to be asked; so many were answered, and whether an error ended the reply
  Due : (head : Head) (left : List Request) (answered : ℕ) (ended : Bool) → Turn
  -- the next one is to be asked
  Left : (head : Head) (next : Request) (left : List Request) (answered : ℕ) (ended : Bool) → Turn

-- a status of one context among several; contexts are numbered from 1
abbrev pub status_part : Head → Bool → ℕ → Reply → List ℕ
status_part h last answered (Flags runs) = chunk last 5 h.cookie (be32 (answered + 1) ++ run_bytes runs)
status_part h last answered (Fault errno) = error_chunk (error_number errno) h.cookie
status_part h last answered Done = []
status_part h last answered (Content bytes) = []
status_part h last answered (Jobs jobs) = []
status_part h last answered (Nodes nodes) = []
status_part h last answered (Refused action refusal) = []

abbrev pub is_flags : Reply → Bool
is_flags (Flags runs) = true
is_flags (Fault errno) = false
is_flags Done = false
is_flags (Content bytes) = false
is_flags (Jobs jobs) = false
is_flags (Nodes nodes) = false
is_flags (Refused action refusal) = false

abbrev pub is_last : List Request → Bool
is_last left = length left == 0

-- what a reply adds; behind an error nothing
abbrev pub part_of : Bool → Head → List Request → ℕ → Bool → Reply → List ℕ
part_of structured h left answered ended reply =
    if ended then [] else if h.kind == status_kind then status_part h (is_last left) answered reply else reply_of structured h reply

-- what waits behind it
abbrev pub after_reply : Head → List Request → ℕ → Bool → Reply → Turn
after_reply h [] answered ended reply = Idle
after_reply h (r ∷ left) answered ended reply = Left h r left (answered + 1) (if ended then true else not (is_flags reply))

-- all parts of a request's replies, one after another, where it gives as many requests
abbrev pub parts_of : Bool → Head → List Request → ℕ → Bool → List Reply → List ℕ
parts_of structured h left answered ended [] = []
parts_of structured h [] answered ended (reply ∷ replies) = part_of structured h [] answered ended reply
parts_of structured h (r ∷ left) answered ended (reply ∷ replies) =
    part_of structured h (r ∷ left) answered ended reply ++ parts_of structured h left (answered + 1) (if ended then true else not (is_flags reply)) replies

-- a law to be proved: the parts are the answer
abbrev pub PartsAreTheAnswer : Type 0
PartsAreTheAnswer = (structured : Bool) (h : Head) (left : List Request) (replies : List Reply) → length replies ≡ length left + 1
    → (nat_eq h.kind status_kind ≡ false → left ≡ []) → parts_of structured h left 0 false replies ≡ replies_of structured h replies
