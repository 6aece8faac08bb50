-- The parts of a reply are the reply.
use Rattle.std.proofs.Common.{◌≡◌, ◌+◌, ℕ, List, [], ◌∷◌, length, Bool, true, false, refl, arith}
use Rattle.std.proofs.lemmas.Grind.{common_steps}
use Rattle.std.specs.Prelude.{◌==◌, nat_eq}
use Rattle.core_events.specs.Events.{Request}
use Rattle.core_events.specs.Answers.{Reply}
use Rattle.nbd_model.specs.Requests.{Head, status_kind, status_reply, replies_of}
use Rattle.nbd_session.specs.Turns.{parts_of}

ended_parts : (structured : Bool) (h : Head) (left : List Request) (n : ℕ) (replies : List Reply) → parts_of structured h left n true replies ≡ []
ended_parts structured h left n [] = refl
ended_parts structured h [] n (reply ∷ replies) = refl
ended_parts structured h (r ∷ left) n (reply ∷ replies) = ended_parts structured h left (n + 1) replies

status_parts : (structured : Bool) (h : Head) (left : List Request) (n : ℕ) (replies : List Reply) → h.kind == status_kind ≡ true → length replies ≡ length left + 1
    → parts_of structured h left n false replies ≡ status_reply h (n + 1) replies
status_parts structured h left n [] is count = refl
status_parts structured h [] n (reply ∷ []) is count = grind (arith, common_steps)
status_parts structured h [] n (reply ∷ other ∷ replies) is count = grind arith
status_parts structured h (r ∷ left) n (reply ∷ []) is count = grind arith
status_parts structured h (r ∷ left) n (reply ∷ other ∷ replies) is count =
    grind (arith, common_steps, ended_parts, status_parts structured h left (n + 1) (other ∷ replies))

pub parts_are : (structured : Bool) (h : Head) (left : List Request) (replies : List Reply) → length replies ≡ length left + 1
    → (nat_eq h.kind status_kind ≡ false → left ≡ []) → parts_of structured h left 0 false replies ≡ replies_of structured h replies
parts_are structured h left replies count one = grind (arith, common_steps, status_parts)
