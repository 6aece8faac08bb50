-- What calls on a file leave of its bytes, as reads give them.
use Rattle.std.proofs.Common.{◌≡◌, inl, inr, ℕ, ◌+◌, List, length, IsTrue, sym, ap, subst, arith}
use Rattle.std.proofs.lemmas.Bool.{cases_lt}
use Rattle.disk_model.specs.Files.{byte}
use Rattle.disk_model.specs.World.{World, Parts, Runs, Writes, Syncs}
use Rattle.disk_model.proofs.Laws.{torn_elsewhere}
use Rattle.image_model.specs.Calls.{IsWithin}

-- a write of n bytes, whatever it answers
pub wrote_beside : {f at n : ℕ} {bytes : List ℕ} {a b : World} → Writes f at bytes a b → length bytes ≡ n → IsTrue a.tells
    → (x : ℕ) → (IsWithin x at n → ⊥) → byte (b.seen f) x ≡ byte (a.seen f) x
wrote_beside {f} {at} {n} {bytes} {a} {b} call long told x out =
    torn_elsewhere at bytes (a.seen f) (b.seen f) x (call.torn told) (elim (cases_lt x at) [
      | inl below ↦ inl below
      | inr from ↦ elim (cases_lt x (at + n)) [ inl to ↦ absurd (out (from, to)) | inr past ↦ inr (omega (arith, past, long)) ]
    ])

-- a sync
pub synced_beside : {f : ℕ} {a b : World} → Syncs f a b → (x : ℕ) → byte (b.seen f) x ≡ byte (a.seen f) x
synced_beside call x = ap (λ (c : List ℕ). byte c x) call.seen

-- a depot that told its files tells them still
pub told_on : {parts : Parts} {a b : World} → Runs parts a b → IsTrue a.tells → IsTrue b.tells
told_on run told = subst IsTrue (sym run.goes.tells) told
