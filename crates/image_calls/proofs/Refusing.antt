-- A new file was synced once more, or that sync failed.
use Rattle.std.proofs.Common.{◌≡◌, inr, ℕ, List, Option, Some, None, IsSome, Ok, Err}
use Rattle.disk_model.specs.World.{World}
use Rattle.disk_model.proofs.Laws.{rose_after}
use Rattle.file_device.specs.Calls.{Synced}
use Rattle.file_device.specs.Names.{HasCreated}
use Rattle.file_device.proofs.Laws.{synced}
use Rattle.file_device.proofs.Making.{created_on, begun_on}
use Rattle.backup_file.specs.declared.create.CreateRefusal.TheVariants.{Failed}
use Rattle.backup_file.specs.Creating.{Refuses}

none_some : (found : Option ℕ) → found ≡ None → IsSome found → ⊥
none_some None none some = absurd (cc)
none_some (Some f) none some = absurd (cc)

pub synced_again : {T E : Type 0} {P : List ℕ → Type 0} {name : List ℕ} {f : ℕ} {a b c : World} {value : T} → HasCreated P name f a b → Synced {T = T} {E = E} f b c (Ok value) → HasCreated P name f a c
synced_again {T} {E} {P} made sync = created_on made sync.puts (synced P P P sync (λ d is. is) (λ d is. is)).after

pub sync_refused : {T E : Type 0} {P : List ℕ → Type 0} {name : List ℕ} {f : ℕ} {a b c : World} {error : E} → HasCreated P name f a b → Synced {T = T} {E = E} f b c (Err error) → Refuses name a c Failed
sync_refused {T} {E} {P} {name} {f} {a} {b} {c} made sync =
    (inr (f, begun_on made sync.puts), rose_after a.faults.shared b.faults.shared c.faults.shared made.run.goes.counts.shared sync.puts.calls.cause.shared, λ told some. absurd (none_some (a.found name) (made.was_free told) some))
