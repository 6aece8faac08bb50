-- The calls that make a file: a look for the name, `make`, a write of all bytes and a sync.
use Rattle.std.proofs.Common.{◌≡◌, inr, ℕ, List, [], ◌∷◌, Option, Some, None, IsSome, IsTrue, Ok, Err, refl, ap, ◌∙◌, arith}
use Rattle.disk_model.specs.Files.{overlay}
use Rattle.disk_model.specs.World.{World, Runs, nothing, Rose, IsQuiet}
use Rattle.disk_model.proofs.Laws.{rose_after, overlay_beyond, overlay_empty}
use Rattle.file_device.specs.Calls.{Puts, Wrote, Synced}
use Rattle.file_device.specs.Names.{HasCreated, HasBegun, MakingFailed}
use Rattle.file_device.proofs.Laws.{wrote_gives, synced_is, puts_on}
use Rattle.file_device.proofs.Making.{created_after, created_on, begun_after, begun_on}
use Rattle.backup_file.specs.declared.create.CreateRefusal.TheVariants.{Failed}
use Rattle.backup_file.specs.Creating.{Refuses}

-- a write to an empty file makes it these bytes
written_new : (bytes : List ℕ) → overlay [] 0 bytes ≡ bytes
written_new [] = overlay_empty [] 0 [] refl
written_new (b ∷ bs) = overlay_beyond [] 0 (b ∷ bs) (omega arith) (omega arith)

-- a name isn't both there and not
not_both : (found : Option ℕ) → None ≡ found → IsSome found → ⊥
not_both None none some = absurd (cc)
not_both (Some f) none some = absurd (cc)

module _ {name : List ℕ} {a b : World} (look : Runs nothing a b) (none : IsTrue a.tells → None ≡ a.found name) where
  -- a call failed once a file of the name was begun
  refused : {f : ℕ} {c : World} → HasBegun name f b c → Rose b.faults.shared c.faults.shared → Refuses name a c Failed
  refused {f} {c} begun rose =
      (inr (f, begun_after look begun), rose_after a.faults.shared b.faults.shared c.faults.shared look.goes.counts.shared rose, λ told some. absurd (not_both (a.found name) (none told) some))

  pub make_refused : {c : World} → MakingFailed name b c → Refuses name a c Failed
  make_refused failed = refused failed.begun failed.rose

  module _ {f : ℕ} {c : World} (made : HasCreated (λ file. file ≡ []) name f b c) where
    -- the write or the sync failed
    pub put_refused : {T E : Type 0} {d : World} {error : E} → Puts {T = T} {E = E} f c d (Err error) → Refuses name a d Failed
    put_refused {T} {E} {d} puts = refused (begun_on made puts) (rose_after b.faults.shared c.faults.shared d.faults.shared made.run.goes.counts.shared puts.calls.cause.shared)

    -- all is done
    pub created : {T E U F : Type 0} {bytes : List ℕ} {d e : World} {x : T} {y : U} → IsQuiet a b → Wrote {T = T} {E = E} f 0 bytes c d (Ok x) → Synced {T = U} {E = F} f d e (Ok y) → HasCreated (λ file. file ≡ bytes) name f a e
    created {T} {E} {U} {F} {bytes} quiet write sync =
        created_after look quiet (created_on made (puts_on write.puts sync.puts) (λ empty. synced_is (λ file. file ≡ bytes) sync (wrote_gives (λ file. file ≡ []) (λ file. file ≡ bytes) write filled empty.seen)))
      where
        filled : (file : List ℕ) → file ≡ [] → overlay file 0 bytes ≡ bytes
        filled file is = ap (λ (old : List ℕ). overlay old 0 bytes) is ∙ written_new bytes
