-- What a new first sector gives, in the words of worlds.
use Rattle.std.proofs.Common.{◌≡◌, ◌⊎◌, ℕ, ◌≤◌, List, length, IsTrue, sym, subst}
use Rattle.disk_model.specs.Files.{overlay}
use Rattle.disk_model.specs.World.{World, EachSinceSync, Holds}
use Rattle.file_device.specs.File.{file_of, Gives, Is}
use Rattle.first_sector.specs.Sectors.{New, OldOrNew}

pub sector_crash : (f : ℕ) (a b : World) (sector : List ℕ) → (Gives (file_of a f) (λ c. 512 ≤ length c) → EachSinceSync a b f (OldOrNew sector (file_of a f)))
    → 512 ≤ length (a.seen f) → EachSinceSync a b f (λ c. (c ≡ a.seen f) ⊎ (c ≡ overlay (a.seen f) 0 sector))
unfolding file_of
sector_crash f a b sector crash long = crash (λ told. long)

pub sector_seen : (f : ℕ) (a b : World) (sector : List ℕ) → b.tells ≡ a.tells → (Gives (file_of a f) (λ c. 512 ≤ length c) → Gives (file_of b f) (OldOrNew sector (file_of a f)))
    → 512 ≤ length (a.seen f) → IsTrue a.tells → (b.seen f ≡ a.seen f) ⊎ (b.seen f ≡ overlay (a.seen f) 0 sector)
unfolding file_of
sector_seen f a b sector same seen long told = seen (λ was. long) (subst IsTrue (sym same) told)

pub sector_done : (f : ℕ) (a b : World) (sector : List ℕ) → Is (New sector (file_of a f)) (file_of b f) → Holds f (λ c. c ≡ overlay (a.seen f) 0 sector) (λ c. c ≡ overlay (a.seen f) 0 sector) b
unfolding file_of
sector_done f a b sector is = record { seen = is.seen; each = is.each }
