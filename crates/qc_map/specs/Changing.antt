-- What requests make of the guest's disk.
use Rattle.std.specs.Prelude.{◌≡◌, ℕ, List, [], ◌∷◌, length, replicate}
use Rattle.disk_model.specs.Files.{overlay}
use Rattle.disk_model.specs.World.{World}
use Rattle.span_algebra.specs.Timelines.{Extent}
use Rattle.image_model.specs.Clusters.{Shape, IsSafe, Moves, Reads}
use Rattle.image_model.specs.Calls.{Keeps}
use Rattle.image_model.specs.Disks.{disk_of, IsMixedOf}
use Rattle.image_model.specs.Space.{Store, AreEither, store_written, store_zeroed}
use Rattle.map_rows.specs.Stores.{HasStore}
use Rattle.qc_alloc.specs.Allocator.{Allocator, Allocates, HandsOut, StandsFrom}
use Rattle.qc_map.specs.Mapping.{Mapping, IsMapOf}

-- these bytes of the disk are to be so, and its kinds and tables to become as this says
pub record Change : Type 0 where
  pub at : ℕ
  pub bytes : List ℕ
  pub goal : Store → Store

abbrev pub extent_of : ℕ → List ℕ → Extent
extent_of at bytes = record { at = at; size = length bytes }

-- a write
abbrev pub write_of : ℕ → List ℕ → Change
write_of at bytes = record { at = at; bytes = bytes; goal = λ store. store_written store (extent_of at bytes) }

-- a zero of n bytes of a disk of so many
abbrev pub zero_of : ℕ → ℕ → ℕ → Change
zero_of total at n = record { at = at; bytes = replicate n 0; goal = λ store. store_zeroed total store (record { at = at; size = n }) }

-- It is done: the disk is the old one with the bytes over it, and kinds and tables are those that it asks for.
pub record IsChanged (s : Shape) (total : ℕ) (e : Change) (old new : List ℕ) : Type 0 where
  pub keeps : Keeps s old new
  pub disk : disk_of s total new ≡ overlay (disk_of s total old) e.at e.bytes
  pub store : (store : Store) → HasStore s total old store → HasStore s total new (e.goal store)

-- A part of it: each sector of the disk, each kind and each table is as it was or as after all of it.
pub record IsPartlyChanged (s : Shape) (total : ℕ) (e : Change) (old new : List ℕ) : Type 0 where
  pub keeps : Keeps s old new
  pub disk : IsMixedOf total (disk_of s total old ∷ overlay (disk_of s total old) e.at e.bytes ∷ []) (disk_of s total new)
  pub store : (was now : Store) → HasStore s total old was → HasStore s total new now → AreEither was (e.goal was) now

-- Whatever was answered: the image goes on to stand, and each crash since leaves a file that an opening takes, whose disk is mixed of those that
-- might be mixed before, and the disk as it is now. It is changed in part.
pub record Changes (m : Mapping) (e : Change) (a b : Allocator) (old new : World) : Type 0 where
  pub moves : (s : Shape) (disks : List (List ℕ)) (first : ℕ) → IsMapOf s m → HandsOut first a →
      Moves m.file (IsSafe s (new.seen m.file ∷ disks)) (Allocates s disks first a) (StandsFrom s (new.seen m.file ∷ disks) b) old new
  pub partly : (s : Shape) (disks : List (List ℕ)) (first : ℕ) → IsMapOf s m → HandsOut first a →
      Reads m.file (Allocates s disks first a) (IsPartlyChanged s m.size e) old new

-- It is done.
pub record HasChanged (m : Mapping) (e : Change) (a : Allocator) (old new : World) : Type 0 where
  pub done : (s : Shape) (disks : List (List ℕ)) (first : ℕ) → IsMapOf s m → HandsOut first a →
      Reads m.file (Allocates s disks first a) (IsChanged s m.size e) old new
