-- What requests make of a source.
use Rattle.std.specs.Prelude.{◌≡◌, ◌⊎◌, ℕ, ◌+◌, ◌≤◌, List, [], ◌∷◌, ◌++◌, length, Option, Some, None}
use Rattle.std.specs.Option.{option_or}
use Rattle.disk_model.specs.Files.{reading, overlay}
use Rattle.disk_model.specs.World.{World, EachSince, Rose}
use Rattle.image_model.specs.Disks.{disk_of, IsMixedOf}
use Rattle.image_model.specs.Space.{Store, AreEither}
use Rattle.qc_map.specs.Mapping.{shape_by}
use Rattle.image_store.specs.Images.{Image, file_of, IsMixture, KeepsFirst, Stands}

-- n bytes of the disk, as reads give them now
abbrev pub disk_now : Image → ℕ → ℕ → World → List ℕ
disk_now i at n w = reading (disk_of (shape_by i.map) i.map.size (w.seen i.map.file)) at n

-- What a write of these bytes leads to, whatever it answers: its range reads so now, each sector as before or as after the whole write, and a
-- crash since may mix that disk too. The first cluster stays.
pub record Leaves (i j : Image) (at : ℕ) (bytes left disk : List ℕ) (mixed : List (List ℕ)) (old new : World) : Type 0 where
  pub long : length left ≡ length bytes
  pub torn : IsMixedOf (length disk) (disk ∷ overlay disk at bytes ∷ []) (overlay disk at left)
  pub since : EachSince new old.now (file_of i) (IsMixture i.id i.epoch (mixed ++ overlay disk at left ∷ []))
  pub stands : Stands j (overlay disk at left) (mixed ++ overlay disk at left ∷ []) new
  pub first : KeepsFirst i old new

-- the same source, of which calls changed no more than its allocator and whether it broke
pub record IsSameSource (i j : Image) : Type 0 where
  pub id : j.id ≡ i.id
  pub epoch : j.epoch ≡ i.epoch
  pub map : j.map ≡ i.map
  pub event : j.event ≡ i.event

-- It broke, in the event that is carried out, where a write of the file or a sync failed; or it is as it was.
abbrev pub MayBreak : Image → Image → World → World → Type 0
MayBreak i j old new = (j.broken ≡ i.broken) ⊎ ((i.broken ≡ None) × (j.broken ≡ Some i.event) × Rose old.faults.shared new.faults.shared × Rose (old.faults.writes (file_of i)) (new.faults.writes (file_of i)))

-- each kind and each table is as before or as a request makes it, and no more room went than it needs
pub record SpendsUpTo (old goal new : Store) (need : ℕ) : Type 0 where
  pub either : AreEither old goal new
  pub least : old.room ≤ new.room + need
  pub most : new.room ≤ old.room

-- where it broke, once it breaks in this event
abbrev pub broken_in : Image → Option ℕ
broken_in i = option_or i.broken (Some i.event)
