-- What layers above may cite.
use Rattle.std.specs.Prelude.{◌≡◌, ℕ, List, length, All, Contains, IsTrue}
use Rattle.disk_model.specs.World.{World, Holds, EachNow, IsSpared}
use Rattle.image_model.specs.Disks.{IsMixedOf}
use Rattle.image_model.specs.Images.{IsSourceOf}
use Rattle.image_model.specs.Space.{Store, IsShapedStore}
use Rattle.image_store.specs.Images.{Image, file_of, IsInOrder, IsMixture, HasFirst, Stands, HasSpace, space_of}

-- What is known of a source says that its file is in order, as reads give it and in each crash.
abbrev pub StandingIsInOrder : Type 0
StandingIsInOrder = (i : Image) (disk : List ℕ) (mixed : List (List ℕ)) (w : World) → Stands i disk mixed w
    → Holds (file_of i) (IsInOrder i.id i.epoch disk) (IsMixture i.id i.epoch mixed) w

-- Calls of others keep it.
abbrev pub StandingIsSpared : Type 0
StandingIsSpared = (i : Image) (disk : List ℕ) (mixed : List (List ℕ)) (old new : World) → IsSpared old new (file_of i) → Stands i disk mixed old → Stands i disk mixed new

-- What stands with these disks stands with others, one of which is the disk now, where each of these is mixed of the others. So one disk more may be
-- named, and of the disks that a request went through only its first and its last need be.
abbrev pub StandingIsMixedOfOthers : Type 0
StandingIsMixedOfOthers = (i : Image) (disk : List ℕ) (mixed others : List (List ℕ)) (w : World) → All (IsMixedOf (length disk) others) mixed → Contains others disk
    → All (λ other. length other ≡ length disk) others → Stands i disk mixed w → Stands i disk others w

-- Each crash now leaves the first cluster that reads give.
abbrev pub StandingHasFirst : Type 0
StandingHasFirst = (i : Image) (disk : List ℕ) (mixed : List (List ℕ)) (w : World) → IsTrue w.tells → Stands i disk mixed w → EachNow w (file_of i) (HasFirst i (w.seen (file_of i)))

-- What the source has of clusters is one value.
pub record IsSpaceOf (i : Image) (disk : List ℕ) (w : World) : Type 0 where
  pub has : HasSpace i (w.seen (file_of i)) (space_of i w)
  pub only : (store : Store) → HasSpace i (w.seen (file_of i)) store → store ≡ space_of i w
  pub shape : IsShapedStore i.map.size (space_of i w)
  pub source : IsTrue w.tells → IsSourceOf (w.seen (file_of i)) disk i.id i.epoch (space_of i w)

abbrev pub StandingHasSpace : Type 0
StandingHasSpace = (i : Image) (disk : List ℕ) (mixed : List (List ℕ)) (w : World) → Stands i disk mixed w → IsSpaceOf i disk w

-- It is a function of what reads give.
abbrev pub SpaceIsOfReads : Type 0
SpaceIsOfReads = (i : Image) (old new : World) → new.seen (file_of i) ≡ old.seen (file_of i) → space_of i new ≡ space_of i old
