-- Why a source isn't closed.
use Rattle.std.specs.Prelude.{◌≡◌, Some, List, ℕ}
use Rattle.disk_model.specs.World.{World, FileFailed}
use Rattle.qc_layout.specs.Owners.{Tight}
use Rattle.image_model.specs.declared.refusals.CloseRefusal.{CloseRefusal}
use Rattle.image_model.specs.declared.refusals.CloseRefusal.TheVariants.{Broken, NoRoom, Failed, Memory}
use Rattle.image_store.specs.Images.{Image, file_of, IsInOrder}

-- without bitmaps nothing is stored, so there is always room
abbrev pub NotClosedBy : CloseRefusal → Image → World → World → Type 0
NotClosedBy (Broken event) i old new = (i.broken ≡ Some event) × (new ≡ old)
NotClosedBy NoRoom i old new = ⊥
NotClosedBy Failed i old new = FileFailed (file_of i) old new
NotClosedBy Memory i old new = ⊥

-- a source in order, in which each cluster that something refers to is counted once, and no other is counted
abbrev pub IsAtRest : Image → List ℕ → List ℕ → Type 0
IsAtRest i disk file = IsInOrder i.id i.epoch disk file × Tight file
