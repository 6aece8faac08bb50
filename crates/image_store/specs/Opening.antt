-- What an opening of a source, and the adoption of an image, make of the file.
use Rattle.std.specs.Prelude.{◌≡◌, ◌⊎◌, ℕ, ◌+◌, ◌≤◌, List, [], ◌∷◌, length, None}
use Rattle.disk_model.specs.Files.{reading}
use Rattle.disk_model.specs.World.{World}
use Rattle.qc_layout.specs.declared.header.Header.{Header}
use Rattle.qc_layout.specs.declared.header.Own.TheVariants as owns
use Rattle.qc_layout.specs.declared.header.Part.TheVariants as parts
use Rattle.qc_layout.specs.Disks.{Stands as StandsFor}
use Rattle.qc_layout.specs.Room.{TablesPass, HasRoom}
use Rattle.qc_layout.specs.Spelling.{Spells}
use Rattle.image_model.specs.Clusters.{IsLonger}
use Rattle.image_model.specs.Calls.{Told, shape_of}
use Rattle.image_model.specs.Images.{HasClusters}
use Rattle.image_model.specs.Space.{Store}
use Rattle.qc_alloc.specs.Allocator.{Allocator, Allocates, HandsOut, IsKnown}
use Rattle.image_store.specs.Images.{Image, file_of, IsInOrder, Stands, HasSpace}

-- it stands with the disk that was found, and clusters are handed out from the first fresh one on
pub record Starts (a : Allocator) (found : List ℕ) (w : World) : Type 0 where
  pub stands : Allocates (shape_of found) (found ∷ []) a.pool.next a w
  pub hands : HandsOut a.pool.next a
  pub known : Told (IsKnown (shape_of found) a) a.file w
  pub longer : Told (IsLonger found) a.file w

-- ---- headers

-- The header says what it said, but for the project's own extension, and for autoclear bits, of which none is set any more.
abbrev pub SaysAgain : Header → Header → Type 0
SaysAgain h g = (g.fields ≡ record (h.fields) { autoclear_features = 0 }) × (g.kept.items.items ≡ h.kept.items.items) × (g.bitmaps ≡ h.bitmaps)

abbrev pub SaysSame : Header → Header → Type 0
SaysSame h g = (g.fields ≡ h.fields) × (g.kept.items.items ≡ h.kept.items.items) × (g.bitmaps ≡ h.bitmaps)

abbrev pub KeepsHeader : List ℕ → List ℕ → Type 0
KeepsHeader before after = (h g : Header) → Spells parts.Source before h → Spells parts.Source after g → SaysSame h g ⊎ SaysAgain h g

-- Each header of the file after says again what each of the file before said, with this id and epoch and no table of spans.
abbrev pub RewritesHeader : List ℕ → ℕ → List ℕ → List ℕ → Type 0
RewritesHeader id epoch before after = (h g : Header) → Spells parts.Source before h → Spells parts.Source after g → SaysAgain h g × (g.own ≡ owns.Source id epoch 0 0)

-- ---- opening

-- From its first sync on an opening leaves, and reads give, the very disk, with the epoch as it was or the next one.
pub record IsOpening (id : List ℕ) (epoch : ℕ) (disk before file : List ℕ) : Type 0 where
  pub either : IsInOrder id epoch disk file ⊎ IsInOrder id (epoch + 1) disk file
  pub header : KeepsHeader before file

-- A source of the next epoch, with the disk and the space that were found, and what the header said.
pub record Opens (i : Image) (found : List ℕ) (w : World) : Type 0 where
  pub before : ℕ
  pub next : i.epoch ≡ before + 1
  pub disk : List ℕ
  pub in_order : IsInOrder i.id before disk found
  pub stands : Stands i disk (disk ∷ []) w
  pub header : RewritesHeader i.id i.epoch found (w.seen (file_of i))
  pub space : (store : Store) → HasClusters found store → HasRoom found store.room → HasSpace i (w.seen (file_of i)) store

-- ---- adopting

-- The file is an image of another program that may become a source: it passes the rules of an opening, has no id and epoch and no bitmaps, and
-- stands for this disk.
pub record IsForeign (disk file : List ℕ) : Type 0 where
  pub header : Header
  pub spelled : Spells parts.Source file header
  pub own : header.own ≡ owns.Absent
  pub bare : header.bitmaps ≡ None
  pub passes : TablesPass file
  pub stands : StandsFor parts.Source file disk

-- From its first sync on an adoption leaves, and reads give, the image of the other program, or a source of its disk with this id and epoch 0.
pub record IsAdopting (id disk before file : List ℕ) : Type 0 where
  pub either : IsForeign disk file ⊎ IsInOrder id 0 disk file
  pub header : KeepsHeader before file

-- ---- the new sector

-- what the header's sector is to say
abbrev pub new_header : Header → List ℕ → ℕ → Header
new_header h id epoch = record h { own = owns.Source id epoch 0 0; fields = record (h.fields) { autoclear_features = 0 } }

-- The sector of a header that a file without bitmaps has, with this id and epoch: each file that begins with it has that header.
pub record HasSector (h : Header) (id : List ℕ) (epoch : ℕ) (sector : List ℕ) : Type 0 where
  pub says : (file written : List ℕ) → Spells parts.Source file h → h.bitmaps ≡ None → 512 ≤ length written → reading written 0 512 ≡ sector → Spells parts.Source written (new_header h id epoch)
