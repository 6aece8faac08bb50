-- What each crash may leave of the source and of the backup files, for a history; and when files are at rest, between two sessions.
use Rattle.std.specs.Prelude.{◌≡◌, ◌⊎◌, ℕ, ◌+◌, List, [], ◌∷◌, ◌++◌, map, false, Option, Some, IsTrue, All, Contains}
use Rattle.disk_model.specs.World.{World, Holds, Leads}
use Rattle.span_algebra.specs.declared.points.Point.{Point}
use Rattle.span_algebra.specs.declared.spans.Base.{Base}
use Rattle.span_algebra.specs.declared.spans.Span.TheVariants.{Unknown}
use Rattle.bitmap_model.specs.Granules.{cleared}
use Rattle.bitmap_model.specs.Bitmap.{StoredBitmap}
use Rattle.qc_layout.specs.Room.{HasRoom}
use Rattle.qc_layout.specs.Directory.{stored_in}
use Rattle.plain_model.specs.History.{History, IsHistory, now}
use Rattle.plain_model.specs.Machine.{Machine, Opening, opened}
use Rattle.plain_model.specs.Closing.{stored_by}
use Rattle.image_model.specs.Backups.{Backup, Sealed}
use Rattle.plain_model.specs.Lawful.{Kept, settle}
use Rattle.plain_model.specs.Laws.{IsLikeDisk, IsLawfulOpening}
use Rattle.core_node.specs.Files.{IsLawfulTarget}
use Rattle.image_model.specs.Images.{IsSourceOf, IsBackupOf}

-- ---- epochs and stored bitmaps

-- of a source its epoch, and the bitmaps that its directory stores, with their marks of use
pub record Directory : Type 0 where
  pub epoch : ℕ
  pub entries : List StoredBitmap

-- it is one of these
abbrev pub Allows : List Directory → Directory → Type 0
Allows [] d = ⊥
Allows (x ∷ allows) d = (d ≡ x) ⊎ Allows allows d

abbrev pub directory_of : Opening → Directory
directory_of o = record { epoch = o.epoch; entries = o.entries }

-- what an opening makes of it: the next epoch, with all bitmaps in use, so that of each a name and a granularity alone can be read
abbrev pub unused : StoredBitmap → StoredBitmap
unused e = record { name = e.name; bits = cleared e.bits; span = Unknown; recording = false; trusted = false }

abbrev pub marked : Directory → Directory
marked d = record { epoch = d.epoch + 1; entries = map unused d.entries }

-- each of these as it was, or as an opening makes it
abbrev pub or_marked : List Directory → List Directory
or_marked allows = allows ++ map marked allows

-- ---- one file

-- What an opening finds in the image, where it stands for the disk of this history: its epoch, its clusters and their room, and bitmaps that
-- are true of the history. What it takes and gives back is not looked at, and `IsReady` ties the bitmaps to the file.
pub record FindsOpening (file id : List ℕ) (h : History) (o : Opening) : Type 0 where
  pub source : IsSourceOf file (now h) id o.epoch o.store
  pub room : HasRoom file o.store.room
  pub lawful : IsLawfulOpening h o

-- An opening takes the file: it stands for the disk of this history, what it stores of bitmaps is true for it, and its epoch and what it
-- stores are one of these.
pub record IsReady (allows : List Directory) (id : List ℕ) (h : History) (file : List ℕ) : Type 0 where
  pub opening : Opening
  pub finds : FindsOpening file id h opening
  pub entries_are : opening.entries ≡ stored_in file
  pub allowed : Allows allows (directory_of opening)

-- A crash may leave this of a source: it is ready for the history as the crash settles it, each sector of its disk is that of one of
-- these disks, and if a bitmap in it can be trusted, nothing had to be settled.
pub record IsSafe (allows : List Directory) (id : List ℕ) (h : History) (disks : List (List ℕ)) (file : List ℕ) : Type 0 where
  pub disk : List ℕ
  pub like : IsLikeDisk h disk
  pub kept : Kept disks disk
  pub ready : IsReady allows id (settle h disk) file
  pub trusted : (e : StoredBitmap) → Contains (stored_in file) e → IsTrue e.trusted → disk ≡ now h

-- ---- a session's state

-- The state of the plain machine, the disks that a crash then may mix, and what the directory stores meanwhile.
pub record State : Type 0 where
  pub machine : Machine
  pub disks : List (List ℕ)
  pub entries : List StoredBitmap

-- within a session the directory is that of its opening, and a closing stores the lasting bitmaps in its place
abbrev pub session_directory : State → Directory
session_directory s = record { epoch = s.machine.epoch; entries = s.entries }

abbrev pub closed_directory : State → Directory
closed_directory s = record { epoch = s.machine.epoch; entries = stored_by s.machine }

abbrev pub in_session : State → List Directory
in_session s = session_directory s ∷ []

abbrev pub in_closing : State → List Directory
in_closing s = session_directory s ∷ closed_directory s ∷ []

abbrev pub when_closed : State → List Directory
when_closed s = closed_directory s ∷ []

-- the state in which a session begins
abbrev pub first_state : History → Opening → State
first_state h o = record { machine = opened h o; disks = now h ∷ []; entries = map unused o.entries }

-- ---- all files

-- the source, the id of its disk, and the backup files that are spoken of, by their numbers
pub record Files : Type 0 where
  pub source : ℕ
  pub id : List ℕ
  pub backups : List ℕ

-- A crash may mix these disks: all are like that of the history, and the disk now is one of them.
pub record Mixes (h : History) (disks : List (List ℕ)) : Type 0 where
  pub among : Contains disks (now h)
  pub alike : All (IsLikeDisk h) disks

-- Files at rest are lawful for a history: as reads give them, and as each crash now may leave them.
pub record AreLawful (allows : List Directory) (files : Files) (h : History) (disks : List (List ℕ)) (w : World) : Type 0 where
  pub history_is : IsHistory h
  pub mixes : Mixes h disks
  pub source : Holds files.source (IsReady allows files.id h) (IsSafe allows files.id h disks) w
  pub apart : (f : ℕ) → Contains files.backups f → f ≡ files.source → ⊥
  pub backups : (f : ℕ) → Contains files.backups f → Holds f (IsLawfulTarget files.id h) (IsLawfulTarget files.id h) w

-- What a crash left of them is lawful for a history, each file by itself: of the source as it settles it.
pub record LeftLawful (allows : List Directory) (files : Files) (h : History) (disks : List (List ℕ)) (left : ℕ → Option (List ℕ)) : Type 0 where
  pub source : (c : List ℕ) → left files.source ≡ Some c → IsSafe allows files.id h disks c
  pub backups : (f : ℕ) (c : List ℕ) → Contains files.backups f → left f ≡ Some c → IsLawfulTarget files.id h c

abbrev pub LeftIn : Files → State → (ℕ → Option (List ℕ)) → Type 0
LeftIn files s left = LeftLawful (in_session s) files s.machine.history s.disks left

-- What is sealed stays so, as reads give it and in each crash.
abbrev pub StaysSealed : World → World → Type 0
StaysSealed old new = (f : ℕ) (b : Backup) (base : Base) (p : Point) → b.state ≡ Sealed base p
    → Leads f (λ c. IsBackupOf c b) (λ c. IsBackupOf c b) (λ c. IsBackupOf c b) (λ c. IsBackupOf c b) (λ c. IsBackupOf c b) old new
