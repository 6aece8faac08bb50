-- What the file of a source and those of targets hold, as plain values: clusters, disks, records (qcow2 specification; the backup record is this project's own).
use Rattle.std.specs.Prelude.{map, ◌≡◌, ℕ, ◌/◌, ◌%◌, ◌^◌, ◌<◌, List, length, Bool, true, false, Option, None, Result, Ok, Err, is_some}
use Rattle.disk_model.specs.Files.{byte}
use Rattle.span_algebra.specs.declared.points.Point.{Point}
use Rattle.span_algebra.specs.declared.spans.Base.{Base}
use Rattle.bitmap_model.specs.Granules.{is_in, granules_in}
use Rattle.qc_layout.specs.declared.entry.EntryFault.{EntryFault}
use Rattle.qc_layout.specs.declared.entry.L2Entry.{L2Entry}
use Rattle.qc_layout.specs.declared.entry.L2Entry.TheVariants as entries
use Rattle.qc_layout.specs.declared.header.Header.{Header}
use Rattle.qc_layout.specs.declared.header.Own.TheVariants as owns
use Rattle.qc_layout.specs.declared.header.Part.TheVariants as parts
use Rattle.qc_layout.specs.declared.records.State.{State}
use Rattle.qc_layout.specs.declared.records.State.TheVariants as states
use Rattle.qc_layout.specs.Header.{fields_of}
use Rattle.qc_layout.specs.Spelling.{Spells}
use Rattle.qc_layout.specs.Records.{record_of, record_fault}
use Rattle.qc_layout.specs.Disks.{ReadsAs, Stands, bits_of, entry_at, table_at}
use Rattle.qc_layout.specs.Directory.{directory_fault}
use Rattle.qc_layout.specs.Owners.{Counted}
use Rattle.qc_layout.specs.Room.{TablesPass, HasRoom}
use Rattle.image_model.specs.Space.{Kind, Data, Hole, Zeroed, Store, is_data, kind_at, entries_in}
use Rattle.image_model.specs.Backups.{Backup, BackupState, Blank, Begun, Sealed}

-- ---- clusters

-- how an entry says that a cluster of the disk is stored
abbrev pub IsKind : Result L2Entry EntryFault → Kind → Type 0
IsKind (Ok entries.Hole) kind = kind ≡ Hole
IsKind (Ok (entries.Zero host)) kind = kind ≡ Zeroed
IsKind (Ok (entries.Stored host)) kind = kind ≡ Data
IsKind (Ok entries.Compressed) kind = ⊥
IsKind (Err fault) kind = ⊥

-- a table of the second level is there, or not
abbrev pub IsThere : Result (Option ℕ) EntryFault → Bool → Type 0
IsThere (Ok table) there = there ≡ is_some table
IsThere (Err fault) there = ⊥

-- the file has clusters of this size, and these kinds and tables for its disk
pub record HasClusters (file : List ℕ) (store : Store) : Type 0 where
  pub cluster_is : store.cluster ≡ 2 ^ bits_of file
  pub kind_count : length store.kinds ≡ granules_in ((fields_of file).size) store.cluster
  pub kinds_are : (n : ℕ) → n < length store.kinds → IsKind (entry_at file n) (kind_at store n)
  pub table_count : length store.tables ≡ granules_in (length store.kinds) (entries_in store.cluster)
  pub tables_are : (t : ℕ) → t < length store.tables → IsThere (table_at file t) (is_in store.tables t)

-- ---- a source

-- The file is a source of this disk, id, epoch and clusters. It passes the rules of an opening: its tables and its directory of bitmaps are in order, and each cluster
-- that something refers to, bitmaps among it, has one owner and is counted.
pub record IsSourceOf (file disk id : List ℕ) (epoch : ℕ) (store : Store) : Type 0 where
  pub stands : Stands parts.Source file disk
  pub passes : TablesPass file
  pub directory : directory_fault file ≡ None
  pub counted : Counted file
  pub header : Header
  pub spelled : Spells parts.Source file header
  pub spans_offset : ℕ
  pub spans_length : ℕ
  pub own : header.own ≡ owns.Source id epoch spans_offset spans_length
  pub clusters : HasClusters file store

-- ---- a target

abbrev pub is_blank : State → Bool
is_blank states.Blank = true
is_blank states.Begun = false
is_blank states.Sealed = false

-- what a record says of its backup
abbrev pub state_of : State → Base → Point → BackupState
state_of states.Blank base p = Blank
state_of states.Begun base p = Begun
state_of states.Sealed base p = Sealed base p

-- the file is a backup in order, with this record and these clusters
pub record IsBackupFile (file bytes : List ℕ) (store : Store) : Type 0 where
  pub header : Header
  pub spelled : Spells parts.Target file header
  pub own : header.own ≡ owns.Target bytes
  pub faultless : record_fault (bits_of file) bytes ≡ None
  pub passes : TablesPass file
  pub clusters : HasClusters file store

-- the disk of the file reads as these bytes
abbrev pub HasContent : List ℕ → List ℕ → Type 0
HasContent file content =
    (x : ℕ) → x < (fields_of file).size → ReadsAs file (entry_at file (x / 2 ^ bits_of file)) (x % 2 ^ bits_of file) (byte content x)

-- the file is this backup: its record's id, state and unit, its disk's size, which units are present (those whose entry is Data), and what
-- they read as
pub record IsBackupOf (file : List ℕ) (b : Backup) : Type 0 where
  pub bytes : List ℕ
  pub store : Store
  pub in_order : IsBackupFile file bytes store
  pub id_is : b.id ≡ (record_of bytes).disk
  pub state_is : b.state ≡ state_of (record_of bytes).state (record_of bytes).base (record_of bytes).point
  pub unit_is : b.unit ≡ store.cluster
  pub size_is : b.size ≡ (fields_of file).size
  pub present_is : b.present ≡ map is_data store.kinds
  pub reads : HasContent file b.content

-- as an opening finds it: whether its record is blank, its disk's size, its clusters and their room
pub record IsTargetOf (file : List ℕ) (blank : Bool) (size : ℕ) (store : Store) : Type 0 where
  pub bytes : List ℕ
  pub in_order : IsBackupFile file bytes store
  pub blank_is : blank ≡ is_blank (record_of bytes).state
  pub size_is : size ≡ (fields_of file).size
  pub room : HasRoom file store.room
