-- The disk that an image stands for, and how often its clusters are counted (qcow2 specification, "Cluster mapping", "Host cluster management").
use Rattle.std.specs.Prelude.{◌≡◌, ℕ, ◌+◌, ◌-◌, ◌*◌, ◌/◌, ◌%◌, ◌^◌, ◌<◌, min, List, length, nat_lt, ◌==◌, if◌then◌else◌, Option, Some, None, Result, Ok, Err}
use Rattle.disk_model.specs.Files.{byte, reading, u16_at, u64_at}
use Rattle.qc_layout.specs.declared.entry.EntryFault.{EntryFault}
use Rattle.qc_layout.specs.declared.entry.L2Entry.{L2Entry}
use Rattle.qc_layout.specs.declared.entry.L2Entry.TheVariants.{Hole, Zero, Stored, Compressed}
use Rattle.qc_layout.specs.declared.extension.Extension.{Extension}
use Rattle.qc_layout.specs.declared.header.Part.{Part}
use Rattle.qc_layout.specs.declared.header.Part.TheVariants as parts
use Rattle.qc_layout.specs.Entries.{l1_of, l2_of}
use Rattle.qc_layout.specs.Header.{fields_of, number_fault, first_of}
use Rattle.qc_layout.specs.Extensions.{StandInRow, list_end, extension_rules, first_of_kind, own_kind}
use Rattle.qc_layout.specs.Spelling.{AreIn}

-- the file passes each rule of a header
pub record Passes (part : Part) (file : List ℕ) : Type 0 where
  pub numbers : number_fault part (length file) (fields_of file) ≡ None
  pub extensions : List Extension
  pub listed : AreIn file extensions
  pub rules : first_of (extension_rules part file (fields_of file) extensions) ≡ None

-- the first extension of this kind has this content
abbrev pub HasExtension : List ℕ → ℕ → List ℕ → Type 0
HasExtension file kind content = (es : List Extension) × AreIn file es × (e : Extension) × (first_of_kind kind es ≡ Some e) × (reading file e.place e.length ≡ content)

-- This project's extension stands in the list from here on, as far as that can be read, and has 64 bytes: it is the first of its kind.
abbrev pub IsBackupFrom : List ℕ → ℕ → ℕ → Type 0
IsBackupFrom file end from = (es : List Extension) × (e : Extension) × StandInRow file end from es × (first_of_kind own_kind es ≡ Some e) × (e.length ≡ 64)

-- a backup, whether its list breaks behind that or not
abbrev pub IsBackup : List ℕ → Type 0
IsBackup file = IsBackupFrom file (list_end (fields_of file).cluster_bits) (fields_of file).header_length

-- as what a file is read of which it isn't known what it is
abbrev pub IsReadAs : List ℕ → Part → Type 0
IsReadAs file parts.Target = IsBackup file
IsReadAs file parts.Source = IsBackup file → ⊥
IsReadAs file parts.Foreign = ⊥

-- ---- sizes, for clusters of 2 to the power bits bytes

-- words of eight bytes in a cluster
unfoldable pub words_in : ℕ → ℕ
words_in bits = 2 ^ bits / 8

-- refcounts in a cluster
unfoldable pub counts_in : ℕ → ℕ
counts_in bits = 2 ^ bits / 2

-- where cluster k begins
unfoldable pub place_of : ℕ → ℕ → ℕ
place_of bits k = 2 ^ bits * k

-- how many clusters a disk of so many bytes has
abbrev pub clusters_in : ℕ → ℕ → ℕ
clusters_in bits size = (size + (2 ^ bits - 1)) / 2 ^ bits

-- ---- the disk

abbrev pub bits_of : List ℕ → ℕ
bits_of file = (fields_of file).cluster_bits

-- what entry i of the first level says
abbrev pub table_at : List ℕ → ℕ → Result (Option ℕ) EntryFault
table_at file i = l1_of (bits_of file) (u64_at file ((fields_of file).l1_table_offset + 8 * i))

-- what a slot says of the second-level table that an entry names; without a table each cluster is a hole
abbrev pub entry_under : List ℕ → Result (Option ℕ) EntryFault → ℕ → Result L2Entry EntryFault
entry_under file (Err fault) slot = Err fault
entry_under file (Ok None) slot = Ok Hole
entry_under file (Ok (Some table)) slot = l2_of (bits_of file) (u64_at file (table + 8 * slot))

-- what the entries say of cluster n of the disk
unfoldable pub entry_at : List ℕ → ℕ → Result L2Entry EntryFault
entry_at file n = entry_under file (table_at file (n / words_in (bits_of file))) (n % words_in (bits_of file))

-- byte t of a cluster with this entry; holes and zeros read as zeros
abbrev pub ReadsAs : List ℕ → Result L2Entry EntryFault → ℕ → ℕ → Type 0
ReadsAs file (Ok Hole) t b = b ≡ 0
ReadsAs file (Ok (Zero host)) t b = b ≡ 0
ReadsAs file (Ok (Stored host)) t b = b ≡ byte file (host + t)
ReadsAs file (Ok Compressed) t b = ⊥
ReadsAs file (Err fault) t b = ⊥

-- The file stands for the disk: it passes the rules of a header, and each byte of the disk is what the entries give.
pub record Stands (part : Part) (file disk : List ℕ) : Type 0 where
  pub passes : Passes part file
  pub size : length disk ≡ (fields_of file).size
  pub bytes : (x : ℕ) → x < length disk → ReadsAs file (entry_at file (x / 2 ^ bits_of file)) (x % 2 ^ bits_of file) (byte disk x)

-- ---- refcounts

-- how many entries the refcount table has
abbrev pub blocks_in : List ℕ → ℕ
blocks_in file = (fields_of file).refcount_table_clusters * words_in (bits_of file)

-- where the block of an entry of the refcount table stands, or 0: bits 9 to 63
abbrev pub block_at : List ℕ → ℕ → ℕ
block_at file i = u64_at file ((fields_of file).refcount_table_offset + 8 * i) / 512 * 512

-- the refcount of cluster k; what no block counts has none
unfoldable pub refcount : List ℕ → ℕ → ℕ
refcount file k =
    if nat_lt (k / counts_in (bits_of file)) (blocks_in file) then
    (if block_at file (k / counts_in (bits_of file)) == 0 then 0
    else u16_at file (block_at file (k / counts_in (bits_of file)) + 2 * (k % counts_in (bits_of file))))
    else 0

-- no cluster from here on can be used
abbrev pub reach_of : List ℕ → ℕ
reach_of file = min (2 ^ 30) (blocks_in file * counts_in (bits_of file))
