-- Why a file isn't taken as a source or as a target: the first rule that it fails, in the order of an opening, and the text of each reason.
use Rattle.std.specs.Prelude.{◌≡◌, ℕ, ◌-◌, ◌^◌, ◌<◌, List, ◌++◌, Some, None, codes}
use Rattle.std.specs.Fmt.{decimal}
use Rattle.qc_layout.specs.declared.header.Header as header
use Rattle.qc_layout.specs.declared.header.HeaderFault.{HeaderFault}
use Rattle.qc_layout.specs.declared.header.HeaderFault.TheVariants as faults
use Rattle.qc_layout.specs.declared.header.Own.TheVariants as owns
use Rattle.qc_layout.specs.declared.header.Part.TheVariants as parts
use Rattle.qc_layout.specs.declared.records.RecordFault.{RecordFault}
use Rattle.qc_layout.specs.declared.records.RecordFault.TheVariants as record_faults
use Rattle.qc_layout.specs.Spelling.{Spells, IsFault}
use Rattle.qc_layout.specs.Records.{record_fault}
use Rattle.qc_layout.specs.Disks.{bits_of}
use Rattle.qc_layout.specs.declared.faults.DirFault.{DirFault}
use Rattle.qc_layout.specs.declared.faults.DirFault.TheVariants.{TooManyEntries, Entries, Flags, Kind, Granularity, ExtraData, NameForm, SameName, TableSize, TableEntry, Tail}
use Rattle.qc_layout.specs.Directory.{RefusedEntry}
use Rattle.qc_layout.specs.declared.faults.ImageFault.{ImageFault}
use Rattle.qc_layout.specs.declared.faults.ImageFault.TheVariants.{BadBlock, Reserved, Compressed, Misaligned, PastLimit, Overlap, Uncounted}
use Rattle.qc_layout.specs.Opening.{cluster_fault}
use Rattle.qc_layout.specs.Loading.{Cluster, Listed, image_fault}

-- ---- the texts, by the names of the rules

abbrev pub header_reason : HeaderFault → List ℕ
header_reason faults.Short = codes "Short"
header_reason faults.Magic = codes "Magic"
header_reason faults.Version = codes "Version"
header_reason faults.HeaderLength = codes "HeaderLength"
header_reason faults.ClusterBits = codes "ClusterBits"
header_reason faults.Size = codes "Size"
header_reason faults.Backing = codes "Backing"
header_reason faults.Encrypted = codes "Encrypted"
header_reason faults.Snapshots = codes "Snapshots"
header_reason faults.Dirty = codes "Dirty"
header_reason faults.Corrupt = codes "Corrupt"
header_reason faults.ExternalData = codes "ExternalData"
header_reason faults.Compression = codes "Compression"
header_reason faults.ExtendedL2 = codes "ExtendedL2"
header_reason faults.Incompatible = codes "Incompatible"
header_reason faults.RefcountOrder = codes "RefcountOrder"
header_reason faults.L1Table = codes "L1Table"
header_reason faults.RefcountTable = codes "RefcountTable"
header_reason faults.Extensions = codes "Extensions"
header_reason faults.TooLong = codes "TooLong"
header_reason faults.BitmapsExtension = codes "BitmapsExtension"
header_reason faults.Autoclear = codes "Autoclear"
header_reason faults.OwnExtension = codes "OwnExtension"
header_reason faults.Memory = codes "Memory"

abbrev pub record_reason : RecordFault → List ℕ
record_reason record_faults.RecordVersion = codes "RecordVersion"
record_reason record_faults.RecordState = codes "RecordState"
record_reason record_faults.RecordKind = codes "RecordKind"
record_reason record_faults.RecordUnit = codes "RecordUnit"

-- a name and its number
abbrev pub numbered : List ℕ → ℕ → List ℕ
numbered name n = name ++ codes " " ++ decimal n

abbrev pub listing_reason : DirFault → List ℕ
listing_reason TooManyEntries = codes "TooManyEntries"
listing_reason Entries = codes "Entries"
listing_reason Flags = codes "Flags"
listing_reason Kind = codes "Kind"
listing_reason Granularity = codes "Granularity"
listing_reason ExtraData = codes "ExtraData"
listing_reason NameForm = codes "NameForm"
listing_reason SameName = codes "SameName"
listing_reason TableSize = codes "TableSize"
listing_reason TableEntry = codes "TableEntry"
listing_reason Tail = codes "Tail"

abbrev pub image_reason : ImageFault → List ℕ
image_reason (BadBlock at) = numbered (codes "BadBlock") at
image_reason (Reserved at) = numbered (codes "Reserved") at
image_reason (Compressed at) = numbered (codes "Compressed") at
image_reason (Misaligned at) = numbered (codes "Misaligned") at
image_reason (PastLimit offset) = numbered (codes "PastLimit") offset
image_reason (Overlap offset) = numbered (codes "Overlap") offset
image_reason (Uncounted offset) = numbered (codes "Uncounted") offset

-- ---- the first rule that a file fails

-- a rule of its header; no record, or a rule of that; no id and epoch of a source, or no epoch left; a rule of its clusters, or one
-- of its directory of bitmaps
pub data FileFault : Type 0 where
  Header : (fault : HeaderFault) → FileFault
  NotTarget : FileFault
  Record : (fault : RecordFault) → FileFault
  NotAdopted : FileFault
  EpochSpent : FileFault
  Clusters : (fault : ImageFault) → FileFault
  Bitmaps : (refused : RefusedEntry) → FileFault

abbrev pub file_reason : FileFault → List ℕ
file_reason (Header fault) = header_reason fault
file_reason NotTarget = codes "NotTarget"
file_reason (Record fault) = record_reason fault
file_reason NotAdopted = codes "NotAdopted"
file_reason EpochSpent = codes "EpochSpent"
file_reason (Clusters fault) = image_reason fault
file_reason (Bitmaps refused) = numbered (listing_reason refused.fault) refused.entry

-- the header passes, and says this of a record
abbrev pub HasRecord : List ℕ → List ℕ → Type 0
HasRecord file bytes = (h : header.Header) × Spells parts.Target file h × (h.own ≡ owns.Target bytes)

-- it is the first that the file fails as a target
abbrev pub IsTargetFault : List ℕ → FileFault → Type 0
IsTargetFault file (Header fault) = IsFault parts.Target file fault
IsTargetFault file NotTarget = (h : header.Header) × Spells parts.Target file h × (h.own ≡ owns.Absent)
IsTargetFault file (Record fault) = (bytes : List ℕ) × HasRecord file bytes × (record_fault (bits_of file) bytes ≡ Some fault)
IsTargetFault file NotAdopted = ⊥
IsTargetFault file EpochSpent = ⊥
IsTargetFault file (Clusters fault) = (bytes : List ℕ) × HasRecord file bytes × (record_fault (bits_of file) bytes ≡ None) × (cluster_fault file ≡ Some fault)
IsTargetFault file (Bitmaps refused) = ⊥

-- the header passes, and says this epoch
abbrev pub HasEpoch : List ℕ → ℕ → Type 0
HasEpoch file epoch = (h : header.Header) × (id : List ℕ) × (offset : ℕ) × (size : ℕ) × Spells parts.Source file h × (h.own ≡ owns.Source id epoch offset size)

abbrev pub HasEpochLeft : List ℕ → Type 0
HasEpochLeft file = (epoch : ℕ) × (epoch < 2 ^ 64 - 1) × HasEpoch file epoch

-- it is the first that the file fails as a source
abbrev pub IsSourceFault : List ℕ → FileFault → Type 0
IsSourceFault file (Header fault) = IsFault parts.Source file fault
IsSourceFault file NotTarget = ⊥
IsSourceFault file (Record fault) = ⊥
IsSourceFault file NotAdopted = (h : header.Header) × Spells parts.Source file h × (h.own ≡ owns.Absent)
IsSourceFault file EpochSpent = HasEpoch file (2 ^ 64 - 1)
IsSourceFault file (Clusters fault) = HasEpochLeft file × (image_fault file ≡ Some (Cluster fault))
IsSourceFault file (Bitmaps refused) = HasEpochLeft file × (image_fault file ≡ Some (Listed refused))
