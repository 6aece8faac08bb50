-- What a layer above takes from a file that is safe, as statements: from clusters and roles to headers, tables and disks.
use Rattle.std.specs.Prelude.{◌≡◌, ℕ, ◌≤◌, List, ◌++◌, length, map, Bool, None}
use Rattle.disk_model.specs.Files.{overlay}
use Rattle.disk_model.specs.World.{World}
use Rattle.qc_layout.specs.declared.header.Header.{Header}
use Rattle.qc_layout.specs.declared.header.Own.TheVariants as owns
use Rattle.qc_layout.specs.declared.header.Part.{Part}
use Rattle.qc_layout.specs.declared.header.Part.TheVariants as parts
use Rattle.qc_layout.specs.Header.{fields_of}
use Rattle.qc_layout.specs.Spelling.{Spells, IsHeaderOf}
use Rattle.qc_layout.specs.Records.{record_fault}
use Rattle.qc_layout.specs.Disks.{Passes, Stands, bits_of}
use Rattle.qc_layout.specs.Directory.{directory_in, spans_in, directory_fault, stored_in}
use Rattle.qc_layout.specs.Opening.{image_checks}
use Rattle.qc_layout.specs.Loading.{directory_checks, claimed_in, held_in}
use Rattle.qc_layout.specs.Owners.{Tight}
use Rattle.qc_layout.specs.Room.{TablesPass, IsNextFree}
use Rattle.qc_layout.specs.Laws.{IsLoadable}
use Rattle.image_model.specs.Space.{Store}
use Rattle.image_model.specs.Images.{IsBackupFile, HasContent}
use Rattle.image_model.specs.Clusters.{Shape, IsShape, OwnsAsListed, IsSafe, IsStanding}
use Rattle.image_model.specs.Calls.{IsOpened, shape_of, AreClaimed, AreExactly, AreSettled, Rests}
use Rattle.image_model.specs.Disks.{disk_of, IsMixedOf}

-- An image that an opening takes has a shape: its base is the file, bitmaps own what its directory says, and it is as an opening finds it.
abbrev pub LoadableOpens : Type 0
LoadableOpens = (file : List ℕ) (h : Header) (next : ℕ) → Spells parts.Source file h → IsLoadable file → IsNextFree file next
    → (s : Shape) × (s.base ≡ file) × OwnsAsListed s × IsOpened s next file

-- a backup whose tables pass has the shape of its header, without bitmaps
abbrev pub BackupOpens : Type 0
BackupOpens = (file : List ℕ) (h : Header) (next : ℕ) → Spells parts.Target file h → TablesPass file → IsNextFree file next → IsOpened (shape_of file) next file

-- What an opening claims of a source is just what is referred to: of its tables, and of its directory.
abbrev pub LoadableClaims : Type 0
LoadableClaims = (file : List ℕ) (h : Header) (s : Shape) (taken : ℕ → Bool) → Spells parts.Source file h → IsLoadable file → s.base ≡ file → OwnsAsListed s → IsShape s
    → AreClaimed s (claimed_in (image_checks file) ++ held_in (directory_checks file (directory_in file))) taken → AreExactly s taken file

-- and so it is of a backup
abbrev pub BackupClaims : Type 0
BackupClaims = (file : List ℕ) (h : Header) (taken : ℕ → Bool) → Spells parts.Target file h → TablesPass file
    → AreClaimed (shape_of file) (claimed_in (image_checks file)) taken → AreExactly (shape_of file) taken file

-- The tables of a safe file pass the rules of an opening, bitmaps apart.
abbrev pub SafePasses : Type 0
SafePasses = (s : Shape) (disks : List (List ℕ)) (file : List ℕ) → IsShape s → 104 ≤ length s.base → IsSafe s disks file → TablesPass file

-- its header is the base's
abbrev pub SafeHasHeader : Type 0
SafeHasHeader = (s : Shape) (disks : List (List ℕ)) (file : List ℕ) (part : Part) (h : Header) → IsShape s → 104 ≤ length s.base → IsSafe s disks file
    → IsHeaderOf part s.base h → IsHeaderOf part file h

-- it stands for the disk that its clusters show
abbrev pub SafeStands : Type 0
SafeStands = (s : Shape) (disks : List (List ℕ)) (file : List ℕ) (part : Part) → IsShape s → 104 ≤ length s.base → Passes part s.base → IsSafe s disks file
    → Stands part file (disk_of s (fields_of s.base).size file)

-- each sector of that is one of the disks that may be mixed
abbrev pub SafeIsMixed : Type 0
SafeIsMixed = (s : Shape) (disks : List (List ℕ)) (file : List ℕ) (part : Part) → IsShape s → Passes part s.base → IsSafe s disks file
    → IsMixedOf (fields_of s.base).size (map (disk_of s (fields_of s.base).size) disks) (disk_of s (fields_of s.base).size file)

-- With bitmaps: where the shape says what the base's directory says, and no table of spans came into use, the file passes an opening whole, and stores what the base does.
abbrev pub SafeLoads : Type 0
SafeLoads = (s : Shape) (disks : List (List ℕ)) (file : List ℕ) (h : Header) → IsShape s → 104 ≤ length s.base → Spells parts.Source s.base h → directory_fault s.base ≡ None
    → (spans_in s.base ≡ None → spans_in file ≡ None) → OwnsAsListed s → IsSafe s disks file → IsLoadable file × (stored_in file ≡ stored_in s.base)

-- where each cluster that is referred to is counted once and no other is, it is tight
abbrev pub SettledIsTight : Type 0
SettledIsTight = (s : Shape) (disks : List (List ℕ)) (taken : ℕ → Bool) (file : List ℕ) (h : Header) → IsShape s → 104 ≤ length s.base → Spells parts.Source s.base h → directory_fault s.base ≡ None
    → (spans_in s.base ≡ None → spans_in file ≡ None) → OwnsAsListed s → IsSafe s disks file → AreExactly s taken file → AreSettled s taken file → Tight file

-- what rests stands, with no cluster ready
abbrev pub RestingStands : Type 0
RestingStands = (s : Shape) (disks : List (List ℕ)) (taken : ℕ → Bool) (last f : ℕ) (w : World) → Rests s disks taken last f w → IsStanding s disks last last f w

-- A backup whose record is replaced in place by another that passes the rules is a backup in order with that record, and its disk reads as before.
abbrev pub BackupsTakeRecords : Type 0
BackupsTakeRecords = (file old other : List ℕ) (store : Store) (h : Header) → IsHeaderOf parts.Target file h → h.own ≡ owns.Target old → IsBackupFile file old store → length other ≡ 64
    → record_fault (bits_of file) other ≡ None → IsBackupFile (overlay file h.own_at other) other store
    × ((content : List ℕ) → HasContent file content → HasContent (overlay file h.own_at other) content)
