-- The laws, as statements.
use Rattle.std.specs.Prelude.{◌≡◌, ◌≢◌, ◌↔◌, ℕ, ◌+◌, ◌^◌, ◌<◌, ◌≤◌, max, List, [], length, take, Some, None, Contains}
use Rattle.disk_model.specs.Files.{byte, reading, overlay}
use Rattle.bitmap_model.specs.Bitmaps.{AreShapedEntries}
use Rattle.qc_layout.specs.declared.extension.Extension.{Extension}
use Rattle.qc_layout.specs.declared.header.Header.{Header}
use Rattle.qc_layout.specs.declared.header.HeaderFault.{HeaderFault}
use Rattle.qc_layout.specs.declared.header.Own.TheVariants as owns
use Rattle.qc_layout.specs.declared.header.Part.{Part}
use Rattle.qc_layout.specs.declared.header.Part.TheVariants as parts
use Rattle.qc_layout.specs.Header.{fields_of, number_fault}
use Rattle.qc_layout.specs.Extensions.{AreExtensions, list_end}
use Rattle.qc_layout.specs.Disks.{IsReadAs, Stands, bits_of, place_of, reach_of, refcount}
use Rattle.qc_layout.specs.declared.faults.ImageFault.{ImageFault}
use Rattle.qc_layout.specs.declared.faults.ImageFault.TheVariants.{BadBlock, Reserved, Compressed, Misaligned, PastLimit, Overlap, Uncounted}
use Rattle.qc_layout.specs.Opening.{cluster_fault, IsCause}
use Rattle.qc_layout.specs.Room.{TablesPass}
use Rattle.qc_layout.specs.Spelling.{Spells, IsHeaderOf, IsFault}
use Rattle.qc_layout.specs.Directory.{ListedBitmap, directory_in, own_of, listed_in, spans_in, directory_fault, stored_in}
use Rattle.qc_layout.specs.Owners.{Held, Holds, Owner, Owns, Counted}
use Rattle.qc_layout.specs.Loading.{LoadFault, Cluster, Listed, image_fault}

-- one list of extensions at most stands in a place
abbrev pub OneListing : Type 0
OneListing = (file : List ℕ) (end from : ℕ) (es other : List Extension) → AreExtensions file end from es → AreExtensions file end from other → es ≡ other

-- a file is refused for one fault at most
abbrev pub OneFault : Type 0
OneFault = (part : Part) (file : List ℕ) (fault other : HeaderFault) → IsFault part file fault → IsFault part file other → fault ≡ other

-- a file that spells a header is not refused
abbrev pub FaultOrHeader : Type 0
FaultOrHeader = (part : Part) (file : List ℕ) (h : Header) (fault : HeaderFault) → Spells part file h → IsFault part file fault → ⊥

-- two headers say the same
pub record SameHeader (h g : Header) : Type 0 where
  pub fields : h.fields ≡ g.fields
  pub kept : h.kept.items.items ≡ g.kept.items.items
  pub bitmaps : h.bitmaps ≡ g.bitmaps
  pub own : h.own ≡ g.own
  pub own_at : h.own_at ≡ g.own_at

-- a file spells one header at most
abbrev pub OneHeader : Type 0
OneHeader = (part : Part) (file : List ℕ) (h g : Header) → IsHeaderOf part file h → IsHeaderOf part file g → SameHeader h g

-- how many of a file's first bytes say what its header says: its first sector, and its first cluster up to 65536 bytes
abbrev pub start_length : List ℕ → ℕ
start_length file = max 512 (list_end (fields_of file).cluster_bits)

-- those bytes, or all where it has fewer
abbrev pub start_of : List ℕ → List ℕ
start_of file = take (start_length file) file

-- two files begin with the same n bytes, as many as the one's header takes, and both are long enough for a header or neither is
pub record BeginAlike (n : ℕ) (a b : List ℕ) : Type 0 where
  pub enough : start_length a ≤ n
  pub bytes : reading a 0 n ≡ reading b 0 n
  pub short : length a < 104 → length b < 104
  pub long : length b < 104 → length a < 104

-- what is read of a file depends on those bytes alone
abbrev pub FromStart : Type 0
FromStart = (part : Part) (n : ℕ) (a b : List ℕ) → BeginAlike n a b
    → ((h : Header) → IsHeaderOf part a h → IsHeaderOf part b h) × ((fault : HeaderFault) → IsFault part a fault → IsFault part b fault) × (IsReadAs a part → IsReadAs b part)

-- a file stands for one disk at most
abbrev pub OneDisk : Type 0
OneDisk = (part : Part) (file disk other : List ℕ) → Stands part file disk → Stands part file other → disk ≡ other

-- where a header's numbers pass, an opening refuses nothing exactly where the tables pass its rules
abbrev pub OpeningIsExact : Type 0
OpeningIsExact = (part : Part) (file : List ℕ) → number_fault part (length file) (fields_of file) ≡ None
    → (cluster_fault file ≡ None) ↔ TablesPass file

-- and what it refuses has a cause
abbrev pub RefusalsHaveCauses : Type 0
RefusalsHaveCauses = (part : Part) (file : List ℕ) (fault : ImageFault) → number_fault part (length file) (fields_of file) ≡ None
    → cluster_fault file ≡ Some fault → IsCause file fault

-- ---- bitmaps

-- where a header is spelled, the directory and this project's extension are found as it says
pub record IsFoundAs (file : List ℕ) (h : Header) : Type 0 where
  pub directory : directory_in file ≡ h.bitmaps
  pub own : own_of file ≡ h.own

abbrev pub FindsAsSpelled : Type 0
FindsAsSpelled = (part : Part) (file : List ℕ) (h : Header) → Spells part file h → IsFoundAs file h

-- no bitmap, no fault, and no cluster for bitmaps
pub record StoresNothing (file : List ℕ) : Type 0 where
  pub stored : stored_in file ≡ []
  pub faultless : directory_fault file ≡ None
  pub held : (held : Held) (k : ℕ) → Holds file (listed_in file) held k → ⊥

abbrev pub NoDirectoryStoresNothing : Type 0
NoDirectoryStoresNothing = (file : List ℕ) → directory_in file ≡ None → StoresNothing file

-- what a file stores is in shape
abbrev pub StoredIsShaped : Type 0
StoredIsShaped = (file : List ℕ) → AreShapedEntries (fields_of file).size (stored_in file)

-- who holds a cluster for bitmaps depends on which are listed, and not on their order
abbrev pub OwnersByName : Type 0
OwnersByName = (file : List ℕ) (listed other : List ListedBitmap) (held : Held) (k : ℕ) → ((b : ListedBitmap) → Contains listed b → Contains other b)
    → Holds file listed held k → Holds file other held k

-- ---- a whole opening

-- an image whose clusters and bitmaps pass: its tables and its directory are in order, and each cluster that something refers to has one owner and is counted
pub record IsLoadable (file : List ℕ) : Type 0 where
  pub passes : TablesPass file
  pub directory : directory_fault file ≡ None
  pub counted : Counted file

-- where a source's header is spelled, an opening refuses nothing exactly where the image passes
abbrev pub LoadingIsExact : Type 0
LoadingIsExact = (file : List ℕ) (h : Header) → Spells parts.Source file h → (image_fault file ≡ None) ↔ IsLoadable file

-- a cluster is refused for an entry, or for who owns it, bitmaps among them
abbrev pub IsOwnerCause : List ℕ → ImageFault → Type 0
IsOwnerCause file (BadBlock at) = IsCause file (BadBlock at)
IsOwnerCause file (Reserved at) = IsCause file (Reserved at)
IsOwnerCause file (Compressed at) = IsCause file (Compressed at)
IsOwnerCause file (Misaligned at) = IsCause file (Misaligned at)
IsOwnerCause file (PastLimit offset) = (k : ℕ) × (owner : Owner) × (offset ≡ place_of (bits_of file) k) × Owns file owner k × (reach_of file ≤ k)
IsOwnerCause file (Overlap offset) =
    (k : ℕ) × (owner : Owner) × (other : Owner) × (offset ≡ place_of (bits_of file) k) × Owns file owner k × Owns file other k × (owner ≢ other)
IsOwnerCause file (Uncounted offset) = (k : ℕ) × (owner : Owner) × (offset ≡ place_of (bits_of file) k) × Owns file owner k × (refcount file k ≡ 0)

-- and an entry of the directory is so where it is the first that breaks a rule of directories
abbrev pub IsLoadCause : List ℕ → LoadFault → Type 0
IsLoadCause file (Cluster fault) = IsOwnerCause file fault
IsLoadCause file (Listed refused) = directory_fault file ≡ Some refused

abbrev pub LoadsHaveCauses : Type 0
LoadsHaveCauses = (file : List ℕ) (h : Header) (fault : LoadFault) → Spells parts.Source file h → image_fault file ≡ Some fault → IsLoadCause file fault

-- ---- bytes that change

-- A backup's record replaced in place by another of 64 bytes: the header says the same, with that record.
abbrev pub RecordsAreReplaced : Type 0
RecordsAreReplaced = (file old other : List ℕ) (h : Header) → IsHeaderOf parts.Target file h → h.own ≡ owns.Target old → length other ≡ 64
    → (g : Header) × IsHeaderOf parts.Target (overlay file h.own_at other) g × SameHeader (record h { own = owns.Target other }) g

-- the same header, and the same bytes in each cluster that bitmaps hold
pub record HoldAlike (a b : List ℕ) : Type 0 where
  pub start : BeginAlike (start_length a) a b
  pub held : (held : Held) (k i : ℕ) → Holds a (listed_in a) held k → place_of (bits_of a) k ≤ i → i < place_of (bits_of a) k + 2 ^ bits_of a → byte b i ≡ byte a i

-- What is stored lies in the header and in the clusters that bitmaps hold. A table of spans that is named and not used may lie elsewhere, and must not become one.
abbrev pub StoredWhereHeld : Type 0
StoredWhereHeld = (a b : List ℕ) (h : Header) → Spells parts.Source a h → directory_fault a ≡ None → (spans_in a ≡ None → spans_in b ≡ None) → HoldAlike a b
    → (stored_in b ≡ stored_in a) × (directory_fault b ≡ None) × ((held : Held) (k : ℕ) → Holds b (listed_in b) held k ↔ Holds a (listed_in a) held k)
