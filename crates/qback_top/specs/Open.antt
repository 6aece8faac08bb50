-- What is known of an image while it is open.
use Rattle.std.specs.Prelude.{◌≡◌, ◌≢◌, ◌⊎◌, ◌==◌, if◌then◌else◌, ℕ, ◌+◌, ◌*◌, ◌/◌, ◌%◌, ◌^◌, ◌<◌, ◌≤◌, List, length, IsTrue, Result, OnErr}
use Rattle.disk_model.specs.Files.{byte, u64_at, reading}
use Rattle.qc_layout.specs.Entries.{offset_in}
use Rattle.qc_layout.specs.FirstForm.{IsFirstForm, IsHeader, IsPlainEntry, IsRest, head_of, disk_of, disk_size, l1_offset, table_offset, host_of, clusters_of}
use Rattle.disk_model.specs.World.{World, Rose}
use Rattle.qback_top.specs.declared.image.Image.{Image}

-- the bytes of an image's file, and those of its disk
abbrev pub file_in : World → Image → List ℕ
file_in w image = w.seen image.file.0

abbrev pub disk_in : World → Image → List ℕ
disk_in w image = disk_of (w.seen image.file.0)

-- the file is of the form that is taken, and what the image keeps of it is so
pub record IsOpen (image : Image) (file : List ℕ) : Type 0 where
  pub form : IsFirstForm file
  pub size : image.size ≡ disk_size file
  pub l1 : image.l1 ≡ l1_offset file
  pub end : image.end ≡ length file

-- what holds of an open image's file where files are told
abbrev pub WhereOpen : World → Image → Type 0 → Type 0
WhereOpen w image holds = IsTrue w.tells → IsOpen image (file_in w image) → holds

-- and of a range of so many bytes that lies in its disk
abbrev pub WhereInside : World → Image → ℕ → ℕ → Type 0 → Type 0
WhereInside w image at size holds = IsTrue w.tells → IsOpen image (file_in w image) → at + size ≤ disk_size (file_in w image) → holds

-- the entry of cluster n in the second-level table, or 0 where there is no table
unfoldable pub entry_of : List ℕ → ℕ → ℕ
entry_of file n = if table_offset file == 0 then 0 else u64_at file (table_offset file + 8 * n)

-- the entry names a cluster at or past this end, with bit 63 set and no other bit beside
pub record NamesNew (end entry : ℕ) : Type 0 where
  pub some : 0 < offset_in entry
  pub place : end ≤ offset_in entry
  pub spelled : entry ≡ offset_in entry + 2 ^ 63

-- How the tables go on: an entry that was set stays, and one that is new names a cluster at or past the old end.
pub record TablesGoOn (old new : List ℕ) : Type 0 where
  pub head : head_of new ≡ head_of old
  pub table : (u64_at new (l1_offset old) ≡ u64_at old (l1_offset old)) ⊎ ((table_offset old ≡ 0) × NamesNew (length old) (u64_at new (l1_offset old)))
  pub entries : (n : ℕ) → n < 512 → (entry_of new n ≡ entry_of old n) ⊎ ((n < clusters_of old) × (entry_of old n ≡ 0) × NamesNew (length old) (entry_of new n))

-- the tables go on, and each byte of the old image that belongs to neither of them nor to a stored cluster is as it was
pub record Spares (old new : List ℕ) : Type 0 where
  pub longer : length old ≤ length new
  pub bytes : (i : ℕ) → IsRest old i → byte new i ≡ byte old i
  pub tables : TablesGoOn old new

-- each cluster by which the file grew is named
abbrev pub GrowsByNamed : List ℕ → List ℕ → Type 0
GrowsByNamed old new = (o : ℕ) → 0 < o → length old ≤ o → o < length new → o % 4096 ≡ 0 → (table_offset new ≡ o) ⊎ ((n : ℕ) × (n < clusters_of old) × (host_of new n ≡ o))

-- that, such bytes are still such bytes, and no cluster is without a name
pub record KeepsRest (old new : List ℕ) : Type 0 where
  pub spares : Spares old new
  pub rest : (i : ℕ) → IsRest old i → IsRest new i
  pub grown : GrowsByNamed old new

-- the image is open as another, has this disk, and its file went on
abbrev pub HasDisk : World → World → Image → Image → List ℕ → Type 0
HasDisk old new before after disk = IsOpen after (file_in new before) × (disk_in new before ≡ disk) × KeepsRest (file_in old before) (file_in new before)

-- each byte of the new disk is as in the one disk or as in the other
pub record Between (a b new : List ℕ) : Type 0 where
  pub long : length new ≡ length a
  pub bytes : (i : ℕ) → i < length a → (byte new i ≡ byte a i) ⊎ (byte new i ≡ byte b i)

-- ---- the entries of a second-level table

-- a word that is 0, or names an aligned cluster and sets no bit beside but bit 63
pub record IsNamed (entry : ℕ) : Type 0 where
  pub plain : IsPlainEntry entry
  pub aligned : offset_in entry % 4096 ≡ 0

-- entry n of the table is 0, or names a cluster before `end` that is neither table's and that no entry before it names
pub record EntryFits (entries : List ℕ) (l1 table end n : ℕ) : Type 0 where
  pub named : IsNamed (u64_at entries (8 * n))
  pub inside : offset_in (u64_at entries (8 * n)) ≢ 0 → offset_in (u64_at entries (8 * n)) < end
  pub not_l1 : offset_in (u64_at entries (8 * n)) ≢ 0 → offset_in (u64_at entries (8 * n)) ≢ l1
  pub not_table : offset_in (u64_at entries (8 * n)) ≢ 0 → offset_in (u64_at entries (8 * n)) ≢ table
  pub new : offset_in (u64_at entries (8 * n)) ≢ 0 → (m : ℕ) → m < n → offset_in (u64_at entries (8 * m)) ≢ offset_in (u64_at entries (8 * n))

-- each of the first entries fits
abbrev pub EntriesFit : List ℕ → ℕ → ℕ → ℕ → ℕ → Type 0
EntriesFit entries l1 table end count = (n : ℕ) → n < count → EntryFits entries l1 table end n

-- the header is taken, and its first-level table lies before the end
pub record HeadFits (head : List ℕ) (end : ℕ) : Type 0 where
  pub header : IsHeader head
  pub aligned : u64_at head 40 % 4096 ≡ 0
  pub some : 0 < u64_at head 40
  pub inside : u64_at head 40 < end

-- the second-level table, where there is one, lies before the end and apart, and each of its entries for the disk fits
pub record TablesFit (file : List ℕ) (size l1 end : ℕ) : Type 0 where
  pub named : IsNamed (u64_at file l1)
  pub inside : offset_in (u64_at file l1) ≢ 0 → offset_in (u64_at file l1) < end
  pub apart : offset_in (u64_at file l1) ≢ 0 → offset_in (u64_at file l1) ≢ l1
  pub entries : offset_in (u64_at file l1) ≢ 0 → EntriesFit (reading file (offset_in (u64_at file l1)) 4096) l1 (offset_in (u64_at file l1)) end ((size + 4095) / 4096)

-- ---- how an image goes on

-- the image is of the same file and disk, and its end lies no more than this farther
pub record Goes (old new : Image) (more : ℕ) : Type 0 where
  pub file : new.file ≡ old.file
  pub size : new.size ≡ old.size
  pub l1 : new.l1 ≡ old.l1
  pub end : new.end ≤ old.end + more

-- `Failed` comes only where the shared count rose
abbrev pub FileCause : {T E : Type 0} → World → World → Result T E → Type 0
FileCause old new result = OnErr result (Rose old.faults.shared new.faults.shared)
