-- What a file is that was made as an empty disk or as a blank backup.
use Rattle.std.specs.Prelude.{◌≡◌, ℕ, ◌<◌, List, [], length, replicate, codes, Option, Some, None, Ok}
use Rattle.disk_model.specs.Files.{reading}
use Rattle.qc_layout.specs.declared.header.Part.TheVariants.{Source, Target}
use Rattle.qc_layout.specs.declared.header.Header.{Header}
use Rattle.qc_layout.specs.declared.header.Own.TheVariants as owns
use Rattle.qc_layout.specs.declared.entry.L2Entry.TheVariants.{Hole}
use Rattle.qc_layout.specs.Header.{fields_of}
use Rattle.qc_layout.specs.Extensions.{backing_kind}
use Rattle.qc_layout.specs.Spelling.{IsHeaderOf}
use Rattle.qc_layout.specs.Records.{record_fault, record_of, record_bytes}
use Rattle.qc_layout.specs.Disks.{Stands, HasExtension, entry_at, clusters_in}
use Rattle.qc_layout.specs.Directory.{directory_in, stored_in}
use Rattle.qc_layout.specs.Owners.{Tight}
use Rattle.backup_file.specs.Headings.{HasSector, blank}
use Rattle.backup_file.specs.Layout.{HasTables, HasNumbers}

-- a disk of zeros, with this id and epoch 0, and without bitmaps
pub record IsNewSource (bits size : ℕ) (id file : List ℕ) : Type 0 where
  pub stands : Stands Source file (replicate size 0)
  pub tight : Tight file
  pub sector : HasSector bits size None (owns.Source id 0 0 0) file
  pub tables : HasTables bits size file
  pub numbers : HasNumbers bits size file
  pub says : (h : Header) → IsHeaderOf Source file h → h.own ≡ owns.Source id 0 0 0
  pub no_directory : directory_in file ≡ None
  pub stored : stored_in file ≡ []

-- the file under a backup: its name and its format
abbrev pub HasBacking : Option (List ℕ) → List ℕ → Type 0
HasBacking None file = ((fields_of file).backing_file_offset ≡ 0) × ((fields_of file).backing_file_size ≡ 0)
HasBacking (Some name) file =
    ((fields_of file).backing_file_offset ≡ 208) × ((fields_of file).backing_file_size ≡ length name) × (reading file 208 (length name) ≡ name)
    × HasExtension file backing_kind (codes "qcow2")

-- a backup with nothing in it, bitmaps neither
pub record IsNewTarget (bits size : ℕ) (backing : Option (List ℕ)) (file : List ℕ) : Type 0 where
  pub stands : Stands Target file (replicate size 0)
  pub tight : Tight file
  pub sector : HasSector bits size backing (owns.Target (record_bytes (blank bits))) file
  pub tables : HasTables bits size file
  pub numbers : HasNumbers bits size file
  pub says : (h : Header) → IsHeaderOf Target file h → (bytes : List ℕ) × (h.own ≡ owns.Target bytes) × (record_fault bits bytes ≡ None) × (record_of bytes ≡ blank bits)
  pub empty : (n : ℕ) → n < clusters_in bits size → entry_at file n ≡ Ok Hole
  pub under : HasBacking backing file
  pub no_directory : directory_in file ≡ None
  pub stored : stored_in file ≡ []
