-- The header of a new image, and the file that it heads.
use Rattle.std.specs.Prelude.{◌≡◌, ℕ, ◌≤◌, List, ◌^◌, [], ◌++◌, length, replicate, codes, Option, Some, None}
use Rattle.disk_model.specs.Files.{reading}
use Rattle.qc_layout.specs.declared.header.Fields.{Fields}
use Rattle.qc_layout.specs.declared.header.Header.{Header}
use Rattle.qc_layout.specs.declared.header.Own.{Own}
use Rattle.qc_layout.specs.declared.header.Own.TheVariants as owns
use Rattle.qc_layout.specs.Header.{qcow2_magic, l1_needed}
use Rattle.qc_layout.specs.Extensions.{backing_kind}
use Rattle.qc_layout.specs.Disks.{place_of}
use Rattle.qc_layout.specs.declared.records.Record.{Record}
use Rattle.qc_layout.specs.declared.records.State.TheVariants.{Blank}
use Rattle.span_algebra.specs.declared.spans.Base.TheVariants.{Loose}
use Rattle.qc_layout.specs.Records.{record_fault, record_of, record_bytes}
use Rattle.qc_layout.specs.Spelling.{be32, Fits, sector_of}
use Rattle.backup_file.specs.declared.layout.Plan.{Plan}
use Rattle.backup_file.specs.Layout.{table_clusters, l1_cluster, HasTables}

-- The numbers of the header of a new image. The name of the file under it has so many bytes, at this place.
abbrev pub new_fields : ℕ → ℕ → ℕ → ℕ → Fields
new_fields bits size backing_place backing_length = record {
  magic = qcow2_magic;
  version = 3;
  backing_file_offset = backing_place;
  backing_file_size = backing_length;
  cluster_bits = bits;
  size = size;
  crypt_method = 0;
  l1_size = l1_needed bits size;
  l1_table_offset = place_of bits (l1_cluster bits size);
  refcount_table_offset = place_of bits 1;
  refcount_table_clusters = table_clusters bits size;
  nb_snapshots = 0;
  snapshots_offset = 0;
  incompatible_features = 0;
  compatible_features = 0;
  autoclear_features = 0;
  refcount_order = 4;
  header_length = 112;
  compression_type = 0;
}

-- the header of a new image
pub record IsNewHeader (bits size backing_place backing_length : ℕ) (own : Own) (kept : List ℕ) (h : Header) : Type 0 where
  pub fields : h.fields ≡ new_fields bits size backing_place backing_length
  pub is_own : h.own ≡ own
  pub keeps : h.kept.items.items ≡ kept
  pub bitmaps : h.bitmaps ≡ None

-- the extension of the backing file's format, and the zeros that end the list
abbrev pub format_bytes : List ℕ
format_bytes = be32 backing_kind ++ be32 5 ++ codes "qcow2" ++ replicate 11 0

-- where the name of the file under a backup stands, how long it is, and what the header keeps of it
abbrev pub place_under : Option (List ℕ) → ℕ
place_under None = 0
place_under (Some name) = 208

abbrev pub length_under : Option (List ℕ) → ℕ
length_under None = 0
length_under (Some name) = length name

abbrev pub kept_under : Option (List ℕ) → List ℕ
kept_under None = []
kept_under (Some name) = format_bytes ++ name

-- The first sector of the file is that of a new header, which has no bitmaps and nothing else that it keeps.
pub record HasSector (bits size : ℕ) (under : Option (List ℕ)) (own : Own) (file : List ℕ) : Type 0 where
  pub header : Header
  pub is_new : IsNewHeader bits size (place_under under) (length_under under) own (kept_under under) header
  pub sector : reading file 0 512 ≡ sector_of header

-- a file that begins with this header, and has the tables of a new image
pub record IsFileOf (plan : Plan) (h : Header) (file : List ℕ) : Type 0 where
  pub long : 512 ≤ length file
  pub sector : Fits h → reading file 0 512 ≡ sector_of h
  pub tables : HasTables plan.cluster_bits plan.size file

-- the record of a backup that nothing was written to
abbrev pub blank : ℕ → Record
blank bits = record { state = Blank; disk = replicate 16 0; base = Loose; point = record { epoch = 0; serial = 0 }; unit = 2 ^ bits }

-- it is the record of a backup that nothing was written to
pub record IsBlankOwn (bits : ℕ) (own : Own) : Type 0 where
  pub bytes : List ℕ
  pub is : own ≡ owns.Target bytes
  pub exact : bytes ≡ record_bytes (blank bits)
  pub long : length bytes ≡ 64
  pub well : record_fault bits bytes ≡ None
  pub says : record_of bytes ≡ blank bits
