-- The header of an image, and the rules that its numbers pass, in the order in which they are tested (qcow2 specification, "Header", "Feature name table").
use Rattle.std.specs.Prelude.{ℕ, ◌+◌, ◌-◌, ◌*◌, ◌/◌, ◌%◌, ◌^◌, List, [], ◌∷◌, Bool, true, false, not, ◌&&◌, ◌||◌, nat_lt, ◌==◌, if◌then◌else◌, Option, Some, None}
use Rattle.disk_model.specs.Files.{byte, u32_at, u64_at}
use Rattle.qc_layout.specs.declared.header.Fields.{Fields}
use Rattle.qc_layout.specs.declared.header.Part.{Part}
use Rattle.qc_layout.specs.declared.header.Part.TheVariants as parts
use Rattle.qc_layout.specs.declared.header.HeaderFault.{HeaderFault}
use Rattle.qc_layout.specs.declared.header.HeaderFault.TheVariants.{Short, Magic, Version, HeaderLength, ClusterBits, Size, Backing, Encrypted, Snapshots, Dirty, Corrupt, ExternalData, Compression, ExtendedL2, Incompatible, RefcountOrder, L1Table, RefcountTable}

-- ---- rules, and the first that fails

-- a rule: whether it fails, and what is refused then
pub record Rule : Type 0 where
  pub fault : HeaderFault
  pub fails : Bool

abbrev pub rule : HeaderFault → Bool → Rule
rule fault fails = record { fault = fault; fails = fails }

-- the fault of the first rule that fails
abbrev pub first_of : List Rule → Option HeaderFault
first_of [] = None
first_of (r ∷ rs) = if r.fails then Some r.fault else first_of rs

-- the one, or where there is none the other
abbrev pub or_else : Option HeaderFault → Option HeaderFault → Option HeaderFault
or_else None b = b
or_else (Some a) b = Some a

-- ---- the numbers of a header

-- what an image begins with
abbrev pub qcow2_magic : ℕ
qcow2_magic = 0x514649fb

-- Where they stand. The compression type is there only in a header that is longer than 104 bytes.
unfoldable pub fields_of : List ℕ → Fields
fields_of file = record {
  magic = u32_at file 0;
  version = u32_at file 4;
  backing_file_offset = u64_at file 8;
  backing_file_size = u32_at file 16;
  cluster_bits = u32_at file 20;
  size = u64_at file 24;
  crypt_method = u32_at file 32;
  l1_size = u32_at file 36;
  l1_table_offset = u64_at file 40;
  refcount_table_offset = u64_at file 48;
  refcount_table_clusters = u32_at file 56;
  nb_snapshots = u32_at file 60;
  snapshots_offset = u64_at file 64;
  incompatible_features = u64_at file 72;
  compatible_features = u64_at file 80;
  autoclear_features = u64_at file 88;
  refcount_order = u32_at file 96;
  header_length = u32_at file 100;
  compression_type = if nat_lt 104 (u32_at file 100) then byte file 104 else 0;
}

-- ---- what they may be

-- clusters have 2 to the power of 9 to 21 bytes
abbrev pub is_bits : ℕ → Bool
is_bits bits = not (nat_lt bits 9) && not (nat_lt 21 bits)

-- the disk's size: a multiple of 512 above 0, at most 2^40, and at most 2^27 clusters
abbrev pub is_size : ℕ → ℕ → Bool
is_size bits size = nat_lt 0 size && not (nat_lt (2 ^ 40) size) && not (nat_lt (2 ^ 27 * 2 ^ bits) size) && (size % 512 == 0)

-- how many entries of the first level a disk needs: each stands for as many clusters as a cluster has words of eight bytes
abbrev pub l1_needed : ℕ → ℕ → ℕ
l1_needed bits size = (size + (2 ^ bits * (2 ^ bits / 8) - 1)) / (2 ^ bits * (2 ^ bits / 8))

-- where a cluster begins that isn't the first
abbrev pub is_place : ℕ → ℕ → Bool
is_place bits offset = nat_lt 0 offset && (offset % 2 ^ bits == 0)

-- bit n of a number
abbrev pub has_bit : ℕ → ℕ → Bool
has_bit n x = x / 2 ^ n % 2 == 1

-- an image that isn't read as a backup
abbrev pub is_disk : Part → Bool
is_disk parts.Target = false
is_disk part = true

abbrev pub form_rules : ℕ → Fields → List Rule
form_rules length h =
    rule Short (nat_lt length 104)
    ∷ rule Magic (not (h.magic == qcow2_magic))
    ∷ rule Version (not (h.version == 3))
    ∷ rule HeaderLength (nat_lt h.header_length 104 || nat_lt 504 h.header_length || not (h.header_length % 8 == 0))
    ∷ rule ClusterBits (not (is_bits h.cluster_bits))
    ∷ rule Size (not (is_size h.cluster_bits h.size))
    ∷ []

abbrev pub feature_rules : Part → Fields → List Rule
feature_rules part h =
    rule Backing (is_disk part && nat_lt 0 h.backing_file_offset)
    ∷ rule Encrypted (nat_lt 0 h.crypt_method)
    ∷ rule Snapshots (nat_lt 0 h.nb_snapshots)
    ∷ rule Dirty (has_bit 0 h.incompatible_features)
    ∷ rule Corrupt (has_bit 1 h.incompatible_features)
    ∷ rule ExternalData (has_bit 2 h.incompatible_features)
    ∷ rule Compression (has_bit 3 h.incompatible_features || nat_lt 0 h.compression_type)
    ∷ rule ExtendedL2 (has_bit 4 h.incompatible_features)
    ∷ rule Incompatible (nat_lt 0 (h.incompatible_features / 32))
    ∷ rule RefcountOrder (not (h.refcount_order == 4))
    ∷ []

abbrev pub table_rules : Fields → List Rule
table_rules h =
    rule L1Table (nat_lt (2 ^ 20) h.l1_size || nat_lt h.l1_size (l1_needed h.cluster_bits h.size) || not (is_place h.cluster_bits h.l1_table_offset))
    ∷ rule RefcountTable ((h.refcount_table_clusters == 0) || nat_lt (2 ^ 26) (h.refcount_table_clusters * 2 ^ h.cluster_bits) || not (is_place h.cluster_bits h.refcount_table_offset))
    ∷ []

-- the first rule that a header's numbers fail, in a file of so many bytes
abbrev pub number_fault : Part → ℕ → Fields → Option HeaderFault
number_fault part length h = or_else (first_of (form_rules length h)) (or_else (first_of (feature_rules part h)) (first_of (table_rules h)))
