-- A new image's numbers, and its tables in memory.
use Rattle.std.specs.Prelude.{◌≡◌, ◌⊎◌, ℕ, ◌+◌, ◌*◌, ◌^◌, ◌<◌, ◌≤◌, List, length, true}
use Rattle.disk_model.specs.Files.{byte, reading, u16_at, u64_at}
use Rattle.qc_layout.specs.Header.{l1_needed}
use Rattle.backup_file.specs.declared.layout.Plan.{Plan}
use Rattle.backup_file.specs.Layout.{is_form, table_clusters, block_clusters, l1_cluster, all_clusters, HasTables}

-- the numbers of an image that may be
pub record IsPlan (plan : Plan) : Type 0 where
  pub form : is_form plan.cluster_bits plan.size ≡ true
  pub cluster : plan.cluster ≡ 2 ^ plan.cluster_bits
  pub table : plan.table ≡ table_clusters plan.cluster_bits plan.size
  pub blocks : plan.blocks ≡ block_clusters plan.cluster_bits plan.size
  pub entries : plan.entries ≡ l1_needed plan.cluster_bits plan.size
  pub first_level : plan.first_level ≡ l1_cluster plan.cluster_bits plan.size
  pub clusters : plan.clusters ≡ all_clusters plan.cluster_bits plan.size

-- those of this image
pub record IsPlanOf (bits size : ℕ) (plan : Plan) : Type 0 where
  pub is_bits : plan.cluster_bits ≡ bits
  pub is_size : plan.size ≡ size
  pub numbers : IsPlan plan

-- bytes apart from a range are as before
pub record KeepsOthers (from end : ℕ) (old new : List ℕ) : Type 0 where
  pub long : length new ≡ length old
  pub same : (i : ℕ) → (i < from) ⊎ (end ≤ i) → byte new i ≡ byte old i

-- words of eight bytes that rise by steps, and nothing else
pub record PutsWords (from count first step : ℕ) (old new : List ℕ) : Type 0 where
  pub words : (k : ℕ) → k < count → u64_at new (from + 8 * k) ≡ first + step * k
  pub others : KeepsOthers from (from + 8 * count) old new

-- counts of 1, and nothing else
pub record PutsOnes (from count : ℕ) (old new : List ℕ) : Type 0 where
  pub ones : (k : ℕ) → k < count → u16_at new (from + 2 * k) ≡ 1
  pub others : KeepsOthers from (from + 2 * count) old new

-- the first sector, and the tables behind it
pub record IsLaidOut (bits size : ℕ) (sector bytes : List ℕ) : Type 0 where
  pub first : reading bytes 0 512 ≡ sector
  pub tables : HasTables bits size bytes
