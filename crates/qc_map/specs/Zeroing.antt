-- What a zero makes of the clusters of a part.
use Rattle.std.specs.Prelude.{◌≡◌, ◌⊎◌, ℕ, ◌+◌, ◌-◌, ◌*◌, ◌%◌, ◌<◌, ◌≤◌, List, replicate, Bool, true, ◌&&◌, ◌||◌, nat_lt, nat_le, ◌==◌, if◌then◌else◌, IsTrue}
use Rattle.disk_model.specs.World.{World}
use Rattle.cluster_pool.specs.Pool.{room}
use Rattle.image_model.specs.Calls.{SameTables}
use Rattle.image_model.specs.Clusters.{Shape, Reads}
use Rattle.image_model.specs.Rows.{zeros_from}
use Rattle.image_model.specs.Space.{Kind, Hole}
use Rattle.map_rows.specs.declared.parts.Part.{Part}
use Rattle.qc_alloc.specs.Allocator.{Allocator, Allocates, HandsOut}
use Rattle.qc_map.specs.Altering.{Alteration}
use Rattle.qc_map.specs.Mapping.{Mapping, IsMapOf, shape_by}

-- as many clusters can be handed out as before
abbrev pub SameRoom : Mapping → Allocator → Allocator → World → Type 0
SameRoom m a b w = (s : Shape) (disks : List (List ℕ)) (first : ℕ) → IsMapOf s m → HandsOut first a → Allocates s disks first a w → IsTrue w.tells → room b.pool ≡ room a.pool

-- ---- which clusters are covered whole

-- the first entry of a part whose cluster it covers whole, and the one behind the last
abbrev pub first_whole : Part → ℕ
first_whole p = if p.from == 0 then 0 else 1

abbrev pub end_whole : Part → ℕ → Bool → ℕ
end_whole p cluster is_last = if is_last || ((p.from + p.length) % cluster == 0) then p.count else p.count - 1

-- how a part that isn't within one cluster is cut; of the disk's last cluster it may cover less, where it ends with the disk
pub record IsCut (p : Part) (cluster : ℕ) (is_last : Bool) (first end front tail : ℕ) : Type 0 where
  pub first_is : first ≡ first_whole p
  pub end_is : end ≡ end_whole p cluster is_last
  pub few : first ≤ 1
  pub order : first ≤ end
  pub inside : end ≤ p.count
  pub rest : p.count ≤ end + 1
  pub begins : p.from + front ≡ cluster * first
  pub tail_in : tail ≤ cluster * (p.count - end)
  pub ends : (cluster * end + tail ≡ p.from + p.length) ⊎ ((is_last ≡ true) × (tail ≡ 0) × (p.from + p.length ≤ cluster * end))

-- ---- kinds

-- those that are covered whole become holes
abbrev pub clears_in : Part → ℕ → Bool → ℕ → Kind → Kind
clears_in p cluster is_last m kind = if nat_le (first_whole p) m && nat_lt m (end_whole p cluster is_last) then Hole else kind

abbrev pub stays : ℕ → Kind → Kind
stays m kind = kind

abbrev pub empties : ℕ → Kind → Kind
empties m kind = Hole

-- clusters (i, j) to (i, j + n) become holes, as far as the disk goes
abbrev pub clears : Mapping → ℕ → ℕ → ℕ → Alteration
clears m i j n = record { table = i; slot = j; count = n; from = 0; bytes = zeros_from (shape_by m) m.size i j n; goal = empties }

-- n bytes of 0 from byte `from` of guest cluster (i, j) on, in so many clusters
abbrev pub zeroes : ℕ → ℕ → ℕ → ℕ → ℕ → (ℕ → Kind → Kind) → Alteration
zeroes i j count from n goal = record { table = i; slot = j; count = count; from = from; bytes = replicate n 0; goal = goal }

-- ---- calls that are told something of the file

-- as many clusters can be handed out as before
pub record KeepsRoom (m : Mapping) (P : Shape → World → Type 0) (a b : Allocator) (old : World) : Type 0 where
  pub room : (s : Shape) (disks : List (List ℕ)) (first : ℕ) → IsMapOf s m → HandsOut first a → P s old → Allocates s disks first a old → IsTrue old.tells → room b.pool ≡ room a.pool

-- the words of the first level are as they were
pub record KeepsTables (m : Mapping) (P : Shape → World → Type 0) (a : Allocator) (old new : World) : Type 0 where
  pub tables : (s : Shape) (disks : List (List ℕ)) (first : ℕ) → IsMapOf s m → HandsOut first a → P s old → Reads m.file (Allocates s disks first a) (SameTables s) old new
