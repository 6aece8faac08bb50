-- A source's image: what is known of it, and what a file that is one says.
use Rattle.std.specs.Prelude.{◌≡◌, ℕ, ◌/◌, ◌%◌, ◌^◌, ◌<◌, List, length, map, All, Contains, Option, None, IsTrue}
use Rattle.std.specs.List.{range_with_len}
use Rattle.disk_model.specs.Files.{byte}
use Rattle.disk_model.specs.World.{World, EachNow, EachSince}
use Rattle.qc_layout.specs.declared.header.Header.{Header}
use Rattle.qc_layout.specs.declared.header.Own.TheVariants as owns
use Rattle.qc_layout.specs.declared.header.Part.TheVariants as parts
use Rattle.qc_layout.specs.Header.{fields_of}
use Rattle.qc_layout.specs.Directory.{directory_in}
use Rattle.qc_layout.specs.Laws.{StoresNothing}
use Rattle.qc_layout.specs.Room.{HasRoom}
use Rattle.qc_layout.specs.Spelling.{IsHeaderOf}
use Rattle.cluster_pool.specs.Pool.{room}
use Rattle.bitmap_model.specs.Granules.{granules_in}
use Rattle.image_model.specs.Clusters.{Shape, size, per, word_of}
use Rattle.image_model.specs.Calls.{Told}
use Rattle.image_model.specs.Disks.{disk_of, IsMixedOf}
use Rattle.image_model.specs.Images.{IsSourceOf}
use Rattle.image_model.specs.Space.{Store, IsShapedStore}
use Rattle.map_rows.specs.Stores.{HasStore, kind_of, has_table}
use Rattle.qc_alloc.specs.Allocator.{Allocator, StandsFrom, IsKnown}
use Rattle.qc_map.specs.Mapping.{Mapping, IsMapOf, shape_by}

-- What is known of a source.
pub record Image : Type 0 where
  -- its disk's id, and the epoch that its opening drew
  pub id : List ℕ
  pub epoch : ℕ
  pub map : Mapping
  pub clusters : Allocator
  -- the event that is carried out, and the one in which the source broke
  pub event : ℕ
  pub broken : Option ℕ

abbrev pub file_of : Image → ℕ
file_of i = i.map.file

-- ---- files

-- A file is a source in order, without bitmaps: it passes the rules of an opening, and stands for this disk, with this id and epoch.
pub record IsInOrder (id : List ℕ) (epoch : ℕ) (disk file : List ℕ) : Type 0 where
  pub store : Store
  pub source : IsSourceOf file disk id epoch store
  pub room : HasRoom file store.room
  pub shape : IsShapedStore (length disk) store
  pub bare : directory_in file ≡ None
  pub none : StoresNothing file

-- A crash within a session leaves this: a source in order, each sector of its disk that of one of these disks.
pub record IsMixture (id : List ℕ) (epoch : ℕ) (mixed : List (List ℕ)) (file : List ℕ) : Type 0 where
  pub disk : List ℕ
  pub long : All (λ other. length other ≡ length disk) mixed
  pub kept : IsMixedOf (length disk) mixed disk
  pub in_order : IsInOrder id epoch disk file

-- ---- what a session knows

-- The header of a file names a source of this id and epoch, with a disk as large as the map's, no bitmaps, no table of spans and no autoclear bit.
pub record IsHeaded (i : Image) (file : List ℕ) : Type 0 where
  pub header : Header
  pub is : IsHeaderOf parts.Source file header
  pub own : header.own ≡ owns.Source i.id i.epoch 0 0
  pub clear : header.fields.autoclear_features ≡ 0
  pub bare : header.bitmaps ≡ None
  pub disk : (fields_of file).size ≡ i.map.size

-- The image stands for this disk, and a crash mixes the sectors of no disks but these: its clusters are counted and in order in each file that a crash may
-- leave, the allocator goes with it, and unless the source broke the clusters that are referred to are just those that are spoken for.
pub record Stands (i : Image) (disk : List ℕ) (mixed : List (List ℕ)) (w : World) : Type 0 where
  pub shape : Shape
  pub versions : List (List ℕ)
  -- what a crash may leave is told only where files are
  pub told : EachNow w i.map.file (λ c. IsTrue w.tells)
  pub file : i.clusters.file ≡ i.map.file
  pub is_map : IsMapOf shape i.map
  pub owner : (k : ℕ) → shape.owner k ≡ None
  pub headed : IsHeaded i shape.base
  pub image : StandsFrom shape versions i.clusters w
  pub known : i.broken ≡ None → Told (IsKnown shape i.clusters) i.map.file w
  pub long : length disk ≡ i.map.size
  pub sizes : All (λ other. length other ≡ i.map.size) mixed
  pub among : Contains mixed disk
  pub mixes : All (λ version. IsMixedOf i.map.size mixed (disk_of shape i.map.size version)) versions
  pub disk_is : Told (λ file. disk_of shape i.map.size file ≡ disk) i.map.file w

-- ---- the first cluster

-- a file has the first cluster of another
abbrev pub HasFirst : Image → List ℕ → List ℕ → Type 0
HasFirst i other file = (k : ℕ) → k < 2 ^ i.map.bits → byte file k ≡ byte other k

-- reads give the first cluster that they gave, and each crash since has it
pub record KeepsFirst (i : Image) (old new : World) : Type 0 where
  pub since : EachSince new old.now (file_of i) (HasFirst i (old.seen (file_of i)))
  pub seen : HasFirst i (old.seen (file_of i)) (new.seen (file_of i))

-- ---- space

-- the kinds of the disk's clusters, the tables that are there, and how many clusters can be handed out
pub record HasSpace (i : Image) (file : List ℕ) (store : Store) : Type 0 where
  pub has : HasStore (shape_by i.map) i.map.size file store
  pub room : store.room ≡ room i.clusters.pool

-- what a file's entries say of a disk of so many bytes
abbrev pub store_in : Shape → ℕ → List ℕ → Store
store_in s total file = record {
  cluster = size s;
  kinds = map (λ k. kind_of (word_of s file (k / per s) (k % per s))) (range_with_len 0 (granules_in total (size s)));
  tables = map (λ t. has_table s file t) (range_with_len 0 (granules_in (granules_in total (size s)) (per s)));
  room = 0;
}

-- Kinds and tables as the entries say them in what reads give, and room as the pool says it.
unfoldable pub space_of : Image → World → Store
space_of i w = record (store_in (shape_by i.map) i.map.size (w.seen (file_of i))) { room = room i.clusters.pool }
