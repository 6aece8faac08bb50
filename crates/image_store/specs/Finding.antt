-- What reading an image finds.
use Rattle.std.specs.Prelude.{◌≡◌, ℕ, List, []}
use Rattle.bitmap_model.specs.Granules.{is_in}
use Rattle.qc_layout.specs.declared.header.Part.TheVariants as parts
use Rattle.qc_layout.specs.Room.{TablesPass, HasRoom}
use Rattle.qc_layout.specs.Spelling.{IsHeaderOf}
use Rattle.cluster_pool.specs.Pool.{room}
use Rattle.image_model.specs.Calls.{IsOpened, AreExactly, shape_of}
use Rattle.qc_alloc.specs.Allocator.{Allocator, IsOf, HasBlocks}
use Rattle.qc_map.specs.Mapping.{mapping_of}
use Rattle.image_store.specs.declared.finding.Found.{Found}

-- the image is in order, the allocator goes with it, and the clusters that something refers to are just those that are spoken for
pub record IsAllFound (a : Allocator) (file : List ℕ) : Type 0 where
  pub passes : TablesPass file
  pub opened : IsOpened (shape_of file) a.pool.next file
  pub of : IsOf (shape_of file) a
  pub blocks : HasBlocks (shape_of file) a file
  pub exact : AreExactly (shape_of file) (is_in a.pool.spoken) file
  pub prepared : a.pool.prepared ≡ a.pool.next
  pub ready : a.pool.ready ≡ []
  pub room : HasRoom file (room a.pool)

-- its header, its clusters, and its map
pub record IsFound (f : ℕ) (found : Found) (file : List ℕ) : Type 0 where
  pub header : IsHeaderOf parts.Source file found.header
  pub all : IsAllFound found.clusters file
  pub map : found.map ≡ mapping_of f found.header.fields
