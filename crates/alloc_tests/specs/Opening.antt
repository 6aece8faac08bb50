-- What an opening of a backup finds, and what stands afterwards.
use Rattle.std.specs.Prelude.{◌≡◌, ℕ, List, [], ◌∷◌}
use Rattle.disk_model.specs.World.{World}
use Rattle.bitmap_model.specs.Granules.{is_in}
use Rattle.image_model.specs.Calls.{IsOpened, AreExactly, shape_of, Told}
use Rattle.qc_alloc.specs.Allocator.{Allocator, IsOf, HasBlocks, Allocates, HandsOut}

-- the image is in order, and the clusters that it refers to are just those that are spoken for
pub record IsAllFound (a : Allocator) (file : List ℕ) : Type 0 where
  pub opened : IsOpened (shape_of file) a.pool.next file
  pub of : IsOf (shape_of file) a
  pub blocks : HasBlocks (shape_of file) a file
  pub exact : AreExactly (shape_of file) (is_in a.pool.spoken) file
  pub prepared : a.pool.prepared ≡ a.pool.next
  pub ready : a.pool.ready ≡ []

-- it stands with the disk that was found, and clusters are handed out from the first fresh one on
pub record Starts (a : Allocator) (found : List ℕ) (w : World) : Type 0 where
  pub stands : Allocates (shape_of found) (found ∷ []) a.pool.next a w
  pub hands : Told (λ c. HandsOut a.pool.next a) a.file w
  pub exact : Told (AreExactly (shape_of found) (is_in a.pool.spoken)) a.file w
