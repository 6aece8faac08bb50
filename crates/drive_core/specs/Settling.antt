-- What a FUA adds to a write.
use Rattle.std.specs.Prelude.{◌≡◌, ◌≢◌, ℕ, List, [], ◌∷◌, Bool, false, ◌&&◌, Option, None, IsTrue, if◌then◌else◌}
use Rattle.disk_model.specs.World.{World, EachSince, FileFailed}
use Rattle.core_layers.specs.Layers.{Facts, IsMixed, MayBreak, KeepsHead}

-- Where it was asked, the image was synced, and that went well or failed; otherwise nothing was done.
pub record Settles (asked ok : Bool) (f : Facts) (cluster event : ℕ) (was is : Option ℕ) (holds holding : List ℕ → List (List ℕ) → Type 0) (old new : World) : Type 0 where
  pub held : (disk : List ℕ) (mixed : List (List ℕ)) → holds disk mixed → holding disk (if asked && ok then disk ∷ [] else mixed)
  pub since : (disk : List ℕ) (mixed : List (List ℕ)) → holds disk mixed → EachSince new old.now f.file (IsMixed f.id f.directory mixed)
  pub head : (disk : List ℕ) (mixed : List (List ℕ)) → holds disk mixed → KeepsHead f.file cluster old new
  pub whole : IsTrue ok → is ≡ was
  pub failed : ok ≡ false → IsTrue asked × MayBreak f.file event was is old new × (is ≢ None) × FileFailed f.file old new
