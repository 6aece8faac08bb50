-- What layers above may cite.
use Rattle.std.specs.Prelude.{ℕ, ◌≤◌, ◌↔◌, List, length}
use Rattle.qc_layout.specs.declared.header.Part.{Part}
use Rattle.qc_layout.specs.Header.{fields_of}
use Rattle.qc_layout.specs.Disks.{Passes}
use Rattle.image_model.specs.Clusters.{Shape, IsShape, IsSafe}
use Rattle.image_model.specs.Images.{HasClusters}
use Rattle.image_model.specs.Space.{Store}
use Rattle.map_rows.specs.Stores.{HasStore}

-- What a map goes by is what an opening's rules say of a safe file: the same kinds and tables, for the disk of its base's header.
abbrev pub StoreStands : Type 0
StoreStands = (s : Shape) (disks : List (List ℕ)) (file : List ℕ) (part : Part) (store : Store) → IsShape s → 104 ≤ length s.base → Passes part s.base → IsSafe s disks file
    → HasStore s (fields_of s.base).size file store ↔ HasClusters file store
