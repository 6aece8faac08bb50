use Rattle.std.proofs.Common.{◌≡◌, ℕ, ◌+◌, List, OnOk, subst}
use Rattle.disk_model.specs.World.{World}
use Rattle.cluster_pool.specs.Pool.{room}
use Rattle.image_model.specs.Clusters.{Shape, Reads}
use Rattle.image_model.specs.Space.{Store, need}
use Rattle.map_rows.specs.Stores.{HasStore}
use Rattle.qc_alloc.specs.Allocator.{Allocator, Allocates, HandsOut}
use Rattle.qc_map.specs.Altering.{UsesUpTo}
use Rattle.qc_map.specs.Changing.{extent_of}
use Rattle.qc_map.specs.Mapping.{Mapping, IsMapOf}
use Rattle.qc_map.proofs.map.Map.write.Goals as goal

-- what holds of the space of an image before and after
abbrev OfSpace : Mapping → Allocator → World → World → (ℕ → Type 0) → ℕ → List ℕ → Type 0
OfSpace k a x y X at bytes = (s : Shape) (disks : List (List ℕ)) (first : ℕ) → IsMapOf s k → HandsOut first a → Reads k.file (Allocates s disks first a) (λ old new. (store : Store) → HasStore s k.size old store → X (need store (extent_of at bytes))) x y

pub returns-clause-room : goal.returns-clause-room
returns-clause-room g c =
    subst (λ (k : Mapping). OnOk c.write.result (OfSpace k c.args.clusters.now (g.D.Outside.world c.args.depot.now) (g.D.Outside.world c.write.new.depot) (λ n. room c.write.new.clusters.pool + n ≡ room c.args.clusters.now.pool) c.args.at c.args.bytes.now))
    c.self.view_is c.write.ensures.room

pub returns-clause-uses : goal.returns-clause-uses
returns-clause-uses g c =
    subst (λ (k : Mapping). OfSpace k c.args.clusters.now (g.D.Outside.world c.args.depot.now) (g.D.Outside.world c.write.new.depot) (λ n. UsesUpTo c.args.clusters.now c.write.new.clusters n) c.args.at c.args.bytes.now) c.self.view_is c.write.ensures.uses
