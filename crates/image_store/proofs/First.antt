-- The first cluster stays as the shape's base has it.
use Rattle.std.proofs.Common.{◌≡◌, inl, ℕ, ◌+◌, ◌*◌, ◌^◌, ◌<◌, ◌≤◌, List, IsTrue, refl, sym, ◌∙◌, subst, arith}
use Rattle.disk_model.specs.World.{World, EachNow, EachSince}
use Rattle.image_model.specs.Clusters.{Shape, place, IsSafe, Standing, IsStanding}
use Rattle.image_steps.proofs.Good.{safe}
use Rattle.qc_map.specs.Mapping.{IsMapOf}
use Rattle.image_store.specs.Images.{Image, file_of, HasFirst, KeepsFirst, Stands}

first_of : (i : Image) (s : Shape) (disks : List (List ℕ)) (c : List ℕ) → IsMapOf s i.map → IsSafe s disks c → HasFirst i s.base c
unfolding place
first_of i s disks c is_map safe_c k below = safe_c.fixed 0 (inl refl) k (omega arith) (let many = is_map.cluster in omega (arith, below, many))

module _ (i : Image) {disk : List ℕ} {mixed : List (List ℕ)} {x : World} (is : Stands i disk mixed x) (told : IsTrue x.tells) where
  standing : Standing is.shape is.versions is.image.0 i.clusters.pool.prepared i.map.file x
  standing = subst (λ (f : ℕ). IsStanding is.shape is.versions is.image.0 i.clusters.pool.prepared f x) is.file is.image.2.stands told

  -- what reads gave
  pub was_safe : IsSafe is.shape is.versions (x.seen i.map.file)
  was_safe = let st = standing in safe is.shape st.role is.versions (x.seen i.map.file) st.seen

  first_as : (disks : List (List ℕ)) (c : List ℕ) → IsSafe is.shape disks c → HasFirst i (x.seen i.map.file) c
  first_as disks c safe_c k below = first_of i is.shape disks c is.is_map safe_c k below ∙ sym (first_of i is.shape is.versions (x.seen i.map.file) is.is_map was_safe k below)

  pub keeps_first : (since_disks seen_disks : List (List ℕ)) {y : World} → EachSince y x.now i.map.file (IsSafe is.shape since_disks) → IsSafe is.shape seen_disks (y.seen i.map.file) → KeepsFirst i x y
  keeps_first since_disks seen_disks {y} since seen = record {
    since = λ k low high c left. first_as since_disks c (since k low high c left);
    seen = first_as seen_disks (y.seen i.map.file) seen;
  }

  pub has_first : EachNow x (file_of i) (HasFirst i (x.seen (file_of i)))
  has_first c left = let st = standing in first_as is.versions c (safe is.shape st.role is.versions c (st.now c left))
