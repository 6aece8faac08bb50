-- What a sync makes of a source.
use Rattle.std.proofs.Common.{◌≡◌, ◌≢◌, ◌⊎◌, inl, inr, ℕ, List, [], ◌∷◌, length, Bool, true, false, Option, Some, None, Result, IsTrue, refl, sym, ap, ◌∙◌, subst, arith}
use Rattle.std.specs.Option.{option_or}
use Rattle.std.specs.Prelude.{All, Contains}
use Rattle.std.proofs.lemmas.List.Elements.{All-cons, All-nil}
use Rattle.disk_model.specs.World.{World, EachSince, Rose}
use Rattle.file_device.specs.Calls.{Synced}
use Rattle.image_model.specs.Clusters.{Shape, IsSafe, IsStanding, Moves}
use Rattle.image_model.specs.Disks.{disk_of, IsMixedOf}
use Rattle.qc_alloc.specs.Allocator.{StandsFrom, HasTable, IsKnown}
use Rattle.image_store.specs.Images.{Image, IsMixture, KeepsFirst, Stands}
use Rattle.image_store.specs.Requests.{MayBreak, broken_in}
use Rattle.image_store.proofs.First.{was_safe, keeps_first}
use Rattle.image_store.proofs.Stood.{AreMixed, of_image, mixture_of, mixed_one}
use Rattle.image_store.proofs.Called.{after, none_broken, stands_on}

-- it broke by this call, or before
pub breaks_by : (i : Image) (x y : World) → Rose x.faults.shared y.faults.shared × Rose (x.faults.writes i.map.file) (y.faults.writes i.map.file)
    → MayBreak i (record i { broken = broken_in i }) x y × (broken_in i ≢ None)
breaks_by i x y rose = (by_cases i.broken, none_broken i.broken i.event)
  where
    by_cases : (o : Option ℕ) → (option_or o (Some i.event) ≡ o) ⊎ ((o ≡ None) × (option_or o (Some i.event) ≡ Some i.event) × Rose x.faults.shared y.faults.shared × Rose (x.faults.writes i.map.file) (y.faults.writes i.map.file))
    by_cases None = inr (refl, refl, rose.0, rose.1)
    by_cases (Some event) = inl refl

module _ (i : Image) {T E : Type 0} {result : Result T E} {x y : World} (synced : Synced i.map.file x y result)
    (stays : (s : Shape) (disks : List (List ℕ)) (first last : ℕ) → Moves i.map.file (IsSafe s disks) (IsStanding s disks first last i.map.file) (IsStanding s disks first last i.map.file) x y)
    {disk : List ℕ} {mixed : List (List ℕ)} (is : Stands i disk mixed x) where
  abbrev f : ℕ
  f = i.map.file

  abbrev s : Shape
  s = is.shape

  told_back : IsTrue y.tells → IsTrue x.tells
  told_back = subst IsTrue synced.call.run.goes.tells

  was : IsStanding s is.versions is.image.0 i.clusters.pool.prepared f x
  was = subst (λ (h : ℕ). IsStanding s is.versions is.image.0 i.clusters.pool.prepared h x) is.file is.image.2.stands

  from_standing : (versions : List (List ℕ)) → IsStanding s versions is.image.0 i.clusters.pool.prepared f y → StandsFrom s versions i.clusters y
  from_standing versions stands = (
    is.image.0,
    is.image.1,
    record {
      is = is.image.2.is;
      stands = subst (λ (h : ℕ). IsStanding s versions is.image.0 i.clusters.pool.prepared h y) (sym is.file) stands;
      table = λ told. subst (HasTable s i.clusters) (sym (ap y.seen is.file ∙ synced.call.seen ∙ sym (ap x.seen is.file))) (is.image.2.table (told_back told));
    },
  )

  on : (b : Option ℕ) → (b ≡ None → i.broken ≡ None) → (versions mixed_on : List (List ℕ)) → IsStanding s versions is.image.0 i.clusters.pool.prepared f y
      → All (λ other. length other ≡ i.map.size) mixed_on → Contains mixed_on disk → AreMixed i s mixed_on versions → Stands (after i i.map i.clusters b) disk mixed_on y
  on b whole versions mixed_on stands sizes among mixes =
      stands_on i i.clusters b is versions disk mixed_on synced.sound_on is.file (from_standing versions stands)
      (λ none told. subst (IsKnown s i.clusters) (sym synced.call.seen) (is.known (whole none) (told_back told)))
      is.long sizes among mixes (λ told. ap (disk_of s i.map.size) synced.call.seen ∙ is.disk_is (told_back told))

  -- whatever it answers
  pub flushed_err : Stands (record i { broken = broken_in i }) disk mixed y
  flushed_err = on (broken_in i) (λ none. absurd (none_broken i.broken i.event none)) is.versions mixed ((stays s is.versions is.image.0 i.clusters.pool.prepared).stands was) is.sizes is.among is.mixes

  pub flushed_since : EachSince y x.now f (IsMixture i.id i.epoch mixed)
  flushed_since k low high c left = mixture_of i s is.versions mixed c (of_image is) is.mixes is.sizes ((stays s is.versions is.image.0 i.clusters.pool.prepared).since was k low high c left)

  pub flushed_first : IsTrue x.tells → KeepsFirst i x y
  flushed_first told =
      keeps_first i is told is.versions is.versions ((stays s is.versions is.image.0 i.clusters.pool.prepared).since was) (subst (IsSafe s is.versions) (sym synced.call.seen) (was_safe i is told))

  -- after Ok
  pub flushed_ok : ((s : Shape) (disks : List (List ℕ)) (first last : ℕ) → Moves f (IsSafe s disks) (IsStanding s disks first last f) (IsStanding s (y.seen f ∷ []) first last f) x y) → Stands i disk (disk ∷ []) y
  flushed_ok one = by_told y.tells refl
    where
      sizes : All (λ other. length other ≡ i.map.size) (disk ∷ [])
      sizes = All-cons (λ other. length other ≡ i.map.size) disk [] is.long (All-nil (λ other. length other ≡ i.map.size))

      among : Contains (disk ∷ []) disk
      among = (0, omega arith, refl)

      AreAmong : List ℕ → Type 0
      AreAmong version = IsMixedOf i.map.size (disk ∷ []) (disk_of s i.map.size version)

      by_told : (b : Bool) → y.tells ≡ b → Stands i disk (disk ∷ []) y
      by_told true told =
          on i.broken (λ none. none) (y.seen f ∷ []) (disk ∷ []) ((one s is.versions is.image.0 i.clusters.pool.prepared).stands was) sizes among
          (All-cons AreAmong (y.seen f) [] (mixed_one i.map.size (disk ∷ []) (disk_of s i.map.size (y.seen f)) (subst (Contains (disk ∷ [])) (sym (ap (disk_of s i.map.size) synced.call.seen ∙ is.disk_is (told_back told))) among)) (All-nil AreAmong))
      by_told false untold = on i.broken (λ none. none) [] (disk ∷ []) (λ told. absurd (cc)) sizes among (All-nil AreAmong)
