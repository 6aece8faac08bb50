-- What settling the counts makes of a source that didn't break.
use Rattle.std.proofs.Common.{◌≡◌, inl, inr, ℕ, ◌<◌, List, Bool, true, false, None, IsTrue, refl, sym, ◌∙◌, subst, arith}
use Rattle.std.specs.Prelude.{if◌then◌else◌}
use Rattle.disk_model.specs.Files.{IsOutcome}
use Rattle.disk_model.specs.World.{World, Runs, EachSince, Holds, versions}
use Rattle.disk_model.proofs.Laws.{settled}
use Rattle.bitmap_model.specs.Granules.{is_in}
use Rattle.file_device.specs.File.{IsSettled, file_of}
use Rattle.image_model.specs.Clusters.{Shape, AllCounted, IsGood, IsSafe, Standing, Moves, Reads}
use Rattle.image_model.specs.Calls.{Told, AreExactly, AreNamed, AreSettled, LeavesGuest, SameTables}
use Rattle.image_steps.proofs.Good.{safe}
use Rattle.image_steps.proofs.OnDisk.{disk_same}
use Rattle.qc_alloc.specs.Allocator.{Allocator, Allocates}
use Rattle.qc_alloc.proofs.Naming.{refers_on}
use Rattle.qc_map.specs.Mapping.{IsMapping}
use Rattle.qc_map.proofs.Over.{tables_cover}
use Rattle.image_store.specs.Closing.{IsAtRest}
use Rattle.image_store.specs.Images.{Image, IsInOrder, IsMixture, KeepsFirst, Stands}
use Rattle.image_store.proofs.Orders.{safe_tight}
use Rattle.image_store.proofs.First.{keeps_first}
use Rattle.image_store.proofs.Stood.{of_image, source_of, mixture_of}

counted_is : (t : Bool) (many : ℕ) → 0 < many → many ≡ (if t then 1 else 0) → IsTrue t
counted_is true many some is = refl
counted_is false many some is = absurd (omega (arith, some, is))

exactly_on : (s : Shape) (taken : ℕ → Bool) (old new : List ℕ) → 0 < s.sectors → AllCounted s new → AreExactly s taken old → LeavesGuest s old new → AreSettled s taken new → AreExactly s taken new
exactly_on s taken old new some all exact leaves counts = record {
  named = λ who k refers. let c = all.counted who k refers in counted_is (taken k) c.0 c.1 (counts k c.0 c.2);
  exact = λ k is. let w = exact.exact k is in (w.0, refers_on s old new some leaves w.0 k w.1);
}

module _ (i : Image) (a : Allocator) {parts : _} {x y : World} (run : Runs parts x y) (mapping : IsMapping i.map) (file : a.file ≡ i.clusters.file)
    (moves : (s : Shape) (disks : List (List ℕ)) (first : ℕ) → Told (AreNamed s (is_in i.clusters.pool.spoken)) i.clusters.file x
    → Moves i.clusters.file (IsSafe s disks) (Allocates s disks first i.clusters) (Allocates s disks a.pool.next a) x y)
    (leaves : (s : Shape) (disks : List (List ℕ)) (first : ℕ) → Told (AreNamed s (is_in i.clusters.pool.spoken)) i.clusters.file x
    → Reads i.clusters.file (Allocates s disks first i.clusters) (λ old new. LeavesGuest s old new × SameTables s old new) x y)
    {disk : List ℕ} {mixed : List (List ℕ)} (is : Stands i disk mixed x) (whole : i.broken ≡ None) where
  abbrev f : ℕ
  f = i.map.file

  abbrev s : Shape
  s = is.shape

  named : Told (AreNamed s (is_in i.clusters.pool.spoken)) i.clusters.file x
  named told = subst (λ (h : ℕ). AreNamed s (is_in i.clusters.pool.spoken) (x.seen h)) (sym is.file) (is.known whole told).exactly.named

  pub closed_since : EachSince y x.now f (IsMixture i.id i.epoch mixed)
  closed_since k low high c left =
      mixture_of i s is.versions mixed c (of_image is) is.mixes is.sizes
      ((moves s is.versions is.image.0 named).since is.image.2 k low high c (subst (λ (h : ℕ). IsOutcome (y.past k h) c) (sym is.file) left))

  module _ (told : IsTrue x.tells) where
    st : Standing s is.versions a.pool.next a.pool.prepared a.file y
    st = ((moves s is.versions is.image.0 named).stands is.image.2).stands (subst IsTrue (sym run.goes.tells) told)

    good : IsGood s st.role is.versions (y.seen f)
    good = subst (λ (h : ℕ). IsGood s st.role is.versions (y.seen h)) (file ∙ is.file) st.seen

    is_safe : IsSafe s is.versions (y.seen f)
    is_safe = safe s st.role is.versions (y.seen f) good

    pub closed_first : KeepsFirst i x y
    closed_first = keeps_first i is told is.versions is.versions
        (λ k low high c at. (moves s is.versions is.image.0 named).since is.image.2 k low high c (subst (λ (h : ℕ). IsOutcome (y.past k h) c) (sym is.file) at)) is_safe

    left : LeavesGuest s (x.seen f) (y.seen f)
    left = subst (λ (h : ℕ). LeavesGuest s (x.seen h) (y.seen h)) is.file (leaves s is.versions is.image.0 named is.image.2 told).0

    pub closed_seen : IsInOrder i.id i.epoch disk (y.seen f)
    closed_seen = subst (λ (d : List ℕ). IsInOrder i.id i.epoch d (y.seen f)) (disk_same s i.map.size (x.seen f) (y.seen f) is.is_map.shape (tables_cover s i.map mapping is.is_map) left ∙ is.disk_is told)
        (source_of i s is.versions (y.seen f) (of_image is) is_safe)

    pub at_rest : AreSettled s (is_in i.clusters.pool.spoken) (y.seen f) → IsAtRest i disk (y.seen f)
    at_rest counts =
        let h = is.headed in (
          closed_seen,
          safe_tight s is.versions (y.seen f) h.header is.is_map.shape is.owner h.is h.bare is_safe (is_in i.clusters.pool.spoken)
              (exactly_on s (is_in i.clusters.pool.spoken) (x.seen f) (y.seen f) is.is_map.shape.some is_safe.counted (is.known whole told).exactly left counts) counts,
        )

  -- after Ok
  pub closed_done : ((s : Shape) (disks : List (List ℕ)) (first : ℕ) → Told (AreNamed s (is_in i.clusters.pool.spoken)) i.clusters.file x
      → Reads i.clusters.file (Allocates s disks first i.clusters) (λ old new. AreSettled s (is_in i.clusters.pool.spoken) new) x y)
      → IsTrue x.tells → IsSettled (file_of y f) → Holds f (IsAtRest i disk) (IsAtRest i disk) y
  unfolding file_of
  closed_done counts told rests =
      let counts_now = subst (λ (h : ℕ). AreSettled s (is_in i.clusters.pool.spoken) (y.seen h)) is.file (counts s is.versions is.image.0 named is.image.2 told) in
      let rest = at_rest told counts_now in
      record { seen = λ _. rest; each = λ c left. subst (IsAtRest i disk) (sym (is_seen c left rests)) rest }
    where
      is_seen : (c : List ℕ) → IsOutcome (versions y f) c → IsSettled (file_of y f) → c ≡ y.seen f
      is_seen c left (inl none) = absurd ((subst (λ (vs : List (List ℕ)). IsOutcome vs c) none left).sectors 0)
      is_seen c left (inr one) = settled (y.seen f) c (subst (λ (vs : List (List ℕ)). IsOutcome vs c) one left)
