-- An opening: the next epoch is drawn.
use Rattle.std.proofs.Common.{◌≡◌, ◌≢◌, inl, inr, ℕ, ◌+◌, ◌-◌, ◌^◌, ◌≤◌, List, [], ◌∷◌, length, Bool, true, false, true≢false, Some, None, IsTrue, refl, sym, ap, ◌∙◌, subst, arith}
use Rattle.std.specs.Prelude.{Contains, ◌==◌, if◌then◌else◌}
use Rattle.std.proofs.lemmas.Bool.{eq-eqb}
use Rattle.std.proofs.lemmas.List.Elements.{All-cons, All-nil}
use Rattle.disk_model.specs.Files.{overlay}
use Rattle.disk_model.specs.World.{World, IsSound}
use Rattle.disk_model.proofs.Laws.{told_by}
use Rattle.file_device.specs.File.{file_of, Is}
use Rattle.first_sector.specs.Sectors.{New}
use Rattle.qc_layout.specs.declared.header.Own.{Own}
use Rattle.qc_layout.specs.declared.header.Fields.{Fields}
use Rattle.qc_layout.specs.declared.header.Header.{Header}
use Rattle.qc_layout.specs.declared.header.Own.TheVariants as owns
use Rattle.qc_layout.specs.declared.header.Part.TheVariants as parts
use Rattle.qc_layout.specs.Header.{fields_of}
use Rattle.qc_layout.specs.Room.{HasRoom, room_from}
use Rattle.qc_layout.specs.Spelling.{Spells, IsHeaderOf}
use Rattle.cluster_pool.specs.Pool.{room}
use Rattle.image_model.specs.Clusters.{Shape, Who, Refers, IsShape, IsSafe, IsStanding, IsLonger, Forms}
use Rattle.image_model.specs.Calls.{shape_of}
use Rattle.image_model.specs.Disks.{disk_of, IsMixedOf}
use Rattle.image_model.specs.Images.{HasClusters}
use Rattle.image_model.specs.Space.{Store}
use Rattle.image_model.specs.Turns.{rebased, IsEither, Turning}
use Rattle.image_steps.proofs.Disk.{length-disk_of, covered_by, IsCovered}
use Rattle.image_steps.proofs.Opening.{same_forms}
use Rattle.image_steps.proofs.Turns.{stood_of, stood_safe}
use Rattle.map_rows.specs.Stores.{HasStore}
use Rattle.qc_alloc.specs.Allocator.{Allocator, HandsOut, HasBlocks, IsKnown}
use Rattle.qc_map.specs.Mapping.{IsMapping, IsMapOf, mapping_of}
use Rattle.qc_map.proofs.Places.{store_by}
use Rattle.qc_map.proofs.Storing.{store_stands}
use Rattle.image_store.specs.declared.finding.Wanted.TheVariants.{Opened}
use Rattle.image_store.specs.declared.refusals.NotOpened.{NotOpened}
use Rattle.image_store.specs.declared.refusals.NotOpened.TheVariants as refusals
use Rattle.image_store.specs.Refusals.{own_refusal}
use Rattle.image_store.specs.Finding.{IsAllFound}
use Rattle.image_store.specs.Images.{Image, IsInOrder}
use Rattle.image_store.specs.Opening.{IsOpening, Opens, RewritesHeader, HasSector, new_header}
use Rattle.image_store.proofs.Behind.{far_place, IsBehind, behind_back, behind_refers, behind_disk, behind_store, count_word}
use Rattle.image_store.proofs.Drawn.{HasNew, one_own, keeps_header, draws_header, redraws_header, safe_single, own_disk, drawn, turned, has_drawn, turned_shape, turned_size, drawn_behind}
use Rattle.image_store.proofs.Orders.{long_base, base_passes, spelled}
use Rattle.image_store.proofs.Stood.{mixed_one}
use Rattle.image_store.proofs.Taken.{opened_safe}

one_room : (file : List ℕ) (a b : ℕ) → HasRoom file a → HasRoom file b → a ≡ b
one_room file a b x y =
    let low = x.is_next.least y.next y.is_next.free in
    let high = y.is_next.least x.next x.is_next.free in
    let same : x.next ≡ y.next = omega (arith, low, high) in
    x.count ∙ ap (room_from file) same ∙ sym y.count

pub respell : (file : List ℕ) (h : Header) (id : List ℕ) (epoch at : ℕ) → Spells parts.Source file (record (new_header h id epoch) { own_at = at }) → Spells parts.Source file (new_header h id epoch)
respell file h id epoch at sp =
    record { numbers = sp.numbers; fields = sp.fields; extensions = sp.extensions; listed = sp.listed; rules = sp.rules; kept = sp.kept; bitmaps = sp.bitmaps; own = sp.own }

-- ---- what the code finds

if_none : (b : Bool) (why : NotOpened) → (if b then Some why else None) ≡ None → b ≡ false
if_none true why none = cc
if_none false why none = refl

-- an epoch that isn't refused isn't the last
pub not_last : (own : Own) (id : List ℕ) (epoch offset size_of : ℕ) → own_refusal Opened own ≡ None → own ≡ owns.Source id epoch offset size_of → epoch ≢ 2 ^ 64 - 1
not_last own id epoch offset size_of none is same =
    let test = if_none (epoch == 2 ^ 64 - 1) refusals.EpochSpent (subst (λ (x : Own). own_refusal Opened x ≡ None) is none) in
    true≢false (sym (eq-eqb epoch (2 ^ 64 - 1) same) ∙ test)

-- and what isn't refused has an id
pub has_source : (own : Own) → own_refusal Opened own ≡ None → ((id : List ℕ) (epoch offset size_of : ℕ) → own ≡ owns.Source id epoch offset size_of → ⊥) → ⊥
has_source owns.Absent none other = cc
has_source (owns.Source id epoch offset size_of) none other = other id epoch offset size_of refl
has_source (owns.Target bytes) none other = cc

-- what reads give after the sector was written
pub new_seen : (sector : List ℕ) (f : ℕ) (x y : World) → Is (New sector (file_of x f)) (file_of y f) → IsTrue y.tells → y.seen f ≡ overlay (x.seen f) 0 sector
unfolding file_of
new_seen sector f x y is told = is.seen told

-- reads alone leave it as it was
pub opening_same : (id : List ℕ) (epoch : ℕ) (disk found : List ℕ) → IsInOrder id epoch disk found → IsOpening id epoch disk found found
opening_same id epoch disk found was = record { either = inl was; header = keeps_header found found was.source.header was.source.spelled was.source.spelled }

-- reads of a file between two shapes
pub turning_seen : {s t : Shape} {disks : List (List ℕ)} {first last f : ℕ} {sector : List ℕ} {w : World} → Turning s t disks first last sector f w → IsTrue w.tells → IsEither s t disks (w.seen f)
turning_seen turning told = elim (turning told) [
  | inl here ↦ inl (stood_safe (stood_of here.0))
  | inr between ↦ elim between.seen [ inl old ↦ inl (stood_safe old.0) | inr new ↦ inr (stood_safe new.stood) ]
]

-- a shape with another base shows the same disk
pub same_disk : (s : Shape) (base : List ℕ) (n : ℕ) (file : List ℕ) → disk_of (rebased s s.owner base) n file ≡ disk_of s n file
unfolding disk_of
same_disk s base n file = refl

module _ (found : List ℕ) (h : Header) (a : Allocator) (all : IsAllFound a found) (head : IsHeaderOf parts.Source found h) (bare : h.bitmaps ≡ None) where
  abbrev s : Shape
  s = shape_of found

  abbrev total : ℕ
  total = (fields_of found).size

  pub found_safe : IsSafe s (found ∷ []) found
  found_safe = opened_safe s a.pool.next found all.opened

  module _ (id : List ℕ) (epoch : ℕ) (disk : List ℕ) (was : IsInOrder id epoch disk found) where
    pub own_is : h.own ≡ owns.Source id epoch was.source.spans_offset was.source.spans_length
    own_is = one_own found was.source.header h was.source.spelled head.spells ∙ was.source.own

    pub disk_found : disk_of s total found ≡ disk
    disk_found = own_disk s found h disk all.opened.shape (λ k. refl) head bare found_safe was.source.stands

    -- as it was found
    pub opening_before : (c : List ℕ) → IsSafe s (found ∷ []) c → IsOpening id epoch disk found c
    opening_before c safe = record {
      either = inl (subst (λ (d : List ℕ). IsInOrder id epoch d c) disk_found (safe_single s found c h id epoch was.source.spans_offset was.source.spans_length all.opened.shape (λ k. refl) head bare own_is safe));
      header = keeps_header found c h head.spells (spelled s (found ∷ []) c h all.opened.shape (λ k. refl) head bare safe).spells;
    }

  module _ (id : List ℕ) (epoch : ℕ) (sector : List ℕ) (has : HasSector h id epoch sector) (long : length sector ≡ 512) (file : List ℕ) (longer : IsLonger found file) where
    abbrev t : Shape
    t = turned found h a.pool.next all.opened head bare id epoch sector has long file longer.longer

    abbrev base : List ℕ
    base = drawn found h a.pool.next all.opened head bare id epoch sector has long file longer.longer

    new : HasNew h id epoch base
    new = has_drawn found h a.pool.next all.opened head bare id epoch sector has long file longer.longer

    abbrev head_t : Header
    head_t = record (new_header h id epoch) { own_at = new.at }

    shape_t : IsShape t
    shape_t = turned_shape found h a.pool.next all.opened head bare id epoch sector has long file longer.longer

    size_t : (fields_of base).size ≡ total
    size_t = turned_size found h a.pool.next all.opened head bare id epoch sector has long file longer.longer

    pub source_after : (c : List ℕ) → IsSafe t (found ∷ []) c → IsInOrder id epoch (disk_of s total found) c
    source_after c safe =
        subst (λ (d : List ℕ). IsInOrder id epoch d c) (ap (λ (n : ℕ). disk_of t n found) size_t ∙ same_disk s base total found)
        (safe_single t found c head_t id epoch 0 0 shape_t (λ k. refl) new.is bare refl safe)

    -- with the next epoch
    pub opening_after : (old : ℕ) (disk : List ℕ) → epoch ≡ old + 1 → IsInOrder id old disk found → (c : List ℕ) → IsSafe t (found ∷ []) c → IsOpening id old disk found c
    opening_after old disk next was c safe = record {
      either = inr (subst (λ (n : ℕ). IsInOrder id n disk c) next (subst (λ (d : List ℕ). IsInOrder id epoch d c) (disk_found id old disk was) (source_after c safe)));
      header = draws_header found c id epoch h head.spells (respell c h id epoch new.at (spelled t (found ∷ []) c head_t shape_t (λ k. refl) new.is bare safe).spells);
    }

    -- ---- it stands

    counts_far : 512 ≤ s.counts
    counts_far = far_place s s.counts all.opened.shape.some all.opened.shape.counts_place

    first_far : 512 ≤ s.l1
    first_far = far_place s s.l1 all.opened.shape.some all.opened.shape.l1_place

    behind : IsBehind file base
    behind = drawn_behind found h a.pool.next all.opened head bare id epoch sector has long file longer.longer

    forms_file : Forms s file
    forms_file = same_forms s found file longer.bytes all.opened.forms

    pub refers_on : (who : Who) (k : ℕ) → Refers s file who k → Refers t base who k
    refers_on = behind_refers s all.opened.shape.some counts_far first_far file base behind s.base base

    pub refers_off : (who : Who) (k : ℕ) → Refers t base who k → Refers s file who k
    refers_off = behind_refers s all.opened.shape.some counts_far first_far base file (behind_back file base behind) base s.base

    pub known_on : IsKnown s a file → IsKnown t a base
    known_on known = record {
      exactly = record { named = λ who k refers. known.exactly.named who k (refers_off who k refers); exact = λ k is. let r = known.exactly.exact k is in (r.0, refers_on r.0 k r.1) };
      blocks = λ i inside. count_word s all.opened.shape.some counts_far first_far file base behind i ∙ known.blocks i inside;
    }

    pub map_on : (f : ℕ) → IsMapOf t (mapping_of f h.fields)
    map_on f =
        let is = head.spells.fields in
        record {
          shape = shape_t;
          cluster = ap (λ (x : Fields). 2 ^ x.cluster_bits) is ∙ all.opened.shape.cluster;
          first_level = ap (λ (x : Fields). x.l1_table_offset) is;
          tables = ap (λ (x : Fields). x.l1_size) is;
        }

    store_on : (store : Store) → HasClusters found store → HasStore t total base store
    store_on store has_clusters =
        let passes = base_passes s (found ∷ []) found h all.opened.shape (λ k. refl) head bare found_safe in
        let long_found = long_base s (found ∷ []) found h all.opened.shape (λ k. refl) head bare found_safe in
        let covered = covered_by s parts.Source all.opened.shape passes.numbers in
        let of_found : HasStore s total found store = (store_stands s (found ∷ []) found parts.Source store all.opened.shape long_found passes found_safe).1 has_clusters in
        let of_file : HasStore s total file store = behind_store s all.opened.shape.some counts_far first_far found file (λ i low. longer.bytes i) s.base s.base all.opened.forms total store covered of_found in
        behind_store s all.opened.shape.some counts_far first_far file base behind s.base base forms_file total store covered of_file

    -- a source of the next epoch, where it stands
    module _ (f : ℕ) where
      abbrev i : Image
      i = record { id = id; epoch = epoch; map = mapping_of f h.fields; clusters = a; event = 0; broken = None }

      abbrev disk : List ℕ
      disk = disk_of s total found

      size_is : i.map.size ≡ total
      size_is = ap (λ (x : Fields). x.size) head.spells.fields

      covered : IsCovered s i.map.size
      covered = subst (IsCovered s) (sym size_is) (covered_by s parts.Source all.opened.shape head.spells.numbers)

      -- its disk is the one that was found
      shows : disk_of t i.map.size base ≡ disk
      shows =
          behind_disk s all.opened.shape.some counts_far first_far file base behind s.base base forms_file i.map.size covered
          ∙ (behind_disk s all.opened.shape.some counts_far first_far found file (λ j low. longer.bytes j) s.base s.base all.opened.forms i.map.size covered
          ∙ ap (λ (n : ℕ). disk_of s n found) size_is)

      pub opens : (old offset size_of : ℕ) {w : World} → h.own ≡ owns.Source id old offset size_of → epoch ≡ old + 1 → IsMapping i.map → a.file ≡ f → IsSound w → (IsTrue w.tells → w.seen f ≡ base) → HandsOut a.pool.next a
          → IsStanding t (w.seen f ∷ []) a.pool.next a.pool.prepared f w → (IsTrue w.tells → IsKnown s a file) → IsTrue w.tells → Opens i found w
      opens old offset size_of {w} own next mapping file_is sound seen hands stands known told =
          let known_now : IsTrue w.tells → IsKnown t a (w.seen f) = λ told_w. subst (IsKnown t a) (sym (seen told_w)) (known_on (known told_w)) in
          let shows_now : IsTrue w.tells → disk_of t i.map.size (w.seen f) ≡ disk = λ told_w. ap (disk_of t i.map.size) (seen told_w) ∙ shows in
          let long : length disk ≡ i.map.size = length-disk_of s total found ∙ sym size_is in
          let among : Contains (disk ∷ []) disk = (0, omega arith, refl) in
          record {
            before = old;
            next = next;
            disk = disk;
            in_order = safe_single s found found h id old offset size_of all.opened.shape (λ k. refl) head bare own found_safe;
            stands = record {
              shape = t;
              versions = w.seen f ∷ [];
              told = λ c left. told_by w f c sound left;
              file = file_is;
              is_map = map_on f;
              owner = λ k. refl;
              headed = record { header = head_t; is = new.is; own = refl; clear = refl; bare = bare; disk = size_t ∙ sym size_is };
              image = (
                a.pool.next,
                hands,
                record {
                  is = record { shape = shape_t; table = all.of.table; cluster = all.of.cluster; blocks = all.of.blocks };
                  stands = subst (λ (g : ℕ). IsStanding t (w.seen f ∷ []) a.pool.next a.pool.prepared g w) (sym file_is) stands;
                  table = λ told_w j inside. inl (subst (λ (g : ℕ). HasBlocks t a (w.seen g)) (sym file_is) (known_now told_w).blocks j inside);
                },
              );
              known = λ _ told_w. known_now told_w;
              long = long;
              sizes = All-cons (λ other. length other ≡ i.map.size) disk [] long (All-nil (λ other. length other ≡ i.map.size));
              among = among;
              mixes = All-cons (λ version. IsMixedOf i.map.size (disk ∷ []) (disk_of t i.map.size version)) (w.seen f) [] (mixed_one i.map.size (disk ∷ []) (disk_of t i.map.size (w.seen f)) (subst (Contains (disk ∷ [])) (sym (shows_now told)) among))
                  (All-nil (λ version. IsMixedOf i.map.size (disk ∷ []) (disk_of t i.map.size version)));
              disk_is = shows_now;
            };
            header = subst (RewritesHeader id epoch found) (sym (seen told)) (redraws_header found base id epoch h head.spells (respell base h id epoch new.at new.is.spells));
            space = λ store clusters has_room. record {
              has = store_by t i.map i.map.size (w.seen f) store mapping (map_on f) (subst (λ (n : ℕ). HasStore t n (w.seen f) store) (sym size_is) (subst (λ (c : List ℕ). HasStore t total c store) (sym (seen told)) (store_on store clusters)));
              room = one_room found store.room (room a.pool) has_room all.room;
            };
          }
