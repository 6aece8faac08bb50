-- What calls on the map make of a source.
use Rattle.std.proofs.Common.{◌≡◌, ◌⊎◌, inl, inr, ℕ, ◌+◌, ◌-◌, ◌/◌, ◌<◌, ◌≤◌, ◌++◌, List, [], ◌∷◌, length, Option, Some, None, IsTrue, refl, sym, ap, ◌∙◌, subst, arith}
use Rattle.std.specs.Option.{option_or}
use Rattle.std.specs.Prelude.{All, Contains}
use Rattle.std.proofs.lemmas.Bool.{cases_lt}
use Rattle.std.proofs.lemmas.List.Elements.{All-cons, All-push, All-weaker, Contains-append_right}
use Rattle.disk_model.specs.Files.{byte, reading, overlay}
use Rattle.disk_model.specs.World.{World, IsSound, EachSince}
use Rattle.disk_model.proofs.Laws.{byte-overlay_below, byte-overlay_in, byte-overlay_above, length-overlay_inside, same_file, byte-reading, length-reading, reading-overlay_same, told_by}
use Rattle.image_model.specs.Clusters.{Shape, IsSafe}
use Rattle.image_model.specs.Calls.{Told}
use Rattle.image_model.specs.Disks.{disk_of, IsMixedOf}
use Rattle.image_model.specs.Space.{Store}
use Rattle.image_steps.proofs.Disk.{length-disk_of}
use Rattle.image_steps.proofs.Good.{safe}
use Rattle.cluster_pool.specs.Pool.{room}
use Rattle.map_rows.specs.Stores.{HasStore}
use Rattle.qc_alloc.specs.Allocator.{Allocator, StandsFrom, IsKnown}
use Rattle.qc_map.specs.Altering.{UsesUpTo, KnowsOn, Always}
use Rattle.qc_map.specs.Changing.{Change, Changes, HasChanged, IsPartlyChanged}
use Rattle.qc_map.specs.Mapping.{Mapping, IsMapping, IsMapOf, shape_by}
use Rattle.qc_map.proofs.Places.{sectors, disk_by, store_by}
use Rattle.qc_map.proofs.Words.{first_level_by}
use Rattle.image_store.specs.Images.{Image, IsMixture, Stands, HasSpace}
use Rattle.image_store.specs.Requests.{disk_now, Leaves, SpendsUpTo}
use Rattle.image_store.proofs.First.{keeps_first}
use Rattle.image_store.proofs.Stood.{AreMixed, of_image, mixture_of, mixed_one, mixed_on_more}

-- what broke once is broken
pub none_broken : (broken : Option ℕ) (event : ℕ) → option_or broken (Some event) ≡ None → ⊥
none_broken None event none = cc
none_broken (Some other) event none = cc

-- the source after them
abbrev pub after : Image → Mapping → Allocator → Option ℕ → Image
after i m a b = record i { map = m; clusters = a; broken = b }

-- it goes on to stand
pub stands_on : (i : Image) (a : Allocator) (b : Option ℕ) {disk : List ℕ} {mixed : List (List ℕ)} {x y : World} (is : Stands i disk mixed x) (versions : List (List ℕ)) (disk_on : List ℕ) (mixed_on : List (List ℕ))
    → IsSound y → a.file ≡ i.map.file → StandsFrom is.shape versions a y → (b ≡ None → Told (IsKnown is.shape a) i.map.file y)
    → length disk_on ≡ i.map.size → All (λ other. length other ≡ i.map.size) mixed_on → Contains mixed_on disk_on → AreMixed i is.shape mixed_on versions
    → Told (λ c. disk_of is.shape i.map.size c ≡ disk_on) i.map.file y → Stands (after i i.map a b) disk_on mixed_on y
stands_on i a b {y = y} is versions disk_on mixed_on sound file stands known long sizes among mixes reads =
    let h = is.headed in
    record {
      shape = is.shape;
      versions = versions;
      told = λ c left. told_by y i.map.file c sound left;
      file = file;
      is_map = is.is_map;
      owner = is.owner;
      headed = record { header = h.header; is = h.is; own = h.own; clear = h.clear; bare = h.bare; disk = h.disk };
      image = stands;
      known = known;
      long = long;
      sizes = sizes;
      among = among;
      mixes = mixes;
      disk_is = reads;
    }

-- ---- kinds and tables

-- of a shape they take its clusters' size and the place of the first level
abbrev bare : ℕ → ℕ → Shape
bare n l = record { sectors = n; counts = 0; blocks = 0; l1 = l; tables = 0; reach = 0; owner = λ k. None; base = [] }

pub store_alike : (s t : Shape) (total : ℕ) (file : List ℕ) (store : Store) → s.sectors ≡ t.sectors → s.l1 ≡ t.l1 → HasStore s total file store → HasStore t total file store
store_alike s t total file store sectors first has =
    let of_bare : HasStore (bare s.sectors s.l1) total file store = record { cluster = has.cluster; kind_count = has.kind_count; kinds = has.kinds; table_count = has.table_count; tables = has.tables } in
    let on : HasStore (bare t.sectors t.l1) total file store = subst (λ (l : ℕ). HasStore (bare t.sectors l) total file store) first (subst (λ (n : ℕ). HasStore (bare n s.l1) total file store) sectors of_bare) in
    record { cluster = on.cluster; kind_count = on.kind_count; kinds = on.kinds; table_count = on.table_count; tables = on.tables }

-- those of the map are those of the shape
pub store_of_map : (s : Shape) (m : Mapping) (total : ℕ) (file : List ℕ) (store : Store) → IsMapping m → IsMapOf s m → HasStore (shape_by m) total file store → HasStore s total file store
store_of_map s m total file store mapping is has =
    store_alike (shape_by m) s total file store (sectors s m mapping is) (first_level_by m ∙ is.first_level) has

-- ---- a change of the disk

module _ (i : Image) (a : Allocator) (b : Option ℕ) (e : Change) {x y : World} (changes : Changes i.map e i.clusters a x y) (mapping : IsMapping i.map) (fits : e.at + length e.bytes ≤ i.map.size)
    {disk : List ℕ} {mixed : List (List ℕ)} (told : IsTrue x.tells) (is : Stands i disk mixed x) where
  abbrev f : ℕ
  f = i.map.file

  abbrev s : Shape
  s = is.shape

  abbrev count : ℕ
  count = length e.bytes

  abbrev old : List ℕ
  old = disk_of s i.map.size (x.seen f)

  abbrev now : List ℕ
  now = disk_of s i.map.size (y.seen f)

  old_long : length old ≡ i.map.size
  old_long = length-disk_of s i.map.size (x.seen f)

  now_long : length now ≡ i.map.size
  now_long = length-disk_of s i.map.size (y.seen f)

  partly : IsPartlyChanged s i.map.size e (x.seen f) (y.seen f)
  partly = changes.partly s is.versions is.image.0 is.is_map is.image.1 is.image.2 told

  beside : (k : ℕ) → k < i.map.size → (k < e.at) ⊎ (e.at + count ≤ k) → byte now k ≡ byte old k
  beside k inside out = elim (partly.disk (k / 512) (omega (arith, inside))) [
    | inl was ↦ was k (omega arith) (omega arith) inside
    | inr (inl made) ↦ made k (omega arith) (omega arith) inside ∙ elim out [ inl below ↦ byte-overlay_below old e.at e.bytes k below | inr above ↦ byte-overlay_above old e.at e.bytes k above ]
    | inr (inr none) ↦ absurd none
  ]

  abbrev left : List ℕ
  left = reading now e.at count

  left_long : length left ≡ count
  left_long = length-reading now e.at count

  over_old : overlay old e.at left ≡ now
  over_old =
      let long : length (overlay old e.at left) ≡ i.map.size = length-overlay_inside old e.at left (omega (arith, fits, left_long, old_long)) ∙ old_long in
      same_file (overlay old e.at left) now (long ∙ sym now_long) (λ k inside. elim (cases_lt k e.at) [
        | inl below ↦ byte-overlay_below old e.at left k below ∙ sym (beside k (omega (arith, inside, long)) (inl below))
        | inr from ↦ elim (cases_lt k (e.at + count)) [
          | inl within ↦ byte-overlay_in old e.at left k from (omega (arith, within, left_long)) ∙ byte-reading now e.at count (k - e.at) (omega (arith, from, within)) ∙ ap (byte now) (omega (arith, from))
          | inr above ↦ byte-overlay_above old e.at left k (omega (arith, above, left_long)) ∙ sym (beside k (omega (arith, inside, long)) (inr above))
        ]
      ])

  left_is : disk_now i e.at count y ≡ left
  left_is = ap (λ (d : List ℕ). reading d e.at count) (disk_by s i.map i.map.size (y.seen f) mapping is.is_map)

  over : overlay disk e.at (disk_now i e.at count y) ≡ now
  over = ap (overlay disk e.at) left_is ∙ (ap (λ (d : List ℕ). overlay d e.at left) (sym (is.disk_is told)) ∙ over_old)

  abbrev mixed_on : List (List ℕ)
  mixed_on = mixed ++ now ∷ []

  last_among : Contains mixed_on now
  last_among = Contains-append_right mixed (now ∷ []) now (0, omega arith, refl)

  mixes_on : AreMixed i s mixed_on (y.seen f ∷ is.versions)
  mixes_on = All-cons (λ version. IsMixedOf i.map.size mixed_on (disk_of s i.map.size version)) (y.seen f) is.versions (mixed_one i.map.size mixed_on now last_among)
      (All-weaker (λ version. IsMixedOf i.map.size mixed (disk_of s i.map.size version)) (λ version. IsMixedOf i.map.size mixed_on (disk_of s i.map.size version))
      (λ version kept. mixed_on_more i.map.size mixed now (disk_of s i.map.size version) kept) is.versions is.mixes)

  sizes_on : All (λ other. length other ≡ i.map.size) mixed_on
  sizes_on = All-push (λ other. length other ≡ i.map.size) mixed now is.sizes now_long

  -- whatever was answered
  pub leaves : (b ≡ None → (i.broken ≡ None) × KnowsOn i.map Always i.clusters a x y) → a.file ≡ i.clusters.file → IsSound y → IsTrue y.tells → (m : Mapping) → m ≡ i.map
      → Leaves i (after i m a b) e.at e.bytes (disk_now i e.at count y) disk mixed x y
  leaves knows file sound told_y m same =
      let moves = changes.moves s is.versions is.image.0 is.is_map is.image.1 in
      let st = (moves.stands is.image.2).2.stands told_y in
      subst (λ (k : Mapping). Leaves i (after i k a b) e.at e.bytes (disk_now i e.at count y) disk mixed x y) (sym same) (record {
        long = ap length left_is ∙ left_long;
        torn = subst (λ (d : List ℕ). IsMixedOf (length d) (d ∷ overlay d e.at e.bytes ∷ []) (overlay disk e.at (disk_now i e.at count y))) (is.disk_is told)
            (subst (λ (d : List ℕ). IsMixedOf (length old) (old ∷ overlay old e.at e.bytes ∷ []) d) (sym over)
            (subst (λ (n : ℕ). IsMixedOf n (old ∷ overlay old e.at e.bytes ∷ []) now) (sym old_long) partly.disk));
        since = subst (λ (d : List ℕ). EachSince y x.now f (IsMixture i.id i.epoch (mixed ++ d ∷ []))) (sym over)
            (λ k low high c at. mixture_of i s (y.seen f ∷ is.versions) mixed_on c (of_image is) mixes_on sizes_on (moves.since is.image.2 k low high c at));
        stands = subst (λ (d : List ℕ). Stands (after i i.map a b) d (mixed ++ d ∷ []) y) (sym over)
            (stands_on i a b is (y.seen f ∷ is.versions) now mixed_on sound (file ∙ is.file) (moves.stands is.image.2)
            (λ whole told_y. let k = knows whole in k.1.known s is.versions is.image.0 is.is_map is.image.1 tt is.image.2 told (is.known k.0 told))
            now_long sizes_on last_among mixes_on (λ _. refl));
        first = keeps_first i is told (y.seen f ∷ is.versions) (y.seen f ∷ is.versions) (moves.since is.image.2)
            (subst (λ (h : ℕ). IsSafe s (y.seen f ∷ is.versions) (y.seen h)) (file ∙ is.file) (safe s st.role (y.seen f ∷ is.versions) (y.seen a.file) st.seen));
      })

  -- after Ok
  pub is_done : HasChanged i.map e i.clusters x y → disk_now i e.at count y ≡ e.bytes
  is_done done =
      left_is ∙ (ap (λ (d : List ℕ). reading d e.at count) (done.done s is.versions is.image.0 is.is_map is.image.1 is.image.2 told).disk ∙ reading-overlay_same old e.at e.bytes count refl)

  -- ---- space

  module _ (was : Store) (has : HasSpace i (x.seen f) was) where
    pub has_was : HasStore s i.map.size (x.seen f) was
    has_was = store_of_map s i.map i.map.size (x.seen f) was mapping is.is_map has.has

    pub spends : (next : Store) (need : ℕ) (m : Mapping) → m ≡ i.map → HasSpace (after i m a b) (y.seen f) next → UsesUpTo i.clusters a need → SpendsUpTo was (e.goal was) next need
    spends next need m same now_has uses =
        let on : HasSpace (after i i.map a b) (y.seen f) next = subst (λ (k : Mapping). HasSpace (after i k a b) (y.seen f) next) same now_has in
        record {
          either = partly.store was next has_was (store_of_map s i.map i.map.size (y.seen f) next mapping is.is_map on.has);
          least = omega (arith, has.room, on.room, uses.least);
          most = omega (arith, has.room, on.room, uses.most);
        }

    pub spent : HasChanged i.map e i.clusters x y → (e.goal was).room ≡ room a.pool → (m : Mapping) → m ≡ i.map → HasSpace (after i m a b) (y.seen f) (e.goal was)
    spent done room_is m same =
        subst (λ (k : Mapping). HasSpace (after i k a b) (y.seen f) (e.goal was)) (sym same) (record {
          has = store_by s i.map i.map.size (y.seen f) (e.goal was) mapping is.is_map ((done.done s is.versions is.image.0 is.is_map is.image.1 is.image.2 told).store was has_was);
          room = room_is;
        })
