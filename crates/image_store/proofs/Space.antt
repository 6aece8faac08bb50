-- Kinds, tables and room of a source, as one value.
use Rattle.std.proofs.Common.{◌≡◌, ℕ, ◌+◌, ◌*◌, ◌/◌, ◌%◌, ◌^◌, ◌<◌, ◌≤◌, List, length, get_or, false, IsTrue, refl, sym, ap, ◌∙◌, subst, arith}
use Rattle.std.proofs.lemmas.List.{ext_get_or}
use Rattle.std.proofs.Math.Nat.{div-add-mod, mod-lt}
use Rattle.std.proofs.lemmas.List.FromFn.{get_or-map-range_with_len, length-map-range_with_len}
use Rattle.disk_model.specs.World.{World}
use Rattle.bitmap_model.specs.Granules.{is_in, granules_in}
use Rattle.image_model.specs.Clusters.{Shape, size, per, word_of}
use Rattle.image_model.specs.Images.{IsSourceOf}
use Rattle.image_model.specs.Space.{Store, Hole, kind_at, IsShapedStore}
use Rattle.cluster_pool.specs.Pool.{room}
use Rattle.map_rows.specs.Stores.{HasStore, has_table, kind_of}
use Rattle.qc_layout.specs.declared.header.Part.TheVariants as parts
use Rattle.qc_map.specs.Mapping.{Mapping, IsMapOf, shape_by}
use Rattle.qc_map.proofs.Places.{div_is, mod_is}
use Rattle.qc_map.proofs.Storing.{store_stands}
use Rattle.image_store.specs.Images.{Image, file_of, Stands, HasSpace, store_in, space_of}
use Rattle.image_store.specs.Laws.{IsSpaceOf}
use Rattle.image_store.proofs.First.{was_safe}
use Rattle.image_store.proofs.Orders.{long_base, base_passes}
use Rattle.image_store.proofs.Called.{store_alike}
use Rattle.image_store.proofs.Stood.{standing_is_in_order}

-- a file's entries say one store
one_store : (s : Shape) (total : ℕ) (file : List ℕ) (a b : Store) → 0 < per s → HasStore s total file a → HasStore s total file b → a.room ≡ b.room → a ≡ b
one_store s total file a b some x y room = λ i. record { cluster = clusters i; kinds = kinds i; tables = tables i; room = room i }
  where
    clusters : a.cluster ≡ b.cluster
    clusters = x.cluster ∙ sym y.cluster

    count : length a.kinds ≡ length b.kinds
    count = x.kind_count ∙ sym y.kind_count

    kinds : a.kinds ≡ b.kinds
    kinds = ext_get_or Hole a.kinds b.kinds count (λ k below.
        let whole : k / per s * per s + k % per s ≡ k = (let parts = div-add-mod k (per s) in omega (arith, parts)) in
        let less : k % per s < per s = mod-lt k some in
        subst (λ (n : ℕ). get_or a.kinds n Hole ≡ get_or b.kinds n Hole) whole
        (x.kinds (k / per s) (k % per s) less (omega (arith, whole, below)) ∙ sym (y.kinds (k / per s) (k % per s) less (omega (arith, whole, below, count)))))

    wide : length a.tables ≡ length b.tables
    wide = x.table_count ∙ ap (λ (n : ℕ). granules_in n (per s)) count ∙ sym y.table_count

    tables : a.tables ≡ b.tables
    tables = ext_get_or false a.tables b.tables wide (λ k below. x.tables k below ∙ sym (y.tables k (omega (arith, below, wide))))

has_store_in : (s : Shape) (total : ℕ) (file : List ℕ) → HasStore s total file (store_in s total file)
has_store_in s total file = record {
  cluster = refl;
  kind_count = kinds_long;
  kinds = λ i j j_in inside.
      let row : (i * per s + j) / per s ≡ i = div_is (i * per s + j) (per s) i j refl j_in in
      let slot : (i * per s + j) % per s ≡ j = mod_is (i * per s + j) (per s) i j refl j_in in
      get_or-map-range_with_len (λ k. kind_of (word_of s file (k / per s) (k % per s))) 0 (granules_in total (size s)) (i * per s + j) (i * per s + j) Hole (omega (arith, inside, kinds_long)) (omega arith)
      ∙ ap (λ (x : ℕ). kind_of (word_of s file x ((i * per s + j) % per s))) row ∙ ap (λ (x : ℕ). kind_of (word_of s file i x)) slot;
  table_count = tables_long ∙ ap (λ (n : ℕ). granules_in n (per s)) (sym kinds_long);
  tables = λ t inside. get_or-map-range_with_len (λ x. has_table s file x) 0 (granules_in (granules_in total (size s)) (per s)) t t false (omega (arith, inside, tables_long)) (omega arith);
}
  where
    kinds_long : length (store_in s total file).kinds ≡ granules_in total (size s)
    kinds_long = length-map-range_with_len (λ k. kind_of (word_of s file (k / per s) (k % per s))) 0 (granules_in total (size s))

    tables_long : length (store_in s total file).tables ≡ granules_in (granules_in total (size s)) (per s)
    tables_long = length-map-range_with_len (λ t. has_table s file t) 0 (granules_in (granules_in total (size s)) (per s))

some_sectors : (s : Shape) (m : Mapping) → IsMapOf s m → 0 < (shape_by m).sectors
unfolding shape_by
some_sectors s m is = (let many = is.cluster in let some = is.shape.some in omega (arith, many, some))

module _ (i : Image) (w : World) (s : Shape) (is_map : IsMapOf s i.map) where
  some : 0 < (shape_by i.map).sectors
  some = some_sectors s i.map is_map

  pub has_space : HasSpace i (w.seen (file_of i)) (space_of i w)
  unfolding space_of
  has_space =
      let has = has_store_in (shape_by i.map) i.map.size (w.seen (file_of i)) in
      record { has = record { cluster = has.cluster; kind_count = has.kind_count; kinds = has.kinds; table_count = has.table_count; tables = has.tables }; room = refl }

  pub shaped : IsShapedStore i.map.size (space_of i w)
  shaped =
      let has = has_space.has in
      record {
        cluster_some = omega (arith, has.cluster, some);
        kind_count = has.kind_count ∙ ap (granules_in i.map.size) (sym has.cluster);
        table_count = has.table_count ∙ ap (λ (n : ℕ). granules_in (length (space_of i w).kinds) n) (omega (arith, has.cluster));
      }

  pub only_space : (store : Store) → HasSpace i (w.seen (file_of i)) store → store ≡ space_of i w
  only_space store has = one_store (shape_by i.map) i.map.size (w.seen (file_of i)) store (space_of i w) (omega (arith, some)) has.has has_space.has (has.room ∙ sym has_space.room)

same_sectors : (s : Shape) (m : Mapping) → IsMapOf s m → (shape_by m).sectors ≡ s.sectors
unfolding shape_by
same_sectors s m is = (let many = is.cluster in omega (arith, many))

same_first : (s : Shape) (m : Mapping) → IsMapOf s m → (shape_by m).l1 ≡ s.l1
unfolding shape_by
same_first s m is = is.first_level

-- reads give a source of this very space
pub source_space : (i : Image) (disk : List ℕ) (mixed : List (List ℕ)) (w : World) → (is : Stands i disk mixed w) → IsTrue w.tells → IsSourceOf (w.seen (file_of i)) disk i.id i.epoch (space_of i w)
source_space i disk mixed w is told =
    let s = is.shape in
    let file = w.seen (file_of i) in
    let h = is.headed in
    let safe_w = was_safe i is told in
    let source = ((standing_is_in_order i disk mixed w is).seen told).source in
    let has : HasStore s i.map.size file (space_of i w) = store_alike (shape_by i.map) s i.map.size file (space_of i w) (same_sectors s i.map is.is_map) (same_first s i.map is.is_map) (has_space i w s is.is_map).has in
    record {
      stands = source.stands;
      passes = source.passes;
      directory = source.directory;
      counted = source.counted;
      header = source.header;
      spelled = source.spelled;
      spans_offset = source.spans_offset;
      spans_length = source.spans_length;
      own = source.own;
      clusters = (store_stands s is.versions file parts.Source (space_of i w) is.is_map.shape (long_base s is.versions file h.header is.is_map.shape is.owner h.is h.bare safe_w)
          (base_passes s is.versions file h.header is.is_map.shape is.owner h.is h.bare safe_w) safe_w).0 (subst (λ (n : ℕ). HasStore s n file (space_of i w)) (sym h.disk) has);
    }

pub standing_has_space : (i : Image) (disk : List ℕ) (mixed : List (List ℕ)) (w : World) → Stands i disk mixed w → IsSpaceOf i disk w
standing_has_space i disk mixed w is = record {
  has = has_space i w is.shape is.is_map;
  only = only_space i w is.shape is.is_map;
  shape = shaped i w is.shape is.is_map;
  source = source_space i disk mixed w is;
}

pub space_is_of_reads : (i : Image) (old new : World) → new.seen (file_of i) ≡ old.seen (file_of i) → space_of i new ≡ space_of i old
unfolding space_of
space_is_of_reads i old new same = ap (λ (file : List ℕ). record (store_in (shape_by i.map) i.map.size file) { room = room i.clusters.pool }) same
