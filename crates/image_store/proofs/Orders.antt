-- A safe file without bitmaps is a source in order.
use Rattle.std.proofs.Common.{◌≡◌, inl, inr, ℕ, zero, suc, ◌+◌, ◌*◌, ◌/◌, ◌%◌, ◌^◌, ◌<◌, ◌≤◌, Bool, false, List, length, None, refl, sym, ap, ◌∙◌, arith}
use Rattle.std.specs.Prelude.{nat_lt, ◌==◌, if◌then◌else◌}
use Rattle.std.proofs.lemmas.Bool.{cases_eq, cases_lt, le-ltb}
use Rattle.std.proofs.lemmas.Nat.{pow_pos}
use Rattle.std.proofs.Math.Nat.{mul-le-mul, mul-le-mul_left, div-lt_iff_lt-mul}
use Rattle.disk_model.specs.Files.{u16_at}
use Rattle.bitmap_model.specs.Granules.{granules_in}
use Rattle.qc_layout.specs.declared.header.Header.{Header}
use Rattle.qc_layout.specs.declared.header.Own.TheVariants as owns
use Rattle.qc_layout.specs.declared.header.Part.TheVariants as parts
use Rattle.qc_layout.specs.Header.{fields_of}
use Rattle.qc_layout.specs.Spelling.{IsHeaderOf}
use Rattle.qc_layout.specs.Disks.{Passes, bits_of, place_of, counts_in, blocks_in, block_at, refcount}
use Rattle.qc_layout.specs.Directory.{directory_in, own_of, spans_under, spans_in}
use Rattle.qc_layout.specs.Owners.{Tight}
use Rattle.qc_layout.specs.Laws.{StoresNothing, IsLoadable}
use Rattle.qc_layout.specs.Room.{IsFreeFrom, IsNextFree, HasRoom, room_from}
use Rattle.qc_layout.proofs.Directories.{finds_as_spelled, stores_nothing}
use Rattle.qc_layout.proofs.Passing.{numbers_pass}
use Rattle.image_model.specs.Clusters.{Shape, size, IsShape, OwnsAsListed, IsSafe}
use Rattle.image_model.specs.Calls.{AreExactly, AreSettled}
use Rattle.image_model.specs.Disks.{disk_of}
use Rattle.image_model.specs.Space.{Store}
use Rattle.image_steps.proofs.Bridge.{IsHeaded, headed, same_fields, safe_header}
use Rattle.image_steps.proofs.Disk.{length-disk_of, disk_stands}
use Rattle.image_steps.proofs.Words.{counts_are}
use Rattle.image_steps.proofs.Loads.{safe_loads, settled_tight}
use Rattle.map_rows.specs.Stores.{HasStore}
use Rattle.qc_map.proofs.Requests.{store_of, has_store_of}
use Rattle.qc_map.proofs.Storing.{store_stands}
use Rattle.image_store.specs.Images.{IsInOrder}

-- ---- each file has a room

-- no cluster past what the refcount table can count is counted
past_table : (file : List ℕ) (k : ℕ) → 0 < counts_in (bits_of file) → blocks_in file * counts_in (bits_of file) ≤ k → refcount file k ≡ 0
unfolding refcount
past_table file k some far =
    let inside : nat_lt (k / counts_in (bits_of file)) (blocks_in file) ≡ false =
    elim (cases_lt (k / counts_in (bits_of file)) (blocks_in file)) [
      | inl less ↦ (let l = (div-lt_iff_lt-mul {k = counts_in (bits_of file)} {x = k} {y = blocks_in file} some).0 less in absurd (omega (arith, l, far)))
      | inr more ↦ le-ltb (k / counts_in (bits_of file)) (blocks_in file) more
    ] in
    ap (λ (b : Bool). if b then (if block_at file (k / counts_in (bits_of file)) == 0 then 0 else u16_at file (block_at file (k / counts_in (bits_of file)) + 2 * (k % counts_in (bits_of file)))) else 0) inside

-- from a free cluster down to the least
least_free : (file : List ℕ) (n : ℕ) → IsFreeFrom file n → (m : ℕ) × IsNextFree file m
unfolding place_of
least_free file zero free = (zero, record { free = free; least = λ m is. omega arith })
least_free file (suc n) free = elim (cases_eq (refcount file n) 0) [
  | inr some ↦ (suc n, record { free = free; least = λ m is. elim (cases_lt n m) [ inl more ↦ omega (arith, more) | inr low ↦ absurd (some (is.uncounted n low)) ] })
  | inl none ↦ elim (cases_lt (2 ^ bits_of file * n) (length file)) [
    | inl longer ↦ (
      suc n,
      record { free = free; least = λ m is. elim (cases_lt n m) [ inl more ↦ omega (arith, more) | inr low ↦ (let l = mul-le-mul_left (2 ^ bits_of file) low in absurd (omega (arith, l, longer, is.past))) ] },
    )
    | inr short ↦ least_free file n (record {
      uncounted = λ k from. elim (cases_eq k n) [ inl same ↦ ap (refcount file) same ∙ none | inr other ↦ free.uncounted k (omega (arith, from, other)) ];
      past = short;
    })
  ]
]

has_room : (s : Shape) (file : List ℕ) → IsHeaded s file → (room : ℕ) × HasRoom file room
unfolding place_of
has_room s file is =
    let end : ℕ = blocks_in file * counts_in (bits_of file) + length file in
    let long : 1 * end ≤ 2 ^ bits_of file * end = mul-le-mul {n₁ = 1} {m₁ = end} {n₂ = 2 ^ bits_of file} {m₂ = end} (omega (arith, pow_pos (bits_of file))) (omega arith) in
    let some : 0 < counts_in (bits_of file) = omega (arith, counts_are s is.some (bits_of file) is.cluster, is.some) in
    let next = least_free file end (record { uncounted = λ k from. past_table file k some (omega (arith, from)); past = omega (arith, long) }) in
    (room_from file next.0, record { next = next.0; is_next = next.1; count = refl })

-- ---- in order

module _ (s : Shape) (disks : List (List ℕ)) (file : List ℕ) (h : Header) (shape : IsShape s) (none : (k : ℕ) → s.owner k ≡ None) (head : IsHeaderOf parts.Source s.base h) (bare : h.bitmaps ≡ None) (safe : IsSafe s disks file) where
  pub long_base : 104 ≤ length s.base
  long_base = (numbers_pass parts.Source (length s.base) (fields_of s.base) head.spells.numbers).long

  pub base_passes : Passes parts.Source s.base
  base_passes = record { numbers = head.spells.numbers; extensions = head.spells.extensions; listed = head.spells.listed; rules = head.spells.rules }

  pub spelled : IsHeaderOf parts.Source file h
  spelled = safe_header s disks file parts.Source h shape long_base safe head

  abbrev pub total : ℕ
  total = (fields_of s.base).size

  headed_file : IsHeaded s file
  headed_file = headed s file shape (same_fields s shape file long_base safe.counted (safe.fixed 0 (inl refl)))

  pub no_directory : directory_in file ≡ None
  no_directory = (finds_as_spelled parts.Source file h spelled.spells).directory ∙ bare

  base_bare : StoresNothing s.base
  base_bare = stores_nothing s.base ((finds_as_spelled parts.Source s.base h head.spells).directory ∙ bare)

  pub owns_none : OwnsAsListed s
  owns_none held k = ((λ owned. let no = none k in absurd (cc)), λ holds. absurd (base_bare.held held k holds))

  no_spans : spans_in s.base ≡ None → spans_in file ≡ None
  no_spans _ = ap (λ d. spans_under file d (own_of file)) no_directory

  pub loads : IsLoadable file
  loads = (safe_loads s disks file h shape long_base head.spells base_bare.faultless no_spans owns_none safe).0

  pub safe_tight : (taken : ℕ → Bool) → AreExactly s taken file → AreSettled s taken file → Tight file
  safe_tight = settled_tight s disks file h shape long_base head.spells base_bare.faultless no_spans owns_none safe

  room : (room : ℕ) × HasRoom file room
  room = has_room s file headed_file

  abbrev store : Store
  store = record (store_of s total file) { room = room.0 }

  has_store : HasStore s total file store
  has_store = let has = has_store_of s total file shape.some in record { cluster = has.cluster; kind_count = has.kind_count; kinds = has.kinds; table_count = has.table_count; tables = has.tables }

  pub safe_in_order : (id : List ℕ) (epoch offset size_of : ℕ) → h.own ≡ owns.Source id epoch offset size_of → IsInOrder id epoch (disk_of s total file) file
  safe_in_order id epoch offset size_of own = record {
    store = store;
    source = record {
      stands = disk_stands s disks file parts.Source shape long_base base_passes safe;
      passes = loads.passes;
      directory = loads.directory;
      counted = loads.counted;
      header = h;
      spelled = spelled.spells;
      spans_offset = offset;
      spans_length = size_of;
      own = own;
      clusters = (store_stands s disks file parts.Source store shape long_base base_passes safe).0 has_store;
    };
    room = room.1;
    shape = record {
      cluster_some = omega (arith, shape.some, has_store.cluster);
      kind_count = has_store.kind_count ∙ (ap (λ (n : ℕ). granules_in n (size s)) (sym (length-disk_of s total file)) ∙ ap (λ (n : ℕ). granules_in (length (disk_of s total file)) n) (sym has_store.cluster));
      table_count = has_store.table_count ∙ ap (λ (n : ℕ). granules_in (length store.kinds) n) (omega (arith, has_store.cluster));
    };
    bare = no_directory;
    none = stores_nothing file no_directory;
  }
