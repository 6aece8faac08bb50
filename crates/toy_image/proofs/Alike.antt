-- Files that say the same of their clusters, and of which the bytes before the guest's are the same but for the first sector.
use Rattle.std.proofs.Common.{◌≡◌, ℕ, zero, suc, ◌+◌, ◌-◌, ◌*◌, ◌/◌, ◌%◌, ◌^◌, ◌<◌, ◌≤◌, List, length, Bool, true, false, ◌&&◌, Option, Some, None, Result, Ok, Err, refl, sym, ap, subst, ◌∙◌, arith, rules, ltb-true, min, max}
use Rattle.std.specs.Int.{w16, w64}
use Rattle.std.specs.Prelude.{nat_lt, ◌==◌, if◌then◌else◌, count_by}
use Rattle.std.specs.List.{range_with_len, fold}
use Rattle.std.proofs.Math.Nat.{mod-lt}
use Rattle.disk_model.specs.Files.{byte, u16_at, u64_at}
use Rattle.disk_model.proofs.Laws.{number_same}
use Rattle.qc_layout.specs.declared.header.Fields.{Fields}
use Rattle.qc_layout.specs.declared.header.Part.TheVariants as parts
use Rattle.qc_layout.specs.declared.entry.EntryFault.{EntryFault}
use Rattle.qc_layout.specs.declared.entry.L2Entry.{L2Entry}
use Rattle.qc_layout.specs.Entries.{l1_of, l2_of}
use Rattle.qc_layout.specs.Extensions.{list_end}
use Rattle.qc_layout.specs.Header.{fields_of}
use Rattle.qc_layout.specs.Disks.{entry_at, entry_under, table_at, bits_of, words_in, counts_in, blocks_in, block_at, refcount, reach_of, place_of}
use Rattle.qc_layout.specs.Directory.{directory_in}
use Rattle.qc_layout.specs.Owners.{Who, Head, Counts, Block, Tables, Table, Guest, Meets, HostIs, Refers, TablesCounted, Owner, Image, Bitmaps, Owns, Tight}
use Rattle.qc_layout.proofs.Directories.{stores_nothing}
use Rattle.qc_layout.specs.Room.{TablesPass, IsInOrder, IsFreeFrom, HasRoom, is_missing_block, missing_blocks, room_from}
use Rattle.qc_layout.proofs.Passing.{AreBehind, are_behind}
use Rattle.image_model.specs.Space.{kind_at}
use Rattle.image_model.specs.Images.{HasClusters, IsKind, IsThere}
use Rattle.bitmap_model.specs.Granules.{granules_in, is_in}
use Rattle.core_node.proofs.Sources.{bare_passes}
use Rattle.toy_image.specs.declared.numbers.Numbers.{Numbers}
use Rattle.toy_image.specs.Images.{store_of, IsImage, IsInFront}

-- a table that an entry names doesn't stand in the first sector
table_some : (bits word table : ℕ) → l1_of bits word ≡ Ok (Some table) → 512 ≤ table
unfolding l1_of
table_some bits word table is = search rules

block_some : (word : ℕ) → ((word / 512 * 512) == 0) ≡ false → 512 ≤ word / 512 * 512
block_some word is = search rules

-- the other says the same of its clusters
pub record IsSameForm (n : Numbers) (file other : List ℕ) : Type 0 where
  pub passes : TablesPass file → TablesPass other
  pub clusters : HasClusters other (store_of n)
  pub entries : (k : ℕ) → k < length (store_of n).kinds → entry_at other k ≡ entry_at file k
  pub front : IsInFront n.base (length (store_of n).kinds) (length (store_of n).tables) other
  pub room : HasRoom other n.room
  pub behind : IsFreeFrom other (granules_in (n.base + n.size) n.cluster)
  pub tight : Tight other

same_count : (p q : ℕ → Bool) (a n sum : ℕ) → ((k : ℕ) → a ≤ k → k < a + n → p k ≡ q k) → fold (λ s k. s + (if p k then 1 else 0)) sum (range_with_len a n) ≡ fold (λ s k. s + (if q k then 1 else 0)) sum (range_with_len a n)
same_count p q a zero sum same = refl
same_count p q a (suc n) sum same =
    ap (λ (b : Bool). fold (λ s k. s + (if p k then 1 else 0)) (sum + (if b then 1 else 0)) (range_with_len (a + 1) n)) (same a (omega arith) (omega arith))
    ∙ same_count p q (a + 1) n (sum + (if q a then 1 else 0)) (λ k low high. same k (omega (arith, low)) (omega (arith, high)))

module _ (n : Numbers) (disk file other : List ℕ) (image : IsImage n disk file) (autoclear : ℕ)
    (fields : fields_of other ≡ record (fields_of file) { autoclear_features = autoclear })
    (long : length other ≡ length file) (bare : directory_in other ≡ None)
    (same : (i : ℕ) → 512 ≤ i → i < n.base → byte other i ≡ byte file i) where
  places : AreBehind (fields_of file)
  places = are_behind parts.Source (length file) (fields_of file) image.source.spelled.numbers

  same_64 : (p : ℕ) → 512 ≤ p → p + 8 ≤ n.base → u64_at other p ≡ u64_at file p
  same_64 p low high = number_same w64 other file p (λ i from to. same i (omega (arith, low, from)) (omega (arith, high, to)))

  same_16 : (p : ℕ) → 512 ≤ p → p + 2 ≤ n.base → u16_at other p ≡ u16_at file p
  same_16 p low high = number_same w16 other file p (λ i from to. same i (omega (arith, low, from)) (omega (arith, high, to)))

  bits : bits_of other ≡ bits_of file
  bits = ap (λ (f : Fields). f.cluster_bits) fields

  size_same : (fields_of other).size ≡ (fields_of file).size
  size_same = ap (λ (f : Fields). f.size) fields

  many_firsts : (fields_of other).l1_size ≡ (fields_of file).l1_size
  many_firsts = ap (λ (f : Fields). f.l1_size) fields

  first_off : (fields_of other).l1_table_offset ≡ (fields_of file).l1_table_offset
  first_off = ap (λ (f : Fields). f.l1_table_offset) fields

  count_off : (fields_of other).refcount_table_offset ≡ (fields_of file).refcount_table_offset
  count_off = ap (λ (f : Fields). f.refcount_table_offset) fields

  clusters : (fields_of other).refcount_table_clusters ≡ (fields_of file).refcount_table_clusters
  clusters = ap (λ (f : Fields). f.refcount_table_clusters) fields

  many : blocks_in other ≡ blocks_in file
  many = ap (λ (f : Fields). f.refcount_table_clusters * words_in f.cluster_bits) fields

  at_first : (i : ℕ) → 512 ≤ (fields_of file).l1_table_offset + 8 * i
  at_first i = let past = places.firsts in omega (arith, past)

  at_count : (i : ℕ) → 512 ≤ (fields_of file).refcount_table_offset + 8 * i
  at_count i = let past = places.counts in omega (arith, past)

  at_second : (i table j : ℕ) → table_at file i ≡ Ok (Some table) → 512 ≤ table + 8 * j
  at_second i table j is = let past = table_some (bits_of file) (u64_at file ((fields_of file).l1_table_offset + 8 * i)) table is in omega (arith, past)

  -- ---- what tables say

  table_same : (i : ℕ) → i < (fields_of file).l1_size → table_at other i ≡ table_at file i
  table_same i below = ap (λ (b : ℕ). l1_of b (u64_at other ((fields_of other).l1_table_offset + 8 * i))) bits ∙ ap (λ (o : ℕ). l1_of (bits_of file) (u64_at other (o + 8 * i))) first_off ∙ ap (λ (w : ℕ). l1_of (bits_of file) w) (same_64 ((fields_of file).l1_table_offset + 8 * i) (at_first i) (image.front.firsts i below))

  second_same : (i table j : ℕ) → i < (fields_of file).l1_size → table_at file i ≡ Ok (Some table) → j < words_in (bits_of file) → l2_of (bits_of other) (u64_at other (table + 8 * j)) ≡ l2_of (bits_of file) (u64_at file (table + 8 * j))
  second_same i table j below is slot = ap (λ (b : ℕ). l2_of b (u64_at other (table + 8 * j))) bits ∙ ap (λ (w : ℕ). l2_of (bits_of file) w) (same_64 (table + 8 * j) (at_second i table j is) (image.front.seconds i table j below is slot))

  under_same : (i j : ℕ) (e : Result (Option ℕ) EntryFault) → i < (fields_of file).l1_size → table_at file i ≡ e → j < words_in (bits_of file) → entry_under other e j ≡ entry_under file e j
  under_same i j (Err fault) below is slot = refl
  under_same i j (Ok None) below is slot = refl
  under_same i j (Ok (Some table)) below is slot = second_same i table j below is slot

  entry_same : (k : ℕ) → k < length (store_of n).kinds → entry_at other k ≡ entry_at file k
  unfolding entry_at
  entry_same k below =
      let slot = image.front.slots k below in
      ap (λ (b : ℕ). entry_under other (table_at other (k / words_in b)) (k % words_in b)) bits
      ∙ ap (λ (e : Result (Option ℕ) EntryFault). entry_under other e (k % words_in (bits_of file))) (table_same (k / words_in (bits_of file)) slot.0)
      ∙ under_same (k / words_in (bits_of file)) (k % words_in (bits_of file)) (table_at file (k / words_in (bits_of file))) slot.0 refl slot.1

  -- ---- counts

  block_same : (i : ℕ) → i < blocks_in file → block_at other i ≡ block_at file i
  block_same i below = ap (λ (o : ℕ). u64_at other (o + 8 * i) / 512 * 512) count_off ∙ ap (λ (w : ℕ). w / 512 * 512) (same_64 ((fields_of file).refcount_table_offset + 8 * i) (at_count i) (image.front.counts i below))

  abbrev counted_in : List ℕ → ℕ → ℕ → Bool → ℕ
  counted_in c b k inside = if inside then (if block_at c (k / counts_in b) == 0 then 0 else u16_at c (block_at c (k / counts_in b) + 2 * (k % counts_in b))) else 0

  in_block : (k word : ℕ) (none : Bool) → (word / 512 * 512 == 0) ≡ none → word / 512 * 512 + 2 * (k % counts_in (bits_of file)) + 2 ≤ n.base
      → (if none then 0 else u16_at other (word / 512 * 512 + 2 * (k % counts_in (bits_of file)))) ≡ (if none then 0 else u16_at file (word / 512 * 512 + 2 * (k % counts_in (bits_of file))))
  in_block k word true is near = refl
  in_block k word false is near = same_16 (word / 512 * 512 + 2 * (k % counts_in (bits_of file))) (let past = block_some word is in omega (arith, past)) near

  count_by_place : (k : ℕ) (inside : Bool) → nat_lt (k / counts_in (bits_of file)) (blocks_in file) ≡ inside → counted_in other (bits_of file) k inside ≡ counted_in file (bits_of file) k inside
  count_by_place k false is = refl
  count_by_place k true is =
      let below : k / counts_in (bits_of file) < blocks_in file = ltb-true (k / counts_in (bits_of file)) (blocks_in file) is in
      let rest : k % counts_in (bits_of file) < counts_in (bits_of file) = mod-lt k image.front.some in
      ap (λ (block : ℕ). if block == 0 then 0 else u16_at other (block + 2 * (k % counts_in (bits_of file)))) (block_same (k / counts_in (bits_of file)) below)
      ∙ in_block k (u64_at file ((fields_of file).refcount_table_offset + 8 * (k / counts_in (bits_of file)))) (block_at file (k / counts_in (bits_of file)) == 0) refl (image.front.blocks (k / counts_in (bits_of file)) (k % counts_in (bits_of file)) below rest)

  count_same : (k : ℕ) → refcount other k ≡ refcount file k
  unfolding refcount
  count_same k = ap (λ (b : ℕ). counted_in other b k (nat_lt (k / counts_in b) (blocks_in other))) bits ∙ ap (λ (n : ℕ). counted_in other (bits_of file) k (nat_lt (k / counts_in (bits_of file)) n)) many
      ∙ count_by_place k (nat_lt (k / counts_in (bits_of file)) (blocks_in file)) refl

  reach_same : reach_of other ≡ reach_of file
  reach_same = ap (λ (n : ℕ). min (2 ^ 30) (n * counts_in (bits_of other))) many ∙ ap (λ (b : ℕ). min (2 ^ 30) (blocks_in file * counts_in b)) bits

  -- ---- who refers to a cluster

  host_by : (k : ℕ) → (e g : Result L2Entry EntryFault) → e ≡ g → HostIs e (place_of (bits_of other) k) → HostIs g (place_of (bits_of file) k)
  host_by k e g same host = subst (λ (x : Result L2Entry EntryFault). HostIs x (place_of (bits_of file) k)) same (subst (λ (b : ℕ). HostIs e (place_of b k)) bits host)

  back : (a : Who) (k : ℕ) → Refers other a k → Refers file a k
  back Head k is = is
  back Counts k is =
      subst (λ (n : ℕ). Meets (bits_of file) k (fields_of file).refcount_table_offset (2 ^ bits_of file * n)) clusters
      (subst (λ (o : ℕ). Meets (bits_of file) k o (2 ^ bits_of file * (fields_of other).refcount_table_clusters)) count_off
      (subst (λ (b : ℕ). Meets b k (fields_of other).refcount_table_offset (2 ^ b * (fields_of other).refcount_table_clusters)) bits is))
  back (Block i) k is = let below = subst (λ (n : ℕ). i < n) many is.0 in let same = block_same i below in (below, λ none. is.1 (same ∙ none), sym same ∙ is.2 ∙ ap (λ (b : ℕ). place_of b k) bits)
  back Tables k is =
      subst (λ (n : ℕ). Meets (bits_of file) k (fields_of file).l1_table_offset (8 * n)) many_firsts
      (subst (λ (o : ℕ). Meets (bits_of file) k o (8 * (fields_of other).l1_size)) first_off
      (subst (λ (b : ℕ). Meets b k (fields_of other).l1_table_offset (8 * (fields_of other).l1_size)) bits is))
  back (Table i) k is = let below = subst (λ (n : ℕ). i < n) many_firsts is.0 in (below, sym (table_same i below) ∙ is.1 ∙ ap (λ (b : ℕ). Ok (Some (place_of b k))) bits)
  back (Guest i j) k is =
      let below = subst (λ (n : ℕ). i < n) many_firsts is.1 in
      let table = sym (table_same i below) ∙ is.2 in
      let slot = subst (λ (b : ℕ). j < words_in b) bits is.3 in
      (is.0, below, table, slot, host_by k _ _ (second_same i is.0 j below table slot) is.4)

  to : (a : Who) (k : ℕ) → Refers file a k → Refers other a k
  to Head k is = is
  to Counts k is =
      subst (λ (b : ℕ). Meets b k (fields_of other).refcount_table_offset (2 ^ b * (fields_of other).refcount_table_clusters)) (sym bits)
      (subst (λ (o : ℕ). Meets (bits_of file) k o (2 ^ bits_of file * (fields_of other).refcount_table_clusters)) (sym count_off)
      (subst (λ (n : ℕ). Meets (bits_of file) k (fields_of file).refcount_table_offset (2 ^ bits_of file * n)) (sym clusters) is))
  to (Block i) k is = let same = block_same i is.0 in (subst (λ (n : ℕ). i < n) (sym many) is.0, λ none. is.1 (sym same ∙ none), same ∙ is.2 ∙ ap (λ (b : ℕ). place_of b k) (sym bits))
  to Tables k is =
      subst (λ (b : ℕ). Meets b k (fields_of other).l1_table_offset (8 * (fields_of other).l1_size)) (sym bits)
      (subst (λ (o : ℕ). Meets (bits_of file) k o (8 * (fields_of other).l1_size)) (sym first_off)
      (subst (λ (n : ℕ). Meets (bits_of file) k (fields_of file).l1_table_offset (8 * n)) (sym many_firsts) is))
  to (Table i) k is = (subst (λ (n : ℕ). i < n) (sym many_firsts) is.0, table_same i is.0 ∙ is.1 ∙ ap (λ (b : ℕ). Ok (Some (place_of b k))) (sym bits))
  to (Guest i j) k is = (
    is.0,
    subst (λ (n : ℕ). i < n) (sym many_firsts) is.1,
    table_same i is.1 ∙ is.2,
    subst (λ (b : ℕ). j < words_in b) (sym bits) is.3,
    subst (λ (x : Result L2Entry EntryFault). HostIs x (place_of (bits_of other) k)) (sym (second_same i is.0 j is.1 is.2 is.3)) (subst (λ (b : ℕ). HostIs (l2_of (bits_of file) (u64_at file (is.0 + 8 * j))) (place_of b k)) (sym bits) is.4),
  )

  counted : TablesCounted file → TablesCounted other
  counted c = record {
    once = λ a b k x y. c.once a b k (back a k x) (back b k y);
    below = λ a k x. subst (λ (n : ℕ). k < n) (sym reach_same) (c.below a k (back a k x));
    counted = λ a k x. subst (λ (n : ℕ). 0 < n) (sym (count_same k)) (c.counted a k (back a k x));
  }

  own_back : (a : Owner) (k : ℕ) → Owns other a k → Owns file a k
  own_back (Image a) k x = back a k x
  own_back (Bitmaps a) k x = absurd ((stores_nothing other bare).held a k x)

  own_to : (a : Owner) (k : ℕ) → Owns file a k → Owns other a k
  own_to (Image a) k x = to a k x
  own_to (Bitmaps a) k x = absurd ((stores_nothing file image.bare).held a k x)

  -- ---- the whole

  tables_pass : TablesPass file → TablesPass other
  tables_pass p = record {
    blocks = λ i below.
        let here = subst (λ (n : ℕ). i < n) many below in
        ap (λ (b : ℕ). u64_at other ((fields_of other).refcount_table_offset + 8 * i) % 2 ^ b) bits ∙ ap (λ (o : ℕ). u64_at other (o + 8 * i) % 2 ^ bits_of file) count_off ∙ ap (λ (w : ℕ). w % 2 ^ bits_of file) (same_64 ((fields_of file).refcount_table_offset + 8 * i) (at_count i) (image.front.counts i here)) ∙ p.blocks i here;
    tables = λ i below. let here = subst (λ (n : ℕ). i < n) many_firsts below in let was = p.tables i here in (was.0, table_same i here ∙ was.1);
    entries = λ i table j below is slot.
        let here = subst (λ (n : ℕ). i < n) many_firsts below in
        let was = sym (table_same i here) ∙ is in
        let at = subst (λ (b : ℕ). j < words_in b) bits slot in
        subst IsInOrder (sym (second_same i table j here was at)) (p.entries i table j here was at);
    counted = counted p.counted;
  }

  tight : Tight file → Tight other
  tight c = record {
    counted = (bare_passes other bare (tables_pass image.source.passes)).1;
    ones = λ a k x. count_same k ∙ c.ones a k (own_back a k x);
    others = λ k none. count_same k ∙ c.others k (λ a x. none a (own_to a k x));
  }

  clusters_are : HasClusters other (store_of n)
  clusters_are = record {
    cluster_is = image.source.clusters.cluster_is ∙ ap (λ (b : ℕ). 2 ^ b) (sym bits);
    kind_count = image.source.clusters.kind_count ∙ ap (λ (m : ℕ). granules_in m n.cluster) (sym size_same);
    kinds_are = λ k below. subst (λ (e : Result L2Entry EntryFault). IsKind e (kind_at (store_of n) k)) (sym (entry_same k below)) (image.source.clusters.kinds_are k below);
    table_count = image.source.clusters.table_count;
    tables_are = λ i below. subst (λ (e : Result (Option ℕ) EntryFault). IsThere e (is_in (store_of n).tables i)) (sym (table_same i (image.front.used i below))) (image.source.clusters.tables_are i below);
  }

  front : IsInFront n.base (length (store_of n).kinds) (length (store_of n).tables) other
  front = record {
    cluster = subst (λ (b : ℕ). 2 ^ b ≤ n.base) (sym bits) image.front.cluster;
    head = subst (λ (m : ℕ). m ≤ n.base) (ap (λ (b : ℕ). max 512 (list_end b)) (sym bits)) image.front.head;
    counts = λ i below. subst (λ (o : ℕ). o + 8 * i + 8 ≤ n.base) (sym count_off) (image.front.counts i (subst (λ (n : ℕ). i < n) many below));
    some = subst (λ (b : ℕ). 0 < counts_in b) (sym bits) image.front.some;
    blocks = λ i r below low.
        let here = subst (λ (n : ℕ). i < n) many below in
        subst (λ (o : ℕ). o + 2 * r + 2 ≤ n.base) (sym (block_same i here)) (image.front.blocks i r here (subst (λ (b : ℕ). r < counts_in b) bits low));
    firsts = λ i below. subst (λ (o : ℕ). o + 8 * i + 8 ≤ n.base) (sym first_off) (image.front.firsts i (subst (λ (n : ℕ). i < n) many_firsts below));
    seconds = λ i table j below is slot.
        let here = subst (λ (n : ℕ). i < n) many_firsts below in
        image.front.seconds i table j here (sym (table_same i here) ∙ is) (subst (λ (b : ℕ). j < words_in b) bits slot);
    slots = λ k below.
        let was = image.front.slots k below in (
          subst (λ (b : ℕ). k / words_in b < (fields_of other).l1_size) (sym bits) (subst (λ (m : ℕ). k / words_in (bits_of file) < m) (sym many_firsts) was.0),
          subst (λ (b : ℕ). k % words_in b < words_in b) (sym bits) was.1,
        );
    used = λ i below. subst (λ (m : ℕ). i < m) (sym many_firsts) (image.front.used i below);
  }

  -- ---- room

  missing_at : (at i : ℕ) → i < blocks_in file → is_missing_block other at i ≡ is_missing_block file at i
  missing_at at i below =
      ap (λ (o : ℕ). (o == 0) && (nat_lt at ((i + 1) * counts_in (bits_of other)) && nat_lt (i * counts_in (bits_of other)) (reach_of other))) (block_same i below)
      ∙ ap (λ (b : ℕ). (block_at file i == 0) && (nat_lt at ((i + 1) * counts_in b) && nat_lt (i * counts_in b) (reach_of other))) bits
      ∙ ap (λ (r : ℕ). (block_at file i == 0) && (nat_lt at ((i + 1) * counts_in (bits_of file)) && nat_lt (i * counts_in (bits_of file)) r)) reach_same

  missing_same : (at : ℕ) → missing_blocks other at ≡ missing_blocks file at
  missing_same at = ap (λ (m : ℕ). count_by (is_missing_block other at) (range_with_len 0 m)) many
      ∙ same_count (is_missing_block other at) (is_missing_block file at) 0 (blocks_in file) 0 (λ k low high. missing_at at k (omega (arith, high)))

  room_same : (at : ℕ) → room_from other at ≡ room_from file at
  room_same at = ap (λ (r : ℕ). if nat_lt at r then r - at - missing_blocks other at else 0) reach_same ∙ ap (λ (m : ℕ). if nat_lt at (reach_of file) then reach_of file - at - m else 0) (missing_same at)

  free_from : (at : ℕ) → IsFreeFrom file at → IsFreeFrom other at
  free_from at f = record {
    uncounted = λ k low. count_same k ∙ f.uncounted k low;
    past = subst (λ (b : ℕ). length other ≤ place_of b at) (sym bits) (subst (λ (m : ℕ). m ≤ place_of (bits_of file) at) (sym long) f.past);
  }

  free_back : (at : ℕ) → IsFreeFrom other at → IsFreeFrom file at
  free_back at f = record {
    uncounted = λ k low. sym (count_same k) ∙ f.uncounted k low;
    past = subst (λ (m : ℕ). m ≤ place_of (bits_of file) at) long (subst (λ (b : ℕ). length other ≤ place_of b at) bits f.past);
  }

  room : HasRoom other n.room
  room = record {
    next = image.room.next;
    is_next = record { free = free_from image.room.next image.room.is_next.free; least = λ m f. image.room.is_next.least m (free_back m f) };
    count = image.room.count ∙ sym (room_same image.room.next);
  }

  pub same_form : IsSameForm n file other
  same_form = record {
    passes = tables_pass;
    clusters = clusters_are;
    entries = entry_same;
    front = front;
    room = room;
    behind = free_from (granules_in (n.base + n.size) n.cluster) image.behind;
    tight = tight image.tight;
  }
