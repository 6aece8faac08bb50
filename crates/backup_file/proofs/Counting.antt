-- Who refers to the clusters of a new file, and how often each is counted.
use Rattle.std.proofs.Common.{◌≡◌, inl, inr, ⊎_elim, ℕ, ◌+◌, ◌-◌, ◌*◌, ◌/◌, ◌%◌, ◌^◌, ◌<◌, ◌≤◌, List, replicate, Bool, true, false, Option, Some, None, Result, Ok, refl, sym, ap, ◌∙◌, subst, arith}
use Rattle.std.specs.Prelude.{nat_lt, ◌==◌, if◌then◌else◌}
use Rattle.std.proofs.lemmas.Bool.{cases_lt, cond_below, cond_above, ltb-true, ltb-false, eqb-true, eqb-false}
use Rattle.std.proofs.lemmas.List.{length-replicate}
use Rattle.std.proofs.Math.Nat.{mul-le-mul_left}
use Rattle.std.proofs.lemmas.Nat.{mul-le}
use Rattle.disk_model.specs.Files.{byte, u16_at, u64_at}
use Rattle.qc_layout.specs.declared.entry.EntryFault.{EntryFault}
use Rattle.qc_layout.specs.declared.entry.L2Entry.{L2Entry}
use Rattle.qc_layout.specs.declared.entry.L2Entry.TheVariants.{Hole}
use Rattle.qc_layout.specs.declared.header.Part.{Part}
use Rattle.qc_layout.specs.Entries.{l1_of}
use Rattle.qc_layout.specs.Header.{fields_of, l1_needed}
use Rattle.qc_layout.specs.Disks.{Passes, words_in, counts_in, place_of, clusters_in, bits_of, table_at, entry_under, entry_at, ReadsAs, Stands, block_at, refcount, reach_of}
use Rattle.qc_layout.specs.Directory.{directory_in}
use Rattle.qc_layout.specs.Owners.{Who, Head, Counts, Block, Tables, Table, Guest, Refers, Owner, Image, Bitmaps, Owns, Tight}
use Rattle.qc_layout.proofs.Directories.{stores_nothing}
use Rattle.qc_layout.proofs.PlainLaws.{l1_plain}
use Rattle.backup_file.specs.Layout.{table_clusters, l1_clusters, block_clusters, l1_cluster, all_clusters, HasTables, HasNumbers}
use Rattle.backup_file.proofs.Sizes.{IsForm, IsCluster, IsShort, cluster_of, short_of, all_counted, level_low, level_high, index_small, cluster_small}
use Rattle.backup_file.proofs.Laying.{byte-zeros}

-- both branches are the same
pub if_both : {X : Type 0} (t : Bool) (x y z : X) → (t ≡ true → x ≡ z) → (t ≡ false → y ≡ z) → (if t then x else y) ≡ z
if_both true x y z first second = first refl
if_both false x y z first second = second refl

-- products by the bytes of a cluster
below_of : (p i j : ℕ) → p * i < p * j → i < j
below_of p i j h = elim (cases_lt i j) [ inl less ↦ less | inr more ↦ absurd (omega (arith, mul-le-mul_left p more)) ]

same_of : (p i j : ℕ) → 0 < p → p * i ≡ p * j → i ≡ j
same_of p i j some h =
    let up : i < j + 1 = below_of p i (j + 1) (omega arith) in
    let down : j < i + 1 = below_of p j (i + 1) (omega arith) in
    omega arith

-- a word of zeros names no table
no_table : (bits : ℕ) → 0 < 2 ^ bits → l1_of bits 0 ≡ Ok None
no_table bits some = l1_plain bits 0 (record { low = refl; high = refl; zero_or_stored = λ z. refl }) (omega arith)

module _ (bits size : ℕ) (file : List ℕ) (form : IsForm bits size) (numbers : HasNumbers bits size file) (tables : HasTables bits size file) (bare : directory_in file ≡ None) where
  abbrev p : ℕ
  p = 2 ^ bits

  abbrev table : ℕ
  table = table_clusters bits size

  abbrev blocks : ℕ
  blocks = block_clusters bits size

  abbrev all : ℕ
  all = all_clusters bits size

  cluster : IsCluster bits
  cluster = cluster_of bits form.low form.high

  short : IsShort bits size
  short = short_of bits size form

  level_is : l1_cluster bits size ≡ 1 + table + blocks
  unfolding l1_cluster
  level_is = refl

  all_is : all ≡ l1_cluster bits size + l1_clusters bits size
  unfolding all_clusters
  all_is = refl

  -- what no block counts lies behind the end
  past_blocks : (k : ℕ) → blocks ≤ k / counts_in bits → all ≤ k
  past_blocks k high =
      let counts = cluster.counts in
      let large = cluster.large in
      let some : 0 < counts_in bits = omega arith in
      let whole = all_counted bits size form in
      omega (arith, mul-le-mul_left (counts_in bits) high)

  in_blocks : (k : ℕ) → k / counts_in bits < blocks → k < blocks * counts_in bits
  in_blocks k low =
      let counts = cluster.counts in
      let large = cluster.large in
      let some : 0 < counts_in bits = omega arith in
      let next : k / counts_in bits + 1 ≤ blocks = omega arith in
      omega (arith, mul-le-mul_left (counts_in bits) next)

  -- the blocks that the table names
  block_is : (i : ℕ) → i < blocks → block_at file i ≡ p * (1 + table + i)
  unfolding place_of
  block_is i low =
      let sectors = cluster.sectors in
      let q = p / 512 in
      let whole : p ≡ 512 * q = omega arith in
      let x = 1 + table + i in
      let inside : i < table * words_in bits = omega (arith, short.blocks) in
      let word : u64_at file ((fields_of file).refcount_table_offset + 8 * i) ≡ p * x =
      ap (λ (at : ℕ). u64_at file (at + 8 * i)) numbers.refcount_table_offset ∙ tables.blocks i inside ∙ sym (cond_below i blocks (p * x) 0 low) in
      ap (λ (w : ℕ). w / 512 * 512) word ∙ omega (arith, ap (λ (n : ℕ). n * x) whole)

  no_block : (i : ℕ) → blocks ≤ i → i < table * words_in bits → block_at file i ≡ 0
  unfolding place_of
  no_block i high inside =
      let word : u64_at file ((fields_of file).refcount_table_offset + 8 * i) ≡ 0 =
      ap (λ (at : ℕ). u64_at file (at + 8 * i)) numbers.refcount_table_offset ∙ tables.blocks i inside ∙ sym (cond_above i blocks (p * (1 + table + i)) 0 0 high refl) in
      ap (λ (w : ℕ). w / 512 * 512) word

  -- how often a cluster is counted
  abbrev once : ℕ → ℕ
  once k = if nat_lt k all then 1 else 0

  count_is : (k : ℕ) → k / counts_in bits < blocks → u16_at file (block_at file (k / counts_in bits) + 2 * (k % counts_in bits)) ≡ once k
  unfolding place_of
  count_is k low =
      let counts = cluster.counts in
      let large = cluster.large in
      let some : 0 < counts_in bits = omega arith in
      let b = k / counts_in bits in
      let at : block_at file b + 2 * (k % counts_in bits) ≡ p * (1 + table) + 2 * k = omega (arith, block_is b low, ap (λ (n : ℕ). n * b) counts) in
      ap (λ (n : ℕ). u16_at file n) at ∙ tables.counts k (in_blocks k low)

  counted_by : (k : ℕ) → (if nat_lt (k / counts_in bits) (table * words_in bits) then (if block_at file (k / counts_in bits) == 0 then 0 else u16_at file (block_at file (k / counts_in bits) + 2 * (k % counts_in bits))) else 0) ≡ once k
  counted_by k =
      let b = k / counts_in bits in
      if_both (nat_lt b (table * words_in bits)) (if block_at file b == 0 then 0 else u16_at file (block_at file b + 2 * (k % counts_in bits))) 0 (once k)
      (λ inside. if_both (block_at file b == 0) 0 (u16_at file (block_at file b + 2 * (k % counts_in bits))) (once k)
      (λ none. ⊎_elim
      (λ (low : b < blocks). let large = cluster.large in absurd (omega (arith, block_is b low, eqb-true _ _ none)))
      (λ (high : blocks ≤ b). cond_above k all 1 0 0 (past_blocks k high) refl)
      (cases_lt b blocks))
      (λ there. ⊎_elim
      (λ (low : b < blocks). count_is k low)
      (λ (high : blocks ≤ b). absurd (eqb-false _ _ there (no_block b high (ltb-true _ _ inside))))
      (cases_lt b blocks)))
      (λ outside. cond_above k all 1 0 0 (past_blocks k (omega (arith, short.blocks, ltb-false _ _ outside))) refl)

  pub refcount_is : (k : ℕ) → refcount file k ≡ once k
  unfolding refcount
  refcount_is k = rw (numbers.cluster_bits, numbers.refcount_table_clusters) (counted_by k)

  -- ---- who refers to a cluster

  abbrev who_at : ℕ → Who
  who_at k = if nat_lt k 1 then Head else if nat_lt k (1 + table) then Counts else if nat_lt k (1 + table + blocks) then Block (k - (1 + table)) else Tables

  -- by where the cluster stands
  is_head : (k : ℕ) → k ≡ 0 → who_at k ≡ Head
  is_head k here = sym (cond_below k 1 Head (if nat_lt k (1 + table) then Counts else if nat_lt k (1 + table + blocks) then Block (k - (1 + table)) else Tables) (omega arith))

  past_head : (k : ℕ) → 1 ≤ k → who_at k ≡ (if nat_lt k (1 + table) then Counts else if nat_lt k (1 + table + blocks) then Block (k - (1 + table)) else Tables)
  past_head k past = sym (cond_above k 1 Head (if nat_lt k (1 + table) then Counts else if nat_lt k (1 + table + blocks) then Block (k - (1 + table)) else Tables) (if nat_lt k (1 + table) then Counts else if nat_lt k (1 + table + blocks) then Block (k - (1 + table)) else Tables) past refl)

  is_counts : (k : ℕ) → 1 ≤ k → k < 1 + table → who_at k ≡ Counts
  is_counts k past low = past_head k past ∙ sym (cond_below k (1 + table) Counts (if nat_lt k (1 + table + blocks) then Block (k - (1 + table)) else Tables) low)

  past_counts : (k : ℕ) → 1 + table ≤ k → who_at k ≡ (if nat_lt k (1 + table + blocks) then Block (k - (1 + table)) else Tables)
  past_counts k past =
      past_head k (omega arith)
      ∙ sym (cond_above k (1 + table) Counts (if nat_lt k (1 + table + blocks) then Block (k - (1 + table)) else Tables) (if nat_lt k (1 + table + blocks) then Block (k - (1 + table)) else Tables) past refl)

  is_block : (k i : ℕ) → k ≡ 1 + table + i → i < blocks → who_at k ≡ Block i
  is_block k i here low =
      let same : k - (1 + table) ≡ i = omega arith in
      past_counts k (omega arith) ∙ sym (cond_below k (1 + table + blocks) (Block (k - (1 + table))) Tables (omega arith)) ∙ ap Block same

  is_tables : (k : ℕ) → 1 + table + blocks ≤ k → who_at k ≡ Tables
  is_tables k past = past_counts k (omega arith) ∙ sym (cond_above k (1 + table + blocks) (Block (k - (1 + table))) Tables Tables past refl)

  -- no entry of the first level names a table
  pub none_at : (i : ℕ) → i < l1_needed bits size → table_at file i ≡ Ok None
  none_at i low =
      let large = cluster.large in
      rw (numbers.cluster_bits, numbers.l1_table_offset, tables.l1 i low) (no_table bits (omega arith))

  no_some : (i t : ℕ) → i < (fields_of file).l1_size → table_at file i ≡ Ok (Some t) → ⊥
  no_some i t low is = let none = none_at i (omega (arith, numbers.l1_size)) in absurd (cc)

  -- the one who refers to a cluster, which lies before the end
  refers_only : (a : Who) (k : ℕ) → Refers file a k → (who_at k ≡ a) × (k < all)
  unfolding place_of
  refers_only Head k is = (is_head k is, omega (arith, all_is, level_is))
  refers_only Counts k meets =
      let m = rw (numbers.cluster_bits, numbers.refcount_table_offset, numbers.refcount_table_clusters) at meets in
      let low : 1 < k + 1 = below_of p 1 (k + 1) (omega (arith, m.0)) in
      let high : k < 1 + table = below_of p k (1 + table) (omega (arith, m.1)) in
      (is_counts k (omega arith) high, omega (arith, all_is, level_is))
  refers_only (Block i) k refers =
      let inside : i < table * words_in bits = rw (numbers.cluster_bits, numbers.refcount_table_clusters) at refers.0 in
      let named : block_at file i ≡ p * k = refers.2 ∙ ap (λ (b : ℕ). 2 ^ b * k) numbers.cluster_bits in
      ⊎_elim
      (λ (low : i < blocks).
      let large = cluster.large in
      let here : 1 + table + i ≡ k = same_of p (1 + table + i) k (omega arith) (sym (block_is i low) ∙ named) in
      (is_block k i (sym here) low, omega (arith, all_is, level_is)))
      (λ (high : blocks ≤ i). absurd (refers.1 (no_block i high inside)))
      (cases_lt i blocks)
  refers_only Tables k meets =
      let m = rw (numbers.cluster_bits, numbers.l1_table_offset, numbers.l1_size) at meets in
      let low : l1_cluster bits size < k + 1 = below_of p (l1_cluster bits size) (k + 1) (omega (arith, m.0)) in
      let end : k < l1_cluster bits size + l1_clusters bits size = below_of p k (l1_cluster bits size + l1_clusters bits size) (omega (arith, m.1, level_low bits size form)) in
      (is_tables k (omega (arith, level_is)), omega (arith, all_is))
  refers_only (Table i) k refers = absurd (no_some i (place_of (bits_of file) k) refers.0 refers.1)
  refers_only (Guest i j) k refers = absurd (no_some i refers.0 refers.1 refers.2)

  owner_only : (a : Owner) (k : ℕ) → Owns file a k → (Image (who_at k) ≡ a) × (k < all)
  owner_only (Image who) k refers = (ap (λ (w : Who). Image w) (refers_only who k refers).0, (refers_only who k refers).1)
  owner_only (Bitmaps held) k holds = absurd ((stores_nothing file bare).held held k holds)

  -- and each that lies there has one
  counts_refer : (k : ℕ) → 1 ≤ k → k < 1 + table → Refers file Counts k
  unfolding place_of
  counts_refer k past low =
      let large = cluster.large in
      let next : k + 1 ≤ 1 + table = omega arith in
      rw (numbers.cluster_bits, numbers.refcount_table_offset, numbers.refcount_table_clusters) (omega (arith, mul-le-mul_left p past), omega (arith, mul-le-mul_left p next))

  block_refers : (k i : ℕ) → k ≡ 1 + table + i → i < blocks → Refers file (Block i) k
  unfolding place_of
  block_refers k i here low =
      let large = cluster.large in
      let inside : i < table * words_in bits = omega (arith, short.blocks) in
      let named : block_at file i ≡ p * k = block_is i low ∙ ap (λ (n : ℕ). p * n) (sym here) in
      let some : 0 < p * k = omega (arith, ap (λ (n : ℕ). p * n) here) in
      rw (numbers.cluster_bits, numbers.refcount_table_clusters) (inside, λ none. omega arith, named)

  tables_refer : (k : ℕ) → 1 + table + blocks ≤ k → k < all → Refers file Tables k
  unfolding place_of
  tables_refer k past low =
      let large = cluster.large in
      let from : l1_cluster bits size ≤ k = omega (arith, level_is) in
      let next : k + 1 ≤ l1_cluster bits size + l1_clusters bits size = omega (arith, all_is) in
      rw (numbers.cluster_bits, numbers.l1_table_offset, numbers.l1_size) (omega (arith, mul-le-mul_left p from), omega (arith, mul-le-mul_left p next, level_high bits size form))

  refers_some : (k : ℕ) → k < all → (a : Who) × Refers file a k
  refers_some k low = ⊎_elim
      (λ (head : k < 1). (Head, omega arith))
      (λ (past : 1 ≤ k). ⊎_elim
      (λ (counts : k < 1 + table). (Counts, counts_refer k past counts))
      (λ (over : 1 + table ≤ k). ⊎_elim
      (λ (block : k < 1 + table + blocks). (Block (k - (1 + table)), block_refers k (k - (1 + table)) (omega arith) (omega arith)))
      (λ (behind : 1 + table + blocks ≤ k). (Tables, tables_refer k behind low))
      (cases_lt k (1 + table + blocks)))
      (cases_lt k (1 + table)))
      (cases_lt k 1)

  -- each cluster of the file has one, and is counted once; no other has one, or is counted
  counted_once : (a : Owner) (k : ℕ) → Owns file a k → refcount file k ≡ 1
  counted_once a k owns = refcount_is k ∙ sym (cond_below k all 1 0 (owner_only a k owns).1)

  reaches : (k : ℕ) → k < all → k < reach_of file
  reaches k low =
      let large = cluster.large in
      let whole = all_counted bits size form in
      let t = table * words_in bits in
      let least : all ≤ 2 ^ 30 = omega (arith, short.whole, mul-le 1 all p all (omega arith) (omega arith)) in
      let most : all ≤ t * counts_in bits = omega (arith, mul-le blocks (counts_in bits) t (counts_in bits) short.blocks (omega arith)) in
      rw (numbers.cluster_bits, numbers.refcount_table_clusters) (omega arith)

  pub new_is_tight : Tight file
  new_is_tight = record {
    counted = record {
      once = λ a b k first second. sym (owner_only a k first).0 ∙ (owner_only b k second).0;
      below = λ a k owns. reaches k (owner_only a k owns).1;
      counted = λ a k owns. omega (arith, counted_once a k owns);
    };
    ones = counted_once;
    others = λ k nobody. ⊎_elim
        (λ (low : k < all). let some = refers_some k low in absurd (nobody (Image some.0) some.1))
        (λ (high : all ≤ k). refcount_is k ∙ sym (cond_above k all 1 0 0 high refl))
        (cases_lt k all);
  }

  -- ---- the disk

  -- each of its clusters is a hole
  pub new_is_empty : (n : ℕ) → n < clusters_in bits size → entry_at file n ≡ Ok Hole
  unfolding entry_at
  new_is_empty n low =
      ap (λ (b : ℕ). entry_under file (table_at file (n / words_in b)) (n % words_in b)) numbers.cluster_bits
      ∙ ap (λ (t : Result (Option ℕ) EntryFault). entry_under file t (n % words_in bits)) (none_at (n / words_in bits) (index_small bits size n form.low form.high low))

  pub new_stands : (part : Part) → Passes part file → Stands part file (replicate size 0)
  new_stands part passes = record {
    passes = passes;
    size = length-replicate {A = ℕ} size 0 ∙ sym numbers.disk_size;
    bytes = λ x low.
        let inside : x < size = omega (arith, length-replicate {A = ℕ} size 0) in
        let hole : entry_at file (x / 2 ^ bits_of file) ≡ Ok Hole =
        ap (λ (b : ℕ). entry_at file (x / 2 ^ b)) numbers.cluster_bits ∙ new_is_empty (x / 2 ^ bits) (cluster_small bits size x form.low form.high inside) in
        subst (λ (e : Result L2Entry EntryFault). ReadsAs file e (x % 2 ^ bits_of file) (byte (replicate size 0) x)) (sym hole) (byte-zeros size x);
  }
