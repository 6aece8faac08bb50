-- A new cluster at the file's end, and the word that names it.
use Rattle.std.proofs.Common.{◌≡◌, ◌≢◌, ℕ, ◌+◌, ◌-◌, ◌*◌, ◌/◌, ◌%◌, ◌^◌, ◌<◌, ◌≤◌, ◌⊎◌, inl, inr, List, length, replicate, refl, sym, ap, subst, ◌∙◌, arith}
use Rattle.std.specs.Int.{w64, from_be_bytes, to_be_bytes}
use Rattle.std.proofs.lemmas.Nat.{from_be_bytes-to_be_bytes_8}
use Rattle.std.proofs.lemmas.Bool.{cases_lt, cases_eq}
use Rattle.std.proofs.lemmas.List.{length-replicate, get_or-replicate}
use Rattle.disk_model.specs.Files.{byte, overlay, u64_at, number_at}
use Rattle.disk_model.proofs.Bytes.{length-overlay, length-overlay_inside, byte-overlay_in, is_reading}
use Rattle.disk_model.proofs.Words.{number-overlay_same}
use Rattle.qc_layout.specs.Entries.{offset_in}
use Rattle.qc_layout.specs.FirstForm.{head_of, l1_offset, host_of, table_offset, clusters_of, disk_byte, disk_of, disk_size, IsHeader, IsFirstForm, IsCluster, IsPlainEntry, IsRest}
use Rattle.qback_top.specs.Open.{Spares, KeepsRest, entry_of, NamesNew}
use Rattle.qback_top.proofs.Named.{entry_none, entry_some}
use Rattle.qback_top.proofs.Disk.{host_none, host_some, cluster_inside, stored_byte, hole_byte, clusters_below}
use Rattle.qback_top.proofs.Tables.{ChangesOnly, changes_overlay, LiesApart, u64_kept, head_kept, parts_apart, rest_l1, rest_table, SameTables, same_l1, same_size, same_clusters, same_l1_entry, same_host, form_kept, cluster_grows, disk_byte_same, disk_same, spares, goes_kept}

-- ---- words

-- a word that was written reads back
pub word_there : (f : List ℕ) (o v : ℕ) → v < 2 ^ 64 → u64_at (overlay f o (to_be_bytes w64 v)) o ≡ v
word_there f o v small = number-overlay_same w64 f o (to_be_bytes w64 v) refl ∙ from_be_bytes-to_be_bytes_8 v small

-- eight zeros are 0
pub u64_zeros : (f : List ℕ) (o : ℕ) → ((i : ℕ) → i < 8 → byte f (o + i) ≡ 0) → u64_at f o ≡ 0
unfolding number_at
u64_zeros f o zeros = ap (from_be_bytes w64) (sym (is_reading f (replicate 8 0) o 8 (length-replicate {A = ℕ} 8 0) (λ i lt. get_or-replicate 8 i 0 0 lt ∙ sym (zeros i lt))))

pub word_offset : (h : ℕ) → h % 512 ≡ 0 → h < 2 ^ 56 → offset_in (h + 2 ^ 63) ≡ h
word_offset h low small = omega arith

pub word_plain : (h : ℕ) → h % 512 ≡ 0 → h < 2 ^ 56 → 0 < h → IsPlainEntry (h + 2 ^ 63)
word_plain h low small some = record { low = omega arith; high = omega arith; zero_or_stored = λ z. absurd (omega (arith, word_offset h low small)) }

low_bits : (h : ℕ) → h % 4096 ≡ 0 → h % 512 ≡ 0
low_bits h whole = omega arith

-- ---- a cluster of zeros at the end

-- a file of whole clusters that got one more, of zeros
pub record Grown (f g : List ℕ) : Type 0 where
  pub form : IsFirstForm f
  pub is : g ≡ overlay f (length f) (replicate 4096 0)

module _ (f g : List ℕ) (grown : Grown f g) where
  abbrev zeros : List ℕ
  zeros = replicate 4096 0

  zeros_long : length zeros ≡ 4096
  zeros_long = length-replicate {A = ℕ} 4096 0

  pub grown_length : length g ≡ length f + 4096
  grown_length = ap length grown.is ∙ omega (arith, length-overlay f (length f) zeros (omega (arith, zeros_long)), zeros_long)

  pub grown_changes : ChangesOnly (length f) 4096 f g
  grown_changes = subst (λ (n : ℕ). ChangesOnly (length f) n f g) zeros_long (subst (ChangesOnly (length f) (length zeros) f) (sym grown.is) (changes_overlay (length f) zeros f))

  pub grown_tables : SameTables f g
  grown_tables =
      let form = grown.form in
      let l1-in = cluster_inside f (l1_offset f) form form.l1 in
      record {
        longer = omega (arith, grown_length);
        whole = let w = form.whole in omega (arith, grown_length);
        head = head_kept (length f) 4096 f g grown_changes form.long;
        l1 = u64_kept (length f) 4096 f g (l1_offset f) grown_changes (inl (omega arith));
        entries = λ n lt some.
            let table-in = cluster_inside f (table_offset f) form (form.table some) in
            u64_kept (length f) 4096 f g (table_offset f + 8 * n) grown_changes (inl (omega arith));
      }

  pub grown_form : IsFirstForm g
  grown_form = form_kept f g grown.form grown_tables

  -- it holds zeros
  pub grown_zeros : (i : ℕ) → i < 4096 → byte g (length f + i) ≡ 0
  grown_zeros i lt =
      let place : length f + i - length f ≡ i = omega arith in
      ap (λ (h : List ℕ). byte h (length f + i)) grown.is ∙ byte-overlay_in f (length f) zeros (length f + i) (omega arith) (omega (arith, zeros_long)) ∙ ap (byte zeros) place ∙ get_or-replicate 4096 i 0 0 lt

  pub grown_cluster : IsCluster g (length f)
  grown_cluster = record { aligned = grown.form.whole; some = let l = grown.form.long in omega arith; inside = omega (arith, grown_length) }

  -- the old bytes stay
  pub grown_bytes : (i : ℕ) → IsRest f i → byte g i ≡ byte f i
  grown_bytes i rest = grown_changes.same i (inl rest.inside)

  pub grown_spared : Spares f g
  grown_spared = let s = grown_tables in spares (length f) 4096 f g grown_changes (λ i rest. inl rest.inside) (goes_kept f g s.head s.l1 s.entries)

  -- a byte of a stored cluster stays
  pub grown_stays : (m : ℕ) → m < clusters_of f → host_of f m ≢ 0 → (i : ℕ) → i < 4096 → byte g (host_of f m + i) ≡ byte f (host_of f m + i)
  grown_stays m below some i lt = let inside = cluster_inside f (host_of f m) grown.form (grown.form.hosts m below some) in grown_changes.same (host_of f m + i) (inl (omega arith))

  grown_below : (x : ℕ) → x < disk_size f → x / 4096 < clusters_of f
  grown_below x small = let limit = grown.form.header.size_limit in omega arith

  pub grown_disk : disk_of g ≡ disk_of f
  grown_disk = disk_same f g (same_size f g grown_tables.head) (λ x small.
      let below = grown_below x small in
      disk_byte_same f g x (same_host f g grown_tables (x / 4096) (clusters_below f (x / 4096) grown.form below)) (λ some. grown_stays (x / 4096) below some (x % 4096) (omega arith)))

-- the word of a new cluster names it
names_word : (f : List ℕ) (word : ℕ) → IsFirstForm f → length f < 2 ^ 56 → word ≡ length f + 2 ^ 63 → NamesNew (length f) word
names_word f word form small is =
    let whole = form.whole in
    let long = form.long in
    let offset : offset_in word ≡ length f = ap offset_in is ∙ word_offset (length f) (low_bits (length f) whole) small in
    record { some = omega (arith, offset); place = omega (arith, offset); spelled = is ∙ ap (λ (k : ℕ). k + 2 ^ 63) (sym offset) }

-- the only cluster between two ends that lie one cluster apart
one_cluster : (end more o : ℕ) → end % 4096 ≡ 0 → more ≡ end + 4096 → end ≤ o → o < more → o % 4096 ≡ 0 → end ≡ o
one_cluster end more o whole is low high aligned = omega arith

-- ---- a second-level table

-- g has the new cluster as its second-level table, where there was none
pub record Tabled (f mid g : List ℕ) : Type 0 where
  pub grown : Grown f mid
  pub none : table_offset f ≡ 0
  pub small : length f < 2 ^ 56
  pub is : g ≡ overlay mid (l1_offset f) (to_be_bytes w64 (length f + 2 ^ 63))

module _ (f mid g : List ℕ) (t : Tabled f mid g) where
  abbrev form : IsFirstForm f
  form = t.grown.form

  abbrev word : List ℕ
  word = to_be_bytes w64 (length f + 2 ^ 63)

  l1_in : l1_offset f + 4096 ≤ length f
  l1_in = cluster_inside f (l1_offset f) form form.l1

  changes : ChangesOnly (l1_offset f) 8 mid g
  changes = subst (ChangesOnly (l1_offset f) 8 mid) (sym t.is) (changes_overlay (l1_offset f) word mid)

  pub tabled_length : length g ≡ length mid
  tabled_length = ap length t.is ∙ length-overlay_inside mid (l1_offset f) word (omega (arith, grown_length f mid t.grown, l1_in))

  pub tabled_head : head_of g ≡ head_of f
  tabled_head =
      let a = form.l1.aligned in let s = form.l1.some in
      head_kept (l1_offset f) 8 mid g changes (omega arith) ∙ (grown_tables f mid t.grown).head

  tabled_entry : u64_at g (l1_offset f) ≡ length f + 2 ^ 63
  tabled_entry = ap (λ (h : List ℕ). u64_at h (l1_offset f)) t.is ∙ word_there mid (l1_offset f) (length f + 2 ^ 63) (let s = t.small in omega arith)

  pub tabled_table : table_offset g ≡ length f
  tabled_table = ap (λ (h : List ℕ). offset_in (u64_at g (u64_at h 40))) tabled_head ∙ ap offset_in tabled_entry ∙ word_offset (length f) (low_bits (length f) form.whole) t.small

  pub tabled_some : table_offset g ≢ 0
  tabled_some none = let l = form.long in absurd (omega (arith, tabled_table, none))

  tabled_zero : (m : ℕ) → m < 512 → u64_at g (table_offset g + 8 * m) ≡ 0
  tabled_zero m lt =
      ap (λ (k : ℕ). u64_at g (k + 8 * m)) tabled_table
      ∙ u64_zeros g (length f + 8 * m) (λ i low.
      let place : length f + 8 * m + i ≡ length f + (8 * m + i) = omega arith in
      ap (byte g) place ∙ changes.same (length f + (8 * m + i)) (inr (omega (arith, l1_in))) ∙ grown_zeros f mid t.grown (8 * m + i) (omega arith))

  -- no cluster is stored
  pub tabled_hosts : (m : ℕ) → m < 512 → host_of g m ≡ 0
  tabled_hosts m lt = sym (host_some g m tabled_some) ∙ ap offset_in (tabled_zero m lt)

  pub tabled_same : (m : ℕ) → m < 512 → host_of g m ≡ host_of f m
  tabled_same m lt = tabled_hosts m lt ∙ host_none f m t.none

  tabled_l1 : l1_offset g ≡ l1_offset f
  tabled_l1 = same_l1 f g tabled_head

  tabled_below : (m : ℕ) → m < clusters_of g → m < 512
  tabled_below m lt = clusters_below f m form (rw (same_clusters f g tabled_head) at lt)

  tabled_longer : length f ≤ length g
  tabled_longer = omega (arith, tabled_length, grown_length f mid t.grown)

  pub tabled_form : IsFirstForm g
  tabled_form = record {
    long = let l = form.long in omega (arith, tabled_longer);
    whole = let w = form.whole in omega (arith, tabled_length, grown_length f mid t.grown);
    header = subst IsHeader (sym tabled_head) form.header;
    l1 = subst (IsCluster g) (sym tabled_l1) (cluster_grows f g (l1_offset f) tabled_longer form.l1);
    l1_entry = subst (λ (o : ℕ). IsPlainEntry (u64_at g o)) (sym tabled_l1) (subst IsPlainEntry (sym tabled_entry) (word_plain (length f) (low_bits (length f) form.whole) t.small (let l = form.long in omega arith)));
    table = λ some. subst (IsCluster g) (sym tabled_table) (record { aligned = form.whole; some = let l = form.long in omega arith; inside = omega (arith, tabled_length, grown_length f mid t.grown) });
    table_apart = λ same. absurd (omega (arith, same, tabled_table, tabled_l1, l1_in));
    entries = λ m lt some. subst IsPlainEntry (sym (tabled_zero m (tabled_below m lt))) (record { low = refl; high = refl; zero_or_stored = λ z. refl });
    hosts = λ m lt some. absurd (some (tabled_hosts m (tabled_below m lt)));
    hosts_apart = λ m lt some. absurd (some (tabled_hosts m (tabled_below m lt)));
    distinct = λ m n mn lt some. absurd (some (tabled_hosts m (omega (arith, mn, tabled_below n lt))));
  }

  pub tabled_disk : disk_of g ≡ disk_of f
  tabled_disk = disk_same f g (same_size f g tabled_head) (λ x small.
      let limit = form.header.size_limit in
      let below : x / 4096 < 512 = omega arith in
      hole_byte g x (tabled_hosts (x / 4096) below) ∙ sym (hole_byte f x (sym (host_none f (x / 4096) t.none))))

  pub tabled_keeps : KeepsRest f g
  tabled_keeps = record {
    spares = record {
      longer = tabled_longer;
      bytes = λ i rest. changes.same i (rest_l1 f i rest) ∙ grown_bytes f mid t.grown i rest;
      tables = record {
        head = tabled_head;
        table = inr (t.none, names_word f (u64_at g (l1_offset f)) form t.small tabled_entry);
        entries = λ n lt. inl (entry_some g n tabled_some ∙ tabled_zero n lt ∙ sym (entry_none f n t.none));
      };
    };
    rest = λ i rest. record {
      inside = let a = rest.inside in omega (arith, tabled_longer);
      not_l1 = λ from to. rest.not_l1 (omega (arith, tabled_l1)) (omega (arith, tabled_l1));
      not_table = λ some from to. (let a = rest.inside in absurd (omega (arith, tabled_table)));
      not_stored = λ n below some from to. absurd (some (tabled_hosts n (tabled_below n below)));
    };
    grown = λ o some low high whole. inl (tabled_table ∙ one_cluster (length f) (length g) o form.whole (omega (arith, tabled_length, grown_length f mid t.grown)) low high whole);
  }

-- ---- an entry for a new cluster

-- g has an entry for cluster n, which was a hole: the new cluster
pub record Linked (f mid g : List ℕ) (n : ℕ) : Type 0 where
  pub grown : Grown f mid
  pub below : n < clusters_of f
  pub some : table_offset f ≢ 0
  pub hole : host_of f n ≡ 0
  pub small : length f < 2 ^ 56
  pub is : g ≡ overlay mid (table_offset f + 8 * n) (to_be_bytes w64 (length f + 2 ^ 63))

module _ (f mid g : List ℕ) (n : ℕ) (t : Linked f mid g n) where
  abbrev old : IsFirstForm f
  old = t.grown.form

  abbrev entry : List ℕ
  entry = to_be_bytes w64 (length f + 2 ^ 63)

  table_in : table_offset f + 4096 ≤ length f
  table_in = cluster_inside f (table_offset f) old (old.table t.some)

  n_small : n < 512
  n_small = clusters_below f n old t.below

  entry_changes : ChangesOnly (table_offset f + 8 * n) 8 mid g
  entry_changes = subst (ChangesOnly (table_offset f + 8 * n) 8 mid) (sym t.is) (changes_overlay (table_offset f + 8 * n) entry mid)

  pub linked_length : length g ≡ length mid
  linked_length = ap length t.is ∙ length-overlay_inside mid (table_offset f + 8 * n) entry (omega (arith, grown_length f mid t.grown, table_in, n_small))

  linked_longer : length f ≤ length g
  linked_longer = omega (arith, linked_length, grown_length f mid t.grown)

  pub linked_head : head_of g ≡ head_of f
  linked_head =
      let table = old.table t.some in
      let a = table.aligned in let s = table.some in
      head_kept (table_offset f + 8 * n) 8 mid g entry_changes (omega arith) ∙ (grown_tables f mid t.grown).head

  linked_l1_is : l1_offset g ≡ l1_offset f
  linked_l1_is = same_l1 f g linked_head

  linked_l1_word : u64_at g (l1_offset f) ≡ u64_at f (l1_offset f)
  linked_l1_word =
      let table = old.table t.some in
      let apart : LiesApart (table_offset f + 8 * n) 8 (l1_offset f) 8 =
      parts_apart (l1_offset f) (table_offset f) (table_offset f + 8 * n) 8 (l1_offset f) 8 old.l1.aligned table.aligned (λ same. old.table_apart (sym same)) (omega arith) (omega arith) (omega arith) (omega (arith, n_small)) in
      u64_kept (table_offset f + 8 * n) 8 mid g (l1_offset f) entry_changes apart ∙ (grown_tables f mid t.grown).l1

  linked_l1 : u64_at g (l1_offset g) ≡ u64_at f (l1_offset f)
  linked_l1 = same_l1_entry f g linked_head linked_l1_word

  linked_table : table_offset g ≡ table_offset f
  linked_table = ap offset_in linked_l1

  linked_some : table_offset g ≢ 0
  linked_some none = t.some (sym linked_table ∙ none)

  linked_others : (m : ℕ) → m < 512 → m ≢ n → u64_at g (table_offset f + 8 * m) ≡ u64_at f (table_offset f + 8 * m)
  linked_others m lt other =
      let apart : LiesApart (table_offset f + 8 * n) 8 (table_offset f + 8 * m) 8 = elim (cases_lt m n) [ inl before ↦ inl (omega arith) | inr behind ↦ inr (omega (arith, other)) ] in
      u64_kept (table_offset f + 8 * n) 8 mid g (table_offset f + 8 * m) entry_changes apart ∙ (grown_tables f mid t.grown).entries m lt t.some

  linked_entry : u64_at g (table_offset f + 8 * n) ≡ length f + 2 ^ 63
  linked_entry = ap (λ (h : List ℕ). u64_at h (table_offset f + 8 * n)) t.is ∙ word_there mid (table_offset f + 8 * n) (length f + 2 ^ 63) (let s = t.small in omega arith)

  linked_other : (m : ℕ) → m < 512 → m ≢ n → host_of g m ≡ host_of f m
  linked_other m lt other =
      sym (host_some g m linked_some) ∙ ap (λ (k : ℕ). offset_in (u64_at g (k + 8 * m))) linked_table ∙ ap offset_in (linked_others m lt other) ∙ host_some f m t.some

  pub linked_host : host_of g n ≡ length f
  linked_host =
      sym (host_some g n linked_some) ∙ ap (λ (k : ℕ). offset_in (u64_at g (k + 8 * n))) linked_table ∙ ap offset_in linked_entry ∙ word_offset (length f) (low_bits (length f) old.whole) t.small

  -- where a cluster is stored: as before, or in the new cluster
  linked_where : (m : ℕ) → m < clusters_of f → ((m ≢ n) × (host_of g m ≡ host_of f m)) ⊎ ((m ≡ n) × (host_of g m ≡ length f))
  linked_where m lt = elim (cases_eq m n) [
    | inl same ↦ inr (same, ap (host_of g) same ∙ linked_host)
    | inr other ↦ inl (other, linked_other m (clusters_below f m old lt) other)
  ]

  linked_below : (m : ℕ) → m < clusters_of g → m < clusters_of f
  linked_below m lt = rw (same_clusters f g linked_head) at lt

  new_cluster : IsCluster g (length f)
  new_cluster = record { aligned = old.whole; some = let l = old.long in omega arith; inside = omega (arith, linked_length, grown_length f mid t.grown) }

  -- no cluster that was stored is the new one
  not_new : (m : ℕ) → m < clusters_of f → host_of f m ≢ 0 → host_of f m ≢ length f
  not_new m lt some same = let c = old.hosts m lt some in let i = c.inside in absurd (omega arith)

  -- two clusters of the disk aren't stored in one
  linked_distinct : (m k : ℕ) → m < k → k < clusters_of f → host_of g m ≢ 0 → host_of g m ≢ host_of g k
  linked_distinct m k mk lt ne z =
      let ml : m < clusters_of f = omega arith in
      elim (linked_where m ml) [
        | inl old_m ↦
            let some : host_of f m ≢ 0 = λ y. ne (old_m.1 ∙ y) in
            elim (linked_where k lt) [
              | inl old_k ↦ old.distinct m k mk lt some (sym old_m.1 ∙ z ∙ old_k.1)
              | inr new_k ↦ not_new m ml some (sym old_m.1 ∙ z ∙ new_k.1)
            ]
        | inr new_m ↦ elim (linked_where k lt) [
          | inl old_k ↦
              let l = old.long in
              let is : host_of f k ≡ length f = sym old_k.1 ∙ sym z ∙ new_m.1 in
              not_new k lt (λ none. absurd (omega (arith, is, none))) is
          | inr new_k ↦ absurd (omega (arith, new_m.0, new_k.0, mk))
        ]
      ]

  pub linked_form : IsFirstForm g
  linked_form = record {
    long = let l = old.long in omega (arith, linked_longer);
    whole = let w = old.whole in omega (arith, linked_length, grown_length f mid t.grown);
    header = subst IsHeader (sym linked_head) old.header;
    l1 = subst (IsCluster g) (sym linked_l1_is) (cluster_grows f g (l1_offset f) linked_longer old.l1);
    l1_entry = subst IsPlainEntry (sym linked_l1) old.l1_entry;
    table = λ some. subst (IsCluster g) (sym linked_table) (cluster_grows f g (table_offset f) linked_longer (old.table t.some));
    table_apart = λ same. old.table_apart (sym linked_table ∙ same ∙ linked_l1_is);
    entries = λ m lt some. elim (cases_eq m n) [
      | inl same ↦
          let is : u64_at g (table_offset g + 8 * m) ≡ length f + 2 ^ 63 = ap (λ (k : ℕ). u64_at g (k + 8 * m)) linked_table ∙ ap (λ (k : ℕ). u64_at g (table_offset f + 8 * k)) same ∙ linked_entry in
          subst IsPlainEntry (sym is) (word_plain (length f) (low_bits (length f) old.whole) t.small (let l = old.long in omega arith))
      | inr other ↦
          let is : u64_at g (table_offset g + 8 * m) ≡ u64_at f (table_offset f + 8 * m) = ap (λ (k : ℕ). u64_at g (k + 8 * m)) linked_table ∙ linked_others m (clusters_below f m old (linked_below m lt)) other in
          subst IsPlainEntry (sym is) (old.entries m (linked_below m lt) t.some)
    ];
    hosts = λ m lt ne. elim (linked_where m (linked_below m lt)) [
      | inl was ↦ subst (IsCluster g) (sym was.1) (cluster_grows f g (host_of f m) linked_longer (old.hosts m (linked_below m lt) (λ z. ne (was.1 ∙ z))))
      | inr new ↦ subst (IsCluster g) (sym new.1) new_cluster
    ];
    hosts_apart = λ m lt ne. elim (linked_where m (linked_below m lt)) [
      | inl was ↦ let a = old.hosts_apart m (linked_below m lt) (λ z. ne (was.1 ∙ z)) in ((λ z. a.0 (sym was.1 ∙ z ∙ linked_l1_is)), (λ z. a.1 (sym was.1 ∙ z ∙ linked_table)))
      | inr new ↦ (
        (λ z. let l1 = old.l1.inside in absurd (omega (arith, new.1, z, linked_l1_is))),
        (λ z. absurd (omega (arith, new.1, z, linked_table, table_in))),
      )
    ];
    distinct = λ m k mk lt ne. linked_distinct m k mk (linked_below k lt) ne;
  }

  linked_byte : (x : ℕ) → x < disk_size f → disk_byte g x ≡ disk_byte f x
  linked_byte x small =
      let limit = old.header.size_limit in
      let below : x / 4096 < clusters_of f = omega arith in
      let low : x % 4096 < 4096 = omega arith in
      elim (linked_where (x / 4096) below) [
        | inl was ↦ disk_byte_same f g x was.1 (λ some.
            let c = old.hosts (x / 4096) below some in
            let away = old.hosts_apart (x / 4096) below some in
            let table = old.table t.some in
            let apart = parts_apart (host_of f (x / 4096)) (table_offset f) (table_offset f + 8 * n) 8 (host_of f (x / 4096) + x % 4096) 1 c.aligned table.aligned away.1 (omega arith) (omega arith) (omega arith) (omega (arith, n_small)) in
            entry_changes.same (host_of f (x / 4096) + x % 4096) (elim apart [ inl before ↦ inl (omega arith) | inr behind ↦ inr behind ])
            ∙ grown_stays f mid t.grown (x / 4096) below some (x % 4096) low)
        | inr new ↦
            let was : host_of f (x / 4096) ≡ 0 = ap (host_of f) new.0 ∙ t.hole in
            let l = old.long in
            let some : host_of g (x / 4096) ≢ 0 = λ z. absurd (omega (arith, new.1, z)) in
            stored_byte g x some ∙ ap (λ (k : ℕ). byte g (k + x % 4096)) new.1
            ∙ entry_changes.same (length f + x % 4096) (inr (omega (arith, table_in, n_small)))
            ∙ grown_zeros f mid t.grown (x % 4096) low ∙ sym (hole_byte f x was)
      ]

  pub linked_disk : disk_of g ≡ disk_of f
  linked_disk = disk_same f g (same_size f g linked_head) linked_byte

  pub linked_keeps : KeepsRest f g
  linked_keeps = record {
    spares = record {
      longer = linked_longer;
      bytes = λ i rest. entry_changes.same i (rest_table f i (table_offset f + 8 * n) 8 rest t.some (omega arith) (omega (arith, n_small))) ∙ grown_bytes f mid t.grown i rest;
      tables = record {
        head = linked_head;
        table = inl linked_l1_word;
        entries = λ m lt. elim (cases_eq m n) [
          | inl same ↦
              let entry_is : entry_of g m ≡ length f + 2 ^ 63 = entry_some g m linked_some ∙ ap (λ (k : ℕ). u64_at g (k + 8 * m)) linked_table ∙ ap (λ (k : ℕ). u64_at g (table_offset f + 8 * k)) same ∙ linked_entry in
              let old_is : entry_of f m ≡ 0 = ap (entry_of f) same ∙ entry_some f n t.some ∙ (old.entries n t.below t.some).zero_or_stored (host_some f n t.some ∙ t.hole) in
              inr (subst (λ (k : ℕ). k < clusters_of f) (sym same) t.below, old_is, names_word f (entry_of g m) old t.small entry_is)
          | inr other ↦ inl (entry_some g m linked_some ∙ ap (λ (k : ℕ). u64_at g (k + 8 * m)) linked_table ∙ linked_others m lt other ∙ sym (entry_some f m t.some))
        ];
      };
    };
    rest = λ i rest. record {
      inside = let a = rest.inside in omega (arith, linked_longer);
      not_l1 = λ from to. rest.not_l1 (omega (arith, linked_l1_is)) (omega (arith, linked_l1_is));
      not_table = λ some from to. rest.not_table t.some (omega (arith, linked_table)) (omega (arith, linked_table));
      not_stored = λ m below some from to. elim (linked_where m (linked_below m below)) [
        | inl was ↦ rest.not_stored m (linked_below m below) (λ z. some (was.1 ∙ z)) (omega (arith, was.1)) (omega (arith, was.1))
        | inr new ↦ let a = rest.inside in absurd (omega (arith, new.1))
      ];
    };
    grown = λ o some low high whole. inr (n, t.below, linked_host ∙ one_cluster (length f) (length g) o old.whole (omega (arith, linked_length, grown_length f mid t.grown)) low high whole);
  }
