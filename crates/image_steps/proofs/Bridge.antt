-- What an opening's rules say of a file, and what this crate says of it.
use Rattle.std.proofs.Common.{◌≡◌, inl, inr, ℕ, ◌+◌, ◌*◌, ◌/◌, ◌%◌, ◌^◌, ◌<◌, ◌≤◌, max, List, length, Bool, true, false, Some, None, Ok, refl, sym, ap, ◌∙◌, subst, arith}
use Rattle.std.specs.Prelude.{nat_lt, ◌==◌, if◌then◌else◌}
use Rattle.std.proofs.lemmas.Bool.{cases_eq, cases_lt, ne_eqb, lt-ltb, ltb-true}
use Rattle.std.proofs.Math.Nat.{div-add-mod, mod-lt}
use Rattle.std.specs.Int.{w16}
use Rattle.disk_model.specs.Files.{u16_at, u64_at}
use Rattle.disk_model.proofs.Laws.{reading_same, number-past}
use Rattle.qc_layout.specs.declared.header.Header.{Header}
use Rattle.qc_layout.specs.declared.header.Part.{Part}
use Rattle.qc_layout.specs.Entries.{l1_of, l2_of, offset_in}
use Rattle.qc_layout.specs.Header.{fields_of}
use Rattle.qc_layout.specs.Extensions.{list_end}
use Rattle.qc_layout.specs.Spelling.{IsHeaderOf}
use Rattle.qc_layout.specs.Laws.{BeginAlike}
use Rattle.qc_layout.specs.Disks.{bits_of, place_of, counts_in, blocks_in, block_at, table_at, refcount, reach_of}
use Rattle.qc_layout.specs.Owners.{Held, HostIs, TablesCounted}
use Rattle.qc_layout.specs.Owners as owners
use Rattle.qc_layout.specs.Room.{TablesPass, IsInOrder}
use Rattle.qc_layout.proofs.Starts.{alike_fields, header_from_start}
use Rattle.image_model.specs.Clusters.{Shape, size, per, each, place, offset, Who, Head, Counts, Block, Tables, Table, Guest, Bitmaps, IsTable, Refers, IsCounted, AllCounted, IsOffset, IsPlace, Forms, IsShape, SameIn, IsSafe}
use Rattle.image_steps.proofs.Places.{place_zero, place_some, place_step}
use Rattle.image_steps.proofs.Standing.{same_index}
use Rattle.image_steps.proofs.Words.{IsPlain1, IsPlain2, offset_same, l1_at, l1_some, l1_says, l2_order, l2_host, l2_back, place_is, words_are, counts_are, whole, table_plain, guest_plain}

-- the numbers of a file's own header
pub record IsHeaded (s : Shape) (file : List ℕ) : Type 0 where
  pub some : 0 < s.sectors
  pub cluster : 2 ^ bits_of file ≡ size s
  pub counts : (fields_of file).refcount_table_offset ≡ s.counts
  pub clusters : (fields_of file).refcount_table_clusters * per s ≡ s.blocks
  pub blocks : blocks_in file ≡ s.blocks
  pub l1 : (fields_of file).l1_table_offset ≡ s.l1
  pub tables : (fields_of file).l1_size ≡ s.tables
  pub reach : reach_of file ≡ s.reach

-- the same of the base, where its first cluster is the base's
pub headed : (s : Shape) (file : List ℕ) → IsShape s → fields_of file ≡ fields_of s.base → IsHeaded s file
headed s file shape same = record {
  some = shape.some;
  cluster = rw (bits_of, same) shape.cluster;
  counts = rw same shape.counts;
  clusters = rw same (ap (λ (w : ℕ). (fields_of s.base).refcount_table_clusters * w) (sym (words_are s shape.some (bits_of s.base) shape.cluster)) ∙ shape.blocks);
  blocks = rw (bits_of, same) shape.blocks;
  l1 = rw same shape.l1;
  tables = rw same shape.tables;
  reach = rw (bits_of, same) shape.reach;
}

by_sectors_of : (s : Shape) (w k : ℕ) → w ≡ place s k → w / 512 * 512 ≡ w
unfolding place
by_sectors_of s w k is = omega (arith, is)

if_more : (a b : Bool) (x : ℕ) → 0 < (if a then (if b then 0 else x) else 0) → (a ≡ true) × (b ≡ false) × ((if a then (if b then 0 else x) else 0) ≡ x)
if_more true true x more = absurd (omega (arith, more))
if_more true false x more = (refl, refl, refl)
if_more false b x more = absurd (omega (arith, more))

-- ---- owners

abbrev pub embed : owners.Who → Who
embed owners.Head = Head
embed owners.Counts = Counts
embed (owners.Block i) = Block i
embed owners.Tables = Tables
embed (owners.Table i) = Table i
embed (owners.Guest i j) = Guest i j

-- from there back
abbrev unembed : Who → owners.Who
unembed Head = owners.Head
unembed Counts = owners.Counts
unembed (Block i) = owners.Block i
unembed Tables = owners.Tables
unembed (Table i) = owners.Table i
unembed (Guest i j) = owners.Guest i j
unembed (Bitmaps held) = owners.Head

unembed-embed : (a : owners.Who) → unembed (embed a) ≡ a
unembed-embed owners.Head = refl
unembed-embed owners.Counts = refl
unembed-embed (owners.Block i) = refl
unembed-embed owners.Tables = refl
unembed-embed (owners.Table i) = refl
unembed-embed (owners.Guest i j) = refl

pub embed_one : (a b : owners.Who) → embed a ≡ embed b → a ≡ b
embed_one a b same = sym (unembed-embed a) ∙ ap unembed same ∙ unembed-embed b

-- with what bitmaps hold
abbrev pub owner_as : owners.Owner → Who
owner_as (owners.Image a) = embed a
owner_as (owners.Bitmaps held) = Bitmaps held

module _ (s : Shape) (file : List ℕ) (is : IsHeaded s file) where
  abbrev bits : ℕ
  bits = bits_of file

  pub row_word : (i : ℕ) → u64_at file ((fields_of file).l1_table_offset + 8 * i) ≡ u64_at file (s.l1 + 8 * i)
  row_word i = ap (λ (at : ℕ). u64_at file (at + 8 * i)) is.l1

  pub count_word : (i : ℕ) → u64_at file ((fields_of file).refcount_table_offset + 8 * i) ≡ u64_at file (s.counts + 8 * i)
  count_word i = ap (λ (at : ℕ). u64_at file (at + 8 * i)) is.counts

  at_place : (k : ℕ) → place_of bits k ≡ place s k
  at_place k = place_is s is.some bits is.cluster k

  -- an entry of the first level names a cluster
  table_at_says : (i t : ℕ) → table_at file i ≡ Ok (Some t) → (offset (u64_at file (s.l1 + 8 * i)) ≡ t) × (0 < t)
  table_at_says i t e =
      let k = l1_at bits (u64_at file (s.l1 + 8 * i)) t (ap (l1_of bits) (sym (row_word i)) ∙ e) in
      (sym (offset_same (u64_at file (s.l1 + 8 * i))) ∙ k.0, k.1)

  some_cluster : (k : ℕ) → 0 < place s k → 0 < k
  some_cluster k more = elim (cases_eq k 0) [ inl none ↦ absurd (omega (arith, more, ap (place s) none, place_zero s)) | inr not ↦ omega (arith, not) ]

  -- block i lies there
  pub block_word : (i k : ℕ) → IsOffset s (u64_at file (s.counts + 8 * i)) → block_at file i ≡ u64_at file (s.counts + 8 * i)
  block_word i k form = ap (λ (w : ℕ). w / 512 * 512) (count_word i) ∙ whole_sector (u64_at file (s.counts + 8 * i)) form
    where
      whole_sector : (w : ℕ) → IsOffset s w → w / 512 * 512 ≡ w
      whole_sector w (inl none) = omega (arith, none)
      whole_sector w (inr p) = by_sectors_of s w p.cluster p.is

  -- the refcount table in bytes
  total : 2 ^ bits * (fields_of file).refcount_table_clusters ≡ 8 * s.blocks
  total = ap (λ (c : ℕ). c * (fields_of file).refcount_table_clusters) is.cluster ∙ (let e : 512 * s.sectors * (fields_of file).refcount_table_clusters ≡ 8 * ((fields_of file).refcount_table_clusters * (64 * s.sectors)) = grind arith in e) ∙ ap (λ (n : ℕ). 8 * n) is.clusters

  table_of : (i t : ℕ) → i < s.tables → offset (u64_at file (s.l1 + 8 * i)) ≡ t → 0 < t → IsOffset s (offset (u64_at file (s.l1 + 8 * i))) → (q : ℕ) × IsTable s file i q
  table_of i t i_in at more (inl none) = absurd (omega (arith, at, more, none))
  table_of i t i_in at more (inr p) = (p.cluster, record { inside = i_in; some = p.some; at = p.is })

  pub to_mine : Forms s file → (a : owners.Who) (k : ℕ) → owners.Refers file a k → Refers s file (embed a) k
  to_mine forms owners.Head k r = r
  to_mine forms owners.Counts k r = (
    omega (arith, r.0, at_place k, is.cluster, is.counts),
    (let n : 2 ^ bits * (fields_of file).refcount_table_clusters ≡ 8 * s.blocks = total in omega (arith, r.1, at_place k, n, is.counts)),
  )
  to_mine forms (owners.Block i) k r =
      let inside : i < s.blocks = omega (arith, r.0, is.blocks) in
      let at = block_word i k (forms.blocks i inside) in
      let named : u64_at file (s.counts + 8 * i) ≡ place s k = sym at ∙ r.2 ∙ at_place k in
      let more : 0 < place s k = (let x = r.1 in elim (cases_eq (place s k) 0) [ inl none ↦ absurd (x (at ∙ named ∙ none)) | inr not ↦ omega (arith, not) ]) in
      record { inside = inside; some = some_cluster k more; at = named }
  to_mine forms owners.Tables k r = (omega (arith, r.0, at_place k, is.cluster, is.l1), omega (arith, r.1, at_place k, is.l1, is.tables))
  to_mine forms (owners.Table i) k r =
      let t = table_at_says i (place_of bits k) r.1 in
      record { inside = omega (arith, r.0, is.tables); some = some_cluster k (omega (arith, t.1, at_place k)); at = t.0 ∙ at_place k }
  to_mine forms (owners.Guest i j) k r =
      let t = table_at_says i r.0 r.2 in
      let i_in : i < s.tables = omega (arith, r.1, is.tables) in
      let linked = table_of i r.0 i_in t.0 t.1 (forms.tables i i_in).at in
      let h = l2_host bits (u64_at file (r.0 + 8 * j)) (place_of bits k) r.4 in
      record {
        table = linked.0;
        linked = linked.1;
        inside = omega (arith, r.3, words_are s is.some bits is.cluster);
        some = some_cluster k (omega (arith, h.1, at_place k));
        at = ap (λ (q : ℕ). offset (u64_at file (q + 8 * j))) (sym linked.1.at ∙ t.0) ∙ sym (offset_same (u64_at file (r.0 + 8 * j))) ∙ h.0 ∙ at_place k;
      }

  -- and back, where entries are plain
  module _ (rows : (i : ℕ) → i < s.tables → IsPlain1 bits (u64_at file (s.l1 + 8 * i))) (slots : (i q j : ℕ) → IsTable s file i q → j < per s → IsPlain2 bits (u64_at file (place s q + 8 * j))) where
    table_is : (i q : ℕ) → IsTable s file i q → table_at file i ≡ Ok (Some (place s q))
    table_is i q t =
        ap (l1_of bits) (row_word i) ∙ l1_some bits (u64_at file (s.l1 + 8 * i)) (place s q) (rows i t.inside) (offset_same (u64_at file (s.l1 + 8 * i)) ∙ t.at) (place_some s q is.some t.some)

    pub to_disk : (a : owners.Who) (k : ℕ) → Refers s file (embed a) k → owners.Refers file a k
    to_disk owners.Head k r = r
    to_disk owners.Counts k r = (omega (arith, r.0, at_place k, is.cluster, is.counts), omega (arith, r.1, at_place k, total, is.counts))
    to_disk (owners.Block i) k r =
        let at = block_word i k (inr (record { cluster = k; some = r.some; is = r.at })) in
        (omega (arith, r.inside, is.blocks), (λ none. omega (arith, none, at, r.at, place_some s k is.some r.some)), at ∙ r.at ∙ sym (at_place k))
    to_disk owners.Tables k r = (omega (arith, r.0, at_place k, is.cluster, is.l1), omega (arith, r.1, at_place k, is.l1, is.tables))
    to_disk (owners.Table i) k r = (omega (arith, r.inside, is.tables), table_is i k r ∙ ap (λ (p : ℕ). Ok (Some p)) (sym (at_place k)))
    to_disk (owners.Guest i j) k r = (
      place s r.table,
      omega (arith, r.linked.inside, is.tables),
      table_is i r.table r.linked,
      omega (arith, r.inside, words_are s is.some bits is.cluster),
      l2_back bits (u64_at file (place s r.table + 8 * j)) (place_of bits k) (slots i r.table j r.linked r.inside) (offset_same (u64_at file (place s r.table + 8 * j)) ∙ r.at ∙ sym (at_place k)) (omega (arith, at_place k, place_some s k is.some r.some)),
    )

  -- ---- counts

  index_is : (k index slot : ℕ) → k ≡ each s * index + slot → slot < each s → (k / counts_in bits ≡ index) × (k % counts_in bits ≡ slot)
  index_is k index slot at inside =
      let c = counts_are s is.some bits is.cluster in
      let whole_k : counts_in bits * (k / counts_in bits) + k % counts_in bits ≡ k = div-add-mod k (counts_in bits) in
      let some_count : 0 < counts_in bits = omega (arith, c, is.some) in
      let less : k % counts_in bits < counts_in bits = mod-lt k some_count in
      let as_each : each s * (k / counts_in bits) + k % counts_in bits ≡ k = ap (λ (n : ℕ). n * (k / counts_in bits) + k % counts_in bits) (sym c) ∙ whole_k in
      let same : k / counts_in bits ≡ index = same_index s (k / counts_in bits) index (k % counts_in bits) slot (as_each ∙ at) (omega (arith, less, c)) inside in
      (same, omega (arith, as_each, at, ap (λ (n : ℕ). each s * n) same))

  -- a count that is found is the refcount
  pub count_found : (k many : ℕ) → IsCounted s file k many → refcount file k ≡ many
  unfolding refcount
  count_found k many c =
      let at = index_is k c.index c.slot c.is c.inside in
      let block : block_at file (k / counts_in bits) ≡ place s c.block =
      ap (λ (i : ℕ). block_at file i) at.0 ∙ block_word c.index c.block (inr (record { cluster = c.block; some = c.linked.some; is = c.linked.at })) ∙ c.linked.at in
      let first : nat_lt (k / counts_in bits) (blocks_in file) ≡ true = lt-ltb (k / counts_in bits) (blocks_in file) (omega (arith, at.0, c.linked.inside, is.blocks)) in
      let second : (block_at file (k / counts_in bits) == 0) ≡ false = ne_eqb (block_at file (k / counts_in bits)) 0 (omega (arith, block, place_some s c.block is.some c.linked.some)) in
      ap (λ (b : Bool). if b then (if block_at file (k / counts_in bits) == 0 then 0 else u16_at file (block_at file (k / counts_in bits) + 2 * (k % counts_in bits))) else 0) first
      ∙ ap (λ (b : Bool). if b then 0 else u16_at file (block_at file (k / counts_in bits) + 2 * (k % counts_in bits))) second
      ∙ ap (u16_at file) (omega (arith, block, at.1))
      ∙ c.count

  some_block : (i : ℕ) → block_at file i ≡ u64_at file (s.counts + 8 * i) → (block_at file i == 0) ≡ false → IsOffset s (u64_at file (s.counts + 8 * i)) → IsPlace s (u64_at file (s.counts + 8 * i))
  some_block i word test (inl none) = absurd (let t : (block_at file i == 0) ≡ true = ap (λ (n : ℕ). n == 0) (word ∙ none) in cc)
  some_block i word test (inr p) = p

  -- and a refcount is found
  pub count_of : ((i : ℕ) → i < s.blocks → IsOffset s (u64_at file (s.counts + 8 * i))) → (k : ℕ) → 0 < refcount file k → IsCounted s file k (refcount file k)
  unfolding refcount
  count_of forms k more =
      let c = counts_are s is.some bits is.cluster in
      let some_count : 0 < counts_in bits = omega (arith, c, is.some) in
      let tests = if_more (nat_lt (k / counts_in bits) (blocks_in file)) (block_at file (k / counts_in bits) == 0) (u16_at file (block_at file (k / counts_in bits) + 2 * (k % counts_in bits))) more in
      let inside : k / counts_in bits < s.blocks = omega (arith, ltb-true _ _ tests.0, is.blocks) in
      let form = forms (k / counts_in bits) inside in
      let word = block_word (k / counts_in bits) 0 form in
      let place_at = some_block (k / counts_in bits) word tests.1 form in
      let less : k % counts_in bits < counts_in bits = mod-lt k some_count in
      record {
        index = k / counts_in bits;
        slot = k % counts_in bits;
        block = place_at.cluster;
        is = sym (ap (λ (n : ℕ). n * (k / counts_in bits) + k % counts_in bits) (sym c) ∙ div-add-mod k (counts_in bits));
        inside = omega (arith, less, c);
        linked = record { inside = inside; some = place_at.some; at = place_at.is };
        count = ap (λ (p : ℕ). u16_at file (p + 2 * (k % counts_in bits))) (sym (word ∙ place_at.is)) ∙ sym tests.2;
      }

-- ---- a safe file passes an opening's rules

-- its first cluster is in the file
pub head_inside : (s : Shape) (file : List ℕ) → 0 < s.sectors → AllCounted s file → size s ≤ length file
head_inside s file some all =
    let c = all.counted Head 0 refl in
    let n = c.2 in
    elim (cases_lt (place s n.block + 2 * n.slot) (length file)) [
      | inl inside ↦ omega (arith, inside, place_step s 0 n.block n.linked.some, place_zero s)
      | inr past ↦ absurd (omega (arith, c.1, n.count, number-past w16 file (place s n.block + 2 * n.slot) past))
    ]

module _ (s : Shape) (shape : IsShape s) (file : List ℕ) (long : 104 ≤ length s.base) (all : AllCounted s file) (fixed : SameIn s 0 s.base file) where
  large : 512 ≤ size s
  large = omega (arith, shape.some)

  -- both begin alike
  pub alike : BeginAlike (size s) s.base file
  alike = record {
    enough = enough_for (size s) (list_end (bits_of s.base)) large (omega (arith, shape.cluster));
    bytes = sym (reading_same file s.base 0 (size s) (λ i low high. fixed i (omega (arith, place_zero s)) (omega (arith, high, place_zero s))));
    short = λ short. absurd (omega (arith, short, long));
    long = λ short. absurd (omega (arith, short, head_inside s file shape.some all, large));
  }
    where
      enough_for : (n m : ℕ) → 512 ≤ n → m ≤ n → max 512 m ≤ n
      enough_for n m a b = omega (arith, a, b)

  pub same_fields : fields_of file ≡ fields_of s.base
  same_fields = sym (alike_fields s.base file alike)

  pub same_header : (part : Part) (h : Header) → IsHeaderOf part s.base h → IsHeaderOf part file h
  same_header part h is = header_from_start part s.base file h alike is

  pub counted_disk : Forms s file → TablesCounted file
  counted_disk forms =
      let is = headed s file shape same_fields in
      record {
        once = λ a b k x y. embed_one a b (all.once (embed a) (embed b) k (to_mine s file is forms a k x) (to_mine s file is forms b k y));
        below = λ a k x. omega (arith, all.below (embed a) k (to_mine s file is forms a k x), is.reach);
        counted = λ a k x. let c = all.counted (embed a) k (to_mine s file is forms a k x) in omega (arith, count_found s file is k c.0 c.2, c.1);
      }

  pub tables_pass : Forms s file → TablesPass file
  tables_pass forms =
      let is = headed s file shape same_fields in
      record {
        blocks = λ i inside. ap (λ (w : ℕ). w % 2 ^ bits_of file) (count_word s file is i) ∙ whole s is.some (bits_of file) is.cluster (u64_at file (s.counts + 8 * i)) (forms.blocks i (omega (arith, inside, is.blocks)));
        tables = λ i inside.
            let w = u64_at file (s.l1 + 8 * i) in
            ((if offset_in w == 0 then None else Some (offset_in w)), ap (l1_of (bits_of file)) (row_word s file is i) ∙ l1_says (bits_of file) w (table_plain s is.some (bits_of file) is.cluster w (forms.tables i (omega (arith, inside, is.tables)))));
        entries = λ i table j inside at j_in.
            let t = table_at_says s file is i table at in
            let i_in : i < s.tables = omega (arith, inside, is.tables) in
            let linked = table_of s file is i table i_in t.0 t.1 (forms.tables i i_in).at in
            let form = forms.entries i linked.0 j linked.1 (omega (arith, j_in, words_are s is.some (bits_of file) is.cluster)) in
            let same : table ≡ place s linked.0 = sym t.0 ∙ linked.1.at in
            subst (λ (p : ℕ). IsInOrder (l2_of (bits_of file) (u64_at file (p + 8 * j)))) (sym same) (l2_order (bits_of file) (u64_at file (place s linked.0 + 8 * j)) (guest_plain s is.some (bits_of file) is.cluster (u64_at file (place s linked.0 + 8 * j)) form));
        counted = counted_disk forms;
      }

-- the law
pub safe_passes : (s : Shape) (disks : List (List ℕ)) (file : List ℕ) → IsShape s → 104 ≤ length s.base → IsSafe s disks file → TablesPass file
safe_passes s disks file shape long safe = tables_pass s shape file long safe.counted (safe.fixed 0 (inl refl)) safe.forms

pub safe_header : (s : Shape) (disks : List (List ℕ)) (file : List ℕ) (part : Part) (h : Header) → IsShape s → 104 ≤ length s.base → IsSafe s disks file → IsHeaderOf part s.base h → IsHeaderOf part file h
safe_header s disks file part h shape long safe is = same_header s shape file long safe.counted (safe.fixed 0 (inl refl)) part h is

-- who refers, as a reader says it, where Q says it for the image and for its bitmaps
module _ (s : Shape) (file : List ℕ) (is : IsHeaded s file)
    (rows : (i : ℕ) → i < s.tables → IsPlain1 (bits_of file) (u64_at file (s.l1 + 8 * i)))
    (slots : (i q j : ℕ) → IsTable s file i q → j < per s → IsPlain2 (bits_of file) (u64_at file (place s q + 8 * j)))
    (Q : owners.Owner → ℕ → Type 0)
    (image : (a : owners.Who) (k : ℕ) → owners.Refers file a k → Q (owners.Image a) k)
    (bitmaps : (held : Held) (k : ℕ) → s.owner k ≡ Some held → Q (owners.Bitmaps held) k) where
  image_of : (a : owners.Who) (k : ℕ) → Refers s file (embed a) k → (b : owners.Owner) × Q b k × (owner_as b ≡ embed a)
  image_of a k x = (owners.Image a, image a k (to_disk s file is rows slots a k x), refl)

  pub back_of : (a : Who) (k : ℕ) → Refers s file a k → (b : owners.Owner) × Q b k × (owner_as b ≡ a)
  back_of Head k x = image_of owners.Head k x
  back_of Counts k x = image_of owners.Counts k x
  back_of (Block i) k x = image_of (owners.Block i) k x
  back_of Tables k x = image_of owners.Tables k x
  back_of (Table i) k x = image_of (owners.Table i) k x
  back_of (Guest i j) k x = image_of (owners.Guest i j) k x
  back_of (Bitmaps held) k x = (owners.Bitmaps held, bitmaps held k x, refl)
