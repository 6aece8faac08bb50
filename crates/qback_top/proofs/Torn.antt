-- The disk where a write of the file was done in part.
use Rattle.std.proofs.Common.{◌≡◌, ◌≢◌, ◌⊎◌, inl, inr, ⊎_elim, ℕ, ◌+◌, ◌-◌, ◌*◌, ◌/◌, ◌%◌, ◌^◌, ◌<◌, ◌≤◌, List, length, take, sym, ap, subst, ◌∙◌, arith}
use Rattle.std.specs.Int.{w64, to_be_bytes}
use Rattle.std.proofs.lemmas.Bool.{cases_lt, cases_eq}
use Rattle.std.proofs.lemmas.List.{length-take, get_or-take}
use Rattle.disk_model.specs.Files.{byte, overlay, u64_at, IsTorn}
use Rattle.disk_model.proofs.Bytes.{byte_past, byte-overlay_below, byte-overlay_in, byte-overlay_above, length-overlay_inside}
use Rattle.disk_model.proofs.Words.{reading_same, number_same, word_write}
use Rattle.disk_model.proofs.Ranges.{mixed_byte, torn_length}
use Rattle.qc_layout.specs.Entries.{offset_in}
use Rattle.qc_layout.specs.FirstForm.{head_of, l1_offset, host_of, table_offset, clusters_of, disk_byte, disk_of, disk_size, IsFirstForm}
use Rattle.qback_top.specs.Open.{Between, TablesGoOn, Spares}
use Rattle.qback_top.proofs.Disk.{length-disk_of, byte_of_disk, host_none, host_some, cluster_inside, clusters_below}
use Rattle.qback_top.proofs.Tables.{changes_torn, goes_kept, same_l1_entry, same_size, same_host, disk_byte_same, disk_same}
use Rattle.qback_top.proofs.Writes.{Target, torn_tables, data_tables, data_disk, target_inside}
use Rattle.qback_top.proofs.Links.{Grown, grown_length, grown_disk, grown_spared, Tabled, tabled_disk, tabled_keeps, Linked, linked_disk, linked_keeps}

-- ---- between two disks

-- the one disk is between both, and so is the other
pub between_first : (a b new : List ℕ) → new ≡ a → Between a b new
between_first a b new same = record { long = ap length same; bytes = λ i lt. inl (ap (λ (d : List ℕ). byte d i) same) }

pub between_second : (a b new : List ℕ) → length b ≡ length a → new ≡ b → Between a b new
between_second a b new long same = record { long = ap length same ∙ long; bytes = λ i lt. inr (ap (λ (d : List ℕ). byte d i) same) }

-- a byte of a disk into which the first bytes of a list were written is as before, or as where all are
pub overlay_first : (disk : List ℕ) (at : ℕ) (xs : List ℕ) (n i : ℕ) → (byte (overlay disk at (take n xs)) i ≡ byte disk i) ⊎ (byte (overlay disk at (take n xs)) i ≡ byte (overlay disk at xs) i)
overlay_first disk at xs n i = elim (cases_lt i at) [
  | inl below ↦ inl (byte-overlay_below disk at (take n xs) i below)
  | inr from ↦ elim (cases_lt i (at + length (take n xs))) [
    | inr above ↦ inl (byte-overlay_above disk at (take n xs) i above)
    | inl within ↦
        let lt : i - at < n = omega (arith, length-take n xs) in
        inr (byte-overlay_in disk at (take n xs) i from within ∙ get_or-take n xs (i - at) 0 lt ∙ sym (byte-overlay_in disk at xs i from (omega (arith, length-take n xs))))
  ]
]

-- between the disk with a list's first bytes and that with more of them is between the old disk and that with all
pub between_more : (disk : List ℕ) (at : ℕ) (xs : List ℕ) (m n : ℕ) (before after new : List ℕ) → at + length xs ≤ length disk → before ≡ overlay disk at (take m xs) → after ≡ overlay disk at (take n xs)
    → Between before after new → Between disk (overlay disk at xs) new
between_more disk at xs m n before after new inside first second between =
    let long : length before ≡ length disk = ap length first ∙ length-overlay_inside disk at (take m xs) (omega (arith, length-take m xs)) in
    record {
      long = between.long ∙ long;
      bytes = λ i lt. ⊎_elim
          (λ (old : byte new i ≡ byte before i). subst (λ (b : ℕ). (b ≡ byte disk i) ⊎ (b ≡ byte (overlay disk at xs) i)) (sym (old ∙ ap (λ (d : List ℕ). byte d i) first)) (overlay_first disk at xs m i))
          (λ (done : byte new i ≡ byte after i). subst (λ (b : ℕ). (b ≡ byte disk i) ⊎ (b ≡ byte (overlay disk at xs) i)) (sym (done ∙ ap (λ (d : List ℕ). byte d i) second)) (overlay_first disk at xs n i))
          (between.bytes i (omega (arith, long)));
    }

-- ---- a file that changed past its end alone

module _ (f g : List ℕ) (form : IsFirstForm f) (same : (i : ℕ) → i < length f → byte g i ≡ byte f i) where
  past_head : head_of g ≡ head_of f
  past_head = reading_same g f 0 104 (λ i from to. same i (let l = form.long in omega arith))

  past_word : (o : ℕ) → o + 8 ≤ length f → u64_at g o ≡ u64_at f o
  past_word o inside = number_same w64 g f o (λ i from to. same i (omega arith))

  past_l1 : u64_at g (l1_offset f) ≡ u64_at f (l1_offset f)
  past_l1 = let l1-in = cluster_inside f (l1_offset f) form form.l1 in past_word (l1_offset f) (omega arith)

  -- its tables go on
  pub past_goes : TablesGoOn f g
  past_goes = goes_kept f g past_head past_l1 (λ n lt some.
      let table-in = cluster_inside f (table_offset f) form (form.table some) in
      past_word (table_offset f + 8 * n) (omega arith))

  past_table : table_offset g ≡ table_offset f
  past_table = let l1-in = cluster_inside f (l1_offset f) form form.l1 in ap offset_in (same_l1_entry f g past_head (past_word (l1_offset f) (omega arith)))

  past_host : (n : ℕ) → n < 512 → host_of g n ≡ host_of f n
  past_host n lt = elim (cases_eq (table_offset f) 0) [
    | inl none ↦ sym (host_none g n (past_table ∙ none)) ∙ host_none f n none
    | inr some ↦
        let table-in = cluster_inside f (table_offset f) form (form.table some) in
        sym (host_some g n (λ none. some (sym past_table ∙ none))) ∙ ap (λ (t : ℕ). offset_in (u64_at g (t + 8 * n))) past_table ∙ ap offset_in (past_word (table_offset f + 8 * n) (omega arith)) ∙ host_some f n some
  ]

  -- it has the same disk
  pub past_disk : disk_of g ≡ disk_of f
  past_disk = disk_same f g (same_size f g past_head) (λ x small.
      let limit = form.header.size_limit in
      let below : x / 4096 < clusters_of f = omega arith in
      disk_byte_same f g x (past_host (x / 4096) (omega arith)) (λ some.
      let inside = cluster_inside f (host_of f (x / 4096)) form (form.hosts (x / 4096) below some) in
      same (host_of f (x / 4096) + x % 4096) (omega arith)))

-- ---- a word that names the new cluster

module _ (f mid g word : List ℕ) (grown : Grown f mid) (small : length f < 2 ^ 56) (is : word ≡ to_be_bytes w64 (length f + 2 ^ 63)) where
  -- the first-level entry is written or not
  torn_l1 : table_offset f ≡ 0 → IsTorn (l1_offset f) word mid g → (g ≡ mid) ⊎ Tabled f mid g
  torn_l1 none torn =
      let form = grown.form in
      let l1-in = cluster_inside f (l1_offset f) form form.l1 in
      let whole = form.l1.aligned in
      elim (word_write (l1_offset f) word mid g torn (ap length is) (omega arith) (omega (arith, grown_length f mid grown))) [
        | inl same ↦ inl same
        | inr done ↦ inr (record { grown = grown; none = none; small = small; is = done ∙ ap (overlay mid (l1_offset f)) is })
      ]

  pub torn_l1_disk : table_offset f ≡ 0 → IsTorn (l1_offset f) word mid g → disk_of g ≡ disk_of f
  torn_l1_disk none torn = ⊎_elim (λ (same : g ≡ mid). ap disk_of same ∙ grown_disk f mid grown) (λ (t : Tabled f mid g). tabled_disk f mid g t) (torn_l1 none torn)

  pub torn_l1_spares : table_offset f ≡ 0 → IsTorn (l1_offset f) word mid g → Spares f g
  torn_l1_spares none torn = ⊎_elim (λ (same : g ≡ mid). subst (Spares f) (sym same) (grown_spared f mid grown)) (λ (t : Tabled f mid g). (tabled_keeps f mid g t).spares) (torn_l1 none torn)

  -- so is an entry of the second level
  module _ (n : ℕ) (below : n < clusters_of f) (some : table_offset f ≢ 0) (hole : host_of f n ≡ 0) (torn : IsTorn (table_offset f + 8 * n) word mid g) where
    torn_entry : (g ≡ mid) ⊎ Linked f mid g n
    torn_entry =
        let form = grown.form in
        let table = form.table some in
        let whole = table.aligned in
        let table-in = cluster_inside f (table_offset f) form table in
        let low = clusters_below f n form below in
        elim (word_write (table_offset f + 8 * n) word mid g torn (ap length is) (omega arith) (omega (arith, grown_length f mid grown))) [
          | inl same ↦ inl same
          | inr done ↦ inr (record { grown = grown; below = below; some = some; hole = hole; small = small; is = done ∙ ap (overlay mid (table_offset f + 8 * n)) is })
        ]

    pub torn_entry_disk : disk_of g ≡ disk_of f
    torn_entry_disk = ⊎_elim (λ (same : g ≡ mid). ap disk_of same ∙ grown_disk f mid grown) (λ (t : Linked f mid g n). linked_disk f mid g n t) torn_entry

    pub torn_entry_spares : Spares f g
    torn_entry_spares = ⊎_elim (λ (same : g ≡ mid). subst (Spares f) (sym same) (grown_spared f mid grown)) (λ (t : Linked f mid g n). (linked_keeps f mid g n t).spares) torn_entry

-- ---- a piece of a stored cluster

module _ (f g : List ℕ) (at h : ℕ) (xs : List ℕ) (t : Target f (at / 4096) h (at % 4096) xs) (inside : at + length xs ≤ disk_size f) (torn : IsTorn (h + at % 4096) xs f g) where
  abbrev done : List ℕ
  done = overlay f (h + at % 4096) xs

  torn_long : length g ≡ length f
  torn_long = let room = target_inside f (at / 4096) h (at % 4096) xs t in let piece = t.piece in torn_length (h + at % 4096) xs f g torn (omega arith)

  torn_size : disk_size g ≡ disk_size f
  torn_size = same_size f g (torn_tables f (at / 4096) h (at % 4096) xs t g (changes_torn (h + at % 4096) xs f g torn) torn_long).head

  torn_low : (x : ℕ) → x < disk_size f → x / 4096 < 512
  torn_low x small = let limit = t.form.header.size_limit in omega arith

  torn_host : (x : ℕ) → x < disk_size f → host_of g (x / 4096) ≡ host_of f (x / 4096)
  torn_host x small = same_host f g (torn_tables f (at / 4096) h (at % 4096) xs t g (changes_torn (h + at % 4096) xs f g torn) torn_long) (x / 4096) (torn_low x small)

  done_host : (x : ℕ) → x < disk_size f → host_of done (x / 4096) ≡ host_of f (x / 4096)
  done_host x small = same_host f done (data_tables f (at / 4096) h (at % 4096) xs t) (x / 4096) (torn_low x small)

  -- a byte of the file, and of the disk, is old or as written
  torn_byte : (i : ℕ) → (byte g i ≡ byte f i) ⊎ (byte g i ≡ byte done i)
  torn_byte i = elim (cases_lt i (length g)) [
    | inl within ↦ mixed_byte f done g i torn.sectors within
    | inr past ↦ inl (byte_past g i past ∙ sym (byte_past f i (omega (arith, torn_long))))
  ]

  torn_disk_byte : (x : ℕ) → x < disk_size f → (disk_byte g x ≡ disk_byte f x) ⊎ (disk_byte g x ≡ disk_byte done x)
  torn_disk_byte x small =
      let place = host_of f (x / 4096) + x % 4096 in
      ⊎_elim
      (λ (old : byte g place ≡ byte f place). inl (disk_byte_same f g x (torn_host x small) (λ some. old)))
      (λ (new : byte g place ≡ byte done place). inr (disk_byte_same done g x (torn_host x small ∙ sym (done_host x small)) (λ some. subst (λ (k : ℕ). byte g (k + x % 4096) ≡ byte done (k + x % 4096)) (sym (done_host x small)) new)))
      (torn_byte place)

  -- the disk is between the old one and that with the bytes
  pub torn_disk : Between (disk_of f) (overlay (disk_of f) at xs) (disk_of g)
  torn_disk = record {
    long = length-disk_of g ∙ torn_size ∙ sym (length-disk_of f);
    bytes = λ x lt.
        let small : x < disk_size f = omega (arith, length-disk_of f) in
        let left = byte_of_disk g x (omega (arith, torn_size)) in
        let size : disk_size done ≡ disk_size f = same_size f done (data_tables f (at / 4096) h (at % 4096) xs t).head in
        ⊎_elim
        (λ (old : disk_byte g x ≡ disk_byte f x). inl (left ∙ old ∙ sym (byte_of_disk f x small)))
        (λ (new : disk_byte g x ≡ disk_byte done x). inr (left ∙ new ∙ sym (byte_of_disk done x (omega (arith, size))) ∙ ap (λ (d : List ℕ). byte d x) (data_disk f at h xs t inside)))
        (torn_disk_byte x small);
  }
