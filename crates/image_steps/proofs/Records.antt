-- A backup's record is replaced: what lies past the first cluster stays, and so the clusters and the disk do.
use Rattle.std.proofs.Common.{◌≡◌, inl, inr, ℕ, ◌+◌, ◌*◌, ◌/◌, ◌%◌, ◌^◌, ◌<◌, ◌≤◌, Bool, true, false, List, length, refl, sym, ap, ◌∙◌, arith}
use Rattle.std.proofs.Common.{Option, Some, None, Result, Ok, Err}
use Rattle.std.specs.Prelude.{nat_lt, ◌==◌, if◌then◌else◌}
use Rattle.std.specs.Int.{w16, w64}
use Rattle.std.proofs.lemmas.Bool.{ltb-true}
use Rattle.disk_model.specs.Files.{byte, u16_at, u64_at, overlay}
use Rattle.disk_model.proofs.Laws.{number_same, byte-overlay_outside}
use Rattle.qc_layout.specs.declared.entry.EntryFault.{EntryFault}
use Rattle.qc_layout.specs.declared.entry.L2Entry.{L2Entry}
use Rattle.qc_layout.specs.declared.entry.L2Entry.TheVariants.{Hole, Zero, Stored, Compressed}
use Rattle.qc_layout.specs.declared.header.Fields.{Fields}
use Rattle.qc_layout.specs.declared.header.Header.{Header}
use Rattle.qc_layout.specs.declared.header.Own.TheVariants as owns
use Rattle.qc_layout.specs.declared.header.Part.TheVariants as parts
use Rattle.qc_layout.specs.Entries.{l1_of, l2_of}
use Rattle.qc_layout.specs.Header.{fields_of}
use Rattle.qc_layout.specs.Spelling.{IsHeaderOf}
use Rattle.qc_layout.specs.Records.{record_fault}
use Rattle.qc_layout.specs.Disks.{ReadsAs, bits_of, words_in, counts_in, blocks_in, block_at, table_at, entry_under, entry_at, refcount}
use Rattle.qc_layout.specs.Owners.{Who, Head, Counts, Block, Tables, Table, Guest, Refers}
use Rattle.qc_layout.specs.Room.{TablesPass}
use Rattle.qc_layout.proofs.EntryLaws.{stored_place}
use Rattle.qc_layout.proofs.Replaced.{own_inside, records_are_replaced}
use Rattle.image_model.specs.Space.{Store}
use Rattle.image_model.specs.Images.{IsBackupFile, HasContent}
use Rattle.image_model.specs.Clusters.{IsPlace, IsShape}
use Rattle.image_model.specs.Calls.{shape_of}
use Rattle.image_steps.proofs.Places.{place_zero, place_step}
use Rattle.image_steps.proofs.Words.{l1_at, l1_plain, parts as by_place}
use Rattle.image_steps.proofs.Bridge.{headed, block_word}
use Rattle.image_steps.proofs.Headers.{header_shape}

-- what is counted, by two tests
counted_by : (inside none : Bool) (x y : ℕ) → (inside ≡ true → none ≡ false → x ≡ y)
    → (if inside then (if none then 0 else x) else 0) ≡ (if inside then (if none then 0 else y) else 0)
counted_by true true x y same = refl
counted_by true false x y same = same refl refl
counted_by false none x y same = refl

-- two files have the same numbers in their headers, and the same bytes past the first cluster
module _ (file new : List ℕ) (shape : IsShape (shape_of file)) (pass : TablesPass file) (fields : fields_of new ≡ fields_of file)
    (past : (i : ℕ) → 2 ^ bits_of file ≤ i → byte new i ≡ byte file i) where
  abbrev bits : ℕ
  bits = bits_of file

  same_bits : bits_of new ≡ bits
  same_bits = ap (λ (f : Fields). f.cluster_bits) fields

  word : (at : ℕ) → 2 ^ bits ≤ at → u64_at new at ≡ u64_at file at
  word at low = number_same w64 new file at (λ i from to. past i (omega (arith, low, from)))

  placed : (at : ℕ) → IsPlace (shape_of file) at → 2 ^ bits ≤ at
  placed at p = omega (arith, p.is, place_step (shape_of file) 0 p.cluster p.some, place_zero (shape_of file), shape.cluster)

  aligned : (at : ℕ) → at % 2 ^ bits ≡ 0 → 0 < at → 2 ^ bits ≤ at
  aligned at whole more = elim (by_place (shape_of file) shape.some bits shape.cluster at whole) [
    | inl none ↦ absurd (omega (arith, none, more))
    | inr p ↦ placed at p
  ]

  -- no table lies in the first cluster
  row_word : (i : ℕ) → u64_at new ((fields_of file).l1_table_offset + 8 * i) ≡ u64_at file ((fields_of file).l1_table_offset + 8 * i)
  row_word i = word ((fields_of file).l1_table_offset + 8 * i) (omega (arith, placed (fields_of file).l1_table_offset shape.l1_place))

  count_word : (i : ℕ) → u64_at new ((fields_of file).refcount_table_offset + 8 * i) ≡ u64_at file ((fields_of file).refcount_table_offset + 8 * i)
  count_word i =
      word ((fields_of file).refcount_table_offset + 8 * i) (omega (arith, placed (fields_of file).refcount_table_offset shape.counts_place))

  same_table : (i : ℕ) → table_at new i ≡ table_at file i
  same_table i = rw (bits_of, fields) (ap (l1_of bits) (row_word i))

  table_low : (i t : ℕ) → table_at file i ≡ Ok (Some t) → 2 ^ bits ≤ t
  table_low i t is =
      let w = u64_at file ((fields_of file).l1_table_offset + 8 * i) in
      let p = l1_at bits w t is in
      aligned t (ap (λ (o : ℕ). o % 2 ^ bits) (sym p.0) ∙ (l1_plain bits w (Some t) is).aligned) p.1

  under : (r : Result (Option ℕ) EntryFault) (j : ℕ) → ((t : ℕ) → r ≡ Ok (Some t) → 2 ^ bits ≤ t) → entry_under new r j ≡ entry_under file r j
  under (Err fault) j low = refl
  under (Ok None) j low = refl
  under (Ok (Some t)) j low = ap (λ (b : ℕ). l2_of b (u64_at new (t + 8 * j))) same_bits ∙ ap (l2_of bits) (word (t + 8 * j) (omega (arith, low t refl)))

  same_entry : (n : ℕ) → entry_at new n ≡ entry_at file n
  unfolding entry_at
  same_entry n =
      ap (λ (b : ℕ). entry_under new (table_at new (n / words_in b)) (n % words_in b)) same_bits
      ∙ ap (λ (r : Result (Option ℕ) EntryFault). entry_under new r (n % words_in bits)) (same_table (n / words_in bits))
      ∙ under (table_at file (n / words_in bits)) (n % words_in bits) (λ t is. table_low (n / words_in bits) t is)

  -- and no data
  under_low : (r : Result (Option ℕ) EntryFault) (j host : ℕ) → entry_under file r j ≡ Ok (Stored host) → 2 ^ bits ≤ host
  under_low (Err fault) j host is = absurd (cc)
  under_low (Ok None) j host is = absurd (cc)
  under_low (Ok (Some t)) j host is = let p = stored_place bits (u64_at file (t + 8 * j)) host is in aligned host p.aligned p.is.some

  stored_low : (n host : ℕ) → entry_at file n ≡ Ok (Stored host) → 2 ^ bits ≤ host
  unfolding entry_at
  stored_low n host is = under_low (table_at file (n / words_in bits)) (n % words_in bits) host is

  reads : (r : Result L2Entry EntryFault) (t b : ℕ) → ((host : ℕ) → r ≡ Ok (Stored host) → 2 ^ bits ≤ host) → ReadsAs file r t b → ReadsAs new r t b
  reads (Ok Hole) t b low is = is
  reads (Ok (Zero host)) t b low is = is
  reads (Ok (Stored host)) t b low is = is ∙ sym (past (host + t) (omega (arith, low host refl)))
  reads (Ok Compressed) t b low is = is
  reads (Err fault) t b low is = is

  pub same_content : (content : List ℕ) → HasContent file content → HasContent new content
  same_content content has x inside =
      let here = has x (rw fields at inside) in
      rw (bits_of, fields, same_entry (x / 2 ^ bits))
      (reads (entry_at file (x / 2 ^ bits)) (x % 2 ^ bits) (byte content x) (λ host is. stored_low (x / 2 ^ bits) host is) here)

  -- nor a count
  block_low : (i : ℕ) → i < blocks_in file → (block_at file i == 0) ≡ false → 2 ^ bits ≤ block_at file i
  block_low i inside some =
      let w = u64_at file ((fields_of file).refcount_table_offset + 8 * i) in
      let form = by_place (shape_of file) shape.some bits shape.cluster w (pass.blocks i inside) in
      let at = block_word (shape_of file) file (headed (shape_of file) file shape refl) i 0 form in
      elim form [
        | inl none ↦ absurd (let t : (block_at file i == 0) ≡ true = ap (λ (n : ℕ). n == 0) (at ∙ none) in cc)
        | inr p ↦ omega (arith, placed _ p, at)
      ]

  same_count : (k : ℕ) → refcount new k ≡ refcount file k
  unfolding refcount
  same_count k =
      let i = k / counts_in bits in
      let at = block_at file i + 2 * (k % counts_in bits) in
      rw (bits_of, fields, count_word i)
      (counted_by (nat_lt i (blocks_in file)) (block_at file i == 0) (u16_at new at) (u16_at file at)
      (λ inside some. number_same w16 new file at (λ b from to. past b (omega (arith, from, block_low i (ltb-true _ _ inside) some)))))

  back : (a : Who) (k : ℕ) → Refers new a k → Refers file a k
  back Head k r = r
  back Counts k r = rw (bits_of, fields) at r
  back (Block i) k r = rw (bits_of, fields, count_word i) at r
  back Tables k r = rw (bits_of, fields) at r
  back (Table i) k r = rw (bits_of, fields, row_word i) at r
  back (Guest i j) k r =
      let at : table_at file i ≡ Ok (Some r.0) = sym (same_table i) ∙ r.2 in
      (r.0, rw fields at r.1, at, rw (bits_of, fields) at r.3, rw (bits_of, fields, word (r.0 + 8 * j) (omega (arith, table_low i r.0 at))) at r.4)

  pub still_pass : TablesPass new
  still_pass = record {
    blocks = λ i inside. rw (bits_of, fields, count_word i) (pass.blocks i (rw (bits_of, fields) at inside));
    tables = λ i inside. let t = pass.tables i (rw fields at inside) in (t.0, same_table i ∙ t.1);
    entries = λ i table j inside is j_in.
        let at : table_at file i ≡ Ok (Some table) = sym (same_table i) ∙ is in
        rw (bits_of, fields, word (table + 8 * j) (omega (arith, table_low i table at)))
        (pass.entries i table j (rw fields at inside) at (rw (bits_of, fields) at j_in));
    counted = record {
      once = λ a b k x y. pass.counted.once a b k (back a k x) (back b k y);
      below = λ a k x. rw (bits_of, fields) (pass.counted.below a k (back a k x));
      counted = λ a k x. rw (same_count k) (pass.counted.counted a k (back a k x));
    };
  }

pub record_taken : (file old other : List ℕ) (store : Store) (h : Header) → IsHeaderOf parts.Target file h → h.own ≡ owns.Target old
    → IsBackupFile file old store → length other ≡ 64 → record_fault (bits_of file) other ≡ None
    → IsBackupFile (overlay file h.own_at other) other store
    × ((content : List ℕ) → HasContent file content → HasContent (overlay file h.own_at other) content)
record_taken file old other store h is own backup long faultless =
    let new = overlay file h.own_at other in
    let r = records_are_replaced file old other h is own long in
    let fields : fields_of new ≡ fields_of file = sym r.1.spells.fields ∙ sym r.2.fields ∙ is.spells.fields in
    let shape = header_shape parts.Target file is.spells.numbers in
    let past = (λ (i : ℕ) (low : 2 ^ bits_of file ≤ i).
    byte-overlay_outside file h.own_at other i (inr (omega (arith, low, long, own_inside file old h is own)))) in
    let clusters = backup.clusters in (
      record {
        header = r.0;
        spelled = r.1.spells;
        own = sym r.2.own;
        faultless = rw (bits_of, fields) faultless;
        passes = still_pass file new shape backup.passes fields past;
        clusters = record {
          cluster_is = rw (bits_of, fields) clusters.cluster_is;
          kind_count = rw fields clusters.kind_count;
          kinds_are = λ n inside. rw (same_entry file new shape backup.passes fields past n) (clusters.kinds_are n inside);
          table_count = clusters.table_count;
          tables_are = λ t inside. rw (same_table file new shape backup.passes fields past t) (clusters.tables_are t inside);
        };
      },
      same_content file new shape backup.passes fields past,
    )
