-- A write into a stored cluster.
use Rattle.std.proofs.Common.{◌≡◌, ◌≢◌, ◌⊎◌, inl, inr, ⊎_elim, ℕ, ◌+◌, ◌-◌, ◌*◌, ◌/◌, ◌%◌, ◌<◌, ◌≤◌, List, length, sym, ap, subst, ◌∙◌, arith}
use Rattle.std.proofs.lemmas.Bool.{cases_lt, cases_eq}
use Rattle.disk_model.specs.Files.{byte, overlay, u64_at}
use Rattle.disk_model.proofs.Bytes.{byte-overlay_below, byte-overlay_in, byte-overlay_above, length-overlay_inside, same_file}
use Rattle.qc_layout.specs.FirstForm.{head_of, l1_offset, host_of, table_offset, clusters_of, disk_byte, disk_of, disk_size, IsFirstForm, IsCluster}
use Rattle.qback_top.specs.Open.{Spares, KeepsRest}
use Rattle.qback_top.proofs.Disk.{length-disk_of, byte_of_disk, cluster_inside, stored_byte, same_cluster, in_cluster, clusters_below}
use Rattle.qback_top.proofs.Tables.{ChangesOnly, changes_overlay, u64_kept, head_kept, parts_apart, spares, goes_kept, rest_stored, rest_kept, SameTables, same_host, same_size, disk_byte_same}

-- cluster n of the disk is stored at h, and these bytes are to stand in it from r on
pub record Target (f : List ℕ) (n h r : ℕ) (xs : List ℕ) : Type 0 where
  pub form : IsFirstForm f
  pub below : n < clusters_of f
  pub host : host_of f n ≡ h
  pub some : h ≢ 0
  pub piece : r + length xs ≤ 4096

module _ (f : List ℕ) (n h r : ℕ) (xs : List ℕ) (t : Target f n h r xs) where
  pub target_some : host_of f n ≢ 0
  target_some none = t.some (sym t.host ∙ none)

  pub target_cluster : IsCluster f h
  target_cluster = subst (IsCluster f) t.host (t.form.hosts n t.below target_some)

  pub target_inside : h + 4096 ≤ length f
  target_inside = cluster_inside f h t.form target_cluster

  pub data_length : length (overlay f (h + r) xs) ≡ length f
  data_length = let inside = target_inside in let piece = t.piece in length-overlay_inside f (h + r) xs (omega arith)

  -- any change of those bytes alone keeps the head and each entry
  torn_head : (g : List ℕ) → ChangesOnly (h + r) (length xs) f g → head_of g ≡ head_of f
  torn_head g changes = head_kept (h + r) (length xs) f g changes (let c = target_cluster in let a = c.aligned in let s = c.some in omega arith)

  torn_l1 : (g : List ℕ) → ChangesOnly (h + r) (length xs) f g → u64_at g (l1_offset f) ≡ u64_at f (l1_offset f)
  torn_l1 g changes =
      let c = target_cluster in
      let piece = t.piece in
      let away = t.form.hosts_apart n t.below target_some in
      u64_kept (h + r) (length xs) f g (l1_offset f) changes
      (parts_apart (l1_offset f) h (h + r) (length xs) (l1_offset f) 8 t.form.l1.aligned c.aligned (λ z. away.0 (t.host ∙ sym z)) (omega arith) (omega arith) (omega arith) (omega arith))

  torn_entries : (g : List ℕ) → ChangesOnly (h + r) (length xs) f g → (m : ℕ) → m < 512 → table_offset f ≢ 0 → u64_at g (table_offset f + 8 * m) ≡ u64_at f (table_offset f + 8 * m)
  torn_entries g changes m lt some =
      let c = target_cluster in
      let piece = t.piece in
      let away = t.form.hosts_apart n t.below target_some in
      let table = t.form.table some in
      u64_kept (h + r) (length xs) f g (table_offset f + 8 * m) changes
      (parts_apart (table_offset f) h (h + r) (length xs) (table_offset f + 8 * m) 8 table.aligned c.aligned (λ z. away.1 (t.host ∙ sym z)) (omega arith) (omega arith) (omega arith) (omega arith))

  -- a write there, full or torn, keeps all else
  pub data_spares : (g : List ℕ) → ChangesOnly (h + r) (length xs) f g → Spares f g
  data_spares g changes =
      let piece = t.piece in
      spares (h + r) (length xs) f g changes (λ i rest. rest_stored f i (h + r) (length xs) n rest t.below target_some (omega (arith, t.host)) (omega (arith, t.host))) (goes_kept f g (torn_head g changes) (torn_l1 g changes) (torn_entries g changes))

  -- and so the tables, where the length stays
  pub torn_tables : (g : List ℕ) → ChangesOnly (h + r) (length xs) f g → length g ≡ length f → SameTables f g
  torn_tables g changes len = record {
    longer = omega (arith, len);
    whole = rw len t.form.whole;
    head = torn_head g changes;
    l1 = torn_l1 g changes;
    entries = torn_entries g changes;
  }

  pub data_tables : SameTables f (overlay f (h + r) xs)
  data_tables = torn_tables (overlay f (h + r) xs) (changes_overlay (h + r) xs f) data_length

  pub data_keeps : KeepsRest f (overlay f (h + r) xs)
  data_keeps = record {
    spares = data_spares (overlay f (h + r) xs) (changes_overlay (h + r) xs f);
    rest = rest_kept f (overlay f (h + r) xs) t.form data_tables;
    grown = λ o some low high whole. absurd (omega (arith, data_length));
  }

module _ (f : List ℕ) (at h : ℕ) (xs : List ℕ) (t : Target f (at / 4096) h (at % 4096) xs) (inside : at + length xs ≤ disk_size f) where
  abbrev g : List ℕ
  g = overlay f (h + at % 4096) xs

  small_clusters : (x : ℕ) → x < disk_size f → x / 4096 < clusters_of f
  small_clusters x small = let limit = t.form.header.size_limit in omega arith

  host_kept : (x : ℕ) → x < disk_size f → host_of g (x / 4096) ≡ host_of f (x / 4096)
  host_kept x small = same_host f g (data_tables f (at / 4096) h (at % 4096) xs t) (x / 4096) (clusters_below f (x / 4096) t.form (small_clusters x small))

  -- a byte of the disk outside of the range
  other_byte : (x : ℕ) → x < disk_size f → (x < at) ⊎ (at + length xs ≤ x) → disk_byte g x ≡ disk_byte f x
  other_byte x small out =
      let changes = changes_overlay (h + at % 4096) xs f in
      let c = target_cluster f (at / 4096) h (at % 4096) xs t in
      let piece = t.piece in
      disk_byte_same f g x (host_kept x small) (λ some.
      let cx = t.form.hosts (x / 4096) (small_clusters x small) some in
      elim (cases_eq (x / 4096) (at / 4096)) [
        | inl same ↦
            let hx : host_of f (x / 4096) ≡ h = ap (host_of f) same ∙ t.host in
            changes.same (host_of f (x / 4096) + x % 4096) (⊎_elim (λ below. inl (omega (arith, hx))) (λ above. inr (omega (arith, hx))) out)
        | inr other ↦
            let differ : host_of f (x / 4096) ≢ h = λ z. elim (cases_lt (x / 4096) (at / 4096)) [
              | inl lt ↦ t.form.distinct (x / 4096) (at / 4096) lt t.below some (z ∙ sym t.host)
              | inr le ↦ t.form.distinct (at / 4096) (x / 4096) (omega (arith, other)) (small_clusters x small) (target_some f (at / 4096) h (at % 4096) xs t) (t.host ∙ sym z)
            ] in
            changes.same (host_of f (x / 4096) + x % 4096) (⊎_elim (λ below. inl (omega arith)) (λ above. inr above)
            (parts_apart (host_of f (x / 4096)) h (h + at % 4096) (length xs) (host_of f (x / 4096) + x % 4096) 1 cx.aligned c.aligned differ (omega arith) (omega arith) (omega arith) (omega arith)))
      ])

  -- a byte in the range
  written_byte : (i : ℕ) → i < length xs → disk_byte g (at + i) ≡ byte xs i
  written_byte i lt =
      let piece = t.piece in
      let cluster = same_cluster at (length xs) i piece lt in
      let place = in_cluster at (length xs) i piece lt in
      let host : host_of g ((at + i) / 4096) ≡ h = host_kept (at + i) (omega arith) ∙ ap (host_of f) cluster ∙ t.host in
      let o : host_of g ((at + i) / 4096) + (at + i) % 4096 ≡ h + at % 4096 + i = omega (arith, host, place) in
      let back : h + at % 4096 + i - (h + at % 4096) ≡ i = omega arith in
      stored_byte g (at + i) (λ z. t.some (sym host ∙ z)) ∙ ap (λ (k : ℕ). byte g k) o
      ∙ byte-overlay_in f (h + at % 4096) xs (h + at % 4096 + i) (omega arith) (omega arith) ∙ ap (byte xs) back

  pub data_disk : disk_of g ≡ overlay (disk_of f) at xs
  data_disk =
      let size : disk_size g ≡ disk_size f = same_size f g (data_tables f (at / 4096) h (at % 4096) xs t).head in
      let fits : at + length xs ≤ length (disk_of f) = omega (arith, length-disk_of f) in
      let len : length (disk_of g) ≡ length (overlay (disk_of f) at xs) = length-disk_of g ∙ size ∙ sym (length-overlay_inside (disk_of f) at xs fits ∙ length-disk_of f) in
      same_file (disk_of g) (overlay (disk_of f) at xs) len (λ x lt.
      let small : x < disk_size f = omega (arith, length-disk_of g, size) in
      let left = byte_of_disk g x (omega (arith, size)) in
      elim (cases_lt x at) [
        | inl before ↦ left ∙ other_byte x small (inl before) ∙ sym (byte-overlay_below (disk_of f) at xs x before ∙ byte_of_disk f x small)
        | inr from ↦ elim (cases_lt x (at + length xs)) [
          | inl within ↦
              let is : at + (x - at) ≡ x = omega arith in
              left ∙ sym (ap (disk_byte g) is) ∙ written_byte (x - at) (omega arith) ∙ sym (byte-overlay_in (disk_of f) at xs x from within)
          | inr past ↦ left ∙ other_byte x small (inr past) ∙ sym (byte-overlay_above (disk_of f) at xs x past ∙ byte_of_disk f x small)
        ]
      ])
