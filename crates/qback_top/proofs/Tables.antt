-- Writes that keep an image's tables.
use Rattle.std.specs.Int.{w64}
use Rattle.std.proofs.Common.{◌≡◌, ◌≢◌, ◌⊎◌, inl, inr, ⊎_elim, ℕ, ◌+◌, ◌*◌, ◌/◌, ◌%◌, ◌<◌, ◌≤◌, List, length, refl, sym, ap, subst, ◌∙◌, arith}
use Rattle.std.proofs.lemmas.Bool.{cases_lt, cases_eq}
use Rattle.disk_model.specs.Files.{byte, overlay, u64_at, IsTorn}
use Rattle.disk_model.proofs.Bytes.{overlay_no_shorter, same_file}
use Rattle.disk_model.proofs.Outcomes.{torn_elsewhere, byte-overlay_outside}
use Rattle.disk_model.proofs.Words.{reading_same, number_same}
use Rattle.qc_layout.specs.Entries.{offset_in}
use Rattle.qc_layout.specs.FirstForm.{head_of, l1_offset, host_of, table_offset, clusters_of, disk_byte, disk_of, disk_size, IsHeader, IsFirstForm, IsCluster, IsPlainEntry, IsRest}
use Rattle.qback_top.specs.declared.image.Image.{Image}
use Rattle.qback_top.specs.Open.{IsOpen, TablesGoOn, Spares, KeepsRest}
use Rattle.qback_top.proofs.Named.{goes_none, goes_on, grown_on, entry_none, entry_some}
use Rattle.qback_top.proofs.Disk.{length-disk_of, byte_of_disk, host_none, host_some, stored_byte, hole_byte, clusters_below}

-- ---- a file that changed in one range alone

pub record ChangesOnly (lo n : ℕ) (f g : List ℕ) : Type 0 where
  pub longer : length f ≤ length g
  pub same : (i : ℕ) → (i < lo) ⊎ (lo + n ≤ i) → byte g i ≡ byte f i

pub changes_torn : (lo : ℕ) (xs f g : List ℕ) → IsTorn lo xs f g → ChangesOnly lo (length xs) f g
changes_torn lo xs f g torn = record { longer = torn.no_shorter; same = λ i outside. torn_elsewhere lo xs f g i torn outside }

pub changes_overlay : (lo : ℕ) (xs f : List ℕ) → ChangesOnly lo (length xs) f (overlay f lo xs)
changes_overlay lo xs f = record { longer = overlay_no_shorter f lo xs; same = λ i outside. byte-overlay_outside f lo xs i outside }

-- the range [o, o + k) lies apart from the one that changed
abbrev pub LiesApart : ℕ → ℕ → ℕ → ℕ → Type 0
LiesApart lo n o k = (o + k ≤ lo) ⊎ (lo + n ≤ o)

byte_apart : (lo n o k i : ℕ) → LiesApart lo n o k → o ≤ i → i < o + k → (i < lo) ⊎ (lo + n ≤ i)
byte_apart lo n o k i (inl below) from to = inl (omega arith)
byte_apart lo n o k i (inr above) from to = inr (omega arith)

pub u64_kept : (lo n : ℕ) (f g : List ℕ) (o : ℕ) → ChangesOnly lo n f g → LiesApart lo n o 8 → u64_at g o ≡ u64_at f o
u64_kept lo n f g o changes apart = number_same w64 g f o (λ i from to. changes.same i (byte_apart lo n o 8 i apart from to))

pub head_kept : (lo n : ℕ) (f g : List ℕ) → ChangesOnly lo n f g → 104 ≤ lo → head_of g ≡ head_of f
head_kept lo n f g changes past = reading_same g f 0 104 (λ i from to. changes.same i (inl (omega arith)))

-- ---- parts of clusters

-- two clusters
pub clusters_apart : (a b : ℕ) → a % 4096 ≡ 0 → b % 4096 ≡ 0 → a ≢ b → (a + 4096 ≤ b) ⊎ (b + 4096 ≤ a)
clusters_apart a b whole_a whole_b differ = elim (cases_lt a b) [ inl lt ↦ inl (omega arith) | inr le ↦ inr (omega (arith, differ)) ]

-- a part of one cluster lies apart from a part of another
pub parts_apart : (a b lo n o k : ℕ) → a % 4096 ≡ 0 → b % 4096 ≡ 0 → a ≢ b → a ≤ o → o + k ≤ a + 4096 → b ≤ lo → lo + n ≤ b + 4096 → LiesApart lo n o k
parts_apart a b lo n o k whole_a whole_b differ low high from to =
    ⊎_elim (λ before. inl (omega arith)) (λ behind. inr (omega arith)) (clusters_apart a b whole_a whole_b differ)

-- ---- the bytes that are neither table's nor a stored cluster's

pub spares : (lo n : ℕ) (f g : List ℕ) → ChangesOnly lo n f g → ((i : ℕ) → IsRest f i → (i < lo) ⊎ (lo + n ≤ i)) → TablesGoOn f g → Spares f g
spares lo n f g changes apart tables = record { longer = changes.longer; bytes = λ i rest. changes.same i (apart i rest); tables = tables }

pub spares_none : (f : List ℕ) → Spares f f
spares_none f = record { longer = omega arith; bytes = λ i rest. refl; tables = goes_none f }

pub keeps_none : (f : List ℕ) → KeepsRest f f
keeps_none f = record { spares = spares_none f; rest = λ i rest. rest; grown = λ o some low high whole. absurd (omega arith) }

pub spares_on : {f g h : List ℕ} → KeepsRest f g → Spares g h → Spares f h
spares_on first second = record {
  longer = (let a = first.spares.longer in let b = second.longer in omega arith);
  bytes = λ i rest. second.bytes i (first.rest i rest) ∙ first.spares.bytes i rest;
  tables = goes_on first.spares.tables second.tables first.spares.longer;
}

pub keeps_on : {f g h : List ℕ} → IsFirstForm g → KeepsRest f g → KeepsRest g h → KeepsRest f h
keeps_on {f} {g} form first second = record {
  spares = spares_on first second.spares;
  rest = λ i rest. second.rest i (first.rest i rest);
  grown = grown_on first.spares.tables second.spares.tables first.spares.longer (λ n below. clusters_below g n form below) first.grown second.grown;
}

out_of : (i o k : ℕ) → (o ≤ i → i < o + k → ⊥) → (i < o) ⊎ (o + k ≤ i)
out_of i o k none = elim (cases_lt i o) [ inl below ↦ inl below | inr from ↦ elim (cases_lt i (o + k)) [ inl to ↦ absurd (none from to) | inr above ↦ inr above ] ]

-- such a byte lies apart from a part of the first-level entry, of the second-level table, of a stored cluster
pub rest_l1 : (f : List ℕ) (i : ℕ) → IsRest f i → (i < l1_offset f) ⊎ (l1_offset f + 8 ≤ i)
rest_l1 f i rest = out_of i (l1_offset f) 8 rest.not_l1

narrow : (i o k lo n : ℕ) → (i < o) ⊎ (o + k ≤ i) → o ≤ lo → lo + n ≤ o + k → (i < lo) ⊎ (lo + n ≤ i)
narrow i o k lo n (inl below) from to = inl (omega arith)
narrow i o k lo n (inr above) from to = inr (omega arith)

pub rest_table : (f : List ℕ) (i lo n : ℕ) → IsRest f i → table_offset f ≢ 0 → table_offset f ≤ lo → lo + n ≤ table_offset f + 4096 → (i < lo) ⊎ (lo + n ≤ i)
rest_table f i lo n rest some from to = narrow i (table_offset f) 4096 lo n (out_of i (table_offset f) 4096 (rest.not_table some)) from to

pub rest_stored : (f : List ℕ) (i lo n m : ℕ) → IsRest f i → m < clusters_of f → host_of f m ≢ 0 → host_of f m ≤ lo → lo + n ≤ host_of f m + 4096 → (i < lo) ⊎ (lo + n ≤ i)
rest_stored f i lo n m rest below some from to = narrow i (host_of f m) 4096 lo n (out_of i (host_of f m) 4096 (rest.not_stored m below some)) from to

-- ---- the tables are the same

pub record SameTables (f g : List ℕ) : Type 0 where
  pub longer : length f ≤ length g
  pub whole : length g % 4096 ≡ 0
  pub head : head_of g ≡ head_of f
  pub l1 : u64_at g (l1_offset f) ≡ u64_at f (l1_offset f)
  pub entries : (n : ℕ) → n < 512 → table_offset f ≢ 0 → u64_at g (table_offset f + 8 * n) ≡ u64_at f (table_offset f + 8 * n)

pub same_l1 : (f g : List ℕ) → head_of g ≡ head_of f → l1_offset g ≡ l1_offset f
same_l1 f g head = ap (λ (h : List ℕ). u64_at h 40) head

pub same_size : (f g : List ℕ) → head_of g ≡ head_of f → disk_size g ≡ disk_size f
same_size f g head = ap (λ (h : List ℕ). u64_at h 24) head

pub same_clusters : (f g : List ℕ) → head_of g ≡ head_of f → clusters_of g ≡ clusters_of f
same_clusters f g head = ap (λ (h : List ℕ). (u64_at h 24 + 4095) / 4096) head

pub same_l1_entry : (f g : List ℕ) → head_of g ≡ head_of f → u64_at g (l1_offset f) ≡ u64_at f (l1_offset f) → u64_at g (l1_offset g) ≡ u64_at f (l1_offset f)
same_l1_entry f g head l1 = ap (λ (h : List ℕ). u64_at g (u64_at h 40)) head ∙ l1

-- each entry stays
pub goes_kept : (f g : List ℕ) → head_of g ≡ head_of f → u64_at g (l1_offset f) ≡ u64_at f (l1_offset f)
    → ((n : ℕ) → n < 512 → table_offset f ≢ 0 → u64_at g (table_offset f + 8 * n) ≡ u64_at f (table_offset f + 8 * n)) → TablesGoOn f g
goes_kept f g head l1 entries =
    let table : table_offset g ≡ table_offset f = ap offset_in (same_l1_entry f g head l1) in
    record {
      head = head;
      table = inl l1;
      entries = λ n lt. inl (elim (cases_eq (table_offset f) 0) [
        | inl none ↦ entry_none g n (table ∙ none) ∙ sym (entry_none f n none)
        | inr some ↦ entry_some g n (λ none. some (sym table ∙ none)) ∙ ap (λ (t : ℕ). u64_at g (t + 8 * n)) table ∙ entries n lt some ∙ sym (entry_some f n some)
      ]);
    }

pub same_table : (f g : List ℕ) → SameTables f g → table_offset g ≡ table_offset f
same_table f g s = ap offset_in (same_l1_entry f g s.head s.l1)

pub same_host : (f g : List ℕ) → SameTables f g → (n : ℕ) → n < 512 → host_of g n ≡ host_of f n
same_host f g s n lt = elim (cases_eq (table_offset f) 0) [
  | inl none ↦ sym (host_none g n (same_table f g s ∙ none)) ∙ host_none f n none
  | inr some ↦ sym (host_some g n (λ none. some (sym (same_table f g s) ∙ none))) ∙ ap (λ (t : ℕ). offset_in (u64_at g (t + 8 * n))) (same_table f g s) ∙ ap offset_in (s.entries n lt some) ∙ host_some f n some
]

pub cluster_grows : (f g : List ℕ) (o : ℕ) → length f ≤ length g → IsCluster f o → IsCluster g o
cluster_grows f g o longer is = record { aligned = is.aligned; some = is.some; inside = let i = is.inside in omega arith }

pub form_kept : (f g : List ℕ) → IsFirstForm f → SameTables f g → IsFirstForm g
form_kept f g form s =
    let t = same_table f g s in
    let e1 = same_l1_entry f g s.head s.l1 in
    let l1-is = same_l1 f g s.head in
    let clusters = same_clusters f g s.head in
    let below = λ (n : ℕ) (lt : n < clusters_of g). (let h : n < clusters_of f = rw clusters at lt in h) in
    let host = λ (n : ℕ) (lt : n < clusters_of g). same_host f g s n (clusters_below f n form (below n lt)) in
    record {
      long = let l = form.long in let m = s.longer in omega arith;
      whole = s.whole;
      header = subst IsHeader (sym s.head) form.header;
      l1 = subst (IsCluster g) (sym l1-is) (cluster_grows f g (l1_offset f) s.longer form.l1);
      l1_entry = subst IsPlainEntry (sym e1) form.l1_entry;
      table = λ ne. subst (IsCluster g) (sym t) (cluster_grows f g (table_offset f) s.longer (form.table (λ z. ne (t ∙ z))));
      table_apart = λ z. form.table_apart (sym t ∙ z ∙ l1-is);
      entries = λ n lt ne. let some : table_offset f ≢ 0 = λ z. ne (t ∙ z) in subst IsPlainEntry (sym (s.entries n (clusters_below f n form (below n lt)) some) ∙ ap (λ (k : ℕ). u64_at g (k + 8 * n)) (sym t)) (form.entries n (below n lt) some);
      hosts = λ n lt ne. subst (IsCluster g) (sym (host n lt)) (cluster_grows f g (host_of f n) s.longer (form.hosts n (below n lt) (λ z. ne (host n lt ∙ z))));
      hosts_apart = λ n lt ne. let a = form.hosts_apart n (below n lt) (λ z. ne (host n lt ∙ z)) in ((λ z. a.0 (sym (host n lt) ∙ z ∙ l1-is)), (λ z. a.1 (sym (host n lt) ∙ z ∙ t)));
      distinct = λ m n mn lt ne. let ml : m < clusters_of g = omega arith in λ z. form.distinct m n mn (below n lt) (λ y. ne (host m ml ∙ y)) (sym (host m ml) ∙ z ∙ host n lt);
    }

pub rest_kept : (f g : List ℕ) → IsFirstForm f → SameTables f g → (i : ℕ) → IsRest f i → IsRest g i
rest_kept f g form s i rest =
    let l1-is = same_l1 f g s.head in
    let t = same_table f g s in
    let clusters = same_clusters f g s.head in
    record {
      inside = let a = rest.inside in let b = s.longer in omega arith;
      not_l1 = λ from to. rest.not_l1 (omega (arith, l1-is)) (omega (arith, l1-is));
      not_table = λ some from to. rest.not_table (λ none. some (t ∙ none)) (omega (arith, t)) (omega (arith, t));
      not_stored = λ n below some from to.
          let here : n < clusters_of f = rw clusters at below in
          let same = same_host f g s n (clusters_below f n form here) in
          rest.not_stored n here (λ none. some (same ∙ none)) (omega (arith, same)) (omega (arith, same));
    }

-- ---- the disk

-- a byte of the disk, by where it is stored
pub disk_byte_same : (f g : List ℕ) (x : ℕ) → host_of g (x / 4096) ≡ host_of f (x / 4096) → (host_of f (x / 4096) ≢ 0 → byte g (host_of f (x / 4096) + x % 4096) ≡ byte f (host_of f (x / 4096) + x % 4096)) → disk_byte g x ≡ disk_byte f x
disk_byte_same f g x same at_host = elim (cases_eq (host_of f (x / 4096)) 0) [
  | inl none ↦ hole_byte g x (same ∙ none) ∙ sym (hole_byte f x none)
  | inr some ↦ stored_byte g x (λ none. some (sym same ∙ none)) ∙ ap (λ (k : ℕ). byte g (k + x % 4096)) same ∙ at_host some ∙ sym (stored_byte f x some)
]

-- the disk is the same where each of its bytes is
pub disk_same : (f g : List ℕ) → disk_size g ≡ disk_size f → ((x : ℕ) → x < disk_size f → disk_byte g x ≡ disk_byte f x) → disk_of g ≡ disk_of f
disk_same f g size each =
    same_file (disk_of g) (disk_of f) (length-disk_of g ∙ size ∙ sym (length-disk_of f)) (λ x inside.
    let small : x < disk_size f = omega (arith, length-disk_of g, size) in
    byte_of_disk g x (omega (arith, size)) ∙ each x small ∙ sym (byte_of_disk f x small))

pub open_kept : (image : Image) (f g : List ℕ) → IsOpen image f → SameTables f g → length g ≡ length f → IsOpen image g
open_kept image f g o s len = record {
  form = form_kept f g o.form s;
  size = o.size ∙ sym (same_size f g s.head);
  l1 = o.l1 ∙ sym (same_l1 f g s.head);
  end = o.end ∙ sym len;
}
