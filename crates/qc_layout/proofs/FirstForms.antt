-- The one form of image that `replay` takes, by the format: a file of that form stands in it for the disk that it stands for.
use Rattle.std.specs.Int.{w64, w32}
use Rattle.std.proofs.Common.{rules}
use Rattle.std.proofs.Common.{◌≡◌, ◌≢◌, inl, inr, ℕ, ◌+◌, ◌*◌, ◌/◌, ◌%◌, ◌^◌, ◌<◌, ◌≤◌, max, List, length, Option, Some, None, Result, Ok, refl, sym, ap, ◌∙◌, subst, arith}
use Rattle.std.proofs.lemmas.Bool.{ne_eqb, cases_eq}
use Rattle.std.proofs.lemmas.List.FromFn.{length-map-range_with_len, get_or-map-range_with_len}
use Rattle.disk_model.specs.Files.{byte, u64_at}
use Rattle.disk_model.proofs.Laws.{same_file, reading_same, number-reading}
use Rattle.qc_layout.specs.declared.entry.EntryFault.{EntryFault}
use Rattle.qc_layout.specs.declared.entry.L2Entry.{L2Entry}
use Rattle.qc_layout.specs.declared.entry.L2Entry.TheVariants.{Hole, Stored}
use Rattle.qc_layout.specs.declared.header.Part.{Part}
use Rattle.qc_layout.specs.Entries.{offset_in, l1_of, l2_of}
use Rattle.qc_layout.specs.Header.{fields_of}
use Rattle.qc_layout.specs.Extensions.{list_end}
use Rattle.qc_layout.specs.Disks.{Passes, Stands, ReadsAs, bits_of, words_in, entry_under, entry_at}
use Rattle.qc_layout.specs.FirstForm.{host_of, table_offset, l1_offset, clusters_of, disk_byte, disk_of, disk_size, IsPlainEntry, IsFirstForm, StandsInFirstForm, IsRest}
use Rattle.qc_layout.specs.Laws.{BeginAlike, start_length}

-- ---- the disk, byte by byte

pub length-disk_of : (file : List ℕ) → length (disk_of file) ≡ disk_size file
unfolding disk_of
length-disk_of file = length-map-range_with_len (disk_byte file) 0 (disk_size file)

pub byte_of_disk : (file : List ℕ) (x : ℕ) → x < disk_size file → byte (disk_of file) x ≡ disk_byte file x
unfolding disk_of
byte_of_disk file x inside = get_or-map-range_with_len (disk_byte file) 0 (disk_size file) x x 0 inside (omega arith)

pub hole_byte : (file : List ℕ) (x : ℕ) → host_of file (x / 4096) ≡ 0 → disk_byte file x ≡ 0
unfolding disk_byte
hole_byte file x none = rw none refl

pub stored_byte : (file : List ℕ) (x : ℕ) → host_of file (x / 4096) ≢ 0 → disk_byte file x ≡ byte file (host_of file (x / 4096) + x % 4096)
unfolding disk_byte
stored_byte file x some = rw (ne_eqb (host_of file (x / 4096)) 0 some) refl

pub host_none : (file : List ℕ) (n : ℕ) → table_offset file ≡ 0 → 0 ≡ host_of file n
unfolding host_of
host_none file n none = rw none refl

pub host_some : (file : List ℕ) (n : ℕ) → table_offset file ≢ 0 → offset_in (u64_at file (table_offset file + 8 * n)) ≡ host_of file n
unfolding host_of
host_some file n some = rw (ne_eqb (table_offset file) 0 some) refl

-- the disk has at most 512 clusters
pub clusters_below : (file : List ℕ) (n : ℕ) → IsFirstForm file → n < clusters_of file → n < 512
clusters_below file n form below = let limit = form.header.size_limit in omega arith

-- ---- the numbers of its header

pub first_bits : (file : List ℕ) → IsFirstForm file → bits_of file ≡ 12
unfolding fields_of
first_bits file form = sym (number-reading w32 file 0 104 20 (omega arith)) ∙ form.header.bits

first_size : (file : List ℕ) → (fields_of file).size ≡ disk_size file
unfolding fields_of
first_size file = sym (number-reading w64 file 0 104 24 (omega arith))

first_l1 : (file : List ℕ) → (fields_of file).l1_table_offset ≡ l1_offset file
unfolding fields_of
first_l1 file = sym (number-reading w64 file 0 104 40 (omega arith))

-- ---- plain entries

-- the first level names no table, or one
l1_at_none : (word : ℕ) → IsPlainEntry word → offset_in word ≡ 0 → l1_of 12 word ≡ Ok None
unfolding l1_of
l1_at_none word plain none = search rules

l1_at_some : (word : ℕ) → IsPlainEntry word → offset_in word ≢ 0 → offset_in word % 4096 ≡ 0 → l1_of 12 word ≡ Ok (Some (offset_in word))
unfolding l1_of
l1_at_some word plain some aligned = search rules

-- the second level names no cluster, or one
l2_at_none : (word : ℕ) → IsPlainEntry word → offset_in word ≡ 0 → l2_of 12 word ≡ Ok Hole
unfolding l2_of
l2_at_none word plain none = search rules

l2_at_some : (word : ℕ) → IsPlainEntry word → offset_in word ≢ 0 → offset_in word % 4096 ≡ 0 → l2_of 12 word ≡ Ok (Stored (offset_in word))
unfolding l2_of
l2_at_some word plain some aligned = search rules

-- ---- what the entries say of a cluster

-- the one entry of the first level counts 512 clusters
first_entry : (file : List ℕ) (n : ℕ) → IsFirstForm file → n < clusters_of file → entry_at file n ≡ entry_under file (l1_of 12 (u64_at file (l1_offset file))) n
unfolding entry_at words_in
first_entry file n form below =
    let few = clusters_below file n form below in
    rw (first_bits file form, first_l1 file) (search rules)

-- without a table a cluster is a hole
entry_no_table : (file : List ℕ) (n : ℕ) → IsFirstForm file → n < clusters_of file → table_offset file ≡ 0 → entry_at file n ≡ Ok Hole
entry_no_table file n form below none =
    first_entry file n form below
    ∙ ap (λ (r : Result (Option ℕ) EntryFault). entry_under file r n) (l1_at_none (u64_at file (l1_offset file)) form.l1_entry none)

-- with a table its entry says it
entry_in_table : (file : List ℕ) (n : ℕ) → IsFirstForm file → n < clusters_of file → table_offset file ≢ 0 → entry_at file n ≡ l2_of 12 (u64_at file (table_offset file + 8 * n))
entry_in_table file n form below some =
    first_entry file n form below
    ∙ ap (λ (r : Result (Option ℕ) EntryFault). entry_under file r n) (l1_at_some (u64_at file (l1_offset file)) form.l1_entry some (form.table some).aligned)
    ∙ ap (λ (b : ℕ). l2_of b (u64_at file (table_offset file + 8 * n))) (first_bits file form)

-- a cluster that is not stored is a hole
pub entry_hole : (file : List ℕ) (n : ℕ) → IsFirstForm file → n < clusters_of file → host_of file n ≡ 0 → entry_at file n ≡ Ok Hole
entry_hole file n form below none = elim (cases_eq (table_offset file) 0) [
  | inl no_table ↦ entry_no_table file n form below no_table
  | inr some ↦
      entry_in_table file n form below some
      ∙ l2_at_none (u64_at file (table_offset file + 8 * n)) (form.entries n below some) (host_some file n some ∙ none)
]

-- one that is stored is so by its entry
pub entry_stored : (file : List ℕ) (n : ℕ) → IsFirstForm file → n < clusters_of file → host_of file n ≢ 0 → entry_at file n ≡ Ok (Stored (host_of file n))
entry_stored file n form below stored =
    let some : table_offset file ≢ 0 = (λ none. stored (sym (host_none file n none))) in
    let host = host_some file n some in
    entry_in_table file n form below some
    ∙ l2_at_some (u64_at file (table_offset file + 8 * n)) (form.entries n below some) (λ none. stored (sym host ∙ none)) (ap (λ (o : ℕ). o % 4096) host ∙ (form.hosts n below stored).aligned)
    ∙ ap (λ (o : ℕ). let r : Result L2Entry EntryFault = Ok (Stored o) in r) host

-- ---- a byte of the disk, as the entries give it

-- what the entries give is the byte, and the byte is what they give
byte_as : (file : List ℕ) (x b : ℕ) → IsFirstForm file → x < disk_size file
    → (ReadsAs file (entry_at file (x / 4096)) (x % 4096) b → b ≡ disk_byte file x) × (b ≡ disk_byte file x → ReadsAs file (entry_at file (x / 4096)) (x % 4096) b)
byte_as file x b form inside =
    let below : x / 4096 < clusters_of file = omega arith in
    elim (cases_eq (host_of file (x / 4096)) 0) [
      | inl none ↦ rw (entry_hole file (x / 4096) form below none, hole_byte file x none) (λ is. is, λ is. is)
      | inr some ↦ rw (entry_stored file (x / 4096) form below some, stored_byte file x some) (λ is. is, λ is. is)
    ]

-- ---- what it stands for

-- where a byte is, by the header's cluster bits
abbrev ReadsWith : List ℕ → ℕ → ℕ → ℕ → Type 0
ReadsWith file bits x b = ReadsAs file (entry_at file (x / 2 ^ bits)) (x % 2 ^ bits) b

-- A file of this form that stands for a disk does so in this form,
pub standing_in_form : (part : Part) (file disk : List ℕ) → Stands part file disk → IsFirstForm file → StandsInFirstForm file disk
standing_in_form part file disk stands form =
    let long : length disk ≡ disk_size file = stands.size ∙ first_size file in
    record {
      form = form;
      bytes = same_file (disk_of file) disk (length-disk_of file ∙ sym long) (λ x lt.
          let inside : x < disk_size file = omega (arith, length-disk_of file) in
          let reads = subst (λ (bits : ℕ). ReadsWith file bits x (byte disk x)) (first_bits file form) (stands.bytes x (omega (arith, long))) in
          byte_of_disk file x inside ∙ sym ((byte_as file x (byte disk x) form inside).0 reads));
    }

-- and one that does so in this form stands for the disk, if it passes the rules of a header.
pub standing_by_format : (part : Part) (file disk : List ℕ) → Passes part file → StandsInFirstForm file disk → Stands part file disk
standing_by_format part file disk passes stands =
    let form = stands.form in
    let long : length disk ≡ disk_size file = sym (ap length stands.bytes) ∙ length-disk_of file in
    record {
      passes = passes;
      size = long ∙ sym (first_size file);
      bytes = λ x lt.
          let inside : x < disk_size file = omega (arith, long) in
          let is : byte disk x ≡ disk_byte file x = sym (ap (λ (d : List ℕ). byte d x) stands.bytes) ∙ byte_of_disk file x inside in
          subst (λ (bits : ℕ). ReadsWith file bits x (byte disk x)) (sym (first_bits file form)) ((byte_as file x (byte disk x) form inside).1 is);
    }

-- ---- its first cluster

-- neither table is there, and no stored cluster
pub first_cluster : (file : List ℕ) (i : ℕ) → IsFirstForm file → i < 4096 → IsRest file i
first_cluster file i form first = search rules

-- a file that has the same first cluster, and is no shorter, begins alike
pub first_alike : (old new : List ℕ) → IsFirstForm old → length old ≤ length new → ((i : ℕ) → i < 4096 → byte new i ≡ byte old i) → BeginAlike 4096 old new
first_alike old new form longer same =
    let start : start_length old ≡ 4096 = ap (λ (bits : ℕ). max 512 (list_end bits)) (first_bits old form) in
    let long = form.long in
    record {
      enough = omega (arith, start);
      bytes = reading_same old new 0 4096 (λ i from to. sym (same i (omega arith)));
      short = λ short. absurd (omega arith);
      long = λ short. absurd (omega arith);
    }
