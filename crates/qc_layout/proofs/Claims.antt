-- The claims of an image: which they are, and that none stands twice.
use Rattle.std.proofs.lemmas.Grind.{common_steps, div_ceil_times}
use Rattle.std.proofs.Common.{rules}
use Rattle.std.proofs.Common.{◌≡◌, ◌≢◌, ℕ, ◌+◌, ◌-◌, ◌*◌, ◌/◌, ◌%◌, ◌^◌, ◌<◌, ◌≤◌, List, length, map, inl, inr, Option, Some, None, Result, Ok, Err, refl, sym, ap, ◌∙◌, arith}
use Rattle.std.specs.Prelude.{◌==◌, ◌||◌, not, if◌then◌else◌}
use Rattle.std.specs.Int.{div_ceil}
use Rattle.std.proofs.lemmas.Bool.{eq-eqb}
use Rattle.std.proofs.lemmas.Nat.{pow-add}
use Rattle.std.proofs.Math.Nat.{lt_of_mul-lt-mul_left, mul-le-mul_left, mul-div_cancel_left, mul-mod_right, mul_assoc}
use Rattle.disk_model.specs.Files.{u64_at}
use Rattle.qc_layout.specs.declared.entry.EntryFault.{EntryFault}
use Rattle.qc_layout.specs.declared.entry.L2Entry.{L2Entry}
use Rattle.qc_layout.specs.declared.entry.L2Entry.TheVariants as entries
use Rattle.qc_layout.specs.declared.header.Fields.{Fields}
use Rattle.qc_layout.specs.declared.header.Part.{Part}
use Rattle.qc_layout.specs.Entries.{l2_of}
use Rattle.qc_layout.specs.Header.{fields_of, number_fault, first_of, or_else, form_rules, feature_rules, table_rules}
use Rattle.qc_layout.specs.Disks.{bits_of, blocks_in, block_at, table_at, words_in, place_of}
use Rattle.qc_layout.specs.Owners.{Who, HostIs, Refers}
use Rattle.qc_layout.specs.Owners.Who.{Head, Counts, Block, Tables, Table, Guest}
use Rattle.qc_layout.specs.declared.faults.ImageFault.{ImageFault}
use Rattle.qc_layout.specs.Opening.{Check, each_below, block_entry, block_named, block_tests, block_claims, count_clusters, count_tests, count_claims, count_checks, slot_checks, slot_of, table_checks, table_clusters, map_checks, image_checks}
use Rattle.qc_layout.specs.declared.faults.ImageFault.TheVariants.{BadBlock}
use Rattle.qc_layout.specs.Opening.Check.{Refused, Reached, Claim}
use Rattle.qc_layout.proofs.Checking.{Has, has_left, has_right, has_each, has_mapped}
use Rattle.qc_layout.proofs.NumberLaws.{bits_low}
use Rattle.qc_layout.proofs.Passing.{none_right, numbers_pass}

-- ---- clusters by number

-- what the numbers of a header say of its tables
pub record IsSized (file : List ℕ) : Type 0 where
  pub some : 512 ≤ 2 ^ bits_of file
  pub sectors : 2 ^ bits_of file ≡ 512 * 2 ^ (bits_of file - 9)
  pub tables : (fields_of file).l1_table_offset % 2 ^ bits_of file ≡ 0
  pub counts : (fields_of file).refcount_table_offset % 2 ^ bits_of file ≡ 0

places_pass : (h : Fields) → first_of (table_rules h) ≡ None → (h.l1_table_offset % 2 ^ h.cluster_bits ≡ 0) × (h.refcount_table_offset % 2 ^ h.cluster_bits ≡ 0)
places_pass h none = search rules

pub sized : (part : Part) (file : List ℕ) → number_fault part (length file) (fields_of file) ≡ None → IsSized file
sized part file none =
    let h = fields_of file in
    let last = none_right (first_of (feature_rules part h)) (first_of (table_rules h))
    (none_right (first_of (form_rules (length file) h)) (or_else (first_of (feature_rules part h)) (first_of (table_rules h))) none) in
    let low : 9 ≤ h.cluster_bits = (numbers_pass part (length file) h none).bits_low in
    let same : 9 + (h.cluster_bits - 9) ≡ h.cluster_bits = omega arith in
    record {
      some = bits_low h.cluster_bits low;
      sectors = ap (λ (n : ℕ). 2 ^ n) (sym same) ∙ pow-add 2 9 (h.cluster_bits - 9);
      tables = (places_pass h last).0;
      counts = (places_pass h last).1;
    }

-- a range of bytes from a cluster's start on meets the clusters that it fills, the last one in part
pub met : (c from n m k : ℕ) → 0 < c → from % c ≡ 0 → n ≤ m * c → from < c * k + c → c * k < from + n → (from / c ≤ k) × (k < from / c + m)
met c from n m k some whole enough low high =
    let q : ℕ = from / c in
    let e : c * q ≡ from = omega arith in
    let below : q < k + 1 = lt_of_mul-lt-mul_left c (omega arith) in
    let above : k < q + m = lt_of_mul-lt-mul_left c (omega arith) in
    (omega arith, above)

pub meeting : (c from n m k : ℕ) → 0 < c → from % c ≡ 0 → m * c < n + c → from / c ≤ k → k < from / c + m → (from < c * k + c) × (c * k < from + n)
meeting c from n m k some whole enough low high =
    let q : ℕ = from / c in
    let e : c * q ≡ from = omega arith in
    let below : c * q ≤ c * k = mul-le-mul_left c low in
    let above : c * (k + 1) ≤ c * (q + m) = mul-le-mul_left c (omega arith) in
    (omega arith, omega arith)

-- the cluster of a place
place_cluster : (bits k : ℕ) → 512 ≤ 2 ^ bits → place_of bits k / 2 ^ bits ≡ k
unfolding place_of
place_cluster bits k some = mul-div_cancel_left k (omega arith)

pub named_cluster : (bits x k : ℕ) → 512 ≤ 2 ^ bits → x ≡ place_of bits k → x / 2 ^ bits ≡ k
named_cluster bits x k some is = ap (λ (y : ℕ). y / 2 ^ bits) is ∙ place_cluster bits k some

pub cluster_place : (bits x : ℕ) → 512 ≤ 2 ^ bits → x % 2 ^ bits ≡ 0 → place_of bits (x / 2 ^ bits) ≡ x
unfolding place_of
cluster_place bits x some whole = omega arith

-- ---- entries of the refcount table

-- an entry that names a cluster's start has none of bits 0 to 8 set
block_whole : (file : List ℕ) (i : ℕ) → IsSized file → u64_at file (block_entry file i) % 2 ^ bits_of file ≡ 0
    → (u64_at file (block_entry file i) % 512 ≡ 0) × (block_at file i % 2 ^ bits_of file ≡ 0)
block_whole file i size whole =
    let c : ℕ = 2 ^ bits_of file in
    let m : ℕ = 2 ^ (bits_of file - 9) in
    let u : ℕ = u64_at file (block_entry file i) in
    let some : 512 ≤ c = size.some in
    let parts : c * (u / c) ≡ u = omega arith in
    let sectors : 512 * (m * (u / c)) ≡ u = sym (mul_assoc 512 m (u / c)) ∙ ap (λ (x : ℕ). x * (u / c)) (sym size.sectors) ∙ parts in
    let zero : u % 512 ≡ 0 = ap (λ (x : ℕ). x % 512) (sym sectors) ∙ mul-mod_right 512 (m * (u / c)) in
    let same : block_at file i ≡ u = omega arith in
    (zero, ap (λ (x : ℕ). x % c) same ∙ whole)

bad_tests : (a b : ℕ) (bad fault : ImageFault) (named : Option ℕ) (r : Result (Option ℕ) ImageFault)
    → r ≡ (if not (a == 0) || not (b == 0) then Err bad else Ok named) → r ≡ Err fault → (fault ≡ bad) × (a ≡ 0 → b ≡ 0 → ⊥)
bad_tests a b bad fault named r is e = grind (arith, common_steps, eq-eqb)

-- an entry that is refused is bad,
pub block_bad : (file : List ℕ) (i : ℕ) (fault : ImageFault) → IsSized file → block_named file i ≡ Err fault
    → (fault ≡ BadBlock (block_entry file i)) × (u64_at file (block_entry file i) % 2 ^ bits_of file ≢ 0)
block_bad file i fault size is =
    let named : Option ℕ = (if block_at file i == 0 then None else Some (block_at file i)) in
    let word : ℕ = u64_at file (block_entry file i) in
    let bad : ImageFault = BadBlock (block_entry file i) in
    let t = bad_tests (word % 512) (block_at file i % 2 ^ bits_of file) bad fault named (block_named file i) refl is in
    (t.0, λ whole. let w = block_whole file i size whole in t.1 w.0 w.1)

-- one that passes names a cluster's start,
pub block_good : (file : List ℕ) (i : ℕ) (named : Option ℕ) → block_named file i ≡ Ok named → u64_at file (block_entry file i) % 2 ^ bits_of file ≡ 0
block_good file i named is = search rules

-- and the block is what stands there, or none
pub block_some : (file : List ℕ) (i block : ℕ) → block_named file i ≡ Ok (Some block) → (block ≡ block_at file i) × (block ≢ 0) × (block % 2 ^ bits_of file ≡ 0)
block_some file i block is = search rules

block_none : (file : List ℕ) (i : ℕ) → block_named file i ≡ Ok None → block_at file i ≡ 0
block_none file i is = search rules

-- ---- where its checks stand

has_tests : (file : List ℕ) (c : Check) → Has (count_tests file) c → Has (image_checks file) c
has_tests file c has = has_left (count_checks file) (map_checks file) c (has_left (count_tests file) (count_claims file) c has)

has_claims : (file : List ℕ) (c : Check) → Has (count_claims file) c → Has (image_checks file) c
has_claims file c has = has_left (count_checks file) (map_checks file) c (has_right (count_tests file) (count_claims file) c has)

-- of entry i of the refcount table
pub has_block_test : (file : List ℕ) (i : ℕ) (c : Check) → i < blocks_in file → Has (block_tests file (block_named file i)) c → Has (image_checks file) c
has_block_test file i c below has =
    let f : ℕ → List Check = λ j. block_tests file (block_named file j) in
    has_tests file c (has_right (map Reached (count_clusters file)) (each_below (blocks_in file) f) c (has_each f (blocks_in file) i c below has))

has_block_claim : (file : List ℕ) (i : ℕ) (c : Check) → i < blocks_in file → Has (block_claims file i (block_named file i)) c → Has (image_checks file) c
has_block_claim file i c below has =
    let f : ℕ → List Check = λ j. block_claims file j (block_named file j) in
    has_claims file c (inr (has_right (map (Claim Counts) (count_clusters file)) (each_below (blocks_in file) f) c (has_each f (blocks_in file) i c below has)))

-- of entry i of the first level
pub has_table_check : (file : List ℕ) (i : ℕ) (c : Check) → i < (fields_of file).l1_size → Has (table_checks file i (table_at file i)) c
    → Has (image_checks file) c
has_table_check file i c below has =
    let f : ℕ → List Check = λ j. table_checks file j (table_at file j) in
    has_right (count_checks file) (map_checks file) c
    (has_right (map (Claim Tables) (table_clusters file)) (each_below (fields_of file).l1_size f) c (has_each f (fields_of file).l1_size i c below has))

-- of slot j of its table
pub has_slot_check : (file : List ℕ) (i table j : ℕ) (c : Check) → i < (fields_of file).l1_size → table_at file i ≡ Ok (Some table)
    → j < words_in (bits_of file) → Has (slot_of file i table j) c → Has (image_checks file) c
has_slot_check file i table j c below is inside has =
    has_table_check file i c below (rw is (inr (has_each (slot_of file i table) (words_in (bits_of file)) j c inside has)))

-- ---- what each owner claims

has_counts : (file : List ℕ) (k : ℕ) → IsSized file → Refers file Counts k → Has (image_checks file) (Claim Counts k)
unfolding place_of
has_counts file k size meets =
    let from : ℕ = (fields_of file).refcount_table_offset in
    let n : ℕ = (fields_of file).refcount_table_clusters in
    let c : ℕ = 2 ^ bits_of file in
    let some : 512 ≤ c = size.some in
    let m = met c from (c * n) n k (omega arith) size.counts (omega arith) meets.0 meets.1 in
    has_claims file (Claim Counts k) (inr
    (has_left (map (Claim Counts) (count_clusters file)) (each_below (blocks_in file) (λ i. block_claims file i (block_named file i))) (Claim Counts k)
    (has_mapped (Claim Counts) (from / c) n k m.0 m.1)))

-- no entry is refused
abbrev pub IsClean : List ℕ → Type 0
IsClean file = (fault : ImageFault) → Has (image_checks file) (Refused fault) → ⊥

has_block : (file : List ℕ) (i k : ℕ) (r : Result (Option ℕ) ImageFault) → IsSized file → IsClean file → Refers file (Block i) k → block_named file i ≡ r
    → Has (image_checks file) (Claim (Block i) k)
has_block file i k (Err fault) size clean is named =
    absurd (clean fault (has_block_test file i (Refused fault) is.0 (rw named (inl refl))))
has_block file i k (Ok None) size clean is named = absurd (is.1 (block_none file i named))
has_block file i k (Ok (Some block)) size clean is named =
    let e : block / 2 ^ bits_of file ≡ k = named_cluster (bits_of file) block k size.some ((block_some file i block named).0 ∙ is.2) in
    has_block_claim file i (Claim (Block i) k) is.0 (rw named (inl (ap (Claim (Block i)) e)))

has_tables : (file : List ℕ) (k : ℕ) → IsSized file → Refers file Tables k → Has (image_checks file) (Claim Tables k)
unfolding place_of
has_tables file k size meets =
    let from : ℕ = (fields_of file).l1_table_offset in
    let n : ℕ = 8 * (fields_of file).l1_size in
    let c : ℕ = 2 ^ bits_of file in
    let some : 512 ≤ c = size.some in
    let m = met c from n (div_ceil n c) k (omega arith) size.tables (div_ceil_times n c (omega arith)).0 meets.0 meets.1 in
    has_right (count_checks file) (map_checks file) (Claim Tables k)
    (has_left (map (Claim Tables) (table_clusters file)) (each_below (fields_of file).l1_size (λ i. table_checks file i (table_at file i))) (Claim Tables k)
    (has_mapped (Claim Tables) (from / c) (div_ceil n c) k m.0 m.1))

has_table : (file : List ℕ) (i k : ℕ) → IsSized file → Refers file (Table i) k → Has (image_checks file) (Claim (Table i) k)
has_table file i k size is =
    has_table_check file i (Claim (Table i) k) is.0 (rw is.1 (inl (ap (Claim (Table i)) (place_cluster (bits_of file) k size.some))))

slot_has : (bits at k : ℕ) (slot : Who) (r : Result L2Entry EntryFault) → 512 ≤ 2 ^ bits → HostIs r (place_of bits k)
    → Has (slot_checks bits slot at r) (Claim slot k)
slot_has bits at k slot (Ok entries.Hole) some is = absurd is
slot_has bits at k slot (Ok (entries.Zero host)) some is = inl (ap (Claim slot) (named_cluster bits host k some is))
slot_has bits at k slot (Ok (entries.Stored host)) some is = inl (ap (Claim slot) (named_cluster bits host k some is))
slot_has bits at k slot (Ok entries.Compressed) some is = absurd is
slot_has bits at k slot (Err fault) some is = absurd is

has_guest : (file : List ℕ) (i j k : ℕ) → IsSized file → Refers file (Guest i j) k → Has (image_checks file) (Claim (Guest i j) k)
has_guest file i j k size is =
    has_slot_check file i is.0 j (Claim (Guest i j) k) is.1 is.2 is.3
    (slot_has (bits_of file) (is.0 + 8 * j) k (Guest i j) (l2_of (bits_of file) (u64_at file (is.0 + 8 * j))) size.some is.4)

pub has_claim : (file : List ℕ) (owner : Who) (k : ℕ) → IsSized file → IsClean file → Refers file owner k → Has (image_checks file) (Claim owner k)
has_claim file Head k size clean is = has_claims file (Claim Head k) (inl (ap (Claim Head) (sym is)))
has_claim file Counts k size clean is = has_counts file k size is
has_claim file (Block i) k size clean is = has_block file i k (block_named file i) size clean is refl
has_claim file Tables k size clean is = has_tables file k size is
has_claim file (Table i) k size clean is = has_table file i k size is
has_claim file (Guest i j) k size clean is = has_guest file i j k size is
