-- The first level of a header, and what is done for it.
use Rattle.std.proofs.Common.{◌≡◌, ℕ, ◌+◌, ◌*◌, ◌/◌, ◌%◌, ◌^◌, ◌<◌, ◌≤◌, List, [], ◌∷◌, ◌++◌, map, Option, Some, None, Result, Ok, Err, IsTrue, refl, sym, ap, subst, ◌∙◌, arith, rules, length, inl, inr, take}
use Rattle.std.specs.List.{range_with_len}
use Rattle.std.specs.Int.{div_ceil, w64}
use Rattle.std.proofs.lemmas.Bool.{cases_eq}
use Rattle.std.proofs.lemmas.Grind.{common_steps, div_ceil_times}
use Rattle.disk_model.specs.Files.{reading, u64_at}
use Rattle.disk_model.proofs.Laws.{number-reading}
use Rattle.disk_model.specs.World.{World}
use Rattle.qc_layout.specs.declared.entry.EntryFault.{EntryFault}
use Rattle.qc_layout.specs.declared.header.Fields.{Fields}
use Rattle.qc_layout.specs.declared.header.Header.{Header}
use Rattle.qc_layout.specs.declared.header.Part.{Part}
use Rattle.qc_layout.specs.Disks.{bits_of, table_at, words_in}
use Rattle.qc_layout.specs.Entries.{l1_of}
use Rattle.qc_layout.specs.Header.{fields_of, number_fault, first_of, or_else, form_rules, feature_rules, table_rules}
use Rattle.qc_layout.specs.Opening.{Check, each_below, table_checks, table_entry, table_clusters, map_checks}
use Rattle.qc_layout.specs.Opening.Check.{Claim}
use Rattle.qc_layout.specs.Owners.Who.{Tables, Table}
use Rattle.qc_layout.proofs.NumberLaws.{bits_low, bits_high}
use Rattle.qc_layout.proofs.Passing.{numbers_pass, none_right}
use Rattle.image_header.specs.Headers.{IsRead}
use Rattle.map_opening.specs.declared.claims.FirstLevel.{FirstLevel}
use Rattle.map_opening.specs.Opening.{IsFirstLevel, IsFirstLevelOf, each_from, word_checks, table_slots, entry_checks, level_checks, entry_of, first_claims}
use Rattle.map_opening.proofs.Through.{from_same, mapped_from}

-- ---- of a header that was read

table_few : (h : Fields) → first_of (table_rules h) ≡ None → h.l1_size ≤ 2 ^ 20
table_few h none = search rules

abbrev IsNumbered : Fields → Type 0
IsNumbered h = (9 ≤ h.cluster_bits) × (h.cluster_bits ≤ 21) × (h.l1_size ≤ 2 ^ 20)

numbered : (part : Part) (file : List ℕ) → number_fault part (length file) (fields_of file) ≡ None → IsNumbered (fields_of file)
numbered part file none =
    let h : Fields = fields_of file in
    let last = none_right (first_of (feature_rules part h)) (first_of (table_rules h))
    (none_right (first_of (form_rules (length file) h)) (or_else (first_of (feature_rules part h)) (first_of (table_rules h))) none) in
    let passes = numbers_pass part (length file) h none in
    (passes.bits_low, passes.bits_high, table_few h last)

pub level_read : (l : FirstLevel) (h : Header) (f : ℕ) (w : World) → IsRead h f w → l.cluster_bits ≡ h.fields.cluster_bits → l.entries ≡ h.fields.l1_size → IsFirstLevel l
level_read l h f w read bits entries =
    let n : IsNumbered h.fields = subst IsNumbered (sym read.spells.fields) (numbered read.part read.bytes read.spells.numbers) in
    record { low = omega (arith, bits, n.0); high = omega (arith, bits, n.1); few = omega (arith, entries, n.2) }

pub level_of_read : (l : FirstLevel) (h : Header) (f : ℕ) (w : World) → IsRead h f w → l.cluster_bits ≡ h.fields.cluster_bits → l.place ≡ h.fields.l1_table_offset → l.entries ≡ h.fields.l1_size
    → IsTrue w.tells → IsFirstLevelOf l (w.seen f)
level_of_read l h f w read bits place entries told =
    let fields : h.fields ≡ fields_of (w.seen f) = read.spells.fields ∙ ap fields_of (sym (read.told told)) in
    record {
      bits = bits ∙ ap (λ (x : Fields). x.cluster_bits) fields;
      place = place ∙ ap (λ (x : Fields). x.l1_table_offset) fields;
      entries = entries ∙ ap (λ (x : Fields). x.l1_size) fields;
    }

-- ---- what is done for it is what is done for the file

checks_same : (file : List ℕ) (i : ℕ) (says : Result (Option ℕ) EntryFault) → entry_checks (bits_of file) file i (table_entry file i) says ≡ table_checks file i says
checks_same file i (Err fault) = refl
checks_same file i (Ok None) = refl
checks_same file i (Ok (Some table)) = refl

entry_same : (l : FirstLevel) (file : List ℕ) (i : ℕ) → IsFirstLevelOf l file → entry_of l file i ≡ table_checks file i (table_at file i)
entry_same l file i of =
    let E : ℕ → ℕ → List Check = λ bits place. entry_checks bits file i (place + 8 * i) (l1_of bits (u64_at file (place + 8 * i))) in
    ap (λ (bits : ℕ). E bits l.place) of.bits ∙ (ap (λ (place : ℕ). E (bits_of file) place) of.place ∙ checks_same file i (table_at file i))

first_same : (l : FirstLevel) (file : List ℕ) → IsFirstLevelOf l file → first_claims l ≡ map (Claim Tables) (table_clusters file)
first_same l file of =
    let C : ℕ → ℕ → ℕ → List Check = λ bits place entries. map (Claim Tables) (range_with_len (place / 2 ^ bits) (div_ceil (8 * entries) (2 ^ bits))) in
    ap (λ (bits : ℕ). C bits l.place l.entries) of.bits ∙ (ap (λ (place : ℕ). C (bits_of file) place l.entries) of.place ∙ ap (λ (n : ℕ). C (bits_of file) (fields_of file).l1_table_offset n) of.entries)

pub level_same : (l : FirstLevel) (file : List ℕ) → IsFirstLevelOf l file → first_claims l ++ each_below l.entries (entry_of l file) ≡ map_checks file
level_same l file of =
    let T : ℕ → List Check = λ i. table_checks file i (table_at file i) in
    ap (λ (cs : List Check). cs ++ each_below l.entries (entry_of l file)) (first_same l file of)
    ∙ ap (λ (cs : List Check). map (Claim Tables) (table_clusters file) ++ cs)
    (from_same 0 0 l.entries (entry_of l file) T (λ k low. entry_same l file (0 + k) of) ∙ ap (λ (n : ℕ). each_below n T) of.entries)

-- ---- its clusters, one after another

-- a cluster's bytes, as code writes them
cluster_coded : (bits : ℕ) → bits ≤ 21 → 1 * 2 ^ bits % 18446744073709551616 ≡ 2 ^ bits
cluster_coded bits high = let most = bits_high bits high in omega (arith, most)

pub first_all : (l : FirstLevel) (n : ℕ) → IsFirstLevel l → n ≡ div_ceil (8 * l.entries) (1 * 2 ^ l.cluster_bits % 18446744073709551616)
    → each_below n (λ k. Claim Tables (l.place / 2 ^ l.cluster_bits + k) ∷ []) ≡ first_claims l
first_all l n is count =
    let a : ℕ = l.place / 2 ^ l.cluster_bits in
    let e : a + 0 ≡ a = omega arith in
    mapped_from (Claim Tables) a 0 n ∙ (ap (λ (b : ℕ). map (Claim Tables) (range_with_len b n)) e
    ∙ ap (λ (m : ℕ). map (Claim Tables) (range_with_len a m)) (count ∙ ap (λ (c : ℕ). div_ceil (8 * l.entries) c) (cluster_coded l.cluster_bits is.high)))

-- there is one, where there are entries
pub first_some : (l : FirstLevel) (n : ℕ) → IsFirstLevel l → n ≡ div_ceil (8 * l.entries) (1 * 2 ^ l.cluster_bits % 18446744073709551616) → 0 < l.entries → 0 < n
first_some l n is count some =
    let c : ℕ = 1 * 2 ^ l.cluster_bits % 18446744073709551616 in
    let least = bits_low l.cluster_bits is.low in
    let coded = cluster_coded l.cluster_bits is.high in
    let d = div_ceil_times (8 * l.entries) c (omega (arith, coded, least)) in
    elim (cases_eq n 0) [
      | inl none ↦ let z : div_ceil (8 * l.entries) c * c ≡ 0 = ap (λ (m : ℕ). m * c) (sym count ∙ none) ∙ (omega arith) in absurd (omega (arith, d.0, z, some))
      | inr other ↦ omega (arith, other)
    ]

-- ---- words that were read

pub word_read : (file bytes : List ℕ) (at n i : ℕ) → bytes ≡ reading file at n → 8 * i + 8 ≤ n → u64_at bytes (8 * i) ≡ u64_at file (at + 8 * i)
word_read file bytes at n i e inside = ap (λ (bs : List ℕ). u64_at bs (8 * i)) e ∙ number-reading w64 file at n (8 * i) inside

-- slots of a table that was read
pub slots_read : (bits i table : ℕ) (file bytes : List ℕ) → length bytes ≡ 2 ^ bits → bytes ≡ reading file table (2 ^ bits)
    → Claim (Table i) (table / 2 ^ bits) ∷ each_below (length bytes / 8) (λ j. word_checks bits i table j (u64_at bytes (8 * j))) ≡ table_slots bits file i table
unfolding words_in
slots_read bits i table file bytes long is =
    let G : ℕ → List Check = λ j. word_checks bits i table j (u64_at bytes (8 * j)) in
    let H : ℕ → List Check = λ j. word_checks bits i table j (u64_at file (table + 8 * j)) in
    let count : length bytes / 8 ≡ words_in bits = ap (λ (n : ℕ). n / 8) long in
    ap (λ (cs : List Check). Claim (Table i) (table / 2 ^ bits) ∷ cs)
    (ap (λ (n : ℕ). each_below n G) count ∙ from_same 0 0 (words_in bits) G H (λ k low. ap (λ (w : ℕ). word_checks bits i table (0 + k) w) (word_read file bytes table (2 ^ bits) (0 + k) is (omega (arith, low)))))

-- entries of the first level that were read, from one on
pub entries_read : (l : FirstLevel) (first n : ℕ) (file bytes : List ℕ) → length bytes ≡ n → bytes ≡ reading file (l.place + 8 * first) n
    → each_below (length bytes / 8) (λ k. level_checks l file (first + k) (u64_at bytes (8 * k))) ≡ each_from first (n / 8) (entry_of l file)
entries_read l first n file bytes long is =
    let G : ℕ → List Check = λ k. level_checks l file (first + k) (u64_at bytes (8 * k)) in
    ap (λ (m : ℕ). each_below (m / 8) G) long ∙ from_same 0 first (n / 8) G (entry_of l file) (λ k low.
    let z : 0 + k ≡ k = omega arith in
    let at : l.place + 8 * first + 8 * k ≡ l.place + 8 * (first + k) = omega arith in
    let word : u64_at bytes (8 * k) ≡ u64_at file (l.place + 8 * (first + k)) = word_read file bytes (l.place + 8 * first) n k is (omega (arith, low)) ∙ ap (λ (p : ℕ). u64_at file p) at in
    ap G z ∙ ap (λ (w : ℕ). level_checks l file (first + k) w) word)

-- the entries that a part of a buffer takes
pub piece_count : (buffer : List ℕ) (n : ℕ) → n ≤ length buffer / 8 → length (take (8 * n) buffer) / 8 ≡ n
piece_count buffer n few = grind (arith, common_steps)
