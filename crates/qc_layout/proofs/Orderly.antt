-- The checks of an image: there is a cause for each that refuses an entry, an owner for each cluster, and no claim stands twice.
use Rattle.std.proofs.lemmas.Grind.{div_ceil_times}
use Rattle.std.proofs.Common.{rules}
use Rattle.std.proofs.Common.{◌≡◌, ℕ, ◌+◌, ◌*◌, ◌/◌, ◌%◌, ◌^◌, ◌<◌, ◌≤◌, List, [], ◌∷◌, map, inl, inr, Option, Some, None, Result, Ok, Err, refl, sym, ◌∙◌, subst, arith}
use Rattle.std.specs.Int.{div_ceil}
use Rattle.disk_model.specs.Files.{u64_at}
use Rattle.qc_layout.specs.declared.entry.EntryFault.{EntryFault}
use Rattle.qc_layout.specs.declared.entry.EntryFault.TheVariants as entry_faults
use Rattle.qc_layout.specs.declared.entry.L2Entry.{L2Entry}
use Rattle.qc_layout.specs.declared.entry.L2Entry.TheVariants as entries
use Rattle.qc_layout.specs.Entries.{l1_of, l2_of}
use Rattle.qc_layout.specs.Header.{fields_of}
use Rattle.qc_layout.specs.Disks.{bits_of, blocks_in, table_at, words_in, place_of}
use Rattle.qc_layout.specs.Owners.{Who, HostIs, Refers}
use Rattle.qc_layout.specs.Owners.Who.{Head, Counts, Block, Tables, Table, Guest}
use Rattle.qc_layout.specs.declared.faults.ImageFault.{ImageFault}
use Rattle.qc_layout.specs.Opening.{each_below, block_named, block_tests, block_claims, count_clusters, count_tests, count_claims, fault_at, slot_checks, slot_of, table_entry, table_checks, map_checks, image_checks, IsCause, IsFirst, IsSlot}
use Rattle.qc_layout.specs.Opening.Check.{Reached, Claim}
use Rattle.qc_layout.proofs.Checking.{Owners, IsOrderly, orderly_none, orderly_one, orderly_append, orderly_each, orderly_range}
use Rattle.qc_layout.proofs.Claims.{IsSized, meeting, cluster_place, block_bad, block_some}
use Rattle.qc_layout.proofs.EntryLaws.{zero_place, stored_place}

-- ---- owners in the order of their claims

abbrev turn : Who → ℕ
turn Head = 0
turn Counts = 1
turn (Block i) = 2
turn Tables = 3
turn (Table i) = 4
turn owner = 5

-- by entry of a table
abbrev index : Who → ℕ → ℕ
index (Block i) k = i
index (Table i) k = i
index (Guest i j) k = i
index owner k = 0

-- and by slot of that
abbrev slot : Who → ℕ → ℕ
slot (Guest i j) k = j
slot owner k = 0

abbrev At : ℕ → Owners
At t owner k = turn owner ≡ t

abbrev pub From : ℕ → Owners
From t owner k = t ≤ turn owner

abbrev UpTo : ℕ → Owners
UpTo t owner k = turn owner ≤ t

abbrev NoOwner : Owners
NoOwner owner k = ⊥

-- ---- of the refcounts

count_refers : (file : List ℕ) (k : ℕ) → IsSized file → (fields_of file).refcount_table_offset / 2 ^ bits_of file ≤ k
    → k < (fields_of file).refcount_table_offset / 2 ^ bits_of file + (fields_of file).refcount_table_clusters → Refers file Counts k
unfolding place_of
count_refers file k size low high =
    let n : ℕ = (fields_of file).refcount_table_clusters in
    let c : ℕ = 2 ^ bits_of file in
    let some : 512 ≤ c = size.some in
    meeting c (fields_of file).refcount_table_offset (c * n) n k (omega arith) size.counts (omega arith) low high

block_refers : (file : List ℕ) (i block : ℕ) → IsSized file → i < blocks_in file → block_named file i ≡ Ok (Some block)
    → Refers file (Block i) (block / 2 ^ bits_of file)
block_refers file i block size below named =
    let b = block_some file i block named in
    (below, (λ none. b.1 (b.0 ∙ none)), sym b.0 ∙ sym (cluster_place (bits_of file) block size.some b.2))

block_tested : (file : List ℕ) (Q : Owners) (i : ℕ) (r : Result (Option ℕ) ImageFault) → IsSized file → i < blocks_in file → block_named file i ≡ r
    → IsOrderly file Q (block_tests file r)
block_tested file Q i (Err fault) size below named =
    let b = block_bad file i fault size named in
    orderly_one (subst (IsCause file) (sym b.0) (i, below, refl, b.1))
block_tested file Q i (Ok None) size below named = orderly_none
block_tested file Q i (Ok (Some block)) size below named = orderly_one (Block i, block_refers file i block size below named)

block_claimed : (file : List ℕ) (i : ℕ) (r : Result (Option ℕ) ImageFault) → IsSized file → i < blocks_in file → block_named file i ≡ r
    → IsOrderly file (λ owner k. At 2 owner k × (index owner k ≡ i)) (block_claims file i r)
block_claimed file i (Err fault) size below named = orderly_none
block_claimed file i (Ok None) size below named = orderly_none
block_claimed file i (Ok (Some block)) size below named = orderly_one (block_refers file i block size below named, (refl, refl))

tests_orderly : (file : List ℕ) → IsSized file → IsOrderly file NoOwner (count_tests file)
tests_orderly file size =
    orderly_append
    (orderly_range file Reached NoOwner ((fields_of file).refcount_table_offset / 2 ^ bits_of file) (fields_of file).refcount_table_clusters
    (λ k low high. (Counts, count_refers file k size low high)))
    (orderly_each file NoOwner index (λ i. block_tests file (block_named file i)) (blocks_in file)
    (λ i below. block_tested file (λ owner k. NoOwner owner k × (index owner k ≡ i)) i (block_named file i) size below refl))
    (λ owner k is. is) (λ owner k is. is) (λ owner k is other. is)

counts_orderly : (file : List ℕ) → IsSized file → IsOrderly file (UpTo 2) (count_claims file)
counts_orderly file size =
    let Later : Owners = λ owner k. From 1 owner k × UpTo 2 owner k in
    let head : IsOrderly file (At 0) (Claim Head 0 ∷ []) = orderly_one (refl, refl) in
    let table : IsOrderly file (At 1) (map (Claim Counts) (count_clusters file)) =
    orderly_range file (Claim Counts) (At 1) ((fields_of file).refcount_table_offset / 2 ^ bits_of file) (fields_of file).refcount_table_clusters
    (λ k low high. (count_refers file k size low high, (refl, refl))) in
    let blocks : IsOrderly file (At 2) (each_below (blocks_in file) (λ i. block_claims file i (block_named file i))) =
    orderly_each file (At 2) index (λ i. block_claims file i (block_named file i)) (blocks_in file)
    (λ i below. block_claimed file i (block_named file i) size below refl) in
    orderly_append head
    (orderly_append {S = Later} table blocks
    (λ owner k is. (omega arith, omega arith)) (λ owner k is. (omega arith, omega arith)) (λ owner k is later. absurd (omega arith)))
    (λ owner k is. omega arith) (λ owner k is. is.1) (λ owner k is later. absurd (omega (arith, later.0)))

-- ---- of the two levels

tables_refer : (file : List ℕ) (k : ℕ) → IsSized file → (fields_of file).l1_table_offset / 2 ^ bits_of file ≤ k
    → k < (fields_of file).l1_table_offset / 2 ^ bits_of file + div_ceil (8 * (fields_of file).l1_size) (2 ^ bits_of file) → Refers file Tables k
unfolding place_of
tables_refer file k size low high =
    let n : ℕ = 8 * (fields_of file).l1_size in
    let c : ℕ = 2 ^ bits_of file in
    let some : 512 ≤ c = size.some in
    meeting c (fields_of file).l1_table_offset n (div_ceil n c) k (omega arith) size.tables (div_ceil_times n c (omega arith)).1 low high

-- a table's offset in an entry that can be read
table_whole : (bits word table : ℕ) → l1_of bits word ≡ Ok (Some table) → table % 2 ^ bits ≡ 0
unfolding l1_of
table_whole bits word table is = search rules

first_refused : (file : List ℕ) (i : ℕ) (fault : EntryFault) → IsFirst file (table_entry file i) (Err fault)
    → IsCause file (fault_at (table_entry file i) fault)
first_refused file i entry_faults.Reserved first = inl first
first_refused file i entry_faults.Misaligned first = inl first

slot_refused : (file : List ℕ) (at : ℕ) (fault : EntryFault) → IsSlot file at (Err fault) → IsCause file (fault_at at fault)
slot_refused file at entry_faults.Reserved slot = inr slot
slot_refused file at entry_faults.Misaligned slot = inr slot

slot_says : (file : List ℕ) (i table j : ℕ) (r : Result L2Entry EntryFault) → i < (fields_of file).l1_size → table_at file i ≡ Ok (Some table)
    → j < words_in (bits_of file) → l2_of (bits_of file) (u64_at file (table + 8 * j)) ≡ r → IsSlot file (table + 8 * j) r
slot_says file i table j r below named inside is =
    record { i = i; table = table; j = j; below = below; named = named; inside = inside; place = refl; is = is }

guest_refers : (file : List ℕ) (i table j host : ℕ) (r : Result L2Entry EntryFault) → IsSized file → i < (fields_of file).l1_size
    → table_at file i ≡ Ok (Some table) → j < words_in (bits_of file) → l2_of (bits_of file) (u64_at file (table + 8 * j)) ≡ r
    → host % 2 ^ bits_of file ≡ 0 → HostIs r host → Refers file (Guest i j) (host / 2 ^ bits_of file)
guest_refers file i table j host r size below named inside is whole hosts =
    let place : place_of (bits_of file) (host / 2 ^ bits_of file) ≡ host = cluster_place (bits_of file) host size.some whole in
    (table, below, named, inside, rw (is, place) hosts)

-- claims of slot j under entry i
abbrev OfSlot : ℕ → ℕ → Owners
OfSlot i j owner k = (At 5 owner k × (index owner k ≡ i)) × (slot owner k ≡ j)

slot_orderly : (file : List ℕ) (i table j : ℕ) (r : Result L2Entry EntryFault) → IsSized file → i < (fields_of file).l1_size → table_at file i ≡ Ok (Some table)
    → j < words_in (bits_of file) → l2_of (bits_of file) (u64_at file (table + 8 * j)) ≡ r
    → IsOrderly file (OfSlot i j) (slot_checks (bits_of file) (Guest i j) (table + 8 * j) r)
slot_orderly file i table j (Ok entries.Hole) size below named inside is = orderly_none
slot_orderly file i table j (Ok (entries.Zero host)) size below named inside is =
    let whole = (zero_place (bits_of file) (u64_at file (table + 8 * j)) host is).aligned in
    orderly_one (guest_refers file i table j host (Ok (entries.Zero host)) size below named inside is whole refl, ((refl, refl), refl))
slot_orderly file i table j (Ok (entries.Stored host)) size below named inside is =
    let whole = (stored_place (bits_of file) (u64_at file (table + 8 * j)) host is).aligned in
    orderly_one (guest_refers file i table j host (Ok (entries.Stored host)) size below named inside is whole refl, ((refl, refl), refl))
slot_orderly file i table j (Ok entries.Compressed) size below named inside is =
    orderly_one (slot_says file i table j (Ok entries.Compressed) below named inside is)
slot_orderly file i table j (Err fault) size below named inside is =
    orderly_one (slot_refused file (table + 8 * j) fault (slot_says file i table j (Err fault) below named inside is))

-- claims under entry i
abbrev UnderEntry : ℕ → Owners
UnderEntry i owner k = From 4 owner k × (index owner k ≡ i)

table_orderly : (file : List ℕ) (i : ℕ) (r : Result (Option ℕ) EntryFault) → IsSized file → i < (fields_of file).l1_size → table_at file i ≡ r
    → IsOrderly file (UnderEntry i) (table_checks file i r)
table_orderly file i (Err fault) size below is =
    orderly_one (first_refused file i fault (record { i = i; below = below; place = refl; is = is }))
table_orderly file i (Ok None) size below is = orderly_none
table_orderly file i (Ok (Some table)) size below is =
    let bits : ℕ = bits_of file in
    let place : place_of bits (table / 2 ^ bits) ≡ table = cluster_place bits table size.some (table_whole bits (u64_at file (table_entry file i)) table is) in
    let claim : IsOrderly file (λ owner k. At 4 owner k × (index owner k ≡ i)) (Claim (Table i) (table / 2 ^ bits) ∷ []) =
    orderly_one ((below, rw place is), (refl, refl)) in
    orderly_append claim
    (orderly_each file (λ owner k. At 5 owner k × (index owner k ≡ i)) slot (slot_of file i table) (words_in bits)
    (λ j inside. slot_orderly file i table j (l2_of bits (u64_at file (table + 8 * j))) size below is inside refl))
    (λ owner k q. (omega (arith, q.0), q.1)) (λ owner k q. (omega (arith, q.0), q.1)) (λ owner k q other. absurd (omega (arith, q.0, other.0)))

map_orderly : (file : List ℕ) → IsSized file → IsOrderly file (From 3) (map_checks file)
map_orderly file size =
    let n : ℕ = (fields_of file).l1_size in
    orderly_append
    (orderly_range file (Claim Tables) (At 3) ((fields_of file).l1_table_offset / 2 ^ bits_of file) (div_ceil (8 * n) (2 ^ bits_of file))
    (λ k low high. (tables_refer file k size low high, (refl, refl))))
    (orderly_each file (From 4) index (λ i. table_checks file i (table_at file i)) n (λ i below. table_orderly file i (table_at file i) size below refl))
    (λ owner k is. omega arith) (λ owner k is. omega arith) (λ owner k is other. absurd (omega arith))

-- ---- of an image

pub image_orderly : (file : List ℕ) → IsSized file → IsOrderly file (From 0) (image_checks file)
image_orderly file size =
    orderly_append
    (orderly_append {S = UpTo 2} (tests_orderly file size) (counts_orderly file size) (λ owner k is. absurd is) (λ owner k is. is) (λ owner k is other. is))
    (map_orderly file size) (λ owner k is. omega arith) (λ owner k is. omega arith) (λ owner k is other. absurd (omega arith))
