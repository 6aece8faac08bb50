-- What is read of an image of the form.
use Rattle.std.proofs.Common.{◌≡◌, ◌≢◌, inl, inr, ℕ, zero, suc, ◌+◌, ◌-◌, ◌*◌, ◌/◌, ◌%◌, ◌^◌, ◌<◌, ◌≤◌, min, List, length, Bool, ◌&&◌, Option, Some, None, Result, Ok, Err, IsTrue, refl, sym, ap, subst, ◌∙◌, arith, rules, add-one}
use Rattle.std.proofs.lemmas.Bool.Decides.{nat_tests}
use Rattle.std.specs.Prelude.{nat_lt, ◌==◌, if◌then◌else◌}
use Rattle.std.specs.List.{range_with_len, fold}
use Rattle.std.proofs.Math.Nat.{le-max_left, le_trans, zero-div, zero-mod, mul_assoc, mul_comm, mul-le-mul_right, mul-le-mul_left, one-le-mul}
use Rattle.std.proofs.lemmas.Nat.{pow-add}
use Rattle.std.proofs.lemmas.Bool.{cases_lt}
use Rattle.std.proofs.lemmas.Grind.{div_ceil_times}
use Rattle.disk_model.specs.Files.{reading, u64_at}
use Rattle.disk_model.specs.World.{World, Runs, reads_of}
use Rattle.disk_model.proofs.Laws.{length-reading, reading-reading, file_failed_after}
use Rattle.file_device.specs.File.{file_of, Gives}
use Rattle.file_device.proofs.Laws.{given}
use Rattle.qc_layout.specs.declared.header.Fields.{Fields}
use Rattle.qc_layout.specs.declared.header.Header.{Header}
use Rattle.qc_layout.specs.declared.header.HeaderFault.{HeaderFault}
use Rattle.qc_layout.specs.declared.header.HeaderFault.TheVariants as faults
use Rattle.qc_layout.specs.declared.header.Own.TheVariants as owns
use Rattle.qc_layout.specs.declared.header.Part.TheVariants as parts
use Rattle.qc_layout.specs.declared.entry.EntryFault.{EntryFault}
use Rattle.qc_layout.specs.declared.entry.L2Entry.{L2Entry}
use Rattle.qc_layout.specs.declared.entry.L2Entry.TheVariants as entries
use Rattle.qc_layout.specs.Entries.{l1_of, l2_of}
use Rattle.qc_layout.specs.Extensions.{list_end}
use Rattle.qc_layout.specs.Header.{fields_of}
use Rattle.qc_layout.specs.Spelling.{Spells, IsHeaderOf, IsFault}
use Rattle.qc_layout.specs.Laws.{BeginAlike}
use Rattle.qc_layout.specs.Disks.{entry_at, entry_under, table_at, bits_of, words_in, counts_in, blocks_in, reach_of, place_of}
use Rattle.qc_layout.specs.Room.{room_from, missing_blocks, IsFreeFrom}
use Rattle.qc_layout.proofs.NumberLaws.{bits_low, bits_high}
use Rattle.bitmap_model.specs.Granules.{granules_in}
use Rattle.toy_image.proofs.Raising.{one_own}
use Rattle.qc_layout.proofs.HeaderLaws.{fault_or_header}
use Rattle.qc_layout.proofs.Passing.{numbers_pass, are_behind}
use Rattle.qc_layout.proofs.Starts.{alike_back, header_from_start, fault_from_start}
use Rattle.toy_image.specs.declared.image.Blocks.{Blocks}
use Rattle.toy_image.specs.declared.image.NotLooked.{NotLooked}
use Rattle.toy_image.specs.declared.image.NotLooked.TheVariants as unlooked
use Rattle.toy_image.specs.declared.numbers.Numbers.{Numbers}
use Rattle.toy_image.specs.Images.{store_of, Opens, IsImageOf, NotLookedFor, IsRefusal, is_missing_in, missing_below, missing_in}

-- ---- failures

pub not_after : {a b : World} {f : ℕ} (c : World) (why : NotLooked) → Runs (reads_of f) a b → NotLookedFor why f b c → NotLookedFor why f a c
not_after {f = f} c unlooked.Other run is = λ told opens. is (subst IsTrue (sym run.goes.tells) told) (subst Opens (sym ((run.files f (λ none. none)).seen)) opens)
not_after c unlooked.Failed run is = file_failed_after run is
not_after c unlooked.Memory run is = tt

-- ---- the header

pub opens_long : (file : List ℕ) → Opens file → 512 ≤ length file
opens_long file opens =
    let first = le_trans (le-max_left 512 (list_end (fields_of file).cluster_bits)) opens.is.image.front.head in
    let inside = opens.is.image.inside in
    omega (arith, first, inside)

-- its first bytes say what its header says
starts : (file bytes : List ℕ) → bytes ≡ reading file 0 65536 → 512 ≤ length file → BeginAlike 65536 file bytes
starts file bytes is long =
    let count = ap length is ∙ length-reading file 0 65536 in
    record {
      enough = omega arith;
      bytes = sym (ap (λ (l : List ℕ). reading l 0 65536) is ∙ reading-reading file 0 65536 0 65536 (omega arith));
      short = λ few. omega (arith, few, long);
      long = λ few. omega (arith, few, count);
    }

pub start_spells : (file bytes : List ℕ) (h : Header) → bytes ≡ reading file 0 65536 → Opens file → IsHeaderOf parts.Source bytes h → Spells parts.Source file h
start_spells file bytes h is opens header = (header_from_start parts.Source bytes file h (alike_back file bytes (starts file bytes is (opens_long file opens))) header).spells

pub start_faultless : (file bytes : List ℕ) (fault : HeaderFault) → bytes ≡ reading file 0 65536 → Opens file → IsFault parts.Source bytes fault → ⊥
start_faultless file bytes fault is opens fails =
    fault_or_header parts.Source file opens.is.image.source.header fault opens.is.image.source.spelled
    (fault_from_start parts.Source bytes file fault (alike_back file bytes (starts file bytes is (opens_long file opens))) fails)

pub start_refused : (a b : World) (f : ℕ) (bytes : List ℕ) (fault : HeaderFault) (why : NotLooked) → IsRefusal why fault → (IsTrue a.tells → bytes ≡ reading (a.seen f) 0 65536) → (fault ≢ faults.Memory → IsFault parts.Source bytes fault) → NotLookedFor why f a b
start_refused a b f bytes fault unlooked.Other refusal is fails = λ told opens. start_faultless (a.seen f) bytes fault (is told) opens (fails refusal)
start_refused a b f bytes fault unlooked.Failed refusal is fails = absurd refusal
start_refused a b f bytes fault unlooked.Memory refusal is fails = tt

-- ---- where the guest's bytes begin

pub record BeginsAt (n : Numbers) (file : List ℕ) : Type 0 where
  pub low : 9 ≤ bits_of file
  pub high : bits_of file ≤ 21
  pub near : (fields_of file).l1_table_offset + 8 ≤ 2 ^ 62
  pub table : ℕ
  pub first : l1_of (bits_of file) (u64_at file (fields_of file).l1_table_offset) ≡ Ok (Some table)
  pub second : l2_of (bits_of file) (u64_at file table) ≡ Ok (entries.Stored n.base)

under_stored : (file : List ℕ) (e : Result (Option ℕ) EntryFault) (slot host : ℕ) → entry_under file e slot ≡ Ok (entries.Stored host) → (table : ℕ) × (e ≡ Ok (Some table)) × (l2_of (bits_of file) (u64_at file (table + 8 * slot)) ≡ Ok (entries.Stored host))
under_stored file (Err fault) slot host is = absurd (cc)
under_stored file (Ok None) slot host is = absurd (cc)
under_stored file (Ok (Some table)) slot host is = (table, refl, is)

entry_first : (file : List ℕ) → entry_at file 0 ≡ entry_under file (table_at file 0) 0
unfolding entry_at
entry_first file = ap (λ (k : ℕ). entry_under file (table_at file k) (0 % words_in (bits_of file))) (zero-div (words_in (bits_of file))) ∙ ap (entry_under file (table_at file 0)) (zero-mod (words_in (bits_of file)))

pub begins_at : (n : Numbers) (file : List ℕ) → IsImageOf n file → BeginsAt n file
begins_at n file of =
    let image = of.image in
    let numbers = image.source.spelled.numbers in
    let passed = numbers_pass parts.Source (length file) (fields_of file) numbers in
    let placed = are_behind parts.Source (length file) (fields_of file) numbers in
    let some : 0 < n.size = (let a = image.size_is in let b = image.source.stands.size in let c = placed.some in omega arith) in
    let at = image.linear 0 some in
    let zero : 0 / 2 ^ bits_of file ≡ 0 = zero-div (2 ^ bits_of file) in
    let rest : 0 % 2 ^ bits_of file ≡ 0 = zero-mod (2 ^ bits_of file) in
    let host : at.0 ≡ n.base = (let e = at.2 in omega (arith, rest, e)) in
    let entry : entry_at file 0 ≡ Ok (entries.Stored n.base) = ap (entry_at file) (sym zero) ∙ at.1 ∙ ap (λ (h : ℕ). Ok (entries.Stored h)) host in
    let found = under_stored file (table_at file 0) 0 n.base (sym (entry_first file) ∙ entry) in
    let few : 0 < length (store_of n).kinds = subst (λ (k : ℕ). k < length (store_of n).kinds) zero at.3 in
    let slot = (image.front.slots 0 few).0 in
    let used : 0 < (fields_of file).l1_size = subst (λ (k : ℕ). k < (fields_of file).l1_size) (zero-div (words_in (bits_of file))) slot in
    let one : (fields_of file).l1_table_offset + 8 * 0 ≡ (fields_of file).l1_table_offset = omega arith in
    let two : found.0 + 8 * 0 ≡ found.0 = omega arith in
    record {
      low = passed.bits_low;
      high = passed.bits_high;
      near = (let in_front = image.front.firsts 0 used in let near = of.suits.near in omega arith);
      table = found.0;
      first = ap (λ (p : ℕ). l1_of (bits_of file) (u64_at file p)) (sym one) ∙ found.1;
      second = ap (λ (p : ℕ). l2_of (bits_of file) (u64_at file p)) (sym two) ∙ found.2;
    }

-- what the two entries say, as they were read
pub record EntriesSay (n : Numbers) (file : List ℕ) (f : Fields) (first : ℕ) : Type 0 where
  pub table : ℕ
  pub named : l1_of f.cluster_bits first ≡ Ok (Some table)
  pub stored : (second : ℕ) → second ≡ u64_at file table → l2_of f.cluster_bits second ≡ Ok (entries.Stored n.base)

pub entries_say : (n : Numbers) (file : List ℕ) (f : Fields) (first : ℕ) → IsImageOf n file → f ≡ fields_of file → first ≡ u64_at file f.l1_table_offset → EntriesSay n file f first
entries_say n file f first of same read =
    let at = begins_at n file of in
    record {
      table = at.table;
      named = ap (l1_of f.cluster_bits) read ∙ ap (λ (g : Fields). l1_of g.cluster_bits (u64_at file g.l1_table_offset)) same ∙ at.first;
      stored = λ second is. ap (l2_of f.cluster_bits) is ∙ ap (λ (g : Fields). l2_of g.cluster_bits (u64_at file at.table)) same ∙ at.second;
    }

-- as a depot tells them
pub say_by : (w : World) (f : ℕ) (fields : Fields) (first : ℕ) (n : Numbers) → (IsTrue w.tells → Opens (w.seen f) → fields ≡ fields_of (w.seen f)) → Gives (file_of w f) (λ c. first ≡ u64_at c fields.l1_table_offset) → IsTrue w.tells → IsImageOf n (w.seen f)
    → EntriesSay n (w.seen f) fields first
say_by w f fields first n same gives told of = entries_say n (w.seen f) fields first of (same told (record { numbers = n; is = of })) (given w f (λ c. first ≡ u64_at c fields.l1_table_offset) gives told)

pub second_by : (a b : World) (f second table : ℕ) → Runs (reads_of f) a b → Gives (file_of b f) (λ c. second ≡ u64_at c table) → IsTrue a.tells → second ≡ u64_at (a.seen f) table
second_by a b f second table run gives told =
    given b f (λ c. second ≡ u64_at c table) gives (subst IsTrue (sym run.goes.tells) told) ∙ ap (λ (file : List ℕ). u64_at file table) (run.files f (λ none. none)).seen

-- the first names one table
pub same_table : {n : Numbers} {file : List ℕ} {f : Fields} {first : ℕ} (table : ℕ) → (say : EntriesSay n file f first) → l1_of f.cluster_bits first ≡ Ok (Some table) → say.table ≡ table
same_table table say is = let named = say.named in cc

pub base_by : (a b : World) (f : ℕ) (fields : Fields) (first table second : ℕ) (n : Numbers) → (say : EntriesSay n (a.seen f) fields first) → l1_of fields.cluster_bits first ≡ Ok (Some table)
    → Runs (reads_of f) a b → Gives (file_of b f) (λ c. second ≡ u64_at c table) → IsTrue a.tells → l2_of fields.cluster_bits second ≡ Ok (entries.Stored n.base)
base_by a b f fields first table second n say named run gives told =
    say.stored second (second_by a b f second table run gives told ∙ ap (u64_at (a.seen f)) (sym (same_table table say named)))

pub one_host : {e : Result L2Entry EntryFault} {a b : ℕ} → e ≡ Ok (entries.Stored a) → e ≡ Ok (entries.Stored b) → a ≡ b
one_host x y = cc

-- an entry names no place past this
pub table_near : (bits word table : ℕ) → l1_of bits word ≡ Ok (Some table) → table + 8 ≤ 2 ^ 62
unfolding l1_of
table_near bits word table is = search rules

-- ---- missing blocks

-- one more
pub missing_more : (file : List ℕ) (b : Blocks) (n : ℕ) → missing_below file b (n + 1) ≡ missing_below file b n + (if is_missing_in file b n then 1 else 0)
missing_more file b n = ap (missing_below file b) (add-one n) ∙ more 0 n 0 ∙ (let same : 0 + n ≡ n = omega arith in ap (λ (k : ℕ). missing_below file b n + (if is_missing_in file b k then 1 else 0)) same)
  where
    more : (a n sum : ℕ) → fold (λ s k. s + (if is_missing_in file b k then 1 else 0)) sum (range_with_len a (suc n)) ≡ fold (λ s k. s + (if is_missing_in file b k then 1 else 0)) sum (range_with_len a n) + (if is_missing_in file b (a + n) then 1 else 0)
    more a zero sum = let same : a ≡ a + 0 = omega arith in ap (λ (k : ℕ). sum + (if is_missing_in file b k then 1 else 0)) same
    more a (suc n) sum = more (a + 1) n (sum + (if is_missing_in file b a then 1 else 0))
        ∙ (let same : a + 1 + n ≡ a + suc n = omega arith in ap (λ (k : ℕ). fold (λ s k. s + (if is_missing_in file b k then 1 else 0)) (sum + (if is_missing_in file b a then 1 else 0)) (range_with_len (a + 1) n) + (if is_missing_in file b k then 1 else 0)) same)

-- one that is missing, and one that isn't
pub missing_step : (a b : World) (f : ℕ) (blocks : Blocks) (n count : ℕ) (missing : Bool) → Runs (reads_of f) a b → (IsTrue a.tells → count ≡ missing_below (a.seen f) blocks n) → (IsTrue b.tells → missing ≡ is_missing_in (b.seen f) blocks n) → IsTrue a.tells
    → count + (if missing then 1 else 0) ≡ missing_below (a.seen f) blocks (n + 1)
missing_step a b f blocks n count missing run is one told =
    ap (λ (k : ℕ). k + (if missing then 1 else 0)) (is told)
    ∙ ap (λ (t : Bool). missing_below (a.seen f) blocks n + (if t then 1 else 0)) (one (subst IsTrue (sym run.goes.tells) told) ∙ ap (λ (file : List ℕ). is_missing_in file blocks n) (run.files f (λ none. none)).seen)
    ∙ sym (missing_more (a.seen f) blocks n)

-- one block, as it was read
pub missing_is : (file : List ℕ) (b : Blocks) (i entry : ℕ) (missing : Bool) → entry ≡ u64_at file (b.at + 8 * i) → missing ≡ ((entry / 512 == 0) && (nat_lt b.next ((i + 1) * b.counts) && nat_lt (i * b.counts) b.reach)) → missing ≡ is_missing_in file b i
missing_is file b i entry missing read is =
    is ∙ ap (λ (t : Bool). t && (nat_lt b.next ((i + 1) * b.counts) && nat_lt (i * b.counts) b.reach)) (no_block entry) ∙ ap (λ (e : ℕ). (e / 512 * 512 == 0) && (nat_lt b.next ((i + 1) * b.counts) && nat_lt (i * b.counts) b.reach)) read
  where
    no_block : (e : ℕ) → (e / 512 == 0) ≡ (e / 512 * 512 == 0)
    no_block e = grind (arith, nat_tests)

-- ---- room

pub record CountsAre (file : List ℕ) : Type 0 where
  pub low : 9 ≤ bits_of file
  pub high : bits_of file ≤ 21
  pub few : (fields_of file).refcount_table_clusters * 2 ^ bits_of file ≤ 2 ^ 26
  pub near : (fields_of file).refcount_table_offset + (fields_of file).refcount_table_clusters * 2 ^ bits_of file ≤ 2 ^ 62

-- eight bytes for each block
words_eight : (bits : ℕ) → 9 ≤ bits → 2 ^ bits / 8 * 8 ≡ 2 ^ bits
words_eight bits low =
    let same : 9 + (bits - 9) ≡ bits = omega arith in
    let e : 2 ^ bits ≡ 512 * 2 ^ (bits - 9) = ap (λ (n : ℕ). 2 ^ n) (sym same) ∙ pow-add 2 9 (bits - 9) in
    omega arith

pub counts_are : (n : Numbers) (file : List ℕ) → IsImageOf n file → CountsAre file
unfolding words_in
counts_are n file of =
    let at = begins_at n file of in
    let placed = are_behind parts.Source (length file) (fields_of file) of.image.source.spelled.numbers in
    let clusters = (fields_of file).refcount_table_clusters in
    let cluster = 2 ^ bits_of file in
    let all : clusters * (cluster / 8) * 8 ≡ clusters * cluster = mul_assoc clusters (cluster / 8) 8 ∙ ap (λ (k : ℕ). clusters * k) (words_eight (bits_of file) at.low) in
    let some : 0 < clusters * (cluster / 8) = (let big = bits_low (bits_of file) at.low in let one = placed.table in one-le-mul one (omega arith)) in
    let last = of.image.front.counts (clusters * (cluster / 8) - 1) (omega (arith, some)) in
    let near = of.suits.near in
    record { low = at.low; high = at.high; few = placed.few; near = omega (arith, all, some, last, near) }

blocks_are : (a b : Blocks) → a.at ≡ b.at → a.count ≡ b.count → a.counts ≡ b.counts → a.next ≡ b.next → a.reach ≡ b.reach → a ≡ b
blocks_are a b at count counts next reach = λ i. record { at = at i; count = count i; counts = counts i; next = next i; reach = reach i }

room_cases : (reach next missing : ℕ) → reach - next - missing ≡ (if nat_lt next reach then reach - next - missing else 0)
room_cases reach next missing = grind (arith, nat_tests)

pub room_is : (file : List ℕ) (f : Fields) (b : Blocks) (next missing : ℕ) → f ≡ fields_of file → b.at ≡ f.refcount_table_offset → b.count ≡ f.refcount_table_clusters * (2 ^ f.cluster_bits / 8) → b.counts ≡ 2 ^ f.cluster_bits / 2 → b.next ≡ next
    → b.reach ≡ min (2 ^ 30) (b.count * b.counts) → missing ≡ missing_in file b → b.reach - next - missing ≡ room_from file next
unfolding words_in counts_in
room_is file f b next missing same at count counts is reach read =
    let counts_is : b.counts ≡ counts_in (bits_of file) = counts ∙ ap (λ (g : Fields). 2 ^ g.cluster_bits / 2) same in
    let count_is : b.count ≡ blocks_in file = count ∙ ap (λ (g : Fields). g.refcount_table_clusters * (2 ^ g.cluster_bits / 8)) same in
    let reach_is : b.reach ≡ reach_of file = reach ∙ ap (λ (k : ℕ). min (2 ^ 30) (k * b.counts)) count_is ∙ ap (λ (k : ℕ). min (2 ^ 30) (blocks_in file * k)) counts_is in
    let whole = blocks_are b (record { at = (fields_of file).refcount_table_offset; count = blocks_in file; counts = counts_in (bits_of file); next = next; reach = reach_of file })
    (at ∙ ap (λ (g : Fields). g.refcount_table_offset) same) count_is counts_is is reach_is in
    let missing_is : missing ≡ missing_blocks file next = read ∙ ap (missing_in file) whole in
    ap (λ (r : ℕ). r - next - missing) reach_is ∙ ap (λ (m : ℕ). reach_of file - next - m) missing_is ∙ room_cases (reach_of file) next (missing_blocks file next)

-- the guest's clusters are the last: the first free one is behind them
pub room_behind : (n : Numbers) (file : List ℕ) → IsImageOf n file → n.room ≡ room_from file (granules_in (n.base + n.size) n.cluster)
unfolding place_of
room_behind n file of =
    let image = of.image in
    let end = granules_in (n.base + n.size) n.cluster in
    let next = image.room.next in
    let high = image.room.is_next.least end image.behind in
    let low : end ≤ next = elim (cases_lt next end) [
      | inl below ↦ absurd (first_taken n file of next below image.room.is_next.free)
      | inr past ↦ past
    ] in
    let same : next ≡ end = omega arith in
    image.room.count ∙ ap (room_from file) same
  where
    first_taken : (n : Numbers) (file : List ℕ) → IsImageOf n file → (next : ℕ) → next < granules_in (n.base + n.size) n.cluster → IsFreeFrom file next → ⊥
    first_taken n file of next below free =
        let cluster : n.cluster ≡ 2 ^ bits_of file = of.image.source.clusters.cluster_is in
        let big = bits_low (bits_of file) (begins_at n file of).low in
        let times = (div_ceil_times (n.base + n.size) n.cluster (omega (arith, cluster, big))).1 in
        let more = mul-le-mul_right n.cluster (let step : next + 1 ≤ granules_in (n.base + n.size) n.cluster = omega (arith, below) in step) in
        let one : (next + 1) * n.cluster ≡ next * n.cluster + n.cluster = omega arith in
        let past = free.past in
        let turned : 2 ^ bits_of file * next ≡ next * n.cluster = mul_comm (2 ^ bits_of file) next ∙ ap (λ (k : ℕ). next * k) (sym cluster) in
        let inside = of.image.inside in
        omega (arith, times, more, one, past, turned, inside)

-- ---- the whole

numbers_are : (a b : Numbers) → a.id ≡ b.id → a.epoch ≡ b.epoch → a.base ≡ b.base → a.size ≡ b.size → a.cluster ≡ b.cluster → a.room ≡ b.room → a ≡ b
numbers_are a b id epoch base size cluster room = λ i. record { id = id i; epoch = epoch i; base = base i; size = size i; cluster = cluster i; room = room i }

own_names : (id other : List ℕ) (epoch count a b c d : ℕ) → owns.Source id epoch a b ≡ owns.Source other count c d → (id ≡ other) × (epoch ≡ count)
own_names id other epoch count a b c d is = (cc, cc)

-- the numbers that were found are those of the image
pub numbers_found : (found : Numbers) (file : List ℕ) (header : Header) (offset long : ℕ) → Opens file → Spells parts.Source file header → header.own ≡ owns.Source found.id found.epoch offset long
    → ((n : Numbers) → IsImageOf n file → found.base ≡ n.base) → found.size ≡ header.fields.size → found.cluster ≡ 2 ^ header.fields.cluster_bits
    → found.room ≡ room_from file (granules_in (found.base + found.size) found.cluster) → IsImageOf found file
numbers_found found file header offset long opens spelled own base size cluster room =
    let n = opens.numbers in
    let image = opens.is.image in
    let names = own_names found.id n.id found.epoch n.epoch offset long image.source.spans_offset image.source.spans_length (sym own ∙ one_own file header image.source.header spelled image.source.spelled ∙ image.source.own) in
    let base_is = base n opens.is in
    let size_is : found.size ≡ n.size = size ∙ ap (λ (f : Fields). f.size) spelled.fields ∙ sym image.source.stands.size ∙ image.size_is in
    let cluster_is : found.cluster ≡ n.cluster = cluster ∙ ap (λ (f : Fields). 2 ^ f.cluster_bits) spelled.fields ∙ sym image.source.clusters.cluster_is in
    let room_is : found.room ≡ n.room = room ∙ ap (λ (b : ℕ). room_from file (granules_in (b + found.size) found.cluster)) base_is ∙ ap (λ (s : ℕ). room_from file (granules_in (n.base + s) found.cluster)) size_is
    ∙ ap (λ (c : ℕ). room_from file (granules_in (n.base + n.size) c)) cluster_is ∙ sym (room_behind n file opens.is) in
    subst (λ (m : Numbers). IsImageOf m file) (sym (numbers_are found n names.0 names.1 base_is size_is cluster_is room_is)) opens.is

-- the header of such an image is that of a disk
pub is_disk : (file : List ℕ) (header : Header) (opens : Opens file) → Spells parts.Source file header → (offset : ℕ) × (long : ℕ) × (header.own ≡ owns.Source opens.numbers.id opens.numbers.epoch offset long)
is_disk file header opens spelled =
    let image = opens.is.image in
    (image.source.spans_offset, image.source.spans_length, one_own file header image.source.header spelled image.source.spelled ∙ image.source.own)

-- ---- sizes, as the code has them

pub record AreSmall (bits clusters : ℕ) : Type 0 where
  pub cluster : 1 * 2 ^ bits % 18446744073709551616 ≡ 2 ^ bits
  pub long : clusters * 2 ^ bits ≤ 2 ^ 26
  pub words : 8 * (clusters * (2 ^ bits / 8)) ≡ clusters * 2 ^ bits
  pub reach : clusters * (2 ^ bits / 8) * (2 ^ bits / 2) ≤ 2 ^ 43
  pub more : (clusters * (2 ^ bits / 8) + 1) * (2 ^ bits / 2) ≤ 2 ^ 44

pub cluster_small : (bits : ℕ) → bits ≤ 21 → 1 * 2 ^ bits % 18446744073709551616 ≡ 2 ^ bits
cluster_small bits high = let b = bits_high bits high in omega arith

pub are_small : (bits clusters : ℕ) → 9 ≤ bits → bits ≤ 21 → clusters * 2 ^ bits ≤ 2 ^ 26 → AreSmall bits clusters
are_small bits clusters low high few =
    let b = bits_high bits high in
    let eight = words_eight bits low in
    let words : clusters * (2 ^ bits / 8) * 8 ≡ clusters * 2 ^ bits = mul_assoc clusters (2 ^ bits / 8) 8 ∙ ap (λ (k : ℕ). clusters * k) eight in
    let half : 2 ^ bits / 2 ≤ 2 ^ 20 = omega arith in
    let count : clusters * (2 ^ bits / 8) ≤ 2 ^ 23 = omega arith in
    let product : clusters * (2 ^ bits / 8) * (2 ^ bits / 2) ≤ 2 ^ 23 * 2 ^ 20 = le_trans (mul-le-mul_right (2 ^ bits / 2) count) (mul-le-mul_left (2 ^ 23) half) in
    let sum : clusters * (2 ^ bits / 8) + 1 ≤ 2 ^ 24 = omega arith in
    let wide : (clusters * (2 ^ bits / 8) + 1) * (2 ^ bits / 2) ≤ 2 ^ 24 * 2 ^ 20 = le_trans (mul-le-mul_right (2 ^ bits / 2) sum) (mul-le-mul_left (2 ^ 24) half) in
    record { cluster = cluster_small bits high; long = few; words = omega arith; reach = omega arith; more = omega arith }

-- ---- after other reads

pub fields_after : (a b : World) (f : ℕ) (header : Header) → Runs (reads_of f) a b → (IsTrue a.tells → Opens (a.seen f) → Spells parts.Source (a.seen f) header) → IsTrue b.tells → Opens (b.seen f) → header.fields ≡ fields_of (b.seen f)
fields_after a b f header run spells told opens =
    let same = (run.files f (λ none. none)).seen in
    (spells (subst IsTrue run.goes.tells told) (subst Opens same opens)).fields ∙ ap fields_of (sym same)

pub base_after : (a b : World) (f base : ℕ) → Runs (reads_of f) a b → (IsTrue b.tells → (n : Numbers) → IsImageOf n (b.seen f) → base ≡ n.base) → IsTrue a.tells → (n : Numbers) → IsImageOf n (a.seen f) → base ≡ n.base
base_after a b f base run is told n of = is (subst IsTrue (sym run.goes.tells) told) n (subst (IsImageOf n) (sym ((run.files f (λ none. none)).seen)) of)

pub room_after : (a b : World) (f room next : ℕ) → Runs (reads_of f) a b → (IsTrue b.tells → Opens (b.seen f) → room ≡ room_from (b.seen f) next) → IsTrue a.tells → Opens (a.seen f) → room ≡ room_from (a.seen f) next
room_after a b f room next run is told opens =
    let same = (run.files f (λ none. none)).seen in
    is (subst IsTrue (sym run.goes.tells) told) (subst Opens (sym same) opens) ∙ ap (λ (file : List ℕ). room_from file next) same

pub sized_as : (n : Numbers) (file : List ℕ) (header : Header) → IsImageOf n file → Spells parts.Source file header → header.fields.size ≡ n.size
sized_as n file header of spelled = ap (λ (f : Fields). f.size) spelled.fields ∙ sym of.image.source.stands.size ∙ of.image.size_is
