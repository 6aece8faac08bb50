-- What a layout's numbers say, and the tests of a refcount table.
use Rattle.std.proofs.Common.{◌≡◌, ◌≢◌, ℕ, ◌+◌, ◌-◌, ◌*◌, ◌/◌, ◌%◌, ◌^◌, ◌<◌, ◌≤◌, suc, zero, List, [], ◌∷◌, ◌++◌, length, map, slice_index, min, max, Bool, true, false, not, ◌||◌, if◌then◌else◌, inl, inr, Option, Some, None, Result, Ok, Err, refl, sym, ap, subst, ◌∙◌, arith, rules}
use Rattle.std.specs.Prelude.{◌==◌, nat_le}
use Rattle.std.specs.List.{range_with_len}
use Rattle.std.proofs.lemmas.Bool.{ne_eqb, cases_Bool, cases_eq}
use Rattle.std.proofs.Math.Nat.{mul_left_comm, mul_comm, mul-le-mul_left, mul-le-mul_right, mul-mod_right}
use Rattle.disk_model.specs.Files.{u64_at}
use Rattle.qc_layout.specs.declared.header.Part.{Part}
use Rattle.qc_layout.specs.declared.header.Fields.{Fields}
use Rattle.qc_layout.specs.declared.faults.ImageFault.{ImageFault}
use Rattle.qc_layout.specs.declared.faults.ImageFault.TheVariants.{BadBlock, PastLimit}
use Rattle.qc_layout.specs.Header.{fields_of, number_fault, first_of, or_else, form_rules, feature_rules, table_rules}
use Rattle.qc_layout.specs.Disks.{bits_of, blocks_in, block_at, words_in, counts_in, place_of, reach_of}
use Rattle.qc_layout.specs.Opening.{Check, each_below, block_entry, block_named, block_tests, count_clusters, count_tests}
use Rattle.qc_layout.specs.Opening.Check.{Refused, Reached}
use Rattle.qc_layout.proofs.Claims.{sized}
use Rattle.qc_layout.proofs.Passing.{numbers_pass, none_right}
use Rattle.qc_alloc.specs.declared.tables.Layout.{Layout}
use Rattle.qc_alloc.specs.Tables.{IsLayout, IsLayoutOf, blocks_of, reach_by, IsReached, IsBlock, entry_fault, AreBlocks, AreWords, IsFirstBad, Passes, Stops, Names, claimed_after}
use Rattle.qc_alloc.proofs.Passing.{passes_none, passes_on, stops_on, stops_more, stops_as, each_at, each_more, passes_reached, stops_reached, reached_pass, reached_claims, reached_stop, claimed_after-append}

-- ---- numbers

pub words_whole : (l : Layout) → IsLayout l → l.cluster / 8 ≡ words_in l.cluster_bits
unfolding words_in
words_whole l is = ap (λ (n : ℕ). n / 8) is.size

pub counts_whole : (l : Layout) → IsLayout l → l.cluster / 2 ≡ counts_in l.cluster_bits
unfolding counts_in
counts_whole l is = ap (λ (n : ℕ). n / 2) is.size

pub counts_twice : (l : Layout) → IsLayout l → 2 * counts_in l.cluster_bits ≡ l.cluster
counts_twice l is = let e = counts_whole l is in let s : l.cluster % 512 ≡ 0 = is.sectors in omega arith

pub blocks_few : (l : Layout) → IsLayout l → blocks_of l ≤ 2 ^ 23
blocks_few l is =
    let e = words_whole l is in
    let s : l.cluster % 512 ≡ 0 = is.sectors in
    let w : 8 * words_in l.cluster_bits ≡ l.cluster = omega arith in
    let f : l.clusters * l.cluster ≡ 8 * (l.clusters * words_in l.cluster_bits) = ap (λ (n : ℕ). l.clusters * n) (sym w) ∙ mul_left_comm l.clusters 8 (words_in l.cluster_bits) in
    let small : l.clusters * l.cluster ≤ 2 ^ 26 = is.small in
    omega (arith, f, small)

-- there is a block, and some cluster can be used
pub blocks_some : (l : Layout) → IsLayout l → l.clusters ≤ blocks_of l
blocks_some l is =
    let e = words_whole l is in
    let s : l.cluster % 512 ≡ 0 = is.sectors in
    let least : 512 ≤ l.cluster = is.least in
    let one : 1 ≤ words_in l.cluster_bits = omega arith in
    let m : l.clusters * 1 ≤ l.clusters * words_in l.cluster_bits = mul-le-mul_left l.clusters one in
    omega (arith, m)

pub reach_some : (l : Layout) → IsLayout l → 0 < reach_by l
reach_some l is =
    let e = counts_whole l is in
    let least : 512 ≤ l.cluster = is.least in
    let b : l.clusters ≤ blocks_of l = blocks_some l is in
    let one : 1 ≤ counts_in l.cluster_bits = omega arith in
    let m : blocks_of l * 1 ≤ blocks_of l * counts_in l.cluster_bits = mul-le-mul_left (blocks_of l) one in
    let some : 0 < l.clusters = is.some in
    omega (arith, m)

-- where a table that is reached ends
pub table_ends : (l : Layout) → IsLayout l → IsReached l → l.table + l.clusters * l.cluster ≤ 2 ^ 51
table_ends l is reached =
    let q : ℕ = l.table / l.cluster in
    let whole : l.table % l.cluster ≡ 0 = is.whole in
    let least : 512 ≤ l.cluster = is.least in
    let e : l.cluster * q ≡ l.table = omega arith in
    let m : l.cluster * (q + l.clusters) ≤ l.cluster * 2 ^ 30 = mul-le-mul_left l.cluster (omega (arith, reached)) in
    let n : l.cluster * 2 ^ 30 ≤ 2 ^ 21 * 2 ^ 30 = mul-le-mul_right (2 ^ 30) is.most in
    let c : l.clusters * l.cluster ≡ l.cluster * l.clusters = mul_comm l.clusters l.cluster in
    omega (arith, m, n, c, e)

pub entries_end : (l : Layout) → IsLayout l → IsReached l → l.table + 8 * blocks_of l ≤ 2 ^ 62
entries_end l is reached =
    let e = words_whole l is in
    let s : l.cluster % 512 ≡ 0 = is.sectors in
    let w : 8 * words_in l.cluster_bits ≡ l.cluster = omega arith in
    let f : l.clusters * l.cluster ≡ 8 * (l.clusters * words_in l.cluster_bits) = ap (λ (n : ℕ). l.clusters * n) (sym w) ∙ mul_left_comm l.clusters 8 (words_in l.cluster_bits) in
    let t : l.table + l.clusters * l.cluster ≤ 2 ^ 51 = table_ends l is reached in
    omega (arith, f, t)

-- ---- of a file's header

table_numbers : (h : Fields) → first_of (table_rules h) ≡ None → (0 < h.refcount_table_clusters) × (h.refcount_table_clusters * 2 ^ h.cluster_bits ≤ 2 ^ 26)
table_numbers h none = search rules

abbrev pub IsNumbered : Fields → Type 0
IsNumbered h = (9 ≤ h.cluster_bits) × (h.cluster_bits ≤ 21) × (0 < h.refcount_table_clusters) × (h.refcount_table_clusters * 2 ^ h.cluster_bits ≤ 2 ^ 26)
    × (2 ^ h.cluster_bits % 512 ≡ 0) × (h.refcount_table_offset % 2 ^ h.cluster_bits ≡ 0)

pub numbered : (part : Part) (file : List ℕ) → number_fault part (length file) (fields_of file) ≡ None → IsNumbered (fields_of file)
numbered part file none =
    let h : Fields = fields_of file in
    let last = none_right (first_of (feature_rules part h)) (first_of (table_rules h))
    (none_right (first_of (form_rules (length file) h)) (or_else (first_of (feature_rules part h)) (first_of (table_rules h))) none) in
    let passes = numbers_pass part (length file) h none in
    let numbers = table_numbers h last in
    let size = sized part file none in
    (passes.bits_low, passes.bits_high, numbers.0, numbers.1, ap (λ (n : ℕ). n % 512) size.sectors ∙ mul-mod_right 512 (2 ^ (bits_of file - 9)), size.counts)

-- ---- the refcount table

pub reach_of_file : (l : Layout) (file : List ℕ) → IsLayoutOf l file → reach_of file ≡ reach_by l
reach_of_file l file is =
    ap (λ (n : ℕ). min (2 ^ 30) (n * words_in (bits_of file) * counts_in (bits_of file))) (sym is.clusters)
    ∙ ap (λ (b : ℕ). min (2 ^ 30) (l.clusters * words_in b * counts_in b)) (sym is.bits)

pub blocks_of_file : (l : Layout) (file : List ℕ) → IsLayoutOf l file → blocks_in file ≡ blocks_of l
blocks_of_file l file is = ap (λ (n : ℕ). n * words_in (bits_of file)) (sym is.clusters) ∙ ap (λ (b : ℕ). l.clusters * words_in b) (sym is.bits)

pub cluster_of_file : (l : Layout) (file : List ℕ) → IsLayout l → IsLayoutOf l file → l.cluster ≡ 2 ^ bits_of file
cluster_of_file l file is of = is.size ∙ ap (λ (b : ℕ). 2 ^ b) of.bits

pub clusters_of_file : (l : Layout) (file : List ℕ) → IsLayout l → IsLayoutOf l file → count_clusters file ≡ range_with_len (l.table / l.cluster) l.clusters
clusters_of_file l file is of = let c = cluster_of_file l file is of in let t = of.table in let n = of.clusters in rw (← c, ← t, ← n) refl

pub words_of_file : (l : Layout) (file : List ℕ) (i : ℕ) → IsLayoutOf l file → u64_at file (block_entry file i) ≡ u64_at file (l.table + 8 * i)
words_of_file l file i of = ap (λ (t : ℕ). u64_at file (t + 8 * i)) (sym of.table)

-- an entry that is no fault
gate_ok : (a b x w : ℕ) (bad : ImageFault) → a ≡ 0 → b ≡ 0 → x ≡ w
    → (if not (a == 0) || not (b == 0) then Err bad else Ok (if x == 0 then None else Some x)) ≡ Ok (if w == 0 then None else Some w)
gate_ok a b x w bad p q r = rw (p, q, r) refl

gate_bad : (a b c d x : ℕ) (bad : ImageFault) → (not (c == 0) || not (d == 0)) ≡ true → a ≡ c → (c ≡ 0 → b ≡ d)
    → (if not (a == 0) || not (b == 0) then Err bad else Ok (if x == 0 then None else Some x)) ≡ Err bad
gate_bad a b c d x bad is p q = elim (cases_eq c 0) [
  | inl z ↦ let e : b ≡ d = q z in rw (p, e, is) refl
  | inr n ↦ let f : (c == 0) ≡ false = ne_eqb c 0 n in rw (p, f) refl
]

pub names_block : (l : Layout) (file : List ℕ) (i w : ℕ) → IsLayout l → IsLayoutOf l file → u64_at file (l.table + 8 * i) ≡ w → IsBlock l w → Names file i w
names_block l file i w is of word block =
    let u : u64_at file (block_entry file i) ≡ w = words_of_file l file i of ∙ word in
    let sector : w % 512 ≡ 0 = block.sector in
    let s : u64_at file (block_entry file i) % 512 ≡ 0 = ap (λ (n : ℕ). n % 512) u ∙ sector in
    let same : block_at file i ≡ w = ap (λ (n : ℕ). n / 512 * 512) u ∙ (omega arith) in
    let c : l.cluster ≡ 2 ^ bits_of file = cluster_of_file l file is of in
    let whole : block_at file i % 2 ^ bits_of file ≡ 0 = ap (λ (n : ℕ). n % 2 ^ bits_of file) same ∙ (ap (λ (n : ℕ). w % n) (sym c) ∙ block.whole) in
    gate_ok (u64_at file (block_entry file i) % 512) (block_at file i % 2 ^ bits_of file) (block_at file i) w (BadBlock (block_entry file i)) s whole same

pub block_is_word : (l : Layout) (file : List ℕ) (i w : ℕ) → IsLayoutOf l file → u64_at file (l.table + 8 * i) ≡ w → IsBlock l w → block_at file i ≡ w
block_is_word l file i w of word block =
    let u : u64_at file (block_entry file i) ≡ w = words_of_file l file i of ∙ word in
    let sector : w % 512 ≡ 0 = block.sector in
    ap (λ (n : ℕ). n / 512 * 512) u ∙ (omega arith)

-- its test goes through
tests_pass : (file claimed : List ℕ) (w : ℕ) → w / 2 ^ bits_of file < reach_of file → Passes file claimed (block_tests file (Ok (if w == 0 then None else Some w)))
tests_pass file claimed w below = elim (cases_Bool (w == 0)) [
  | inl none ↦ rw none (passes_none file claimed)
  | inr some ↦ rw some (passes_reached file claimed (w / 2 ^ bits_of file) below)
]

tests_claim : (file claimed : List ℕ) (w : ℕ) → claimed_after claimed (block_tests file (Ok (if w == 0 then None else Some w))) ≡ claimed
tests_claim file claimed w = elim (cases_Bool (w == 0)) [ inl none ↦ rw none refl | inr some ↦ rw some refl ]

below_in_file : (l : Layout) (file : List ℕ) (w : ℕ) → IsLayout l → IsLayoutOf l file → w / l.cluster < reach_by l → w / 2 ^ bits_of file < reach_of file
below_in_file l file w is of below =
    let c = cluster_of_file l file is of in
    let r = reach_of_file l file of in
    let d : w / l.cluster ≡ w / 2 ^ bits_of file = ap (λ (n : ℕ). w / n) c in
    omega (arith, below, r, d)

pub entry_passes : (l : Layout) (file claimed : List ℕ) (i w : ℕ) → IsLayout l → IsLayoutOf l file → u64_at file (l.table + 8 * i) ≡ w → IsBlock l w
    → Passes file claimed (block_tests file (block_named file i))
entry_passes l file claimed i w is of word block =
    let P : Result (Option ℕ) ImageFault → Type 0 = λ r. Passes file claimed (block_tests file r) in
    subst P (sym (names_block l file i w is of word block)) (tests_pass file claimed w (below_in_file l file w is of block.below))

pub entry_claims : (l : Layout) (file claimed : List ℕ) (i w : ℕ) → IsLayout l → IsLayoutOf l file → u64_at file (l.table + 8 * i) ≡ w → IsBlock l w
    → claimed_after claimed (block_tests file (block_named file i)) ≡ claimed
entry_claims l file claimed i w is of word block =
    ap (λ (r : Result (Option ℕ) ImageFault). claimed_after claimed (block_tests file r)) (names_block l file i w is of word block) ∙ tests_claim file claimed w

-- or it is refused for what the entry is
refused_stops : (file claimed : List ℕ) (fault : ImageFault) → Stops file claimed (Refused fault ∷ []) (Some fault)
refused_stops file claimed fault = record { on = λ rest. refl }

fault_bad : (bad : Bool) (past : Bool) (a b : ImageFault) (fault : ImageFault) → bad ≡ true → (if bad then Some a else if past then Some b else None) ≡ Some fault → a ≡ fault
fault_bad bad past a b fault is e = search rules

pub record IsPastEntry (l : Layout) (w : ℕ) (fault : ImageFault) : Type 0 where
  pub sector : w % 512 ≡ 0
  pub whole : w % l.cluster ≡ 0
  pub past : reach_by l ≤ w / l.cluster
  pub is : fault ≡ PastLimit w

fault_past : (l : Layout) (i w : ℕ) (fault : ImageFault) → (not (w % 512 == 0) || not (w % l.cluster == 0)) ≡ false → entry_fault l i w ≡ Some fault → IsPastEntry l w fault
fault_past l i w fault good e = search rules

entry_bad : (l : Layout) (file claimed : List ℕ) (i w : ℕ) → IsLayout l → IsLayoutOf l file → u64_at file (l.table + 8 * i) ≡ w
    → (not (w % 512 == 0) || not (w % l.cluster == 0)) ≡ true → Stops file claimed (block_tests file (block_named file i)) (Some (BadBlock (l.table + 8 * i)))
entry_bad l file claimed i w is of word bad =
    let u : u64_at file (block_entry file i) ≡ w = words_of_file l file i of ∙ word in
    let c : l.cluster ≡ 2 ^ bits_of file = cluster_of_file l file is of in
    let s : u64_at file (block_entry file i) % 512 ≡ w % 512 = ap (λ (n : ℕ). n % 512) u in
    let whole = λ (z : w % 512 ≡ 0). let same : block_at file i ≡ w = ap (λ (n : ℕ). n / 512 * 512) u ∙ (omega arith) in
    ap (λ (n : ℕ). n % 2 ^ bits_of file) same ∙ ap (λ (n : ℕ). w % n) (sym c) in
    let named : block_named file i ≡ Err (BadBlock (block_entry file i)) =
    gate_bad (u64_at file (block_entry file i) % 512) (block_at file i % 2 ^ bits_of file) (w % 512) (w % l.cluster) (block_at file i) (BadBlock (block_entry file i)) bad s whole in
    let P : Result (Option ℕ) ImageFault → Type 0 = λ r. Stops file claimed (block_tests file r) (Some (BadBlock (block_entry file i))) in
    let stops = subst P (sym named) (refused_stops file claimed (BadBlock (block_entry file i))) in
    let Q : ℕ → Type 0 = λ t. Stops file claimed (block_tests file (block_named file i)) (Some (BadBlock (t + 8 * i))) in
    subst Q (sym of.table) stops

past_stops : (file claimed : List ℕ) (w : ℕ) → w ≢ 0 → reach_of file ≤ w / 2 ^ bits_of file
    → Stops file claimed (block_tests file (Ok (if w == 0 then None else Some w))) (Some (PastLimit (place_of (bits_of file) (w / 2 ^ bits_of file))))
past_stops file claimed w some past = rw (ne_eqb w 0 some) (stops_reached file claimed (w / 2 ^ bits_of file) past)

place_back : (file : List ℕ) (w : ℕ) → w % 2 ^ bits_of file ≡ 0 → 0 < 2 ^ bits_of file → place_of (bits_of file) (w / 2 ^ bits_of file) ≡ w
unfolding place_of
place_back file w whole some = omega arith

entry_past : (l : Layout) (file claimed : List ℕ) (i w : ℕ) → IsLayout l → IsLayoutOf l file → u64_at file (l.table + 8 * i) ≡ w
    → w % 512 ≡ 0 → w % l.cluster ≡ 0 → reach_by l ≤ w / l.cluster → Stops file claimed (block_tests file (block_named file i)) (Some (PastLimit w))
entry_past l file claimed i w is of word sector whole past =
    let u : u64_at file (block_entry file i) ≡ w = words_of_file l file i of ∙ word in
    let c : l.cluster ≡ 2 ^ bits_of file = cluster_of_file l file is of in
    let least : 512 ≤ l.cluster = is.least in
    let s : u64_at file (block_entry file i) % 512 ≡ 0 = ap (λ (n : ℕ). n % 512) u ∙ sector in
    let same : block_at file i ≡ w = ap (λ (n : ℕ). n / 512 * 512) u ∙ (omega arith) in
    let w_whole : w % 2 ^ bits_of file ≡ 0 = ap (λ (n : ℕ). w % n) (sym c) ∙ whole in
    let b_whole : block_at file i % 2 ^ bits_of file ≡ 0 = ap (λ (n : ℕ). n % 2 ^ bits_of file) same ∙ w_whole in
    let named : Names file i w = gate_ok (u64_at file (block_entry file i) % 512) (block_at file i % 2 ^ bits_of file) (block_at file i) w (BadBlock (block_entry file i)) s b_whole same in
    let r = reach_of_file l file of in
    let d : w / l.cluster ≡ w / 2 ^ bits_of file = ap (λ (n : ℕ). w / n) c in
    let far : reach_of file ≤ w / 2 ^ bits_of file = omega (arith, past, r, d) in
    let some_reach = reach_some l is in
    let some : w ≢ 0 = λ z. let z0 : w / l.cluster ≡ 0 = ap (λ (n : ℕ). n / l.cluster) z ∙ (omega arith) in absurd (omega (arith, z0, past, some_reach)) in
    let P : Result (Option ℕ) ImageFault → Type 0 = λ q. Stops file claimed (block_tests file q) (Some (PastLimit (place_of (bits_of file) (w / 2 ^ bits_of file)))) in
    let stops = subst P (sym named) (past_stops file claimed w some far) in
    let Q : ℕ → Type 0 = λ k. Stops file claimed (block_tests file (block_named file i)) (Some (PastLimit k)) in
    subst Q (place_back file w w_whole (omega (arith, c, least))) stops

pub entry_stops : (l : Layout) (file claimed : List ℕ) (i w : ℕ) (fault : ImageFault) → IsLayout l → IsLayoutOf l file → u64_at file (l.table + 8 * i) ≡ w
    → entry_fault l i w ≡ Some fault → Stops file claimed (block_tests file (block_named file i)) (Some fault)
entry_stops l file claimed i w fault is of word e = elim (cases_Bool (not (w % 512 == 0) || not (w % l.cluster == 0))) [
  | inl bad ↦
      let same : BadBlock (l.table + 8 * i) ≡ fault =
      fault_bad (not (w % 512 == 0) || not (w % l.cluster == 0)) (nat_le (reach_by l) (w / l.cluster)) (BadBlock (l.table + 8 * i)) (PastLimit w) fault bad e in
      let P : ImageFault → Type 0 = λ f. Stops file claimed (block_tests file (block_named file i)) (Some f) in
      subst P same (entry_bad l file claimed i w is of word bad)
  | inr good ↦
      let p = fault_past l i w fault good e in
      let P : ImageFault → Type 0 = λ f. Stops file claimed (block_tests file (block_named file i)) (Some f) in
      subst P (sym p.is) (entry_past l file claimed i w is of word p.sector p.whole p.past)
]

-- ---- all of them

abbrev pub entry_tests : List ℕ → ℕ → List Check
entry_tests file i = block_tests file (block_named file i)

pub record Through (file : List ℕ) (checks : List Check) : Type 0 where
  pub passes : (claimed : List ℕ) → Passes file claimed checks
  pub claims : (claimed : List ℕ) → claimed_after claimed checks ≡ claimed

through_each : (file : List ℕ) (f : ℕ → List Check) (n : ℕ) → ((i : ℕ) → i < n → Through file (f i)) → Through file (each_below n f)
through_each file f zero each = record { passes = λ claimed. passes_none file claimed; claims = λ claimed. refl }
through_each file f (suc n) each =
    let e : suc n ≡ n + 1 = omega arith in
    let before : Through file (each_below n f) = through_each file f n (λ i below. each i (omega arith)) in
    let here : Through file (f n) = each n (omega arith) in
    let P : ℕ → Type 0 = λ m. Through file (each_below m f) in
    let Q : List Check → Type 0 = λ cs. Through file cs in
    let both : Through file (each_below n f ++ f n) = through_on file (each_below n f) (f n) before here in
    let all : Through file (each_below (n + 1) f) = subst Q (sym (each_more f n)) both in
    subst P (sym e) all
  where
    through_on : (file : List ℕ) (xs ys : List Check) → Through file xs → Through file ys → Through file (xs ++ ys)
    through_on file xs ys one other = record {
      passes = λ claimed. passes_on file claimed xs ys (one.passes claimed) (other.passes (claimed_after claimed xs));
      claims = λ claimed. claimed_after-append claimed xs ys ∙ (other.claims (claimed_after claimed xs) ∙ one.claims claimed);
    }

entry_through : (l : Layout) (file : List ℕ) (i w : ℕ) → IsLayout l → IsLayoutOf l file → u64_at file (l.table + 8 * i) ≡ w → IsBlock l w → Through file (entry_tests file i)
entry_through l file i w is of word block = record {
  passes = λ claimed. entry_passes l file claimed i w is of word block;
  claims = λ claimed. entry_claims l file claimed i w is of word block;
}

-- a table that is reached, and whose words are blocks, passes its tests
pub record CountsPass (file : List ℕ) : Type 0 where
  pub passes : Passes file [] (count_tests file)
  pub claims : claimed_after [] (count_tests file) ≡ []

pub counts_pass : (l : Layout) (file blocks : List ℕ) → IsLayout l → IsLayoutOf l file → IsReached l → length blocks ≡ blocks_of l → AreBlocks l blocks → AreWords l file blocks → CountsPass file
counts_pass l file blocks is of reached count are words =
    let e = clusters_of_file l file is of in
    let r = reach_of_file l file of in
    let b = blocks_of_file l file of in
    let P : List ℕ → Type 0 = λ ks. Passes file [] (map Reached ks) in
    let first : Passes file [] (map Reached (count_clusters file)) = subst P (sym e) (reached_pass file [] (l.table / l.cluster) l.clusters (omega (arith, reached, r))) in
    let none : claimed_after [] (map Reached (count_clusters file)) ≡ [] = reached_claims [] (count_clusters file) in
    let through = through_each file (entry_tests file) (blocks_in file)
    (λ i below. let inside : i < length blocks = omega (arith, below, b, count) in entry_through l file i (slice_index blocks i) is of (sym (words i inside)) (are i inside)) in
    record {
      passes = passes_on file [] (map Reached (count_clusters file)) (each_below (blocks_in file) (entry_tests file)) first (through.passes (claimed_after [] (map Reached (count_clusters file))));
      claims = claimed_after-append [] (map Reached (count_clusters file)) (each_below (blocks_in file) (entry_tests file)) ∙ (through.claims (claimed_after [] (map Reached (count_clusters file))) ∙ none);
    }

-- one that isn't reached is refused for that
pub table_stops : (l : Layout) (file : List ℕ) (past : ℕ) → IsLayout l → past ≡ max (l.table / l.cluster) (reach_by l) → past < l.table / l.cluster + l.clusters → IsLayoutOf l file
    → Stops file [] (map Reached (count_clusters file)) (Some (PastLimit (past * l.cluster)))
unfolding place_of
table_stops l file past is e low of =
    let c = cluster_of_file l file is of in
    let r = reach_of_file l file of in
    let some : 0 < l.clusters = is.some in
    let stops = reached_stop file [] (l.table / l.cluster) l.clusters some (omega (arith, e, low, r)) in
    let P : List ℕ → Type 0 = λ ks. Stops file [] (map Reached ks) (Some (PastLimit (place_of (bits_of file) (max (l.table / l.cluster) (reach_of file))))) in
    let all = subst P (sym (clusters_of_file l file is of)) stops in
    let place : place_of (bits_of file) (max (l.table / l.cluster) (reach_of file)) ≡ past * l.cluster =
    ap (λ (n : ℕ). 2 ^ bits_of file * max (l.table / l.cluster) n) r ∙ (ap (λ (n : ℕ). 2 ^ bits_of file * n) (sym e) ∙ (ap (λ (n : ℕ). n * past) (sym c) ∙ mul_comm l.cluster past)) in
    let Q : ℕ → Type 0 = λ k. Stops file [] (map Reached (count_clusters file)) (Some (PastLimit k)) in
    subst Q place all

-- and else the first entry that is refused is
pub entries_stop : (l : Layout) (file : List ℕ) (fault : Option ImageFault) → IsLayout l → IsLayoutOf l file → IsReached l → fault ≢ None → IsFirstBad l file fault → Stops file [] (count_tests file) fault
entries_stop l file None is of reached some bad = absurd (some refl)
entries_stop l file (Some fault) is of reached some bad =
    let e = clusters_of_file l file is of in
    let r = reach_of_file l file of in
    let b = blocks_of_file l file of in
    let P : List ℕ → Type 0 = λ ks. Passes file [] (map Reached ks) in
    let first : Passes file [] (map Reached (count_clusters file)) = subst P (sym e) (reached_pass file [] (l.table / l.cluster) l.clusters (omega (arith, reached, r))) in
    let through = through_each file (entry_tests file) bad.i (λ j below. entry_through l file j (u64_at file (l.table + 8 * j)) is of refl (bad.before j below)) in
    let inside : bad.i < blocks_of l = bad.inside in
    let at = each_at (entry_tests file) (blocks_in file) bad.i (omega (arith, b, inside)) in
    let claimed : List ℕ = claimed_after [] (map Reached (count_clusters file)) in
    let here : Stops file (claimed_after claimed (each_below bad.i (entry_tests file))) (entry_tests file bad.i) (Some fault) =
    entry_stops l file (claimed_after claimed (each_below bad.i (entry_tests file))) bad.i (u64_at file (l.table + 8 * bad.i)) fault is of refl bad.is in
    let upto = stops_on file claimed (each_below bad.i (entry_tests file)) (entry_tests file bad.i) (Some fault) (through.passes claimed) here in
    let all = stops_as file claimed _ _ (Some fault) (sym at.1) (stops_more file claimed (each_below bad.i (entry_tests file) ++ entry_tests file bad.i) at.0 (Some fault) upto) in
    stops_on file [] (map Reached (count_clusters file)) (each_below (blocks_in file) (entry_tests file)) (Some fault) first all

pub table_stops_tests : (file : List ℕ) (fault : Option ImageFault) → Stops file [] (map Reached (count_clusters file)) fault → Stops file [] (count_tests file) fault
table_stops_tests file fault stops = stops_more file [] (map Reached (count_clusters file)) (each_below (blocks_in file) (entry_tests file)) fault stops

-- half a cluster's bytes, as the shift gives them
pub counts_half : (l : Layout) (bits r : ℕ) → IsLayout l → bits ≡ l.cluster_bits → r ≡ bits → 1 * 2 ^ r % 2 ^ 64 / 2 ≡ counts_in bits
unfolding counts_in
counts_half l bits r is same e =
    let two : 2 ^ r ≡ 2 ^ bits = ap (λ (b : ℕ). 2 ^ b) e in
    let size : 2 ^ bits ≡ l.cluster = ap (λ (b : ℕ). 2 ^ b) same ∙ sym is.size in
    let most : l.cluster ≤ 2 ^ 21 = is.most in
    let whole : 1 * 2 ^ r % 2 ^ 64 ≡ 2 ^ bits = omega (arith, two, size, most) in
    ap (λ (x : ℕ). x / 2) whole
