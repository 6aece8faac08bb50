-- What the blocks of a file say of its refcounts.
use Rattle.std.proofs.Common.{◌≡◌, ◌≢◌, ℕ, ◌+◌, ◌-◌, ◌*◌, ◌/◌, ◌%◌, ◌^◌, ◌<◌, ◌≤◌, List, length, take, slice_index, min, max, Bool, true, false, not, if◌then◌else◌, inl, inr, refl, sym, ap, subst, ◌∙◌, arith}
use Rattle.std.specs.Prelude.{◌==◌, nat_lt}
use Rattle.std.specs.Int.{div_ceil, w16}
use Rattle.std.proofs.lemmas.Grind.{common_steps, div_ceil_times}
use Rattle.std.proofs.lemmas.List.{length-take}
use Rattle.std.proofs.lemmas.Bool.{eq-eqb, ne_eqb, cases_lt, cases_eq, lt-ltb, le-ltb}
use Rattle.std.proofs.lemmas.Nat.{div-mul-add}
use Rattle.std.proofs.Math.Nat.{mul_comm, mul_assoc, mul-le-mul, mul-le-mul_right, lt_of_mul-lt-mul_left, mul-add-mod_self_right, mul-mod_left, mul-div_cancel_left}
use Rattle.disk_model.specs.Files.{reading, u16_at}
use Rattle.disk_model.proofs.Laws.{number-reading}
use Rattle.bitmap_model.specs.Granules.{is_in}
use Rattle.qc_layout.specs.Disks.{bits_of, blocks_in, block_at, counts_in, place_of, refcount}
use Rattle.qc_layout.specs.Room.{IsFreeFrom}
use Rattle.qc_alloc.specs.declared.tables.Layout.{Layout}
use Rattle.qc_alloc.specs.Tables.{IsLayout, IsTableOf, AreBlocks, IsRow, Notes, HasCounts, blocks_of, reach_by}
use Rattle.qc_alloc.proofs.Layouts.{counts_twice, blocks_few, blocks_of_file, block_is_word, cluster_of_file}
use Rattle.cluster_pool.proofs.Words.{past_set}

-- ---- one refcount

in_gate : (x y : Bool) (a : ℕ) → x ≡ true → y ≡ false → (if x then (if y then 0 else a) else 0) ≡ a
in_gate x y a p q = rw (p, q) refl

out_gate : (x y : Bool) (a : ℕ) → y ≡ true → (if x then (if y then 0 else a) else 0) ≡ 0
out_gate true y a q = rw q refl
out_gate false y a q = refl

far_gate : (x : Bool) (b : ℕ) → x ≡ false → (if x then b else 0) ≡ 0
far_gate x b p = rw p refl

pub refcount_there : (file : List ℕ) (k q r b : ℕ) → k / counts_in (bits_of file) ≡ q → k % counts_in (bits_of file) ≡ r → q < blocks_in file → block_at file q ≡ b → b ≢ 0
    → refcount file k ≡ u16_at file (b + 2 * r)
unfolding refcount
refcount_there file k q r b is_q is_r below is_b some =
    let at : ℕ = k / counts_in (bits_of file) in
    let here : block_at file at ≡ b = ap (λ (i : ℕ). block_at file i) is_q ∙ is_b in
    let inside : nat_lt at (blocks_in file) ≡ true = lt-ltb at (blocks_in file) (subst (λ (i : ℕ). i < blocks_in file) (sym is_q) below) in
    let there : (block_at file at == 0) ≡ false = ne_eqb (block_at file at) 0 (λ z. some (sym here ∙ z)) in
    in_gate (nat_lt at (blocks_in file)) (block_at file at == 0) (u16_at file (block_at file at + 2 * (k % counts_in (bits_of file)))) inside there
    ∙ (ap (λ (x : ℕ). u16_at file (x + 2 * (k % counts_in (bits_of file)))) here ∙ ap (λ (x : ℕ). u16_at file (b + 2 * x)) is_r)

pub refcount_missing : (file : List ℕ) (k : ℕ) → block_at file (k / counts_in (bits_of file)) ≡ 0 → refcount file k ≡ 0
unfolding refcount
refcount_missing file k none =
    let at : ℕ = k / counts_in (bits_of file) in
    out_gate (nat_lt at (blocks_in file)) (block_at file at == 0) (u16_at file (block_at file at + 2 * (k % counts_in (bits_of file)))) (eq-eqb (block_at file at) 0 none)

pub refcount_far : (file : List ℕ) (k : ℕ) → blocks_in file ≤ k / counts_in (bits_of file) → refcount file k ≡ 0
unfolding refcount
refcount_far file k past =
    let at : ℕ = k / counts_in (bits_of file) in
    far_gate (nat_lt at (blocks_in file)) (if block_at file at == 0 then 0 else u16_at file (block_at file at + 2 * (k % counts_in (bits_of file)))) (le-ltb at (blocks_in file) past)

-- ---- in a table of blocks

-- the block of an entry
pub block_in : (l : Layout) (file blocks : List ℕ) (i : ℕ) → IsTableOf l file blocks → AreBlocks l blocks → i < length blocks → block_at file i ≡ slice_index blocks i
block_in l file blocks i table are below = block_is_word l file i (slice_index blocks i) table.layout (sym (table.words i below)) (are i below)

-- where the count of a cluster stands
div_at : (each first i : ℕ) → 0 < each → (first * each + i) / each ≡ first + i / each
div_at each first i some =
    let e : first * each + i ≡ (first + i / each) * each + i % each = grind (arith, common_steps) in
    ap (λ (n : ℕ). n / each) e ∙ div-mul-add (first + i / each) each (i % each) (omega arith)

mod_at : (each first i : ℕ) → 0 < each → (first * each + i) % each ≡ i % each
mod_at each first i some = mul-add-mod_self_right first each i

pub counts_read : (l : Layout) (file blocks bytes : List ℕ) (first n : ℕ) → IsLayout l → length blocks ≡ blocks_of l → IsTableOf l file blocks → AreBlocks l blocks → IsRow l.cluster blocks first n
    → length bytes ≡ n * l.cluster → bytes ≡ reading file (slice_index blocks first) (length bytes)
    → (i : ℕ) → i < length bytes / 2 → refcount file (first * counts_in l.cluster_bits + i) ≡ u16_at bytes (2 * i)
counts_read l file blocks bytes first n is count table are row long read i below =
    let each : ℕ = counts_in l.cluster_bits in
    let twice : 2 * each ≡ l.cluster = counts_twice l is in
    let least : 512 ≤ l.cluster = is.least in
    let bits : counts_in (bits_of file) ≡ each = ap (λ (b : ℕ). counts_in b) (sym table.layout.bits) in
    let some : 0 < each = omega arith in
    let q : ℕ = i / each in
    let r : ℕ = i % each in
    let whole : each * q + r ≡ i = omega arith in
    let scaled : n * l.cluster ≡ 2 * (each * n) = ap (λ (c : ℕ). n * c) (sym twice) ∙ (mul_comm n (2 * each) ∙ mul_assoc 2 each n) in
    let less : each * q < each * n = omega arith in
    let inside : q < n = lt_of_mul-lt-mul_left each less in
    let row_inside : first + n ≤ length blocks = row.inside in
    let there : first + q < length blocks = omega arith in
    let block : block_at file (first + q) ≡ slice_index blocks first + q * l.cluster = block_in l file blocks (first + q) table are there ∙ row.places q inside in
    let first_there : slice_index blocks first ≢ 0 = row.there (omega arith) in
    let k : ℕ = first * each + i in
    let is_q : k / counts_in (bits_of file) ≡ first + q = ap (λ (c : ℕ). k / c) bits ∙ div_at each first i some in
    let is_r : k % counts_in (bits_of file) ≡ r = ap (λ (c : ℕ). k % c) bits ∙ mod_at each first i some in
    let in_file : first + q < blocks_in file = (let b = blocks_of_file l file table.layout in omega arith) in
    let nonzero : slice_index blocks first + q * l.cluster ≢ 0 = λ z. first_there (omega arith) in
    let place : slice_index blocks first + q * l.cluster + 2 * r ≡ slice_index blocks first + 2 * i =
    (let f : q * l.cluster ≡ 2 * (each * q) = ap (λ (c : ℕ). q * c) (sym twice) ∙ (mul_comm q (2 * each) ∙ mul_assoc 2 each q) in omega arith) in
    refcount_there file k (first + q) r (slice_index blocks first + q * l.cluster) is_q is_r in_file block nonzero
    ∙ (ap (λ (at : ℕ). u16_at file at) place
    ∙ sym (ap (λ (bs : List ℕ). u16_at bs (2 * i)) read ∙ number-reading w16 file (slice_index blocks first) (length bytes) (2 * i) (omega arith)))

-- a row of blocks with no count
pub notes_over : (counts : ℕ → ℕ) (a b : ℕ) (set : List Bool) (past : ℕ) → a ≤ b → ((k : ℕ) → a ≤ k → k < b → counts k ≡ 0) → Notes counts a set past → Notes counts b set past
notes_over counts a b set past more none had = record {
  inside = λ k below short. elim (cases_lt k a) [
    | inl low ↦ had.inside k low short
    | inr high ↦ had.others k high ∙ sym (ap not (eq-eqb (counts k) 0 (none k high below)))
  ];
  others = λ k high. had.others k (omega arith);
  behind = λ k below after. elim (cases_lt k a) [ inl low ↦ had.behind k low after | inr high ↦ none k high below ];
  last = elim had.last [ inl e ↦ inl e | inr at ↦ inr (at.0, (let below = at.1 in omega (arith, below)), at.2, at.3) ];
}

div_between : (each i k : ℕ) → 0 < each → i * each ≤ k → k < (i + 1) * each → k / each ≡ i
div_between each i k some low high =
    let e : k ≡ i * each + (k - i * each) = omega arith in
    let m : (i + 1) * each ≡ i * each + each = grind (arith, common_steps) in
    ap (λ (n : ℕ). n / each) e ∙ div-mul-add i each (k - i * each) (omega arith)

pub missing_none : (l : Layout) (file blocks : List ℕ) (i k : ℕ) → IsLayout l → IsTableOf l file blocks → AreBlocks l blocks → i < length blocks → slice_index blocks i ≡ 0
    → i * counts_in l.cluster_bits ≤ k → k < (i + 1) * counts_in l.cluster_bits → refcount file k ≡ 0
missing_none l file blocks i k is table are below none low high =
    let each : ℕ = counts_in l.cluster_bits in
    let twice : 2 * each ≡ l.cluster = counts_twice l is in
    let least : 512 ≤ l.cluster = is.least in
    let bits : counts_in (bits_of file) ≡ each = ap (λ (b : ℕ). counts_in b) (sym table.layout.bits) in
    let q : k / counts_in (bits_of file) ≡ i = ap (λ (c : ℕ). k / c) bits ∙ div_between each i k (omega arith) low high in
    refcount_missing file k (ap (λ (n : ℕ). block_at file n) q ∙ (block_in l file blocks i table are below ∙ none))

-- ---- all of them

pub record IsLimited (l : Layout) (blocks : List ℕ) (limit end : ℕ) : Type 0 where
  pub is : limit ≡ min (reach_by l) (end * counts_in l.cluster_bits)
  pub behind : (i : ℕ) → end ≤ i → slice_index blocks i ≡ 0

pub counts_found : (l : Layout) (file blocks : List ℕ) (limit end past next : ℕ) (set : List Bool) → IsLayout l → length blocks ≡ blocks_of l → IsTableOf l file blocks → AreBlocks l blocks
    → IsLimited l blocks limit end → length set ≡ limit → Notes (refcount file) (length blocks * counts_in l.cluster_bits) set past → next ≡ max (div_ceil (length file) l.cluster) past
    → HasCounts file (reach_by l) set next
unfolding place_of
counts_found l file blocks limit end past next set is count table are limited long notes is_next = record { counted = counted; first = record { free = record { uncounted = λ k high. zero_from k (omega arith); past = lies }; least = least } }
  where
    each : ℕ
    each = counts_in l.cluster_bits

    some : 0 < counts_in l.cluster_bits
    some = let twice = counts_twice l is in let low : 512 ≤ l.cluster = is.least in omega arith

    bits : counts_in (bits_of file) ≡ counts_in l.cluster_bits
    bits = ap (λ (b : ℕ). counts_in b) (sym table.layout.bits)

    div_le : (e k : ℕ) → e * counts_in l.cluster_bits ≤ k → e ≤ k / counts_in (bits_of file)
    div_le e k low =
        let c : ℕ = counts_in l.cluster_bits in
        let m : k < c * (k / c + 1) = (let s = some in grind (arith, common_steps)) in
        let n : e * c ≡ c * e = mul_comm e c in
        let f : e < k / c + 1 = lt_of_mul-lt-mul_left c (omega arith) in
        let g : k / counts_in (bits_of file) ≡ k / c = ap (λ (x : ℕ). k / x) bits in
        omega arith

    zero_from : (k : ℕ) → past ≤ k → refcount file k ≡ 0
    zero_from k high = elim (cases_lt k (length blocks * counts_in l.cluster_bits)) [
      | inl below ↦ notes.behind k below high
      | inr far ↦ refcount_far file k (let b = blocks_of_file l file table.layout in let d = div_le (length blocks) k far in omega arith)
    ]

    zero_past : (k : ℕ) → limit ≤ k → k < reach_by l → refcount file k ≡ 0
    zero_past k high near =
        let at : ℕ = k / counts_in (bits_of file) in
        let e : limit ≡ min (reach_by l) (end * counts_in l.cluster_bits) = limited.is in
        let d : end ≤ at = div_le end k (omega arith) in
        elim (cases_lt at (length blocks)) [
          | inl inside ↦ refcount_missing file k (block_in l file blocks at table are inside ∙ limited.behind at d)
          | inr far ↦ refcount_far file k (let b = blocks_of_file l file table.layout in omega arith)
        ]

    counted : (k : ℕ) → k < reach_by l → (if nat_lt k next then is_in set k else false) ≡ not (refcount file k == 0)
    counted k near = let all = ap (λ (n : ℕ). n * counts_in l.cluster_bits) count in elim (cases_lt k next) [
      | inl low ↦ rw (lt-ltb k next low) (elim (cases_lt k limit) [
        | inl short ↦ notes.inside k (omega (arith, all, near)) (omega arith)
        | inr far ↦ past_set set k (omega arith) ∙ sym (ap not (eq-eqb (refcount file k) 0 (zero_past k far near)))
      ])
      | inr high ↦ rw (le-ltb k next high) (sym (ap not (eq-eqb (refcount file k) 0 (zero_from k (omega arith)))))
    ]

    lies : length file ≤ place_of (bits_of file) next
    lies =
        let c : ℕ = l.cluster in
        let low : 512 ≤ l.cluster = is.least in
        let same : l.cluster ≡ 2 ^ bits_of file = cluster_of_file l file is table.layout in
        let d = div_ceil_times (length file) c (omega arith) in
        let m : div_ceil (length file) c * c ≤ next * c = mul-le-mul_right c (omega arith) in
        let s : 2 ^ bits_of file * next ≡ next * c = ap (λ (x : ℕ). x * next) (sym same) ∙ mul_comm c next in
        let e : length file ≤ div_ceil (length file) c * c = d.0 in
        omega arith

    least : (m : ℕ) → IsFreeFrom file m → next ≤ m
    least m free =
        let c : ℕ = l.cluster in
        let low : 512 ≤ l.cluster = is.least in
        let same : l.cluster ≡ 2 ^ bits_of file = cluster_of_file l file is table.layout in
        let d = div_ceil_times (length file) c (omega arith) in
        let inside : length file ≤ 2 ^ bits_of file * m = free.past in
        let s : 2 ^ bits_of file * m ≡ c * m = ap (λ (x : ℕ). x * m) (sym same) in
        let t : c * (m + 1) ≡ c * m + c = grind (arith, common_steps) in
        let u : div_ceil (length file) c * c ≡ c * div_ceil (length file) c = mul_comm (div_ceil (length file) c) c in
        let v : div_ceil (length file) c * c < length file + c = d.1 in
        let e : div_ceil (length file) c < m + 1 = lt_of_mul-lt-mul_left c (omega arith) in
        let f : past ≤ m = elim notes.last [
          | inl none ↦ omega arith
          | inr at ↦ elim (cases_lt at.0 m) [
            | inl below ↦ let p = at.2 in omega arith
            | inr high ↦ absurd (at.3 (free.uncounted at.0 high))
          ]
        ] in
        omega arith

-- the counts of a row of blocks
pub half_row : (l : Layout) (first n m each : ℕ) → IsLayout l → m ≡ n * l.cluster → each ≡ counts_in l.cluster_bits → first * each + m / 2 ≡ (first + n) * counts_in l.cluster_bits
half_row l first n m each is long same =
    let c : ℕ = counts_in l.cluster_bits in
    let twice : 2 * c ≡ l.cluster = counts_twice l is in
    let scaled : m ≡ 2 * (c * n) = long ∙ (ap (λ (x : ℕ). n * x) (sym twice) ∙ (mul_comm n (2 * c) ∙ mul_assoc 2 c n)) in
    let half : m / 2 ≡ n * c = (let e : m / 2 ≡ c * n = omega arith in e ∙ mul_comm c n) in
    let spread : (first + n) * c ≡ first * c + n * c = grind (arith, common_steps) in
    ap (λ (x : ℕ). first * x + m / 2) same ∙ (ap (λ (x : ℕ). first * c + x) half ∙ sym spread)

-- numbers of clusters are small
pub near_row : (l : Layout) (blocks : List ℕ) (first n : ℕ) → IsLayout l → length blocks ≡ blocks_of l → first + n ≤ length blocks → first * counts_in l.cluster_bits ≤ 2 ^ 43
near_row l blocks first n is count inside =
    let few = blocks_few l is in
    let low : first ≤ 2 ^ 23 = omega (arith, few, count, inside) in
    let twice : 2 * counts_in l.cluster_bits ≡ l.cluster = counts_twice l is in
    let most : l.cluster ≤ 2 ^ 21 = is.most in
    let m : first * counts_in l.cluster_bits ≤ 2 ^ 23 * 2 ^ 20 = mul-le-mul {n₂ = 2 ^ 23} {m₂ = 2 ^ 20} low (omega arith) in
    omega (arith, m)

-- as far as the blocks have been read, from the start on
pub record HasCounted (l : Layout) (file blocks : List ℕ) (start : List Bool) (first index : ℕ) (set : List Bool) (past : ℕ) : Type 0 where
  pub on : IsTableOf l file blocks → Notes (refcount file) 0 start first → Notes (refcount file) (index * counts_in l.cluster_bits) set past

pub counted_none : (l : Layout) (file blocks : List ℕ) (start : List Bool) (first : ℕ) → HasCounted l file blocks start first 0 start first
counted_none l file blocks start first = record {
  on = λ table had. let e : 0 ≡ 0 * counts_in l.cluster_bits = omega arith in
      let P : ℕ → Type 0 = λ k. Notes (refcount file) k start first in subst P e had;
}

-- over a block that is missing
pub counted_missing : (l : Layout) (file blocks : List ℕ) (start : List Bool) (first index : ℕ) (set : List Bool) (past : ℕ) → IsLayout l → AreBlocks l blocks → index < length blocks → slice_index blocks index ≡ 0
    → HasCounted l file blocks start first index set past → HasCounted l file blocks start first (index + 1) set past
counted_missing l file blocks start first index set past is are below none had = record {
  on = λ table began.
      let more : index * counts_in l.cluster_bits ≤ (index + 1) * counts_in l.cluster_bits = mul-le-mul_right (counts_in l.cluster_bits) (omega arith) in
      notes_over (refcount file) (index * counts_in l.cluster_bits) ((index + 1) * counts_in l.cluster_bits) set past more (λ k low high. missing_none l file blocks index k is table are below none low high) (had.on table began);
}

-- one step of reading them
pub counted_step : (l : Layout) (file blocks : List ℕ) (start : List Bool) (first index n m : ℕ) (set : List Bool) (past : ℕ) → IsLayout l → AreBlocks l blocks → index < length blocks → m ≡ max n 1
    → (n ≡ 0 → slice_index blocks index ≡ 0) → HasCounted l file blocks start first (index + n) set past → HasCounted l file blocks start first (index + m) set past
counted_step l file blocks start first index n m set past is are below most none had =
    let P : ℕ → Type 0 = λ i. HasCounted l file blocks start first i set past in
    elim (cases_eq n 0) [
      | inl e ↦ let same : index + n ≡ index = omega arith in let on : index + 1 ≡ index + m = omega arith in
          subst P on (counted_missing l file blocks start first index set past is are below (none e) (subst P same had))
      | inr other ↦ let on : index + n ≡ index + m = omega arith in subst P on had
    ]

-- ---- pieces of a buffer

pub piece_long : (xs : List ℕ) (n c : ℕ) → 0 < c → n ≤ length xs / c → length (take (n * c) xs) ≡ n * c
piece_long xs n c some few =
    let m : n * c ≤ length xs / c * c = mul-le-mul_right c few in
    let k : length xs / c * c ≤ length xs = (let e = mul_comm (length xs / c) c in omega arith) in
    omega (arith, length-take (n * c) xs, m, k)

pub piece_count : (xs : List ℕ) (n c : ℕ) → 0 < c → n ≤ length xs / c → length (take (n * c) xs) / c ≡ n
piece_count xs n c some few = ap (λ (x : ℕ). x / c) (piece_long xs n c some few ∙ mul_comm n c) ∙ mul-div_cancel_left n some

pub piece_whole : (xs : List ℕ) (n c : ℕ) → 0 < c → n ≤ length xs / c → length (take (n * c) xs) % c ≡ 0
piece_whole xs n c some few = ap (λ (x : ℕ). x % c) (piece_long xs n c some few) ∙ mul-mod_left n c

pub buffer_long : (c m : ℕ) → 512 ≤ c → c ≤ 2 ^ 21 → m ≡ max (2 ^ 20 / c) 1 → (c ≤ m * c) × (m * c ≤ 2 ^ 21)
buffer_long c m low high is =
    let some : 1 ≤ m = omega arith in
    let a : 1 * c ≤ m * c = mul-le-mul_right c some in
    let b : m * c ≤ 2 ^ 21 = elim (cases_lt (2 ^ 20 / c) 1) [
      | inl small ↦ let e : m ≡ 1 = omega arith in let f : m * c ≡ 1 * c = ap (λ (x : ℕ). x * c) e in omega arith
      | inr large ↦ let e : m ≡ 2 ^ 20 / c = omega arith in let f : m * c ≡ c * (2 ^ 20 / c) = ap (λ (x : ℕ). x * c) e ∙ mul_comm (2 ^ 20 / c) c in omega arith
    ] in
    (omega arith, b)
