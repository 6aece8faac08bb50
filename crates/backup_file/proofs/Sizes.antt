-- How large the parts of a new image are.
use Rattle.std.proofs.Common.{◌≡◌, inl, inr, ℕ, zero, suc, ◌+◌, ◌-◌, ◌*◌, ◌/◌, ◌%◌, ◌^◌, ◌<◌, ◌≤◌, Bool, true, false, refl, sym, ap, subst, arith, rules}
use Rattle.std.specs.Prelude.{not, ◌&&◌, nat_lt, ◌==◌}
use Rattle.std.proofs.lemmas.Bool.{eqb-true, cases_lt}
use Rattle.std.proofs.lemmas.Nat.{one_shl, mul-le}
use Rattle.std.proofs.Math.Nat.{mul-le-mul_left}
use Rattle.qc_layout.specs.Header.{is_bits, is_size, l1_needed}
use Rattle.qc_layout.specs.Disks.{words_in, counts_in, clusters_in}
use Rattle.backup_file.specs.Layout.{is_form, parts_of, table_clusters, l1_clusters, block_clusters, l1_cluster, all_clusters, IsLeast}

-- what holds at each cluster size
pub by_bits : (Q : ℕ → Type 0) → Q 9 → Q 10 → Q 11 → Q 12 → Q 13 → Q 14 → Q 15 → Q 16 → Q 17 → Q 18 → Q 19 → Q 20 → Q 21 → (bits : ℕ) → 9 ≤ bits → bits ≤ 21 → Q bits
by_bits Q a b c d e f g h i j k l m bits low high = let same : 9 + (bits - 9) ≡ bits = omega arith in subst Q same (at (bits - 9) (omega arith))
  where
    at : (n : ℕ) → n < 13 → Q (9 + n)
    at zero small = a
    at (suc zero) small = b
    at (suc (suc zero)) small = c
    at (suc (suc (suc zero))) small = d
    at (suc (suc (suc (suc zero)))) small = e
    at (suc (suc (suc (suc (suc zero))))) small = f
    at (suc (suc (suc (suc (suc (suc zero)))))) small = g
    at (suc (suc (suc (suc (suc (suc (suc zero))))))) small = h
    at (suc (suc (suc (suc (suc (suc (suc (suc zero)))))))) small = i
    at (suc (suc (suc (suc (suc (suc (suc (suc (suc zero))))))))) small = j
    at (suc (suc (suc (suc (suc (suc (suc (suc (suc (suc zero)))))))))) small = k
    at (suc (suc (suc (suc (suc (suc (suc (suc (suc (suc (suc zero))))))))))) small = l
    at (suc (suc (suc (suc (suc (suc (suc (suc (suc (suc (suc (suc zero)))))))))))) small = m
    at (suc (suc (suc (suc (suc (suc (suc (suc (suc (suc (suc (suc (suc n))))))))))))) small = absurd (omega arith)

-- a size that an image may have, as numbers
pub record IsForm (bits size : ℕ) : Type 0 where
  pub low : 9 ≤ bits
  pub high : bits ≤ 21
  pub some : 0 < size
  pub limit : size ≤ 2 ^ 40
  pub clusters : size ≤ 2 ^ 27 * 2 ^ bits
  pub whole : size % 512 ≡ 0
  pub entries : l1_needed bits size ≤ 2 ^ 20

both : (a b : Bool) → (a && b) ≡ true → (a ≡ true) × (b ≡ true)
both true true h = (refl, refl)
both true false h = absurd cc
both false b h = absurd cc

no : (a : Bool) → not a ≡ true → a ≡ false
no true h = absurd cc
no false h = refl

pub form_of : (bits size : ℕ) → is_form bits size ≡ true → IsForm bits size
form_of bits size is =
    let a = both (is_bits bits && is_size bits size) (not (nat_lt (2 ^ 20) (l1_needed bits size))) is in
    let b = both (is_bits bits) (is_size bits size) a.0 in
    let c = both (not (nat_lt bits 9)) (not (nat_lt 21 bits)) b.0 in
    let d = both (nat_lt 0 size && not (nat_lt (2 ^ 40) size) && not (nat_lt (2 ^ 27 * 2 ^ bits) size)) (size % 512 == 0) b.1 in
    let e = both (nat_lt 0 size && not (nat_lt (2 ^ 40) size)) (not (nat_lt (2 ^ 27 * 2 ^ bits) size)) d.0 in
    let f = both (nat_lt 0 size) (not (nat_lt (2 ^ 40) size)) e.0 in
    record {
      low = ge bits 9 (no _ c.0);
      high = ge 21 bits (no _ c.1);
      some = lt 0 size f.0;
      limit = ge (2 ^ 40) size (no _ f.1);
      clusters = ge (2 ^ 27 * 2 ^ bits) size (no _ e.1);
      whole = eqb-true _ _ d.1;
      entries = ge (2 ^ 20) (l1_needed bits size) (no _ a.1);
    }
  where
    ge : (m n : ℕ) → nat_lt m n ≡ false → n ≤ m
    ge m n h = search rules

    lt : (m n : ℕ) → nat_lt m n ≡ true → m < n
    lt m n h = search rules

pub form_tests : (bits size : ℕ) → is_form bits size ≡ true → (is_bits bits ≡ true) × (is_size bits size ≡ true)
form_tests bits size is =
    let a = both (is_bits bits && is_size bits size) (not (nat_lt (2 ^ 20) (l1_needed bits size))) is in
    both (is_bits bits) (is_size bits size) a.0

-- bytes of a cluster
pub record IsCluster (bits : ℕ) : Type 0 where
  pub large : 512 ≤ 2 ^ bits
  pub small : 2 ^ bits ≤ 2 ^ 21
  pub sectors : 2 ^ bits % 512 ≡ 0
  pub words : 8 * words_in bits ≡ 2 ^ bits
  pub counts : 2 * counts_in bits ≡ 2 ^ bits

pub cluster_of : (bits : ℕ) → 9 ≤ bits → bits ≤ 21 → IsCluster bits
unfolding words_in counts_in
cluster_of bits low high = by_bits IsCluster
    (record { large = omega arith; small = omega arith; sectors = refl; words = refl; counts = refl })
    (record { large = omega arith; small = omega arith; sectors = refl; words = refl; counts = refl })
    (record { large = omega arith; small = omega arith; sectors = refl; words = refl; counts = refl })
    (record { large = omega arith; small = omega arith; sectors = refl; words = refl; counts = refl })
    (record { large = omega arith; small = omega arith; sectors = refl; words = refl; counts = refl })
    (record { large = omega arith; small = omega arith; sectors = refl; words = refl; counts = refl })
    (record { large = omega arith; small = omega arith; sectors = refl; words = refl; counts = refl })
    (record { large = omega arith; small = omega arith; sectors = refl; words = refl; counts = refl })
    (record { large = omega arith; small = omega arith; sectors = refl; words = refl; counts = refl })
    (record { large = omega arith; small = omega arith; sectors = refl; words = refl; counts = refl })
    (record { large = omega arith; small = omega arith; sectors = refl; words = refl; counts = refl })
    (record { large = omega arith; small = omega arith; sectors = refl; words = refl; counts = refl })
    (record { large = omega arith; small = omega arith; sectors = refl; words = refl; counts = refl })
    bits low high

-- the whole file is short, and each block of refcounts has an entry of the table
pub record IsShort (bits size : ℕ) : Type 0 where
  pub whole : 2 ^ bits * all_clusters bits size ≤ 2 ^ 26
  pub blocks : block_clusters bits size ≤ table_clusters bits size * words_in bits

pub short_of : (bits size : ℕ) → IsForm bits size → IsShort bits size
unfolding words_in counts_in table_clusters l1_clusters block_clusters l1_cluster all_clusters
short_of bits size is = by_bits (λ b. (n : ℕ) → IsForm b n → IsShort b n)
    (λ n f. record { whole = omega arith; blocks = omega arith }) (λ n f. record { whole = omega arith; blocks = omega arith })
    (λ n f. record { whole = omega arith; blocks = omega arith }) (λ n f. record { whole = omega arith; blocks = omega arith })
    (λ n f. record { whole = omega arith; blocks = omega arith }) (λ n f. record { whole = omega arith; blocks = omega arith })
    (λ n f. record { whole = omega arith; blocks = omega arith }) (λ n f. record { whole = omega arith; blocks = omega arith })
    (λ n f. record { whole = omega arith; blocks = omega arith }) (λ n f. record { whole = omega arith; blocks = omega arith })
    (λ n f. record { whole = omega arith; blocks = omega arith }) (λ n f. record { whole = omega arith; blocks = omega arith })
    (λ n f. record { whole = omega arith; blocks = omega arith }) bits is.low is.high size is

-- as the program computes it
pub shifted : (bits : ℕ) → bits ≤ 21 → (1 * 2 ^ bits) % 2 ^ 64 ≡ 2 ^ bits
shifted bits high = one_shl bits 64 (omega arith)

pub reach_some : (bits : ℕ) → 9 ≤ bits → bits ≤ 21 → 1 ≤ (1 * 2 ^ bits) % 2 ^ 64 * ((1 * 2 ^ bits) % 2 ^ 64 / 8)
reach_some bits low high =
    let e = shifted bits high in
    let p = (1 * 2 ^ bits) % 2 ^ 64 in
    let large : 512 ≤ p = omega (arith, e, (cluster_of bits low high).large) in
    omega (arith, mul-le 512 64 p (p / 8) large (omega arith))

-- the sums of a plan don't wrap, for clusters of p bytes
pub record NoWrap (p size : ℕ) : Type 0 where
  pub counted : 1 ≤ p / 8 * (p / 2)
  pub table : 2 * parts_of p size + 1024 + (p / 8 * (p / 2) - 1) < 2 ^ 64
  pub covered : 1 ≤ p * (p / 8)
  pub entries : size + (p * (p / 8) - 1) < 2 ^ 64
  pub half : 2 ≤ p / 2
  pub blocks : 1 + parts_of (p / 8 * (p / 2)) (2 * parts_of p size + 1024) + parts_of p (8 * parts_of (p * (p / 8)) size) + p / 2 < 2 ^ 60
  pub level : 8 * parts_of (p * (p / 8)) size + p < 2 ^ 60
  pub all : parts_of (p / 2 - 1) (1 + parts_of (p / 8 * (p / 2)) (2 * parts_of p size + 1024) + parts_of p (8 * parts_of (p * (p / 8)) size)) < 2 ^ 60

no_wrap_at : (bits size : ℕ) → IsForm bits size → NoWrap (2 ^ bits) size
no_wrap_at bits size is = by_bits (λ b. (n : ℕ) → IsForm b n → NoWrap (2 ^ b) n)
    (λ n f. record { counted = omega arith; table = omega arith; covered = omega arith; entries = omega arith; half = omega arith; blocks = omega arith; level = omega arith; all = omega arith })
    (λ n f. record { counted = omega arith; table = omega arith; covered = omega arith; entries = omega arith; half = omega arith; blocks = omega arith; level = omega arith; all = omega arith })
    (λ n f. record { counted = omega arith; table = omega arith; covered = omega arith; entries = omega arith; half = omega arith; blocks = omega arith; level = omega arith; all = omega arith })
    (λ n f. record { counted = omega arith; table = omega arith; covered = omega arith; entries = omega arith; half = omega arith; blocks = omega arith; level = omega arith; all = omega arith })
    (λ n f. record { counted = omega arith; table = omega arith; covered = omega arith; entries = omega arith; half = omega arith; blocks = omega arith; level = omega arith; all = omega arith })
    (λ n f. record { counted = omega arith; table = omega arith; covered = omega arith; entries = omega arith; half = omega arith; blocks = omega arith; level = omega arith; all = omega arith })
    (λ n f. record { counted = omega arith; table = omega arith; covered = omega arith; entries = omega arith; half = omega arith; blocks = omega arith; level = omega arith; all = omega arith })
    (λ n f. record { counted = omega arith; table = omega arith; covered = omega arith; entries = omega arith; half = omega arith; blocks = omega arith; level = omega arith; all = omega arith })
    (λ n f. record { counted = omega arith; table = omega arith; covered = omega arith; entries = omega arith; half = omega arith; blocks = omega arith; level = omega arith; all = omega arith })
    (λ n f. record { counted = omega arith; table = omega arith; covered = omega arith; entries = omega arith; half = omega arith; blocks = omega arith; level = omega arith; all = omega arith })
    (λ n f. record { counted = omega arith; table = omega arith; covered = omega arith; entries = omega arith; half = omega arith; blocks = omega arith; level = omega arith; all = omega arith })
    (λ n f. record { counted = omega arith; table = omega arith; covered = omega arith; entries = omega arith; half = omega arith; blocks = omega arith; level = omega arith; all = omega arith })
    (λ n f. record { counted = omega arith; table = omega arith; covered = omega arith; entries = omega arith; half = omega arith; blocks = omega arith; level = omega arith; all = omega arith })
    bits is.low is.high size is

pub no_wrap : (bits size : ℕ) → is_form bits size ≡ true → NoWrap ((1 * 2 ^ bits) % 2 ^ 64) size
no_wrap bits size is = let f = form_of bits size is in subst (λ (p : ℕ). NoWrap p size) (sym (shifted bits f.high)) (no_wrap_at bits size f)

-- ---- parts that cover a number

pub parts_low : (part n : ℕ) → 0 < part → n ≤ part * parts_of part n
parts_low part n some = omega arith

pub parts_high : (part n : ℕ) → 0 < part → part * parts_of part n < n + part
parts_high part n some = omega arith

with_itself : (c d n m : ℕ) → c ≡ d + 1 → m ≤ d * n → n + m ≤ n * c
with_itself c d n m is low = omega (arith, ap (λ (x : ℕ). n * x) is)

-- the blocks count each cluster
pub all_counted : (bits size : ℕ) → IsForm bits size → all_clusters bits size ≤ block_clusters bits size * counts_in bits
unfolding block_clusters l1_cluster all_clusters
all_counted bits size is =
    let cluster = cluster_of bits is.low is.high in
    let large = cluster.large in
    let counts = cluster.counts in
    let some : 0 < counts_in bits - 1 = omega arith in
    let n = parts_of (counts_in bits - 1) (1 + table_clusters bits size + l1_clusters bits size) in
    omega (arith, with_itself (counts_in bits) (counts_in bits - 1) n (1 + table_clusters bits size + l1_clusters bits size) (omega arith) (parts_low (counts_in bits - 1) (1 + table_clusters bits size + l1_clusters bits size) some))

-- the first level ends with the file
pub level_low : (bits size : ℕ) → IsForm bits size → 8 * l1_needed bits size ≤ 2 ^ bits * l1_clusters bits size
unfolding l1_clusters
level_low bits size is = let large = (cluster_of bits is.low is.high).large in parts_low (2 ^ bits) (8 * l1_needed bits size) (omega arith)

pub level_high : (bits size : ℕ) → IsForm bits size → 2 ^ bits * l1_clusters bits size < 8 * l1_needed bits size + 2 ^ bits
unfolding l1_clusters
level_high bits size is = let large = (cluster_of bits is.low is.high).large in parts_high (2 ^ bits) (8 * l1_needed bits size) (omega arith)

-- ---- the least

-- fewer parts don't cover it
fewer_parts : (part n m : ℕ) → 0 < part → m < parts_of part n → n ≤ part * m → ⊥
fewer_parts part n m some fewer enough = let next : m + 1 ≤ parts_of part n = omega arith in omega (arith, parts_high part n some, mul-le-mul_left part next)

pub table_least : (bits size : ℕ) → 9 ≤ bits → bits ≤ 21 → IsLeast (λ t. 2 * clusters_in bits size + 1024 ≤ t * words_in bits * counts_in bits) (table_clusters bits size)
unfolding table_clusters
table_least bits size low high =
    let cluster = cluster_of bits low high in
    let large = cluster.large in
    let words = cluster.words in
    let counts = cluster.counts in
    let w = words_in bits in
    let c = counts_in bits in
    let some : 0 < w * c = omega (arith, mul-le 64 256 w c (omega arith) (omega arith)) in
    let n = 2 * clusters_in bits size + 1024 in
    record {
      holds = omega (arith, parts_low (w * c) n some);
      least = λ m fewer enough. fewer_parts (w * c) n m some fewer (omega arith);
    }

-- blocks that count others, and themselves
least_blocks : (d n : ℕ) → 0 < d → IsLeast (λ b. n + b ≤ b * (d + 1)) (parts_of d n)
least_blocks d n some = record { holds = omega (arith, parts_low d n some); least = λ m fewer enough. fewer_parts d n m some fewer (omega arith) }

pub blocks_least : (bits size : ℕ) → 9 ≤ bits → bits ≤ 21 → IsLeast (λ b. 1 + table_clusters bits size + b + l1_clusters bits size ≤ b * counts_in bits) (block_clusters bits size)
unfolding block_clusters
blocks_least bits size low high =
    let cluster = cluster_of bits low high in
    let large = cluster.large in
    let counts = cluster.counts in
    let d = counts_in bits - 1 in
    let one : counts_in bits ≡ d + 1 = omega arith in
    let some : 0 < d = omega arith in
    let n = 1 + table_clusters bits size + l1_clusters bits size in
    let is = least_blocks d n some in
    record {
      holds = omega (arith, is.holds, ap (λ (x : ℕ). parts_of d n * x) one);
      least = λ m fewer enough. is.least m fewer (omega (arith, ap (λ (x : ℕ). m * x) one));
    }

-- the refcount table has a cluster at least
pub table_some : (bits size : ℕ) → IsForm bits size → 1 ≤ table_clusters bits size
table_some bits size is =
    let enough = (table_least bits size is.low is.high).holds in
    let t = table_clusters bits size in
    elim (cases_lt 0 t) [
      | inl some ↦ some
      | inr none ↦ absurd (omega (arith, mul-le t (words_in bits) 0 (words_in bits) none (omega arith), mul-le (t * words_in bits) (counts_in bits) 0 (counts_in bits) (omega (arith, mul-le t (words_in bits) 0 (words_in bits) none (omega arith))) (omega arith)))
    ]

-- ---- clusters of the disk

-- an entry of the first level stands for each cluster
pub index_small : (bits size n : ℕ) → 9 ≤ bits → bits ≤ 21 → n < clusters_in bits size → n / words_in bits < l1_needed bits size
unfolding words_in
index_small bits size n low high inside = by_bits (λ b. n < clusters_in b size → n / words_in b < l1_needed b size)
    (λ h. omega arith) (λ h. omega arith) (λ h. omega arith) (λ h. omega arith) (λ h. omega arith) (λ h. omega arith) (λ h. omega arith)
    (λ h. omega arith) (λ h. omega arith) (λ h. omega arith) (λ h. omega arith) (λ h. omega arith) (λ h. omega arith) bits low high inside

pub cluster_small : (bits size x : ℕ) → 9 ≤ bits → bits ≤ 21 → x < size → x / 2 ^ bits < clusters_in bits size
cluster_small bits size x low high inside = by_bits (λ b. x / 2 ^ b < clusters_in b size)
    (omega arith) (omega arith) (omega arith) (omega arith) (omega arith) (omega arith) (omega arith) (omega arith) (omega arith) (omega arith) (omega arith) (omega arith) (omega arith)
    bits low high
