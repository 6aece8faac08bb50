-- A new file in memory: what each step puts into it, and its tables once all is done.
use Rattle.std.proofs.Common.{◌≡◌, ◌⊎◌, inl, inr, ⊎_elim, ℕ, ◌+◌, ◌*◌, ◌^◌, ◌<◌, ◌≤◌, List, [], ◌++◌, length, take, drop, replicate, refl, sym, ap, ◌∙◌, arith}
use Rattle.std.specs.Prelude.{nat_lt, if◌then◌else◌}
use Rattle.std.specs.Int.{to_be_bytes, w16, w64}
use Rattle.std.proofs.lemmas.List.{get_or-replicate, length-replicate}
use Rattle.std.proofs.lemmas.Bool.{cases_lt, cond_below, cond_above}
use Rattle.std.proofs.lemmas.Nat.{mul-le}
use Rattle.disk_model.specs.Files.{byte, reading, overlay, u16_at, u64_at}
use Rattle.disk_model.proofs.Laws.{byte-overlay_outside, byte_past, length-overlay_inside, overlay_inside, reading_same, reading-overlay_same}
use Rattle.disk_model.proofs.Words.{number_same, number-past, number-overlay_number}
use Rattle.qc_layout.specs.Disks.{words_in, counts_in, place_of}
use Rattle.backup_file.specs.Layout.{table_clusters, l1_clusters, block_clusters, l1_cluster, all_clusters}
use Rattle.backup_file.specs.declared.layout.Plan.{Plan}
use Rattle.backup_file.specs.Plans.{IsPlan, KeepsOthers, PutsWords, PutsOnes, IsLaidOut}
use Rattle.backup_file.proofs.Sizes.{IsForm, IsCluster, IsShort, form_of, cluster_of, short_of, all_counted}

-- ---- one step

-- bytes that were put over others
pub put_over : {bytes new : List ℕ} (at : ℕ) (old put : List ℕ) → new ≡ take at old ++ bytes ++ drop (at + length bytes) old → bytes ≡ put → 0 < length put → at + length put ≤ length old → new ≡ overlay old at put
put_over {bytes} {new} at old put is same some room =
    is ∙ ap (λ (l : List ℕ). take at old ++ l ++ drop (at + length l) old) same ∙ sym (overlay_inside old at put some (omega arith))

keeps_on : {from mid_end end : ℕ} {a b c : List ℕ} (at : ℕ) (bytes : List ℕ) → KeepsOthers from mid_end a b → c ≡ overlay b at bytes → from ≤ at → mid_end ≤ end → at + length bytes ≤ end → end ≤ length b → KeepsOthers from end a c
keeps_on {from} {mid_end} {end} {a} {b} {c} at bytes keeps is low grows high room = record {
  long = ap length is ∙ length-overlay_inside b at bytes (omega arith) ∙ keeps.long;
  same = λ i apart.
      ap (λ (l : List ℕ). byte l i) is
      ∙ byte-overlay_outside b at bytes i (⊎_elim (λ (before : i < from). inl (omega arith)) (λ (behind : end ≤ i). inr (omega arith)) apart)
      ∙ keeps.same i (⊎_elim (λ (before : i < from). inl before) (λ (behind : end ≤ i). inr (omega arith)) apart);
}

keeps_none : (from end : ℕ) (a : List ℕ) → KeepsOthers from end a a
keeps_none from end a = record { long = refl; same = λ i apart. refl }

pub words_none : (from first step : ℕ) (a : List ℕ) → PutsWords from 0 first step a a
words_none from first step a = record { words = λ k none. absurd (omega arith); others = keeps_none from (from + 8 * 0) a }

pub ones_none : (from : ℕ) (a : List ℕ) → PutsOnes from 0 a a
ones_none from a = record { ones = λ k none. absurd (omega arith); others = keeps_none from (from + 2 * 0) a }

pub words_step : (from i first step : ℕ) (old mid new : List ℕ) → PutsWords from i first step old mid → new ≡ overlay mid (from + 8 * i) (to_be_bytes w64 (first + step * i)) → first + step * i < 2 ^ 64 → from + 8 * i + 8 ≤ length mid
    → PutsWords from (i + 1) first step old new
words_step from i first step old mid new puts is small room = record {
  words = λ k low. ap (λ (l : List ℕ). u64_at l (from + 8 * k)) is ∙ elim (cases_lt k i) [
    | inl before ↦
        number_same w64 (overlay mid (from + 8 * i) (to_be_bytes w64 (first + step * i))) mid (from + 8 * k)
        (λ j above below. byte-overlay_outside mid (from + 8 * i) (to_be_bytes w64 (first + step * i)) j (inl (omega arith)))
        ∙ puts.words k before
    | inr here ↦
        let same : k ≡ i = omega arith in
        ap (λ (n : ℕ). u64_at (overlay mid (from + 8 * i) (to_be_bytes w64 (first + step * i))) (from + 8 * n)) same
        ∙ number-overlay_number w64 mid (from + 8 * i) (first + step * i) small
        ∙ ap (λ (n : ℕ). first + step * n) (sym same)
  ];
  others = keeps_on (from + 8 * i) (to_be_bytes w64 (first + step * i)) puts.others is (omega arith) (omega arith) (omega arith) (omega arith);
}

pub ones_step : (from i : ℕ) (old mid new : List ℕ) → PutsOnes from i old mid → new ≡ overlay mid (from + 2 * i) (to_be_bytes w16 1) → from + 2 * i + 2 ≤ length mid → PutsOnes from (i + 1) old new
ones_step from i old mid new puts is room = record {
  ones = λ k low. ap (λ (l : List ℕ). u16_at l (from + 2 * k)) is ∙ elim (cases_lt k i) [
    | inl before ↦
        number_same w16 (overlay mid (from + 2 * i) (to_be_bytes w16 1)) mid (from + 2 * k)
        (λ j above below. byte-overlay_outside mid (from + 2 * i) (to_be_bytes w16 1) j (inl (omega arith)))
        ∙ puts.ones k before
    | inr here ↦
        let same : k ≡ i = omega arith in
        ap (λ (n : ℕ). u16_at (overlay mid (from + 2 * i) (to_be_bytes w16 1)) (from + 2 * n)) same
        ∙ number-overlay_number w16 mid (from + 2 * i) 1 (omega arith)
  ];
  others = keeps_on (from + 2 * i) (to_be_bytes w16 1) puts.others is (omega arith) (omega arith) (omega arith) (omega arith);
}

-- ---- all steps

-- a number of eight bytes, and of two, apart from what was put
u64_kept : {from end : ℕ} {a b : List ℕ} (at : ℕ) → KeepsOthers from end a b → (at + 8 ≤ from) ⊎ (end ≤ at) → u64_at b at ≡ u64_at a at
u64_kept {from} {end} {a} {b} at keeps apart = number_same w64 b a at (λ i low high. keeps.same i (⊎_elim (λ (before : at + 8 ≤ from). inl (omega arith)) (λ (behind : end ≤ at). inr (omega arith)) apart))

u16_kept : {from end : ℕ} {a b : List ℕ} (at : ℕ) → KeepsOthers from end a b → (at + 2 ≤ from) ⊎ (end ≤ at) → u16_at b at ≡ u16_at a at
u16_kept {from} {end} {a} {b} at keeps apart = number_same w16 b a at (λ i low high. keeps.same i (⊎_elim (λ (before : at + 2 ≤ from). inl (omega arith)) (λ (behind : end ≤ at). inr (omega arith)) apart))

-- zeros
pub byte-zeros : (n i : ℕ) → byte (replicate n 0) i ≡ 0
byte-zeros n i = elim (cases_lt i n) [
  | inl inside ↦ get_or-replicate n i 0 0 inside
  | inr past ↦ byte_past (replicate n 0) i (omega (arith, length-replicate {A = ℕ} n 0))
]

-- zeros behind a first sector
u64-zeros : (n at : ℕ) (sector : List ℕ) → length sector ≡ 512 → 512 ≤ at → u64_at (overlay (replicate n 0) 0 sector) at ≡ 0
u64-zeros n at sector long behind =
    number_same w64 (overlay (replicate n 0) 0 sector) [] at (λ i low high. byte-overlay_outside (replicate n 0) 0 sector i (inr (omega arith)) ∙ byte-zeros n i ∙ sym (byte_past [] i (omega arith)))
    ∙ number-past w64 [] at (omega arith)

u16-zeros : (n at : ℕ) (sector : List ℕ) → length sector ≡ 512 → 512 ≤ at → u16_at (overlay (replicate n 0) 0 sector) at ≡ 0
u16-zeros n at sector long behind =
    number_same w16 (overlay (replicate n 0) 0 sector) [] at (λ i low high. byte-overlay_outside (replicate n 0) 0 sector i (inr (omega arith)) ∙ byte-zeros n i ∙ sym (byte_past [] i (omega arith)))
    ∙ number-past w16 [] at (omega arith)

-- there is room for each part of a file of so many clusters, of p bytes each
pub record HasRoom (p table blocks clusters : ℕ) : Type 0 where
  pub table_small : table < 2 ^ 26
  pub small : p * clusters ≤ 2 ^ 26
  pub sector : 512 ≤ p * clusters
  pub words : p + 8 * blocks ≤ p * clusters
  pub counts : p * (1 + table) + p * blocks ≤ p * clusters
  pub ones : p * (1 + table) + 2 * clusters ≤ p * clusters

module _ (bits size : ℕ) (form : IsForm bits size) where
  cluster : IsCluster bits
  cluster = cluster_of bits form.low form.high

  short : IsShort bits size
  short = short_of bits size form

  abbrev table : ℕ
  table = table_clusters bits size

  abbrev blocks : ℕ
  blocks = block_clusters bits size

  abbrev level : ℕ
  level = l1_clusters bits size

  abbrev all : ℕ
  all = all_clusters bits size

  -- the end
  end_at : all ≡ 1 + table + blocks + level
  unfolding all_clusters l1_cluster
  end_at = refl

  end_bytes : 2 ^ bits * all ≡ 2 ^ bits * (1 + table + blocks + level)
  end_bytes = ap (λ (x : ℕ). 2 ^ bits * x) end_at

  -- bytes of the refcount table, and of its blocks
  table_bytes : 8 * (table * words_in bits) ≡ 2 ^ bits * table
  table_bytes = omega (arith, ap (λ (x : ℕ). table * x) cluster.words)

  block_bytes : 2 * (blocks * counts_in bits) ≡ 2 ^ bits * blocks
  block_bytes = omega (arith, ap (λ (x : ℕ). blocks * x) cluster.counts)

  -- the words end before the counts begin, and these before the first level does
  words_end : 2 ^ bits + 8 * blocks ≤ 2 ^ bits * (1 + table)
  words_end = omega (arith, short.blocks, table_bytes)

  counts_end : 2 ^ bits * (1 + table) + 2 * all ≤ 2 ^ bits * (1 + table + blocks)
  counts_end = omega (arith, all_counted bits size form, block_bytes)

  pub has_room : HasRoom (2 ^ bits) table blocks all
  has_room = record {
    table_small = omega (arith, short.whole, end_bytes, mul-le 1 (1 + table) (2 ^ bits) (1 + table) (omega (arith, cluster.large)) (omega arith));
    small = short.whole;
    sector = omega (arith, end_bytes, cluster.large);
    words = omega (arith, words_end, end_bytes);
    counts = omega (arith, end_bytes);
    ones = omega (arith, counts_end, end_bytes);
  }

  module _ (sector a b c : List ℕ) (long : length sector ≡ 512) (zeros : a ≡ overlay (replicate (2 ^ bits * all) 0) 0 sector)
      (words : PutsWords (2 ^ bits) blocks (2 ^ bits * (1 + table)) (2 ^ bits) a b) (ones : PutsOnes (2 ^ bits * (1 + table)) all b c) where
    is_long : length c ≡ 2 ^ bits * all
    is_long =
        let room : 512 ≤ 2 ^ bits * all = omega (arith, end_bytes, cluster.large) in
        ones.others.long ∙ words.others.long ∙ ap length zeros ∙ length-overlay_inside (replicate (2 ^ bits * all) 0) 0 sector (omega (arith, length-replicate {A = ℕ} (2 ^ bits * all) 0)) ∙ length-replicate {A = ℕ} (2 ^ bits * all) 0

    word_at : (i : ℕ) → i < table * words_in bits → u64_at c (2 ^ bits + 8 * i) ≡ if nat_lt i blocks then 2 ^ bits * (1 + table + i) else 0
    word_at i low =
        u64_kept (2 ^ bits + 8 * i) ones.others (inl (omega (arith, table_bytes))) ∙ elim (cases_lt i blocks) [
          | inl here ↦
              (let same : 2 ^ bits * (1 + table) + 2 ^ bits * i ≡ 2 ^ bits * (1 + table + i) = omega arith in words.words i here ∙ same ∙ cond_below i blocks (2 ^ bits * (1 + table + i)) 0 here)
          | inr past ↦ nothing (2 ^ bits + 8 * i) (inr (omega arith)) (omega (arith, cluster.large)) ∙ cond_above i blocks (2 ^ bits * (1 + table + i)) 0 0 past refl
        ]
      where
        nothing : (at : ℕ) → (at + 8 ≤ 2 ^ bits) ⊎ (2 ^ bits + 8 * blocks ≤ at) → 512 ≤ at → u64_at b at ≡ 0
        nothing at apart behind = u64_kept at words.others apart ∙ ap (λ (l : List ℕ). u64_at l at) zeros ∙ u64-zeros (2 ^ bits * all) at sector long behind

    count_at : (k : ℕ) → u16_at c (2 ^ bits * (1 + table) + 2 * k) ≡ if nat_lt k all then 1 else 0
    count_at k = elim (cases_lt k all) [
      | inl here ↦ ones.ones k here ∙ cond_below k all 1 0 here
      | inr past ↦ nothing (2 ^ bits * (1 + table) + 2 * k) (omega arith) ∙ cond_above k all 1 0 0 past refl
    ]
      where
        nothing : (at : ℕ) → 2 ^ bits * (1 + table) + 2 * all ≤ at → u16_at c at ≡ 0
        nothing at behind =
            u16_kept at ones.others (inr behind)
            ∙ u16_kept at words.others (inr (omega (arith, words_end)))
            ∙ ap (λ (l : List ℕ). u16_at l at) zeros
            ∙ u16-zeros (2 ^ bits * all) at sector long (omega (arith, cluster.large))

    level_word : (i : ℕ) → u64_at c (2 ^ bits * (1 + table + blocks) + 8 * i) ≡ 0
    level_word i =
        let at = 2 ^ bits * (1 + table + blocks) + 8 * i in
        u64_kept at ones.others (inr (omega (arith, counts_end)))
        ∙ u64_kept at words.others (inr (omega (arith, words_end)))
        ∙ ap (λ (l : List ℕ). u64_at l at) zeros
        ∙ u64-zeros (2 ^ bits * all) at sector long (omega (arith, cluster.large))

    -- no byte is set of the rest of the header's cluster, nor from the first level on
    rest_byte : (i : ℕ) → 512 ≤ i → (i < 2 ^ bits) ⊎ (2 ^ bits * (1 + table + blocks) ≤ i) → byte c i ≡ 0
    rest_byte i behind apart =
        ones.others.same i (⊎_elim (λ (low : i < 2 ^ bits). inl (omega (arith, words_end))) (λ (high : 2 ^ bits * (1 + table + blocks) ≤ i). inr (omega (arith, counts_end))) apart)
        ∙ words.others.same i (⊎_elim (λ (low : i < 2 ^ bits). inl low) (λ (high : 2 ^ bits * (1 + table + blocks) ≤ i). inr (omega (arith, words_end, counts_end))) apart)
        ∙ ap (λ (l : List ℕ). byte l i) zeros
        ∙ byte-overlay_outside (replicate (2 ^ bits * all) 0) 0 sector i (inr (omega arith))
        ∙ byte-zeros (2 ^ bits * all) i

    -- the first sector is as it was
    first_sector : reading c 0 512 ≡ sector
    first_sector =
        reading_same c (overlay (replicate (2 ^ bits * all) 0) 0 sector) 0 512
        (λ i low high. ones.others.same i (inl (omega (arith, cluster.large))) ∙ words.others.same i (inl (omega (arith, cluster.large))) ∙ ap (λ (l : List ℕ). byte l i) zeros)
        ∙ reading-overlay_same (replicate (2 ^ bits * all) 0) 0 sector 512 (sym long)

    pub laid_out : IsLaidOut bits size sector c
    unfolding place_of l1_cluster
    laid_out = record {
      first = first_sector;
      tables = record {
        long = is_long;
        blocks = λ i low. (let same : 2 ^ bits * 1 + 8 * i ≡ 2 ^ bits + 8 * i = omega arith in ap (λ (at : ℕ). u64_at c at) same ∙ word_at i low);
        counts = λ k low. count_at k;
        l1 = λ i low. level_word i;
        rest = λ i behind apart. rest_byte i behind (⊎_elim (λ (low : i < 2 ^ bits * 1). inl (omega arith)) (λ (high : 2 ^ bits * (1 + table + blocks) ≤ i). inr high) apart);
      };
    }

-- by the numbers of a plan
pub room_of : (plan : Plan) → IsPlan plan → HasRoom plan.cluster plan.table plan.blocks plan.clusters
room_of plan is = rw (is.cluster, is.table, is.blocks, is.clusters) (has_room plan.cluster_bits plan.size (form_of plan.cluster_bits plan.size is.form))

pub is_filled : (plan : Plan) (sector zeros a b c : List ℕ) → IsPlan plan → length sector ≡ 512 → zeros ≡ replicate (plan.cluster * plan.clusters) 0 → a ≡ overlay zeros 0 sector
    → PutsWords plan.cluster plan.blocks (plan.cluster * (1 + plan.table)) plan.cluster a b → PutsOnes (plan.cluster * (1 + plan.table)) plan.clusters b c → IsLaidOut plan.cluster_bits plan.size sector c
is_filled plan sector zeros a b c is long none first words ones =
    let blank : zeros ≡ replicate (2 ^ plan.cluster_bits * all_clusters plan.cluster_bits plan.size) 0 = rw (is.cluster, is.clusters) at none in
    laid_out plan.cluster_bits plan.size (form_of plan.cluster_bits plan.size is.form) sector a b c long
    (first ∙ ap (λ (l : List ℕ). overlay l 0 sector) blank)
    (rw (is.cluster, is.table, is.blocks) at words)
    (rw (is.cluster, is.table, is.clusters) at ones)

-- where the first level begins
pub level_small : (plan : Plan) → IsPlan plan → plan.cluster * plan.first_level ≤ 2 ^ 26
unfolding l1_cluster
level_small plan is =
    let bits = plan.cluster_bits in
    let room = has_room bits plan.size (form_of bits plan.size is.form) in
    let low : 2 ^ bits * l1_cluster bits plan.size ≤ 2 ^ 26 = omega (arith, room.counts, room.small) in
    rw (is.cluster, is.first_level) low
