-- Where clusters lie, and a file that changed in a range alone.
use Rattle.std.proofs.Common.{◌≡◌, ◌≢◌, ◌⊎◌, inl, inr, ⊎_elim, ℕ, ◌+◌, ◌*◌, ◌/◌, ◌%◌, ◌<◌, ◌≤◌, max, List, length, replicate, refl, sym, ◌∙◌, ap, arith}
use Rattle.std.proofs.lemmas.Bool.{cases_eq, cases_lt}
use Rattle.std.proofs.lemmas.List.{get_or-replicate}
use Rattle.std.proofs.Math.Nat.{mul-le-mul_left, div-add-mod, mod-lt}
use Rattle.std.specs.Int.{w64, w16}
use Rattle.disk_model.specs.Files.{byte, reading, u16_at, u64_at, IsTorn}
use Rattle.disk_model.proofs.Laws.{torn_elsewhere, length-overlay, number_same, number_read, length-reading, byte-reading, same_file}
use Rattle.image_model.specs.Clusters.{Shape, size, place, offset, Meets, Who, Use, Of, SameIn}

pub place_step : (s : Shape) (k q : ℕ) → k < q → place s k + size s ≤ place s q
unfolding place
place_step s k q less =
    let more : s.sectors * (k + 1) ≤ s.sectors * q = mul-le-mul_left s.sectors (omega arith) in
    omega (arith, more)

pub place_next : (s : Shape) (k : ℕ) → place s (k + 1) ≡ place s k + size s
unfolding place
place_next s k = omega arith

pub place_more : (s : Shape) (k q : ℕ) → k ≤ q → place s k ≤ place s q
unfolding place
place_more s k q less =
    let more : s.sectors * k ≤ s.sectors * q = mul-le-mul_left s.sectors less in
    omega (arith, more)

pub place_zero : (s : Shape) → place s 0 ≡ 0
unfolding place
place_zero s = omega arith

pub place_apart : (s : Shape) (k q : ℕ) → k ≢ q → (place s k + size s ≤ place s q) ⊎ (place s q + size s ≤ place s k)
place_apart s k q differ = elim (cases_lt k q) [
  | inl less ↦ inl (place_step s k q less)
  | inr more ↦ inr (place_step s q k (omega (arith, more, differ)))
]

pub place_same : (s : Shape) (k q : ℕ) → 0 < s.sectors → place s k ≡ place s q → k ≡ q
place_same s k q some same = elim (cases_eq k q) [
  | inl is ↦ is
  | inr differ ↦ ⊎_elim (λ low. absurd (omega arith)) (λ high. absurd (omega arith)) (place_apart s k q differ)
]

pub place_some : (s : Shape) (k : ℕ) → 0 < s.sectors → 0 < k → 0 < place s k
place_some s k some more = ⊎_elim (λ low. omega (arith, low)) (λ high. omega (arith, high, place_zero s)) (place_apart s 0 k (omega arith))

-- a byte lies in a cluster
pub record InCluster (s : Shape) (b : ℕ) : Type 0 where
  pub cluster : ℕ
  pub low : place s cluster ≤ b
  pub high : b < place s cluster + size s

pub cluster_of : (s : Shape) → 0 < s.sectors → (b : ℕ) → InCluster s b
unfolding place
cluster_of s some b =
    let whole = div-add-mod b (512 * s.sectors) in
    let less : b % (512 * s.sectors) < 512 * s.sectors = mod-lt b (omega arith) in
    record { cluster = b / (512 * s.sectors); low = omega (arith, whole); high = omega (arith, whole, less) }

-- the sector of a guest's sector
pub sector_at : (s : Shape) (k o : ℕ) → place s k + 512 * o ≡ 512 * (s.sectors * k + o)
unfolding place
sector_at s k o = omega arith

-- ---- words

pub word_zero : (file : List ℕ) (at : ℕ) → ((i : ℕ) → at ≤ i → i < at + 8 → byte file i ≡ 0) → u64_at file at ≡ 0
word_zero file at zeros =
    number_read w64 file (replicate 8 0) at (same_file (reading file at 8) (replicate 8 0) (length-reading file at 8)
    (λ i inside.
    let low : i < 8 = omega (arith, length-reading file at 8) in
    byte-reading file at 8 i low ∙ zeros (at + i) (omega arith) (omega arith) ∙ sym (get_or-replicate 8 i 0 0 low)))

pub offset_none : offset 0 ≡ 0
unfolding offset
offset_none = refl

-- ---- a file that changed in a range alone

pub record Spares (from n : ℕ) (old new : List ℕ) : Type 0 where
  pub longer : length old ≤ length new
  pub bytes : (i : ℕ) → (i < from) ⊎ (from + n ≤ i) → byte new i ≡ byte old i

pub torn_spares : (at : ℕ) (bytes old new : List ℕ) → IsTorn at bytes old new → Spares at (length bytes) old new
torn_spares at bytes old new torn = record { longer = torn.no_shorter; bytes = λ i out. torn_elsewhere at bytes old new i torn out }

-- the file ends no later than it did, or with the write
pub torn_ends : (at : ℕ) (bytes old new : List ℕ) → 0 < length bytes → IsTorn at bytes old new → length new ≤ max (length old) (at + length bytes)
torn_ends at bytes old new some torn = omega (arith, torn.no_longer, length-overlay old at bytes some)

pub spares_more : (from n low m : ℕ) (old new : List ℕ) → low ≤ from → from + n ≤ low + m → Spares from n old new → Spares low m old new
spares_more from n low m old new less more spares = record {
  longer = spares.longer;
  bytes = λ i out. spares.bytes i (⊎_elim (λ below. inl (omega arith)) (λ above. inr (omega arith)) out);
}

pub word_spared : (from n : ℕ) (old new : List ℕ) (at : ℕ) → Spares from n old new → (at + 8 ≤ from) ⊎ (from + n ≤ at) → u64_at new at ≡ u64_at old at
word_spared from n old new at spares apart =
    number_same w64 new old at (λ i low high. spares.bytes i (⊎_elim (λ before. inl (omega arith)) (λ behind. inr (omega arith)) apart))

pub half_spared : (from n : ℕ) (old new : List ℕ) (at : ℕ) → Spares from n old new → (at + 2 ≤ from) ⊎ (from + n ≤ at) → u16_at new at ≡ u16_at old at
half_spared from n old new at spares apart =
    number_same w16 new old at (λ i low high. spares.bytes i (⊎_elim (λ before. inl (omega arith)) (λ behind. inr (omega arith)) apart))

pub spared_cluster : (s : Shape) (k : ℕ) (old new : List ℕ) → Spares (place s k) (size s) old new → (q : ℕ) → q ≢ k → SameIn s q old new
spared_cluster s k old new spares q differ i low high = spares.bytes i (⊎_elim (λ before. inl (omega arith)) (λ behind. inr (omega arith)) (place_apart s q k differ))

-- ---- a file whose clusters changed in one role alone

pub record Elsewhere (s : Shape) (role : ℕ → Use) (u : Use) (old new : List ℕ) : Type 0 where
  pub longer : length old ≤ length new
  pub same : (q : ℕ) → role q ≢ u → SameIn s q old new

-- a write within a cluster
pub within : (s : Shape) (role : ℕ → Use) (u : Use) (k : ℕ) (old new : List ℕ) → role k ≡ u → Spares (place s k) (size s) old new → Elsewhere s role u old new
within s role u k old new is spares = record { longer = spares.longer; same = λ q differ. spared_cluster s k old new spares q (λ same. differ (ap role same ∙ is)) }

-- a write of entry i0 of a table of words
pub in_row : (s : Shape) (role : ℕ → Use) (who : Who) (from n i0 : ℕ) (old new : List ℕ) → i0 < n → ((k : ℕ) → Meets s k from (8 * n) → role k ≡ Of who) → Spares (from + 8 * i0) 8 old new → Elsewhere s role (Of who) old new
in_row s role who from n i0 old new inside meets spares = record {
  longer = spares.longer;
  same = λ q differ i low high. spares.bytes i (elim (cases_lt from (place s q + size s)) [
    | inr behind ↦ inl (omega arith)
    | inl front ↦ elim (cases_lt (place s q) (from + 8 * n)) [
      | inr before ↦ inr (omega arith)
      | inl there ↦ absurd (differ (meets q (front, there)))
    ]
  ]);
}
