-- What a range of a file reads, and the numbers in it.
use Rattle.std.proofs.Common.{◌≡◌, ◌⊎◌, inl, inr, ⊎_elim, ℕ, zero, suc, ◌+◌, ◌*◌, ◌/◌, ◌%◌, ◌-◌, ◌^◌, ◌<◌, ◌≤◌, List, [], ◌∷◌, ◌++◌, length, take, drop, replicate, refl, sym, ◌∙◌, ap, arith, length-append, length-drop}
use Rattle.std.specs.Int.{Width, byte_len, from_be_bytes, to_be_bytes, w8, w16, w32, w64, w128}
use Rattle.std.proofs.lemmas.List.{take-append-le, take-replicate, drop_all, get_or_append_left, get_or-append_right}
use Rattle.std.proofs.lemmas.Nat.{from_be_bytes-to_be_bytes_2, from_be_bytes-to_be_bytes_4, from_be_bytes-to_be_bytes_8}
use Rattle.disk_model.specs.Files.{byte, reading, overlay, number_at, u16_at, u32_at, u64_at, IsTorn, AgreesAt}
use Rattle.disk_model.proofs.Bytes.{length-reading, byte-reading, same_file, is_reading, byte-overlay_in}
use Rattle.disk_model.proofs.Outcomes.{one_sector_write, torn_elsewhere, byte-overlay_outside}

-- ---- ranges

-- where each byte of a range is the same, the range reads the same
pub reading_same : (a b : List ℕ) (place n : ℕ) → ((i : ℕ) → place ≤ i → i < place + n → byte a i ≡ byte b i) → reading a place n ≡ reading b place n
reading_same a b place n each =
    same_file (reading a place n) (reading b place n) (length-reading a place n ∙ sym (length-reading b place n))
    (λ i inside. let low : i < n = omega (arith, length-reading a place n) in
    byte-reading a place n i low ∙ each (place + i) (omega arith) (omega arith) ∙ sym (byte-reading b place n i low))

-- a range within a file reads as the part of the list
pub reading_inside : (file : List ℕ) (place n : ℕ) → place + n ≤ length file → reading file place n ≡ take n (drop place file)
unfolding reading
reading_inside file place n inside = take-append-le n (drop place file) (replicate n 0) (omega (arith, length-drop place file))

-- a range past the end reads as zeros
pub reading_past : (file : List ℕ) (place n : ℕ) → length file ≤ place → reading file place n ≡ replicate n 0
unfolding reading
reading_past file place n past = ap (λ (l : List ℕ). take n (l ++ replicate n 0)) (drop_all place file past) ∙ take-replicate n n 0 (omega arith)

-- a whole file reads as itself
pub reading_all : (file : List ℕ) (n : ℕ) → n ≡ length file → reading file 0 n ≡ file
reading_all file n all = sym (is_reading file file 0 n (sym all) (λ i inside. let same : i ≡ 0 + i = omega arith in ap (byte file) same))

-- a part of what a read gave is what a read of that part gives
pub reading-reading : (file : List ℕ) (place n i m : ℕ) → i + m ≤ n → reading (reading file place n) i m ≡ reading file (place + i) m
reading-reading file place n i m inside =
    is_reading file (reading (reading file place n) i m) (place + i) m (length-reading (reading file place n) i m)
    (λ j low.
    let same : place + (i + j) ≡ place + i + j = omega arith in
    byte-reading (reading file place n) i m j low ∙ byte-reading file place n (i + j) (omega arith) ∙ ap (byte file) same)

-- a range apart from what a write wrote reads as before it
pub reading-overlay_other : (old : List ℕ) (place : ℕ) (bytes : List ℕ) (at n : ℕ) → (at + n ≤ place) ⊎ (place + length bytes ≤ at) → reading (overlay old place bytes) at n ≡ reading old at n
reading-overlay_other old place bytes at n apart =
    reading_same (overlay old place bytes) old at n (λ i low high. byte-overlay_outside old place bytes i (⊎_elim (λ before. inl (omega arith)) (λ behind. inr (omega arith)) apart))

-- so too where the write was torn
pub reading-torn : (place : ℕ) (bytes old new : List ℕ) (at n : ℕ) → IsTorn place bytes old new → (at + n ≤ place) ⊎ (place + length bytes ≤ at) → reading new at n ≡ reading old at n
reading-torn place bytes old new at n torn apart =
    reading_same new old at n (λ i low high. torn_elsewhere place bytes old new i torn (⊎_elim (λ before. inl (omega arith)) (λ behind. inr (omega arith)) apart))

-- a range of what a write wrote reads as that part of its bytes
pub reading-overlay_part : (old : List ℕ) (place : ℕ) (bytes : List ℕ) (at n : ℕ) → at + n ≤ length bytes → reading (overlay old place bytes) (place + at) n ≡ reading bytes at n
reading-overlay_part old place bytes at n inside =
    is_reading bytes (reading (overlay old place bytes) (place + at) n) at n (length-reading (overlay old place bytes) (place + at) n)
    (λ i low.
    let same : place + at + i - place ≡ at + i = omega arith in
    byte-reading (overlay old place bytes) (place + at) n i low ∙ byte-overlay_in old place bytes (place + at + i) (omega arith) (omega arith) ∙ ap (byte bytes) same)

-- and the whole of it as its bytes
pub reading-overlay_same : (old : List ℕ) (place : ℕ) (bytes : List ℕ) (n : ℕ) → n ≡ length bytes → reading (overlay old place bytes) place n ≡ bytes
reading-overlay_same old place bytes n all =
    let same : place ≡ place + 0 = omega arith in
    ap (λ (p : ℕ). reading (overlay old place bytes) p n) same ∙ reading-overlay_part old place bytes 0 n (omega arith) ∙ reading_all bytes n all

-- a part of a list that is put together
pub reading-append : (before bytes after : List ℕ) (at n : ℕ) → length before ≡ at → length bytes ≡ n → reading (before ++ bytes ++ after) at n ≡ bytes
reading-append before bytes after at n start long =
    sym (is_reading (before ++ bytes ++ after) bytes at n long (λ i low. sym (
    get_or_append_left (before ++ bytes) after 0 (at + i) (omega (arith, length-append before bytes))
    ∙ get_or-append_right before bytes at (at + i) 0 start (omega arith)
    ∙ (let same : at + i - at ≡ i = omega arith in ap (byte bytes) same)
    )))

-- the bytes of a short range, one by one
pub reading_2 : (file : List ℕ) (at : ℕ) → reading file at 2 ≡ byte file at ∷ byte file (at + 1) ∷ []
reading_2 file at = sym (is_reading file (byte file at ∷ byte file (at + 1) ∷ []) at 2 refl each)
  where
    each : (i : ℕ) → i < 2 → byte (byte file at ∷ byte file (at + 1) ∷ []) i ≡ byte file (at + i)
    each zero low = let same : at ≡ at + 0 = omega arith in ap (byte file) same
    each (suc zero) low = refl
    each (suc (suc i)) low = absurd (omega arith)

pub reading_4 : (file : List ℕ) (at : ℕ) → reading file at 4 ≡ byte file at ∷ byte file (at + 1) ∷ byte file (at + 2) ∷ byte file (at + 3) ∷ []
reading_4 file at = sym (is_reading file (byte file at ∷ byte file (at + 1) ∷ byte file (at + 2) ∷ byte file (at + 3) ∷ []) at 4 refl each)
  where
    each : (i : ℕ) → i < 4 → byte (byte file at ∷ byte file (at + 1) ∷ byte file (at + 2) ∷ byte file (at + 3) ∷ []) i ≡ byte file (at + i)
    each zero low = let same : at ≡ at + 0 = omega arith in ap (byte file) same
    each (suc zero) low = refl
    each (suc (suc zero)) low = refl
    each (suc (suc (suc zero))) low = refl
    each (suc (suc (suc (suc i)))) low = absurd (omega arith)

pub reading_8 : (file : List ℕ) (at : ℕ) → reading file at 8 ≡ byte file at ∷ byte file (at + 1) ∷ byte file (at + 2) ∷ byte file (at + 3) ∷ byte file (at + 4) ∷ byte file (at + 5) ∷ byte file (at + 6) ∷ byte file (at + 7) ∷ []
reading_8 file at = sym (is_reading file (byte file at ∷ byte file (at + 1) ∷ byte file (at + 2) ∷ byte file (at + 3) ∷ byte file (at + 4) ∷ byte file (at + 5) ∷ byte file (at + 6) ∷ byte file (at + 7) ∷ []) at 8 refl each)
  where
    each : (i : ℕ) → i < 8 → byte (byte file at ∷ byte file (at + 1) ∷ byte file (at + 2) ∷ byte file (at + 3) ∷ byte file (at + 4) ∷ byte file (at + 5) ∷ byte file (at + 6) ∷ byte file (at + 7) ∷ []) i ≡ byte file (at + i)
    each zero low = let same : at ≡ at + 0 = omega arith in ap (byte file) same
    each (suc zero) low = refl
    each (suc (suc zero)) low = refl
    each (suc (suc (suc zero))) low = refl
    each (suc (suc (suc (suc zero)))) low = refl
    each (suc (suc (suc (suc (suc zero))))) low = refl
    each (suc (suc (suc (suc (suc (suc zero)))))) low = refl
    each (suc (suc (suc (suc (suc (suc (suc zero))))))) low = refl
    each (suc (suc (suc (suc (suc (suc (suc (suc i)))))))) low = absurd (omega arith)

-- a range within a sector is as before a write that was torn, or as the write made it
pub reading_either : (place : ℕ) (bytes old new : List ℕ) (at n k : ℕ) → IsTorn place bytes old new → 512 * k ≤ at → at + n ≤ 512 * k + 512 → at + n ≤ length new
    → (reading new at n ≡ reading old at n) ⊎ (reading new at n ≡ reading (overlay old place bytes) at n)
reading_either place bytes old new at n k torn low high inside =
    ⊎_elim
    (λ (same : AgreesAt k new old). inl (reading_same new old at n (λ i from to. same i (omega arith) (omega arith) (omega arith))))
    (λ (done : AgreesAt k new (overlay old place bytes)). inr (reading_same new (overlay old place bytes) at n (λ i from to. done i (omega arith) (omega arith) (omega arith))))
    (torn.sectors k)

-- eight bytes on a whole number of eight, within the file, are written or not
pub word_write : (place : ℕ) (bytes old new : List ℕ) → IsTorn place bytes old new → length bytes ≡ 8 → place % 8 ≡ 0 → place + 8 ≤ length old → (new ≡ old) ⊎ (new ≡ overlay old place bytes)
word_write place bytes old new torn eight whole inside = one_sector_write place bytes old new (place / 512) torn (omega arith) (omega arith) (omega arith)

-- ---- numbers over a width

-- the same bytes are the same number
pub number_same : (w : Width) (a b : List ℕ) (place : ℕ) → ((i : ℕ) → place ≤ i → i < place + byte_len w → byte a i ≡ byte b i) → number_at w a place ≡ number_at w b place
unfolding number_at
number_same w a b place each = ap (λ (bs : List ℕ). from_be_bytes w bs) (reading_same a b place (byte_len w) each)

-- the number of what a range reads
pub number_read : (w : Width) (file bytes : List ℕ) (place : ℕ) → reading file place (byte_len w) ≡ bytes → number_at w file place ≡ from_be_bytes w bytes
unfolding number_at
number_read w file bytes place is = ap (λ (bs : List ℕ). from_be_bytes w bs) is

-- ranges that read the same have the same number
pub number_as : (w : Width) (a b : List ℕ) (at place : ℕ) → reading a at (byte_len w) ≡ reading b place (byte_len w) → number_at w a at ≡ number_at w b place
unfolding number_at
number_as w a b at place is = ap (λ (bs : List ℕ). from_be_bytes w bs) is

-- past its end
pub number-past : (w : Width) (file : List ℕ) (at : ℕ) → length file ≤ at → number_at w file at ≡ 0
number-past w file at past = number_read w file (replicate (byte_len w) 0) at (reading_past file at (byte_len w) past) ∙ zeros w
  where
    zeros : (w : Width) → from_be_bytes w (replicate (byte_len w) 0) ≡ 0
    zeros w8 = refl
    zeros w16 = refl
    zeros w32 = refl
    zeros w64 = refl
    zeros w128 = refl

-- in what a read gave
pub number-reading : (w : Width) (file : List ℕ) (place n at : ℕ) → at + byte_len w ≤ n → number_at w (reading file place n) at ≡ number_at w file (place + at)
number-reading w file place n at inside = number_as w (reading file place n) file at (place + at) (reading-reading file place n at (byte_len w) inside)

-- apart from what a torn write wrote
pub number-torn : (w : Width) (place : ℕ) (bytes old new : List ℕ) (at : ℕ) → IsTorn place bytes old new → (at + byte_len w ≤ place) ⊎ (place + length bytes ≤ at) → number_at w new at ≡ number_at w old at
number-torn w place bytes old new at torn apart = number_as w new old at at (reading-torn place bytes old new at (byte_len w) torn apart)

-- within what a write wrote
pub number-overlay_part : (w : Width) (old : List ℕ) (place : ℕ) (bytes : List ℕ) (at : ℕ) → at + byte_len w ≤ length bytes → number_at w (overlay old place bytes) (place + at) ≡ number_at w bytes at
number-overlay_part w old place bytes at inside = number_as w (overlay old place bytes) bytes (place + at) at (reading-overlay_part old place bytes at (byte_len w) inside)

-- where a write wrote as many bytes
pub number-overlay_same : (w : Width) (old : List ℕ) (place : ℕ) (bytes : List ℕ) → length bytes ≡ byte_len w → number_at w (overlay old place bytes) place ≡ from_be_bytes w bytes
number-overlay_same w old place bytes long = number_read w (overlay old place bytes) bytes place (reading-overlay_same old place bytes (byte_len w) (sym long))

-- a number fits in a width of at most eight bytes
abbrev pub FitsIn : Width → ℕ → Type 0
FitsIn w8 v = v < 2 ^ 8
FitsIn w16 v = v < 2 ^ 16
FitsIn w32 v = v < 2 ^ 32
FitsIn w64 v = v < 2 ^ 64
FitsIn w128 v = ⊥

-- its bytes give it back
pub number_back : (w : Width) (v : ℕ) → FitsIn w v → from_be_bytes w (to_be_bytes w v) ≡ v
number_back w8 v fits = omega arith
number_back w16 v fits = from_be_bytes-to_be_bytes_2 v fits
number_back w32 v fits = from_be_bytes-to_be_bytes_4 v fits
number_back w64 v fits = from_be_bytes-to_be_bytes_8 v fits
number_back w128 v fits = absurd fits

pub length-to_be_bytes : (w : Width) (v : ℕ) → length (to_be_bytes w v) ≡ byte_len w
length-to_be_bytes w8 v = refl
length-to_be_bytes w16 v = refl
length-to_be_bytes w32 v = refl
length-to_be_bytes w64 v = refl
length-to_be_bytes w128 v = refl

-- where a write wrote a number
pub number-overlay_number : (w : Width) (old : List ℕ) (place v : ℕ) → FitsIn w v → number_at w (overlay old place (to_be_bytes w v)) place ≡ v
number-overlay_number w old place v fits = number-overlay_same w old place (to_be_bytes w v) (length-to_be_bytes w v) ∙ number_back w v fits

-- where a number stands in a list that is put together
pub number-append : (w : Width) (before after : List ℕ) (at v : ℕ) → length before ≡ at → FitsIn w v → number_at w (before ++ to_be_bytes w v ++ after) at ≡ v
number-append w before after at v start fits =
    number_read w (before ++ to_be_bytes w v ++ after) (to_be_bytes w v) at (reading-append before (to_be_bytes w v) after at (byte_len w) start (length-to_be_bytes w v)) ∙ number_back w v fits

-- of its bytes one by one
pub u16_bytes : (file : List ℕ) (at : ℕ) → u16_at file at ≡ from_be_bytes w16 (byte file at ∷ byte file (at + 1) ∷ [])
u16_bytes file at = number_read w16 file (byte file at ∷ byte file (at + 1) ∷ []) at (reading_2 file at)

pub u32_bytes : (file : List ℕ) (at : ℕ) → u32_at file at ≡ from_be_bytes w32 (byte file at ∷ byte file (at + 1) ∷ byte file (at + 2) ∷ byte file (at + 3) ∷ [])
u32_bytes file at = number_read w32 file (byte file at ∷ byte file (at + 1) ∷ byte file (at + 2) ∷ byte file (at + 3) ∷ []) at (reading_4 file at)

pub u64_bytes : (file : List ℕ) (at : ℕ) → u64_at file at ≡ from_be_bytes w64 (byte file at ∷ byte file (at + 1) ∷ byte file (at + 2) ∷ byte file (at + 3) ∷ byte file (at + 4) ∷ byte file (at + 5) ∷ byte file (at + 6) ∷ byte file (at + 7) ∷ [])
u64_bytes file at = number_read w64 file (byte file at ∷ byte file (at + 1) ∷ byte file (at + 2) ∷ byte file (at + 3) ∷ byte file (at + 4) ∷ byte file (at + 5) ∷ byte file (at + 6) ∷ byte file (at + 7) ∷ []) at (reading_8 file at)

-- a number on a whole number of its bytes lies within a sector
pub in_sector : (w : Width) (at : ℕ) → at % byte_len w ≡ 0 → at + byte_len w ≤ 512 * (at / 512) + 512
in_sector w8 at whole = omega arith
in_sector w16 at whole = omega arith
in_sector w32 at whole = omega arith
in_sector w64 at whole = omega arith
in_sector w128 at whole = omega arith

-- there it is as before a write that was torn, or as the write made it
pub number_either : (w : Width) (place : ℕ) (bytes old new : List ℕ) (at : ℕ) → IsTorn place bytes old new → at % byte_len w ≡ 0 → at + byte_len w ≤ length new
    → (number_at w new at ≡ number_at w old at) ⊎ (number_at w new at ≡ number_at w (overlay old place bytes) at)
number_either w place bytes old new at torn whole inside =
    ⊎_elim
    (λ (same : reading new at (byte_len w) ≡ reading old at (byte_len w)). inl (number_as w new old at at same))
    (λ (done : reading new at (byte_len w) ≡ reading (overlay old place bytes) at (byte_len w)). inr (number_as w new (overlay old place bytes) at at done))
    (reading_either place bytes old new at (byte_len w) (at / 512) torn (omega arith) (in_sector w at whole) inside)
