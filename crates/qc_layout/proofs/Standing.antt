-- Bytes that stand in a file, and the numbers in them.
use Rattle.std.specs.Int.{w64, w32}
use Rattle.std.proofs.Common.{◌≡◌, ℕ, ◌+◌, ◌^◌, ◌<◌, ◌≤◌, List, [], ◌++◌, length, replicate, refl, sym, ap, ◌∙◌, subst, arith, length-append}
use Rattle.std.proofs.lemmas.List.{append-nil, get_or-replicate}
use Rattle.std.proofs.lemmas.Nat.{from_be_bytes-to_be_bytes_4, from_be_bytes-to_be_bytes_8}
use Rattle.disk_model.specs.Files.{reading, u32_at, u64_at}
use Rattle.disk_model.proofs.Laws.{reading-reading, reading-append, byte_past, number_read, number_same, number-past, number-reading}
use Rattle.qc_layout.specs.Spelling.{word32, word64}

-- these bytes stand here
pub record Stands (file : List ℕ) (place : ℕ) (bytes : List ℕ) : Type 0 where
  pub read : reading file place (length bytes) ≡ bytes

pub stands_at : {file : List ℕ} {p q : ℕ} {bytes : List ℕ} → p ≡ q → Stands file p bytes → Stands file q bytes
stands_at {file} {p} {q} {bytes} is s = subst (λ (k : ℕ). Stands file k bytes) is s

pub stands_as : {file : List ℕ} {p : ℕ} {a b : List ℕ} → a ≡ b → Stands file p a → Stands file p b
stands_as {file} {p} {a} {b} is s = subst (Stands file p) is s

-- the first of two parts
pub stands_left : {file : List ℕ} {p : ℕ} (a b : List ℕ) → Stands file p (a ++ b) → Stands file p a
stands_left {file} {p} a b s =
    let long = length-append a b in
    let same : p ≡ p + 0 = omega arith in
    record {
      read =
          ap (λ (k : ℕ). reading file k (length a)) same
          ∙ sym (reading-reading file p (length (a ++ b)) 0 (length a) (omega arith))
          ∙ ap (λ (l : List ℕ). reading l 0 (length a)) s.read
          ∙ reading-append [] a b 0 (length a) refl refl;
    }

-- the second
pub stands_right : {file : List ℕ} {p : ℕ} (a b : List ℕ) → Stands file p (a ++ b) → Stands file (p + length a) b
stands_right {file} {p} a b s =
    let long = length-append a b in
    let all : a ++ b ≡ a ++ b ++ [] = sym (append-nil (a ++ b)) in
    record {
      read =
          sym (reading-reading file p (length (a ++ b)) (length a) (length b) (omega arith))
          ∙ ap (λ (l : List ℕ). reading l (length a) (length b)) (s.read ∙ all)
          ∙ reading-append a b [] (length a) (length b) refl refl;
    }

-- a number of four bytes
pub stands_u32 : {file : List ℕ} {p : ℕ} (n : ℕ) → Stands file p (word32 n) → n < 2 ^ 32 → u32_at file p ≡ n
unfolding word32
stands_u32 {file} {p} n s small = number_read w32 file (word32 n) p s.read ∙ from_be_bytes-to_be_bytes_4 n small

-- of eight
pub stands_u64 : {file : List ℕ} {p : ℕ} (n : ℕ) → Stands file p (word64 n) → n < 2 ^ 64 → u64_at file p ≡ n
unfolding word64
stands_u64 {file} {p} n s small = number_read w64 file (word64 n) p s.read ∙ from_be_bytes-to_be_bytes_8 n small

-- one in front of others
pub first_u32 : {file : List ℕ} {p : ℕ} (n : ℕ) (rest : List ℕ) → Stands file p (word32 n ++ rest) → n < 2 ^ 32 → u32_at file p ≡ n
first_u32 {file} {p} n rest s small = stands_u32 n (stands_left (word32 n) rest s) small

pub first_u64 : {file : List ℕ} {p : ℕ} (n : ℕ) (rest : List ℕ) → Stands file p (word64 n ++ rest) → n < 2 ^ 64 → u64_at file p ≡ n
first_u64 {file} {p} n rest s small = stands_u64 n (stands_left (word64 n) rest s) small

-- and the others
pub past_u32 : {file : List ℕ} {p : ℕ} (n : ℕ) (rest : List ℕ) → Stands file p (word32 n ++ rest) → Stands file (p + 4) rest
unfolding word32
past_u32 {file} {p} n rest s = stands_right (word32 n) rest s

pub past_u64 : {file : List ℕ} {p : ℕ} (n : ℕ) (rest : List ℕ) → Stands file p (word64 n ++ rest) → Stands file (p + 8) rest
unfolding word64
past_u64 {file} {p} n rest s = stands_right (word64 n) rest s

-- a number in what stands here
pub inner_u32 : {file : List ℕ} {p : ℕ} {bytes : List ℕ} → Stands file p bytes → (i : ℕ) → i + 4 ≤ length bytes → u32_at bytes i ≡ u32_at file (p + i)
inner_u32 {file} {p} {bytes} s i inside = ap (λ (l : List ℕ). u32_at l i) (sym s.read) ∙ number-reading w32 file p (length bytes) i inside

-- four zeros are 0
pub zeros_u32 : (n : ℕ) → 4 ≤ n → u32_at (replicate n 0) 0 ≡ 0
zeros_u32 n some =
    number_same w32 (replicate n 0) [] 0 (λ i low high. get_or-replicate n i 0 0 (omega arith) ∙ sym (byte_past [] i (omega arith)))
    ∙ number-past w32 [] 0 (omega arith)
