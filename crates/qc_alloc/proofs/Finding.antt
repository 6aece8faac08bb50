-- The words of a refcount table, as they are read.
use Rattle.std.proofs.Common.{◌≡◌, ◌≢◌, ℕ, ◌+◌, ◌-◌, ◌*◌, ◌<◌, ◌≤◌, ◌⊎◌, List, [], ◌∷◌, ◌++◌, length, take, drop, slice_index, inl, inr, Option, Result, Ok, Err, IfErr, IsTrue, sym, ap, subst, ◌∙◌, arith}
use Rattle.std.specs.Int.{from_be_bytes, w64}
use Rattle.std.specs.Result.{IsErrAnd}
use Rattle.std.proofs.lemmas.Grind.{common_steps}
use Rattle.std.proofs.lemmas.Bool.{cases_lt}
use Rattle.disk_model.specs.Files.{reading, u64_at}
use Rattle.disk_model.specs.World.{World, Runs, reads_of, IsQuiet}
use Rattle.disk_model.proofs.Laws.{number-reading, number_read, reading_inside}
use Rattle.qc_layout.specs.declared.faults.ImageFault.{ImageFault}
use Rattle.qc_alloc.specs.declared.tables.Layout.{Layout}
use Rattle.qc_alloc.specs.Tables.{IsBlock, AreBlocks, AreWords, IsBadNext, IsFirstBad}

-- the last block that is there, among the first n
pub record EndsAt (blocks : List ℕ) (n end : ℕ) : Type 0 where
  pub within : end ≤ n
  pub behind : (i : ℕ) → end ≤ i → i < n → slice_index blocks i ≡ 0
  pub last : 0 < end → slice_index blocks (end - 1) ≢ 0

-- ---- one more

pub at_push : (xs : List ℕ) (w i : ℕ) → i < length (xs ++ w ∷ []) → ((i < length xs) × (slice_index (xs ++ w ∷ []) i ≡ slice_index xs i)) ⊎ ((i ≡ length xs) × (slice_index (xs ++ w ∷ []) i ≡ w))
at_push xs w i below = elim (cases_lt i (length xs)) [
  | inl here ↦ inl (here, grind (arith, common_steps))
  | inr past ↦ inr (grind (arith, common_steps), grind (arith, common_steps))
]

pub blocks_push : (l : Layout) (xs : List ℕ) (w : ℕ) → AreBlocks l xs → IsBlock l w → AreBlocks l (xs ++ w ∷ [])
blocks_push l xs w are is i below = elim (at_push xs w i below) [
  | inl here ↦ subst (IsBlock l) (sym here.1) (are i here.0)
  | inr new ↦ subst (IsBlock l) (sym new.1) is
]

pub words_push : (l : Layout) (file xs : List ℕ) (w : ℕ) → AreWords l file xs → w ≡ u64_at file (l.table + 8 * length xs) → AreWords l file (xs ++ w ∷ [])
words_push l file xs w are is i below = elim (at_push xs w i below) [
  | inl here ↦ here.1 ∙ are i here.0
  | inr new ↦ new.1 ∙ (is ∙ ap (λ (n : ℕ). u64_at file (l.table + 8 * n)) (sym new.0))
]

-- the word that stands in bytes
pub word_inside : (bytes : List ℕ) (at : ℕ) → at + 8 ≤ length bytes → u64_at bytes at ≡ from_be_bytes w64 (take 8 (drop at bytes))
word_inside bytes at inside = number_read w64 bytes (take 8 (drop at bytes)) at (reading_inside bytes at 8 inside)

-- and of the table, behind those that are there
pub next_word : (l : Layout) (file bytes : List ℕ) (had n i : ℕ) → bytes ≡ reading file (l.table + 8 * had) (length bytes) → 8 * i + 8 ≤ length bytes → n ≡ had + i
    → u64_at bytes (8 * i) ≡ u64_at file (l.table + 8 * n)
next_word l file bytes had n i e inside is =
    let same : l.table + 8 * had + 8 * i ≡ l.table + 8 * n = omega arith in
    ap (λ (bs : List ℕ). u64_at bs (8 * i)) e ∙ (number-reading w64 file (l.table + 8 * had) (length bytes) (8 * i) inside ∙ ap (λ (at : ℕ). u64_at file at) same)

-- an error that is handed on
pub err_is : {T E : Type 0} (P : E → Type 0) (e : E) (result : Result T E) → IsErrAnd result (λ x. x ≡ e) → P e → IfErr result P
err_is P e (Ok value) none is = absurd none
err_is P e (Err x) same is = subst P (sym same) is

-- so much of the table was read
pub record HasRead (l : Layout) (f count : ℕ) (blocks : List ℕ) (a b : World) : Type 0 where
  pub run : Runs (reads_of f) a b
  pub quiet : IsQuiet a b
  pub few : length blocks ≤ count
  pub are : AreBlocks l blocks
  pub words : IsTrue a.tells → AreWords l (a.seen f) blocks

-- the entry behind blocks is the first bad one of all
pub first_bad : (l : Layout) (file blocks : List ℕ) (fault : Option ImageFault) → AreBlocks l blocks → AreWords l file blocks → IsBadNext l file blocks fault → IsFirstBad l file fault
first_bad l file blocks fault are words bad = record { i = length blocks; inside = bad.inside; before = λ j below. subst (IsBlock l) (words j below) (are j below); is = bad.is }
