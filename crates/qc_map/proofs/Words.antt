-- Words of a table that were read.
use Rattle.std.proofs.Common.{◌≡◌, ℕ, ◌+◌, ◌*◌, ◌<◌, ◌≤◌, List, refl, sym, ◌∙◌, ap, arith}
use Rattle.std.specs.Int.{w64}
use Rattle.disk_model.specs.Files.{byte, reading, u64_at}
use Rattle.disk_model.proofs.Laws.{number-reading}
use Rattle.image_model.specs.Clusters.{offset, pick}
use Rattle.image_steps.proofs.Places.{word_zero}
use Rattle.image_steps.proofs.Kept.{pick_some}
use Rattle.qc_map.specs.Mapping.{Mapping, shape_by}
use Rattle.qc_map.specs.Reading.{IsRow}

-- a word in bytes that were read
pub word_read : (file row : List ℕ) (at n m : ℕ) → row ≡ reading file at n → 8 * m + 8 ≤ n → u64_at row (8 * m) ≡ u64_at file (at + 8 * m)
word_read file row at n m is inside = ap (λ (bytes : List ℕ). u64_at bytes (8 * m)) is ∙ number-reading w64 file at n (8 * m) inside

pub word_cleared : (row : List ℕ) (n m : ℕ) → ((x : ℕ) → x < n → byte row x ≡ 0) → 8 * m + 8 ≤ n → u64_at row (8 * m) ≡ 0
word_cleared row n m none inside = word_zero row (8 * m) (λ i low high. none i (omega (arith, high, inside)))

-- and of the table that stands there
pub words_there : (file row : List ℕ) (table slot n : ℕ) → 0 < table → row ≡ reading file (table + 8 * slot) n → (m : ℕ) → 8 * m + 8 ≤ n → u64_at row (8 * m) ≡ pick table (u64_at file (table + 8 * (slot + m)))
words_there file row table slot n some is m inside =
    let same : table + 8 * slot + 8 * m ≡ table + 8 * (slot + m) = omega arith in
    word_read file row (table + 8 * slot) n m is inside ∙ ap (u64_at file) same ∙ sym (pick_some table (u64_at file (table + 8 * (slot + m))) some)

pub first_level_by : (m : Mapping) → (shape_by m).l1 ≡ m.first_level
unfolding shape_by
first_level_by m = refl

-- they are the guest's
pub is_row : (m : Mapping) (file row : List ℕ) (table i j n : ℕ) → table ≡ offset (u64_at file (m.first_level + 8 * i))
    → ((t : ℕ) → 8 * t + 8 ≤ 8 * n → u64_at row (8 * t) ≡ pick table (u64_at file (table + 8 * (j + t)))) → IsRow (shape_by m) file i j n row
is_row m file row table i j n at words = record {
  each = λ t t_in.
      let first : table ≡ offset (u64_at file ((shape_by m).l1 + 8 * i)) = at ∙ ap (λ (l : ℕ). offset (u64_at file (l + 8 * i))) (sym (first_level_by m)) in
      words t (omega (arith, t_in)) ∙ ap (λ (o : ℕ). pick o (u64_at file (o + 8 * (j + t)))) first;
}
