-- Bytes that are read one after the other.
use Rattle.std.proofs.Common.{◌≡◌, inl, inr, ℕ, ◌+◌, ◌-◌, List, [], ◌∷◌, ◌++◌, refl, sym, ap, ◌∙◌, arith, append_assoc, length-append}
use Rattle.std.proofs.lemmas.List.{append-nil, get_or_append_left, get_or-append_right}
use Rattle.std.proofs.lemmas.Bool.{cases_lt}
use Rattle.disk_model.specs.Files.{byte, reading}
use Rattle.disk_model.proofs.Laws.{is_reading, length-reading, byte-reading}

-- no bytes
pub reading_none : (file : List ℕ) (from : ℕ) → reading file from 0 ≡ []
reading_none file from = sym (is_reading file [] from 0 refl (λ i low. absurd (omega arith)))

-- one more
pub reading_more : (file : List ℕ) (from i : ℕ) → reading file from (i + 1) ≡ reading file from i ++ byte file (from + i) ∷ []
reading_more file from i =
    sym (is_reading file (reading file from i ++ byte file (from + i) ∷ []) from (i + 1)
    (omega (arith, length-append (reading file from i) (byte file (from + i) ∷ []), length-reading file from i))
    (λ j low. elim (cases_lt j i) [
      | inl inside ↦ get_or_append_left (reading file from i) (byte file (from + i) ∷ []) 0 j (omega (arith, length-reading file from i)) ∙ byte-reading file from i j inside
      | inr past ↦ let same : j ≡ i = omega arith in
          get_or-append_right (reading file from i) (byte file (from + i) ∷ []) i j 0 (length-reading file from i) past
          ∙ (let none : j - i ≡ 0 = omega arith in ap (λ (k : ℕ). byte (byte file (from + i) ∷ []) k) none)
          ∙ ap (λ (k : ℕ). byte file (from + k)) (sym same)
    ]))

-- added to what was there before
pub added_none : (file before : List ℕ) (from : ℕ) → before ≡ before ++ reading file from 0
added_none file before from = sym (ap (λ (l : List ℕ). before ++ l) (reading_none file from) ∙ append-nil before)

pub added_more : (file before now : List ℕ) (from i : ℕ) → now ≡ before ++ reading file from i → now ++ byte file (from + i) ∷ [] ≡ before ++ reading file from (i + 1)
added_more file before now from i is =
    ap (λ (l : List ℕ). l ++ byte file (from + i) ∷ []) is
    ∙ append_assoc before (reading file from i) (byte file (from + i) ∷ [])
    ∙ ap (λ (l : List ℕ). before ++ l) (sym (reading_more file from i))
