-- Bytes of files that grow.
use Rattle.std.proofs.Common.{◌≡◌, inl, inr, ℕ, ◌+◌, ◌-◌, ◌<◌, List, ◌++◌, length, take, drop, replicate, sym, ◌∙◌, ap, arith, length-append}
use Rattle.std.proofs.lemmas.Bool.{cases_lt}
use Rattle.std.proofs.lemmas.List.{length-replicate}
use Rattle.std.proofs.lemmas.Grind.{common_steps}
use Rattle.disk_model.specs.Files.{byte, overlay}
use Rattle.disk_model.proofs.Bytes.{same_file, length-overlay, byte-overlay_below, byte-overlay_in, byte-overlay_above, overlay_inside}

-- zeros behind the end
pub byte_zeros : (old : List ℕ) (n i : ℕ) → byte (old ++ replicate n 0) i ≡ byte old i
byte_zeros old n i = grind (arith, common_steps)

overlay_zeros : (old : List ℕ) (at : ℕ) (bytes : List ℕ) → 0 < length bytes → overlay (old ++ replicate (at + length bytes - length old) 0) at bytes ≡ overlay old at bytes
overlay_zeros old at bytes some =
    let n = at + length bytes - length old in
    let more = old ++ replicate (at + length bytes - length old) 0 in
    let long = length-append old (replicate (at + length bytes - length old) 0) in
    let zeros = length-replicate {A = ℕ} (at + length bytes - length old) 0 in
    same_file (overlay more at bytes) (overlay old at bytes) (omega (arith, length-overlay more at bytes some, length-overlay old at bytes some, long, zeros))
    (λ i inside. elim (cases_lt i at) [
      | inl below ↦ byte-overlay_below more at bytes i below ∙ byte_zeros old n i ∙ sym (byte-overlay_below old at bytes i below)
      | inr low ↦ elim (cases_lt i (at + length bytes)) [
        | inl high ↦ byte-overlay_in more at bytes i low high ∙ sym (byte-overlay_in old at bytes i low high)
        | inr above ↦ byte-overlay_above more at bytes i above ∙ byte_zeros old n i ∙ sym (byte-overlay_above old at bytes i above)
      ]
    ])

-- as a program writes in place: zeros first, where the file is too short
pub written_over : (old more : List ℕ) (at : ℕ) (bytes : List ℕ) → 0 < length bytes → more ≡ old ++ replicate (at + length bytes - length old) 0 → take at more ++ bytes ++ drop (at + length bytes) more ≡ overlay old at bytes
written_over old more at bytes some is =
    let long : length more ≡ length old + (at + length bytes - length old) = omega (arith, ap length is, length-append old (replicate (at + length bytes - length old) 0), length-replicate {A = ℕ} (at + length bytes - length old) 0) in
    sym (overlay_inside more at bytes some (omega (arith, long))) ∙ ap (λ (l : List ℕ). overlay l at bytes) is ∙ overlay_zeros old at bytes some

-- a slice that was written whole
pub whole : (n : ℕ) (new old : List ℕ) → length new ≡ length old → n ≡ length old → take n (new ++ drop (length new) old) ≡ new
whole n new old long end = grind (arith, common_steps)

-- how long a file is where bytes are put over others
pub over_length : (more : List ℕ) (at : ℕ) (bytes old : List ℕ) → more ≡ old ++ replicate (at + length bytes - length old) 0 → length (take at more ++ bytes ++ drop (at + length bytes) more) ≡ length more
over_length more at bytes old is = grind (arith, common_steps)
