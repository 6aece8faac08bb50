-- What a write within the guest's run leaves of the guest's disk.
use Rattle.std.proofs.Common.{◌≡◌, ◌⊎◌, inl, inr, ⊎_elim, ℕ, ◌+◌, ◌-◌, ◌*◌, ◌<◌, ◌≤◌, List, [], length, take, refl, sym, ap, subst, ◌∙◌, arith}
use Rattle.std.proofs.lemmas.Bool.{cases_lt}
use Rattle.std.proofs.Math.ListN.{drop_of_length-le}
use Rattle.disk_model.specs.Files.{byte, reading, overlay, IsTorn}
use Rattle.disk_model.proofs.Laws.{same_file, length-reading, byte-reading, length-overlay_inside, byte-overlay_below, byte-overlay_in, byte-overlay_above}
use Rattle.disk_model.proofs.Laws.{torn_elsewhere, whole_torn}
use Rattle.disk_model.proofs.Laws.{mixed_range}
use Rattle.disk_model.proofs.Laws.{reading-overlay_same}
use Rattle.plain_model.specs.Step.{sector}
use Rattle.plain_model.specs.Step as step
use Rattle.toy_image.specs.declared.numbers.Numbers.{Numbers}
use Rattle.toy_image.specs.Images.{disk_in}
use Rattle.toy_core.proofs.Outcomes.{sector_read}

-- the disk after it has in its range what the file reads there now
pub overlay_read : (base size at : ℕ) (bytes file after : List ℕ) → IsTorn (base + at) bytes file after → at + length bytes ≤ size
    → overlay (reading file base size) at (reading after (base + at) (length bytes)) ≡ reading after base size
overlay_read base size at bytes file after torn range =
    let disk = reading file base size in
    let left = reading after (base + at) (length bytes) in
    let wide = length-reading file base size in
    let short = length-reading after (base + at) (length bytes) in
    let full = length-reading after base size in
    let kept = length-overlay_inside disk at left (omega (arith, wide, short, range)) in
    same_file (overlay disk at left) (reading after base size) (omega (arith, kept, wide, full)) (λ i here.
    let below : i < size = omega (arith, here, kept, wide) in
    byte_is i below (cases_lt i at) (cases_lt i (at + length bytes)) ∙ sym (byte-reading after base size i below))
  where
    outside : (i : ℕ) → i < size → (base + i < base + at) ⊎ (base + at + length bytes ≤ base + i) → byte (reading file base size) i ≡ byte after (base + i)
    outside i below out = byte-reading file base size i below ∙ sym (torn_elsewhere (base + at) bytes file after (base + i) torn out)

    byte_is : (i : ℕ) → i < size → (i < at) ⊎ (at ≤ i) → (i < at + length bytes) ⊎ (at + length bytes ≤ i)
        → byte (overlay (reading file base size) at (reading after (base + at) (length bytes))) i ≡ byte after (base + i)
    byte_is i below (inl low) high = byte-overlay_below _ at _ i low ∙ outside i below (inl (omega (arith, low)))
    byte_is i below (inr low) (inr high) =
        byte-overlay_above (reading file base size) at (reading after (base + at) (length bytes)) i (let short = length-reading after (base + at) (length bytes) in omega (arith, short, high))
        ∙ outside i below (inr (omega (arith, high)))
    byte_is i below (inr low) (inl high) =
        byte-overlay_in (reading file base size) at (reading after (base + at) (length bytes)) i low (let short = length-reading after (base + at) (length bytes) in omega (arith, short, high))
        ∙ byte-reading after (base + at) (length bytes) (i - at) (omega (arith, low, high))
        ∙ (let same : base + at + (i - at) ≡ base + i = omega (arith, low) in ap (λ (x : ℕ). byte after x) same)

-- a write that succeeded makes the disk what it is with its bytes
pub read_overlay : (base size at : ℕ) (bytes file : List ℕ) → at + length bytes ≤ size → reading (overlay file (base + at) bytes) base size ≡ overlay (reading file base size) at bytes
read_overlay base size at bytes file range =
    sym (overlay_read base size at bytes file (overlay file (base + at) bytes) (whole_torn (base + at) bytes file) range)
    ∙ ap (λ (left : List ℕ). overlay (reading file base size) at left) (reading-overlay_same file (base + at) bytes (length bytes) refl)

-- past the end there is no sector
no_sector : (disk : List ℕ) (k n : ℕ) → length disk ≡ n * 512 → n ≤ k → sector disk k ≡ []
no_sector disk k n long past = ap (λ (rest : List ℕ). take 512 rest) (drop_of_length-le disk (omega (arith, long, past)))

-- each sector is as it was, or as the write would have made it
pub torn_disk : (t : Numbers) (first sectors at : ℕ) (bytes file after : List ℕ) → t.base ≡ first * 512 → t.size ≡ sectors * 512 → IsTorn (t.base + at) bytes file after → at + length bytes ≤ t.size → t.base + t.size ≤ length after
    → step.IsTorn (disk_in t file) at bytes (reading after (t.base + at) (length bytes))
torn_disk t first sectors at bytes file after base size torn range inside = record {
  long = length-reading after (t.base + at) (length bytes);
  sectors = λ k. subst (λ (disk : List ℕ). (sector disk k ≡ sector (disk_in t file) k) ⊎ (sector disk k ≡ sector (overlay (disk_in t file) at bytes) k))
      (sym (overlay_read t.base t.size at bytes file after torn range)) (by_place k (cases_lt k sectors));
}
  where
    by_place : (k : ℕ) → (k < sectors) ⊎ (sectors ≤ k) → (sector (disk_in t after) k ≡ sector (disk_in t file) k) ⊎ (sector (disk_in t after) k ≡ sector (overlay (disk_in t file) at bytes) k)
    by_place k (inr past) = inl (no_sector (disk_in t after) k sectors (length-reading after t.base t.size ∙ size) past ∙ sym (no_sector (disk_in t file) k sectors (length-reading file t.base t.size ∙ size) past))
    by_place k (inl below) = ⊎_elim
        (λ (same : reading after (t.base + 512 * k) 512 ≡ reading file (t.base + 512 * k) 512). inl (sector_read t after k sectors size below ∙ same ∙ sym (sector_read t file k sectors size below)))
        (λ (done : reading after (t.base + 512 * k) 512 ≡ reading (overlay file (t.base + at) bytes) (t.base + 512 * k) 512). inr (sector_read t after k sectors size below ∙ done ∙ sym (sector_read t (overlay file (t.base + at) bytes) k sectors size below)
        ∙ ap (λ (disk : List ℕ). sector disk k) (read_overlay t.base t.size at bytes file range)))
        (mixed_range file (overlay file (t.base + at) bytes) after (t.base + 512 * k) 512 (first + k) torn.sectors (omega (arith, base)) (omega (arith, base)) (omega (arith, inside, size, below)))
