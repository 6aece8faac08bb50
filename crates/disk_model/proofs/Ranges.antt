-- What a range of a file reads in what a crash leaves.
use Rattle.std.proofs.Common.{◌≡◌, ◌⊎◌, inl, inr, ⊎_elim, ℕ, ◌<◌, ◌/◌, ◌%◌, ◌+◌, ◌*◌, ◌≤◌, List, [], ◌∷◌, length, refl, sym, ◌∙◌, ap, IsTrue, arith}
use Rattle.std.proofs.lemmas.Bool.{cases_lt}
use Rattle.std.specs.Int.{Width, byte_len}
use Rattle.disk_model.specs.Files.{byte, reading, number_at, SomeVersion, EachVersion, AgreesAt, IsOutcome, IsTorn, synced}
use Rattle.disk_model.specs.World.{World, HasWritten}
use Rattle.disk_model.proofs.Bytes.{length-overlay_inside, byte_past}
use Rattle.disk_model.proofs.Outcomes.{IsMixed, IsVersion, each_version, steady}
use Rattle.disk_model.proofs.Words.{reading_same, reading-overlay_same, number_as, in_sector}

-- ---- in some version

-- what has P in some version has what follows from it
pub some_more : (P Q : List ℕ → Type 0) (vs : List (List ℕ)) → ((v : List ℕ) → P v → Q v) → SomeVersion P vs → SomeVersion Q vs
some_more P Q [] more none = absurd none
some_more P Q (v ∷ vs) more (inl here) = inl (more v here)
some_more P Q (v ∷ vs) more (inr there) = inr (some_more P Q vs more there)

pub each_more : (P Q : List ℕ → Type 0) (vs : List (List ℕ)) → ((v : List ℕ) → P v → Q v) → EachVersion P vs → EachVersion Q vs
each_more P Q [] more none = tt
each_more P Q (v ∷ vs) more each = (more v each.0, each_more P Q vs more each.1)

-- what some version has, and what each version makes of that
pub some_each : (P R : List ℕ → Type 0) (Q : Type 0) (vs : List (List ℕ)) → ((v : List ℕ) → P v → R v → Q) → SomeVersion P vs → EachVersion R vs → Q
some_each P R Q [] both none each = absurd none
some_each P R Q (v ∷ vs) both (inl here) each = both v here each.0
some_each P R Q (v ∷ vs) both (inr there) each = some_each P R Q vs both there each.1

-- a range within a sector reads in each outcome as in some version
pub reading_of_version : (vs : List (List ℕ)) (c : List ℕ) (k at n : ℕ) → IsOutcome vs c → 512 * k ≤ at → at + n ≤ 512 * k + 512 → at + n ≤ length c → SomeVersion (λ v. reading c at n ≡ reading v at n) vs
reading_of_version vs c k at n left low high inside =
    some_more (AgreesAt k c) (λ v. reading c at n ≡ reading v at n) vs
    (λ v agrees. reading_same c v at n (λ i from to. agrees i (omega arith) (omega arith) (omega arith)))
    (left.sectors k)

-- ---- in each version

-- what it was at the last sync is one of the versions
pub synced_is_version : (v : List ℕ) (vs : List (List ℕ)) → IsVersion (synced (v ∷ vs)) (v ∷ vs)
synced_is_version v [] = inl refl
synced_is_version v (w ∷ vs) = inr (synced_is_version w vs)

-- what each version has, it had at the last sync
pub each_synced : (P : List ℕ → Type 0) (v : List ℕ) (vs : List (List ℕ)) → EachVersion P (v ∷ vs) → P (synced (v ∷ vs))
each_synced P v vs each = each_version P (synced (v ∷ vs)) (v ∷ vs) (synced_is_version v vs) each

-- a byte that is the same in each version is so in each outcome, past its end too
pub steady_byte : (vs : List (List ℕ)) (c : List ℕ) (i b : ℕ) → IsOutcome vs c → EachVersion (λ v. byte v i ≡ b) vs → byte c i ≡ b
steady_byte [] c i b left each = absurd (left.sectors 0)
steady_byte (v ∷ vs) c i b left each = elim (cases_lt i (length c)) [
  | inl inside ↦ steady (v ∷ vs) c i b left inside each
  | inr past ↦
      byte_past c i past
      ∙ sym (byte_past (synced (v ∷ vs)) i (omega (arith, left.no_shorter)))
      ∙ each_synced (λ w. byte w i ≡ b) v vs each
]

-- ---- where each sector is that of one file, or that of another

-- a byte is that of the one or the other
pub mixed_byte : (old latest new : List ℕ) (i : ℕ) → IsMixed old latest new → i < length new → (byte new i ≡ byte old i) ⊎ (byte new i ≡ byte latest i)
mixed_byte old latest new i mixed inside = ⊎_elim
    (λ (first : AgreesAt (i / 512) new old). inl (first i (omega arith) (omega arith) inside))
    (λ (second : AgreesAt (i / 512) new latest). inr (second i (omega arith) (omega arith) inside))
    (mixed (i / 512))

-- a range within a sector reads as in the one or the other
pub mixed_range : (old latest new : List ℕ) (at n k : ℕ) → IsMixed old latest new → 512 * k ≤ at → at + n ≤ 512 * k + 512 → at + n ≤ length new → (reading new at n ≡ reading old at n) ⊎ (reading new at n ≡ reading latest at n)
mixed_range old latest new at n k mixed low high inside = ⊎_elim
    (λ (first : AgreesAt k new old). inl (reading_same new old at n (λ i from to. first i (omega arith) (omega arith) (omega arith))))
    (λ (second : AgreesAt k new latest). inr (reading_same new latest at n (λ i from to. second i (omega arith) (omega arith) (omega arith))))
    (mixed k)

-- a number on a whole number of its bytes is that of the one or the other
pub mixed_number : (w : Width) (old latest new : List ℕ) (at : ℕ) → IsMixed old latest new → at % byte_len w ≡ 0 → at + byte_len w ≤ length new → (number_at w new at ≡ number_at w old at) ⊎ (number_at w new at ≡ number_at w latest at)
mixed_number w old latest new at mixed whole inside = ⊎_elim
    (λ (first : reading new at (byte_len w) ≡ reading old at (byte_len w)). inl (number_as w new old at at first))
    (λ (second : reading new at (byte_len w) ≡ reading latest at (byte_len w)). inr (number_as w new latest at at second))
    (mixed_range old latest new at (byte_len w) (at / 512) mixed (omega arith) (in_sector w at whole) inside)

-- a write that lies within the file keeps its length, torn or not
pub torn_length : (place : ℕ) (bytes old new : List ℕ) → IsTorn place bytes old new → place + length bytes ≤ length old → length new ≡ length old
torn_length place bytes old new torn inside = omega (arith, torn.no_shorter, torn.no_longer, length-overlay_inside old place bytes inside)

-- ---- in what reads give after a write

-- the range that a write wrote reads as its bytes
pub reading_written : {f place : ℕ} {bytes : List ℕ} {a b : World} (n : ℕ) → HasWritten f place bytes a b → IsTrue a.tells → n ≡ length bytes → reading (b.seen f) place n ≡ bytes
reading_written {f} {place} {bytes} {a} {b} n done told all = ap (λ (c : List ℕ). reading c place n) (done.seen told) ∙ reading-overlay_same (a.seen f) place bytes n all
