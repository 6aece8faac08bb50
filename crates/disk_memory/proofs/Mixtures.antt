-- Files mixed by sectors.
use Rattle.std.proofs.Common.{◌≡◌, ◌≢◌, ◌⊎◌, ⊎_elim, inl, inr, ℕ, ◌+◌, ◌-◌, ◌*◌, ◌/◌, ◌<◌, ◌≤◌, min, max, List, [], ◌∷◌, ◌++◌, length, take, drop, sym, ◌∙◌, ap, arith, add-zero, length-take}
use Rattle.std.proofs.lemmas.Bool.{cases_lt}
use Rattle.std.proofs.lemmas.List.{get_or-take, get_or-drop, take-append-drop, append-nil, nil_from_length, take_all}
use Rattle.std.proofs.lemmas.Grind.{common_steps}
use Rattle.disk_model.specs.Files.{byte, overlay, synced, SomeVersion, AgreesAt, after_write}
use Rattle.disk_model.proofs.Bytes.{same_file, byte_past, byte-overlay_below, byte-overlay_in, byte-overlay_above, overlay_inside, overlay_empty, overlay_no_shorter}
use Rattle.disk_memory.specs.Outcomes.{SameSector, IsMixture, IsPick}

-- ---- one sector

over : (old : List ℕ) (at : ℕ) (bytes : List ℕ) → at + length bytes ≤ length old → take at old ++ bytes ++ drop (at + length bytes) old ≡ overlay old at bytes
over old at bytes inside = elim (cases_lt 0 (length bytes)) [
  | inl some ↦ sym (overlay_inside old at bytes some (omega (arith, inside)))
  | inr none ↦
      let zero : length bytes ≡ 0 = omega arith in
      let empty : bytes ≡ [] = nil_from_length bytes zero in
      ap (λ (l : List ℕ). take at old ++ l ++ drop (at + length l) old) empty
      ∙ ap (λ (l : List ℕ). l ++ drop (at + 0) old) (append-nil (take at old))
      ∙ ap (λ (n : ℕ). take at old ++ drop n old) (add-zero at)
      ∙ take-append-drop at old ∙ sym (overlay_empty old at bytes zero)
]

module _ (mixed now new : List ℕ) (sector to : ℕ) (same : length now ≡ length mixed) (inside : 512 * sector ≤ length mixed) (end : to ≡ min (length now) (512 * sector + 512))
    (is : new ≡ take (512 * sector) mixed ++ take (to - 512 * sector) (drop (512 * sector) now) ++ drop (512 * sector + length (take (to - 512 * sector) (drop (512 * sector) now))) mixed) where
  abbrev from : ℕ
  from = 512 * sector

  abbrev part : List ℕ
  part = take (to - from) (drop from now)

  length-part : from + length part ≡ to
  length-part = grind (arith, common_steps)

  is_over : new ≡ overlay mixed from part
  is_over = is ∙ over mixed from part (omega (arith, length-part, end, same))

  pub copied_here : SameSector sector new now
  copied_here i low high = ap (λ (l : List ℕ). byte l i) is_over ∙ elim (cases_lt i to) [
    | inl below ↦
        let at : from + (i - from) ≡ i = omega arith in
        byte-overlay_in mixed from part i low (omega (arith, length-part, below))
        ∙ get_or-take (to - from) (drop from now) (i - from) 0 (omega arith)
        ∙ get_or-drop from now (i - from) 0
        ∙ ap (byte now) at
    | inr past ↦
        byte-overlay_above mixed from part i (omega (arith, length-part, past)) ∙ byte_past mixed i (omega (arith, past, end, same, high)) ∙ sym (byte_past now i (omega (arith, past, end, high)))
  ]

  pub copied_elsewhere : (k : ℕ) → k ≢ sector → SameSector k new mixed
  copied_elsewhere k apart i low high = ap (λ (l : List ℕ). byte l i) is_over ∙ elim (cases_lt i from) [
    | inl below ↦ byte-overlay_below mixed from part i below
    | inr above ↦ byte-overlay_above mixed from part i (omega (arith, length-part, end, above, low, high, apart))
  ]

-- ---- all sectors

pub same_sectors : (a b : List ℕ) → length a ≡ length b → ((k : ℕ) → k < length b / 512 + 1 → SameSector k a b) → a ≡ b
same_sectors a b long each = same_file a b long (λ i inside. each (i / 512) (omega arith) i (omega arith) (omega arith))

pub same_on : (k : ℕ) (a b c : List ℕ) → SameSector k a b → SameSector k b c → SameSector k a c
same_on k a b c first second i low high = grind (arith, common_steps)

pub either_on : (k : ℕ) (a b c d : List ℕ) → SameSector k a b → SameSector k b c ⊎ SameSector k b d → SameSector k a c ⊎ SameSector k a d
either_on k a b c d first second = grind (arith, common_steps)

-- ---- versions

some_map : (P Q : List ℕ → Type 0) (vs : List (List ℕ)) → ((v : List ℕ) → P v → Q v) → SomeVersion P vs → SomeVersion Q vs
some_map P Q [] f some = some
some_map P Q (v ∷ vs) f some = ⊎_elim (λ (here : P v). inl (f v here)) (λ (later : SomeVersion P vs). inr (some_map P Q vs f later)) some

-- a mixture of a file that was made longer by zeros
pub sectors_padded : (old longer new now : List ℕ) → ((i : ℕ) → byte longer i ≡ byte old i) → ((k : ℕ) → SameSector k new longer ⊎ SameSector k new now) → (k : ℕ) → SameSector k new old ⊎ SameSector k new now
sectors_padded old longer new now padded sectors k = ⊎_elim (λ (before : SameSector k new longer). inl (λ i low high. before i low high ∙ padded i)) (λ (after : SameSector k new now). inr after) (sectors k)

module _ (choice : ℕ) (at : ℕ) (bytes now old new mixed : List ℕ) (shortest : ℕ) (written : new ≡ overlay now at bytes) (long : length mixed ≡ length new)
    (sectors : (k : ℕ) → SameSector k mixed old ⊎ SameSector k mixed new) (none : choice ≡ 0 → (i : ℕ) → byte mixed i ≡ byte old i) (all : choice ≡ 1 → mixed ≡ new) where
  pub mixture_written : (versions : List (List ℕ)) → IsMixture choice versions now old shortest → IsMixture choice (after_write at bytes versions) new mixed shortest
  mixture_written [] was = absurd (omega (arith, was.some))
  mixture_written (v ∷ vs) was = record {
    some = omega arith;
    is_now = ap (λ (l : List ℕ). overlay l at bytes) was.is_now ∙ sym written;
    is_shortest = was.is_shortest;
    grows = omega (arith, was.grows, ap length written, overlay_no_shorter now at bytes);
    long = long;
    sectors = λ k. ⊎_elim
        (λ (before : SameSector k mixed old). inr (some_map (SameSector k old) (SameSector k mixed) (v ∷ vs) (λ u same i low high. before i low high ∙ same i low high) (was.sectors k)))
        (λ (after : SameSector k mixed new). inl (λ i low high. after i low high ∙ ap (λ (l : List ℕ). byte l i) (written ∙ ap (λ (l : List ℕ). overlay l at bytes) (sym was.is_now))))
        (sectors k);
    first = λ zero i. none zero i ∙ was.first zero i;
    last = all;
  }

-- a mixture cut to a length between is one that a crash may leave
pub pick_cut : (choice : ℕ) (versions : List (List ℕ)) (now mixed : List ℕ) (shortest n : ℕ) (file : List ℕ) → IsMixture choice versions now mixed shortest → file ≡ take n mixed → shortest ≤ n → n ≤ max (length now) shortest
    → (choice ≡ 0 → n ≡ shortest) → (choice ≡ 1 → n ≡ max (length now) shortest) → IsPick choice versions file
pick_cut choice versions now mixed shortest n file was is low high none all = record {
  outcome = record {
    no_shorter = omega (arith, long, low, was.is_shortest);
    no_longer = omega (arith, long, high, ap length was.is_now, was.grows);
    sectors = λ k. some_map (SameSector k mixed) (λ v. AgreesAt k file v) versions (λ v same i from to inside. here i (omega (arith, inside, long)) ∙ same i from to) (was.sectors k);
  };
  first = λ zero. same_file file (synced versions) (omega (arith, long, none zero, was.is_shortest)) (λ i inside. here i (omega (arith, inside, long)) ∙ was.first zero i);
  last = λ one. is ∙ take_all n mixed (omega (arith, all one, was.long)) ∙ was.last one ∙ sym was.is_now;
}
  where
    long : length file ≡ n
    long = omega (arith, ap length is, length-take n mixed, high, was.long, was.grows)

    here : (i : ℕ) → i < n → byte file i ≡ byte mixed i
    here i inside = ap (λ (l : List ℕ). byte l i) is ∙ get_or-take n mixed i 0 inside
