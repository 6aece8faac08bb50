-- The directory of bitmaps: what is found of it, and that its bitmaps are in shape.
use Rattle.std.proofs.lemmas.Grind.{common_steps}
use Rattle.std.proofs.Common.{rules, ◌≡◌, ℕ, zero, suc, ◌+◌, ◌*◌, ◌^◌, ◌<◌, ◌≤◌, List, [], ◌∷◌, ◌++◌, Bool, true, false, Option, Some, None, refl, ap, ◌∙◌, arith}
use Rattle.std.specs.Prelude.{bytes_eq, ◌==◌, length, replicate, map, is_some, if◌then◌else◌, All}
use Rattle.std.specs.List.{list_any}
use Rattle.std.specs.Int.{is_power_of_two}
use Rattle.std.proofs.lemmas.List.Folds.{list_any-append}
use Rattle.std.proofs.lemmas.List.Elements.{All-nil, All-cons}
use Rattle.std.specs.Int.Count.{ones}
use Rattle.std.proofs.lemmas.Nat.{ones_cat, pow_pos}
use Rattle.std.proofs.Math.Pow.{pow_mono}
use Rattle.std.proofs.lemmas.List.{length-replicate}
use Rattle.bitmap_model.specs.Granules.{IsShaped, set_of}
use Rattle.bitmap_model.proofs.Sets.{length-set_of}
use Rattle.bitmap_model.specs.Bitmap.{restored}
use Rattle.bitmap_model.specs.Bitmaps.{is_name, is_named, AreApart, IsShapedEntry, AreShapedEntries}
use Rattle.qc_layout.specs.Header.{fields_of}
use Rattle.qc_layout.specs.declared.extension.Extension.{Extension}
use Rattle.qc_layout.specs.declared.header.DirPlace.{DirPlace}
use Rattle.qc_layout.specs.Extensions.{AreExtensions, behind}
use Rattle.qc_layout.specs.Spelling.{AreIn}
use Rattle.qc_layout.specs.Directory.{extensions_from, extensions_in, directory_in, listed_in, stored_in, directory_fault, ListedBitmap, granules_of, granularity_of, is_dirty_in, head_fault, first_refused, RefusedEntry, stored_entry, stored_from, listed_from, listed_under, head_at, entry_length, fault_under}
use Rattle.qc_layout.specs.Owners.{Held, Holds}
use Rattle.qc_layout.specs.Laws.{StoredIsShaped, FindsAsSpelled, StoresNothing}

-- the extensions that are found are those that stand there, where enough are looked for
found_from : (n : ℕ) (file : List ℕ) (end from : ℕ) (es : List Extension) → AreExtensions file end from es → end < from + 8 * n + 8
    → extensions_from n file end from ≡ es
found_from zero file end from [] are enough = refl
found_from (suc n) file end from [] are enough = grind (arith, common_steps)
found_from zero file end from (e ∷ es) are enough = grind (arith, common_steps)
found_from (suc n) file end from (e ∷ es) are enough =
    let rest : extensions_from n file end (behind e) ≡ es = found_from n file end (behind e) es are.1 (omega (arith, are.0.place)) in
    grind (arith, common_steps)

pub found_in : (file : List ℕ) (es : List Extension) → AreIn file es → extensions_in file ≡ es
unfolding extensions_in
found_in file es are = search (rules, found_from)

pub finds_as_spelled : FindsAsSpelled
finds_as_spelled part file h spelled = search (rules, found_in)

-- ---- an image without a directory

nobody_holds : (file : List ℕ) (held : Held) (k : ℕ) → directory_in file ≡ None → Holds file (listed_in file) held k → ⊥
nobody_holds file held k none holds = grind (arith, common_steps)

pub stores_nothing : (file : List ℕ) → directory_in file ≡ None → StoresNothing file
unfolding stored_in directory_fault
stores_nothing file none = record {
  stored = search rules;
  faultless = search rules;
  held = λ held k. nobody_holds file held k none;
}

-- ---- what is stored is in shape

-- a power of two is one
power_is : (n : ℕ) → is_power_of_two (2 ^ n) ≡ true
unfolding ones
power_is n =
    let one : 2 ^ n ≡ 1 * 2 ^ n + 0 = omega arith in
    ap is_power_of_two one ∙ ap (λ (c : ℕ). c == 1) (ones_cat n 1 0 (pow_pos n))

-- the entry passes the rules on its numbers and its name, where these stand before it
record PassesHead (file : List ℕ) (before : List ListedBitmap) (b : ListedBitmap) : Type 0 where
  low : 9 ≤ b.head.granularity_bits
  high : b.head.granularity_bits ≤ 31
  few : granules_of (fields_of file).size b ≤ 2 ^ 27
  named : is_name b.name ≡ true
  apart : list_any (λ (other : ListedBitmap). bytes_eq other.name b.name) before ≡ false

passes_head : (file : List ℕ) (before : List ListedBitmap) (b : ListedBitmap) → head_fault file before b ≡ None → PassesHead file before b
passes_head file before b none = grind (arith, common_steps)

abbrev PassHeads : List ℕ → List ListedBitmap → List ListedBitmap → Type 0
PassHeads file before [] = Unit {0}
PassHeads file before (b ∷ bs) = PassesHead file before b × PassHeads file (before ++ b ∷ []) bs

pass_heads : (file : List ℕ) (before bs : List ListedBitmap) → first_refused (head_fault file) before bs ≡ None → PassHeads file before bs
pass_heads file before [] none = tt
pass_heads file before (b ∷ bs) none =
    let rest = pass_heads file (before ++ b ∷ []) bs in
    grind (arith, common_steps, passes_head)

-- of any entry the name and the disk's size are those that it has in the image
entry_named : (file : List ℕ) (i : ℕ) (b : ListedBitmap) → (restored (stored_entry file i b)).name ≡ b.name
entry_named file i b = grind (arith, common_steps)

-- a set of granules for this disk is in shape
bits_shaped : (file : List ℕ) (before : List ListedBitmap) (b : ListedBitmap) (set : List Bool) → PassesHead file before b
    → length set ≡ granules_of (fields_of file).size b
    → IsShaped (record { size = (fields_of file).size; granularity = granularity_of b; set = set })
bits_shaped file before b set passes long =
    let power = power_is b.head.granularity_bits in
    let low : 2 ^ 9 ≤ granularity_of b = pow_mono passes.low in
    let high : granularity_of b ≤ 2 ^ 31 = pow_mono passes.high in
    let few = passes.few in
    grind (arith, common_steps)

entry_shaped : (file : List ℕ) (i : ℕ) (before : List ListedBitmap) (b : ListedBitmap) → PassesHead file before b
    → IsShapedEntry (fields_of file).size (stored_entry file i b)
entry_shaped file i before b passes =
    let n = granules_of (fields_of file).size b in
    let trusted = bits_shaped file before b (set_of n (is_dirty_in file b)) passes (length-set_of n (is_dirty_in file b)) in
    let untrusted = bits_shaped file before b (replicate n false) passes (length-replicate {A = Bool} n false) in
    grind (arith, common_steps)

stored_shapes : (file : List ℕ) (i : ℕ) (before bs : List ListedBitmap) → PassHeads file before bs
    → All (IsShapedEntry (fields_of file).size) (stored_from file i bs)
stored_shapes file i before [] passes = All-nil (IsShapedEntry (fields_of file).size)
stored_shapes file i before (b ∷ bs) passes =
    All-cons (IsShapedEntry (fields_of file).size) (stored_entry file i b) (stored_from file (i + 1) bs) (entry_shaped file i before b passes.0)
    (stored_shapes file (i + 1) (before ++ b ∷ []) bs passes.1)

-- a name that none of these has differs from this one
abbrev IsAmong : List ℕ → List ListedBitmap → Type 0
IsAmong name before = (other : List ℕ) → list_any (λ (b : ListedBitmap). bytes_eq b.name other) before ≡ false → bytes_eq name other ≡ false

among_last : (before : List ListedBitmap) (b : ListedBitmap) → IsAmong b.name (before ++ b ∷ [])
among_last before b other none = grind (arith, common_steps, list_any-append)

among_more : (name : List ℕ) (before : List ListedBitmap) (b : ListedBitmap) → IsAmong name before → IsAmong name (before ++ b ∷ [])
among_more name before b among other none = grind (arith, common_steps, list_any-append)

no_other : (file name : List ℕ) (i : ℕ) (before bs : List ListedBitmap) → IsAmong name before → PassHeads file before bs
    → list_any (is_named name) (map restored (stored_from file i bs)) ≡ false
no_other file name i before [] among passes = refl
no_other file name i before (b ∷ bs) among passes =
    let rest = no_other file name (i + 1) (before ++ b ∷ []) bs (among_more name before b among) passes.1 in
    let differs = among b.name passes.0.apart in
    let named = entry_named file i b in
    grind (arith, common_steps)

stored_apart : (file : List ℕ) (i : ℕ) (before bs : List ListedBitmap) → PassHeads file before bs → AreApart (map restored (stored_from file i bs))
stored_apart file i before [] passes = tt
stored_apart file i before (b ∷ bs) passes =
    let alone = no_other file b.name (i + 1) (before ++ b ∷ []) bs (among_last before b) passes.1 in
    let rest = stored_apart file (i + 1) (before ++ b ∷ []) bs passes.1 in
    (rw (entry_named file i b) alone, rest)

length-listed : (n : ℕ) (file : List ℕ) (from i : ℕ) → length (stored_from file i (listed_from n file from)) ≡ n
length-listed zero file from i = refl
length-listed (suc n) file from i = ap suc (length-listed n file (from + entry_length (head_at file from)) (i + 1))

nothing_shaped : (size : ℕ) → AreShapedEntries size []
nothing_shaped size = record { shapes = All-nil (IsShapedEntry size); apart = tt; few = omega arith }

-- by the fault that the directory has
shaped_under : (file : List ℕ) (place : Option DirPlace) (fault : Option RefusedEntry) → fault_under file place ≡ fault
    → AreShapedEntries (fields_of file).size (if is_some fault then [] else stored_from file 0 (listed_under file place))
shaped_under file place (Some found) is = nothing_shaped (fields_of file).size
shaped_under file None None is = nothing_shaped (fields_of file).size
shaped_under file (Some place) None is =
    let listed = listed_from place.count file place.offset in
    let heads : first_refused (head_fault file) [] listed ≡ None = grind (arith, common_steps) in
    let passes = pass_heads file [] listed heads in
    let few : place.count ≤ 64 = grind (arith, common_steps) in
    let long = length-listed place.count file place.offset 0 in
    record { shapes = stored_shapes file 0 [] listed passes; apart = stored_apart file 0 [] listed passes; few = omega arith }

pub stored_is_shaped : StoredIsShaped
unfolding stored_in directory_fault
stored_is_shaped file = shaped_under file (directory_in file) (directory_fault file) refl
