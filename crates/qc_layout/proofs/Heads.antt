-- This project's extension and that of bitmaps, in front of others, as they are written.
use Rattle.std.proofs.Common.{rules}
use Rattle.std.proofs.Common.{◌≡◌, ◌≢◌, ℕ, ◌+◌, ◌^◌, ◌<◌, ◌≤◌, List, ◌∷◌, ◌++◌, length, false, Option, Some, None, refl, sym, ap, ◌∙◌, subst, arith, length-append}
use Rattle.std.proofs.lemmas.Bool.Decides.{nat_tests}
use Rattle.std.proofs.lemmas.Bool.{le-ltb}
use Rattle.disk_model.specs.Files.{reading, u32_at, u64_at}
use Rattle.qc_layout.specs.declared.extension.Extension.{Extension}
use Rattle.qc_layout.specs.declared.header.DirPlace.{DirPlace}
use Rattle.qc_layout.specs.declared.header.Own.{Own}
use Rattle.qc_layout.specs.declared.header.Own.TheVariants as owns
use Rattle.qc_layout.specs.declared.header.Part.{Part}
use Rattle.qc_layout.specs.declared.header.Part.TheVariants as parts
use Rattle.qc_layout.specs.Extensions.{IsExtension, AreExtensions, kept_bytes, kept_length, count_of, first_of_kind, bitmaps_kind, own_kind, own_in, bitmaps_in, is_bad_own, is_bad_bitmaps, is_there}
use Rattle.qc_layout.specs.Spelling.{words_bytes, head_words, source_words, bitmaps_words, own_bytes, bitmaps_bytes, IsSmallOwn, AreSmallBitmaps, AreBitmaps, IsOwnOf, has_bitmaps}
use Rattle.qc_layout.proofs.Standing.{Stands, stands_at, stands_left, stands_right}
use Rattle.qc_layout.proofs.WrittenNumbers.{words_there, length-words}

-- one in front, if it is there
abbrev pub in_front : Option Extension → List Extension → List Extension
in_front None es = es
in_front (Some e) es = e ∷ es

-- an extension with content behind this place
abbrev pub extension_at : ℕ → ℕ → ℕ → Extension
extension_at kind place length = record { kind = kind; place = place + 8; length = length }

-- it stands there, where its bytes do
pub head_stands : {file : List ℕ} {place : ℕ} (end kind long : ℕ) (content : List ℕ) → Stands file place (words_bytes (head_words kind long) ++ content) → kind < 2 ^ 32 → kind ≢ 0 → long < 2 ^ 32 → place + 8 + long ≤ end
    → IsExtension file end place (extension_at kind place long)
head_stands {file} {place} end kind long content s low some small whole =
    let here : place + 0 ≡ place = omega arith in
    let there = words_there file place 0 (head_words kind long) (low, (small, tt)) (stands_at (sym here) (stands_left (words_bytes (head_words kind long)) content s)) in
    record {
      inside = omega arith;
      kind = sym there.0 ∙ ap (u32_at file) here;
      some = some;
      place = refl;
      length = sym there.1.0;
      whole = whole;
    }

-- and so does its content
pub content_stands : {file : List ℕ} {place : ℕ} (kind long : ℕ) (content : List ℕ) → Stands file place (words_bytes (head_words kind long) ++ content) → Stands file (place + 8) content
content_stands {file} {place} kind long content s =
    stands_at (ap (λ (n : ℕ). place + n) (length-words (head_words kind long))) (stands_right (words_bytes (head_words kind long)) content s)

-- ---- this project's own

abbrev pub own_extension : ℕ → Own → Option Extension
own_extension place owns.Absent = None
own_extension place (owns.Source disk epoch spans_offset spans_length) = Some (extension_at own_kind place 40)
own_extension place (owns.Target bytes) = Some (extension_at own_kind place 64)

pub length-source : (disk : List ℕ) (epoch spans_offset spans_length : ℕ) → length disk ≡ 16 → length (own_bytes (owns.Source disk epoch spans_offset spans_length)) ≡ 48
unfolding own_bytes
length-source disk epoch spans_offset spans_length long = omega (arith, length-append {A = ℕ}, length-words)

pub length-target : (bytes : List ℕ) → length bytes ≡ 64 → length (own_bytes (owns.Target bytes)) ≡ 72
unfolding own_bytes
length-target bytes long = omega (arith, length-append {A = ℕ}, length-words)

-- which form it has
source_of : (part : Part) (disk : List ℕ) (epoch spans_offset spans_length place : ℕ) → IsOwnOf part (owns.Source disk epoch spans_offset spans_length) → (length disk ≡ 16) × (is_bad_own part (Some (extension_at own_kind place 40)) ≡ false)
source_of part disk epoch spans_offset spans_length place of = search rules

target_long : (part : Part) (bytes : List ℕ) → IsOwnOf part (owns.Target bytes) → length bytes ≡ 64
target_long part bytes of = search rules

target_of : (part : Part) (bytes : List ℕ) (place : ℕ) → IsOwnOf part (owns.Target bytes) → place + 72 ≤ 512 → is_bad_own part (Some (extension_at own_kind place 64)) ≡ false
target_of parts.Target bytes place of sector = le-ltb 512 (place + 8 + 64) (omega arith)
target_of parts.Source bytes place of sector = absurd of
target_of parts.Foreign bytes place of sector = absurd of

pub own_short : (part : Part) (own : Own) → IsOwnOf part own → length (own_bytes own) ≤ 72
unfolding own_bytes
own_short part owns.Absent of = omega arith
own_short part (owns.Source disk epoch spans_offset spans_length) of = omega (arith, length-source disk epoch spans_offset spans_length (source_of part disk epoch spans_offset spans_length 0 of).0)
own_short part (owns.Target bytes) of = omega (arith, length-target bytes (target_long part bytes of))

-- what its extension says again
pub record SaysOwn (part : Part) (file : List ℕ) (end place : ℕ) (own : Own) (es : List Extension) : Type 0 where
  pub listed : AreExtensions file end place (in_front (own_extension place own) es)
  pub says : own ≡ own_in file (own_extension place own)
  pub well : is_bad_own part (own_extension place own) ≡ false

pub own_says : (part : Part) (file : List ℕ) (end place : ℕ) (own : Own) (es : List Extension) → IsOwnOf part own → IsSmallOwn own → Stands file place (own_bytes own) →
    place + length (own_bytes own) ≤ end → place + length (own_bytes own) ≤ 512 → AreExtensions file end (place + length (own_bytes own)) es → SaysOwn part file end place own es
unfolding own_bytes
own_says part file end place owns.Absent es of small s inside sector listed =
    let same : place + length (own_bytes owns.Absent) ≡ place = omega arith in
    record { listed = subst (λ (k : ℕ). AreExtensions file end k es) same listed; says = refl; well = search rules }
own_says part file end place (owns.Source disk epoch spans_offset spans_length) es of small s inside sector listed =
    let is = source_of part disk epoch spans_offset spans_length place of in
    let size = length-source disk epoch spans_offset spans_length is.0 in
    let long = is.0 in
    let numbers = words_bytes (source_words epoch spans_offset spans_length) in
    let content = content_stands own_kind 40 _ s in
    let there = words_there file (place + 8) 16 (source_words epoch spans_offset spans_length) small (stands_at (omega (arith, long)) (stands_right disk numbers content)) in
    let is_disk : disk ≡ reading file (place + 8) 16 = sym (stands_left disk numbers content).read ∙ ap (reading file (place + 8)) long in
    let next : place + length (own_bytes (owns.Source disk epoch spans_offset spans_length)) ≡ place + 8 + 40 = omega (arith, size) in
    record {
      listed = (head_stands end own_kind 40 _ s (omega arith) (λ z. omega arith) (omega arith) (omega (arith, size)), subst (λ (k : ℕ). AreExtensions file end k es) next listed);
      says = cc;
      well = is.1;
    }
own_says part file end place (owns.Target bytes) es of small s inside sector listed =
    let long = target_long part bytes of in
    let size = length-target bytes long in
    let content = content_stands own_kind 64 _ s in
    let next : place + length (own_bytes (owns.Target bytes)) ≡ place + 8 + 64 = omega (arith, size) in
    record {
      listed = (head_stands end own_kind 64 _ s (omega arith) (λ z. omega arith) (omega arith) (omega (arith, size)), subst (λ (k : ℕ). AreExtensions file end k es) next listed);
      says = ap owns.Target (sym content.read ∙ ap (reading file (place + 8)) long);
      well = target_of part bytes place of (omega (arith, size));
    }

-- one kind in front of others: what is found of it, and that nothing else changes
pub record IsFront (file : List ℕ) (kind other : ℕ) (front : Option Extension) (es : List Extension) : Type 0 where
  pub found : first_of_kind kind es ≡ None → first_of_kind kind (in_front front es) ≡ front
  pub no_other : first_of_kind other (in_front front es) ≡ first_of_kind other es
  pub count : count_of kind es ≡ 0 → count_of kind (in_front front es) ≤ 1
  pub count_other : count_of other (in_front front es) ≡ count_of other es
  pub kept : kept_bytes file (in_front front es) ≡ kept_bytes file es
  pub kept_length : kept_length (in_front front es) ≡ kept_length es

pub own_front : (file : List ℕ) (place : ℕ) (own : Own) (es : List Extension) → IsFront file own_kind bitmaps_kind (own_extension place own) es
own_front file place own es = search rules

-- ---- that of bitmaps

abbrev pub bitmaps_extension : ℕ → Option DirPlace → Option Extension
bitmaps_extension place None = None
bitmaps_extension place (Some dir) = Some (extension_at bitmaps_kind place 24)

pub length-bitmaps : (dir : DirPlace) → length (bitmaps_bytes (Some dir)) ≡ 32
unfolding bitmaps_bytes
length-bitmaps dir = omega (arith, length-append {A = ℕ}, length-words)

pub record SaysBitmaps (file : List ℕ) (bits end place : ℕ) (bitmaps : Option DirPlace) (es : List Extension) : Type 0 where
  pub listed : AreExtensions file end place (in_front (bitmaps_extension place bitmaps) es)
  pub says : bitmaps ≡ bitmaps_in file (bitmaps_extension place bitmaps)
  pub well : is_bad_bitmaps bits file (bitmaps_extension place bitmaps) ≡ false

pub bitmaps_say : (file : List ℕ) (bits end place : ℕ) (bitmaps : Option DirPlace) (es : List Extension) → AreBitmaps bits bitmaps → AreSmallBitmaps bitmaps → Stands file place (bitmaps_bytes bitmaps) →
    place + length (bitmaps_bytes bitmaps) ≤ end → AreExtensions file end (place + length (bitmaps_bytes bitmaps)) es → SaysBitmaps file bits end place bitmaps es
unfolding bitmaps_bytes
bitmaps_say file bits end place None es are small s inside listed =
    let same : place + length (bitmaps_bytes None) ≡ place = omega arith in
    record { listed = subst (λ (k : ℕ). AreExtensions file end k es) same listed; says = refl; well = refl }
bitmaps_say file bits end place (Some dir) es are small s inside listed =
    let long = length-bitmaps dir in
    let here : place + 8 + 0 ≡ place + 8 = omega arith in
    let there = words_there file (place + 8) 0 (bitmaps_words dir) small (stands_at (sym here) (content_stands bitmaps_kind 24 _ s)) in
    let is_count : u32_at file (place + 8) ≡ dir.count = ap (u32_at file) (sym here) ∙ there.0 in
    let is_zero : u32_at file (place + 8 + 4) ≡ 0 = there.1.0 in
    let is_size : u64_at file (place + 8 + 8) ≡ dir.size = there.1.1.0 in
    let is_offset : u64_at file (place + 8 + 16) ≡ dir.offset = there.1.1.1.0 in
    let next : place + length (bitmaps_bytes (Some dir)) ≡ place + 8 + 24 = omega arith in
    record {
      listed = (head_stands end bitmaps_kind 24 _ s (omega arith) (λ z. omega arith) (omega arith) (omega arith), subst (λ (k : ℕ). AreExtensions file end k es) next listed);
      says = sym (rw (is_offset, is_size, is_count) refl);
      well = let some = are.0 in let good = are.1 in grind (arith, nat_tests);
    }

pub bitmaps_front : (file : List ℕ) (place : ℕ) (bitmaps : Option DirPlace) (es : List Extension) → IsFront file bitmaps_kind own_kind (bitmaps_extension place bitmaps) es
bitmaps_front file place bitmaps es = search rules

-- they are there where the header has them
pub bitmaps_there : (place : ℕ) (bitmaps : Option DirPlace) → is_there (bitmaps_extension place bitmaps) ≡ has_bitmaps bitmaps
bitmaps_there place bitmaps = search rules
