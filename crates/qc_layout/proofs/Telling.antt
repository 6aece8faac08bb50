-- What a file tells that begins with a new header: its numbers, its extensions, and nothing else of this project's own.
use Rattle.std.proofs.lemmas.Grind.{common_steps}
use Rattle.std.proofs.Common.{rules}
use Rattle.std.proofs.Common.{◌≡◌, inr, ℕ, ◌+◌, ◌≤◌, List, [], ◌∷◌, ◌++◌, length, drop, replicate, Bool, false, Option, None, refl, sym, ap, ◌∙◌, subst, arith, length-append}
use Rattle.std.specs.Prelude.{codes, not, ◌&&◌}
use Rattle.disk_model.specs.Files.{reading, u32_at, number_at}
use Rattle.disk_model.proofs.Laws.{reading-reading}
use Rattle.qc_layout.specs.declared.extension.Extension.{Extension}
use Rattle.qc_layout.specs.declared.header.DirPlace.{DirPlace}
use Rattle.qc_layout.specs.declared.header.Own.{Own}
use Rattle.qc_layout.specs.declared.header.Part.{Part}
use Rattle.qc_layout.specs.declared.header.Fields.{Fields}
use Rattle.qc_layout.specs.declared.header.Header.{Header}
use Rattle.qc_layout.specs.Header.{fields_of, number_fault, first_of, has_bit}
use Rattle.qc_layout.specs.Extensions.{list_end, IsExtension, AreExtensions, extension_rules, first_of_kind, count_of, kept_length, own_in, backing_kind, bitmaps_kind, own_kind, is_bad_bitmaps, is_bad_own, is_there}
use Rattle.qc_layout.specs.Disks.{Passes, HasExtension}
use Rattle.qc_layout.specs.Spelling.{be32, IsHeaderOf, AreIn, words_bytes, head_words, word32, number_words, tail_bytes, tail_length, kept_part, own_bytes, bitmaps_bytes, Fits, IsSmall, IsOwnOf}
use Rattle.qc_layout.proofs.Standing.{Stands, stands_at, stands_as, stands_left, stands_right, inner_u32}
use Rattle.qc_layout.proofs.WrittenNumbers.{fields_written, length-words}
use Rattle.qc_layout.proofs.Words.{header_parts}
use Rattle.qc_layout.proofs.Passing as passing
use Rattle.qc_layout.proofs.Passing.{numbers_pass, plain_pass, passed_in, no_fault}
use Rattle.qc_layout.specs.Directory.{directory_in}
use Rattle.qc_layout.proofs.Directories.{found_in}
use Rattle.qc_layout.proofs.Listing.{one_listing}
use Rattle.qc_layout.proofs.Blocks.{AreOthers}
use Rattle.qc_layout.proofs.Heads.{in_front, extension_at, head_stands, own_short, own_extension, own_says, own_front}
use Rattle.qc_layout.proofs.Written.{BeginsWith, extensions_pass, ArePlaced, are_placed, tail_long, sector_in, compression_at}

-- ---- what a file tells

pub record Tells (part : Part) (file : List ℕ) (h : Header) : Type 0 where
  pub fields : fields_of file ≡ h.fields
  pub numbers : number_fault part (length file) h.fields ≡ None
  pub extensions : List Extension
  pub listed : AreExtensions file (list_end h.fields.cluster_bits) h.fields.header_length extensions
  pub rules : first_of (extension_rules part file h.fields extensions) ≡ None
  pub says : h.own ≡ own_in file (first_of_kind own_kind extensions)
  pub no_bitmaps : first_of_kind bitmaps_kind extensions ≡ None

pub tells_passes : (part : Part) (file : List ℕ) (h : Header) → Tells part file h → Passes part file
tells_passes part file h t = search rules

-- these are all of its extensions
told_list : (part : Part) (file : List ℕ) (h : Header) (t : Tells part file h) (es : List Extension) → AreIn file es → es ≡ t.extensions
told_list part file h t es listed =
    one_listing file (list_end h.fields.cluster_bits) h.fields.header_length es t.extensions (subst (λ (f : Fields). AreExtensions file (list_end f.cluster_bits) f.header_length es) t.fields listed) t.listed

-- whoever reads a header of it finds this of the project's own
pub tells_own : (part : Part) (file : List ℕ) (h read : Header) → Tells part file h → IsHeaderOf part file read → read.own ≡ h.own
tells_own part file h read t is =
    is.spells.own
    ∙ ap (λ (es : List Extension). own_in file (first_of_kind own_kind es)) (told_list part file h t is.spells.extensions is.spells.listed)
    ∙ sym t.says

-- it has no directory of bitmaps
pub tells_no_directory : (part : Part) (file : List ℕ) (h : Header) → Tells part file h → directory_in file ≡ None
tells_no_directory part file h t = grind (arith, common_steps, found_in)

-- ---- a new header

-- it has 112 bytes, speaks of no bitmaps, and its numbers pass
pub record IsNew (part : Part) (h : Header) : Type 0 where
  pub small : IsSmall h
  pub numbers : number_fault part 512 h.fields ≡ None
  pub header_length : h.fields.header_length ≡ 112
  pub bitmaps : h.bitmaps ≡ None
  pub autoclear : has_bit 0 h.fields.autoclear_features ≡ false
  pub own : IsOwnOf part h.own
  pub short : length h.kept.items.items ≤ 279

new_kept : (h : Header) → h.fields.header_length ≡ 112 → kept_part h ≡ h.kept.items.items
new_kept h is = let none : tail_length h ≡ 0 = omega arith in ap (λ (n : ℕ). drop n h.kept.items.items) none

new_long : (part : Part) (h : Header) → IsNew part h → 104 + length (tail_bytes h) ≡ h.fields.header_length
new_long part h new =
    let is = new.header_length in
    tail_long h (numbers_pass part 512 h.fields new.numbers) (omega arith)

no_bitmaps : (part : Part) (h : Header) → IsNew part h → length (bitmaps_bytes h.bitmaps) ≡ 0
unfolding bitmaps_bytes
no_bitmaps part h new = ap (λ (o : Option DirPlace). length (bitmaps_bytes o)) new.bitmaps

pub new_fits : (part : Part) (h : Header) → IsNew part h → Fits h
new_fits part h new =
    let numbers = words_bytes (number_words h.fields) in
    let tail = tail_bytes h in
    let own = own_bytes h.own in
    let bitmaps = bitmaps_bytes h.bitmaps in
    let l0 = length-words (number_words h.fields) in
    let l1 = length-append numbers tail in
    let l2 = length-append (numbers ++ tail) own in
    let l3 = length-append (numbers ++ tail ++ own) bitmaps in
    let l4 = length-append (numbers ++ tail ++ own ++ bitmaps) (kept_part h) in
    let is = new.header_length in
    let header = new_long part h new in
    let short = new.short in
    omega (arith, ap length (header_parts h), own_short part h.own new.own, no_bitmaps part h new, ap length (new_kept h new.header_length))

-- where its own bytes end
abbrev behind_own : Header → ℕ
behind_own h = 112 + length (own_bytes h.own)

-- what stands behind this project's extension
record StandsBehind (file : List ℕ) (h : Header) : Type 0 where
  pub kept : Stands file (behind_own h) h.kept.items.items
  pub zero : u32_at file (behind_own h + length h.kept.items.items) ≡ 0
  pub room : behind_own h + length h.kept.items.items + 8 ≤ 512

module _ (part : Part) (h : Header) (file : List ℕ) (new : IsNew part h) (begins : BeginsWith file h) where
  passed : passing.Passes 512 h.fields
  passed = numbers_pass part 512 h.fields new.numbers

  placed : ArePlaced file h
  placed = are_placed file h (new_long part h new) begins

  stand_behind : StandsBehind file h
  stand_behind =
      let is = new.header_length in
      let none = no_bitmaps part h new in
      let room = placed.room in
      let same = new_kept h new.header_length in
      let at : h.fields.header_length + length (own_bytes h.own) + length (bitmaps_bytes h.bitmaps) ≡ behind_own h = omega arith in
      let end : h.fields.header_length + length (own_bytes h.own) + length (bitmaps_bytes h.bitmaps) + length (kept_part h) ≡ behind_own h + length h.kept.items.items = omega (arith, ap length same) in
      record {
        kept = stands_at at (stands_as same placed.kept);
        zero = ap (u32_at file) (sym end) ∙ placed.zero;
        room = omega arith;
      }

  told : (more : List Extension) → AreOthers more → kept_length more ≡ 0 → AreExtensions file (list_end h.fields.cluster_bits) (behind_own h) more → Tells part file h
  told more others unkept listed =
      let is_fields = fields_written file h new.small.numbers placed.numbers (compression_at file h placed.tail) (plain_pass part 512 h.fields new.numbers) in
      let end = list_end h.fields.cluster_bits in
      let sector : 512 ≤ end = sector_in h.fields.cluster_bits passed.bits_low in
      let room = stand_behind.room in
      let is = new.header_length in
      let own = own_says part file end 112 h.own more new.own new.small.own (stands_at is placed.own) (omega arith) (omega arith) listed in
      let all = in_front (own_extension 112 h.own) more in
      let g = own_front file 112 h.own more in
      let found_own : first_of_kind own_kind all ≡ own_extension 112 h.own = g.found others.no_own in
      let found_bitmaps : first_of_kind bitmaps_kind all ≡ None = g.no_other ∙ others.no_bitmaps in
      let one_bitmaps : count_of bitmaps_kind all ≤ 1 = omega (arith, g.count_other, others.count_bitmaps) in
      let one_own : count_of own_kind all ≤ 1 = g.count others.count_own in
      let count : kept_length all ≡ 0 = g.kept_length ∙ unkept in
      record {
        fields = is_fields;
        numbers = passed_in part 512 (length file) h.fields (omega (arith, begins.long)) new.numbers;
        extensions = all;
        listed = subst (λ (n : ℕ). AreExtensions file end n all) (sym is) own.listed;
        rules = extensions_pass part file h.fields all one_bitmaps one_own (omega arith) (ap (is_bad_bitmaps h.fields.cluster_bits file) found_bitmaps)
            (ap (λ (t : Bool). t && not (is_there (first_of_kind bitmaps_kind all))) new.autoclear) (ap (is_bad_own part) found_own ∙ own.well);
        says = own.says ∙ ap (own_in file) (sym found_own);
        no_bitmaps = found_bitmaps;
      }

  -- nothing is kept
  pub bare_tells : h.kept.items.items ≡ [] → Tells part file h
  bare_tells none =
      let sector : 512 ≤ list_end h.fields.cluster_bits = sector_in h.fields.cluster_bits passed.bits_low in
      let room = stand_behind.room in
      told [] (record { no_bitmaps = refl; no_own = refl; count_bitmaps = refl; count_own = refl }) refl
      (inr (omega arith, (let end : behind_own h + length h.kept.items.items ≡ behind_own h = omega (arith, ap length none) in ap (u32_at file) (sym end) ∙ stand_behind.zero)))

-- ---- a file under it

-- the extension of its format, and the zeros that end the list
abbrev pub format_words : List ℕ
format_words = be32 backing_kind ++ be32 5 ++ codes "qcow2" ++ replicate 11 0

format_head : words_bytes (head_words backing_kind 5) ++ (codes "qcow2" ++ replicate 11 0) ≡ format_words
unfolding word32
format_head = refl

format_content : reading format_words 8 5 ≡ codes "qcow2"
unfolding reading
format_content = refl

format_end : u32_at format_words 16 ≡ 0
unfolding number_at reading
format_end = refl

own_no_backing : (place : ℕ) (own : Own) (es : List Extension) → first_of_kind backing_kind (in_front (own_extension place own) es) ≡ first_of_kind backing_kind es
own_no_backing place own es = search rules

-- what such a file tells besides
pub record TellsBacking (part : Part) (file : List ℕ) (h : Header) (name : List ℕ) : Type 0 where
  pub tells : Tells part file h
  pub name_stands : reading file (behind_own h + 24) (length name) ≡ name
  pub format : HasExtension file backing_kind (codes "qcow2")

module _ (part : Part) (h : Header) (file name : List ℕ) (new : IsNew part h) (begins : BeginsWith file h) (keeps : h.kept.items.items ≡ format_words ++ name) where
  stand : Stands file (behind_own h) (format_words ++ name)
  stand = stands_as keeps (stand_behind part h file new begins).kept

  words : Stands file (behind_own h) format_words
  words = stands_left format_words name stand

  enough : behind_own h + 24 + length name + 8 ≤ list_end h.fields.cluster_bits
  enough =
      let sector : 512 ≤ list_end h.fields.cluster_bits = sector_in h.fields.cluster_bits (passed part h file new begins).bits_low in
      omega (arith, (stand_behind part h file new begins).room, ap length keeps, length-append format_words name)

  is_backing : IsExtension file (list_end h.fields.cluster_bits) (behind_own h) (extension_at backing_kind (behind_own h) 5)
  is_backing = head_stands (list_end h.fields.cluster_bits) backing_kind 5 _ (stands_as (sym format_head) words) (omega arith) (λ z. omega arith) (omega arith) (omega (arith, enough))

  listed : AreExtensions file (list_end h.fields.cluster_bits) (behind_own h) (extension_at backing_kind (behind_own h) 5 ∷ [])
  listed =
      let next : behind_own h + 8 + 8 ≡ behind_own h + 16 = omega arith in
      (is_backing, inr (omega (arith, enough), ap (u32_at file) next ∙ sym (inner_u32 words 16 (omega arith)) ∙ format_end))

  all_told : Tells part file h
  all_told = told part h file new begins (extension_at backing_kind (behind_own h) 5 ∷ []) (record { no_bitmaps = refl; no_own = refl; count_bitmaps = refl; count_own = refl }) refl listed

  pub backed_tells : TellsBacking part file h name
  unfolding all_told told
  backed_tells = record {
    tells = all_told;
    name_stands = (stands_right format_words name stand).read;
    format = (
      (tells_passes part file h all_told).extensions,
      (tells_passes part file h all_told).listed,
      extension_at backing_kind (behind_own h) 5,
      ap (first_of_kind backing_kind) (told_list part file h all_told (tells_passes part file h all_told).extensions (tells_passes part file h all_told).listed) ∙ own_no_backing 112 h.own (extension_at backing_kind (behind_own h) 5 ∷ []),
      sym (reading-reading file (behind_own h) 24 8 5 (omega arith)) ∙ ap (λ (l : List ℕ). reading l 8 5) words.read ∙ format_content,
    );
  }
