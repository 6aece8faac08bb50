-- A header that was written is read again, by whoever reads a file that begins with its sector.
use Rattle.qc_layout.proofs.Kept.{reading_none}
use Rattle.std.proofs.Common.{rules}
use Rattle.std.proofs.Common.{◌≡◌, inl, inr, ℕ, ◌+◌, ◌-◌, ◌^◌, ◌<◌, ◌≤◌, List, [], ◌∷◌, ◌++◌, length, take, drop, replicate, Bool, false, Option, Some, None, sym, ap, ◌∙◌, subst, arith, length-append}
use Rattle.std.specs.Prelude.{not, ◌&&◌, nat_lt}
use Rattle.std.proofs.lemmas.Bool.{cases_lt, le-ltb, ltb-false, or_from}
use Rattle.std.proofs.lemmas.List.{length-take, length-replicate, take-append-drop}
use Rattle.std.proofs.Math.Nat.{pow-le-pow_right}
use Rattle.std.proofs.Math.Seq.{drop-append_seam}
use Rattle.disk_model.specs.Files.{byte, reading, u32_at}
use Rattle.disk_model.proofs.Laws.{length-reading, byte-reading}
use Rattle.qc_layout.specs.declared.extension.Extension.{Extension}
use Rattle.qc_layout.specs.declared.header.DirPlace.{DirPlace}
use Rattle.qc_layout.specs.declared.header.Own.{Own}
use Rattle.qc_layout.specs.declared.header.Own.TheVariants as owns
use Rattle.qc_layout.specs.declared.header.Part.{Part}
use Rattle.qc_layout.specs.declared.header.Part.TheVariants as parts
use Rattle.qc_layout.specs.declared.header.Fields.{Fields}
use Rattle.qc_layout.specs.declared.header.Header.{Header}
use Rattle.qc_layout.specs.Header.{fields_of, number_fault, first_of, has_bit}
use Rattle.qc_layout.specs.Extensions.{list_end, IsEnd, AreExtensions, extension_rules, first_of_kind, count_of, kept_bytes, kept_length, tail_of, bitmaps_in, own_in, bitmaps_kind, own_kind, is_bad_bitmaps, is_bad_own, is_there}
use Rattle.qc_layout.specs.Spelling.{Spells, words_bytes, number_words, tail_bytes, tail_length, kept_part, own_bytes, bitmaps_bytes, header_bytes, Fits, sector_of, joined, IsSmall, IsWritable, AreBitmaps, has_bitmaps, IsOwnOf}
use Rattle.qc_layout.proofs.Standing.{Stands, stands_at, stands_as, stands_left, stands_right, inner_u32, zeros_u32}
use Rattle.qc_layout.proofs.WrittenNumbers.{fields_written, length-words}
use Rattle.qc_layout.proofs.Words.{no_tail_bytes, tail_words, header_parts}
use Rattle.qc_layout.proofs.Passing.{Passes, numbers_pass, plain_pass, all_pass, no_fault, passed_in}
use Rattle.qc_layout.proofs.Blocks.{as_extensions, blocks_listed, blocks_bytes, blocks_length, blocks_others, blocks_of, are_blocks, kept_joined, kept_long}
use Rattle.qc_layout.proofs.Heads.{in_front, length-source, length-bitmaps, own_extension, own_says, own_front, bitmaps_extension, bitmaps_say, bitmaps_front, bitmaps_there}

-- the file begins with the header's sector
pub record BeginsWith (file : List ℕ) (h : Header) : Type 0 where
  pub fits : Fits h
  pub long : 512 ≤ length file
  pub sector : reading file 0 512 ≡ sector_of h

-- ---- where the parts stand

-- a header's bytes up to its end
pub tail_long : {n : ℕ} (h : Header) → Passes n h.fields → tail_length h ≤ length h.kept.items.items → 104 + length (tail_bytes h) ≡ h.fields.header_length
tail_long {n} h passed inside = elim (cases_lt 104 h.fields.header_length) [
  | inl long ↦ (let whole = passed.length_whole in
      let from = passed.length_low in
      omega (arith, ap length (tail_words h long), length-append (h.fields.compression_type ∷ 0 ∷ 0 ∷ 0 ∷ 0 ∷ 0 ∷ 0 ∷ 0 ∷ []) (take (tail_length h) h.kept.items.items), length-take (tail_length h) h.kept.items.items))
  | inr short ↦ (let from = passed.length_low in omega (arith, ap length (no_tail_bytes h short)))
]

pub record ArePlaced (file : List ℕ) (h : Header) : Type 0 where
  pub numbers : Stands file 0 (words_bytes (number_words h.fields))
  pub tail : Stands file 104 (tail_bytes h)
  pub own : Stands file h.fields.header_length (own_bytes h.own)
  pub bitmaps : Stands file (h.fields.header_length + length (own_bytes h.own)) (bitmaps_bytes h.bitmaps)
  pub kept : Stands file (h.fields.header_length + length (own_bytes h.own) + length (bitmaps_bytes h.bitmaps)) (kept_part h)
  pub room : h.fields.header_length + length (own_bytes h.own) + length (bitmaps_bytes h.bitmaps) + length (kept_part h) + 8 ≤ 512
  pub zero : u32_at file (h.fields.header_length + length (own_bytes h.own) + length (bitmaps_bytes h.bitmaps) + length (kept_part h)) ≡ 0

pub are_placed : (file : List ℕ) (h : Header) → 104 + length (tail_bytes h) ≡ h.fields.header_length → BeginsWith file h → ArePlaced file h
are_placed file h long begins =
    let numbers = words_bytes (number_words h.fields) in
    let tail = tail_bytes h in
    let own = own_bytes h.own in
    let bitmaps = bitmaps_bytes h.bitmaps in
    let kept = kept_part h in
    let zeros : List ℕ = replicate (512 - length (header_bytes h)) 0 in
    let fits : length (header_bytes h) + 8 ≤ 512 = begins.fits in
    let parts : header_bytes h ≡ numbers ++ tail ++ own ++ bitmaps ++ kept = sym (header_parts h) in
    let l0 = length-words (number_words h.fields) in
    let l1 = length-append numbers tail in
    let l2 = length-append (numbers ++ tail) own in
    let l3 = length-append (numbers ++ tail ++ own) bitmaps in
    let l4 = length-append (numbers ++ tail ++ own ++ bitmaps) kept in
    let all = ap length parts in
    let whole : length (sector_of h) ≡ 512 = omega (arith, length-append (header_bytes h) zeros, length-replicate {A = ℕ} (512 - length (header_bytes h)) 0) in
    let sector : Stands file 0 (header_bytes h ++ zeros) = record { read = ap (reading file 0) whole ∙ begins.sector } in
    let s4 = stands_as parts (stands_left (header_bytes h) zeros sector) in
    let s3 = stands_left (numbers ++ tail ++ own ++ bitmaps) kept s4 in
    let s2 = stands_left (numbers ++ tail ++ own) bitmaps s3 in
    let s1 = stands_left (numbers ++ tail) own s2 in
    let last = stands_right (header_bytes h) zeros sector in
    let end : 0 + length (header_bytes h) + 0 ≡ h.fields.header_length + length own + length bitmaps + length kept = omega arith in
    let count = length-replicate {A = ℕ} (512 - length (header_bytes h)) 0 in
    record {
      numbers = stands_left numbers tail s1;
      tail = stands_at (omega arith) (stands_right numbers tail s1);
      own = stands_at (omega arith) (stands_right (numbers ++ tail) own s2);
      bitmaps = stands_at (omega arith) (stands_right (numbers ++ tail ++ own) bitmaps s3);
      kept = stands_at (omega arith) (stands_right (numbers ++ tail ++ own ++ bitmaps) kept s4);
      room = omega arith;
      zero = ap (u32_at file) (sym end) ∙ sym (inner_u32 last 0 (omega arith)) ∙ zeros_u32 (512 - length (header_bytes h)) (omega arith);
    }

-- the list's end lies no lower than that of the sector
pub sector_in : (bits : ℕ) → 9 ≤ bits → 512 ≤ list_end bits
sector_in bits from = let more : 2 ^ 9 ≤ 2 ^ bits = pow-le-pow_right {n = 2} (omega arith) from in omega arith

-- the compression type
pub compression_at : (file : List ℕ) (h : Header) → Stands file 104 (tail_bytes h) → 104 < h.fields.header_length → byte file 104 ≡ h.fields.compression_type
compression_at file h s long =
    let first = h.fields.compression_type ∷ 0 ∷ 0 ∷ 0 ∷ 0 ∷ 0 ∷ 0 ∷ 0 ∷ [] in
    let words = tail_words h long in
    let some = length-append first (take (tail_length h) h.kept.items.items) in
    sym (byte-reading file 104 (length (tail_bytes h)) 0 (omega (arith, ap length words)))
    ∙ ap (λ (l : List ℕ). byte l 0) (s.read ∙ sym words)

-- what a longer header has behind it
tail_at : {n : ℕ} (file : List ℕ) (h : Header) → Passes n h.fields → tail_length h ≤ length h.kept.items.items → Stands file 104 (tail_bytes h) →
    tail_of file h.fields.header_length ≡ take (tail_length h) h.kept.items.items
tail_at {n} file h passed inside s = elim (cases_lt 104 h.fields.header_length) [
  | inl long ↦ (
      let first = h.fields.compression_type ∷ 0 ∷ 0 ∷ 0 ∷ 0 ∷ 0 ∷ 0 ∷ 0 ∷ [] in
      let rest = take (tail_length h) h.kept.items.items in
      let count : length rest ≡ h.fields.header_length - 112 = omega (arith, length-take (tail_length h) h.kept.items.items) in
      let behind = stands_right first rest (stands_as (sym (tail_words h long)) s) in
      ap (reading file 112) (sym count) ∙ behind.read)
  | inr short ↦ (
      let none : h.fields.header_length - 112 ≡ 0 = omega arith in
      ap (reading file 112) none ∙ reading_none file 112 ∙ ap (λ (k : ℕ). take k h.kept.items.items) (sym none))
]

-- the rules of extensions, one by one
pub extensions_pass : (part : Part) (file : List ℕ) (f : Fields) (es : List Extension) → count_of bitmaps_kind es ≤ 1 → count_of own_kind es ≤ 1 → f.header_length + kept_length es + 88 ≤ 512
    → is_bad_bitmaps f.cluster_bits file (first_of_kind bitmaps_kind es) ≡ false → (has_bit 0 f.autoclear_features && not (is_there (first_of_kind bitmaps_kind es))) ≡ false
    → is_bad_own part (first_of_kind own_kind es) ≡ false → first_of (extension_rules part file f es) ≡ None
extensions_pass part file f es bitmaps own room well autoclear fits = no_fault (extension_rules part file f es)
    (or_from (nat_lt 1 (count_of bitmaps_kind es)) (nat_lt 1 (count_of own_kind es)) (le-ltb _ _ bitmaps) (le-ltb _ _ own), (le-ltb _ _ (omega arith), (well, (autoclear, (fits, tt)))))

-- ---- what is written spells the header

pub writable_spelled : (part : Part) (h : Header) (written : List ℕ) → IsWritable part h → BeginsWith written h → Spells part written h
writable_spelled part h written w begins =
    let passed = numbers_pass part 512 h.fields w.numbers in
    let placed = are_placed written h (tail_long h passed w.tail) begins in
    let room = placed.room in
    let is = fields_written written h w.small.numbers placed.numbers (compression_at written h placed.tail) (plain_pass part 512 h.fields w.numbers) in
    let end = list_end h.fields.cluster_bits in
    let sector : 512 ≤ end = sector_in h.fields.cluster_bits passed.bits_low in
    let p1 = h.fields.header_length in
    let p2 = h.fields.header_length + length (own_bytes h.own) in
    let p3 = h.fields.header_length + length (own_bytes h.own) + length (bitmaps_bytes h.bitmaps) in
    let long = ap length w.kept in
    let last : IsEnd written end (p3 + length (joined w.blocks)) = inr (omega arith, ap (λ (l : List ℕ). u32_at written (p3 + length l)) (sym w.kept) ∙ placed.zero) in
    let kept = as_extensions p3 w.blocks in
    let stand = stands_as w.kept placed.kept in
    let kept_listed = blocks_listed written end p3 w.blocks w.unknown stand (omega arith) last in
    let bitmaps = bitmaps_say written h.fields.cluster_bits end p2 h.bitmaps kept w.bitmaps w.small.bitmaps placed.bitmaps (omega arith) kept_listed in
    let more = in_front (bitmaps_extension p2 h.bitmaps) kept in
    let own = own_says part written end p1 h.own more w.own w.small.own placed.own (omega arith) (omega arith) bitmaps.listed in
    let all = in_front (own_extension p1 h.own) more in
    let others = blocks_others p3 w.blocks w.unknown in
    let f = bitmaps_front written p2 h.bitmaps kept in
    let g = own_front written p1 h.own more in
    let found_own : first_of_kind own_kind all ≡ own_extension p1 h.own = g.found (f.no_other ∙ others.no_own) in
    let found_bitmaps : first_of_kind bitmaps_kind all ≡ bitmaps_extension p2 h.bitmaps = g.no_other ∙ f.found others.no_bitmaps in
    let one_bitmaps : count_of bitmaps_kind all ≤ 1 = omega (arith, g.count_other, f.count others.count_bitmaps) in
    let one_own : count_of own_kind all ≤ 1 = g.count (f.count_other ∙ others.count_own) in
    let bytes : kept_bytes written all ≡ kept_part h = g.kept ∙ f.kept ∙ blocks_bytes written p3 w.blocks w.unknown stand ∙ sym w.kept in
    let count : kept_length all ≡ length (kept_part h) = g.kept_length ∙ f.kept_length ∙ blocks_length p3 w.blocks w.unknown ∙ sym long in
    let little = w.room in
    record {
      numbers = subst (λ (f : Fields). number_fault part (length written) f ≡ None) (sym is) (passed_in part 512 (length written) h.fields (omega (arith, begins.long)) w.numbers);
      fields = sym is;
      extensions = all;
      listed = subst (λ (f : Fields). AreExtensions written (list_end f.cluster_bits) f.header_length all) (sym is) own.listed;
      rules = subst (λ (f : Fields). first_of (extension_rules part written f all) ≡ None) (sym is) (extensions_pass part written h.fields all one_bitmaps one_own (omega arith) (ap (is_bad_bitmaps h.fields.cluster_bits written) found_bitmaps ∙ bitmaps.well)
          (ap (λ (o : Option Extension). has_bit 0 h.fields.autoclear_features && not (is_there o)) found_bitmaps ∙ ap (λ (t : Bool). has_bit 0 h.fields.autoclear_features && not t) (bitmaps_there p2 h.bitmaps) ∙ w.autoclear)
          (ap (is_bad_own part) found_own ∙ own.well));
      kept = sym (take-append-drop (tail_length h) h.kept.items.items)
          ∙ ap (λ (l : List ℕ). l ++ kept_part h) (sym (tail_at written h passed w.tail placed.tail))
          ∙ ap (λ (l : List ℕ). tail_of written h.fields.header_length ++ l) (sym bytes);
      bitmaps = bitmaps.says ∙ ap (bitmaps_in written) (sym found_bitmaps);
      own = own.says ∙ ap (own_in written) (sym found_own);
    }

-- ---- a header that some file spells can be written

bitmaps_well : (bits : ℕ) (file : List ℕ) (o : Option Extension) → is_bad_bitmaps bits file o ≡ false → AreBitmaps bits (bitmaps_in file o)
bitmaps_well bits file o well = search rules

bitmaps_found_there : (file : List ℕ) (o : Option Extension) → is_there o ≡ has_bitmaps (bitmaps_in file o)
bitmaps_found_there file o = search rules

own_well : (part : Part) (file : List ℕ) (o : Option Extension) → is_bad_own part o ≡ false → IsOwnOf part (own_in file o)
own_well part file None well = tt
own_well part file (Some e) well =
    let short = length-reading file e.place 16 in
    let long = length-reading file e.place 64 in
    search rules

-- so can one whose own extension says something else
pub changed_writable : (part : Part) (h : Header) (own : Own) (file : List ℕ) → IsSmall (record h { own = own }) → IsOwnOf part own → Spells part file h → IsWritable part (record h { own = own })
changed_writable part h own file small of s =
    let f = fields_of file in
    let es = s.extensions in
    let passed = numbers_pass part (length file) f s.numbers in
    let same : f ≡ h.fields = sym s.fields in
    let rules = all_pass (extension_rules part file f es) s.rules in
    let count : length (tail_of file h.fields.header_length) ≡ tail_length h = length-reading file 112 (h.fields.header_length - 112) in
    let part_is : kept_part h ≡ kept_bytes file es =
    ap (λ (l : List ℕ). drop (tail_length h) l) s.kept
    ∙ ap (λ (k : ℕ). drop k (tail_of file h.fields.header_length ++ kept_bytes file es)) (sym count)
    ∙ drop-append_seam (tail_of file h.fields.header_length) (kept_bytes file es) in
    let room : f.header_length + kept_length es + 48 + 32 + 8 ≤ 512 = ltb-false _ _ rules.1.0 in
    let is_length = ap (λ (g : Fields). g.header_length) s.fields in
    let well : AreBitmaps f.cluster_bits h.bitmaps = subst (AreBitmaps f.cluster_bits) (sym s.bitmaps) (bitmaps_well f.cluster_bits file (first_of_kind bitmaps_kind es) rules.1.1.0) in
    record {
      small = small;
      numbers = subst (λ (g : Fields). number_fault part 512 g ≡ None) same (passed_in part (length file) 512 f (omega arith) s.numbers);
      tail = omega (arith, ap length s.kept, length-append (tail_of file h.fields.header_length) (kept_bytes file es));
      blocks = blocks_of file es;
      unknown = are_blocks file (list_end f.cluster_bits) f.header_length es s.listed;
      kept = part_is ∙ kept_joined file es;
      room = omega (arith, ap length part_is, kept_long file es);
      bitmaps = subst (λ (g : Fields). AreBitmaps g.cluster_bits h.bitmaps) same well;
      autoclear = let a = s.fields in let b = s.bitmaps in let c = bitmaps_found_there file (first_of_kind bitmaps_kind es) in let d = rules.1.1.1.0 in cc;
      own = of;
    }

pub spelled_own : (part : Part) (h : Header) (file : List ℕ) → Spells part file h → IsOwnOf part h.own
spelled_own part h file s =
    let rules = all_pass (extension_rules part file (fields_of file) s.extensions) s.rules in
    subst (IsOwnOf part) (sym s.own) (own_well part file (first_of_kind own_kind s.extensions) rules.1.1.1.1.0)

pub spelled_writable : (part : Part) (h : Header) (file : List ℕ) → IsSmall h → Spells part file h → IsWritable part h
spelled_writable part h file small s = changed_writable part h h.own file small (spelled_own part h file s) s

-- with the own extension of a disk it has room in a sector
own_of_source : (own : Own) → IsOwnOf parts.Source own → length (own_bytes own) ≤ 48
unfolding own_bytes
own_of_source owns.Absent of = omega arith
own_of_source (owns.Source disk epoch spans_offset spans_length) of = omega (arith, length-source disk epoch spans_offset spans_length of)
own_of_source (owns.Target bytes) of = absurd of

bitmaps_short : (bitmaps : Option DirPlace) → length (bitmaps_bytes bitmaps) ≤ 32
unfolding bitmaps_bytes
bitmaps_short None = omega arith
bitmaps_short (Some dir) = omega (arith, length-bitmaps dir)

pub writable_fits : (h : Header) → IsWritable parts.Source h → Fits h
writable_fits h w =
    let numbers = words_bytes (number_words h.fields) in
    let tail = tail_bytes h in
    let own = own_bytes h.own in
    let bitmaps = bitmaps_bytes h.bitmaps in
    let l0 = length-words (number_words h.fields) in
    let l1 = length-append numbers tail in
    let l2 = length-append (numbers ++ tail) own in
    let l3 = length-append (numbers ++ tail ++ own) bitmaps in
    let l4 = length-append (numbers ++ tail ++ own ++ bitmaps) (kept_part h) in
    let header = tail_long h (numbers_pass parts.Source 512 h.fields w.numbers) w.tail in
    let room = w.room in
    omega (arith, ap length (header_parts h), own_of_source h.own w.own, bitmaps_short h.bitmaps)
