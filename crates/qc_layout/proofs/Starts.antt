-- What is read of a file depends on its first sector alone, and on its first cluster up to 65536 bytes.
use Rattle.std.specs.Int.{w64, w32}
use Rattle.std.proofs.Common.{rules}
use Rattle.std.proofs.Common.{◌≡◌, inl, inr, ℕ, ◌+◌, ◌-◌, ◌*◌, ◌%◌, ◌^◌, ◌<◌, ◌≤◌, max, false, List, [], ◌∷◌, ◌++◌, length, take, Option, Some, None, refl, sym, ap, ◌∙◌, subst, arith, get_or-take, length-take}
use Rattle.std.specs.Prelude.{nat_lt, ◌==◌}
use Rattle.std.proofs.lemmas.Bool.Decides.{nat_tests}
use Rattle.std.proofs.lemmas.Nat.{pow-add}
use Rattle.std.proofs.Math.Nat.{le-max_left, le-max_right, le_trans}
use Rattle.disk_model.specs.Files.{byte, reading, u32_at, u64_at}
use Rattle.disk_model.proofs.Laws.{byte-reading, reading-reading, reading_same, number_as}
use Rattle.qc_layout.specs.declared.extension.Extension.{Extension}
use Rattle.qc_layout.specs.declared.header.Fields.{Fields}
use Rattle.qc_layout.specs.declared.header.Header.{Header}
use Rattle.qc_layout.specs.declared.header.Part.{Part}
use Rattle.qc_layout.specs.declared.header.Part.TheVariants as parts
use Rattle.qc_layout.specs.declared.header.HeaderFault.{HeaderFault}
use Rattle.qc_layout.specs.Header.{first_of, fields_of, number_fault}
use Rattle.qc_layout.specs.Extensions.{IsEnd, IsExtension, StandInRow, AreExtensions, behind, padded, list_end, extension_rules, is_bad_bitmaps, is_bad_own, kept_bytes, tail_of, bitmaps_in, own_in, first_of_kind, bitmaps_kind, own_kind}
use Rattle.qc_layout.specs.Disks as disks
use Rattle.qc_layout.specs.Disks.{IsBackup, IsReadAs}
use Rattle.qc_layout.specs.Spelling.{AreIn, IsHeaderOf, IsFault}
use Rattle.qc_layout.specs.Laws.{BeginAlike, start_length, start_of}
use Rattle.qc_layout.proofs.Passing.{Passes, all_pass, numbers_pass}

-- ---- bytes and numbers

pub alike_reading : {n : ℕ} (a b : List ℕ) (at count : ℕ) → BeginAlike n a b → at + count ≤ n → reading a at count ≡ reading b at count
alike_reading {n} a b at count alike inside =
    let z : 0 + at ≡ at = omega arith in
    ap (λ (p : ℕ). reading a p count) (sym z)
    ∙ sym (reading-reading a 0 n at count inside)
    ∙ ap (λ (l : List ℕ). reading l at count) alike.bytes
    ∙ reading-reading b 0 n at count inside
    ∙ ap (λ (p : ℕ). reading b p count) z

pub alike_32 : {n : ℕ} (a b : List ℕ) (at : ℕ) → BeginAlike n a b → at + 4 ≤ n → u32_at a at ≡ u32_at b at
alike_32 a b at alike inside = number_as w32 a b at at (alike_reading a b at 4 alike inside)

pub alike_64 : {n : ℕ} (a b : List ℕ) (at : ℕ) → BeginAlike n a b → at + 8 ≤ n → u64_at a at ≡ u64_at b at
alike_64 a b at alike inside = number_as w64 a b at at (alike_reading a b at 8 alike inside)

pub alike_byte : {n : ℕ} (a b : List ℕ) (at : ℕ) → BeginAlike n a b → at < n → byte a at ≡ byte b at
alike_byte {n} a b at alike inside =
    let z : 0 + at ≡ at = omega arith in
    ap (byte a) (sym z) ∙ sym (byte-reading a 0 n at inside) ∙ ap (λ (l : List ℕ). byte l at) alike.bytes ∙ byte-reading b 0 n at inside ∙ ap (byte b) z

-- they begin with a sector, and with the list of extensions
pub alike_sector : {n : ℕ} (a b : List ℕ) → BeginAlike n a b → 512 ≤ n
alike_sector {n} a b alike = le_trans (le-max_left 512 (list_end (fields_of a).cluster_bits)) alike.enough

pub alike_list : {n : ℕ} (a b : List ℕ) → BeginAlike n a b → list_end (fields_of a).cluster_bits ≤ n
alike_list {n} a b alike = le_trans (le-max_right 512 (list_end (fields_of a).cluster_bits)) alike.enough

pub alike_fields : {n : ℕ} (a b : List ℕ) → BeginAlike n a b → fields_of a ≡ fields_of b
unfolding fields_of
alike_fields {n} a b alike =
    let sector = alike_sector a b alike in
    let four : (at : ℕ) → at + 4 ≤ 512 → u32_at a at ≡ u32_at b at = (λ at low. alike_32 a b at alike (omega arith)) in
    let eight : (at : ℕ) → at + 8 ≤ 512 → u64_at a at ≡ u64_at b at = (λ at low. alike_64 a b at alike (omega arith)) in
    let one = alike_byte a b 104 alike (omega arith) in
    grind (arith, four, eight)

-- the rules of its numbers see of a file's length whether it is below 104
pub alike_numbers : {n : ℕ} (part : Part) (a b : List ℕ) → BeginAlike n a b → number_fault part (length a) (fields_of a) ≡ number_fault part (length b) (fields_of b)
alike_numbers part a b alike =
    let on = alike.short in
    let back = alike.long in
    let short : nat_lt (length a) 104 ≡ nat_lt (length b) 104 = grind (arith, nat_tests) in
    let same = alike_fields a b alike in
    cc

-- ---- the list

alike_extension : {n : ℕ} (a b : List ℕ) (end from : ℕ) (e : Extension) → BeginAlike n a b → end ≤ n → IsExtension a end from e → IsExtension b end from e
alike_extension a b end from e alike small is = record {
  inside = is.inside;
  kind = is.kind ∙ alike_32 a b from alike (omega (arith, is.inside));
  some = is.some;
  place = is.place;
  length = is.length ∙ alike_32 a b (from + 4) alike (omega (arith, is.inside));
  whole = is.whole;
}

alike_end : {n : ℕ} (a b : List ℕ) (end from : ℕ) → BeginAlike n a b → end ≤ n → IsEnd a end from → IsEnd b end from
alike_end a b end from alike small (inl short) = inl short
alike_end a b end from alike small (inr none) = let i = none.0 in inr (none.0, sym (alike_32 a b from alike (omega arith)) ∙ none.1)

alike_extensions : {n : ℕ} (a b : List ℕ) (end from : ℕ) (es : List Extension) → BeginAlike n a b → end ≤ n → AreExtensions a end from es → AreExtensions b end from es
alike_extensions a b end from [] alike small are = alike_end a b end from alike small are
alike_extensions a b end from (e ∷ es) alike small are = (alike_extension a b end from e alike small are.0, alike_extensions a b end (behind e) es alike small are.1)

pub alike_in : {n : ℕ} (a b : List ℕ) (es : List Extension) → BeginAlike n a b → AreIn a es → AreIn b es
alike_in a b es alike are =
    subst (λ (f : Fields). AreExtensions b (list_end f.cluster_bits) f.header_length es) (alike_fields a b alike)
    (alike_extensions a b (list_end (fields_of a).cluster_bits) (fields_of a).header_length es alike (alike_list a b alike) are)

pub alike_back : {n : ℕ} (a b : List ℕ) → BeginAlike n a b → BeginAlike n b a
alike_back {n} a b alike = record {
  enough = subst (λ (f : Fields). max 512 (list_end f.cluster_bits) ≤ n) (alike_fields a b alike) alike.enough;
  bytes = sym alike.bytes;
  short = alike.long;
  long = alike.short;
}

-- ---- what extensions contain

-- an extension's content stands within these bytes
record IsIn (n : ℕ) (e : Extension) : Type 0 where
  low : 8 ≤ e.place
  high : e.place + e.length ≤ n

abbrev IsInIfThere : ℕ → Option Extension → Type 0
IsInIfThere n None = Unit {0}
IsInIfThere n (Some e) = IsIn n e

within_first : (n : ℕ) (file : List ℕ) (end from kind : ℕ) (es : List Extension) → end ≤ n → AreExtensions file end from es → IsInIfThere n (first_of_kind kind es)
within_first n file end from kind [] small are = tt
within_first n file end from kind (e ∷ es) small are =
    let here : IsIn n e = record { low = omega (arith, are.0.place); high = omega (arith, are.0.whole) } in
    let rest = within_first n file end (behind e) kind es small are.1 in
    search rules

first_in : {n : ℕ} (a b : List ℕ) (kind : ℕ) (es : List Extension) → BeginAlike n a b → AreIn a es → IsInIfThere n (first_of_kind kind es)
first_in {n} a b kind es alike are = within_first n a (list_end (fields_of a).cluster_bits) (fields_of a).header_length kind es (alike_list a b alike) are

-- what the rule of bitmaps reads matters only where the extension has its length
alike_bad : {n : ℕ} (a b : List ℕ) (bits : ℕ) (o : Option Extension) → BeginAlike n a b → IsInIfThere n o → is_bad_bitmaps bits a o ≡ is_bad_bitmaps bits b o
alike_bad a b bits None alike near = refl
alike_bad {n} a b bits (Some e) alike near =
    let high = near.high in
    let pad : e.length ≡ 24 → u32_at a (e.place + 4) ≡ u32_at b (e.place + 4) = (λ t. alike_32 a b (e.place + 4) alike (omega arith)) in
    let count : e.length ≡ 24 → u32_at a e.place ≡ u32_at b e.place = (λ t. alike_32 a b e.place alike (omega arith)) in
    let offset : e.length ≡ 24 → u64_at a (e.place + 16) ≡ u64_at b (e.place + 16) = (λ t. alike_64 a b (e.place + 16) alike (omega arith)) in
    grind (arith, nat_tests)

pub alike_rules : {n : ℕ} (part : Part) (a b : List ℕ) (es : List Extension) → BeginAlike n a b → AreIn a es
    → first_of (extension_rules part a (fields_of a) es) ≡ first_of (extension_rules part b (fields_of b) es)
alike_rules part a b es alike are =
    let bad = alike_bad a b (fields_of a).cluster_bits (first_of_kind bitmaps_kind es) alike (first_in a b bitmaps_kind es alike are) in
    let fields = alike_fields a b alike in
    cc

alike_bitmaps : {n : ℕ} (a b : List ℕ) (bits : ℕ) (o : Option Extension) → BeginAlike n a b → IsInIfThere n o → is_bad_bitmaps bits a o ≡ false → bitmaps_in a o ≡ bitmaps_in b o
alike_bitmaps a b bits None alike near good = refl
alike_bitmaps a b bits (Some e) alike near good =
    let n : e.length ≡ 24 = grind (arith, nat_tests) in
    let h = near.high in
    let count = alike_32 a b e.place alike (omega arith) in
    let size = alike_64 a b (e.place + 8) alike (omega arith) in
    let offset = alike_64 a b (e.place + 16) alike (omega arith) in
    cc

-- an extension of these lengths lies whole in those bytes
own_fits : {n : ℕ} (part : Part) (e : Extension) → IsIn n e → is_bad_own part (Some e) ≡ false → (e.length == 40) ≡ false → e.place + 64 ≤ n
own_fits {n} part e near good other = search rules

alike_own : {n : ℕ} (part : Part) (a b : List ℕ) (o : Option Extension) → BeginAlike n a b → IsInIfThere n o → is_bad_own part o ≡ false → own_in a o ≡ own_in b o
alike_own part a b None alike near good = refl
alike_own part a b (Some e) alike near good =
    let high = near.high in
    let disk : e.length ≡ 40 → reading a e.place 16 ≡ reading b e.place 16 = (λ t. alike_reading a b e.place 16 alike (omega arith)) in
    let epoch : e.length ≡ 40 → u64_at a (e.place + 16) ≡ u64_at b (e.place + 16) = (λ t. alike_64 a b (e.place + 16) alike (omega arith)) in
    let offset : e.length ≡ 40 → u64_at a (e.place + 24) ≡ u64_at b (e.place + 24) = (λ t. alike_64 a b (e.place + 24) alike (omega arith)) in
    let long : e.length ≡ 40 → u64_at a (e.place + 32) ≡ u64_at b (e.place + 32) = (λ t. alike_64 a b (e.place + 32) alike (omega arith)) in
    let record_ : (e.length == 40) ≡ false → reading a e.place 64 ≡ reading b e.place 64 = (λ t. alike_reading a b e.place 64 alike (own_fits part e near good t)) in
    grind (arith, nat_tests)

-- the list stands on whole numbers of eight bytes, so that the padding too ends before the list's end
alike_kept : {n : ℕ} (a b : List ℕ) (end from : ℕ) (es : List Extension) → BeginAlike n a b → end ≤ n → end % 8 ≡ 0 → from % 8 ≡ 0 → AreExtensions a end from es
    → kept_bytes a es ≡ kept_bytes b es
alike_kept a b end from [] alike small whole starts are = refl
alike_kept a b end from (e ∷ es) alike small whole starts are =
    let place = are.0.place in
    let inside = are.0.whole in
    let this = alike_reading a b (e.place - 8) (8 + padded e.length) alike (omega arith) in
    let rest = alike_kept a b end (behind e) es alike small whole (omega arith) are.1 in
    cc

end_whole : (bits : ℕ) → 9 ≤ bits → list_end bits % 8 ≡ 0
end_whole bits low =
    let same : 9 + (bits - 9) ≡ bits = omega arith in
    let e : 2 ^ bits ≡ 512 * 2 ^ (bits - 9) = ap (λ (n : ℕ). 2 ^ n) (sym same) ∙ pow-add 2 9 (bits - 9) in
    omega arith

pub in_kept : {n : ℕ} (a b : List ℕ) (length : ℕ) (es : List Extension) → BeginAlike n a b → Passes length (fields_of a) → AreIn a es → kept_bytes a es ≡ kept_bytes b es
in_kept a b length es alike pass are =
    alike_kept a b (list_end (fields_of a).cluster_bits) (fields_of a).header_length es alike (alike_list a b alike) (end_whole (fields_of a).cluster_bits pass.bits_low) pass.length_whole are

pub header_from_start : {n : ℕ} (part : Part) (a b : List ℕ) (h : Header) → BeginAlike n a b → IsHeaderOf part a h → IsHeaderOf part b h
header_from_start part a b h alike is =
    let s = is.spells in
    let es = s.extensions in
    let pass = numbers_pass part (length a) (fields_of a) s.numbers in
    let rules = all_pass (extension_rules part a (fields_of a) es) s.rules in
    let sector = alike_sector a b alike in
    let long : h.fields.header_length ≤ 504 = (let e = ap (λ (f : Fields). f.header_length) s.fields in let l = pass.length_high in omega arith) in
    record {
      spells = record {
        numbers = sym (alike_numbers part a b alike) ∙ s.numbers;
        fields = s.fields ∙ alike_fields a b alike;
        extensions = es;
        listed = alike_in a b es alike s.listed;
        rules = sym (alike_rules part a b es alike s.listed) ∙ s.rules;
        kept = s.kept
            ∙ ap (λ (l : List ℕ). l ++ kept_bytes a es) (alike_reading a b 112 (h.fields.header_length - 112) alike (omega arith))
            ∙ ap (λ (l : List ℕ). tail_of b h.fields.header_length ++ l) (in_kept a b (length a) es alike pass s.listed);
        bitmaps = s.bitmaps ∙ alike_bitmaps a b (fields_of a).cluster_bits (first_of_kind bitmaps_kind es) alike (first_in a b bitmaps_kind es alike s.listed) rules.1.1.0;
        own = s.own ∙ alike_own part a b (first_of_kind own_kind es) alike (first_in a b own_kind es alike s.listed) rules.1.1.1.1.0;
      };
      own_at = is.own_at;
    }

pub fault_from_start : {n : ℕ} (part : Part) (a b : List ℕ) (fault : HeaderFault) → BeginAlike n a b → IsFault part a fault → IsFault part b fault
fault_from_start part a b fault alike (inl x) = inl (sym (alike_numbers part a b alike) ∙ x)
fault_from_start part a b fault alike (inr (inl x)) =
    inr (inl (sym (alike_numbers part a b alike) ∙ x.0, x.1, λ es are. x.2 es (alike_in b a es (alike_back a b alike) are)))
fault_from_start part a b fault alike (inr (inr x)) =
    inr (inr (sym (alike_numbers part a b alike) ∙ x.0, (x.1.0, alike_in a b x.1.0 alike x.1.1, sym (alike_rules part a b x.1.0 alike x.1.1) ∙ x.1.2)))

-- the rules that the one passes the other passes
pub passes_from_start : {n : ℕ} (part : Part) (a b : List ℕ) → BeginAlike n a b → disks.Passes part a → disks.Passes part b
passes_from_start part a b alike is = record {
  numbers = sym (alike_numbers part a b alike) ∙ is.numbers;
  extensions = is.extensions;
  listed = alike_in a b is.extensions alike is.listed;
  rules = sym (alike_rules part a b is.extensions alike is.listed) ∙ is.rules;
}

-- ---- as what a file is read

alike_row : {n : ℕ} (a b : List ℕ) (end from : ℕ) (es : List Extension) → BeginAlike n a b → end ≤ n → StandInRow a end from es → StandInRow b end from es
alike_row a b end from [] alike small row = tt
alike_row a b end from (e ∷ es) alike small row = (alike_extension a b end from e alike small row.0, alike_row a b end (behind e) es alike small row.1)

alike_backup : {n : ℕ} (a b : List ℕ) → BeginAlike n a b → IsBackup a → IsBackup b
alike_backup a b alike is =
    let row : StandInRow b (list_end (fields_of a).cluster_bits) (fields_of a).header_length is.0 = alike_row a b (list_end (fields_of a).cluster_bits) (fields_of a).header_length is.0 alike (alike_list a b alike) is.2 in
    (is.0, is.1, subst (λ (f : Fields). StandInRow b (list_end f.cluster_bits) f.header_length is.0) (alike_fields a b alike) row, is.3, is.4)

pub read_as_from_start : {n : ℕ} (part : Part) (a b : List ℕ) → BeginAlike n a b → IsReadAs a part → IsReadAs b part
read_as_from_start parts.Target a b alike is = alike_backup a b alike is
read_as_from_start parts.Source a b alike is = λ backup. is (alike_backup b a (alike_back a b alike) backup)
read_as_from_start parts.Foreign a b alike is = absurd is

-- ---- the first bytes of a file

taken_reading : (n : ℕ) (file : List ℕ) (at count : ℕ) → at + count ≤ n → reading (take n file) at count ≡ reading file at count
taken_reading n file at count inside = reading_same (take n file) file at count (λ i low high. get_or-take n file i 0 (omega arith))

-- they say how many the header takes, if they have its cluster bits
pub start_same : (n : ℕ) (file : List ℕ) → 24 ≤ n → start_length (take n file) ≡ start_length file
unfolding fields_of
start_same n file some = ap (λ (bits : ℕ). max 512 (list_end bits)) (number_as w32 (take n file) file 20 20 (taken_reading n file 20 4 (omega arith)))

-- the file begins as these bytes do
pub begins : (file : List ℕ) → BeginAlike (start_length file) file (start_of file)
begins file =
    let sector = le-max_left 512 (list_end (fields_of file).cluster_bits) in
    record {
      enough = omega arith;
      bytes = sym (taken_reading (start_length file) file 0 (start_length file) (omega arith));
      short = λ short. omega (arith, length-take (start_length file) file);
      long = λ short. omega (arith, length-take (start_length file) file);
    }
