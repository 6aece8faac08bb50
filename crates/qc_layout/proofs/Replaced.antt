-- A backup's record is replaced in place: the header says the same besides.
use Rattle.std.specs.Int.{w32, w64}
use Rattle.std.proofs.lemmas.Grind.{common_steps}
use Rattle.std.proofs.Common.{rules, ◌≡◌, ◌≢◌, ◌⊎◌, inl, inr, ℕ, ◌+◌, ◌-◌, ◌^◌, ◌≤◌, false, List, [], ◌∷◌, ◌++◌, length, Option, Some, None, refl, sym, ap, ◌∙◌}
use Rattle.std.proofs.Common.{subst, arith}
use Rattle.disk_model.specs.Files.{reading, overlay, u32_at, u64_at}
use Rattle.disk_model.proofs.Laws.{byte-overlay_below, overlay_no_shorter, reading-overlay_other, reading-overlay_same, number_as}
use Rattle.qc_layout.specs.declared.extension.Extension.{Extension}
use Rattle.qc_layout.specs.declared.header.Fields.{Fields}
use Rattle.qc_layout.specs.declared.header.Header.{Header}
use Rattle.qc_layout.specs.declared.header.Own.TheVariants as owns
use Rattle.qc_layout.specs.declared.header.Part.TheVariants as parts
use Rattle.qc_layout.specs.Header.{fields_of}
use Rattle.qc_layout.specs.Extensions.{IsEnd, AreExtensions, behind, padded, list_end, extension_rules, is_bad_bitmaps, is_bad_own, kept_bytes, tail_of}
use Rattle.qc_layout.specs.Extensions.{bitmaps_in, own_in, place_in, first_of_kind, bitmaps_kind, own_kind}
use Rattle.qc_layout.specs.Disks.{bits_of}
use Rattle.qc_layout.specs.Spelling.{IsHeaderOf}
use Rattle.qc_layout.specs.Laws.{RecordsAreReplaced}
use Rattle.qc_layout.proofs.Passing.{all_pass, numbers_pass, passed_in}

-- ---- ranges apart from the record

abbrev Apart : ℕ → ℕ → ℕ → Type 0
Apart place from n = (from + n ≤ place) ⊎ (place + 64 ≤ from)

module _ (file other : List ℕ) (place : ℕ) (long : length other ≡ 64) where
  same_reading : (from n : ℕ) → Apart place from n → reading (overlay file place other) from n ≡ reading file from n
  same_reading from n apart = reading-overlay_other file place other from n (rw long apart)

  same_32 : (from : ℕ) → Apart place from 4 → u32_at (overlay file place other) from ≡ u32_at file from
  same_32 from apart = number_as w32 (overlay file place other) file from from (same_reading from 4 apart)

  same_64 : (from : ℕ) → Apart place from 8 → u64_at (overlay file place other) from ≡ u64_at file from
  same_64 from apart = number_as w64 (overlay file place other) file from from (same_reading from 8 apart)

  same_fields : 112 ≤ place → fields_of (overlay file place other) ≡ fields_of file
  unfolding fields_of
  same_fields low =
      let four = same_32 in
      let eight = same_64 in
      let one = byte-overlay_below file place other 104 in
      grind (arith, four, eight, one)

-- ---- extensions apart from the record

-- each one's kind and length is, and all of it where it is another's
abbrev AreSpared : ℕ → ℕ → List Extension → Type 0
AreSpared place from [] = Apart place from 8
AreSpared place from (e ∷ es) = Apart place from 8 × (e.kind ≢ own_kind → Apart place from (8 + padded e.length)) × AreSpared place (behind e) es

spared_behind : (place : ℕ) (file : List ℕ) (end from : ℕ) (es : List Extension) → place + 64 ≤ from → AreExtensions file end from es → AreSpared place from es
spared_behind place file end from [] past are = inr past
spared_behind place file end from (e ∷ es) past are = grind (arith, common_steps, spared_behind place file end (behind e) es)

place_low : (file : List ℕ) (end from kind : ℕ) (es : List Extension) (e : Extension) → AreExtensions file end from es → first_of_kind kind es ≡ Some e
    → from + 8 ≤ e.place
place_low file end from kind [] e are first = search rules
place_low file end from kind (x ∷ es) e are first =
    let place = are.0.place in
    grind (arith, common_steps, place_low file end (behind x) kind es e)

spared : (file : List ℕ) (end from : ℕ) (es : List Extension) (e : Extension) → AreExtensions file end from es → first_of_kind own_kind es ≡ Some e
    → e.length ≡ 64 → AreSpared e.place from es
spared file end from [] e are first long = search rules
spared file end from (x ∷ es) e are first long =
    let place = are.0.place in
    let low = place_low file end (behind x) own_kind es e are.1 in
    grind (arith, common_steps, spared_behind x.place file end (behind x) es, spared file end (behind x) es e are.1)

-- where bitmaps or any others say what they say
spared_first : (place : ℕ) (file : List ℕ) (end from kind : ℕ) (es : List Extension) (e : Extension) → AreSpared place from es → AreExtensions file end from es
    → first_of_kind kind es ≡ Some e → kind ≢ own_kind → (e.place + e.length ≤ place) ⊎ (place + 64 ≤ e.place)
spared_first place file end from kind [] e spares are first other = search rules
spared_first place file end from kind (x ∷ es) e spares are first other =
    let at = are.0.place in
    grind (arith, common_steps, spared_first place file end (behind x) kind es e)

module _ (file other : List ℕ) (place : ℕ) (long : length other ≡ 64) where
  same_end : (end from : ℕ) → Apart place from 8 → IsEnd file end from → IsEnd (overlay file place other) end from
  same_end end from apart is = grind (arith, common_steps, same_32 file other place long from)

  same_list : (end from : ℕ) (es : List Extension) → AreSpared place from es → AreExtensions file end from es
      → AreExtensions (overlay file place other) end from es
  same_list end from [] spares are = same_end end from spares are
  same_list end from (e ∷ es) spares are =
      let here = spares.0 in
      let one = are.0 in
      let kind = same_32 file other place long from in
      let size = same_32 file other place long (from + 4) in
      (grind (arith, kind, size), same_list end (behind e) es spares.2 are.1)

  same_kept : (end from : ℕ) (es : List Extension) → AreSpared place from es → AreExtensions file end from es
      → kept_bytes (overlay file place other) es ≡ kept_bytes file es
  same_kept end from [] spares are = refl
  same_kept end from (e ∷ es) spares are =
      let at = are.0.place in
      let here = spares.1 in
      let same = same_reading file other place long (e.place - 8) (8 + padded e.length) in
      let rest = same_kept end (behind e) es spares.2 are.1 in
      grind (arith, common_steps)

  -- what the extension of bitmaps says
  same_bad : (bits : ℕ) (o : Option Extension) → is_bad_bitmaps bits file o ≡ false
      → ((e : Extension) → o ≡ Some e → (e.place + e.length ≤ place) ⊎ (place + 64 ≤ e.place))
      → (is_bad_bitmaps bits (overlay file place other) o ≡ false) × (bitmaps_in (overlay file place other) o ≡ bitmaps_in file o)
  same_bad bits None good apart = (refl, refl)
  same_bad bits (Some e) good apart =
      let n : e.length ≡ 24 = grind arith in
      let here = apart e refl in
      grind (arith, common_steps, same_32 file other place long, same_64 file other place long)

found_own : (file old : List ℕ) (o : Option Extension) → own_in file o ≡ owns.Target old → (e : Extension) × (o ≡ Some e)
found_own file old o is = search rules

own_long : (e : Extension) → is_bad_own parts.Target (Some e) ≡ false → e.length ≡ 64
own_long e good = search rules

replaced : (file other : List ℕ) (h : Header) (e : Extension) (is : IsHeaderOf parts.Target file h) → first_of_kind own_kind is.spells.extensions ≡ Some e
    → length other ≡ 64 → IsHeaderOf parts.Target (overlay file e.place other) (record h { own = owns.Target other })
replaced file other h e is found long =
    let s = is.spells in
    let es = s.extensions in
    let new = overlay file e.place other in
    let end = list_end (fields_of file).cluster_bits in
    let from = (fields_of file).header_length in
    let pass = numbers_pass parts.Target (length file) (fields_of file) s.numbers in
    let pass_long = pass.long in
    let rules = all_pass (extension_rules parts.Target file (fields_of file) es) s.rules in
    let far = own_long e (subst (λ (o : Option Extension). is_bad_own parts.Target o ≡ false) found rules.1.1.1.1.0) in
    let low : from + 8 ≤ e.place = place_low file end from own_kind es e s.listed found in
    let spares = spared file end from es e s.listed found far in
    let first_long = pass.length_low in
    let fields : fields_of new ≡ fields_of file = same_fields file other e.place long (omega arith) in
    let bitmaps = same_bad file other e.place long (fields_of file).cluster_bits (first_of_kind bitmaps_kind es) rules.1.1.0
    (λ x is_first. spared_first e.place file end from bitmaps_kind es x spares s.listed is_first (λ z. omega arith)) in
    let good = bitmaps.0 in
    let length_h : h.fields.header_length ≡ from = ap (λ (f : Fields). f.header_length) s.fields in
    record {
      spells = record {
        numbers = passed_in parts.Target (length file) (length new) (fields_of new) (omega (arith, overlay_no_shorter file e.place other))
            (rw fields s.numbers);
        fields = s.fields ∙ sym fields;
        extensions = es;
        listed = rw fields (same_list file other e.place long end from es spares s.listed);
        rules = (let before = s.rules in let bad = rules.1.1.0 in cc);
        kept = s.kept
            ∙ ap (λ (l : List ℕ). l ++ kept_bytes file es) (sym (same_reading file other e.place long 112 (h.fields.header_length - 112) (inl (omega arith))))
            ∙ ap (λ (l : List ℕ). tail_of new h.fields.header_length ++ l) (sym (same_kept file other e.place long end from es spares s.listed));
        bitmaps = s.bitmaps ∙ sym bitmaps.1;
        own = rw found (rw far (ap (λ (l : List ℕ). owns.Target l) (sym (reading-overlay_same file e.place other 64 (sym long)))));
      };
      own_at = is.own_at;
    }

place_high : (file : List ℕ) (end from kind : ℕ) (es : List Extension) (e : Extension) → AreExtensions file end from es → first_of_kind kind es ≡ Some e
    → e.place + e.length ≤ end
place_high file end from kind [] e are first = search rules
place_high file end from kind (x ∷ es) e are first =
    let whole = are.0.whole in
    grind (arith, common_steps, place_high file end (behind x) kind es e)

-- the record stands in the first cluster
pub own_inside : (file old : List ℕ) (h : Header) → IsHeaderOf parts.Target file h → h.own ≡ owns.Target old → h.own_at + 64 ≤ 2 ^ bits_of file
own_inside file old h is own =
    let es = is.spells.extensions in
    let e = found_own file old (first_of_kind own_kind es) (sym is.spells.own ∙ own) in
    let rules = all_pass (extension_rules parts.Target file (fields_of file) es) is.spells.rules in
    let long = own_long e.0 (subst (λ (o : Option Extension). is_bad_own parts.Target o ≡ false) e.1 rules.1.1.1.1.0) in
    let at : h.own_at ≡ e.0.place = is.own_at ∙ ap place_in e.1 in
    let low = place_high file (list_end (fields_of file).cluster_bits) (fields_of file).header_length own_kind es e.0 is.spells.listed e.1 in
    omega (arith, long, at, low)

pub records_are_replaced : RecordsAreReplaced
records_are_replaced file old other h is own long =
    let found = found_own file old (first_of_kind own_kind is.spells.extensions) (sym is.spells.own ∙ own) in
    let at : h.own_at ≡ found.0.place = is.own_at ∙ ap place_in found.1 in (
      record h { own = owns.Target other },
      subst (λ (place : ℕ). IsHeaderOf parts.Target (overlay file place other) (record h { own = owns.Target other })) (sym at)
          (replaced file other h found.0 is found.1 long),
      record { fields = refl; kept = refl; bitmaps = refl; own = refl; own_at = refl },
    )
