-- An opening's steps over a directory: they claim the clusters that bitmaps hold, and their rules are those of a directory.
use Rattle.std.proofs.lemmas.Grind.{common_steps, div_ceil_times}
use Rattle.std.proofs.Common.{rules, ◌≡◌, ◌≢◌, ℕ, zero, suc, ◌+◌, ◌*◌, ◌/◌, ◌%◌, ◌^◌, ◌<◌, ◌≤◌, List, [], ◌∷◌, ◌++◌, Bool, false, ◌⊎◌, inl, inr, Option, Some, None, refl, sym, ap, subst, ◌∙◌, arith, length-append}
use Rattle.std.specs.Prelude.{flat_map, option_map, bytes_eq, Contains, length}
use Rattle.std.specs.List.{list_any, range_with_len}
use Rattle.std.specs.Int.{div_ceil}
use Rattle.std.specs.Option.{option_or}
use Rattle.std.proofs.lemmas.Bool.{cases_eq}
use Rattle.std.proofs.lemmas.List.Elements.{Contains-append_left, Contains-append_right, Contains-push}
use Rattle.std.proofs.lemmas.List.Folds.{list_any_at}
use Rattle.bitmap_model.proofs.Lists.{same_bytes-itself}
use Rattle.qc_layout.specs.declared.faults.DirFault.{DirFault}
use Rattle.qc_layout.specs.declared.faults.DirFault.TheVariants.{Tail}
use Rattle.qc_layout.specs.declared.header.DirPlace.{DirPlace}
use Rattle.qc_layout.specs.Disks.{bits_of, place_of}
use Rattle.qc_layout.specs.Directory.{ListedBitmap, RefusedEntry, Piece, Zeros, Ones, Data, directory_in, listed_in, listed_from, listed_under, first_refused, first_fault, head_fault, word_fault, table_fault, fault_under, table_word, piece_of, piece_at, is_bad_word, spans_in, spans_size}
use Rattle.qc_layout.specs.Owners.{Held, Directory, BitsTable, Bits, Spans, Holds, Meets}
use Rattle.qc_layout.specs.Loading.{Rule, refused_if, held_from, with_data, word_checks, bitmap_checks, bitmaps_checks, spans_checks, directory_checks}
use Rattle.qc_layout.proofs.Claims.{met, meeting, cluster_place, named_cluster}
use Rattle.qc_layout.proofs.Directories.{stores_nothing}
use Rattle.qc_layout.proofs.Holding.{Holders, Claims, claims_same, claims_append, InRange, claims_range, first_rule, rules_append, rules_held}

-- ---- clusters of a range of bytes

-- the clusters that n bytes meet
abbrev AllFrom : List ℕ → Held → ℕ → ℕ → Holders
AllFrom file held offset n other k = (other ≡ held) × Meets (bits_of file) k offset n

claims_from : (file : List ℕ) (held : Held) (offset n : ℕ) → 512 ≤ 2 ^ bits_of file → offset % 2 ^ bits_of file ≡ 0
    → Claims (AllFrom file held offset n) (held_from file held offset n)
unfolding place_of
claims_from file held offset n some whole =
    let c : ℕ = 2 ^ bits_of file in
    let m : ℕ = div_ceil n c in
    let fill = div_ceil_times n c (omega arith) in
    claims_same (InRange held (offset / c) m) (AllFrom file held offset n) (held_from file held offset n)
    (record {
      to = λ other k is. (is.0, meeting c offset n m k (omega arith) whole fill.1 is.1 is.2);
      back = λ other k is. let m = met c offset n m k (omega arith) whole fill.0 is.1.0 is.1.1 in (is.0, m.0, m.1);
    })
    (claims_range held (offset / c) m)

-- ---- the table of a bitmap

-- the data cluster of entry i
abbrev OfWord : List ℕ → ListedBitmap → ℕ → Holders
OfWord file b i held k = (held ≡ Bits b.name i) × (piece_at file b i ≡ Data (place_of (bits_of file) k))

word_whole : (bits word offset : ℕ) → is_bad_word bits word ≡ false → piece_of word ≡ Data offset → offset % 2 ^ bits ≡ 0
word_whole bits word offset good is = grind (arith, common_steps)

claims_data : (file : List ℕ) (b : ListedBitmap) (i : ℕ) (tail : Option RefusedEntry) (piece : Piece) → 512 ≤ 2 ^ bits_of file
    → is_bad_word (bits_of file) (table_word file b i) ≡ false → piece_at file b i ≡ piece
    → Claims (OfWord file b i) (with_data file (Bits b.name i) piece ++ Rule tail ∷ [])
claims_data file b i tail Zeros some good is = λ passed held k named. absurd (cc named.1)
claims_data file b i tail Ones some good is = λ passed held k named. absurd (cc named.1)
claims_data file b i tail (Data offset) some good is =
    let bits : ℕ = bits_of file in
    let place : place_of bits (offset / 2 ^ bits) ≡ offset = cluster_place bits offset some (word_whole bits (table_word file b i) offset good is) in (
      (refl, is ∙ ap Data (sym place)),
      λ passed held k named.
          named.1 named.0.0 (sym (named_cluster bits offset k some (cc named.0.1))),
    )

claims_word : (file : List ℕ) (n : ℕ) (b : ListedBitmap) (i : ℕ) → 512 ≤ 2 ^ bits_of file → Claims (OfWord file b i) (word_checks file n b i)
claims_word file n b i some = λ passed.
    claims_data file b i (refused_if _ n Tail) (piece_at file b i) some (search rules) refl

abbrev OfWords : List ℕ → ListedBitmap → ℕ → ℕ → Holders
OfWords file b a n held k = (i : ℕ) × (a ≤ i) × (i < a + n) × OfWord file b i held k

claims_words : (file : List ℕ) (n : ℕ) (b : ListedBitmap) (a m : ℕ) → 512 ≤ 2 ^ bits_of file
    → Claims (OfWords file b a m) (flat_map (word_checks file n b) (range_with_len a m))
claims_words file n b a zero some = λ held k is. absurd (omega (arith, is.1, is.2))
claims_words file n b a (suc m) some =
    claims_append (OfWord file b a) (OfWords file b (a + 1) m) (OfWords file b a (suc m)) (word_checks file n b a)
    (flat_map (word_checks file n b) (range_with_len (a + 1) m))
    (record {
      left = λ held k is. (a, omega arith, omega arith, is);
      right = λ held k is. (is.0, omega (arith, is.1), omega (arith, is.2), is.3);
      either = λ held k is. grind (arith, common_steps, cases_eq is.0 a);
      apart = λ held k this that. grind (arith, common_steps);
    })
    (claims_word file n b a some) (claims_words file n b (a + 1) m some)

-- ---- a bitmap

-- what a bitmap of the directory holds
abbrev OfBitmap : List ℕ → ListedBitmap → Holders
OfBitmap file b (BitsTable name) k = (b.name ≡ name) × Meets (bits_of file) k b.head.table_offset (8 * b.head.table_size)
OfBitmap file b (Bits name i) k = (b.name ≡ name) × (i < b.head.table_size) × (piece_at file b i ≡ Data (place_of (bits_of file) k))
OfBitmap file b held k = ⊥

claims_bitmap : (file : List ℕ) (n : ℕ) (b : ListedBitmap) → 512 ≤ 2 ^ bits_of file → b.head.table_offset % 2 ^ bits_of file ≡ 0
    → Claims (OfBitmap file b) (bitmap_checks file n b)
claims_bitmap file n b some whole =
    let table : Held = BitsTable b.name in
    let size : ℕ = 8 * b.head.table_size in
    claims_append (AllFrom file table b.head.table_offset size) (OfWords file b 0 b.head.table_size) (OfBitmap file b)
    (held_from file table b.head.table_offset size) (flat_map (word_checks file n b) (range_with_len 0 b.head.table_size))
    (record {
      left = λ held k is. grind (arith, common_steps);
      right = λ held k is. grind (arith, common_steps);
      either = λ held k is. grind (arith, common_steps);
      apart = λ held k this that. grind (arith, common_steps);
    })
    (claims_from file table b.head.table_offset size some whole) (claims_words file n b 0 b.head.table_size some)

-- ---- bitmaps

head_passes : (file : List ℕ) (before : List ListedBitmap) (b : ListedBitmap) → head_fault file before b ≡ None
    → (b.head.table_offset % 2 ^ bits_of file ≡ 0) × (list_any (λ (other : ListedBitmap). bytes_eq other.name b.name) before ≡ false)
head_passes file before b none = grind (arith, common_steps)

pub none_first : {A B : Type 0} (found : Option A) (f : A → B) (rest : Option B) → option_or (option_map f found) rest ≡ None → (found ≡ None) × (rest ≡ None)
none_first None f rest none = (refl, none)
none_first (Some found) f rest none = absurd (cc)

first_passes : (file : List ℕ) (before : List ListedBitmap) (b : ListedBitmap) (bs : List ListedBitmap) → first_refused (head_fault file) before (b ∷ bs) ≡ None
    → (head_fault file before b ≡ None) × (first_refused (head_fault file) (before ++ b ∷ []) bs ≡ None)
first_passes file before b bs none = none_first _ _ _ none

not_named : (name : List ℕ) (before : List ListedBitmap) (b : ListedBitmap)
    → list_any (λ (other : ListedBitmap). bytes_eq other.name name) before ≡ false → Contains before b → b.name ≢ name
not_named name before b none has = λ same.
    let test : ListedBitmap → Bool = λ other. bytes_eq other.name name in
    let itself = same_bytes-itself name in
    grind (arith, common_steps, list_any_at test before has.0 b has.1)

-- the first, or one behind it
either_one : (b : ListedBitmap) (bs : List ListedBitmap) (x : ListedBitmap) → Contains (b ∷ bs) x → (b ≡ x) ⊎ Contains bs x
either_one b bs x has = grind (arith, common_steps)

differs : (file : List ℕ) (before bs : List ListedBitmap) (b x : ListedBitmap) → first_refused (head_fault file) before bs ≡ None → Contains before b
    → Contains bs x → b.name ≢ x.name
differs file before [] b x none has other = absurd (omega (arith, other.1))
differs file before (y ∷ ys) b x none has other =
    let first = first_passes file before y ys none in
    elim (either_one y ys x other) [
      | inl is ↦ subst (λ (z : ListedBitmap). b.name ≢ z.name) is (not_named y.name before b (head_passes file before y first.0).1 has)
      | inr later ↦ differs file (before ++ y ∷ []) ys b x first.1 (Contains-append_left before (y ∷ []) b has) later
    ]

abbrev OfAny : List ℕ → List ListedBitmap → Holders
OfAny file bs held k = (b : ListedBitmap) × Contains bs b × OfBitmap file b held k

-- where none is refused by its numbers or its name
claims_bitmaps : (file : List ℕ) (n : ℕ) (before bs : List ListedBitmap) → 512 ≤ 2 ^ bits_of file → first_refused (head_fault file) before bs ≡ None
    → Claims (OfAny file bs) (bitmaps_checks file n bs)
claims_bitmaps file n before [] some none = λ held k is. absurd (omega (arith, is.1.1))
claims_bitmaps file n before (b ∷ bs) some none =
    let first = first_passes file before b bs none in
    let rest : List ListedBitmap = before ++ b ∷ [] in
    claims_append (OfBitmap file b) (OfAny file bs) (OfAny file (b ∷ bs)) (bitmap_checks file n b) (bitmaps_checks file (n + 1) bs)
    (record {
      left = λ held k is. (b, Contains-append_left (b ∷ []) bs b (Contains-push [] b), is);
      right = λ held k is. (is.0, Contains-append_right (b ∷ []) bs is.0 is.1, is.2);
      either = λ held k is. grind (arith, common_steps, either_one b bs is.0 is.1);
      apart = λ held k this that. grind (arith, common_steps, differs file rest bs b that.0 first.1 (Contains-push before b) that.1);
    })
    (claims_bitmap file n b some (head_passes file before b first.0).0) (claims_bitmaps file (n + 1) rest bs some first.1)

-- ---- a directory

-- what the table of spans holds
abbrev OfSpans : List ℕ → DirPlace → Option ℕ → Holders
OfSpans file place spans held k = (offset : ℕ) × (spans ≡ Some offset) × (held ≡ Spans) × Meets (bits_of file) k offset (spans_size place.count)

spans_whole : (file : List ℕ) (offset : ℕ) → spans_in file ≡ Some offset → offset % 2 ^ bits_of file ≡ 0
spans_whole file offset is = grind (arith, common_steps)

claims_spans : (file : List ℕ) (place : DirPlace) (spans : Option ℕ) → 512 ≤ 2 ^ bits_of file → spans_in file ≡ spans
    → Claims (OfSpans file place spans) (spans_checks file place spans)
claims_spans file place None some is = λ held k of. absurd (cc of.1)
claims_spans file place (Some offset) some is =
    let n : ℕ = spans_size place.count in
    claims_same (AllFrom file Spans offset n) (OfSpans file place (Some offset)) (held_from file Spans offset n)
    (record {
      to = λ held k of. (offset, refl, of.0, of.1);
      back = λ held k of. (of.2, subst (λ (o : ℕ). Meets (bits_of file) k o n) (search rules) of.3);
    })
    (claims_from file Spans offset n some (spans_whole file offset is))

-- of the entries, and of the spans
abbrev Behind : List ℕ → DirPlace → Holders
Behind file place held k = OfAny file (listed_from place.count file place.offset) held k ⊎ OfSpans file place (spans_in file) held k

abbrev HoldsUnder : List ℕ → DirPlace → Holders
HoldsUnder file place held k = Holds file (listed_under file (Some place)) held k

-- The steps claim what bitmaps hold.
pub claims_directory : (file : List ℕ) (place : Option DirPlace) → 512 ≤ 2 ^ bits_of file → directory_in file ≡ place
    → ((p : DirPlace) → place ≡ Some p → p.offset % 2 ^ bits_of file ≡ 0) → Claims (Holds file (listed_in file)) (directory_checks file place)
claims_directory file None some is whole = (stores_nothing file is).held
claims_directory file (Some place) some is whole =
    let listed : List ListedBitmap = listed_from place.count file place.offset in
    let spans : Option ℕ = spans_in file in
    subst (λ (p : Option DirPlace). Claims (Holds file (listed_under file p)) (directory_checks file (Some place))) (sym is)
    (λ few short. claims_append (AllFrom file Directory place.offset place.size) (Behind file place) (HoldsUnder file place)
    (held_from file Directory place.offset place.size) _
    (record {
      left = λ held k of. grind (arith, common_steps);
      right = λ held k of. grind (arith, common_steps);
      either = λ held k of. grind (arith, common_steps);
      apart = λ held k this that. grind (arith, common_steps);
    })
    (claims_from file Directory place.offset place.size some (whole place refl))
    (λ filled heads. claims_append (OfAny file listed) (OfSpans file place spans) (Behind file place) (bitmaps_checks file 0 listed)
    (spans_checks file place spans)
    (record {
      left = λ held k of. inl of;
      right = λ held k of. inr of;
      either = λ held k of. of;
      apart = λ held k this that. grind (arith, common_steps);
    })
    (claims_bitmaps file 0 [] listed some heads) (claims_spans file place spans some refl)))

-- ---- the rules

abbrev entry_fault : ℕ → DirFault → RefusedEntry
entry_fault n fault = record { entry = n; fault = fault }

rules_word : (file : List ℕ) (n : ℕ) (b : ListedBitmap) (i : ℕ) → first_rule (word_checks file n b i) ≡ option_map (entry_fault n) (word_fault file b i)
rules_word file n b i = grind (arith, common_steps)

rules_words : (file : List ℕ) (n : ℕ) (b : ListedBitmap) (is : List ℕ)
    → first_rule (flat_map (word_checks file n b) is) ≡ option_map (entry_fault n) (first_fault (word_fault file b) is)
rules_words file n b [] = refl
rules_words file n b (i ∷ is) = grind (arith, common_steps, rules_append, rules_word, rules_words file n b is)

rules_bitmap : (file : List ℕ) (n : ℕ) (b : ListedBitmap) → first_rule (bitmap_checks file n b) ≡ option_map (entry_fault n) (table_fault file b)
rules_bitmap file n b = simp (rules_append, rules_held, rules_words)

rules_bitmaps : (file : List ℕ) (before bs : List ListedBitmap)
    → first_rule (bitmaps_checks file (length before) bs) ≡ first_refused (λ earlier b. table_fault file b) before bs
rules_bitmaps file before [] = refl
rules_bitmaps file before (b ∷ bs) =
    let next : length (before ++ b ∷ []) ≡ length before + 1 = omega (arith, length-append before (b ∷ [])) in
    rw (rules_append, rules_bitmap, ← next, rules_bitmaps file (before ++ b ∷ []) bs)

rules_spans : (file : List ℕ) (place : DirPlace) (spans : Option ℕ) → first_rule (spans_checks file place spans) ≡ None
rules_spans file place spans = grind (arith, common_steps, rules_held)

-- Their rules are those of the directory.
pub directory_rules : (file : List ℕ) (place : Option DirPlace) → first_rule (directory_checks file place) ≡ fault_under file place
directory_rules file None = refl
directory_rules file (Some place) =
    let bitmaps = rules_bitmaps file [] (listed_from place.count file place.offset) in
    grind (arith, common_steps, rules_append, rules_held, rules_spans)
