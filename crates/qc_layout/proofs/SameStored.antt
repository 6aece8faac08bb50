-- What a file stores of bitmaps lies in its header and in the clusters that bitmaps hold.
use Rattle.std.specs.Int.{Width, byte_len, w16, w32, w64}
use Rattle.std.proofs.lemmas.Grind.{common_steps, div_ceil_times}
use Rattle.std.proofs.Math.Nat.{lt_of_mul-lt-mul_left}
use Rattle.std.proofs.Common.{rules, ◌≡◌, ◌↔◌, inl, inr, ℕ, zero, suc, ◌+◌, ◌-◌, ◌*◌, ◌/◌, ◌%◌, ◌^◌, ◌<◌, ◌≤◌, Bool, List, [], ◌∷◌, ◌++◌, length, Option, Some, subst}
use Rattle.std.proofs.Common.{None, refl, sym, ap, ◌∙◌, arith, subst}
use Rattle.std.specs.Prelude.{nat_le, ◌&&◌, All, Contains, get_or}
use Rattle.std.specs.List.{list_any, list_all, range_with_len}
use Rattle.std.proofs.lemmas.Bool.{cases_Bool}
use Rattle.std.proofs.lemmas.Nat.{pow_pos}
use Rattle.std.proofs.lemmas.List.Elements.{All-nil, All-cons, All-head, All-tail, All-contains, Contains-get_or}
use Rattle.disk_model.specs.Files.{byte, reading, number_at, u64_at}
use Rattle.disk_model.proofs.Laws.{reading_same, number_same}
use Rattle.bitmap_model.specs.Granules.{set_of}
use Rattle.bitmap_model.proofs.Sets.{set_of-same}
use Rattle.qc_layout.specs.declared.faults.DirFault.{DirFault}
use Rattle.qc_layout.specs.declared.header.DirPlace.{DirPlace}
use Rattle.qc_layout.specs.declared.header.Fields.{Fields}
use Rattle.qc_layout.specs.declared.header.Header.{Header}
use Rattle.qc_layout.specs.declared.header.Own.{Own}
use Rattle.qc_layout.specs.declared.header.Own.TheVariants as owns
use Rattle.qc_layout.specs.declared.header.Part.TheVariants as parts
use Rattle.qc_layout.specs.Header.{fields_of}
use Rattle.qc_layout.specs.Extensions.{first_of_kind, own_kind, place_in}
use Rattle.qc_layout.specs.Disks.{bits_of, place_of, words_in, counts_in}
use Rattle.qc_layout.specs.Spelling.{Spells, IsHeaderOf}
use Rattle.qc_layout.specs.Directory.{spans_fit, spans_size, span_place, span_under, spans_under, spans_in, stored_from, stored_in, directory_fault, Piece}
use Rattle.qc_layout.specs.Directory.{Zeros, Ones, Data, is_set_at, is_dirty_in, granules_of, ListedBitmap, directory_in, listed_in, own_of, listed_at}
use Rattle.qc_layout.specs.Directory.{listed_from, end_from, head_at, entry_length, first_fault, first_refused, head_fault, table_fault, word_fault, table_word}
use Rattle.qc_layout.specs.Directory.{piece_at, piece_has, tail_set, granules_each, fault_under, table_needed}
use Rattle.qc_layout.specs.Owners.{Held, Directory, BitsTable, Bits, Spans, Holds, Meets}
use Rattle.qc_layout.specs.Laws.{BeginAlike, HoldAlike, StoresNothing, StoredWhereHeld, start_length}
use Rattle.qc_layout.proofs.Directories.{finds_as_spelled, stores_nothing}
use Rattle.qc_layout.proofs.Starts.{alike_fields, header_from_start}

-- ---- bytes that are the same

record Agree (a b : List ℕ) (low high : ℕ) : Type 0 where
  same : (i : ℕ) → low ≤ i → i < high → byte b i ≡ byte a i

agree_number : {a b : List ℕ} {low high : ℕ} (w : Width) (at : ℕ) → Agree a b low high → low ≤ at → at + byte_len w ≤ high → number_at w b at ≡ number_at w a at
agree_number {a} {b} w at agree from to = number_same w b a at (λ i l h. agree.same i (omega arith) (omega arith))

agree_reading : {a b : List ℕ} {low high : ℕ} (at n : ℕ) → Agree a b low high → low ≤ at → at + n ≤ high → reading b at n ≡ reading a at n
agree_reading {a} {b} at n agree from to = reading_same b a at n (λ i l h. agree.same i (omega arith) (omega arith))

-- those of a range whose clusters are held
held_range : (a b : List ℕ) (held : Held) (from n : ℕ) → HoldAlike a b → ((k : ℕ) → Meets (bits_of a) k from n → Holds a (listed_in a) held k)
    → Agree a b from (from + n)
unfolding place_of
held_range a b held from n alike holds = record {
  same = λ i low high.
      let c : ℕ = 2 ^ bits_of a in
      let some : 0 < c = pow_pos (bits_of a) in
      let k : ℕ = i / c in
      let below : c * k ≤ i = omega arith in
      let above : i < c * k + c = omega arith in
      alike.held held k i (holds k (omega arith, omega arith)) below above;
}

-- ---- what is found in the header

record SameStart (a b : List ℕ) : Type 0 where
  fields : fields_of b ≡ fields_of a
  directory : directory_in b ≡ directory_in a
  own : own_of b ≡ own_of a

same_start : (a b : List ℕ) (h : Header) → Spells parts.Source a h → BeginAlike (start_length a) a b → SameStart a b
same_start a b h s alike =
    let g : Header = record h { own_at = place_in (first_of_kind own_kind s.extensions) } in
    let is : IsHeaderOf parts.Source a g = record {
      spells = record {
        numbers = s.numbers;
        fields = s.fields;
        extensions = s.extensions;
        listed = s.listed;
        rules = s.rules;
        kept = s.kept;
        bitmaps = s.bitmaps;
        own = s.own;
      };
      own_at = refl;
    } in
    let here = finds_as_spelled parts.Source a h s in
    let there = finds_as_spelled parts.Source b g (header_from_start parts.Source a b g alike is).spells in
    record { fields = sym (alike_fields a b alike); directory = there.directory ∙ sym here.directory; own = there.own ∙ sym here.own }

-- ---- entries of the directory

same_head : {a b : List ℕ} {low high : ℕ} (from : ℕ) → Agree a b low high → low ≤ from → from + 24 ≤ high → head_at b from ≡ head_at a from
unfolding head_at
same_head {a} {b} from agree starts ends =
    let table_offset = agree_number w64 from agree (omega arith) (omega arith) in
    let table_size = agree_number w32 (from + 8) agree (omega arith) (omega arith) in
    let flags = agree_number w32 (from + 12) agree (omega arith) (omega arith) in
    let kind = agree.same (from + 16) (omega arith) (omega arith) in
    let bits = agree.same (from + 17) (omega arith) (omega arith) in
    let name = agree_number w16 (from + 18) agree (omega arith) (omega arith) in
    let extra = agree_number w32 (from + 20) agree (omega arith) (omega arith) in
    rw (table_offset, table_size, flags, kind, bits, name, extra) refl

same_entry : {a b : List ℕ} {low high : ℕ} (from : ℕ) → Agree a b low high → low ≤ from → from + entry_length (head_at a from) ≤ high
    → listed_at b from ≡ listed_at a from
same_entry from agree starts ends = grind (arith, common_steps, same_head, agree_reading)

end_low : (n : ℕ) (a : List ℕ) (from : ℕ) → from ≤ end_from n a from
end_low zero a from = omega arith
end_low (suc n) a from = omega (arith, end_low n a (from + entry_length (head_at a from)))

same_listed : {a b : List ℕ} {low high : ℕ} (n from : ℕ) → Agree a b low high → low ≤ from → end_from n a from ≤ high
    → (listed_from n b from ≡ listed_from n a from) × (end_from n b from ≡ end_from n a from)
same_listed zero from agree starts ends = (refl, refl)
same_listed {a} {b} (suc n) from agree starts ends =
    let next = from + entry_length (head_at a from) in
    let head = same_entry from agree starts (omega (arith, end_low n a next)) in
    let rest = same_listed n next agree (omega arith) ends in
    grind (arith, common_steps)

-- ---- tests over a list

same_fault : (f g : ℕ → Option DirFault) (from n : ℕ) → ((i : ℕ) → from ≤ i → i < from + n → f i ≡ g i)
    → first_fault f (range_with_len from n) ≡ first_fault g (range_with_len from n)
same_fault f g from zero each = refl
same_fault f g from (suc n) each = grind (arith, common_steps, each, same_fault f g (from + 1) n)

none_at : (f : ℕ → Option DirFault) (from n i : ℕ) → first_fault f (range_with_len from n) ≡ None → from ≤ i → i < from + n → f i ≡ None
none_at f from zero i none low high = absurd (omega arith)
none_at f from (suc n) i none low high =
    let rest = none_at f (from + 1) n i in
    grind (arith, common_steps)

same_any : (f g : ℕ → Bool) (from n : ℕ) → ((i : ℕ) → from ≤ i → i < from + n → f i ≡ g i)
    → list_any f (range_with_len from n) ≡ list_any g (range_with_len from n)
same_any f g from zero each = refl
same_any f g from (suc n) each = grind (arith, common_steps, each, same_any f g (from + 1) n)

same_all : (f g : ℕ → Bool) (from n : ℕ) → ((i : ℕ) → from ≤ i → i < from + n → f i ≡ g i)
    → list_all f (range_with_len from n) ≡ list_all g (range_with_len from n)
same_all f g from zero each = refl
same_all f g from (suc n) each = grind (arith, common_steps, each, same_all f g (from + 1) n)

-- where none is refused each passes
none_refused : (fault : List ListedBitmap → ListedBitmap → Option DirFault) (P : ListedBitmap → Type 0)
    → ((before : List ListedBitmap) (x : ListedBitmap) → fault before x ≡ None → P x) → (before bs : List ListedBitmap)
    → first_refused fault before bs ≡ None → All P bs
none_refused fault P passes before [] none = All-nil P
none_refused fault P passes before (x ∷ bs) none =
    let parts : (fault before x ≡ None) × (first_refused fault (before ++ x ∷ []) bs ≡ None) = search rules in
    All-cons P x bs (passes before x parts.0) (none_refused fault P passes (before ++ x ∷ []) bs parts.1)

same_refused : (f g : List ListedBitmap → ListedBitmap → Option DirFault) (P : ListedBitmap → Type 0)
    → ((before : List ListedBitmap) (x : ListedBitmap) → P x → f before x ≡ g before x) → (before bs : List ListedBitmap)
    → All P bs → first_refused f before bs ≡ first_refused g before bs
same_refused f g P same before [] all = refl
same_refused f g P same before (x ∷ bs) all =
    let here = same before x (All-head P x bs all) in
    let rest = same_refused f g P same (before ++ x ∷ []) bs (All-tail P x bs all) in
    cc

-- ---- one bitmap

-- its table's words are the same, and the clusters that they name
record SameBits (a b : List ℕ) (x : ListedBitmap) : Type 0 where
  words : (i : ℕ) → i < x.head.table_size → table_word b x i ≡ table_word a x i
  clusters : (i offset : ℕ) → i < x.head.table_size → piece_at a x i ≡ Data offset → Agree a b offset (offset + 2 ^ bits_of a)

good_word : (file : List ℕ) (x : ListedBitmap) (i offset : ℕ) → word_fault file x i ≡ None → piece_at file x i ≡ Data offset → offset % 2 ^ bits_of file ≡ 0
good_word file x i offset none is = grind (arith, common_steps)

same_bits : (a b : List ℕ) (x : ListedBitmap) → HoldAlike a b → Contains (listed_in a) x → table_fault a x ≡ None → SameBits a b x
unfolding place_of
same_bits a b x alike among none =
    let table = held_range a b (BitsTable x.name) x.head.table_offset (8 * x.head.table_size) alike (λ k meets. (x, among, refl, meets)) in
    record {
      words = λ i low. agree_number w64 (x.head.table_offset + 8 * i) table (omega arith) (omega arith);
      clusters = λ i offset low is.
          let c : ℕ = 2 ^ bits_of a in
          let whole = good_word a x i offset (none_at (word_fault a x) 0 x.head.table_size i none (omega arith) (omega arith)) is in
          let place : c * (offset / c) ≡ offset = omega arith in
          record { same = λ j from to. alike.held (Bits x.name i) (offset / c) j (x, among, refl, low, is ∙ ap Data (sym place)) (omega arith) (omega arith) };
    }

same_piece : (a b : List ℕ) (bits : ℕ) (p : Piece) (n : ℕ) → ((offset : ℕ) → p ≡ Data offset → Agree a b offset (offset + 2 ^ bits)) → n < granules_each bits
    → piece_has b p n ≡ piece_has a p n
same_piece a b bits Zeros n agree low = refl
same_piece a b bits Ones n agree low = refl
same_piece a b bits (Data offset) n agree low =
    let c : ℕ = 2 ^ bits in
    let here = (agree offset refl).same (offset + n / 8) (omega arith) (omega arith) in
    cc

same_tail : (a b : List ℕ) (bits : ℕ) (p : Piece) (from : ℕ) → ((offset : ℕ) → p ≡ Data offset → Agree a b offset (offset + 2 ^ bits))
    → tail_set b p from (granules_each bits) ≡ tail_set a p from (granules_each bits)
same_tail a b bits Zeros from agree = refl
same_tail a b bits Ones from agree = refl
same_tail a b bits (Data offset) from agree =
    same_any (λ n. nat_le from n && is_set_at b offset n) (λ n. nat_le from n && is_set_at a offset n) 0 (granules_each bits)
    (λ n low high. ap (λ (t : Bool). nat_le from n && t) (same_piece a b bits (Data offset) n agree (omega arith)))

same_word : (a b : List ℕ) (x : ListedBitmap) (i : ℕ) → fields_of b ≡ fields_of a → SameBits a b x → i < x.head.table_size → word_fault b x i ≡ word_fault a x i
same_word a b x i fields bits low =
    let word = bits.words i low in
    let tail = same_tail a b (bits_of a) (piece_at a x i) (granules_of (fields_of a).size x - i * granules_each (bits_of a))
    (λ offset is. bits.clusters i offset low is) in
    cc

same_table : (a b : List ℕ) (x : ListedBitmap) → fields_of b ≡ fields_of a → SameBits a b x → table_fault b x ≡ table_fault a x
same_table a b x fields bits = same_fault (word_fault b x) (word_fault a x) 0 x.head.table_size (λ i low high. same_word a b x i fields bits (omega arith))

same_set : (a b : List ℕ) (x : ListedBitmap) → fields_of b ≡ fields_of a → SameBits a b x → x.head.table_size ≡ table_needed (bits_of a) (fields_of a).size x
    → set_of (granules_of (fields_of a).size x) (is_dirty_in b x) ≡ set_of (granules_of (fields_of a).size x) (is_dirty_in a x)
same_set a b x fields bits needed =
    let n : ℕ = granules_of (fields_of a).size x in
    let each : ℕ = granules_each (bits_of a) in
    let some : 0 < each = (let some_bytes = pow_pos (bits_of a) in omega arith) in
    let enough : n ≤ x.head.table_size * each = rw needed ((div_ceil_times n each some).0) in
    set_of-same n (is_dirty_in b x) (is_dirty_in a x) (λ k low.
    let below : each * (k / each) ≤ k = omega arith in
    let inside : k / each < x.head.table_size = lt_of_mul-lt-mul_left each (omega arith) in
    let word = bits.words (k / each) inside in
    let piece = same_piece a b (bits_of a) (piece_at a x (k / each)) (k % each) (λ offset is. bits.clusters (k / each) offset inside is) (omega arith) in
    cc)

-- ---- the table of spans

same_fit : (a b : List ℕ) (place : DirPlace) (offset size : ℕ) → fields_of b ≡ fields_of a → Agree a b offset (offset + spans_size place.count)
    → spans_fit b place offset size ≡ spans_fit a place offset size
unfolding counts_in words_in
same_fit a b place offset size fields agree =
    let first = agree_number w64 offset agree (omega arith) (omega arith) in
    let second = agree_number w64 (offset + 8) agree (omega arith) (omega arith) in
    let states = same_all (λ i. nat_le (byte b (span_place offset i)) 2) (λ i. nat_le (byte a (span_place offset i)) 2) 0 place.count
    (λ i low high. ap (λ (n : ℕ). nat_le n 2) (agree.same (span_place offset i) (omega arith) (omega arith))) in
    cc

same_span : (a b : List ℕ) (count : ℕ) (o : Option ℕ) (i : ℕ) → ((offset : ℕ) → o ≡ Some offset → Agree a b offset (offset + spans_size count)) → i < count
    → span_under b o i ≡ span_under a o i
same_span a b count None i agree low = refl
same_span a b count (Some offset) i agree low =
    let there = agree offset refl in
    let state = there.same (span_place offset i) (omega arith) (omega arith) in
    let number : (from : ℕ) → span_place offset i ≤ from → from + 8 ≤ span_place offset (i + 1) → u64_at b from ≡ u64_at a from =
    (λ from starts ends. agree_number w64 from there (omega arith) (omega arith)) in
    grind (arith, common_steps, number)

-- ---- all of a directory

abbrev IsNeeded : List ℕ → ListedBitmap → Type 0
IsNeeded file x = x.head.table_size ≡ table_needed (bits_of file) (fields_of file).size x

-- a directory that breaks no rule
record ArePassed (file : List ℕ) (place : DirPlace) : Type 0 where
  end : end_from place.count file place.offset ≡ place.offset + place.size
  heads : first_refused (head_fault file) [] (listed_from place.count file place.offset) ≡ None
  tables : first_refused (λ before x. table_fault file x) [] (listed_from place.count file place.offset) ≡ None

are_passed : (file : List ℕ) (place : DirPlace) → fault_under file (Some place) ≡ None → ArePassed file place
are_passed file place none = grind (arith, common_steps)

needed : (file : List ℕ) (before : List ListedBitmap) (x : ListedBitmap) → head_fault file before x ≡ None → IsNeeded file x
needed file before x none = grind (arith, common_steps)

length-listed_from : (n : ℕ) (file : List ℕ) (from : ℕ) → length (listed_from n file from) ≡ n
length-listed_from zero file from = refl
length-listed_from (suc n) file from = ap suc (length-listed_from n file (from + entry_length (head_at file from)))

module _ (a b : List ℕ) (place : DirPlace) (start : SameStart a b) (found : directory_in a ≡ Some place)
    (passed : ArePassed a place) (names : spans_in a ≡ None → spans_in b ≡ None) (alike : HoldAlike a b) where
  abbrev listed : List ListedBitmap
  listed = listed_from place.count a place.offset

  same_bitmaps : (listed_from place.count b place.offset ≡ listed) × (end_from place.count b place.offset ≡ end_from place.count a place.offset)
  same_bitmaps =
      let end = passed.end in
      let bytes = held_range a b Directory place.offset place.size alike (λ k meets. (place, found, meets)) in
      same_listed place.count place.offset bytes (omega arith) (omega arith)

  all_bits : All (SameBits a b) listed
  all_bits k d low =
      let tables = none_refused (λ before x. table_fault a x) (λ x. table_fault a x ≡ None) (λ before x none. none) [] listed passed.tables in
      same_bits a b (get_or listed k d) alike (rw found (Contains-get_or listed k d low)) (tables k d low)

  same_faultless : fault_under b (Some place) ≡ fault_under a (Some place)
  same_faultless =
      let fields = start.fields in
      let heads = same_refused (head_fault b) (head_fault a) (SameBits a b) (λ before x same. cc) [] listed all_bits in
      let tables = same_refused (λ before x. table_fault b x) (λ before x. table_fault a x) (SameBits a b)
      (λ before x same. same_table a b x fields same) [] listed all_bits in
      let entries = same_bitmaps.0 in
      let end = same_bitmaps.1 in
      cc

  -- the bytes of a table of spans that is used
  spans_held : (offset : ℕ) → spans_in a ≡ Some offset → Agree a b offset (offset + spans_size place.count)
  spans_held offset is = held_range a b Spans offset (spans_size place.count) alike (λ k meets. (place, offset, found, is, meets))

  spans_by : (own : Own) → own_of a ≡ own → spans_under b (Some place) own ≡ spans_under a (Some place) own
  spans_by owns.Absent is = refl
  spans_by (owns.Target record_) is = refl
  spans_by (owns.Source disk epoch offset size) is = elim (cases_Bool (spans_fit a place offset size)) [
    | inl used ↦
        (let here : spans_in a ≡ Some offset = rw (found, is, used) refl in
        let same = same_fit a b place offset size start.fields (spans_held offset here) in
        cc)
    | inr unused ↦
        (let there : spans_in b ≡ None = names (rw (found, is, unused) refl) in
        let placed = subst (λ (p : Option DirPlace). spans_under b p (own_of b) ≡ None) (start.directory ∙ found) there in
        let none : spans_under b (Some place) (owns.Source disk epoch offset size) ≡ None = subst (λ (own : Own). spans_under b (Some place) own ≡ None) (start.own ∙ is) placed in
        none ∙ sym (rw unused refl))
  ]

  same_spans : spans_in b ≡ spans_in a
  same_spans = rw (start.directory, found, start.own) (spans_by (own_of a) refl)

  same_stored : (i : ℕ) (bs : List ListedBitmap) → All (SameBits a b) bs → All (IsNeeded a) bs → i + length bs ≤ place.count
      → stored_from b i bs ≡ stored_from a i bs
  same_stored i [] bits sizes inside = refl
  same_stored i (x ∷ bs) bits sizes inside =
      let fields = start.fields in
      let set = same_set a b x start.fields (All-head (SameBits a b) x bs bits) (All-head (IsNeeded a) x bs sizes) in
      let span = same_span a b place.count (spans_in a) i spans_held (omega arith) in
      let spans = same_spans in
      let rest = same_stored (i + 1) bs (All-tail (SameBits a b) x bs bits) (All-tail (IsNeeded a) x bs sizes) (omega arith) in
      cc

  same_clusters : bits_of b ≡ bits_of a
  same_clusters = ap (λ (f : Fields). f.cluster_bits) start.fields

  all_stored : stored_from b 0 listed ≡ stored_from a 0 listed
  all_stored =
      let sizes = none_refused (head_fault a) (IsNeeded a) (needed a) [] listed passed.heads in
      same_stored 0 listed all_bits sizes (omega (arith, length-listed_from place.count a place.offset))

  same_in : listed_in b ≡ listed_in a
  same_in = rw (start.directory, found) same_bitmaps.0

  same_holds : (held : Held) (k : ℕ) → Holds b (listed_in b) held k ↔ Holds a (listed_in a) held k
  same_holds Directory k = rw (same_clusters, start.directory) (λ h. h, λ h. h)
  same_holds (BitsTable name) k = rw (same_clusters, same_in) (λ h. h, λ h. h)
  same_holds Spans k = rw (same_clusters, same_spans, start.directory) (λ h. h, λ h. h)
  same_holds (Bits name i) k =
      let word : (x : ListedBitmap) → Contains (listed_in a) x → i < x.head.table_size → table_word b x i ≡ table_word a x i =
      (λ x among low. (All-contains (SameBits a b) listed x all_bits (rw found at among)).words i low) in
      rw (same_clusters, same_in)
      (λ h. (h.0, h.1, h.2, h.3, rw (word h.0 h.1 h.3) at h.4), λ h. (h.0, h.1, h.2, h.3, rw (word h.0 h.1 h.3) h.4))

-- ---- the law

abbrev IsSame : List ℕ → List ℕ → Type 0
IsSame a b = (stored_in b ≡ stored_in a) × (directory_fault b ≡ None) × ((held : Held) (k : ℕ) → Holds b (listed_in b) held k ↔ Holds a (listed_in a) held k)

nothing_same : (a b : List ℕ) → StoresNothing a → StoresNothing b → IsSame a b
nothing_same a b here there = (there.stored ∙ sym here.stored, there.faultless, λ held k. (λ h. absurd (there.held held k h), λ h. absurd (here.held held k h)))

same_under : (a b : List ℕ) (o : Option DirPlace) → directory_in a ≡ o → SameStart a b → directory_fault a ≡ None → (spans_in a ≡ None → spans_in b ≡ None)
    → HoldAlike a b → IsSame a b
unfolding stored_in directory_fault
same_under a b None found start none names alike = nothing_same a b (stores_nothing a found) (stores_nothing b (start.directory ∙ found))
same_under a b (Some place) found start none names alike =
    let under : fault_under a (Some place) ≡ None = rw found at none in
    let passed = are_passed a place under in
    let fault : directory_fault b ≡ None = rw (start.directory, found) (same_faultless a b place start found passed names alike ∙ under) in
    let stored = all_stored a b place start found passed names alike in
    (rw (fault, none, same_in a b place start found passed names alike, found) stored, fault, same_holds a b place start found passed names alike)

pub stored_where_held : StoredWhereHeld
stored_where_held a b h spells none names alike = same_under a b (directory_in a) refl (same_start a b h spells alike.start) none names alike
