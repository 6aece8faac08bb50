-- Zeros over clusters of a row, and entries made holes.
use Rattle.std.proofs.Common.{◌≡◌, ◌≢◌, ◌⊎◌, inl, inr, ⊎_elim, ℕ, true, false, ◌||◌, Option, None, Result, Ok, Err, OnOk, eq-eqb, ◌+◌, ◌-◌, ◌*◌, ◌/◌, ◌%◌, ◌^◌, ◌<◌, ◌≤◌, min, List, [], ◌∷◌, ◌++◌, length, replicate, take, drop, IsTrue, Bool, refl, sym, ◌∙◌, ap, subst, arith, length-drop}
use Rattle.std.specs.Prelude.{◌==◌, ◌&&◌, nat_le, nat_lt, if◌then◌else◌}
use Rattle.std.proofs.lemmas.Bool.{cases_eq, cases_lt, ne_eqb, le-leb, lt-leb, lt-ltb, le-ltb}
use Rattle.std.proofs.lemmas.List.{length-replicate, get_or-replicate, take-replicate, take_all, length-take, replicate-append-replicate}
use Rattle.std.proofs.Math.Nat.{mul_comm, mul-le-mul_left, div-add-mod}
use Rattle.std.proofs.lemmas.Result.{on_ok_weaker}
use Rattle.disk_model.specs.Files.{byte, u64_at, overlay}
use Rattle.disk_model.specs.World.{World, Runs, only_file, reads_of, IsSound}
use Rattle.disk_model.proofs.Laws.{byte-overlay_below, byte-overlay_in, byte-overlay_above, overlay_empty, reading_inside, stay, told_at}
use Rattle.file_device.proofs.Laws.{given}
use Rattle.cluster_pool.specs.Pool.{block_at, room}
use Rattle.bitmap_model.specs.Granules.{is_in}
use Rattle.image_model.specs.Clusters.{Shape, size, per, place, offset, stored, IsTable, IsGuest, Forms, Guest, Of, Ready, Fresh, IsOwn, host, guest, pick, word_of, IsSafe, IsStanding, Standing, Moves, Reads}
use Rattle.image_model.specs.Calls.{SameTables, SameBlocks, IsPartly, Shows}
use Rattle.image_model.specs.Disks.{disk_of, IsMixedOf}
use Rattle.image_model.specs.Rows.{disk_place, zeros_from, IsOverwriting, IsClearing, IsRange, AreZero, AreUntouched, AreCleared}
use Rattle.image_model.specs.Runs.{LeavesRest}
use Rattle.image_model.specs.Space.{Kind, Data, Hole, Zeroed}
use Rattle.image_steps.proofs.Disk.{byte-disk_of}
use Rattle.image_steps.proofs.Good.{all_counted}
use Rattle.image_steps.proofs.Kept.{guest_none, host_none, linked_at, stored_cases}
use Rattle.image_steps.proofs.Naming.{host_entry, entry_none, entry_some}
use Rattle.image_steps.proofs.OnDisk.{disk_cleared, disk_partly_cleared}
use Rattle.image_steps.proofs.Places.{place_some, offset_none}
use Rattle.map_rows.specs.declared.parts.Part.{Part}
use Rattle.map_rows.specs.Stores.{kind_of}
use Rattle.qc_alloc.specs.Allocator.{Allocator, HasTable, Allocates, HandsOut, StandsFrom, IsKnown, DiffersInUse}
use Rattle.qc_alloc.specs.Laws.{IsNamedBy}
use Rattle.qc_alloc.proofs.Naming.{use_leaves, entries_exact, guest_at, none_guest}
use Rattle.qc_map.specs.Altering.{Alteration, spot_of, IsAltered, IsPartlyAltered, Alters, HasAltered, KnowsOn, HasRow, ToldRow, IsSameImage, Always}
use Rattle.qc_map.specs.Filling.{IsNamedIn, ChangesSpoken, AreFreed}
use Rattle.qc_map.specs.Failures.{Went, failure_of}
use Rattle.qc_map.specs.Mapping.{Mapping, IsMapping, IsMapOf, shape_by}
use Rattle.qc_map.specs.Reading.{IsRow, IsPartFor}
use Rattle.qc_map.specs.Zeroing.{KeepsRoom, KeepsTables, IsCut, first_whole, end_whole, zeroes, clears, clears_in, empties, stays}
use Rattle.qc_map.specs.declared.failures.Failing.{Failing}
use Rattle.qc_map.specs.declared.failures.Failing.TheVariants.{Tables}
use Rattle.qc_map.proofs.Given.{nothing_differs, differs_on}
use Rattle.qc_map.proofs.Named.{named_by, named_in}
use Rattle.qc_map.proofs.Over.{IsStoredRun, over_alters, over_done, over_known, over_tables, table_same, tables_cover}
use Rattle.qc_map.proofs.Parts.{IsReadPart, row_there, named_below}
use Rattle.qc_map.proofs.Requests.{zeros_long}
use Rattle.qc_map.proofs.Places.{guest_disk, div_less, div_is, size_by, cluster_by}
use Rattle.qc_map.proofs.Steps.{FitsIn, IsJoined, Carries, alters_on, done_on, known_on, alters_more, left_alters, left_done, left_known, row_on, went_on, same_image_self, same_image_on}
use Rattle.qc_map.proofs.Words.{word_read, first_level_by}

-- ---- zeros over a disk

-- as many bytes, as far as the disk goes
over_zeros : (disk : List ℕ) (total spot a b x : ℕ) → x < total → min a (total - spot) ≡ min b (total - spot) → byte (overlay disk spot (replicate a 0)) x ≡ byte (overlay disk spot (replicate b 0)) x
over_zeros disk total spot a b x inside same = elim (cases_lt x spot) [
  | inl before ↦ byte-overlay_below disk spot (replicate a 0) x before ∙ sym (byte-overlay_below disk spot (replicate b 0) x before)
  | inr from ↦ elim (cases_lt x (spot + a)) [
    | inl to ↦
        byte-overlay_in disk spot (replicate a 0) x from (omega (arith, to, zeros_long a)) ∙ get_or-replicate a (x - spot) 0 0 (omega (arith, from, to))
        ∙ sym (byte-overlay_in disk spot (replicate b 0) x from (omega (arith, to, from, inside, same, zeros_long b)) ∙ get_or-replicate b (x - spot) 0 0 (omega (arith, from, to, inside, same)))
    | inr past ↦
        byte-overlay_above disk spot (replicate a 0) x (omega (arith, past, zeros_long a))
        ∙ sym (byte-overlay_above disk spot (replicate b 0) x (omega (arith, past, inside, same, zeros_long b)))
  ]
]

-- where zeros are shown already
zeros_shown : (s : Shape) (total i j n from bytes : ℕ) (file : List ℕ) → 0 < s.sectors → j + n ≤ per s → from + bytes ≤ size s * n → ((t : ℕ) → t < n → host s file i (j + t) ≡ 0) → (x : ℕ) → x < total
    → byte (disk_of s total file) x ≡ byte (overlay (disk_of s total file) (disk_place s i j + from) (replicate bytes 0)) x
zeros_shown s total i j n from bytes file some slots inside none x x_in = elim (cases_lt x (disk_place s i j + from)) [
  | inl before ↦ sym (byte-overlay_below (disk_of s total file) (disk_place s i j + from) (replicate bytes 0) x before)
  | inr low ↦ elim (cases_lt x (disk_place s i j + from + bytes)) [
    | inr past ↦ sym (byte-overlay_above (disk_of s total file) (disk_place s i j + from) (replicate bytes 0) x (omega (arith, past, zeros_long bytes)))
    | inl to ↦
        let at : x ≡ disk_place s i j + (x - disk_place s i j) = omega (arith, low) in
        let y_in : x - disk_place s i j < size s * n = omega (arith, to, inside, low) in
        byte-disk_of s total file x x_in ∙ sym (guest_disk s file some i j n (x - disk_place s i j) x slots y_in at)
        ∙ guest_none s file i (j + (x - disk_place s i j) / size s) ((x - disk_place s i j) % size s) (none ((x - disk_place s i j) / size s) (div_less (x - disk_place s i j) (size s) n (omega (arith, some)) y_in))
        ∙ sym (byte-overlay_in (disk_of s total file) (disk_place s i j + from) (replicate bytes 0) x low (omega (arith, to, zeros_long bytes))
        ∙ get_or-replicate bytes (x - (disk_place s i j + from)) 0 0 (omega (arith, low, to)))
  ]
]

-- an alteration that asks for nothing
kept_altered : (s : Shape) (total i j n from bytes : ℕ) (goal : ℕ → Kind → Kind) (file : List ℕ) → ((t : ℕ) → t < n → kind_of (word_of s file i (j + t)) ≡ goal t (kind_of (word_of s file i (j + t))))
    → ((x : ℕ) → x < total → byte (disk_of s total file) x ≡ byte (overlay (disk_of s total file) (disk_place s i j + from) (replicate bytes 0)) x) → IsAltered s total (zeroes i j n from bytes goal) file file
kept_altered s total i j n from bytes goal file kinds disk = record {
  rest = record { keeps = record { blocks = λ x q is. is; tables = λ x q is. is }; entries = λ x y x_in y_in other. refl; disk = λ x y o x_in y_in o_in other t low high. refl };
  tables = λ x x_in other. refl;
  kinds = kinds;
  disk = disk;
}

-- ---- zeros in one cluster

-- where it isn't stored, or there are none
pub some_left : {m : Mapping} (spot i j n from bytes : ℕ) (row : List ℕ) (p : Allocator) (x : World) → n ≤ 1 → from + bytes ≤ 2 ^ m.bits * n → (bytes ≡ 0) ⊎ (stored (u64_at row 0) ≡ 0)
    → HasAltered m (ToldRow m spot i j n row) (zeroes i j n from bytes stays) p x x
some_left {m} spot i j n from bytes row p x few inside none = record {
  done = λ s disks low is hands known al told.
      let has = known told in
      let file : List ℕ = x.seen m.file in
      kept_altered s m.size i j n from bytes stays file (λ t t_in. refl) (elim none [
        | inl empty ↦ λ y y_in. ap (λ (l : List ℕ). byte l y) (sym (overlay_empty (disk_of s m.size file) (disk_place s i j + from) (replicate bytes 0) (zeros_long bytes ∙ empty)))
        | inr hole ↦
            zeros_shown s m.size i j n from bytes file is.shape.some has.slots (subst (λ (z : ℕ). from + bytes ≤ z * n) is.cluster inside) (λ t t_in.
            let first : 8 * t ≡ 0 = omega (arith, t_in, few) in
            host_entry s file i (j + t) ∙ ap stored (sym (has.words.each t t_in)) ∙ ap (λ (a : ℕ). stored (u64_at row a)) first ∙ hole)
      ]);
}

-- a row that has bytes has an entry
pub one_entry : (c from k n : ℕ) → n ≤ 1 → k ≢ 0 → from + k ≤ c * n → n ≡ 1
one_entry c from k n few some inside = elim (cases_eq n 0) [
  | inl none ↦ absurd (let e : c * n ≡ 0 = ap (λ (z : ℕ). c * z) none ∙ omega arith in omega (arith, e, inside, some))
  | inr more ↦ omega (arith, more, few)
]

pub bytes_inside : (c from k n : ℕ) → n ≤ 1 → from + k ≤ c * n → from + k ≤ c
bytes_inside c from k n few inside = let e : c * n ≤ c * 1 = mul-le-mul_left c few in omega (arith, e, inside)

-- the first of so many zeros
pub first_zeros : (zeros : List ℕ) (bits k : ℕ) → zeros ≡ replicate (2 ^ bits) 0 → k ≤ 2 ^ bits → take k zeros ≡ replicate k 0
first_zeros zeros bits k is inside = ap (λ (l : List ℕ). take k l) is ∙ take-replicate k (2 ^ bits) 0 inside

-- so many words of 0
pub zero_words : (zeros : List ℕ) (bits k n : ℕ) → zeros ≡ replicate (2 ^ bits) 0 → k ≤ 2 ^ bits → k ≡ 8 * n → AreZero n (take k zeros)
zero_words zeros bits k n is inside many =
    let are : take k zeros ≡ replicate k 0 = first_zeros zeros bits k is inside in
    record {
      long = ap (λ (l : List ℕ). length l) are ∙ zeros_long k ∙ many;
      none = λ t t_in. ap (λ (l : List ℕ). byte l t) are ∙ get_or-replicate k t 0 0 (omega (arith, t_in, many));
    }

abbrev bytes_of : ℕ → ℕ → ℕ → ℕ → List ℕ → (ℕ → Kind → Kind) → Alteration
bytes_of i j count from bytes goal = record { table = i; slot = j; count = count; from = from; bytes = bytes; goal = goal }

as_zeroes : (i j n from k : ℕ) (bytes : List ℕ) (goal : ℕ → Kind → Kind) → n ≡ 1 → bytes ≡ replicate k 0 → bytes_of i (j + 0) 1 from bytes goal ≡ zeroes i j n from k goal
as_zeroes i j n from k bytes goal one is =
    let e : j + 0 ≡ j = omega arith in
    ap (λ (z : ℕ). bytes_of i z 1 from bytes goal) e ∙ ap (λ (z : ℕ). bytes_of i j z from bytes goal) (sym one) ∙ ap (λ (l : List ℕ). bytes_of i j n from l goal) is

-- zeros that were written
module _ {m : Mapping} (spot i j n host from k at : ℕ) (row bytes : List ℕ) (mapping : IsMapping m) (one : n ≡ 1) (some : host ≢ 0) (host_is : host ≡ stored (u64_at row (8 * 0))) (at_is : at ≡ host + from) (bytes_are : bytes ≡ replicate k 0)
    (inside : from + k ≤ 2 ^ m.bits * n) (p : Allocator) {x y : World} (file : p.file ≡ m.file) (sound : IsSound y) (on : Runs (only_file m.file) x y)
    (moves : (s : Shape) (disks : List (List ℕ)) (first last k n i j : ℕ) → IsOverwriting s k n i j at (length bytes) m.file x
    → Moves m.file (IsSafe s (y.seen m.file ∷ disks)) (IsStanding s disks first last m.file) (IsStanding s (y.seen m.file ∷ disks) first last m.file) x y)
    (leaves : (s : Shape) (disks : List (List ℕ)) (first last k n i j : ℕ) → IsOverwriting s k n i j at (length bytes) m.file x → Reads m.file (IsStanding s disks first last m.file) (LeavesRest s i j n) x y)
    (entry : (s : Shape) (disks : List (List ℕ)) (first last k n i j : ℕ) → IsOverwriting s k n i j at (length bytes) m.file x
    → Reads m.file (IsStanding s disks first last m.file) (λ old new. (t : ℕ) → t < n → word_of s new i (j + t) ≡ word_of s old i (j + t)) x y)
    (partly : (s : Shape) (disks : List (List ℕ)) (first last k n i j : ℕ) → IsOverwriting s k n i j at (length bytes) m.file x
    → Reads m.file (IsStanding s disks first last m.file) (λ old new. (t : ℕ) → t < n → IsPartly s i (j + t) (k + t) at bytes old new) x y)
    (rows : (s : Shape) (disks : List (List ℕ)) (first last k n i j : ℕ) → IsOverwriting s k n i j at (length bytes) m.file x → Reads m.file (IsStanding s disks first last m.file) (λ old new. SameTables s old new × SameBlocks s old new) x y) where
  run : IsStoredRun m.bits 0 1 host row
  run = record {
    many = omega arith;
    some = omega (arith, some);
    each = λ t t_in.
        let here : 8 * (0 + t) ≡ 8 * 0 = omega (arith, t_in) in
        let first : t ≡ 0 = omega (arith, t_in) in
        let none : t * 2 ^ m.bits ≡ 0 = ap (λ (z : ℕ). z * 2 ^ m.bits) first ∙ omega arith in
        ap (λ (a : ℕ). stored (u64_at row a)) here ∙ sym host_is ∙ omega (arith, none);
  }

  first_in : 0 + 1 ≤ n
  first_in = omega (arith, one)

  short : from + length bytes ≤ 1 * 2 ^ m.bits
  short =
      let long : length bytes ≡ k = ap (λ (l : List ℕ). length l) bytes_are ∙ zeros_long k in
      let times : 2 ^ m.bits * n ≡ 2 ^ m.bits = ap (λ (z : ℕ). 2 ^ m.bits * z) one ∙ omega arith in
      omega (arith, long, times, inside)

  pub some_alters : Alters m (ToldRow m spot i j n row) (zeroes i j n from k stays) p p x y
  some_alters = subst (λ (e : Alteration). Alters m (ToldRow m spot i j n row) e p p x y) (as_zeroes i j n from k bytes stays one bytes_are)
      (over_alters spot i j n 0 1 host from at row bytes mapping run first_in at_is short p file sound on moves leaves entry partly rows stays)

  pub some_done : ((s : Shape) (disks : List (List ℕ)) (first last k n i j : ℕ) → IsOverwriting s k n i j at (length bytes) m.file x
      → Reads m.file (IsStanding s disks first last m.file) (λ old new. (t : ℕ) → t < n → Shows s i (j + t) (k + t) at bytes (guest s old i (j + t)) new) x y)
      → HasAltered m (ToldRow m spot i j n row) (zeroes i j n from k stays) p x y
  some_done shows = subst (λ (e : Alteration). HasAltered m (ToldRow m spot i j n row) e p x y) (as_zeroes i j n from k bytes stays one bytes_are)
      (over_done spot i j n 0 1 host from at row bytes mapping run first_in at_is short p file sound on moves leaves entry partly rows stays (λ t t_in. refl) shows)

  pub some_known : KnowsOn m (ToldRow m spot i j n row) p p x y
  some_known = over_known spot i j n 0 1 host from at row bytes mapping run first_in at_is short p file sound on moves leaves entry partly rows

  pub some_tables : KeepsTables m (ToldRow m spot i j n row) p x y
  some_tables = record { tables = λ s disks low is hands known al. over_tables spot i j n 0 1 host from at row bytes mapping run first_in at_is short p file sound on moves leaves entry partly rows s disks low is known al }

-- ---- holes

-- the word of a hole
hole_kind : (w : ℕ) → offset w ≡ 0 → kind_of w ≡ Hole
hole_kind w none = ap (λ (o : ℕ). if o == 0 then Hole else if w % 2 == 0 then Data else Zeroed) none

hole_stored : (w : ℕ) → offset w ≡ 0 → stored w ≡ 0
hole_stored w none = ⊎_elim (λ is. is) (λ is. is ∙ none) (stored_cases w)

-- zeros of as many clusters, by another shape of the map
zeros_by : (s : Shape) (m : Mapping) (i j n : ℕ) → IsMapping m → IsMapOf s m → zeros_from s m.size i j n ≡ zeros_from (shape_by m) m.size i j n
zeros_by s m i j n mapping is =
    let same : s.sectors ≡ (shape_by m).sectors = omega (arith, cluster_by m mapping, is.cluster) in
    ap (λ (k : ℕ). replicate (min (n * (512 * k)) (m.size - (i * (64 * k) + j) * (512 * k))) 0) same

-- entries that are holes already
pub holes_left : {m : Mapping} (spot i j n : ℕ) (row : List ℕ) (p : Allocator) (x : World) → IsMapping m → ((t : ℕ) → t < n → offset (u64_at row (8 * t)) ≡ 0) → HasAltered m (ToldRow m spot i j n row) (clears m i j n) p x x
holes_left {m} spot i j n row p x mapping holes = record {
  done = λ s disks low is hands known al told.
      let has = known told in
      let file : List ℕ = x.seen m.file in
      let many : ℕ = min (n * size (shape_by m)) (m.size - disk_place (shape_by m) i j) in
      let none : (t : ℕ) → t < n → offset (word_of s file i (j + t)) ≡ 0 = λ t t_in. ap offset (sym (has.words.each t t_in)) ∙ holes t t_in in
      kept_altered s m.size i j n 0 (min (n * size (shape_by m)) (m.size - disk_place (shape_by m) i j)) empties file (λ t t_in. hole_kind (word_of s file i (j + t)) (none t t_in))
      (zeros_shown s m.size i j n 0 (min (n * size (shape_by m)) (m.size - disk_place (shape_by m) i j)) file is.shape.some has.slots
      (omega (arith, mul_comm (size s) n, ap (λ (z : ℕ). n * z) (size_by s m mapping is)))
      (λ t t_in. host_entry s file i (j + t) ∙ hole_stored (word_of s file i (j + t)) (none t t_in)));
}

-- ---- entries that zeros were written over

pub freed_hands : {p q : Allocator} {G : ℕ → Type 0} → ChangesSpoken p q G → (k : ℕ) → HandsOut k p → HandsOut k q
freed_hands {p} {q} change k hands = subst (HandsOut k) (sym change.is) (record { ready = hands.ready; fresh = hands.fresh })

module _ {m : Mapping} (spot i j n : ℕ) (row words : List ℕ) (mapping : IsMapping m) (zeros : AreZero n words) (p : Allocator) {x y : World} (file : p.file ≡ m.file) (sound : IsSound y) (on : Runs (only_file m.file) x y)
    (moves : (s : Shape) (disks : List (List ℕ)) (first last q i j n : ℕ) → IsClearing s q i j n spot m.file words x
    → Moves m.file (IsSafe s (y.seen m.file ∷ disks)) (IsStanding s disks first last m.file) (IsStanding s (y.seen m.file ∷ disks) first last m.file) x y)
    (leaves : (s : Shape) (disks : List (List ℕ)) (first last q i j n : ℕ) → IsClearing s q i j n spot m.file words x → Reads m.file (IsStanding s disks first last m.file) (LeavesRest s i j n) x y)
    (whether : (s : Shape) (disks : List (List ℕ)) (first last q i j n : ℕ) → IsClearing s q i j n spot m.file words x
    → Reads m.file (IsStanding s disks first last m.file) (λ old new. (x : ℕ) → AreUntouched s q i j n x old new ⊎ AreCleared s q i j n x new) x y)
    (rows : (s : Shape) (disks : List (List ℕ)) (first last q i j n : ℕ) → IsClearing s q i j n spot m.file words x → Reads m.file (IsStanding s disks first last m.file) (λ old new. SameTables s old new × SameBlocks s old new) x y) where
  was_told : IsTrue y.tells → IsTrue x.tells
  was_told told = subst IsTrue on.goes.tells told

  module _ (s : Shape) (disks : List (List ℕ)) (low : ℕ) (is : IsMapOf s m) (known : ToldRow m spot i j n row s x) (al : Allocates s disks low p x) where
    stands : IsStanding s disks low p.pool.prepared m.file x
    stands = subst (λ (f : ℕ). IsStanding s disks low p.pool.prepared f x) file al.stands

    clearing : (told : IsTrue x.tells) → IsClearing s (known told).cluster i j n spot m.file words x
    clearing told = record {
      shape = is.shape;
      slots = record { index = (known told).linked.inside; slots = (known told).slots; at = (known told).at };
      zeros = zeros;
      table = λ also. (known told).linked;
    }

    range : IsTrue x.tells → IsRange s m.size i j n
    range told = record { shape = is.shape; covers = tables_cover s m mapping is; index = (known told).linked.inside; slots = (known told).slots }

    rest : IsTrue x.tells → LeavesRest s i j n (x.seen m.file) (y.seen m.file)
    rest told = leaves s disks low p.pool.prepared (known told).cluster i j n (clearing told) stands told

    same : IsTrue x.tells → SameTables s (x.seen m.file) (y.seen m.file) × SameBlocks s (x.seen m.file) (y.seen m.file)
    same told = rows s disks low p.pool.prepared (known told).cluster i j n (clearing told) stands told

    over_all : overlay (disk_of s m.size (x.seen m.file)) (disk_place s i j) (zeros_from s m.size i j n) ≡ overlay (disk_of s m.size (x.seen m.file)) (spot_of s (clears m i j n)) (zeros_from (shape_by m) m.size i j n)
    over_all =
        let at : disk_place s i j ≡ disk_place s i j + 0 = omega arith in
        ap (λ (d : ℕ). overlay (disk_of s m.size (x.seen m.file)) d (zeros_from s m.size i j n)) at
        ∙ ap (λ (l : List ℕ). overlay (disk_of s m.size (x.seen m.file)) (disk_place s i j + 0) l) (zeros_by s m i j n mapping is)

    none_kind : (w : ℕ) → w ≡ 0 → kind_of w ≡ Hole
    none_kind w none = hole_kind w (ap offset none ∙ offset_none)

    is_partly : IsTrue x.tells → IsPartlyAltered s m.size (clears m i j n) (x.seen m.file) (y.seen m.file)
    is_partly told =
        let either = whether s disks low p.pool.prepared (known told).cluster i j n (clearing told) stands told in
        record {
          rest = rest told;
          tables = λ a a_in other. (same told).0 a a_in;
          kinds = λ t t_in. elim (either ((place s (known told).cluster + 8 * (j + t)) / 512)) [
            | inl was ↦ inl (ap kind_of (was t t_in refl).0)
            | inr none ↦ inr (none_kind (word_of s (y.seen m.file) i (j + t)) (none t t_in refl))
          ];
          disk = subst (λ (l : List ℕ). IsMixedOf m.size (disk_of s m.size (x.seen m.file) ∷ l ∷ []) (disk_of s m.size (y.seen m.file))) over_all
              (disk_partly_cleared s m.size i j n (x.seen m.file) (y.seen m.file) (range told) (rest told) (known told).cluster either);
        }

    is_done : IsTrue x.tells → ((t : ℕ) → t < n → word_of s (y.seen m.file) i (j + t) ≡ 0) → IsAltered s m.size (clears m i j n) (x.seen m.file) (y.seen m.file)
    is_done told none = record {
      rest = rest told;
      tables = λ a a_in other. (same told).0 a a_in;
      kinds = λ t t_in. none_kind (word_of s (y.seen m.file) i (j + t)) (none t t_in);
      disk = λ b b_in.
          ap (λ (l : List ℕ). byte l b) (disk_cleared s m.size i j n (x.seen m.file) (y.seen m.file) (range told) (rest told) none)
          ∙ ap (λ (l : List ℕ). byte l b) over_all;
    }

    is_known : {q : Allocator} → AreFreed p q m.bits n row → IsTrue x.tells → ((t : ℕ) → t < n → word_of s (y.seen m.file) i (j + t) ≡ 0) → IsKnown s p (x.seen m.file) → IsKnown s q (y.seen m.file)
    is_known {q} freed told none knows =
        let st = stands told in
        let some = is.shape.some in
        record {
          exactly = entries_exact s i j n (x.seen m.file) (y.seen m.file) (is_in p.pool.spoken) (is_in q.pool.spoken) some (all_counted s st.role (x.seen m.file) st.seen.lies) (rest told).keeps (rest told).entries (same told).0 (same told).1
              (record {
                kept = λ k no_old no_new. freed.stays k (λ named. no_old (named_by some (known told) m.bits is.cluster st.seen.forms k n (omega arith) named));
                gained = λ k named. absurd (none_guest s (y.seen m.file) i (j + named.behind) k some (none named.behind named.inside) named.names);
                lost = λ k named no_new. freed.gone k (named_in some (known told) m.bits is.cluster k n (omega arith) named);
              })
              knows.exactly;
          blocks = λ b b_in. (same told).1 b b_in ∙ knows.blocks b b_in ∙ ap (λ (a : Allocator). block_at a.pool b) (sym freed.is);
        }

  pub clear_alters : {q : Allocator} → DiffersInUse p q → ((k : ℕ) → HandsOut k p → HandsOut k q) → Alters m (ToldRow m spot i j n row) (clears m i j n) p q x y
  clear_alters {q} differs hands_on = record {
    moves = λ s disks low is hands known. record {
      since = λ al k k_low k_high c left.
          let told = was_told (told_at y k m.file c sound left) in
          (moves s disks low p.pool.prepared (known told).cluster i j n (clearing s disks low is known al told)).since (stands s disks low is known al) k k_low k_high c left;
      stands = λ al. (
        low,
        hands_on low hands,
        use_leaves s (y.seen m.file ∷ disks) low p q y differs (record {
          is = al.is;
          stands = subst (λ (f : ℕ). IsStanding s (y.seen m.file ∷ disks) low p.pool.prepared f y) (sym file) (λ told_y.
              let told = was_told told_y in
              (moves s disks low p.pool.prepared (known told).cluster i j n (clearing s disks low is known al told)).stands (stands s disks low is known al) told_y);
          table = subst (λ (f : ℕ). IsTrue y.tells → HasTable s p (y.seen f)) (sym file) (λ told_y.
              let told = was_told told_y in
              table_same s p (x.seen m.file) (y.seen m.file) (same s disks low is known al told).1 (subst (λ (f : ℕ). HasTable s p (x.seen f)) file (al.table told)));
        }),
      );
    };
    partly = λ s disks low is hands known al told. is_partly s disks low is known al told;
  }

  -- and all of them
  module _ (cleared : (s : Shape) (disks : List (List ℕ)) (first last q i j n : ℕ) → IsClearing s q i j n spot m.file words x
      → Reads m.file (IsStanding s disks first last m.file) (λ old new. IsTable s new i q × ((t : ℕ) → t < n → word_of s new i (j + t) ≡ 0)) x y) where
    pub clear_done : HasAltered m (ToldRow m spot i j n row) (clears m i j n) p x y
    clear_done = record {
      done = λ s disks low is hands known al told.
          is_done s disks low is known al told (cleared s disks low p.pool.prepared (known told).cluster i j n (clearing s disks low is known al told) (stands s disks low is known al) told).1;
    }

    pub clear_known : {q : Allocator} → AreFreed p q m.bits n row → KnowsOn m (ToldRow m spot i j n row) p q x y
    clear_known freed = record {
      known = λ s disks low is hands known al told knows.
          is_known s disks low is known al freed told (cleared s disks low p.pool.prepared (known told).cluster i j n (clearing s disks low is known al told) (stands s disks low is known al) told).1 knows;
    }

  pub clear_tables : KeepsTables m (ToldRow m spot i j n row) p x y
  clear_tables = record { tables = λ s disks low is hands known al told. (same s disks low is known al told).0 }

pub freed_room : {m : Mapping} (spot i j n : ℕ) (row : List ℕ) {p q : Allocator} {x : World} → p.file ≡ m.file → AreFreed p q m.bits n row → KeepsRoom m (ToldRow m spot i j n row) p q x
freed_room {m} spot i j n row {p} {q} {x} file freed = record {
  room = λ s disks low is hands known al told. freed.room (named_below s disks low m spot i j n row p x is al hands file told (known told));
}

pub same_room : {m : Mapping} {P : Shape → World → Type 0} (p : Allocator) (x : World) → KeepsRoom m P p p x
same_room p x = record { room = λ s disks low is hands known al told. refl }

-- ---- how a part is cut

end_case : (l : Bool) (x c n end : ℕ) → end ≡ (if l || (x % c == 0) then n else n - 1) → ((end ≡ n) × ((l ≡ true) ⊎ (x % c ≡ 0))) ⊎ (end ≡ n - 1)
end_case true x c n end is = inl (is, inl refl)
end_case false x c n end is = elim (cases_eq (x % c) 0) [
  | inl whole ↦ inl (is ∙ ap (λ (b : Bool). if b then n else n - 1) (eq-eqb (x % c) 0 whole), inr whole)
  | inr rest ↦ inr (is ∙ ap (λ (b : Bool). if b then n else n - 1) (ne_eqb (x % c) 0 rest))
]

first_case : (from first : ℕ) → first ≡ (if from == 0 then 0 else 1) → ((first ≡ 0) × (from ≡ 0)) ⊎ ((first ≡ 1) × (from ≢ 0))
first_case from first is = elim (cases_eq from 0) [
  | inl none ↦ inl (is ∙ ap (λ (b : Bool). if b then 0 else 1) (eq-eqb from 0 none), none)
  | inr some ↦ inr (is ∙ ap (λ (b : Bool). if b then 0 else 1) (ne_eqb from 0 some), some)
]

-- n clusters end with the bytes
whole_end : (c x n : ℕ) → x % c ≡ 0 → x ≤ c * n → c * n < x + c → x ≡ c * n
whole_end c x n none covers short = elim (cases_lt (x / c) n) [
  | inl less ↦ absurd (let e : c * (x / c + 1) ≤ c * n = mul-le-mul_left c (omega (arith, less)) in let f : c * (x / c + 1) ≡ c * (x / c) + c = grind arith in omega (arith, e, f, div-add-mod x c, none, short))
  | inr more ↦ (let e : c * n ≤ c * (x / c) = mul-le-mul_left c more in omega (arith, e, div-add-mod x c, none, covers))
]

pub is_cut : (p : Part) (c : ℕ) (l : Bool) (first end front tail : ℕ) → 0 < c → 0 < p.length → p.from < c → p.from + p.length ≤ c * p.count → c * p.count < p.from + p.length + c → (p.from ≢ 0 → c < p.from + p.length)
    → first ≡ first_whole p → end ≡ end_whole p c l → front ≡ c * first - p.from → tail ≡ p.from + p.length - c * end → IsCut p c l first end front tail
is_cut p c l first end front tail some long inside covers least apart first_is end_is front_is tail_is = record {
  first_is = first_is;
  end_is = end_is;
  few = omega (arith, few);
  order = elim firsts [
    | inl none ↦ omega (arith, none.0)
    | inr one ↦ elim ends_at [ inl all ↦ omega (arith, one.0, all.0, least_one) | inr less ↦ omega (arith, one.0, less, least_two one.1) ]
  ];
  inside = elim ends_at [ inl all ↦ omega (arith, all.0) | inr less ↦ omega (arith, less) ];
  rest = elim ends_at [ inl all ↦ omega (arith, all.0) | inr less ↦ omega (arith, less) ];
  begins = elim firsts [
    | inl none ↦ (let e : c * first ≡ 0 = ap (λ (n : ℕ). c * n) none.0 ∙ omega arith in omega (arith, e, front_is, none.1))
    | inr one ↦ (let e : c * first ≡ c = ap (λ (n : ℕ). c * n) one.0 ∙ omega arith in omega (arith, e, front_is, inside))
  ];
  tail_in = elim ends_at [
    | inl all ↦ (let e : c * end ≡ c * p.count = ap (λ (n : ℕ). c * n) all.0 in let f : tail ≡ 0 = omega (arith, e, tail_is, covers) in omega (arith, f))
    | inr less ↦
        let one : p.count - end ≡ 1 = omega (arith, less, least_one) in
        let e : c * (p.count - end) ≡ c = ap (λ (n : ℕ). c * n) one ∙ omega arith in
        omega (arith, e, tail_is, last_one less, covers)
  ];
  ends = elim ends_at [
    | inr less ↦ inl (omega (arith, tail_is, last_one less, least))
    | inl all ↦
        let e : c * end ≡ c * p.count = ap (λ (n : ℕ). c * n) all.0 in
        elim all.1 [
          | inl last ↦ inr (last, omega (arith, e, tail_is, covers), omega (arith, e, covers))
          | inr whole ↦ inl (omega (arith, e, tail_is, whole_end c (p.from + p.length) p.count whole covers least))
        ]
  ];
}
  where
    firsts : ((first ≡ 0) × (p.from ≡ 0)) ⊎ ((first ≡ 1) × (p.from ≢ 0))
    firsts = first_case p.from first first_is

    few : first ≤ 1
    few = elim firsts [ inl none ↦ omega (arith, none.0) | inr one ↦ omega (arith, one.0) ]

    ends_at : ((end ≡ p.count) × ((l ≡ true) ⊎ ((p.from + p.length) % c ≡ 0))) ⊎ (end ≡ p.count - 1)
    ends_at = end_case l (p.from + p.length) c p.count end end_is

    least_one : 0 < p.count
    least_one = elim (cases_lt 0 p.count) [
      | inl more ↦ more
      | inr none ↦ absurd (let e : c * p.count ≤ c * 0 = mul-le-mul_left c none in omega (arith, e, covers, long))
    ]

    least_two : p.from ≢ 0 → 1 < p.count
    least_two behind = elim (cases_lt 1 p.count) [
      | inl more ↦ more
      | inr one ↦ absurd (let e : c * p.count ≤ c * 1 = mul-le-mul_left c one in omega (arith, e, covers, apart behind))
    ]

    last_one : end ≡ p.count - 1 → c * p.count ≡ c * end + c
    last_one less =
        let more : p.count ≡ end + 1 = omega (arith, less, least_one) in
        let e : c * (end + 1) ≡ c * end + c = grind arith in
        ap (λ (n : ℕ). c * n) more ∙ e

-- ---- a number of zeros that reaches as far on the disk

reach_altered : (s : Shape) (total i j n from a b : ℕ) (goal : ℕ → Kind → Kind) (old new : List ℕ) → min a (total - (disk_place s i j + from)) ≡ min b (total - (disk_place s i j + from))
    → IsAltered s total (zeroes i j n from a goal) old new → IsAltered s total (zeroes i j n from b goal) old new
reach_altered s total i j n from a b goal old new same done = record {
  rest = done.rest;
  tables = done.tables;
  kinds = done.kinds;
  disk = λ x x_in. done.disk x x_in ∙ over_zeros (disk_of s total old) total (disk_place s i j + from) a b x x_in same;
}

reach_partly : (s : Shape) (total i j n from a b : ℕ) (goal : ℕ → Kind → Kind) (old new : List ℕ) → min a (total - (disk_place s i j + from)) ≡ min b (total - (disk_place s i j + from))
    → IsPartlyAltered s total (zeroes i j n from a goal) old new → IsPartlyAltered s total (zeroes i j n from b goal) old new
reach_partly s total i j n from a b goal old new same partly = record {
  rest = partly.rest;
  tables = partly.tables;
  kinds = partly.kinds;
  disk = λ x x_in. elim (partly.disk x x_in) [
    | inl was ↦ inl was
    | inr rest ↦ elim rest [
      | inl done ↦ inr (inl (λ y low high y_in. done y low high y_in ∙ over_zeros (disk_of s total old) total (disk_place s i j + from) a b y y_in same))
      | inr none ↦ absurd none
    ]
  ];
}

-- so of any shape of the map
pub record ReachesAs (m : Mapping) (i j from a b : ℕ) : Type 0 where
  pub is : (s : Shape) → IsMapOf s m → min a (m.size - (disk_place s i j + from)) ≡ min b (m.size - (disk_place s i j + from))

module _ {m : Mapping} {P : Shape → World → Type 0} {p : Allocator} {x y : World} (i j n from a b : ℕ) (goal : ℕ → Kind → Kind) (reach : ReachesAs m i j from a b) where
  pub reach_alters : {q : Allocator} → Alters m P (zeroes i j n from a goal) p q x y → Alters m P (zeroes i j n from b goal) p q x y
  reach_alters alters = record {
    moves = alters.moves;
    partly = λ s disks low is hands known al told. reach_partly s m.size i j n from a b goal (x.seen m.file) (y.seen m.file) (reach.is s is) (alters.partly s disks low is hands known al told);
  }

  pub reach_done : HasAltered m P (zeroes i j n from a goal) p x y → HasAltered m P (zeroes i j n from b goal) p x y
  reach_done altered = record {
    done = λ s disks low is hands known al told. reach_altered s m.size i j n from a b goal (x.seen m.file) (y.seen m.file) (reach.is s is) (altered.done s disks low is hands known al told);
  }

-- zeros for whole clusters that lie on the disk, as far as they do
pub whole_reach : (m : Mapping) (i j n : ℕ) → IsMapping m → ReachesAs m i j 0 (min (n * size (shape_by m)) (m.size - disk_place (shape_by m) i j)) (n * 2 ^ m.bits)
whole_reach m i j n mapping = record {
  is = λ s is.
      let same : (shape_by m).sectors ≡ s.sectors = omega (arith, cluster_by m mapping, is.cluster) in
      let at : disk_place (shape_by m) i j ≡ disk_place s i j = ap (λ (k : ℕ). (i * (64 * k) + j) * (512 * k)) same in
      let many : n * size (shape_by m) ≡ n * 2 ^ m.bits = ap (λ (z : ℕ). n * z) (cluster_by m mapping) in
      omega (arith, at, many);
}

-- ---- what is done of a part

-- the entries of a part stand there, by what was read
pub record RowThere (m : Mapping) (p : Allocator) (spot i j n : ℕ) (row : List ℕ) (x : World) : Type 0 where
  pub has : (s : Shape) (disks : List (List ℕ)) (low : ℕ) → IsMapOf s m → Allocates s disks low p x → IsTrue x.tells → HasRow s spot i j n row (x.seen m.file)

-- they lie in one table
pub record LiesIn (m : Mapping) (i j n : ℕ) : Type 0 where
  pub lies : (s : Shape) → IsMapOf s m → (i < s.tables) × (j + n ≤ per s)

-- what a call that zeroes says, whatever it answered
pub record Answered (m : Mapping) (P : Shape → World → Type 0) (i j n from bytes : ℕ) (goal : ℕ → Kind → Kind) (p q : Allocator) (x y : World) (result : Result (Unit {0}) Failing) : Type 0 where
  pub alters : Alters m P (zeroes i j n from bytes goal) p q x y
  pub done : OnOk result (HasAltered m P (zeroes i j n from bytes goal) p x y)
  pub tables : KeepsTables m P p x y
  pub room : KeepsRoom m P p q x
  pub known : result ≢ Err Tables → KnowsOn m P p q x y
  pub differs : DiffersInUse p q
  pub went : Went m.file x y (failure_of result)

-- the bytes in the first k clusters are zeroed
abbrev pub Zeroing : (m : Mapping) (i j from : ℕ) (goal : ℕ → Kind → Kind) (p q : Allocator) (x y : World) (k bytes : ℕ) → Type 0
Zeroing m i j from goal p q x y k bytes = Answered m Always i j k from bytes goal p q x y (Ok tt)

-- only reads went before
pub zeroing_none : {m : Mapping} (i j from : ℕ) (goal : ℕ → Kind → Kind) (p : Allocator) {x y : World} → Runs (reads_of m.file) x y → p.file ≡ m.file → IsSound x → Went m.file x y None → Zeroing m i j from goal p p x y 0 0
zeroing_none {m} i j from goal p {x} {y} run file sound went = record {
  alters = left_alters run (λ none. none) file sound;
  done = left_done run (λ none. none) refl refl;
  tables = record { tables = λ s disks low is hands known al told t t_in. ap (λ (c : List ℕ). u64_at c (s.l1 + 8 * t)) (run.files m.file (λ none. none)).seen };
  room = same_room p x;
  known = λ fine. left_known run (λ none. none);
  differs = nothing_differs p;
  went = went;
}

-- it goes on from k clusters, where so many bytes are zeroed
pub record IsNext (m : Mapping) (n from : ℕ) (row : List ℕ) (goal : ℕ → Kind → Kind) (k bytes l f : ℕ) (g : ℕ → Kind → Kind) (sub : List ℕ) : Type 0 where
  pub inside : k + l ≤ n
  pub words : (t : ℕ) → t < l → u64_at sub (8 * t) ≡ u64_at row (8 * (k + t))
  pub next : k * 2 ^ m.bits + f ≡ from + bytes
  pub ends : (bytes ≡ 0) ⊎ (f ≡ 0)
  pub goal_on : (t : ℕ) → t < l → (kind : Kind) → goal (k + t) kind ≡ g t kind

module _ {m : Mapping} {spot i j n from : ℕ} {row : List ℕ} {goal : ℕ → Kind → Kind} {p q r : Allocator} {x y z : World} {k bytes : ℕ} (lies : LiesIn m i j n) (there : RowThere m p spot i j n row x) (file : p.file ≡ m.file) (sound : IsSound z)
    (progress : Zeroing m i j from goal p q x y k bytes) {l f a : ℕ} {g : ℕ → Kind → Kind} {sub : List ℕ} (at : IsNext m n from row goal k bytes l f g sub) {result : Result (Unit {0}) Failing}
    (step : Answered m (ToldRow m (spot + 8 * k) i (j + k) l sub) i (j + k) l f a g q r y z result) where
  done_before : HasAltered m Always (zeroes i j k from bytes goal) p x y
  done_before = progress.done

  carries : Carries m Always (ToldRow m (spot + 8 * k) i (j + k) l sub) p x y
  carries = record {
    carry = λ s disks low is hands known al told_y.
        let told = subst IsTrue progress.went.run.goes.tells told_y in
        row_on s spot i j n k l row sub (x.seen m.file) (y.seen m.file) (there.has s disks low is al told) (done_before.done s disks low is hands known al told).rest at.inside at.words;
  }

  joined : IsJoined m (zeroes i j k from bytes goal) (zeroes i (j + k) l f a g) (zeroes i j (k + l) from (bytes + a) goal)
  joined = record {
    table = refl;
    table_on = refl;
    slot = refl;
    slot_on = refl;
    count = refl;
    from = refl;
    next = omega (arith, at.next, zeros_long bytes);
    ends = elim at.ends [ inl none ↦ inl (zeros_long bytes ∙ none) | inr none ↦ inr (inl none) ];
    bytes = sym (replicate-append-replicate bytes a 0);
    goal = λ t t_in kind. refl;
    goal_on = at.goal_on;
  }

  fits : FitsIn m Always (zeroes i j (k + l) from (bytes + a) goal) x
  fits s is known told = record { index = (lies.lies s is).0; slots = omega (arith, (lies.lies s is).1, at.inside) }

  -- all that is told of a step behind what is done
  module _ (s : Shape) (disks : List (List ℕ)) (low : ℕ) (is : IsMapOf s m) (hands : HandsOut low p) (al : Allocates s disks low p x) (told : IsTrue x.tells) where
    mid : StandsFrom s (y.seen m.file ∷ disks) q y
    mid = (progress.alters.moves s disks low is hands tt).stands al

    told_y : IsTrue y.tells
    told_y = subst IsTrue (sym progress.went.run.goes.tells) told

    room_on : room r.pool ≡ room p.pool
    room_on = step.room.room s (y.seen m.file ∷ disks) mid.0 is mid.1 (carries.carry s disks low is hands tt al) mid.2 told_y ∙ progress.room.room s disks low is hands tt al told

    tables_on : SameTables s (x.seen m.file) (z.seen m.file)
    tables_on t t_in = step.tables.tables s (y.seen m.file ∷ disks) mid.0 is mid.1 (carries.carry s disks low is hands tt al) mid.2 told_y t t_in ∙ progress.tables.tables s disks low is hands tt al told t t_in

  pub answered_on : Answered m Always i j (k + l) from (bytes + a) goal p r x z result
  answered_on = record {
    alters = alters_on joined file fits carries progress.went.run step.went.run sound progress.alters done_before step.alters;
    done = on_ok_weaker result (λ done. done_on joined file fits carries progress.went.run step.went.run sound progress.alters done_before done) step.done;
    tables = record { tables = λ s disks low is hands known al told. tables_on s disks low is hands al told };
    room = record { room = λ s disks low is hands known al told. room_on s disks low is hands al told };
    known = λ fine. known_on carries progress.went.run progress.alters (progress.known (λ same. cc)) (step.known fine);
    differs = differs_on progress.differs step.differs;
    went = went_on progress.went step.went;
  }

  -- a part of the whole, or all of it
  pub answered_wider : (total whole : ℕ) → bytes + a ≤ total → (from + (bytes + a) ≡ whole * 2 ^ m.bits) ⊎ (bytes + a ≡ total) → OnOk result ((k + l ≡ n) × (bytes + a ≡ total)) → Answered m Always i j n from total goal p r x z result
  answered_wider total whole few borders all = record {
    alters = alters_more (record {
      table = refl;
      slot = refl;
      count = at.inside;
      from = refl;
      more = replicate (total - (bytes + a)) 0;
      bytes = (let e : total ≡ bytes + a + (total - (bytes + a)) = omega (arith, few) in ap (λ (b : ℕ). replicate b 0) e ∙ sym (replicate-append-replicate (bytes + a) (total - (bytes + a)) 0));
      whole = whole;
      ends = elim borders [ inl border ↦ inr (inl (omega (arith, zeros_long (bytes + a), border))) | inr all ↦ inr (inr (omega (arith, zeros_long (total - (bytes + a)), all))) ];
      goal = λ t t_in kind. refl;
    }) (λ s is known told. record { index = (lies.lies s is).0; slots = (lies.lies s is).1 }) answered_on.alters;
    done = both_ok result (λ same done. subst (λ (c : ℕ). HasAltered m Always (zeroes i j c from total goal) p x z) same.0 (subst (λ (b : ℕ). HasAltered m Always (zeroes i j (k + l) from b goal) p x z) same.1 done)) all answered_on.done;
    tables = answered_on.tables;
    room = answered_on.room;
    known = answered_on.known;
    differs = answered_on.differs;
    went = answered_on.went;
  }
    where
      both_ok : {A B C : Type 0} (r : Result (Unit {0}) Failing) → (A → B → C) → OnOk r A → OnOk r B → OnOk r C
      both_ok (Ok value) both first second = both first second
      both_ok (Err error) both first second = tt

  pub answered_all : k + l ≡ n → (total : ℕ) → bytes + a ≡ total → Answered m Always i j n from total goal p r x z result
  answered_all same total all = answered_wider total 0 (omega (arith, all)) (inr all) (on_ok_weaker result (λ done. (same, all)) step.done)

-- as many bytes, as far as the disk goes
pub answered_reach : {m : Mapping} {P : Shape → World → Type 0} {p q : Allocator} {x y : World} {result : Result (Unit {0}) Failing} {i j n from a b : ℕ} {goal : ℕ → Kind → Kind} → ReachesAs m i j from a b → Answered m P i j n from a goal p q x y result
    → Answered m P i j n from b goal p q x y result
answered_reach {m} {P} {p} {q} {x} {y} {result} {i} {j} {n} {from} {a} {b} {goal} reach is = record {
  alters = reach_alters i j n from a b goal reach is.alters;
  done = on_ok_weaker result (λ done. reach_done i j n from a b goal reach done) is.done;
  tables = is.tables;
  room = is.room;
  known = is.known;
  differs = is.differs;
  went = is.went;
}

-- the same numbers
pub answered_as : {m : Mapping} {P : Shape → World → Type 0} {p q : Allocator} {x y : World} {result : Result (Unit {0}) Failing} {i j n k from a b : ℕ} {goal : ℕ → Kind → Kind} → n ≡ k → a ≡ b → Answered m P i j n from a goal p q x y result
    → Answered m P i j k from b goal p q x y result
answered_as {m} {P} {p} {q} {x} {y} {result} {i} {j} {n} {k} {from} {a} {b} {goal} many more is =
    subst (λ (c : ℕ). Answered m P i j c from b goal p q x y result) many (subst (λ (c : ℕ). Answered m P i j n from c goal p q x y result) more is)

-- ---- a part's entries

-- words of a piece of a row
slice_word : (row sub : List ℕ) (k l t : ℕ) → sub ≡ take (8 * l) (drop (8 * k) row) → 8 * k + 8 * l ≤ length row → t < l → u64_at sub (8 * t) ≡ u64_at row (8 * (k + t))
slice_word row sub k l t is inside t_in =
    let at : 8 * k + 8 * t ≡ 8 * (k + t) = omega arith in
    word_read row sub (8 * k) (8 * l) t (is ∙ sym (reading_inside row (8 * k) (8 * l) inside)) (omega (arith, t_in)) ∙ ap (u64_at row) at

pub lies_in : (m : Mapping) (part : Part) → IsMapping m → IsPartFor m part → LiesIn m part.table part.slot part.count
lies_in m part mapping is = record {
  lies = λ s of.
      let same : (shape_by m).sectors ≡ s.sectors = omega (arith, cluster_by m mapping, of.cluster) in
      (omega (arith, is.table, of.tables), omega (arith, is.slots, same));
}

-- by what was read: a table that is there, and its words
pub read_there : {m : Mapping} {i j n table : ℕ} {row : List ℕ} {p : Allocator} {x : World} → p.file ≡ m.file → LiesIn m i j n → IsReadPart m i j n table row x → table ≢ 0 → RowThere m p (table + 8 * j) i j n row x
read_there {m} {i} {j} {n} {table} {row} {p} {x} file lies part some = record {
  has = λ s disks low is al told.
      let st = subst (λ (f : ℕ). IsStanding s disks low p.pool.prepared f x) file al.stands told in
      row_there s m (x.seen m.file) row i j n table is st.seen.forms (lies.lies s is).0 (lies.lies s is).1 (given x m.file (λ c. IsRow (shape_by m) c i j n row) part.words told)
      (given x m.file (λ c. table ≡ offset (u64_at c (m.first_level + 8 * i))) part.at told) some;
}

-- where no table is there, all reads as zeros
pub none_there : {m : Mapping} (i j n from bytes : ℕ) (goal : ℕ → Kind → Kind) (p : Allocator) {x y : World} → Runs (reads_of m.file) x y → LiesIn m i j n → from + bytes ≤ 2 ^ m.bits * n → ((t : ℕ) → goal t Hole ≡ Hole)
    → (IsTrue x.tells → offset (u64_at (x.seen m.file) (m.first_level + 8 * i)) ≡ 0) → HasAltered m Always (zeroes i j n from bytes goal) p x y
none_there {m} i j n from bytes goal p {x} {y} run lies inside holes empty = record {
  done = λ s disks low is hands known al told.
      let file : List ℕ = x.seen m.file in
      let none : offset (u64_at file (s.l1 + 8 * i)) ≡ 0 = ap (λ (l : ℕ). offset (u64_at file (l + 8 * i))) (sym is.first_level) ∙ empty told in
      subst (λ (c : List ℕ). IsAltered s m.size (zeroes i j n from bytes goal) file c) (sym (run.files m.file (λ none. none)).seen)
      (kept_altered s m.size i j n from bytes goal file
      (λ t t_in.
      let hole : kind_of (word_of s file i (j + t)) ≡ Hole = hole_kind (word_of s file i (j + t)) (ap offset (entry_none s file i (j + t) none) ∙ offset_none) in
      hole ∙ sym (holes t) ∙ ap (goal t) (sym hole))
      (zeros_shown s m.size i j n from bytes file is.shape.some (lies.lies s is).1 (subst (λ (z : ℕ). from + bytes ≤ z * n) is.cluster inside) (λ t t_in. host_none s file i (j + t) none)));
}

-- ---- kinds

pub clears_hole : (part : Part) (c : ℕ) (l : Bool) (t : ℕ) → clears_in part c l t Hole ≡ Hole
clears_hole part c l t = by_flag (nat_le (first_whole part) t && nat_lt t (end_whole part c l))
  where
    by_flag : (b : Bool) → (if b then Hole else Hole) ≡ Hole
    by_flag true = refl
    by_flag false = refl

clears_whole : (part : Part) (c : ℕ) (l : Bool) (t : ℕ) (kind : Kind) → first_whole part ≤ t → t < end_whole part c l → clears_in part c l t kind ≡ Hole
clears_whole part c l t kind low high =
    ap (λ (b : Bool). if b && nat_lt t (end_whole part c l) then Hole else kind) (le-leb (first_whole part) t low) ∙ ap (λ (b : Bool). if b then Hole else kind) (lt-ltb t (end_whole part c l) high)

clears_front : (part : Part) (c : ℕ) (l : Bool) (t : ℕ) (kind : Kind) → t < first_whole part → clears_in part c l t kind ≡ kind
clears_front part c l t kind low = ap (λ (b : Bool). if b && nat_lt t (end_whole part c l) then Hole else kind) (lt-leb (first_whole part) t low)

clears_back : (part : Part) (c : ℕ) (l : Bool) (t : ℕ) (kind : Kind) → end_whole part c l ≤ t → clears_in part c l t kind ≡ kind
clears_back part c l t kind high =
    ap (λ (b : Bool). if nat_le (first_whole part) t && b then Hole else kind) (le-ltb t (end_whole part c l) high) ∙ by_flag (nat_le (first_whole part) t)
  where
    by_flag : (b : Bool) → (if b && false then Hole else kind) ≡ kind
    by_flag true = refl
    by_flag false = refl

-- ---- the steps of a part

-- zeros in the cluster of one entry, by what their call says
pub some_answered : {m : Mapping} {f b n l : ℕ} {row : List ℕ} {y z : World} {result : Result (Unit {0}) Failing} → n ≡ l
    → ((a : Allocator) (spot i j : ℕ) → a.file ≡ m.file → Alters m (ToldRow m spot i j n row) (zeroes i j n f b stays) a a y z)
    → OnOk result ((a : Allocator) (spot i j : ℕ) → a.file ≡ m.file → HasAltered m (ToldRow m spot i j n row) (zeroes i j n f b stays) a y z)
    → ((a : Allocator) (spot i j : ℕ) → a.file ≡ m.file → KnowsOn m (ToldRow m spot i j n row) a a y z)
    → ((a : Allocator) (spot i j : ℕ) → a.file ≡ m.file → KeepsTables m (ToldRow m spot i j n row) a y z)
    → Went m.file y z (failure_of result) → (p : Allocator) (spot i j : ℕ) → p.file ≡ m.file → Answered m (ToldRow m spot i j l row) i j l f b stays p p y z result
some_answered {m} {f} {b} {n} {l} {row} {y} {z} {result} many alters done known tables went p spot i j file =
    subst (λ (k : ℕ). Answered m (ToldRow m spot i j k row) i j k f b stays p p y z result) many (record {
      alters = alters p spot i j file;
      done = on_ok_weaker result (λ is. is p spot i j file) done;
      tables = tables p spot i j file;
      room = same_room p y;
      known = λ fine. known p spot i j file;
      differs = nothing_differs p;
      went = went;
    })

-- entries made holes
pub clear_answered : {m : Mapping} {spot n l : ℕ} {row : List ℕ} {p q : Allocator} {y z : World} {result : Result (Unit {0}) Failing} → IsMapping m → n ≡ l
    → ((i j : ℕ) → Alters m (ToldRow m spot i j n row) (clears m i j n) p q y z) → OnOk result ((i j : ℕ) → HasAltered m (ToldRow m spot i j n row) (clears m i j n) p y z)
    → ((i j : ℕ) → KeepsRoom m (ToldRow m spot i j n row) p q y) → (result ≢ Err Tables → (i j : ℕ) → KnowsOn m (ToldRow m spot i j n row) p q y z)
    → ((i j : ℕ) → KeepsTables m (ToldRow m spot i j n row) p y z) → DiffersInUse p q → Went m.file y z (failure_of result) → (i j : ℕ) → Answered m (ToldRow m spot i j l row) i j l 0 (l * 2 ^ m.bits) empties p q y z result
clear_answered {m} {spot} {n} {l} {row} {p} {q} {y} {z} {result} mapping many alters done room known tables differs went i j =
    subst (λ (k : ℕ). Answered m (ToldRow m spot i j k row) i j k 0 (k * 2 ^ m.bits) empties p q y z result) many (answered_reach (whole_reach m i j n mapping) (record {
      alters = alters i j;
      done = on_ok_weaker result (λ is. is i j) done;
      tables = tables i j;
      room = room i j;
      known = λ fine. known fine i j;
      differs = differs;
      went = went;
    }))

-- a part within one cluster
pub one_next : {m : Mapping} (part : Part) (l : Bool) (row : List ℕ) → part.from ≢ 0 → part.count ≤ 1 → IsNext m part.count part.from row (clears_in part (2 ^ m.bits) l) 0 0 part.count part.from stays row
one_next {m} part l row some few = record {
  inside = omega arith;
  words = λ t t_in. (let e : 8 * t ≡ 8 * (0 + t) = omega arith in ap (u64_at row) e);
  next = omega arith;
  ends = inl refl;
  goal_on = λ t t_in kind. clears_front part (2 ^ m.bits) l (0 + t) kind (let first : first_whole part ≡ 1 = ap (λ (b : Bool). if b then 0 else 1) (ne_eqb part.from 0 some) in omega (arith, t_in, few, first));
}

pub few_entries : (c from long n : ℕ) → 0 < c → from + long ≤ c → c * n < from + long + c → n ≤ 1
few_entries c from long n some inside short = elim (cases_lt 1 n) [
  | inr few ↦ few
  | inl more ↦ absurd (let e : c * 2 ≤ c * n = mul-le-mul_left c more in omega (arith, e, inside, short))
]

-- how many entries the pieces of a row have
module _ {part : Part} {c : ℕ} {l : Bool} {first end front tail : ℕ} (row : List ℕ) (cut : IsCut part c l first end front tail) (long : length row ≡ 8 * part.count) where
  pub front_many : length (take (8 * first) row) / 8 ≡ first
  front_many = omega (arith, length-take (8 * first) row, long, cut.order, cut.inside)

  pub whole_many : length (take (8 * end - 8 * first) (drop (8 * first) row)) / 8 ≡ end - first
  whole_many = omega (arith, length-take (8 * end - 8 * first) (drop (8 * first) row), length-drop (8 * first) row, long, cut.order, cut.inside)

  pub back_many : length (take (length row - 8 * end) (drop (8 * end) row)) / 8 ≡ part.count - end
  back_many = omega (arith, length-take (length row - 8 * end) (drop (8 * end) row), length-drop (8 * end) row, long)

-- one that isn't: the rest of a cluster, clusters that are covered whole, the beginning of one
module _ {m : Mapping} {part : Part} {l : Bool} {first end front tail spot : ℕ} {row : List ℕ} (lies : LiesIn m part.table part.slot part.count) (cut : IsCut part (2 ^ m.bits) l first end front tail)
    (last : l ≡ true → (s : Shape) → IsMapOf s m → disk_place s part.table part.slot + part.from + part.length ≡ m.size) (long : length row ≡ 8 * part.count) {p : Allocator} {x : World} (file : p.file ≡ m.file) (there : RowThere m p spot part.table part.slot part.count row x) where
  abbrev goal : ℕ → Kind → Kind
  goal = clears_in part (2 ^ m.bits) l

  -- of all that is zeroed, so far as it lies on the disk
  abbrev total : ℕ
  total = front + (end - first) * 2 ^ m.bits + tail

  most_ends : part.from + (front + (end - first) * 2 ^ m.bits) ≡ 2 ^ m.bits * end
  most_ends =
      let at : first + (end - first) ≡ end = omega (arith, cut.order) in
      let e : 2 ^ m.bits * (first + (end - first)) ≡ 2 ^ m.bits * first + (end - first) * 2 ^ m.bits = grind arith in
      let f : 2 ^ m.bits * (first + (end - first)) ≡ 2 ^ m.bits * end = ap (λ (k : ℕ). 2 ^ m.bits * k) at in
      omega (arith, cut.begins, e, f)

  front_next : IsNext m part.count part.from row goal 0 0 first part.from stays (take (8 * first) row)
  front_next = record {
    inside = omega (arith, cut.order, cut.inside);
    words = λ t t_in. slice_word row (take (8 * first) row) 0 first t refl (omega (arith, long, cut.order, cut.inside)) t_in;
    next = omega arith;
    ends = inl refl;
    goal_on = λ t t_in kind. clears_front part (2 ^ m.bits) l (0 + t) kind (omega (arith, t_in, cut.first_is));
  }

  whole_next : IsNext m part.count part.from row goal first front (end - first) 0 empties (take (8 * end - 8 * first) (drop (8 * first) row))
  whole_next = record {
    inside = omega (arith, cut.order, cut.inside);
    words = λ t t_in.
        let many : 8 * end - 8 * first ≡ 8 * (end - first) = omega (arith, cut.order) in
        slice_word row (take (8 * end - 8 * first) (drop (8 * first) row)) first (end - first) t (ap (λ (n : ℕ). take n (drop (8 * first) row)) many) (omega (arith, long, cut.order, cut.inside)) t_in;
    next = omega (arith, cut.begins, mul_comm first (2 ^ m.bits));
    ends = inr refl;
    goal_on = λ t t_in kind. clears_whole part (2 ^ m.bits) l (first + t) kind (omega (arith, cut.first_is)) (omega (arith, t_in, cut.end_is));
  }

  back_next : IsNext m part.count part.from row goal (first + (end - first)) (front + (end - first) * 2 ^ m.bits) (part.count - end) 0 stays (take (length row - 8 * end) (drop (8 * end) row))
  back_next = record {
    inside = omega (arith, cut.order, cut.inside);
    words = λ t t_in.
        let many : length row - 8 * end ≡ 8 * (part.count - end) = omega (arith, long) in
        let place : 8 * (end + t) ≡ 8 * (first + (end - first) + t) = omega (arith, cut.order) in
        slice_word row (take (length row - 8 * end) (drop (8 * end) row)) end (part.count - end) t (ap (λ (n : ℕ). take n (drop (8 * end) row)) many) (omega (arith, long, cut.inside)) t_in ∙ ap (u64_at row) place;
    next = let at : (first + (end - first)) * 2 ^ m.bits ≡ first * 2 ^ m.bits + (end - first) * 2 ^ m.bits = grind arith in omega (arith, at, cut.begins, mul_comm first (2 ^ m.bits));
    ends = inr refl;
    goal_on = λ t t_in kind. clears_back part (2 ^ m.bits) l (first + (end - first) + t) kind (omega (arith, cut.end_is, cut.order));
  }

  -- where it is cut it may reach beyond the disk's end
  reach : ReachesAs m part.table part.slot part.from total part.length
  reach = record {
    is = λ s is. elim cut.ends [
      | inl same ↦ omega (arith, same, most_ends)
      | inr beyond ↦ omega (arith, last beyond.0 s is, beyond.1, beyond.2, most_ends)
    ];
  }

  -- what the part's contract asks for
  abbrev pub Whole : Allocator → World → Result (Unit {0}) Failing → Type 0
  Whole q z result = Answered m Always part.table part.slot part.count part.from part.length goal p q x z result

  module _ {y z : World} {result : Result (Unit {0}) Failing} (sound : IsSound z) (begun : Zeroing m part.table part.slot part.from goal p p x y 0 0)
      (step : Answered m (ToldRow m (spot + 8 * 0) part.table (part.slot + 0) first (take (8 * first) row)) part.table (part.slot + 0) first part.from front stays p p y z result) where
    pub front_on : Answered m Always part.table part.slot first part.from front goal p p x z result
    front_on = answered_as (omega arith) (omega arith) (answered_on lies there file sound begun front_next step)

    pub front_failed : OnOk result ⊥ → Whole p z result
    front_failed none = answered_reach reach (answered_wider lies there file sound begun front_next step total first (omega arith) (inl (omega (arith, cut.begins, mul_comm first (2 ^ m.bits)))) (on_ok_weaker result (λ is. absurd is) none))

  module _ {q : Allocator} {y z : World} {result : Result (Unit {0}) Failing} (sound : IsSound z) (done : Zeroing m part.table part.slot part.from goal p p x y first front)
      (step : Answered m (ToldRow m (spot + 8 * first) part.table (part.slot + first) (end - first) (take (8 * end - 8 * first) (drop (8 * first) row))) part.table (part.slot + first) (end - first) 0 ((end - first) * 2 ^ m.bits) empties p q y z result) where
    pub whole_on : Answered m Always part.table part.slot (first + (end - first)) part.from (front + (end - first) * 2 ^ m.bits) goal p q x z result
    whole_on = answered_on lies there file sound done whole_next step

    pub whole_failed : OnOk result ⊥ → Whole q z result
    whole_failed none = answered_reach reach (answered_wider lies there file sound done whole_next step total end (omega arith) (inl (omega (arith, most_ends, mul_comm end (2 ^ m.bits)))) (on_ok_weaker result (λ is. absurd is) none))

  pub back_on : {q : Allocator} {y z : World} {result : Result (Unit {0}) Failing} → IsSound z → Zeroing m part.table part.slot part.from goal p q x y (first + (end - first)) (front + (end - first) * 2 ^ m.bits)
      → Answered m (ToldRow m (spot + 8 * (first + (end - first))) part.table (part.slot + (first + (end - first))) (part.count - end) (take (length row - 8 * end) (drop (8 * end) row))) part.table (part.slot + (first + (end - first))) (part.count - end) 0 tail stays q q y z result → Whole q z result
  back_on sound done step = answered_reach reach (answered_all lies there file sound done back_next step (omega (arith, cut.order, cut.inside)) total refl)
