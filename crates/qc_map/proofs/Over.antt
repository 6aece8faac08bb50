-- Data over clusters of a row that are stored next to one another.
use Rattle.std.proofs.Common.{◌≡◌, inl, inr, ⊎_elim, ℕ, zero, suc, ◌+◌, ◌-◌, ◌*◌, ◌/◌, ◌%◌, ◌^◌, ◌<◌, ◌≤◌, List, ◌∷◌, length, IsTrue, Bool, sym, ◌∙◌, ap, subst, arith}
use Rattle.std.specs.Prelude.{◌==◌, if◌then◌else◌}
use Rattle.std.proofs.lemmas.Bool.{cases_eq, cases_lt, ne_eqb}
use Rattle.std.proofs.Math.Nat.{mul-le-mul_left}
use Rattle.disk_model.specs.Files.{u64_at}
use Rattle.disk_model.specs.World.{World, Runs, only_file, IsSound}
use Rattle.disk_model.proofs.Laws.{told_at}
use Rattle.image_model.specs.Clusters.{Shape, size, per, place, offset, if_zero, stored, Who, Head, Counts, Block, Tables, Table, Guest, Bitmaps, IsTable, IsGuest, Refers, Forms, host, guest, word_of, IsSafe, IsStanding, Moves, Reads}
use Rattle.image_model.specs.Calls.{IsData, Shows, IsPartly, SameTables, SameBlocks}
use Rattle.image_model.specs.Rows.{IsOverwriting, IsRange, IsSpan, disk_place}
use Rattle.image_model.specs.Runs.{LeavesRest}
use Rattle.image_model.specs.Space.{Kind, Data, Hole, Zeroed}
use Rattle.image_steps.proofs.Kept.{IsStored, locate}
use Rattle.image_steps.proofs.Naming.{host_entry, entry_some}
use Rattle.image_steps.proofs.OnDisk.{disk_overwritten, disk_partly}
use Rattle.image_steps.proofs.Places.{place_same}
use Rattle.map_rows.specs.Stores.{kind_of}
use Rattle.qc_alloc.specs.Allocator.{Allocator, HasTable, Allocates, IsHalfAdded, IsKnown}
use Rattle.cluster_pool.specs.Pool.{block_at}
use Rattle.qc_map.specs.Altering.{Alteration, IsAltered, IsPartlyAltered, Alters, HasAltered, KnowsOn, HasRow, ToldRow}
use Rattle.qc_map.specs.Mapping.{Mapping, IsMapping, IsMapOf}
use Rattle.qc_map.proofs.Steps.{cut_disk, cut_mix}

-- ---- words that are as they were

module _ (s : Shape) (old new : List ℕ) (some : 0 < s.sectors) (tables : SameTables s old new) (blocks : SameBlocks s old new) (words : (a b : ℕ) → a < s.tables → b < per s → word_of s new a b ≡ word_of s old a b) where
  table_on : (a q : ℕ) → IsTable s old a q → IsTable s new a q
  table_on a q is = record { inside = is.inside; some = is.some; at = ap offset (tables a is.inside) ∙ is.at }

  refers_on : (who : Who) (k : ℕ) → Refers s old who k → Refers s new who k
  refers_on Head k is = is
  refers_on Counts k is = is
  refers_on (Block a) k is = record { inside = is.inside; some = is.some; at = blocks a is.inside ∙ is.at }
  refers_on Tables k is = is
  refers_on (Table a) k is = table_on a k is
  refers_on (Guest a b) k is = record {
    table = is.table;
    linked = table_on a is.table is.linked;
    inside = is.inside;
    some = is.some;
    at = ap offset (sym (entry_some s new a b is.table some (table_on a is.table is.linked)) ∙ words a b is.linked.inside is.inside ∙ entry_some s old a b is.table some is.linked) ∙ is.at;
  }
  refers_on (Bitmaps held) k is = is

-- an allocator knows the file that has the same words
pub known_same : (s : Shape) (a : Allocator) (old new : List ℕ) → 0 < s.sectors → SameTables s old new → SameBlocks s old new → ((x y : ℕ) → x < s.tables → y < per s → word_of s new x y ≡ word_of s old x y) → IsKnown s a old → IsKnown s a new
known_same s a old new some tables blocks words is = record {
  exactly = record {
    named = λ who k refers. is.exactly.named who k (refers_on s new old some (λ x x_in. sym (tables x x_in)) (λ x x_in. sym (blocks x x_in)) (λ x y x_in y_in. sym (words x y x_in y_in)) who k refers);
    exact = λ k taken. let who = is.exactly.exact k taken in (who.0, refers_on s old new some tables blocks words who.0 k who.1);
  };
  blocks = λ x x_in. blocks x x_in ∙ is.blocks x x_in;
}

-- and its table of blocks
pub table_same : (s : Shape) (a : Allocator) (old new : List ℕ) → SameBlocks s old new → HasTable s a old → HasTable s a new
table_same s a old new same had x x_in = ⊎_elim
    (λ (is : u64_at old (s.counts + 8 * x) ≡ block_at a.pool x). inl (same x x_in ∙ is))
    (λ (half : IsHalfAdded s a x old). inr (record { missing = half.missing; counts = half.counts; word = same x x_in ∙ half.word }))
    (had x x_in)

-- ---- numbers

pub place_after : (s : Shape) (k t : ℕ) → place s (k + t) ≡ place s k + t * size s
unfolding place
place_after s k t = grind arith

-- clusters of a table end where all tables end, or before
pub row_ends : (p z a b n all : ℕ) → a < all → b + n ≤ p → (a * p + b) * z + n * z ≤ all * p * z
row_ends p z a b n all a_in slots =
    let e : p * (a + 1) ≤ p * all = mul-le-mul_left p (omega (arith, a_in)) in
    let f : p * (a + 1) ≡ a * p + p = grind arith in
    let g : p * all ≡ all * p = grind arith in
    let h : z * (a * p + (b + n)) ≤ z * (all * p) = mul-le-mul_left z (omega (arith, e, f, g, slots)) in
    let l : z * (a * p + (b + n)) ≡ (a * p + b) * z + n * z = grind arith in
    let r : z * (all * p) ≡ all * p * z = grind arith in
    omega (arith, h, l, r)

pub tables_cover : (s : Shape) (m : Mapping) → IsMapping m → IsMapOf s m → m.size ≤ s.tables * per s * size s
tables_cover s m mapping is =
    let entries : 2 ^ m.bits / 8 ≡ per s = omega (arith, is.cluster) in
    let all : m.tables * (2 ^ m.bits / 8) * 2 ^ m.bits ≡ s.tables * per s * size s =
    ap (λ (x : ℕ). x * (2 ^ m.bits / 8) * 2 ^ m.bits) is.tables ∙ ap (λ (x : ℕ). s.tables * x * 2 ^ m.bits) entries ∙ ap (λ (x : ℕ). s.tables * per s * x) is.cluster in
    omega (arith, mapping.covers, all)

pub stored_kind : (w : ℕ) → 0 < stored w → kind_of w ≡ Data
unfolding stored
stored_kind w some = by_flag (w % 2) (offset w) some
  where
    by_flag : (f o : ℕ) → 0 < if_zero f o → (if o == 0 then Hole else if f == 0 then Data else Zeroed) ≡ Data
    by_flag zero zero none = absurd (omega (arith, none))
    by_flag zero (suc o) more = ap (λ (b : Bool). if b then Hole else Data) (ne_eqb (suc o) 0 (λ same. absurd (omega (arith, same))))
    by_flag (suc f) o none = absurd (omega (arith, none))

-- ---- where the row's bytes are

-- n entries from `first` on are stored next to one another from `at` on
pub record IsStoredRun (bits first n at : ℕ) (row : List ℕ) : Type 0 where
  pub many : 0 < n
  pub some : 0 < at
  pub each : (t : ℕ) → t < n → stored (u64_at row (8 * (first + t))) ≡ at + t * 2 ^ bits

-- which clusters they are
record Found (s : Shape) (i j n at : ℕ) (file : List ℕ) : Type 0 where
  cluster : ℕ
  some : 0 < cluster
  is : at ≡ place s cluster
  there : (t : ℕ) → t < n → IsData s i (j + t) (cluster + t) file

find : (s : Shape) (m : Mapping) (spot i j n first count at : ℕ) (row file : List ℕ) → 0 < s.sectors → IsMapOf s m → Forms s file → HasRow s spot i j n row file → IsStoredRun m.bits first count at row → first + count ≤ n → Found s i (j + first) count at file
find s m spot i j n first count at row file sectors is forms has run inside = record {
  cluster = (stored_in 0 run.many).cluster;
  some = (stored_in 0 run.many).is.some;
  is = first_place;
  there = λ t t_in.
      let here = stored_in t t_in in
      let same : here.cluster ≡ (stored_in 0 run.many).cluster + t = place_same s here.cluster ((stored_in 0 run.many).cluster + t) sectors (omega (arith, here.at, host_at t t_in, first_place, place_after s (stored_in 0 run.many).cluster t)) in
      record { is = subst (IsGuest s file i (j + first + t)) same here.is; at = here.at ∙ ap (place s) same };
}
  where
    host_at : (t : ℕ) → t < count → host s file i (j + first + t) ≡ at + t * size s
    host_at t t_in =
        let slot : j + first + t ≡ j + (first + t) = omega arith in
        host_entry s file i (j + first + t) ∙ ap (λ (k : ℕ). stored (word_of s file i k)) slot ∙ ap stored (sym (has.words.each (first + t) (omega (arith, t_in, inside))))
        ∙ run.each t t_in ∙ ap (λ (z : ℕ). at + t * z) is.cluster

    stored_in : (t : ℕ) → t < count → IsStored s file i (j + first + t)
    stored_in t t_in = elim (locate s file i (j + first + t) sectors forms has.linked.inside (omega (arith, t_in, inside, has.slots))) [
      | inl none ↦ absurd (omega (arith, none, host_at t t_in, run.some))
      | inr there ↦ there
    ]

    first_place : at ≡ place s (stored_in 0 run.many).cluster
    first_place = omega (arith, host_at 0 run.many, (stored_in 0 run.many).at)

-- ---- what the call makes

module _ {m : Mapping} (spot i j n first count host from at : ℕ) (row bytes : List ℕ) (mapping : IsMapping m) (run : IsStoredRun m.bits first count host row) (inside : first + count ≤ n) (at_is : at ≡ host + from) (short : from + length bytes ≤ count * 2 ^ m.bits)
    (p : Allocator) {x y : World} (file : p.file ≡ m.file) (sound : IsSound y) (on : Runs (only_file m.file) x y)
    (moves : (s : Shape) (disks : List (List ℕ)) (first last k n i j : ℕ) → IsOverwriting s k n i j at (length bytes) m.file x
    → Moves m.file (IsSafe s (y.seen m.file ∷ disks)) (IsStanding s disks first last m.file) (IsStanding s (y.seen m.file ∷ disks) first last m.file) x y)
    (leaves : (s : Shape) (disks : List (List ℕ)) (first last k n i j : ℕ) → IsOverwriting s k n i j at (length bytes) m.file x → Reads m.file (IsStanding s disks first last m.file) (LeavesRest s i j n) x y)
    (entry : (s : Shape) (disks : List (List ℕ)) (first last k n i j : ℕ) → IsOverwriting s k n i j at (length bytes) m.file x
    → Reads m.file (IsStanding s disks first last m.file) (λ old new. (t : ℕ) → t < n → word_of s new i (j + t) ≡ word_of s old i (j + t)) x y)
    (partly : (s : Shape) (disks : List (List ℕ)) (first last k n i j : ℕ) → IsOverwriting s k n i j at (length bytes) m.file x
    → Reads m.file (IsStanding s disks first last m.file) (λ old new. (t : ℕ) → t < n → IsPartly s i (j + t) (k + t) at bytes old new) x y)
    (rows : (s : Shape) (disks : List (List ℕ)) (first last k n i j : ℕ) → IsOverwriting s k n i j at (length bytes) m.file x → Reads m.file (IsStanding s disks first last m.file) (λ old new. SameTables s old new × SameBlocks s old new) x y) where
  was_told : IsTrue y.tells → IsTrue x.tells
  was_told told = subst IsTrue on.goes.tells told

  -- the alteration, with any goal that keeps data
  abbrev pub over_of : (ℕ → Kind → Kind) → Alteration
  over_of goal = record { table = i; slot = j + first; count = count; from = from; bytes = bytes; goal = goal }

  module _ (s : Shape) (disks : List (List ℕ)) (low : ℕ) (is : IsMapOf s m) (known : ToldRow m spot i j n row s x) (al : Allocates s disks low p x) where
    stands : IsStanding s disks low p.pool.prepared m.file x
    stands = subst (λ (f : ℕ). IsStanding s disks low p.pool.prepared f x) file al.stands

    found : IsTrue x.tells → Found s i (j + first) count host (x.seen m.file)
    found told = find s m spot i j n first count host row (x.seen m.file) is.shape.some is (stands told).seen.forms (known told) run inside

    reaches : from + length bytes ≤ count * size s
    reaches = subst (λ (z : ℕ). from + length bytes ≤ count * z) is.cluster short

    over : (told : IsTrue x.tells) → IsOverwriting s (found told).cluster count i (j + first) at (length bytes) m.file x
    over told =
        let f = found told in
        record {
          shape = is.shape;
          index = (known told).linked.inside;
          slots = omega (arith, (known told).slots, inside);
          some = f.some;
          low = omega (arith, at_is, f.is);
          high = omega (arith, at_is, f.is, reaches, place_after s f.cluster count);
          there = λ also. f.there;
        }

    range : IsTrue x.tells → IsRange s (s.tables * per s * size s) i (j + first) count
    range told = record { shape = is.shape; covers = omega arith; index = (known told).linked.inside; slots = (over told).slots }

    span : (told : IsTrue x.tells) → IsSpan s (s.tables * per s * size s) (found told).cluster count i (j + first) at (length bytes) (disk_place s i (j + first) + from)
    span told = record {
      range = range told;
      some = (over told).some;
      low = (over told).low;
      high = (over told).high;
      is = omega (arith, at_is, (found told).is);
      inside = omega (arith, reaches, row_ends (per s) (size s) i (j + first) count s.tables (known told).linked.inside (over told).slots);
    }

    rest : IsTrue x.tells → LeavesRest s i (j + first) count (x.seen m.file) (y.seen m.file)
    rest told = leaves s disks low p.pool.prepared (found told).cluster count i (j + first) (over told) stands told

    words : IsTrue x.tells → (t : ℕ) → t < count → word_of s (y.seen m.file) i (j + first + t) ≡ word_of s (x.seen m.file) i (j + first + t)
    words told = entry s disks low p.pool.prepared (found told).cluster count i (j + first) (over told) stands told

    same : IsTrue x.tells → SameTables s (x.seen m.file) (y.seen m.file) × SameBlocks s (x.seen m.file) (y.seen m.file)
    same told = rows s disks low p.pool.prepared (found told).cluster count i (j + first) (over told) stands told

    each_word : IsTrue x.tells → (a b : ℕ) → a < s.tables → b < per s → word_of s (y.seen m.file) a b ≡ word_of s (x.seen m.file) a b
    each_word told a b a_in b_in = elim (cases_eq a i) [
      | inr other ↦ (rest told).entries a b a_in b_in (λ is from to. other is)
      | inl table ↦ elim (cases_lt b (j + first)) [
        | inl below ↦ (rest told).entries a b a_in b_in (λ is from to. absurd (omega (arith, below, from)))
        | inr past ↦ elim (cases_lt b (j + first + count)) [
          | inr behind ↦ (rest told).entries a b a_in b_in (λ is from to. absurd (omega (arith, behind, to)))
          | inl less ↦
              let slot : j + first + (b - (j + first)) ≡ b = omega (arith, past) in
              subst (λ (v : ℕ). word_of s (y.seen m.file) v b ≡ word_of s (x.seen m.file) v b) (sym table)
              (subst (λ (v : ℕ). word_of s (y.seen m.file) i v ≡ word_of s (x.seen m.file) i v) slot (words told (b - (j + first)) (omega (arith, past, less))))
        ]
      ]
    ]

    was_data : IsTrue x.tells → (t : ℕ) → t < count → kind_of (word_of s (x.seen m.file) i (j + first + t)) ≡ Data
    was_data told t t_in =
        let slot : j + (first + t) ≡ j + first + t = omega arith in
        let word : u64_at row (8 * (first + t)) ≡ word_of s (x.seen m.file) i (j + first + t) = (known told).words.each (first + t) (omega (arith, t_in, inside)) ∙ ap (word_of s (x.seen m.file) i) slot in
        ap kind_of (sym word) ∙ stored_kind (u64_at row (8 * (first + t))) (omega (arith, run.each t t_in, run.some))

    is_partly : IsTrue x.tells → (goal : ℕ → Kind → Kind) → IsPartlyAltered s m.size (over_of goal) (x.seen m.file) (y.seen m.file)
    is_partly told goal = record {
      rest = rest told;
      tables = λ a a_in other. (same told).0 a a_in;
      kinds = λ t t_in. inl (ap kind_of (words told t t_in));
      disk = cut_mix s m.size (s.tables * per s * size s) (disk_place s i (j + first) + from) bytes (x.seen m.file) (y.seen m.file) (tables_cover s m mapping is)
          (disk_partly s (s.tables * per s * size s) (found told).cluster count i (j + first) at (disk_place s i (j + first) + from) bytes (x.seen m.file) (y.seen m.file) (span told) (rest told) (found told).there
          (partly s disks low p.pool.prepared (found told).cluster count i (j + first) (over told) stands told));
    }

    is_done : IsTrue x.tells → (goal : ℕ → Kind → Kind) → ((t : ℕ) → t < count → goal t Data ≡ Data)
        → ((t : ℕ) (told : IsTrue x.tells) → t < count → Shows s i (j + first + t) ((found told).cluster + t) at bytes (guest s (x.seen m.file) i (j + first + t)) (y.seen m.file)) → IsAltered s m.size (over_of goal) (x.seen m.file) (y.seen m.file)
    is_done told goal keeps_data shows = record {
      rest = rest told;
      tables = λ a a_in other. (same told).0 a a_in;
      kinds = λ t t_in. ap kind_of (words told t t_in) ∙ was_data told t t_in ∙ sym (keeps_data t t_in) ∙ ap (goal t) (sym (was_data told t t_in));
      disk = cut_disk s m.size (s.tables * per s * size s) (disk_place s i (j + first) + from) bytes (x.seen m.file) (y.seen m.file) (tables_cover s m mapping is)
          (disk_overwritten s (s.tables * per s * size s) (found told).cluster count i (j + first) at (disk_place s i (j + first) + from) bytes (x.seen m.file) (y.seen m.file) (span told) (rest told) (λ t t_in. shows t told t_in));
    }

  pub over_alters : (goal : ℕ → Kind → Kind) → Alters m (ToldRow m spot i j n row) (over_of goal) p p x y
  over_alters goal = record {
    moves = λ s disks low is hands known. record {
      since = λ al k k_low k_high c left.
          let told = was_told (told_at y k m.file c sound left) in
          (moves s disks low p.pool.prepared (found s disks low is known al told).cluster count i (j + first) (over s disks low is known al told)).since (stands s disks low is known al) k k_low k_high c left;
      stands = λ al. (
        low,
        hands,
        record {
          is = al.is;
          stands = subst (λ (f : ℕ). IsStanding s (y.seen m.file ∷ disks) low p.pool.prepared f y) (sym file) (λ told_y.
              let told = was_told told_y in
              (moves s disks low p.pool.prepared (found s disks low is known al told).cluster count i (j + first) (over s disks low is known al told)).stands (stands s disks low is known al) told_y);
          table = subst (λ (f : ℕ). IsTrue y.tells → HasTable s p (y.seen f)) (sym file) (λ told_y.
              let told = was_told told_y in
              table_same s p (x.seen m.file) (y.seen m.file) (same s disks low is known al told).1 (subst (λ (f : ℕ). HasTable s p (x.seen f)) file (al.table told)));
        },
      );
    };
    partly = λ s disks low is hands known al told. is_partly s disks low is known al told goal;
  }

  pub over_done : (goal : ℕ → Kind → Kind) → ((t : ℕ) → t < count → goal t Data ≡ Data)
      → ((s : Shape) (disks : List (List ℕ)) (first last k n i j : ℕ) → IsOverwriting s k n i j at (length bytes) m.file x
      → Reads m.file (IsStanding s disks first last m.file) (λ old new. (t : ℕ) → t < n → Shows s i (j + t) (k + t) at bytes (guest s old i (j + t)) new) x y)
      → HasAltered m (ToldRow m spot i j n row) (over_of goal) p x y
  over_done goal keeps_data shows = record {
    done = λ s disks low is hands known al told.
        is_done s disks low is known al told goal keeps_data
        (λ t also t_in. shows s disks low p.pool.prepared (found s disks low is known al also).cluster count i (j + first) (over s disks low is known al also) (stands s disks low is known al) also t t_in);
  }

  pub over_known : KnowsOn m (ToldRow m spot i j n row) p p x y
  over_known = record {
    known = λ s disks low is hands known al told knows.
        known_same s p (x.seen m.file) (y.seen m.file) is.shape.some (same s disks low is known al told).0 (same s disks low is known al told).1 (each_word s disks low is known al told) knows;
  }

  -- the words of the first level
  pub over_tables : (s : Shape) (disks : List (List ℕ)) (low : ℕ) → IsMapOf s m → ToldRow m spot i j n row s x → Reads m.file (Allocates s disks low p) (SameTables s) x y
  over_tables s disks low is known al told = (same s disks low is known al told).0
