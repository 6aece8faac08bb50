-- Data in ready clusters in the place of holes.
use Rattle.std.proofs.Common.{◌≡◌, ◌⊎◌, inl, inr, ℕ, ◌+◌, ◌-◌, ◌*◌, ◌/◌, ◌%◌, ◌^◌, ◌<◌, ◌≤◌, List, ◌∷◌, length, take, drop, length-drop, IsTrue, false, refl, sym, ◌∙◌, ap, subst, arith}
use Rattle.std.proofs.lemmas.Bool.{cases_eq, cases_lt, false≢true}
use Rattle.std.proofs.lemmas.List.{length-take, take-append-drop}
use Rattle.std.proofs.Math.Nat.{mul-le-mul, mul-le-mul_left, mul_comm, pow-le-pow_right}
use Rattle.std.specs.Prelude.{slice_index, min}
use Rattle.disk_model.specs.Files.{u64_at}
use Rattle.disk_model.specs.World.{World, Runs, writes_of, IsSound}
use Rattle.disk_model.proofs.Laws.{told_at}
use Rattle.bitmap_model.specs.Granules.{is_in}
use Rattle.cluster_pool.specs.Pool.{Pool, IsReady, HasTakenRow, room}
use Rattle.image_model.specs.Clusters.{Shape, size, per, place, offset, stored, Head, Guest, IsTable, IsSafe, IsStanding, Moves, Reads, host, word_of}
use Rattle.image_model.specs.Calls.{Told, LeavesGuest, SameTables, SameBlocks}
use Rattle.image_model.specs.Runs.{IsFilling, IsLinking, AreLinks, LeavesRest, IsStored, AreAsBefore, AreStored}
use Rattle.image_model.specs.Rows.{IsSpan, disk_place}
use Rattle.image_model.specs.Space.{Data}
use Rattle.image_steps.proofs.Good.{all_counted}
use Rattle.image_steps.proofs.Kept.{stored_cases}
use Rattle.image_steps.proofs.Naming.{host_entry, entry_some}
use Rattle.image_steps.proofs.OnDisk.{disk_stored, disk_partly_stored}
use Rattle.image_steps.proofs.Places.{place_same, place_some}
use Rattle.map_rows.specs.Stores.{kind_of}
use Rattle.qc_alloc.specs.Allocator.{Allocator, IsAllocator, HasTable, Allocates, HandsOut, StandsFrom, IsKnown, DiffersInUse}
use Rattle.qc_alloc.specs.Laws.{CanBeUsed, PreparedIsClean, UseLeavesImage, EntriesStayExact, IsNamedBy}
use Rattle.qc_map.specs.Altering.{Alteration, stores, UsesUpTo, IsAltered, IsPartlyAltered, Alters, HasAltered, KnowsOn, ToldRow, AreAllOpen}
use Rattle.qc_map.specs.Filling.{IsNamedIn, NamesBelow, ChangesSpoken, AreGiven, AreFreed}
use Rattle.qc_map.specs.Mapping.{Mapping, IsMapping, IsMapOf}
use Rattle.qc_map.proofs.Given.{spoken_differs}
use Rattle.qc_map.proofs.Named.{place_times, open_host, named_by, named_in}
use Rattle.qc_map.proofs.Over.{known_same, place_after, row_ends, table_same, tables_cover, stored_kind}
use Rattle.qc_map.proofs.Steps.{IsWider, cut_disk, cut_mix}

-- ---- numbers

-- where a cluster below the reach begins
pub shifted : (bits k : ℕ) → bits ≤ 21 → k < 1073741824 → (k * 2 ^ bits % 18446744073709551616 ≡ k * 2 ^ bits) × (k * 2 ^ bits ≤ 2251799813685248)
shifted bits k high low =
    let pow : 2 ^ bits ≤ 2 ^ 21 = pow-le-pow_right {n = 2} (omega arith) {i = bits} {j = 21} high in
    let few : k * 2 ^ bits ≤ 1073741824 * 2097152 = mul-le-mul {n₁ = k} {m₁ = 2 ^ bits} {n₂ = 1073741824} {m₂ = 2097152} (omega (arith, low)) pow in
    (omega (arith, few), omega (arith, few))

pub run_below : (p : Pool) (k n : ℕ) → 0 < n → ((x : ℕ) → k ≤ x → x < k + n → IsReady p x) → k + n ≤ 1073741824
run_below p k n some ready = let last = (ready (k + n - 1) (omega (arith, some)) (omega (arith, some))).reach in omega (arith, last, some)

-- the bytes of the first clusters
module _ (bits count from end long length_piece : ℕ) (high : bits ≤ 21) (some : 0 < count) (few : count ≤ 64) (inside : from < 2 ^ bits) (is : end ≡ min (count * 2 ^ bits - from) long) (piece_is : length_piece ≤ end) where
  all_from : from ≤ count * 2 ^ bits
  all_from = let more : 2 ^ bits * 1 ≤ 2 ^ bits * count = mul-le-mul_left (2 ^ bits) (omega (arith, some)) in omega (arith, more, inside, mul_comm count (2 ^ bits))

  pub piece_within : from + length_piece ≤ 2 ^ bits * count
  piece_within = omega (arith, is, piece_is, all_from, mul_comm count (2 ^ bits))

  pub piece_small : from + length_piece ≤ 134217728
  piece_small =
      let pow : 2 ^ bits ≤ 2 ^ 21 = pow-le-pow_right {n = 2} (omega arith) {i = bits} {j = 21} high in
      let most : count * 2 ^ bits ≤ 64 * 2097152 = mul-le-mul {n₁ = count} {m₁ = 2 ^ bits} {n₂ = 64} {m₂ = 2097152} few pow in
      omega (arith, most, piece_within, mul_comm count (2 ^ bits))

abbrev pub piece_of : ℕ → ℕ → ℕ → ℕ → List ℕ → Alteration
piece_of i j n from bytes = record { table = i; slot = j; count = n; from = from; bytes = bytes; goal = stores }

-- Neighbours that were ready are taken, and data and entries were written, whatever that answered.
pub record Fill (m : Mapping) (a0 a1 : Allocator) (spot total k n at from : ℕ) (row words piece : List ℕ) (w0 w1 : World) : Type 0 where
  pub is0 : IsAllocator a0
  pub file : a0.file ≡ m.file
  pub bits : a0.pool.bits ≡ m.bits
  pub taken : HasTakenRow a0.pool a1.pool k n
  pub ready : (x : ℕ) → k ≤ x → x < k + n → IsReady a0.pool x
  pub same : (a1.file ≡ a0.file) × (a1.table ≡ a0.table)
  pub hands : (first : ℕ) → HandsOut first a0 → (first ≤ k) × HandsOut (k + n) a1
  pub clean : PreparedIsClean
  pub use_law : UseLeavesImage
  pub exact_law : EntriesStayExact
  pub mapping : IsMapping m
  pub few : n ≤ total
  pub at_is : at ≡ k * 2 ^ m.bits + from
  pub within : from + length piece ≤ 2 ^ m.bits * n
  pub links : (s : Shape) → 2 ^ m.bits ≡ 512 * s.sectors → AreLinks s k n words
  pub opened : AreAllOpen total row
  pub run : Runs (writes_of m.file) w0 w1
  pub sound : IsSound w1
  pub moves : (s : Shape) (disks : List (List ℕ)) (first last k n q i j : ℕ) → IsFilling s first last k n at (length piece) m.file w0 → IsLinking s (k + n) k n q i j spot m.file words w0
      → Moves m.file (IsSafe s (w1.seen m.file ∷ disks)) (IsStanding s disks first last m.file) (IsStanding s (w1.seen m.file ∷ disks) (k + n) last m.file) w0 w1
  pub leaves : (s : Shape) (disks : List (List ℕ)) (first last k n q i j : ℕ) → IsFilling s first last k n at (length piece) m.file w0 → IsLinking s (k + n) k n q i j spot m.file words w0
      → Reads m.file (IsStanding s disks first last m.file) (LeavesRest s i j n) w0 w1
  pub either : (s : Shape) (disks : List (List ℕ)) (first last k n q i j : ℕ) → IsFilling s first last k n at (length piece) m.file w0 → IsLinking s (k + n) k n q i j spot m.file words w0
      → Reads m.file (IsStanding s disks first last m.file) (λ old new. (x : ℕ) → AreAsBefore s q i j n x old new ⊎ AreStored s k q i j n x words at piece new) w0 w1
  pub rows : (s : Shape) (disks : List (List ℕ)) (first last k n q i j : ℕ) → IsFilling s first last k n at (length piece) m.file w0 → IsLinking s (k + n) k n q i j spot m.file words w0
      → Reads m.file (IsStanding s disks first last m.file) (λ old new. SameTables s old new × SameBlocks s old new) w0 w1

-- after Ok, and where the data wasn't written
abbrev pub StoredAll : (f at spot : ℕ) (words piece : List ℕ) → World → World → Type 0
StoredAll f at spot words piece w0 w1 = (s : Shape) (disks : List (List ℕ)) (first last k n q i j : ℕ) → IsFilling s first last k n at (length piece) f w0 → IsLinking s (k + n) k n q i j spot f words w0
    → Reads f (IsStanding s disks first last f) (λ old new. (m : ℕ) → m < n → IsStored s i (j + m) (k + m) (u64_at words (8 * m)) at piece new) w0 w1

abbrev pub LeftAlike : (f at spot : ℕ) (words piece : List ℕ) → World → World → Type 0
LeftAlike f at spot words piece w0 w1 = (s : Shape) (disks : List (List ℕ)) (first last k n q i j : ℕ) → IsFilling s first last k n at (length piece) f w0 → IsLinking s (k + n) k n q i j spot f words w0
    → Reads f (IsStanding s disks first last f) (LeavesGuest s) w0 w1

module _ {m : Mapping} {a0 a1 : Allocator} {spot total k n at from : ℕ} {row words piece : List ℕ} {w0 w1 : World} (f : Fill m a0 a1 spot total k n at from row words piece w0 w1) where
  next_same : a1.pool.next ≡ a0.pool.next
  next_same = ap (λ (p : Pool). p.next) f.taken.is

  pub taken_differs : DiffersInUse a0 a1
  taken_differs = record {
    file = f.same.0;
    table = f.same.1;
    bits = ap (λ (p : Pool). p.bits) f.taken.is;
    blocks = ap (λ (p : Pool). p.blocks) f.taken.is;
    prepared = ap (λ (p : Pool). p.prepared) f.taken.is;
  }

  pub given_differs : (a2 : Allocator) (G : ℕ → Type 0) → ChangesSpoken a1 a2 G → DiffersInUse a0 a2
  given_differs a2 G is =
      let one = taken_differs in
      let two = spoken_differs a1 a2 G is in
      record { file = two.file ∙ one.file; table = two.table ∙ one.table; bits = two.bits ∙ one.bits; blocks = two.blocks ∙ one.blocks; prepared = two.prepared ∙ one.prepared }

  pub taken_hands : (first : ℕ) → HandsOut first a0 → HandsOut (k + n) a1
  taken_hands first hands = (f.hands first hands).1

  pub given_hands : (a2 : Allocator) (G : ℕ → Type 0) → ChangesSpoken a1 a2 G → (first : ℕ) → HandsOut first a0 → HandsOut (k + n) a2
  given_hands a2 G is first hands = let h = taken_hands first hands in subst (HandsOut (k + n)) (sym is.is) (record { ready = h.ready; fresh = h.fresh })

  -- ---- at a standing image

  module _ (s : Shape) (disks : List (List ℕ)) (first i j : ℕ) (is : IsMapOf s m) (hands : HandsOut first a0) (known : ToldRow m spot i j total row s w0) (al : Allocates s disks first a0 w0) where
    stands0 : IsStanding s disks first a0.pool.prepared m.file w0
    stands0 = subst (λ (g : ℕ). IsStanding s disks first a0.pool.prepared g w0) f.file al.stands

    some : 0 < s.sectors
    some = is.shape.some

    used : IsTrue w0.tells → (x : ℕ) → k ≤ x → x < k + n → CanBeUsed s x m.file w0
    used told x low high =
        let ready = f.ready x low high in
        subst (λ (g : ℕ). CanBeUsed s x g w0) f.file (f.clean s disks first a0 w0 x f.is0 al told (omega (arith, (f.hands first hands).0, low)) (omega (arith, ready.below, f.is0.pool.order)) ready.linked ready.differs)

    some_k : IsTrue w0.tells → 0 < k
    some_k told = elim (cases_eq k 0) [
      | inl none ↦ absurd ((used told k (omega arith) (omega (arith, f.taken.some))).seen.unnamed Head none)
      | inr other ↦ omega (arith, other)
    ]

    at_place : at ≡ place s k + from
    at_place = let e : k * 2 ^ m.bits ≡ k * size s = ap (λ (z : ℕ). k * z) is.cluster in omega (arith, f.at_is, e, place_times s k)

    at_end : place s (k + n) ≡ place s k + n * size s
    at_end = place_after s k n

    within : from + length piece ≤ size s * n
    within = subst (λ (z : ℕ). from + length piece ≤ z * n) is.cluster f.within

    high : at + length piece ≤ place s (k + n)
    high = omega (arith, at_place, at_end, within, mul_comm (size s) n)

    filling : IsTrue w0.tells → IsFilling s first a0.pool.prepared k n at (length piece) m.file w0
    filling told = record {
      shape = is.shape;
      some = some_k told;
      low = omega (arith, at_place);
      high = high;
      from = (f.hands first hands).0;
      to = let last = f.ready (k + n - 1) (omega (arith, f.taken.some)) (omega (arith, f.taken.some)) in omega (arith, last.below, f.is0.pool.order, f.taken.some);
      takeable = λ x x_in told. (used told (k + x) (omega arith) (omega (arith, x_in))).takeable;
    }

    holes : IsTrue w0.tells → (x : ℕ) → x < n → host s (w0.seen m.file) i (j + x) ≡ 0
    holes told x x_in = open_host some (known told) f.opened x (omega (arith, x_in, f.few))

    linking : (told : IsTrue w0.tells) → IsLinking s (k + n) k n (known told).cluster i j spot m.file words w0
    linking told =
        let has = known told in
        record {
          shape = is.shape;
          slots = record { index = has.linked.inside; slots = omega (arith, has.slots, f.few); at = has.at };
          some = some_k told;
          below = omega arith;
          links = f.links s is.cluster;
          opened = λ again. record { linked = has.linked; none = holes told };
        }

    told0 : IsTrue w1.tells → IsTrue w0.tells
    told0 told = subst IsTrue f.run.goes.tells told

    old : List ℕ
    old = w0.seen m.file

    new : List ℕ
    new = w1.seen m.file

    wrote : IsTrue w0.tells → Moves m.file (IsSafe s (w1.seen m.file ∷ disks)) (IsStanding s disks first a0.pool.prepared m.file) (IsStanding s (w1.seen m.file ∷ disks) (k + n) a0.pool.prepared m.file) w0 w1
    wrote told = f.moves s disks first a0.pool.prepared k n (known told).cluster i j (filling told) (linking told)

    left : IsTrue w0.tells → LeavesRest s i j n (w0.seen m.file) (w1.seen m.file)
    left told = f.leaves s disks first a0.pool.prepared k n (known told).cluster i j (filling told) (linking told) stands0 told

    same_rows : IsTrue w0.tells → SameTables s (w0.seen m.file) (w1.seen m.file) × SameBlocks s (w0.seen m.file) (w1.seen m.file)
    same_rows told = f.rows s disks first a0.pool.prepared k n (known told).cluster i j (filling told) (linking told) stands0 told

    allocates : Allocates s (w1.seen m.file ∷ disks) (k + n) a0 w1
    allocates = record {
      is = al.is;
      stands = subst (λ (g : ℕ). IsStanding s (w1.seen m.file ∷ disks) (k + n) a0.pool.prepared g w1) (sym f.file) (λ told. (wrote (told0 told)).stands stands0 told);
      table = subst (λ (g : ℕ). Told (HasTable s a0) g w1) (sym f.file)
          (λ told. table_same s a0 (w0.seen m.file) (w1.seen m.file) (same_rows (told0 told)).1 (subst (λ (g : ℕ). HasTable s a0 (w0.seen g)) f.file (al.table (told0 told))));
    }

    pub filled_moves : (a2 : Allocator) → DiffersInUse a0 a2 → HandsOut (k + n) a2 → Moves m.file (IsSafe s (w1.seen m.file ∷ disks)) (Allocates s disks first a0) (StandsFrom s (w1.seen m.file ∷ disks) a2) w0 w1
    filled_moves a2 differs hands2 = record {
      since = λ was x x_low x_high c leaves. (wrote (told0 (told_at w1 x m.file c f.sound leaves))).since stands0 x x_low x_high c leaves;
      stands = λ was. (k + n, hands2, f.use_law s (w1.seen m.file ∷ disks) (k + n) a0 a2 w1 differs allocates);
    }

    -- ---- on the disk

    all : ℕ
    all = s.tables * per s * size s

    span : (told : IsTrue w0.tells) → IsSpan s (s.tables * per s * size s) k n i j at (length piece) (disk_place s i j + from)
    span told =
        let has = known told in
        let slots : j + n ≤ per s = omega (arith, has.slots, f.few) in
        let fits = row_ends (per s) (size s) i j n s.tables has.linked.inside slots in
        record {
          range = record { shape = is.shape; covers = omega arith; index = has.linked.inside; slots = slots };
          some = some_k told;
          low = omega (arith, at_place);
          high = high;
          is = omega (arith, at_place);
          inside = omega (arith, fits, within, mul_comm (size s) n);
        }

    data_kind : (told : IsTrue w0.tells) (x word : ℕ) → IsStored s i (j + x) (k + x) word at piece (w1.seen m.file) → kind_of (word_of s (w1.seen m.file) i (j + x)) ≡ Data
    data_kind told x word st =
        let here : stored (word_of s (w1.seen m.file) i (j + x)) ≡ place s (k + x) = sym (host_entry s (w1.seen m.file) i (j + x)) ∙ st.host_is in
        stored_kind (word_of s (w1.seen m.file) i (j + x)) (omega (arith, here, place_some s (k + x) some (omega (arith, some_k told))))

    pub filled_partly : IsTrue w0.tells → IsPartlyAltered s m.size (piece_of i j n from piece) (w0.seen m.file) (w1.seen m.file)
    filled_partly told =
        let has = known told in
        let either = f.either s disks first a0.pool.prepared k n has.cluster i j (filling told) (linking told) stands0 told in
        record {
          rest = left told;
          tables = λ x x_in other. (same_rows told).0 x x_in;
          kinds = λ x x_in. elim (either ((place s has.cluster + 8 * (j + x)) / 512)) [
            | inl was ↦ inl (ap kind_of (was x x_in refl))
            | inr now ↦ inr (data_kind told x (u64_at words (8 * x)) (now x x_in refl))
          ];
          disk = cut_mix s m.size (s.tables * per s * size s) (disk_place s i j + from) piece (w0.seen m.file) (w1.seen m.file) (tables_cover s m f.mapping is)
              (disk_partly_stored s (s.tables * per s * size s) k n i j at (disk_place s i j + from) piece (w0.seen m.file) (w1.seen m.file) (span told) (left told) has.cluster words (holes told) either);
        }

    stored_all : StoredAll m.file at spot words piece w0 w1 → IsTrue w0.tells → (x : ℕ) → x < n → IsStored s i (j + x) (k + x) (u64_at words (8 * x)) at piece (w1.seen m.file)
    stored_all stored told = stored s disks first a0.pool.prepared k n (known told).cluster i j (filling told) (linking told) stands0 told

    pub filled_done : StoredAll m.file at spot words piece w0 w1 → IsTrue w0.tells → IsAltered s m.size (piece_of i j n from piece) (w0.seen m.file) (w1.seen m.file)
    filled_done stored told = record {
      rest = left told;
      tables = λ x x_in other. (same_rows told).0 x x_in;
      kinds = λ x x_in. data_kind told x (u64_at words (8 * x)) (stored_all stored told x x_in);
      disk = cut_disk s m.size (s.tables * per s * size s) (disk_place s i j + from) piece (w0.seen m.file) (w1.seen m.file) (tables_cover s m f.mapping is)
          (disk_stored s (s.tables * per s * size s) k n i j at (disk_place s i j + from) piece (w0.seen m.file) (w1.seen m.file) (span told) (left told) words (holes told) (stored_all stored told));
    }

    -- ---- what is referred to

    unspoken : (x : ℕ) → k ≤ x → x < k + n → is_in a0.pool.spoken x ≡ false
    unspoken x low high = (f.ready x low high).unspoken

    spoken : (x : ℕ) → k ≤ x → x < k + n → IsTrue (is_in a1.pool.spoken x)
    spoken x low high = f.taken.spoken.inside x low high (omega (arith, (f.ready x low high).reach, f.is0.pool.spoken))

    others : (x : ℕ) → (k ≤ x → x < k + n → ⊥) → is_in a1.pool.spoken x ≡ is_in a0.pool.spoken x
    others x out = f.taken.spoken.others x (elim (cases_lt x k) [
      | inl below ↦ inl below
      | inr from_k ↦ elim (cases_lt x (k + n)) [
        | inl to ↦ absurd (out from_k to)
        | inr past ↦ inr past
      ]
    ])

    module _ (held : StoredAll m.file at spot words piece w0 w1) (told : IsTrue w0.tells) where
      table_on : IsTable s (w1.seen m.file) i (known told).cluster
      table_on = (left told).keeps.tables i (known told).cluster (known told).linked

      offset_on : (x : ℕ) → x < n → offset (word_of s (w1.seen m.file) i (j + x)) ≡ place s (k + x)
      offset_on x x_in =
          let here : stored (word_of s (w1.seen m.file) i (j + x)) ≡ place s (k + x) = sym (host_entry s (w1.seen m.file) i (j + x)) ∙ (stored_all held told x x_in).host_is in
          elim (stored_cases (word_of s (w1.seen m.file) i (j + x))) [
            | inl none ↦ absurd (omega (arith, here, none, place_some s (k + x) some (omega (arith, some_k told))))
            | inr at_offset ↦ sym at_offset ∙ here
          ]

      in_run : (x : ℕ) → IsNamedBy s (w1.seen m.file) i j n x → (k ≤ x) × (x < k + n)
      in_run x named =
          let guest = named.names in
          let at_x : place s x ≡ place s (k + named.behind) = sym guest.at ∙ ap offset (sym (entry_some s (w1.seen m.file) i (j + named.behind) guest.table some guest.linked)) ∙ offset_on named.behind named.inside in
          let is_x : x ≡ k + named.behind = place_same s x (k + named.behind) some at_x in
          (omega (arith, is_x), omega (arith, is_x, named.inside))

      of_run : (x : ℕ) → k ≤ x → x < k + n → IsNamedBy s (w1.seen m.file) i j n x
      of_run x low high_x =
          let inside : x - k < n = omega (arith, low, high_x) in
          let is_x : k + (x - k) ≡ x = omega (arith, low) in
          record {
            behind = x - k;
            inside = inside;
            names = record {
              table = (known told).cluster;
              linked = table_on;
              inside = omega (arith, inside, (known told).slots, f.few);
              some = omega (arith, some_k told, low);
              at = ap offset (sym (entry_some s (w1.seen m.file) i (j + (x - k)) (known told).cluster some table_on)) ∙ offset_on (x - k) inside ∙ ap (place s) is_x;
            };
          }

      pub filled_known : (a2 : Allocator) → AreFreed a1 a2 m.bits n row → IsKnown s a0 (w0.seen m.file) → IsKnown s a2 (w1.seen m.file)
      filled_known a2 freed knows =
          let st = stands0 told in
          let by = λ (x : ℕ) (is_named : IsNamedIn m.bits n row x). named_by some (known told) m.bits is.cluster st.seen.forms x n f.few is_named in
          record {
            exactly = f.exact_law s i j n (w0.seen m.file) (w1.seen m.file) (is_in a0.pool.spoken) (is_in a2.pool.spoken) is.shape (all_counted s st.role (w0.seen m.file) st.seen.lies) (left told) (same_rows told).0 (same_rows told).1
                (record {
                  kept = λ x not_old not_new. freed.stays x (λ is_named. not_old (by x is_named)) ∙ others x (λ low high_x. not_new (of_run x low high_x));
                  gained = λ x named.
                      let run = in_run x named in
                      freed.stays x (λ is_named. absurd (false≢true (sym (unspoken x run.0 run.1) ∙ knows.exactly.named (Guest i (j + (by x is_named).behind)) x (by x is_named).names))) ∙ spoken x run.0 run.1;
                  lost = λ x named not_new. freed.gone x (named_in some (known told) m.bits is.cluster x n f.few named);
                })
                knows.exactly;
            blocks = λ x x_in. (same_rows told).1 x x_in ∙ knows.blocks x x_in ∙ ap (λ (l : List ℕ). slice_index l x) (sym (given_differs a2 _ freed).blocks);
          }

    -- where the data wasn't written
    pub given_known : (a2 : Allocator) → LeftAlike m.file at spot words piece w0 w1 → AreGiven a1 a2 k n → IsTrue w0.tells → IsKnown s a0 (w0.seen m.file) → IsKnown s a2 (w1.seen m.file)
    given_known a2 alike given told knows =
        let leaves = alike s disks first a0.pool.prepared k n (known told).cluster i j (filling told) (linking told) stands0 told in
        let same = known_same s a0 (w0.seen m.file) (w1.seen m.file) some (same_rows told).0 (same_rows told).1 leaves.alike.entries knows in
        record {
          exactly = record {
            named = λ who x refers. sym (back x) ∙ same.exactly.named who x refers;
            exact = λ x is_spoken. same.exactly.exact x (back x ∙ is_spoken);
          };
          blocks = λ x x_in. same.blocks x x_in ∙ ap (λ (l : List ℕ). slice_index l x) (sym (given_differs a2 _ given).blocks);
        }
      where
        back : (x : ℕ) → is_in a0.pool.spoken x ≡ is_in a2.pool.spoken x
        back x = elim (cases_lt x k) [
          | inl below ↦ sym (given.stays x (λ g. omega (arith, g.0, below)) ∙ others x (λ low high_x. omega (arith, low, below)))
          | inr from_k ↦ elim (cases_lt x (k + n)) [
            | inl to ↦ unspoken x from_k to ∙ sym (given.gone x (from_k, to))
            | inr past ↦ sym (given.stays x (λ g. omega (arith, g.1, past)) ∙ others x (λ low high_x. omega (arith, high_x, past)))
          ]
        ]

  -- ---- the clauses

  pub fill_alters : (a2 : Allocator) → DiffersInUse a0 a2 → ((first : ℕ) → HandsOut first a0 → HandsOut (k + n) a2) → (i j : ℕ) → Alters m (ToldRow m spot i j total row) (piece_of i j n from piece) a0 a2 w0 w1
  fill_alters a2 differs hands2 i j = record {
    moves = λ s disks first is hands known. record {
      since = λ al. (filled_moves s disks first i j is hands known al a2 differs (hands2 first hands)).since al;
      stands = λ al. (filled_moves s disks first i j is hands known al a2 differs (hands2 first hands)).stands al;
    };
    partly = λ s disks first is hands known al told. filled_partly s disks first i j is hands known al told;
  }

  pub fill_done : StoredAll m.file at spot words piece w0 w1 → (i j : ℕ) → HasAltered m (ToldRow m spot i j total row) (piece_of i j n from piece) a0 w0 w1
  fill_done stored i j = record { done = λ s disks first is hands known al told. filled_done s disks first i j is hands known al stored told }

  pub fill_known : (a2 : Allocator) → StoredAll m.file at spot words piece w0 w1 → AreFreed a1 a2 m.bits n row → (i j : ℕ) → KnowsOn m (ToldRow m spot i j total row) a0 a2 w0 w1
  fill_known a2 stored freed i j = record { known = λ s disks first is hands known al told knows. filled_known s disks first i j is hands known al stored told a2 freed knows }

  pub fill_alike : (a2 : Allocator) → LeftAlike m.file at spot words piece w0 w1 → AreGiven a1 a2 k n → (i j : ℕ) → KnowsOn m (ToldRow m spot i j total row) a0 a2 w0 w1
  fill_alike a2 alike given i j = record { known = λ s disks first is hands known al told knows. given_known s disks first i j is hands known al a2 alike given told knows }

  -- ---- room

  pub freed_room : (a2 : Allocator) → AreFreed a1 a2 m.bits n row → room a0.pool ≡ room a1.pool + n → NamesBelow m.bits total row a0.pool.next → room a2.pool + n ≡ room a0.pool
  freed_room a2 freed one below =
      let same = freed.room (λ x named. omega (arith, below x (record { entry = named.entry; inside = omega (arith, named.inside, f.few); some = named.some; is = named.is }), next_same)) in
      omega (arith, same, one)

  pub given_room : (a2 : Allocator) → AreGiven a1 a2 k n → room a0.pool ≡ room a1.pool + n → room a2.pool + n ≡ room a0.pool
  given_room a2 given one = let same = given.room (λ x in_run. omega (arith, (f.ready x in_run.0 in_run.1).below, next_same)) in omega (arith, same, one)

  pub uses_few : (a2 : Allocator) → room a2.pool + n ≡ room a0.pool → UsesUpTo a0 a2 total
  uses_few a2 is = record { least = omega (arith, is, f.few); most = omega (arith, is) }

-- it is a part of what was asked for
pub fill_wider : (m : Mapping) (total n from end i j : ℕ) (bytes : List ℕ) → n ≤ total → from ≤ 2 ^ m.bits * n → end ≡ min (n * 2 ^ m.bits - from) (length bytes)
    → IsWider m (piece_of i j n from (take end bytes)) (piece_of i j total from bytes)
fill_wider m total n from end i j bytes few inside is = record {
  table = refl;
  slot = refl;
  count = few;
  from = refl;
  more = drop end bytes;
  bytes = sym (take-append-drop end bytes);
  whole = n;
  ends = elim (cases_lt (length bytes) (n * 2 ^ m.bits - from)) [
    | inl less ↦ inr (inr (omega (arith, length-drop end bytes, is, less)))
    | inr most ↦ inr (inl (omega (arith, length-take end bytes, is, most, inside, mul_comm n (2 ^ m.bits))))
  ];
  goal = λ x x_in kind. refl;
}
