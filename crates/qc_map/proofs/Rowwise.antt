-- Bytes over the clusters of a row, run by run.
use Rattle.std.proofs.Common.{◌≡◌, ◌≢◌, ◌⊎◌, inl, inr, ℕ, zero, suc, ◌+◌, ◌-◌, ◌*◌, ◌/◌, ◌%◌, ◌^◌, ◌<◌, ◌≤◌, min, List, ◌++◌, length, take, drop, IsTrue, Bool, true, false, not, Option, None, refl, sym, ◌∙◌, ap, subst, arith, length-drop}
use Rattle.std.specs.Prelude.{cond, count_by, ◌==◌, if◌then◌else◌}
use Rattle.std.specs.List.{range_with_len}
use Rattle.std.specs.Int.{w64}
use Rattle.std.proofs.lemmas.Bool.{cases_eq, cases_lt, ne_eqb, eq-eqb}
use Rattle.std.proofs.lemmas.List.{take_all, take-take, drop-take, take-append-drop, length-take}
use Rattle.std.proofs.Math.Nat.{mul-le-mul_left, mul_comm}
use Rattle.disk_model.specs.Files.{u64_at, reading}
use Rattle.disk_model.specs.World.{World, reads_of, IsSound}
use Rattle.disk_model.proofs.Laws.{stay, reading_inside, number-reading}
use Rattle.image_model.specs.Clusters.{Shape, offset, if_zero, stored}
use Rattle.image_model.specs.Space.{Kind, Data, Hole, Zeroed, is_data}
use Rattle.cluster_pool.specs.Pool.{room}
use Rattle.map_rows.specs.Runs.{place_in}
use Rattle.map_rows.specs.Stores.{kind_of, is_open_at}
use Rattle.qc_alloc.specs.Allocator.{Allocator}
use Rattle.qc_map.specs.Altering.{Alteration, stores, IsSameImage, UsesUpTo, Alters, HasAltered, KnowsOn, ToldRow}
use Rattle.qc_map.specs.Failures.{Went}
use Rattle.qc_map.specs.Filling.{NamesBelow}
use Rattle.qc_map.specs.Mapping.{Mapping}
use Rattle.qc_map.specs.declared.failures.Failing.{Failing}
use Rattle.qc_map.proofs.Over.{IsStoredRun, stored_kind}
use Rattle.qc_map.proofs.Tallies.{one_more}
use Rattle.qc_map.proofs.Steps.{FitsIn, IsJoined, IsWider, Carries, alters_on, done_on, known_on, alters_more, done_alters, left_alters, left_done, left_known, row_on, went_none, went_on, same_image_self, same_image_on}

-- ---- entries that have nothing stored, counted

pub counted_split : (p q : ℕ → Bool) (n k : ℕ) → ((t : ℕ) → t < k → p (n + t) ≡ q t) → count_by p (range_with_len 0 (n + k)) ≡ count_by p (range_with_len 0 n) + count_by q (range_with_len 0 k)
counted_split p q n zero same = let e : n + 0 ≡ n = omega arith in ap (λ (t : ℕ). count_by p (range_with_len 0 t)) e ∙ omega arith
counted_split p q n (suc k) same =
    let rest = counted_split p q n k (λ t less. same t (omega arith)) in
    let one : cond {A = ℕ} (p (n + k)) 1 0 ≡ cond (q k) 1 0 = ap (λ (b : Bool). cond {A = ℕ} b 1 0) (same k (omega arith)) in
    omega (arith, rest, one_more p (n + k) (n + suc k) (omega arith), one_more q k (suc k) (omega arith), one)

pub counted_each : (p : ℕ → Bool) (n : ℕ) → ((t : ℕ) → t < n → p t ≡ true) → count_by p (range_with_len 0 n) ≡ n
counted_each p zero each = refl
counted_each p (suc n) each =
    let rest = counted_each p n (λ t less. each t (omega arith)) in
    let one : cond {A = ℕ} (p n) 1 0 ≡ 1 = ap (λ (b : Bool). cond {A = ℕ} b 1 0) (each n (omega arith)) in
    omega (arith, rest, one_more p n (suc n) (omega arith), one)

pub stored_open : (w : ℕ) → stored w ≡ 0 → not (is_data (kind_of w)) ≡ true
unfolding stored
stored_open w none = by_flag (w % 2) (offset w) none
  where
    by_flag : (f o : ℕ) → if_zero f o ≡ 0 → not (is_data (if o == 0 then Hole else if f == 0 then Data else Zeroed)) ≡ true
    by_flag f zero none = refl
    by_flag zero (suc o) none = absurd (omega (arith, none))
    by_flag (suc f) (suc o) none =
        ap (λ (b : Bool). not (is_data (if b then Hole else if suc f == 0 then Data else Zeroed))) (ne_eqb (suc o) 0 (λ same. absurd (omega (arith, same))))
        ∙ ap (λ (b : Bool). not (is_data (if b then Data else Zeroed))) (ne_eqb (suc f) 0 (λ same. absurd (omega (arith, same))))

pub open_run : (cluster n host : ℕ) (row : List ℕ) → host ≡ 0 → ((t : ℕ) → t < n → stored (u64_at row (8 * t)) ≡ place_in host cluster t) → (t : ℕ) → t < n → is_open_at row t ≡ true
open_run cluster n host row none each t t_in = stored_open (u64_at row (8 * t)) (each t t_in ∙ ap (λ (b : Bool). if b then 0 else host + t * cluster) (eq-eqb host 0 none))

pub stored_run : (bits n host : ℕ) (row : List ℕ) → 0 < n → host ≢ 0 → ((t : ℕ) → t < n → stored (u64_at row (8 * t)) ≡ place_in host (2 ^ bits) t) → IsStoredRun bits 0 n host row
stored_run bits n host row many some each = record {
  many = many;
  some = omega (arith, some);
  each = λ t t_in.
      let at : 8 * (0 + t) ≡ 8 * t = omega arith in
      ap (λ (a : ℕ). stored (u64_at row a)) at ∙ each t t_in ∙ ap (λ (b : Bool). if b then 0 else host + t * 2 ^ bits) (ne_eqb host 0 some);
}

pub closed_run : (bits n host : ℕ) (row : List ℕ) → IsStoredRun bits 0 n host row → (t : ℕ) → t < n → is_open_at row t ≡ false
closed_run bits n host row run t t_in =
    let at : 8 * (0 + t) ≡ 8 * t = omega arith in
    ap (λ (k : Kind). not (is_data k)) (stored_kind (u64_at row (8 * t)) (omega (arith, run.each t t_in, run.some, ap (λ (a : ℕ). stored (u64_at row a)) at)))

-- ---- pieces of a list

take_two : (xs : List ℕ) (a b : ℕ) → take a xs ++ take b (drop a xs) ≡ take (a + b) xs
take_two xs a b =
    let front : take a (take (a + b) xs) ≡ take a xs = take-take a (a + b) xs (omega arith) in
    sym (ap (λ (t : List ℕ). t ++ take b (drop a xs)) front) ∙ sym (ap (λ (t : List ℕ). take a (take (a + b) xs) ++ t) (drop-take a b xs)) ∙ take-append-drop a (take (a + b) xs)

take_min : (xs : List ℕ) (a b n : ℕ) → n ≡ min a b → take a (take b xs) ≡ take n xs
take_min xs a b n is = elim (cases_lt a b) [
  | inl less ↦ take-take a b xs (omega arith) ∙ ap (λ (t : ℕ). take t xs) (omega (arith, is, less))
  | inr more ↦ take_all a (take b xs) (omega (arith, length-take b xs, more)) ∙ ap (λ (t : ℕ). take t xs) (omega (arith, is, more))
]

-- the words of a slice
pub word_in : (row : List ℕ) (first k t : ℕ) → 8 * (first + k) ≤ length row → t < k → u64_at (take (8 * (first + k) - 8 * first) (drop (8 * first) row)) (8 * t) ≡ u64_at row (8 * (first + t))
word_in row first k t inside t_in =
    let n : ℕ = 8 * (first + k) - 8 * first in
    let at : 8 * first + 8 * t ≡ 8 * (first + t) = omega arith in
    ap (λ (l : List ℕ). u64_at l (8 * t)) (sym (reading_inside row (8 * first) n (omega (arith, inside)))) ∙ word_read row (8 * first) n (8 * t) (omega (arith, t_in)) ∙ ap (u64_at row) at
  where
    word_read : (file : List ℕ) (at n x : ℕ) → x + 8 ≤ n → u64_at (reading file at n) x ≡ u64_at file (at + x)
    word_read file at n x fits = number-reading w64 file at n x fits

-- ---- where a run's bytes stand

-- rc clusters from `index` on, of `count` clusters of c bytes; bytes up to `done` are written, and those of the run end at `end`
pub record IsTurn (c from count long index rc place done end : ℕ) : Type 0 where
  pub low : from < c
  pub covers : from + long ≤ c * count
  pub least : c * count < from + long + c
  pub turn : index < count
  pub some : 0 < rc
  pub fits : index + rc ≤ count
  pub done_is : done ≡ min (index * c - from) long
  pub place_is : place ≡ (if index == 0 then from else 0)
  pub end_is : end ≡ min ((index + rc) * c - from) long

module _ {c from count long index rc place done end : ℕ} (at : IsTurn c from count long index rc place done end) where
  begins : ((index ≡ 0) × (place ≡ from)) ⊎ ((c ≤ index * c) × (place ≡ 0))
  begins = elim (cases_eq index 0) [
    | inl none ↦ inl (none, at.place_is ∙ ap (λ (b : Bool). if b then from else 0) (eq-eqb index 0 none))
    | inr more ↦ inr (
      let e : c * 1 ≤ c * index = mul-le-mul_left c (omega (arith, more)) in omega (arith, e, mul_comm c index),
      at.place_is ∙ ap (λ (b : Bool). if b then from else 0) (ne_eqb index 0 more),
    )
  ]

  both : (k : ℕ) → (index + k) * c ≡ index * c + k * c
  both k = grind arith

  up : index * c + c ≤ c * count
  up = let e : c * (index + 1) ≤ c * count = mul-le-mul_left c (omega (arith, at.turn)) in let f : c * (index + 1) ≡ index * c + c = grind arith in omega (arith, e, f)

  all : index * c + rc * c ≤ c * count
  all = let e : c * (index + rc) ≤ c * count = mul-le-mul_left c at.fits in omega (arith, e, mul_comm c (index + rc), both rc)

  whole_run : c ≤ rc * c
  whole_run = let e : c * 1 ≤ c * rc = mul-le-mul_left c at.some in omega (arith, e, mul_comm c rc)

  pub next : index * c + place ≡ from + done
  next = elim begins [
    | inl start ↦ (let none : index * c ≡ 0 = ap (λ (n : ℕ). n * c) start.0 ∙ omega arith in omega (arith, none, start.1, at.done_is))
    | inr later ↦ omega (arith, later.0, later.1, at.done_is, at.low, up, at.least)
  ]

  pub apart : (done ≡ 0) ⊎ (place ≡ 0)
  apart = elim begins [
    | inl start ↦ (let none : index * c ≡ 0 = ap (λ (n : ℕ). n * c) start.0 ∙ omega arith in inl (omega (arith, none, at.done_is)))
    | inr later ↦ inr later.1
  ]

  pub place_in_cluster : place < c
  place_in_cluster = elim begins [ inl start ↦ omega (arith, start.1, at.low) | inr later ↦ omega (arith, later.1, at.low) ]

  pub order : done ≤ end
  order = omega (arith, at.done_is, at.end_is, both rc)

  pub within : end ≤ long
  within = omega (arith, at.end_is)

  pub run_covers : place + (end - done) ≤ c * rc
  run_covers = omega (arith, at.end_is, next, both rc, mul_comm c rc, order, whole_run, at.low)

  pub run_least : c * rc < place + (end - done) + c
  run_least = omega (arith, at.end_is, next, both rc, all, mul_comm c rc, order, whole_run, at.low, at.least)

  pub run_ends : (from + end ≡ (index + rc) * c) ⊎ (end ≡ long)
  run_ends = elim (cases_lt ((index + rc) * c - from) long) [
    | inl less ↦ inl (omega (arith, at.end_is, less, both rc, whole_run, at.low))
    | inr more ↦ inr (omega (arith, at.end_is, more))
  ]

  -- after k of its clusters
  pub after : (k last : ℕ) → 0 < k → k ≤ rc → last ≡ min ((index + k) * c - from) long → last ≡ done + min (c * k - place) (end - done)
  after k last k_some k_in is =
      let less : c * k ≤ c * rc = mul-le-mul_left c k_in in
      let one : c * 1 ≤ c * k = mul-le-mul_left c k_some in
      omega (arith, is, at.end_is, next, both k, both rc, mul_comm c rc, mul_comm c k, less, one, order, at.low, place_in_cluster)

-- ---- what is done of a row

abbrev pub piece_of : ℕ → ℕ → ℕ → ℕ → List ℕ → Alteration
piece_of i j n from bytes = record { table = i; slot = j; count = n; from = from; bytes = bytes; goal = stores }

abbrev pub RowAt : Mapping → ℕ → List ℕ → ℕ → ℕ → Shape → World → Type 0
RowAt m spot row i j = ToldRow m spot i j (length row / 8) row

-- the bytes of its first clusters are written
pub record Progress (m : Mapping) (spot from : ℕ) (row bytes : List ℕ) (p q : Allocator) (x y : World) (index done : ℕ) : Type 0 where
  pub alters : (i j : ℕ) → Alters m (RowAt m spot row i j) (piece_of i j index from (take done bytes)) p q x y
  pub altered : (i j : ℕ) → HasAltered m (RowAt m spot row i j) (piece_of i j index from (take done bytes)) p x y
  pub known : (i j : ℕ) → KnowsOn m (RowAt m spot row i j) p q x y
  pub went : Went m.file x y None
  pub image : IsSameImage p q
  pub rises : p.pool.next ≤ q.pool.next
  pub left : NamesBelow m.bits (length row / 8) row p.pool.next → room q.pool + count_by (is_open_at row) (range_with_len 0 index) ≡ room p.pool

pub progress_none : (m : Mapping) (spot from : ℕ) (row bytes : List ℕ) (p : Allocator) (x : World) → p.file ≡ m.file → IsSound x → Progress m spot from row bytes p p x x 0 0
progress_none m spot from row bytes p x file sound = record {
  alters = λ i j. left_alters (stay (reads_of m.file) x) (λ none. none) file sound;
  altered = λ i j. left_done (stay (reads_of m.file) x) (λ none. none) refl refl;
  known = λ i j. left_known (stay (reads_of m.file) x) (λ none. none);
  went = went_none m.file x;
  image = same_image_self p;
  rises = omega arith;
  left = λ below. omega arith;
}

-- a row lies in one table
row_fits : {m : Mapping} (spot i j n k from : ℕ) (row bytes : List ℕ) (x : World) → k ≤ n → FitsIn m (ToldRow m spot i j n row) (piece_of i j k from bytes) x
row_fits spot i j n k from row bytes x inside s is known told = record { index = (known told).linked.inside; slots = omega (arith, inside, (known told).slots) }

-- the entries of that run, and its bytes
pub record IsSlice (c from : ℕ) (row bytes entries piece : List ℕ) (index rc place done end : ℕ) : Type 0 where
  pub inside : index + rc ≤ length row / 8
  pub slice : length entries ≡ 8 * rc
  pub words : (t : ℕ) → t < rc → u64_at entries (8 * t) ≡ u64_at row (8 * (index + t))
  pub piece_is : piece ≡ take (end - done) (drop done bytes)
  pub order : done ≤ end
  pub within : end ≤ length bytes
  pub next : index * c + place ≡ from + done
  pub apart : (done ≡ 0) ⊎ (place ≡ 0)
  pub ends : (from + end ≡ (index + rc) * c) ⊎ (end ≡ length bytes)

module _ {m : Mapping} {spot from : ℕ} {row bytes entries piece : List ℕ} {p q : Allocator} {x y z : World} {index done rc place end : ℕ} (at : IsSlice (2 ^ m.bits) from row bytes entries piece index rc place done end) (file : p.file ≡ m.file) (sound : IsSound z)
    (progress : Progress m spot from row bytes p q x y index done) where
  rc_is : length entries / 8 ≡ rc
  rc_is = omega (arith, at.slice)

  long_done : length (take done bytes) ≡ done
  long_done = omega (arith, length-take done bytes, at.order, at.within)

  -- the run's entries stand there still
  carries : (i j : ℕ) → Carries m (RowAt m spot row i j) (RowAt m (spot + 8 * index) entries i (j + index)) p x y
  carries i j = record {
    carry = λ s disks low is hands known al told_y.
        let told = subst IsTrue progress.went.run.goes.tells told_y in
        row_on s spot i j (length row / 8) index (length entries / 8) row entries (x.seen m.file) (y.seen m.file) (known told) ((progress.altered i j).done s disks low is hands known al told).rest
        (omega (arith, at.inside, rc_is)) (λ t t_in. at.words t (omega (arith, t_in, rc_is)));
  }

  -- entries of the run name what the row names
  pub names_in : NamesBelow m.bits (length row / 8) row p.pool.next → NamesBelow m.bits (length entries / 8) entries q.pool.next
  names_in below k named = omega (
    arith,
    progress.rises,
    below k (record {
      entry = index + named.entry;
      inside = omega (arith, at.inside, rc_is, named.inside);
      some = λ none. named.some (ap offset (at.words named.entry (omega (arith, named.inside, rc_is))) ∙ none);
      is = ap (λ (w : ℕ). offset w / 2 ^ m.bits) (sym (at.words named.entry (omega (arith, named.inside, rc_is)))) ∙ named.is;
    }),
  )

  joined : (i j k : ℕ) (more : List ℕ) → IsJoined m (piece_of i j index from (take done bytes)) (piece_of i (j + index) k place more) (piece_of i j (index + k) from (take done bytes ++ more))
  joined i j k more = record {
    table = refl;
    table_on = refl;
    slot = refl;
    slot_on = refl;
    count = refl;
    from = refl;
    next = omega (arith, at.next, long_done);
    ends = elim at.apart [ inl none ↦ inl (omega (arith, long_done, none)) | inr none ↦ inr (inl none) ];
    bytes = refl;
    goal = λ t t_in kind. refl;
    goal_on = λ t t_in kind. refl;
  }

  -- another step, that ended well
  module _ {k last : ℕ} (k_in : k ≤ rc) (last_is : last ≡ done + min (2 ^ m.bits * k - place) (end - done)) (on : Went m.file y z None)
      (altered : (i j : ℕ) → HasAltered m (RowAt m (spot + 8 * index) entries i j) (piece_of i j k place (take (2 ^ m.bits * k - place) piece)) q y z) where
    bytes_on : take done bytes ++ take (2 ^ m.bits * k - place) piece ≡ take last bytes
    bytes_on =
        ap (λ (l : List ℕ). take done bytes ++ take (2 ^ m.bits * k - place) l) at.piece_is
        ∙ ap (λ (l : List ℕ). take done bytes ++ l) (take_min (drop done bytes) (2 ^ m.bits * k - place) (end - done) (min (2 ^ m.bits * k - place) (end - done)) refl)
        ∙ take_two bytes done (min (2 ^ m.bits * k - place) (end - done)) ∙ ap (λ (n : ℕ). take n bytes) (sym last_is)

    fits_on : (i j : ℕ) (more : List ℕ) → FitsIn m (RowAt m spot row i j) (piece_of i j (index + k) from more) x
    fits_on i j more = row_fits spot i j (length row / 8) (index + k) from row more x (omega (arith, at.inside, k_in))

    pub progress_on : {r : Allocator} → ((i j : ℕ) → Alters m (RowAt m (spot + 8 * index) entries i j) (piece_of i j (length entries / 8) place piece) q r y z)
        → ((i j : ℕ) → KnowsOn m (RowAt m (spot + 8 * index) entries i j) q r y z) → IsSameImage q r → q.pool.next ≤ r.pool.next
        → (NamesBelow m.bits (length entries / 8) entries q.pool.next → room r.pool + count_by (is_open_at entries) (range_with_len 0 k) ≡ room q.pool) → Progress m spot from row bytes p r x z (index + k) last
    progress_on {r} alters known image rises left = record {
      alters = λ i j. subst (λ (l : List ℕ). Alters m (RowAt m spot row i j) (piece_of i j (index + k) from l) p r x z) bytes_on
          (alters_on (joined i j k (take (2 ^ m.bits * k - place) piece)) file (fits_on i j (take done bytes ++ take (2 ^ m.bits * k - place) piece)) (carries i j) progress.went.run on.run sound (progress.alters i j) (progress.altered i j)
          (done_alters (alters i (j + index)) (altered i (j + index))));
      altered = λ i j. subst (λ (l : List ℕ). HasAltered m (RowAt m spot row i j) (piece_of i j (index + k) from l) p x z) bytes_on
          (done_on (joined i j k (take (2 ^ m.bits * k - place) piece)) file (fits_on i j (take done bytes ++ take (2 ^ m.bits * k - place) piece)) (carries i j) progress.went.run on.run sound (progress.alters i j) (progress.altered i j) (altered i (j + index)));
      known = λ i j. known_on (carries i j) progress.went.run (progress.alters i j) (progress.known i j) (known i (j + index));
      went = went_on progress.went on;
      image = same_image_on progress.image image;
      rises = omega (arith, progress.rises, rises);
      left = λ below.
          omega (
            arith,
            progress.left below,
            left (names_in below),
            counted_split (is_open_at row) (is_open_at entries) index k (λ t t_in. ap (λ (w : ℕ). not (is_data (kind_of w))) (sym (at.words t (omega (arith, t_in, k_in))))),
          );
    }

  open_run_in : count_by (is_open_at row) (range_with_len 0 (index + rc)) ≡ count_by (is_open_at row) (range_with_len 0 index) + count_by (is_open_at entries) (range_with_len 0 (length entries / 8))
  open_run_in =
      counted_split (is_open_at row) (is_open_at entries) index rc (λ t t_in. ap (λ (w : ℕ). not (is_data (kind_of w))) (sym (at.words t t_in)))
      ∙ ap (λ (n : ℕ). count_by (is_open_at row) (range_with_len 0 index) + count_by (is_open_at entries) (range_with_len 0 n)) (sym rc_is)

  open_rest : count_by (is_open_at row) (range_with_len 0 (index + rc)) ≤ count_by (is_open_at row) (range_with_len 0 (length row / 8))
  open_rest =
      let e : index + rc + (length row / 8 - (index + rc)) ≡ length row / 8 = omega (arith, at.inside) in
      omega (
        arith,
        counted_split (is_open_at row) (λ t. is_open_at row (index + rc + t)) (index + rc) (length row / 8 - (index + rc)) (λ t t_in. refl),
        ap (λ (n : ℕ). count_by (is_open_at row) (range_with_len 0 n)) e,
      )

  -- a step that failed
  wider : (i j : ℕ) → IsWider m (piece_of i j (index + length entries / 8) from (take done bytes ++ piece)) (piece_of i j (length row / 8) from bytes)
  wider i j =
      let all : take done bytes ++ piece ≡ take end bytes = ap (λ (l : List ℕ). take done bytes ++ l) at.piece_is ∙ take_two bytes done (end - done) ∙ ap (λ (n : ℕ). take n bytes) (omega (arith, at.order)) in
      let long : length (take done bytes ++ piece) ≡ end = ap length all ∙ omega (arith, length-take end bytes, at.within) in
      record {
        table = refl;
        slot = refl;
        count = omega (arith, at.inside, rc_is);
        from = refl;
        more = drop end bytes;
        bytes = sym (ap (λ (l : List ℕ). l ++ drop end bytes) all ∙ take-append-drop end bytes);
        whole = index + rc;
        ends = elim at.ends [ inl border ↦ inr (inl (omega (arith, border, long))) | inr last ↦ inr (inr (omega (arith, length-drop end bytes, last))) ];
        goal = λ t t_in kind. refl;
      }

  pub failed_alters : {r : Allocator} {failed : Option Failing} → Went m.file y z failed
      → ((i j : ℕ) → Alters m (RowAt m (spot + 8 * index) entries i j) (piece_of i j (length entries / 8) place piece) q r y z) → (i j : ℕ) → Alters m (RowAt m spot row i j) (piece_of i j (length row / 8) from bytes) p r x z
  failed_alters on alters i j =
      alters_more (wider i j) (row_fits spot i j (length row / 8) (length row / 8) from row bytes x (omega arith))
      (alters_on (joined i j (length entries / 8) piece) file (row_fits spot i j (length row / 8) (index + length entries / 8) from row (take done bytes ++ piece) x (omega (arith, at.inside, rc_is))) (carries i j) progress.went.run on.run sound
      (progress.alters i j) (progress.altered i j) (alters i (j + index)))

  pub failed_known : {r : Allocator} → ((i j : ℕ) → KnowsOn m (RowAt m (spot + 8 * index) entries i j) q r y z) → (i j : ℕ) → KnowsOn m (RowAt m spot row i j) p r x z
  failed_known known i j = known_on (carries i j) progress.went.run (progress.alters i j) (progress.known i j) (known i (j + index))

  pub failed_uses : {r : Allocator} → (NamesBelow m.bits (length entries / 8) entries q.pool.next → UsesUpTo q r (count_by (is_open_at entries) (range_with_len 0 (length entries / 8))))
      → NamesBelow m.bits (length row / 8) row p.pool.next → UsesUpTo p r (count_by (is_open_at row) (range_with_len 0 (length row / 8)))
  failed_uses uses below =
      let u = uses (names_in below) in
      record { least = omega (arith, u.least, progress.left below, open_run_in, open_rest); most = omega (arith, u.most, progress.left below) }

  pub failed_short : room q.pool < count_by (is_open_at entries) (range_with_len 0 (length entries / 8)) → NamesBelow m.bits (length row / 8) row p.pool.next
      → room p.pool < count_by (is_open_at row) (range_with_len 0 (length row / 8))
  failed_short short below = omega (arith, short, progress.left below, open_run_in, open_rest)
