-- A write or a zero of the guest's disk, a part at a time: what the first bytes of it make of the file.
use Rattle.std.proofs.Common.{◌≡◌, ◌⊎◌, inl, inr, ⊎_elim, ℕ, zero, suc, ◌+◌, ◌-◌, ◌*◌, ◌/◌, ◌%◌, ◌<◌, ◌≤◌, min, max, List, [], ◌∷◌, length, map, take, drop, replicate, Bool, true, false, not, ◌&&◌, ◌||◌, cond, refl, sym, ◌∙◌, ap, subst, arith}
use Rattle.std.specs.Prelude.{count_by, nat_lt, nat_le, ◌==◌, if◌then◌else◌}
use Rattle.std.specs.List.{list_any, range_with_len}
use Rattle.std.proofs.lemmas.Bool.{true≢false, cases_eq, cases_lt, cases_Bool, ltb-true, lt-ltb, leb-true, le-leb, lt-leb, le-ltb, eq-eqb, ne_eqb, eqb-true, eqb-false, or_parts, and_parts, and_from, and_left, and_right, or_cases, or_left, or_right}
use Rattle.std.proofs.lemmas.List.{length-take-le, length-drop, length-replicate, get_or-take, get_or-drop, get_or-replicate}
use Rattle.std.proofs.lemmas.List.FromFn.{get_or-map-range_with_len, length-map-range_with_len}
use Rattle.std.proofs.Math.Nat.{mul-le-mul_left, mul_comm, div-add-mod}
use Rattle.std.proofs.Math.Seq.{take-length}
use Rattle.span_algebra.specs.Timelines.{Extent}
use Rattle.span_algebra.specs.Spans.{granule}
use Rattle.bitmap_model.specs.Granules.{meets, is_in, granules_in}
use Rattle.bitmap_model.proofs.Places.{place_below}
use Rattle.bitmap_model.proofs.Sets.{is_in-set_of, length-set_of}
use Rattle.disk_model.specs.Files.{byte, u64_at, overlay}
use Rattle.disk_model.proofs.Laws.{same_file, length-overlay_inside, overlay_empty}
use Rattle.image_model.specs.Clusters.{Shape, size, per, offset, word_of, Forms, IsKept, ShowsAs}
use Rattle.image_model.specs.Calls.{Keeps, SameTablesBut}
use Rattle.image_model.specs.Disks.{disk_of, IsMixedOf}
use Rattle.image_model.specs.Rows.{disk_place}
use Rattle.image_model.specs.Runs.{LeavesRest}
use Rattle.image_model.specs.Space.{Kind, Hole, Data, Store, kind_at, is_data, clusters, is_touched, is_whole, needs_cluster, needs_table, table_of, need, store_written, store_zeroed}
use Rattle.image_steps.proofs.Disk.{length-disk_of}
use Rattle.image_steps.proofs.Dropping.{IsCovered}
use Rattle.image_steps.proofs.Kept.{shown, linked_at}
use Rattle.image_steps.proofs.Links.{keeps_on}
use Rattle.image_steps.proofs.Places.{place_some}
use Rattle.map_rows.specs.declared.parts.Part.{Part}
use Rattle.map_rows.specs.Parts.{IsPart}
use Rattle.map_rows.specs.Stores.{HasStore, kind_of, has_table}
use Rattle.qc_map.specs.Altering.{Alteration, IsAltered, IsPartlyAltered, spot_of, stores}
use Rattle.qc_map.specs.Changing.{Change, IsChanged, IsPartlyChanged}
use Rattle.qc_map.specs.Needing.{is_open, part_need}
use Rattle.qc_map.specs.Zeroing.{first_whole, end_whole, clears_in}
use Rattle.qc_map.proofs.Becoming.{IsWhole, bytes_on, mix_on, Becomes, IsGoal, IsStep, becomes_store, near_either, if_near, or_near, becomes_on, near_on}
use Rattle.qc_map.proofs.Going.{IsNext}
use Rattle.qc_map.proofs.More.{range, meets_not, table_none, touch_in, touch_out, not_yet, other_table, not_before, needs_own}
use Rattle.qc_map.proofs.Places.{div_is, mod_is}
use Rattle.qc_map.proofs.Tallies.{counted_same, one_more}

-- ---- requests

-- What the first n bytes make of a disk: clusters that they touch become of a kind, and tables are gained.
pub record Request : Type 0 where
  pub kind : Kind
  pub touch : Store → ℕ → ℕ → Bool
  pub gain : Store → ℕ → ℕ → Bool
  pub after : ℕ → Store → Store

abbrev pub writing : ℕ → Request
writing at = record {
  kind = Data;
  touch = λ store n k. is_touched store (range at n) k;
  gain = λ store n t. needs_table store (range at n) t;
  after = λ n store. store_written store (range at n);
}

abbrev pub zeroing : ℕ → ℕ → Request
zeroing total at = record {
  kind = Hole;
  touch = λ store n k. is_whole total store (range at n) k;
  gain = λ store n t. false;
  after = λ n store. store_zeroed total store (range at n);
}

pub record IsRequest (s : Shape) (total : ℕ) (q : Request) : Type 0 where
  pub goal : (store : Store) (n : ℕ) → IsGoal store (q.after n store) q.kind (q.touch store n) (q.gain store n)
  pub none : (store : Store) (file : List ℕ) (k : ℕ) → HasStore s total file store → k < length store.kinds → q.touch store 0 k ≡ false
  pub none_gain : (store : Store) (t : ℕ) → q.gain store 0 t ≡ false
  pub more : (store : Store) (n o k : ℕ) → n ≤ o → q.touch store n k ≡ true → q.touch store o k ≡ true
  pub more_gain : (store : Store) (n o t : ℕ) → n ≤ o → q.gain store n t ≡ true → q.gain store o t ≡ true

-- ---- a write

meets_more : (at n o k c : ℕ) → n ≤ o → meets (range at n) (granule c k) ≡ true → meets (range at o) (granule c k) ≡ true
meets_more at n o k c order is = lt-ltb (max at (k * c)) (min (at + o) (k * c + c)) (let low = ltb-true (max at (k * c)) (min (at + n) (k * c + c)) is in omega (arith, low, order))

any_more : (p q : ℕ → Bool) (xs : List ℕ) → ((k : ℕ) → p k ≡ true → q k ≡ true) → list_any p xs ≡ true → list_any q xs ≡ true
any_more p q [] more is = is
any_more p q (x ∷ xs) more is = ⊎_elim (λ (here : p x ≡ true). or_left (q x) (list_any q xs) (more x here)) (λ (there : list_any p xs ≡ true). or_right (q x) (list_any q xs) (any_more p q xs more there)) (or_cases (p x) (list_any p xs) is)

cluster_more : (store : Store) (at n o k : ℕ) → n ≤ o → needs_cluster store (range at n) k ≡ true → needs_cluster store (range at o) k ≡ true
cluster_more store at n o k order is =
    let parts = and_parts (is_touched store (range at n) k) (not (is_data (kind_at store k))) is in
    and_from (is_touched store (range at o) k) (not (is_data (kind_at store k))) (meets_more at n o k store.cluster order parts.0) parts.1

table_more : (store : Store) (at n o t : ℕ) → n ≤ o → needs_table store (range at n) t ≡ true → needs_table store (range at o) t ≡ true
table_more store at n o t order is =
    let p = λ (m k : ℕ). needs_cluster store (range at m) k && (table_of store k == t) in
    let parts = and_parts (not (is_in store.tables t)) (list_any (p n) (clusters store)) is in
    and_from (not (is_in store.tables t)) (list_any (p o) (clusters store)) parts.0
    (any_more (p n) (p o) (clusters store) (λ k here. let both = and_parts (needs_cluster store (range at n) k) (table_of store k == t) here in and_from (needs_cluster store (range at o) k) (table_of store k == t) (cluster_more store at n o k order both.0) both.1) parts.1)

one_less : (a b : Bool) → (a ≡ true → b ≡ true) → cond {A = ℕ} a 1 0 ≤ cond b 1 0
one_less true true more = omega arith
one_less true false more = absurd (let e = more refl in cc)
one_less false b more = omega arith

count_more : (p q : ℕ → Bool) (n : ℕ) → ((k : ℕ) → p k ≡ true → q k ≡ true) → count_by p (range_with_len 0 n) ≤ count_by q (range_with_len 0 n)
count_more p q zero more = omega arith
count_more p q (suc n) more = omega (arith, one_more p n (suc n) (omega arith), one_more q n (suc n) (omega arith), count_more p q n more, one_less (p n) (q n) (more n))

-- more bytes need no less
pub need_less : (store : Store) (at n o : ℕ) → n ≤ o → need store (range at n) ≤ need store (range at o)
unfolding need
need_less store at n o order =
    let a = count_more (needs_cluster store (range at n)) (needs_cluster store (range at o)) (length store.kinds) (λ k. cluster_more store at n o k order) in
    let b = count_more (needs_table store (range at n)) (needs_table store (range at o)) (length store.tables) (λ t. table_more store at n o t order) in
    omega (arith, a, b)

written_goal : (store : Store) (e : Extent) → IsGoal store (store_written store e) Data (is_touched store e) (needs_table store e)
unfolding store_written
written_goal store e = record {
  cluster = refl;
  kind_count = length-map-range_with_len (λ k. if is_touched store e k then Data else kind_at store k) 0 (length store.kinds);
  kinds = λ k inside. get_or-map-range_with_len (λ x. if is_touched store e x then Data else kind_at store x) 0 (length store.kinds) k k Hole inside (omega arith);
  table_count = length-set_of (length store.tables) (λ t. is_in store.tables t || needs_table store e t);
  tables = λ t inside. is_in-set_of (length store.tables) (λ x. is_in store.tables x || needs_table store e x) t inside;
}

pub is_writing : (s : Shape) (total at : ℕ) → IsRequest s total (writing at)
is_writing s total at = record {
  goal = λ store n. written_goal store (range at n);
  none = λ store file k has inside. meets_not at 0 k store.cluster (inl refl);
  none_gain = λ store t. table_none store at t;
  more = λ store n o k order is. meets_more at n o k store.cluster order is;
  more_gain = λ store n o t order is. table_more store at n o t order is;
}

module _ (s : Shape) (file : List ℕ) (total : ℕ) (store : Store) (has : HasStore s total file store) (at n left : ℕ) (p : Part) (some : 0 < s.sectors) (part : IsPart s (at + n) left p) (next : IsNext n p) (fits : at + n + p.length ≤ total) where
  pub write_step : IsStep s store p Data stores ((writing at).touch store n) ((writing at).touch store (n + p.length)) ((writing at).gain store n) ((writing at).gain store (n + p.length))
  write_step = record {
    outside = λ k inside out. touch_out s file total store has at n left p some part next fits k out;
    untouched = λ m less. not_yet s file total store has at n left p some part next fits (p.table * per s + p.slot + m) (omega arith);
    goal_is = λ m was less. ap (λ (b : Bool). if b then Data else was) (sym (touch_in s file total store has at n left p some part next fits m less));
    others = λ t other. other_table s file total store has at n left p some part next fits t other;
    own = not_before s file total store has at n left p some part next fits;
  }

  -- after it its table is there
  pub write_own : (new : List ℕ) → has_table s new p.table ≡ true → has_table s new p.table ≡ (has_table s file p.table || (writing at).gain store (n + p.length) p.table)
  write_own new there = there ∙ sym (ap (λ (b : Bool). has_table s file p.table || b) (needs_own s file total store has at n left p some part next fits) ∙ either (has_table s file p.table))
    where
      either : (b : Bool) → (b || not b) ≡ true
      either true = refl
      either false = refl

  -- and until then it is so where it was
  pub write_own_near : (new : List ℕ) (all : ℕ) → n + p.length ≤ all → (has_table s file p.table ≡ true → has_table s new p.table ≡ true)
      → (has_table s new p.table ≡ has_table s file p.table) ⊎ (((writing at).gain store all p.table ≡ true) × (has_table s new p.table ≡ true))
  write_own_near new all order keeps = elim (cases_Bool (has_table s file p.table)) [
    | inl there ↦ inl (keeps there ∙ sym there)
    | inr none ↦ elim (cases_Bool (has_table s new p.table)) [
      | inr none_now ↦ inl (none_now ∙ sym none)
      | inl now ↦ inr (table_more store at (n + p.length) all p.table order (needs_own s file total store has at n left p some part next fits ∙ ap not none), now)
    ]
  ]

-- ---- a zero

pub or_false : (x : Bool) → x ≡ (x || false)
or_false true = refl
or_false false = refl

zeroed_goal : (total : ℕ) (store : Store) (e : Extent) → IsGoal store (store_zeroed total store e) Hole (is_whole total store e) (λ t. false)
unfolding store_zeroed
zeroed_goal total store e = record {
  cluster = refl;
  kind_count = length-map-range_with_len (λ k. if is_whole total store e k then Hole else kind_at store k) 0 (length store.kinds);
  kinds = λ k inside. get_or-map-range_with_len (λ x. if is_whole total store e x then Hole else kind_at store x) 0 (length store.kinds) k k Hole inside (omega arith);
  table_count = refl;
  tables = λ t inside. or_false (is_in store.tables t);
}

next_place : (k c : ℕ) → (k + 1) * c ≡ k * c + c
next_place k c = grind arith

whole_more : (total : ℕ) (store : Store) (at n o k : ℕ) → n ≤ o → is_whole total store (range at n) k ≡ true → is_whole total store (range at o) k ≡ true
whole_more total store at n o k order is =
    let c = store.cluster in
    let parts = and_parts (nat_le at (k * store.cluster)) (nat_le (min ((k + 1) * store.cluster) total) (at + n)) is in
    let low = leb-true (min ((k + 1) * store.cluster) total) (at + n) parts.1 in
    and_from (nat_le at (k * store.cluster)) (nat_le (min ((k + 1) * store.cluster) total) (at + o)) parts.0 (le-leb (min ((k + 1) * store.cluster) total) (at + o) (omega (arith, low, order)))

pub is_zeroing : (s : Shape) (total at : ℕ) → 0 < s.sectors → IsRequest s total (zeroing total at)
is_zeroing s total at some = record {
  goal = λ store n. zeroed_goal total store (range at n);
  none = λ store file k has inside.
      let below : k * store.cluster < total = place_below total store.cluster k (omega (arith, has.cluster, some)) (subst (λ (c : ℕ). k < granules_in total c) (sym has.cluster) (omega (arith, inside, has.kind_count))) in
      elim (cases_lt (k * store.cluster) at) [
        | inl less ↦ and_left (nat_le at (k * store.cluster)) (nat_le (min ((k + 1) * store.cluster) total) (at + 0)) (lt-leb at (k * store.cluster) less)
        | inr from ↦ and_right (nat_le at (k * store.cluster)) (nat_le (min ((k + 1) * store.cluster) total) (at + 0))
            (lt-leb (min ((k + 1) * store.cluster) total) (at + 0) (omega (arith, from, below, next_place k store.cluster, has.cluster, some)))
      ];
  none_gain = λ store t. refl;
  more = λ store n o k order is. whole_more total store at n o k order is;
  more_gain = λ store n o t order is. is;
}

module _ (s : Shape) (file : List ℕ) (total : ℕ) (store : Store) (has : HasStore s total file store) (at n left : ℕ) (p : Part) (some : 0 < s.sectors) (part : IsPart s (at + n) left p) (next : IsNext n p) (is_last : Bool)
    (fits : at + n + p.length ≤ total) (last : is_last ≡ true → at + n + p.length ≡ total) (more : is_last ≡ false → at + n + p.length < total) where
  abbrev first : ℕ
  first = p.table * per s + p.slot

  abbrev c : ℕ
  c = store.cluster

  begins : at + n ≡ first * c + p.from
  begins = part.begins ∙ ap (λ (k : ℕ). first * k + p.from) (sym has.cluster)

  in_place : (m : ℕ) → (first + m) * c ≡ first * c + c * m
  in_place m = grind arith

  times : (k m : ℕ) → k ≤ m → c * k ≤ c * m
  times k m order = mul-le-mul_left c order

  whole_out : (k : ℕ) → k < length store.kinds → (k < first) ⊎ (first + p.count ≤ k) → is_whole total store (range at (n + p.length)) k ≡ is_whole total store (range at n) k
  whole_out k inside (inl less) =
      let e = times (k + 1) first (omega (arith, less)) in
      let upper : min ((k + 1) * c) total ≤ at + n = omega (arith, e, mul_comm c (k + 1), mul_comm c first, begins) in
      ap (λ (b : Bool). nat_le at (k * c) && b) (le-leb (min ((k + 1) * c) total) (at + (n + p.length)) (omega (arith, upper)) ∙ sym (le-leb (min ((k + 1) * c) total) (at + n) upper))
  whole_out k inside (inr past) =
      let below : k * c < total = place_below total c k (omega (arith, has.cluster, some)) (subst (λ (z : ℕ). k < granules_in total z) (sym has.cluster) (omega (arith, inside, has.kind_count))) in
      let e = times (first + p.count) k past in
      let f : size s * p.count ≡ c * p.count = ap (λ (z : ℕ). z * p.count) (sym has.cluster) in
      let upper : at + (n + p.length) < min ((k + 1) * c) total = omega (arith, e, f, mul_comm c k, mul_comm c (first + p.count), in_place p.count, next_place k c, below, begins, part.covers, has.cluster, some) in
      ap (λ (b : Bool). nat_le at (k * c) && b) (lt-leb (min ((k + 1) * c) total) (at + (n + p.length)) upper ∙ sym (lt-leb (min ((k + 1) * c) total) (at + n) (omega (arith, upper))))

  whole_not : (m : ℕ) → is_whole total store (range at n) (first + m) ≡ false
  whole_not m = and_right (nat_le at ((first + m) * c)) (nat_le (min ((first + m + 1) * c) total) (at + n))
      (lt-leb (min ((first + m + 1) * c) total) (at + n) (omega (arith, next_place (first + m) c, in_place m, begins, part.inside, has.cluster, fits, part.some)))

  first_same : (m : ℕ) → nat_le (first_whole p) m ≡ nat_le at ((first + m) * c)
  first_same m = elim (cases_eq p.from 0) [
    | inl none ↦
        ap (λ (b : Bool). nat_le (if b then 0 else 1) m) (eq-eqb p.from 0 none) ∙ le-leb 0 m (omega arith)
        ∙ sym (le-leb at ((first + m) * c) (omega (arith, in_place m, begins, none)))
    | inr from ↦
        let start : n ≡ 0 = elim next [ inl none ↦ none | inr border ↦ absurd (from border.1) ] in
        ap (λ (b : Bool). nat_le (if b then 0 else 1) m) (ne_eqb p.from 0 from)
        ∙ elim (cases_lt 0 m) [
          | inl less ↦ le-leb 1 m (omega (arith, less)) ∙ sym (le-leb at ((first + m) * c) (let e = times 1 m (omega (arith, less)) in omega (arith, e, in_place m, begins, start, part.inside, has.cluster)))
          | inr none ↦ lt-leb 1 m (omega (arith, none)) ∙ sym (lt-leb at ((first + m) * c) (let e = times m 0 none in omega (arith, e, in_place m, begins, start, from)))
        ]
  ]

  row_end : (first + p.count) * c ≡ first * c + size s * p.count
  row_end = in_place p.count ∙ ap (λ (z : ℕ). first * c + z * p.count) has.cluster

  ends_whole : (m : ℕ) → m < p.count → end_whole p (size s) is_last ≡ p.count → min ((first + m + 1) * c) total ≤ at + (n + p.length) → nat_lt m (end_whole p (size s) is_last) ≡ nat_le (min ((first + m + 1) * c) total) (at + (n + p.length))
  ends_whole m less is upper = ap (nat_lt m) is ∙ lt-ltb m p.count less ∙ sym (le-leb (min ((first + m + 1) * c) total) (at + (n + p.length)) upper)

  end_at : (m : ℕ) → first + m + 1 ≡ first + (m + 1)
  end_at m = omega arith

  end_same : (m : ℕ) → m < p.count → nat_lt m (end_whole p (size s) is_last) ≡ nat_le (min ((first + m + 1) * c) total) (at + (n + p.length))
  end_same m less = elim (cases_Bool (is_last || ((p.from + p.length) % size s == 0))) [
    | inl whole ↦ ends_whole m less (ap (λ (b : Bool). if b then p.count else p.count - 1) whole) (⊎_elim
        (λ (l : is_last ≡ true). omega (arith, last l))
        (λ (border : ((p.from + p.length) % size s == 0) ≡ true). upto_end m less (full (eqb-true ((p.from + p.length) % size s) 0 border)))
        (or_cases is_last ((p.from + p.length) % size s == 0) whole))
    | inr partly ↦
        let parts = or_parts is_last ((p.from + p.length) % size s == 0) partly in
        ap (λ (b : Bool). nat_lt m (if b then p.count else p.count - 1)) partly
        ∙ elim (cases_lt (m + 1) p.count) [
          | inl below ↦ lt-ltb m (p.count - 1) (omega (arith, below)) ∙ sym (le-leb (min ((first + m + 1) * c) total) (at + (n + p.length)) (inner m below))
          | inr end ↦
              let at_end : m + 1 ≡ p.count = omega (arith, less, end) in
              le-ltb m (p.count - 1) (omega (arith, at_end)) ∙ sym (lt-leb (min ((first + m + 1) * c) total) (at + (n + p.length)) (short m at_end (more parts.0) (eqb-false ((p.from + p.length) % size s) 0 parts.1)))
        ]
  ]
    where
      full : (p.from + p.length) % size s ≡ 0 → p.from + p.length ≡ size s * p.count
      full none =
          let whole : size s * ((p.from + p.length) / size s) + (p.from + p.length) % size s ≡ p.from + p.length = div-add-mod (p.from + p.length) (size s) in
          elim (cases_lt ((p.from + p.length) / size s) p.count) [
            | inr enough ↦ (let e : size s * p.count ≤ size s * ((p.from + p.length) / size s) = mul-le-mul_left (size s) enough in omega (arith, e, whole, part.covers, none))
            | inl few ↦ absurd (
                let e : size s * ((p.from + p.length) / size s + 1) ≤ size s * p.count = mul-le-mul_left (size s) (omega (arith, few)) in
                let f : size s * ((p.from + p.length) / size s + 1) ≡ size s * ((p.from + p.length) / size s) + size s = grind arith in
                omega (arith, e, f, whole, none, part.least))
          ]

      upto_end : (m : ℕ) → m < p.count → p.from + p.length ≡ size s * p.count → min ((first + m + 1) * c) total ≤ at + (n + p.length)
      upto_end m less is =
          let e = times (first + m + 1) (first + p.count) (omega (arith, less)) in
          omega (arith, e, mul_comm c (first + m + 1), mul_comm c (first + p.count), row_end, begins, is)

      inner : (m : ℕ) → m + 1 < p.count → min ((first + m + 1) * c) total ≤ at + (n + p.length)
      inner m below =
          let e = times (first + m + 1 + 1) (first + p.count) (omega (arith, below)) in
          omega (arith, e, mul_comm c (first + m + 1 + 1), next_place (first + m + 1) c, mul_comm c (first + p.count), row_end, begins, part.least, has.cluster)

      short : (m : ℕ) → m + 1 ≡ p.count → at + n + p.length < total → ((p.from + p.length) % size s ≡ 0 → ⊥) → at + (n + p.length) < min ((first + m + 1) * c) total
      short m at_end inside other =
          let e : (first + m + 1) * c ≡ (first + p.count) * c = ap (λ (k : ℕ). k * c) (end_at m ∙ ap (λ (k : ℕ). first + k) at_end) in
          elim (cases_eq (p.from + p.length) (size s * p.count)) [
            | inl is ↦ absurd (other (ap (λ (x : ℕ). x % size s) is ∙ mod_is (size s * p.count) (size s) p.count 0 (omega (arith, mul_comm (size s) p.count)) (omega (arith, some))))
            | inr differ ↦ omega (arith, e, row_end, begins, part.covers, inside, differ)
          ]

  pub zero_step : IsStep s store p Hole (clears_in p (size s) is_last) ((zeroing total at).touch store n) ((zeroing total at).touch store (n + p.length)) ((zeroing total at).gain store n) ((zeroing total at).gain store (n + p.length))
  zero_step = record {
    outside = λ k inside out. whole_out k inside out;
    untouched = λ m less. whole_not m;
    goal_is = λ m was less.
        ap (λ (b : Bool). if b && nat_lt m (end_whole p (size s) is_last) then Hole else was) (first_same m)
        ∙ ap (λ (b : Bool). if nat_le at ((first + m) * c) && b then Hole else was) (end_same m less);
    others = λ t other. refl;
    own = refl;
  }

-- ---- what lies behind

-- cluster number k lies behind the first n bytes, or there are none
abbrev pub IsBehind : Shape → ℕ → ℕ → ℕ → Type 0
IsBehind s at n k = (n ≡ 0) ⊎ (at + n ≤ k * size s)

-- what lies behind the first n bytes is as it was
pub record LeavesBehind (s : Shape) (at n : ℕ) (old new : List ℕ) : Type 0 where
  pub words : (i j : ℕ) → i < s.tables → j < per s → IsBehind s at n (i * per s + j) → word_of s new i j ≡ word_of s old i j
  pub disk : (i j o : ℕ) → i < s.tables → j < per s → o < s.sectors → IsBehind s at n (i * per s + j) → ShowsAs s i j o new old
  pub tables : (i : ℕ) → i < s.tables → IsBehind s at n (i * per s) → u64_at new (s.l1 + 8 * i) ≡ u64_at old (s.l1 + 8 * i)

pub record IsReached (s : Shape) (total at n : ℕ) (bytes : List ℕ) (q : Request) (old new : List ℕ) : Type 0 where
  pub keeps : Keeps s old new
  pub disk : (b : ℕ) → b < total → byte (disk_of s total new) b ≡ byte (overlay (disk_of s total old) at (take n bytes)) b
  pub becomes : (store : Store) → HasStore s total old store → Becomes s store q.kind (q.touch store n) (q.gain store n) old new
  pub rest : LeavesBehind s at n old new

-- the change that it asks for
abbrev pub change_of : ℕ → List ℕ → Request → Change
change_of at bytes q = record { at = at; bytes = bytes; goal = q.after (length bytes) }

-- no byte is done
pub reached_none : (s : Shape) (total at : ℕ) (bytes : List ℕ) (q : Request) (file : List ℕ) → IsRequest s total q → IsReached s total at 0 bytes q file file
reached_none s total at bytes q file is = record {
  keeps = record { blocks = λ i k linked. linked; tables = λ i k linked. linked };
  disk = λ b inside. sym (ap (λ (l : List ℕ). byte l b) (overlay_empty (disk_of s total file) at (take 0 bytes) refl));
  becomes = λ store has. record {
    kinds = λ i j j_in inside. sym (ap (λ (t : Bool). if t then q.kind else kind_of (word_of s file i j)) (is.none store file (i * per s + j) has inside));
    tables = λ t inside. or_false (has_table s file t) ∙ ap (λ (g : Bool). has_table s file t || g) (sym (is.none_gain store t));
  };
  rest = record { words = λ i j i_in j_in behind. refl; disk = λ i j o i_in j_in o_in behind t low high. refl; tables = λ i i_in behind. refl };
}

module _ (s : Shape) (some : 0 < s.sectors) (at n left : ℕ) (p : Part) (part : IsPart s (at + n) left p) (next : IsNext n p) where
  behind_part : (k : ℕ) → p.table * per s + p.slot ≤ k → IsBehind s at n k
  behind_part k more = elim next [
    | inl none ↦ inl none
    | inr border ↦ inr (
        let e : size s * (p.table * per s + p.slot) ≤ size s * k = mul-le-mul_left (size s) more in
        omega (arith, e, mul_comm (size s) k, mul_comm (size s) (p.table * per s + p.slot), part.begins, border.1))
  ]

  behind_past : (k : ℕ) → IsBehind s at (n + p.length) k → p.table * per s + p.slot + p.count ≤ k
  behind_past k (inl none) = absurd (omega (arith, none, part.some))
  behind_past k (inr past) = elim (cases_lt k (p.table * per s + p.slot + p.count)) [
    | inr is ↦ is
    | inl less ↦ absurd (
        let e : size s * (k + 1) ≤ size s * (p.table * per s + p.slot + p.count) = mul-le-mul_left (size s) (omega (arith, less)) in
        let f : size s * (p.table * per s + p.slot + p.count) ≡ (p.table * per s + p.slot) * size s + size s * p.count = grind arith in
        let g : size s * (k + 1) ≡ k * size s + size s = grind arith in
        omega (arith, e, f, g, past, part.begins, part.least))
  ]

  behind_more : (k : ℕ) → IsBehind s at (n + p.length) k → IsBehind s at n k
  behind_more k (inl none) = inl (omega (arith, none))
  behind_more k (inr past) = inr (omega (arith, past))

  count_some : 0 < p.count
  count_some = elim (cases_eq p.count 0) [
    | inr more ↦ omega (arith, more)
    | inl none ↦ absurd (let e : size s * p.count ≡ 0 = ap (λ (k : ℕ). size s * k) none ∙ omega arith in omega (arith, e, part.covers, part.some))
  ]

  -- nothing of the part was done, nor its table linked
  pub part_behind : (m : ℕ) → IsBehind s at n (p.table * per s + (p.slot + m))
  part_behind m = behind_part (p.table * per s + (p.slot + m)) (omega arith)

  module _ (old mid new : List ℕ) (before : LeavesBehind s at n old mid) where
    leaves_on : LeavesRest s p.table p.slot p.count mid new → SameTablesBut s p.table mid new → LeavesBehind s at (n + p.length) old new
    leaves_on rest tables = record {
      words = λ i j i_in j_in behind.
          let past = behind_past (i * per s + j) behind in
          rest.entries i j i_in j_in (out i j past) ∙ before.words i j i_in j_in (behind_more (i * per s + j) behind);
      disk = λ i j o i_in j_in o_in behind t low high.
          let past = behind_past (i * per s + j) behind in
          rest.disk i j o i_in j_in o_in (out i j past) t low high ∙ before.disk i j o i_in j_in o_in (behind_more (i * per s + j) behind) t low high;
      tables = λ i i_in behind.
          let past = behind_past (i * per s) behind in
          tables i i_in (λ same. let e : i * per s ≡ p.table * per s = ap (λ (t : ℕ). t * per s) same in omega (arith, e, past, count_some))
          ∙ before.tables i i_in (behind_more (i * per s) behind);
    }
      where
        out : (i j : ℕ) → p.table * per s + p.slot + p.count ≤ i * per s + j → i ≡ p.table → p.slot ≤ j → j < p.slot + p.count → ⊥
        out i j past same low high = let e : i * per s ≡ p.table * per s = ap (λ (t : ℕ). t * per s) same in omega (arith, e, past, high)

    -- each sector of the disk before the part is as after it, or was there before all
    pub covered_part : (disks : List (List ℕ)) → IsKept s disks old → LeavesRest s p.table p.slot p.count mid new → IsCovered s mid new disks
    covered_part disks kept rest i j o i_in j_in o_in = elim (cases_lt (i * per s + j) (p.table * per s + p.slot)) [
      | inl below ↦ inl (λ t low high. sym (rest.disk i j o i_in j_in o_in
          (λ same from to. let e : i * per s ≡ p.table * per s = ap (λ (x : ℕ). x * per s) same in omega (arith, e, below, from)) t low high))
      | inr past ↦ inr (shown s i j o mid old disks (before.disk i j o i_in j_in o_in (behind_part (i * per s + j) past)) (kept i j o i_in j_in o_in))
    ]

    -- its table is there where it was
    module _ (index : p.table < s.tables) where
      slot_zero : (n ≡ 0) ⊎ (p.slot ≡ 0)
      slot_zero = elim next [ inl none ↦ inl none | inr border ↦ inr border.0 ]

      table_same : u64_at mid (s.l1 + 8 * p.table) ≡ u64_at old (s.l1 + 8 * p.table)
      table_same = before.tables p.table index (elim slot_zero [
        | inl none ↦ inl none
        | inr none ↦ (let e : p.table * per s ≡ p.table * per s + p.slot = omega (arith, none) in behind_part (p.table * per s) (omega (arith, e)))
      ])

      pub own_same : has_table s mid p.table ≡ has_table s old p.table
      own_same = ap (λ (w : ℕ). not (offset w == 0)) table_same

      -- and it needs what it needed before
      pub need_same : p.slot + p.count ≤ per s → part_need s mid p.table p.slot p.count ≡ part_need s old p.table p.slot p.count
      need_same slots =
          let open_same = counted_same (λ m. is_open s mid p.table (p.slot + m)) (λ m. is_open s old p.table (p.slot + m)) p.count
          (λ m inside. ap (λ (w : ℕ). not (is_data (kind_of w))) (before.words p.table (p.slot + m) index (omega (arith, inside, slots)) (part_behind m))) in
          ap (λ (c : ℕ). c + (if has_table s mid p.table then 0 else 1)) open_same ∙ ap (λ (b : Bool). count_by (λ m. is_open s old p.table (p.slot + m)) (range_with_len 0 p.count) + (if b then 0 else 1)) own_same

-- ---- one part more, of the file

module _ (s : Shape) (some : 0 < s.sectors) (total : ℕ) (covers : total ≤ s.tables * per s * size s) (at n left : ℕ) (p : Part) (part : IsPart s (at + n) left p) (next : IsNext n p) (bytes piece : List ℕ) (rest_is : left ≡ length bytes - n)
    (fits : n + p.length ≤ length bytes) (piece_is : piece ≡ take p.length (drop n bytes)) (q : Request) (is : IsRequest s total q) (goal : ℕ → Kind → Kind) (old mid new : List ℕ) (reached : IsReached s total at n bytes q old mid)
    (steps : (store : Store) → HasStore s total old store → IsStep s store p q.kind goal (q.touch store n) (q.touch store (n + p.length)) (q.gain store n) (q.gain store (n + p.length))) where
  abbrev e : Alteration
  e = record { table = p.table; slot = p.slot; count = p.count; from = p.from; bytes = piece; goal = goal }

  spot : spot_of s e ≡ at + n
  spot = sym part.begins

  pub reached_on : IsAltered s total e mid new → ((store : Store) → HasStore s total old store → has_table s new p.table ≡ (has_table s old p.table || q.gain store (n + p.length) p.table)) → IsReached s total at (n + p.length) bytes q old new
  reached_on altered own = record {
    keeps = keeps_on s old mid new reached.keeps altered.rest.keeps;
    disk = λ b inside.
        altered.disk b inside ∙ ap (λ (x : ℕ). byte (overlay (disk_of s total mid) x piece) b) spot
        ∙ bytes_on total at n p.length (disk_of s total old) (disk_of s total mid) bytes piece fits piece_is reached.disk b inside;
    becomes = λ store has.
        becomes_on s total some covers store old has p part.slots q.kind goal (q.touch store n) (q.touch store (n + p.length)) (q.gain store n) (q.gain store (n + p.length)) (steps store has) p.from piece mid new
        (reached.becomes store has) altered (own store has);
    rest = leaves_on s some at n left p part next old mid new reached.rest altered.rest altered.tables;
  }

  whole_from : (n ≡ 0) ⊎ IsWhole (at + n)
  whole_from = elim next [
    | inl none ↦ inl none
    | inr border ↦ (let times : disk_place s p.table p.slot ≡ 512 * (s.sectors * (p.table * per s + p.slot)) = grind arith in inr (omega (arith, times, part.begins, border.1)))
  ]

  whole_to : (n + p.length ≡ length bytes) ⊎ IsWhole (at + n + p.length)
  whole_to = ⊎_elim
      (λ (all : p.length ≡ left). inl (omega (arith, all, rest_is, fits, part.some)))
      (λ (full : (p.slot + p.count ≡ per s) × (p.from + p.length ≡ size s * p.count)).
      let times : disk_place s p.table p.slot + size s * p.count ≡ 512 * (s.sectors * (p.table * per s + p.slot + p.count)) = grind arith in
      inr (omega (arith, times, part.begins, full.1)))
      part.rest

  pub partly_on : IsPartlyAltered s total e mid new
      → ((store : Store) → HasStore s total old store → (has_table s new p.table ≡ has_table s old p.table) ⊎ ((q.gain store (length bytes) p.table ≡ true) × (has_table s new p.table ≡ true))) → IsPartlyChanged s total (change_of at bytes q) old new
  partly_on altered own = record {
    keeps = keeps_on s old mid new reached.keeps altered.rest.keeps;
    disk = mix_on total at n p.length (disk_of s total old) (disk_of s total mid) bytes piece fits piece_is reached.disk whole_from whole_to (disk_of s total new)
        (subst (λ (x : ℕ). IsMixedOf total (disk_of s total mid ∷ overlay (disk_of s total mid) x piece ∷ []) (disk_of s total new)) spot altered.disk);
    store = λ was now has has_now.
        near_either s total was now (q.after (length bytes) was) q.kind (q.touch was (length bytes)) (q.gain was (length bytes)) old new some has has_now (is.goal was (length bytes))
        (near_on s total some covers was old has p part.slots q.kind goal (q.touch was n) (q.touch was (n + p.length)) (q.gain was n) (q.gain was (n + p.length)) (steps was has) p.from piece mid new (reached.becomes was has)
        (q.touch was (length bytes)) (q.gain was (length bytes)) (λ k. is.more was (n + p.length) (length bytes) k fits) (λ t. is.more_gain was (n + p.length) (length bytes) t fits) altered (own was has));
  }

-- ---- nothing, and all of it

module _ (s : Shape) (some : 0 < s.sectors) (total at : ℕ) (bytes : List ℕ) (q : Request) (is : IsRequest s total q) (old : List ℕ) where
  pub partly_none : IsPartlyChanged s total (change_of at bytes q) old old
  partly_none = record {
    keeps = record { blocks = λ i k linked. linked; tables = λ i k linked. linked };
    disk = λ x x_in. inl (λ b low high inside. refl);
    store = λ was now has has_now. near_either s total was now (q.after (length bytes) was) q.kind (q.touch was (length bytes)) (q.gain was (length bytes)) old old some has has_now (is.goal was (length bytes))
        (record { kinds = λ i j j_in inside. inl refl; tables = λ t inside. inl refl });
  }

  module _ (new : List ℕ) (reached : IsReached s total at (length bytes) bytes q old new) where
    disk_all : (b : ℕ) → b < total → byte (disk_of s total new) b ≡ byte (overlay (disk_of s total old) at bytes) b
    disk_all b inside = reached.disk b inside ∙ ap (λ (l : List ℕ). byte (overlay (disk_of s total old) at l) b) (take-length bytes)

    pub changed_all : at + length bytes ≤ total → IsChanged s total (change_of at bytes q) old new
    changed_all inside = record {
      keeps = reached.keeps;
      disk = same_file (disk_of s total new) (overlay (disk_of s total old) at bytes)
          (length-disk_of s total new ∙ sym (length-overlay_inside (disk_of s total old) at bytes (omega (arith, inside, length-disk_of s total old)) ∙ length-disk_of s total old))
          (λ b b_in. disk_all b (omega (arith, b_in, length-disk_of s total new)));
      store = λ store has. becomes_store s total store (q.after (length bytes) store) q.kind (q.touch store (length bytes)) (q.gain store (length bytes)) old new has (is.goal store (length bytes)) (reached.becomes store has);
    }

    pub partly_all : IsPartlyChanged s total (change_of at bytes q) old new
    partly_all = record {
      keeps = reached.keeps;
      disk = λ x x_in. inr (inl (λ b low high inside. disk_all b inside));
      store = λ was now has has_now.
          let b = reached.becomes was has in
          near_either s total was now (q.after (length bytes) was) q.kind (q.touch was (length bytes)) (q.gain was (length bytes)) old new some has has_now (is.goal was (length bytes))
          (record {
            kinds = λ i j j_in inside. if_near (q.touch was (length bytes) (i * per s + j)) q.kind (kind_of (word_of s old i j)) (kind_of (word_of s new i j)) (b.kinds i j j_in inside);
            tables = λ t inside. or_near (q.gain was (length bytes) t) (has_table s old t) (has_table s new t) (b.tables t inside);
          });
    }

-- ---- tables that are linked

-- one that is there stays so
pub there_on : (s : Shape) (old new : List ℕ) (i : ℕ) → 0 < s.sectors → Forms s old → i < s.tables → Keeps s old new → has_table s old i ≡ true → has_table s new i ≡ true
there_on s old new i some forms i_in keeps there = elim (forms.tables i i_in).at [
  | inl none ↦ absurd (let e : not (offset (u64_at old (s.l1 + 8 * i)) == 0) ≡ false = ap (λ (o : ℕ). not (o == 0)) none in true≢false (sym there ∙ e))
  | inr place ↦
      let linked = keeps.tables i place.cluster (linked_at s old i i_in place) in
      ap not (ne_eqb (offset (u64_at new (s.l1 + 8 * i))) 0 (λ none. let e = place_some s place.cluster some linked.some in omega (arith, e, none, linked.at)))
]

-- ---- the store of a file

pub store_of : Shape → ℕ → List ℕ → Store
store_of s total file = record {
  cluster = size s;
  kinds = map (λ k. kind_of (word_of s file (k / per s) (k % per s))) (range_with_len 0 (granules_in total (size s)));
  tables = map (λ t. has_table s file t) (range_with_len 0 (granules_in (granules_in total (size s)) (per s)));
  room = 0;
}

pub has_store_of : (s : Shape) (total : ℕ) (file : List ℕ) → 0 < s.sectors → HasStore s total file (store_of s total file)
unfolding store_of
has_store_of s total file some = record {
  cluster = refl;
  kind_count = kinds_long;
  kinds = λ i j j_in inside.
      let row : (i * per s + j) / per s ≡ i = div_is (i * per s + j) (per s) i j refl j_in in
      let slot : (i * per s + j) % per s ≡ j = mod_is (i * per s + j) (per s) i j refl j_in in
      get_or-map-range_with_len (λ k. kind_of (word_of s file (k / per s) (k % per s))) 0 (granules_in total (size s)) (i * per s + j) (i * per s + j) Hole (omega (arith, inside, kinds_long)) (omega arith)
      ∙ ap (λ (x : ℕ). kind_of (word_of s file x ((i * per s + j) % per s))) row ∙ ap (λ (x : ℕ). kind_of (word_of s file i x)) slot;
  table_count = tables_long ∙ ap (λ (n : ℕ). granules_in n (per s)) (sym kinds_long);
  tables = λ t inside. get_or-map-range_with_len (λ x. has_table s file x) 0 (granules_in (granules_in total (size s)) (per s)) t t false (omega (arith, inside, tables_long)) (omega arith);
}
  where
    kinds_long : length (store_of s total file).kinds ≡ granules_in total (size s)
    kinds_long = length-map-range_with_len (λ k. kind_of (word_of s file (k / per s) (k % per s))) 0 (granules_in total (size s))

    tables_long : length (store_of s total file).tables ≡ granules_in (granules_in total (size s)) (per s)
    tables_long = length-map-range_with_len (λ t. has_table s file t) 0 (granules_in (granules_in total (size s)) (per s))

-- ---- zeros

abbrev pub zeros : ℕ → List ℕ
zeros n = replicate n 0

pub zeros_long : (n : ℕ) → length (zeros n) ≡ n
zeros_long n = length-replicate {A = ℕ} n 0

-- a piece of them
pub zero_piece : (total n l : ℕ) → n + l ≤ total → zeros l ≡ take l (drop n (zeros total))
zero_piece total n l inside =
    let long : length (take l (drop n (zeros total))) ≡ l = length-take-le l (drop n (zeros total)) (omega (arith, length-drop n (zeros total), zeros_long total, inside)) in
    same_file (zeros l) (take l (drop n (zeros total))) (zeros_long l ∙ sym long) (λ b b_in.
    let less : b < l = omega (arith, b_in, zeros_long l) in
    get_or-replicate {A = ℕ} l b 0 0 less ∙ sym (get_or-take l (drop n (zeros total)) b 0 less ∙ get_or-drop n (zeros total) b 0 ∙ get_or-replicate {A = ℕ} total (n + b) 0 0 (omega (arith, less, inside))))
