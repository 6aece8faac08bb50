-- What a write needs, a part more.
use Rattle.std.proofs.Common.{◌≡◌, ◌≢◌, ◌⊎◌, inl, inr, ⊎_elim, ℕ, ◌+◌, ◌-◌, ◌*◌, ◌/◌, ◌%◌, ◌<◌, ◌≤◌, min, max, List, length, Bool, true, false, not, ◌&&◌, cond, refl, sym, ◌∙◌, ap, subst, arith}
use Rattle.std.specs.Prelude.{count_by, nat_lt, ◌==◌, if◌then◌else◌}
use Rattle.std.specs.List.{list_any, range_with_len}
use Rattle.std.proofs.lemmas.Bool.{cases_eq, cases_lt, ne_eqb, eq-eqb, lt-ltb, le-ltb, true≢false}
use Rattle.std.proofs.Math.Nat.{mul-le-mul_left, mul_comm}
use Rattle.span_algebra.specs.Timelines.{Extent}
use Rattle.span_algebra.specs.Spans.{granule}
use Rattle.bitmap_model.specs.Granules.{meets, is_in, granules_in}
use Rattle.bitmap_model.proofs.Places.{past_end}
use Rattle.disk_model.specs.Files.{u64_at}
use Rattle.image_model.specs.Clusters.{Shape, size, per, offset, word_of}
use Rattle.image_model.specs.Space.{Store, Hole, Data, Zeroed, allocation_flags, kind_at, is_data, clusters, needs_cluster, needs_table, table_of, need}
use Rattle.image_steps.proofs.Naming.{entry_none}
use Rattle.image_steps.proofs.Places.{offset_none}
use Rattle.map_rows.specs.declared.parts.Part.{Part}
use Rattle.map_rows.specs.Parts.{IsPart}
use Rattle.map_rows.specs.Stores.{HasStore, kind_of, has_table, is_open_at}
use Rattle.qc_map.specs.Needing.{is_open, part_need}
use Rattle.qc_map.specs.Reading.{IsRow}
use Rattle.qc_map.specs.Telling.{IsRowAt, flags_of}
use Rattle.std.proofs.lemmas.List.{length-map, get_or-map}
use Rattle.std.proofs.lemmas.List.FromFn.{length-range_with_len}
use Rattle.std.proofs.lemmas.List.Sums.{count_by-le-length}
use Rattle.qc_map.proofs.Going.{IsNext}
use Rattle.qc_map.proofs.Places.{div_is, div_less}
use Rattle.qc_map.proofs.Tallies.{any_same, any_none, any_at, counted_none, counted_same, counted_row}

abbrev pub range : ℕ → ℕ → Extent
range at n = record { at = at; size = n }

-- ---- which clusters, of c bytes, a range meets

pub meets_not : (at n k c : ℕ) → (n ≡ 0) ⊎ (at + n ≤ k * c) → meets (range at n) (granule c k) ≡ false
meets_not at n k c apart = le-ltb (max at (k * c)) (min (at + n) (k * c + c)) (⊎_elim (λ (none : n ≡ 0). omega arith) (λ (past : at + n ≤ k * c). omega arith) apart)

meets_it : (at n k c : ℕ) → 0 < n → 0 < c → at < k * c + c → k * c < at + n → meets (range at n) (granule c k) ≡ true
meets_it at n k c some more low high = lt-ltb (max at (k * c)) (min (at + n) (k * c + c)) (omega arith)

meets_same : (at n l k c : ℕ) → (k * c + c ≤ at + n) ⊎ (at + n + l ≤ k * c) → meets (range at (n + l)) (granule c k) ≡ meets (range at n) (granule c k)
meets_same at n l k c (inl ends) = ap (nat_lt (max at (k * c))) (omega arith)
meets_same at n l k c (inr past) = meets_not at (n + l) k c (inr (omega arith)) ∙ sym (meets_not at n k c (inr (omega arith)))

and_false : (x : Bool) → (x && false) ≡ false
and_false true = refl
and_false false = refl

-- nothing is needed for no bytes
cluster_none : (store : Store) (at k : ℕ) → needs_cluster store (range at 0) k ≡ false
cluster_none store at k = ap (λ (b : Bool). b && not (is_data (kind_at store k))) (meets_not at 0 k store.cluster (inl refl))

pub table_none : (store : Store) (at t : ℕ) → needs_table store (range at 0) t ≡ false
table_none store at t =
    ap (λ (x : Bool). not (is_in store.tables t) && x) (any_none (λ k. needs_cluster store (range at 0) k && (table_of store k == t)) 0 (length store.kinds) (λ k low high. ap (λ (x : Bool). x && (table_of store k == t)) (cluster_none store at k)))
    ∙ and_false (not (is_in store.tables t))

pub need_none : (store : Store) (at : ℕ) → need store (range at 0) ≡ 0
unfolding need
need_none store at =
    let a = counted_none (needs_cluster store (range at 0)) (length store.kinds) (λ k less. cluster_none store at k) in
    let b = counted_none (needs_table store (range at 0)) (length store.tables) (λ t less. table_none store at t) in
    omega (arith, a, b)

-- ---- what a row says

pub row_needs : (s : Shape) (file row : List ℕ) (i j n table : ℕ) → IsRow s file i j n row → table ≡ offset (u64_at file (s.l1 + 8 * i))
    → count_by (is_open_at row) (range_with_len 0 n) + cond (table == 0) 1 0 ≡ part_need s file i j n
row_needs s file row i j n table row_is at =
    let rows = counted_same (is_open_at row) (λ m. is_open s file i (j + m)) n (λ m less. ap (λ (w : ℕ). not (is_data (kind_of w))) (row_is.each m less)) in
    let own : cond {A = ℕ} (table == 0) 1 0 ≡ cond (has_table s file i) 0 1 = turned (table == 0) ∙ ap (λ (o : ℕ). cond {A = ℕ} (not (o == 0)) 0 1) at in
    omega (arith, rows, own)
  where
    turned : (b : Bool) → cond {A = ℕ} b 1 0 ≡ cond (not b) 0 1
    turned true = refl
    turned false = refl

-- ---- a part more

module _ (s : Shape) (file : List ℕ) (total : ℕ) (store : Store) (has : HasStore s total file store) (at n l : ℕ) (p : Part) (some : 0 < s.sectors) (part : IsPart s (at + n) l p) (next : IsNext n p) (fits : at + n + p.length ≤ total) where
  abbrev first : ℕ
  first = p.table * per s + p.slot

  abbrev c : ℕ
  c = store.cluster

  abbrev old : Extent
  old = range at n

  abbrev new : Extent
  new = range at (n + p.length)

  begins : at + n ≡ first * c + p.from
  begins = part.begins ∙ ap (λ (k : ℕ). first * k + p.from) (sym has.cluster)

  -- clusters before the part, in it, and behind it
  low_end : (k : ℕ) → k < first → k * c + c ≤ at + n
  low_end k less =
      let e : c * (k + 1) ≤ c * first = mul-le-mul_left c (omega (arith, less)) in
      let f : c * (k + 1) ≡ k * c + c = grind arith in
      omega (arith, e, f, begins, mul_comm c first)

  row_end : (first + p.count) * c ≡ first * c + size s * p.count
  row_end = (let f : (first + p.count) * c ≡ first * c + c * p.count = grind arith in f) ∙ ap (λ (k : ℕ). first * c + k * p.count) has.cluster

  high_start : (k : ℕ) → first + p.count ≤ k → at + n + p.length ≤ k * c
  high_start k more =
      let e : c * (first + p.count) ≤ c * k = mul-le-mul_left c more in
      omega (arith, e, mul_comm c k, mul_comm c (first + p.count), row_end, part.covers, begins)

  -- those in it
  in_start : (m : ℕ) → m < p.count → (first + m) * c < at + n + p.length
  in_start m less =
      let e : size s * (m + 1) ≤ size s * p.count = mul-le-mul_left (size s) (omega (arith, less)) in
      let f : size s * (m + 1) ≡ size s * m + size s = grind arith in
      let g : (first + m) * c ≡ first * c + c * m = grind arith in
      let h : c * m ≡ size s * m = ap (λ (k : ℕ). k * m) has.cluster in
      omega (arith, e, f, g, h, begins, part.least)

  in_end : (m : ℕ) → at + n < (first + m) * c + c
  in_end m =
      let g : (first + m) * c ≡ first * c + c * m = grind arith in
      omega (arith, g, begins, part.inside, has.cluster)

  pub not_yet : (k : ℕ) → first ≤ k → meets old (granule c k) ≡ false
  not_yet k more = elim next [
    | inl none ↦ meets_not at n k c (inl none)
    | inr border ↦ meets_not at n k c (inr (let e : c * first ≤ c * k = mul-le-mul_left c more in omega (arith, e, mul_comm c first, mul_comm c k, begins, border.1)))
  ]

  count_some : 0 < p.count
  count_some = elim (cases_eq p.count 0) [
    | inr more ↦ omega (arith, more)
    | inl none ↦ absurd (let e : size s * p.count ≡ 0 = ap (λ (k : ℕ). size s * k) none ∙ omega arith in omega (arith, e, part.covers, part.some))
  ]

  count_in : first + p.count ≤ length store.kinds
  count_in = elim (cases_lt (length store.kinds) (first + p.count)) [
    | inr is ↦ is
    | inl less ↦ absurd (
        let m : ℕ = p.count - 1 in
        let start = in_start m (omega (arith, count_some)) in
        let reach : total ≤ (first + m) * c = past_end total c (first + m) (omega (arith, has.cluster, some)) (subst (λ (k : ℕ). granules_in total k ≤ first + m) (sym has.cluster) (omega (arith, has.kind_count, less, count_some))) in
        omega (arith, start, reach, fits))
  ]

  kind_in : (m : ℕ) → m < p.count → kind_at store (first + m) ≡ kind_of (word_of s file p.table (p.slot + m))
  kind_in m less =
      let e : first + m ≡ p.table * per s + (p.slot + m) = omega arith in
      ap (kind_at store) e ∙ has.kinds p.table (p.slot + m) (omega (arith, less, part.slots)) (omega (arith, less, count_in))

  pub row_at : (row : List ℕ) → IsRow s file p.table p.slot p.count row → IsRowAt (size s) (flags_of store) at n first p row
  row_at row is = record {
    begins = part.begins;
    next = elim next [ inl none ↦ inl none | inr border ↦ inr border.1 ];
    inside = omega (arith, count_in, length-map store.kinds allocation_flags);
    each = λ m less.
        get_or-map allocation_flags store.kinds (first + m) Hole 0 (omega (arith, less, count_in))
        ∙ ap allocation_flags (kind_in m less ∙ ap kind_of (sym (is.each m less)));
  }

  pub touch_in : (m : ℕ) → m < p.count → meets new (granule c (first + m)) ≡ true
  touch_in m less = meets_it at (n + p.length) (first + m) c (omega (arith, part.some)) (omega (arith, has.cluster, some)) (omega (arith, in_end m)) (omega (arith, in_start m less))

  need_in : (m : ℕ) → m < p.count → needs_cluster store new (first + m) ≡ is_open s file p.table (p.slot + m)
  need_in m less = ap (λ (b : Bool). b && not (is_data (kind_at store (first + m)))) (touch_in m less) ∙ ap (λ k. not (is_data k)) (kind_in m less)

  need_not : (k : ℕ) → first ≤ k → needs_cluster store old k ≡ false
  need_not k more = ap (λ (b : Bool). b && not (is_data (kind_at store k))) (not_yet k more)

  pub touch_out : (k : ℕ) → (k < first) ⊎ (first + p.count ≤ k) → meets new (granule c k) ≡ meets old (granule c k)
  touch_out k out = meets_same at n p.length k c (⊎_elim (λ (less : k < first). inl (low_end k less)) (λ (more : first + p.count ≤ k). inr (high_start k more)) out)

  need_out : (k : ℕ) → (k < first) ⊎ (first + p.count ≤ k) → needs_cluster store new k ≡ needs_cluster store old k
  need_out k out = ap (λ (b : Bool). b && not (is_data (kind_at store k))) (touch_out k out)

  more_clusters : count_by (needs_cluster store new) (clusters store) ≡ count_by (needs_cluster store old) (clusters store) + count_by (λ m. is_open s file p.table (p.slot + m)) (range_with_len 0 p.count)
  more_clusters = counted_row (needs_cluster store new) (needs_cluster store old) (λ m. is_open s file p.table (p.slot + m)) first p.count (λ m less. (need_in m less, need_not (first + m) (omega arith))) need_out (length store.kinds) count_in

  -- ---- tables

  entries : c / 8 ≡ per s
  entries = omega (arith, has.cluster)

  pub other_table : (t : ℕ) → t ≢ p.table → needs_table store new t ≡ needs_table store old t
  other_table t other = ap (λ (b : Bool). not (is_in store.tables t) && b)
      (any_same (λ k. needs_cluster store new k && (table_of store k == t)) (λ k. needs_cluster store old k && (table_of store k == t)) 0 (length store.kinds) (λ k low high. by_place k (cases_lt k first) (cases_lt k (first + p.count))))
    where
      out : (k : ℕ) → (k < first) ⊎ (first + p.count ≤ k) → (needs_cluster store new k && (table_of store k == t)) ≡ (needs_cluster store old k && (table_of store k == t))
      out k is = ap (λ (b : Bool). b && (table_of store k == t)) (need_out k is)

      by_place : (k : ℕ) → (k < first) ⊎ (first ≤ k) → (k < first + p.count) ⊎ (first + p.count ≤ k) → (needs_cluster store new k && (table_of store k == t)) ≡ (needs_cluster store old k && (table_of store k == t))
      by_place k (inl less) b = out k (inl less)
      by_place k (inr from) (inr past) = out k (inr past)
      by_place k (inr from) (inl to) =
          let at_table : k / (c / 8) ≡ p.table = ap (λ (w : ℕ). k / w) entries ∙ div_is k (per s) p.table (k - p.table * per s) (omega (arith, from)) (omega (arith, from, to, part.slots)) in
          let no : (k / (c / 8) == t) ≡ false = ne_eqb (k / (c / 8)) t (λ e. other (sym e ∙ at_table)) in
          ap (λ (b : Bool). needs_cluster store new k && b) no ∙ and_false (needs_cluster store new k) ∙ sym (ap (λ (b : Bool). needs_cluster store old k && b) no ∙ and_false (needs_cluster store old k))

  pub table_in : p.table < length store.tables
  table_in = elim (cases_lt p.table (length store.tables)) [
    | inl is ↦ is
    | inr more ↦ absurd (
        let reach : length store.kinds ≤ p.table * per s = past_end (length store.kinds) (per s) p.table (omega (arith, some)) (omega (arith, has.table_count, more)) in
        omega (arith, reach, count_in, count_some))
  ]

  pub not_before : needs_table store old p.table ≡ false
  not_before = ap (λ (b : Bool). not (is_in store.tables p.table) && b)
      (any_none (λ k. needs_cluster store old k && (table_of store k == p.table)) 0 (length store.kinds) (λ k low high. by_place k (cases_lt k first)))
      ∙ and_false (not (is_in store.tables p.table))
    where
      by_place : (k : ℕ) → (k < first) ⊎ (first ≤ k) → (needs_cluster store old k && (table_of store k == p.table)) ≡ false
      by_place k (inr from) = ap (λ (b : Bool). b && (table_of store k == p.table)) (need_not k from)
      by_place k (inl less) = elim next [
        | inl none ↦ ap (λ (b : Bool). b && (table_of store k == p.table)) (ap (λ (b : Bool). b && not (is_data (kind_at store k))) (meets_not at n k c (inl none)))
        | inr border ↦
            let below : k / per s < p.table = div_less k (per s) p.table (omega (arith, some)) (omega (arith, less, border.0, mul_comm (per s) p.table)) in
            let no : (k / (c / 8) == p.table) ≡ false = ne_eqb (k / (c / 8)) p.table (λ e. let f : k / (c / 8) ≡ k / per s = ap (λ (w : ℕ). k / w) entries in omega (arith, e, f, below)) in
            ap (λ (b : Bool). needs_cluster store old k && b) no ∙ and_false (needs_cluster store old k)
      ]

  not_there : (o : ℕ) → not (o == 0) ≡ false → o ≡ 0
  not_there o is = elim (cases_eq o 0) [
    | inl none ↦ none
    | inr some ↦ absurd (let e : not (o == 0) ≡ true = ap not (ne_eqb o 0 some) in true≢false (sym e ∙ is))
  ]

  zero_open : not (is_data (kind_of 0)) ≡ true
  zero_open = ap (λ (o : ℕ). not (is_data (if o == 0 then Hole else if 0 % 2 == 0 then Data else Zeroed))) offset_none

  -- its first cluster is open where it isn't there
  pub needs_own : needs_table store new p.table ≡ not (has_table s file p.table)
  needs_own = by_table (has_table s file p.table) (has.tables p.table table_in) refl
    where
      by_table : (b : Bool) → is_in store.tables p.table ≡ has_table s file p.table → has_table s file p.table ≡ b → needs_table store new p.table ≡ not b
      by_table true is there = ap (λ (b : Bool). not b && list_any (λ k. needs_cluster store new k && (table_of store k == p.table)) (clusters store)) (is ∙ there)
      by_table false is there =
          let none : offset (u64_at file (s.l1 + 8 * p.table)) ≡ 0 = not_there (offset (u64_at file (s.l1 + 8 * p.table))) there in
          let word : word_of s file p.table (p.slot + 0) ≡ 0 = entry_none s file p.table (p.slot + 0) none in
          let hole : is_open s file p.table (p.slot + 0) ≡ true = ap (λ (w : ℕ). not (is_data (kind_of w))) word ∙ zero_open in
          let e : first + 0 ≡ first = omega arith in
          let here : needs_cluster store new first ≡ true = ap (needs_cluster store new) (sym e) ∙ need_in 0 count_some ∙ hole in
          let own : first / (c / 8) ≡ p.table = ap (λ (w : ℕ). first / w) entries ∙ div_is first (per s) p.table p.slot refl (omega (arith, part.slots, count_some)) in
          let both : (needs_cluster store new first && (table_of store first == p.table)) ≡ true =
          ap (λ (b : Bool). b && (first / (c / 8) == p.table)) here ∙ eq-eqb (first / (c / 8)) p.table own in
          ap (λ (b : Bool). not b && list_any (λ k. needs_cluster store new k && (table_of store k == p.table)) (clusters store)) (is ∙ there)
          ∙ any_at (λ k. needs_cluster store new k && (table_of store k == p.table)) (length store.kinds) first (omega (arith, count_in, count_some)) both

  more_tables : count_by (needs_table store new) (range_with_len 0 (length store.tables)) ≡ count_by (needs_table store old) (range_with_len 0 (length store.tables)) + cond (has_table s file p.table) 0 1
  more_tables =
      let row = counted_row (needs_table store new) (needs_table store old) (λ m. not (has_table s file p.table)) p.table 1
      (λ m less. let e : p.table + m ≡ p.table = omega (arith, less) in (ap (needs_table store new) e ∙ needs_own, ap (needs_table store old) e ∙ not_before))
      (λ t out. other_table t (λ e. ⊎_elim (λ (less : t < p.table). omega (arith, less, e)) (λ (more : p.table + 1 ≤ t). omega (arith, more, e)) out))
      (length store.tables) (omega (arith, table_in)) in
      row ∙ ap (λ (x : ℕ). count_by (needs_table store old) (range_with_len 0 (length store.tables)) + x) (one_of (has_table s file p.table))
    where
      one_of : (b : Bool) → count_by (λ m. not b) (range_with_len 0 1) ≡ cond {A = ℕ} b 0 1
      one_of true = refl
      one_of false = refl

  pub need_more : need store new ≡ need store old + part_need s file p.table p.slot p.count
  unfolding need
  need_more = omega (arith, more_clusters, more_tables)

-- one cluster for each of the disk's, and one for each table, would do for any write
pub need_within : (s : Shape) (file : List ℕ) (total : ℕ) (store : Store) (e : Extent) → HasStore s total file store → need store e ≤ granules_in total (size s) + granules_in (granules_in total (size s)) (per s)
unfolding need
need_within s file total store e has =
    let kinds = count_by-le-length (needs_cluster store e) (clusters store) in
    let tables = count_by-le-length (needs_table store e) (range_with_len 0 (length store.tables)) in
    let many = length-range_with_len 0 (length store.kinds) in
    let few = length-range_with_len 0 (length store.tables) in
    let table_count : length store.tables ≡ granules_in (granules_in total (size s)) (per s) = has.table_count ∙ ap (λ (n : ℕ). granules_in n (per s)) has.kind_count in
    omega (arith, kinds, tables, many, few, has.kind_count, table_count)
