-- A write into clusters that are Data changes nothing of an image's space.
use Rattle.std.proofs.Common.{◌≡◌, ℕ, zero, suc, ◌+◌, ◌-◌, ◌<◌, ◌≤◌, List, ◌∷◌, length, map, replicate, Bool, true, false, cond, ◌&&◌, ◌||◌, not, refl, ap, ◌∙◌, arith}
use Rattle.std.specs.Prelude.{count_by, slice_index_or, if◌then◌else◌}
use Rattle.std.specs.List.{range_with_len, fold}
use Rattle.std.proofs.lemmas.List.{get_or-replicate, length-replicate}
use Rattle.span_algebra.specs.Timelines.{Extent}
use Rattle.bitmap_model.specs.Granules.{granules_in, set_of, is_in}
use Rattle.image_model.specs.Space.{Kind, Data, Hole, is_data, is_zeroed, kind_at, clusters, entries_in, is_touched, needs_cluster, needs_table, need, kinds_written, tables_written, store_written, freed_by_write}
use Rattle.toy_image.specs.declared.numbers.Numbers.{Numbers}
use Rattle.toy_image.specs.Images.{store_of}

none_from : (p : ℕ → Bool) (a n : ℕ) → ((k : ℕ) → a ≤ k → k < a + n → p k ≡ false) → count_by p (range_with_len a n) ≡ 0
none_from p a zero none = refl
none_from p a (suc n) none =
    ap (λ (b : Bool). fold (λ sum k. sum + cond (p k) 1 0) (0 + cond b 1 0) (range_with_len (a + 1) n)) (none a (omega arith) (omega arith))
    ∙ none_from p (a + 1) n (λ k low high. none k (omega (arith, low)) (omega (arith, high)))

same_from : {X : Type 0} (f : ℕ → X) (x : X) (a n : ℕ) → ((k : ℕ) → a ≤ k → k < a + n → f k ≡ x) → map f (range_with_len a n) ≡ replicate n x
same_from f x a zero same = refl
same_from f x a (suc n) same =
    ap (λ y. y ∷ map f (range_with_len (a + 1) n)) (same a (omega arith) (omega arith))
    ∙ ap (λ ys. x ∷ ys) (same_from f x (a + 1) n (λ k low high. same k (omega (arith, low)) (omega (arith, high))))

kind_is : (n k : ℕ) → k < n → slice_index_or (replicate n Data) k Hole ≡ Data
kind_is n k below = get_or-replicate n k Data Hole below

there_is : (n k : ℕ) → k < n → is_in (replicate n true) k ≡ true
there_is n k below = get_or-replicate n k true false below

and_not : (b : Bool) (k : Kind) → k ≡ Data → (b && not (is_data k)) ≡ false
and_not false k is = refl
and_not true k is = ap (λ (x : Kind). not (is_data x)) is

and_zeroed : (b : Bool) (k : Kind) → k ≡ Data → (b && is_zeroed k) ≡ false
and_zeroed false k is = refl
and_zeroed true k is = ap is_zeroed is

written_kind : (b : Bool) (k : Kind) → k ≡ Data → (if b then Data else k) ≡ Data
written_kind false k is = is
written_kind true k is = refl

not_needed : (b c : Bool) → b ≡ true → (not b && c) ≡ false
not_needed b c is = rw is refl

or_there : (b c : Bool) → b ≡ true → (b || c) ≡ true
or_there b c is = rw is refl

module _ (t : Numbers) (e : Extent) where
  n : ℕ
  n = granules_in t.size t.cluster

  m : ℕ
  m = granules_in n (entries_in t.cluster)

  long : length (store_of t).kinds ≡ n
  unfolding n
  long = length-replicate (granules_in t.size t.cluster) Data

  wide : length (store_of t).tables ≡ m
  unfolding m n
  wide = length-replicate (granules_in (granules_in t.size t.cluster) (entries_in t.cluster)) true

  data_at : (k : ℕ) → k < length (store_of t).kinds → kind_at (store_of t) k ≡ Data
  unfolding n
  data_at k below = kind_is (granules_in t.size t.cluster) k (omega (arith, below, long))

  table_at : (k : ℕ) → k < length (store_of t).tables → is_in (store_of t).tables k ≡ true
  unfolding m n
  table_at k below = there_is (granules_in (granules_in t.size t.cluster) (entries_in t.cluster)) k (omega (arith, below, wide))

  pub need_is : need (store_of t) e ≡ 0
  unfolding need
  need_is =
      let first : count_by (needs_cluster (store_of t) e) (clusters (store_of t)) ≡ 0 = none_from (needs_cluster (store_of t) e) 0 (length (store_of t).kinds)
      (λ k low high. and_not (is_touched (store_of t) e k) (kind_at (store_of t) k) (data_at k (omega (arith, high)))) in
      let second : count_by (needs_table (store_of t) e) (range_with_len 0 (length (store_of t).tables)) ≡ 0 = none_from (needs_table (store_of t) e) 0 (length (store_of t).tables)
      (λ k low high. not_needed (is_in (store_of t).tables k) _ (table_at k (omega (arith, high)))) in
      omega (arith, first, second)

  pub freed_is : freed_by_write (store_of t) e ≡ 0
  unfolding freed_by_write
  freed_is = none_from (λ k. is_touched (store_of t) e k && is_zeroed (kind_at (store_of t) k)) 0 (length (store_of t).kinds)
      (λ k low high. and_zeroed (is_touched (store_of t) e k) (kind_at (store_of t) k) (data_at k (omega (arith, high))))

  kinds_stay : kinds_written (store_of t) e ≡ (store_of t).kinds
  kinds_stay = same_from (λ k. if is_touched (store_of t) e k then Data else kind_at (store_of t) k) Data 0 (length (store_of t).kinds)
      (λ k low high. written_kind (is_touched (store_of t) e k) (kind_at (store_of t) k) (data_at k (omega (arith, high))))
      ∙ ap (λ (k : ℕ). replicate k Data) (length-replicate (granules_in t.size t.cluster) Data)

  tables_stay : tables_written (store_of t) e ≡ (store_of t).tables
  unfolding set_of
  tables_stay = same_from (λ k. is_in (store_of t).tables k || needs_table (store_of t) e k) true 0 (length (store_of t).tables)
      (λ k low high. or_there (is_in (store_of t).tables k) (needs_table (store_of t) e k) (table_at k (omega (arith, high))))
      ∙ ap (λ (k : ℕ). replicate k true) (length-replicate (granules_in (granules_in t.size t.cluster) (entries_in t.cluster)) true)

  store_by : (kinds : List Kind) (tables : List Bool) (room : ℕ) → kinds ≡ (store_of t).kinds → tables ≡ (store_of t).tables → room ≡ t.room
      → record (store_of t) { kinds = kinds; tables = tables; room = room } ≡ store_of t
  store_by kinds tables room a b c = λ i. record { cluster = t.cluster; kinds = a i; tables = b i; room = c i }

  pub store_stays : store_written (store_of t) e ≡ store_of t
  unfolding store_written
  store_stays = store_by (kinds_written (store_of t) e) (tables_written (store_of t) e) (t.room - need (store_of t) e) kinds_stay tables_stay (let none = need_is in omega (arith, none))
