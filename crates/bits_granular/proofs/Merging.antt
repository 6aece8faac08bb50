-- The granules of another set, put in one after another.
use Rattle.std.proofs.Common.{◌≡◌, ◌≢◌, ℕ, zero, suc, min, max, inl, inr, ◌*◌, ◌-◌, ◌<◌, ◌≤◌, ◌+◌, Bool, true, false, ◌&&◌, ◌||◌, List, length, refl, sym, ap, ◌∙◌, arith, rules}
use Rattle.std.specs.Prelude.{nat_lt}
use Rattle.std.proofs.lemmas.Bool.{cases_lt, cases_eq, cases_Bool, lt-ltb, le-ltb}
use Rattle.std.proofs.lemmas.Nat.{mul-le}
use Rattle.std.proofs.lemmas.List.{get_or_past}
use Rattle.bits_granular.specs.Words.{IsUnion, granules_from}
use Rattle.std.specs.List.{list_any, range_with_len}
use Rattle.span_algebra.specs.Spans.{granule}
use Rattle.bitmap_model.specs.Granules.{set_of, is_in, IsNext, HasNoNext, meets, meets_some, widened, united, GranuleSet, marked, merged}
use Rattle.bitmap_model.proofs.Sets.{set_of-from, set_of-same, is_in-set_of, length-set_of}
use Rattle.bits_granular.proofs.Marking.{or_none}
use Rattle.std.proofs.lemmas.Grind.{common_steps}

-- granule k, of size g, meets one of the first n granules, of size h, of the other set
abbrev pub meets_below : ℕ → ℕ → List Bool → ℕ → ℕ → Bool
meets_below g h other n k = list_any (λ j. is_in other j && meets (granule h j) (granule g k)) (range_with_len 0 n)

-- the set and each granule that meets one of these
unfoldable pub united_below : ℕ → List Bool → ℕ → List Bool → ℕ → List Bool
united_below g set h other n = set_of (length set) (λ k. is_in set k || meets_below g h other n k)

abbrev pub merged_below : GranuleSet → ℕ → List Bool → ℕ → GranuleSet
merged_below s h other n = record s { set = united_below s.granularity s.set h other n }

or_assoc : (x y z : Bool) → (x || (y || z)) ≡ ((x || y) || z)
or_assoc true y z = refl
or_assoc false y z = refl

or_false : (x : Bool) → (x || false) ≡ x
or_false true = refl
or_false false = refl

any_more : (p : ℕ → Bool) (a n : ℕ) → list_any p (range_with_len a (suc n)) ≡ (list_any p (range_with_len a n) || p (a + n))
any_more p a zero = search rules
any_more p a (suc n) = grind (arith, common_steps, or_assoc, any_more p (a + 1) n)

meets_more : (g h : ℕ) (other : List Bool) (n k : ℕ)
    → meets_below g h other (n + 1) k ≡ (meets_below g h other n k || (is_in other n && meets (granule h n) (granule g k)))
meets_more g h other n k =
    let p : ℕ → Bool = λ j. is_in other j && meets (granule h j) (granule g k) in
    let same : 0 + n ≡ n = omega arith in
    let next : n + 1 ≡ suc n = omega arith in
    ap (λ (m : ℕ). list_any p (range_with_len 0 m)) next
    ∙ (any_more p 0 n ∙ ap (λ (m : ℕ). list_any p (range_with_len 0 n) || p m) same)

pub merged_none : (s : GranuleSet) (h : ℕ) (other : List Bool) → s ≡ merged_below s h other 0
unfolding united_below
merged_none s h other = grind (arith, common_steps, set_of-from, or_none)

united_without : (g h : ℕ) (set other : List Bool) (n : ℕ) → is_in other n ≡ false → united_below g set h other n ≡ united_below g set h other (n + 1)
unfolding united_below
united_without g h set other n none = grind (arith, common_steps, set_of-same, meets_more, or_false)

united_with : (g h : ℕ) (set other : List Bool) (n : ℕ) → is_in other n ≡ true
    → widened g (granule h n) (united_below g set h other n) ≡ united_below g set h other (n + 1)
unfolding united_below widened
united_with g h set other n here =
    let part : List Bool = united_below g set h other n in
    let test : ℕ → Bool = λ k. is_in set k || meets_below g h other n k in
    let count : length part ≡ length set = length-set_of (length set) test in
    ap (λ (m : ℕ). set_of m (λ k. is_in part k || meets (granule h n) (granule g k))) count
    ∙ set_of-same (length set) (λ k. is_in part k || meets (granule h n) (granule g k)) (λ k. is_in set k || meets_below g h other (n + 1) k)
    (λ k below. ap (λ (b : Bool). b || meets (granule h n) (granule g k)) (is_in-set_of (length set) test k below)
    ∙ (sym (or_assoc (is_in set k) (meets_below g h other n k) (meets (granule h n) (granule g k)))
    ∙ ap (λ (b : Bool). is_in set k || b)
    (sym (meets_more g h other n k ∙ ap (λ (b : Bool). meets_below g h other n k || (b && meets (granule h n) (granule g k))) here))))

pub merged_without : (s : GranuleSet) (h : ℕ) (other : List Bool) (n : ℕ) → is_in other n ≡ false → merged_below s h other n ≡ merged_below s h other (n + 1)
merged_without s h other n none = grind (arith, common_steps, united_without)

pub merged_with : (s : GranuleSet) (h : ℕ) (other : List Bool) (n : ℕ) → is_in other n ≡ true
    → marked (merged_below s h other n) (granule h n) ≡ merged_below s h other (n + 1)
merged_with s h other n here = grind (arith, common_steps, united_with)

pub merged_all : (s other : GranuleSet) → merged_below s other.granularity other.set (length other.set) ≡ merged s other
unfolding united_below united
merged_all s other = refl

plus_zero : (n : ℕ) → n ≡ n + 0
plus_zero n = omega arith

zero_plus : (n : ℕ) → 0 + n ≡ n
zero_plus n = omega arith

plus_suc : (a n : ℕ) → a + n + 1 ≡ a + suc n
plus_suc a n = omega arith

plus_one : (a : ℕ) → a + 1 ≡ a + suc 0
plus_one a = omega arith

one_times : (h : ℕ) → suc 0 * h ≡ h
one_times h = omega arith

one_longer : (n h : ℕ) → n * h + h ≡ suc n * h
one_longer n h = search rules

one_more_times : (n h : ℕ) → n * h + h ≡ (n + 1) * h
one_more_times n h = search rules

times_some : (n h : ℕ) → 0 < h → 0 < suc n * h
times_some n h some = grind (arith, common_steps)

spread : (a b h : ℕ) → a * h + b * h ≡ (a + b) * h
spread a b h = search rules

and_no : (a : Bool) → (a && false) ≡ false
and_no true = refl
and_no false = refl

and_yes : (a : Bool) → (a && true) ≡ a
and_yes true = refl
and_yes false = refl

later : (q w : ℕ) → (q ≡ w → ⊥) → nat_lt q w ≡ nat_lt q (suc w)
later q w other = elim (cases_lt q w) [
  | inl before ↦ lt-ltb q w before ∙ sym (lt-ltb q (suc w) (omega arith))
  | inr from ↦ le-ltb q w from ∙ sym (le-ltb q (suc w) (omega (arith, from, other)))
]

-- ---- runs of granules of the other set

pub merged_skip : (s : GranuleSet) (h : ℕ) (other : List Bool) (from n : ℕ) → ((j : ℕ) → from ≤ j → j < from + n → is_in other j ≡ false)
    → merged_below s h other from ≡ merged_below s h other (from + n)
merged_skip s h other from zero none = ap (λ (m : ℕ). merged_below s h other m) (plus_zero from)
merged_skip s h other from (suc n) none =
    merged_skip s h other from n (λ j past below. none j past (omega arith))
    ∙ (merged_without s h other (from + n) (none (from + n) (omega arith) (omega arith)) ∙ ap (λ (m : ℕ). merged_below s h other m) (plus_suc from n))

meets_either : (x : Bool) (at n m p q : ℕ) → 0 < n → 0 < m → p < q
    → ((x || nat_lt (max at p) (min (at + n) q)) || nat_lt (max (at + n) p) (min (at + n + m) q)) ≡ (x || nat_lt (max at p) (min (at + (n + m)) q))
meets_either x at n m p q some more order = grind (arith, common_steps)

marked_twice : (s : GranuleSet) (at n m : ℕ) → 0 < s.granularity → 0 < n → 0 < m
    → marked (marked s (record { at = at; size = n })) (record { at = at + n; size = m }) ≡ marked s (record { at = at; size = n + m })
unfolding widened
marked_twice s at n m some first second =
    let g : ℕ = s.granularity in
    let one : ℕ → Bool = λ k. is_in s.set k || meets (record { at = at; size = n }) (granule g k) in
    let part : List Bool = set_of (length s.set) one in
    let count : length part ≡ length s.set = length-set_of (length s.set) one in
    ap (λ (xs : List Bool). record s { set = xs })
    (ap (λ (c : ℕ). set_of c (λ k. is_in part k || meets (record { at = at + n; size = m }) (granule g k))) count
    ∙ set_of-same (length s.set) (λ k. is_in part k || meets (record { at = at + n; size = m }) (granule g k)) (λ k. is_in s.set k || meets (record { at = at; size = n + m }) (granule g k))
    (λ k below. ap (λ (b : Bool). b || meets (record { at = at + n; size = m }) (granule g k)) (is_in-set_of (length s.set) one k below)
    ∙ meets_either (is_in s.set k) at n m (k * g) (k * g + g) first second (omega (arith, some))))

pub merged_run : (s : GranuleSet) (h : ℕ) (other : List Bool) (first n : ℕ) → 0 < s.granularity → 0 < h → ((j : ℕ) → first ≤ j → j < first + suc n → is_in other j ≡ true)
    → marked (merged_below s h other first) (record { at = first * h; size = suc n * h }) ≡ merged_below s h other (first + suc n)
merged_run s h other first zero some granules all =
    ap (λ (m : ℕ). marked (merged_below s h other first) (record { at = first * h; size = m })) (one_times h)
    ∙ (merged_with s h other first (all first (omega arith) (omega arith)) ∙ ap (λ (m : ℕ). merged_below s h other m) (plus_one first))
merged_run s h other first (suc n) some granules all =
    let before : marked (merged_below s h other first) (record { at = first * h; size = suc n * h }) ≡ merged_below s h other (first + suc n) =
    merged_run s h other first n some granules (λ j past below. all j past (omega arith)) in
    let start : first * h + suc n * h ≡ (first + suc n) * h = spread first (suc n) h in
    let size : suc n * h + h ≡ suc (suc n) * h = one_longer (suc n) h in
    sym (marked_twice (merged_below s h other first) (first * h) (suc n * h) h some (times_some n h granules) granules
    ∙ ap (λ (m : ℕ). marked (merged_below s h other first) (record { at = first * h; size = m })) size)
    ∙ (ap (λ (t : GranuleSet). marked t (record { at = first * h + suc n * h; size = h })) before
    ∙ (ap (λ (m : ℕ). marked (merged_below s h other (first + suc n)) (record { at = m; size = h })) start
    ∙ (merged_with s h other (first + suc n) (all (first + suc n) (omega arith) (omega arith)) ∙ ap (λ (m : ℕ). merged_below s h other m) (plus_suc first (suc n)))))

clean_to : (other : List Bool) (from first j : ℕ) → IsNext (is_in other) from first → from ≤ j → j < first → is_in other j ≡ false
clean_to other from first j n past below = elim (cases_Bool (is_in other j)) [
  | inl here ↦ let late : first ≤ j = n.first j past here in absurd (omega arith)
  | inr none ↦ none
]

-- the next run of granules goes into the set
pub merged_on : (s now new : GranuleSet) (h : ℕ) (other : List Bool) (from first past : ℕ) → 0 < s.granularity → 0 < h → IsNext (is_in other) from first → first < past
    → ((k : ℕ) → first ≤ k → k < past → is_in other k ≡ is_in other first) → now ≡ merged_below s h other from → new ≡ marked now (granules_from h first past)
    → new ≡ merged_below s h other past
merged_on s now new h other from first past some granules n order same before is =
    let skip : from + (first - from) ≡ first = omega (arith, n.not_below) in
    let run : first + suc (past - first - 1) ≡ past = omega (arith, order) in
    let size : suc (past - first - 1) ≡ past - first = omega (arith, order) in
    is
    ∙ (ap (λ (t : GranuleSet). marked t (granules_from h first past)) (before
    ∙ (merged_skip s h other from (first - from) (λ j past below. clean_to other from first j n past (omega (arith, below, skip))) ∙ ap (λ (m : ℕ). merged_below s h other m) skip))
    ∙ (ap (λ (m : ℕ). marked (merged_below s h other first) (record { at = first * h; size = m * h })) (sym size)
    ∙ (merged_run s h other first (past - first - 1) some granules (λ j from_here below. same j from_here (omega (arith, below, run)) ∙ n.passes)
    ∙ ap (λ (m : ℕ). merged_below s h other m) run)))

pub merged_end : (s now other : GranuleSet) (from : ℕ) → HasNoNext (is_in other.set) from → from ≤ length other.set → now ≡ merged_below s other.granularity other.set from → now ≡ merged s other
merged_end s now other from none within before =
    let skip : from + (length other.set - from) ≡ length other.set = omega (arith, within) in
    before
    ∙ (merged_skip s other.granularity other.set from (length other.set - from) (λ j past below. elim (cases_Bool (is_in other.set j)) [ inl here ↦ absurd (none j past here) | inr clean ↦ clean ])
    ∙ (ap (λ (m : ℕ). merged_below s other.granularity other.set m) skip ∙ merged_all s other))

-- ---- sets of one granularity

any_one : (p : ℕ → Bool) (k n : ℕ) → ((j : ℕ) → j ≢ k → p j ≡ false) → list_any p (range_with_len 0 n) ≡ (nat_lt k n && p k)
any_one p k zero none = grind (arith, common_steps)
any_one p k (suc n) none =
    any_more p 0 n ∙ (ap (λ (m : ℕ). list_any p (range_with_len 0 n) || p m) (zero_plus n) ∙ (ap (λ (b : Bool). b || p n) (any_one p k n none)
    ∙ elim (cases_eq n k) [
      | inl same ↦
          let late : nat_lt k n ≡ false = le-ltb k n (omega (arith, same)) in
          let now : nat_lt k (suc n) ≡ true = lt-ltb k (suc n) (omega (arith, same)) in
          let there : p n ≡ p k = ap p same in
          grind (arith, common_steps)
      | inr other ↦
          let no : p n ≡ false = none n other in
          let same : nat_lt k n ≡ nat_lt k (suc n) = later k n (λ (e : k ≡ n). other (sym e)) in
          grind (arith, common_steps)
    ]))

apart : (g j k : ℕ) → 0 < g → j ≢ k → meets (granule g j) (granule g k) ≡ false
apart g j k some other = elim (cases_lt j k) [
  | inl before ↦ le-ltb (max (j * g) (k * g)) (min (j * g + g) (k * g + g)) (let p : (j + 1) * g ≤ k * g = mul-le (j + 1) g k g (omega arith) (omega arith) in let q : j * g + g ≡ (j + 1) * g = one_more_times j g in omega (arith, p, q))
  | inr after ↦ le-ltb (max (j * g) (k * g)) (min (j * g + g) (k * g + g)) (let p : (k + 1) * g ≤ j * g = mul-le (k + 1) g j g (omega (arith, other)) (omega arith) in let q : k * g + g ≡ (k + 1) * g = one_more_times k g in omega (arith, p, q))
]

meets_itself : (g k : ℕ) → 0 < g → meets (granule g k) (granule g k) ≡ true
meets_itself g k some = lt-ltb (max (k * g) (k * g)) (min (k * g + g) (k * g + g)) (omega (arith, some))

meets_one : (g : ℕ) (other : List Bool) (k : ℕ) → 0 < g → meets_some (granule g k) g other ≡ is_in other k
meets_one g other k some =
    let p : ℕ → Bool = λ j. is_in other j && meets (granule g j) (granule g k) in
    any_one p k (length other) (λ j apart_here. ap (λ (b : Bool). is_in other j && b) (apart g j k some apart_here) ∙ and_no (is_in other j))
    ∙ elim (cases_lt k (length other)) [
      | inl inside ↦ ap (λ (b : Bool). b && p k) (lt-ltb k (length other) inside) ∙ (ap (λ (b : Bool). is_in other k && b) (meets_itself g k some) ∙ and_yes (is_in other k))
      | inr past ↦ ap (λ (b : Bool). b && p k) (le-ltb k (length other) past) ∙ sym (get_or_past other k false past)
    ]

pub merged_same : (s other : GranuleSet) (new : List Bool) → 0 < s.granularity → s.granularity ≡ other.granularity → IsUnion s.set other.set new → record s { set = new } ≡ merged s other
unfolding united
merged_same s other new some same union =
    ap (λ (xs : List Bool). record s { set = xs })
    (set_of-from (length s.set) (λ k. is_in s.set k || meets_some (granule s.granularity k) other.granularity other.set) new union.count
    (λ k _. union.both k ∙ ap (λ (b : Bool). is_in s.set k || b)
    (sym (ap (λ (h : ℕ). meets_some (granule s.granularity k) h other.set) (sym same) ∙ meets_one s.granularity other.set k some))))
