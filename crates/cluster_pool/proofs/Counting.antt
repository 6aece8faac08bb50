-- How many numbers of a range pass a test.
use Rattle.std.proofs.Common.{◌≡◌, ◌≢◌, ℕ, zero, suc, ◌+◌, ◌-◌, ◌<◌, ◌≤◌, max, min, Bool, true, false, inl, inr, refl, sym, ap, ◌∙◌, arith}
use Rattle.std.specs.Prelude.{count_by, if◌then◌else◌}
use Rattle.std.specs.List.{range_with_len}
use Rattle.std.proofs.lemmas.Bool.{cases_lt, cases_eq}
use Rattle.std.proofs.lemmas.List.Sums.{sum_by-cons}

abbrev pub one_if : Bool → ℕ
one_if b = if b then 1 else 0

pub count-suc : (f : ℕ → Bool) (a n : ℕ) → count_by f (range_with_len a (suc n)) ≡ one_if (f a) + count_by f (range_with_len (a + 1) n)
count-suc f a n = sum_by-cons (λ k. one_if (f k)) a (range_with_len (a + 1) n)

pub count_same : (f g : ℕ → Bool) (a n : ℕ) → ((k : ℕ) → a ≤ k → k < a + n → f k ≡ g k) → count_by f (range_with_len a n) ≡ count_by g (range_with_len a n)
count_same f g a zero same = refl
count_same f g a (suc n) same =
    let here : f a ≡ g a = same a (omega arith) (omega arith) in
    let rest : count_by f (range_with_len (a + 1) n) ≡ count_by g (range_with_len (a + 1) n) = count_same f g (a + 1) n (λ k p q. same k (omega arith) (omega arith)) in
    cc (count-suc f a n, count-suc g a n)

-- the tests differ at one number alone
pub count_one_less : (f g : ℕ → Bool) (a n j : ℕ) → a ≤ j → j < a + n → f j ≡ true → g j ≡ false
    → ((k : ℕ) → a ≤ k → k < a + n → k ≢ j → f k ≡ g k) → count_by f (range_with_len a n) ≡ count_by g (range_with_len a n) + 1
count_one_less f g a zero j low high passes fails same = absurd (omega arith)
count_one_less f g a (suc n) j low high passes fails same = elim (cases_eq a j) [
  | inl here ↦
      let first : f a ≡ true = ap f here ∙ passes in
      let second : g a ≡ false = ap g here ∙ fails in
      let ones : one_if (f a) ≡ 1 = ap one_if first in
      let none : one_if (g a) ≡ 0 = ap one_if second in
      let rest : count_by f (range_with_len (a + 1) n) ≡ count_by g (range_with_len (a + 1) n) = count_same f g (a + 1) n (λ k p q. same k (omega arith) (omega arith) (omega arith)) in
      omega (arith, count-suc f a n, count-suc g a n)
  | inr apart ↦
      let here : f a ≡ g a = same a (omega arith) (omega arith) apart in
      let heads : one_if (f a) ≡ one_if (g a) = ap one_if here in
      let rest : count_by f (range_with_len (a + 1) n) ≡ count_by g (range_with_len (a + 1) n) + 1 = count_one_less f g (a + 1) n j (omega arith) (omega arith) passes fails (λ k p q. same k (omega arith) (omega arith)) in
      omega (arith, count-suc f a n, count-suc g a n)
]

pub count_true : (a n : ℕ) → count_by (λ (k : ℕ). true) (range_with_len a n) ≡ n
count_true a zero = refl
count_true a (suc n) = omega (arith, count-suc (λ k. true) a n, count_true (a + 1) n)

pub count_all : (f : ℕ → Bool) (a n : ℕ) → ((k : ℕ) → a ≤ k → k < a + n → f k ≡ true) → count_by f (range_with_len a n) ≡ n
count_all f a n all = count_same f (λ k. true) a n all ∙ count_true a n

pub count_all_but_one : (f : ℕ → Bool) (a n j : ℕ) → a ≤ j → j < a + n → f j ≡ false → ((k : ℕ) → a ≤ k → k < a + n → k ≢ j → f k ≡ true) → count_by f (range_with_len a n) ≡ n - 1
count_all_but_one f a n j low high fails all =
    omega (arith, count_one_less (λ k. true) f a n j low high refl fails (λ k p q other. sym (all k p q other)), count_true a n)

pub count_cut : (f : ℕ → Bool) (a m n : ℕ) → count_by f (range_with_len a (m + n)) ≡ count_by f (range_with_len a m) + count_by f (range_with_len (a + m) n)
count_cut f a zero n =
    let whole : 0 + n ≡ n = omega arith in
    let from : a + 0 ≡ a = omega arith in
    ap (λ (x : ℕ). count_by f (range_with_len a x)) whole ∙ sym (ap (λ (x : ℕ). 0 + count_by f (range_with_len x n)) from ∙ omega arith)
count_cut f a (suc m) n =
    let whole : suc m + n ≡ suc (m + n) = omega arith in
    let from : a + 1 + m ≡ a + suc m = omega arith in
    let rest : count_by f (range_with_len (a + 1) (m + n)) ≡ count_by f (range_with_len (a + 1) m) + count_by f (range_with_len (a + 1 + m) n) = count_cut f (a + 1) m n in
    let e : count_by f (range_with_len a (suc m + n)) ≡ count_by f (range_with_len a (suc (m + n))) = ap (λ (x : ℕ). count_by f (range_with_len a x)) whole in
    let d : count_by f (range_with_len (a + 1 + m) n) ≡ count_by f (range_with_len (a + suc m) n) = ap (λ (x : ℕ). count_by f (range_with_len x n)) from in
    omega (arith, count-suc f a (m + n), count-suc f a m)

-- from `low` on and before `past`, cut at a number
pub count_between : (f : ℕ → Bool) (low at past top : ℕ) → at ≤ past
    → count_by f (range_with_len low (min top past - low)) ≡ count_by f (range_with_len low (min top at - low)) + count_by f (range_with_len (max low at) (min top past - max low at))
count_between f low at past top order =
    let m : ℕ = min top at - low in
    let n : ℕ = min top past - max low at in
    let whole : min top past - low ≡ m + n = omega arith in
    elim (cases_lt 0 n) [
      | inl some ↦
          let from : low + m ≡ max low at = omega arith in
          ap (λ (x : ℕ). count_by f (range_with_len low x)) whole ∙ count_cut f low m n
          ∙ ap (λ (x : ℕ). count_by f (range_with_len low m) + count_by f (range_with_len x n)) from
      | inr none ↦
          let nothing : n ≡ 0 = omega arith in
          let same : min top past - low ≡ m = omega arith in
          ap (λ (x : ℕ). count_by f (range_with_len low x)) same
          ∙ sym (ap (λ (x : ℕ). count_by f (range_with_len low m) + count_by f (range_with_len (max low at) x)) nothing ∙ omega arith)
    ]
