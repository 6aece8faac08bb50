-- Tests of the first numbers that differ in a row of them alone.
use Rattle.std.proofs.Common.{◌≡◌, ◌⊎◌, inl, inr, ℕ, zero, suc, ◌+◌, ◌-◌, ◌<◌, ◌≤◌, Bool, true, false, refl, sym, ◌∙◌, ap, cond, arith}
use Rattle.std.specs.Prelude.{count_by, ◌||◌}
use Rattle.std.specs.List.{list_any, range_with_len}
use Rattle.std.proofs.lemmas.List.Folds.{list_any_at}
use Rattle.std.proofs.lemmas.List.FromFn.{length-range_with_len, get_or-range_with_len}
use Rattle.map_rows.proofs.Counting.{counted_more}

-- ---- whether one passes

pub any_same : (p q : ℕ → Bool) (a n : ℕ) → ((k : ℕ) → a ≤ k → k < a + n → p k ≡ q k) → list_any p (range_with_len a n) ≡ list_any q (range_with_len a n)
any_same p q a zero each = refl
any_same p q a (suc n) each =
    ap (λ (b : Bool). b || list_any p (range_with_len (a + 1) n)) (each a (omega arith) (omega arith))
    ∙ ap (λ (b : Bool). q a || b) (any_same p q (a + 1) n (λ k low high. each k (omega arith) (omega arith)))

pub any_none : (p : ℕ → Bool) (a n : ℕ) → ((k : ℕ) → a ≤ k → k < a + n → p k ≡ false) → list_any p (range_with_len a n) ≡ false
any_none p a zero each = refl
any_none p a (suc n) each =
    ap (λ (b : Bool). b || list_any p (range_with_len (a + 1) n)) (each a (omega arith) (omega arith))
    ∙ any_none p (a + 1) n (λ k low high. each k (omega arith) (omega arith))

pub any_at : (p : ℕ → Bool) (n k : ℕ) → k < n → p k ≡ true → list_any p (range_with_len 0 n) ≡ true
any_at p n k inside is =
    list_any_at p (range_with_len 0 n) k 0 (omega (arith, inside, length-range_with_len 0 n)) (ap p (get_or-range_with_len 0 n k 0 inside ∙ omega arith) ∙ is)

-- ---- how many pass

pub one_more : (p : ℕ → Bool) (n j : ℕ) → j ≡ n + 1 → count_by p (range_with_len 0 j) ≡ count_by p (range_with_len 0 n) + cond (p n) 1 0
one_more p n j is =
    let same : 0 + n ≡ n = omega arith in
    ap (λ (k : ℕ). count_by p (range_with_len 0 k)) is ∙ counted_more p 0 n ∙ ap (λ (k : ℕ). count_by p (range_with_len 0 n) + cond (p k) 1 0) same

pub counted_none : (p : ℕ → Bool) (n : ℕ) → ((k : ℕ) → k < n → p k ≡ false) → count_by p (range_with_len 0 n) ≡ 0
counted_none p zero each = refl
counted_none p (suc n) each =
    let one : cond {A = ℕ} (p n) 1 0 ≡ 0 = ap (λ (b : Bool). cond {A = ℕ} b 1 0) (each n (omega arith)) in
    let rest = counted_none p n (λ k less. each k (omega arith)) in
    let more : count_by p (range_with_len 0 (suc n)) ≡ count_by p (range_with_len 0 n) + cond (p n) 1 0 = one_more p n (suc n) (omega arith) in
    omega (arith, more, one, rest)

pub counted_same : (p q : ℕ → Bool) (n : ℕ) → ((k : ℕ) → k < n → p k ≡ q k) → count_by p (range_with_len 0 n) ≡ count_by q (range_with_len 0 n)
counted_same p q zero each = refl
counted_same p q (suc n) each =
    let one : cond {A = ℕ} (p n) 1 0 ≡ cond (q n) 1 0 = ap (λ (b : Bool). cond {A = ℕ} b 1 0) (each n (omega arith)) in
    let rest = counted_same p q n (λ k less. each k (omega arith)) in
    omega (arith, one_more p n (suc n) (omega arith), one_more q n (suc n) (omega arith), one, rest)

-- p is q, but from a on for n numbers, where q is false, and p is r
module _ (p q r : ℕ → Bool) (a n : ℕ) (inside : (m : ℕ) → m < n → (p (a + m) ≡ r m) × (q (a + m) ≡ false)) (outside : (k : ℕ) → (k < a) ⊎ (a + n ≤ k) → p k ≡ q k) where
  before : (k : ℕ) → k ≤ a → count_by p (range_with_len 0 k) ≡ count_by q (range_with_len 0 k)
  before zero below = refl
  before (suc k) below =
      let one : cond {A = ℕ} (p k) 1 0 ≡ cond (q k) 1 0 = ap (λ (b : Bool). cond {A = ℕ} b 1 0) (outside k (inl (omega arith))) in
      let rest = before k (omega arith) in
      let more_p : count_by p (range_with_len 0 (suc k)) ≡ count_by p (range_with_len 0 k) + cond (p k) 1 0 = one_more p k (suc k) (omega arith) in
      let more_q : count_by q (range_with_len 0 (suc k)) ≡ count_by q (range_with_len 0 k) + cond (q k) 1 0 = one_more q k (suc k) (omega arith) in
      omega (arith, more_p, more_q, one, rest)

  within : (m : ℕ) → m ≤ n → count_by p (range_with_len 0 (a + m)) ≡ count_by q (range_with_len 0 (a + m)) + count_by r (range_with_len 0 m)
  within zero below = let e : a + 0 ≡ a = omega arith in
      ap (λ (k : ℕ). count_by p (range_with_len 0 k)) e ∙ before a (omega arith) ∙ sym (ap (λ (k : ℕ). count_by q (range_with_len 0 k)) e) ∙ omega arith
  within (suc m) below =
      let here = inside m (omega arith) in
      let one : cond {A = ℕ} (p (a + m)) 1 0 ≡ cond (r m) 1 0 = ap (λ (b : Bool). cond {A = ℕ} b 1 0) here.0 in
      let none : cond {A = ℕ} (q (a + m)) 1 0 ≡ 0 = ap (λ (b : Bool). cond {A = ℕ} b 1 0) here.1 in
      let rest = within m (omega arith) in
      let more_p : count_by p (range_with_len 0 (a + m + 1)) ≡ count_by p (range_with_len 0 (a + m)) + cond (p (a + m)) 1 0 = one_more p (a + m) (a + m + 1) (omega arith) in
      let more_q : count_by q (range_with_len 0 (a + m + 1)) ≡ count_by q (range_with_len 0 (a + m)) + cond (q (a + m)) 1 0 = one_more q (a + m) (a + m + 1) (omega arith) in
      let more_r : count_by r (range_with_len 0 (suc m)) ≡ count_by r (range_with_len 0 m) + cond (r m) 1 0 = one_more r m (suc m) (omega arith) in
      let next : a + suc m ≡ a + m + 1 = omega arith in
      let to_p = ap (λ (k : ℕ). count_by p (range_with_len 0 k)) next in
      let to_q = ap (λ (k : ℕ). count_by q (range_with_len 0 k)) next in
      omega (arith, more_p, more_q, more_r, one, none, rest, to_p, to_q)

  behind : (m : ℕ) → count_by p (range_with_len 0 (a + n + m)) ≡ count_by q (range_with_len 0 (a + n + m)) + count_by r (range_with_len 0 n)
  behind zero = let e : a + n + 0 ≡ a + n = omega arith in
      let to_p = ap (λ (k : ℕ). count_by p (range_with_len 0 k)) e in
      let to_q = ap (λ (k : ℕ). count_by q (range_with_len 0 k)) e in
      omega (arith, within n (omega arith), to_p, to_q)
  behind (suc m) =
      let one : cond {A = ℕ} (p (a + n + m)) 1 0 ≡ cond (q (a + n + m)) 1 0 = ap (λ (b : Bool). cond {A = ℕ} b 1 0) (outside (a + n + m) (inr (omega arith))) in
      let rest = behind m in
      let more_p : count_by p (range_with_len 0 (a + n + m + 1)) ≡ count_by p (range_with_len 0 (a + n + m)) + cond (p (a + n + m)) 1 0 = one_more p (a + n + m) (a + n + m + 1) (omega arith) in
      let more_q : count_by q (range_with_len 0 (a + n + m + 1)) ≡ count_by q (range_with_len 0 (a + n + m)) + cond (q (a + n + m)) 1 0 = one_more q (a + n + m) (a + n + m + 1) (omega arith) in
      let next : a + n + suc m ≡ a + n + m + 1 = omega arith in
      let to_p = ap (λ (k : ℕ). count_by p (range_with_len 0 k)) next in
      let to_q = ap (λ (k : ℕ). count_by q (range_with_len 0 k)) next in
      omega (arith, more_p, more_q, one, rest, to_p, to_q)

  pub counted_row : (total : ℕ) → a + n ≤ total → count_by p (range_with_len 0 total) ≡ count_by q (range_with_len 0 total) + count_by r (range_with_len 0 n)
  counted_row total fits =
      let e : a + n + (total - (a + n)) ≡ total = omega (arith, fits) in
      let to_p = ap (λ (k : ℕ). count_by p (range_with_len 0 k)) e in
      let to_q = ap (λ (k : ℕ). count_by q (range_with_len 0 k)) e in
      omega (arith, behind (total - (a + n)), to_p, to_q)
