-- Sets that are made of a test.
use Rattle.std.proofs.lemmas.Grind.{common_steps}
use Rattle.std.proofs.Common.{rules, ◌≡◌, ℕ, zero, suc, get_or, ◌+◌, ◌<◌, Bool, true, false, List, [], ◌∷◌, ◌++◌, length, refl, ◌∙◌, arith}
use Rattle.std.proofs.lemmas.List.FromFn.{get_or-map-range_with_len, length-map-range_with_len, fill_by_all, map-range_with_len_more}
use Rattle.bitmap_model.specs.Granules.{set_of, is_in}

pub is_in-set_of : (n : ℕ) (test : ℕ → Bool) (k : ℕ) → k < n → is_in (set_of n test) k ≡ test k
unfolding set_of
is_in-set_of n test k below = grind (arith, common_steps, get_or-map-range_with_len)

pub length-set_of : (n : ℕ) (test : ℕ → Bool) → length (set_of n test) ≡ n
unfolding set_of
length-set_of n test = length-map-range_with_len test 0 n

-- a list with the test's answer at each place is the set
pub set_of-from : (n : ℕ) (test : ℕ → Bool) (set : List Bool) → length set ≡ n → ((k : ℕ) → k < n → is_in set k ≡ test k) → set ≡ set_of n test
unfolding set_of
set_of-from n test set e h = fill_by_all test set n false e h

pub set_of-same : (n : ℕ) (f g : ℕ → Bool) → ((k : ℕ) → k < n → f k ≡ g k) → set_of n f ≡ set_of n g
set_of-same n f g e = set_of-from n g (set_of n f) (length-set_of n f) (λ k h. is_in-set_of n f k h ∙ e k h)

pub set_of_none : (test : ℕ → Bool) → set_of 0 test ≡ []
unfolding set_of
set_of_none test = refl

pub set_of_more : (n : ℕ) (test : ℕ → Bool) → set_of (n + 1) test ≡ set_of n test ++ test n ∷ []
unfolding set_of
set_of_more n test = map-range_with_len_more test 0 n n (omega arith)

pub in_length : (set : List Bool) (k : ℕ) → is_in set k ≡ true → k < length set
in_length set k here = grind (arith, common_steps)

-- within a list the default doesn't matter
pub get_or-any : (set : List Bool) (k : ℕ) (a b : Bool) → k < length set → get_or set k b ≡ get_or set k a
get_or-any [] k a b inside = search rules
get_or-any (x ∷ set) zero a b inside = refl
get_or-any (x ∷ set) (suc k) a b inside = grind (arith, common_steps)
