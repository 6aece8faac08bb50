-- What of a scope is missing in a set of copied units, before and after a unit is copied.
use Rattle.std.proofs.lemmas.Grind.{common_steps}
use Rattle.std.proofs.Common.{rules, ◌≡◌, ℕ, ◌<◌, set, Bool, true, false, List, length, sym, ◌∙◌, arith}
use Rattle.std.specs.Prelude.{Some, None, slice_set}
use Rattle.std.proofs.lemmas.List.{get_or_past}
use Rattle.std.proofs.lemmas.List.Quantifiers.{position-Some}
use Rattle.std.proofs.lemmas.List.Sums.{fails_before_first}
use Rattle.std.proofs.lemmas.Option.{none-some}
use Rattle.std.proofs.lemmas.Bool.{cases_lt, cases_Bool, cond-true, lt-ltb}
use Rattle.bitmap_model.specs.Granules.{is_in}
use Rattle.bitmap_model.specs.Copies.{is_missing, without, least, IsPart}
use Rattle.bitmap_model.proofs.Sets.{is_in-set_of, length-set_of}

-- ---- what is missing

pub missing_from : (scope copied : List Bool) (k : ℕ) → is_in copied k ≡ false → is_in scope k ≡ true → is_missing scope copied k ≡ true
missing_from scope copied k absent here = search rules

pub missing_parts : (scope copied : List Bool) (k : ℕ) → is_missing scope copied k ≡ true → (is_in copied k ≡ false) × (is_in scope k ≡ true)
missing_parts scope copied k h = search rules

-- what is of the scope and isn't missing is copied
pub copied_or_missing : (scope copied : List Bool) (k : ℕ) → is_in scope k ≡ true → is_missing scope copied k ≡ false → is_in copied k ≡ true
copied_or_missing scope copied k here there = search rules

pub length-without : (scope copied : List Bool) → length (without scope copied) ≡ length scope
unfolding without
length-without scope copied = grind (arith, common_steps, length-set_of)

pub is_in-without : (scope copied : List Bool) (k : ℕ) → is_in (without scope copied) k ≡ is_missing scope copied k
unfolding without
is_in-without scope copied k = grind (arith, common_steps, cases_lt, is_in-set_of, cases_Bool, get_or_past, missing_parts, length-without)

-- ---- the least that is missing

pub least_is_in : (set : List Bool) (n : ℕ) → least set ≡ Some n → (n < length set) × (is_in set n ≡ true) × ((k : ℕ) → k < n → is_in set k ≡ false)
least_is_in set n h =
    let place : (n < length set) × (is_in set n ≡ true) × ((k : ℕ) → k < n → is_in set k ≡ false) = position-Some (λ (d : Bool). d) set n false h in place

pub least_none : (set : List Bool) → least set ≡ None → (k : ℕ) → is_in set k ≡ false
least_none set h k = grind (arith, common_steps, cases_lt, none-some, cond-true, lt-ltb, fails_before_first, get_or_past)

pub least_missing : (scope copied : List Bool) (n : ℕ) → least (without scope copied) ≡ Some n
    → (n < length scope) × (is_missing scope copied n ≡ true) × ((k : ℕ) → k < n → is_missing scope copied k ≡ false)
least_missing scope copied n h =
    let place : (n < length (without scope copied)) × (is_in (without scope copied) n ≡ true) × ((k : ℕ) → k < n → is_in (without scope copied) k ≡ false) =
    least_is_in (without scope copied) n h in
    (omega (arith, place.0, length-without scope copied), sym (is_in-without scope copied n) ∙ place.1, λ k below. sym (is_in-without scope copied k) ∙ place.2 k below)

pub none_missing : (scope copied : List Bool) → least (without scope copied) ≡ None → IsPart scope copied
none_missing scope copied h k here =
    copied_or_missing scope copied k here (sym (is_in-without scope copied k) ∙ least_none (without scope copied) h k)

-- ---- a unit is copied

pub set_has : (copied : List Bool) (n : ℕ) → n < length copied → is_in (slice_set copied n true) n ≡ true
set_has copied n below = search rules

pub set_has_own : (copied : List Bool) (n k : ℕ) → is_in copied k ≡ true → is_in (slice_set copied n true) k ≡ true
set_has_own copied n k here = grind (arith, common_steps)

pub set_is_part : (scope copied : List Bool) (n : ℕ) → is_in scope n ≡ true → IsPart copied scope → IsPart (slice_set copied n true) scope
set_is_part scope copied n here part k h = search rules
