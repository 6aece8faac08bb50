-- How a text is found to spell a number.
use Rattle.std.proofs.Common.{◌≡◌, ◌≢◌, ℕ, zero, suc, ◌^◌, ◌<◌, true, List, [], ◌∷◌, length, get_or, Result, Ok, Err, Option, sym, ap, arith, rules}
use Rattle.std.specs.Fmt.{decimal}
use Rattle.std.specs.List.{list_all}
use Rattle.std.specs.Char.{is_ascii_digit}
use Rattle.std.specs.Str.Parse.{ParsesUnsigned}
use Rattle.std.specs.Result.{MatchResult, result_ok}
use Rattle.std.specs.Option.{MatchOption}
use Rattle.std.proofs.lemmas.Str.Parse.{parse_plain}
use Rattle.std.proofs.lemmas.Fmt.{digits_value-decimal, decimal_nonempty, first_decimal, decimal_digit, decimal-digits_value}
use Rattle.script_model.specs.Words.{IsNumber, IsPlain}
use Rattle.script_model.proofs.Numbers.{read_on, numerals, number_digits}
use Rattle.std.proofs.lemmas.Grind.{common_steps}

-- zero is the only number that begins with the digit 0
first_of_decimal : (n : ℕ) → n < 2 ^ 64 → get_or (decimal n) 0 0 ≡ 48 → length (decimal n) ≡ 1
first_of_decimal zero h e = ap length (decimal_digit 0 (omega arith))
first_of_decimal (suc n) h e = grind (arith, common_steps, first_decimal)

-- a text that spells a number is plain
pub plain_number : (text : List ℕ) (n : ℕ) → IsNumber text n → IsPlain text
plain_number text n h = grind (arith, common_steps, number_digits, decimal_nonempty, first_of_decimal)

-- digits begin with no plus sign
plus_first : (text : List ℕ) → list_all is_ascii_digit text ≡ true → get_or text 0 0 ≢ 43
plus_first [] p e = absurd cc
plus_first (c ∷ cs) p e = search rules

-- what a plain text is parsed to is the number that it spells
number_parsed : {E : Type 0} (text : List ℕ) (r : Result ℕ E) → IsPlain text → ParsesUnsigned 64 10 text r → MatchResult r (λ n. IsNumber text n) (λ e. (n : ℕ) → IsNumber text n → ⊥)
number_parsed {E} text (Ok n) plain h =
    let p = parse_plain numerals {E = E} 64 text (Ok n) h (plus_first text plain.digits) in
    record { fits = rw p.1 p.0.2; spelled = rw p.1 (sym (decimal-digits_value numerals text plain.digits plain.some plain.first p.0.2)) }
number_parsed {E} text (Err e) plain h = grind (arith, common_steps, parse_plain, numerals, plus_first, read_on, digits_value-decimal)

-- the same of a result whose error is dropped
pub number_found : {E : Type 0} (text : List ℕ) (r : Result ℕ E) (o : Option ℕ) → o ≡ result_ok r → IsPlain text → ParsesUnsigned 64 10 text r → MatchOption o ((n : ℕ) → IsNumber text n → ⊥) (λ n. IsNumber text n)
number_found {E} text (Ok n) o e plain h = rw e (number_parsed {E = E} text (Ok n) plain h)
number_found {E} text (Err x) o e plain h = rw e (number_parsed {E = E} text (Err x) plain h)
