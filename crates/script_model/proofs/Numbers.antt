-- Numbers on a line.
use Rattle.std.proofs.Common.{◌≡◌, ℕ, ◌+◌, ◌-◌, ◌*◌, ◌<◌, true, List, [], ◌∷◌, ◌∙◌, arith, rules}
use Rattle.std.specs.List.{list_all}
use Rattle.std.specs.Char.{is_ascii_digit}
use Rattle.std.proofs.lemmas.Str.Parse.{IsNumeralModel, numerals_by_fold, not_in_digits}
use Rattle.std.proofs.lemmas.Fmt.{digits_decimal, decimal_injective}
use Rattle.script_model.specs.Words.{IsNumber, Lacks}
use Rattle.std.proofs.lemmas.Grind.{common_steps}

-- ---- numbers

-- the number that digits go on to from n
abbrev pub read_on : ℕ → List ℕ → ℕ
read_on n [] = n
read_on n (c ∷ cs) = read_on (10 * n + (c - 48)) cs

-- digits, and the number that they spell, are std's numerals
pub numerals : IsNumeralModel (λ ds. list_all is_ascii_digit ds ≡ true) (read_on 0)
numerals = numerals_by_fold _ (search rules) read_on (search rules)

-- a number is spelled by digits alone
pub number_digits : (text : List ℕ) (n : ℕ) → IsNumber text n → list_all is_ascii_digit text ≡ true
number_digits text n h = grind (arith, common_steps, digits_decimal, numerals)

-- a number lacks each byte below the digits
pub number_lacks : (byte : ℕ) (text : List ℕ) (n : ℕ) → byte < 48 → IsNumber text n → Lacks byte text
number_lacks byte text n low h = not_in_digits numerals text byte (number_digits text n h) (λ digit. absurd (omega (arith, digit.0)))

-- no space stands in a number
pub number_no_space : (text : List ℕ) (n : ℕ) → IsNumber text n → Lacks 32 text
number_no_space text n h = number_lacks 32 text n (omega arith) h

-- a text spells one number at most
pub one_number : (text : List ℕ) (m n : ℕ) → IsNumber text m → IsNumber text n → m ≡ n
one_number text m n h k = grind (arith, common_steps, decimal_injective)
