-- The lines of a text, and numbers.
use Rattle.std.specs.Prelude.{◌≡◌, ◌≢◌, ℕ, ◌^◌, ◌-◌, ◌<◌, take, List, [], ◌∷◌, length, slice_index, ◌==◌, if◌then◌else◌, true}
use Rattle.std.specs.List.{list_all}
use Rattle.std.specs.Char.{is_ascii_digit}
use Rattle.std.specs.Fmt.{decimal}

-- the byte goes onto the first line
abbrev pub onto_first : ℕ → List (List ℕ) → List (List ℕ)
onto_first b [] = (b ∷ []) ∷ []
onto_first b (line ∷ lines) = (b ∷ line) ∷ lines

-- the lines of a text, each ended by a line feed, which the last one may lack
abbrev pub lines_of : List ℕ → List (List ℕ)
lines_of [] = []
lines_of (b ∷ bytes) = if b == 10 then [] ∷ lines_of bytes else onto_first b (lines_of bytes)

-- the line without a carriage return at its end
abbrev pub without_return : List ℕ → List ℕ
without_return line = if slice_index line (length line - 1) == 13 then take (length line - 1) line else line

-- the byte doesn't stand in the text
abbrev pub Lacks : ℕ → List ℕ → Type 0
Lacks byte text = (i : ℕ) → i < length text → slice_index text i ≢ byte

-- a decimal number below 2^64, without sign or leading zero
pub record IsNumber (text : List ℕ) (n : ℕ) : Type 0 where
  pub fits : n < 2 ^ 64
  pub spelled : text ≡ decimal n

-- digits, the first of them 0 only if it is alone
pub record IsPlain (text : List ℕ) : Type 0 where
  pub digits : list_all is_ascii_digit text ≡ true
  pub some : 0 < length text
  pub first : slice_index text 0 ≡ 48 → length text ≡ 1
