-- The words of a line.
use Rattle.std.proofs.Common.{◌≡◌, ◌≢◌, ℕ, zero, suc, ◌<◌, false, true, Ok, Option, Some, None, Bor, List, [], ◌∷◌, ◌++◌, length, get_or, refl, sym, ap, ◌∙◌, arith, rules}
use Rattle.std.specs.Prelude.{◌==◌, IfSome, IfNone, MatchOption}
use Rattle.std.specs.List.{join_with_byte}
use Rattle.std.proofs.lemmas.List.Splits.{slice_split_none, slice_split_at, join_with_byte-slice_split, length-slice_split}
use Rattle.std.proofs.lemmas.Bool.{ne_eqb}
use Rattle.script_model.specs.Words.{IsNumber, lines_of, Lacks}
use Rattle.hex.specs.Hex.{decode_of, is_hex_digit}
use Rattle.hex.proofs.HexLemmas.{decode_of-ok}
use Rattle.script_model.proofs.Numbers.{number_no_space}
use Rattle.script_model.specs.Lines.{words_of}
use Rattle.std.proofs.lemmas.Grind.{common_steps}

-- a text that lacks the byte passes no test for it
all_other : (byte : ℕ) (text : List ℕ) → Lacks byte text → (k d : ℕ) → k < length text → (get_or text k d == byte) ≡ false
all_other byte [] h k d lt = search rules
all_other byte (c ∷ text) h zero d lt = ne_eqb c byte (h 0 (omega arith))
all_other byte (c ∷ text) h (suc k) d lt = all_other byte text (λ i l. h (suc i) (omega arith)) k d (omega arith)

-- a text without a blank is one word
pub one_word : (text : List ℕ) → Lacks 32 text → words_of text ≡ text ∷ []
one_word text h = slice_split_none _ text (all_other 32 text h)

-- the first word ends at the first blank
pub first_word : (text a b : List ℕ) → text ≡ a ++ 32 ∷ b → Lacks 32 a → words_of text ≡ a ∷ words_of b
first_word text a b e h = grind (arith, common_steps, slice_split_at, all_other)

-- the first word, cut off where a blank is found
pub word_cut : (text : List ℕ) (found : Option (Bor (List ℕ) × Bor (List ℕ))) → IfSome found (λ parts. (text ≡ parts.0.now ++ 32 ∷ parts.1.now) × Lacks 32 parts.0.now) → IfNone found (Lacks 32 text) →
    MatchOption found (words_of text ≡ text ∷ []) (λ parts. words_of text ≡ parts.0.now ∷ words_of parts.1.now)
word_cut text None f n = one_word text n
word_cut text (Some parts) f n = grind (arith, common_steps, first_word)

-- there is a word
pub some_word : (text : List ℕ) → words_of text ≢ []
some_word text e = absurd (omega (arith, length-slice_split (λ b. b == 32) text, ap length e))

-- texts of the same words are one
pub same_text : (a b : List ℕ) → words_of a ≡ words_of b → a ≡ b
same_text a b e = sym (join_with_byte-slice_split 32 a) ∙ ap (join_with_byte 32) e ∙ join_with_byte-slice_split 32 b

-- a text of one word is that word
pub lone_word : (text word : List ℕ) → words_of text ≡ word ∷ [] → text ≡ word
lone_word text word e = sym (join_with_byte-slice_split 32 text) ∙ ap (join_with_byte 32) e

-- a number is one word
pub number_word : (text : List ℕ) (n : ℕ) → IsNumber text n → words_of text ≡ text ∷ []
number_word text n h = one_word text (number_no_space text n h)

-- ---- lines

pub line_at_front : (a b : List ℕ) → Lacks 10 a → lines_of (a ++ 10 ∷ b) ≡ a ∷ lines_of b
line_at_front [] b h = refl
line_at_front (c ∷ a) b h = grind (arith, common_steps, ne_eqb c 10 (h 0 (omega arith)), line_at_front a b (λ i k. h (suc i) (omega arith)))

pub last_line : (a : List ℕ) → a ≢ [] → Lacks 10 a → lines_of a ≡ a ∷ []
last_line [] some h = search rules
last_line (c ∷ []) some h = rw (ne_eqb c 10 (h 0 (omega arith))) refl
last_line (c ∷ d ∷ a) some h = rw (ne_eqb c 10 (h 0 (omega arith)), last_line (d ∷ a) (λ e. absurd cc) (λ i k. h (suc i) (omega arith))) refl

-- ---- digits

-- digits that decode lack each byte that is no digit
pub hex_lacks : (byte : ℕ) (text bytes : List ℕ) → is_hex_digit byte ≡ false → decode_of text ≡ Ok bytes → Lacks byte text
hex_lacks byte text bytes other d i h e = absurd (
    let digit : is_hex_digit (get_or text i 0) ≡ true = (decode_of-ok text bytes d).1 i 0 h in
    let none : is_hex_digit (get_or text i 0) ≡ false = ap is_hex_digit e ∙ other in
    cc)

-- digits that decode are one word
pub hex_word : (text bytes : List ℕ) → decode_of text ≡ Ok bytes → words_of text ≡ text ∷ []
hex_word text bytes d = one_word text (hex_lacks 32 text bytes refl d)
