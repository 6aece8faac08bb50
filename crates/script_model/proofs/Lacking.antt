-- Texts that lack a byte.
use Rattle.std.proofs.Common.{◌≡◌, ◌≢◌, ℕ, zero, suc, ◌-◌, ◌<◌, true, not, nat_lt, List, [], ◌∷◌, ◌++◌, length, refl, arith, rules}
use Rattle.std.specs.Prelude.{◌==◌, ◌||◌}
use Rattle.std.specs.List.{list_all, onto_first}
use Rattle.std.proofs.lemmas.Bool.{cases_Bool, eqb-false, ne_eqb, lt-ltb, and_from}
use Rattle.script_model.specs.Words.{Lacks, lines_of, without_return}
use Rattle.script_model.specs.Lines.{words_of}
use Rattle.script_model.specs.Recording.{is_word}
use Rattle.std.proofs.lemmas.Grind.{common_steps}
use Rattle.script_model.specs.Words as own

-- ---- texts put together, and their parts

pub lacks_nothing : (byte : ℕ) → Lacks byte []
lacks_nothing byte i lt = search rules

pub lacks_more : (byte b : ℕ) (text : List ℕ) → b ≢ byte → Lacks byte text → Lacks byte (b ∷ text)
lacks_more byte b text other h zero lt = other
lacks_more byte b text other h (suc i) lt = search rules

-- a blank is no line feed
pub lacks_blank : (text : List ℕ) → Lacks 10 text → Lacks 10 (32 ∷ text)
lacks_blank text h = search rules

lacks_rest : (byte b : ℕ) (text : List ℕ) → Lacks byte (b ∷ text) → Lacks byte text
lacks_rest byte b text h i lt = h (suc i) (omega arith)

pub lacks_both : (byte : ℕ) (a b : List ℕ) → Lacks byte a → Lacks byte b → Lacks byte (a ++ b)
lacks_both byte [] b h k = k
lacks_both byte (c ∷ a) b h k = lacks_more byte c (a ++ b) (h 0 (omega arith)) (lacks_both byte a b (lacks_rest byte c a h) k)

pub lacks_front : (byte : ℕ) (a b : List ℕ) → Lacks byte (a ++ b) → Lacks byte a
lacks_front byte [] b h = search rules
lacks_front byte (c ∷ a) b h = lacks_more byte c a (h 0 (omega arith)) (lacks_front byte a b (lacks_rest byte c (a ++ b) h))

-- a line without its carriage return lacks what the line lacks
pub lacks_cut : (byte : ℕ) (line : List ℕ) → Lacks byte line → Lacks byte (without_return line)
lacks_cut byte line h = grind (arith, common_steps)

-- ---- the parts at a byte

abbrev pub EachLacks : ℕ → List (List ℕ) → Type 0
EachLacks byte [] = Unit {0}
EachLacks byte (text ∷ texts) = Lacks byte text × EachLacks byte texts

lacks_onto_line : (byte b : ℕ) (texts : List (List ℕ)) → b ≢ byte → EachLacks byte texts → EachLacks byte (own.onto_first b texts)
lacks_onto_line byte b [] other h = search rules
lacks_onto_line byte b (text ∷ texts) other h = search rules

lacks_onto_word : (byte b : ℕ) (texts : List (List ℕ)) → b ≢ byte → EachLacks byte texts → EachLacks byte (onto_first b texts)
lacks_onto_word byte b [] other h = search rules
lacks_onto_word byte b (text ∷ texts) other h = search rules

-- no line has a line feed
pub lines_lack : (bytes : List ℕ) → EachLacks 10 (lines_of bytes)
lines_lack [] = tt
lines_lack (b ∷ bytes) = grind (arith, common_steps, cases_Bool, lacks_nothing, lacks_onto_line, eqb-false, lines_lack bytes)

-- no word has a blank
pub words_lack : (text : List ℕ) → EachLacks 32 (words_of text)
words_lack [] = search rules
words_lack (b ∷ text) = grind (arith, common_steps, cases_Bool, lacks_nothing, lacks_onto_word, eqb-false, words_lack text)

-- a byte that a text lacks no word of it has
pub words_lack_too : (byte : ℕ) (text : List ℕ) → Lacks byte text → EachLacks byte (words_of text)
words_lack_too byte [] h = search rules
words_lack_too byte (b ∷ text) h = grind (arith, common_steps, lacks_nothing byte, lacks_rest byte b text h, lacks_onto_word byte b (words_of text) (h 0 (omega arith)) (words_lack_too byte text (lacks_rest byte b text h)), words_lack_too byte text (lacks_rest byte b text h))

-- ---- tests

pub lacks_tested : (byte : ℕ) (text : List ℕ) → list_all (λ b. not (b == byte)) text ≡ true → Lacks byte text
lacks_tested byte text h i lt e = grind (arith, common_steps)

-- a text that can be a word
pub record IsWord (text : List ℕ) : Type 0 where
  pub some : text ≢ []
  pub no_blank : Lacks 32 text
  pub no_feed : Lacks 10 text

pub word_tested : (text : List ℕ) → is_word text ≡ true → IsWord text
word_tested text h = grind (arith, common_steps)

bytes_pass : (text : List ℕ) → Lacks 32 text → Lacks 10 text → list_all (λ b. not (b == 32 || b == 10)) text ≡ true
bytes_pass [] h k = refl
bytes_pass (b ∷ text) h k = rw (ne_eqb b 32 (h 0 (omega arith)), ne_eqb b 10 (k 0 (omega arith))) (bytes_pass text (lacks_rest 32 b text h) (lacks_rest 10 b text k))

pub word_passes : (text : List ℕ) → IsWord text → is_word text ≡ true
word_passes [] w = search rules
word_passes (b ∷ text) w = and_from (nat_lt 0 (length (b ∷ text))) _ (lt-ltb 0 (length (b ∷ text)) (omega arith)) (bytes_pass (b ∷ text) w.no_blank w.no_feed)
