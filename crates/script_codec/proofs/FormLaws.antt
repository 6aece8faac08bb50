-- What the words of a line ask.
use Rattle.std.proofs.Common.{◌≡◌, ◌≢◌, ℕ, Bool, true, false, List, [], ◌∷◌, Result, Ok, Err, Option, Some, None, ◌∙◌, rules, arith}
use Rattle.std.specs.Prelude.{codes, IfOk}
use Rattle.hex.specs.Hex.{decode_of}
use Rattle.core_events.specs.declared.events.Request.{Request}
use Rattle.script_model.specs.Words.{IsNumber}
use Rattle.script_model.specs.Lines.{Verb, Write, Read, Zero, Flush, View, Status, verb_word, IsRange, IsContent, IsView, IsStatus, nohole_words, Takes, Asks, words_of}
use Rattle.script_codec.specs.Views.{TakesFound, AsksFound}
use Rattle.script_model.proofs.WordLaws.{some_word, lone_word, number_word, hex_word}
use Rattle.std.proofs.lemmas.Grind.{common_steps}
use Rattle.core_events.specs.Events as events

-- ---- the words behind a verb

-- where a range is spelled, the cut at the first blank gives its numbers
pub range_parts : (text offset rest : List ℕ) (at n : ℕ) → words_of text ≡ offset ∷ words_of rest → IsRange (words_of text) at n → IsNumber offset at × IsNumber rest n
range_parts text offset rest at n e h = grind (arith, common_steps, lone_word)

pub range_made : (text offset rest : List ℕ) (at n : ℕ) → words_of text ≡ offset ∷ words_of rest → IsNumber offset at → IsNumber rest n → IsRange (words_of text) at n
range_made text offset rest at n e h k = grind (arith, common_steps, number_word)

-- where bytes are spelled, so are the parts
pub content_parts : (text offset rest : List ℕ) (at : ℕ) (bytes : List ℕ) → words_of text ≡ offset ∷ words_of rest → IsContent (words_of text) at bytes → IsNumber offset at × (decode_of rest ≡ Ok bytes) × (bytes ≢ [])
content_parts text offset rest at bytes e h = grind (arith, common_steps, lone_word)

-- digits that decode are one word
pub content_made : (text offset rest : List ℕ) (at : ℕ) (bytes : List ℕ) → words_of text ≡ offset ∷ words_of rest → IsNumber offset at → decode_of rest ≡ Ok bytes → bytes ≢ [] → IsContent (words_of text) at bytes
content_made text offset rest at bytes e h d some = grind (arith, common_steps, hex_word)

-- a second word that isn't `nohole` ends no range
pub no_hole_word : (text word rest : List ℕ) → words_of text ≡ word ∷ words_of rest → rest ≢ codes "nohole" → (count : List ℕ) (n : ℕ) (no_hole : Bool) → words_of text ≡ count ∷ nohole_words no_hole → IsNumber count n → ⊥
no_hole_word text word rest e other count n true f h = grind (arith, common_steps, lone_word)
no_hole_word text word rest e other count n false f h = grind (arith, common_steps, some_word)

-- what is said of a node says a range behind its name
pub view_range : (text name rest : List ℕ) (other : List ℕ) (at n : ℕ) → words_of text ≡ name ∷ words_of rest → IsView (words_of text) other at n → IsRange (words_of rest) at n
view_range text name rest other at n e h = search rules

pub status_view : (text name rest : List ℕ) (other context : List ℕ) (at n : ℕ) → words_of text ≡ name ∷ words_of rest → IsStatus (words_of text) other context at n → IsView (words_of rest) context at n
status_view text name rest other context at n e h = search rules

-- what is asked with a verb is what the words behind it make
pub only_takes : (word : List ℕ) (args : List (List ℕ)) (v : Verb) (r : events.Request) → word ≡ verb_word v → Asks (word ∷ args) r → Takes v args r
only_takes word args v r e h = search rules

-- what the words behind a verb were found to ask is what all of them ask
asks_found : (word text : List ℕ) (v : Verb) (found : Option Request) → word ≡ verb_word v → TakesFound v text found → AsksFound word text found
asks_found word text v None e h = search rules
asks_found word text v (Some r) e h = search rules

pub asked_by : {E : Type 0} (word text : List ℕ) (v : Verb) (result : Result (Option Request) E) → word ≡ verb_word v → IfOk result (λ found. TakesFound v text found) → IfOk result (λ found. AsksFound word text found)
asked_by word text v (Ok found) e h = search rules
asked_by word text v (Err x) e h = h

no_verb_at : (word text : List ℕ) → word ≢ codes "write" → word ≢ codes "read" → word ≢ codes "zero" → word ≢ codes "view" → word ≢ codes "status" → (v : Verb) (args : List (List ℕ)) (r : events.Request) → word ∷ words_of text ≡ verb_word v ∷ args → Takes v args r → ⊥
no_verb_at word text a b c d f Write args r e t = a cc
no_verb_at word text a b c d f Read args r e t = b cc
no_verb_at word text a b c d f Zero args r e t = c cc
no_verb_at word text a b c d f Flush args r e t = grind (arith, common_steps, some_word)
no_verb_at word text a b c d f View args r e t = d cc
no_verb_at word text a b c d f Status args r e t = f cc

-- a word that is no verb asks nothing, with words behind it
pub no_verb : (word text : List ℕ) → word ≢ codes "write" → word ≢ codes "read" → word ≢ codes "zero" → word ≢ codes "view" → word ≢ codes "status" → (r : events.Request) → Asks (word ∷ words_of text) r → ⊥
no_verb word text a b c d f r h = no_verb_at word text a b c d f h.verb h.args r h.are h.takes
