-- The one spelling of a line is read as it.
use Rattle.std.proofs.Common.{◌≡◌, ℕ, Bool, true, false, List, [], ◌∷◌, ◌++◌, Ok, refl, sym, ap, ◌∙◌, append_assoc, rules, arith}
use Rattle.std.specs.Prelude.{codes}
use Rattle.std.specs.Fmt.{decimal}
use Rattle.std.specs.List.{join_with_byte}
use Rattle.std.proofs.lemmas.List.Splits.{join_with_byte-slice_split}
use Rattle.std.proofs.lemmas.Bool.{cases_Bool}
use Rattle.std.proofs.lemmas.Slice.Eq.{bytes_eq-Decides}
use Rattle.hex.specs.Hex.{decode_of, encode_lower}
use Rattle.hex.proofs.HexLemmas.{decode_of-ok, decode_of-encode_lower}
use Rattle.core_events.specs.Events.{Request}
use Rattle.script_model.specs.Words.{IsNumber}
use Rattle.script_model.proofs.Numbers.{number_no_space}
use Rattle.script_model.specs.Lines.{Line, Ask, Qmp, Tick, Stop, Quit, Nothing, Verb, Write, Read, Zero, Flush, View, Status, verb_word, nohole_words, IsRange, IsContent, IsZeroRange, IsView, IsStatus, Takes, Asks, Spells, words_of, asked, asked_to_write, drive}
use Rattle.script_model.specs.Texts.{line_text, range_text, read_head, nohole_text, IsSpellable}
use Rattle.script_model.proofs.WordLaws.{first_word, number_word, hex_word}
use Rattle.std.proofs.lemmas.Grind.{common_steps}
use Rattle.core_events.specs.declared.events.Work.TheVariants as work

-- a text of these words is they, joined by blanks
joined : (text : List ℕ) (words : List (List ℕ)) → words_of text ≡ words → text ≡ join_with_byte 32 words
joined text words e = sym (join_with_byte-slice_split 32 text) ∙ ap (join_with_byte 32) e

-- a number spells itself
pub number_spelled : (text : List ℕ) (n : ℕ) → IsNumber text n → IsNumber (decimal n) n
number_spelled text n h = search rules

-- numbers that are spelled spell a range
range_spelled : (args : List (List ℕ)) (at n : ℕ) → IsRange args at n → words_of (range_text at n) ≡ decimal at ∷ decimal n ∷ []
range_spelled args at n h =
    let first = number_spelled h.offset at h.offset_is in
    let last = number_spelled h.count n h.count_is in
    first_word (range_text at n) (decimal at) (decimal n) refl (number_no_space (decimal at) at first) ∙ ap (λ (ws : List (List ℕ)). decimal at ∷ ws) (number_word (decimal n) n last)

pub range_again : (args : List (List ℕ)) (at n : ℕ) → IsRange args at n → IsRange (words_of (range_text at n)) at n
range_again args at n h = grind (arith, common_steps, range_spelled, number_spelled)

read_again : (args : List (List ℕ)) (at n : ℕ) → IsRange args at n → Asks (words_of (codes "read " ++ range_text at n)) (asked drive work.Read at n)
read_again args at n h = grind (arith, common_steps, range_again)

pub write_again : (args : List (List ℕ)) (at : ℕ) (bytes : List ℕ) → IsContent args at bytes → Asks (words_of (codes "write " ++ decimal at ++ 32 ∷ encode_lower bytes)) (asked_to_write at bytes)
write_again args at bytes h =
    let first = number_spelled h.offset at h.offset_is in
    let decodes : decode_of (encode_lower bytes) ≡ Ok bytes = decode_of-encode_lower bytes (decode_of-ok h.hex bytes h.decodes).3 in
    let words : words_of (decimal at ++ 32 ∷ encode_lower bytes) ≡ decimal at ∷ encode_lower bytes ∷ [] =
    first_word _ (decimal at) (encode_lower bytes) refl (number_no_space (decimal at) at first) ∙ ap (λ (ws : List (List ℕ)). decimal at ∷ ws) (hex_word (encode_lower bytes) bytes decodes) in
    record { verb = Write; args = words_of (decimal at ++ 32 ∷ encode_lower bytes); are = refl; takes = (at, bytes, record { offset = decimal at; hex = encode_lower bytes; words = words; offset_is = first; decodes = decodes; some = h.some }, refl) }

zero_text : (no_hole : Bool) (offset count : List ℕ) → join_with_byte 32 (codes "zero" ∷ offset ∷ count ∷ nohole_words no_hole) ≡ codes "zero " ++ (offset ++ 32 ∷ count) ++ nohole_text no_hole
zero_text true offset count = grind (arith, common_steps)
zero_text false offset count = search rules

pub zero_spelled : (text : List ℕ) (args : List (List ℕ)) (at n : ℕ) (no_hole : Bool) → words_of text ≡ codes "zero" ∷ args → IsZeroRange args at n no_hole → text ≡ codes "zero " ++ range_text at n ++ nohole_text no_hole
zero_spelled text args at n no_hole e h =
    let words : words_of text ≡ codes "zero" ∷ decimal at ∷ decimal n ∷ nohole_words no_hole = e ∙ rw (h.words, h.offset_is.spelled, h.count_is.spelled) refl in
    joined text _ words ∙ zero_text no_hole (decimal at) (decimal n)

zero_again : (text : List ℕ) (args : List (List ℕ)) (at n : ℕ) (no_hole : Bool) → words_of text ≡ codes "zero" ∷ args → IsZeroRange args at n no_hole → Asks (words_of (codes "zero " ++ range_text at n ++ nohole_text no_hole)) (asked drive (work.Zero false no_hole) at n)
zero_again text args at n no_hole e h = grind (arith, common_steps, zero_spelled)

-- the words of a range are its numbers
range_words : (args : List (List ℕ)) (at n : ℕ) → IsRange args at n → args ≡ decimal at ∷ decimal n ∷ []
range_words args at n h = search rules

-- a view of a node is spelled with its name
pub view_spelled : (text : List ℕ) (args : List (List ℕ)) (name : List ℕ) (at n : ℕ) → words_of text ≡ codes "view" ∷ args → IsView args name at n → text ≡ codes "view " ++ name ++ 32 ∷ [] ++ range_text at n
view_spelled text args name at n e h =
    let words : words_of text ≡ codes "view" ∷ name ∷ decimal at ∷ decimal n ∷ [] = e ∙ ap (λ (ws : List (List ℕ)). codes "view" ∷ ws) (h.words ∙ ap (λ (ws : List (List ℕ)). name ∷ ws) (range_words h.rest at n h.range)) in
    joined text _ words ∙ ap (λ (t : List ℕ). codes "view " ++ t) (sym (append_assoc name (32 ∷ []) (range_text at n)))

view_again : (text : List ℕ) (args : List (List ℕ)) (name : List ℕ) (at n : ℕ) → words_of text ≡ codes "view" ∷ args → IsView args name at n → Asks (words_of (read_head name ++ range_text at n)) (asked name work.Read at n)
view_again text args name at n e h = grind (arith, common_steps, cases_Bool, bytes_eq-Decides, read_again, view_spelled)

pub status_spelled : (text : List ℕ) (args : List (List ℕ)) (name context : List ℕ) (at n : ℕ) → words_of text ≡ codes "status" ∷ args → IsStatus args name context at n → text ≡ codes "status " ++ name ++ 32 ∷ context ++ 32 ∷ range_text at n
status_spelled text args name context at n e h =
    let words : words_of text ≡ codes "status" ∷ name ∷ context ∷ decimal at ∷ decimal n ∷ [] = e ∙ ap (λ (ws : List (List ℕ)). codes "status" ∷ ws) (h.words ∙ ap (λ (ws : List (List ℕ)). name ∷ context ∷ ws) (range_words h.rest at n h.range)) in
    joined text _ words ∙ ap (λ (t : List ℕ). codes "status " ++ t) (sym (append_assoc name (32 ∷ context) (32 ∷ range_text at n)))

status_again : (text : List ℕ) (args : List (List ℕ)) (name context : List ℕ) (at n : ℕ) → words_of text ≡ codes "status" ∷ args → IsStatus args name context at n → Asks (words_of (codes "status " ++ name ++ 32 ∷ context ++ 32 ∷ range_text at n)) (asked name (work.Status context false) at n)
status_again text args name context at n e h = grind (arith, common_steps, status_spelled)

-- what a verb's words make is asked by its spelling
asked_again : (text : List ℕ) (v : Verb) (args : List (List ℕ)) (r : Request) → words_of text ≡ verb_word v ∷ args → Takes v args r → Asks (words_of (line_text (Ask r))) r
asked_again text Write args r e h = rw h.3 (write_again args h.0 h.1 h.2)
asked_again text Read args r e h = rw h.3 (read_again args h.0 h.1 h.2)
asked_again text Zero args r e h = grind (arith, common_steps, zero_again)
asked_again text Flush args r e h = search rules
asked_again text View args r e h = rw h.4 (view_again text args h.0 h.1 h.2 e h.3)
asked_again text Status args r e h = grind (arith, common_steps, status_again)

-- where some text says a line, its one spelling says it too
pub spelling_read : (l : Line) → IsSpellable l → Spells (line_text l) l
spelling_read (Ask r) s = grind (arith, common_steps, asked_again)
spelling_read (Qmp json) s = refl
spelling_read Tick s = refl
spelling_read Stop s = refl
spelling_read Quit s = refl
spelling_read Nothing s = tt
