-- A script of spellings is read as the lines that were written.
use Rattle.std.proofs.Common.{◌≡◌, inl, inr, ℕ, ◌-◌, List, [], ◌∷◌, ◌++◌, length, get_or, refl, sym, ap, ◌∙◌, arith, append_assoc, rules}
use Rattle.std.specs.Prelude.{codes, bytes_eq, ◌==◌}
use Rattle.std.specs.Fmt.{decimal}
use Rattle.std.proofs.lemmas.Bool.{cases_Bool}
use Rattle.hex.specs.Hex.{encode_lower}
use Rattle.hex.proofs.HexLemmas.{decode_of-ok, decode_of-encode_lower}
use Rattle.core_events.specs.Events.{Request}
use Rattle.script_model.specs.Words.{Lacks, lines_of, without_return}
use Rattle.script_model.proofs.Numbers.{number_lacks}
use Rattle.script_model.specs.Lines.{Line, Ask, Qmp, Tick, Stop, Quit, Nothing, Verb, Write, Read, Zero, Flush, View, Status, verb_word, IsRange, IsContent, Takes, Spells, Say, words_of, drive}
use Rattle.script_model.specs.Texts.{line_text, range_text, line_end, AreWritable, script_text}
use Rattle.script_model.proofs.Lacking.{lacks_blank, lacks_both, lacks_tested}
use Rattle.script_model.proofs.WordLaws.{line_at_front, hex_lacks}
use Rattle.script_model.proofs.Spellings.{number_spelled, zero_spelled, view_spelled, status_spelled, spelling_read}
use Rattle.std.proofs.lemmas.Grind.{common_steps}

-- ---- spellings without a line feed

pub lacks_range : (args : List (List ℕ)) (at n : ℕ) → IsRange args at n → Lacks 10 (range_text at n)
lacks_range args at n h =
    let first = number_lacks 10 (decimal at) at (omega arith) (number_spelled h.offset at h.offset_is) in
    let last = number_lacks 10 (decimal n) n (omega arith) (number_spelled h.count n h.count_is) in
    lacks_both 10 (decimal at) (32 ∷ decimal n) first (lacks_blank (decimal n) last)

lacks_read : (args : List (List ℕ)) (at n : ℕ) → IsRange args at n → Lacks 10 (codes "read " ++ range_text at n)
lacks_read args at n h = lacks_both 10 (codes "read ") (range_text at n) (lacks_tested 10 (codes "read ") refl) (lacks_range args at n h)

pub lacks_write : (args : List (List ℕ)) (at : ℕ) (bytes : List ℕ) → IsContent args at bytes → Lacks 10 (codes "write " ++ decimal at ++ 32 ∷ encode_lower bytes)
lacks_write args at bytes h =
    let first = number_lacks 10 (decimal at) at (omega arith) (number_spelled h.offset at h.offset_is) in
    let digits = hex_lacks 10 (encode_lower bytes) bytes refl (decode_of-encode_lower bytes (decode_of-ok h.hex bytes h.decodes).3) in
    let head = lacks_both 10 (codes "write ") (decimal at) (lacks_tested 10 (codes "write ") refl) first in
    lacks_both 10 (codes "write " ++ decimal at) (32 ∷ encode_lower bytes) head (lacks_blank (encode_lower bytes) digits)

lacks_as : (text spelled : List ℕ) → text ≡ spelled → Lacks 10 text → Lacks 10 spelled
lacks_as text spelled e h = search rules

lacks_asked : (text : List ℕ) (v : Verb) (args : List (List ℕ)) (r : Request) → Lacks 10 text → words_of text ≡ verb_word v ∷ args → Takes v args r → Lacks 10 (line_text (Ask r))
lacks_asked text Write args r w e h = rw h.3 (lacks_write args h.0 h.1 h.2)
lacks_asked text Read args r w e h = rw h.3 (lacks_read args h.0 h.1 h.2)
lacks_asked text Zero args r w e h = rw h.4 (lacks_as text _ (zero_spelled text args h.0 h.1 h.2 e h.3) w)
lacks_asked text Flush args r w e h = search rules
lacks_asked text View args r w e h = rw h.4 (elim (cases_Bool (bytes_eq h.0 drive)) [
  | inl drives ↦ rw drives (lacks_read h.3.rest h.1 h.2 h.3.range)
  | inr other ↦ rw other (lacks_as text _ (view_spelled text args h.0 h.1 h.2 e h.3) w)
])
lacks_asked text Status args r w e h = rw h.5 (lacks_as text _ (status_spelled text args h.0 h.1 h.2 h.3 e h.4) w)

-- the spelling of a line that a text without a line feed says lacks one too
lacks_spelling : (text : List ℕ) (l : Line) → Lacks 10 text → Spells text l → Lacks 10 (line_text l)
lacks_spelling text (Ask r) w h = grind (arith, common_steps, lacks_asked)
lacks_spelling text (Qmp json) w h = lacks_as text _ h w
lacks_spelling text Tick w h = search rules
lacks_spelling text Stop w h = search rules
lacks_spelling text Quit w h = search rules
lacks_spelling text Nothing w h = search rules

-- ---- lines as they are written

-- one carriage return at a line's end is dropped
one_dropped : (text : List ℕ) → without_return (text ++ 13 ∷ []) ≡ text
one_dropped text = grind (arith, common_steps)

-- a text and its end are one line, which is read as the text
pub record IsCut (whole text rest : List ℕ) : Type 0 where
  pub raw : List ℕ
  pub lines : lines_of whole ≡ raw ∷ lines_of rest
  pub read : without_return raw ≡ text

end_cut : (text rest : List ℕ) → Lacks 10 text → IsCut ((text ++ line_end text) ++ rest) text rest
end_cut text rest h = elim (cases_Bool (get_or text (length text - 1) 0 == 13)) [
  | inl ends ↦ rw ends (record {
    raw = text ++ 13 ∷ [];
    lines = ap lines_of (append_assoc text (13 ∷ 10 ∷ []) rest ∙ sym (append_assoc text (13 ∷ []) (10 ∷ rest))) ∙ line_at_front (text ++ 13 ∷ []) rest (lacks_both 10 text (13 ∷ []) h (lacks_tested 10 (13 ∷ []) refl));
    read = one_dropped text;
  })
  | inr other ↦ rw other (record {
    raw = text;
    lines = ap lines_of (append_assoc text (10 ∷ []) rest) ∙ line_at_front text rest h;
    read = rw other refl;
  })
]

-- a script of spellings says the lines that were written
pub script_read : (ls : List Line) → AreWritable ls → Say (lines_of (script_text ls)) ls
script_read [] h = tt
script_read (l ∷ ls) h = grind (arith, common_steps, end_cut (line_text l) (script_text ls) (lacks_spelling h.0.0 l h.0.1 h.0.2), lacks_spelling h.0.0 l h.0.1 h.0.2, spelling_read l (h.0.0, h.0.2), script_read ls h.1)
