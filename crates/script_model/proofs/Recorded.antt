-- Lines that were read can be written, and so can the lines that say a request.
use Rattle.std.proofs.Common.{◌≡◌, ◌≢◌, ℕ, zero, suc, ◌^◌, ◌<◌, Bool, true, false, nat_lt, List, [], ◌∷◌, ◌++◌, length, refl, ap, subst, ◌∙◌, arith, rules}
use Rattle.std.specs.Prelude.{codes, ◌&&◌}
use Rattle.std.specs.List.{All}
use Rattle.std.specs.Fmt.{decimal}
use Rattle.std.proofs.lemmas.Bool.{cases_Bool, and_parts}
use Rattle.std.proofs.lemmas.List.{append-nil}
use Rattle.hex.specs.Hex.{IsBytes, encode_lower}
use Rattle.hex.proofs.HexLemmas.{decode_of-encode_lower}
use Rattle.core_events.specs.Events.{Request}
use Rattle.core_events.specs.declared.events.Work.{Work}
use Rattle.core_events.specs.declared.events.Work.TheVariants.{Read, Write, Zero, Flush, Status}
use Rattle.script_model.specs.Words.{Lacks, IsNumber, lines_of, without_return}
use Rattle.script_model.specs.Lines.{Line, Ask, Verb, verb_word, IsRange, IsContent, IsZeroRange, IsView, IsStatus, nohole_words, Takes, Say, words_of, asked, asked_to_write, drive}
use Rattle.script_model.specs.Texts.{range_text, nohole_text, IsWritable, AreWritable, name_of}
use Rattle.script_model.specs.Recording.{lines_of_work, lines_of_request, flush_lines, is_word}
use Rattle.script_model.proofs.Numbers.{number_lacks, number_no_space}
use Rattle.script_model.proofs.Lacking.{EachLacks, IsWord, lacks_blank, lacks_both, lacks_cut, lacks_tested, lines_lack, words_lack, words_lack_too, word_tested, word_passes}
use Rattle.script_model.proofs.WordLaws.{first_word, number_word}
use Rattle.script_model.proofs.Spellings.{range_again, write_again}
use Rattle.script_model.proofs.Rereading.{lacks_range, lacks_write}
use Rattle.std.proofs.lemmas.Grind.{common_steps}
use Rattle.core_events.specs.declared.events.Work.TheVariants as work
use Rattle.script_model.specs.Lines as spec

-- ---- lines that were read

said_writable : (texts : List (List ℕ)) (ls : List Line) → EachLacks 10 texts → Say texts ls → AreWritable ls
said_writable [] [] h s = tt
said_writable [] (l ∷ ls) h s = absurd s
said_writable (text ∷ texts) [] h s = absurd s
said_writable (text ∷ texts) (l ∷ ls) h s = grind (arith, common_steps, lacks_cut 10 text h.0, said_writable texts ls h.1 s.1)

pub read_writable : (bytes : List ℕ) (ls : List Line) → Say (lines_of bytes) ls → AreWritable ls
read_writable bytes ls s = grind (arith, common_steps, said_writable, lines_lack)

-- ---- lines that say a request

spelled : (n : ℕ) → n < 2 ^ 64 → IsNumber (decimal n) n
spelled n h = search rules

range_of : (at n : ℕ) → at < 2 ^ 64 → n < 2 ^ 64 → IsRange (decimal at ∷ decimal n ∷ []) at n
range_of at n h k = search rules

-- words behind a name
view_of : (name : List ℕ) (at n : ℕ) → IsWord name → at < 2 ^ 64 → n < 2 ^ 64 → IsView (words_of (name ++ 32 ∷ range_text at n)) name at n
view_of name at n w h k = record {
  rest = words_of (range_text at n);
  words = first_word (name ++ 32 ∷ range_text at n) name (range_text at n) refl w.no_blank;
  some = w.some;
  range = range_again _ at n (range_of at n h k);
}

lacks_view : (name : List ℕ) (at n : ℕ) → IsWord name → at < 2 ^ 64 → n < 2 ^ 64 → Lacks 10 (name ++ 32 ∷ range_text at n)
lacks_view name at n w h k = lacks_both 10 name (32 ∷ range_text at n) w.no_feed (lacks_blank (range_text at n) (lacks_range _ at n (range_of at n h k)))

read_line : (name : List ℕ) (at n : ℕ) → IsWord name → at < 2 ^ 64 → n < 2 ^ 64 → IsWritable (Ask (asked name work.Read at n))
read_line name at n w h k =
    let args : List ℕ = name ++ 32 ∷ range_text at n in
    (codes "view " ++ args, lacks_both 10 (codes "view ") args (lacks_tested 10 (codes "view ") refl) (lacks_view name at n w h k), record { verb = spec.View; args = words_of args; are = refl; takes = (name, at, n, view_of name at n w h k, refl) })

status_line : (name context : List ℕ) (at n : ℕ) → IsWord name → IsWord context → at < 2 ^ 64 → n < 2 ^ 64 → IsWritable (Ask (asked name (work.Status context false) at n))
status_line name context at n w x h k =
    let rest : List ℕ = context ++ 32 ∷ range_text at n in
    let args : List ℕ = name ++ 32 ∷ rest in
    let view = view_of context at n x h k in
    let status : IsStatus (words_of args) name context at n = record { rest = view.rest; words = first_word args name rest refl w.no_blank ∙ ap (λ (ws : List (List ℕ)). name ∷ ws) view.words; some = w.some; some_context = x.some; range = view.range } in
    let lacks : Lacks 10 args = lacks_both 10 name (32 ∷ rest) w.no_feed (lacks_blank rest (lacks_view context at n x h k)) in
    (codes "status " ++ args, lacks_both 10 (codes "status ") args (lacks_tested 10 (codes "status ") refl) lacks, record { verb = spec.Status; args = words_of args; are = refl; takes = (name, context, at, n, status, refl) })

-- the last number of a zero, and what follows it
zero_end : (n : ℕ) (no_hole : Bool) → n < 2 ^ 64 → words_of (decimal n ++ nohole_text no_hole) ≡ decimal n ∷ nohole_words no_hole
zero_end n true h = first_word (decimal n ++ nohole_text true) (decimal n) (codes "nohole") refl (number_no_space (decimal n) n (spelled n h))
zero_end n false h = grind (arith, common_steps, append-nil, number_word, spelled)

nohole_lacks : (no_hole : Bool) → Lacks 10 (nohole_text no_hole)
nohole_lacks true = search rules
nohole_lacks false = search rules

zero_line : (at n : ℕ) (no_hole : Bool) → at < 2 ^ 64 → n < 2 ^ 64 → IsWritable (Ask (asked drive (work.Zero false no_hole) at n))
zero_line at n no_hole h k =
    let rest : List ℕ = decimal n ++ nohole_text no_hole in
    let args : List ℕ = decimal at ++ 32 ∷ rest in
    let range : IsZeroRange (words_of args) at n no_hole = record { offset = decimal at; count = decimal n; words = first_word args (decimal at) rest refl (number_no_space (decimal at) at (spelled at h)) ∙ ap (λ (ws : List (List ℕ)). decimal at ∷ ws) (zero_end n no_hole k); offset_is = spelled at h; count_is = spelled n k } in
    let last : Lacks 10 rest = lacks_both 10 (decimal n) (nohole_text no_hole) (number_lacks 10 (decimal n) n (omega arith) (spelled n k)) (nohole_lacks no_hole) in
    let lacks : Lacks 10 args = lacks_both 10 (decimal at) (32 ∷ rest) (number_lacks 10 (decimal at) at (omega arith) (spelled at h)) (lacks_blank rest last) in
    (codes "zero " ++ args, lacks_both 10 (codes "zero ") args (lacks_tested 10 (codes "zero ") refl) lacks, record { verb = spec.Zero; args = words_of args; are = refl; takes = (at, n, no_hole, range, refl) })

all_bytes : (bytes : List ℕ) → All (λ b. b < 256) bytes → IsBytes bytes
all_bytes [] h i = omega arith
all_bytes (b ∷ bytes) h zero = search rules
all_bytes (b ∷ bytes) h (suc i) = all_bytes bytes (λ k d lt. h (suc k) d (omega arith)) i

write_line : (at : ℕ) (bytes : List ℕ) → at < 2 ^ 64 → All (λ b. b < 256) bytes → bytes ≢ [] → IsWritable (Ask (asked_to_write at bytes))
write_line at bytes h all some =
    let content : IsContent (decimal at ∷ encode_lower bytes ∷ []) at bytes = record { offset = decimal at; hex = encode_lower bytes; words = refl; offset_is = spelled at h; decodes = decode_of-encode_lower bytes (all_bytes bytes all); some = some } in
    (codes "write " ++ decimal at ++ 32 ∷ encode_lower bytes, lacks_write _ at bytes content, write_again _ at bytes content)

flush_line : IsWritable (Ask (asked drive work.Flush 0 0))
flush_line = (codes "flush", lacks_tested 10 (codes "flush") refl, record { verb = spec.Flush; args = []; are = refl; takes = (refl, refl) })

flush_writable : (fua : Bool) → AreWritable (flush_lines fua)
flush_writable true = (flush_line, tt)
flush_writable false = tt

some_bytes : (bytes : List ℕ) → nat_lt 0 (length bytes) ≡ true → bytes ≢ []
some_bytes bytes h e = search rules

pub work_writable : (node : List ℕ) (w : Work) (at n : ℕ) (bytes : List ℕ) → at < 2 ^ 64 → n < 2 ^ 64 → All (λ b. b < 256) bytes → AreWritable (lines_of_work node w at n bytes)
work_writable node Read at n bytes h k all = grind (arith, common_steps, cases_Bool, read_line, word_tested)
work_writable node (Write fua) at n bytes h k all = grind (arith, common_steps, cases_Bool, nat_lt, write_line, some_bytes, and_parts, flush_writable)
work_writable node (Zero fua no_hole) at n bytes h k all = grind (arith, common_steps, cases_Bool, zero_line, flush_writable)
work_writable node Flush at n bytes h k all = grind (arith, common_steps, cases_Bool, flush_line)
work_writable node (Status context one) at n bytes h k all = grind (arith, common_steps, cases_Bool, and_parts, status_line, word_tested)

-- ---- what a line asked

write_recorded : (at : ℕ) (bytes : List ℕ) → bytes ≢ [] → lines_of_request drive (asked_to_write at bytes) ≡ Ask (asked_to_write at bytes) ∷ []
write_recorded at [] some = search rules
write_recorded at (b ∷ bytes) some = search rules

word_of : (text first name : List ℕ) (rest : List (List ℕ)) → Lacks 10 text → words_of text ≡ first ∷ name ∷ rest → name ≢ [] → is_word name ≡ true
word_of text first name rest h e some = word_passes name (record { some = some; no_blank = (subst (EachLacks 32) e (words_lack text)).1.0; no_feed = (subst (EachLacks 10) e (words_lack_too 10 text h)).1.0 })

context_of : (text first name context : List ℕ) (rest : List (List ℕ)) → Lacks 10 text → words_of text ≡ first ∷ name ∷ context ∷ rest → context ≢ [] → is_word context ≡ true
context_of text first name context rest h e some = word_passes context (record { some = some; no_blank = (subst (EachLacks 32) e (words_lack text)).1.1.0; no_feed = (subst (EachLacks 10) e (words_lack_too 10 text h)).1.1.0 })

behind : (text first : List ℕ) (args words : List (List ℕ)) → words_of text ≡ first ∷ args → args ≡ words → words_of text ≡ first ∷ words
behind text first args words e f = search rules

taken_recorded : (text : List ℕ) (v : Verb) (args : List (List ℕ)) (r : Request) → Lacks 10 text → words_of text ≡ verb_word v ∷ args → Takes v args r → lines_of_request (name_of r.way) r ≡ Ask r ∷ []
taken_recorded text spec.Write args r l e h = grind (arith, common_steps)
taken_recorded text spec.Read args r l e h = rw h.3 refl
taken_recorded text spec.Zero args r l e h = rw h.4 refl
taken_recorded text spec.Flush args r l e h = rw h.1 refl
taken_recorded text spec.View args r l e h = grind (arith, common_steps, word_of, behind)
taken_recorded text spec.Status args r l e h = grind (arith, common_steps, behind, word_of, context_of)

said_recorded : (texts : List (List ℕ)) (r : Request) → EachLacks 10 texts → Say texts (Ask r ∷ []) → lines_of_request (name_of r.way) r ≡ Ask r ∷ []
said_recorded [] r h s = absurd s
said_recorded (text ∷ texts) r h s = taken_recorded (without_return text) s.0.verb s.0.args r (lacks_cut 10 text h.0) s.0.are s.0.takes

pub asked_recorded : (bytes : List ℕ) (r : Request) → Say (lines_of bytes) (Ask r ∷ []) → lines_of_request (name_of r.way) r ≡ Ask r ∷ []
asked_recorded bytes r s = said_recorded (lines_of bytes) r (lines_lack bytes) s
