-- A text says one line at most, and a script one list of lines.
use Rattle.std.proofs.Common.{◌≡◌, ℕ, zero, suc, ◌+◌, Bool, true, false, List, [], ◌∷◌, ◌++◌, get_or, refl, sym, ap, subst, ◌∙◌, if◌then◌else◌, rules, arith}
use Rattle.std.specs.Prelude.{codes, ◌==◌, nat_lt}
use Rattle.std.specs.List.{onto_first}
use Rattle.hex.proofs.HexLemmas.{decode_of-same}
use Rattle.core_events.specs.Events.{Request}
use Rattle.script_model.specs.Lines.{IsNothing, Line, Ask, Qmp, Tick, Stop, Quit, Nothing, Verb, Write, Read, Zero, Flush, View, Status, verb_word, IsRange, IsContent, IsZeroRange, IsView, IsStatus, nohole_words, Takes, Asks, asked_to_write, Spells, Say, FirstBadOf, words_of}
use Rattle.script_model.proofs.Numbers.{one_number}
use Rattle.std.proofs.lemmas.Grind.{common_steps}

-- ---- verbs

-- the verb that begins with this letter
abbrev by_letter : ℕ → Verb
by_letter b = if b == 119 then Write else if b == 114 then Read else if b == 122 then Zero else if b == 102 then Flush else if b == 118 then View else Status

letter : (v : Verb) → by_letter (get_or (verb_word v) 0 0) ≡ v
letter Write = refl
letter Read = refl
letter Zero = refl
letter Flush = refl
letter View = refl
letter Status = refl

pub one_verb : (v w : Verb) → verb_word v ≡ verb_word w → v ≡ w
one_verb v w e = search rules

-- ---- requests

one_range : (args : List (List ℕ)) (at n at2 n2 : ℕ) → IsRange args at n → IsRange args at2 n2 → (at ≡ at2) × (n ≡ n2)
one_range args at n at2 n2 h k = grind (arith, common_steps, one_number)

one_content : (args : List (List ℕ)) (at : ℕ) (bytes : List ℕ) (at2 : ℕ) (bytes2 : List ℕ) → IsContent args at bytes → IsContent args at2 bytes2 → (at ≡ at2) × (bytes ≡ bytes2)
one_content args at bytes at2 bytes2 h k = grind (arith, common_steps, one_number, decode_of-same)

one_hole_word : (a b : Bool) → nohole_words a ≡ nohole_words b → a ≡ b
one_hole_word true true e = refl
one_hole_word false false e = refl
one_hole_word true false e = absurd cc
one_hole_word false true e = absurd cc

one_hole : (args : List (List ℕ)) (at n : ℕ) (a : Bool) (at2 n2 : ℕ) (b : Bool) → IsZeroRange args at n a → IsZeroRange args at2 n2 b → (at ≡ at2) × (n ≡ n2) × (a ≡ b)
one_hole args at n a at2 n2 b h k = grind (arith, common_steps, one_number, one_hole_word)

one_view : (args : List (List ℕ)) (a : List ℕ) (at n : ℕ) (b : List ℕ) (at2 n2 : ℕ) → IsView args a at n → IsView args b at2 n2 → (a ≡ b) × (at ≡ at2) × (n ≡ n2)
one_view args a at n b at2 n2 h k =
    let w : a ∷ h.rest ≡ b ∷ k.rest = sym h.words ∙ k.words in
    let rest : h.rest ≡ k.rest = cc in
    let range = one_range k.rest at n at2 n2 (subst (λ (ws : List (List ℕ)). IsRange ws at n) rest h.range) k.range in
    ((cc), range.0, range.1)

one_status : (args : List (List ℕ)) (a x : List ℕ) (at n : ℕ) (b y : List ℕ) (at2 n2 : ℕ) → IsStatus args a x at n → IsStatus args b y at2 n2 → (a ≡ b) × (x ≡ y) × (at ≡ at2) × (n ≡ n2)
one_status args a x at n b y at2 n2 h k =
    let w : a ∷ x ∷ h.rest ≡ b ∷ y ∷ k.rest = sym h.words ∙ k.words in
    let rest : h.rest ≡ k.rest = cc in
    let range = one_range k.rest at n at2 n2 (subst (λ (ws : List (List ℕ)). IsRange ws at n) rest h.range) k.range in
    ((cc), (cc), range.0, range.1)

-- words behind a verb make one request at most
one_taken : (v : Verb) (args : List (List ℕ)) (r s : Request) → Takes v args r → Takes v args s → r ≡ s
one_taken Write args r s h k = let same = one_content args h.0 h.1 k.0 k.1 h.2 k.2 in let e : r ≡ asked_to_write h.0 h.1 = h.3 in let f : s ≡ asked_to_write k.0 k.1 = k.3 in e ∙ rw (same.0, same.1) refl ∙ sym f
one_taken Read args r s h k = let same = one_range args h.0 h.1 k.0 k.1 h.2 k.2 in h.3 ∙ rw (same.0, same.1) refl ∙ sym k.3
one_taken Zero args r s h k = let same = one_hole args h.0 h.1 h.2 k.0 k.1 k.2 h.3 k.3 in h.4 ∙ rw (same.0, same.1, same.2) refl ∙ sym k.4
one_taken Flush args r s h k = search rules
one_taken View args r s h k = let same = one_view args h.0 h.1 h.2 k.0 k.1 k.2 h.3 k.3 in h.4 ∙ rw (same.0, same.1, same.2) refl ∙ sym k.4
one_taken Status args r s h k = let same = one_status args h.0 h.1 h.2 h.3 k.0 k.1 k.2 k.3 h.4 k.4 in h.5 ∙ rw (same.0, same.1, same.2, same.3) refl ∙ sym k.5

-- words ask one thing at most
one_asked : (words : List (List ℕ)) (r s : Request) → Asks words r → Asks words s → r ≡ s
one_asked words r s h k = grind (arith, common_steps, one_taken, one_verb)

-- ---- lines

abbrev first_of : List (List ℕ) → List ℕ
first_of [] = []
first_of (word ∷ words) = word

abbrev kind_by : ℕ → ℕ
kind_by n = if n == 225 then 1 else if n == 215 then 2 else if n == 226 then 3 else if n == 218 then 4 else 0

-- what kind of line begins with this word, by its first and third letters
abbrev kind_of : List ℕ → ℕ
kind_of word = if nat_lt (get_or word 0 0) 36 then 5 else kind_by (get_or word 0 0 + get_or word 2 0)

abbrev kind : Line → ℕ
kind (Ask r) = 0
kind (Qmp json) = 1
kind Tick = 2
kind Stop = 3
kind Quit = 4
kind Nothing = 5

kind_asked : (v : Verb) → kind_of (verb_word v) ≡ 0
kind_asked Write = refl
kind_asked Read = refl
kind_asked Zero = refl
kind_asked Flush = refl
kind_asked View = refl
kind_asked Status = refl

first_onto : (parts : List (List ℕ)) → kind_of (first_of (onto_first 35 parts)) ≡ 5
first_onto [] = refl
first_onto (part ∷ parts) = refl

kind_nothing : (text : List ℕ) → IsNothing text → kind_of (first_of (words_of text)) ≡ 5
kind_nothing [] h = refl
kind_nothing (b ∷ bytes) h = search rules

kind_said : (text : List ℕ) (l : Line) → Spells text l → kind_of (first_of (words_of text)) ≡ kind l
kind_said text (Ask r) h = search rules
kind_said text (Qmp json) h = rw h refl
kind_said text Tick h = rw h refl
kind_said text Stop h = rw h refl
kind_said text Quit h = rw h refl
kind_said text Nothing h = search rules

one_qmp : (text json other : List ℕ) → text ≡ codes "qmp " ++ json → text ≡ codes "qmp " ++ other → Qmp json ≡ Qmp other
one_qmp text json other h k = search rules

-- two of one kind that a text says are one
one_of_kind : (text : List ℕ) (a b : Line) → kind a ≡ kind b → Spells text a → Spells text b → a ≡ b
one_of_kind text (Ask r) (Ask s) e h k = ap Ask (one_asked (words_of text) r s h k)
one_of_kind text (Ask r) (Qmp other) e h k = absurd cc
one_of_kind text (Ask r) Tick e h k = absurd cc
one_of_kind text (Ask r) Stop e h k = absurd cc
one_of_kind text (Ask r) Quit e h k = absurd cc
one_of_kind text (Ask r) Nothing e h k = absurd cc
one_of_kind text (Qmp json) (Ask s) e h k = absurd cc
one_of_kind text (Qmp json) (Qmp other) e h k = search rules
one_of_kind text (Qmp json) Tick e h k = absurd cc
one_of_kind text (Qmp json) Stop e h k = absurd cc
one_of_kind text (Qmp json) Quit e h k = absurd cc
one_of_kind text (Qmp json) Nothing e h k = absurd cc
one_of_kind text Tick (Ask s) e h k = absurd cc
one_of_kind text Tick (Qmp other) e h k = absurd cc
one_of_kind text Tick Tick e h k = refl
one_of_kind text Tick Stop e h k = absurd cc
one_of_kind text Tick Quit e h k = absurd cc
one_of_kind text Tick Nothing e h k = absurd cc
one_of_kind text Stop (Ask s) e h k = absurd cc
one_of_kind text Stop (Qmp other) e h k = absurd cc
one_of_kind text Stop Tick e h k = absurd cc
one_of_kind text Stop Stop e h k = refl
one_of_kind text Stop Quit e h k = absurd cc
one_of_kind text Stop Nothing e h k = absurd cc
one_of_kind text Quit (Ask s) e h k = absurd cc
one_of_kind text Quit (Qmp other) e h k = absurd cc
one_of_kind text Quit Tick e h k = absurd cc
one_of_kind text Quit Stop e h k = absurd cc
one_of_kind text Quit Quit e h k = refl
one_of_kind text Quit Nothing e h k = absurd cc
one_of_kind text Nothing (Ask s) e h k = absurd cc
one_of_kind text Nothing (Qmp other) e h k = absurd cc
one_of_kind text Nothing Tick e h k = absurd cc
one_of_kind text Nothing Stop e h k = absurd cc
one_of_kind text Nothing Quit e h k = absurd cc
one_of_kind text Nothing Nothing e h k = refl

-- a text says one line at most
pub one_line : (text : List ℕ) (a b : Line) → Spells text a → Spells text b → a ≡ b
one_line text a b h k = grind (arith, common_steps, one_of_kind, kind_said)

-- ---- scripts

-- lines say one thing at most
pub one_saying : (texts : List (List ℕ)) (a b : List Line) → Say texts a → Say texts b → a ≡ b
one_saying [] [] [] h k = refl
one_saying [] [] (m ∷ b) h k = absurd k
one_saying [] (l ∷ a) b h k = absurd h
one_saying (text ∷ texts) [] b h k = absurd h
one_saying (text ∷ texts) (l ∷ a) [] h k = absurd k
one_saying (text ∷ texts) (l ∷ a) (m ∷ b) h k = grind (arith, common_steps, one_line, one_saying texts a b)

-- lines of which one has no form say nothing
pub bad_says_nothing : (texts : List (List ℕ)) (n : ℕ) (ls : List Line) → FirstBadOf texts n → Say texts ls → ⊥
bad_says_nothing texts zero ls bad says = bad
bad_says_nothing [] (suc n) ls bad says = bad
bad_says_nothing (text ∷ texts) (suc zero) [] bad says = says
bad_says_nothing (text ∷ texts) (suc zero) (l ∷ ls) bad says = search rules
bad_says_nothing (text ∷ texts) (suc (suc n)) [] bad says = says
bad_says_nothing (text ∷ texts) (suc (suc n)) (l ∷ ls) bad says = bad_says_nothing texts (suc n) ls bad.1 says.1

-- one line at most is the first without a form
pub one_first_bad : (texts : List (List ℕ)) (m n : ℕ) → FirstBadOf texts m → FirstBadOf texts n → m ≡ n
one_first_bad texts zero n h k = absurd h
one_first_bad texts (suc m) zero h k = absurd k
one_first_bad [] (suc m) (suc n) h k = absurd h
one_first_bad (text ∷ texts) (suc zero) (suc zero) h k = refl
one_first_bad (text ∷ texts) (suc zero) (suc (suc n)) h k = search rules
one_first_bad (text ∷ texts) (suc (suc m)) (suc zero) h k = search rules
one_first_bad (text ∷ texts) (suc (suc m)) (suc (suc n)) h k = ap suc (one_first_bad texts (suc m) (suc n) h.1 k.1)
