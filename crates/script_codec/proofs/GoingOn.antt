-- Going on by a line.
use Rattle.std.proofs.Common.{◌≡◌, ℕ, zero, suc, ◌+◌, true, List, [], ◌∷◌, ◌++◌, Option, Some, None, sym, subst, ◌∙◌, arith, rules}
use Rattle.std.specs.Prelude.{codes, ◌≢◌}
use Rattle.std.specs.Option.{is_some}
use Rattle.script_model.specs.Words.{without_return}
use Rattle.script_model.specs.Lines.{IsNothing, Line, Ask, Qmp, Tick, Stop, Quit, Nothing, Asks, Spells, Say, FirstBadOf, HasNoForm, words_of}
use Rattle.script_codec.specs.Views.{LineFound}
use Rattle.script_model.proofs.WordLaws.{some_word, same_text}
use Rattle.std.proofs.lemmas.Grind.{common_steps}
use Rattle.core_events.specs.Events as events
use Rattle.script_codec.specs.declared.lines.Line as declared

-- ---- one line

-- a line that begins with `qmp` and a blank hands on what follows
pub qmp_said : (text word rest : List ℕ) → words_of text ≡ word ∷ words_of rest → word ≡ codes "qmp" → text ≡ codes "qmp " ++ rest
qmp_said text word rest e q = grind (arith, common_steps, same_text)

-- a line of several words says only what they ask
pub none_said : (text word rest : List ℕ) → (IsNothing text → ⊥) → words_of text ≡ word ∷ words_of rest → word ≢ codes "qmp" → ((r : events.Request) → Asks (word ∷ words_of rest) r → ⊥) → HasNoForm text
none_said text word rest some e other asks (Ask r) h = asks r (subst (λ (ws : List (List ℕ)). Asks ws r) e h)
none_said text word rest some e other asks (Qmp json) h = search rules
none_said text word rest some e other asks Tick h = grind (arith, common_steps, some_word)
none_said text word rest some e other asks Stop h = grind (arith, common_steps, some_word)
none_said text word rest some e other asks Quit h = grind (arith, common_steps, some_word)
none_said text word rest some e other asks Nothing h = some h

-- ---- lines

-- what the rest says makes the whole say something
abbrev pub GoesOn : List (List ℕ) → List (List ℕ) → Type 0
GoesOn rest all = (ls : List Line) → Say rest ls → (more : List Line) × Say all more

-- what the rest says makes the whole say these lines and that
abbrev pub ReadOn : List (List ℕ) → List Line → List (List ℕ) → Type 0
ReadOn rest read all = (ls : List Line) → Say rest ls → Say all (read ++ ls)

-- the first line of the rest without a form is the whole's
abbrev pub BadOn : List (List ℕ) → ℕ → List (List ℕ) → Type 0
BadOn rest count all = (n : ℕ) → FirstBadOf rest n → FirstBadOf all (count + n)

-- a line of the rest, and what follows it
pub record Follows (rest after : List (List ℕ)) (text : List ℕ) : Type 0 where
  pub raw : List ℕ
  pub cut : rest ≡ raw ∷ after
  pub is : text ≡ without_return raw

said_first : (rest after : List (List ℕ)) (text : List ℕ) (l : Line) (ls : List Line) → Follows rest after text → Spells text l → Say after ls → Say rest (l ∷ ls)
said_first rest after text l ls f spelled says = search rules

-- past a line that has a form, the rest goes on
pub goes_on : (rest after all : List (List ℕ)) (text : List ℕ) (l : Line) → Follows rest after text → Spells text l → GoesOn rest all → GoesOn after all
goes_on rest after all text l f spelled h ls says = h (l ∷ ls) (said_first rest after text l ls f spelled says)

pub read_on : (rest after all : List (List ℕ)) (text : List ℕ) (l : Line) (read : List Line) → Follows rest after text → Spells text l → ReadOn rest read all → ReadOn after (read ++ l ∷ []) all
read_on rest after all text l read f spelled h ls says = grind (arith, common_steps)

-- past a line that has a form, the first without one is still the whole's
pub bad_on : (rest after all : List (List ℕ)) (text : List ℕ) (l : Line) (count : ℕ) → Follows rest after text → Spells text l → BadOn rest count all → BadOn after (count + 1) all
bad_on rest after all text l count f spelled h zero bad = absurd bad
bad_on rest after all text l count f spelled h (suc n) bad =
    let here : Spells (without_return f.raw) l = subst (λ (t : List ℕ). Spells t l) f.is spelled in
    let one : FirstBadOf rest (suc (suc n)) = subst (λ (r : List (List ℕ)). FirstBadOf r (suc (suc n))) (sym f.cut) ((l, here), bad) in
    subst (λ (k : ℕ). FirstBadOf all k) (omega arith) (h (suc (suc n)) one)

-- a line that was found has a form
pub form_found : (found : Option declared.Line) (text : List ℕ) → is_some found ≡ true → LineFound text found → (l : Line) × Spells text l
form_found None text e m = absurd cc
form_found (Some l) text e m = search rules
