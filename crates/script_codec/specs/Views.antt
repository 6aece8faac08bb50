-- A line of the code as what it says, and what calls find.
use Rattle.std.specs.Prelude.{ℕ, ◌∷◌, List, MatchOption, Option}
use Rattle.core_events.specs.Events as events
use Rattle.core_events.specs.Views.{plain_request}
use Rattle.core_events.specs.declared.events.Request.{Request}
use Rattle.script_model.specs.Lines.{Line, Ask, Qmp, Tick, Stop, Quit, Nothing, Verb, Takes, Asks, Spells, HasNoForm, words_of}
use Rattle.script_codec.specs.declared.lines.Line as declared
use Rattle.script_codec.specs.declared.lines.Line.TheVariants as lines

-- what a line says
abbrev pub plain_line : declared.Line → Line
plain_line (lines.Ask request) = Ask (plain_request request)
plain_line (lines.Qmp json) = Qmp json.items.items
plain_line lines.Tick = Tick
plain_line lines.Stop = Stop
plain_line lines.Quit = Quit
plain_line lines.Nothing = Nothing

-- what a line's text was found to say; none where it has no form
abbrev pub LineFound : List ℕ → Option declared.Line → Type 0
LineFound text found = MatchOption found (HasNoForm text) (λ l. Spells text (plain_line l))

-- what the words behind a verb were found to ask
abbrev pub TakesFound : Verb → List ℕ → Option Request → Type 0
TakesFound verb text found = MatchOption found ((r : events.Request) → Takes verb (words_of text) r → ⊥) (λ r. Takes verb (words_of text) (plain_request r))

-- what a word and those behind it were found to ask
abbrev pub AsksFound : List ℕ → List ℕ → Option Request → Type 0
AsksFound word text found = MatchOption found ((r : events.Request) → Asks (word ∷ words_of text) r → ⊥) (λ r. Asks (word ∷ words_of text) (plain_request r))
