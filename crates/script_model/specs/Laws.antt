-- The laws, as statements.
use Rattle.std.specs.Prelude.{◌≡◌, ℕ, List, [], ◌∷◌}
use Rattle.script_model.specs.Lines.{Line, Ask, Spells, IsScript, FirstBad}
use Rattle.core_events.specs.Events.{Request}
use Rattle.script_model.specs.Texts.{IsSpellable, AreWritable, line_text, script_text, name_of}
use Rattle.script_model.specs.Recording.{lines_of_request, IsInRange}

-- a text says one line at most
abbrev pub TextSaysOneLine : Type 0
TextSaysOneLine = (text : List ℕ) (a b : Line) → Spells text a → Spells text b → a ≡ b

-- a script says one list of lines at most
abbrev pub ScriptSaysOneThing : Type 0
ScriptSaysOneThing = (bytes : List ℕ) (a b : List Line) → IsScript bytes a → IsScript bytes b → a ≡ b

-- a script of which one line has no form says nothing
abbrev pub BadLineExcludesSaying : Type 0
BadLineExcludesSaying = (bytes : List ℕ) (n : ℕ) (ls : List Line) → FirstBad bytes n → IsScript bytes ls → ⊥

-- one line at most is the first without a form
abbrev pub OneFirstBadLine : Type 0
OneFirstBadLine = (bytes : List ℕ) (m n : ℕ) → FirstBad bytes m → FirstBad bytes n → m ≡ n

-- where some text says a line, its one spelling says it too
abbrev pub SpellingIsRead : Type 0
SpellingIsRead = (l : Line) → IsSpellable l → Spells (line_text l) l

-- lines that are written are read as the lines that they are
abbrev pub WrittenScriptIsRead : Type 0
WrittenScriptIsRead = (ls : List Line) → AreWritable ls → IsScript (script_text ls) ls

-- lines that were read can be written
abbrev pub ReadLinesAreWritable : Type 0
ReadLinesAreWritable = (bytes : List ℕ) (ls : List Line) → IsScript bytes ls → AreWritable ls

-- so can the lines that say a request
abbrev pub RecordedLinesAreWritable : Type 0
RecordedLinesAreWritable = (node : List ℕ) (r : Request) → IsInRange r → AreWritable (lines_of_request node r)

-- a request that a line of a script asks is said by that line
abbrev pub AskedLineIsRecorded : Type 0
AskedLineIsRecorded = (bytes : List ℕ) (r : Request) → IsScript bytes (Ask r ∷ []) → lines_of_request (name_of r.way) r ≡ Ask r ∷ []
