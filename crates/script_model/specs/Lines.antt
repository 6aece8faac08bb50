-- The lines of a script, and what each says.
use Rattle.std.specs.Prelude.{◌≡◌, ◌≢◌, ℕ, zero, suc, ◌==◌, Bool, true, false, List, [], ◌∷◌, ◌++◌, length, Ok, codes}
use Rattle.std.specs.List.{slice_split}
use Rattle.hex.specs.Hex.{decode_of}
use Rattle.script_model.specs.Words.{lines_of, without_return, IsNumber}
use Rattle.core_events.specs.Events.{Request}
use Rattle.core_events.specs.declared.events.Work.{Work}
use Rattle.core_events.specs.declared.events.Work.TheVariants as work
use Rattle.core_events.specs.declared.events.Way.TheVariants as way

-- ---- what a line says

pub data Line : Type 0 where
  Ask : (request : Request) → Line
  Qmp : (json : List ℕ) → Line
  Tick : Line
  Stop : Line
  Quit : Line
  Nothing : Line

-- the name of the drive
abbrev pub drive : List ℕ
drive = codes "drive0"

-- a request of a node, without bytes
abbrev pub asked : List ℕ → Work → ℕ → ℕ → Request
asked node work at n = record { way = way.Node node; work = work; offset = at; length = n; bytes = [] }

-- the request to write these bytes on the drive
abbrev pub asked_to_write : ℕ → List ℕ → Request
asked_to_write at bytes = record { way = way.Node drive; work = work.Write false; offset = at; length = length bytes; bytes = bytes }

-- ---- the words of a line

-- the words, parted by one blank each: two blanks part an empty word
abbrev pub words_of : List ℕ → List (List ℕ)
words_of text = slice_split (λ b. b == 32) text

-- the first word of a line that asks something
pub data Verb : Type 0 where
  Write : Verb
  Read : Verb
  Zero : Verb
  Flush : Verb
  View : Verb
  Status : Verb

abbrev pub verb_word : Verb → List ℕ
verb_word Write = codes "write"
verb_word Read = codes "read"
verb_word Zero = codes "zero"
verb_word Flush = codes "flush"
verb_word View = codes "view"
verb_word Status = codes "status"

-- `OFF LEN`
pub record IsRange (args : List (List ℕ)) (at n : ℕ) : Type 0 where
  pub offset : List ℕ
  pub count : List ℕ
  pub words : args ≡ offset ∷ count ∷ []
  pub offset_is : IsNumber offset at
  pub count_is : IsNumber count n

-- `OFF HEX`, of one byte or more
pub record IsContent (args : List (List ℕ)) (at : ℕ) (bytes : List ℕ) : Type 0 where
  pub offset : List ℕ
  pub hex : List ℕ
  pub words : args ≡ offset ∷ hex ∷ []
  pub offset_is : IsNumber offset at
  pub decodes : decode_of hex ≡ Ok bytes
  pub some : bytes ≢ []

-- the words by which clusters are stored, as by a write of zeros
abbrev pub nohole_words : Bool → List (List ℕ)
nohole_words true = codes "nohole" ∷ []
nohole_words false = []

-- `OFF LEN` or `OFF LEN nohole`
pub record IsZeroRange (args : List (List ℕ)) (at n : ℕ) (no_hole : Bool) : Type 0 where
  pub offset : List ℕ
  pub count : List ℕ
  pub words : args ≡ offset ∷ count ∷ nohole_words no_hole
  pub offset_is : IsNumber offset at
  pub count_is : IsNumber count n

-- `NAME OFF LEN`
pub record IsView (args : List (List ℕ)) (name : List ℕ) (at n : ℕ) : Type 0 where
  pub rest : List (List ℕ)
  pub words : args ≡ name ∷ rest
  pub some : name ≢ []
  pub range : IsRange rest at n

-- `NAME CONTEXT OFF LEN`
pub record IsStatus (args : List (List ℕ)) (name context : List ℕ) (at n : ℕ) : Type 0 where
  pub rest : List (List ℕ)
  pub words : args ≡ name ∷ context ∷ rest
  pub some : name ≢ []
  pub some_context : context ≢ []
  pub range : IsRange rest at n

-- the words behind the verb make it this request
abbrev pub Takes : Verb → List (List ℕ) → Request → Type 0
Takes Write args r = (at : ℕ) × (bytes : List ℕ) × IsContent args at bytes × (r ≡ asked_to_write at bytes)
Takes Read args r = (at : ℕ) × (n : ℕ) × IsRange args at n × (r ≡ asked drive work.Read at n)
Takes Zero args r = (at : ℕ) × (n : ℕ) × (no_hole : Bool) × IsZeroRange args at n no_hole × (r ≡ asked drive (work.Zero false no_hole) at n)
Takes Flush args r = (args ≡ []) × (r ≡ asked drive work.Flush 0 0)
Takes View args r = (name : List ℕ) × (at : ℕ) × (n : ℕ) × IsView args name at n × (r ≡ asked name work.Read at n)
Takes Status args r = (name : List ℕ) × (context : List ℕ) × (at : ℕ) × (n : ℕ) × IsStatus args name context at n × (r ≡ asked name (work.Status context false) at n)

-- the words ask this
pub record Asks (words : List (List ℕ)) (r : Request) : Type 0 where
  pub verb : Verb
  pub args : List (List ℕ)
  pub are : words ≡ verb_word verb ∷ args
  pub takes : Takes verb args r

-- ---- lines

-- an empty line, or one that begins with `#`
abbrev pub IsNothing : List ℕ → Type 0
IsNothing [] = Unit {0}
IsNothing (b ∷ bytes) = b ≡ 35

-- a line's text says this
abbrev pub Spells : List ℕ → Line → Type 0
Spells text (Ask request) = Asks (words_of text) request
Spells text (Qmp json) = text ≡ codes "qmp " ++ json
Spells text Tick = text ≡ codes "tick"
Spells text Stop = text ≡ codes "stop"
Spells text Quit = text ≡ codes "quit"
Spells text Nothing = IsNothing text

-- the text has no form
abbrev pub HasNoForm : List ℕ → Type 0
HasNoForm text = (l : Line) → Spells text l → ⊥

-- these lines say these things, line by line
abbrev pub Say : List (List ℕ) → List Line → Type 0
Say [] [] = Unit {0}
Say (text ∷ texts) (l ∷ ls) = Spells (without_return text) l × Say texts ls
Say [] (l ∷ ls) = ⊥
Say (text ∷ texts) [] = ⊥

-- the script says these lines
abbrev pub IsScript : List ℕ → List Line → Type 0
IsScript bytes ls = Say (lines_of bytes) ls

-- line n, counted from 1, is the first of these without a form
abbrev pub FirstBadOf : List (List ℕ) → ℕ → Type 0
FirstBadOf texts zero = ⊥
FirstBadOf [] (suc n) = ⊥
FirstBadOf (text ∷ texts) (suc zero) = HasNoForm (without_return text)
FirstBadOf (text ∷ texts) (suc (suc n)) = ((l : Line) × Spells (without_return text) l) × FirstBadOf texts (suc n)

-- line n of the script, counted from 1, is the first without a form
abbrev pub FirstBad : List ℕ → ℕ → Type 0
FirstBad bytes n = FirstBadOf (lines_of bytes) n
