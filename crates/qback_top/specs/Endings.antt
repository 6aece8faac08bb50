-- How a run may end, and what it prints then.
use Rattle.std.specs.Prelude.{◌≡◌, ◌⊎◌, ◌<◌, ℕ, List, [], ◌++◌, IsTrue, codes}
use Rattle.std.specs.Fmt.{decimal}
use Rattle.disk_model.specs.World.{World, Parts, only_text, Runs, IsGiven, IsNameless, PrintsPart, Rose}
use Rattle.script_model.specs.Lines.{Line}
use Rattle.qback_top.specs.declared.words.Task.{Task}

pub data Ending : Type 0 where
  NoForm : Ending
  -- a named file isn't there
  Missing : (name : List ℕ) → Ending
  -- the file to be made is there
  Exists : (name : List ℕ) → Ending
  -- the file is refused, for this reason
  Refused : (name reason : List ℕ) → Ending
  -- line n of the script is the first without a form
  BadLine : (n : ℕ) → Ending
  -- the file of this task is made
  Made : (task : Task) → Ending
  -- this text says what the file is
  Told : (text : List ℕ) → Ending
  -- what these lines say is carried out on the image, the file of this number
  Ran : (number : ℕ) (lines : List Line) → Ending

abbrev pub status_of : Ending → ℕ
status_of NoForm = 1
status_of (Missing name) = 2
status_of (Exists name) = 8
status_of (Refused name reason) = 2
status_of (BadLine n) = 5
status_of (Made task) = 0
status_of (Told text) = 0
status_of (Ran number lines) = 0

-- the status line; what was done has none
abbrev pub line_of : Ending → List ℕ
line_of NoForm = codes "words\n"
line_of (Missing name) = codes "file " ++ name ++ codes " Missing\n"
line_of (Exists name) = codes "exists " ++ name ++ codes "\n"
line_of (Refused name reason) = codes "file " ++ name ++ codes " " ++ reason ++ codes "\n"
line_of (BadLine n) = codes "line " ++ decimal n ++ codes "\n"
line_of (Made task) = []
line_of (Told text) = []
line_of (Ran number lines) = []

-- ---- what a run may touch

-- calls that read files, and change nothing
abbrev pub looks : Parts
looks = record { files = λ g. ⊥; reads = λ g. Unit {0}; names = λ name. ⊥; text = ⊥; wire = ⊥ }

-- and calls that print
abbrev pub looks_and_says : Parts
looks_and_says = record { files = λ g. ⊥; reads = λ g. Unit {0}; names = λ name. ⊥; text = Unit {0}; wire = ⊥ }

-- and calls that print, or write the file of this number
abbrev pub works_on : ℕ → Parts
works_on f = record { files = λ g. g ≡ f; reads = λ g. Unit {0}; names = λ name. ⊥; text = Unit {0}; wire = ⊥ }

-- calls that print, or read a file whose number was given for this name
abbrev pub tells_of : List ℕ → World → Parts
tells_of name w = record { files = λ g. ⊥; reads = λ g. IsGiven g name w; names = λ other. ⊥; text = Unit {0}; wire = ⊥ }

-- and calls that print, work on a file whose number was given for this name, or read one whose number was given for the other
abbrev pub works_on_names : List ℕ → List ℕ → World → Parts
works_on_names name other w = record { files = λ g. IsGiven g name w; reads = λ g. IsGiven g name w ⊎ IsGiven g other w; names = λ new. ⊥; text = Unit {0}; wire = ⊥ }

-- calls that make a file of this name and number, write it, or print
abbrev pub creates : List ℕ → ℕ → Parts
creates name f = record { files = λ g. g ≡ f; reads = λ g. ⊥; names = λ other. other ≡ name; text = Unit {0}; wire = ⊥ }

-- nothing was touched but the text, or besides it a file of this name that was made, perhaps in part, and was that of no other name before
abbrev pub MakesAlone : List ℕ → World → World → Type 0
MakesAlone name old new = Runs only_text old new ⊎ ((f : ℕ) × (IsTrue old.tells → IsNameless old f) × Runs (creates name f) old new × (f < old.given → old.named f ≡ name))

-- ---- what is printed

-- a line was printed: all of it unless a print failed, and then a part from its start on
pub record Says (line : List ℕ) (old new : World) : Type 0 where
  pub run : Runs only_text old new
  pub part : PrintsPart line old new
  pub whole : (IsTrue old.prints → new.printed ≡ old.printed ++ line) ⊎ Rose old.faults.prints new.faults.prints

-- nothing changed but read counts, and then this line was printed
pub record LooksAndSays (line : List ℕ) (old new : World) : Type 0 where
  pub before : World
  pub looked : Runs looks old before
  pub said : Says line before new

-- nothing changed but read counts, and this text was printed
pub record LooksAndTells (text : List ℕ) (old new : World) : Type 0 where
  pub run : Runs looks_and_says old new
  pub printed : IsTrue old.prints → new.printed ≡ old.printed ++ text
