-- The words of the program, and the task that they say.
use Rattle.std.specs.Prelude.{IsUtf8, ◌≡◌, ℕ, ◌<◌, ◌≤◌, List, [], ◌∷◌, length, codes, true, Option, Some, None, Ok}
use Rattle.hex.specs.Hex.{decode_sized}
use Rattle.script_model.specs.Words.{IsNumber}
use Rattle.backup_file.specs.Layout.{is_form}
use Rattle.qback_top.specs.declared.words.Task.{Task}
use Rattle.qback_top.specs.declared.words.Task.TheVariants.{CreateSource, CreateTarget, Info, Replay}

-- a file's name has 1 to 4096 bytes
abbrev pub IsName : List ℕ → Type 0
IsName name = (0 < length name) × (length name ≤ 4096)

-- an id has 32 hexadecimal digits
abbrev pub IsId : List ℕ → List ℕ → Type 0
IsId text id = decode_sized text 16 ≡ Ok id

-- a disk's size and cluster bits, as numbers that an image may have
pub record SayForm (size_word bits_word : List ℕ) (size bits : ℕ) : Type 0 where
  pub sizes : IsNumber size_word size
  pub cluster_bits : IsNumber bits_word bits
  pub valid : is_form bits size ≡ true

-- `replay FILE SCRIPT`
pub record IsReplay (words : List (List ℕ)) (file script : List ℕ) : Type 0 where
  pub spelled : words ≡ codes "replay" ∷ file ∷ script ∷ []
  pub file_name : IsName file
  pub script_name : IsName script

-- `info FILE`
pub record IsInfo (words : List (List ℕ)) (file : List ℕ) : Type 0 where
  pub spelled : words ≡ codes "info" ∷ file ∷ []
  pub file_name : IsName file

-- `create-source FILE SIZE CLUSTERBITS ID`
pub record IsCreateSource (words : List (List ℕ)) (file : List ℕ) (size bits : ℕ) (id : List ℕ) : Type 0 where
  pub size_word : List ℕ
  pub bits_word : List ℕ
  pub id_word : List ℕ
  pub spelled : words ≡ codes "create-source" ∷ file ∷ size_word ∷ bits_word ∷ id_word ∷ []
  pub file_name : IsName file
  pub form : SayForm size_word bits_word size bits
  pub decodes : IsId id_word id

-- a backing file's name, where there is one, has 1 to 255 bytes
abbrev pub IsBacking : Option (List ℕ) → Type 0
IsBacking None = Unit {0}
IsBacking (Some name) = (0 < length name) × (length name ≤ 255)

-- the words that say it
abbrev pub backing_words : Option (List ℕ) → List (List ℕ)
backing_words None = []
backing_words (Some name) = name ∷ []

-- `create-target FILE SIZE CLUSTERBITS [BACKING]`
pub record IsCreateTarget (words : List (List ℕ)) (file : List ℕ) (size bits : ℕ) (under : Option (List ℕ)) : Type 0 where
  pub size_word : List ℕ
  pub bits_word : List ℕ
  pub spelled : words ≡ codes "create-target" ∷ file ∷ size_word ∷ bits_word ∷ backing_words under
  pub file_name : IsName file
  pub form : SayForm size_word bits_word size bits
  pub backing : IsBacking under

-- the words say this task
abbrev pub IsTask : List (List ℕ) → Task → Type 0
IsTask words (CreateSource file size bits id) = IsCreateSource words file size bits id
IsTask words (CreateTarget file size bits under) = IsCreateTarget words file size bits under
IsTask words (Info file) = IsInfo words file
IsTask words (Replay file script) = IsReplay words file script

-- they say none
abbrev pub HaveNoForm : List (List ℕ) → Type 0
HaveNoForm words = (task : Task) → IsTask words task → ⊥

-- the names of a task are texts
abbrev pub AreTexts : Task → Type 0
AreTexts (CreateSource file size bits id) = IsUtf8 file
AreTexts (CreateTarget file size bits None) = IsUtf8 file
AreTexts (CreateTarget file size bits (Some name)) = IsUtf8 file × IsUtf8 name
AreTexts (Info file) = IsUtf8 file
AreTexts (Replay file script) = IsUtf8 file × IsUtf8 script

-- a text, where there is one
abbrev pub IsTextIfThere : Option (List ℕ) → Type 0
IsTextIfThere None = Unit {0}
IsTextIfThere (Some name) = IsUtf8 name
