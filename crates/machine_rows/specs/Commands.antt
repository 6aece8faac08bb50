-- Commands of a monitor as lines of a script, by their JSON texts, and what is printed for them.
use Prim.Native.String.{String}
use Rattle.std.specs.Prelude.{◌≡◌, List, [], ◌∷◌, ◌++◌, ℕ, codes}
use Rattle.script_model.specs.Lines.{Line}
use Rattle.machine_rows.specs.Play.{fresh, blank, qmp, output}

-- ---- commands

-- a command or an action: its name, and its arguments as they stand in braces
pub record Told : Type 0 where
  pub name : List ℕ
  pub arguments : List ℕ

-- a name in quotes
abbrev pub quoted : String → List ℕ
quoted name = codes "\"" ++ codes name ++ codes "\""

abbrev pub told : String → List ℕ → Told
told name arguments = record { name = codes name; arguments = arguments }

-- the command alone
abbrev pub alone : Told → Line
alone t = qmp (codes "{\"execute\":\"" ++ t.name ++ codes "\",\"arguments\":{" ++ t.arguments ++ codes "}}")

abbrev pub action_text : Told → List ℕ
action_text t = codes "{\"type\":\"" ++ t.name ++ codes "\",\"data\":{" ++ t.arguments ++ codes "}}"

abbrev pub action_texts : List Told → List ℕ
action_texts [] = []
action_texts (t ∷ []) = action_text t
action_texts (t ∷ u ∷ more) = action_text t ++ codes "," ++ action_texts (u ∷ more)

-- a transaction of these
abbrev pub together : List Told → Line
together actions = qmp (codes "{\"execute\":\"transaction\",\"arguments\":{\"actions\":[" ++ action_texts actions ++ codes "]}}")

-- a bitmap of the drive is added; `rest` are further arguments, each after a comma
abbrev pub adding : String → String → Told
adding name rest = told "block-dirty-bitmap-add" (codes "\"node\":\"drive0\",\"name\":" ++ quoted name ++ codes rest)

-- the bitmap that most examples have
abbrev pub add_b0 : Told
add_b0 = adding "b0" ",\"granularity\":4096,\"persistent\":true"

abbrev pub on_bitmap : List ℕ
on_bitmap = codes "\"node\":\"drive0\",\"name\":"

abbrev pub removing : String → Told
removing name = told "block-dirty-bitmap-remove" (on_bitmap ++ quoted name)

abbrev pub clearing : String → Told
clearing name = told "block-dirty-bitmap-clear" (on_bitmap ++ quoted name)

abbrev pub enabling : String → Told
enabling name = told "block-dirty-bitmap-enable" (on_bitmap ++ quoted name)

abbrev pub disabling : String → Told
disabling name = told "block-dirty-bitmap-disable" (on_bitmap ++ quoted name)

-- the sources as they stand in brackets
abbrev pub merging : String → String → Told
merging target sources = told "block-dirty-bitmap-merge" (codes "\"node\":\"drive0\",\"target\":" ++ quoted target ++ codes ",\"bitmaps\":[" ++ codes sources ++ codes "]")

-- a backup of the drive; `kind` has `sync` and what belongs to it
abbrev pub backup : String → String → String → Told
backup job target kind = told "blockdev-backup" (codes "\"device\":\"drive0\",\"job-id\":" ++ quoted job ++ codes ",\"target\":" ++ quoted target ++ codes "," ++ codes kind)

abbrev pub full : String → String → Told
full job target = backup job target "\"sync\":\"full\""

-- of the bitmap that most examples have
abbrev pub incremental : String → String → Told
incremental job target = backup job target "\"sync\":\"incremental\",\"bitmap\":\"b0\""

abbrev pub fleece : String → String → Told
fleece job target = backup job target "\"sync\":\"none\""

abbrev pub aborting : Told
aborting = told "abort" []

abbrev pub cancel : String → Line
cancel job = alone (told "job-cancel" (codes "\"id\":" ++ quoted job))

abbrev pub query_jobs : Line
query_jobs = qmp (codes "{\"execute\":\"query-jobs\"}")

abbrev pub query_nodes : Line
query_nodes = qmp (codes "{\"execute\":\"query-named-block-nodes\"}")

abbrev pub quit_command : Line
quit_command = qmp (codes "{\"execute\":\"quit\"}")

-- an export of these; `rest` are further arguments, each after a comma
abbrev pub exporting : String → String → String → Line
exporting id node rest = alone (told "block-export-add" (codes "\"type\":\"nbd\",\"id\":" ++ quoted id ++ codes ",\"node-name\":" ++ quoted node ++ codes rest))

-- ---- what is printed

-- lines, each ended by a line feed
abbrev pub printed : List (List ℕ) → List ℕ
printed [] = []
printed (line ∷ more) = line ++ 10 ∷ printed more

abbrev pub returned : List ℕ
returned = codes "{\"return\":{}}"

-- a refusal by its name and its value
abbrev pub refused : String → List ℕ
refused desc = codes "{\"error\":{\"class\":\"GenericError\",\"desc\":" ++ quoted desc ++ codes "}}"

-- an event of a job: the numbers are `len`, `offset` and the moment in microseconds
abbrev pub event : String → String → List ℕ → String → String → String → List ℕ
event name job error len offset moment =
    codes "{\"data\":{\"device\":" ++ quoted job ++ error ++ codes ",\"len\":" ++ codes len ++ codes ",\"offset\":" ++ codes offset
    ++ codes ",\"speed\":0,\"type\":\"backup\"},\"event\":" ++ quoted name ++ codes ",\"timestamp\":{\"microseconds\":" ++ codes moment ++ codes ",\"seconds\":0}}"

abbrev pub completed : String → String → String → String → List ℕ
completed job len offset moment = event "BLOCK_JOB_COMPLETED" job [] len offset moment

abbrev pub stopped : String → String → String → String → String → List ℕ
stopped job error len offset moment = event "BLOCK_JOB_COMPLETED" job (codes ",\"error\":" ++ quoted error) len offset moment

abbrev pub cancelled : String → String → String → String → List ℕ
cancelled job len offset moment = event "BLOCK_JOB_CANCELLED" job [] len offset moment

-- a bitmap in the list of nodes: `busy`, then `count` and `granularity`, then `inconsistent`, and so on
abbrev pub bitmap : String → String → String → String → String → String → String → String → List ℕ
bitmap busy count granularity inconsistent name persistent recording span =
    codes "{\"busy\":" ++ codes busy ++ codes ",\"count\":" ++ codes count ++ codes ",\"granularity\":" ++ codes granularity
    ++ codes ",\"inconsistent\":" ++ codes inconsistent ++ codes ",\"name\":" ++ quoted name ++ codes ",\"persistent\":" ++ codes persistent
    ++ codes ",\"recording\":" ++ codes recording ++ codes ",\"x-span\":" ++ quoted span ++ codes "}"

-- one that is persistent, records, and has granules of 4,096 bytes
abbrev pub b0 : String → String → String → List ℕ
b0 busy count span = bitmap busy count "4096" "false" "b0" "true" "true" span

abbrev pub listed : List (List ℕ) → List ℕ
listed [] = []
listed (item ∷ []) = item
listed (item ∷ other ∷ more) = item ++ codes "," ++ listed (other ∷ more)

-- the drive in the list of nodes; `rest` are further members, each after a comma
abbrev pub drive_node : String → List (List ℕ) → String → List ℕ
drive_node size bitmaps rest =
    codes "{\"dirty-bitmaps\":[" ++ listed bitmaps ++ codes "],\"image\":{\"virtual-size\":" ++ codes size ++ codes "},\"node-name\":\"drive0\"" ++ codes rest ++ codes "}"

-- the reply with a list of these
abbrev pub returned_list : List (List ℕ) → List ℕ
returned_list items = codes "{\"return\":[" ++ listed items ++ codes "]}"

-- the reply with the list of nodes where the drive has 16,384 bytes, is whole, and is the only one
abbrev pub nodes : List (List ℕ) → List ℕ
nodes bitmaps = returned_list (drive_node "16384" bitmaps "" ∷ [])

-- on a fresh disk of four clusters the lines print these
abbrev pub Prints : List Line → List (List ℕ) → Type 0
Prints lines expected = output (blank 16384 4096) lines (fresh 16384 4096) ≡ printed expected
