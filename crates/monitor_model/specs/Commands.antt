-- The command that a message is, or why it is refused (QMP, with the commands that are served here).
use Rattle.std.specs.Prelude.{ℕ, ◌+◌, List, [], ◌∷◌, map, Bool, true, false, not, ◌&&◌, ◌||◌, Option, Some, None, is_none, unwrap_or, Result, Ok, Err, if◌then◌else◌, codes, bytes_eq}
use Rattle.std.specs.List.{list_any}
use Rattle.std.specs.Bool.{then_some}
use Rattle.std.specs.Str.{is_utf8}
use Rattle.serde_json.specs.Data.{Num, unsigned, negative, float, Data, null, boolean, number, string, array, object, Items, no_items, item, Members, no_members, member}
use Rattle.serde_json.specs.Read.{read}
use Rattle.serde_json.specs.Written.{has_float}
use Rattle.core_events.specs.declared.commands.SyncKind.{SyncKind}
use Rattle.core_events.specs.declared.commands.SyncKind.TheVariants.{Full, Incremental, Bitmap, Nothing}
use Rattle.core_events.specs.declared.commands.Mode.{Mode}
use Rattle.core_events.specs.declared.commands.Mode.TheVariants.{OnSuccess, Never}
use Rattle.core_events.specs.declared.commands.SourceName.{SourceName}
use Rattle.core_events.specs.declared.commands.Action.{Action}
use Rattle.core_events.specs.declared.commands.Action.TheVariants.{Add, Remove, Clear, Enable, Disable, Merge, Backup, Abort}
use Rattle.core_events.specs.declared.commands.Command.{Command}
use Rattle.core_events.specs.declared.commands.Command.TheVariants.{Act, Transaction, JobCancel, QueryJobs, QueryNodes, ExportAdd, Quit}

-- ---- what a message is found to be

pub data Fault : Type 0 where
  BadJson : Fault
  NoExecute : Fault
  WrongType : (name : List ℕ) → Fault
  UnknownMember : (name : List ℕ) → Fault
  NotNegotiated : (command : List ℕ) → Fault
  UnknownCommand : (command : List ℕ) → Fault
  MissingMember : (name : List ℕ) → Fault
  UnknownAction : (kind : List ℕ) → Fault
  TooLong : Fault

-- why a message is refused: the fault, the number of the action of a transaction that has it, and the message's id where one was read
pub record RefusedMessage : Type 0 where
  pub fault : Fault
  pub action : Option ℕ
  pub id : Option Data

-- a message asks to begin, or it commands something
pub data Order : Type 0 where
  Negotiate : (id : Option Data) → Order
  Run : (command : Command) (id : Option Data) → Order

-- ---- members

abbrev pub get : List ℕ → Members → Option Data
get name no_members = None
get name (member k d ms) = if bytes_eq name k then Some d else get name ms

-- what a member's value may be
pub data Form : Type 0 where
  Any : Form
  Text : Form
  Number : Form
  Truth : Form
  -- one of these words
  Word : (words : List (List ℕ)) → Form
  Object : Form
  -- a list with no items
  EmptyList : Form
  TextList : Form
  -- a list of texts and of objects
  SourceList : Form
  ObjectList : Form

abbrev pub is_text : Data → Bool
is_text null = false
is_text (boolean b) = false
is_text (number n) = false
is_text (string s) = true
is_text (array ds) = false
is_text (object ms) = false

abbrev pub is_object : Data → Bool
is_object null = false
is_object (boolean b) = false
is_object (number n) = false
is_object (string s) = false
is_object (array ds) = false
is_object (object ms) = true

abbrev pub is_truth : Data → Bool
is_truth null = false
is_truth (boolean b) = true
is_truth (number n) = false
is_truth (string s) = false
is_truth (array ds) = false
is_truth (object ms) = false

abbrev pub is_whole : Num → Bool
is_whole (unsigned n) = true
is_whole (negative z) = false
is_whole (float x) = false

abbrev pub is_number : Data → Bool
is_number null = false
is_number (boolean b) = false
is_number (number n) = is_whole n
is_number (string s) = false
is_number (array ds) = false
is_number (object ms) = false

abbrev pub is_one_of : List (List ℕ) → Data → Bool
is_one_of words null = false
is_one_of words (boolean b) = false
is_one_of words (number n) = false
is_one_of words (string s) = list_any (λ word. bytes_eq word s) words
is_one_of words (array ds) = false
is_one_of words (object ms) = false

abbrev pub all_items : (Data → Bool) → Items → Bool
all_items test no_items = true
all_items test (item d ds) = test d && all_items test ds

-- a list, each item of which passes the test
abbrev pub is_list : (Data → Bool) → Data → Bool
is_list test null = false
is_list test (boolean b) = false
is_list test (number n) = false
is_list test (string s) = false
is_list test (array ds) = all_items test ds
is_list test (object ms) = false

abbrev pub is_source : Data → Bool
is_source d = is_text d || is_object d

abbrev pub is_none_of_any : Data → Bool
is_none_of_any d = false

abbrev pub has_form : Form → Data → Bool
has_form Any d = true
has_form Text d = is_text d
has_form Number d = is_number d
has_form Truth d = is_truth d
has_form (Word words) d = is_one_of words d
has_form Object d = is_object d
has_form EmptyList d = is_list is_none_of_any d
has_form TextList d = is_list is_text d
has_form SourceList d = is_list is_source d
has_form ObjectList d = is_list is_object d

-- a member that an object may have
pub record Member : Type 0 where
  pub name : List ℕ
  pub needed : Bool
  pub form : Form

abbrev pub need : List ℕ → Form → Member
need name form = record { name = name; needed = true; form = form }

abbrev pub may : List ℕ → Form → Member
may name form = record { name = name; needed = false; form = form }

-- Tables have their members in byte order of the names, and so has what is read; so the first found of a kind is the least.

abbrev pub is_in_table : List Member → List ℕ → Bool
is_in_table table name = list_any (λ (m : Member). bytes_eq name m.name) table

-- the least member that this table doesn't have
abbrev pub unknown_in : List Member → Members → Option Fault
unknown_in table no_members = None
unknown_in table (member k d ms) = if is_in_table table k then unknown_in table ms else Some (UnknownMember k)

-- the least that is needed and isn't there
abbrev pub missing_in : List Member → Members → Option Fault
missing_in [] ms = None
missing_in (m ∷ table) ms = if m.needed && is_none (get m.name ms) then Some (MissingMember m.name) else missing_in table ms

abbrev pub is_wrong : Form → Option Data → Bool
is_wrong form None = false
is_wrong form (Some d) = not (has_form form d)

-- the least that is there in no form of its own
abbrev pub wrong_in : List Member → Members → Option Fault
wrong_in [] ms = None
wrong_in (m ∷ table) ms = if is_wrong m.form (get m.name ms) then Some (WrongType m.name) else wrong_in table ms

-- what the first test that finds something finds
abbrev pub first_of : {A : Type 0} → List (Option A) → Option A
first_of [] = None
first_of (Some a ∷ tests) = Some a
first_of (None ∷ tests) = first_of tests

-- an object is tested for unknown, then for missing, then for wrong members
abbrev pub object_fault : List Member → Members → Option Fault
object_fault table ms = first_of (unknown_in table ms ∷ missing_in table ms ∷ wrong_in table ms ∷ [])

-- ---- values that were tested

abbrev pub text_in : Option Data → Option (List ℕ)
text_in None = None
text_in (Some null) = None
text_in (Some (boolean b)) = None
text_in (Some (number n)) = None
text_in (Some (string s)) = Some s
text_in (Some (array ds)) = None
text_in (Some (object ms)) = None

abbrev pub truth_in : Option Data → Bool
truth_in None = false
truth_in (Some null) = false
truth_in (Some (boolean b)) = b
truth_in (Some (number n)) = false
truth_in (Some (string s)) = false
truth_in (Some (array ds)) = false
truth_in (Some (object ms)) = false

abbrev pub whole_in : Num → Option ℕ
whole_in (unsigned n) = Some n
whole_in (negative z) = None
whole_in (float x) = None

abbrev pub number_in : Option Data → Option ℕ
number_in None = None
number_in (Some null) = None
number_in (Some (boolean b)) = None
number_in (Some (number n)) = whole_in n
number_in (Some (string s)) = None
number_in (Some (array ds)) = None
number_in (Some (object ms)) = None

abbrev pub list_of : Items → List Data
list_of no_items = []
list_of (item d ds) = d ∷ list_of ds

abbrev pub items_in : Option Data → List Data
items_in None = []
items_in (Some null) = []
items_in (Some (boolean b)) = []
items_in (Some (number n)) = []
items_in (Some (string s)) = []
items_in (Some (array ds)) = list_of ds
items_in (Some (object ms)) = []

abbrev pub members_in : Option Data → Members
members_in None = no_members
members_in (Some null) = no_members
members_in (Some (boolean b)) = no_members
members_in (Some (number n)) = no_members
members_in (Some (string s)) = no_members
members_in (Some (array ds)) = no_members
members_in (Some (object ms)) = ms

-- a text that is there, or else this one
abbrev pub text_or : List ℕ → List ℕ → Members → List ℕ
text_or other name ms = unwrap_or (text_in (get name ms)) other

abbrev pub text_of : List ℕ → Members → List ℕ
text_of name ms = text_or [] name ms

abbrev pub truth_of : List ℕ → Members → Bool
truth_of name ms = truth_in (get name ms)

-- ---- tables of arguments, in byte order

abbrev pub sync_words : List (List ℕ)
sync_words = codes "full" ∷ codes "incremental" ∷ codes "bitmap" ∷ codes "none" ∷ []

abbrev pub mode_words : List (List ℕ)
mode_words = codes "on-success" ∷ codes "never" ∷ []

abbrev pub add_table : List Member
add_table = may (codes "disabled") Truth ∷ may (codes "granularity") Number ∷ need (codes "name") Text ∷ need (codes "node") Text ∷ may (codes "persistent") Truth ∷ []

abbrev pub name_table : List Member
name_table = need (codes "name") Text ∷ need (codes "node") Text ∷ []

abbrev pub merge_table : List Member
merge_table = need (codes "bitmaps") SourceList ∷ need (codes "node") Text ∷ need (codes "target") Text ∷ []

-- `sync` of the word bitmap asks for a mode
abbrev pub backup_table : Bool → List Member
backup_table by_bitmap =
    may (codes "bitmap") Text ∷ (record { name = codes "bitmap-mode"; needed = by_bitmap; form = Word mode_words }) ∷ need (codes "device") Text
    ∷ may (codes "job-id") Text ∷ need (codes "sync") (Word sync_words) ∷ need (codes "target") Text ∷ []

abbrev pub transaction_table : List Member
transaction_table = need (codes "actions") ObjectList ∷ may (codes "properties") Object ∷ []

abbrev pub properties_table : List Member
properties_table = may (codes "completion-mode") (Word (codes "individual" ∷ [])) ∷ []

abbrev pub action_table : List Member
action_table = need (codes "data") Object ∷ need (codes "type") Text ∷ []

abbrev pub id_table : List Member
id_table = need (codes "id") Text ∷ []

abbrev pub nodes_table : List Member
nodes_table = may (codes "flat") Truth ∷ []

abbrev pub export_table : List Member
export_table =
    may (codes "bitmaps") TextList ∷ need (codes "id") Text ∷ may (codes "name") Text ∷ need (codes "node-name") Text
    ∷ need (codes "type") (Word (codes "nbd" ∷ [])) ∷ may (codes "writable") Truth ∷ []

abbrev pub capabilities_table : List Member
capabilities_table = may (codes "enable") EmptyList ∷ []

-- ---- actions

-- a fault, or else what the arguments say
abbrev pub checked : {A : Type 0} → Option Fault → A → Result A Fault
checked None a = Ok a
checked (Some fault) a = Err fault

abbrev pub add_of : Members → Action
add_of ms = Add (text_of (codes "node") ms) (text_of (codes "name") ms) (number_in (get (codes "granularity") ms)) (truth_of (codes "persistent") ms) (not (truth_of (codes "disabled") ms))

-- a source of a merge: its name alone, or in an object beside a node
abbrev pub source_of : Data → SourceName
source_of (string s) = record { node = None; name = s }
source_of (object ms) = record { node = Some (text_of (codes "node") ms); name = text_of (codes "name") ms }
source_of null = record { node = None; name = [] }
source_of (boolean b) = record { node = None; name = [] }
source_of (number n) = record { node = None; name = [] }
source_of (array ds) = record { node = None; name = [] }

abbrev pub source_fault : Data → Option Fault
source_fault (object ms) = object_fault name_table ms
source_fault null = None
source_fault (boolean b) = None
source_fault (number n) = None
source_fault (string s) = None
source_fault (array ds) = None

-- the arguments are tested, and then each object of the list
abbrev pub merge_fault : Members → Option Fault
merge_fault ms = first_of (object_fault merge_table ms ∷ map source_fault (items_in (get (codes "bitmaps") ms)))

abbrev pub merge_of : Members → Action
merge_of ms = Merge (text_of (codes "node") ms) (text_of (codes "target") ms) (map source_of (items_in (get (codes "bitmaps") ms)))

abbrev pub is_word : List ℕ → Option Data → Bool
is_word word d = elim (text_in d) [ None ↦ false | Some s ↦ bytes_eq word s ]

abbrev pub asks_mode : Members → Bool
asks_mode ms = is_word (codes "bitmap") (get (codes "sync") ms)

abbrev pub sync_of : Option Data → SyncKind
sync_of d =
    if is_word (codes "incremental") d then Incremental
    else if is_word (codes "bitmap") d then Bitmap
    else if is_word (codes "none") d then Nothing
    else Full

abbrev pub mode_of : Option Data → Option Mode
mode_of d = if is_word (codes "on-success") d then Some OnSuccess else if is_word (codes "never") d then Some Never else None

abbrev pub backup_of : Members → Action
backup_of ms = Backup (record {
  job = text_or (text_of (codes "device") ms) (codes "job-id") ms;
  device = text_of (codes "device") ms;
  target = text_of (codes "target") ms;
  sync = sync_of (get (codes "sync") ms);
  bitmap = text_in (get (codes "bitmap") ms);
  mode = mode_of (get (codes "bitmap-mode") ms);
})

-- an action of this kind with these arguments; none where there is no such kind
abbrev pub action_of : List ℕ → Members → Option (Result Action Fault)
action_of kind ms =
    if bytes_eq kind (codes "block-dirty-bitmap-add") then Some (checked (object_fault add_table ms) (add_of ms))
    else if bytes_eq kind (codes "block-dirty-bitmap-remove") then Some (checked (object_fault name_table ms) (Remove (text_of (codes "node") ms) (text_of (codes "name") ms)))
    else if bytes_eq kind (codes "block-dirty-bitmap-clear") then Some (checked (object_fault name_table ms) (Clear (text_of (codes "node") ms) (text_of (codes "name") ms)))
    else if bytes_eq kind (codes "block-dirty-bitmap-enable") then Some (checked (object_fault name_table ms) (Enable (text_of (codes "node") ms) (text_of (codes "name") ms)))
    else if bytes_eq kind (codes "block-dirty-bitmap-disable") then Some (checked (object_fault name_table ms) (Disable (text_of (codes "node") ms) (text_of (codes "name") ms)))
    else if bytes_eq kind (codes "block-dirty-bitmap-merge") then Some (checked (merge_fault ms) (merge_of ms))
    else if bytes_eq kind (codes "blockdev-backup") then Some (checked (object_fault (backup_table (asks_mode ms)) ms) (backup_of ms))
    else None

-- ---- transactions

-- a fault, and the action that has it
pub record At : Type 0 where
  pub fault : Fault
  pub action : Option ℕ

abbrev pub nowhere : {A : Type 0} → Result A Fault → Result A At
nowhere (Ok a) = Ok a
nowhere (Err fault) = Err (record { fault = fault; action = None })

abbrev pub kind_of : Members → List ℕ
kind_of ms = text_of (codes "type") ms

-- an action by its kind: those of commands, and `abort`, which has no arguments
abbrev pub by_kind : List ℕ → Members → Result Action Fault
by_kind kind ms =
    if bytes_eq kind (codes "abort") then checked (object_fault [] ms) Abort
    else unwrap_or (action_of kind ms) (Err (UnknownAction kind))

-- the action's own members are tested, then its kind, and then its data
abbrev pub one_action : Members → Result Action Fault
one_action ms = elim (object_fault action_table ms) [
  | Some fault ↦ Err fault
  | None ↦ by_kind (kind_of ms) (members_in (get (codes "data") ms))
]

abbrev pub actions_from : ℕ → List Data → Result (List Action) At
actions_from k [] = Ok []
actions_from k (d ∷ ds) = elim (one_action (members_in (Some d))) [
  | Err fault ↦ Err (record { fault = fault; action = Some k })
  | Ok a ↦ elim (actions_from (k + 1) ds) [ Ok more ↦ Ok (a ∷ more) | Err at ↦ Err at ]
]

-- the arguments are tested, then the properties, and then action by action
abbrev pub transaction_of : Members → Result Command At
transaction_of ms = elim (first_of (object_fault transaction_table ms ∷ object_fault properties_table (members_in (get (codes "properties") ms)) ∷ [])) [
  | Some fault ↦ Err (record { fault = fault; action = None })
  | None ↦ elim (actions_from 0 (items_in (get (codes "actions") ms))) [ Ok actions ↦ Ok (Transaction actions) | Err at ↦ Err at ]
]

-- ---- commands

abbrev pub export_source : Data → SourceName
export_source d = record { node = None; name = unwrap_or (text_in (Some d)) [] }

abbrev pub export_of : Members → Command
export_of ms = ExportAdd (record {
  id = text_of (codes "id") ms;
  node = text_of (codes "node-name") ms;
  name = text_or (text_of (codes "node-name") ms) (codes "name") ms;
  writable = truth_of (codes "writable") ms;
  bitmaps = map export_source (items_in (get (codes "bitmaps") ms));
})

abbrev pub acted : Result Action Fault → Result Command At
acted (Ok a) = Ok (Act a)
acted (Err fault) = Err (record { fault = fault; action = None })

-- a command that is no action; none where there is no such command
abbrev pub plain_command : List ℕ → Members → Option (Result Command At)
plain_command name ms =
    if bytes_eq name (codes "transaction") then Some (transaction_of ms)
    else if bytes_eq name (codes "job-cancel") then Some (nowhere (checked (object_fault id_table ms) (JobCancel (text_of (codes "id") ms))))
    else if bytes_eq name (codes "query-jobs") then Some (nowhere (checked (object_fault [] ms) QueryJobs))
    else if bytes_eq name (codes "query-named-block-nodes") then Some (nowhere (checked (object_fault nodes_table ms) QueryNodes))
    else if bytes_eq name (codes "block-export-add") then Some (nowhere (checked (object_fault export_table ms) (export_of ms)))
    else if bytes_eq name (codes "quit") then Some (nowhere (checked (object_fault [] ms) Quit))
    else None

abbrev pub command_of : List ℕ → Members → Result Command At
command_of name ms = elim (action_of name ms) [
  | Some r ↦ acted r
  | None ↦ unwrap_or (plain_command name ms) (Err (record { fault = UnknownCommand name; action = None }))
]

-- ---- messages

abbrev pub top_table : List Member
top_table = may (codes "arguments") Object ∷ need (codes "execute") Text ∷ may (codes "id") Any ∷ []

abbrev pub id_has_float : Option Data → Bool
id_has_float None = false
id_has_float (Some d) = has_float d

-- an order, or a refusal with the id
abbrev pub ordered : Option Data → Result Command At → Result Order RefusedMessage
ordered id (Ok c) = Ok (Run c id)
ordered id (Err at) = Err (record { fault = at.fault; action = at.action; id = id })

abbrev pub refused_with : Option Data → Fault → Result Order RefusedMessage
refused_with id fault = Err (record { fault = fault; action = None; id = id })

abbrev pub negotiated_as : Option Data → Members → Result Order RefusedMessage
negotiated_as id ms = elim (object_fault capabilities_table ms) [ None ↦ Ok (Negotiate id) | Some fault ↦ refused_with id fault ]

-- before the negotiation no command but `qmp_capabilities` is served, and after it that one isn't
abbrev pub order_by : Bool → Option Data → List ℕ → Members → Result Order RefusedMessage
order_by negotiated id name ms =
    if negotiated then ordered id (command_of name ms)
    else if bytes_eq name (codes "qmp_capabilities") then negotiated_as id ms
    else refused_with id (NotNegotiated name)

-- a whole message of these members that has a command's name and an id in order
abbrev pub order_of_members : Bool → Option Data → List ℕ → Members → Result Order RefusedMessage
order_of_members negotiated id name ms =
    elim (first_of (unknown_in top_table ms ∷ then_some (is_wrong Object (get (codes "arguments") ms)) (WrongType (codes "arguments")) ∷ [])) [
      | Some fault ↦ refused_with id fault
      | None ↦ order_by negotiated id name (members_in (get (codes "arguments") ms))
    ]

-- where a command is named, a number in the id that is no whole one of 64 bits is refused, and then no id is told
abbrev pub order_of_object : Bool → Members → Result Order RefusedMessage
order_of_object negotiated ms = elim (text_in (get (codes "execute") ms)) [
  | None ↦ refused_with None NoExecute
  | Some name ↦
      if id_has_float (get (codes "id") ms) then refused_with None (WrongType (codes "id"))
      else order_of_members negotiated (get (codes "id") ms) name ms
]

abbrev pub order_of_data : Bool → Data → Result Order RefusedMessage
order_of_data negotiated null = refused_with None NoExecute
order_of_data negotiated (boolean b) = refused_with None NoExecute
order_of_data negotiated (number n) = refused_with None NoExecute
order_of_data negotiated (string s) = refused_with None NoExecute
order_of_data negotiated (array ds) = refused_with None NoExecute
order_of_data negotiated (object ms) = order_of_object negotiated ms

abbrev pub order_of_reading : Bool → Option Data → Result Order RefusedMessage
order_of_reading negotiated None = refused_with None BadJson
order_of_reading negotiated (Some d) = order_of_data negotiated d

-- what a message is, before or after the negotiation
unfoldable pub order_of : Bool → List ℕ → Result Order RefusedMessage
order_of negotiated message = if is_utf8 message then order_of_reading negotiated (read message) else refused_with None BadJson
