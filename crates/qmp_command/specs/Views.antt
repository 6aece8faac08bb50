-- The values of the code as those of the monitor's definitions, and what calls give.
use Rattle.std.specs.Prelude.{◌≡◌, ℕ, List, map, Option, Some, None, option_map, IfSome, Result, Ok, Err, MatchResult, Vec}
use Rattle.std.specs.Borrow.{Bor}
use Rattle.std.specs.declared.alloc.Global.{Global}
use Rattle.serde_json.specs.Data.{Data, Members}
use Rattle.serde_json.specs.View.{view}
use Rattle.serde_json.specs.Written.{compact_text}
use Rattle.serde_json.specs.declared.value.Value.{Value}
use Rattle.core_events.specs.declared.commands.Action.{Action}
use Rattle.core_events.specs.declared.commands.Command.{Command}
use Rattle.monitor_model.specs.Messages as messages
use Rattle.monitor_model.specs.Commands as model
use Rattle.qmp_command.specs.declared.cut.Cut as cut
use Rattle.qmp_command.specs.declared.cut.Cut.TheVariants as cuts
use Rattle.qmp_command.specs.declared.cut.Scan.{Scan}
use Rattle.qmp_command.specs.declared.orders.QmpFault.{QmpFault}
use Rattle.qmp_command.specs.declared.orders.QmpFault.TheVariants as faults
use Rattle.qmp_command.specs.declared.orders.Refused.{Refused}
use Rattle.qmp_command.specs.declared.orders.QmpRefusal.{QmpRefusal}
use Rattle.qmp_command.specs.declared.orders.Order.{Order}
use Rattle.qmp_command.specs.declared.orders.Order.TheVariants.{Negotiate, Run}
use Rattle.qmp_command.specs.declared.tables.Form.{Form}
use Rattle.qmp_command.specs.declared.tables.Form.TheVariants as forms
use Rattle.qmp_command.specs.declared.tables.Member.{Member}

abbrev pub plain_cut : cut.Cut → messages.Cut
plain_cut cuts.More = messages.More
plain_cut (cuts.Message start end) = messages.Message start end
plain_cut cuts.TooLong = messages.TooLong

abbrev pub plain_scan : Scan → messages.Scan
plain_scan s = record { depth = s.depth; in_string = s.in_string; escaped = s.escaped }

-- ---- tables

abbrev pub plain_form : Form → model.Form
plain_form forms.Any = model.Any
plain_form forms.Text = model.Text
plain_form forms.Number = model.Number
plain_form forms.Truth = model.Truth
plain_form (forms.Word words) = model.Word (map (λ w. w.now) words.now)
plain_form forms.Object = model.Object
plain_form forms.EmptyList = model.EmptyList
plain_form forms.TextList = model.TextList
plain_form forms.SourceList = model.SourceList
plain_form forms.ObjectList = model.ObjectList

abbrev pub plain_member : Member → model.Member
plain_member m = record { name = m.name.now; needed = m.needed; form = plain_form m.form }

abbrev pub plain_table : List Member → List model.Member
plain_table ms = map plain_member ms

-- ---- values

-- what a reference that may be lacking leads to
abbrev pub seen : Option (Bor Value) → Option Data
seen value = option_map (λ v. view v.now) value

-- the members of an object; none where there is none
abbrev pub members : Option (Bor Value) → Members
members object = model.members_in (seen object)

-- ---- refusals

abbrev pub told_fault : model.Fault → QmpFault
told_fault model.BadJson = faults.BadJson
told_fault model.NoExecute = faults.NoExecute
told_fault (model.WrongType name) = faults.WrongType name
told_fault (model.UnknownMember name) = faults.UnknownMember name
told_fault (model.NotNegotiated command) = faults.NotNegotiated command
told_fault (model.UnknownCommand command) = faults.UnknownCommand command
told_fault (model.MissingMember name) = faults.MissingMember name
told_fault (model.UnknownAction kind) = faults.UnknownAction kind
told_fault model.TooLong = faults.TooLong

-- a message that is refused, with the text of its id
abbrev pub told_refusal : model.RefusedMessage → QmpRefusal
told_refusal r = record { fault = told_fault r.fault; action = r.action; id = option_map compact_text r.id }

-- an order with the text of its id
abbrev pub told_order : model.Order → Order
told_order (model.Negotiate id) = Negotiate (option_map compact_text id)
told_order (model.Run command id) = Run command (option_map compact_text id)

abbrev pub told : Result model.Order model.RefusedMessage → Result Order QmpRefusal
told (Ok order) = Ok (told_order order)
told (Err refusal) = Err (told_refusal refusal)

-- the id of what a message is found to be
abbrev pub id_of : Result model.Order model.RefusedMessage → Option Data
id_of (Ok (model.Negotiate id)) = id
id_of (Ok (model.Run command id)) = id
id_of (Err refusal) = refusal.id

-- no id is told, or the text of the one that is due
abbrev pub TellsId : Option (List ℕ) → Result model.Order model.RefusedMessage → Type 0
TellsId text due = IfSome text (λ t. option_map compact_text (id_of due) ≡ Some t)

-- ---- what calls give

-- the fault that is told is the one that is due, unless there was no memory
abbrev pub Tells : Option model.Fault → QmpFault → Type 0
Tells due e = (e ≡ faults.Memory → ⊥) → option_map told_fault due ≡ Some e

abbrev pub fault_of : {A : Type 0} → Result A model.Fault → Option model.Fault
fault_of (Ok a) = None
fault_of (Err fault) = Some fault

-- what is due, or its fault, unless there was no memory
abbrev pub Gives : {A : Type 0} → Result A QmpFault → Result A model.Fault → Type 0
Gives r due = MatchResult r (λ a. due ≡ Ok a) (Tells (fault_of due))

-- the same where none may be due
abbrev pub Meets : {A : Type 0} → Option (Result A QmpFault) → Option (Result A model.Fault) → Type 0
Meets None due = due ≡ None
Meets (Some r) None = ⊥
Meets (Some r) (Some due) = Gives r due

abbrev pub told_at : model.At → Refused
told_at at = record { fault = told_fault at.fault; action = at.action }

abbrev pub place_of : {A : Type 0} → Result A model.At → Option model.At
place_of (Ok a) = None
place_of (Err at) = Some at

abbrev pub TellsAt : {A : Type 0} → Result A model.At → Refused → Type 0
TellsAt due e = (e.fault ≡ faults.Memory → ⊥) → option_map told_at (place_of due) ≡ Some e

abbrev pub GivesAt : {A : Type 0} → Result A Refused → Result A model.At → Type 0
GivesAt r due = MatchResult r (λ a. due ≡ Ok a) (TellsAt due)

abbrev pub GivesActions : Result (Vec Action Global) Refused → Result (List Action) model.At → Type 0
GivesActions r due = MatchResult r (λ actions. due ≡ Ok actions.items) (TellsAt due)

abbrev pub MeetsPlain : Option (Result Command QmpFault) → Option (Result Command model.At) → Type 0
MeetsPlain None due = due ≡ None
MeetsPlain (Some r) due = (x : Result Command model.Fault) × (due ≡ Some (model.nowhere x)) × Gives r x

-- the order that a message with this id is, by what was found that it asks: a command, or else the negotiation
abbrev pub order_with : Option Data → Option Command → model.Order
order_with id None = model.Negotiate id
order_with id (Some command) = model.Run command id

abbrev pub refused_at : Option Data → model.At → model.RefusedMessage
refused_at id at = record { fault = at.fault; action = at.action; id = id }

-- what a message asks, whatever its id
abbrev pub GivesAsked : Result (Option Command) Refused → (Option Data → Result model.Order model.RefusedMessage) → Type 0
GivesAsked r due = MatchResult r (λ asked. (id : Option Data) → due id ≡ Ok (order_with id asked))
    (λ e. (e.fault ≡ faults.Memory → ⊥) → (at : model.At) × (told_at at ≡ e) × ((id : Option Data) → due id ≡ Err (refused_at id at)))
