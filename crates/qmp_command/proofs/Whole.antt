-- A whole message: what it asks, whatever its id, and what it is then.
use Rattle.std.proofs.lemmas.Str.{IsUtf8-from_is_utf8, is_utf8-from_IsUtf8}
use Rattle.std.proofs.Common.{◌≡◌, ℕ, List, [], ◌∷◌, Bool, true, false, cond, Option, Some, None, option_map, option_and_then, Result, Ok, Err, refl, sym, ap, bytes_eq, ◌∙◌, rules}
use Rattle.std.specs.Bool.{then_some}
use Rattle.std.specs.Prelude.{codes}
use Rattle.std.specs.Str.{IsUtf8, is_utf8}
use Rattle.serde_json.specs.Data.{Data, null, boolean, number, string, array, object, Members}
use Rattle.serde_json.specs.Read.{read}
use Rattle.serde_json.specs.Written.{compact_text}
use Rattle.core_events.specs.declared.commands.Command.{Command}
use Rattle.monitor_model.specs.Commands as model
use Rattle.monitor_model.specs.Commands.{order_of}
use Rattle.monitor_model.specs.Recorded.{recorded_data, recorded_text, ReadsAlike}
use Rattle.qmp_command.specs.Views.{told_fault, told_at, place_of, refused_at, id_of, Tells, TellsAt, TellsId}
use Rattle.qmp_command.specs.declared.orders.QmpFault.{QmpFault}
use Rattle.qmp_command.specs.declared.orders.QmpFault.TheVariants.{Memory}
use Rattle.qmp_command.specs.declared.orders.Refused.{Refused}
use Rattle.qmp_command.proofs.Commanding.{nowhere}

-- ---- refused, whatever the id

abbrev pub Refuses : Refused → (Option Data → Result model.Order model.RefusedMessage) → Type 0
Refuses e due = (e.fault ≡ Memory → ⊥) → (at : model.At) × (told_at at ≡ e) × ((id : Option Data) → due id ≡ Err (refused_at id at))

due_at : (due : Result Command model.At) (e : Refused) → option_map told_at (place_of due) ≡ Some e → (at : model.At) × (told_at at ≡ e) × (due ≡ Err at)
due_at (Ok command) e is = absurd (cc)
due_at (Err at) e is = (at, cc, refl)

-- by the command
pub command_refuses : (command : Result Command model.At) (e : Refused) (due : Option Data → Result model.Order model.RefusedMessage)
    → TellsAt command e → ((id : Option Data) → due id ≡ model.ordered id command) → Refuses e due
command_refuses command e due told is some =
    let t = due_at command e (told some) in
    (t.0, t.1, λ id. is id ∙ ap (model.ordered id) t.2)

-- by a fault that is named
pub fault_refuses : (fault : model.Fault) (e : Refused) (due : Option Data → Result model.Order model.RefusedMessage)
    → e ≡ nowhere (told_fault fault) → ((id : Option Data) → due id ≡ model.refused_with id fault) → Refuses e due
fault_refuses fault e due is all some = (record { fault = fault; action = None }, sym is, all)

-- by a test
pub test_refuses : (test : Option model.Fault) (e : QmpFault) (due : Option Data → Result model.Order model.RefusedMessage)
    → Tells test e → ((fault : model.Fault) → test ≡ Some fault → (id : Option Data) → due id ≡ model.refused_with id fault) → Refuses (nowhere e) due
test_refuses None e due told all some = let no : None ≡ Some e = told some in absurd (cc)
test_refuses (Some fault) e due told all some =
    let is : told_fault fault ≡ e = cc (told some) in
    (record { fault = fault; action = None }, ap nowhere is, all fault refl)

-- ---- by the name

abbrev by_name : Bool → Option Data → List ℕ → Members → Bool → Result model.Order model.RefusedMessage
by_name named id name ms negotiated =
    cond negotiated (model.ordered id (model.command_of name ms)) (cond named (model.negotiated_as id ms) (model.refused_with id (model.NotNegotiated name)))

abbrev negotiated_by : Option Data → Option model.Fault → Result model.Order model.RefusedMessage
negotiated_by id test = elim test [ None ↦ Ok (model.Negotiate id) | Some fault ↦ model.refused_with id fault ]

pub order_by-negotiated : (n : Bool) (id : Option Data) (name : List ℕ) (ms : Members) → n ≡ true → model.order_by n id name ms ≡ model.ordered id (model.command_of name ms)
order_by-negotiated n id name ms is = ap (λ (b : Bool). model.order_by b id name ms) is

pub capabilities_refused : (n : Bool) (id : Option Data) (name : List ℕ) (ms : Members) (fault : model.Fault) → n ≡ false → bytes_eq name (codes "qmp_capabilities") ≡ true
    → model.object_fault model.capabilities_table ms ≡ Some fault → model.order_by n id name ms ≡ model.refused_with id fault
capabilities_refused n id name ms fault is named test =
    ap (λ (b : Bool). model.order_by b id name ms) is ∙ ap (λ (b : Bool). by_name b id name ms false) named ∙ ap (negotiated_by id) test

pub not_negotiated : (n : Bool) (id : Option Data) (name : List ℕ) (ms : Members) → n ≡ false → bytes_eq name (codes "qmp_capabilities") ≡ false
    → model.order_by n id name ms ≡ model.refused_with id (model.NotNegotiated name)
not_negotiated n id name ms is named = ap (λ (b : Bool). model.order_by b id name ms) is ∙ ap (λ (b : Bool). by_name b id name ms false) named

-- ---- by the message's own members

abbrev by_members : Bool → Option Data → List ℕ → Members → Option model.Fault → Result model.Order model.RefusedMessage
by_members n id name ms test = elim test [
  | Some fault ↦ model.refused_with id fault
  | None ↦ model.order_by n id name (model.members_in (model.get (codes "arguments") ms))
]

abbrev own_test : Option model.Fault → Bool → Option model.Fault
own_test unknown wrong = model.first_of (unknown ∷ then_some wrong (model.WrongType (codes "arguments")) ∷ [])

pub unknown_refused : (n : Bool) (id : Option Data) (name : List ℕ) (ms : Members) (fault : model.Fault) → model.unknown_in model.top_table ms ≡ Some fault
    → model.order_of_members n id name ms ≡ model.refused_with id fault
unknown_refused n id name ms fault is =
    ap (λ (o : Option model.Fault). by_members n id name ms (own_test o (model.is_wrong model.Object (model.get (codes "arguments") ms)))) is

pub arguments_refused : (n : Bool) (id : Option Data) (name : List ℕ) (ms : Members) → model.unknown_in model.top_table ms ≡ None → model.is_wrong model.Object (model.get (codes "arguments") ms) ≡ true
    → model.order_of_members n id name ms ≡ model.refused_with id (model.WrongType (codes "arguments"))
arguments_refused n id name ms known wrong =
    ap (λ (o : Option model.Fault). by_members n id name ms (own_test o (model.is_wrong model.Object (model.get (codes "arguments") ms)))) known
    ∙ ap (λ (b : Bool). by_members n id name ms (own_test None b)) wrong

-- ---- the value of a message

abbrev by_id : Bool → List ℕ → Members → Bool → Result model.Order model.RefusedMessage
by_id n name ms broken = cond broken (model.refused_with None (model.WrongType (codes "id"))) (model.order_of_members n (model.get (codes "id") ms) name ms)

abbrev by_text : Bool → Members → Option (List ℕ) → Result model.Order model.RefusedMessage
by_text n ms text = elim text [
  | None ↦ model.refused_with None model.NoExecute
  | Some name ↦ by_id n name ms (model.id_has_float (model.get (codes "id") ms))
]

-- a message that names a command, with an id in order
pub order_of_data-named : (n : Bool) (d : Data) (name : List ℕ) → let ms = model.members_in (Some d) in model.text_in (model.get (codes "execute") ms) ≡ Some name
    → model.id_has_float (model.get (codes "id") ms) ≡ false → model.order_of_data n d ≡ model.order_of_members n (model.get (codes "id") ms) name ms
order_of_data-named n null name e f = absurd (cc)
order_of_data-named n (boolean b) name e f = absurd (cc)
order_of_data-named n (number x) name e f = absurd (cc)
order_of_data-named n (string s) name e f = absurd (cc)
order_of_data-named n (array ds) name e f = absurd (cc)
order_of_data-named n (object ms) name e f = ap (by_text n ms) e ∙ ap (by_id n name ms) f

-- ---- the id

id_by-command : (id : Option Data) (command : Result Command model.At) → id_of (model.ordered id command) ≡ id
id_by-command id (Ok command) = refl
id_by-command id (Err at) = refl

id_by-test : (id : Option Data) (test : Option model.Fault) → id_of (negotiated_by id test) ≡ id
id_by-test id None = refl
id_by-test id (Some fault) = refl

id_by-name : (named n : Bool) (id : Option Data) (name : List ℕ) (ms : Members) → id_of (by_name named id name ms n) ≡ id
id_by-name named true id name ms = id_by-command id (model.command_of name ms)
id_by-name true false id name ms = id_by-test id (model.object_fault model.capabilities_table ms)
id_by-name false false id name ms = refl

id_by-members : (n : Bool) (id : Option Data) (name : List ℕ) (ms : Members) (test : Option model.Fault) → id_of (by_members n id name ms test) ≡ id
id_by-members n id name ms None = id_by-name (bytes_eq name (codes "qmp_capabilities")) n id name (model.members_in (model.get (codes "arguments") ms))
id_by-members n id name ms (Some fault) = refl

tells_same : (text : Option (List ℕ)) (due : Result model.Order model.RefusedMessage) → text ≡ option_map compact_text (id_of due) → TellsId text due
tells_same None due is = search rules
tells_same (Some t) due is = sym is

-- a message that names a command, with an id in order, has this id whatever it asks
pub tells_id : (n : Bool) (d : Data) (name : List ℕ) (text : Option (List ℕ)) → let ms = model.members_in (Some d) in let id = model.get (codes "id") ms in
    model.text_in (model.get (codes "execute") ms) ≡ Some name → model.id_has_float id ≡ false → text ≡ option_map compact_text id → TellsId text (model.order_of_data n d)
tells_id n d name text e f is =
    let ms = model.members_in (Some d) in
    let own = own_test (model.unknown_in model.top_table ms) (model.is_wrong model.Object (model.get (codes "arguments") ms)) in
    let whole = ap id_of (order_of_data-named n d name e f) ∙ id_by-members n (model.get (codes "id") ms) name ms own in
    tells_same text (model.order_of_data n d) (is ∙ ap (option_map compact_text) (sym whole))

-- ---- the text of a message

abbrev by_reading : Bool → List ℕ → Bool → Result model.Order model.RefusedMessage
by_reading n message is = cond is (model.order_of_reading n (read message)) (model.refused_with None model.BadJson)

pub order_of-read : (n : Bool) (message : List ℕ) (d : Data) → IsUtf8 message → read message ≡ Some d → order_of n message ≡ model.order_of_data n d
unfolding order_of
order_of-read n message d text is = ap (by_reading n message) (is_utf8-from_IsUtf8 message text) ∙ ap (model.order_of_reading n) is

unread : (n : Bool) (message : List ℕ) (b : Bool) → is_utf8 message ≡ b → (IsUtf8 message → read message ≡ None) → by_reading n message b ≡ model.refused_with None model.BadJson
unread n message true is none = ap (model.order_of_reading n) (none (IsUtf8-from_is_utf8 message is))
unread n message false is none = refl

pub order_of-unread : (n : Bool) (message : List ℕ) → (IsUtf8 message → read message ≡ None) → order_of n message ≡ model.refused_with None model.BadJson
unfolding order_of
order_of-unread n message none = unread n message (is_utf8 message) refl none

-- ---- the text under which it is recorded

abbrev recorded_by : List ℕ → Bool → Option (List ℕ)
recorded_by message is = cond is (option_and_then recorded_data (read message)) None

pub recorded_text-read : (message : List ℕ) (d : Data) → IsUtf8 message → read message ≡ Some d → recorded_text message ≡ recorded_data d
recorded_text-read message d text is = ap (recorded_by message) (is_utf8-from_IsUtf8 message text) ∙ ap (option_and_then recorded_data) is

unrecorded : (message : List ℕ) (b : Bool) → is_utf8 message ≡ b → (IsUtf8 message → read message ≡ None) → recorded_by message b ≡ None
unrecorded message true is none = ap (option_and_then recorded_data) (none (IsUtf8-from_is_utf8 message is))
unrecorded message false is none = refl

pub recorded_text-unread : (message : List ℕ) → (IsUtf8 message → read message ≡ None) → recorded_text message ≡ None
recorded_text-unread message none = unrecorded message (is_utf8 message) refl none

pub reads_alike : (text message : List ℕ) (d : Data) → IsUtf8 text → read text ≡ Some d → IsUtf8 message → read message ≡ Some d → ReadsAlike text message
reads_alike text message d utf8 is utf8_too is_too n = order_of-read n text d utf8 is ∙ sym (order_of-read n message d utf8_too is_too)
