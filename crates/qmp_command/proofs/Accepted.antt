-- A message that is an order holds no number that is no whole one of 64 bits: each of its members has a form that was tested.
use Rattle.std.proofs.lemmas.Grind.{common_steps}
use Rattle.std.proofs.lemmas.Slice.Eq.{bytes_eq-Decides}
use Rattle.std.proofs.Common.{◌≡◌, ℕ, ◌+◌, List, [], ◌∷◌, map, Bool, true, false, cond, not, ◌&&◌, ◌||◌, Option, Some, None, option_and_then, Result, Ok, Err, bytes_eq, true≢false, refl, sym, ap, ap₂, arith}
use Rattle.std.specs.Bool.{then_some}
use Rattle.std.specs.List.{list_any}
use Rattle.std.specs.Prelude.{codes, is_ok, unwrap_or}
use Rattle.std.specs.Str.{is_utf8}
use Rattle.serde_json.specs.Data.{Data, object, Items, no_items, item, Members, no_members, member}
use Rattle.serde_json.specs.Read.{read}
use Rattle.serde_json.specs.Written.{has_float, items_have_float, members_have_float, compact_text}
use Rattle.core_events.specs.declared.commands.Action.{Action}
use Rattle.core_events.specs.declared.commands.Action.TheVariants.{Abort}
use Rattle.core_events.specs.declared.commands.Command.{Command}
use Rattle.core_events.specs.declared.commands.Command.TheVariants.{Transaction}
use Rattle.monitor_model.specs.Commands as model
use Rattle.monitor_model.specs.Commands.{order_of}
use Rattle.monitor_model.specs.Recorded.{recorded_data}
use Rattle.qmp_command.specs.Laws.{AcceptedIsRecorded}
use Rattle.qmp_command.proofs.Ordered.{is_below, in_order, items_in_order, members_in_order, found_in_order, get-below, in_order-get, in_order-read}

-- ---- forms

-- a value of this form may hold objects, whose members the form doesn't tell
abbrev is_deep : model.Form → Bool
is_deep model.Any = true
is_deep model.Text = false
is_deep model.Number = false
is_deep model.Truth = false
is_deep (model.Word words) = false
is_deep model.Object = true
is_deep model.EmptyList = false
is_deep model.TextList = false
is_deep model.SourceList = true
is_deep model.ObjectList = true

texts_whole : (ds : Items) → model.all_items model.is_text ds ≡ true → items_have_float ds ≡ false
texts_whole no_items h = refl
texts_whole (item d ds) h = grind (arith, common_steps, texts_whole ds)

empty_whole : (ds : Items) → model.all_items model.is_none_of_any ds ≡ true → items_have_float ds ≡ false
empty_whole no_items h = refl
empty_whole (item d ds) h = grind (arith, common_steps)

form_whole : (form : model.Form) (d : Data) → is_deep form ≡ false → model.has_form form d ≡ true → has_float d ≡ false
form_whole form d flat h = grind (arith, common_steps, texts_whole, empty_whole)

-- ---- tables

abbrev float_at : Members → model.Member → Bool
float_at ms m = model.id_has_float (model.get m.name ms)

-- a float under a name whose form may hold one
abbrev deep_float : model.Form → Option Data → Bool
deep_float form d = (is_deep form && not (model.is_wrong form d)) && model.id_has_float d

abbrev deep_float_at : Members → model.Member → Bool
deep_float_at ms m = deep_float m.form (model.get m.name ms)

member_whole : (form : model.Form) (d : Option Data) → model.is_wrong form d ≡ false → deep_float form d ≡ false → model.id_has_float d ≡ false
member_whole form d right h = grind (arith, common_steps, form_whole form)

table_whole : (table : List model.Member) (ms : Members) → model.wrong_in table ms ≡ None → list_any (deep_float_at ms) table ≡ false → list_any (float_at ms) table ≡ false
table_whole [] ms right h = refl
table_whole (m ∷ table) ms right h = grind (arith, common_steps, member_whole m.form (model.get m.name ms), table_whole table ms)

name_whole : (table : List model.Member) (ms : Members) (name : List ℕ) → list_any (float_at ms) table ≡ false → model.is_in_table table name ≡ true → model.id_has_float (model.get name ms) ≡ false
name_whole [] ms name h in_it = grind (arith, common_steps)
name_whole (m ∷ table) ms name h in_it = grind (arith, common_steps, (bytes_eq-Decides name m.name).0, name_whole table ms name)

-- a value that is found behind a member is the one that is found past it
later_whole : (name k : List ℕ) (d : Data) (ms : Members) → model.get k ms ≡ None → model.id_has_float (model.get name (member k d ms)) ≡ false → model.id_has_float (model.get name ms) ≡ false
later_whole name k d ms none h = grind (arith, common_steps, (bytes_eq-Decides name k).0)

-- members whose names are all in a table, and each of which is the one that is found by its name
names_whole : (table : List model.Member) (ms : Members) → ((name : List ℕ) → model.is_in_table table name ≡ true → model.id_has_float (model.get name ms) ≡ false)
    → model.unknown_in table ms ≡ None → members_in_order ms ≡ true → members_have_float ms ≡ false
names_whole table no_members each known order = refl
names_whole table (member k d ms) each known order =
    let p : (is_below k ms ≡ true) × (members_in_order ms ≡ true) × (model.is_in_table table k ≡ true) × (model.unknown_in table ms ≡ None) = grind (arith, common_steps) in
    let none = get-below k ms p.0 p.1 in
    let rest = names_whole table ms (λ name in_it. later_whole name k d ms none (each name in_it)) p.3 p.1 in
    grind (arith, common_steps, each k p.2, (bytes_eq-Decides k k).1 refl)

-- an object that passed the tests of its table, and whose lists and objects have no float
tested : (table : List model.Member) (ms : Members) → members_in_order ms ≡ true → model.object_fault table ms ≡ None → list_any (deep_float_at ms) table ≡ false → members_have_float ms ≡ false
tested table ms order passed deep =
    let p : (model.unknown_in table ms ≡ None) × (model.wrong_in table ms ≡ None) = grind (arith, common_steps) in
    names_whole table ms (λ name. name_whole table ms name (table_whole table ms p.1 deep)) p.0 order

object_whole : (d : Option Data) → members_have_float (model.members_in d) ≡ false → deep_float model.Object d ≡ false
object_whole d h = grind (arith, common_steps)

members_order : (name : List ℕ) (ms : Members) → members_in_order ms ≡ true → members_in_order (model.members_in (model.get name ms)) ≡ true
members_order name ms order = grind (arith, common_steps, in_order-get name ms)

-- ---- actions

source_whole : (d : Data) → in_order d ≡ true → model.is_source d ≡ true → model.source_fault d ≡ None → has_float d ≡ false
source_whole (object ms) order is passed = tested model.name_table ms order passed refl
source_whole d order is passed = grind (arith, common_steps)

sources_whole : (ds : Items) → items_in_order ds ≡ true → model.all_items model.is_source ds ≡ true → model.first_of (map model.source_fault (model.list_of ds)) ≡ None → items_have_float ds ≡ false
sources_whole no_items order are passed = refl
sources_whole (item d ds) order are passed = grind (arith, common_steps, source_whole d, sources_whole ds)

source_list_whole : (d : Option Data) → found_in_order d ≡ true → model.first_of (map model.source_fault (model.items_in d)) ≡ None → deep_float model.SourceList d ≡ false
source_list_whole d order passed = grind (arith, common_steps, sources_whole)

merge_whole : (ms : Members) → members_in_order ms ≡ true → model.merge_fault ms ≡ None → members_have_float ms ≡ false
merge_whole ms order passed =
    let sources = model.get (codes "bitmaps") ms in
    let p : (model.object_fault model.merge_table ms ≡ None) × (model.first_of (map model.source_fault (model.items_in sources)) ≡ None) = grind (arith, common_steps) in
    tested model.merge_table ms order p.0 (ap (λ (b : Bool). b || false) (source_list_whole sources (in_order-get (codes "bitmaps") ms order) p.1))

-- what a test chooses is good, so one of both is
chosen : {A P : Type 0} (good : A → Bool) (b : Bool) (x y : A) → good (cond b x y) ≡ true → (good x ≡ true → P) → (good y ≡ true → P) → P
chosen good true x y e f g = f e
chosen good false x y e f g = g e

no_fault : {A : Type 0} (fault : Option model.Fault) (a : A) → is_ok (model.checked fault a) ≡ true → fault ≡ None
no_fault fault a e = grind (arith, common_steps)

-- there is a result, and it is no fault
abbrev is_given : {A E : Type 0} → Option (Result A E) → Bool
is_given None = false
is_given (Some r) = is_ok r

action_whole : (kind : List ℕ) (ms : Members) → members_in_order ms ≡ true → is_given (model.action_of kind ms) ≡ true → members_have_float ms ≡ false
action_whole kind ms order e =
    let by = λ (table : List model.Member) (plain : list_any (deep_float_at ms) table ≡ false) (a : Action) (e : is_ok (model.checked (model.object_fault table ms) a) ≡ true). tested table ms order (no_fault _ a e) plain in
    let named = by model.name_table refl in
    chosen is_given (bytes_eq kind (codes "block-dirty-bitmap-add")) _ _ e (by model.add_table refl _) (λ e.
    chosen is_given (bytes_eq kind (codes "block-dirty-bitmap-remove")) _ _ e (named _) (λ e.
    chosen is_given (bytes_eq kind (codes "block-dirty-bitmap-clear")) _ _ e (named _) (λ e.
    chosen is_given (bytes_eq kind (codes "block-dirty-bitmap-enable")) _ _ e (named _) (λ e.
    chosen is_given (bytes_eq kind (codes "block-dirty-bitmap-disable")) _ _ e (named _) (λ e.
    chosen is_given (bytes_eq kind (codes "block-dirty-bitmap-merge")) _ _ e (λ e. merge_whole ms order (no_fault _ (model.merge_of ms) e)) (λ e.
    chosen is_given (bytes_eq kind (codes "blockdev-backup")) _ _ e (by (model.backup_table (model.asks_mode ms)) refl _) (λ e. absurd (true≢false (sym e)))))))))

-- ---- transactions

kind_whole : (kind : List ℕ) (ms : Members) → members_in_order ms ≡ true → is_ok (model.by_kind kind ms) ≡ true → members_have_float ms ≡ false
kind_whole kind ms order e = chosen is_ok (bytes_eq kind (codes "abort")) _ _ e (λ e. tested [] ms order (no_fault _ Abort e) refl) (λ e. action_whole kind ms order (offered _ _ e))
  where
    offered : (found : Option (Result Action model.Fault)) (fault : model.Fault) → is_ok (unwrap_or found (Err fault)) ≡ true → is_given found ≡ true
    offered found fault e = grind (arith, common_steps)

one_whole : (ms : Members) → members_in_order ms ≡ true → is_ok (model.one_action ms) ≡ true → members_have_float ms ≡ false
one_whole ms order e =
    let p = goes_on (model.object_fault model.action_table ms) _ e in
    let inner = kind_whole (model.kind_of ms) _ (members_order (codes "data") ms order) p.1 in
    tested model.action_table ms order p.0 (ap (λ (b : Bool). b || false) (object_whole (model.get (codes "data") ms) inner))
  where
    goes_on : (fault : Option model.Fault) (rest : Result Action model.Fault) → is_ok {T = Action} {E = model.Fault} (elim fault [ Some found ↦ Err found | None ↦ rest ]) ≡ true → (fault ≡ None) × (is_ok rest ≡ true)
    goes_on fault rest e = grind (arith, common_steps)

each_goes_on : (k : ℕ) (first : Result Action model.Fault) (rest : Result (List Action) model.At)
    → is_ok {T = List Action} {E = model.At} (elim first [ Err fault ↦ Err (record { fault = fault; action = Some k }) | Ok a ↦ elim rest [ Ok more ↦ Ok (a ∷ more) | Err at ↦ Err at ] ]) ≡ true
    → (is_ok first ≡ true) × (is_ok rest ≡ true)
each_goes_on k first rest e = grind (arith, common_steps)

actions_whole : (k : ℕ) (ds : Items) → items_in_order ds ≡ true → model.all_items model.is_object ds ≡ true → is_ok (model.actions_from k (model.list_of ds)) ≡ true → items_have_float ds ≡ false
actions_whole k no_items order are e = refl
actions_whole k (item d ds) order are e =
    let ms = model.members_in (Some d) in
    let p : (members_in_order ms ≡ true) × (items_in_order ds ≡ true) × (model.is_object d ≡ true) × (model.all_items model.is_object ds ≡ true) = grind (arith, common_steps) in
    let q = each_goes_on k (model.one_action ms) _ e in
    let first = member_whole model.Object (Some d) (ap not p.2) (object_whole (Some d) (one_whole ms p.0 q.0)) in
    ap₂ (λ (a b : Bool). a || b) first (actions_whole (k + 1) ds p.1 p.3 q.1)

action_list_whole : (d : Option Data) → found_in_order d ≡ true → is_ok (model.actions_from 0 (model.items_in d)) ≡ true → deep_float model.ObjectList d ≡ false
action_list_whole d order e = grind (arith, common_steps, actions_whole)

transacts : (own properties : Option model.Fault) (found : Result (List Action) model.At)
    → is_ok {T = Command} {E = model.At} (elim (model.first_of (own ∷ properties ∷ [])) [ Some fault ↦ Err (record { fault = fault; action = None }) | None ↦ elim found [ Ok actions ↦ Ok (Transaction actions) | Err at ↦ Err at ] ]) ≡ true
    → (own ≡ None) × (properties ≡ None) × (is_ok found ≡ true)
transacts own properties found e = grind (arith, common_steps)

transaction_whole : (ms : Members) → members_in_order ms ≡ true → is_ok (model.transaction_of ms) ≡ true → members_have_float ms ≡ false
transaction_whole ms order e =
    let own = model.get (codes "properties") ms in
    let p = transacts (model.object_fault model.transaction_table ms) (model.object_fault model.properties_table (model.members_in own)) _ e in
    let actions = action_list_whole (model.get (codes "actions") ms) (in_order-get (codes "actions") ms order) p.2 in
    let properties = object_whole own (tested model.properties_table (model.members_in own) (members_order (codes "properties") ms order) p.1 refl) in
    tested model.transaction_table ms order p.0 (ap₂ (λ (a b : Bool). a || (b || false)) actions properties)

-- ---- commands

plain_whole : (name : List ℕ) (ms : Members) → members_in_order ms ≡ true → is_given (model.plain_command name ms) ≡ true → members_have_float ms ≡ false
plain_whole name ms order e =
    let by = λ (table : List model.Member) (plain : list_any (deep_float_at ms) table ≡ false) (c : Command) (e : is_ok (model.nowhere (model.checked (model.object_fault table ms) c)) ≡ true). tested table ms order (somewhere _ c e) plain in
    chosen is_given (bytes_eq name (codes "transaction")) _ _ e (transaction_whole ms order) (λ e.
    chosen is_given (bytes_eq name (codes "job-cancel")) _ _ e (by model.id_table refl _) (λ e.
    chosen is_given (bytes_eq name (codes "query-jobs")) _ _ e (by [] refl _) (λ e.
    chosen is_given (bytes_eq name (codes "query-named-block-nodes")) _ _ e (by model.nodes_table refl _) (λ e.
    chosen is_given (bytes_eq name (codes "block-export-add")) _ _ e (by model.export_table refl _) (λ e.
    chosen is_given (bytes_eq name (codes "quit")) _ _ e (by [] refl _) (λ e. absurd (true≢false (sym e))))))))
  where
    somewhere : (fault : Option model.Fault) (c : Command) → is_ok (model.nowhere (model.checked fault c)) ≡ true → fault ≡ None
    somewhere fault c e = grind (arith, common_steps)

command_whole : (name : List ℕ) (ms : Members) → members_in_order ms ≡ true → is_ok (model.command_of name ms) ≡ true → members_have_float ms ≡ false
command_whole name ms order = by (model.action_of name ms) (model.plain_command name ms) _ _ (action_whole name ms order) (plain_whole name ms order)
  where
    by : (act : Option (Result Action model.Fault)) (plain : Option (Result Command model.At)) (at : model.At) (b : Bool) → (is_given act ≡ true → b ≡ false) → (is_given plain ≡ true → b ≡ false)
        → is_ok {T = Command} {E = model.At} (elim act [ Some r ↦ model.acted r | None ↦ unwrap_or plain (Err at) ]) ≡ true → b ≡ false
    by act plain at b f g e = grind (arith, common_steps)

-- ---- messages

arguments_whole : (n : Bool) (id : Option Data) (name : List ℕ) (ms : Members) → members_in_order ms ≡ true → is_ok (model.order_by n id name ms) ≡ true → members_have_float ms ≡ false
arguments_whole n id name ms order e =
    chosen is_ok n _ _ e (λ e. command_whole name ms order (ordered _ e)) (λ e.
    chosen is_ok (bytes_eq name (codes "qmp_capabilities")) _ _ e (λ e. tested model.capabilities_table ms order (negotiates _ e) refl) (λ e. absurd (true≢false (sym e))))
  where
    ordered : (command : Result Command model.At) → is_ok (model.ordered id command) ≡ true → is_ok command ≡ true
    ordered command e = grind (arith, common_steps)

    negotiates : (fault : Option model.Fault) → is_ok {T = model.Order} {E = model.RefusedMessage} (elim fault [ None ↦ Ok (model.Negotiate id) | Some found ↦ model.refused_with id found ]) ≡ true → fault ≡ None
    negotiates fault e = grind (arith, common_steps)

asks : (id : Option Data) (unknown : Option model.Fault) (wrong : Bool) (fault : model.Fault) (rest : Result model.Order model.RefusedMessage)
    → is_ok {T = model.Order} {E = model.RefusedMessage} (elim (model.first_of (unknown ∷ then_some wrong fault ∷ [])) [ Some found ↦ model.refused_with id found | None ↦ rest ]) ≡ true
    → (unknown ≡ None) × (wrong ≡ false) × (is_ok rest ≡ true)
asks id unknown wrong fault rest e = grind (arith, common_steps)

names : (d : Option Data) (bad : Bool) (fault : model.Fault) (rest : List ℕ → Result model.Order model.RefusedMessage)
    → is_ok {T = model.Order} {E = model.RefusedMessage} (elim (model.text_in d) [ None ↦ model.refused_with None model.NoExecute | Some name ↦ cond bad (model.refused_with None fault) (rest name) ]) ≡ true
    → (model.id_has_float d ≡ false) × (bad ≡ false) × (is_ok (rest (unwrap_or (model.text_in d) [])) ≡ true)
names d bad fault rest e = grind (arith, common_steps)

message_whole : (n : Bool) (ms : Members) → members_in_order ms ≡ true → is_ok (model.order_of_object n ms) ≡ true → members_have_float ms ≡ false
message_whole n ms order e =
    let id = model.get (codes "id") ms in
    let arguments = model.get (codes "arguments") ms in
    let p = names (model.get (codes "execute") ms) (model.id_has_float id) _ (λ name. model.order_of_members n id name ms) e in
    let q = asks id (model.unknown_in model.top_table ms) (model.is_wrong model.Object arguments) _ _ p.2 in
    let inner = arguments_whole n id (model.text_of (codes "execute") ms) (model.members_in arguments) (members_order (codes "arguments") ms order) q.2 in
    let given = member_whole model.Object arguments q.1 (object_whole arguments inner) in
    let all : list_any (float_at ms) model.top_table ≡ false = rw (given, p.0, p.1) refl in
    names_whole model.top_table ms (λ name. name_whole model.top_table ms name all) q.0 order

data_whole : (n : Bool) (d : Data) → in_order d ≡ true → is_ok (model.order_of_data n d) ≡ true → has_float d ≡ false
data_whole n (object ms) order e = message_whole n ms order e
data_whole n d order e = absurd (cc)

recorded_by : (n is : Bool) (found : Option Data) → ((d : Data) → found ≡ Some d → in_order d ≡ true) → is_ok (cond is (model.order_of_reading n found) (model.refused_with None model.BadJson)) ≡ true
    → (text : List ℕ) × (cond is (option_and_then recorded_data found) None ≡ Some text)
recorded_by n true (Some d) order e = (compact_text d, ap (λ (b : Bool). cond b None (Some (compact_text d))) (data_whole n d (order d refl) e))
recorded_by n true None order e = absurd (cc)
recorded_by n false found order e = absurd (cc)

pub accepted : AcceptedIsRecorded
unfolding order_of
accepted n message e = recorded_by n (is_utf8 message) (read message) (in_order-read message) e
