-- A fault that a test told, handed on as that of what was begun.
use Rattle.std.proofs.lemmas.Grind.{common_steps}
use Rattle.std.proofs.Common.{◌≡◌, List, ◌∷◌, true, Option, Some, None, is_some, unwrap_or, Result, Err, sym, subst, arith}
use Rattle.serde_json.specs.Data.{Data}
use Rattle.serde_json.specs.Find.{as_object}
use Rattle.monitor_model.specs.Commands as model
use Rattle.qmp_command.specs.Views.{Tells, Gives, Meets}
use Rattle.qmp_command.specs.declared.orders.QmpFault.{QmpFault}

refuses : {A : Type 0} (due : Option model.Fault) (a : A) (e : QmpFault) → Tells due e → Gives (Err e) (model.checked due a)
refuses None a e told = told
refuses (Some fault) a e told = told

pub handed : {A : Type 0} (r : Result A QmpFault) (e : QmpFault) (due : Option model.Fault) (a : A) → r ≡ Err e → Tells due e → Gives r (model.checked due a)
handed r e due a is told = subst (λ s. Gives s (model.checked due a)) (sym is) (refuses due a e told)

pub source_fault-object : (d : Data) → is_some (as_object d) ≡ true → model.source_fault d ≡ model.object_fault model.name_table (model.members_in (Some d))
source_fault-object d is = grind (arith, common_steps)

-- what the first test of a list tells is told by the list
pub first_told : (due : Option model.Fault) (rest : List (Option model.Fault)) (e : QmpFault) → Tells due e → Tells (model.first_of (due ∷ rest)) e
first_told None rest e told = λ some. let no : None ≡ Some e = told some in absurd (cc)
first_told (Some fault) rest e told = told

-- where an action of this name is known, it is what is given
pub met : {A : Type 0} (r : Result A QmpFault) (due : Option (Result A model.Fault)) (other : Result A model.Fault) → Meets (Some r) due → Gives r (unwrap_or due other)
met r None other h = absurd h
met r (Some due) other h = h
