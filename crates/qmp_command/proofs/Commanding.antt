-- A command by its name: an action, or another one.
use Rattle.std.proofs.Common.{◌≡◌, Option, Some, None, option_map, unwrap_or, Result, Ok, Err, ap, ◌∙◌, subst}
use Rattle.core_events.specs.declared.commands.Action.{Action}
use Rattle.core_events.specs.declared.commands.Command.{Command}
use Rattle.core_events.specs.declared.commands.Command.TheVariants.{Act}
use Rattle.monitor_model.specs.Commands as model
use Rattle.qmp_command.specs.Views.{fault_of, told_fault, told_at, place_of, Gives, Meets, MeetsPlain, TellsAt}
use Rattle.qmp_command.specs.declared.orders.QmpFault.{QmpFault}
use Rattle.qmp_command.specs.declared.orders.Refused.{Refused}

-- the action where there is one of this name, and else the other command
abbrev pub by_either : Option (Result Action model.Fault) → Result Command model.At → Result Command model.At
by_either action other = elim action [ Some given ↦ model.acted given | None ↦ other ]

abbrev pub nowhere : QmpFault → Refused
nowhere fault = record { fault = fault; action = None }

pub acted_ok : (r : Result Action QmpFault) (due : Option (Result Action model.Fault)) (other : Result Command model.At) (a : Action) → Meets (Some r) due → r ≡ Ok a → by_either due other ≡ Ok (Act a)
acted_ok r None other a met is = absurd met
acted_ok r (Some due) other a met is = ap model.acted (subst (λ (s : Result Action QmpFault). Gives s due) is met)

acted_told : (due : Result Action model.Fault) (e : QmpFault) → option_map told_fault (fault_of due) ≡ Some e → option_map told_at (place_of (model.acted due)) ≡ Some (nowhere e)
acted_told (Ok a) e is = absurd (cc)
acted_told (Err fault) e is = ap (option_map nowhere) is

pub acted_err : (r : Result Action QmpFault) (due : Option (Result Action model.Fault)) (other : Result Command model.At) (e : QmpFault) → Meets (Some r) due → r ≡ Err e → TellsAt (by_either due other) (nowhere e)
acted_err r None other e met is = absurd met
acted_err r (Some due) other e met is = λ some. acted_told due e (subst (λ (s : Result Action QmpFault). Gives s due) is met some)

nowhere_told : (due : Result Command model.Fault) (e : QmpFault) → option_map told_fault (fault_of due) ≡ Some e → option_map told_at (place_of (model.nowhere due)) ≡ Some (nowhere e)
nowhere_told (Ok a) e is = absurd (cc)
nowhere_told (Err fault) e is = ap (option_map nowhere) is

pub other_err : (r : Result Command QmpFault) (action : Option (Result Action model.Fault)) (due : Option (Result Command model.At)) (last : Result Command model.At) (e : QmpFault)
    → action ≡ None → MeetsPlain (Some r) due → r ≡ Err e → TellsAt (by_either action (unwrap_or due last)) (nowhere e)
other_err r action due last e none met is =
    let given : Gives (Err e) met.0 = subst (λ (s : Result Command QmpFault). Gives s met.0) is met.2 in
    let whole = ap (λ (o : Option (Result Action model.Fault)). by_either o (unwrap_or due last)) none ∙ ap (λ (o : Option (Result Command model.At)). unwrap_or o last) met.1 in
    λ some. ap (λ (r : Result Command model.At). option_map told_at (place_of r)) whole ∙ nowhere_told met.0 e (given some)
