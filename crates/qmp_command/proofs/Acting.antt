-- The actions of a transaction, one after another.
use Rattle.std.proofs.Common.{◌≡◌, ℕ, ◌+◌, List, ◌∷◌, ◌++◌, Some, None, option_map, Result, Ok, Err, refl, ap, ◌∙◌}
use Rattle.serde_json.specs.Data.{Data}
use Rattle.core_events.specs.declared.commands.Action.{Action}
use Rattle.monitor_model.specs.Commands as model
use Rattle.qmp_command.specs.Views.{fault_of, told_at, place_of, Tells, TellsAt}
use Rattle.qmp_command.specs.declared.orders.QmpFault.{QmpFault}
use Rattle.qmp_command.specs.declared.orders.Refused.{Refused}

-- what all actions give, where these stand before the rest
abbrev pub after : List Action → Result (List Action) model.At → Result (List Action) model.At
after done (Ok more) = Ok (done ++ more)
after done (Err at) = Err at

-- what is told from the k-th action on, by what this one gives
abbrev by_one : ℕ → List Data → Result Action model.Fault → Result (List Action) model.At
by_one k ds (Err fault) = Err (record { fault = fault; action = Some k })
by_one k ds (Ok a) = elim (model.actions_from (k + 1) ds) [ Ok more ↦ Ok (a ∷ more) | Err at ↦ Err at ]

abbrev at_action : ℕ → QmpFault → Refused
at_action k fault = record { fault = fault; action = Some k }

refused_by : (due : Result (List Action) model.At) (done : List Action) (k : ℕ) (d : Data) (ds : List Data) (e : QmpFault) (one : Result Action model.Fault)
    → model.one_action (model.members_in (Some d)) ≡ one → due ≡ after done (model.actions_from k (d ∷ ds)) → Tells (fault_of one) e → TellsAt due (record { fault = e; action = Some k })
refused_by due done k d ds e (Ok a) is whole told = λ some. let no : None ≡ Some e = told some in absurd (cc)
refused_by due done k d ds e (Err fault) is whole told = λ some.
    ap (λ (r : Result (List Action) model.At). option_map told_at (place_of r)) (whole ∙ ap (λ (one : Result Action model.Fault). after done (by_one k ds one)) is)
    ∙ ap (option_map (at_action k)) (told some)

pub refused_here : (due : Result (List Action) model.At) (done : List Action) (k : ℕ) (d : Data) (ds : List Data) (e : QmpFault)
    → due ≡ after done (model.actions_from k (d ∷ ds)) → Tells (fault_of (model.one_action (model.members_in (Some d)))) e → TellsAt due (record { fault = e; action = Some k })
refused_here due done k d ds e = refused_by due done k d ds e (model.one_action (model.members_in (Some d))) refl
