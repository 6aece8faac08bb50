use Rattle.std.proofs.Common.{subst}
use Rattle.plain_model.specs.Lawful.{IsLawfulState}
use Rattle.core_node.specs.Step.{next_of}
use Rattle.core_node.proofs.laws.seals_are_true.Goals as goal

pub returns : goal.returns
returns g c before after old new event answer s f b base p steps knows told lawful is long sealed same =
    let next = next_of steps.held steps.trouble event answer steps.store (steps.freed s) s in
    let target = ((steps.goes.lawful s f knows).after lawful).seen told in
    (next, steps.goes.keeps_on s knows, subst (IsLawfulState (g.N.Node.shown before).id next.machine.history b) sealed (target.lawful b long is) same)
