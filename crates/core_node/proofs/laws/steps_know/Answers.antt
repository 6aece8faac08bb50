use Rattle.core_node.proofs.laws.steps_know.Goals as goal

pub returns : goal.returns
returns g c before after old new event answer s steps knows = (_, steps.goes.keeps_on s knows)
