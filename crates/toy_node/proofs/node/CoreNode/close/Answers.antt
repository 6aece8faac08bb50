use Rattle.std.proofs.Common.{refl, ap, ◌∙◌, arith}
use Rattle.core_node.specs.Rest.{State}
use Rattle.toy_core.proofs.Holding.{named_on}
use Rattle.toy_core.proofs.Laws.{safe}
use Rattle.toy_core.proofs.Closing.{closes_still, closes_synced, closed_synced}
use Rattle.toy_node.proofs.node.CoreNode.close.Goals as goal

pub returns-in-Some-clause-closes : goal.returns-in-Some-clause-closes
returns-in-Some-clause-closes g c = λ s told keeps.
    let w = g.D.Outside.world c.args.depot.now in
    closes_still c.args.self.toy w w s keeps refl keeps.holds.named refl refl (λ k low high. absurd (omega (arith, low, high)))

pub returns-in-Some-clause-refused : goal.returns-in-Some-clause-refused
returns-in-Some-clause-refused g c = λ s told keeps.
    (ap (λ (s : State). s.machine.broken) keeps.is ∙ c.in-Some.is, safe c.args.self.toy (g.D.Outside.world c.args.depot.now) s keeps)

pub returns-in-Ok-clause-closes : goal.returns-in-Ok-clause-closes
returns-in-Ok-clause-closes g c = λ s told keeps.
    closes_synced c.args.self.toy (g.D.Outside.world c.args.depot.now) (g.D.Outside.world c.sync.new.self) (g.met.D.Depot.sound c.args.depot.now) c.sync.ensures.call c.in-Ok.ensures.done s keeps

pub returns-in-Ok-clause-closed : goal.returns-in-Ok-clause-closed
returns-in-Ok-clause-closed g c = λ s told keeps.
    closed_synced c.args.self.toy (g.D.Outside.world c.args.depot.now) (g.D.Outside.world c.sync.new.self) (g.met.D.Depot.sound c.args.depot.now) c.sync.ensures.call c.in-Ok.ensures.done _ c.clear.ensures.items c.in_default.is s keeps

pub returns-clause-closes : goal.returns-clause-closes
returns-clause-closes g c = λ s told keeps.
    let call = c.sync.ensures.call in
    closes_still c.args.self.toy (g.D.Outside.world c.args.depot.now) (g.D.Outside.world c.sync.new.self) s keeps call.run.goes.tells (named_on c.args.self.toy.source.file.0 call.run (λ none. none) keeps.holds.named) call.seen c.in-Err.ensures.failed call.steps

pub returns-clause-refused : goal.returns-clause-refused
returns-clause-refused g c = λ s told keeps. ap (λ (s : State). s.machine.broken) keeps.is ∙ c.in_default.is
