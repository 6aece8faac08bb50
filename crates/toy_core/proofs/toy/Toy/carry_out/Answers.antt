use Rattle.std.proofs.Common.{refl}
use Rattle.core_node.proofs.Causing.{quiet_causes}
use Rattle.std.proofs.Common.{[], sym, subst}
use Rattle.disk_model.specs.World.{Runs}
use Rattle.core_events.specs.Answers.{Done}
use Rattle.core_events.specs.Views.{plain_event, plain_reply}
use Rattle.core_events.specs.declared.events.Event.{Event}
use Rattle.core_node.specs.Step.{DeniesAs, NodeSteps}
use Rattle.core_node.specs.Touches.{works_on}
use Rattle.plain_model.specs.Machine.{next_number}
use Rattle.toy_core.specs.Toy.{no_targets, shown, Keeps, next}
use Rattle.toy_core.proofs.Cases.{as_moved, tick_steps}
use Rattle.toy_core.proofs.toy.Toy.carry_out.Goals as goal

pub returns-in-Tick-clause-steps : goal.returns-in-Tick-clause-steps
returns-in-Tick-clause-steps g c = λ runs told.
    let t = c.args.self.now in
    let w = g.D.Outside.world c.args.depot.now in
    as_moved {t = t} {old = w} {new = w} {event = plain_event c.args.event.now} {answer = record { reply = Done; notices = [] }} c.saturating_add-self.result (next_number t.event) t.broken c.saturating_add-self.ensures (subst (λ (e : Event). NodeSteps no_targets (shown t) (Keeps t w) (Keeps (next t) w) w w (plain_event e) (record { reply = Done; notices = [] })) (sym c.in-Tick.is) (tick_steps t w told))

pub returns-in-Guest-clause-denied : goal.returns-in-Guest-clause-denied
returns-in-Guest-clause-denied g c = λ runs.
    subst (λ (e : Event). DeniesAs (shown c.args.self.now) (plain_event e) (record { reply = plain_reply c.serve.result c.serve.new.bytes.items runs; notices = [] })) (sym c.in-Guest.is) (c.serve.ensures.denied runs)

pub returns-in-Guest-clause-run : goal.returns-in-Guest-clause-run
returns-in-Guest-clause-run g c = λ runs.
    subst (λ (e : Event). Runs (works_on (shown c.args.self.now) (shown c.serve.new.self) (g.D.Outside.world c.serve.new.depot) (plain_event e) (record { reply = plain_reply c.serve.result c.serve.new.bytes.items runs; notices = [] })) (g.D.Outside.world c.args.depot.now) (g.D.Outside.world c.serve.new.depot))
    (sym c.in-Guest.is) (c.serve.ensures.run runs)

pub returns-in-Tick-clause-causes : goal.returns-in-Tick-clause-causes
returns-in-Tick-clause-causes g c = λ runs. quiet_causes refl (λ whole. refl) (λ refused. refused) c.saturating_add-self.ensures
