use Rattle.std.proofs.Common.{List, sym, subst}
use Rattle.disk_model.specs.World.{Runs}
use Rattle.core_events.specs.Views.{plain_event, plain_reply}
use Rattle.core_events.specs.declared.answers.Notice.{Notice}
use Rattle.core_node.specs.Touches.{works_on}
use Rattle.toy_core.specs.Toy.{shown}
use Rattle.toy_core.proofs.toy.Toy.take_event.Goals as goal

pub returns-clause-run : goal.returns-clause-run
returns-clause-run g c =
    subst (λ (ns : List Notice). Runs (works_on (shown c.args.self.now) (shown c.carry_out.new.self) (g.D.Outside.world c.carry_out.new.depot) (plain_event c.args.event.now) (record { reply = plain_reply c.in_ok-reply.reply c.carry_out.new.bytes.items c.args.answer.now.runs.items.items; notices = ns })) (g.D.Outside.world c.args.depot.now) (g.D.Outside.world c.carry_out.new.depot))
    (sym c.clear.ensures.items) (c.in_ok-reply.ensures.run c.args.answer.now.runs.items.items)
