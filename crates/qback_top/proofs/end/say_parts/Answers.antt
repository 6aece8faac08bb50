use Rattle.std.proofs.Common.{◌++◌, List, ℕ, IsTrue, sym, ap, subst, ◌∙◌, append_assoc}
use Rattle.disk_model.proofs.Laws.{run_on}
use Rattle.qback_top.proofs.Saying.{part_first, part_next}
use Rattle.qback_top.proofs.end.say_parts.Goals as goal

pub returns-in_err-print-clause-part : goal.returns-in_err-print-clause-part
returns-in_err-print-clause-part g c =
    part_first (c.args.front.now ++ c.args.middle.now) c.args.back.now (g.D.Outside.world c.args.depot.now) (g.D.Outside.world c.print.new.self)
    (part_first c.args.front.now c.args.middle.now (g.D.Outside.world c.args.depot.now) (g.D.Outside.world c.print.new.self) c.print.ensures.part)

pub returns-in_err-print-2-clause-part : goal.returns-in_err-print-2-clause-part
returns-in_err-print-2-clause-part g c =
    part_first (c.args.front.now ++ c.args.middle.now) c.args.back.now (g.D.Outside.world c.args.depot.now) (g.D.Outside.world c.print-2.new.self)
    (part_next c.args.front.now c.args.middle.now (g.D.Outside.world c.args.depot.now) (g.D.Outside.world c.print.new.self) (g.D.Outside.world c.print-2.new.self) c.print.ensures.run.goes.prints c.in_ok-print.ensures.printed c.print-2.ensures.part)

pub returns-in_err-print-3-clause-part : goal.returns-in_err-print-3-clause-part
returns-in_err-print-3-clause-part g c =
    let a = g.D.Outside.world c.args.depot.now in
    let b = g.D.Outside.world c.print.new.self in
    let d = g.D.Outside.world c.print-2.new.self in
    part_next (c.args.front.now ++ c.args.middle.now) c.args.back.now a d (g.D.Outside.world c.print-3.new.self) (c.print-2.ensures.run.goes.prints ∙ c.print.ensures.run.goes.prints)
    (λ told. c.in_ok-print-2.ensures.printed (subst IsTrue (sym c.print.ensures.run.goes.prints) told) ∙ ap (λ (t : List ℕ). t ++ c.args.middle.now) (c.in_ok-print.ensures.printed told) ∙ append_assoc a.printed c.args.front.now c.args.middle.now) c.print-3.ensures.part

pub returns-clause-part : goal.returns-clause-part
returns-clause-part g c =
    let a = g.D.Outside.world c.args.depot.now in
    let b = g.D.Outside.world c.print.new.self in
    let d = g.D.Outside.world c.print-2.new.self in
    part_next (c.args.front.now ++ c.args.middle.now) c.args.back.now a d (g.D.Outside.world c.print-3.new.self) (c.print-2.ensures.run.goes.prints ∙ c.print.ensures.run.goes.prints)
    (λ told. c.in_ok-print-2.ensures.printed (subst IsTrue (sym c.print.ensures.run.goes.prints) told) ∙ ap (λ (t : List ℕ). t ++ c.args.middle.now) (c.in_ok-print.ensures.printed told) ∙ append_assoc a.printed c.args.front.now c.args.middle.now) c.print-3.ensures.part

pub returns-in_err-print-2-clause-run : goal.returns-in_err-print-2-clause-run
returns-in_err-print-2-clause-run g c = run_on c.print.ensures.run c.print-2.ensures.run

pub returns-in_err-print-3-clause-run : goal.returns-in_err-print-3-clause-run
returns-in_err-print-3-clause-run g c = run_on (run_on c.print.ensures.run c.print-2.ensures.run) c.print-3.ensures.run

pub returns-clause-run : goal.returns-clause-run
returns-clause-run g c = run_on (run_on c.print.ensures.run c.print-2.ensures.run) c.print-3.ensures.run
