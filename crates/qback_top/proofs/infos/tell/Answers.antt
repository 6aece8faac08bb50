use Rattle.std.proofs.Common.{◌≡◌, ℕ, List, ◌++◌, IsTrue, option_map, sym, ap, subst, ◌∙◌, rules}
use Rattle.disk_model.specs.declared.depot.FileNo.{FileNo}
use Rattle.disk_model.specs.World.{Runs, PrintsPart}
use Rattle.qback_top.specs.declared.description.Description.{Description}
use Rattle.qback_top.specs.Descriptions.{Describes}
use Rattle.qback_top.specs.Infos.{InfoDue}
use Rattle.qback_top.specs.Endings.{Told, tells_of}
use Rattle.qback_top.specs.Stops.{Needs}
use Rattle.qback_top.specs.Words.{IsInfo}
use Rattle.qback_top.proofs.Informing.{DueBy, described, look_both, looked_tells, tells_then_text, tells_all, tells_part, info_err, told_err}
use Rattle.qback_top.proofs.infos.tell.Given.{Over}
use Rattle.qback_top.proofs.infos.tell.Goals.{After-describe}
use Rattle.qback_top.proofs.infos.tell.Goals as goal

-- what is due by the description
due : (g : Over) (c : After-describe g) (d : Description) → Describes c.deref.result.now d → IsTrue (g.D.Outside.world c.args.depot.now).tells → (words : List (List ℕ)) → IsInfo words c.args.file.now
    → DueBy words (g.D.Outside.world c.args.depot.now) c.args.file.now d
due g c d is =
    described c.args.file.now c.in-Some.number.0 c.in_ok-start.start.items c.deref.result.now d c.find.ensures.run
    (λ told. sym (c.in_ok-number.ensures.found told) ∙ ap (option_map (λ (f : FileNo). f.0)) c.in-Some.is)
    c.in_ok-start.ensures.bytes c.deref.ensures.value is

pub returns-in_err-start-clause-stops : goal.returns-in_err-start-clause-stops
returns-in_err-start-clause-stops g c = info_err c.from_residual-in_err-start.result (g.D.Outside.world c.args.depot.now) (g.D.Outside.world c.read_start.new.depot) c.args.file.now (look_both c.find.ensures.run c.read_start.ensures.run)

pub returns-in_err-reason-clause-stops : goal.returns-in_err-reason-clause-stops
returns-in_err-reason-clause-stops g c = info_err c.from_residual-in_err-reason.result (g.D.Outside.world c.args.depot.now) (g.D.Outside.world c.read_start.new.depot) c.args.file.now (look_both c.find.ensures.run c.read_start.ensures.run)

pub returns-in_err-reason-clause-cause : goal.returns-in_err-reason-clause-cause
returns-in_err-reason-clause-cause g c =
    let old = g.D.Outside.world c.args.depot.now in
    let new = g.D.Outside.world c.read_start.new.depot in
    let cause : Needs old new c.in_err-reason.field-0.0 = c.in_err-reason.ensures.cause old new in
    search rules

pub returns-in-Refused-clause-shows : goal.returns-in-Refused-clause-shows
returns-in-Refused-clause-shows g c = λ told words form.
    let is : DueBy words (g.D.Outside.world c.args.depot.now) c.args.file.now c.in_ok-reason.field-0 = due g (goal.at.returns-in-Refused-clause-shows g c).After-describe c.in_ok-reason.field-0 c.in_ok-reason.ensures.described told words form in
    (subst (DueBy words (g.D.Outside.world c.args.depot.now) c.args.file.now) c.in-Refused.is is, look_both c.find.ensures.run c.read_start.ensures.run)

pub returns-in_err-print-in-Text-clause-stops : goal.returns-in_err-print-in-Text-clause-stops
returns-in_err-print-in-Text-clause-stops g c =
    let a = g.D.Outside.world c.args.depot.now in
    let mid = g.D.Outside.world c.read_start.new.depot in
    let e = g.D.Outside.world c.print.new.self in
    told_err c.from_residual-in_err-print-in-Text.result a e c.args.file.now (λ told words form.
    let is : DueBy words a c.args.file.now c.in_ok-reason.field-0 = due g (goal.at.returns-in_err-print-in-Text-clause-stops g c).After-describe c.in_ok-reason.field-0 c.in_ok-reason.ensures.described told words form in
    let text : InfoDue words a (Told c.in-Text.text.items) = subst (DueBy words a c.args.file.now) c.in-Text.is is in
    tells_part words c.in-Text.text.items text (look_both c.find.ensures.run c.read_start.ensures.run) c.print.ensures.run
    (subst (λ (l : List ℕ). PrintsPart l mid e) c.deref-in-Text.ensures.value c.print.ensures.part))

pub returns-clause-shows : goal.returns-clause-shows
returns-clause-shows g c = λ told words form.
    let a = g.D.Outside.world c.args.depot.now in
    let mid = g.D.Outside.world c.read_start.new.depot in
    let e = g.D.Outside.world c.print.new.self in
    let is : DueBy words a c.args.file.now c.in_ok-reason.field-0 = due g (goal.at.returns-clause-shows g c).After-describe c.in_ok-reason.field-0 c.in_ok-reason.ensures.described told words form in
    let text : InfoDue words a (Told c.in-Text.text.items) = subst (DueBy words a c.args.file.now) c.in-Text.is is in (
      c.in-Text.text.items,
      text,
      tells_all c.in-Text.text.items (look_both c.find.ensures.run c.read_start.ensures.run) c.print.ensures.run
          (subst (λ (l : List ℕ). IsTrue mid.prints → e.printed ≡ mid.printed ++ l) c.deref-in-Text.ensures.value c.in_ok-print-in-Text.ensures.printed),
    )

-- FILE alone was read
reads : (g : Over) (c : After-describe g) → Runs (tells_of c.args.file.now (g.D.Outside.world c.read_start.new.depot)) (g.D.Outside.world c.args.depot.now) (g.D.Outside.world c.read_start.new.depot)
reads g c = looked_tells c.args.file.now c.in-Some.number.0 c.find.ensures.run (rw c.in-Some.is at c.in_ok-number.ensures.given) c.read_start.ensures.run

pub returns-in-Refused-clause-touches : goal.returns-in-Refused-clause-touches
returns-in-Refused-clause-touches g c = reads g (goal.at.returns-in-Refused-clause-touches g c).After-describe

pub returns-in_err-print-in-Text-clause-touches : goal.returns-in_err-print-in-Text-clause-touches
returns-in_err-print-in-Text-clause-touches g c = tells_then_text c.args.file.now _ _ _ (reads g (goal.at.returns-in_err-print-in-Text-clause-touches g c).After-describe) c.print.ensures.run

pub returns-clause-touches : goal.returns-clause-touches
returns-clause-touches g c = tells_then_text c.args.file.now _ _ _ (reads g (goal.at.returns-clause-touches g c).After-describe) c.print.ensures.run
