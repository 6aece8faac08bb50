use Rattle.std.proofs.Common.{map, string_bytes}
use Rattle.qback_top.proofs.Due.{no_form_due, ends_due, touched_then_text, touches_as, text_as}
use Rattle.qback_top.proofs.run_files.Goals as goal

pub returns-in-Err-NoForm-clause-due : goal.returns-in-Err-NoForm-clause-due
returns-in-Err-NoForm-clause-due g c = λ told.
    no_form_due (map string_bytes c.args.words.now) (g.D.Outside.world c.args.depot.now) (g.D.Outside.world c.report.new.depot) c.report.result
    (c.read_words.ensures.no_form.0 (rw c.in-Err-NoForm.field-0-is at c.in-Err-NoForm.is)) c.report.ensures.reports c.report.ensures.status

pub returns-in-Err-Memory-clause-touches : goal.returns-in-Err-Memory-clause-touches
returns-in-Err-Memory-clause-touches g c = text_as (map string_bytes c.args.words.now) (g.D.Outside.world c.args.depot.now) (g.D.Outside.world c.report-in-Err-Memory.new.depot) c.report-in-Err-Memory.ensures.run

pub returns-in-Ok-clause-due : goal.returns-in-Ok-clause-due
returns-in-Ok-clause-due g c = λ told.
    ends_due (map string_bytes c.args.words.now) (g.D.Outside.world c.args.depot.now) (g.D.Outside.world c.carry_out-end.new.depot) (g.D.Outside.world c.report-in-Ok.new.depot) c.report-in-Ok.result c.carry_out-end.result
    (c.carry_out-end.ensures.shows told (map string_bytes c.args.words.now) c.in-Ok.ensures.task) c.carry_out-end.ensures.cause c.report-in-Ok.ensures.reports c.report-in-Ok.ensures.status

pub returns-in-Ok-clause-touches : goal.returns-in-Ok-clause-touches
returns-in-Ok-clause-touches g c =
    touches_as (map string_bytes c.args.words.now) c.in-Ok.task (g.D.Outside.world c.args.depot.now) (g.D.Outside.world c.report-in-Ok.new.depot) c.in-Ok.ensures.task
    (touched_then_text c.in-Ok.task (g.D.Outside.world c.args.depot.now) (g.D.Outside.world c.carry_out-end.new.depot) (g.D.Outside.world c.report-in-Ok.new.depot) c.carry_out-end.ensures.touches c.report-in-Ok.ensures.run)
