use Rattle.std.proofs.Common.{refl}
use Rattle.qback_top.specs.declared.words.Task.TheVariants.{CreateSource}
use Rattle.qback_top.proofs.Creating.{touched_none, touched_failed, touched_made, exists_due, failed_stops, unsaid_stops, created_due, err_stops}
use Rattle.qback_top.proofs.creations.create_source_file.Goals as goal

pub returns-in_err-say_made-in-Ok-clause-touches : goal.returns-in_err-say_made-in-Ok-clause-touches
returns-in_err-say_made-in-Ok-clause-touches g c = touched_made c.args.file.now c.in-Ok.field-0.0 c.in-Ok.ensures.made c.say_made.ensures.run

pub returns-in_ok-say_made-in-Ok-clause-touches : goal.returns-in_ok-say_made-in-Ok-clause-touches
returns-in_ok-say_made-in-Ok-clause-touches g c = touched_made c.args.file.now c.in-Ok.field-0.0 c.in-Ok.ensures.made c.say_made.ensures.run

pub returns-in_ok-say_made-in-Ok-clause-shows : goal.returns-in_ok-say_made-in-Ok-clause-shows
returns-in_ok-say_made-in-Ok-clause-shows g c = λ told words says.
    let task = CreateSource c.args.file.now c.args.size c.args.cluster_bits c.args.disk in
    let due = created_due task c.args.file.now refl words says c.in-Ok.field-0.0 told c.in-Ok.ensures.made c.say_made.ensures.run c.in_ok-say_made-in-Ok.ensures.printed in
    (task, c.args.file.now, c.in-Ok.field-0.0, due.0, due.1)

pub returns-in-Err-Exists-clause-shows : goal.returns-in-Err-Exists-clause-shows
returns-in-Err-Exists-clause-shows g c = λ told words says.
    exists_due (CreateSource c.args.file.now c.args.size c.args.cluster_bits c.args.disk) c.args.file.now refl words says told (rw c.in-Err-Exists.field-0-is at c.in-Err-Exists.ensures.refuses)

pub returns-in-Err-Exists-clause-touches : goal.returns-in-Err-Exists-clause-touches
returns-in-Err-Exists-clause-touches g c = touched_none c.args.file.now (rw c.in-Err-Exists.field-0-is at c.in-Err-Exists.ensures.refuses).0

pub returns-in-Err-Failed-clause-stops : goal.returns-in-Err-Failed-clause-stops
returns-in-Err-Failed-clause-stops g c = λ told words says.
    failed_stops (CreateSource c.args.file.now c.args.size c.args.cluster_bits c.args.disk) c.args.file.now refl words says told (rw c.in-Err-Failed.field-0-is at c.in-Err-Failed.ensures.refuses)

pub returns-in-Err-Memory-clause-touches : goal.returns-in-Err-Memory-clause-touches
returns-in-Err-Memory-clause-touches g c = touched_none c.args.file.now (rw c.in-Err-Memory.field-0-is at c.in-Err-Memory.ensures.refuses)

pub returns-in_err-say_made-in-Ok-clause-stops : goal.returns-in_err-say_made-in-Ok-clause-stops
returns-in_err-say_made-in-Ok-clause-stops g c = err_stops c.from_residual.result (λ told words says.
    unsaid_stops (CreateSource c.args.file.now c.args.size c.args.cluster_bits c.args.disk) c.args.file.now refl words says c.in-Ok.field-0.0 told c.in-Ok.ensures.made c.say_made.ensures.run c.say_made.ensures.part)

pub returns-in-Err-Failed-clause-touches : goal.returns-in-Err-Failed-clause-touches
returns-in-Err-Failed-clause-touches g c = touched_failed c.args.file.now (rw c.in-Err-Failed.field-0-is at c.in-Err-Failed.ensures.refuses)
