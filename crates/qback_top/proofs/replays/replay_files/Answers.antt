use Rattle.std.proofs.Common.{IsTrue, option_map, sym, ap, subst, ◌∙◌}
use Rattle.disk_model.specs.declared.depot.FileNo.{FileNo}
use Rattle.disk_model.proofs.Moments.{run_on}
use Rattle.qback_top.proofs.Replaying.{looked_none, works_from}
use Rattle.qback_top.proofs.Earlier.{found_shows, found_stops, replay_err}
use Rattle.qback_top.proofs.replays.replay_files.Goals as goal

pub returns-in_err-text-clause-stops : goal.returns-in_err-text-clause-stops
returns-in_err-text-clause-stops g c = replay_err c.from_residual-in_err-text.result (g.D.Outside.world c.args.depot.now) (g.D.Outside.world c.find-2.new.self) c.args.file.now c.args.script.now (looked_none (run_on c.find.ensures.run c.find-2.ensures.run))

pub returns-clause-shows : goal.returns-clause-shows
returns-clause-shows g c =
    let look = looked_none (run_on c.find.ensures.run c.find-2.ensures.run) in
    found_shows look c.args.file.now c.args.script.now c.in-Some.image.0 c.in-Some-2.text.0
    (λ told. sym (c.in_ok-image.ensures.found told) ∙ ap (option_map (λ (f : FileNo). f.0)) c.in-Some.is)
    (λ told. sym (c.find.ensures.run.found c.args.script.now (λ none. none)) ∙ sym (c.in_ok-text.ensures.found (subst IsTrue (sym c.find.ensures.run.goes.tells) told)) ∙ ap (option_map (λ (f : FileNo). f.0)) c.in-Some-2.is)
    (g.D.Outside.world c.replay_found.new.depot) c.replay_found.result c.replay_found.ensures.shows

pub returns-clause-stops : goal.returns-clause-stops
returns-clause-stops g c =
    let look = looked_none (run_on c.find.ensures.run c.find-2.ensures.run) in
    found_stops look c.args.file.now c.args.script.now c.in-Some.image.0 c.in-Some-2.text.0
    (λ told. sym (c.in_ok-image.ensures.found told) ∙ ap (option_map (λ (f : FileNo). f.0)) c.in-Some.is)
    (λ told. sym (c.find.ensures.run.found c.args.script.now (λ none. none)) ∙ sym (c.in_ok-text.ensures.found (subst IsTrue (sym c.find.ensures.run.goes.tells) told)) ∙ ap (option_map (λ (f : FileNo). f.0)) c.in-Some-2.is)
    (g.D.Outside.world c.replay_found.new.depot) c.replay_found.result c.replay_found.ensures.stops

pub returns-clause-file : goal.returns-clause-file
returns-clause-file g c = works_from c.args.file.now c.args.script.now (run_on c.find.ensures.run c.find-2.ensures.run) c.replay_found.ensures.file
