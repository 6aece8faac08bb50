use Rattle.std.proofs.Common.{◌≡◌, ◌+◌, ◌^◌, ℕ, List, map, ◌++◌, IsTrue, refl, sym, ap, subst, ◌∙◌, arith, rules}
use Rattle.std.proofs.lemmas.List.{nil_from_length}
use Rattle.std.proofs.lemmas.Bool.{eqb-true}
use Rattle.std.proofs.lemmas.Result.{on_ok_weaker}
use Rattle.disk_model.specs.declared.depot.FileNo.{FileNo}
use Rattle.disk_model.specs.World.{Runs, Syncs, HasSynced, PrintsPart, file_and_text}
use Rattle.disk_model.proofs.Moments.{run_on, stay}
use Rattle.script_model.specs.Words.{lines_of}
use Rattle.script_model.specs.Lines.{Line, IsScript, Say}
use Rattle.script_codec.specs.Views.{plain_line}
use Rattle.qback_top.specs.Orders.{order_of, end_line}
use Rattle.plain_model.specs.Console.{ok_line, stopped_line}
use Rattle.qback_top.specs.Open.{IsOpen, Goes}
use Rattle.qback_top.specs.Lines.{Answered}
use Rattle.qback_top.specs.Stops.{Needs}
use Rattle.qback_top.proofs.OrderLaws.{GoesOn}
use Rattle.qback_top.proofs.Running.{IsLine, KeepsOn, Ended, ClosesHere, says_on, line_found, line_goes_on, no_lines, lines_begin, lines_on, begun_stay, begun_on, needs_after, begun_end, ran_end, stopped, closed, closes_empty, closes_quit}
use Rattle.qback_top.proofs.Saying.{part_after, said_after}
use Rattle.qback_top.proofs.replay.run_lines.Given.{Over}
use Rattle.qback_top.proofs.replay.run_lines.Goals.{After-answer, After-say, After-say-2}
use Rattle.qback_top.proofs.replay.run_lines.Goals as goal
use Rattle.qback_top.proofs.replay.run_lines.Goals.{else-loop-rest-test, then-loop-rest-test+in_ok-line+in-Some+in_default-line+in-Quit}

pub loop-rest-init : goal.loop-rest-init
loop-rest-init g c = record {
  file = refl;
  size = refl;
  l1 = refl;
  end = omega arith;
  says = c.requires.says;
  told = λ told opened lines says. lines_begin (g.D.Outside.world c.args.depot.now) c.args.image c.args.image.file.0 (lines_of c.args.text.now) lines opened says;
  run = stay (file_and_text c.args.image.file.0) (g.D.Outside.world c.args.depot.now);
}

pub returns-in_err-line-clause-begun : goal.returns-in_err-line-clause-begun
returns-in_err-line-clause-begun g c = λ told opened lines says. begun_stay (c.loop-rest.invariant.told told opened lines says) refl refl

-- ---- a line that was answered

module _ (g : Over) (c : After-answer g) where
  same : c.loop-rest.image.file.0 ≡ c.args.image.file.0
  same = ap (λ (f : FileNo). f.0) c.loop-rest.invariant.file

  -- the line has a form, and doesn't end the run
  line : IsLine (lines_of c.loop-rest.rest.now) (lines_of c.first_line.result.1.now) (plain_line c.in-Some.line)
  line =
      let cut = c.first_line.ensures.lines in
      let text = c.first_line.result.0.now in
      record { raw = cut.0; text = text; is = cut.1; trim = cut.2; spelled = line_found c.in_ok-line.field-0 text c.in-Some.line c.in-Some.is c.in_ok-line.ensures }

  goes : GoesOn (order_of (plain_line c.in-Some.line))
  goes = line_goes_on c.in-Some.line c.in_default-line.not-Stop c.in_default-line-2.not-Quit

  -- the calls so far
  runs : Runs (file_and_text c.args.image.file.0) (g.D.Outside.world c.args.depot.now) (g.D.Outside.world c.answer.new.depot)
  runs = run_on c.loop-rest.invariant.run (subst (λ (k : ℕ). Runs (file_and_text k) (g.D.Outside.world c.loop-rest.depot) (g.D.Outside.world c.answer.new.depot)) same c.answer.ensures.run)

  -- what is so of the lines before it is so of it too
  keeps : Goes c.loop-rest.image c.answer.new.image (2 ^ 22 + 16384)
      → (IsTrue (g.D.Outside.world c.loop-rest.depot).tells → IsOpen c.loop-rest.image ((g.D.Outside.world c.loop-rest.depot).seen c.loop-rest.image.file.0)
      → Answered (g.D.Outside.world c.loop-rest.depot) (g.D.Outside.world c.answer.new.depot) c.answer.new.image c.loop-rest.image.file.0 (order_of (plain_line c.in-Some.line)))
      → KeepsOn (g.D.Outside.world c.args.depot.now) (g.D.Outside.world c.answer.new.depot) c.args.image c.answer.new.image c.first_line.result.1.now c.args.text.now
  keeps step answered =
      let i = c.loop-rest.invariant in
      record {
        file = step.file ∙ i.file;
        size = step.size ∙ i.size;
        l1 = step.l1 ∙ i.l1;
        end = (let shorter = c.first_line.ensures.shorter in let more = step.end in let before = i.end in omega arith);
        says = says_on line i.says;
        told = λ told opened lines says. lines_on line goes same told i.run (i.told told opened lines says) answered;
        run = runs;
      }

pub returns-in_err-answer : goal.returns-in_err-answer
returns-in_err-answer g c =
    let at = (goal.at.returns-in_err-answer g c).After-answer in
    let i = c.loop-rest.invariant in
    let old = g.D.Outside.world c.args.depot.now in
    let new = g.D.Outside.world c.answer.new.depot in
    let cause : Needs old new c.in_err-answer.field-0.0 = needs_after old (g.D.Outside.world c.loop-rest.depot) new c.in_err-answer.field-0.0 i.run c.in_err-answer.ensures.cause in
    record {
      ran = search rules;
      begun = λ told opened lines says. begun_on (line g at) (goes g at) (same g at) told i.run (i.told told opened lines says) c.answer.ensures.begun;
      run = runs g at;
      cause = search rules;
    }

pub loop-rest-preserved-in_ok-answer : goal.loop-rest-preserved-in_ok-answer
loop-rest-preserved-in_ok-answer g c = keeps g (goal.at.loop-rest-preserved-in_ok-answer g c).After-answer c.in_ok-answer.ensures.image c.in_ok-answer.ensures.answered

pub loop-rest-preserved-in_ok-answer-2 : goal.loop-rest-preserved-in_ok-answer-2
loop-rest-preserved-in_ok-answer-2 g c = keeps g (goal.at.loop-rest-preserved-in_ok-answer-2 g c).After-answer c.in_ok-answer.ensures.image c.in_ok-answer.ensures.answered

pub loop-rest-preserved : goal.loop-rest-preserved
loop-rest-preserved g c = keeps g (goal.at.loop-rest-preserved g c).After-answer c.in_ok-answer.ensures.image c.in_ok-answer.ensures.answered

-- ---- a line that stops the run

module _ (g : Over) (c : After-say g) (told : IsTrue (g.D.Outside.world c.args.depot.now).tells) (opened : IsOpen c.args.image ((g.D.Outside.world c.args.depot.now).seen c.args.image.file.0)) (lines : List Line) (says : IsScript c.args.text.now lines) where
  was_stopped : Ended (g.D.Outside.world c.args.depot.now) (g.D.Outside.world c.loop-rest.depot) (g.D.Outside.world c.say.new.depot) c.loop-rest.image c.args.image.file.0 (lines_of c.loop-rest.rest.now) (map order_of lines)
      × (end_line (map order_of lines) ≡ stopped_line)
  was_stopped =
      let i = c.loop-rest.invariant in
      let cut = c.first_line.ensures.lines in
      let text = c.first_line.result.0.now in
      let stops : IsLine (lines_of c.loop-rest.rest.now) (lines_of c.first_line.result.1.now) (plain_line c.in-Some.line) =
      record { raw = cut.0; text = text; is = cut.1; trim = cut.2; spelled = line_found c.in_ok-line.field-0 text c.in-Some.line c.in-Some.is c.in_ok-line.ensures } in
      stopped i.run.goes.prints c.say.ensures.run stops (ap (λ l. order_of (plain_line l)) c.in-Stop.is) (i.told told opened lines says)

pub returns-in-Stop-clause-ran : goal.returns-in-Stop-clause-ran
returns-in-Stop-clause-ran g c =
    let at = (goal.at.returns-in-Stop-clause-ran g c).After-say in
    let old = g.D.Outside.world c.loop-rest.depot in
    let new = g.D.Outside.world c.say.new.depot in
    on_ok_weaker c.say.result (λ printed told opened lines says.
    let e = was_stopped g at told opened lines says in
    ran_end e.0 (λ prints. printed prints ∙ ap (λ t. old.printed ++ t) (sym e.1))) c.say.ensures.printed

pub returns-in-Stop-clause-begun : goal.returns-in-Stop-clause-begun
returns-in-Stop-clause-begun g c = λ told opened lines says.
    let e = was_stopped g (goal.at.returns-in-Stop-clause-begun g c).After-say told opened lines says in
    begun_end e.0 (subst (λ t. PrintsPart t (g.D.Outside.world c.loop-rest.depot) (g.D.Outside.world c.say.new.depot)) (sym e.1) c.say.ensures.part)

-- ---- a run that closes

pub returns-in_err-sync-clause-begun : goal.returns-in_err-sync-clause-begun
returns-in_err-sync-clause-begun g c = λ told opened lines says.
    let i = c.loop-rest.invariant in
    let mid = g.D.Outside.world c.loop-rest.depot in
    let synced = g.D.Outside.world c.sync.new.self in
    let call : Syncs c.args.image.file.0 mid synced = subst (λ (k : ℕ). Syncs k mid synced) (ap (λ (f : FileNo). f.0) i.file) c.sync.ensures.call in
    begun_stay (i.told told opened lines says) call.seen ((call.run.text (λ none. none)).printed)

module _ (g : Over) (c : After-say-2 g) where
  -- no line is left, or the next one quits
  no_more : (lines : List Line) → Say (lines_of c.loop-rest.rest.now) lines → ClosesHere lines
  no_more = elim c.loop-rest-test.branch [
    | else-loop-rest-test w ↦ λ lines says. closes_empty lines (no_lines c.loop-rest.rest.now (nil_from_length c.loop-rest.rest.now (eqb-true _ _ (sym c.is_empty.ensures ∙ w.loop-rest-test.false))) lines says)
    | then-loop-rest-test+in_ok-line+in-Some+in_default-line+in-Quit w ↦ λ lines says.
        let cut = w.first_line.ensures.lines in
        let text = w.first_line.result.0.now in
        let quits : IsLine (lines_of c.loop-rest.rest.now) (lines_of w.first_line.result.1.now) (plain_line w.in-Some.line) =
        record { raw = cut.0; text = text; is = cut.1; trim = cut.2; spelled = line_found w.in_ok-line.field-0 text w.in-Some.line w.in-Some.is w.in_ok-line.ensures } in
        closes_quit lines quits (ap (λ l. order_of (plain_line l)) w.in-Quit.is) says
  ]

  was_closed : IsTrue (g.D.Outside.world c.args.depot.now).tells → IsOpen c.args.image ((g.D.Outside.world c.args.depot.now).seen c.args.image.file.0) → (lines : List Line) → IsScript c.args.text.now lines
      → Ended (g.D.Outside.world c.args.depot.now) (g.D.Outside.world c.loop-rest.depot) (g.D.Outside.world c.say-2.new.depot) c.loop-rest.image c.args.image.file.0 (lines_of c.loop-rest.rest.now) (map order_of lines)
      × (end_line (map order_of lines) ≡ ok_line)
  was_closed told opened lines says =
      let i = c.loop-rest.invariant in
      let mid = g.D.Outside.world c.loop-rest.depot in
      let synced = g.D.Outside.world c.sync.new.self in
      let l = i.told told opened lines says in
      let file_is : c.loop-rest.image.file.0 ≡ c.args.image.file.0 = ap (λ (f : FileNo). f.0) i.file in
      closed (g.met.D.Depot.sound c.loop-rest.depot) i.run.goes.prints (subst (λ (k : ℕ). Syncs k mid synced) file_is c.sync.ensures.call) (subst (λ (k : ℕ). HasSynced k mid synced) file_is c.in_ok-sync.ensures.done) c.say-2.ensures.run l (no_more l.left l.says)

pub returns-clause-ran : goal.returns-clause-ran
returns-clause-ran g c =
    let at = (goal.at.returns-clause-ran g c).After-say-2 in
    let mid = g.D.Outside.world c.loop-rest.depot in
    let new = g.D.Outside.world c.say-2.new.depot in
    on_ok_weaker c.say-2.result (λ printed told opened lines says.
    let e = was_closed g at told opened lines says in
    ran_end e.0 (λ prints. said_after new ok_line c.sync.ensures.call.run (λ none. none) printed prints ∙ ap (λ t. mid.printed ++ t) (sym e.1))) c.say-2.ensures.printed

pub returns-clause-begun : goal.returns-clause-begun
returns-clause-begun g c = λ told opened lines says.
    let e = was_closed g (goal.at.returns-clause-begun g c).After-say-2 told opened lines says in
    let new = g.D.Outside.world c.say-2.new.depot in
    begun_end e.0 (subst (λ t. PrintsPart t (g.D.Outside.world c.loop-rest.depot) new) (sym e.1) (part_after new ok_line c.sync.ensures.call.run (λ none. none) c.say-2.ensures.part))
