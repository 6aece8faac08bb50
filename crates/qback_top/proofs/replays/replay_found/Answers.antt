use Rattle.std.proofs.Common.{◌≡◌, inl, inr, ℕ, List, map, IsTrue, sym, ap, subst, ◌∙◌}
use Rattle.disk_model.specs.declared.depot.FileNo.{FileNo}
use Rattle.disk_model.specs.World.{World, Runs, file_and_text}
use Rattle.disk_model.proofs.Moments.{run_on}
use Rattle.qc_layout.specs.FirstForm.{IsTaken}
use Rattle.script_model.specs.Lines.{Line, IsScript}
use Rattle.qback_top.specs.Orders.{order_of}
use Rattle.qback_top.specs.declared.image.Image.{Image}
use Rattle.qback_top.specs.Open.{IsOpen}
use Rattle.qback_top.specs.Lines.{RanLines, BegunLines}
use Rattle.qback_top.specs.Replays.{AreThere, ReplayDue}
use Rattle.qback_top.specs.Endings.{Ran, looks}
use Rattle.qback_top.proofs.Growing.{read_same, told_on}
use Rattle.qback_top.proofs.Earlier.{begun_before, replayed_before}
use Rattle.qback_top.proofs.Replaying.{looked, replayed_part, replayed, run_due, unbuilt_due, stops_err}
use Rattle.qback_top.proofs.replays.replay_found.Given.{Over}
use Rattle.qback_top.proofs.replays.replay_found.Goals.{After-run_lines}
use Rattle.qback_top.proofs.replays.replay_found.Goals as goal

-- the script's lines are run on the image, as is due
record Starts (a d e : World) (file script : List ℕ) (number script_number : ℕ) (image : Image) (text : List ℕ) : Type 0 where
  pub lines : List Line
  pub due : (words : List (List ℕ)) → AreThere words a file script number script_number → ReplayDue words a (Ran number lines)
  pub look : Runs looks a d
  pub work : Runs (file_and_text number) d e
  pub told : IsTrue d.tells
  pub is : image.file.0 ≡ number
  pub opened : IsOpen image (d.seen image.file.0)
  pub says : IsScript text lines

-- the calls before the lines make it so
starts : (g : Over) (c : After-run_lines g) → IsTrue (g.D.Outside.world c.args.depot.now).tells → Starts (g.D.Outside.world c.args.depot.now) (g.D.Outside.world c.open_image.new.depot) (g.D.Outside.world c.run_lines.new.depot) c.args.file.now c.args.script.now c.args.image.0 c.args.text.0 c.in-Some-3.image c.deref-2.result.now
starts g c told =
    let a = g.D.Outside.world c.args.depot.now in
    let d = g.D.Outside.world c.open_image.new.depot in
    let e = g.D.Outside.world c.run_lines.new.depot in
    let n = c.args.image.0 in
    let run = c.read_short.ensures.run in
    let run2 = c.open_image.ensures.run in
    let told_b = told_on run told in
    let content = rw c.in-Some.is at (c.in_ok-content.ensures.content told) in
    let text : c.deref.result.now ≡ a.seen c.args.text.0 = c.deref.ensures.value ∙ content.1 in
    let said = rw c.in_default-2.is at c.in_ok-n.ensures in
    let says : IsScript (a.seen c.args.text.0) said.0 = subst (λ (t : List ℕ). IsScript t said.0) text said.1 in
    let opened = rw c.in-Some-3.is at (c.in_ok-image.ensures.taken told_b) in
    let found = rw c.in-Some-3.is at c.in_ok-image.ensures.found in
    let is : c.in-Some-3.image.file.0 ≡ n = ap (λ (f : FileNo). f.0) found.0 in
    record {
      lines = said.0;
      due = λ words there. run_due words a c.args.file.now c.args.script.now n c.args.text.0 said.0 there content.0 says (subst IsTaken (read_same n run) opened.0);
      look = run_on (looked run) (looked run2);
      work = subst (λ (k : ℕ). Runs (file_and_text k) d e) is c.run_lines.ensures.run;
      told = told_on run2 told_b;
      is = is;
      opened = subst (λ (k : ℕ). IsOpen c.in-Some-3.image (d.seen k)) (sym is) (subst (IsOpen c.in-Some-3.image) (sym (read_same n run2)) opened.1);
      says = subst (λ (t : List ℕ). IsScript t said.0) (sym (c.deref-2.ensures.value ∙ content.1)) says;
    }

pub returns-in_err-image-clause-stops : goal.returns-in_err-image-clause-stops
returns-in_err-image-clause-stops g c = stops_err c.from_residual-in_err-image.result (g.D.Outside.world c.args.depot.now) (g.D.Outside.world c.open_image.new.depot) c.args.file.now c.args.script.now c.args.image.0 c.args.text.0 (λ told words there. inl (run_on (looked c.read_short.ensures.run) (looked c.open_image.ensures.run)))

pub returns-in_err-run_lines-clause-stops : goal.returns-in_err-run_lines-clause-stops
returns-in_err-run_lines-clause-stops g c = stops_err c.from_residual-in_err-run_lines.result (g.D.Outside.world c.args.depot.now) (g.D.Outside.world c.run_lines.new.depot) c.args.file.now c.args.script.now c.args.image.0 c.args.text.0 (λ told words there.
    let s = starts g (goal.at.returns-in_err-run_lines-clause-stops g c).After-run_lines told in
    let begun : BegunLines (g.D.Outside.world c.open_image.new.depot) (g.D.Outside.world c.run_lines.new.depot) c.args.image.0 (map order_of s.lines) = subst (λ (k : ℕ). BegunLines (g.D.Outside.world c.open_image.new.depot) (g.D.Outside.world c.run_lines.new.depot) k (map order_of s.lines)) s.is (c.in_err-run_lines.ensures.begun s.told s.opened s.lines s.says) in
    inr (c.args.image.0, s.lines, s.due words there, begun_before s.look c.args.image.0 (map order_of s.lines) (g.D.Outside.world c.run_lines.new.depot) (replayed_part s.work begun)))

pub returns-clause-shows : goal.returns-clause-shows
returns-clause-shows g c = λ told words there.
    let s = starts g (goal.at.returns-clause-shows g c).After-run_lines told in
    let ran : RanLines (g.D.Outside.world c.open_image.new.depot) (g.D.Outside.world c.run_lines.new.depot) c.args.image.0 (map order_of s.lines) = subst (λ (k : ℕ). RanLines (g.D.Outside.world c.open_image.new.depot) (g.D.Outside.world c.run_lines.new.depot) k (map order_of s.lines)) s.is (c.in_ok-run_lines.ensures.ran s.told s.opened s.lines s.says) in
    (c.args.image.0, s.lines, s.due words there, replayed_before s.look c.args.image.0 (map order_of s.lines) (g.D.Outside.world c.run_lines.new.depot) (replayed s.work ran))

pub returns-in_default-3-clause-shows : goal.returns-in_default-3-clause-shows
returns-in_default-3-clause-shows g c = λ told words there.
    let a = g.D.Outside.world c.args.depot.now in
    let run = c.read_short.ensures.run in
    let run2 = c.open_image.ensures.run in
    let told_b = told_on run told in
    let content = rw c.in-Some.is at (c.in_ok-content.ensures.content told) in
    let text : c.deref.result.now ≡ a.seen c.args.text.0 = c.deref.ensures.value ∙ content.1 in
    let said = rw c.in_default-2.is at c.in_ok-n.ensures in
    let says : IsScript (a.seen c.args.text.0) said.0 = subst (λ (t : List ℕ). IsScript t said.0) text said.1 in
    let refused = rw c.in_default-3.is at (c.in_ok-image.ensures.taken told_b) in (
      unbuilt_due words a c.args.file.now c.args.script.now c.args.image.0 c.args.text.0 said.0 there content.0 says (λ taken. refused (subst IsTaken (sym (read_same c.args.image.0 run)) taken)),
      run_on (looked run) (looked run2),
    )
