use Rattle.std.proofs.Common.{◌≡◌, ◌<◌, ◌≤◌, ◌+◌, ◌-◌, inl, inr, ℕ, IsTrue, length, take, drop, refl, sym, ap, subst, ◌∙◌, arith}
use Rattle.std.proofs.lemmas.List.{length-take, take_all}
use Rattle.std.proofs.lemmas.Bool.{cases_eq}
use Rattle.disk_model.specs.declared.depot.FileNo.{FileNo}
use Rattle.disk_model.specs.Files.{overlay}
use Rattle.disk_model.specs.World.{Runs, only_file}
use Rattle.disk_model.proofs.Bytes.{overlay_empty, length-overlay_inside}
use Rattle.disk_model.proofs.Moments.{run_on, stay}
use Rattle.qc_layout.specs.FirstForm.{disk_of, disk_size}
use Rattle.qback_top.specs.Open.{IsOpen}
use Rattle.qback_top.proofs.Disk.{length-disk_of}
use Rattle.qback_top.proofs.Tables.{keeps_none}
use Rattle.qback_top.proofs.Growing.{told_on, Pieces, puts_more, put_spares_more, put_between_more}
use Rattle.qback_top.proofs.Torn.{between_second}
use Rattle.qback_top.proofs.image.write.Given.{Over}
use Rattle.qback_top.proofs.image.write.Goals.{After-write_piece}
use Rattle.qback_top.proofs.image.write.Goals as goal

pub loop-done-init : goal.loop-done-init
loop-done-init g c = record {
  done = omega arith;
  file = refl;
  size = refl;
  l1 = refl;
  begin = λ none. omega arith;
  more = λ lt. omega arith;
  most = omega arith;
  aligned = λ lt some. absurd (some refl);
  told = λ told opened inside.
      let file = (g.D.Outside.world c.args.depot.now).seen c.args.image.now.file.0 in
      (opened, sym (overlay_empty (disk_of file) c.args.at (take 0 c.args.bytes.now) (omega (arith, length-take 0 c.args.bytes.now))), keeps_none file);
  run = stay (only_file c.args.image.now.file.0) (g.D.Outside.world c.args.depot.now);
}

-- one more piece
module _ (g : Over) (c : After-write_piece g) where
  more : IsTrue (g.D.Outside.world c.args.depot.now).tells → IsOpen c.args.image.now ((g.D.Outside.world c.args.depot.now).seen c.args.image.now.file.0)
      → c.args.at + length c.args.bytes.now ≤ disk_size ((g.D.Outside.world c.args.depot.now).seen c.args.image.now.file.0)
      → Pieces (g.D.Outside.world c.args.depot.now) (g.D.Outside.world c.loop-done.depot) c.loop-done.image c.args.image.now.file.0 c.loop-done.image.file.0 c.args.at c.args.bytes.now (take (c.loop-done.done + c.min-piece.result - c.loop-done.done) (drop c.loop-done.done c.args.bytes.now)) c.loop-done.done c.min-piece.result
  more told opened inside =
      let i = c.loop-done.invariant in
      let test = c.loop-done-test.true in
      let same : c.loop-done.done + c.min-piece.result - c.loop-done.done ≡ c.min-piece.result = omega arith in
      record { told = told_on i.run told; number = ap (λ (f : FileNo). f.0) i.file; fits = omega arith; is = ap (λ (k : ℕ). take k (drop c.loop-done.done c.args.bytes.now)) same; inside = inside; before = i.told told opened inside }

pub loop-done-preserved : goal.loop-done-preserved
loop-done-preserved g c =
    let i = c.loop-done.invariant in
    let done = c.loop-done.done in
    let test = c.loop-done-test.true in
    let step = c.in_ok-write_piece.ensures.image in
    let grows = step.end in
    let here : done < length c.args.bytes.now = omega arith in
    let so_far = i.more here in
    record {
      done = omega arith;
      file = step.file ∙ i.file;
      size = step.size ∙ i.size;
      l1 = step.l1 ∙ i.l1;
      begin = λ none. omega arith;
      more = λ lt. elim (cases_eq done 0) [
        | inl zero ↦ let first = i.begin zero in omega arith
        | inr some ↦ let whole = i.aligned here some in omega arith
      ];
      most = omega arith;
      aligned = λ lt some. omega arith;
      told = λ told opened inside. puts_more (more g (goal.at.loop-done-preserved g c).After-write_piece told opened inside) (g.D.Outside.world c.write_piece.new.depot) c.write_piece.new.image c.in_ok-write_piece.ensures.written;
      run = run_on i.run (subst (λ (k : ℕ). Runs (only_file k) (g.D.Outside.world c.loop-done.depot) (g.D.Outside.world c.write_piece.new.depot)) (ap (λ (f : FileNo). f.0) i.file) c.write_piece.ensures.run);
    }

pub returns-in_err-write_piece-clause-spares : goal.returns-in_err-write_piece-clause-spares
returns-in_err-write_piece-clause-spares g c = λ told opened inside. put_spares_more (more g (goal.at.returns-in_err-write_piece-clause-spares g c).After-write_piece told opened inside) (g.D.Outside.world c.write_piece.new.depot) c.write_piece.ensures.spares

pub returns-in_err-write_piece-clause-between : goal.returns-in_err-write_piece-clause-between
returns-in_err-write_piece-clause-between g c = λ told opened inside. put_between_more (more g (goal.at.returns-in_err-write_piece-clause-between g c).After-write_piece told opened inside) (g.D.Outside.world c.write_piece.new.depot) c.write_piece.ensures.between

pub returns-clause-between : goal.returns-clause-between
returns-clause-between g c = λ told opened inside.
    let old = disk_of ((g.D.Outside.world c.args.depot.now).seen c.args.image.now.file.0) in
    let all : take c.loop-done.done c.args.bytes.now ≡ c.args.bytes.now = take_all c.loop-done.done c.args.bytes.now (let test = c.loop-done-test.false in omega arith) in
    between_second old (overlay old c.args.at c.args.bytes.now) _ (length-overlay_inside old c.args.at c.args.bytes.now (omega (arith, length-disk_of ((g.D.Outside.world c.args.depot.now).seen c.args.image.now.file.0))))
    ((c.loop-done.invariant.told told opened inside).1 ∙ ap (overlay old c.args.at) all)
