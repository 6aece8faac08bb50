use Rattle.std.proofs.Common.{◌≡◌, ◌+◌, ◌-◌, ◌≤◌, ◌++◌, ℕ, List, IsTrue, length, take, drop, ◌∙◌, sym, ap, subst, arith}
use Rattle.std.proofs.lemmas.List.{take_all}
use Rattle.std.proofs.lemmas.Slice.{take-put_mid}
use Rattle.disk_model.specs.Files.{reading}
use Rattle.disk_model.specs.World.{reads_of}
use Rattle.disk_model.proofs.Moments.{run_on, stay}
use Rattle.qc_layout.specs.FirstForm.{disk_of, disk_size}
use Rattle.qback_top.specs.Open.{IsOpen}
use Rattle.qback_top.proofs.Disk.{reading_two, length_mid, length_put, reading_none}
use Rattle.qback_top.proofs.image.read.Goals as goal

pub loop-done-init : goal.loop-done-init
loop-done-init g c = record {
  done = omega arith;
  bytes = λ told opened inside. sym (reading_none (disk_of ((g.D.Outside.world c.args.depot.now).seen c.args.image.now.file.0)) c.args.at);
  run = stay (reads_of c.args.image.now.file.0) (g.D.Outside.world c.args.depot.now);
}

pub loop-done-preserved : goal.loop-done-preserved
loop-done-preserved g c =
    let i = c.loop-done.invariant in
    let file = (g.D.Outside.world c.args.depot.now).seen c.args.image.now.file.0 in
    let done = c.loop-done.done in
    let n = c.min-piece.result in
    let fits : done + n ≤ length c.loop-done.out = let test = c.loop-done-test.true in omega arith in
    let mid = length_mid c.loop-done.out done n fits in
    let len : length c.read_piece.new.out ≡ n = c.read_piece.auto.out ∙ mid in
    let whole = length_put c.loop-done.out c.read_piece.new.out done n fits len in
    record {
      done = rw whole fits;
      bytes = λ told opened inside.
          let short = rw whole at inside in
          let same : (g.D.Outside.world c.loop-done.depot).seen c.args.image.now.file.0 ≡ file = (i.run.files c.args.image.now.file.0 (λ none. none)).seen in
          let told_here : IsTrue (g.D.Outside.world c.loop-done.depot).tells = subst IsTrue (sym i.run.goes.tells) told in
          let opened_here = subst (IsOpen c.args.image.now) (sym same) opened in
          let within : c.args.at + done + length (take (done + n - done) (drop done c.loop-done.out)) ≤ disk_size ((g.D.Outside.world c.loop-done.depot).seen c.args.image.now.file.0) = rw (mid, same) (omega arith) in
          let read : c.read_piece.new.out ≡ reading (disk_of file) (c.args.at + done) n =
          c.in_ok-read_piece.ensures.bytes told_here opened_here within
          ∙ ap (λ (k : ℕ). reading (disk_of ((g.D.Outside.world c.loop-done.depot).seen c.args.image.now.file.0)) (c.args.at + done) k) mid
          ∙ ap (λ (f : List ℕ). reading (disk_of f) (c.args.at + done) n) same in
          take-put_mid done (done + n - done) c.loop-done.out c.read_piece.new.out (done + n) (omega (arith, len)) (omega arith)
          ∙ ap (λ (t : List ℕ). t ++ c.read_piece.new.out) (i.bytes told opened short)
          ∙ ap (λ (t : List ℕ). reading (disk_of file) c.args.at done ++ t) read
          ∙ sym (reading_two (disk_of file) c.args.at done n);
      run = run_on i.run c.read_piece.ensures.run;
    }

pub returns-clause-bytes : goal.returns-clause-bytes
returns-clause-bytes g c = λ told opened inside.
    let i = c.loop-done.invariant in
    let all : c.loop-done.done ≡ length c.loop-done.out = let test = c.loop-done-test.false in let low = i.done in omega arith in
    let long : length c.loop-done.out ≡ length c.args.out.now = c.loop-done.auto.out in
    sym (take_all c.loop-done.done c.loop-done.out (omega arith))
    ∙ i.bytes told opened (rw long inside)
    ∙ ap (reading (disk_of ((g.D.Outside.world c.args.depot.now).seen c.args.image.now.file.0)) c.args.at) (all ∙ long)
