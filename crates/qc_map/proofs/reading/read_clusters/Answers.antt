use Rattle.std.proofs.Common.{◌≡◌, inl, inr, ℕ, ◌+◌, ◌-◌, ◌*◌, ◌/◌, ◌%◌, ◌<◌, ◌≤◌, List, length, refl, ap, sym, ◌∙◌, arith}
use Rattle.std.proofs.lemmas.Bool.{cases_lt}
use Rattle.disk_model.specs.Files.{byte}
use Rattle.file_device.specs.File.{file_of}
use Rattle.file_device.proofs.Laws.{looks_on, gives_back}
use Rattle.image_model.specs.Clusters.{pick}
use Rattle.qc_map.proofs.Clusters.{run_byte, run_goes}
use Rattle.qc_map.proofs.Looking.{looks_failed, looks_ok}
use Rattle.qc_map.proofs.Pieces.{length_mid, length_put, put_before, put_in}
use Rattle.qc_map.proofs.reading.read_clusters.Goals as goal

pub returns-in_err-read_run-clause-looks : goal.returns-in_err-read_run-clause-looks
returns-in_err-read_run-clause-looks g c = looks_failed c.from_residual.result _ c.loop-done.invariant.looks c.in_err-read_run.ensures.looks c.from_residual.ensures.1

pub loop-done-preserved : goal.loop-done-preserved
loop-done-preserved g c =
    let inv = c.loop-done.invariant in
    let done = c.loop-done.done in
    let end : ℕ = c.min-end.result in
    let out = c.loop-done.out in
    let piece = c.read_run.new.out in
    let run = c.run_from-run.result in
    let cluster = c.args.cluster in
    let place : ℕ = c.args.from + done in
    let past : ℕ = (place / cluster + run.count) * cluster in
    let test = c.loop-done-test.true in
    let some : 0 < cluster = omega (arith, c.requires.least) in
    let goes : place < past = run_goes place cluster run.count some c.run_from-run.ensures.run.some in
    let order : done ≤ end = omega (arith, c.min-end.ensures, goes, test) in
    let within : end ≤ length out = omega (arith, c.min-end.ensures) in
    let mid = length_mid out done end order within in
    let long : length piece ≡ end - done = c.read_run.auto.out ∙ mid in
    record {
      looks = looks_ok 0 (looks_on inv.looks c.in_ok-read_run.ensures.looks);
      order = omega (arith, within, length_put out piece done end order within long);
      bytes = λ told x inside.
          let file = (file_of (g.D.Outside.world c.args.depot.now) c.args.file.0).bytes in
          elim (cases_lt x done) [
            | inl before ↦ put_before out piece done end order within long x before ∙ inv.bytes told x before
            | inr from ↦
                let P : List ℕ → Type 0 = λ b. (t : ℕ) → t < length piece → byte piece t ≡ pick run.host (byte b (run.host + place % cluster + t)) in
                let read = gives_back P inv.looks (λ here t less. c.in_ok-read_run.ensures.bytes here t (omega (arith, less, c.read_run.auto.out))) told (x - done) (omega (arith, long, from, inside)) in
                let same : c.args.from + x - place ≡ x - done = omega (arith, from) in
                put_in out piece done end order within long x from inside ∙ read
                ∙ ap (λ (t : ℕ). pick run.host (byte file (run.host + place % cluster + t))) (sym same)
                ∙ run_byte c.args.row.now file cluster (place / cluster) (length c.args.row.now / 8) place (c.args.from + x) run some c.run_from-run.ensures.run refl (omega (arith, from)) (omega (arith, inside, c.min-end.ensures))
          ];
    }
