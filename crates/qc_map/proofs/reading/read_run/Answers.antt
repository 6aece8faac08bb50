use Rattle.std.proofs.Common.{◌≡◌, ◌+◌, ◌<◌, ℕ, length, ap, sym, ◌∙◌, List, arith}
use Rattle.std.proofs.lemmas.Result.{on_ok_weaker}
use Rattle.disk_model.specs.Files.{byte, reading}
use Rattle.disk_model.proofs.Laws.{byte-reading}
use Rattle.file_device.specs.File.{file_of, Gives}
use Rattle.image_model.specs.Clusters.{pick}
use Rattle.image_steps.proofs.Kept.{pick_some}
use Rattle.qc_map.proofs.reading.read_run.Goals as goal

pub returns-clause-bytes : goal.returns-clause-bytes
returns-clause-bytes g c =
    let file = file_of (g.D.Outside.world c.args.depot.now) c.args.file.0 in
    let out = c.read.new.out in
    let n = length c.args.out.now in
    let at = c.args.host + c.args.from in
    on_ok_weaker {P = Gives file (λ b. out ≡ reading b at n)} {Q = Gives file (λ b. (x : ℕ) → x < n → byte out x ≡ pick c.args.host (byte b (at + x)))} c.read.result
    (λ is told x inside.
    ap (λ (bytes : List ℕ). byte bytes x) (is told) ∙ byte-reading file.bytes at n x inside
    ∙ sym (pick_some c.args.host (byte file.bytes (at + x)) (let some = c.if-host-eq0.false in omega (arith, some)))) c.read.ensures.bytes
