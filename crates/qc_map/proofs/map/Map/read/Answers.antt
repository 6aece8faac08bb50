use Rattle.std.proofs.Common.{◌≡◌, List, ℕ, length, ap, subst, ◌∙◌}
use Rattle.std.proofs.lemmas.Result.{on_ok_weaker}
use Rattle.disk_model.specs.Files.{reading}
use Rattle.file_device.specs.File.{file_of, Gives}
use Rattle.image_model.specs.Clusters.{Shape}
use Rattle.image_model.specs.Disks.{disk_of}
use Rattle.qc_map.specs.Mapping.{Mapping, IsMapOf, mapping, shape_by}
use Rattle.qc_map.proofs.Places.{disk_by}
use Rattle.qc_map.proofs.map.Map.read.Goals as goal

pub returns-clause-bytes : goal.returns-clause-bytes
returns-clause-bytes g c =
    let m = mapping c.self.inside.layout in
    let w = g.D.Outside.world c.args.depot.now in
    let n = length c.args.out.now in
    let P : List ℕ → Type 0 = λ b. c.read.new.out ≡ reading (disk_of (shape_by m) m.size b) c.args.at n in
    let Q : Mapping → List ℕ → Type 0 = λ k b. (s : Shape) → IsMapOf s k → c.read.new.out ≡ reading (disk_of s k.size b) c.args.at n in
    on_ok_weaker {P = Gives (file_of w m.file) P} {Q = Gives (file_of w c.args.self.now.file) (Q c.args.self.now)} c.read.result
    (λ is. subst (λ (k : Mapping). Gives (file_of w k.file) (Q k)) c.self.view_is
    (λ told s of. is told ∙ ap (λ (disk : List ℕ). reading disk c.args.at n) (disk_by s m m.size (file_of w m.file).bytes c.self.invariant.mapping of)))
    c.read.ensures.bytes
