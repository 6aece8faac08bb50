use Rattle.std.proofs.Common.{◌≡◌, List, ℕ, length, IsTrue, OnOk, ap, subst, ◌∙◌}
use Rattle.std.proofs.lemmas.Result.{on_ok_weaker}
use Rattle.disk_model.specs.Files.{reading}
use Rattle.file_device.specs.File.{file_of, Gives}
use Rattle.file_device.proofs.Laws.{given}
use Rattle.image_model.specs.Clusters.{Shape}
use Rattle.image_model.specs.Disks.{disk_of}
use Rattle.qc_map.specs.Mapping.{IsMapOf}
use Rattle.image_store.specs.Images.{Image, Stands}
use Rattle.image_store.specs.Inside.{image_of}
use Rattle.image_store.proofs.source.Source.read.Goals as goal

pub returns-clause-bytes : goal.returns-clause-bytes
returns-clause-bytes g c =
    let x = g.D.Outside.world c.args.depot.now in
    let n = length c.args.out.now in
    let m = c.self.inside.map in
    let P : List ℕ → Type 0 = λ b. (s : Shape) → IsMapOf s m → c.read.new.out ≡ reading (disk_of s m.size b) c.args.at n in
    subst (λ (k : Image). OnOk c.read.result ((disk : List ℕ) (mixed : List (List ℕ)) → IsTrue x.tells → Stands k disk mixed x → c.read.new.out ≡ reading disk c.args.at n)) c.self.view_is
    (on_ok_weaker c.read.result (λ (gives : Gives (file_of x m.file) P) (disk : List ℕ) (mixed : List (List ℕ)) (told : IsTrue x.tells) (is : Stands (image_of c.self.inside) disk mixed x).
    given x m.file P gives told is.shape is.is_map ∙ ap (λ (d : List ℕ). reading d c.args.at n) (is.disk_is told)) c.read.ensures.bytes)
