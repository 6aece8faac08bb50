use Rattle.std.proofs.Common.{◌≡◌, List, ℕ, IsTrue, IfOk, subst}
use Rattle.std.proofs.lemmas.Result.{IfOk-weaker}
use Rattle.file_device.specs.File.{file_of, Gives}
use Rattle.file_device.proofs.Laws.{given}
use Rattle.image_model.specs.Clusters.{Shape}
use Rattle.image_model.specs.Space.{Store, need}
use Rattle.map_rows.specs.Stores.{HasStore}
use Rattle.qc_map.specs.Mapping.{IsMapOf}
use Rattle.image_store.specs.Images.{Image, Stands, HasSpace}
use Rattle.image_store.specs.Images as images
use Rattle.image_store.specs.Inside.{image_of}
use Rattle.image_store.proofs.Called.{store_of_map}
use Rattle.image_store.proofs.source.Source.need.Goals as goal

pub returns-clause-need : goal.returns-clause-need
returns-clause-need g c =
    let x = g.D.Outside.world c.args.depot.now in
    let m = c.self.inside.map in
    let P : ℕ → List ℕ → Type 0 = λ n b. (s : Shape) (store : Store) → IsMapOf s m → HasStore s m.size b store → n ≡ need store (record { at = c.args.at; size = c.args.length }) in
    let Q : ℕ → Image → Type 0 = λ n k. (disk : List ℕ) (mixed : List (List ℕ)) (store : Store) → IsTrue x.tells → Stands k disk mixed x → HasSpace k (x.seen (images.file_of k)) store → n ≡ need store (record { at = c.args.at; size = c.args.length }) in
    subst (λ (k : Image). IfOk c.need.result (λ n. Q n k)) c.self.view_is
    (IfOk-weaker c.need.result (λ n. Gives (file_of x m.file) (P n)) (λ n. Q n (image_of c.self.inside)) (λ n gives disk mixed store told is has.
    given x m.file (P n) gives told is.shape store is.is_map (store_of_map is.shape m m.size (x.seen m.file) store c.self.invariant.mapping is.is_map has.has)) c.need.ensures.need)
