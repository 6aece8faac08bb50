use Rattle.std.proofs.Common.{◌≡◌, ◌++◌, List, ℕ, IsTrue, OnOk, ap, sym, subst, ◌∙◌}
use Rattle.std.proofs.lemmas.Result.{on_ok_weaker}
use Rattle.bitmap_model.specs.Runs.{first_runs, runs_of}
use Rattle.file_device.specs.File.{file_of, Gives}
use Rattle.file_device.proofs.Laws.{given}
use Rattle.image_model.specs.Clusters.{Shape, size}
use Rattle.image_model.specs.Space.{Store}
use Rattle.map_rows.specs.Stores.{HasStore}
use Rattle.qc_map.specs.Mapping.{IsMapOf}
use Rattle.qc_map.specs.Telling.{range, flags_of}
use Rattle.image_store.specs.Images.{Image, Stands, HasSpace}
use Rattle.image_store.specs.Images as images
use Rattle.image_store.specs.Inside.{image_of}
use Rattle.image_store.proofs.Called.{store_of_map}
use Rattle.image_store.proofs.source.Source.kinds.Goals as goal

pub returns-clause-runs : goal.returns-clause-runs
returns-clause-runs g c =
    let x = g.D.Outside.world c.args.depot.now in
    let m = c.self.inside.map in
    let new = c.kinds.new.out.items.items in
    let old = c.args.out.now.items.items in
    let e = range c.args.at c.args.length in
    let P : List ℕ → Type 0 = λ b. (s : Shape) (store : Store) → IsMapOf s m → HasStore s m.size b store → new ≡ old ++ first_runs (runs_of (size s) (flags_of store) e) in
    let Q : Image → Type 0 = λ k. (disk : List ℕ) (mixed : List (List ℕ)) (store : Store) → IsTrue x.tells → Stands k disk mixed x → HasSpace k (x.seen (images.file_of k)) store → new ≡ old ++ first_runs (runs_of store.cluster (flags_of store) e) in
    subst (λ (k : Image). OnOk c.kinds.result (Q k)) c.self.view_is
    (on_ok_weaker {P = Gives (file_of x m.file) P} {Q = Q (image_of c.self.inside)} c.kinds.result (λ gives disk mixed store told is has.
    let on = store_of_map is.shape m m.size (x.seen m.file) store c.self.invariant.mapping is.is_map has.has in
    given x m.file P gives told is.shape store is.is_map on ∙ ap (λ (n : ℕ). old ++ first_runs (runs_of n (flags_of store) e)) (sym on.cluster)) c.kinds.ensures.runs)
