use Rattle.std.proofs.Common.{◌≡◌, ◌++◌, List, ℕ, ap, subst, ◌∙◌}
use Rattle.std.proofs.lemmas.Result.{on_ok_weaker}
use Rattle.bitmap_model.specs.Runs.{first_runs, runs_of}
use Rattle.file_device.specs.File.{file_of, Gives}
use Rattle.image_model.specs.Clusters.{Shape, size}
use Rattle.image_model.specs.Space.{Store}
use Rattle.map_rows.specs.Stores.{HasStore}
use Rattle.qc_map.specs.Mapping.{Mapping, IsMapOf, mapping, shape_by}
use Rattle.qc_map.specs.Telling.{range, flags_of}
use Rattle.qc_map.proofs.Places.{store_by, size_by}
use Rattle.qc_map.proofs.map.Map.kinds.Goals as goal

pub returns-clause-runs : goal.returns-clause-runs
returns-clause-runs g c =
    let m = mapping c.self.inside.layout in
    let w = g.D.Outside.world c.args.depot.now in
    let new = c.kinds.new.out.items.items in
    let old = c.args.out.now.items.items in
    let e = range c.args.at c.args.length in
    let P : List ℕ → Type 0 = λ b. (store : Store) → HasStore (shape_by m) m.size b store → new ≡ old ++ first_runs (runs_of (size (shape_by m)) (flags_of store) e) in
    let Q : Mapping → List ℕ → Type 0 = λ k b. (s : Shape) (store : Store) → IsMapOf s k → HasStore s k.size b store → new ≡ old ++ first_runs (runs_of (size s) (flags_of store) e) in
    on_ok_weaker {P = Gives (file_of w m.file) P} {Q = Gives (file_of w c.args.self.now.file) (Q c.args.self.now)} c.kinds.result
    (λ is. subst (λ (k : Mapping). Gives (file_of w k.file) (Q k)) c.self.view_is
    (λ told s store of has. is told store (store_by s m m.size (file_of w m.file).bytes store c.self.invariant.mapping of has)
    ∙ ap (λ (z : ℕ). old ++ first_runs (runs_of z (flags_of store) e)) (size_by s m c.self.invariant.mapping of)))
    c.kinds.ensures.runs
