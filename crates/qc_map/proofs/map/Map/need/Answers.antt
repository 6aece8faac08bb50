use Rattle.std.proofs.Common.{◌≡◌, List, ℕ, subst}
use Rattle.std.proofs.lemmas.Result.{IfOk-weaker}
use Rattle.file_device.specs.File.{file_of, Gives}
use Rattle.image_model.specs.Clusters.{Shape}
use Rattle.image_model.specs.Space.{Store, need}
use Rattle.map_rows.specs.Stores.{HasStore}
use Rattle.qc_map.specs.Mapping.{Mapping, IsMapOf, mapping, shape_by}
use Rattle.qc_map.proofs.Places.{store_by}
use Rattle.qc_map.proofs.map.Map.need.Goals as goal

pub returns-clause-need : goal.returns-clause-need
returns-clause-need g c =
    let m = mapping c.self.inside.layout in
    let w = g.D.Outside.world c.args.depot.now in
    let P : ℕ → List ℕ → Type 0 = λ n b. (store : Store) → HasStore (shape_by m) m.size b store → n ≡ need store (record { at = c.args.at; size = c.args.length }) in
    let Q : ℕ → Mapping → List ℕ → Type 0 = λ n k b. (s : Shape) (store : Store) → IsMapOf s k → HasStore s k.size b store → n ≡ need store (record { at = c.args.at; size = c.args.length }) in
    IfOk-weaker c.need.result (λ n. Gives (file_of w m.file) (P n)) (λ n. Gives (file_of w c.args.self.now.file) (Q n c.args.self.now))
    (λ n is. subst (λ (k : Mapping). Gives (file_of w k.file) (Q n k)) c.self.view_is
    (λ told s store of has. is told store (store_by s m m.size (file_of w m.file).bytes store c.self.invariant.mapping of has)))
    c.need.ensures.need
