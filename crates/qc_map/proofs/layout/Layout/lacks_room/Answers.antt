use Rattle.std.proofs.Common.{◌≡◌, inl, inr, ℕ, ◌/◌, refl, ◌∙◌, ap, arith}
use Rattle.std.proofs.lemmas.Bool.{cases_lt, lt-ltb, le-ltb}
use Rattle.bitmap_model.specs.Granules.{granules_in}
use Rattle.file_device.proofs.Laws.{given}
use Rattle.image_model.specs.Clusters.{size, per}
use Rattle.image_model.specs.Space.{Store, need}
use Rattle.map_rows.specs.Stores.{HasStore}
use Rattle.qc_map.specs.Mapping.{mapping, shape_by}
use Rattle.qc_map.proofs.More.{need_within}
use Rattle.qc_map.proofs.Places.{store_by}
use Rattle.qc_map.proofs.layout.Layout.lacks_room.Goals as goal

pub returns-then-all-div_ceil-clause-lacks : goal.returns-then-all-div_ceil-clause-lacks
returns-then-all-div_ceil-clause-lacks g c s store of told has =
    let file = (g.D.Outside.world c.args.depot.now).seen c.args.self.file.0 in
    let within = need_within s file c.args.self.size store (record { at = c.args.at; size = c.args.bytes }) has in
    let cluster : c.cluster_of-cluster.result ≡ size s = c.cluster_of-cluster.ensures.bytes ∙ of.cluster in
    let entries : c.cluster_of-cluster.result / 8 ≡ per s = omega (arith, cluster) in
    let all : c.div_ceil-all.result ≡ granules_in c.args.self.size (size s) = c.div_ceil-all.ensures ∙ ap (λ (n : ℕ). granules_in c.args.self.size n) cluster in
    let tables : c.div_ceil.result ≡ granules_in (granules_in c.args.self.size (size s)) (per s) = c.div_ceil.ensures ∙ ap (λ (n : ℕ). granules_in c.div_ceil-all.result n) entries ∙ ap (λ (n : ℕ). granules_in n (per s)) all in
    inr (refl, omega (arith, within, all, tables, c.if-all-div_ceil.true))

pub returns-in-Ok-clause-lacks : goal.returns-in-Ok-clause-lacks
returns-in-Ok-clause-lacks g c s store of told has =
    let m = mapping c.args.self in
    let w = g.D.Outside.world c.args.depot.now in
    let is : c.in-Ok.need ≡ need store (record { at = c.args.at; size = c.args.bytes }) =
    given w c.args.self.file.0 (λ b. (store : Store) → HasStore (shape_by m) c.args.self.size b store → c.in-Ok.need ≡ need store (record { at = c.args.at; size = c.args.bytes })) c.in-Ok.ensures.need told store
    (store_by s m c.args.self.size (w.seen c.args.self.file.0) store c.requires.mapping of has) in
    elim (cases_lt c.args.room c.in-Ok.need) [
      | inl less ↦ inl (lt-ltb c.args.room c.in-Ok.need less, omega (arith, is, less))
      | inr more ↦ inr (le-ltb c.args.room c.in-Ok.need more, omega (arith, is, more))
    ]
