use Rattle.std.proofs.Common.{◌≡◌, ℕ, ◌^◌, List, length, ap, ◌∙◌}
use Rattle.disk_model.specs.Files.{reading}
use Rattle.file_device.proofs.Laws.{given}
use Rattle.qc_layout.specs.Owners.Who.{Head, Table}
use Rattle.map_opening.specs.Opening.{slots_of, table_slots}
use Rattle.map_opening.proofs.Through.{claims_bits, through_on, through_as, through_read, through_failed, through_stop}
use Rattle.map_opening.proofs.Level.{slots_read}
use Rattle.map_opening.proofs.claims.FirstLevel.claim_table.Goals as goal

pub returns-in_err-claim_at : goal.returns-in_err-claim_at
returns-in_err-claim_at g c i =
    through_stop (λ seen. slots_of c.args.self.cluster_bits seen i c.args.table) c.from_residual.result c.from_residual.ensures.1 (c.in_err-claim_at.ensures.claims (Table i) c.args.file.0 (g.D.Outside.world c.args.depot.now))

pub returns-in_err-read : goal.returns-in_err-read
returns-in_err-read g c i =
    let w = g.D.Outside.world c.args.depot.now in
    through_on (c.in_ok-claim_at.ensures.claims (Table i) c.args.file.0 w) (through_failed (λ seen. slots_of c.args.self.cluster_bits seen i c.args.table) c.claim_at.new.clusters c.from_residual-in_err-read.result c.from_residual-in_err-read.ensures.1 c.in_err-read.ensures.looks)

pub claim_slots-requires-clause-bits : goal.claim_slots-requires-clause-bits
claim_slots-requires-clause-bits g c = claims_bits (c.in_ok-claim_at.ensures.claims Head) ∙ c.requires.bits

pub returns : goal.returns
returns g c i =
    let w = g.D.Outside.world c.args.depot.now in
    let f = c.args.file.0 in
    let bits = c.args.self.cluster_bits in
    let bytes : List ℕ = c.read.new.out in
    let X : List ℕ → Type 0 = λ file. bytes ≡ reading file c.args.table (length c.args.words.now) in
    let long : length bytes ≡ 2 ^ bits = c.read.auto.out ∙ c.requires.whole in
    through_as (λ seen. table_slots bits seen i c.args.table)
    (λ told. slots_read bits i c.args.table (w.seen f) bytes long (given w f X c.in_ok-read.ensures.bytes told ∙ ap (λ (n : ℕ). reading (w.seen f) c.args.table n) c.requires.whole))
    (through_on (c.in_ok-claim_at.ensures.claims (Table i) f w) (through_on (through_read {T = Unit {0}} c.claim_at.new.clusters tt c.in_ok-read.ensures.looks) (c.claim_slots.ensures i f _)))
