use Rattle.std.proofs.Common.{◌≡◌, ℕ, ◌+◌, ◌*◌, ◌/◌, List, length}
use Rattle.disk_model.specs.Files.{reading}
use Rattle.file_device.proofs.Laws.{given}
use Rattle.map_opening.specs.Opening.{each_from, entry_of}
use Rattle.map_opening.proofs.Through.{through_as, through_on, through_read}
use Rattle.map_opening.proofs.Level.{entries_read}
use Rattle.map_opening.proofs.claims.FirstLevel.claim_piece.Goals as goal

pub returns : goal.returns
returns g c =
    let w = g.D.Outside.world c.args.depot.now in
    let l = c.args.self in
    let f = c.args.file.0 in
    let bytes : List ℕ = c.read.new.out in
    let n = length c.args.entries.now in
    let X : List ℕ → Type 0 = λ file. bytes ≡ reading file (l.place + 8 * c.args.first) n in
    through_as (λ seen. each_from c.args.first (n / 8) (entry_of l seen)) (λ told. entries_read l c.args.first n (w.seen f) bytes c.read.auto.out (given w f X c.in_ok-read.ensures.bytes told))
    (through_on (through_read {T = Unit {0}} c.args.clusters.now tt c.in_ok-read.ensures.looks) c.claim_entries.ensures)
