use Rattle.std.proofs.Common.{List, ℕ}
use Rattle.qc_layout.specs.Opening.{map_checks}
use Rattle.map_opening.proofs.Through.{through_as}
use Rattle.map_opening.proofs.Level.{level_read, level_of_read, level_same}
use Rattle.map_opening.proofs.opening.claim_tables.Goals as goal

pub claim_all-requires-clause-level : goal.claim_all-requires-clause-level
claim_all-requires-clause-level g c = level_read c.of.result c.args.header.now c.args.file.0 (g.D.Outside.world c.args.depot.now) c.requires.header c.of.ensures.bits c.of.ensures.entries

pub returns-clause-claims : goal.returns-clause-claims
returns-clause-claims g c claimed told knows =
    let w = g.D.Outside.world c.args.depot.now in
    let seen : List ℕ = w.seen c.args.file.0 in
    let e = c.of.ensures in
    (through_as (λ file. map_checks file) (λ told. level_same c.of.result seen (level_of_read c.of.result c.args.header.now c.args.file.0 w c.requires.header e.bits e.place e.entries told)) c.claim_all.ensures.goes).went
    told claimed knows
