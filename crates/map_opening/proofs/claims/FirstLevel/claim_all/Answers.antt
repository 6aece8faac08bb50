use Rattle.std.proofs.Common.{◌∙◌}
use Rattle.qc_layout.specs.Opening.{each_below}
use Rattle.map_opening.specs.Opening.{entry_of}
use Rattle.map_opening.proofs.Through.{claims_bits, through_on, through_stop}
use Rattle.map_opening.proofs.claims.FirstLevel.claim_all.Goals as goal

pub returns-in_err-claim_first-clause-goes : goal.returns-in_err-claim_first-clause-goes
returns-in_err-claim_first-clause-goes g c =
    let l = c.args.self in
    through_stop (λ seen. each_below l.entries (entry_of l seen)) c.from_residual-in_err-claim_first.result c.from_residual-in_err-claim_first.ensures.1
    (c.in_err-claim_first.ensures.claims c.args.file.0 (g.D.Outside.world c.args.depot.now))

pub claim_pieces-requires-clause-bits : goal.claim_pieces-requires-clause-bits
claim_pieces-requires-clause-bits g c = claims_bits c.in_ok-claim_first.ensures.claims ∙ c.requires.bits

pub returns-clause-goes : goal.returns-clause-goes
returns-clause-goes g c = through_on (c.in_ok-claim_first.ensures.claims c.args.file.0 (g.D.Outside.world c.args.depot.now)) c.claim_pieces.ensures
