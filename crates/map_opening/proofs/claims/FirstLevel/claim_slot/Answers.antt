use Rattle.std.proofs.Common.{◌≡◌, Ok, Result, ap}
use Rattle.qc_layout.specs.declared.entry.EntryFault.{EntryFault}
use Rattle.qc_layout.specs.declared.entry.L2Entry.{L2Entry}
use Rattle.qc_layout.specs.declared.entry.L2Entry.TheVariants.{Zero, Stored}
use Rattle.qc_layout.specs.Entries.{l2_of}
use Rattle.qc_layout.specs.Opening.{slot_checks}
use Rattle.map_opening.proofs.Through.{through_same}
use Rattle.map_opening.proofs.claims.FirstLevel.claim_slot.Goals as goal

pub returns-in-Ok-Zero : goal.returns-in-Ok-Zero
returns-in-Ok-Zero c owner f w =
    let bits = c.args.self.cluster_bits in
    let is : Ok (Zero c.in-Ok-Zero.host) ≡ l2_of bits c.args.entry = cc in
    through_same (λ seen. slot_checks bits owner c.args.at (l2_of bits c.args.entry)) (λ seen. ap (λ (says : Result L2Entry EntryFault). slot_checks bits owner c.args.at says) is) (c.claim_at.ensures.claims owner f w)

pub returns-in-Ok-Stored : goal.returns-in-Ok-Stored
returns-in-Ok-Stored c owner f w =
    let bits = c.args.self.cluster_bits in
    let is : Ok (Stored c.in-Ok-Stored.host) ≡ l2_of bits c.args.entry = cc in
    through_same (λ seen. slot_checks bits owner c.args.at (l2_of bits c.args.entry)) (λ seen. ap (λ (says : Result L2Entry EntryFault). slot_checks bits owner c.args.at says) is)
    (c.claim_at-in-Ok-Stored.ensures.claims owner f w)
