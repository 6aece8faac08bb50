use Rattle.std.proofs.Common.{◌≡◌, ℕ, ◌+◌, ◌*◌, Option, Some, Result, Ok, ap}
use Rattle.qc_layout.specs.declared.entry.EntryFault.{EntryFault}
use Rattle.qc_layout.specs.Entries.{l1_of}
use Rattle.map_opening.specs.Opening.{level_checks, entry_checks}
use Rattle.map_opening.proofs.Through.{through_same}
use Rattle.map_opening.proofs.claims.FirstLevel.claim_entry.Goals as goal

pub returns-in-Ok-Some : goal.returns-in-Ok-Some
returns-in-Ok-Some g c =
    let l = c.args.self in
    let is : Ok (Some c.in-Ok-Some.table) ≡ l1_of l.cluster_bits c.args.entry = cc in
    through_same (λ seen. level_checks l seen c.args.index c.args.entry) (λ seen. ap (λ (says : Result (Option ℕ) EntryFault). entry_checks l.cluster_bits seen c.args.index (l.place + 8 * c.args.index) says) is)
    (c.claim_table.ensures c.args.index)
