use Rattle.std.proofs.Common.{ℕ, ◌*◌, Ok}
use Rattle.disk_model.specs.Files.{u64_at}
use Rattle.qc_layout.specs.Opening.{each_below}
use Rattle.map_opening.specs.Opening.{Claims, word_checks}
use Rattle.map_opening.proofs.claims.FirstLevel.claim_slots.Given as goal

abbrev pub invariant-loop-index : goal.invariant-loop-index
invariant-loop-index l =
    (i : ℕ) → Claims {T = Unit {0}} (each_below l.index (λ j. word_checks l.self.cluster_bits i l.table j (u64_at l.words (8 * j)))) l.initial.clusters l.clusters (Ok tt)
