use Rattle.std.proofs.Common.{◌+◌, ◌^◌, ◌<◌, ◌≤◌, [], ◌∷◌, Ok}
use Rattle.qc_layout.specs.Opening.{each_below}
use Rattle.qc_layout.specs.Opening.Check.{Claim}
use Rattle.qc_layout.specs.Owners.Who.{Tables}
use Rattle.map_opening.specs.Opening.{Claims}
use Rattle.map_opening.proofs.claims.FirstLevel.claim_first.Given as goal

abbrev pub invariant-loop-index : goal.invariant-loop-index
invariant-loop-index l = Claims {T = Unit {0}} (each_below l.index (λ k. Claim Tables (l.first + k) ∷ [])) l.initial.clusters l.clusters (Ok tt) × (0 < l.index → l.first + l.index ≤ 2 ^ 30)
