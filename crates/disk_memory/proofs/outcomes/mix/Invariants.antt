use Rattle.std.proofs.Common.{◌≡◌, ◌⊎◌, ℕ, ◌<◌, ◌≤◌, length}
use Rattle.disk_memory.specs.Outcomes.{SameSector}
use Rattle.disk_memory.proofs.outcomes.mix.Given as goal

abbrev pub invariant-loop-sector : goal.invariant-loop-sector
invariant-loop-sector l = record {
  long : length l.mixed ≡ length l.initial.mixed;
  later : (k : ℕ) → l.sector ≤ k → SameSector k l.mixed l.initial.mixed;
  either : (k : ℕ) → k < l.sector → SameSector k l.mixed l.initial.mixed ⊎ SameSector k l.mixed l.now;
  none : l.choice ≡ 0 → l.mixed ≡ l.initial.mixed;
  all : l.choice ≡ 1 → (k : ℕ) → k < l.sector → SameSector k l.mixed l.now;
}
