-- What jobs claim and have copied.
use Rattle.std.specs.Prelude.{ℕ, List, map, replicate, Bool}
use Rattle.span_algebra.specs.declared.points.Point.{Point}
use Rattle.span_algebra.specs.declared.spans.Base.{Base}
use Rattle.script_model.specs.Lines.{Line}
use Rattle.script_model.specs.Lines as script
use Rattle.plain_model.specs.Jobs.{Job}
use Rattle.plain_model.specs.Machine.{Machine}
use Rattle.machine_rows.specs.Play.{fresh, blank, state_after}

abbrev pub ticks : ℕ → List Line
ticks n = replicate n script.Tick

-- on a fresh disk of four clusters
abbrev pub after : List Line → Machine
after lines = state_after (blank 16384 4096) lines (fresh 16384 4096)

-- the point of an epoch and a serial
abbrev pub at : ℕ → ℕ → Point
at epoch serial = record { epoch = epoch; serial = serial }

-- what a job's record will claim, and which units it has to copy
pub record Claim : Type 0 where
  pub base : Base
  pub point : Point
  pub scope : List Bool

abbrev pub claim_of : Job → Claim
claim_of j = record { base = j.base; point = j.point; scope = j.scope }

-- those of the push jobs
abbrev pub claims : Machine → List Claim
claims m = map claim_of m.jobs

-- which units each push job has copied
abbrev pub copied : Machine → List (List Bool)
copied m = map (λ (j : Job). j.copied) m.jobs
