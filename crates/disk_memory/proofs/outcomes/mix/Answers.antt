use Rattle.std.proofs.Common.{◌≢◌, ⊎_elim, inl, inr, ◌∙◌, arith, below_more}
use Rattle.std.proofs.lemmas.Bool.{cases_lt}
use Rattle.disk_memory.specs.Outcomes.{SameSector}
use Rattle.disk_memory.proofs.Mixtures.{same_on, same_sectors, either_on}
use Rattle.disk_memory.proofs.outcomes.mix.Goals as goal

pub loop-sector-preserved : goal.loop-sector-preserved
loop-sector-preserved c =
    let loop = c.loop-sector in
    let was = loop.invariant in
    let now = c.take_or_leave.ensures in
    let new = c.take_or_leave.new.mixed in
    record {
      long = now.long ∙ was.long;
      later = λ k high. let apart : k ≢ loop.sector = omega arith in same_on k new loop.mixed c.args.mixed.now (now.others k apart) (was.later k (omega arith));
      either = below_more _ loop.sector
          (λ k low. let apart : k ≢ loop.sector = omega arith in either_on k new loop.mixed c.args.mixed.now c.args.now.now (now.others k apart) (was.either k low))
          (⊎_elim
          (λ (same : SameSector loop.sector new loop.mixed). inl (same_on loop.sector new loop.mixed c.args.mixed.now same (was.later loop.sector (omega arith))))
          (λ (taken : SameSector loop.sector new c.args.now.now). inr taken)
          now.either);
      none = λ zero. now.none zero ∙ was.none zero;
      all = λ one. below_more _ loop.sector
          (λ k low. let apart : k ≢ loop.sector = omega arith in same_on k new loop.mixed c.args.now.now (now.others k apart) (was.all one k low))
          (now.all one);
    }

pub returns-clause-sectors : goal.returns-clause-sectors
returns-clause-sectors c = λ k. elim (cases_lt k c.loop-sector.sector) [
  | inl below ↦ c.loop-sector.invariant.either k below
  | inr past ↦ inl (c.loop-sector.invariant.later k past)
]

pub returns-clause-all : goal.returns-clause-all
returns-clause-all c one =
    same_sectors c.loop-sector.mixed c.args.now.now (omega (arith, c.loop-sector.invariant.long)) (λ k below. c.loop-sector.invariant.all one k (omega arith))
