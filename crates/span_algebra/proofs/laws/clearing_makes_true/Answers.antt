use Rattle.span_algebra.proofs.LastPoint.{clear_makes}
use Rattle.span_algebra.proofs.laws.clearing_makes_true.Goals as goal

pub returns : goal.returns
returns c h p recording rising = clear_makes h p recording (λ _. ⊥) rising
