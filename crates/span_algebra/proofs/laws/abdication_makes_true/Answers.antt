use Rattle.span_algebra.proofs.LastPoint.{abdication_makes}
use Rattle.span_algebra.specs.Spans.{that_pass}
use Rattle.span_algebra.proofs.laws.abdication_makes_true.Goals as goal

pub returns : goal.returns
returns c h p recording successor there all = abdication_makes h p recording (that_pass successor) there all
