use Rattle.span_algebra.proofs.Growth.{point_keeps}
use Rattle.span_algebra.specs.Spans.{that_pass}
use Rattle.span_algebra.proofs.laws.point_keeps_true.Goals as goal

pub returns : goal.returns
returns c h q span set t = point_keeps h q span (that_pass set) t
