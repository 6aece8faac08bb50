use Rattle.span_algebra.proofs.LastPoint.{base_holds}
use Rattle.span_algebra.specs.Spans.{that_pass}
use Rattle.span_algebra.proofs.laws.base_is_true.Goals as goal

pub returns : goal.returns
returns c h p a span set rising t builds = base_holds h p a span (that_pass set) rising t builds
