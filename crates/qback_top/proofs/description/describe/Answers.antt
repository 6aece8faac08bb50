use Rattle.qback_top.proofs.Informing.{describes_by}
use Rattle.qback_top.proofs.description.describe.Goals as goal

pub returns-in_ok-describe_header-in-Ok-clause-described : goal.returns-in_ok-describe_header-in-Ok-clause-described
returns-in_ok-describe_header-in-Ok-clause-described c =
    describes_by c.kind_of-part.result c.args.bytes.now c.in-Ok.header c.in_ok-describe_header-in-Ok.field-0 c.kind_of-part.ensures c.in-Ok.ensures c.in_ok-describe_header-in-Ok.ensures
