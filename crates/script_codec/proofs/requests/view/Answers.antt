use Rattle.script_codec.proofs.FormLaws.{view_range}
use Rattle.script_codec.proofs.requests.view.Goals as goal

pub returns-in_default-range : goal.returns-in_default-range
returns-in_default-range c = λ other at n h. c.in_default-range.ensures at n (view_range c.args.text.now _ c.in-Some.rest.now other at n c.in-Some.ensures h)
