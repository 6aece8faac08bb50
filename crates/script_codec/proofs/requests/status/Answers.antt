use Rattle.script_codec.proofs.FormLaws.{status_view}
use Rattle.script_codec.proofs.requests.status.Goals as goal

pub returns-in_default-view : goal.returns-in_default-view
returns-in_default-view c = λ other context at n h. c.in_default-view.ensures context at n (status_view c.args.text.now _ c.in-Some.rest.now other context at n c.in-Some.ensures h)
