use Rattle.script_codec.proofs.requests.status_request.Goals as goal

pub returns-in_default : goal.returns-in_default
returns-in_default c = λ r t. c.in_default.ensures t.0 t.1 t.2 t.3 t.4
