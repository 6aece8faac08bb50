use Rattle.script_codec.proofs.requests.write_request.Goals as goal

pub returns-in_default : goal.returns-in_default
returns-in_default c = λ r t. let none = rw c.in_default.is at c.in_ok-offset.ensures in none t.0 t.1 t.2
