use Rattle.script_codec.proofs.FormLaws.{content_parts, content_made}
use Rattle.script_codec.proofs.requests.written.Goals as goal

pub returns-in-None : goal.returns-in-None
returns-in-None c = λ at bytes h.
    let parts = content_parts c.args.text.now _ c.in-Some.digits.now at bytes c.in-Some.ensures h in
    let none = rw c.in-None.is at c.in_ok-bytes.ensures in
    parts.2 (none bytes parts.1)

pub returns-in-Some-2 : goal.returns-in-Some-2
returns-in-Some-2 c =
    let found = rw c.in-Some-2.is at c.in_ok-bytes.ensures in
    content_made c.args.text.now _ c.in-Some.digits.now _ _ c.in-Some.ensures c.in-Some-number.ensures found.0 found.1
