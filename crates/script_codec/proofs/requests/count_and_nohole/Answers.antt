use Rattle.std.proofs.Common.{◌≢◌, rules}
use Rattle.std.specs.Prelude.{codes}
use Rattle.script_codec.proofs.FormLaws.{no_hole_word}
use Rattle.script_codec.proofs.requests.count_and_nohole.Goals as goal

pub returns-then-ne : goal.returns-then-ne
returns-then-ne c = no_hole_word c.args.text.now _ c.in-Some.rest.now c.in-Some.ensures (let other : c.in-Some.rest.now ≢ codes "nohole" = search rules in other)
