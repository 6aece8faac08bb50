-- That messages compute.
use Rattle.std.specs.Str.{is_utf8, chars}
use Rattle.std.specs.Char.{encode_utf8}
use Rattle.std.specs.Fmt.{digits}
use Rattle.serde_json.proofs.OnLiterals.{serde_json_on_literals}
use Rattle.monitor_model.specs.Commands.{order_of}

-- what an answer unfolds so that a message computes
unfoldable pub messages_compute : Unit {0}
unfolding is_utf8 chars encode_utf8 digits serde_json_on_literals order_of
messages_compute = tt
