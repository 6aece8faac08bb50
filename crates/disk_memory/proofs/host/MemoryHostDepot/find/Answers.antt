use Rattle.std.proofs.Common.{sym}
use Rattle.disk_memory.specs.Host.{held}
use Rattle.disk_memory.specs.Laws.{number_found}
use Rattle.disk_memory.proofs.host.MemoryHostDepot.find.Goals as goal

pub returns-in-Some-clause-given : goal.returns-in-Some-clause-given
returns-in-Some-clause-given c = let at = number_found (held c.begins_failing.new.self).names c.args.name.now c.in-Some.number (sym c.in-Some.ensures) in record { below = at.0; named = at.1 }
