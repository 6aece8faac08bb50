use Rattle.core_node.proofs.Refusals.{opened_room}
use Rattle.core_node.proofs.laws.opened_has_room.Goals as goal

pub returns : goal.returns
returns g c core allows file id h disks old new o none = opened_room (g.met.N.Node.stands core new) (g.met.N.Node.safe core new) o none
