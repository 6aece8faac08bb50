use Rattle.core_node.proofs.Refusals.{begins}
use Rattle.core_node.proofs.laws.opened_shows_id.Goals as goal

pub returns : goal.returns
returns g c core allows file id h disks old new o = (begins (g.met.N.Node.stands core new) (g.met.N.Node.safe core new) o).id_is
