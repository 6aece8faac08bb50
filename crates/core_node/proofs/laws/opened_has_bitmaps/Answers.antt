use Rattle.core_node.proofs.Refusals.{opened_bitmaps}
use Rattle.core_node.proofs.laws.opened_has_bitmaps.Goals as goal

pub returns : goal.returns
returns g c core allows file id h disks old new e o there = opened_bitmaps (g.met.N.Node.stands core new) (g.met.N.Node.safe core new) o e there
