use Rattle.core_node.specs.Rest.{first_state}
use Rattle.core_node.proofs.Refusals.{begins}
use Rattle.core_node.proofs.laws.opened_knows.Goals as goal

pub returns : goal.returns
returns g c core allows file id h disks old new o =
    let b = begins (g.met.N.Node.stands core new) (g.met.N.Node.safe core new) o in
    (first_state h (record b.opening { taken = b.taken; given = b.given }), b.keeps_it)
