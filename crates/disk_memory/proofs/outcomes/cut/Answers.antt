use Rattle.std.proofs.Common.{◌≡◌, length, max, arith}
use Rattle.disk_memory.proofs.Mixtures.{pick_cut}
use Rattle.disk_memory.proofs.outcomes.cut.Goals as goal

pub returns : goal.returns
returns c versions was =
    let draft = c.args.draft in
    let n = c.length_between.result in
    let chosen = c.length_between.ensures in
    let longest : c.max-longest.result ≡ max (length draft.now.items) draft.shortest = omega (arith, draft.now.ok.0) in
    pick_cut c.args.choice versions draft.now.items draft.mixed.items draft.shortest n c.truncate.new.self.items was c.truncate.ensures.items chosen.low (omega (arith, chosen.high, longest)) chosen.none (λ one. omega (arith, chosen.all one, longest))
