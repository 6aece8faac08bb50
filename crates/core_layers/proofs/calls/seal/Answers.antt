use Rattle.core_layers.proofs.Exports.{sealing_is_lawful}
use Rattle.core_layers.proofs.calls.seal.Goals as goal

pub returns : goal.returns
returns g c =
    let old = g.D.Outside.world c.args.depot.now in
    let f = g.T.Target.file c.args.target.now in
    record {
      lawful = λ id h told holds claims was. sealing_is_lawful f (g.T.Target.seals c.args.target.now old) c.seal.ensures.run.goes.later holds was (c.seal.ensures.within told claims) (λ new_told. c.seal.ensures.seen told claims);
      done = c.seal.ensures.done;
    }
