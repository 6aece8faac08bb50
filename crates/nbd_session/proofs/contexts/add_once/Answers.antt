use Rattle.std.proofs.Common.{◌≡◌, [], ◌∷◌, ◌++◌, false, rules}
use Rattle.std.specs.Prelude.{bytes_eq}
use Rattle.std.specs.List.{list_any}
use Rattle.nbd_session.proofs.Once.{adds}
use Rattle.nbd_session.proofs.contexts.add_once.Goals as goal

pub returns-in_ok-push-clause-once : goal.returns-in_ok-push-clause-once
returns-in_ok-push-clause-once c =
    let none : list_any (bytes_eq c.args.name) c.args.names.now ≡ false = search rules in
    let pushed : c.push.new.self.items ≡ c.args.names.now ++ c.args.name ∷ [] = search rules in
    λ before are. adds c.args.names.now c.push.new.self.items before c.args.name none pushed are
