use Rattle.std.proofs.Common.{◌+◌, ◌≤◌, ℕ, [], ◌∷◌, ◌++◌, length, IsTrue, sym, subst, ◌∙◌}
use Rattle.disk_model.specs.Files.{overlay}
use Rattle.plain_model.specs.History.{now}
use Rattle.plain_model.proofs.Histories.{length-now}
use Rattle.core_layers.specs.Layers.{ClaimsNothing}
use Rattle.disk_model.proofs.Moments.{spares, file_failed_after}
use Rattle.core_layers.proofs.Exports.{carried, from_ok, moved}
use Rattle.core_layers.proofs.calls.copy_and_write.Goals as goal

pub returns : goal.returns
returns g c =
    let old = g.D.Outside.world c.args.depot.now in
    let mid = g.D.Outside.world c.put_unit-copied.new.depot in
    let new = g.D.Outside.world c.write.new.depot in
    record {
      carries = λ h mixed told history epochs holds target lawful.
          let image = c.args.image.now in
          let mid_told = subst IsTrue (sym c.put_unit-copied.ensures.run.goes.tells) told in
          let stays = g.met.I.Image.spared image old mid (now h) mixed (spares (g.I.Image.facts image).file c.put_unit-copied.ensures.run c.requires.apart) holds in
          let wrote = c.write.ensures.writes mid_told in
          let range = subst (λ (n : ℕ). c.args.at + length c.args.bytes.now ≤ n) (sym (g.met.I.Image.sizes image old (now h) mixed holds).0 ∙ length-now h history.inside) c.requires.inside in
          let w = wrote.2 (now h) mixed stays in
          let copied = g.met.T.Target.spared c.put_unit-copied.new.self mid new (spares (g.T.Target.file c.put_unit-copied.new.self) c.write.ensures.run (λ is. c.requires.apart (sym is ∙ c.put_unit-copied.ensures.file))) (c.put_unit-copied.ensures.goes told target) in
          carried {L = g.I.Image.holds c.write.new.self new} history epochs range c.requires.apart (g.met.I.Image.in_order image old (now h) mixed holds).each (g.met.I.Image.among image old (now h) mixed holds)
          c.put_unit-copied.ensures.run c.write.ensures.run (c.put_unit-copied.ensures.within told target) lawful
          (λ new_told. subst (λ (f : ℕ). ClaimsNothing (new.seen f)) c.put_unit-copied.ensures.file (g.met.T.Target.claims c.put_unit-copied.new.self new copied new_told)) w
          (λ after. moved (overlay (now h) c.args.at wrote.0) (mixed ++ overlay (now h) c.args.at wrote.0 ∷ []) new c.write.ensures.facts
          (g.met.I.Image.in_order c.write.new.self new (overlay (now h) c.args.at wrote.0) (mixed ++ overlay (now h) c.args.at wrote.0 ∷ []) after))
          copied
          (λ well. from_ok _ c.write.result well wrote.1);
      cause = λ is. file_failed_after c.put_unit-copied.ensures.run (c.write.ensures.failed is);
    }
