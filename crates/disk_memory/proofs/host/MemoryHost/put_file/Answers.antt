use Rattle.std.proofs.Common.{◌≡◌, ℕ, sym, subst}
use Rattle.std.proofs.lemmas.Result.{on_ok_weaker}
use Rattle.disk_memory.specs.Held.{Held, world_of}
use Rattle.disk_memory.specs.Host.{held, told_by}
use Rattle.disk_memory.specs.Steps.{HasPut, with_content}
use Rattle.disk_memory.proofs.Calls.{has_put_new, has_put_old}
use Rattle.disk_memory.proofs.host.MemoryHost.put_file.Goals as goal

pub returns-in-Some-clause-done : goal.returns-in-Some-clause-done
returns-in-Some-clause-done c =
    let old = held c.args.self.now in
    let put = has_put_old c.args.name.now c.args.bytes.now c.in-Some.number old c.args.self.now.kept (sym c.in-Some.ensures) in
    on_ok_weaker c.replace.result
    (λ (is : held c.replace.new.self ≡ with_content c.in-Some.number c.args.bytes.now old). (c.in-Some.number, subst (λ (w : Held). HasPut c.args.name.now c.args.bytes.now c.in-Some.number (world_of old) (world_of w)) (sym is) put))
    c.replace.ensures.ok

pub returns-in_ok-_number-in-None-clause-done : goal.returns-in_ok-_number-in-None-clause-done
returns-in_ok-_number-in-None-clause-done c =
    let put = has_put_new c.args.name.now (held c.args.self.now) c.args.self.now.kept c.args.bytes.now (sym c.in-None.ensures) in
    subst (λ (w : Held). (f : ℕ) × HasPut c.args.name.now c.args.bytes.now f (told_by c.args.self.now) (world_of w)) (sym c.in_ok-_number-in-None.ensures.ok.1) (_, put)
