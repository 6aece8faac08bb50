use Rattle.std.proofs.Common.{◌≡◌, ◌+◌, ◌∙◌, ℕ, [], length, None, false, refl, sym, ap, subst, arith}
use Rattle.disk_model.specs.World.{IsQuiet, MayMake, HasMade}
use Rattle.disk_memory.specs.Held.{Held, number_of, world_of}
use Rattle.disk_memory.specs.Steps.{with_file, failed_find}
use Rattle.disk_memory.specs.Room.{HasRoom}
use Rattle.disk_memory.specs.Host.{held, told_by, room}
use Rattle.disk_memory.proofs.Calls.{stepped, has_put_new, has_made, unmade}
use Rattle.disk_memory.proofs.host.MemoryHostDepot.make.Goals as goal

pub returns-in-Ok-clause-made : goal.returns-in-Ok-clause-made
returns-in-Ok-clause-made c =
    let free : number_of (held c.args.self.now).names c.args.name.now ≡ None = ap (λ (w : Held). number_of w.names c.args.name.now) (sym c.begins_failing.ensures.held) ∙ sym c.in-None.ensures in
    let last : c.in-Ok.number ≡ length (held c.args.self.now).names = c.in-Ok.ensures.ok.0 ∙ ap (λ (w : Held). length w.names) c.begins_failing.ensures.held in
    stepped (λ (w : Held). HasMade c.args.name.now c.in-Ok.number (told_by c.args.self.now) (world_of w)) (with_file c.args.name.now []) (held c.args.self.now) (held c.begins_failing.new.self) (held c.add.new.self) c.begins_failing.ensures.held c.in-Ok.ensures.ok.1
    (has_made c.args.name.now (held c.args.self.now) c.args.self.now.kept c.in-Ok.number last free)

pub returns-in-Ok-clause-quiet : goal.returns-in-Ok-clause-quiet
returns-in-Ok-clause-quiet c =
    let free : number_of (held c.args.self.now).names c.args.name.now ≡ None = ap (λ (w : Held). number_of w.names c.args.name.now) (sym c.begins_failing.ensures.held) ∙ sym c.in-None.ensures in
    stepped (λ (w : Held). IsQuiet (told_by c.args.self.now) (world_of w)) (with_file c.args.name.now []) (held c.args.self.now) (held c.begins_failing.new.self) (held c.add.new.self) c.begins_failing.ensures.held c.in-Ok.ensures.ok.1
    (has_put_new c.args.name.now (held c.args.self.now) c.args.self.now.kept [] free).quiet

pub returns-in-Err-clause-made : goal.returns-in-Err-clause-made
returns-in-Err-clause-made c =
    stepped (λ (w : Held). (f : ℕ) × MayMake c.args.name.now f (told_by c.args.self.now) (world_of w)) failed_find (held c.args.self.now) (held c.add.new.self) (held c.fail_find-in-Err.new.self) (c.in-Err.ensures.err ∙ c.begins_failing.ensures.held) c.fail_find-in-Err.ensures.held
    (unmade c.args.name.now (held c.args.self.now) c.args.self.now.kept)

pub returns-then-begins_failing-clause-made : goal.returns-then-begins_failing-clause-made
returns-then-begins_failing-clause-made c =
    stepped (λ (w : Held). (f : ℕ) × MayMake c.args.name.now f (told_by c.args.self.now) (world_of w)) failed_find (held c.args.self.now) (held c.begins_failing.new.self) (held c.fail_find.new.self) c.begins_failing.ensures.held c.fail_find.ensures.held
    (unmade c.args.name.now (held c.args.self.now) c.args.self.now.kept)

pub returns-in-Ok-clause-room : goal.returns-in-Ok-clause-room
returns-in-Ok-clause-room c more size has = c.add.ensures.room more size (subst (HasRoom (more + 1) size) (sym c.begins_failing.ensures.room) has)

pub returns-in-Err-clause-room : goal.returns-in-Err-clause-room
returns-in-Err-clause-room c more size has =
    subst (HasRoom more size) (sym c.fail_find-in-Err.ensures.room) (c.add.ensures.room more size (subst (HasRoom (more + 1) size) (sym c.begins_failing.ensures.room) has))

pub returns-in-Ok-clause-ready : goal.returns-in-Ok-clause-ready
returns-in-Ok-clause-ready c more size ready short =
    let has : HasRoom (more + 1) size (room c.begins_failing.new.self) = subst (HasRoom (more + 1) size) (sym c.begins_failing.ensures.room) ready.has in (
      refl,
      record {
        unkept = ap (λ (h : Held). h.keep) (c.in-Ok.ensures.ok.1 ∙ ap (with_file c.args.name.now []) c.begins_failing.ensures.held) ∙ ready.unkept;
        unfailing = c.add.ensures.failing ∙ c.begins_failing.ensures.failing ∙ ready.unfailing;
        has = c.add.ensures.room more size has;
      },
    )

pub returns-in-Err-clause-ready : goal.returns-in-Err-clause-ready
returns-in-Err-clause-ready c more size ready short =
    let has : HasRoom (more + 1) size (room c.begins_failing.new.self) = subst (HasRoom (more + 1) size) (sym c.begins_failing.ensures.room) ready.has in
    let kept : c.begins_failing.new.self.keep ≡ false = ap (λ (h : Held). h.keep) c.begins_failing.ensures.held ∙ ready.unkept in
    absurd (cc (c.in-Err.ensures.sure more size has kept short (omega arith)))
