use Rattle.std.proofs.Common.{inl, refl}
use Rattle.std.proofs.lemmas.Bool.{false≢true}
use Rattle.std.specs.Prelude.{IsSome}
use Rattle.core_node.proofs.Causing.{quiet_causes, io_causes}
use Rattle.std.proofs.Math.Seq.{take-append_seam}
use Rattle.std.specs.Prelude.{is_ok, if◌then◌else◌}
use Rattle.disk_model.specs.World.{FileFailed}
use Rattle.disk_model.specs.Files.{reading}
use Rattle.disk_model.proofs.Laws.{length-reading}
use Rattle.std.proofs.Common.{Bool, true, take, ◌++◌, ◌≡◌, ℕ, List, length, sym, ap, subst, ◌∙◌}
use Rattle.core_events.specs.Views.{plain_request}
use Rattle.plain_model.specs.Machine.{next_number}
use Rattle.toy_core.specs.Toy.{IsBuilt}
use Rattle.toy_core.proofs.Cases.{failed_for, as_moved, read_steps, unread_steps, inside_read}
use Rattle.toy_core.proofs.toy.Toy.read.Goals as goal

-- the buffer holds what was read
filled : (len n : ℕ) (out rest file : List ℕ) (at wide other : ℕ) (ok : Bool) → len ≡ (if ok then n else other) → ok ≡ true → wide ≡ len → out ≡ reading file at wide → take len (out ++ rest) ≡ reading file at n
filled len n out rest file at wide other ok is well same read =
    let long : len ≡ n = is ∙ ap (λ (b : Bool). if b then n else other) well in
    let full : length out ≡ len = ap length read ∙ length-reading file at wide ∙ same in
    (rw (← full) (take-append_seam out rest)) ∙ read ∙ ap (λ (k : ℕ). reading file at k) (same ∙ long)

pub returns-in-Ok-clause-steps : goal.returns-in-Ok-clause-steps
returns-in-Ok-clause-steps g c = λ runs told.
    let t = c.args.self.now in
    let r = plain_request c.args.request.now in
    let old = g.D.Outside.world c.args.depot.now in
    let new = g.D.Outside.world c.read_at.new.self in
    let inside = inside_read t r c.requires.work c.requires.granted in
    as_moved c.saturating_add-self.result (next_number t.event) t.broken c.saturating_add-self.ensures
    (read_steps t r (subst IsBuilt (sym c.requires.work) tt) c.requires.whole c.requires.granted c.requires.work old new told c.read_at.ensures.run _ (filled _ _ _ _ _ _ _ _ _ c.resize.ensures.len (ap is_ok c.unwrap.ensures) c.as_mut_slice.ensures.len (c.in-Ok.ensures.bytes told)) inside.range)

pub returns-in-Err-clause-steps : goal.returns-in-Err-clause-steps
returns-in-Err-clause-steps g c = λ runs told.
    let t = c.args.self.now in
    let r = plain_request c.args.request.now in
    let old = g.D.Outside.world c.args.depot.now in
    let new = g.D.Outside.world c.read_at.new.self in
    as_moved c.saturating_add-self.result (next_number t.event) t.broken c.saturating_add-self.ensures
    (unread_steps t r (subst IsBuilt (sym c.requires.work) tt) c.requires.whole c.requires.granted c.requires.work old new told c.read_at.ensures.run c.in-Err.ensures.cause.0 c.in-Err.ensures.cause.1)

pub returns-in-Ok-clause-causes : goal.returns-in-Ok-clause-causes
returns-in-Ok-clause-causes g c = λ runs. quiet_causes refl (λ whole. refl) (λ refused. refused) c.saturating_add-self.ensures

pub returns-in-Err-clause-causes : goal.returns-in-Err-clause-causes
returns-in-Err-clause-causes g c = λ runs.
    let failed : FileFailed c.args.self.now.source.file.0 (g.D.Outside.world c.args.depot.now) (g.D.Outside.world c.read_at.new.self) =
    record { shared = c.in-Err.ensures.cause.0; own = inl c.in-Err.ensures.cause.1 } in
    io_causes failed (failed_for c.args.self.now (plain_request c.args.request.now) c.requires.granted failed)
    (λ whole broke. absurd (false≢true (subst IsSome whole broke))) c.saturating_add-self.ensures
