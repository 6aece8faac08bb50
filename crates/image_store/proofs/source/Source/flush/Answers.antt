use Rattle.std.proofs.Common.{◌≡◌, ◌≢◌, ℕ, ◌<◌, List, ◌∷◌, [], None, sym, ◌∙◌, ap, subst}
use Rattle.disk_model.specs.World.{World, Rose, FileFailed}
use Rattle.file_device.specs.Calls.{Synced}
use Rattle.image_model.specs.Clusters.{Shape, IsSafe, IsStanding, Moves}
use Rattle.image_store.specs.Images.{Image, file_of, Stands}
use Rattle.image_store.specs.Requests.{MayBreak}
use Rattle.image_store.proofs.Flushed.{breaks_by, flushed_ok, flushed_err, flushed_first, flushed_since}
use Rattle.image_store.proofs.source.Source.flush.Given.{Over}
use Rattle.image_store.proofs.source.Source.flush.Goals.{After-rest}
use Rattle.image_store.proofs.source.Source.flush.Goals as goal

module _ (g : Over) (c : After-rest g) where
  abbrev x : World
  x = g.D.Outside.world c.args.depot.now

  abbrev y : World
  y = g.D.Outside.world c.rest.new.depot

  at : c.self.inside.file.0 ≡ file_of c.args.self.now
  at = c.self.invariant.own ∙ ap file_of c.self.view_is

  synced : Synced (file_of c.args.self.now) x y c.rest.result
  synced = subst (λ (f : ℕ). Synced f x y c.rest.result) at c.rest.ensures.synced

  stays : (s : Shape) (disks : List (List ℕ)) (first last : ℕ) → Moves (file_of c.args.self.now) (IsSafe s disks) (IsStanding s disks first last (file_of c.args.self.now)) (IsStanding s disks first last (file_of c.args.self.now)) x y
  stays = subst (λ (f : ℕ). (s : Shape) (disks : List (List ℕ)) (first last : ℕ) → Moves f (IsSafe s disks) (IsStanding s disks first last f) (IsStanding s disks first last f) x y) at c.rest.ensures.stays

pub rest-requires : goal.rest-requires
rest-requires g c = record { given = subst (λ (f : ℕ). f < (g.D.Outside.world c.args.depot.now).given) (sym (c.self.invariant.own ∙ ap file_of c.self.view_is)) c.requires.given }

pub returns-in-Ok-clause-done : goal.returns-in-Ok-clause-done
returns-in-Ok-clause-done g c disk mixed is =
    let r = (goal.at.returns-in-Ok-clause-done g c).After-rest in
    flushed_ok c.args.self.now (synced g r) (stays g r) is
    (subst (λ (f : ℕ). (s : Shape) (disks : List (List ℕ)) (first last : ℕ) → Moves f (IsSafe s disks) (IsStanding s disks first last f) (IsStanding s ((y g r).seen f ∷ []) first last f) (x g r) (y g r)) (at g r) c.in-Ok.ensures.one)

pub returns-in-Ok-clause-first : goal.returns-in-Ok-clause-first
returns-in-Ok-clause-first g c disk mixed told is = let r = (goal.at.returns-in-Ok-clause-first g c).After-rest in flushed_first c.args.self.now (synced g r) (stays g r) is told

pub returns-in-Ok-clause-since : goal.returns-in-Ok-clause-since
returns-in-Ok-clause-since g c disk mixed is = let r = (goal.at.returns-in-Ok-clause-since g c).After-rest in flushed_since c.args.self.now (synced g r) (stays g r) is

pub returns-in-Ok-clause-run : goal.returns-in-Ok-clause-run
returns-in-Ok-clause-run g c = (synced g (goal.at.returns-in-Ok-clause-run g c).After-rest).puts.calls.run

pub returns-in-Err-clause-undone : goal.returns-in-Err-clause-undone
returns-in-Err-clause-undone g c disk mixed is =
    let r = (goal.at.returns-in-Err-clause-undone g c).After-rest in
    subst (λ (j : Image). Stands j disk mixed (y g r)) (sym c.breaks.ensures) (flushed_err c.args.self.now (synced g r) (stays g r) is)

pub returns-in-Err-clause-first : goal.returns-in-Err-clause-first
returns-in-Err-clause-first g c disk mixed told is = let r = (goal.at.returns-in-Err-clause-first g c).After-rest in flushed_first c.args.self.now (synced g r) (stays g r) is told

pub returns-in-Err-clause-since : goal.returns-in-Err-clause-since
returns-in-Err-clause-since g c disk mixed is = let r = (goal.at.returns-in-Err-clause-since g c).After-rest in flushed_since c.args.self.now (synced g r) (stays g r) is

pub returns-in-Err-clause-breaks : goal.returns-in-Err-clause-breaks
returns-in-Err-clause-breaks g c =
    let r = (goal.at.returns-in-Err-clause-breaks g c).After-rest in
    subst (λ (j : Image). MayBreak c.args.self.now j (x g r) (y g r) × (j.broken ≢ None)) (sym c.breaks.ensures)
    (breaks_by c.args.self.now (x g r) (y g r) (subst (λ (f : ℕ). Rose (x g r).faults.shared (y g r).faults.shared × Rose ((x g r).faults.writes f) ((y g r).faults.writes f)) (at g r) c.in-Err.ensures.synced.puts.cause))

pub returns-in-Err-clause-failed : goal.returns-in-Err-clause-failed
returns-in-Err-clause-failed g c =
    let r = (goal.at.returns-in-Err-clause-failed g c).After-rest in
    subst (λ (f : ℕ). FileFailed f (x g r) (y g r)) (at g r) c.in-Err.ensures.synced.puts.calls.cause

pub returns-in-Err-clause-run : goal.returns-in-Err-clause-run
returns-in-Err-clause-run g c = (synced g (goal.at.returns-in-Err-clause-run g c).After-rest).puts.calls.run
