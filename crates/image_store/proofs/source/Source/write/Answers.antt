use Rattle.std.proofs.Common.{◌≡◌, ℕ, ◌+◌, ◌<◌, ◌≤◌, List, length, Option, Some, None, IsTrue, sym, ap, ◌∙◌, subst, arith}
use Rattle.std.specs.Option.{option_or}
use Rattle.disk_model.specs.World.{World}
use Rattle.file_device.specs.File.{File, file_of}
use Rattle.image_model.specs.Space.{Store, need, store_written}
use Rattle.cluster_pool.specs.Pool.{room}
use Rattle.qc_alloc.specs.Allocator.{Allocator}
use Rattle.qc_map.specs.Altering.{KnowsOn, Always}
use Rattle.qc_map.specs.Changing.{Change, write_of, extent_of}
use Rattle.qc_map.specs.Mapping.{Mapping}
use Rattle.image_store.specs.Images.{Image, Stands, HasSpace}
use Rattle.image_store.specs.Images as images
use Rattle.image_store.specs.Inside.{image_of}
use Rattle.image_store.specs.Requests.{disk_now, Leaves, SpendsUpTo}
use Rattle.image_store.proofs.Called.{none_broken, after, leaves, is_done, has_was, spends, spent}
use Rattle.image_store.proofs.source.Source.write.Given.{Over}
use Rattle.image_store.proofs.source.Source.write.Goals.{After-write}
use Rattle.image_store.proofs.source.Source.write.Goals as goal

module _ (g : Over) (c : After-write g) where
  abbrev x : World
  x = g.D.Outside.world c.args.depot.now

  abbrev y : World
  y = g.D.Outside.world c.write.new.depot

  abbrev i : Image
  i = image_of c.self.inside

  abbrev a : Allocator
  a = c.write.new.clusters

  abbrev m : Mapping
  m = c.write.new.self

  abbrev e : Change
  e = write_of c.args.at c.args.bytes.now

  abbrev n : ℕ
  n = length c.args.bytes.now

  fits : c.args.at + n ≤ i.map.size
  fits = subst (λ (k : Image). c.args.at + n ≤ k.map.size) (sym c.self.view_is) c.requires.inside

  left_by : (b : Option ℕ) → (b ≡ None → (i.broken ≡ None) × KnowsOn i.map Always i.clusters a x y) → (disk : List ℕ) (mixed : List (List ℕ)) → IsTrue x.tells → Stands c.args.self.now disk mixed x
      → Leaves c.args.self.now (after i m a b) c.args.at c.args.bytes.now (disk_now c.args.self.now c.args.at n y) disk mixed x y
  left_by b knows = subst (λ (k : Image). (disk : List ℕ) (mixed : List (List ℕ)) → IsTrue x.tells → Stands k disk mixed x → Leaves k (after i m a b) c.args.at c.args.bytes.now (disk_now k c.args.at n y) disk mixed x y) c.self.view_is
      (λ disk mixed told is. leaves i a b e c.write.ensures.changes c.self.invariant.mapping fits told is knows c.write.ensures.image.file (g.met.D.Depot.sound _) (subst IsTrue (sym c.write.ensures.went.run.goes.tells) told) m c.write.ensures.same)

  space_by : (b : Option ℕ) (disk : List ℕ) (mixed : List (List ℕ)) (was next : Store) → IsTrue x.tells → Stands c.args.self.now disk mixed x → HasSpace c.args.self.now (x.seen (images.file_of c.args.self.now)) was
      → HasSpace (after i m a b) (y.seen (images.file_of c.args.self.now)) next → SpendsUpTo was (store_written was (extent_of c.args.at c.args.bytes.now)) next (need was (extent_of c.args.at c.args.bytes.now))
  space_by b = subst (λ (k : Image). (disk : List ℕ) (mixed : List (List ℕ)) (was next : Store) → IsTrue x.tells → Stands k disk mixed x → HasSpace k (x.seen (images.file_of k)) was
      → HasSpace (after i m a b) (y.seen (images.file_of k)) next → SpendsUpTo was (store_written was (extent_of c.args.at c.args.bytes.now)) next (need was (extent_of c.args.at c.args.bytes.now))) c.self.view_is
      (λ disk mixed was next told is has now_has. spends i a b e c.write.ensures.changes c.self.invariant.mapping fits told is was has next (need was (extent_of c.args.at c.args.bytes.now)) m c.write.ensures.same now_has
      (c.write.ensures.uses is.shape is.versions is.image.0 is.is_map is.image.1 is.image.2 told was (has_was i a b e c.write.ensures.changes c.self.invariant.mapping fits told is was has)))

pub returns-in-Ok-clause-leaves : goal.returns-in-Ok-clause-leaves
returns-in-Ok-clause-leaves g c =
    left_by g (goal.at.returns-in-Ok-clause-leaves g c).After-write c.self.inside.broken (λ none. (none, c.write.ensures.known (λ e. let is = c.in-Ok.is in cc)))

pub returns-in-Ok-clause-done : goal.returns-in-Ok-clause-done
returns-in-Ok-clause-done g c =
    let w = (goal.at.returns-in-Ok-clause-done g c).After-write in
    subst (λ (k : Image). (disk : List ℕ) (mixed : List (List ℕ)) → IsTrue (x g w).tells → Stands k disk mixed (x g w) → disk_now k c.args.at (n g w) (y g w) ≡ c.args.bytes.now) c.self.view_is
    (λ disk mixed told is. is_done (i g w) (a g w) None (e g w) c.write.ensures.changes c.self.invariant.mapping (fits g w) told is c.in-Ok.ensures.done)

pub returns-in-Ok-clause-space : goal.returns-in-Ok-clause-space
returns-in-Ok-clause-space g c = space_by g (goal.at.returns-in-Ok-clause-space g c).After-write c.self.inside.broken

pub returns-in-Ok-clause-spent : goal.returns-in-Ok-clause-spent
unfolding store_written
returns-in-Ok-clause-spent g c =
    let w = (goal.at.returns-in-Ok-clause-spent g c).After-write in
    subst (λ (k : Image). (disk : List ℕ) (mixed : List (List ℕ)) (was : Store) → IsTrue (x g w).tells → Stands k disk mixed (x g w) → HasSpace k ((x g w).seen (images.file_of k)) was
    → (need was (extent_of c.args.at c.args.bytes.now) ≤ was.room) × HasSpace (after (i g w) (m g w) (a g w) c.self.inside.broken) ((y g w).seen (images.file_of k)) (store_written was (extent_of c.args.at c.args.bytes.now))) c.self.view_is
    (λ disk mixed was told is has.
    let needed : room (a g w).pool + need was (extent_of c.args.at c.args.bytes.now) ≡ room (i g w).clusters.pool =
    c.in-Ok.ensures.room is.shape is.versions is.image.0 is.is_map is.image.1 is.image.2 told was (has_was (i g w) (a g w) None (e g w) c.write.ensures.changes c.self.invariant.mapping (fits g w) told is was has) in (
      omega (arith, needed, has.room),
      spent (i g w) (a g w) c.self.inside.broken (e g w) c.write.ensures.changes c.self.invariant.mapping (fits g w) told is was has c.in-Ok.ensures.done (omega (arith, needed, has.room)) (m g w) c.write.ensures.same,
    ))

pub returns-in-Err-NoRoom-clause-leaves : goal.returns-in-Err-NoRoom-clause-leaves
returns-in-Err-NoRoom-clause-leaves g c =
    left_by g (goal.at.returns-in-Err-NoRoom-clause-leaves g c).After-write c.self.inside.broken (λ none. (none, c.write.ensures.known (λ e. let is = c.in-Err-NoRoom.is in let what = c.in-Err-NoRoom.field-0-is in cc)))

pub returns-in-Err-NoRoom-clause-space : goal.returns-in-Err-NoRoom-clause-space
returns-in-Err-NoRoom-clause-space g c = space_by g (goal.at.returns-in-Err-NoRoom-clause-space g c).After-write c.self.inside.broken

pub returns-in-Err-NoRoom-clause-short : goal.returns-in-Err-NoRoom-clause-short
returns-in-Err-NoRoom-clause-short g c _ =
    let w = (goal.at.returns-in-Err-NoRoom-clause-short g c).After-write in
    subst (λ (k : Image). (disk : List ℕ) (mixed : List (List ℕ)) (was : Store) → IsTrue (x g w).tells → Stands k disk mixed (x g w) → HasSpace k ((x g w).seen (images.file_of k)) was → was.room < need was (extent_of c.args.at c.args.bytes.now)) c.self.view_is
    (λ disk mixed was told is has.
    let short = c.write.ensures.short (let is = c.in-Err-NoRoom.is in let what = c.in-Err-NoRoom.field-0-is in cc) is.shape is.versions is.image.0 is.is_map is.image.1 is.image.2 told was (has_was (i g w) (a g w) None (e g w) c.write.ensures.changes c.self.invariant.mapping (fits g w) told is was has) in
    omega (arith, short, has.room))

pub returns-in-Err-NoRoom-clause-kept : goal.returns-in-Err-NoRoom-clause-kept
unfolding file_of
returns-in-Err-NoRoom-clause-kept g c _ =
    let w = (goal.at.returns-in-Err-NoRoom-clause-kept g c).After-write in
    subst (λ (k : Image). (disk : List ℕ) (mixed : List (List ℕ)) → IsTrue (x g w).tells → Stands k disk mixed (x g w) → (after (i g w) (m g w) (a g w) c.self.inside.broken ≡ k) × ((y g w).seen (images.file_of k) ≡ (x g w).seen (images.file_of k))) c.self.view_is
    (λ disk mixed told is.
    let kept = c.write.ensures.kept (let is = c.in-Err-NoRoom.is in let what = c.in-Err-NoRoom.field-0-is in cc) is.shape is.versions is.image.0 is.is_map is.image.1 is.image.2 told in (
      ap (λ (k : Mapping). after (i g w) k (a g w) c.self.inside.broken) c.write.ensures.same ∙ ap (λ (k : Allocator). after (i g w) (i g w).map k c.self.inside.broken) kept.0,
      ap (λ (file : File). file.bytes) kept.1,
    ))

pub returns-in-Err-Failed-Data-clause-leaves : goal.returns-in-Err-Failed-Data-clause-leaves
returns-in-Err-Failed-Data-clause-leaves g c =
    left_by g (goal.at.returns-in-Err-Failed-Data-clause-leaves g c).After-write c.self.inside.broken
    (λ none. (none, c.write.ensures.known (λ e. let is = c.in-Err-Failed-Data.is in let what = c.in-Err-Failed-Data.field-0-is in cc)))

pub returns-in-Err-Failed-Data-clause-space : goal.returns-in-Err-Failed-Data-clause-space
returns-in-Err-Failed-Data-clause-space g c = space_by g (goal.at.returns-in-Err-Failed-Data-clause-space g c).After-write c.self.inside.broken

pub returns-in-Err-Failed-Tables-clause-leaves : goal.returns-in-Err-Failed-Tables-clause-leaves
returns-in-Err-Failed-Tables-clause-leaves g c =
    let w = (goal.at.returns-in-Err-Failed-Tables-clause-leaves g c).After-write in
    subst (λ (j : Image). (disk : List ℕ) (mixed : List (List ℕ)) → IsTrue (x g w).tells → Stands c.args.self.now disk mixed (x g w) → Leaves c.args.self.now j c.args.at c.args.bytes.now (disk_now c.args.self.now c.args.at (n g w) (y g w)) disk mixed (x g w) (y g w))
    (sym c.breaks.ensures)
    (left_by g w (option_or c.self.inside.broken (Some c.self.inside.event)) (λ none. absurd (none_broken c.self.inside.broken c.self.inside.event none)))

pub returns-in-Err-Failed-Tables-clause-space : goal.returns-in-Err-Failed-Tables-clause-space
returns-in-Err-Failed-Tables-clause-space g c =
    let w = (goal.at.returns-in-Err-Failed-Tables-clause-space g c).After-write in
    subst (λ (j : Image). (disk : List ℕ) (mixed : List (List ℕ)) (was next : Store) → IsTrue (x g w).tells → Stands c.args.self.now disk mixed (x g w) → HasSpace c.args.self.now ((x g w).seen (images.file_of c.args.self.now)) was
    → HasSpace j ((y g w).seen (images.file_of c.args.self.now)) next → SpendsUpTo was (store_written was (extent_of c.args.at c.args.bytes.now)) next (need was (extent_of c.args.at c.args.bytes.now)))
    (sym c.breaks.ensures) (space_by g w (option_or c.self.inside.broken (Some c.self.inside.event)))
