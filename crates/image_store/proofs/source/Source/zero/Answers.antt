use Rattle.std.proofs.Common.{◌≡◌, ℕ, ◌+◌, ◌≤◌, List, length, replicate, Option, Some, None, IsTrue, sym, ap, ◌∙◌, subst, arith}
use Rattle.std.specs.Option.{option_or}
use Rattle.std.proofs.lemmas.List.{length-replicate}
use Rattle.disk_model.specs.World.{World}
use Rattle.image_model.specs.Space.{Store, store_zeroed}
use Rattle.cluster_pool.specs.Pool.{room}
use Rattle.qc_alloc.specs.Allocator.{Allocator}
use Rattle.qc_map.specs.Altering.{KnowsOn, Always}
use Rattle.qc_map.specs.Changing.{Change, zero_of}
use Rattle.qc_map.specs.Mapping.{Mapping}
use Rattle.image_store.specs.Images.{Image, Stands, HasSpace}
use Rattle.image_store.specs.Images as images
use Rattle.image_store.specs.Inside.{image_of}
use Rattle.image_store.specs.Requests.{disk_now, Leaves, SpendsUpTo}
use Rattle.image_store.proofs.Called.{none_broken, after, leaves, is_done, spends, spent}
use Rattle.image_store.proofs.source.Source.zero.Given.{Over}
use Rattle.image_store.proofs.source.Source.zero.Goals.{After-zero}
use Rattle.image_store.proofs.source.Source.zero.Goals as goal

module _ (g : Over) (c : After-zero g) where
  abbrev x : World
  x = g.D.Outside.world c.args.depot.now

  abbrev y : World
  y = g.D.Outside.world c.zero.new.depot

  abbrev i : Image
  i = image_of c.self.inside

  abbrev a : Allocator
  a = c.zero.new.clusters

  abbrev m : Mapping
  m = c.zero.new.self

  abbrev n : ℕ
  n = c.args.length

  abbrev e : Change
  e = zero_of i.map.size c.args.at n

  long : length {A = ℕ} (replicate n 0) ≡ n
  long = length-replicate n 0

  fits : c.args.at + length {A = ℕ} (replicate n 0) ≤ i.map.size
  fits = subst (λ (k : ℕ). c.args.at + k ≤ i.map.size) (sym long) (subst (λ (k : Image). c.args.at + n ≤ k.map.size) (sym c.self.view_is) c.requires.inside)

  left_by : (b : Option ℕ) → (b ≡ None → (i.broken ≡ None) × KnowsOn i.map Always i.clusters a x y) → (disk : List ℕ) (mixed : List (List ℕ)) → IsTrue x.tells → Stands c.args.self.now disk mixed x
      → Leaves c.args.self.now (after i m a b) c.args.at (replicate n 0) (disk_now c.args.self.now c.args.at n y) disk mixed x y
  left_by b knows = subst (λ (k : Image). (disk : List ℕ) (mixed : List (List ℕ)) → IsTrue x.tells → Stands k disk mixed x → Leaves k (after i m a b) c.args.at (replicate n 0) (disk_now k c.args.at n y) disk mixed x y) c.self.view_is
      (λ disk mixed told is. subst (λ (k : ℕ). Leaves i (after i m a b) c.args.at (replicate n 0) (disk_now i c.args.at k y) disk mixed x y) long
      (leaves i a b e c.zero.ensures.changes c.self.invariant.mapping fits told is knows c.zero.ensures.image.file (g.met.D.Depot.sound _) (subst IsTrue (sym c.zero.ensures.went.run.goes.tells) told) m c.zero.ensures.same))

  space_by : (b : Option ℕ) (disk : List ℕ) (mixed : List (List ℕ)) (was next : Store) → IsTrue x.tells → Stands c.args.self.now disk mixed x → HasSpace c.args.self.now (x.seen (images.file_of c.args.self.now)) was
      → HasSpace (after i m a b) (y.seen (images.file_of c.args.self.now)) next → SpendsUpTo was (store_zeroed c.args.self.now.map.size was (record { at = c.args.at; size = n })) next 0
  space_by b = subst (λ (k : Image). (disk : List ℕ) (mixed : List (List ℕ)) (was next : Store) → IsTrue x.tells → Stands k disk mixed x → HasSpace k (x.seen (images.file_of k)) was
      → HasSpace (after i m a b) (y.seen (images.file_of k)) next → SpendsUpTo was (store_zeroed k.map.size was (record { at = c.args.at; size = n })) next 0) c.self.view_is
      (λ disk mixed was next told is has now_has.
      let same : room a.pool ≡ room i.clusters.pool = c.zero.ensures.room is.shape is.versions is.image.0 is.is_map is.image.1 is.image.2 told in
      spends i a b e c.zero.ensures.changes c.self.invariant.mapping fits told is was has next 0 m c.zero.ensures.same now_has (record { least = omega (arith, same); most = omega (arith, same) }))

pub returns-in-Ok-clause-leaves : goal.returns-in-Ok-clause-leaves
returns-in-Ok-clause-leaves g c =
    left_by g (goal.at.returns-in-Ok-clause-leaves g c).After-zero c.self.inside.broken (λ none. (none, c.zero.ensures.known (λ e. let is = c.in-Ok.is in cc)))

pub returns-in-Ok-clause-done : goal.returns-in-Ok-clause-done
returns-in-Ok-clause-done g c =
    let w = (goal.at.returns-in-Ok-clause-done g c).After-zero in
    subst (λ (k : Image). (disk : List ℕ) (mixed : List (List ℕ)) → IsTrue (x g w).tells → Stands k disk mixed (x g w) → disk_now k c.args.at (n g w) (y g w) ≡ replicate (n g w) 0) c.self.view_is
    (λ disk mixed told is. ap (λ (k : ℕ). disk_now (i g w) c.args.at k (y g w)) (sym (long g w))
    ∙ is_done (i g w) (a g w) None (e g w) c.zero.ensures.changes c.self.invariant.mapping (fits g w) told is c.in-Ok.ensures.done)

pub returns-in-Ok-clause-space : goal.returns-in-Ok-clause-space
returns-in-Ok-clause-space g c = space_by g (goal.at.returns-in-Ok-clause-space g c).After-zero c.self.inside.broken

pub returns-in-Ok-clause-cleared : goal.returns-in-Ok-clause-cleared
unfolding store_zeroed
returns-in-Ok-clause-cleared g c =
    let w = (goal.at.returns-in-Ok-clause-cleared g c).After-zero in
    subst (λ (k : Image). (disk : List ℕ) (mixed : List (List ℕ)) (was : Store) → IsTrue (x g w).tells → Stands k disk mixed (x g w) → HasSpace k ((x g w).seen (images.file_of k)) was
    → HasSpace (after (i g w) (m g w) (a g w) c.self.inside.broken) ((y g w).seen (images.file_of k)) (store_zeroed k.map.size was (record { at = c.args.at; size = n g w }))) c.self.view_is
    (λ disk mixed was told is has.
    let same : room (a g w).pool ≡ room (i g w).clusters.pool = c.zero.ensures.room is.shape is.versions is.image.0 is.is_map is.image.1 is.image.2 told in
    spent (i g w) (a g w) c.self.inside.broken (e g w) c.zero.ensures.changes c.self.invariant.mapping (fits g w) told is was has c.in-Ok.ensures.done (omega (arith, same, has.room)) (m g w) c.zero.ensures.same)

pub returns-in-Err-Data-clause-leaves : goal.returns-in-Err-Data-clause-leaves
returns-in-Err-Data-clause-leaves g c =
    left_by g (goal.at.returns-in-Err-Data-clause-leaves g c).After-zero c.self.inside.broken
    (λ none. (none, c.zero.ensures.known (λ e. let is = c.in-Err-Data.is in let what = c.in-Err-Data.field-0-is in cc)))

pub returns-in-Err-Data-clause-space : goal.returns-in-Err-Data-clause-space
returns-in-Err-Data-clause-space g c = space_by g (goal.at.returns-in-Err-Data-clause-space g c).After-zero c.self.inside.broken

pub returns-in-Err-Tables-clause-leaves : goal.returns-in-Err-Tables-clause-leaves
returns-in-Err-Tables-clause-leaves g c =
    let w = (goal.at.returns-in-Err-Tables-clause-leaves g c).After-zero in
    subst (λ (j : Image). (disk : List ℕ) (mixed : List (List ℕ)) → IsTrue (x g w).tells → Stands c.args.self.now disk mixed (x g w) → Leaves c.args.self.now j c.args.at (replicate (n g w) 0) (disk_now c.args.self.now c.args.at (n g w) (y g w)) disk mixed (x g w) (y g w))
    (sym c.breaks.ensures)
    (left_by g w (option_or c.self.inside.broken (Some c.self.inside.event)) (λ none. absurd (none_broken c.self.inside.broken c.self.inside.event none)))

pub returns-in-Err-Tables-clause-space : goal.returns-in-Err-Tables-clause-space
returns-in-Err-Tables-clause-space g c =
    let w = (goal.at.returns-in-Err-Tables-clause-space g c).After-zero in
    subst (λ (j : Image). (disk : List ℕ) (mixed : List (List ℕ)) (was next : Store) → IsTrue (x g w).tells → Stands c.args.self.now disk mixed (x g w) → HasSpace c.args.self.now ((x g w).seen (images.file_of c.args.self.now)) was
    → HasSpace j ((y g w).seen (images.file_of c.args.self.now)) next → SpendsUpTo was (store_zeroed c.args.self.now.map.size was (record { at = c.args.at; size = n g w })) next 0)
    (sym c.breaks.ensures) (space_by g w (option_or c.self.inside.broken (Some c.self.inside.event)))
