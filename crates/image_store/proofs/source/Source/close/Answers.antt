use Rattle.std.proofs.Common.{◌≡◌, ℕ, List, None, IsTrue, rules, refl, ap, subst}
use Rattle.disk_model.specs.World.{World, EachSince, Holds}
use Rattle.disk_model.proofs.Laws.{since_now}
use Rattle.file_device.specs.File.{IsSettled}
use Rattle.file_device.specs.File as files
use Rattle.image_store.specs.Closing.{IsAtRest}
use Rattle.image_store.specs.Images.{Image, file_of, IsInOrder, IsMixture, HasFirst, KeepsFirst, Stands}
use Rattle.image_store.specs.Inside.{image_of}
use Rattle.image_store.proofs.Closed.{closed_since, closed_first, closed_seen, closed_done}
use Rattle.image_store.proofs.First.{has_first}
use Rattle.image_store.proofs.Stood.{standing_is_in_order}
use Rattle.image_store.proofs.source.Source.close.Given.{Over}
use Rattle.image_store.proofs.source.Source.close.Goals.{After-settle}
use Rattle.image_store.proofs.source.Source.close.Goals as goal

module _ (g : Over) (c : After-settle g) where
  abbrev x : World
  x = g.D.Outside.world c.args.depot.now

  abbrev y : World
  y = g.D.Outside.world c.settle.new.depot

  whole : c.self.inside.broken ≡ None
  whole = search rules

  same_file : c.settle.new.self.file ≡ c.self.inside.clusters.file
  same_file = ap (λ a. a.file) c.settle.ensures.pool

  since : (disk : List ℕ) (mixed : List (List ℕ)) → Stands c.args.self disk mixed x → EachSince y x.now (file_of c.args.self) (IsMixture c.args.self.id c.args.self.epoch mixed)
  since = subst (λ (i : Image). (disk : List ℕ) (mixed : List (List ℕ)) → Stands i disk mixed x → EachSince y x.now (file_of i) (IsMixture i.id i.epoch mixed)) c.self.view_is (λ disk mixed is.
      closed_since (image_of c.self.inside) c.settle.new.self c.settle.ensures.puts.calls.run c.self.invariant.mapping same_file c.settle.ensures.moves c.settle.ensures.leaves is whole)

  seen : (disk : List ℕ) (mixed : List (List ℕ)) → IsTrue x.tells → Stands c.args.self disk mixed x → IsInOrder c.args.self.id c.args.self.epoch disk (y.seen (file_of c.args.self))
  seen = subst (λ (i : Image). (disk : List ℕ) (mixed : List (List ℕ)) → IsTrue x.tells → Stands i disk mixed x → IsInOrder i.id i.epoch disk (y.seen (file_of i))) c.self.view_is (λ disk mixed told is.
      closed_seen (image_of c.self.inside) c.settle.new.self c.settle.ensures.puts.calls.run c.self.invariant.mapping same_file c.settle.ensures.moves c.settle.ensures.leaves is whole told)

  first : (disk : List ℕ) (mixed : List (List ℕ)) → IsTrue x.tells → Stands c.args.self disk mixed x → KeepsFirst c.args.self x y
  first = subst (λ (i : Image). (disk : List ℕ) (mixed : List (List ℕ)) → IsTrue x.tells → Stands i disk mixed x → KeepsFirst i x y) c.self.view_is (λ disk mixed told is.
      closed_first (image_of c.self.inside) c.settle.new.self c.settle.ensures.puts.calls.run c.self.invariant.mapping same_file c.settle.ensures.moves c.settle.ensures.leaves is whole told)

pub returns-in-Some-clause-first : goal.returns-in-Some-clause-first
returns-in-Some-clause-first g c disk mixed told is =
    let x = g.D.Outside.world c.args.depot.now in
    record { since = since_now x (file_of c.args.self) (HasFirst c.args.self (x.seen (file_of c.args.self))) (has_first c.args.self is told); seen = λ k below. refl }

pub returns-in-Ok-clause-first : goal.returns-in-Ok-clause-first
returns-in-Ok-clause-first g c = first g (goal.at.returns-in-Ok-clause-first g c).After-settle

pub returns-clause-first : goal.returns-clause-first
returns-clause-first g c = first g (goal.at.returns-clause-first g c).After-settle

pub returns-in-Some-clause-since : goal.returns-in-Some-clause-since
returns-in-Some-clause-since g c disk mixed is =
    let x = g.D.Outside.world c.args.depot.now in
    since_now x (file_of c.args.self) (IsMixture c.args.self.id c.args.self.epoch mixed) (standing_is_in_order c.args.self disk mixed x is).each

pub returns-in-Some-clause-seen : goal.returns-in-Some-clause-seen
returns-in-Some-clause-seen g c disk mixed told is = (standing_is_in_order c.args.self disk mixed (g.D.Outside.world c.args.depot.now) is).seen told

pub returns-in-Ok-clause-since : goal.returns-in-Ok-clause-since
returns-in-Ok-clause-since g c = since g (goal.at.returns-in-Ok-clause-since g c).After-settle

pub returns-in-Ok-clause-seen : goal.returns-in-Ok-clause-seen
returns-in-Ok-clause-seen g c = seen g (goal.at.returns-in-Ok-clause-seen g c).After-settle

pub returns-in-Ok-clause-done : goal.returns-in-Ok-clause-done
returns-in-Ok-clause-done g c =
    let r = (goal.at.returns-in-Ok-clause-done g c).After-settle in
    subst (λ (i : Image). (disk : List ℕ) (mixed : List (List ℕ)) → IsTrue (x g r).tells → Stands i disk mixed (x g r) → Holds (file_of i) (IsAtRest i disk) (IsAtRest i disk) (y g r)) c.self.view_is
    (λ disk mixed told is.
    closed_done (image_of c.self.inside) c.settle.new.self c.settle.ensures.puts.calls.run c.self.invariant.mapping (same_file g r) c.settle.ensures.moves c.settle.ensures.leaves is (whole g r) c.in-Ok.ensures.counts told
    (subst (λ (f : ℕ). IsSettled (files.file_of (y g r) f)) c.self.invariant.file c.in-Ok.ensures.settled))

pub returns-clause-since : goal.returns-clause-since
returns-clause-since g c = since g (goal.at.returns-clause-since g c).After-settle

pub returns-clause-seen : goal.returns-clause-seen
returns-clause-seen g c = seen g (goal.at.returns-clause-seen g c).After-settle
