use Rattle.core_events.specs.Views.{plain_request}
use Rattle.drive_core.proofs.Called.{flush_call, unflushed_call}
use Rattle.drive_core.proofs.Images.{ImageOf}
use Rattle.drive_core.proofs.requests.DriveServes.flush.Given as given
use Rattle.drive_core.proofs.requests.DriveServes.flush.Goals as goal

abbrev images : (g : given.Over) → ImageOf g.row.I.Denot
images g = record {
  facts = g.I.Image.facts;
  event = g.I.Image.event;
  broken = g.I.Image.broken;
  room = g.I.Image.room;
  space = g.I.Image.space;
  holds = g.I.Image.holds;
  knows = λ x. record { in_order = g.met.I.Image.in_order x; has_space = g.met.I.Image.has_space x; has_head = g.met.I.Image.has_head x; among = g.met.I.Image.among x; sizes = g.met.I.Image.sizes x };
  bare = g.met.I.Image.bare;
  same_space = g.met.I.Image.same_space;
}

pub returns-in-Ok : goal.returns-in-Ok
returns-in-Ok g c = record {
  answers = λ bytes runs. flush_call (images g) c.args.self.now.image c.begin.new.self.image c.args.self.now.event c.begin.new.self.event c.args.self.now.ended c.begin.new.self.ended
      (record { drive = c.begin.ensures.drive; event_is = c.begin.ensures.event; space = c.begin.ensures.space; holds = c.begin.ensures.holds })
      (plain_request c.args.request.now) (g.D.Outside.world c.args.depot.now) (g.D.Outside.world c.sync.new.depot) c.requires.granted
      c.requires.work c.sync.new.self c.sync.ensures.facts c.sync.ensures.run c.sync.ensures.since c.sync.ensures.head c.sync.ensures.space c.in-Ok.ensures.done c.in-Ok.ensures.whole;
}

pub returns-in-Err : goal.returns-in-Err
returns-in-Err g c = record {
  answers = λ bytes runs. unflushed_call (images g) c.args.self.now.image c.begin.new.self.image c.args.self.now.event c.begin.new.self.event c.args.self.now.ended c.begin.new.self.ended
      (record { drive = c.begin.ensures.drive; event_is = c.begin.ensures.event; space = c.begin.ensures.space; holds = c.begin.ensures.holds })
      (plain_request c.args.request.now) (g.D.Outside.world c.args.depot.now) (g.D.Outside.world c.sync.new.depot) c.requires.granted
      c.requires.work c.sync.new.self c.sync.ensures.facts c.sync.ensures.run c.sync.ensures.since c.sync.ensures.head c.sync.ensures.space c.in-Err.ensures.undone c.in-Err.ensures.breaks c.in-Err.ensures.failed;
}
