use Rattle.core_events.specs.Views.{plain_request}
use Rattle.drive_core.proofs.Images.{ImageOf, failed_zero, zeroed_well}
use Rattle.drive_core.proofs.requests.DriveServes.zero.Given as given
use Rattle.drive_core.proofs.requests.DriveServes.zero.Goals as goal

abbrev images : (g : given.Over) → ImageOf g.row.I.Denot
images g = record {
  facts = g.I.Image.facts;
  event = g.I.Image.event;
  broken = g.I.Image.broken;
  room = g.I.Image.room;
  space = g.I.Image.space;
  holds = g.I.Image.holds;
  knows = λ x. record { in_order = g.met.I.Image.in_order x; has_space = g.met.I.Image.has_space x; has_head = g.met.I.Image.has_head x; among = g.met.I.Image.among x; sizes = g.met.I.Image.sizes x };
  bare = g.met.I.Image.bare;
  same_space = g.met.I.Image.same_space;
}

pub returns-in-Ok : goal.returns-in-Ok
returns-in-Ok g c = record {
  answers = λ bytes runs. zeroed_well (images g) c.args.self.now.image c.begin.new.self.image c.zero.new.self c.args.self.now.event c.begin.new.self.event c.args.self.now.ended c.begin.new.self.ended
      (record { drive = c.begin.ensures.drive; event_is = c.begin.ensures.event; space = c.begin.ensures.space; holds = c.begin.ensures.holds }) (plain_request c.args.request.now) (g.D.Outside.world c.args.depot.now) (g.D.Outside.world c.zero.new.depot) c.requires.granted
      c.args.fua c.requires.work c.zero.result (record { writes = c.zero.ensures.writes; space = c.zero.ensures.space; breaks = c.zero.ensures.breaks; facts = c.zero.ensures.facts; event = c.zero.ensures.event; head = c.zero.ensures.head; run = c.zero.ensures.run })
      c.settle.new.self.image c.settle.new.self.event c.settle.new.self.ended c.settle.result (g.D.Outside.world c.settle.new.depot) (record { settles = c.settle.ensures.settles; space = c.settle.ensures.space; facts = c.settle.ensures.facts; event = c.settle.ensures.event; ended = c.settle.ensures.ended; run = c.settle.ensures.run }) c.zero.ensures.cleared c.zero.ensures.whole _ c.in-Ok.is bytes runs;
}

pub returns-in-Err : goal.returns-in-Err
returns-in-Err g c = record {
  answers = λ bytes runs. failed_zero (images g) c.args.self.now.image c.begin.new.self.image c.zero.new.self c.args.self.now.event c.begin.new.self.event c.args.self.now.ended c.begin.new.self.ended
      (record { drive = c.begin.ensures.drive; event_is = c.begin.ensures.event; space = c.begin.ensures.space; holds = c.begin.ensures.holds }) (plain_request c.args.request.now) (g.D.Outside.world c.args.depot.now) (g.D.Outside.world c.zero.new.depot) c.requires.granted
      c.args.fua c.requires.work c.zero.result (record { writes = c.zero.ensures.writes; space = c.zero.ensures.space; breaks = c.zero.ensures.breaks; facts = c.zero.ensures.facts; event = c.zero.ensures.event; head = c.zero.ensures.head; run = c.zero.ensures.run }) c.in-Err.ensures.failed;
}
