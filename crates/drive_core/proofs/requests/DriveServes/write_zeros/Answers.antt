use Rattle.core_events.specs.Views.{plain_request}
use Rattle.drive_core.proofs.Images.{ImageOf, failed_store, short_store, stored}
use Rattle.drive_core.proofs.Works.{zeros_are}
use Rattle.drive_core.proofs.requests.DriveServes.write_zeros.Given as given
use Rattle.drive_core.proofs.requests.DriveServes.write_zeros.Goals as goal

abbrev images : (g : given.Over) → ImageOf g.row.I.Denot
images g = record {
  facts = g.I.Image.facts;
  event = g.I.Image.event;
  broken = g.I.Image.broken;
  room = g.I.Image.room;
  space = g.I.Image.space;
  holds = g.I.Image.holds;
  knows = λ x. record { in_order = g.met.I.Image.in_order x; has_space = g.met.I.Image.has_space x; has_head = g.met.I.Image.has_head x; among = g.met.I.Image.among x; sizes = g.met.I.Image.sizes x };
  bare = g.met.I.Image.bare;
  same_space = g.met.I.Image.same_space;
}

pub returns-in-Ok : goal.returns-in-Ok
returns-in-Ok g c = record {
  answers = λ bytes runs. stored (images g) c.args.self.now.image c.begin.new.self.image c.write_zeros.new.self c.args.self.now.event c.begin.new.self.event c.args.self.now.ended c.begin.new.self.ended
      (record { drive = c.begin.ensures.drive; event_is = c.begin.ensures.event; space = c.begin.ensures.space; holds = c.begin.ensures.holds }) (plain_request c.args.request.now) (g.D.Outside.world c.args.depot.now) (g.D.Outside.world c.write_zeros.new.depot) c.requires.granted
      c.args.fua _ _ (zeros_are (plain_request c.args.request.now) c.args.fua c.requires.work) c.write_zeros.result (record { writes = c.write_zeros.ensures.writes; space = c.write_zeros.ensures.space; breaks = c.write_zeros.ensures.breaks; facts = c.write_zeros.ensures.facts; event = c.write_zeros.ensures.event; head = c.write_zeros.ensures.head; run = c.write_zeros.ensures.run }) c.write_zeros.ensures.kept
      c.settle.new.self.image c.settle.new.self.event c.settle.new.self.ended c.settle.result (g.D.Outside.world c.settle.new.depot) (record { settles = c.settle.ensures.settles; space = c.settle.ensures.space; facts = c.settle.ensures.facts; event = c.settle.ensures.event; ended = c.settle.ensures.ended; run = c.settle.ensures.run }) c.write_zeros.ensures.spent c.write_zeros.ensures.whole _ c.in-Ok.is bytes runs;
}

pub returns-in-Err-NoRoom : goal.returns-in-Err-NoRoom
returns-in-Err-NoRoom g c = record {
  answers = λ bytes runs. short_store (images g) c.args.self.now.image c.begin.new.self.image c.write_zeros.new.self c.args.self.now.event c.begin.new.self.event c.args.self.now.ended c.begin.new.self.ended
      (record { drive = c.begin.ensures.drive; event_is = c.begin.ensures.event; space = c.begin.ensures.space; holds = c.begin.ensures.holds }) (plain_request c.args.request.now) (g.D.Outside.world c.args.depot.now) (g.D.Outside.world c.write_zeros.new.depot) c.requires.granted
      c.args.fua _ _ (zeros_are (plain_request c.args.request.now) c.args.fua c.requires.work) c.write_zeros.result (record { writes = c.write_zeros.ensures.writes; space = c.write_zeros.ensures.space; breaks = c.write_zeros.ensures.breaks; facts = c.write_zeros.ensures.facts; event = c.write_zeros.ensures.event; head = c.write_zeros.ensures.head; run = c.write_zeros.ensures.run }) c.write_zeros.ensures.kept
      c.write_zeros.ensures.short c.write_zeros.ensures.whole c.in-Err-NoRoom.field-0 c.in-Err-NoRoom.is c.in-Err-NoRoom.field-0-is;
}

pub returns-in-Err-Failed : goal.returns-in-Err-Failed
returns-in-Err-Failed g c = record {
  answers = λ bytes runs. failed_store (images g) c.args.self.now.image c.begin.new.self.image c.write_zeros.new.self c.args.self.now.event c.begin.new.self.event c.args.self.now.ended c.begin.new.self.ended
      (record { drive = c.begin.ensures.drive; event_is = c.begin.ensures.event; space = c.begin.ensures.space; holds = c.begin.ensures.holds }) (plain_request c.args.request.now) (g.D.Outside.world c.args.depot.now) (g.D.Outside.world c.write_zeros.new.depot) c.requires.granted
      c.args.fua _ _ (zeros_are (plain_request c.args.request.now) c.args.fua c.requires.work) c.write_zeros.result (record { writes = c.write_zeros.ensures.writes; space = c.write_zeros.ensures.space; breaks = c.write_zeros.ensures.breaks; facts = c.write_zeros.ensures.facts; event = c.write_zeros.ensures.event; head = c.write_zeros.ensures.head; run = c.write_zeros.ensures.run }) c.write_zeros.ensures.kept
      c.write_zeros.ensures.failed c.in-Err-Failed.field-0 c.in-Err-Failed.is c.in-Err-Failed.field-0-is;
}
