use Rattle.std.proofs.Common.{◌≡◌, List, take, Bool, true, false, refl, sym, ap, ◌∙◌}
use Rattle.std.specs.Prelude.{if◌then◌else◌}
use Rattle.span_algebra.specs.declared.lists.Run.{Run}
use Rattle.span_algebra.specs.declared.lists.Runs.{Runs}
use Rattle.core_events.specs.Views.{plain_request}
use Rattle.core_events.specs.Answers.{Flags}
use Rattle.plain_model.specs.History.{now}
use Rattle.plain_model.specs.Requests.{is_write, is_flush}
use Rattle.drive_core.proofs.Unwritten.{status_says}
use Rattle.drive_core.proofs.Called.{read_call, unread_call}
use Rattle.drive_core.proofs.Images.{ImageOf, drive_of}
use Rattle.drive_core.proofs.requests.DriveServes.status.Given as given
use Rattle.drive_core.proofs.requests.DriveServes.status.Goals.{then-one, else-one}
use Rattle.drive_core.proofs.requests.DriveServes.status.Goals as goal

chosen : (one b : Bool) (given part : List Run) (cut : Runs) → one ≡ b → part ≡ (if b then take 1 given else given) → cut.items.items ≡ part → cut.items.items ≡ (if one then take 1 given else given)
chosen one b given part cut is parts same = same ∙ parts ∙ sym (ap (λ (b : Bool). if b then take 1 given else given) is)

abbrev images : (g : given.Over) → ImageOf g.row.I.Denot
images g = record {
  facts = g.I.Image.facts;
  event = g.I.Image.event;
  broken = g.I.Image.broken;
  room = g.I.Image.room;
  space = g.I.Image.space;
  holds = g.I.Image.holds;
  knows = λ x. record { in_order = g.met.I.Image.in_order x; has_space = g.met.I.Image.has_space x; has_head = g.met.I.Image.has_head x; among = g.met.I.Image.among x; sizes = g.met.I.Image.sizes x };
  bare = g.met.I.Image.bare;
  same_space = g.met.I.Image.same_space;
}

pub returns-after-one : goal.returns-after-one
returns-after-one g c =
    let old = g.D.Outside.world c.args.depot.now in
    let cut : c.if-one.runs.items.items ≡ (if c.args.one then take 1 c.kinds.new.out.items.items else c.kinds.new.out.items.items) = elim c.if-one.branch [
      | then-one w ↦ chosen c.args.one true c.kinds.new.out.items.items w.truncate.new.self.items c.if-one.runs w.if-one.true w.truncate.ensures.items (ap (λ (x : Runs). x.items.items) w.runs-is)
      | else-one w ↦ chosen c.args.one false c.kinds.new.out.items.items c.kinds.new.out.items.items c.if-one.runs w.if-one.false refl (ap (λ (x : Runs). x.items.items) w.runs-is)
    ] in
    record {
      answers = λ bytes. read_call (images g) c.args.self.now.image c.begin.new.self.image c.args.self.now.event c.begin.new.self.event c.args.self.now.ended c.begin.new.self.ended
          (record { drive = c.begin.ensures.drive; event_is = c.begin.ensures.event; space = c.begin.ensures.space; holds = c.begin.ensures.holds })
          (plain_request c.args.request.now) (g.D.Outside.world c.args.depot.now) (g.D.Outside.world c.kinds.new.depot) c.requires.granted
          (g.met.I.Image.mixes_more c.begin.new.self.image) (g.met.I.Image.spared c.begin.new.self.image) (ap is_write c.requires.work.1) (ap is_flush c.requires.work.1) c.kinds.ensures.run c.kinds.new.self c.kinds.ensures.same
          (Flags c.if-one.runs.items.items) refl (λ refused. refused)
          (λ freed h disks k. status_says (drive_of (images g) c.args.self.now.image c.args.self.now.event c.args.self.now.ended) (plain_request c.args.request.now) c.requires.work.0 c.args.one c.requires.work.1 c.requires.granted
          (g.I.Image.space c.args.self.now.image old) (g.I.Image.space c.begin.new.self.image old) freed h c.clear.new.self.items c.kinds.new.out.items.items
          c.if-one.runs.items.items c.clear.ensures.items (c.begin.ensures.space old) (c.in-Ok.ensures.runs (now h) disks k.told (c.begin.ensures.holds old (now h) disks k.holds_it)) cut);
    }

pub returns-in-Err : goal.returns-in-Err
returns-in-Err g c = record {
  answers = λ bytes. unread_call (images g) c.args.self.now.image c.begin.new.self.image c.args.self.now.event c.begin.new.self.event c.args.self.now.ended c.begin.new.self.ended
      (record { drive = c.begin.ensures.drive; event_is = c.begin.ensures.event; space = c.begin.ensures.space; holds = c.begin.ensures.holds })
      (plain_request c.args.request.now) (g.D.Outside.world c.args.depot.now) (g.D.Outside.world c.kinds.new.depot) c.requires.granted
      (g.met.I.Image.mixes_more c.begin.new.self.image) (g.met.I.Image.spared c.begin.new.self.image) (ap is_write c.requires.work.1) (ap is_flush c.requires.work.1) c.kinds.ensures.run c.kinds.new.self c.kinds.ensures.same c.in-Err.ensures.cause;
}
