use Rattle.std.proofs.Common.{◌≡◌, ℕ, List, length, take, ◌++◌, Bool, true, refl, ap, ◌∙◌}
use Rattle.std.specs.Prelude.{is_ok, if◌then◌else◌}
use Rattle.std.proofs.Math.Seq.{take-append_seam}
use Rattle.disk_model.specs.Files.{reading}
use Rattle.disk_model.proofs.Laws.{length-reading}
use Rattle.core_events.specs.Views.{plain_request}
use Rattle.core_events.specs.Answers.{Content}
use Rattle.plain_model.specs.History.{now}
use Rattle.plain_model.specs.Requests.{is_write, is_flush}
use Rattle.drive_core.proofs.Unwritten.{read_says}
use Rattle.drive_core.proofs.Called.{read_call, unread_call}
use Rattle.drive_core.proofs.Images.{ImageOf, drive_of}
use Rattle.drive_core.proofs.requests.DriveServes.read.Given as given
use Rattle.drive_core.proofs.requests.DriveServes.read.Goals as goal

-- the buffer holds what was read
filled : (len n : ℕ) (out rest disk : List ℕ) (at wide other : ℕ) (ok : Bool) → len ≡ (if ok then n else other) → ok ≡ true → wide ≡ len → out ≡ reading disk at wide → take len (out ++ rest) ≡ reading disk at n
filled len n out rest disk at wide other ok is well same read =
    let long : len ≡ n = is ∙ ap (λ (b : Bool). if b then n else other) well in
    let full : length out ≡ len = ap length read ∙ length-reading disk at wide ∙ same in
    (rw (← full) (take-append_seam out rest)) ∙ read ∙ ap (λ (k : ℕ). reading disk at k) (same ∙ long)

abbrev images : (g : given.Over) → ImageOf g.row.I.Denot
images g = record {
  facts = g.I.Image.facts;
  event = g.I.Image.event;
  broken = g.I.Image.broken;
  room = g.I.Image.room;
  space = g.I.Image.space;
  holds = g.I.Image.holds;
  knows = λ x. record { in_order = g.met.I.Image.in_order x; has_space = g.met.I.Image.has_space x; has_head = g.met.I.Image.has_head x; among = g.met.I.Image.among x; sizes = g.met.I.Image.sizes x };
  bare = g.met.I.Image.bare;
  same_space = g.met.I.Image.same_space;
}

pub returns-in-Ok : goal.returns-in-Ok
returns-in-Ok g c = record {
  answers = λ runs. read_call (images g) c.args.self.now.image c.begin.new.self.image c.args.self.now.event c.begin.new.self.event c.args.self.now.ended c.begin.new.self.ended
      (record { drive = c.begin.ensures.drive; event_is = c.begin.ensures.event; space = c.begin.ensures.space; holds = c.begin.ensures.holds })
      (plain_request c.args.request.now) (g.D.Outside.world c.args.depot.now) (g.D.Outside.world c.read.new.depot) c.requires.granted
      (g.met.I.Image.mixes_more c.begin.new.self.image) (g.met.I.Image.spared c.begin.new.self.image) (ap is_write c.requires.work) (ap is_flush c.requires.work) c.read.ensures.run c.read.new.self c.read.ensures.same
      (Content _) refl (λ refused. refused)
      (λ freed h disks k. read_says (drive_of (images g) c.args.self.now.image c.args.self.now.event c.args.self.now.ended) (plain_request c.args.request.now) c.requires.work c.requires.granted _ freed h _
      (g.met.I.Image.sizes c.args.self.now.image (g.D.Outside.world c.args.depot.now) (now h) disks k.holds_it).0
      (filled _ _ _ _ _ _ _ _ _ c.resize.ensures.len (ap is_ok c.unwrap.ensures) c.as_mut_slice.ensures.len (c.in-Ok.ensures.bytes (now h) disks k.told (c.begin.ensures.holds (g.D.Outside.world c.args.depot.now) (now h) disks k.holds_it))));
}

pub returns-in-Err : goal.returns-in-Err
returns-in-Err g c = record {
  answers = λ runs. unread_call (images g) c.args.self.now.image c.begin.new.self.image c.args.self.now.event c.begin.new.self.event c.args.self.now.ended c.begin.new.self.ended
      (record { drive = c.begin.ensures.drive; event_is = c.begin.ensures.event; space = c.begin.ensures.space; holds = c.begin.ensures.holds })
      (plain_request c.args.request.now) (g.D.Outside.world c.args.depot.now) (g.D.Outside.world c.read.new.depot) c.requires.granted
      (g.met.I.Image.mixes_more c.begin.new.self.image) (g.met.I.Image.spared c.begin.new.self.image) (ap is_write c.requires.work) (ap is_flush c.requires.work) c.read.ensures.run c.read.new.self c.read.ensures.same c.in-Err.ensures.cause;
}
