use Rattle.std.proofs.Common.{refl, subst}
use Rattle.core_events.specs.Views.{plain_request}
use Rattle.drive_core.specs.Drive.{Drive, shown_of}
use Rattle.drive_core.proofs.Denied.{denied_as}
use Rattle.drive_core.proofs.Denying.{denied_answers}
use Rattle.drive_core.proofs.Going.{as_drive}
use Rattle.drive_core.proofs.Laws.{HasSpace}
use Rattle.drive_core.proofs.Still.{Rests}
use Rattle.drive_core.proofs.requests.DriveServes.answer_denied.Goals as goal

pub returns-clause-answers : goal.returns-clause-answers
returns-clause-answers g c = λ bytes runs.
    let was = c.args.self.now.image in
    let is = c.begin.new.self.image in
    let w = g.D.Outside.world c.args.depot.now in
    let d : Drive = record { facts = g.I.Image.facts was; room = g.I.Image.room was; broken = g.I.Image.broken was; event = c.args.self.now.event; ended = c.args.self.now.ended } in
    as_drive c.begin.ensures.drive
    (denied_answers d w (subst (λ (x : Drive). Rests x.facts (g.I.Image.holds was) (g.I.Image.holds is)) c.begin.ensures.drive (record {
      in_order = g.met.I.Image.in_order is;
      sizes = g.met.I.Image.sizes is;
      among = g.met.I.Image.among is;
      mixes_more = g.met.I.Image.mixes_more is;
      spared = g.met.I.Image.spared is;
      goes_on = c.begin.ensures.holds;
    })) (c.begin.ensures.space w) (g.met.I.Image.has_space was)
    (subst (λ (x : Drive). HasSpace x.facts x.room (g.I.Image.holds is) (g.I.Image.space is)) c.begin.ensures.drive (g.met.I.Image.has_space is)) (g.met.I.Image.bare was) (g.met.I.Image.sizes was)
    (plain_request c.args.request.now) c.requires.whole c.args.errno c.requires.denied)

pub returns-clause-denied : goal.returns-clause-denied
returns-clause-denied g c = λ bytes runs.
    let was = c.args.self.now.image in
    denied_as (shown_of (record { facts = g.I.Image.facts was; room = g.I.Image.room was; broken = g.I.Image.broken was; event = c.args.self.now.event; ended = c.args.self.now.ended })) (plain_request c.args.request.now) refl refl refl refl c.args.errno c.requires.denied
