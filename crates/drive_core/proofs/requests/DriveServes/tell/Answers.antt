use Rattle.std.proofs.Common.{◌≡◌, true, ap, subst, refl}
use Rattle.core_events.specs.Views.{plain_event, plain_request}
use Rattle.core_events.specs.Events as events
use Rattle.core_events.specs.declared.events.Event.{Event}
use Rattle.core_events.specs.declared.events.Event.TheVariants.{Guest, Monitor, Tick}
use Rattle.core_events.specs.declared.commands.Command.{Command}
use Rattle.drive_core.specs.Drive.{Drive}
use Rattle.drive_core.proofs.Going.{as_drive, as_event}
use Rattle.drive_core.proofs.Laws.{HasSpace}
use Rattle.drive_core.proofs.Still.{Rests}
use Rattle.drive_core.proofs.Telling.{tick_answers, quit_answers}
use Rattle.drive_core.proofs.requests.DriveServes.tell.Goals as goal

-- what is no command and no request is a tick
is_tick : (e : Event) → ((c : Command) → e ≡ Monitor c → ⊥) → ((r : events.Request) → plain_event e ≡ events.Guest r → ⊥) → e ≡ Tick
is_tick (Guest request) command guest = absurd (guest (plain_request request) refl)
is_tick (Monitor c) command guest = absurd (command c refl)
is_tick Tick command guest = refl

pub returns-in-Quit-clause-answers : goal.returns-in-Quit-clause-answers
returns-in-Quit-clause-answers g c = λ bytes runs.
    let was = c.args.self.now.image in
    let is = c.begin.new.self.image in
    let w = g.D.Outside.world c.args.depot.now in
    let d : Drive = record { facts = g.I.Image.facts was; room = g.I.Image.room was; broken = g.I.Image.broken was; event = c.args.self.now.event; ended = c.args.self.now.ended } in
    as_event (ap plain_event c.in-Monitor.is)
    (as_event (ap events.Monitor c.in-Quit.is)
    (as_drive (ap (λ (x : Drive). record x { ended = true }) c.begin.ensures.drive)
    (quit_answers d w (subst (λ (x : Drive). Rests x.facts (g.I.Image.holds was) (g.I.Image.holds is)) c.begin.ensures.drive (record {
      in_order = g.met.I.Image.in_order is;
      sizes = g.met.I.Image.sizes is;
      among = g.met.I.Image.among is;
      mixes_more = g.met.I.Image.mixes_more is;
      spared = g.met.I.Image.spared is;
      goes_on = c.begin.ensures.holds;
    })) (c.begin.ensures.space w) (g.met.I.Image.has_space was)
    (subst (λ (x : Drive). HasSpace x.facts x.room (g.I.Image.holds is) (g.I.Image.space is)) c.begin.ensures.drive (g.met.I.Image.has_space is)) (g.met.I.Image.bare was))))

pub returns-in_default : goal.returns-in_default
returns-in_default g c =
    let was = c.args.self.now.image in
    let is = c.begin-in_default.new.self.image in
    let w = g.D.Outside.world c.args.depot.now in
    let d : Drive = record { facts = g.I.Image.facts was; room = g.I.Image.room was; broken = g.I.Image.broken was; event = c.args.self.now.event; ended = c.args.self.now.ended } in
    record {
      answers = λ bytes runs. as_event (ap plain_event (is_tick c.args.event.now c.in_default.not-Monitor c.requires.talk))
          (as_drive c.begin-in_default.ensures.drive
          (tick_answers d w (subst (λ (x : Drive). Rests x.facts (g.I.Image.holds was) (g.I.Image.holds is)) c.begin-in_default.ensures.drive (record {
            in_order = g.met.I.Image.in_order is;
            sizes = g.met.I.Image.sizes is;
            among = g.met.I.Image.among is;
            mixes_more = g.met.I.Image.mixes_more is;
            spared = g.met.I.Image.spared is;
            goes_on = c.begin-in_default.ensures.holds;
          })) (c.begin-in_default.ensures.space w) (g.met.I.Image.has_space was)
          (subst (λ (x : Drive). HasSpace x.facts x.room (g.I.Image.holds is) (g.I.Image.space is)) c.begin-in_default.ensures.drive (g.met.I.Image.has_space is)) (g.met.I.Image.bare was)));
      command = tt;
      kept = tt;
      undone = refl;
    }
