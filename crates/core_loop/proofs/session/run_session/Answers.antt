use Rattle.std.proofs.Common.{inl, inr, refl, subst, ◌∙◌, rules}
use Rattle.std.proofs.lemmas.Bool.{false≢true}
use Rattle.disk_model.proofs.Moments.{run_on}
use Rattle.core_loop.proofs.Courses.{any_run}
use Rattle.core_loop.proofs.Opening.{OpenCall, opens_within, open_rest, open_crashes, open_stays, open_blanks, call_of}
use Rattle.core_loop.proofs.Consequences.{with_crashes}
use Rattle.core_loop.proofs.Whole.{has_closed, has_stopped, owes_halted, knows_session, closing_ends, source_calm, source_run, events_run, closing_run}
use Rattle.core_loop.proofs.session.run_session.Goals as goal

pub returns-in-Err-clause-session : goal.returns-in-Err-clause-session
returns-in-Err-clause-session g c = λ files allows h disks told found is lawful apart knew covers.
    let old = g.D.Outside.world c.args.depot.now in
    let mid = g.D.Outside.world c.open.new.depot in
    let call : OpenCall files.source old mid = call_of files is (record { within = c.open.ensures.within; run = c.open.ensures.run }) in
    with_crashes (inl (record {
      refused = tt;
      run = call.run;
      opens = opens_within call lawful told;
      crashes = open_crashes call lawful told;
      stays = open_stays call lawful told;
      blanks = open_blanks call lawful told;
      heard = g.met.S.Source.stays c.args.source.now;
      rest = open_rest call lawful told;
    })) lawful c.open.ensures.run

pub returns-in-Err-run_events-clause-session : goal.returns-in-Err-run_events-clause-session
returns-in-Err-run_events-clause-session g c = λ files allows h disks told found is lawful apart knew covers.
    let start = c.args.source.now in
    let mid = g.D.Outside.world c.open.new.depot in
    let known = g.met.S.Source.calm start (g.D.Outside.world c.args.depot.now) mid
    (source_calm {own = g.S.Source.own start} apart.source_isnt (λ f mine. mine) c.open.ensures.run) knew in
    let new = g.D.Outside.world c.run_events.new.depot in
    let node = c.in-Ok.node in
    let after = c.run_events.new.node in
    with_crashes (inr (has_stopped told is lawful covers
    (record {
      call = record { within = c.open.ensures.within; run = c.open.ensures.run };
      opened = c.in-Ok.ensures.opened;
      given = c.requires.given;
      found = found;
      apart = apart;
    })
    known
    c.run_events.ensures.same (g.met.N.Node.stands node mid) (g.met.N.Node.stands after new) (g.met.N.Node.safe after new) (g.met.N.Node.mixes after new)
    c.in-Err-run_events.ensures.ran (owes_halted (Unit {0}) (Unit {0}) c.in-Err-run_events.why) (λ ill. absurd (false≢true ill)) (λ f id s w halted. halted))) lawful
    (run_on (any_run (λ name none. none) c.open.ensures.run) (any_run (λ name none. none) c.run_events.ensures.run))

pub returns-then-leaves_open-clause-session : goal.returns-then-leaves_open-clause-session
returns-then-leaves_open-clause-session g c = λ files allows h disks told found is lawful apart knew covers.
    let start = c.args.source.now in
    let mid = g.D.Outside.world c.open.new.depot in
    let known = g.met.S.Source.calm start (g.D.Outside.world c.args.depot.now) mid
    (source_calm {own = g.S.Source.own start} apart.source_isnt (λ f mine. mine) c.open.ensures.run) knew in
    let new = g.D.Outside.world c.run_events.new.depot in
    let node = c.in-Ok.node in
    let after = c.run_events.new.node in
    with_crashes (inr (has_stopped told is lawful covers
    (record {
      call = record { within = c.open.ensures.within; run = c.open.ensures.run };
      opened = c.in-Ok.ensures.opened;
      given = c.requires.given;
      found = found;
      apart = apart;
    })
    known
    c.run_events.ensures.same (g.met.N.Node.stands node mid) (g.met.N.Node.stands after new) (g.met.N.Node.safe after new) (g.met.N.Node.mixes after new)
    c.in_default.ensures.ran (λ owes. tt) (λ well. (refl, search rules)) (λ f id s w halted. tt))) lawful
    (run_on (any_run (λ name none. none) c.open.ensures.run) (any_run (λ name none. none) c.run_events.ensures.run))

pub returns-in-Err-close-clause-session : goal.returns-in-Err-close-clause-session
returns-in-Err-close-clause-session g c = λ files allows h disks told found is lawful apart knew covers.
    let start = c.args.source.now in
    let mid = g.D.Outside.world c.open.new.depot in
    let known = g.met.S.Source.calm start (g.D.Outside.world c.args.depot.now) mid
    (source_calm {own = g.S.Source.own start} apart.source_isnt (λ f mine. mine) c.open.ensures.run) knew in
    let new = g.D.Outside.world c.run_events.new.depot in
    let node = c.in-Ok.node in
    let after = c.run_events.new.node in
    with_crashes (inr (has_closed told is lawful covers
    (record {
      call = record { within = c.open.ensures.within; run = c.open.ensures.run };
      opened = c.in-Ok.ensures.opened;
      given = c.requires.given;
      found = found;
      apart = apart;
    })
    known
    c.run_events.ensures.same (g.met.N.Node.stands node mid) (g.met.N.Node.stands after new) (g.met.N.Node.safe after new) (g.met.N.Node.mixes after new)
    c.in_default.ensures.ran c.close.ensures.run c.close.ensures.closes (λ owes. tt) (λ ill. absurd (false≢true ill)) (λ ill. absurd (false≢true ill))
    (λ s w tells keeps. (
      c.in-Err-close.ensures.refused s tells keeps,
      closing_ends c.in-Err-close.why (g.N.Node.shown after) new (g.D.Outside.world c.close.new.depot) c.in-Err-close.ensures.cause,
    )))) lawful
    (run_on (run_on (any_run (λ name none. none) c.open.ensures.run) (any_run (λ name none. none) c.run_events.ensures.run)) (any_run (λ name none. none) c.close.ensures.run))

pub returns-clause-session : goal.returns-clause-session
returns-clause-session g c = λ files allows h disks told found is lawful apart knew covers.
    let start = c.args.source.now in
    let mid = g.D.Outside.world c.open.new.depot in
    let known = g.met.S.Source.calm start (g.D.Outside.world c.args.depot.now) mid
    (source_calm {own = g.S.Source.own start} apart.source_isnt (λ f mine. mine) c.open.ensures.run) knew in
    let new = g.D.Outside.world c.run_events.new.depot in
    let node = c.in-Ok.node in
    let after = c.run_events.new.node in
    with_crashes (inr (has_closed told is lawful covers
    (record {
      call = record { within = c.open.ensures.within; run = c.open.ensures.run };
      opened = c.in-Ok.ensures.opened;
      given = c.requires.given;
      found = found;
      apart = apart;
    })
    known
    c.run_events.ensures.same (g.met.N.Node.stands node mid) (g.met.N.Node.stands after new) (g.met.N.Node.safe after new) (g.met.N.Node.mixes after new)
    c.in_default.ensures.ran c.close.ensures.run c.close.ensures.closes (λ owes. tt) (λ well. (refl, search rules)) (λ well. c.in_default-close.ensures.closed)
    (λ s w tells keeps. tt))) lawful
    (run_on (run_on (any_run (λ name none. none) c.open.ensures.run) (any_run (λ name none. none) c.run_events.ensures.run)) (any_run (λ name none. none) c.close.ensures.run))

pub returns-in-Err-clause-knows : goal.returns-in-Err-clause-knows
returns-in-Err-clause-knows g c = λ files allows h disks told found is lawful apart covers known.
    let start = c.args.source.now in
    let own = g.S.Source.own start in
    let old = g.D.Outside.world c.args.depot.now in
    let mid = g.D.Outside.world c.open.new.depot in
    let first = g.met.S.Source.calm start old mid (source_calm {own = own} apart.source_isnt (λ f mine. mine) c.open.ensures.run) known in
    first

pub returns-in-Err-run_events-clause-knows : goal.returns-in-Err-run_events-clause-knows
returns-in-Err-run_events-clause-knows g c = λ files allows h disks told found is lawful apart covers known.
    let start = c.args.source.now in
    let own = g.S.Source.own start in
    let old = g.D.Outside.world c.args.depot.now in
    let mid = g.D.Outside.world c.open.new.depot in
    let first = g.met.S.Source.calm start old mid (source_calm {own = own} apart.source_isnt (λ f mine. mine) c.open.ensures.run) known in
    let then = knows_session told is lawful
    (record {
      call = record { within = c.open.ensures.within; run = c.open.ensures.run };
      opened = c.in-Ok.ensures.opened;
      given = c.requires.given;
      found = found;
      apart = apart;
    })
    (g.S.Source.gave c.run_events.new.source) covers c.run_events.ensures.knows first in
    then

pub returns-then-leaves_open-clause-knows : goal.returns-then-leaves_open-clause-knows
returns-then-leaves_open-clause-knows g c = λ files allows h disks told found is lawful apart covers known.
    let start = c.args.source.now in
    let own = g.S.Source.own start in
    let old = g.D.Outside.world c.args.depot.now in
    let mid = g.D.Outside.world c.open.new.depot in
    let first = g.met.S.Source.calm start old mid (source_calm {own = own} apart.source_isnt (λ f mine. mine) c.open.ensures.run) known in
    let then = knows_session told is lawful
    (record {
      call = record { within = c.open.ensures.within; run = c.open.ensures.run };
      opened = c.in-Ok.ensures.opened;
      given = c.requires.given;
      found = found;
      apart = apart;
    })
    (g.S.Source.gave c.run_events.new.source) covers c.run_events.ensures.knows first in
    then

pub returns-in-Err-close-clause-knows : goal.returns-in-Err-close-clause-knows
returns-in-Err-close-clause-knows g c = λ files allows h disks told found is lawful apart covers known.
    let start = c.args.source.now in
    let own = g.S.Source.own start in
    let old = g.D.Outside.world c.args.depot.now in
    let mid = g.D.Outside.world c.open.new.depot in
    let first = g.met.S.Source.calm start old mid (source_calm {own = own} apart.source_isnt (λ f mine. mine) c.open.ensures.run) known in
    let then = knows_session told is lawful
    (record {
      call = record { within = c.open.ensures.within; run = c.open.ensures.run };
      opened = c.in-Ok.ensures.opened;
      given = c.requires.given;
      found = found;
      apart = apart;
    })
    (g.S.Source.gave c.run_events.new.source) covers c.run_events.ensures.knows first in
    let heard = c.run_events.ensures.goes in
    let after = c.run_events.new.source in
    let same = c.run_events.ensures.same.file_stays ∙ c.in-Ok.ensures.opened.file_is in
    g.met.S.Source.calm after (g.D.Outside.world c.run_events.new.depot) (g.D.Outside.world c.close.new.depot)
    (source_calm {own = own} (λ mine. apart.source_isnt (subst own same mine)) (λ f. g.met.S.Source.owns start after f heard.0 heard.1) c.close.ensures.run) then

pub returns-clause-knows : goal.returns-clause-knows
returns-clause-knows g c = λ files allows h disks told found is lawful apart covers known.
    let start = c.args.source.now in
    let own = g.S.Source.own start in
    let old = g.D.Outside.world c.args.depot.now in
    let mid = g.D.Outside.world c.open.new.depot in
    let first = g.met.S.Source.calm start old mid (source_calm {own = own} apart.source_isnt (λ f mine. mine) c.open.ensures.run) known in
    let then = knows_session told is lawful
    (record {
      call = record { within = c.open.ensures.within; run = c.open.ensures.run };
      opened = c.in-Ok.ensures.opened;
      given = c.requires.given;
      found = found;
      apart = apart;
    })
    (g.S.Source.gave c.run_events.new.source) covers c.run_events.ensures.knows first in
    let heard = c.run_events.ensures.goes in
    let after = c.run_events.new.source in
    let same = c.run_events.ensures.same.file_stays ∙ c.in-Ok.ensures.opened.file_is in
    g.met.S.Source.calm after (g.D.Outside.world c.run_events.new.depot) (g.D.Outside.world c.close.new.depot)
    (source_calm {own = own} (λ mine. apart.source_isnt (subst own same mine)) (λ f. g.met.S.Source.owns start after f heard.0 heard.1) c.close.ensures.run) then

pub returns-in-Err-clause-run : goal.returns-in-Err-clause-run
returns-in-Err-clause-run g c = source_run (g.S.Source.gave c.args.source.now) c.open.ensures.run

pub returns-in-Err-run_events-clause-run : goal.returns-in-Err-run_events-clause-run
returns-in-Err-run_events-clause-run g c = events_run (g.S.Source.gave c.run_events.new.source) c.in-Ok.ensures.opened c.open.ensures.run c.run_events.ensures.run

pub returns-then-leaves_open-clause-run : goal.returns-then-leaves_open-clause-run
returns-then-leaves_open-clause-run g c = events_run (g.S.Source.gave c.run_events.new.source) c.in-Ok.ensures.opened c.open.ensures.run c.run_events.ensures.run

pub returns-in-Err-close-clause-run : goal.returns-in-Err-close-clause-run
returns-in-Err-close-clause-run g c = closing_run (g.S.Source.gave c.run_events.new.source) c.in-Ok.ensures.opened c.open.ensures.run c.run_events.ensures.run c.run_events.ensures.same c.close.ensures.run

pub returns-clause-run : goal.returns-clause-run
returns-clause-run g c = closing_run (g.S.Source.gave c.run_events.new.source) c.in-Ok.ensures.opened c.open.ensures.run c.run_events.ensures.run c.run_events.ensures.same c.close.ensures.run
