use Rattle.std.proofs.Common.{◌||◌, [], sym, ap, ◌∙◌}
use Rattle.core_events.specs.Views.{plain_request, plain_reply}
use Rattle.core_events.specs.declared.events.Work.{Work}
use Rattle.plain_model.specs.Machine.{next_number}
use Rattle.plain_model.specs.Requests.{is_write, is_flush}
use Rattle.toy_core.specs.Toy.{shown}
use Rattle.toy_core.proofs.Cases.{as_moved, denied_steps, denied_as, denied_causes, granted_as, may_work, may_read, flush_left}
use Rattle.toy_core.proofs.toy.Toy.serve.Goals as goal

pub returns-in-Some-clause-steps : goal.returns-in-Some-clause-steps
returns-in-Some-clause-steps g c = λ runs told.
    let t = c.args.self.now in
    as_moved c.saturating_add-self.result (next_number t.event) t.broken c.saturating_add-self.ensures
    (denied_steps t (plain_request c.args.request.now) c.requires.built c.requires.whole c.in-Some.errno (sym c.deny.ensures ∙ c.in-Some.is) (g.D.Outside.world c.args.depot.now) told)

pub returns-in-Some-clause-denied : goal.returns-in-Some-clause-denied
returns-in-Some-clause-denied g c = λ runs. denied_as c.args.self.now (plain_request c.args.request.now) c.in-Some.errno c.requires.built (sym c.deny.ensures ∙ c.in-Some.is)

pub returns-in-Read-clause-denied : goal.returns-in-Read-clause-denied
returns-in-Read-clause-denied g c = λ runs. granted_as c.args.self.now (plain_request c.args.request.now) _ c.requires.built (sym c.deny.ensures ∙ c.in_default.is)

pub returns-in-Read-clause-run : goal.returns-in-Read-clause-run
returns-in-Read-clause-run g c = λ runs. may_read c.args.self.now (plain_request c.args.request.now) (shown c.read.new.self) (record { reply = plain_reply c.read.result c.read.new.bytes.items runs; notices = [] }) c.read.ensures.run

pub returns-in-Write-clause-denied : goal.returns-in-Write-clause-denied
returns-in-Write-clause-denied g c = λ runs. granted_as c.args.self.now (plain_request c.args.request.now) _ c.requires.built (sym c.deny.ensures ∙ c.in_default.is)

pub returns-in-Write-clause-run : goal.returns-in-Write-clause-run
returns-in-Write-clause-run g c = λ runs. may_work c.args.self.now (plain_request c.args.request.now) (shown c.write.new.self) (record { reply = plain_reply c.write.result c.args.bytes.now.items runs; notices = [] }) (sym c.deny.ensures ∙ c.in_default.is) (c.write.ensures.carried _ runs) (ap (λ (w : Work). is_write w || is_flush w) c.in-Write.is) c.write.ensures.run

pub returns-in_default-work : goal.returns-in_default-work
returns-in_default-work g c =
    let none = sym c.deny.ensures ∙ c.in_default.is in
    let work = flush_left c.args.request.now.work c.requires.built c.in_default-work.not-Read c.in_default-work.not-Write in
    record {
      steps = λ runs told. c.flush.ensures.steps _ runs told;
      denied = λ runs. granted_as c.args.self.now (plain_request c.args.request.now) _ c.requires.built none;
      causes = λ runs. c.flush.ensures.causes _ runs;
      source = c.flush.ensures.source;
      run = λ runs. may_work c.args.self.now (plain_request c.args.request.now) (shown c.flush.new.self) (record { reply = plain_reply c.flush.result c.args.bytes.now.items runs; notices = [] }) none (c.flush.ensures.carried _ runs)
          (ap (λ (w : Work). is_write w || is_flush w) work) c.flush.ensures.run;
    }

pub returns-in-Some-clause-causes : goal.returns-in-Some-clause-causes
returns-in-Some-clause-causes g c = λ runs.
    denied_causes c.args.self.now (plain_request c.args.request.now) c.in-Some.errno _ _ _ (sym c.deny.ensures ∙ c.in-Some.is) c.saturating_add-self.ensures
