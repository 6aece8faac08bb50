use Rattle.std.proofs.Common.{inl, inr, true, false, List, [], ◌∷◌, ◌++◌, length, refl, sym, ap, subst, ◌∙◌, rules}
use Rattle.core_events.specs.Views.{plain_event, plain_answer}
use Rattle.disk_model.proofs.Moments.{go_on, stay}
use Rattle.core_loop.specs.Course.{Given, Heard, Exports, Answered, talk_with}
use Rattle.core_loop.proofs.Apart.{talks_more, given_later}
use Rattle.core_loop.proofs.Looping.{WentOn, shows, none_went, said_more, but_none, but_last, is_last, run_but, knows_more, knows_working, run_working}
use Rattle.core_loop.proofs.Looping.{ended_well, stopped_asking, stopped_early, stopped_within, stopped_telling, went_more, run_talking}
use Rattle.core_loop.proofs.events.run_events.Goals as goal

pub loop-alloc-init : goal.loop-alloc-init
loop-alloc-init g c =
    let node = c.args.node.now in
    let source = c.args.source.now in
    let w = g.D.Outside.world c.args.depot.now in (
      [],
      g.met.S.Source.stays source,
      subst (λ (gs : List Given). WentOn g.N.Node.reading (g.S.Source.own source) (g.N.Node.shown node) (g.N.Node.shown node)
          (g.N.Node.keeps node w) (g.S.Source.knows source w) (g.N.Node.keeps node) (record { given = gs; said = []; heard = []; number = 0 }) w w)
          (sym c.requires.fresh)
          (none_went (record { stands = g.met.N.Node.stands node; safe = g.met.N.Node.safe node; spared = g.met.N.Node.spared node }) c.requires.files),
      λ files s tells apart starts known. known,
    )

pub next-requires : goal.next-requires
next-requires g c =
    let i = c.loop-alloc.invariant in
    record { own_given = given_later c.requires.own_given (λ f. g.met.S.Source.owns c.args.source.now c.loop-alloc.source f i.0 i.1) i.2.run.goes }

pub answered-requires-clause-own_given : goal.answered-requires-clause-own_given
answered-requires-clause-own_given g c =
    let i = c.loop-alloc.invariant in
    given_later (given_later c.requires.own_given (λ f. g.met.S.Source.owns c.args.source.now c.loop-alloc.source f i.0 i.1) i.2.run.goes)
    (λ f. g.met.S.Source.owns c.loop-alloc.source c.next.new.self f (Exports c.exports.result.now ∷ []) c.next.ensures.goes)
    (go_on c.next.ensures.run.goes c.step.ensures.run.goes)

pub returns-in-Err-clause-ran : goal.returns-in-Err-clause-ran
returns-in-Err-clause-ran g c =
    let i = c.loop-alloc.invariant in
    let start = c.args.source.now in
    let talk = talks_more (λ f. g.met.S.Source.owns start c.loop-alloc.source f i.0 i.1) c.next.ensures.run c.next.ensures.apart in
    let heard = subst (λ (h : Heard). g.S.Source.goes start (i.0 ++ h ∷ []) c.next.new.self) (ap Exports c.exports.ensures)
    (g.met.S.Source.goes_on start c.loop-alloc.source c.next.new.self i.0 (Exports c.exports.result.now ∷ []) i.1 c.next.ensures.goes) in
    stopped_asking i.2 (but_none c.in-Err.ensures.kept) (inr heard) i.3 talk c.in-Err.ensures.said.1 c.in-Err.why c.in-Err.ensures.cause

pub returns-in-Err-clause-knows : goal.returns-in-Err-clause-knows
returns-in-Err-clause-knows g c =
    knows_more (but_none c.in-Err.ensures.kept) c.next.ensures.knows c.loop-alloc.invariant.3

pub returns-in-Err-clause-cause : goal.returns-in-Err-clause-cause
returns-in-Err-clause-cause g c =
    let i = c.loop-alloc.invariant in
    let start = c.args.source.now in
    let talk = talks_more (λ f. g.met.S.Source.owns start c.loop-alloc.source f i.0 i.1) c.next.ensures.run c.next.ensures.apart in
    record { since = g.D.Outside.world c.loop-alloc.depot; before = i.2.run.goes; calls = talk.run; halted = c.in-Err.ensures.cause }

pub returns-in-Err-clause-goes : goal.returns-in-Err-clause-goes
returns-in-Err-clause-goes g c =
    let i = c.loop-alloc.invariant in
    (i.0 ++ Exports c.exports.result.now ∷ [], g.met.S.Source.goes_on c.args.source.now c.loop-alloc.source c.next.new.self i.0 (Exports c.exports.result.now ∷ []) i.1 c.next.ensures.goes)

pub returns-in-Err-clause-run : goal.returns-in-Err-clause-run
returns-in-Err-clause-run g c =
    let i = c.loop-alloc.invariant in
    let start = c.args.source.now in
    let talk = talks_more (λ f. g.met.S.Source.owns start c.loop-alloc.source f i.0 i.1) c.next.ensures.run c.next.ensures.apart in
    run_but (g.N.Node.shown c.args.node.now) (but_none c.in-Err.ensures.kept) (said_more i.2 i.3 talk c.in-Err.ensures.said.1).run

pub returns-in_default-clause-ran : goal.returns-in_default-clause-ran
returns-in_default-clause-ran g c =
    let i = c.loop-alloc.invariant in
    let start = c.args.source.now in
    let talk = talks_more (λ f. g.met.S.Source.owns start c.loop-alloc.source f i.0 i.1) c.next.ensures.run c.next.ensures.apart in
    let heard = subst (λ (h : Heard). g.S.Source.goes start (i.0 ++ h ∷ []) c.next.new.self) (ap Exports c.exports.ensures)
    (g.met.S.Source.goes_on start c.loop-alloc.source c.next.new.self i.0 (Exports c.exports.result.now ∷ []) i.1 c.next.ensures.goes) in
    let one = c.in-Ok.ensures.gave.one (search rules) in
    stopped_early (said_more i.2 i.3 talk one.said) (but_last one.given one.more_is) (inr heard)

pub returns-in_default-clause-knows : goal.returns-in_default-clause-knows
returns-in_default-clause-knows g c =
    let one = c.in-Ok.ensures.gave.one (search rules) in
    knows_more (but_last one.given one.more_is) c.next.ensures.knows c.loop-alloc.invariant.3

pub returns-in_default-clause-cause : goal.returns-in_default-clause-cause
returns-in_default-clause-cause g c =
    let i = c.loop-alloc.invariant in
    let start = c.args.source.now in
    let talk = talks_more (λ f. g.met.S.Source.owns start c.loop-alloc.source f i.0 i.1) c.next.ensures.run c.next.ensures.apart in
    let one = c.in-Ok.ensures.gave.one (search rules) in
    let w = g.D.Outside.world c.next.new.outside in
    record { since = w; before = (said_more i.2 i.3 talk one.said).run.goes; calls = stay (talk_with (g.S.Source.own c.args.source.now)) w; halted = tt }

pub returns-in_default-clause-goes : goal.returns-in_default-clause-goes
returns-in_default-clause-goes g c =
    let i = c.loop-alloc.invariant in
    (i.0 ++ Exports c.exports.result.now ∷ [], g.met.S.Source.goes_on c.args.source.now c.loop-alloc.source c.next.new.self i.0 (Exports c.exports.result.now ∷ []) i.1 c.next.ensures.goes)

pub returns-in_default-clause-run : goal.returns-in_default-clause-run
returns-in_default-clause-run g c =
    let i = c.loop-alloc.invariant in
    let start = c.args.source.now in
    let talk = talks_more (λ f. g.met.S.Source.owns start c.loop-alloc.source f i.0 i.1) c.next.ensures.run c.next.ensures.apart in
    let one = c.in-Ok.ensures.gave.one (search rules) in
    run_but (g.N.Node.shown c.args.node.now) (but_last one.given one.more_is) (said_more i.2 i.3 talk one.said).run

pub returns-in_default-step-clause-ran : goal.returns-in_default-step-clause-ran
returns-in_default-step-clause-ran g c =
    let i = c.loop-alloc.invariant in
    let start = c.args.source.now in
    let talk = talks_more (λ f. g.met.S.Source.owns start c.loop-alloc.source f i.0 i.1) c.next.ensures.run c.next.ensures.apart in
    let heard = subst (λ (h : Heard). g.S.Source.goes start (i.0 ++ h ∷ []) c.next.new.self) (ap Exports c.exports.ensures)
    (g.met.S.Source.goes_on start c.loop-alloc.source c.next.new.self i.0 (Exports c.exports.result.now ∷ []) i.1 c.next.ensures.goes) in
    let one = c.in-Ok.ensures.gave.one (search rules) in
    stopped_within (said_more i.2 i.3 talk one.said) (but_last one.given one.more_is) (inr heard) (g.N.Node.shown c.step.new.self)
    (plain_event c.event-event.result.now) (plain_answer c.step.new.answer)
    c.in_default-step.ensures.command c.step.ensures.run c.in_default-step.ensures.undone

pub returns-in_default-step-clause-knows : goal.returns-in_default-step-clause-knows
returns-in_default-step-clause-knows g c =
    let i = c.loop-alloc.invariant in
    let start = c.args.source.now in
    let talk = talks_more (λ f. g.met.S.Source.owns start c.loop-alloc.source f i.0 i.1) c.next.ensures.run c.next.ensures.apart in
    let one = c.in-Ok.ensures.gave.one (search rules) in
    let event = plain_event c.event-event.result.now in
    let answer = plain_answer c.step.new.answer in
    let after = g.N.Node.shown c.step.new.self in
    knows_working after event answer (said_more i.2 i.3 talk one.said) (but_last one.given one.more_is) c.step.ensures.run
    (λ f. g.met.S.Source.owns start c.next.new.self f (i.0 ++ Exports c.exports.result.now ∷ [])
    (g.met.S.Source.goes_on start c.loop-alloc.source c.next.new.self i.0 (Exports c.exports.result.now ∷ []) i.1 c.next.ensures.goes))
    (g.met.S.Source.calm c.next.new.self (g.D.Outside.world c.next.new.outside) (g.D.Outside.world c.step.new.depot))
    (knows_more (but_none refl) c.next.ensures.knows i.3)

pub returns-in_default-step-clause-cause : goal.returns-in_default-step-clause-cause
returns-in_default-step-clause-cause g c =
    let i = c.loop-alloc.invariant in
    let start = c.args.source.now in
    let talk = talks_more (λ f. g.met.S.Source.owns start c.loop-alloc.source f i.0 i.1) c.next.ensures.run c.next.ensures.apart in
    let one = c.in-Ok.ensures.gave.one (search rules) in
    let event = plain_event c.event-event.result.now in
    let answer = plain_answer c.step.new.answer in
    let after = g.N.Node.shown c.step.new.self in
    let run = run_working after event answer (said_more i.2 i.3 talk one.said) (but_last one.given one.more_is) c.step.ensures.run
    (is_last (g.S.Source.gave c.loop-alloc.source) one.given one.more_is (c.event-event.ensures one.given one.held_is)) in
    let w = g.D.Outside.world c.step.new.depot in
    record { since = w; before = run.goes; calls = stay (talk_with (g.S.Source.own c.args.source.now)) w; halted = tt }

pub returns-in_default-step-clause-goes : goal.returns-in_default-step-clause-goes
returns-in_default-step-clause-goes g c =
    let i = c.loop-alloc.invariant in
    (i.0 ++ Exports c.exports.result.now ∷ [], g.met.S.Source.goes_on c.args.source.now c.loop-alloc.source c.next.new.self i.0 (Exports c.exports.result.now ∷ []) i.1 c.next.ensures.goes)

pub returns-in_default-step-clause-run : goal.returns-in_default-step-clause-run
returns-in_default-step-clause-run g c =
    let i = c.loop-alloc.invariant in
    let start = c.args.source.now in
    let talk = talks_more (λ f. g.met.S.Source.owns start c.loop-alloc.source f i.0 i.1) c.next.ensures.run c.next.ensures.apart in
    let one = c.in-Ok.ensures.gave.one (search rules) in
    let event = plain_event c.event-event.result.now in
    let answer = plain_answer c.step.new.answer in
    let after = g.N.Node.shown c.step.new.self in
    run_working after event answer (said_more i.2 i.3 talk one.said) (but_last one.given one.more_is) c.step.ensures.run
    (is_last (g.S.Source.gave c.loop-alloc.source) one.given one.more_is (c.event-event.ensures one.given one.held_is))

pub returns-after-loop-alloc-clause-ran : goal.returns-after-loop-alloc-clause-ran
returns-after-loop-alloc-clause-ran g c =
    let i = c.loop-alloc.invariant in
    ended_well i.2 (but_none refl) (inl i.1) refl (inr (search rules, refl))

pub returns-then-not-more-clause-ran : goal.returns-then-not-more-clause-ran
returns-then-not-more-clause-ran g c =
    let i = c.loop-alloc.invariant in
    let start = c.args.source.now in
    let talk = talks_more (λ f. g.met.S.Source.owns start c.loop-alloc.source f i.0 i.1) c.next.ensures.run c.next.ensures.apart in
    let heard = subst (λ (h : Heard). g.S.Source.goes start (i.0 ++ h ∷ []) c.next.new.self) (ap Exports c.exports.ensures)
    (g.met.S.Source.goes_on start c.loop-alloc.source c.next.new.self i.0 (Exports c.exports.result.now ∷ []) i.1 c.next.ensures.goes) in
    let none = c.in-Ok.ensures.gave.none (search rules) in
    ended_well (said_more i.2 i.3 talk none.said) (but_none none.more_is) (inr heard) (ap length (sym none.more_is)) (inl none.is_over)

pub returns-then-not-more-clause-knows : goal.returns-then-not-more-clause-knows
returns-then-not-more-clause-knows g c =
    let none = c.in-Ok.ensures.gave.none (search rules) in
    knows_more (but_none none.more_is) c.next.ensures.knows c.loop-alloc.invariant.3

pub returns-then-not-more-clause-goes : goal.returns-then-not-more-clause-goes
returns-then-not-more-clause-goes g c =
    let i = c.loop-alloc.invariant in
    (i.0 ++ Exports c.exports.result.now ∷ [], g.met.S.Source.goes_on c.args.source.now c.loop-alloc.source c.next.new.self i.0 (Exports c.exports.result.now ∷ []) i.1 c.next.ensures.goes)

pub returns-then-not-more-clause-run : goal.returns-then-not-more-clause-run
returns-then-not-more-clause-run g c =
    let i = c.loop-alloc.invariant in
    let start = c.args.source.now in
    let talk = talks_more (λ f. g.met.S.Source.owns start c.loop-alloc.source f i.0 i.1) c.next.ensures.run c.next.ensures.apart in
    let none = c.in-Ok.ensures.gave.none (search rules) in
    run_but (g.N.Node.shown c.args.node.now) (but_none none.more_is) (said_more i.2 i.3 talk none.said).run

pub returns-in-Err-answered-clause-ran : goal.returns-in-Err-answered-clause-ran
returns-in-Err-answered-clause-ran g c =
    let i = c.loop-alloc.invariant in
    let start = c.args.source.now in
    let node = c.step.new.self in
    let talk = talks_more (λ f. g.met.S.Source.owns start c.loop-alloc.source f i.0 i.1) c.next.ensures.run c.next.ensures.apart in
    let heard = subst (λ (h : Heard). g.S.Source.goes start (i.0 ++ h ∷ []) c.next.new.self) (ap Exports c.exports.ensures)
    (g.met.S.Source.goes_on start c.loop-alloc.source c.next.new.self i.0 (Exports c.exports.result.now ∷ []) i.1 c.next.ensures.goes) in
    let one = c.in-Ok.ensures.gave.one (search rules) in
    let is_event = c.event-event.ensures one.given one.held_is in
    let event = plain_event c.event-event.result.now in
    let answer = plain_answer c.step.new.answer in
    let after = g.N.Node.shown c.step.new.self in
    let known = knows_working after event answer (said_more i.2 i.3 talk one.said) (but_last one.given (c.answered.ensures.gave ∙ one.more_is))
    c.step.ensures.run (λ f. g.met.S.Source.owns start c.next.new.self f (i.0 ++ shows (g.N.Node.shown c.loop-alloc.node) ∷ []) heard)
    (g.met.S.Source.calm c.next.new.self (g.D.Outside.world c.next.new.outside) (g.D.Outside.world c.step.new.depot))
    (knows_more (but_none refl) c.next.ensures.knows i.3) in
    stopped_telling one.given (said_more i.2 i.3 talk one.said)
    (record { stands = g.met.N.Node.stands node; safe = g.met.N.Node.safe node; spared = g.met.N.Node.spared node }) is_event
    (record {
      running = search rules;
      same = c.step.ensures.source;
      added = c.step.ensures.added;
      files = c.step.ensures.given;
      run = c.step.ensures.run;
      causes = c.in-Ok-step.ensures.causes;
      steps = c.in-Ok-step.ensures.steps;
    })
    (sym (c.answered.ensures.gave ∙ one.more_is)) (search rules)
    known
    (talks_more (λ f. g.met.S.Source.owns start c.next.new.self f (i.0 ++ shows (g.N.Node.shown c.loop-alloc.node) ∷ []) heard) c.answered.ensures.run c.answered.ensures.apart)
    c.in-Err-answered.why (c.answered.ensures.part one.given one.held_is) (c.in-Err-answered.ensures.told one.given one.held_is) c.in-Err-answered.ensures.cause
    (g.met.S.Source.goes_on start c.next.new.self c.answered.new.self (i.0 ++ shows (g.N.Node.shown c.loop-alloc.node) ∷ [])
    (Answered (plain_answer c.step.new.answer) false ∷ []) heard c.in-Err-answered.ensures.failed)

pub returns-in-Err-answered-clause-knows : goal.returns-in-Err-answered-clause-knows
returns-in-Err-answered-clause-knows g c =
    let i = c.loop-alloc.invariant in
    let start = c.args.source.now in
    let talk = talks_more (λ f. g.met.S.Source.owns start c.loop-alloc.source f i.0 i.1) c.next.ensures.run c.next.ensures.apart in
    let heard = subst (λ (h : Heard). g.S.Source.goes start (i.0 ++ h ∷ []) c.next.new.self) (ap Exports c.exports.ensures)
    (g.met.S.Source.goes_on start c.loop-alloc.source c.next.new.self i.0 (Exports c.exports.result.now ∷ []) i.1 c.next.ensures.goes) in
    let one = c.in-Ok.ensures.gave.one (search rules) in
    let event = plain_event c.event-event.result.now in
    let answer = plain_answer c.step.new.answer in
    let after = g.N.Node.shown c.step.new.self in
    let known = knows_working after event answer (said_more i.2 i.3 talk one.said) (but_last one.given (c.answered.ensures.gave ∙ one.more_is))
    c.step.ensures.run (λ f. g.met.S.Source.owns start c.next.new.self f (i.0 ++ shows (g.N.Node.shown c.loop-alloc.node) ∷ []) heard)
    (g.met.S.Source.calm c.next.new.self (g.D.Outside.world c.next.new.outside) (g.D.Outside.world c.step.new.depot))
    (knows_more (but_none refl) c.next.ensures.knows i.3) in
    knows_more (but_none refl) c.answered.ensures.knows known

pub returns-in-Err-answered-clause-cause : goal.returns-in-Err-answered-clause-cause
returns-in-Err-answered-clause-cause g c =
    let i = c.loop-alloc.invariant in
    let start = c.args.source.now in
    let talk = talks_more (λ f. g.met.S.Source.owns start c.loop-alloc.source f i.0 i.1) c.next.ensures.run c.next.ensures.apart in
    let heard = subst (λ (h : Heard). g.S.Source.goes start (i.0 ++ h ∷ []) c.next.new.self) (ap Exports c.exports.ensures)
    (g.met.S.Source.goes_on start c.loop-alloc.source c.next.new.self i.0 (Exports c.exports.result.now ∷ []) i.1 c.next.ensures.goes) in
    let one = c.in-Ok.ensures.gave.one (search rules) in
    let event = plain_event c.event-event.result.now in
    let answer = plain_answer c.step.new.answer in
    let after = g.N.Node.shown c.step.new.self in
    let run = run_working after event answer (said_more i.2 i.3 talk one.said) (but_last one.given one.more_is) c.step.ensures.run
    (is_last (g.S.Source.gave c.loop-alloc.source) one.given one.more_is (c.event-event.ensures one.given one.held_is)) in
    record {
      since = g.D.Outside.world c.step.new.depot;
      before = run.goes;
      calls = (talks_more (λ f. g.met.S.Source.owns start c.next.new.self f (i.0 ++ shows (g.N.Node.shown c.loop-alloc.node) ∷ []) heard) c.answered.ensures.run c.answered.ensures.apart).run;
      halted = c.in-Err-answered.ensures.cause;
    }

pub returns-in-Err-answered-clause-goes : goal.returns-in-Err-answered-clause-goes
returns-in-Err-answered-clause-goes g c =
    let i = c.loop-alloc.invariant in
    let start = c.args.source.now in
    let heard = subst (λ (h : Heard). g.S.Source.goes start (i.0 ++ h ∷ []) c.next.new.self) (ap Exports c.exports.ensures)
    (g.met.S.Source.goes_on start c.loop-alloc.source c.next.new.self i.0 (Exports c.exports.result.now ∷ []) i.1 c.next.ensures.goes) in (
      (i.0 ++ shows (g.N.Node.shown c.loop-alloc.node) ∷ []) ++ Answered (plain_answer c.step.new.answer) false ∷ [],
      g.met.S.Source.goes_on start c.next.new.self c.answered.new.self (i.0 ++ shows (g.N.Node.shown c.loop-alloc.node) ∷ [])
          (Answered (plain_answer c.step.new.answer) false ∷ []) heard c.in-Err-answered.ensures.failed,
    )

pub returns-in-Err-answered-clause-run : goal.returns-in-Err-answered-clause-run
returns-in-Err-answered-clause-run g c =
    let i = c.loop-alloc.invariant in
    let start = c.args.source.now in
    let talk = talks_more (λ f. g.met.S.Source.owns start c.loop-alloc.source f i.0 i.1) c.next.ensures.run c.next.ensures.apart in
    let heard = subst (λ (h : Heard). g.S.Source.goes start (i.0 ++ h ∷ []) c.next.new.self) (ap Exports c.exports.ensures)
    (g.met.S.Source.goes_on start c.loop-alloc.source c.next.new.self i.0 (Exports c.exports.result.now ∷ []) i.1 c.next.ensures.goes) in
    let one = c.in-Ok.ensures.gave.one (search rules) in
    let event = plain_event c.event-event.result.now in
    let answer = plain_answer c.step.new.answer in
    let after = g.N.Node.shown c.step.new.self in
    let run = run_working after event answer (said_more i.2 i.3 talk one.said) (but_last one.given (c.answered.ensures.gave ∙ one.more_is)) c.step.ensures.run
    (is_last (g.S.Source.gave c.loop-alloc.source) one.given (c.answered.ensures.gave ∙ one.more_is) (c.event-event.ensures one.given one.held_is)) in
    run_talking (g.N.Node.shown c.args.node.now) (g.S.Source.gave c.answered.new.self) run
    (talks_more (λ f. g.met.S.Source.owns start c.next.new.self f (i.0 ++ shows (g.N.Node.shown c.loop-alloc.node) ∷ []) heard) c.answered.ensures.run c.answered.ensures.apart)

pub loop-alloc-preserved : goal.loop-alloc-preserved
loop-alloc-preserved g c =
    let i = c.loop-alloc.invariant in
    let start = c.args.source.now in
    let node = c.step.new.self in
    let talk = talks_more (λ f. g.met.S.Source.owns start c.loop-alloc.source f i.0 i.1) c.next.ensures.run c.next.ensures.apart in
    let heard = subst (λ (h : Heard). g.S.Source.goes start (i.0 ++ h ∷ []) c.next.new.self) (ap Exports c.exports.ensures)
    (g.met.S.Source.goes_on start c.loop-alloc.source c.next.new.self i.0 (Exports c.exports.result.now ∷ []) i.1 c.next.ensures.goes) in
    let one = c.in-Ok.ensures.gave.one (search rules) in
    let is_event = c.event-event.ensures one.given one.held_is in
    let event = plain_event c.event-event.result.now in
    let answer = plain_answer c.step.new.answer in
    let after = g.N.Node.shown c.step.new.self in
    let known = knows_working after event answer (said_more i.2 i.3 talk one.said) (but_last one.given (c.answered.ensures.gave ∙ one.more_is))
    c.step.ensures.run (λ f. g.met.S.Source.owns start c.next.new.self f (i.0 ++ shows (g.N.Node.shown c.loop-alloc.node) ∷ []) heard)
    (g.met.S.Source.calm c.next.new.self (g.D.Outside.world c.next.new.outside) (g.D.Outside.world c.step.new.depot))
    (knows_more (but_none refl) c.next.ensures.knows i.3) in (
      (i.0 ++ shows (g.N.Node.shown c.loop-alloc.node) ∷ []) ++ Answered (plain_answer c.step.new.answer) true ∷ [],
      g.met.S.Source.goes_on start c.next.new.self c.answered.new.self (i.0 ++ shows (g.N.Node.shown c.loop-alloc.node) ∷ [])
          (Answered (plain_answer c.step.new.answer) true ∷ []) heard c.in_default-answered.ensures.goes,
      went_more one.given (said_more i.2 i.3 talk one.said)
          (record { stands = g.met.N.Node.stands node; safe = g.met.N.Node.safe node; spared = g.met.N.Node.spared node }) is_event
          (record {
            running = search rules;
            same = c.step.ensures.source;
            added = c.step.ensures.added;
            files = c.step.ensures.given;
            run = c.step.ensures.run;
            causes = c.in-Ok-step.ensures.causes;
            steps = c.in-Ok-step.ensures.steps;
          })
          (sym (c.answered.ensures.gave ∙ one.more_is)) (search rules)
          known
          (talks_more (λ f. g.met.S.Source.owns start c.next.new.self f (i.0 ++ shows (g.N.Node.shown c.loop-alloc.node) ∷ []) heard)
          c.answered.ensures.run c.answered.ensures.apart)
          (c.in_default-answered.ensures.told one.given one.held_is tt),
      knows_more (but_none refl) c.answered.ensures.knows known,
    )
