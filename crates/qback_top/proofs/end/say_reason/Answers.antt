use Rattle.std.proofs.Common.{◌≡◌, ◌++◌, [], List, ℕ, sym, ap, subst, ◌∙◌, append_assoc}
use Rattle.std.proofs.lemmas.List.{append-nil}
use Rattle.std.specs.Prelude.{codes}
use Rattle.disk_model.specs.World.{PrintsPart}
use Rattle.disk_model.proofs.Laws.{run_on}
use Rattle.qback_top.specs.Endings.{Refused, line_of}
use Rattle.qback_top.proofs.Saying.{part_first, part_next}
use Rattle.qback_top.proofs.end.say_reason.Goals as goal

-- the line in two parts
abbrev front : List ℕ → List ℕ
front name = codes "file " ++ name ++ codes " "

abbrev back : List ℕ → List ℕ
back reason = reason ++ codes "\n" ++ []

in_two : (name reason : List ℕ) → front name ++ back reason ≡ line_of (Refused name reason)
in_two name reason = ap (λ (t : List ℕ). front name ++ t) (append-nil (reason ++ codes "\n")) ∙ sym (append_assoc (front name) reason (codes "\n"))

pub returns-in_err-say_parts-clause-part : goal.returns-in_err-say_parts-clause-part
returns-in_err-say_parts-clause-part g c =
    subst (λ (t : List ℕ). PrintsPart t (g.D.Outside.world c.args.depot.now) (g.D.Outside.world c.say_parts.new.depot)) (in_two c.args.name.now c.args.reason.now)
    (part_first (front c.args.name.now) (back c.args.reason.now) (g.D.Outside.world c.args.depot.now) (g.D.Outside.world c.say_parts.new.depot)
    (subst (λ (t : List ℕ). PrintsPart (codes "file " ++ t ++ codes " ") (g.D.Outside.world c.args.depot.now) (g.D.Outside.world c.say_parts.new.depot)) c.as_bytes.ensures.value c.say_parts.ensures.part))

pub returns-clause-part : goal.returns-clause-part
returns-clause-part g c =
    let a = g.D.Outside.world c.args.depot.now in
    let b = g.D.Outside.world c.say_parts.new.depot in
    let d = g.D.Outside.world c.say_parts-2.new.depot in
    subst (λ (t : List ℕ). PrintsPart t a d) (in_two c.args.name.now c.args.reason.now)
    (part_next (front c.args.name.now) (back c.args.reason.now) a b d c.say_parts.ensures.run.goes.prints
    (λ told. c.in_ok-say_parts.ensures.printed told ∙ ap (λ (t : List ℕ). a.printed ++ (codes "file " ++ t ++ codes " ")) c.as_bytes.ensures.value)
    (subst (λ (t : List ℕ). PrintsPart (t ++ codes "\n" ++ []) b d) c.as_bytes-2.ensures.value c.say_parts-2.ensures.part))

pub returns-clause-run : goal.returns-clause-run
returns-clause-run g c = run_on c.say_parts.ensures.run c.say_parts-2.ensures.run
