use Rattle.std.proofs.Common.{◌≡◌, ◌++◌, List, ℕ, length, take, sym, ap, ◌∙◌, arith}
use Rattle.std.proofs.lemmas.List.{take_all}
use Rattle.disk_memory.specs.Held.{Held}
use Rattle.disk_memory.specs.Steps.{with_text}
use Rattle.disk_memory.proofs.host.MemoryHostConsole.print.Goals as goal

pub returns-in-Ok-clause-part : goal.returns-in-Ok-clause-part
returns-in-Ok-clause-part c told =
    let text = c.args.text.now in
    let all : take (length text) text ≡ text = take_all (length text) text (omega arith) in
    (length text, ap (λ (h : Held). h.printed) (c.in-Ok.ensures.ok ∙ ap (with_text text) c.begins_failing.ensures.held) ∙ ap (λ (l : List ℕ). c.args.self.now.printed.items ++ l) (sym all))
