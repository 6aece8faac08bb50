use Rattle.std.proofs.Common.{◌≡◌, ◌+◌, ◌*◌}
use Rattle.backup_file.specs.Plans.{PutsWords}
use Rattle.backup_file.proofs.layout.put_words.Given as goal

abbrev pub invariant-loop-i : goal.invariant-loop-i
invariant-loop-i l = record { word : l.word ≡ l.first + l.step * l.i; puts : PutsWords l.from l.i l.first l.step l.fn.out l.out }
