use Rattle.std.proofs.Common.{drop}
use Rattle.qc_layout.proofs.Puts.{PutsOn}
use Rattle.qc_layout.proofs.writing.put_words.Given as goal

abbrev pub invariant-loop-word : goal.invariant-loop-word
invariant-loop-word l = PutsOn l.words (drop l.word-index l.words) l.fn.out l.fn.at l.out l.end
