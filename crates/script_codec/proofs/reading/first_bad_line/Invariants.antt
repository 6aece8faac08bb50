use Rattle.std.proofs.Common.{◌+◌, ◌≤◌, length}
use Rattle.script_model.specs.Words.{lines_of}
use Rattle.script_codec.proofs.GoingOn.{GoesOn, BadOn}
use Rattle.script_codec.proofs.reading.first_bad_line.Given as goal

abbrev pub invariant-loop-rest : goal.invariant-loop-rest
invariant-loop-rest l = record {
  said : GoesOn (lines_of l.rest) (lines_of l.fn.text);
  refused : BadOn (lines_of l.rest) l.count (lines_of l.fn.text);
  counted : l.count + length l.rest ≤ length l.fn.text;
}

abbrev pub decreases-loop-rest : goal.decreases-loop-rest
decreases-loop-rest l = length l.rest
