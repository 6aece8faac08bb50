use Rattle.std.proofs.Common.{◌+◌, ◌≤◌, length}
use Rattle.std.specs.Prelude.{map}
use Rattle.script_model.specs.Words.{lines_of}
use Rattle.script_codec.specs.Views.{plain_line}
use Rattle.script_codec.proofs.GoingOn.{ReadOn, BadOn}
use Rattle.script_codec.proofs.reading.read_script.Given as goal

abbrev pub invariant-loop-rest : goal.invariant-loop-rest
invariant-loop-rest l = record {
  said : ReadOn (lines_of l.rest) (map plain_line l.items.items) (lines_of l.fn.bytes);
  refused : BadOn (lines_of l.rest) l.count (lines_of l.fn.bytes);
  counted : l.count + length l.rest ≤ length l.fn.bytes;
}

abbrev pub decreases-loop-rest : goal.decreases-loop-rest
decreases-loop-rest l = length l.rest
