-- The one spelling of a line, in which lines are written.
use Rattle.std.specs.Prelude.{ℕ, ◌-◌, length, ◌==◌, slice_index, Bool, true, false, List, [], ◌∷◌, ◌++◌, if◌then◌else◌, codes, bytes_eq}
use Rattle.std.specs.Fmt.{decimal}
use Rattle.hex.specs.Hex.{encode_lower}
use Rattle.core_events.specs.declared.events.Way.{Way}
use Rattle.core_events.specs.declared.events.Way.TheVariants.{Node, Export}
use Rattle.core_events.specs.declared.events.Work.{Work}
use Rattle.core_events.specs.declared.events.Work.TheVariants.{Read, Write, Zero, Flush, Status}
use Rattle.script_model.specs.Words.{Lacks}
use Rattle.script_model.specs.Lines.{Line, Ask, Qmp, Tick, Stop, Quit, Nothing, Spells, drive}

-- some text says this line
abbrev pub IsSpellable : Line → Type 0
IsSpellable l = (text : List ℕ) × Spells text l

-- offset and length
abbrev pub range_text : ℕ → ℕ → List ℕ
range_text at n = decimal at ++ 32 ∷ decimal n

-- what stands before the range of a read: a read of the drive doesn't name it
abbrev pub read_head : List ℕ → List ℕ
read_head name = if bytes_eq name drive then codes "read " else codes "view " ++ name ++ 32 ∷ []

abbrev pub nohole_text : Bool → List ℕ
nohole_text true = codes " nohole"
nohole_text false = []

-- the node, or the export, that is asked
abbrev pub name_of : Way → List ℕ
name_of (Node name) = name
name_of (Export name) = name

abbrev pub work_text : List ℕ → Work → ℕ → ℕ → List ℕ → List ℕ
work_text name Read at n bytes = read_head name ++ range_text at n
work_text name (Write fua) at n bytes = codes "write " ++ decimal at ++ 32 ∷ encode_lower bytes
work_text name (Zero fua no_hole) at n bytes = codes "zero " ++ range_text at n ++ nohole_text no_hole
work_text name Flush at n bytes = codes "flush"
work_text name (Status context one) at n bytes = codes "status " ++ name ++ 32 ∷ context ++ 32 ∷ range_text at n

-- the line's spelling
abbrev pub line_text : Line → List ℕ
line_text (Ask r) = work_text (name_of r.way) r.work r.offset r.length r.bytes
line_text (Qmp json) = codes "qmp " ++ json
line_text Tick = codes "tick"
line_text Stop = codes "stop"
line_text Quit = codes "quit"
line_text Nothing = []

-- what ends a line: a line feed, and before it a carriage return where the spelling ends in one, since one is dropped there
abbrev pub line_end : List ℕ → List ℕ
line_end text = if slice_index text (length text - 1) == 13 then 13 ∷ 10 ∷ [] else 10 ∷ []

-- the line as it is written
abbrev pub written_line : Line → List ℕ
written_line l = line_text l ++ line_end (line_text l)

-- a text without a line feed says this line
abbrev pub IsWritable : Line → Type 0
IsWritable l = (text : List ℕ) × Lacks 10 text × Spells text l

abbrev pub AreWritable : List Line → Type 0
AreWritable [] = Unit {0}
AreWritable (l ∷ ls) = IsWritable l × AreWritable ls

-- these lines as they are written
abbrev pub script_text : List Line → List ℕ
script_text [] = []
script_text (l ∷ ls) = written_line l ++ script_text ls
