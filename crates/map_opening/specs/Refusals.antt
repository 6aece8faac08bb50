-- The rules that refusals name.
use Rattle.std.specs.Prelude.{Option, Some, None}
use Rattle.qc_layout.specs.declared.faults.ImageFault.{ImageFault}
use Rattle.qc_layout.specs.declared.faults.ImageFault.TheVariants as faults
use Rattle.map_opening.specs.declared.refusals.MapRefusal.{MapRefusal}
use Rattle.map_opening.specs.declared.refusals.MapRefusal.TheVariants.{Reserved, Compressed, Misaligned, PastLimit, Overlap, Uncounted, Failed, Memory}

-- the rule that a refusal names, if it names one
abbrev pub rule_of : MapRefusal → Option ImageFault
rule_of (Reserved at) = Some (faults.Reserved at)
rule_of (Compressed at) = Some (faults.Compressed at)
rule_of (Misaligned at) = Some (faults.Misaligned at)
rule_of (PastLimit offset) = Some (faults.PastLimit offset)
rule_of (Overlap offset) = Some (faults.Overlap offset)
rule_of (Uncounted offset) = Some (faults.Uncounted offset)
rule_of Failed = None
rule_of Memory = None
