-- Why a run stops early.
use Rattle.std.specs.Prelude.{Result, IfErr}
use Rattle.disk_model.specs.World.{World, Rose}
use Rattle.qback_top.specs.declared.stop.Stop.{Stop}
use Rattle.qback_top.specs.declared.stop.Stop.TheVariants.{Memory, Fault}

-- a fault is told only where the shared count of faults rose
abbrev pub Needs : World → World → Stop → Type 0
Needs old new Memory = Unit {0}
Needs old new Fault = Rose old.faults.shared new.faults.shared

abbrev pub StopsFor : {T : Type 0} → World → World → Result T Stop → Type 0
StopsFor old new result = IfErr result (Needs old new)
