use Rattle.image_steps.proofs.Pools.{rests_stand}
use Rattle.image_calls.proofs.laws.resting_stands.Goals as goal

pub returns : goal.returns
returns c s disks taken last f w rests = rests_stand rests
