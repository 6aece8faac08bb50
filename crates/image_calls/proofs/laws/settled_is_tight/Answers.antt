use Rattle.image_steps.proofs.Loads.{settled_tight}
use Rattle.image_calls.proofs.laws.settled_is_tight.Goals as goal

pub returns : goal.returns
returns c s disks taken file h shape long spells faultless spans owns safe = settled_tight s disks file h shape long spells faultless spans owns safe taken
