use Rattle.std.proofs.Common.{refl, arith}
use Rattle.plain_model.specs.Outcome.{no_trouble}
use Rattle.machine_rows.proofs.Computing.{machine_computes}
use Rattle.machine_rows.proofs.rows.steps_may_be_taken.Goals as goal

pub returns : goal.returns
unfolding machine_computes
returns c = record {
  write = record { trouble = no_trouble; contents = record { torn = tt; answer_is = refl; state_is = refl }; space = record { moved = 0; store_is = refl; freed_is = refl }; faults = grind arith };
  room_stays = record { trouble = no_trouble; contents = record { torn = tt; answer_is = refl; state_is = refl }; space = record { moved = 0; store_is = refl; freed_is = refl }; faults = grind arith };
  room_moves = record { trouble = no_trouble; contents = record { torn = tt; answer_is = refl; state_is = refl }; space = record { moved = 1; store_is = refl; freed_is = refl }; faults = grind arith };
}
