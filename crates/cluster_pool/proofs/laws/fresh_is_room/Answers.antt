use Rattle.cluster_pool.proofs.Rooms.{fresh_room}
use Rattle.cluster_pool.proofs.laws.fresh_is_room.Goals as goal

pub returns : goal.returns
returns c = λ p file h b u _. fresh_room p file h b u
