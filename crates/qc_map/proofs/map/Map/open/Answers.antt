use Rattle.qc_map.proofs.Numbers.{mapping_read}
use Rattle.qc_map.proofs.map.Map.open.Goals as goal

pub over-requires : goal.over-requires
over-requires g c = mapping_read c.args.file.0 c.args.header.now c.args.file.0 (g.D.Outside.world c.args.depot.now) c.requires.header c.in_ok-claim_tables.ensures.near
