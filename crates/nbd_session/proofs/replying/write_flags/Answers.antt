use Rattle.std.proofs.Common.{rules, arith}
use Rattle.nbd_session.proofs.Chunks.{flags_sent}
use Rattle.nbd_session.proofs.replying.write_flags.Goals as goal

pub returns-clause-sent : goal.returns-clause-sent
returns-clause-sent c =
    flags_sent _ c.args.last c.args.id c.args.cookie _ c.args.runs.now _ c.write_chunk_head.new.out.items.items c.extend_from_slice.new.self.items _ (omega arith)
    c.in_ok-write_chunk_head.ensures.written (search rules) c.write_runs.ensures.sent
