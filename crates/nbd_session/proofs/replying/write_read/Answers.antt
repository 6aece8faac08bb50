use Rattle.std.proofs.Common.{rules, arith}
use Rattle.nbd_session.specs.Parts.{plain_head}
use Rattle.nbd_session.proofs.Chunks.{read_sent}
use Rattle.nbd_session.proofs.replying.write_read.Goals as goal

pub returns-clause-sent : goal.returns-clause-sent
returns-clause-sent c =
    read_sent c.args.structured (plain_head c.args.head.now) _ c.args.bytes.now _ c.write_chunk_head.new.out.items.items c.extend_from_slice.new.self.items (search rules) (search rules) (omega arith)
    c.in_ok-write_chunk_head.ensures.written (search rules)
