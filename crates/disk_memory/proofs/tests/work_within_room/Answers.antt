use Rattle.disk_memory.proofs.tests.work_within_room.Goals as goal

pub write_within_room-requires-clause-ready : goal.write_within_room-requires-clause-ready
write_within_room-requires-clause-ready c = (c.in_ok-file.ensures.ready 0 600 (c.in_ok-print.ensures.ready 1 600 c.requires.ready c.requires.text).1 c.requires.name).1

pub returns-in_err-file : goal.returns-in_err-file
returns-in_err-file c = absurd (cc ((c.in_err-file.ensures.ready 0 600 (c.in_ok-print.ensures.ready 1 600 c.requires.ready c.requires.text).1 c.requires.name).0))
