use Rattle.disk_memory.specs.Host.{room}
use Rattle.disk_memory.proofs.Rooms.{room_on, room_spares}
use Rattle.disk_memory.proofs.host.MemoryHost.reserve.Goals as goal

pub returns-clause-room : goal.returns-clause-room
returns-clause-room c more size has =
    room_spares more size (room c.widen_spare.new.self) (room c.add_spare.new.self) c.add_spare.ensures.room
    (room_on more size (room c.widen_files.new.self) (room c.widen_spare.new.self) c.widen_spare.ensures.room
    (room_on more size (room c.widen_text.new.self) (room c.widen_files.new.self) c.widen_files.ensures.room
    (room_on more size (room c.widen_list.new.self) (room c.widen_text.new.self) c.widen_text.ensures.room
    (room_on more size (room c.args.self.now) (room c.widen_list.new.self) c.widen_list.ensures.room has))))
