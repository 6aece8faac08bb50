use Rattle.file_device.specs.File.{file_of}
use Rattle.file_device.proofs.Laws.{look}
use Rattle.file_device.proofs.calls.read.Goals as goal

pub returns-clause-bytes : goal.returns-clause-bytes
unfolding file_of
returns-clause-bytes g c = c.read_at.ensures.bytes

pub returns-clause-looks : goal.returns-clause-looks
returns-clause-looks g c = look c.read_at.ensures.run c.read_at.ensures.cause c.read_at.ensures.quiet
