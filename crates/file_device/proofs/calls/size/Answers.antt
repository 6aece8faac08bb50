use Rattle.file_device.specs.File.{file_of}
use Rattle.file_device.proofs.Laws.{look}
use Rattle.file_device.proofs.calls.size.Goals as goal

pub returns-clause-size : goal.returns-clause-size
unfolding file_of
returns-clause-size g c = c.size.ensures.size

pub returns-clause-looks : goal.returns-clause-looks
returns-clause-looks g c = look c.size.ensures.run c.size.ensures.cause c.size.ensures.quiet
