use Rattle.file_device.proofs.Pairs.{copy_stopped, copy_done}
use Rattle.file_device.proofs.copies.copy.Goals as goal

pub returns-in_err-read : goal.returns-in_err-read
returns-in_err-read g c = record { copied = copy_stopped c.args.at c.args.to.0 c.args.place _ c.from_residual.ensures.0 c.in_err-read.ensures.looks }

pub returns : goal.returns
returns g c = record { copied = copy_done c.args.at _ c.requires.apart c.in_ok-read.ensures.bytes c.read.auto.out c.in_ok-read.ensures.looks c.write.ensures.wrote }
