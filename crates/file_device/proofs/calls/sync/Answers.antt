use Rattle.file_device.proofs.Laws.{put, same_sync}
use Rattle.file_device.proofs.calls.sync.Goals as goal

pub returns : goal.returns
returns g c = record {
  synced = record {
    puts = put c.sync.ensures.call.run c.sync.ensures.cause c.sync.ensures.quiet;
    sound = g.met.D.Depot.sound _;
    sound_on = g.met.D.Depot.sound _;
    call = c.sync.ensures.call;
    done = c.sync.ensures.done;
    failed = same_sync c.sync.result c.sync.ensures.call c.sync.ensures.failed;
  };
}
