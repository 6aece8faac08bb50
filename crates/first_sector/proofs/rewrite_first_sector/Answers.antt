use Rattle.std.proofs.Common.{◌≡◌, length, rules, refl}
use Rattle.file_device.proofs.Laws.{puts_on, puts_err, since_failed, settled_on}
use Rattle.first_sector.proofs.Crash.{crash_after, seen_after, crash_last, seen_last, done_on}
use Rattle.first_sector.proofs.rewrite_first_sector.Goals as goal

pub returns-in_err-sync-clause-crash : goal.returns-in_err-sync-clause-crash
returns-in_err-sync-clause-crash g c long = since_failed _ c.in_err-sync.ensures.synced refl

pub returns-in_err-write-clause-crash : goal.returns-in_err-write-clause-crash
returns-in_err-write-clause-crash g c long =
    let size : length c.args.sector.now ≡ 512 = search rules in
    crash_after size long c.in_ok-sync.ensures.synced c.in_err-write.ensures.wrote

pub returns-in_err-write-clause-seen : goal.returns-in_err-write-clause-seen
returns-in_err-write-clause-seen g c long =
    let size : length c.args.sector.now ≡ 512 = search rules in
    seen_after size long c.in_ok-sync.ensures.synced c.in_err-write.ensures.wrote

pub returns-in_err-write-clause-puts : goal.returns-in_err-write-clause-puts
returns-in_err-write-clause-puts g c = puts_err c.from_residual-in_err-write.ensures.0 (puts_on c.in_ok-sync.ensures.synced.puts c.in_err-write.ensures.wrote.puts)

pub returns-clause-done : goal.returns-clause-done
returns-clause-done g c = done_on c.sync-2.result c.in_ok-sync.ensures.synced c.in_ok-write.ensures.wrote c.sync-2.ensures.synced

pub returns-clause-settled : goal.returns-clause-settled
returns-clause-settled g c = settled_on c.sync-2.result c.sync-2.ensures.synced

pub returns-clause-crash : goal.returns-clause-crash
returns-clause-crash g c long =
    let size : length c.args.sector.now ≡ 512 = search rules in
    crash_last size long c.in_ok-sync.ensures.synced c.in_ok-write.ensures.wrote c.sync-2.ensures.synced

pub returns-clause-seen : goal.returns-clause-seen
returns-clause-seen g c long =
    let size : length c.args.sector.now ≡ 512 = search rules in
    seen_last size long c.in_ok-sync.ensures.synced c.in_ok-write.ensures.wrote c.sync-2.ensures.synced

pub returns-clause-puts : goal.returns-clause-puts
returns-clause-puts g c = puts_on (puts_on c.in_ok-sync.ensures.synced.puts c.in_ok-write.ensures.wrote.puts) c.sync-2.ensures.synced.puts
