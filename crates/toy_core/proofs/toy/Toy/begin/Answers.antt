use Rattle.std.proofs.Common.{◌≡◌, length, refl, arith, rules}
use Rattle.disk_model.proofs.Laws.{run_on, run_more, reads_within_file}
use Rattle.qc_layout.proofs.Loading.{loading_is_exact}
use Rattle.toy_core.proofs.Opening.{Called, open_reads, within, was_opened, last_epoch, unopened_for}
use Rattle.toy_core.proofs.toy.Toy.begin.Goals as goal

pub returns-in-Err-clause-within : goal.returns-in-Err-clause-within
returns-in-Err-clause-within g c = λ d id h suits told history ready. open_reads c.look.ensures.run ready

pub returns-in-Err-clause-cause : goal.returns-in-Err-clause-cause
returns-in-Err-clause-cause g c = λ suits.
    unopened_for c.in-Err.why c.unopened.result c.args.file.0 (g.D.Outside.world c.args.depot.now) (g.D.Outside.world c.look.new.depot)
    c.unopened.ensures suits c.look.ensures.run c.in-Err.ensures.not

pub returns-then-image-clause-within : goal.returns-then-image-clause-within
returns-then-image-clause-within g c = λ d id h suits told history ready. open_reads c.look.ensures.run ready

pub returns-then-image-clause-cause : goal.returns-then-image-clause-cause
returns-then-image-clause-cause g c = λ suits.
    last_epoch c.in-Ok.found.0 c.in-Ok.found.1 c.args.file.0 (g.D.Outside.world c.args.depot.now) (g.D.Outside.world c.look.new.depot)
    c.in-Ok.ensures.looked suits (let last = c.if-image.true in omega (arith, last)) c.look.ensures.run

pub returns-in-Err-rewrite_first_sector-clause-within : goal.returns-in-Err-rewrite_first_sector-clause-within
returns-in-Err-rewrite_first_sector-clause-within g c = λ d id h suits told history ready.
    let size : length c.head-sector.result ≡ 512 = search rules in
    let call : Called c.in-Ok.found.0 c.in-Ok.found.1 c.args.file.0 c.head-sector.result (g.D.Outside.world c.args.depot.now) (g.D.Outside.world c.look.new.depot) (g.D.Outside.world c.rewrite_first_sector.new.depot) =
    record { looked = c.in-Ok.ensures.looked; look = c.look.ensures.run; next = c.head-sector.ensures; left = search rules; size = size; opens = suits; raise = c.rewrite_first_sector.ensures.puts.writes } in
    within call c.rewrite_first_sector.ensures.crash c.rewrite_first_sector.ensures.seen d id h told history ready

pub returns-clause-within : goal.returns-clause-within
returns-clause-within g c = λ d id h suits told history ready.
    let size : length c.head-sector.result ≡ 512 = search rules in
    let call : Called c.in-Ok.found.0 c.in-Ok.found.1 c.args.file.0 c.head-sector.result (g.D.Outside.world c.args.depot.now) (g.D.Outside.world c.look.new.depot) (g.D.Outside.world c.rewrite_first_sector.new.depot) =
    record { looked = c.in-Ok.ensures.looked; look = c.look.ensures.run; next = c.head-sector.ensures; left = search rules; size = size; opens = suits; raise = c.rewrite_first_sector.ensures.puts.writes } in
    within call c.rewrite_first_sector.ensures.crash c.rewrite_first_sector.ensures.seen d id h told history ready

pub returns-clause-opened : goal.returns-clause-opened
returns-clause-opened g c = λ suits.
    let size : length c.head-sector.result ≡ 512 = search rules in
    let call : Called c.in-Ok.found.0 c.in-Ok.found.1 c.args.file.0 c.head-sector.result (g.D.Outside.world c.args.depot.now) (g.D.Outside.world c.look.new.depot) (g.D.Outside.world c.rewrite_first_sector.new.depot) =
    record { looked = c.in-Ok.ensures.looked; look = c.look.ensures.run; next = c.head-sector.ensures; left = search rules; size = size; opens = suits; raise = c.rewrite_first_sector.ensures.puts.writes } in
    was_opened call loading_is_exact _ refl refl refl refl c.requires.given c.in-Ok-rewrite_first_sector.ensures.done c.in-Ok-rewrite_first_sector.ensures.settled

pub returns-clause-run : goal.returns-clause-run
returns-clause-run g c = run_on (run_more (reads_within_file c.args.file.0) c.look.ensures.run) c.rewrite_first_sector.ensures.puts.calls.run
