use Rattle.std.proofs.Common.{◌≢◌, ℕ, ◌≤◌, List, length, None, IsTrue, rules}
use Rattle.disk_model.proofs.Laws.{run_on}
use Rattle.file_device.proofs.Laws.{quiet_on}
use Rattle.qc_alloc.specs.declared.refusals.ClusterRefusal.{ClusterRefusal}
use Rattle.qc_alloc.specs.Opening.{rule_of}
use Rattle.qc_alloc.specs.Tables.{AreWords, IsFirstBad}
use Rattle.qc_alloc.proofs.Finding.{err_is, first_bad}
use Rattle.qc_alloc.proofs.Reading.{reads_on, reads_handed, seen_back, seen_on}
use Rattle.qc_alloc.proofs.tables.Layout.read_pieces.Goals as goal

pub loop-self-preserved : goal.loop-self-preserved
loop-self-preserved g c =
    let inv = c.loop-self.invariant in
    let had = inv.0 in
    let e = c.in_ok-read_entries.ensures in
    let few : length c.read_entries.new.blocks.items ≤ c.blocks-count.result = search rules in
    let X : List ℕ → Type 0 = λ file. AreWords c.args.self file c.read_entries.new.blocks.items in
    let Y : List ℕ → Type 0 = λ file. AreWords c.args.self file c.loop-self.blocks.items in (
      record {
        run = run_on had.run e.reads.run;
        quiet = quiet_on had.quiet (e.reads.quiet (λ failed. cc));
        few = few;
        are = e.blocks had.are;
        words = seen_back X had.run (e.words (seen_on Y had.run had.words));
      },
      search rules,
    )

pub returns-in_err-read_entries-clause-refused : goal.returns-in_err-read_entries-clause-refused
returns-in_err-read_entries-clause-refused g c =
    let had = c.loop-self.invariant.0 in
    let e = c.in_err-read_entries.ensures in
    let w = g.D.Outside.world c.args.depot.now in
    let P : ClusterRefusal → Type 0 = λ why. rule_of why ≢ None → IsTrue w.tells → IsFirstBad c.args.self (w.seen c.args.file.0) (rule_of why) in
    let Y : List ℕ → Type 0 = λ file. AreWords c.args.self file c.loop-self.blocks.items in
    let why : ClusterRefusal = c.in_err-read_entries.field-0.0 in
    let X : List ℕ → Type 0 = λ file. IsFirstBad c.args.self file (rule_of why) in
    err_is P why c.from_residual.result c.from_residual.ensures.1
    (λ some. seen_back X had.run (λ told. first_bad c.args.self _ c.read_entries.new.blocks.items (rule_of why) (e.blocks had.are) (e.words (seen_on Y had.run had.words) told) (e.refused some told)))

pub returns-in_err-read_entries-clause-reads : goal.returns-in_err-read_entries-clause-reads
returns-in_err-read_entries-clause-reads g c =
    reads_handed c.from_residual.result (reads_on c.loop-self.invariant.0.run c.loop-self.invariant.0.quiet c.in_err-read_entries.ensures.reads) c.from_residual.ensures.1

pub returns-in_err-read_entries-clause-words : goal.returns-in_err-read_entries-clause-words
returns-in_err-read_entries-clause-words g c =
    let had = c.loop-self.invariant.0 in
    let e = c.in_err-read_entries.ensures in
    let X : List ℕ → Type 0 = λ file. AreWords c.args.self file c.read_entries.new.blocks.items in
    let Y : List ℕ → Type 0 = λ file. AreWords c.args.self file c.loop-self.blocks.items in
    seen_back X had.run (e.words (seen_on Y had.run had.words))
