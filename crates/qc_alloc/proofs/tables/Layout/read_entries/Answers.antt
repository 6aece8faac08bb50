use Rattle.std.proofs.Common.{◌≡◌, ◌≢◌, ℕ, ◌+◌, ◌*◌, List, length, None, IsTrue, ap, sym, ◌∙◌, rules}
use Rattle.std.proofs.lemmas.Result.{IfErr-weaker}
use Rattle.disk_model.specs.Files.{reading}
use Rattle.file_device.proofs.Laws.{given}
use Rattle.qc_alloc.specs.declared.refusals.ClusterRefusal.{ClusterRefusal}
use Rattle.qc_alloc.specs.Opening.{rule_of}
use Rattle.qc_alloc.specs.Tables.{IsBadNext}
use Rattle.qc_alloc.proofs.Reading.{reads_failed, reads_after, not_failed}
use Rattle.qc_alloc.proofs.tables.Layout.read_entries.Goals as goal

pub returns-in_err-read-clause-reads : goal.returns-in_err-read-clause-reads
returns-in_err-read-clause-reads g c = reads_failed _ c.in_err-read.ensures.looks c.from_residual.ensures.1

pub returns-clause-reads : goal.returns-clause-reads
returns-clause-reads g c = reads_after c.test_entries.result c.in_ok-read.ensures.looks.reads c.in_ok-read.ensures.looks.calls.quiet (not_failed c.test_entries.result c.test_entries.ensures.rule)

pub returns-clause-words : goal.returns-clause-words
returns-clause-words g c before told =
    let w = g.D.Outside.world c.args.depot.now in
    let seen : List ℕ = w.seen c.args.file.0 in
    let count : c.len.result ≡ length c.args.blocks.now.items = search rules in
    let at : ℕ = c.args.self.table + 8 * c.len.result in
    let X : List ℕ → Type 0 = λ file. c.read.new.out ≡ reading file at (length c.args.bytes.now) in
    let is : c.read.new.out ≡ reading seen at (length c.args.bytes.now) = given w c.args.file.0 X c.in_ok-read.ensures.bytes told in
    let e = is ∙ (ap (λ (n : ℕ). reading seen (c.args.self.table + 8 * n) (length c.args.bytes.now)) count
    ∙ ap (λ (n : ℕ). reading seen (c.args.self.table + 8 * length c.args.blocks.now.items) n) (sym c.read.auto.out)) in
    c.test_entries.ensures.words seen e (before told)

pub returns-clause-refused : goal.returns-clause-refused
returns-clause-refused g c =
    let w = g.D.Outside.world c.args.depot.now in
    let seen : List ℕ = w.seen c.args.file.0 in
    let count : c.len.result ≡ length c.args.blocks.now.items = search rules in
    let at : ℕ = c.args.self.table + 8 * c.len.result in
    let X : List ℕ → Type 0 = λ file. c.read.new.out ≡ reading file at (length c.args.bytes.now) in
    let e = λ (told : IsTrue w.tells). given w c.args.file.0 X c.in_ok-read.ensures.bytes told ∙ (ap (λ (n : ℕ). reading seen (c.args.self.table + 8 * n) (length c.args.bytes.now)) count
    ∙ ap (λ (n : ℕ). reading seen (c.args.self.table + 8 * length c.args.blocks.now.items) n) (sym c.read.auto.out)) in
    let P : ClusterRefusal → Type 0 = λ why. (file : List ℕ) → c.read.new.out ≡ reading file (c.args.self.table + 8 * length c.args.blocks.now.items) (length c.read.new.out) →
    IsBadNext c.args.self file c.test_entries.new.blocks.items (rule_of why) in
    let Q : ClusterRefusal → Type 0 = λ why. rule_of why ≢ None → IsTrue w.tells → IsBadNext c.args.self seen c.test_entries.new.blocks.items (rule_of why) in
    IfErr-weaker c.test_entries.result P Q (λ why bad some told. bad seen (e told)) c.test_entries.ensures.refused
