use Rattle.std.specs.Int.{w64}
use Rattle.std.proofs.Common.{◌≡◌, ℕ, List, ◌+◌, ◌/◌, ap, sym, subst, ◌∙◌, refl, arith}
use Rattle.std.proofs.lemmas.Bool.{false≢true}
use Rattle.disk_model.specs.Files.{reading}
use Rattle.disk_model.proofs.Moments.{run_on}
use Rattle.disk_model.proofs.Words.{number_read}
use Rattle.qc_layout.specs.Entries.{offset_in}
use Rattle.qback_top.specs.Open.{IsNamed}
use Rattle.qback_top.proofs.Opened.{tables_none, tables_from, tables_give, IsAt}
use Rattle.qback_top.proofs.opening.tables_fit.Goals as goal
use Rattle.qback_top.proofs.opening.tables_fit.Goals.{then-table-image-via-then-table-image, then-table-image-via-else-table-image+then-table-image-2}

pub returns-in-None-clause-fit : goal.returns-in-None-clause-fit
returns-in-None-clause-fit g c = λ told.
    let file = (g.D.Outside.world c.args.depot.now).seen c.args.image.now.file.0 in
    let word = c.from_be_bytes.ensures ∙ sym (number_read w64 file c.read_at.new.out c.args.image.now.l1 (sym (c.in_ok-read_at.ensures.bytes told))) in
    (λ t. absurd (false≢true t), λ fit. absurd (c.in-None.ensures (subst IsNamed (sym word) fit.named)))

pub returns-in-Some-eq0-clause-fit : goal.returns-in-Some-eq0-clause-fit
returns-in-Some-eq0-clause-fit g c = λ told.
    let image = c.args.image.now in
    let file = (g.D.Outside.world c.args.depot.now).seen image.file.0 in
    let word = c.from_be_bytes.ensures ∙ sym (number_read w64 file c.read_at.new.out image.l1 (sym (c.in_ok-read_at.ensures.bytes told))) in
    let none = sym c.in-Some-eq0.ensures.1 ∙ c.in-Some-eq0.field-0-test in
    (λ t. tables_none file image.size image.l1 image.end (subst IsNamed word c.in-Some-eq0.ensures.0) (subst (λ w. offset_in w ≡ 0) word none), λ fit. refl)

pub returns-then-table-image-clause-fit : goal.returns-then-table-image-clause-fit
returns-then-table-image-clause-fit g c = λ told.
    let image = c.args.image.now in
    let file = (g.D.Outside.world c.args.depot.now).seen image.file.0 in
    let word = c.from_be_bytes.ensures ∙ sym (number_read w64 file c.read_at.new.out image.l1 (sym (c.in_ok-read_at.ensures.bytes told))) in
    let is = subst (λ w. c.in-Some.table ≡ offset_in w) word c.in-Some.ensures.1 in (
      λ t. absurd (false≢true t),
      λ fit. elim c.then-table-image.branch [
        | then-table-image-via-then-table-image w ↦
            let low = fit.inside (λ z. c.in-Some.table-test.1 (is ∙ z)) in
            absurd (omega (arith, is, low, w.if-table-image.true))
        | then-table-image-via-else-table-image+then-table-image-2 w ↦
            absurd (fit.apart (λ z. c.in-Some.table-test.1 (is ∙ z)) (sym is ∙ w.if-table-image-2.true))
      ],
    )

pub returns-clause-fit : goal.returns-clause-fit
returns-clause-fit g c = λ told.
    let image = c.args.image.now in
    let file = (g.D.Outside.world c.args.depot.now).seen image.file.0 in
    let word = c.from_be_bytes.ensures ∙ sym (number_read w64 file c.read_at.new.out image.l1 (sym (c.in_ok-read_at.ensures.bytes told))) in
    let at : IsAt file image.l1 image.end c.in-Some.table = record {
      named = subst IsNamed word c.in-Some.ensures.0;
      is = subst (λ w. c.in-Some.table ≡ offset_in w) word c.in-Some.ensures.1;
      some = c.in-Some.table-test.1;
      inside = c.if-table-image.false;
      apart = c.if-table-image-2.false;
    } in
    let run = c.read_at.ensures.run in
    let read = c.in_ok-read_at-2.ensures.bytes (run.goes.tells ∙ told) ∙ ap (λ (l : List ℕ). reading l c.in-Some.table 4096) ((run.files image.file.0 (λ x. x)).seen) in
    let count : c.div_ceil-count.result ≡ (image.size + 4095) / 4096 = omega (arith, c.div_ceil-count.ensures) in (
      λ t. tables_from file c.read_at-2.new.out image.size image.l1 image.end c.in-Some.table c.div_ceil-count.result at read count (c.entries_fit.ensures.0 t),
      λ fit. c.entries_fit.ensures.1 (tables_give file c.read_at-2.new.out image.size image.l1 image.end c.in-Some.table c.div_ceil-count.result at read count fit),
    )

pub returns-clause-run : goal.returns-clause-run
returns-clause-run g c = run_on c.read_at.ensures.run c.read_at-2.ensures.run
