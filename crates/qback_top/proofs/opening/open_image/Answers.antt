use Rattle.std.proofs.Common.{ℕ, List, IsTrue, Bool, length, ap, sym, subst, ◌∙◌, arith}
use Rattle.std.specs.Prelude.{◌↔◌}
use Rattle.std.proofs.lemmas.Bool.{false≢true}
use Rattle.disk_model.specs.Files.{reading}
use Rattle.qc_layout.specs.FirstForm.{head_of}
use Rattle.qback_top.specs.declared.image.Image.{Image}
use Rattle.qback_top.specs.Open.{HeadFits, TablesFit}
use Rattle.qback_top.proofs.Opened.{IsDescribed, described, opened, not_opened}
use Rattle.qback_top.proofs.opening.open_image.Given.{Over}
use Rattle.qback_top.proofs.opening.open_image.Goals.{In_ok-tables_fit}
use Rattle.qback_top.proofs.opening.open_image.Goals as goal

-- what was read of the file tells the image, and whether its tables fit
record Tried (file : List ℕ) (image : Image) (fit : Bool) : Type 0 where
  pub is : IsDescribed image file
  pub head : HeadFits (head_of file) (length file)
  pub tables : IsTrue fit ↔ TablesFit file image.size image.l1 image.end

-- the calls tell it
tried : (g : Over) (c : In_ok-tables_fit g) → IsTrue (g.D.Outside.world c.args.depot.now).tells → Tried ((g.D.Outside.world c.args.depot.now).seen c.args.file.0) c.in-Some.image c.in_ok-tables_fit.field-0
tried g c told =
    let image = c.in-Some.image in
    let end = c.in_ok-end.ensures.size told in
    let sized = c.size.ensures.run in
    let ran = c.read_at.ensures.run in
    let read = c.in_ok-read_at.ensures.bytes (sized.goes.tells ∙ told) ∙ ap (λ (l : List ℕ). reading l 0 104) ((sized.files c.args.file.0 (λ x. x)).seen) in
    let seen = ap (λ (i : Image). (g.D.Outside.world c.read_at.new.self).seen i.file.0) c.in-Some.ensures.1 ∙ (ran.files c.args.file.0 (λ x. x)).seen ∙ (sized.files c.args.file.0 (λ x. x)).seen in
    record {
      is = described image ((g.D.Outside.world c.args.depot.now).seen c.args.file.0) c.read_at.new.out c.args.file c.in_ok-end.end read end c.in-Some.ensures.1;
      head = subst (λ (n : ℕ). HeadFits (head_of ((g.D.Outside.world c.args.depot.now).seen c.args.file.0)) n) end (subst (λ (h : List ℕ). HeadFits h c.in_ok-end.end) read c.in-Some.ensures.0);
      tables = subst (λ (l : List ℕ). IsTrue c.in_ok-tables_fit.field-0 ↔ TablesFit l image.size image.l1 image.end) seen (c.in_ok-tables_fit.ensures.fit (ran.goes.tells ∙ sized.goes.tells ∙ told));
    }

pub returns-then-branch-clause-taken : goal.returns-then-branch-clause-taken
returns-then-branch-clause-taken g c = λ told.
    let t = tried g (goal.at.returns-then-branch-clause-taken g c).In_ok-tables_fit told in
    let end = c.in_ok-end.ensures.size told in
    opened c.in-Some.image _ t.is (omega (arith, end, c.if-end-lt104.false)) (omega (arith, end, c.if-end-ne0.false)) (omega (arith, end, c.if-end.false)) t.head (t.tables.0 c.if-branch.true)

pub returns-else-branch-clause-taken : goal.returns-else-branch-clause-taken
returns-else-branch-clause-taken g c = λ told.
    let t = tried g (goal.at.returns-else-branch-clause-taken g c).In_ok-tables_fit told in
    not_opened c.in-Some.image _ t.is (λ fit. false≢true (sym c.if-branch.false ∙ t.tables.1 fit))
