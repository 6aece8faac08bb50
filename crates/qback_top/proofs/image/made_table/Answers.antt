use Rattle.std.proofs.Common.{◌≡◌, ◌+◌, ◌^◌, ℕ, List, IsTrue, refl, sym, ap, subst, ◌∙◌, arith}
use Rattle.disk_model.specs.World.{Runs, only_file}
use Rattle.disk_model.proofs.Moments.{run_on}
use Rattle.qc_layout.specs.FirstForm.{table_offset, disk_of}
use Rattle.qback_top.specs.declared.image.Image.{Image}
use Rattle.qback_top.specs.Open.{IsOpen, Spares}
use Rattle.qback_top.proofs.Links.{Tabled, tabled_table, tabled_same, tabled_disk, tabled_keeps, tabled_some}
use Rattle.qback_top.proofs.Growing.{file_read, file_write, read_same, told_on, grown_spares, Longer, longer, is_word, word_of, grown_disk_kept, table_disk, table_spares, has_table, tabled_open}
use Rattle.qback_top.proofs.image.made_table.Given.{Over}
use Rattle.qback_top.proofs.image.made_table.Goals.{After-write_at, In_ok-write_at}
use Rattle.qback_top.proofs.image.made_table.Goals as goal

module _ (g : Over) (c : After-write_at g) where
  -- the bytes of the file at the start, once a cluster was added, and at the end
  abbrev old : List ℕ
  old = (g.D.Outside.world c.args.depot.now).seen c.args.image.now.file.0

  abbrev mid : List ℕ
  mid = (g.D.Outside.world c.grow.new.depot).seen c.args.image.now.file.0

  abbrev new : List ℕ
  new = (g.D.Outside.world c.write_at.new.self).seen c.args.image.now.file.0

  -- the word names the new cluster
  word : c.to_be_bytes.result ≡ word_of c.args.image.now.end
  word = is_word _ _ c.args.image.now.end c.to_be_bytes.ensures (ap (λ (k : ℕ). k + 2 ^ 63) c.in_ok-place.ensures.place)

  module _ (told : IsTrue (g.D.Outside.world c.args.depot.now).tells) (opened : IsOpen c.args.image.now old) where
    -- a cluster was added
    grew : Longer c.args.image.now.file.0 c.args.image.now c.grow.new.image old (g.D.Outside.world c.grow.new.depot)
    grew = longer (told_on c.table.ensures.run told) (read_same c.args.image.now.file.0 c.table.ensures.run) opened refl c.grow.ensures.torn c.in_ok-place.ensures.done c.in_ok-place.ensures.image

    none : table_offset old ≡ 0
    none = sym (c.in_ok-found.ensures.table told opened) ∙ (let f = c.if-found-ne0.false in omega arith)

    -- a word that was written in part spares the rest
    torn : Spares old new
    torn = table_spares grew word none (let end = c.requires.end in omega arith) c.write_at.ensures.call

    -- and keeps the disk
    kept : disk_of new ≡ disk_of old
    kept = table_disk grew word none (let end = c.requires.end in omega arith) c.write_at.ensures.call

-- the table was made
tabled : (g : Over) (c : In_ok-write_at g) → let at = (goal.at.returns-clause-hosts g c).After-write_at in IsTrue (g.D.Outside.world c.args.depot.now).tells → IsOpen c.args.image.now (old g at) → Tabled (old g at) (mid g at) (new g at)
tabled g c told opened =
    let at = (goal.at.returns-clause-hosts g c).After-write_at in
    has_table (grew g at told opened) (word g at) (none g at told opened) (let end = c.requires.end in omega arith) c.in_ok-write_at.ensures.done

pub returns-in_err-place-clause-spares : goal.returns-in_err-place-clause-spares
returns-in_err-place-clause-spares g c = λ told opened. grown_spares (told_on c.table.ensures.run told) (read_same c.args.image.now.file.0 c.table.ensures.run) opened refl c.grow.ensures.torn

pub returns-in_err-write_at-clause-spares : goal.returns-in_err-write_at-clause-spares
returns-in_err-write_at-clause-spares g c = torn g (goal.at.returns-in_err-write_at-clause-spares g c).After-write_at

pub returns-in_err-write_at-clause-run : goal.returns-in_err-write_at-clause-run
returns-in_err-write_at-clause-run g c =
    let same = ap (λ (i : Image). i.file.0) c.in_ok-place.ensures.image in
    run_on (run_on (file_read c.table.ensures.run) (file_write c.grow.ensures.torn.run))
    (subst (λ (k : ℕ). Runs (only_file k) (g.D.Outside.world c.grow.new.depot) (g.D.Outside.world c.write_at.new.self)) same (file_write c.write_at.ensures.call.run))

pub returns-clause-table : goal.returns-clause-table
returns-clause-table g c = λ told opened.
    let at = (goal.at.returns-clause-table g c).After-write_at in
    let t = tabled g c told opened in
    let place : c.in_ok-place.place ≡ table_offset (new g at) = c.in_ok-place.ensures.place ∙ opened.end ∙ sym (tabled_table _ _ _ t) in
    (tabled_open (grew g at told opened) _ t, tabled_disk _ _ _ t, tabled_keeps _ _ _ t, place, λ z. tabled_some _ _ _ t (sym place ∙ z))

pub returns-clause-hosts : goal.returns-clause-hosts
returns-clause-hosts g c = λ told opened. tabled_same _ _ _ (tabled g c told opened)

pub returns-clause-spares : goal.returns-clause-spares
returns-clause-spares g c = torn g (goal.at.returns-clause-spares g c).After-write_at

pub returns-in_err-place-clause-disk : goal.returns-in_err-place-clause-disk
returns-in_err-place-clause-disk g c = λ told opened. grown_disk_kept (told_on c.table.ensures.run told) (read_same c.args.image.now.file.0 c.table.ensures.run) opened refl c.grow.ensures.torn

pub returns-in_err-write_at-clause-disk : goal.returns-in_err-write_at-clause-disk
returns-in_err-write_at-clause-disk g c = kept g (goal.at.returns-in_err-write_at-clause-disk g c).After-write_at

pub returns-clause-disk : goal.returns-clause-disk
returns-clause-disk g c = kept g (goal.at.returns-clause-disk g c).After-write_at

pub returns-clause-run : goal.returns-clause-run
returns-clause-run g c =
    let same = ap (λ (i : Image). i.file.0) c.in_ok-place.ensures.image in
    run_on (run_on (file_read c.table.ensures.run) (file_write c.grow.ensures.torn.run))
    (subst (λ (k : ℕ). Runs (only_file k) (g.D.Outside.world c.grow.new.depot) (g.D.Outside.world c.write_at.new.self)) same (file_write c.write_at.ensures.call.run))
