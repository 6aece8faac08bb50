use Rattle.std.proofs.Common.{◌≡◌, ℕ, ◌+◌, ◌*◌, ◌≤◌, List, length, ap, sym, subst, ◌∙◌, arith, rules}
use Rattle.std.proofs.lemmas.Grind.{common_steps}
use Rattle.disk_model.specs.Files.{reading, u64_at}
use Rattle.qc_alloc.specs.declared.refusals.ClusterRefusal.{ClusterRefusal}
use Rattle.qc_alloc.specs.Opening.{rule_of}
use Rattle.qc_alloc.specs.Tables.{AreBlocks, AreWords, IsBlock, IsBadNext, entry_fault}
use Rattle.qc_alloc.proofs.Finding.{blocks_push, words_push, next_word, err_is}
use Rattle.qc_alloc.proofs.tables.Layout.test_entries.Goals as goal

pub returns-in_err-block-clause-refused : goal.returns-in_err-block-clause-refused
returns-in_err-block-clause-refused c =
    let P : ClusterRefusal → Type 0 = λ why. (file : List ℕ) → c.args.bytes.now ≡ reading file (c.args.self.table + 8 * length c.args.blocks.now.items) (length c.args.bytes.now) →
    IsBadNext c.args.self file c.loop-index.blocks.items (rule_of why) in
    let inside : 8 * c.loop-index.index + 8 ≤ length c.args.bytes.now = omega arith in
    let inv = c.loop-index.invariant in
    let count : c.len.result ≡ length c.loop-index.blocks.items = search rules in
    err_is P _ c.from_residual.result c.from_residual.ensures.1 (λ file e.
    let word : c.word_at.result ≡ u64_at file (c.args.self.table + 8 * length c.loop-index.blocks.items) =
    c.word_at.ensures ∙ next_word c.args.self file c.args.bytes.now (length c.args.blocks.now.items) (length c.loop-index.blocks.items) c.loop-index.index e inside inv.0 in
    let fault = c.in_err-block.ensures.refused.1 in
    record {
      inside = omega (arith, inv.0);
      is = ap (λ (n : ℕ). entry_fault c.args.self n (u64_at file (c.args.self.table + 8 * length c.loop-index.blocks.items))) (sym count)
          ∙ (ap (λ (w : ℕ). entry_fault c.args.self c.len.result w) (sym word) ∙ sym fault);
    })

pub loop-index-preserved : goal.loop-index-preserved
loop-index-preserved c =
    let items = c.push_reserved.ensures.items in
    let inv = c.loop-index.invariant in
    let passes = c.in_ok-block.ensures.passes in
    let inside : 8 * c.loop-index.index + 8 ≤ length c.args.bytes.now = omega arith in (
      grind (arith, common_steps),
      c.push_reserved.ensures.capacity ∙ inv.1,
      λ before. let P : List ℕ → Type 0 = AreBlocks c.args.self in
          subst P (sym items) (blocks_push c.args.self c.loop-index.blocks.items c.in_ok-block.block (inv.2 before) (subst (IsBlock c.args.self) (sym passes.0) passes.1)),
      λ file e before. let P : List ℕ → Type 0 = AreWords c.args.self file in
          subst P (sym items) (words_push c.args.self file c.loop-index.blocks.items c.in_ok-block.block (inv.3 file e before)
          (passes.0 ∙ (c.word_at.ensures ∙ next_word c.args.self file c.args.bytes.now (length c.args.blocks.now.items) (length c.loop-index.blocks.items) c.loop-index.index e inside inv.0))),
    )
