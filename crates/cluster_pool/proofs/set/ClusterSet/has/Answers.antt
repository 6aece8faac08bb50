use Rattle.std.proofs.Common.{◌≡◌, ℕ, ◌*◌, ◌/◌, ◌%◌, ◌≤◌, List, Bool, length, get_or, sym, ap, ◌∙◌, arith}
use Rattle.std.specs.Prelude.{◌==◌}
use Rattle.std.specs.Int.{bit_at}
use Rattle.std.proofs.lemmas.Bool.{le-ltb}
use Rattle.std.proofs.lemmas.List.{get_or_read}
use Rattle.std.proofs.lemmas.Nat.Bits.{shr_and_one}
use Rattle.bitmap_model.specs.Granules.{is_in}
use Rattle.bitmap_model.proofs.Sets.{is_in-set_of}
use Rattle.cluster_pool.specs.Sets.{is_in_words}
use Rattle.cluster_pool.proofs.Words.{is_in-set_of_any}
use Rattle.cluster_pool.proofs.set.ClusterSet.has.Goals as goal

pub returns-then-number-self : goal.returns-then-number-self
returns-then-number-self c =
    let words : List ℕ = c.self.inside.words.items in
    let k : ℕ = c.args.number in
    let fits : c.self.inside.count ≤ 64 * length words = c.self.invariant in
    let word : c.index.result.now ≡ get_or words (k / 64) 0 = get_or_read words _ _ (omega arith) c.index.ensures 0 in
    ap (λ (b : ℕ). b == 1) (shr_and_one c.index.result.now (k % 64) ∙ ap (λ (x : ℕ). bit_at x (k % 64)) word)
    ∙ (sym (is_in-set_of c.self.inside.count (is_in_words words) k c.if-number-self.true) ∙ ap (λ (s : List Bool). is_in s k) c.self.view_is)

pub returns-else-number-self : goal.returns-else-number-self
returns-else-number-self c =
    let k : ℕ = c.args.number in
    le-ltb k c.self.inside.count c.if-number-self.false
    ∙ (sym (is_in-set_of_any c.self.inside.count (is_in_words c.self.inside.words.items) k c.if-number-self.false) ∙ ap (λ (s : List Bool). is_in s k) c.self.view_is)
