use Rattle.std.proofs.Common.{◌≡◌, ℕ, ◌*◌, ◌/◌, ◌%◌, ◌^◌, ◌<◌, ◌≤◌, List, Bool, length, get_or, set, sym, ap, ◌∙◌, arith}
use Rattle.std.specs.Prelude.{bit_and}
use Rattle.std.specs.Int.{bit_not, w64}
use Rattle.std.proofs.lemmas.List.{get_or_read}
use Rattle.bitmap_model.specs.Granules.{set_of}
use Rattle.bitmap_model.proofs.Sets.{length-set_of}
use Rattle.cluster_pool.specs.Sets.{is_in_words, without_member}
use Rattle.cluster_pool.proofs.Words.{spelled_without}
use Rattle.cluster_pool.proofs.set.ClusterSet.remove.Goals as goal

pub index-requires : goal.index-requires
index-requires c =
    let fits : c.self.inside.count ≤ 64 * length c.self.inside.words.items = c.self.invariant in
    let long : length c.args.self.now ≡ c.self.inside.count = ap length (sym c.self.view_is) ∙ length-set_of c.self.inside.count (is_in_words c.self.inside.words.items) in
    omega (arith, c.self.inside.words.ok)

pub index_mut-requires : goal.index_mut-requires
index_mut-requires c =
    let fits : c.self.inside.count ≤ 64 * length c.self.inside.words.items = c.self.invariant in
    let long : length c.args.self.now ≡ c.self.inside.count = ap length (sym c.self.view_is) ∙ length-set_of c.self.inside.count (is_in_words c.self.inside.words.items) in
    omega (arith, c.self.inside.words.ok)

pub returns : goal.returns
returns c =
    let words : List ℕ = c.self.inside.words.items in
    let n : ℕ = c.self.inside.count in
    let k : ℕ = c.args.number in
    let fits : n ≤ 64 * length words = c.self.invariant in
    let long : length c.args.self.now ≡ n = ap length (sym c.self.view_is) ∙ length-set_of n (is_in_words words) in
    let inside : k < n = omega (arith, c.requires) in
    let word : c.index.result.now ≡ get_or words (k / 64) 0 = get_or_read words _ _ (omega arith) c.index.ensures 0 in
    ap (λ (x : ℕ). set_of n (is_in_words (set words (k / 64) (bit_and x (bit_not w64 (1 * 2 ^ (k % 64) % 2 ^ 64)))))) word
    ∙ (spelled_without words n k inside fits ∙ ap (λ (s : List Bool). without_member s k) c.self.view_is)
