use Rattle.std.proofs.Common.{◌≡◌, ℕ, false, List, ◌++◌, length, get_or, take, drop, replicate, sym, ap, ◌∙◌, arith, rules}
use Rattle.std.proofs.lemmas.Grind.{common_steps}
use Rattle.bitmap_model.proofs.Sets.{length-set_of}
use Rattle.cluster_pool.specs.Sets.{is_in_words}
use Rattle.cluster_pool.proofs.Words.{none_spelled}
use Rattle.cluster_pool.proofs.set.ClusterSet.clear.Goals as goal

refilled : (xs ws : List ℕ) (n : ℕ) → length xs ≡ n → length ws ≡ n → take n (ws ++ drop (length ws) xs) ≡ ws
refilled xs ws n long same = grind (arith, common_steps)

pub returns : goal.returns
returns c =
    let n : ℕ = c.self.inside.count in
    let long : n ≡ length c.args.self.now = sym (length-set_of n (is_in_words c.self.inside.words.items)) ∙ ap length c.self.view_is in
    let zeros : c.fill.new.self ≡ replicate (length c.as_mut_slice.result.now) 0 = c.fill.ensures.after (λ y e. search rules) in
    let whole : take c.self.inside.words.len (c.fill.new.self ++ drop (length c.fill.new.self) c.self.inside.words.items) ≡ c.fill.new.self =
    refilled c.self.inside.words.items c.fill.new.self c.self.inside.words.len (omega (arith, c.self.inside.words.ok)) (omega (arith, c.fill.ensures.len, c.as_mut_slice.ensures.len, c.self.inside.words.ok)) in
    none_spelled n (take c.self.inside.words.len (c.fill.new.self ++ drop (length c.fill.new.self) c.self.inside.words.items))
    (λ i. ap (λ (ws : List ℕ). get_or ws i 0) (whole ∙ zeros) ∙ grind (arith, common_steps)) ∙ ap (λ (m : ℕ). replicate m false) long
