-- A set of granules that joins itself.
use Rattle.std.proofs.lemmas.Grind.{common_steps}
use Rattle.std.proofs.Common.{arith, ◌≡◌, ℕ, ◌<◌, Bool, List, length, sym, ap, ◌∙◌, refl}
use Rattle.bitmap_model.specs.Granules.{GranuleSet, IsShaped, united, merged, is_in, set_of}
use Rattle.bitmap_model.proofs.Sets.{set_of-from}
use Rattle.bitmap_model.proofs.Covering.{sets_cover, length-united}

united_itself : (s : GranuleSet) (k : ℕ) → IsShaped s → k < length s.set → is_in (united s.granularity s.set s.granularity s.set) k ≡ is_in s.set k
united_itself s k shaped below = grind (arith, common_steps, sets_cover)

-- it stays as it is
pub merged_itself : (s : GranuleSet) → IsShaped s → merged s s ≡ s
merged_itself s shaped =
    let all : List Bool = united s.granularity s.set s.granularity s.set in
    let long : length all ≡ length s.set = length-united s.granularity s.granularity s.set s.set in
    let mine : s.set ≡ set_of (length s.set) (is_in s.set) = set_of-from (length s.set) (is_in s.set) s.set refl (λ k below. refl) in
    let theirs : all ≡ set_of (length s.set) (is_in s.set) = set_of-from (length s.set) (is_in s.set) all long (λ k below. united_itself s k shaped below) in
    ap (λ (set : List Bool). record s { set = set }) (theirs ∙ sym mine)
