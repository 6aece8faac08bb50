use Rattle.std.proofs.Common.{◌≡◌, ◌⊎◌, ℕ, List, length, sym, ◌∙◌, ap, subst, arith}
use Rattle.disk_model.specs.Files.{byte}
use Rattle.disk_memory.specs.Outcomes.{SameSector}
use Rattle.disk_memory.proofs.Bytes.{byte_zeros, whole}
use Rattle.disk_memory.proofs.Mixtures.{sectors_padded}
use Rattle.disk_memory.proofs.outcomes.remix.Goals as goal

pub returns-clause-sectors : goal.returns-clause-sectors
returns-clause-sectors c =
    let old = c.args.mixed.now.items in
    let now = c.args.now.now.items in
    let more = c.lengthen.new.file in
    let longer = c.deref_mut.result.now in
    let new = c.mix.new.mixed in
    let room = c.make_room.new.file.items in
    let same_room : room ≡ old = c.make_room.ensures.items in
    let padded : (i : ℕ) → byte longer i ≡ byte old i = λ i. ap (λ (l : List ℕ). byte l i) (c.deref_mut.ensures.value ∙ c.lengthen.ensures.items) ∙ byte_zeros room _ i ∙ ap (λ (l : List ℕ). byte l i) same_room in
    let final = whole more.len new more.items (omega (arith, ap length c.deref_mut.ensures.value)) (omega (arith, more.ok.0)) in
    let sectors : (k : ℕ) → SameSector k new longer ⊎ SameSector k new now = subst (λ (l : List ℕ). (k : ℕ) → SameSector k new longer ⊎ SameSector k new l) c.deref.ensures.value c.mix.ensures.sectors in
    subst (λ (l : List ℕ). (k : ℕ) → SameSector k l old ⊎ SameSector k l now) (sym final) (sectors_padded old longer new now padded sectors)
