use Rattle.std.proofs.Common.{◌≡◌, inl, inr, ⊎_elim, ℕ, ◌+◌, ◌*◌, ◌/◌, ◌%◌, ◌<◌, List, length, ◌∙◌, ap, arith}
use Rattle.std.proofs.Math.Nat.{div-add-mod, mod-lt}
use Rattle.std.proofs.lemmas.Bool.{cases_lt}
use Rattle.std.proofs.lemmas.List.{get_or_past}
use Rattle.disk_model.specs.Files.{u64_at}
use Rattle.image_model.specs.Clusters.{Shape}
use Rattle.image_model.specs.Calls.{IsTakeable}
use Rattle.image_steps.proofs.Views.{ready_is, IsFree}
use Rattle.qc_layout.specs.Disks.{place_of}
use Rattle.cluster_pool.specs.Pool as pools
use Rattle.cluster_pool.specs.Pool.{block_at}
use Rattle.cluster_pool.proofs.Sizes.{each_some}
use Rattle.qc_alloc.specs.Allocator.{IsHalfAdded}
use Rattle.qc_alloc.specs.Laws.{IsClean}
use Rattle.qc_alloc.proofs.Grown.{each_is, place_is}
use Rattle.qc_alloc.proofs.laws.prepared_is_clean.Goals as goal

clean : (s : Shape) (k : ℕ) (file : List ℕ) → IsFree s k file → IsClean s k file
clean s k file free = record { once = free.once; zero = free.zero; unnamed = free.none }

pub returns : goal.returns
returns c = λ s disks first a w k is al told low high linked differs.
    let index = k / pools.each a.pool in
    let block = is.blocks index linked in
    let same = each_is s a al.is in
    let slot_in : k % pools.each a.pool < pools.each a.pool = mod-lt k (each_some a.pool.bits is.pool.low) in
    let inside : index < s.blocks = elim (cases_lt index (length a.pool.blocks)) [
      | inl below ↦ omega (
        arith,
        below,
        al.is.blocks,
      )
      | inr past ↦ absurd (linked (get_or_past a.pool.blocks index 0 past))
    ] in
    let word : u64_at (w.seen a.file) (s.counts + 8 * index) ≡ block_at a.pool index =
    ⊎_elim (λ (x : u64_at (w.seen a.file) (s.counts + 8 * index) ≡ block_at a.pool index). x)
    (λ (half : IsHalfAdded s a index (w.seen a.file)). absurd (linked half.missing)) (al.table told index inside) in
    let takeable : IsTakeable s k (w.seen a.file) = record {
      index = index;
      counts = record {
        slot = k % pools.each a.pool;
        inside = omega (arith, slot_in, same);
        is = omega (
          arith,
          div-add-mod k (pools.each a.pool),
          ap
              (λ (x : ℕ). x * index) same,
        );
      };
      block = block.0;
      linked = record { inside = inside; some = block.1; at = word ∙ block.3 ∙ place_is s a.pool.bits block.0 al.is.cluster };
      differ = λ (own : block.0 ≡ k). differs (block.3 ∙ ap (place_of a.pool.bits) own);
    } in
    let free = ready_is al.stands told k (record { from = low; to = high }) takeable in
    record {
      seen = clean s k (w.seen a.file) free.0;
      now = λ x left. clean s k x (free.1 x left);
      takeable = takeable;
    }
