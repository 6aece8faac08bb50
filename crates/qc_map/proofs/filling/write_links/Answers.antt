use Rattle.std.proofs.Common.{◌≡◌, inl, inr, ℕ, ◌+◌, ◌-◌, ◌*◌, ◌%◌, ◌^◌, ◌<◌, List, length, take, drop, append_assoc, sym, ◌∙◌, ap, subst, arith}
use Rattle.std.specs.Int.{to_be_bytes, w64}
use Rattle.std.proofs.lemmas.Bool.{cases_lt}
use Rattle.std.proofs.lemmas.List.{length-take}
use Rattle.std.proofs.Math.Nat.{mul_assoc, mul_comm}
use borrow.Rule.Slice.PartMut.{put_mid}
use Rattle.disk_model.specs.Files.{u64_at}
use Rattle.disk_model.proofs.Laws.{number_same, number-append, length-to_be_bytes}
use Rattle.image_model.specs.Clusters.{Shape, place, IsLink}
use Rattle.qc_map.proofs.Filled.{shifted}
use Rattle.qc_map.proofs.Pieces.{length_put, put_before}
use Rattle.qc_map.proofs.filling.write_links.Goals as goal

-- one more word, behind those before it
word_put : (out bytes : List ℕ) (i n v : ℕ) (each : ℕ → ℕ) → length out ≡ 8 * n → i < n → bytes ≡ to_be_bytes w64 v → v < 18446744073709551616 → v ≡ each i → ((m : ℕ) → m < i → u64_at out (8 * m) ≡ each m)
    → (m : ℕ) → m < i + 1 → u64_at (put_mid (8 * i) (8 * i + 8 - 8 * i) out bytes) (8 * m) ≡ each m
word_put out bytes i n v each long inside is fits now before m less = elim (cases_lt m i) [
  | inl below ↦
      number_same w64 (put_mid (8 * i) (8 * i + 8 - 8 * i) out bytes) out (8 * m) (λ x low high. put_before out bytes (8 * i) (8 * i + 8) (omega arith) (omega (arith, long, inside)) (ap length is ∙ length-to_be_bytes w64 v ∙ omega arith) x (omega (arith, high, below)))
      ∙ before m below
  | inr past ↦
      let at : m ≡ i = omega (arith, past, less) in
      subst (λ (k : ℕ). u64_at (put_mid (8 * i) (8 * i + 8 - 8 * i) out bytes) (8 * k) ≡ each k) (sym at)
      (ap (λ (b : List ℕ). u64_at (put_mid (8 * i) (8 * i + 8 - 8 * i) out b) (8 * i)) is
      ∙ ap (λ (l : List ℕ). u64_at l (8 * i)) (sym (append_assoc (take (8 * i) out) (to_be_bytes w64 v) (drop (8 * i + 8 - 8 * i) (drop (8 * i) out))))
      ∙ number-append w64 (take (8 * i) out) (drop (8 * i + 8 - 8 * i) (drop (8 * i) out)) (8 * i) v (omega (arith, length-take (8 * i) out, long, inside)) fits ∙ now)
]

pub loop-index-preserved : goal.loop-index-preserved
loop-index-preserved c =
    let at = shifted c.args.cluster_bits (c.args.taken.first + c.loop-index.index) c.requires.high (omega (arith, c.requires.below, c.loop-index-test.true)) in
    let long : length c.loop-index.entries ≡ 8 * c.args.taken.count = c.loop-index.invariant.long ∙ c.requires.long in
    let bytes = c.copy_from_slice.ensures.after ∙ c.to_be_bytes.ensures in
    record {
      long = length_put c.loop-index.entries c.copy_from_slice.new.self (8 * c.loop-index.index) (8 * c.loop-index.index + 8) (omega arith) (omega (arith, long, c.loop-index-test.true)) (ap length bytes ∙ omega arith)
          ∙ c.loop-index.invariant.long;
      links = word_put c.loop-index.entries c.copy_from_slice.new.self c.loop-index.index c.args.taken.count ((c.args.taken.first + c.loop-index.index) * 2 ^ c.args.cluster_bits % 18446744073709551616 + 9223372036854775808)
          (λ m. (c.args.taken.first + m) * 2 ^ c.args.cluster_bits + 9223372036854775808) long c.loop-index-test.true bytes (omega (arith, at)) (omega (arith, at)) c.loop-index.invariant.links;
    }

link_is : (s : Shape) (bits k w : ℕ) → 2 ^ bits ≡ 512 * s.sectors → w ≡ k * 2 ^ bits + 9223372036854775808 → IsLink s w k
unfolding place
link_is s bits k w cluster is =
    let there : k * 2 ^ bits ≡ 512 * (s.sectors * k) = mul_comm k (2 ^ bits) ∙ ap (λ (n : ℕ). n * k) cluster ∙ mul_assoc 512 s.sectors k in
    is ∙ ap (λ (n : ℕ). n + 9223372036854775808) there

pub returns : goal.returns
returns c = record {
  links = λ s cluster. record {
    long = c.loop-index.invariant.long ∙ c.requires.long;
    link = λ m m_in. link_is s c.args.cluster_bits (c.args.taken.first + m) _ cluster (c.loop-index.invariant.links m (omega (arith, m_in, c.loop-index-test.false)));
  };
}
