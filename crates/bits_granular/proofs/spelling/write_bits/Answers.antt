use Rattle.std.proofs.Common.{◌≡◌, ◌<◌, ◌+◌, ◌*◌, ◌/◌, ◌%◌, ◌++◌, ◌∷◌, [], ℕ, List, length, ap, ◌∙◌, arith, length-append}
use Rattle.std.proofs.lemmas.Nat.{mod_below}
use Rattle.bitmap_model.specs.Granules.{is_in}
use Rattle.bits_granular.specs.Bytes.{bit_of}
use Rattle.bits_granular.proofs.Parts.{bytes_more}
use Rattle.bits_granular.proofs.spelling.write_bits.Goals as goal

byte_place : (n i : ℕ) → n / 8 * 64 + (n % 8 * 8 + i) ≡ n * 8 + i
byte_place n i = omega arith

byte_small : (n i : ℕ) → i < 8 → n % 8 * 8 + i < 64
byte_small n i small = omega (arith, mod_below n 8)

pub loop-number-preserved : goal.loop-number-preserved
loop-number-preserved c =
    let items : c.push.new.self.items ≡ c.loop-number.bytes.items ++ c.byte_of.result ∷ [] = c.in_ok-push.ensures.items in
    record {
      count = omega (arith, ap length items, length-append {A = ℕ}, c.loop-number.invariant.count);
      bits = λ k below. ap (λ (xs : List ℕ). bit_of xs k) items
          ∙ bytes_more c.loop-number.bytes.items c.byte_of.result c.loop-number.number c.args.flags.now c.loop-number.invariant.count c.loop-number.invariant.bits
          (λ i small. c.byte_of.ensures i small ∙ (c.word.ensures (c.loop-number.number % 8 * 8 + i) (byte_small c.loop-number.number i small)
          ∙ ap (λ (j : ℕ). is_in c.args.flags.now j) (byte_place c.loop-number.number i))) k below;
    }
