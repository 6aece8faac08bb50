use Rattle.std.proofs.Common.{◌≡◌, ◌<◌, ◌^◌, ℕ, true, false, sym, subst, arith, rules}
use Rattle.std.specs.Prelude.{List, nat_lt}
use Rattle.backup_file.specs.Layout.{is_form}
use Rattle.script_model.specs.Words.{IsNumber}
use Rattle.script_model.proofs.Numbers.{one_number}
use Rattle.qback_top.specs.Words.{SayForm}
use Rattle.qback_top.proofs.words.form_of.Goals as goal

-- numbers past 32 bits are no cluster bits
too_many : (bits size : ℕ) → (bits < 2 ^ 32 → ⊥) → is_form bits size ≡ true → ⊥
too_many bits size large is = absurd (let high : 21 < bits = omega arith in let e : nat_lt 21 bits ≡ true = search rules in grind arith)

-- where the words spell these numbers, they say no others
same_form : (size bits size_text bits_text : List ℕ) (n b m d : ℕ) → size_text ≡ size → bits_text ≡ bits → IsNumber size_text n → IsNumber bits_text b → SayForm size bits m d → is_form b n ≡ true
same_form size bits size_text bits_text n b m d e f p q say =
    let one : m ≡ n = one_number size m n say.sizes (subst (λ (t : List ℕ). IsNumber t n) e p) in
    let other : d ≡ b = one_number bits d b say.cluster_bits (subst (λ (t : List ℕ). IsNumber t b) f q) in
    rw (sym one, sym other) say.valid

pub returns-in_default : goal.returns-in_default
returns-in_default c = λ n b say. too_many c.in_ok-bits.bits c.in_ok-size.size c.in_default.ensures
    (same_form c.args.size.now c.args.bits.now c.as_bytes.result.now c.as_bytes-2.result.now c.in_ok-size.size c.in_ok-bits.bits n b c.as_bytes.ensures.value c.as_bytes-2.ensures.value c.in_ok-size.ensures c.in_ok-bits.ensures say)

pub returns-else-valid_form : goal.returns-else-valid_form
returns-else-valid_form c = λ n b say. absurd
    (let is = same_form c.args.size.now c.args.bits.now c.as_bytes.result.now c.as_bytes-2.result.now c.in_ok-size.size c.in_ok-bits.bits n b c.as_bytes.ensures.value c.as_bytes-2.ensures.value c.in_ok-size.ensures c.in_ok-bits.ensures say in
    let same : c.in-Ok.cluster_bits ≡ c.in_ok-bits.bits = c.in-Ok.ensures.1 in
    let not : c.valid_form.result ≡ false = c.if-valid_form.false in cc)
