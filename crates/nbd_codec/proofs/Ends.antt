-- What is spelled is read as itself, and where a message ends.
use Rattle.std.proofs.Common.{◌≡◌, ◌≤◌, ◌<◌, ◌^◌, ℕ, List, [], ◌++◌, length, take, drop, length-append, Bool, true, refl, sym, ap, ◌∙◌, arith}
use Rattle.std.proofs.lemmas.Grind.{common_steps}
use Rattle.std.proofs.lemmas.List.{nil_from_length}
use Rattle.std.proofs.Math.Seq.{take-append_seam}
use Rattle.std.proofs.lemmas.Nat.{from_be_bytes-to_be_bytes_2, from_be_bytes-to_be_bytes_4, from_be_bytes-to_be_bytes_8}
use Rattle.std.specs.Prelude.{bytes_eq}
use Rattle.nbd_model.specs.Numbers.{u32_at, u64_at, option_magic, request_magic}
use Rattle.nbd_model.specs.Options.{option_reply}
use Rattle.nbd_model.specs.Requests.{Head, head_of, bytes_behind, simple_reply, chunk}
use Rattle.nbd_codec.specs.declared.heads.Parsed.TheVariants.{Got}
use Rattle.nbd_codec.specs.Heads.{parsed_by, coded_head}
use Rattle.nbd_codec.specs.Spelling.{option_spelling, head_spelling, request_spelling, IsRequest}
use Rattle.nbd_codec.specs.Laws.{ReadsOption, ReadsRequest, IsProperPrefix, IsLongerRead}

-- ---- reading back

whole_head : {H : Type 0} → (magic : List ℕ) (size : ℕ) (head : H) (bytes : List ℕ) → size ≤ length bytes → bytes_eq (take (length magic) bytes) magic ≡ true → parsed_by magic size head bytes ≡ Got head size
whole_head magic size head bytes whole is = grind (arith, common_steps)

pub option_back : (number : ℕ) (content more : List ℕ) → number < 2 ^ 32 → length content < 2 ^ 32 → ReadsOption number content (option_spelling number content ++ more)
option_back number content more fits short =
    let bytes = option_spelling number content ++ more in
    let first : u32_at bytes 8 ≡ number = from_be_bytes-to_be_bytes_4 number fits in
    let second : u32_at bytes 12 ≡ length content = from_be_bytes-to_be_bytes_4 (length content) short in
    record {
      head = whole_head option_magic 16 (record { number = u32_at bytes 8; length = u32_at bytes 12 }) bytes (grind (arith, common_steps)) refl
          ∙ ap (λ x. Got (record { number = x; length = u32_at bytes 12 }) 16) first ∙ ap (λ x. Got (record { number = number; length = x }) 16) second;
      behind = take-append_seam content more;
    }

abbrev made : ℕ → ℕ → ℕ → ℕ → ℕ → Head
made a b c d e = record { flags = a; kind = b; cookie = c; offset = d; length = e }

same_head : (a b c d e f g h i j : ℕ) → a ≡ b → c ≡ d → e ≡ f → g ≡ h → i ≡ j → made a c e g i ≡ made b d f h j
same_head a b c d e f g h i j p q r s t = rw (p, q, r, s, t) refl

head_back : (h : Head) (content more : List ℕ) → IsRequest h content → head_of (head_spelling h ++ more) ≡ h
head_back h content more is =
    same_head _ h.flags _ h.kind _ h.cookie _ h.offset _ h.length (from_be_bytes-to_be_bytes_2 h.flags is.flags) (from_be_bytes-to_be_bytes_2 h.kind is.kind)
    (from_be_bytes-to_be_bytes_8 h.cookie is.cookie) (from_be_bytes-to_be_bytes_8 h.offset is.offset) (from_be_bytes-to_be_bytes_4 h.length is.size)

pub request_back : (h : Head) (content more : List ℕ) → IsRequest h content → ReadsRequest h content (request_spelling h content ++ more)
request_back h content more is =
    let bytes = request_spelling h content ++ more in
    record {
      head = whole_head request_magic 28 (coded_head (head_of bytes)) bytes (grind (arith, common_steps)) refl
          ∙ ap (λ (g : Head). Got (coded_head g) 28) (head_back h content (content ++ more) is);
      behind = rw (sym is.behind) (take-append_seam content more);
    }

-- ---- ends

ends : (a b more : List ℕ) → length a ≡ length b → a ++ more ≡ b → more ≡ []
ends a b more same is = nil_from_length more (omega (arith, length-append a more, ap length is, same))

pub option_ends : (n m : ℕ) (a b : List ℕ) → length a < 2 ^ 32 → length b < 2 ^ 32 → IsProperPrefix (option_spelling n a) (option_spelling m b) → ⊥
option_ends n m a b short shorter p =
    let same : length a ≡ length b = sym (from_be_bytes-to_be_bytes_4 (length a) short) ∙ ap (λ l. u32_at l 12) p.is ∙ from_be_bytes-to_be_bytes_4 (length b) shorter in
    p.some (ends a b p.more same (ap (drop 16) p.is))

pub request_ends : (g h : Head) (a b : List ℕ) → IsRequest g a → IsRequest h b → IsProperPrefix (request_spelling g a) (request_spelling h b) → ⊥
request_ends g h a b is other p =
    let heads : g ≡ h = sym (head_back g a (a ++ p.more) is) ∙ ap head_of p.is ∙ head_back h b b other in
    let same : length a ≡ length b = is.behind ∙ ap bytes_behind heads ∙ sym other.behind in
    p.some (ends a b p.more same (ap (drop 28) p.is))

pub option_reply_ends : (n m j k : ℕ) (a b : List ℕ) → length a < 2 ^ 32 → length b < 2 ^ 32 → IsProperPrefix (option_reply n j a) (option_reply m k b) → ⊥
option_reply_ends n m j k a b short shorter p =
    let same : length a ≡ length b = sym (from_be_bytes-to_be_bytes_4 (length a) short) ∙ ap (λ l. u32_at l 16) p.is ∙ from_be_bytes-to_be_bytes_4 (length b) shorter in
    p.some (ends a b p.more same (ap (drop 20) p.is))

pub chunk_ends : (p q : Bool) (j k c d : ℕ) (a b : List ℕ) → length a < 2 ^ 32 → length b < 2 ^ 32 → IsProperPrefix (chunk p j c a) (chunk q k d b) → ⊥
chunk_ends p q j k c d a b short shorter x =
    let same : length a ≡ length b = sym (from_be_bytes-to_be_bytes_4 (length a) short) ∙ ap (λ l. u32_at l 16) x.is ∙ from_be_bytes-to_be_bytes_4 (length b) shorter in
    x.some (ends a b x.more same (ap (drop 20) x.is))

pub simple_heads : (e f c d : ℕ) (a b : List ℕ) → e < 2 ^ 32 → f < 2 ^ 32 → c < 2 ^ 64 → d < 2 ^ 64 → IsProperPrefix (simple_reply e c a) (simple_reply f d b) → IsLongerRead e f c d a b
simple_heads e f c d a b p q r s x = record {
  error = sym (from_be_bytes-to_be_bytes_4 e p) ∙ ap (λ l. u32_at l 4) x.is ∙ from_be_bytes-to_be_bytes_4 f q;
  cookie = sym (from_be_bytes-to_be_bytes_8 c r) ∙ ap (λ l. u64_at l 8) x.is ∙ from_be_bytes-to_be_bytes_8 d s;
  bytes = record { more = x.more; some = x.some; is = ap (drop 16) x.is };
}
