-- The laws of messages, as statements: what is spelled is read as itself, and a message says where it ends.
use Rattle.std.specs.Prelude.{◌≡◌, ◌≢◌, ℕ, ◌<◌, ◌^◌, List, [], ◌++◌, take, drop, length, Bool}
use Rattle.nbd_model.specs.Options.{option_reply}
use Rattle.nbd_model.specs.Requests.{Head, head_length, bytes_behind, simple_reply, chunk}
use Rattle.nbd_codec.specs.declared.heads.Parsed.TheVariants.{Got}
use Rattle.nbd_codec.specs.Heads.{parsed_option, parsed_request, coded_head}
use Rattle.nbd_codec.specs.Spelling.{option_spelling, request_spelling, IsRequest, chunk_head}

-- ---- reading back

-- in these bytes an option of this number and content stands first
pub record ReadsOption (number : ℕ) (content bytes : List ℕ) : Type 0 where
  pub head : parsed_option bytes ≡ Got (record { number = number; length = length content }) 16
  pub behind : take (length content) (drop 16 bytes) ≡ content

abbrev pub OptionsAreReadBack : Type 0
OptionsAreReadBack = (number : ℕ) (content more : List ℕ) → number < 2 ^ 32 → length content < 2 ^ 32 → ReadsOption number content (option_spelling number content ++ more)

-- in these bytes a request of this head, and with these bytes, stands first
pub record ReadsRequest (h : Head) (content bytes : List ℕ) : Type 0 where
  pub head : parsed_request bytes ≡ Got (coded_head h) head_length
  pub behind : take (bytes_behind h) (drop head_length bytes) ≡ content

abbrev pub RequestsAreReadBack : Type 0
RequestsAreReadBack = (h : Head) (content more : List ℕ) → IsRequest h content → ReadsRequest h content (request_spelling h content ++ more)

-- ---- ends

-- the second has more bytes behind the first
pub record IsProperPrefix (xs ys : List ℕ) : Type 0 where
  pub more : List ℕ
  pub some : more ≢ []
  pub is : xs ++ more ≡ ys

abbrev pub OptionsEndThemselves : Type 0
OptionsEndThemselves = (n m : ℕ) (a b : List ℕ) → length a < 2 ^ 32 → length b < 2 ^ 32 → IsProperPrefix (option_spelling n a) (option_spelling m b) → ⊥

abbrev pub RequestsEndThemselves : Type 0
RequestsEndThemselves = (g h : Head) (a b : List ℕ) → IsRequest g a → IsRequest h b → IsProperPrefix (request_spelling g a) (request_spelling h b) → ⊥

abbrev pub OptionRepliesEndThemselves : Type 0
OptionRepliesEndThemselves = (n m j k : ℕ) (a b : List ℕ) → length a < 2 ^ 32 → length b < 2 ^ 32 → IsProperPrefix (option_reply n j a) (option_reply m k b) → ⊥

abbrev pub ChunksEndThemselves : Type 0
ChunksEndThemselves =
    (p q : Bool) (j k c d : ℕ) (a b : List ℕ) → length a < 2 ^ 32 → length b < 2 ^ 32 → IsProperPrefix (chunk p j c a) (chunk q k d b) → ⊥

-- the errors are one, the cookies are one, and one has more bytes of a read than the other
pub record IsLongerRead (e f c d : ℕ) (a b : List ℕ) : Type 0 where
  pub error : e ≡ f
  pub cookie : c ≡ d
  pub bytes : IsProperPrefix a b

abbrev pub SimpleRepliesHaveHeads : Type 0
SimpleRepliesHaveHeads =
    (e f c d : ℕ) (a b : List ℕ) → e < 2 ^ 32 → f < 2 ^ 32 → c < 2 ^ 64 → d < 2 ^ 64 → IsProperPrefix (simple_reply e c a) (simple_reply f d b) → IsLongerRead e f c d a b

-- ---- heads

abbrev pub ChunkIsItsHeadAndContent : Type 0
ChunkIsItsHeadAndContent = (done : Bool) (kind cookie : ℕ) (content : List ℕ) → chunk done kind cookie content ≡ chunk_head done kind cookie (length content) ++ content
