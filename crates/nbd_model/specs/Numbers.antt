-- Numbers on the wire, first byte first, and the constants of the protocol (NBD protocol, "Values").
use Rattle.std.specs.Prelude.{ℕ, ◌+◌, ◌^◌, List, [], ◌∷◌, take, drop, codes}
use Rattle.std.specs.Int.{to_be_bytes, from_be_bytes, w16, w32, w64}

abbrev pub be16 : ℕ → List ℕ
be16 n = to_be_bytes w16 n

abbrev pub be32 : ℕ → List ℕ
be32 n = to_be_bytes w32 n

abbrev pub be64 : ℕ → List ℕ
be64 n = to_be_bytes w64 n

-- the number in the first bytes from this place on
abbrev pub u16_at : List ℕ → ℕ → ℕ
u16_at bytes at = from_be_bytes w16 (take 2 (drop at bytes))

abbrev pub u32_at : List ℕ → ℕ → ℕ
u32_at bytes at = from_be_bytes w32 (take 4 (drop at bytes))

abbrev pub u64_at : List ℕ → ℕ → ℕ
u64_at bytes at = from_be_bytes w64 (take 8 (drop at bytes))

-- ---- magics

abbrev pub greeting_magic : List ℕ
greeting_magic = codes "NBDMAGIC"

abbrev pub option_magic : List ℕ
option_magic = codes "IHAVEOPT"

-- 0x0003e889045565a9
abbrev pub option_reply_magic : List ℕ
option_reply_magic = 0 ∷ 3 ∷ 232 ∷ 137 ∷ 4 ∷ 85 ∷ 101 ∷ 169 ∷ []

-- 0x25609513
abbrev pub request_magic : List ℕ
request_magic = 37 ∷ 96 ∷ 149 ∷ 19 ∷ []

-- 0x67446698
abbrev pub simple_magic : List ℕ
simple_magic = 103 ∷ 68 ∷ 102 ∷ 152 ∷ []

-- 0x668e33ef
abbrev pub chunk_magic : List ℕ
chunk_magic = 102 ∷ 142 ∷ 51 ∷ 239 ∷ []

-- ---- kinds of option replies

abbrev pub ack : ℕ
ack = 1

abbrev pub server : ℕ
server = 2

abbrev pub info : ℕ
info = 3

abbrev pub meta_context : ℕ
meta_context = 4

abbrev pub err_unsup : ℕ
err_unsup = 2 ^ 31 + 1

abbrev pub err_invalid : ℕ
err_invalid = 2 ^ 31 + 3

abbrev pub err_unknown : ℕ
err_unknown = 2 ^ 31 + 6

abbrev pub err_too_big : ℕ
err_too_big = 2 ^ 31 + 9

-- ---- limits

-- a longer option is skipped, and one that is longer than the other limit ends the connection
abbrev pub longest_option : ℕ
longest_option = 65536

abbrev pub longest_skipped : ℕ
longest_skipped = 2 ^ 25

-- the longest read or write
abbrev pub longest_data : ℕ
longest_data = 2 ^ 25
