-- Messages spelled (NBD protocol, "Fixed newstyle negotiation", "Request message", "Structured reply chunk message").
use Rattle.std.specs.Prelude.{◌≡◌, ◌<◌, ◌^◌, ℕ, List, ◌++◌, length, Bool, if◌then◌else◌}
use Rattle.nbd_model.specs.Numbers.{be16, be32, be64, option_magic, request_magic, chunk_magic}
use Rattle.nbd_model.specs.Requests.{Head, bytes_behind}

-- an option of this number
abbrev pub option_spelling : ℕ → List ℕ → List ℕ
option_spelling number content = option_magic ++ be32 number ++ be32 (length content) ++ content

abbrev pub head_spelling : Head → List ℕ
head_spelling h = request_magic ++ be16 h.flags ++ be16 h.kind ++ be64 h.cookie ++ be64 h.offset ++ be32 h.length

-- a request: its head, and a write's bytes
abbrev pub request_spelling : Head → List ℕ → List ℕ
request_spelling h bytes = head_spelling h ++ bytes

-- each number of the head fits its place, and as many bytes follow as it says
pub record IsRequest (h : Head) (bytes : List ℕ) : Type 0 where
  pub flags : h.flags < 2 ^ 16
  pub kind : h.kind < 2 ^ 16
  pub cookie : h.cookie < 2 ^ 64
  pub offset : h.offset < 2 ^ 64
  pub size : h.length < 2 ^ 32
  pub behind : length bytes ≡ bytes_behind h

-- the head of a chunk whose content has so many bytes
abbrev pub chunk_head : Bool → ℕ → ℕ → ℕ → List ℕ
chunk_head done kind cookie size = chunk_magic ++ be16 (if done then 1 else 0) ++ be16 kind ++ be64 cookie ++ be32 size
