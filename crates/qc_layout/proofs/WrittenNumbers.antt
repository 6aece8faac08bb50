-- The numbers of a header, read again from where it was written.
use Rattle.std.proofs.Common.{rules}
use Rattle.std.proofs.Common.{◌≡◌, ℕ, ◌+◌, ◌<◌, List, [], ◌∷◌, length, refl, arith}
use Rattle.std.specs.Prelude.{nat_lt, if◌then◌else◌}
use Rattle.disk_model.specs.Files.{byte, u32_at, u64_at}
use Rattle.qc_layout.specs.declared.header.Header.{Header}
use Rattle.qc_layout.specs.Header.{fields_of}
use Rattle.qc_layout.specs.declared.writing.Word.{Word}
use Rattle.qc_layout.specs.declared.writing.Word.TheVariants.{Four, Eight}
use Rattle.qc_layout.specs.Spelling.{word32, word64, words_bytes, number_words, AreSmallWords}
use Rattle.qc_layout.proofs.Standing.{Stands, stands_at, first_u32, first_u64, past_u32, past_u64}

-- numbers that stand in the file are read there
abbrev pub AreThere : List ℕ → ℕ → ℕ → List Word → Type 0
AreThere file base at [] = Unit {0}
AreThere file base at (Four n ∷ ws) = (u32_at file (base + at) ≡ n) × AreThere file base (at + 4) ws
AreThere file base at (Eight n ∷ ws) = (u64_at file (base + at) ≡ n) × AreThere file base (at + 8) ws

pub words_there : (file : List ℕ) (base at : ℕ) (ws : List Word) → AreSmallWords ws → Stands file (base + at) (words_bytes ws) → AreThere file base at ws
words_there file base at [] small s = tt
words_there file base at (Four n ∷ ws) small s =
    let on : base + at + 4 ≡ base + (at + 4) = omega arith in
    (first_u32 n (words_bytes ws) s small.0, words_there file base (at + 4) ws small.1 (stands_at on (past_u32 n (words_bytes ws) s)))
words_there file base at (Eight n ∷ ws) small s =
    let on : base + at + 8 ≡ base + (at + 8) = omega arith in
    (first_u64 n (words_bytes ws) s small.0, words_there file base (at + 8) ws small.1 (stands_at on (past_u64 n (words_bytes ws) s)))

-- how many bytes they take
abbrev pub words_length : List Word → ℕ
words_length [] = 0
words_length (Four n ∷ ws) = 4 + words_length ws
words_length (Eight n ∷ ws) = 8 + words_length ws

pub length-words : (ws : List Word) → length (words_bytes ws) ≡ words_length ws
unfolding word32 word64
length-words [] = refl
length-words (Four n ∷ ws) = omega (arith, length-words ws)
length-words (Eight n ∷ ws) = omega (arith, length-words ws)

-- the compression type is there, or 0
compression : (file : List ℕ) (h : Header) → (104 < h.fields.header_length → byte file 104 ≡ h.fields.compression_type) → h.fields.compression_type ≡ 0 →
    (if nat_lt 104 h.fields.header_length then byte file 104 else 0) ≡ h.fields.compression_type
compression file h there none = search rules

-- all numbers of the file are those of the header
pub fields_written : (file : List ℕ) (h : Header) → AreSmallWords (number_words h.fields) → Stands file 0 (words_bytes (number_words h.fields)) → (104 < h.fields.header_length → byte file 104 ≡ h.fields.compression_type) → h.fields.compression_type ≡ 0 → fields_of file ≡ h.fields
unfolding fields_of
fields_written file h small s there none =
    let n = words_there file 0 0 (number_words h.fields) small s in
    let c = compression file h there none in
    rw (n.0, n.1.0, n.1.1.0, n.1.1.1.0, n.1.1.1.1.0, n.1.1.1.1.1.0, n.1.1.1.1.1.1.0, n.1.1.1.1.1.1.1.0, n.1.1.1.1.1.1.1.1.0, n.1.1.1.1.1.1.1.1.1.0, n.1.1.1.1.1.1.1.1.1.1.0, n.1.1.1.1.1.1.1.1.1.1.1.0, n.1.1.1.1.1.1.1.1.1.1.1.1.0, n.1.1.1.1.1.1.1.1.1.1.1.1.1.0, n.1.1.1.1.1.1.1.1.1.1.1.1.1.1.0, n.1.1.1.1.1.1.1.1.1.1.1.1.1.1.1.0, n.1.1.1.1.1.1.1.1.1.1.1.1.1.1.1.1.0, n.1.1.1.1.1.1.1.1.1.1.1.1.1.1.1.1.1.0, c) refl
