-- The parts of a written header, as words of four and of eight bytes.
use Rattle.std.proofs.Common.{rules}
use Rattle.std.proofs.Common.{◌≡◌, ◌<◌, ◌≤◌, [], ◌∷◌, ◌++◌, take, refl}
use Rattle.qc_layout.specs.declared.header.Header.{Header}
use Rattle.qc_layout.specs.Spelling.{words_bytes, number_words, number_bytes, tail_bytes, tail_length, own_bytes, bitmaps_bytes, header_bytes, kept_part}

-- a header of 104 bytes has no more
pub no_tail_bytes : (h : Header) → h.fields.header_length ≤ 104 → tail_bytes h ≡ []
unfolding tail_bytes
no_tail_bytes h short = search rules

-- a longer one has a compression type and what is kept
pub tail_words : (h : Header) → 104 < h.fields.header_length → (h.fields.compression_type ∷ 0 ∷ 0 ∷ 0 ∷ 0 ∷ 0 ∷ 0 ∷ 0 ∷ []) ++ take (tail_length h) h.kept.items.items ≡ tail_bytes h
unfolding tail_bytes
tail_words h long = search rules

pub header_parts : (h : Header) → words_bytes (number_words h.fields) ++ tail_bytes h ++ own_bytes h.own ++ bitmaps_bytes h.bitmaps ++ kept_part h ≡ header_bytes h
unfolding header_bytes number_bytes
header_parts h = refl
