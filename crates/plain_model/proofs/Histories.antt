-- The disk that a history leads to.
use Rattle.std.proofs.Common.{arith}
use Rattle.std.proofs.lemmas.Grind.{common_steps}
use Rattle.std.proofs.Common.{◌≡◌, ℕ, List, [], ◌∷◌, ◌++◌, length, map, refl}
use Rattle.disk_model.specs.Files.{overlay}
use Rattle.disk_model.proofs.Bytes.{length-overlay_inside}
use Rattle.span_algebra.specs.Timelines.{LieInside}
use Rattle.plain_model.specs.History.{Entry, Wrote, Reached, History, disk_after, now, without_bytes, StaysInside}

pub after-append : (d : List ℕ) (es fs : List Entry) → disk_after d (es ++ fs) ≡ disk_after (disk_after d es) fs
after-append d [] fs = refl
after-append d (Wrote at bytes ∷ es) fs = after-append (overlay d at bytes) es fs
after-append d (Reached p ∷ es) fs = after-append d es fs

pub length-disk_after : (d : List ℕ) (es : List Entry) → LieInside (length d) (map without_bytes es) → length (disk_after d es) ≡ length d
length-disk_after d [] h = refl
length-disk_after d (Wrote at bytes ∷ es) h = grind (arith, common_steps, length-disk_after (overlay d at bytes) es, length-overlay_inside)
length-disk_after d (Reached p ∷ es) h = length-disk_after d es h

pub length-now : (h : History) → StaysInside h → length (now h) ≡ length h.start
length-now h inside = length-disk_after h.start h.entries inside

-- entries that lie inside, one after another, do
pub inside-append : (size : ℕ) (es fs : List Entry) → LieInside size (map without_bytes es) → LieInside size (map without_bytes fs) → LieInside size (map without_bytes (es ++ fs))
inside-append size [] fs h k = k
inside-append size (Wrote at bytes ∷ es) fs h k = (h.0, inside-append size es fs h.1 k)
inside-append size (Reached p ∷ es) fs h k = inside-append size es fs h k
