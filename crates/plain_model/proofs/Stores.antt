-- Stores of images stay in shape.
use Rattle.std.proofs.Common.{rules}
use Rattle.std.proofs.Common.{◌≡◌, ℕ, length, refl}
use Rattle.std.specs.Prelude.{if◌then◌else◌}
use Rattle.std.proofs.lemmas.List.FromFn.{length-map-range_with_len}
use Rattle.span_algebra.specs.Timelines.{Extent}
use Rattle.bitmap_model.proofs.Sets.{length-set_of}
use Rattle.image_model.specs.Space.{Data, Store, IsShapedStore, kind_at, is_touched, kinds_written, tables_written, store_written, store_zeroed}

-- a store with as many kinds and tables, and clusters of that size
pub like_is_shaped : (size : ℕ) (s t : Store) → t.cluster ≡ s.cluster → length t.kinds ≡ length s.kinds → length t.tables ≡ length s.tables
    → IsShapedStore size s → IsShapedStore size t
like_is_shaped size s t cluster kinds tables shape = search rules

pub length-kinds_written : (s : Store) (e : Extent) → length (kinds_written s e) ≡ length s.kinds
length-kinds_written s e = length-map-range_with_len (λ (k : ℕ). if is_touched s e k then Data else kind_at s k) 0 (length s.kinds)

pub length-tables_written : (s : Store) (e : Extent) → length (tables_written s e) ≡ length s.tables
length-tables_written s e = length-set_of (length s.tables) _

pub written_is_shaped : (size : ℕ) (s : Store) (e : Extent) → IsShapedStore size s → IsShapedStore size (store_written s e)
unfolding store_written
written_is_shaped size s e shape = like_is_shaped size s (store_written s e) refl (length-kinds_written s e) (length-tables_written s e) shape

pub written_cluster : (s : Store) (e : Extent) → (store_written s e).cluster ≡ s.cluster
unfolding store_written
written_cluster s e = refl

pub zeroed_is_shaped : (disk size : ℕ) (s : Store) (e : Extent) → IsShapedStore size s → IsShapedStore size (store_zeroed disk s e)
unfolding store_zeroed
zeroed_is_shaped disk size s e shape = search (rules, like_is_shaped, length-map-range_with_len)
