-- Where granules lie on the disk.
use Rattle.std.proofs.lemmas.Grind.{common_steps}
use Rattle.std.proofs.Common.{rules, ℕ, ◌+◌, ◌*◌, ◌/◌, ◌<◌, ◌≤◌, arith}
use Rattle.std.specs.Prelude.{IsTrue}
use Rattle.bitmap_model.specs.Granules.{is_granularity, granules_in}

pub granularity-least : (g : ℕ) → IsTrue (is_granularity g) → 512 ≤ g
granularity-least g h = search rules

-- a granule of the disk begins before its end
pub place_below : (size g k : ℕ) → 0 < g → k < granules_in size g → k * g < size
place_below size g k some h = grind (arith, common_steps)

-- the granule of a byte begins at it or before, and ends after it
pub granule_from : (x g : ℕ) → x / g * g ≤ x
granule_from x g = search rules

pub granule_to : (x g : ℕ) → 0 < g → x < x / g * g + g
granule_to x g some = search rules

-- granules from that of a byte on end after it, and no others
pub ends_after : (x g k : ℕ) → 0 < g → x / g ≤ k → x < k * g + g
ends_after x g k some h = search rules

pub ends_before : (x g k : ℕ) → k < x / g → k * g + g ≤ x
ends_before x g k h = search rules

-- as many granules don't end before the disk does
pub past_end : (size g k : ℕ) → 0 < g → granules_in size g ≤ k → size ≤ k * g
past_end size g k some h = grind (arith, common_steps)

-- a granule after that of a byte begins after it
pub begins_after : (x g k : ℕ) → 0 < g → x / g < k → x < k * g
begins_after x g k some h = search rules
