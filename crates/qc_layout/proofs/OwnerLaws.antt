-- How the owners of an image's tables and those of its bitmaps count together.
use Rattle.std.proofs.Common.{◌≡◌, ℕ, List}
use Rattle.qc_layout.specs.Owners.{Who, Image, Counted, TablesCounted}

same_who : (a b : Who) → Image a ≡ Image b → a ≡ b
same_who a b same = cc

-- an image that is counted with what its bitmaps hold has its tables counted
pub tables_counted : {file : List ℕ} → Counted file → TablesCounted file
tables_counted {file} all = record {
  once = λ a b k this that. same_who a b (all.once (Image a) (Image b) k this that);
  below = λ a k refers. all.below (Image a) k refers;
  counted = λ a k refers. all.counted (Image a) k refers;
}
