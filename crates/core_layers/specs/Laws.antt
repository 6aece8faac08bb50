-- The laws, as statements.
use Rattle.std.specs.Prelude.{◌≡◌, ◌⊎◌, ℕ, List, [], ◌∷◌, ◌++◌, IsTrue, All, Contains}
use Rattle.disk_model.specs.World.{World, Runs, making, EachSinceSync, Holds}
use Rattle.bitmap_model.specs.Bitmap.{StoredBitmap}
use Rattle.plain_model.specs.History.{History, IsHistory, now, timeline_of}
use Rattle.plain_model.specs.Lawful.{IsTrueEntry, IsOfEpoch}
use Rattle.core_node.specs.Rest.{Directory, Files, IsReady, IsSafe, Mixes, AreLawful}
use Rattle.core_node.specs.Ends.{OpensWithin}
use Rattle.core_layers.specs.Layers.{IsFound, KeepsOrMarks, IsInOrder, IsMixed, ClaimsNothing}

-- what a crash within a session leaves of a source, said without a history, is safe for each history that fits
abbrev pub MixedIsSafe : Type 0
MixedIsSafe = (id : List ℕ) (d : Directory) (h : History) (mixed : List (List ℕ)) (file : List ℕ) → IsHistory h → All (IsOfEpoch d.epoch) (timeline_of h).entries → Contains mixed (now h)
    → IsMixed id d mixed file → IsSafe (d ∷ []) id h mixed file

-- a file that is made as a target joins the backup files
abbrev pub TargetsJoin : Type 0
TargetsJoin = (allows : List Directory) (files : Files) (h : History) (disks : List (List ℕ)) (name : List ℕ) (f : ℕ) (old new : World) → AreLawful allows files h disks old → Runs (making name f) old new
    → (f ≡ files.source → ⊥) → ((g : ℕ) → Contains files.backups g → g ≡ f → ⊥) → Holds f ClaimsNothing ClaimsNothing new
    → AreLawful allows (record files { backups = files.backups ++ f ∷ [] }) h disks new

-- each crash within a closing leaves the image as the session had it, or as the closing stored it: it is safe, where what was stored is true
abbrev pub ClosingIsSafe : Type 0
ClosingIsSafe = (id : List ℕ) (d closed : Directory) (h : History) (disks : List (List ℕ)) (file : List ℕ) → IsHistory h
    → All (IsOfEpoch d.epoch) (timeline_of h).entries → All (IsOfEpoch closed.epoch) (timeline_of h).entries → Mixes h disks → All (λ (e : StoredBitmap). IsTrue e.trusted → IsTrueEntry h e) closed.entries
    → IsMixed id d disks file ⊎ IsInOrder id closed (now h) file → IsSafe (d ∷ closed ∷ []) id h disks file

-- an opening that leaves the very disk, with its directory as it was or marked, a header that says what it said, and bitmaps as they were or
-- in use, is one that a node promises, for each history of this disk for which the image was ready
abbrev pub FoundOpens : Type 0
FoundOpens = (id : List ℕ) (d : Directory) (h : History) (f : ℕ) (old new : World) → IsHistory h → IsReady (d ∷ []) id h (old.seen f)
    → EachSinceSync old new f (λ c. IsFound id d (now h) c × KeepsOrMarks (old.seen f) d c) → IsFound id d (now h) (new.seen f)
    → KeepsOrMarks (old.seen f) d (new.seen f) → OpensWithin f d id h old new
