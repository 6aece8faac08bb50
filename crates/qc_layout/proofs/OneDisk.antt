-- A file stands for one disk at most.
use Rattle.std.proofs.Common.{rules}
use Rattle.std.proofs.Common.{◌≡◌, ℕ, ◌/◌, ◌%◌, ◌^◌, ◌<◌, List, length, Result, sym, subst, ◌∙◌}
use Rattle.disk_model.specs.Files.{byte}
use Rattle.disk_model.proofs.Laws.{same_file}
use Rattle.qc_layout.specs.declared.entry.EntryFault.{EntryFault}
use Rattle.qc_layout.specs.declared.entry.L2Entry.{L2Entry}
use Rattle.qc_layout.specs.declared.header.Part.{Part}
use Rattle.qc_layout.specs.Disks.{Stands, ReadsAs, entry_at, bits_of}

-- a cluster reads in one way
one_byte : (file : List ℕ) (entry : Result L2Entry EntryFault) (t b other : ℕ) → ReadsAs file entry t b → ReadsAs file entry t other → b ≡ other
one_byte file entry t b other is also = search rules

pub one_disk : (part : Part) (file disk other : List ℕ) → Stands part file disk → Stands part file other → disk ≡ other
one_disk part file disk other stands also =
    let long : length disk ≡ length other = stands.size ∙ sym also.size in
    same_file disk other long (λ x low. one_byte file (entry_at file (x / 2 ^ bits_of file)) (x % 2 ^ bits_of file) (byte disk x) (byte other x) (stands.bytes x low) (also.bytes x (subst (λ (n : ℕ). x < n) long low)))
