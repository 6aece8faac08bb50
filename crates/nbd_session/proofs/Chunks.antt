-- Chunks whose content is sent in parts.
use Rattle.std.proofs.Common.{◌≡◌, ℕ, ◌+◌, ◌*◌, List, [], ◌∷◌, ◌++◌, length, Bool, true, false, refl, arith, ap, ◌∙◌, append_assoc}
use Rattle.std.specs.Prelude.{Result, Ok, Err, OnOk, ◌==◌}
use Rattle.std.specs.declared.alloc.AllocError.{AllocError}
use Rattle.span_algebra.specs.declared.lists.Run.{Run}
use Rattle.nbd_model.specs.Numbers.{be32, be64}
use Rattle.nbd_model.specs.Requests.{Head, chunk, read_reply, run_bytes}
use Rattle.nbd_codec.specs.Spelling.{chunk_head}

chunk_sent : (done : Bool) (kind cookie size : ℕ) (content out mid new : List ℕ) → size ≡ length content → mid ≡ out ++ chunk_head done kind cookie size → new ≡ mid ++ content
    → new ≡ out ++ chunk done kind cookie content
chunk_sent done kind cookie size content out mid new fits head sent =
    sent ∙ ap (λ l. l ++ content) (head ∙ ap (λ n. out ++ chunk_head done kind cookie n) fits) ∙ append_assoc out (chunk_head done kind cookie (length content)) content

pub read_sent : (structured : Bool) (h : Head) (size : ℕ) (bytes out mid new : List ℕ) → structured ≡ true → (length bytes == 0) ≡ false → size ≡ 8 + length bytes
    → mid ≡ out ++ chunk_head true 1 h.cookie size → new ≡ mid ++ be64 h.offset → new ++ bytes ≡ out ++ read_reply structured h bytes
read_sent false h size bytes out mid new is some fits head sent = cc
read_sent true h size [] out mid new is some fits head sent = cc
read_sent true h size (b ∷ bytes) out mid new is some fits head sent =
    chunk_sent true 1 h.cookie size (be64 h.offset ++ b ∷ bytes) out mid _ (grind arith) head (ap (λ l. l ++ b ∷ bytes) sent ∙ append_assoc mid (be64 h.offset) (b ∷ bytes))

runs_long : (runs : List Run) → length (run_bytes runs) ≡ 8 * length runs
runs_long [] = refl
runs_long (r ∷ runs) = grind (arith, runs_long runs)

pub flags_sent : (r : Result (Unit {0}) AllocError) (last : Bool) (id cookie size : ℕ) (runs : List Run) (out mid next new : List ℕ) → size ≡ 4 + 8 * length runs
    → mid ≡ out ++ chunk_head last 5 cookie size → next ≡ mid ++ be32 id → OnOk r (new ≡ next ++ run_bytes runs) → OnOk r (new ≡ out ++ chunk last 5 cookie (be32 id ++ run_bytes runs))
flags_sent (Ok u) last id cookie size runs out mid next new fits head first sent =
    let long = runs_long runs in
    chunk_sent last 5 cookie size (be32 id ++ run_bytes runs) out mid new (grind arith) head (sent ∙ ap (λ l. l ++ run_bytes runs) first ∙ append_assoc mid (be32 id) (run_bytes runs))
flags_sent (Err e) last id cookie size runs out mid next new fits head first sent = tt
