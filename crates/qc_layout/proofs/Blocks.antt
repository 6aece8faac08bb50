-- Extensions that stand one behind the other, as blocks of bytes.
use Rattle.std.specs.Int.{w32}
use Rattle.std.proofs.Common.{rules}
use Rattle.std.proofs.Common.{◌≡◌, ℕ, ◌+◌, ◌-◌, ◌≤◌, List, [], ◌∷◌, ◌++◌, length, true, false, None, refl, sym, ap, ◌∙◌, subst, arith, length-append}
use Rattle.std.specs.Prelude.{◌==◌, if◌then◌else◌}
use Rattle.disk_model.specs.Files.{u32_at}
use Rattle.disk_model.proofs.Laws.{length-reading, number-reading}
use Rattle.qc_layout.specs.declared.extension.Extension.{Extension}
use Rattle.qc_layout.specs.Extensions.{IsEnd, IsExtension, AreExtensions, behind, padded, is_kept, bytes_of, kept_bytes, kept_length, count_of, first_of_kind, bitmaps_kind, own_kind}
use Rattle.qc_layout.specs.Spelling.{IsBlock, AreBlocks, joined, is_unknown}
use Rattle.qc_layout.proofs.Standing.{Stands, stands_left, stands_right, inner_u32}

-- ---- from blocks to extensions

-- the extension that a block is, where it stands here
abbrev pub as_extension : ℕ → List ℕ → Extension
as_extension place block = record { kind = u32_at block 0; place = place + 8; length = u32_at block 4 }

abbrev pub as_extensions : ℕ → List (List ℕ) → List Extension
as_extensions place [] = []
as_extensions place (b ∷ bs) = as_extension place b ∷ as_extensions (place + length b) bs

block_stands : (file : List ℕ) (end place : ℕ) (b : List ℕ) → IsBlock b → Stands file place b → place + length b ≤ end → IsExtension file end place (as_extension place b)
block_stands file end place b is s inside =
    let long = is.long in
    let here : place + 0 ≡ place = omega arith in
    record {
      inside = omega arith;
      kind = inner_u32 s 0 (omega arith) ∙ ap (u32_at file) here;
      some = is.some;
      place = refl;
      length = inner_u32 s 4 (omega arith);
      whole = omega arith;
    }

pub blocks_listed : (file : List ℕ) (end place : ℕ) (bs : List (List ℕ)) → AreBlocks bs → Stands file place (joined bs) → place + length (joined bs) ≤ end →
    IsEnd file end (place + length (joined bs)) → AreExtensions file end place (as_extensions place bs)
blocks_listed file end place [] are s inside last = let here : place + 0 ≡ place = omega arith in subst (IsEnd file end) here last
blocks_listed file end place (b ∷ bs) are s inside last =
    let long = length-append b (joined bs) in
    let same : place + length (b ++ joined bs) ≡ place + length b + length (joined bs) = omega arith in
    let whole = are.0.long in
    let next : place + length b ≡ behind (as_extension place b) = omega arith in (
      block_stands file end place b are.0 (stands_left b (joined bs) s) (omega arith),
      subst (λ (k : ℕ). AreExtensions file end k (as_extensions (place + length b) bs)) next
          (blocks_listed file end (place + length b) bs are.1 (stands_right b (joined bs) s) (omega arith) (subst (IsEnd file end) same last)),
    )

-- all of them are kept
pub blocks_bytes : (file : List ℕ) (place : ℕ) (bs : List (List ℕ)) → AreBlocks bs → Stands file place (joined bs) → kept_bytes file (as_extensions place bs) ≡ joined bs
blocks_bytes file place [] are s = refl
blocks_bytes file place (b ∷ bs) are s =
    let rest = blocks_bytes file (place + length b) bs are.1 (stands_right b (joined bs) s) in
    let this = (stands_left b (joined bs) s).read in
    let back : place + 8 - 8 ≡ place = omega arith in
    let long = are.0.long in
    let unknown = are.0.unknown in
    cc

pub blocks_length : (place : ℕ) (bs : List (List ℕ)) → AreBlocks bs → kept_length (as_extensions place bs) ≡ length (joined bs)
blocks_length place [] are = refl
blocks_length place (b ∷ bs) are =
    let rest = blocks_length (place + length b) bs are.1 in
    let long = are.0.long in
    let unknown = are.0.unknown in
    let both = length-append b (joined bs) in
    grind arith

-- Others than bitmaps and this project's own.
pub record AreOthers (es : List Extension) : Type 0 where
  pub no_bitmaps : first_of_kind bitmaps_kind es ≡ None
  pub no_own : first_of_kind own_kind es ≡ None
  pub count_bitmaps : count_of bitmaps_kind es ≡ 0
  pub count_own : count_of own_kind es ≡ 0

no_known : (b : List ℕ) → IsBlock b → ((u32_at b 0 == bitmaps_kind) ≡ false) × ((u32_at b 0 == own_kind) ≡ false)
no_known b is = search rules

pub blocks_others : (place : ℕ) (bs : List (List ℕ)) → AreBlocks bs → AreOthers (as_extensions place bs)
blocks_others place [] are = record { no_bitmaps = refl; no_own = refl; count_bitmaps = refl; count_own = refl }
blocks_others place (b ∷ bs) are =
    let rest = blocks_others (place + length b) bs are.1 in
    let no = no_known b are.0 in
    let bitmaps = no.0 in
    let own = no.1 in
    let a = rest.no_bitmaps in
    let c = rest.no_own in
    let d = rest.count_bitmaps in
    let e = rest.count_own in
    record { no_bitmaps = cc; no_own = cc; count_bitmaps = cc; count_own = cc }

-- ---- and back

-- the blocks of those that are kept
abbrev pub blocks_of : List ℕ → List Extension → List (List ℕ)
blocks_of file [] = []
blocks_of file (e ∷ es) = if is_kept e then bytes_of file e ∷ blocks_of file es else blocks_of file es

is_block : (file : List ℕ) (end from : ℕ) (e : Extension) → IsExtension file end from e → is_kept e ≡ true → IsBlock (bytes_of file e)
is_block file end from e is kept =
    let p = is.place in
    let n = 8 + padded e.length in
    let start : e.place - 8 + 0 ≡ from = omega arith in
    let middle : e.place - 8 + 4 ≡ from + 4 = omega arith in
    let kind : u32_at (bytes_of file e) 0 ≡ e.kind = number-reading w32 file (e.place - 8) n 0 (omega arith) ∙ ap (u32_at file) start ∙ sym is.kind in
    let size : u32_at (bytes_of file e) 4 ≡ e.length = number-reading w32 file (e.place - 8) n 4 (omega arith) ∙ ap (u32_at file) middle ∙ sym is.length in
    record {
      long = length-reading file (e.place - 8) n ∙ ap (λ (k : ℕ). 8 + padded k) (sym size);
      some = λ z. is.some (sym kind ∙ z);
      unknown = ap is_unknown kind ∙ kept;
    }

pub are_blocks : (file : List ℕ) (end from : ℕ) (es : List Extension) → AreExtensions file end from es → AreBlocks (blocks_of file es)
are_blocks file end from [] listed = tt
are_blocks file end from (e ∷ es) listed =
    let this = is_block file end from e listed.0 in
    let rest = are_blocks file end (behind e) es listed.1 in
    search rules

pub kept_joined : (file : List ℕ) (es : List Extension) → kept_bytes file es ≡ joined (blocks_of file es)
kept_joined file [] = refl
kept_joined file (e ∷ es) = let rest = kept_joined file es in search rules

pub kept_long : (file : List ℕ) (es : List Extension) → length (kept_bytes file es) ≡ kept_length es
kept_long file [] = refl
kept_long file (e ∷ es) =
    let rest = kept_long file es in
    let long = length-reading file (e.place - 8) (8 + padded e.length) in
    let both = length-append (bytes_of file e) (kept_bytes file es) in
    grind arith
