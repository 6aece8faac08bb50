-- The lines that a recording keeps, and that recordings compute.
use Rattle.std.proofs.Common.{◌≡◌, ℕ, ◌+◌, ◌-◌, ◌<◌, ◌≤◌, nat_le, Bool, true, false, cond, List, [], ◌∷◌, ◌++◌, length, refl, ap, arith}
use Rattle.std.proofs.lemmas.Grind.{common_steps}
use Rattle.std.specs.Str.{is_utf8, chars}
use Rattle.std.specs.Char.{encode_utf8}
use Rattle.std.specs.Fmt.{digits}
use Rattle.hex.specs.Hex.{encode_with}
use Rattle.serde_json.proofs.OnLiterals.{serde_json_on_literals}
use Rattle.script_model.specs.Lines.{Line}
use Rattle.script_model.specs.Texts.{written_line, script_text}
use Rattle.plain_model.specs.Recorded.{kept_lines, AreKept}

-- what an answer unfolds so that a recording computes
unfoldable pub recordings_compute : Unit {0}
unfolding encode_with is_utf8 chars encode_utf8 digits serde_json_on_literals
recordings_compute = tt

abbrev kept_by : ℕ → Line → List Line → Bool → List Line
kept_by room l lines fits = cond fits (l ∷ kept_lines (room - length (written_line l)) lines) []

one_more : (room : ℕ) (l : Line) (lines : List Line) (fits : Bool) → nat_le (length (written_line l)) room ≡ fits → AreKept (room - length (written_line l)) (kept_lines (room - length (written_line l)) lines) lines
    → AreKept room (kept_by room l lines fits) (l ∷ lines)
one_more room l lines true is kept = record {
  rest = kept.rest;
  whole = ap (λ ls. l ∷ ls) kept.whole;
  fit = let below = kept.fit in grind (arith, common_steps);
  next = λ m more e. let above = kept.next m more e in grind (arith, common_steps);
}
one_more room l lines false is kept = record {
  rest = l ∷ lines;
  whole = refl;
  fit = omega arith;
  next = λ m more e. grind (arith, common_steps);
}

pub kept : (room : ℕ) (lines : List Line) → AreKept room (kept_lines room lines) lines
kept room [] = record { rest = []; whole = refl; fit = omega arith; next = λ m more e. absurd (cc) }
kept room (l ∷ lines) = one_more room l lines (nat_le (length (written_line l)) room) refl (kept (room - length (written_line l)) lines)
