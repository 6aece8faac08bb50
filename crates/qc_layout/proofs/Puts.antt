-- Steps that write behind one another.
use Rattle.std.proofs.Common.{rules}
use Rattle.std.proofs.lemmas.Grind.{common_steps}
use Rattle.std.proofs.Common.{◌≡◌, ℕ, ◌+◌, ◌-◌, min, List, [], ◌++◌, length, take, drop, replicate, ap, ◌∙◌, subst, arith, length-append}
use Rattle.std.proofs.lemmas.List.{drop-replicate}
use Rattle.std.proofs.Math.Seq.{take-append_seam, drop-append-add}
use Rattle.qc_layout.specs.declared.writing.Word.{Word}
use Rattle.qc_layout.specs.Spelling.{Puts, words_bytes, AreSmallWords}

-- nothing is written
pub puts_none : (bytes old : List ℕ) (place : ℕ) → bytes ≡ [] → Puts bytes old place old place
puts_none bytes old place none = search rules

-- one step behind the other
pub puts_on : {a b old mid new : List ℕ} {place next end : ℕ} → Puts a old place mid next → Puts b mid next new end → Puts (a ++ b) old place new end
puts_on {a} {b} {old} {mid} {new} {place} {next} {end} first second = grind (arith, common_steps)

-- the same bytes
pub puts_as : {a b old new : List ℕ} {place end : ℕ} → a ≡ b → Puts a old place new end → Puts b old place new end
puts_as {a} {b} {old} {new} {place} {end} is puts = subst (λ (l : List ℕ). Puts l old place new end) is puts

-- bytes that were put over others
pub puts_over : (bytes old new : List ℕ) (place : ℕ) → new ≡ take place old ++ bytes ++ drop (place + length bytes) old → Puts bytes old place new (place + length bytes)
puts_over bytes old new place put = record {
  behind = λ before room start is.
      let zeros : List ℕ = replicate (512 - length before) 0 in
      let long = length-append before bytes in
      let count : 512 - length before - length bytes ≡ 512 - length (before ++ bytes) = omega arith in
      let front : take place old ≡ before = ap (λ (n : ℕ). take n old) start ∙ ap (take (length before)) is ∙ take-append_seam before zeros in
      let fewer : drop (length bytes) zeros ≡ replicate (512 - length (before ++ bytes)) 0 =
      subst (λ (n : ℕ). drop (length bytes) zeros ≡ replicate n 0) count (drop-replicate (length bytes) (512 - length before) 0) in
      let past : drop (length before + length bytes) (before ++ zeros) ≡ drop (length bytes) zeros = drop-append-add before zeros (length bytes) in
      let rest : drop (place + length bytes) old ≡ replicate (512 - length (before ++ bytes)) 0 =
      ap (λ (n : ℕ). drop (n + length bytes) old) start ∙ ap (drop (length before + length bytes)) is ∙ past ∙ fewer in (
        omega arith,
        put
            ∙ ap (λ (l : List ℕ). l ++ bytes ++ drop (place + length bytes) old) front
            ∙ ap (λ (l : List ℕ). before ++ bytes ++ l) rest,
      );
}

-- what is behind the first bytes of a list, as many as it has at most
pub drop_least : (n : ℕ) (l : List ℕ) → drop (min n (length l)) l ≡ drop n l
drop_least n l = grind (arith, common_steps)

-- ---- numbers

-- what is still to be written goes on to all
pub record PutsOn (words rest : List Word) (old : List ℕ) (place : ℕ) (now : List ℕ) (at : ℕ) : Type 0 where
  pub puts : (new : List ℕ) (end : ℕ) → Puts (words_bytes rest) now at new end → Puts (words_bytes words) old place new end
  pub small : AreSmallWords rest → AreSmallWords words
