-- What is refused.
use Rattle.std.proofs.Common.{◌≡◌, ℕ, ◌+◌, ◌<◌, List, [], ◌∷◌, ◌++◌, length, take, IsTrue, sym, ap, ◌∙◌, subst, arith}
use Rattle.std.proofs.lemmas.List.{length-append}
use Rattle.disk_model.specs.Files.{IsGrown, IsLatest, IsOutcome}
use Rattle.disk_model.specs.World.{versions}
use Rattle.disk_model.proofs.Outcomes.{is_outcome}
use Rattle.core_node.specs.Files.{Reading}
use Rattle.core_loop.specs.Course.{Cut, Move, IsMove}
use Rattle.core_loop.specs.Laws.{IsSeen, KilledIsACrash}

-- a text with some of it behind is longer
longer : (told t : List ℕ) (n : ℕ) → 0 < length t → told ≡ told ++ take (n + 1) t → ⊥
longer told [] n some is = omega (arith, some)
longer told (b ∷ t) n some is =
    let same = ap length is ∙ length-append told (take (n + 1) (b ∷ t)) in
    let one : 0 < length (take (n + 1) (b ∷ t)) = grind arith in
    omega (arith, same, one)

pub comes_after : (reading : Reading) (own : ℕ → Type 0) (source : List ℕ) (from : Cut) (move : Move) → IsMove reading own source from move
    → IsTrue from.world.prints → 0 < length (move.given.tell move.cut.number move.answer)
    → ((n : ℕ) → move.start.printed ≡ (from.told ++ move.given.said) ++ take (n + 1) (move.given.tell move.cut.number move.answer) → ⊥)
    × (move.cut.world.printed ≡ from.told ++ move.given.said)
comes_after reading own source from move step prints some = (
  λ n is. longer (from.told ++ move.given.said) (move.given.tell move.cut.number move.answer) n some (sym (step.printed prints) ∙ is),
  (step.work.text (λ none. none)).printed ∙ step.printed prints,
)

-- ---- a program that is killed

there : (seen c : List ℕ) (vs : List (List ℕ)) → IsGrown vs → IsLatest seen vs → 0 < length vs → c ≡ seen → IsOutcome vs c
there seen c [] grown latest some same = absurd (omega (arith, some))
there seen c (v ∷ vs) grown latest some same = subst (IsOutcome (v ∷ vs)) (sym (same ∙ latest)) (is_outcome v vs grown)

pub killed : KilledIsACrash
killed w left sound given = record {
  there = λ f c is. let seen = subst (IsSeen w f) is (given f) in there (w.seen f) c (versions w f) (sound.grown w.now f) (sound.latest f) seen.0 seen.1;
  absent = λ f none. subst (IsSeen w f) none (given f);
}
