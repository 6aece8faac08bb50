-- What a crash leaves of all files.
use Rattle.std.proofs.Common.{◌≡◌, ℕ, ◌<◌, ◌≤◌, List, [], ◌∷◌, length, Option, Some, None, refl, sym, ◌∙◌, ap, subst, arith}
use Rattle.disk_model.specs.Files.{IsOutcome, IsGrown, IsLatest}
use Rattle.disk_model.specs.World.{World, versions, IsSound, Parts, Runs, IsLeftAt}
use Rattle.disk_model.proofs.Outcomes.{is_outcome}

abbrev pub left_of : List ℕ → List (List ℕ) → Option (List ℕ)
left_of seen [] = None
left_of seen (v ∷ vs) = Some seen

-- what reads give of the files that are told to be there
abbrev pub seen_left : World → ℕ → Option (List ℕ)
seen_left w f = left_of (w.seen f) (versions w f)

-- a crash now may leave that
pub is_left_now : (w : World) → IsSound w → IsLeftAt w w.now (seen_left w)
is_left_now w sound = record {
  there = λ f file is. there (w.seen f) file (versions w f) (sound.grown w.now f) (sound.latest f) is;
  absent = λ f none. absent (w.seen f) (versions w f) none;
}
  where
    there : (seen file : List ℕ) (vs : List (List ℕ)) → IsGrown vs → IsLatest seen vs → left_of seen vs ≡ Some file → IsOutcome vs file
    there seen file [] grown latest is = absurd (cc)
    there seen file (v ∷ vs) grown latest is =
        let same : v ≡ file = cc in
        subst (IsOutcome (v ∷ vs)) same (is_outcome v vs grown)

    absent : (seen : List ℕ) (vs : List (List ℕ)) → left_of seen vs ≡ None → vs ≡ []
    absent seen [] none = refl
    absent seen (v ∷ vs) none = absurd (cc)

pub left_back : {parts : Parts} {a b : World} {k : ℕ} {left : ℕ → Option (List ℕ)} → Runs parts a b → k ≤ a.now → IsLeftAt b k left → IsLeftAt a k left
left_back {parts} {a} {b} {k} {left} run past is = record {
  there = λ f file here. subst (λ (vs : List (List ℕ)). IsOutcome vs file) (run.goes.kept k f past) (is.there f file here);
  absent = λ f none. sym (run.goes.kept k f past) ∙ is.absent f none;
}

-- a file that was there is left at that moment
pub left_there : {w : World} {k f : ℕ} {left : ℕ → Option (List ℕ)} → IsLeftAt w k left → 0 < length (w.past k f) → (left f ≡ None → ⊥)
left_there {w} {k} {f} is some none = omega (arith, ap length (is.absent f none))

-- so is one that was there when a run began, at each moment of the run
pub left_lasts : {parts : Parts} {a b : World} {k f : ℕ} {left : ℕ → Option (List ℕ)} → Runs parts a b → a.now ≤ k → k ≤ b.now → IsLeftAt b k left → 0 < length (versions a f) → (left f ≡ None → ⊥)
left_lasts {parts} {a} {b} {k} {f} run low high is some = left_there is (run.goes.lasts k f low high some)
