-- `replay` is due one end at most.
use Rattle.std.proofs.Common.{◌≡◌, ⊎_elim, ℕ, ◌^◌, ◌<◌, ◌≤◌, List, length, IsSome, Option, Some, None, sym, ap, subst, ◌∙◌, arith}
use Rattle.std.specs.Prelude.{codes}
use Rattle.disk_model.specs.World.{World}
use Rattle.qc_layout.specs.FirstForm.{IsTaken}
use Rattle.script_model.specs.Words.{lines_of}
use Rattle.script_model.specs.Lines.{Line, IsScript, FirstBad}
use Rattle.script_model.proofs.Sayings.{one_saying, bad_says_nothing, one_first_bad}
use Rattle.qback_top.specs.Words.{IsReplay}
use Rattle.qback_top.specs.Replays.{AreThere, IsTooLong, IsUnbuilt, ReplayDue}
use Rattle.qback_top.specs.Endings.{Ending, NoForm, Missing, Exists, Refused, BadLine, Made, Told, Ran}

-- ---- the words and the files

-- words name one file and one script
record SameNames (file script file2 script2 : List ℕ) : Type 0 where
  pub same_file : file ≡ file2
  pub same_script : script ≡ script2

one_replay : (words : List (List ℕ)) (file script file2 script2 : List ℕ) → IsReplay words file script → IsReplay words file2 script2 → SameNames file script file2 script2
one_replay words file script file2 script2 h k =
    let e = sym h.spelled ∙ k.spelled in
    record { same_file = cc e; same_script = cc e }

-- and files that are there have one number each
record SameFiles (file script : List ℕ) (image text : ℕ) (file2 script2 : List ℕ) (image2 text2 : ℕ) : Type 0 where
  pub names : SameNames file script file2 script2
  pub same_image : image ≡ image2
  pub same_text : text ≡ text2

one_number : (a b : List ℕ) (found : List ℕ → Option ℕ) (m n : ℕ) → a ≡ b → found a ≡ Some m → found b ≡ Some n → m ≡ n
one_number a b found m n e f g = cc

not_both : (a b : List ℕ) (found : List ℕ → Option ℕ) (n : ℕ) → a ≡ b → found a ≡ None → found b ≡ Some n → ⊥
not_both a b found n e f g = cc

some_or_none : (a b : List ℕ) (found : List ℕ → Option ℕ) → a ≡ b → IsSome (found a) → found b ≡ None → ⊥
some_or_none a b found e s f = let g : found a ≡ None = cc in absurd (let t = subst IsSome g s in cc)

one_there : (words : List (List ℕ)) (w : World) (file script : List ℕ) (image text : ℕ) (file2 script2 : List ℕ) (image2 text2 : ℕ) → AreThere words w file script image text → AreThere words w file2 script2 image2 text2
    → SameFiles file script image text file2 script2 image2 text2
one_there words w file script image text file2 script2 image2 text2 h k =
    let names = one_replay words file script file2 script2 h.form k.form in
    record {
      names = names;
      same_image = one_number file file2 w.found image image2 names.same_file h.is_image k.is_image;
      same_text = one_number script script2 w.found text text2 names.same_script h.is_text k.is_text;
    }

-- a missing file isn't there
none_there : (words : List (List ℕ)) (w : World) (name file script : List ℕ) (image text : ℕ) → ReplayDue words w (Missing name) → AreThere words w file script image text → ⊥
none_there words w name file script image text h k =
    let names = one_replay words h.0 h.1 file script h.2 k.form in
    ⊎_elim (λ (p : (name ≡ h.0) × (w.found h.0 ≡ None)). not_both h.0 file w.found image names.same_file p.1 k.is_image)
    (λ (p : (name ≡ h.1) × IsSome (w.found h.0) × (w.found h.1 ≡ None)). not_both h.1 script w.found text names.same_script p.2 k.is_text) h.3

-- one file is the first that is missing
one_missing : (words : List (List ℕ)) (w : World) (a b : List ℕ) → ReplayDue words w (Missing a) → ReplayDue words w (Missing b) → a ≡ b
one_missing words w a b h k =
    let names = one_replay words h.0 h.1 k.0 k.1 h.2 k.2 in
    ⊎_elim (λ (p : (a ≡ h.0) × (w.found h.0 ≡ None)).
    ⊎_elim (λ (q : (b ≡ k.0) × (w.found k.0 ≡ None)). p.0 ∙ names.same_file ∙ sym q.0)
    (λ (q : (b ≡ k.1) × IsSome (w.found k.0) × (w.found k.1 ≡ None)). absurd (some_or_none k.0 h.0 w.found (sym names.same_file) q.1 p.1)) k.3)
    (λ (p : (a ≡ h.1) × IsSome (w.found h.0) × (w.found h.1 ≡ None)).
    ⊎_elim (λ (q : (b ≡ k.0) × (w.found k.0 ≡ None)). absurd (some_or_none h.0 k.0 w.found names.same_file p.1 q.1))
    (λ (q : (b ≡ k.1) × IsSome (w.found k.0) × (w.found k.1 ≡ None)). p.0 ∙ names.same_script ∙ sym q.0) k.3) h.3

-- ---- one kind of end excludes the others

missing_alone : (words : List (List ℕ)) (w : World) (name : List ℕ) (b : Ending) → ReplayDue words w (Missing name) → ReplayDue words w b → Missing name ≡ b
missing_alone words w name (Missing other) h k = ap Missing (one_missing words w name other h k)
missing_alone words w name (Refused other reason) h k = ⊎_elim
    (λ (l : IsTooLong words w other × (reason ≡ codes "ScriptTooLong")). absurd (none_there words w name l.0.0 other l.0.1 l.0.2 h l.0.3))
    (λ (u : IsUnbuilt words w other × (reason ≡ codes "Unbuilt")). absurd (none_there words w name other u.0.0 u.0.1 u.0.2 h u.0.3))
    k
missing_alone words w name (BadLine n) h k = absurd (none_there words w name k.0 k.1 k.2 k.3 h k.4)
missing_alone words w name (Ran number lines) h k = absurd (none_there words w name k.0 k.1 number k.2 h k.3)
missing_alone words w name NoForm h k = absurd k
missing_alone words w name (Exists other) h k = absurd k
missing_alone words w name (Made task) h k = absurd k
missing_alone words w name (Told text) h k = absurd k

-- a script that is too long against one that is not
long_or_not : (w : World) (text text2 : ℕ) → text ≡ text2 → 2 ^ 28 < length (w.seen text) → length (w.seen text2) ≤ 2 ^ 28 → ⊥
long_or_not w text text2 e long short = let f = ap length (ap w.seen e) in omega arith

same_refusal : (a b r s t : List ℕ) → a ≡ b → r ≡ t → s ≡ t → Refused a r ≡ Refused b s
same_refusal a b r s t e f g = cc

long_alone : (words : List (List ℕ)) (w : World) (name reason : List ℕ) (b : Ending) → reason ≡ codes "ScriptTooLong" → IsTooLong words w name → ReplayDue words w b → Refused name reason ≡ b
long_alone words w name reason (Missing other) is h k = absurd (none_there words w other h.0 name h.1 h.2 k h.3)
long_alone words w name reason (Refused other why) is h k = ⊎_elim
    (λ (l : IsTooLong words w other × (why ≡ codes "ScriptTooLong")). same_refusal name other reason why (codes "ScriptTooLong") (one_there words w h.0 name h.1 h.2 l.0.0 other l.0.1 l.0.2 h.3 l.0.3).names.same_script is l.1)
    (λ (u : IsUnbuilt words w other × (why ≡ codes "Unbuilt")). absurd (long_or_not w h.2 u.0.2 (one_there words w h.0 name h.1 h.2 other u.0.0 u.0.1 u.0.2 h.3 u.0.3).same_text h.4 u.0.4))
    k
long_alone words w name reason (BadLine n) is h k = absurd (long_or_not w h.2 k.3 (one_there words w h.0 name h.1 h.2 k.0 k.1 k.2 k.3 h.3 k.4).same_text h.4 k.5)
long_alone words w name reason (Ran number lines) is h k = absurd (long_or_not w h.2 k.2 (one_there words w h.0 name h.1 h.2 k.0 k.1 number k.2 h.3 k.3).same_text h.4 k.4)
long_alone words w name reason NoForm is h k = absurd k
long_alone words w name reason (Exists other) is h k = absurd k
long_alone words w name reason (Made task) is h k = absurd k
long_alone words w name reason (Told text) is h k = absurd k

-- a bad line against a script that says something
bad_or_says : (w : World) (text text2 : ℕ) (n : ℕ) (lines : List Line) → text ≡ text2 → FirstBad (w.seen text) n → IsScript (w.seen text2) lines → ⊥
bad_or_says w text text2 n lines e bad says = bad_says_nothing (lines_of (w.seen text2)) n lines (subst (λ t. FirstBad (w.seen t) n) e bad) says

-- an image that isn't taken against one that is
unbuilt_or_ran : (words : List (List ℕ)) (w : World) (name : List ℕ) (number : ℕ) (lines : List Line) → IsUnbuilt words w name → ReplayDue words w (Ran number lines) → ⊥
unbuilt_or_ran words w name number lines h k =
    let e = (one_there words w name h.0 h.1 h.2 k.0 k.1 number k.2 h.3 k.3).same_image in
    h.6 (subst (λ t. IsTaken (w.seen t)) (sym e) k.6)

unbuilt_alone : (words : List (List ℕ)) (w : World) (name reason : List ℕ) (b : Ending) → reason ≡ codes "Unbuilt" → IsUnbuilt words w name → ReplayDue words w b → Refused name reason ≡ b
unbuilt_alone words w name reason (Missing other) is h k = absurd (none_there words w other name h.0 h.1 h.2 k h.3)
unbuilt_alone words w name reason (Refused other why) is h k = ⊎_elim
    (λ (l : IsTooLong words w other × (why ≡ codes "ScriptTooLong")). absurd (long_or_not w l.0.2 h.2 (one_there words w l.0.0 other l.0.1 l.0.2 name h.0 h.1 h.2 l.0.3 h.3).same_text l.0.4 h.4))
    (λ (u : IsUnbuilt words w other × (why ≡ codes "Unbuilt")). same_refusal name other reason why (codes "Unbuilt") (one_there words w name h.0 h.1 h.2 other u.0.0 u.0.1 u.0.2 h.3 u.0.3).names.same_file is u.1)
    k
unbuilt_alone words w name reason (BadLine n) is h k = absurd (bad_or_says w k.3 h.2 n h.5.0 (one_there words w k.0 k.1 k.2 k.3 name h.0 h.1 h.2 k.4 h.3).same_text k.6 h.5.1)
unbuilt_alone words w name reason (Ran number lines) is h k = absurd (unbuilt_or_ran words w name number lines h k)
unbuilt_alone words w name reason NoForm is h k = absurd k
unbuilt_alone words w name reason (Exists other) is h k = absurd k
unbuilt_alone words w name reason (Made task) is h k = absurd k
unbuilt_alone words w name reason (Told text) is h k = absurd k

refused_alone : (words : List (List ℕ)) (w : World) (name reason : List ℕ) (b : Ending) → ReplayDue words w (Refused name reason) → ReplayDue words w b → Refused name reason ≡ b
refused_alone words w name reason b h k = ⊎_elim
    (λ (l : IsTooLong words w name × (reason ≡ codes "ScriptTooLong")). long_alone words w name reason b l.1 l.0 k)
    (λ (u : IsUnbuilt words w name × (reason ≡ codes "Unbuilt")). unbuilt_alone words w name reason b u.1 u.0 k)
    h

one_bad : (words : List (List ℕ)) (w : World) (n m : ℕ) → ReplayDue words w (BadLine n) → ReplayDue words w (BadLine m) → BadLine n ≡ BadLine m
one_bad words w n m h k =
    let e = (one_there words w h.0 h.1 h.2 h.3 k.0 k.1 k.2 k.3 h.4 k.4).same_text in
    ap BadLine (one_first_bad (lines_of (w.seen k.3)) n m (subst (λ t. FirstBad (w.seen t) n) e h.6) k.6)

bad_or_ran : (words : List (List ℕ)) (w : World) (n number : ℕ) (lines : List Line) → ReplayDue words w (BadLine n) → ReplayDue words w (Ran number lines) → ⊥
bad_or_ran words w n number lines h k = bad_or_says w h.3 k.2 n lines (one_there words w h.0 h.1 h.2 h.3 k.0 k.1 number k.2 h.4 k.3).same_text h.6 k.5

one_run : (words : List (List ℕ)) (w : World) (m n : ℕ) (ls ms : List Line) → ReplayDue words w (Ran m ls) → ReplayDue words w (Ran n ms) → Ran m ls ≡ Ran n ms
one_run words w m n ls ms h k =
    let e = one_there words w h.0 h.1 m h.2 k.0 k.1 n k.2 h.3 k.3 in
    let lines = one_saying (lines_of (w.seen k.2)) ls ms (subst (λ t. IsScript (w.seen t) ls) e.same_text h.5) k.5 in
    cc (e.same_image, lines)

-- ---- the law

pub one_replay_due : (words : List (List ℕ)) (w : World) (a b : Ending) → ReplayDue words w a → ReplayDue words w b → a ≡ b
one_replay_due words w (Missing name) b h k = missing_alone words w name b h k
one_replay_due words w (Refused name reason) b h k = refused_alone words w name reason b h k
one_replay_due words w a (Missing name) h k = sym (missing_alone words w name a k h)
one_replay_due words w a (Refused name reason) h k = sym (refused_alone words w name reason a k h)
one_replay_due words w (BadLine n) (BadLine m) h k = one_bad words w n m h k
one_replay_due words w (BadLine n) (Ran number lines) h k = absurd (bad_or_ran words w n number lines h k)
one_replay_due words w (Ran number lines) (BadLine n) h k = absurd (bad_or_ran words w n number lines k h)
one_replay_due words w (Ran m ls) (Ran n ms) h k = one_run words w m n ls ms h k
one_replay_due words w NoForm b h k = absurd h
one_replay_due words w (Exists name) b h k = absurd h
one_replay_due words w (Made task) b h k = absurd h
one_replay_due words w (Told text) b h k = absurd h
one_replay_due words w a NoForm h k = absurd k
one_replay_due words w a (Exists name) h k = absurd k
one_replay_due words w a (Made task) h k = absurd k
one_replay_due words w a (Told text) h k = absurd k
