-- A request is denied or not, whatever files hold.
use Rattle.std.proofs.Common.{◌≡◌, List, [], ◌∷◌, map, Some, None, refl, sym, ap, ◌∙◌}
use Rattle.core_events.specs.Events.{Request, Guest}
use Rattle.core_events.specs.Answers.{Answer, Fault}
use Rattle.core_events.specs.declared.answers.Errno.{Errno}
use Rattle.plain_model.specs.Jobs.{Job}
use Rattle.plain_model.specs.Machine.{Machine}
use Rattle.plain_model.specs.Requests.{denial}
use Rattle.plain_model.specs.Outcome.{numbered}
use Rattle.core_node.specs.Standing.{Shown, SameNumbers, SameBitmaps, shown_view}
use Rattle.core_node.specs.Step.{DeniesAs}
use Rattle.drive_core.specs.Drive.{denies}
use Rattle.drive_core.proofs.Denials.{denial_is}

no_views : (views : List Job) → [] ≡ map shown_view views → views ≡ []
no_views [] is = refl
no_views (v ∷ views) is = absurd (cc)

module _ (s : Shown) (r : Request) (bitmaps : s.bitmaps ≡ []) (exports : s.exports ≡ []) (views : s.views ≡ []) (gone : s.gone ≡ []) where
  denial_for : (m : Machine) → SameNumbers s m → SameBitmaps s m → s.views ≡ map shown_view m.views → s.gone ≡ m.gone → denial r (numbered m) ≡ denies s r
  denial_for m numbers same_bitmaps same_views same_gone =
      denial_is s r (numbered m) (sym same_bitmaps.bitmaps_are ∙ bitmaps) (sym same_bitmaps.exports_are ∙ exports) (no_views m.views (sym views ∙ same_views)) (sym same_gone ∙ gone) numbers.size_is numbers.broken_is

  pub denied_as : (errno : Errno) → denies s r ≡ Some errno → DeniesAs s (Guest r) (record { reply = Fault errno; notices = [] })
  denied_as errno is = λ m other numbers same_bitmaps same_views same_gone den.
      ap (λ (e : Errno). record { reply = Fault e; notices = [] }) (let due = denial_for m numbers same_bitmaps same_views same_gone in cc)

  pub granted_as : (answer : Answer) → denies s r ≡ None → DeniesAs s (Guest r) answer
  granted_as answer none = λ m other numbers same_bitmaps same_views same_gone den. (let due = denial_for m numbers same_bitmaps same_views same_gone in absurd (cc))
