-- The span of a bitmap: what each change makes of it, at a point.
use Rattle.std.specs.Prelude.{◌≡◌, ℕ, true, false}
use Rattle.span_algebra.specs.declared.points.Point.{Point}
use Rattle.span_algebra.specs.declared.points.End.TheVariants.{Now, At}
use Rattle.span_algebra.specs.declared.spans.Span.{Span}
use Rattle.span_algebra.specs.declared.spans.Span.TheVariants.{Known, Unknown}
use Rattle.span_algebra.specs.declared.spans.Base.TheVariants.{Since, Loose}
use Rattle.span_algebra.specs.Spans.{after_clear, after_disable, after_enable, after_merge, base_of}

abbrev pub point : ℕ → Point
point serial = record { epoch = 1; serial = serial }

-- from one point to another
abbrev pub from_to : ℕ → ℕ → Span
from_to a b = Known (point a) (At (point b))

abbrev pub from_to_now : ℕ → Span
from_to_now a = Known (point a) Now

pub record SpansFollowTheirRules : Type 0 where
  pub clear_recording : after_clear true (point 5) ≡ from_to_now 5
  pub clear_disabled : after_clear false (point 5) ≡ from_to 5 5
  pub disable_closes : after_disable (from_to_now 1) (point 5) ≡ from_to 1 5
  pub disable_keeps : after_disable (from_to 1 3) (point 5) ≡ from_to 1 3
  -- enabling at the end goes on, and anything else begins anew
  pub enable_goes_on : after_enable (from_to 1 5) (point 5) ≡ from_to_now 1
  pub enable_after_a_gap : after_enable (from_to 1 4) (point 5) ≡ from_to_now 5
  pub enable_of_now : after_enable (from_to_now 1) (point 5) ≡ from_to_now 5
  pub enable_unknown : after_enable Unknown (point 5) ≡ from_to_now 5
  -- merging into a span that is closed where it begins takes the source's, up to the point
  pub merge_into_new : after_merge (from_to 4 4) (from_to_now 1) (point 5) ≡ from_to 1 5
  pub merge_into_new_of_closed : after_merge (from_to 4 4) (from_to 1 2) (point 5) ≡ from_to 1 2
  -- spans that meet are joined, and others stay
  pub merge_joins : after_merge (from_to_now 3) (from_to 1 3) (point 5) ≡ from_to_now 1
  pub merge_joins_later : after_merge (from_to 1 3) (from_to_now 3) (point 5) ≡ from_to 1 5
  pub merge_of_what_is_within : after_merge (from_to 1 4) (from_to 2 3) (point 5) ≡ from_to 1 4
  pub merge_before_a_gap : after_merge (from_to_now 4) (from_to 1 3) (point 5) ≡ from_to_now 4
  pub merge_behind_a_gap : after_merge (from_to 1 2) (from_to 3 4) (point 5) ≡ from_to 1 2
  pub merge_of_unknown : after_merge (from_to 1 2) Unknown (point 5) ≡ from_to 1 2
  pub merge_into_unknown : after_merge Unknown (from_to 1 2) (point 5) ≡ Unknown
  -- what a backup at the point builds on
  pub base_of_now : base_of (from_to_now 1) (point 5) ≡ Since (point 1)
  pub base_of_end : base_of (from_to 1 5) (point 5) ≡ Since (point 1)
  pub base_of_earlier : base_of (from_to 1 4) (point 5) ≡ Loose
  pub base_of_unknown : base_of Unknown (point 5) ≡ Loose
