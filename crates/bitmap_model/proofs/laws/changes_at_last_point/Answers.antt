use Rattle.bitmap_model.proofs.TrueSpans.{added_is_true, cleared_is_true, enabled_keeps_true, disabled_keeps_true, merged_keeps_true}
use Rattle.bitmap_model.proofs.laws.changes_at_last_point.Goals as goal

pub returns : goal.returns
returns c h p rising = record {
  added = λ size name granularity recording persistent. added_is_true h p size name granularity recording persistent rising;
  cleared = λ b idle. cleared_is_true h p b rising;
  enabled = λ b t. enabled_keeps_true h p b rising t;
  disabled = λ b t. disabled_keeps_true h p b rising t;
  merged = λ size source b shape shaped idle s t. merged_keeps_true h p size source b rising shape shaped idle s t;
}
