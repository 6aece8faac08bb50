use Rattle.bitmap_model.proofs.Shapes.{added_keeps_shape, written_keeps_shape, cleared_keeps_shape, enabled_keeps_shape, disabled_keeps_shape, merged_keeps_shape, frozen_keeps_shape, abdicated_keeps_shape, reclaimed_keeps_shape, restored_is_shaped}
use Rattle.bitmap_model.proofs.laws.shape_is_kept.Goals as goal

pub returns : goal.returns
returns c size = record {
  added = added_keeps_shape size;
  written = written_keeps_shape size;
  emptied = cleared_keeps_shape size;
  enabled = enabled_keeps_shape size;
  disabled = disabled_keeps_shape size;
  joined = merged_keeps_shape size;
  frozen = frozen_keeps_shape size;
  abdicated = abdicated_keeps_shape size;
  reclaimed = reclaimed_keeps_shape size;
  restored_from = restored_is_shaped size;
}
