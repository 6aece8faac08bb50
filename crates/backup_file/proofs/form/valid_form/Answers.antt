use Rattle.backup_file.proofs.Sizes.{reach_some}
use Rattle.backup_file.proofs.form.valid_form.Goals as goal

pub overflow_sub-result : goal.overflow_sub-result
overflow_sub-result c = reach_some c.args.cluster_bits c.if-cluster_bits-lt9.false c.if-cluster_bits-gt21.false

pub nonzero_div-result : goal.nonzero_div-result
nonzero_div-result c = reach_some c.args.cluster_bits c.if-cluster_bits-lt9.false c.if-cluster_bits-gt21.false
