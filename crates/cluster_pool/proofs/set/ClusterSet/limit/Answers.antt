use Rattle.std.proofs.Common.{sym, ap, length, ◌∙◌}
use Rattle.bitmap_model.proofs.Sets.{length-set_of}
use Rattle.cluster_pool.specs.Sets.{is_in_words}
use Rattle.cluster_pool.proofs.set.ClusterSet.limit.Goals as goal

pub returns : goal.returns
returns c = sym (length-set_of c.self.inside.count (is_in_words c.self.inside.words.items)) ∙ ap length c.self.view_is
