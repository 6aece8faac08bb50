use Rattle.std.proofs.Common.{inl, inr}
use Rattle.core_node.proofs.laws.seals_come_at_ends.Goals as goal

pub returns : goal.returns
returns g c before after old new event answer s f b base p steps knows sealed reads fresh = elim (steps.goes.seals s f b base p knows sealed reads) [
  | inl was ↦ absurd (fresh was)
  | inr ends ↦ ends
]
