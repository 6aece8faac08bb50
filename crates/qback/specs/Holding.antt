-- What a file answers by how it is held.
use Rattle.qback.specs.declared.locks.Hold.{Hold}
use Rattle.qback.specs.declared.locks.Hold.TheVariants.{Shared, Alone, Unlocked, Foreign, Lost}

-- its size and reads
abbrev pub AnswersReads : Hold → Type 0
AnswersReads Shared = Unit {0}
AnswersReads Alone = Unit {0}
AnswersReads Unlocked = Unit {0}
AnswersReads Foreign = Unit {0}
AnswersReads Lost = ⊥

-- its writes
abbrev pub AnswersWrites : Hold → Type 0
AnswersWrites Shared = ⊥
AnswersWrites Alone = Unit {0}
AnswersWrites Unlocked = Unit {0}
AnswersWrites Foreign = ⊥
AnswersWrites Lost = ⊥

-- its syncs
abbrev pub AnswersSyncs : Hold → Type 0
AnswersSyncs Shared = Unit {0}
AnswersSyncs Alone = Unit {0}
AnswersSyncs Unlocked = Unit {0}
AnswersSyncs Foreign = ⊥
AnswersSyncs Lost = ⊥
