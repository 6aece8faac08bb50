-- What an action leaves as it was, and actions one after another.
use Rattle.std.proofs.Common.{rules}
use Rattle.std.proofs.Common.{◌≡◌, sym, subst}
use Rattle.plain_model.specs.History.{History}
use Rattle.plain_model.specs.Machine.{Machine}
use Rattle.plain_model.specs.Sound.{IsSoundFor}

-- all but bitmaps, jobs and views is as it was
pub record KeepsRest (old new : Machine) : Type 0 where
  pub history : new.history ≡ old.history
  pub epoch : new.epoch ≡ old.epoch
  pub serial : new.serial ≡ old.serial
  pub event : new.event ≡ old.event
  pub gone : new.gone ≡ old.gone
  pub broken : new.broken ≡ old.broken
  pub store : new.store ≡ old.store

pub keeps_then : (a b c : Machine) → KeepsRest a b → KeepsRest b c → KeepsRest a c
keeps_then a b c first then_on = search rules

pub keeps_as : (m next same : Machine) → next ≡ same → KeepsRest m same → KeepsRest m next
keeps_as m next same e k = subst (KeepsRest m) (sym e) k

-- the next machine is sound for the history, and keeps the rest
pub record IsActed (h : History) (old new : Machine) : Type 0 where
  pub sound : IsSoundFor h new
  pub rest : KeepsRest old new
