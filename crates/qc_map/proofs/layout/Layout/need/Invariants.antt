use Rattle.std.proofs.Common.{◌≡◌, ℕ, ◌-◌, ◌*◌, ◌≤◌, Ok}
use Rattle.disk_model.specs.declared.depot.Failed.{Failed}
use Rattle.file_device.specs.Calls.{Looks}
use Rattle.file_device.specs.File.{file_of, Gives}
use Rattle.image_model.specs.Space.{Store, need}
use Rattle.map_rows.specs.Stores.{HasStore}
use Rattle.qc_map.specs.Mapping.{mapping, shape_by}
use Rattle.qc_map.proofs.Going.{IsStop}
use Rattle.qc_map.proofs.layout.Layout.need.Given as goal

abbrev pub invariant-loop-done : goal.invariant-loop-done
invariant-loop-done g l = record {
  looks : Looks {T = ℕ} {E = Failed} l.self.file.0 (g.D.Outside.world l.initial.depot) (g.D.Outside.world l.depot) (Ok 0);
  order : l.done ≤ l.bytes;
  few : l.total ≤ 3 * l.done;
  stop : IsStop (shape_by (mapping l.self)) l.at l.bytes l.done;
  need : Gives (file_of (g.D.Outside.world l.initial.depot) l.self.file.0) (λ c. (store : Store) → HasStore (shape_by (mapping l.self)) l.self.size c store → l.total ≡ need store (record { at = l.at; size = l.done }));
}

abbrev pub decreases-loop-done : goal.decreases-loop-done
decreases-loop-done g l = l.bytes - l.done
