use Rattle.std.proofs.Common.{◌≡◌, ℕ, ◌+◌, ◌-◌, ◌<◌, ◌≤◌, Ok, vec_len, vec_capacity}
use Rattle.disk_model.specs.declared.depot.Failed.{Failed}
use Rattle.file_device.specs.Calls.{Looks}
use Rattle.file_device.specs.File.{file_of, Gives}
use Rattle.image_model.specs.Clusters.{size}
use Rattle.image_model.specs.Space.{Store}
use Rattle.map_rows.specs.Stores.{HasStore}
use Rattle.qc_map.specs.Mapping.{mapping, shape_by}
use Rattle.qc_map.specs.Telling.{Tells, flags_of}
use Rattle.qc_map.proofs.Going.{IsStop}
use Rattle.qc_map.proofs.layout.Layout.kinds.Given as goal

abbrev pub invariant-loop-done : goal.invariant-loop-done
invariant-loop-done g l = record {
  looks : Looks {T = ℕ} {E = Failed} l.self.file.0 (g.D.Outside.world l.initial.depot) (g.D.Outside.world l.depot) (Ok 0);
  order : l.done ≤ l.bytes;
  stop : IsStop (shape_by (mapping l.self)) l.at l.bytes l.done;
  from : l.start ≤ vec_len l.out.items;
  few : vec_len l.out.items < l.start + 1024;
  capacity : vec_capacity l.out.items ≡ vec_capacity l.initial.out.items;
  some : 0 < l.done → 0 < l.last.length;
  short : l.last.length ≤ l.done;
  goes : Gives (file_of (g.D.Outside.world l.initial.depot) l.self.file.0) (λ c. (store : Store) → HasStore (shape_by (mapping l.self)) l.self.size c store → Tells (size (shape_by (mapping l.self))) (flags_of store) l.at l.done l.initial.out.items.items l.out.items.items l.last);
}

abbrev pub decreases-loop-done : goal.decreases-loop-done
decreases-loop-done g l = l.bytes - l.done
