use Rattle.std.proofs.Common.{◌≡◌, ◌<◌, ℕ, List, [], length, get_or, map, take, sym, ◌∙◌, ap, subst, arith}
use Rattle.std.specs.Prelude.{string_bytes, option_map}
use Rattle.std.proofs.lemmas.List.{length-map, take-map}
use Rattle.disk_memory.specs.declared.files.File.{File}
use Rattle.disk_memory.specs.declared.log.Call.{Call}
use Rattle.disk_memory.specs.Host.{held}
use Rattle.disk_memory.specs.Held.{Change, change_of, replay, upto}
use Rattle.disk_memory.specs.Steps.{with_some}
use Rattle.disk_memory.specs.Outcomes.{IsPicked}
use Rattle.disk_memory.proofs.Fields.{map_read}
use Rattle.disk_memory.proofs.Leaving.{IsLeaving, is_new, leaving_next, is_left}
use Rattle.disk_memory.proofs.host.MemoryHost.pick_outcome.Goals as goal

pub add_some-requires : goal.add_some-requires
add_some-requires c =
    let old = held c.args.self.now in
    let files = c.args.self.now.files.items in
    let n = c.loop-number.number in
    let item = c.file-item.result in
    let same : c.deref-file-items.result.now ≡ files = c.deref-file-items.ensures.value in
    let there : n < length files = omega (arith, ap length same) in
    let is : item ≡ get_or files n item = c.file-item.is ∙ ap (λ (l : List File). get_or l n item) same in
    let named = c.as_str.ensures.value ∙ map_read (λ (file : File). string_bytes file.name) files n item [] there is in
    let below : n < length old.names = omega (arith, there, length-map files (λ (file : File). string_bytes file.name)) in
    rw named (is_new c.args.choice c.args.moment old (held c.loop-number.left) n c.args.self.now.kept c.requires.told c.loop-number.left.kept c.loop-number.invariant.leaving below)

pub loop-number-preserved : goal.loop-number-preserved
loop-number-preserved c =
    let self = c.args.self.now in
    let old = held self in
    let new = held c.loop-number.left in
    let files = self.files.items in
    let n = c.loop-number.number in
    let item = c.file-item.result in
    let same : c.deref-file-items.result.now ≡ files = c.deref-file-items.ensures.value in
    let there : n < length files = omega (arith, ap length same) in
    let is : item ≡ get_or files n item = c.file-item.is ∙ ap (λ (l : List File). get_or l n item) same in
    let named = c.as_str.ensures.value ∙ map_read (λ (file : File). string_bytes file.name) files n item [] there is in
    let below : n < length old.names = omega (arith, there, length-map files (λ (file : File). string_bytes file.name)) in
    let left = option_map (λ bytes. bytes.items) c.in_ok-bytes.bytes in
    let past : replay (map change_of (take c.args.moment c.deref.result.now)) n [] ≡ upto old.changes c.args.moment n =
    ap (λ (l : List Call). replay (map change_of (take c.args.moment l)) n []) c.deref.ensures.value ∙ ap (λ (l : List Change). replay l n []) (sym (take-map change_of c.args.moment self.log.items)) in
    record {
      leaving = leaving_next c.args.choice c.args.moment old new n self.kept c.requires.told c.loop-number.left.kept c.loop-number.invariant.leaving below (held c.add_some.new.self) left
          (subst (λ (vs : List (List ℕ)). IsPicked c.args.choice vs left) past c.in_ok-bytes.ensures)
          (c.in_ok-add_some.ensures.ok ∙ ap (λ (name : List ℕ). with_some name left new) named);
      calls = c.add_some.ensures.calls ∙ c.loop-number.invariant.calls;
      failing = c.add_some.ensures.failing ∙ c.loop-number.invariant.failing;
    }

pub returns-clause-left : goal.returns-clause-left
returns-clause-left c =
    let self = c.args.self.now in
    let old = held self in
    let end : c.loop-number.number ≡ length old.names = omega (arith, ap length c.deref-file-items.ensures.value, length-map self.files.items (λ (file : File). string_bytes file.name)) in
    is_left c.args.choice c.args.moment old (held c.loop-number.left) self.kept c.loop-number.left.kept c.requires.told (subst (λ (n : ℕ). IsLeaving c.args.choice c.args.moment old n (held c.loop-number.left)) end c.loop-number.invariant.leaving)
