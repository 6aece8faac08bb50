use Rattle.std.proofs.Common.{sym}
use Rattle.qc_layout.proofs.Made.{HasRead, listed_near, read_made}
use Rattle.qc_layout.proofs.reading.read_header.Goals as goal

pub extension_fault-requires-clause-near : goal.extension_fault-requires-clause-near
extension_fault-requires-clause-near c =
    listed_near c.args.bytes.now c.list_end-end.result c.from.result c.read_fields-fields.result.cluster_bits c.in-Ok-Some.extensions.items c.as_slice-extensions.result.now
    c.list_end-end.ensures (rw c.in-Ok-Some.field-0-is at c.in-Ok-Some.ensures) c.as_slice-extensions.ensures.value

pub make_header-requires-clause-near : goal.make_header-requires-clause-near
make_header-requires-clause-near c =
    listed_near c.args.bytes.now c.list_end-end.result c.from.result c.read_fields-fields.result.cluster_bits c.in-Ok-Some.extensions.items c.as_slice-extensions.result.now
    c.list_end-end.ensures (rw c.in-Ok-Some.field-0-is at c.in-Ok-Some.ensures) c.as_slice-extensions.ensures.value

pub returns : goal.returns
returns c =
    let has : HasRead c.args.part c.args.bytes.now c.read_fields-fields.result c.list_end-end.result c.from.result c.in-Ok-Some.extensions.items c.as_slice-extensions.result.now = record {
      read = c.read_fields-fields.ensures;
      ends = c.list_end-end.ensures;
      starts = c.from.ensures;
      numbers = sym c.in_default.ensures;
      listed = rw c.in-Ok-Some.field-0-is at c.in-Ok-Some.ensures;
      same = c.as_slice-extensions.ensures.value;
    } in
    read_made c.args.part c.args.bytes.now c.read_fields-fields.result c.list_end-end.result c.from.result c.in-Ok-Some.extensions.items c.as_slice-extensions.result.now c.in-Ok.header has
    (sym c.in_default-extension_fault.ensures) c.in-Ok.ensures
