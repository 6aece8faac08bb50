use Rattle.std.proofs.Common.{ℕ, List, replicate, length, ◌≡◌, sym, subst, arith, None}
use Rattle.qc_layout.specs.Records.{record_fault, record_of}
use Rattle.qc_layout.proofs.RecordLaws.{two, whole_is, reads_back}
use Rattle.qc_layout.proofs.records.write_record.Goals as goal

pub returns-clause-bytes : goal.returns-clause-bytes
returns-clause-bytes c =
    let a = c.head_bytes.result in
    let b = c.claim_bytes.result in
    let long : length a ≡ 16 = omega arith in
    let rest : length b ≡ 48 = omega arith in
    whole_is c.args.value.now c.put-2.new.out a b (two (replicate 64 0) a b c.put.new.out c.put-2.new.out 16 long (omega arith) c.put.ensures c.put-2.ensures) c.head_bytes.ensures c.claim_bytes.ensures.bytes

pub returns-clause-reads_back : goal.returns-clause-reads_back
returns-clause-reads_back c bits bytes long none is =
    let said = reads_back bits bytes c.args.value.now (record { base = c.claim_bytes.ensures.base; epoch = c.claim_bytes.ensures.point.0; serial = c.claim_bytes.ensures.point.1; unit = omega arith }) none is in
    subst (λ (l : List ℕ). (record_fault bits l ≡ None) × (record_of l ≡ c.args.value.now)) (sym (returns-clause-bytes c)) (said.none, said.is)
