-- A record written piece by piece, and read again.
use Rattle.std.proofs.Common.{rules}
use Rattle.std.proofs.lemmas.Grind.{common_steps}
use Rattle.std.proofs.Common.{◌≡◌, ℕ, ◌+◌, ◌^◌, ◌<◌, List, ◌++◌, length, take, drop, replicate, true, false, None, refl, sym, ap, ◌∙◌, subst, arith, length-append}
use Rattle.std.specs.Prelude.{◌==◌, if◌then◌else◌}
use Rattle.std.specs.Int.{to_be_bytes, w32}
use Rattle.disk_model.specs.Files.{reading, u64_at}
use Rattle.disk_model.proofs.Laws.{reading_all, length-reading}
use Rattle.qc_layout.specs.Spelling.{word32, word64}
use Rattle.qc_layout.proofs.Standing.{Stands, stands_at, stands_left, stands_right, stands_u32, stands_u64, first_u64, past_u64}
use Rattle.span_algebra.specs.declared.points.Point.{Point}
use Rattle.span_algebra.specs.declared.spans.Base.{Base}
use Rattle.span_algebra.specs.declared.spans.Base.TheVariants.{Whole, Since, Loose}
use Rattle.qc_layout.specs.declared.records.Record.{Record}
use Rattle.qc_layout.specs.declared.records.State.{State}
use Rattle.qc_layout.specs.declared.records.State.TheVariants.{Blank, Begun, Sealed}
use Rattle.qc_layout.specs.Records.{version_in, state_in, kind_in, unit_in, point_in, record_fault, record_of, record_bytes, state_number, kind_number, point_bytes, base_bytes, claim_bytes}

-- ---- pieces

-- two pieces
pub two : (start a b x y : List ℕ) (i : ℕ) → length a ≡ i → length a + length b ≡ length start
    → x ≡ take 0 start ++ a ++ drop (0 + length a) start → y ≡ take i x ++ b ++ drop (i + length b) x → y ≡ a ++ b
two start a b x y i one all first second = grind (arith, common_steps)

-- three pieces
pub three : (start a b c x y z : List ℕ) (i j : ℕ) → length a ≡ i → i + length b ≡ j → length a + length b + length c ≡ length start
    → x ≡ take 0 start ++ a ++ drop (0 + length a) start → y ≡ take i x ++ b ++ drop (i + length b) x → z ≡ take j y ++ c ++ drop (j + length c) y → z ≡ a ++ b ++ c
three start a b c x y z i j one two all first second third = grind (arith, common_steps)

-- ---- the parts of a whole record

stands_self : (l : List ℕ) → Stands l 0 l
stands_self l = record { read = reading_all l (length l) refl }

-- the numbers at its start
record Starts (whole : List ℕ) (s k u : ℕ) : Type 0 where
  pub version : version_in whole ≡ 1
  pub state : state_in whole ≡ s
  pub kind : kind_in whole ≡ k
  pub unit : unit_in whole ≡ u

starts : (state kind unit : ℕ) (rest : List ℕ) → state < 2 ^ 32 → kind < 2 ^ 32 → unit < 2 ^ 32
    → Starts (to_be_bytes w32 1 ++ to_be_bytes w32 state ++ to_be_bytes w32 kind ++ to_be_bytes w32 unit ++ rest) state kind unit
unfolding word32
starts state kind unit rest low_state low_kind low_unit =
    let v = to_be_bytes w32 1 in
    let s = to_be_bytes w32 state in
    let k = to_be_bytes w32 kind in
    let u = to_be_bytes w32 unit in
    let four = stands_left (v ++ s ++ k ++ u) rest (stands_self (v ++ s ++ k ++ u ++ rest)) in
    let three = stands_left (v ++ s ++ k) u four in
    let two = stands_left (v ++ s) k three in
    record {
      version = stands_u32 1 (stands_left v s two) (omega arith);
      state = stands_u32 state (stands_right v s two) low_state;
      kind = stands_u32 kind (stands_right (v ++ s) k three) low_kind;
      unit = stands_u32 unit (stands_right (v ++ s ++ k) u four) low_unit;
    }

-- the two numbers of a point
point_stands : {file : List ℕ} {at : ℕ} (p : Point) → Stands file at (point_bytes p) → p.epoch < 2 ^ 64 → p.serial < 2 ^ 64 → point_in file at ≡ p
unfolding word64
point_stands {file} {at} p s low_epoch low_serial =
    let e : u64_at file at ≡ p.epoch = first_u64 p.epoch (word64 p.serial) s low_epoch in
    let f : u64_at file (at + 8) ≡ p.serial = stands_u64 p.serial (past_u64 p.epoch (word64 p.serial) s) low_serial in
    rw (e, f) refl

-- ---- what a record says again

unit_of : (bits : ℕ) (bytes : List ℕ) → record_fault bits bytes ≡ None → (unit_in bytes == 2 ^ bits) ≡ true
unfolding record_fault
unit_of bits bytes none = search rules

fault_none : (bits : ℕ) (whole : List ℕ) (s : State) (b : Base) (u : ℕ) → Starts whole (state_number s) (kind_number s b) u → (u == 2 ^ bits) ≡ true → record_fault bits whole ≡ None
unfolding record_fault
fault_none bits whole s b u at is = search rules

-- what a state that isn't sealed leaves unused
abbrev Unused : State → List ℕ → Base → Point → Type 0
Unused Sealed id b q = Unit {0}
Unused s id b q = (id ≡ replicate 16 0) × (b ≡ Loose) × (q ≡ record { epoch = 0; serial = 0 })

-- the id, the base and the point of a record that was read
record IsPlain (r : Record) : Type 0 where
  pub id : length r.disk ≡ 16
  pub unused : Unused r.state r.disk r.base r.point

of_plain : (bytes : List ℕ) → IsPlain (record_of bytes) × ((record_of bytes).unit ≡ unit_in bytes)
unfolding record_of
of_plain bytes = let long = length-reading bytes 16 16 in search rules

-- what a base names, where a sealed record has it
abbrev IsBaseAt : List ℕ → Base → Type 0
IsBaseAt whole (Since p) = point_in whole 32 ≡ p
IsBaseAt whole b = Unit {0}

-- a sealed one, by its parts
sealed_of : (whole : List ℕ) (b : Base) (id : List ℕ) (q : Point) (u : ℕ) → Starts whole 2 (kind_number Sealed b) u → reading whole 16 16 ≡ id → point_in whole 48 ≡ q → IsBaseAt whole b
    → record_of whole ≡ record { state = Sealed; disk = id; base = b; point = q; unit = u }
unfolding record_of
sealed_of whole b id q u at is_id is_point is_base = search rules

-- one that isn't sealed
open_of : (whole : List ℕ) (s : State) (n k u : ℕ) → Starts whole n k u → ((n == 2) ≡ false) → ((if n == 0 then Blank else Begun) ≡ s)
    → record_of whole ≡ record { state = s; disk = replicate 16 0; base = Loose; point = record { epoch = 0; serial = 0 }; unit = u }
unfolding record_of
open_of whole s n k u at unsealed is = cc

-- the same record, written and read
pub record IsSaid (bits : ℕ) (r : Record) (whole : List ℕ) : Type 0 where
  pub none : record_fault bits whole ≡ None
  pub is : record_of whole ≡ r

-- ranges of what a record has
pub record IsRanged (b : Base) (q : Point) (u : ℕ) : Type 0 where
  pub base : (p : Point) → b ≡ Since p → (p.epoch < 2 ^ 64) × (p.serial < 2 ^ 64)
  pub epoch : q.epoch < 2 ^ 64
  pub serial : q.serial < 2 ^ 64
  pub unit : u < 2 ^ 32

-- the bytes at the start
abbrev head_of : (s : State) (b : Base) (u : ℕ) → List ℕ
head_of s b u = to_be_bytes w32 1 ++ to_be_bytes w32 (state_number s) ++ to_be_bytes w32 (kind_number s b) ++ to_be_bytes w32 u

begins : (s : State) (b : Base) (u : ℕ) (rest : List ℕ) → u < 2 ^ 32 → Starts (head_of s b u ++ rest) (state_number s) (kind_number s b) u
begins s b u rest small = starts (state_number s) (kind_number s b) u rest (search rules) (search rules) small

length_base : (b : Base) → length (base_bytes b) ≡ 16
length_base b = search rules

based : {whole : List ℕ} (b : Base) → ((p : Point) → b ≡ Since p → (p.epoch < 2 ^ 64) × (p.serial < 2 ^ 64)) → Stands whole 32 (base_bytes b) → IsBaseAt whole b
based Whole fits s = tt
based (Since p) fits s = point_stands p s (fits p refl).0 (fits p refl).1
based Loose fits s = tt

sealed_said : (bits : ℕ) (id : List ℕ) (b : Base) (q : Point) (u : ℕ) → IsRanged b q u → length id ≡ 16 → (u == 2 ^ bits) ≡ true
    → IsSaid bits (record { state = Sealed; disk = id; base = b; point = q; unit = u }) (head_of Sealed b u ++ (id ++ base_bytes b ++ point_bytes q))
sealed_said bits id b q u low long is =
    let whole = head_of Sealed b u ++ (id ++ base_bytes b ++ point_bytes q) in
    let at = begins Sealed b u (id ++ base_bytes b ++ point_bytes q) low.unit in
    let claim : Stands whole 16 (id ++ base_bytes b ++ point_bytes q) = stands_right (head_of Sealed b u) (id ++ base_bytes b ++ point_bytes q) (stands_self whole) in
    let front = stands_left (id ++ base_bytes b) (point_bytes q) claim in
    let base : Stands whole 32 (base_bytes b) = stands_at (omega (arith, long)) (stands_right id (base_bytes b) front) in
    let point : Stands whole 48 (point_bytes q) = stands_at (omega (arith, long, length_base b, length-append id (base_bytes b))) (stands_right (id ++ base_bytes b) (point_bytes q) claim) in
    record {
      none = fault_none bits whole Sealed b u at is;
      is = sealed_of whole b id q u at (ap (reading whole 16) (sym long) ∙ (stands_left id (base_bytes b) front).read) (point_stands q point low.epoch low.serial) (based b low.base base);
    }

open_said : (bits : ℕ) (s : State) (u : ℕ) → u < 2 ^ 32 → (u == 2 ^ bits) ≡ true → (state_number s == 2) ≡ false → (if state_number s == 0 then Blank else Begun) ≡ s
    → IsSaid bits (record { state = s; disk = replicate 16 0; base = Loose; point = record { epoch = 0; serial = 0 }; unit = u }) (head_of s Loose u ++ replicate 48 0)
open_said bits s u low is unsealed state =
    let at = begins s Loose u (replicate 48 0) low in
    record { none = fault_none bits _ s Loose u at is; is = open_of _ s (state_number s) (kind_number s Loose) u at unsealed state }

same_record : {id id2 : List ℕ} {b b2 : Base} {q q2 : Point} {u : ℕ} (s : State) → id ≡ id2 → b ≡ b2 → q ≡ q2
    → ◌≡◌ {A = Record} (record { state = s; disk = id; base = b; point = q; unit = u }) (record { state = s; disk = id2; base = b2; point = q2; unit = u })
same_record {id} {id2} {b} {b2} {q} {q2} {u} s e f g = cc

said_again : (bits : ℕ) (s : State) (id : List ℕ) (b : Base) (q : Point) (u : ℕ) → IsRanged b q u → length id ≡ 16 → Unused s id b q → (u == 2 ^ bits) ≡ true
    → IsSaid bits (record { state = s; disk = id; base = b; point = q; unit = u }) (record_bytes (record { state = s; disk = id; base = b; point = q; unit = u }))
unfolding record_bytes
said_again bits Blank id b q u low long unused is =
    let said = open_said bits Blank u low.unit is refl refl in
    record { none = said.none; is = said.is ∙ sym (same_record Blank unused.0 unused.1 unused.2) }
said_again bits Begun id b q u low long unused is =
    let said = open_said bits Begun u low.unit is refl refl in
    record { none = said.none; is = said.is ∙ sym (same_record Begun unused.0 unused.1 unused.2) }
said_again bits Sealed id b q u low long unused is = sealed_said bits id b q u low long is

-- a record that was read is read from what it is written as
pub reads_back : (bits : ℕ) (bytes : List ℕ) (r : Record) → IsRanged r.base r.point r.unit → record_fault bits bytes ≡ None → r ≡ record_of bytes → IsSaid bits r (record_bytes r)
reads_back bits bytes r low none is =
    let plain = subst (λ (x : Record). IsPlain x × (x.unit ≡ unit_in bytes)) (sym is) (of_plain bytes) in
    said_again bits r.state r.disk r.base r.point r.unit low plain.0.id plain.0.unused (ap (λ (u : ℕ). u == 2 ^ bits) plain.1 ∙ unit_of bits bytes none)

-- the whole of the bytes that are written
pub whole_is : (r : Record) (whole head claim : List ℕ) → whole ≡ head ++ claim → head ≡ head_of r.state r.base r.unit → claim ≡ claim_bytes r → whole ≡ record_bytes r
unfolding record_bytes
whole_is r whole head claim is first second = cc
