use Rattle.std.proofs.Common.{◌≡◌, ℕ, ◌+◌, ◌*◌, ◌/◌, ◌≤◌, length, take, ap, arith}
use Rattle.qc_layout.specs.Opening.{each_below}
use Rattle.map_opening.specs.Opening.{entry_of}
use Rattle.map_opening.proofs.Through.{through_same, through_next, through_break}
use Rattle.map_opening.proofs.Level.{piece_count}
use Rattle.map_opening.proofs.claims.FirstLevel.claim_pieces.Goals as goal

pub loop-done-preserved : goal.loop-done-preserved
loop-done-preserved g c =
    let l = c.args.self in
    let done = c.loop-done.done in
    let count = c.min-count.result in
    let n : length (take (8 * count) c.loop-done.buffer) / 8 ≡ count = piece_count c.loop-done.buffer count (omega (arith, c.min-count.ensures)) in (
      through_same (λ seen. each_below (done + count) (entry_of l seen)) (λ seen. ap (λ (k : ℕ). each_below (done + k) (entry_of l seen)) n)
          (through_next (λ seen. entry_of l seen) done _ c.loop-done.invariant.0 c.in_ok-claim_piece.ensures),
      omega (arith, c.min-count.ensures),
    )

pub returns-in_err-claim_piece : goal.returns-in_err-claim_piece
returns-in_err-claim_piece g c =
    let l = c.args.self in
    let done = c.loop-done.done in
    let count = c.min-count.result in
    let n : length (take (8 * count) c.loop-done.buffer) / 8 ≡ count = piece_count c.loop-done.buffer count (omega (arith, c.min-count.ensures)) in
    let within : done + length (take (8 * count) c.loop-done.buffer) / 8 ≤ l.entries = omega (arith, n, c.min-count.ensures) in
    through_break (λ seen. entry_of l seen) done _ l.entries c.from_residual.result within c.from_residual.ensures.1 c.loop-done.invariant.0 c.in_err-claim_piece.ensures

pub returns : goal.returns
returns g c =
    let l = c.args.self in
    let all : c.loop-done.done ≡ l.entries = omega (arith, c.loop-done.invariant.1) in
    through_same (λ seen. each_below l.entries (entry_of l seen)) (λ seen. ap (λ (n : ℕ). each_below n (entry_of l seen)) all) c.loop-done.invariant.0
