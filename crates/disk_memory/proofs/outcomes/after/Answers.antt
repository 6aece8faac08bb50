use Rattle.std.proofs.Common.{◌≡◌, ℕ, List, [], ◌∷◌, sym, ◌∙◌, ap, subst}
use Rattle.std.specs.Prelude.{IfOk}
use Rattle.disk_model.specs.Files.{after_write, after_sync}
use Rattle.disk_memory.specs.declared.log.Call.{Call}
use Rattle.disk_memory.specs.Held.{FilePut, BytesWritten, FileSynced, change_of, step}
use Rattle.disk_memory.specs.Outcomes.{IsMixture, IsDrafted}
use Rattle.disk_memory.proofs.Changes.{here}
use Rattle.disk_memory.proofs.outcomes.after.Goals as goal

pub returns-in_ok-new-in-Put : goal.returns-in_ok-new-in-Put
returns-in_ok-new-in-Put c versions drafted =
    let file = c.args.file in
    let new = c.in_ok-new-in-Put.new in
    let is : step (change_of c.args.call.now) file versions ≡ c.deref.result.now ∷ [] =
    ap (λ (k : Call). step (change_of k) file versions) c.in-Put.is
    ∙ ap (λ (n : ℕ). step (FilePut n c.in-Put.bytes.items) file versions) c.if-number-file.true ∙ here file (c.in-Put.bytes.items ∷ []) versions
    ∙ ap (λ (l : List ℕ). l ∷ []) (sym c.deref.ensures.value) in
    subst (λ (vs : List (List ℕ)). IsMixture c.args.choice vs new.now.items new.mixed.items new.shortest) (sym is) (c.in_ok-new-in-Put.ensures c.args.choice)

pub returns-then-number-file-2 : goal.returns-then-number-file-2
returns-then-number-file-2 c versions drafted =
    let file = c.args.file in
    let at = c.in-Write.at in
    let is : step (change_of c.args.call.now) file versions ≡ after_write at c.deref-then-number-file-2.result.now versions =
    ap (λ (k : Call). step (change_of k) file versions) c.in-Write.is
    ∙ ap (λ (n : ℕ). step (BytesWritten n at c.in-Write.bytes.items) file versions) c.if-number-file-2.true ∙ here file (after_write at c.in-Write.bytes.items versions) versions
    ∙ ap (λ (l : List ℕ). after_write at l versions) (sym c.deref-then-number-file-2.ensures.value) in
    subst (λ (vs : List (List ℕ)). IfOk c.rewritten.result (λ new. IsDrafted c.args.choice vs new)) (sym is) (c.rewritten.ensures versions drafted)

pub returns-then-number-file-3 : goal.returns-then-number-file-3
returns-then-number-file-3 c versions drafted =
    let file = c.args.file in
    let is : step (change_of c.args.call.now) file versions ≡ after_sync versions =
    ap (λ (k : Call). step (change_of k) file versions) c.in-Sync.is ∙ ap (λ (n : ℕ). step (FileSynced n) file versions) c.if-number-file-3.true ∙ here file (after_sync versions) versions in
    subst (λ (vs : List (List ℕ)). IfOk c.resettled.result (λ new. IsDrafted c.args.choice vs new)) (sym is) (c.resettled.ensures c.args.choice versions drafted)
