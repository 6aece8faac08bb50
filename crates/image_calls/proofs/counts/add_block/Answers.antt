use Rattle.std.proofs.Common.{◌≡◌, ℕ, List, IsTrue, length, rules, ap, ◌∙◌, refl, inl, inr}
use Rattle.std.proofs.lemmas.Result.{on_ok_weaker}
use Rattle.std.specs.Int.{from_be_bytes, w64}
use Rattle.std.proofs.lemmas.Nat.{from_be_bytes-to_be_bytes_8}
use Rattle.disk_model.specs.World.{HasWritten}
use Rattle.disk_model.proofs.Laws.{run_on}
use Rattle.file_device.proofs.Laws.{puts_err, puts_on}
use Rattle.image_steps.proofs.Pools.{block_word_b, block_word_d, block_word_e, block_either}
use Rattle.image_calls.proofs.Beside.{wrote_beside, synced_beside, told_on}
use Rattle.image_model.specs.Clusters.{Shape, IsSafe, IsStanding}
use Rattle.image_model.specs.Calls.{IsAddingBlock}
use Rattle.image_steps.proofs.Standing.{moves_of}
use Rattle.image_steps.proofs.Pools.{block_words_b, block_words_d, block_words_e, block_words_g}
use Rattle.image_steps.proofs.Pools.{block_grown, block_counted, block_synced, block_wrote, block_done, block_there, block_leaves_b, block_leaves_d, block_leaves_e, block_leaves_g, block_others_b, block_others_d, block_others_e, block_others_g, block_ends_b, block_ends_d, block_ends_e, block_ends_g, block_is_bare, block_bare_b, block_bare_d, block_bare_e, block_bare_g, by_answer, by_error}
use Rattle.image_calls.proofs.counts.add_block.Goals as goal

pub returns-in_err-write-clause-moves : goal.returns-in_err-write-clause-moves
returns-in_err-write-clause-moves g c s disks first last i slot is =
    let sound = g.met.D.Depot.sound in
    by_error (IsStanding s disks first last c.args.file.0) first last 1 c.from_residual.result c.from_residual.ensures.0
    (moves_of (IsSafe s disks) c.write.ensures.wrote.call.run (sound _) (λ told st. block_grown is (sound _) (sound _) c.write.ensures.wrote.call told st))

pub returns-in_err-write-2-clause-moves : goal.returns-in_err-write-2-clause-moves
returns-in_err-write-2-clause-moves g c s disks first last i slot is =
    let sound = g.met.D.Depot.sound in
    by_error (IsStanding s disks first last c.args.file.0) first last 1 c.from_residual-in_err-write-2.result c.from_residual-in_err-write-2.ensures.0
    (moves_of (IsSafe s disks) (run_on c.write.ensures.wrote.call.run c.write-2.ensures.wrote.call.run) (sound _)
    (λ told st. block_counted is (sound _) (sound _) c.write.ensures.wrote.call told st (sound _) c.write-2.ensures.wrote.call))

pub returns-in_err-sync-clause-moves : goal.returns-in_err-sync-clause-moves
returns-in_err-sync-clause-moves g c s disks first last i slot is =
    let sound = g.met.D.Depot.sound in
    by_error (IsStanding s disks first last c.args.file.0) first last 1 c.from_residual-in_err-sync.result c.from_residual-in_err-sync.ensures.0
    (moves_of (IsSafe s disks) (run_on (run_on c.write.ensures.wrote.call.run c.write-2.ensures.wrote.call.run) c.sync.ensures.synced.call.run) (sound _)
    (λ told st. block_synced is (sound _) (sound _) c.write.ensures.wrote.call told st (sound _) c.write-2.ensures.wrote.call (sound _) c.sync.ensures.synced.call))

pub returns-in_err-write-2-clause-puts : goal.returns-in_err-write-2-clause-puts
returns-in_err-write-2-clause-puts g c = puts_err c.from_residual-in_err-write-2.ensures.0 (puts_on c.in_ok-write.ensures.wrote.puts c.in_err-write-2.ensures.wrote.puts)

pub returns-in_err-sync-clause-puts : goal.returns-in_err-sync-clause-puts
returns-in_err-sync-clause-puts g c = puts_err c.from_residual-in_err-sync.ensures.0 (puts_on (puts_on c.in_ok-write.ensures.wrote.puts c.in_ok-write-2.ensures.wrote.puts) c.in_err-sync.ensures.synced.puts)

pub returns-in_err-write-clause-leaves : goal.returns-in_err-write-clause-leaves
returns-in_err-write-clause-leaves g c s disks first last i slot is stands told =
    let sound = g.met.D.Depot.sound in
    block_leaves_b is (sound _) (sound _) c.write.ensures.wrote.call told (stands told)

pub returns-in_err-write-2-clause-leaves : goal.returns-in_err-write-2-clause-leaves
returns-in_err-write-2-clause-leaves g c s disks first last i slot is stands told =
    let sound = g.met.D.Depot.sound in
    block_leaves_d is (sound _) (sound _) c.write.ensures.wrote.call told (stands told) (sound _) c.write-2.ensures.wrote.call

pub returns-in_err-sync-clause-leaves : goal.returns-in_err-sync-clause-leaves
returns-in_err-sync-clause-leaves g c s disks first last i slot is stands told =
    let sound = g.met.D.Depot.sound in
    block_leaves_e is (sound _) (sound _) c.write.ensures.wrote.call told (stands told) (sound _) c.write-2.ensures.wrote.call (sound _) c.sync.ensures.synced.call

pub returns-clause-moves : goal.returns-clause-moves
returns-clause-moves g c s disks first last i slot is =
    let sound = g.met.D.Depot.sound in
    let eight : length c.to_be_bytes.result ≡ 8 = search rules in
    let says : from_be_bytes w64 c.to_be_bytes.result ≡ c.args.word =
    ap (λ (bs : List ℕ). from_be_bytes w64 bs) c.to_be_bytes.ensures ∙ from_be_bytes-to_be_bytes_8 c.args.word c.ranges.word.fits in
    let run = run_on (run_on (run_on c.write.ensures.wrote.call.run c.write-2.ensures.wrote.call.run) c.sync.ensures.synced.call.run) c.write-3.ensures.wrote.call.run in
    by_answer (IsStanding s disks first last c.args.file.0) first last 1 c.write-3.result _ c.write-3.ensures.wrote.done
    (moves_of (IsSafe s disks) run (sound _) (λ told st. block_wrote is (sound _) (sound _) c.write.ensures.wrote.call told st (sound _) c.write-2.ensures.wrote.call (sound _) c.sync.ensures.synced.call c.in_ok-write.ensures.wrote.done c.in_ok-write-2.ensures.wrote.done c.in_ok-sync.ensures.synced.done
    (sound _) c.write-3.ensures.wrote.call eight says))
    (λ (done : HasWritten c.args.file.0 c.args.at c.to_be_bytes.result (g.D.Outside.world c.sync.new.depot) (g.D.Outside.world c.write-3.new.depot)). moves_of (IsSafe s disks) run (sound _)
    (λ told st. block_done is (sound _) (sound _) c.write.ensures.wrote.call told st (sound _) c.write-2.ensures.wrote.call (sound _) c.sync.ensures.synced.call c.in_ok-write.ensures.wrote.done c.in_ok-write-2.ensures.wrote.done c.in_ok-sync.ensures.synced.done
    (sound _) c.write-3.ensures.wrote.call eight says done))

pub returns-clause-leaves : goal.returns-clause-leaves
returns-clause-leaves g c s disks first last i slot is stands told =
    let sound = g.met.D.Depot.sound in
    let eight : length c.to_be_bytes.result ≡ 8 = search rules in
    let says : from_be_bytes w64 c.to_be_bytes.result ≡ c.args.word =
    ap (λ (bs : List ℕ). from_be_bytes w64 bs) c.to_be_bytes.ensures ∙ from_be_bytes-to_be_bytes_8 c.args.word c.ranges.word.fits in
    block_leaves_g is (sound _) (sound _) c.write.ensures.wrote.call told (stands told) (sound _) c.write-2.ensures.wrote.call (sound _) c.sync.ensures.synced.call c.in_ok-write.ensures.wrote.done c.in_ok-write-2.ensures.wrote.done c.in_ok-sync.ensures.synced.done
    (sound _) c.write-3.ensures.wrote.call eight says

pub returns-clause-linked : goal.returns-clause-linked
returns-clause-linked g c =
    let sound = g.met.D.Depot.sound in
    let eight : length c.to_be_bytes.result ≡ 8 = search rules in
    let says : from_be_bytes w64 c.to_be_bytes.result ≡ c.args.word =
    ap (λ (bs : List ℕ). from_be_bytes w64 bs) c.to_be_bytes.ensures ∙ from_be_bytes-to_be_bytes_8 c.args.word c.ranges.word.fits in
    on_ok_weaker c.write-3.result
    (λ (done : HasWritten c.args.file.0 c.args.at c.to_be_bytes.result (g.D.Outside.world c.sync.new.depot) (g.D.Outside.world c.write-3.new.depot)) (s : Shape) (disks : List (List ℕ)) (first : ℕ) (last : ℕ) (i : ℕ) (slot : ℕ)
    (is : IsAddingBlock s i last slot c.args.spot c.args.finish c.args.end c.args.at c.args.word c.args.file.0 (g.D.Outside.world c.args.depot.now)) (stands : IsStanding s disks first last c.args.file.0 (g.D.Outside.world c.args.depot.now)) (told : IsTrue (g.D.Outside.world c.args.depot.now).tells). (
      block_there is (sound _) (sound _) c.write.ensures.wrote.call told (stands told) (sound _) c.write-2.ensures.wrote.call (sound _) c.sync.ensures.synced.call c.in_ok-write.ensures.wrote.done c.in_ok-write-2.ensures.wrote.done c.in_ok-sync.ensures.synced.done
          (sound _) c.write-3.ensures.wrote.call eight says done,
      block_is_bare is (sound _) (sound _) c.write.ensures.wrote.call told (stands told) (sound _) c.write-2.ensures.wrote.call (sound _) c.sync.ensures.synced.call c.in_ok-write.ensures.wrote.done c.in_ok-write-2.ensures.wrote.done c.in_ok-sync.ensures.synced.done
          (sound _) c.write-3.ensures.wrote.call eight says done,
    ))
    c.write-3.ensures.wrote.done

pub returns-clause-puts : goal.returns-clause-puts
returns-clause-puts g c = puts_on (puts_on (puts_on c.in_ok-write.ensures.wrote.puts c.in_ok-write-2.ensures.wrote.puts) c.in_ok-sync.ensures.synced.puts) c.write-3.ensures.wrote.puts

pub returns-in_err-write-clause-others : goal.returns-in_err-write-clause-others
returns-in_err-write-clause-others g c s disks first last i slot is stands told =
    let sound = g.met.D.Depot.sound in
    block_others_b is (sound _) (sound _) c.write.ensures.wrote.call told (stands told)

pub returns-in_err-write-2-clause-others : goal.returns-in_err-write-2-clause-others
returns-in_err-write-2-clause-others g c s disks first last i slot is stands told =
    let sound = g.met.D.Depot.sound in
    block_others_d is (sound _) (sound _) c.write.ensures.wrote.call told (stands told) (sound _) c.write-2.ensures.wrote.call

pub returns-in_err-sync-clause-others : goal.returns-in_err-sync-clause-others
returns-in_err-sync-clause-others g c s disks first last i slot is stands told =
    let sound = g.met.D.Depot.sound in
    block_others_e is (sound _) (sound _) c.write.ensures.wrote.call told (stands told) (sound _) c.write-2.ensures.wrote.call (sound _) c.sync.ensures.synced.call

pub returns-clause-others : goal.returns-clause-others
returns-clause-others g c s disks first last i slot is stands told =
    let sound = g.met.D.Depot.sound in
    let eight : length c.to_be_bytes.result ≡ 8 = search rules in
    let says : from_be_bytes w64 c.to_be_bytes.result ≡ c.args.word =
    ap (λ (bs : List ℕ). from_be_bytes w64 bs) c.to_be_bytes.ensures ∙ from_be_bytes-to_be_bytes_8 c.args.word c.ranges.word.fits in
    block_others_g is (sound _) (sound _) c.write.ensures.wrote.call told (stands told) (sound _) c.write-2.ensures.wrote.call (sound _) c.sync.ensures.synced.call c.in_ok-write.ensures.wrote.done c.in_ok-write-2.ensures.wrote.done c.in_ok-sync.ensures.synced.done
    (sound _) c.write-3.ensures.wrote.call eight says

pub returns-in_err-write-clause-ends : goal.returns-in_err-write-clause-ends
returns-in_err-write-clause-ends g c s disks first last i slot is stands told =
    let sound = g.met.D.Depot.sound in
    block_ends_b is (sound _) (sound _) c.write.ensures.wrote.call told (stands told)

pub returns-in_err-write-2-clause-ends : goal.returns-in_err-write-2-clause-ends
returns-in_err-write-2-clause-ends g c s disks first last i slot is stands told =
    let sound = g.met.D.Depot.sound in
    block_ends_d is (sound _) (sound _) c.write.ensures.wrote.call told (stands told) (sound _) c.write-2.ensures.wrote.call

pub returns-in_err-sync-clause-ends : goal.returns-in_err-sync-clause-ends
returns-in_err-sync-clause-ends g c s disks first last i slot is stands told =
    let sound = g.met.D.Depot.sound in
    block_ends_e is (sound _) (sound _) c.write.ensures.wrote.call told (stands told) (sound _) c.write-2.ensures.wrote.call (sound _) c.sync.ensures.synced.call

pub returns-clause-ends : goal.returns-clause-ends
returns-clause-ends g c s disks first last i slot is stands told =
    let sound = g.met.D.Depot.sound in
    let eight : length c.to_be_bytes.result ≡ 8 = search rules in
    let says : from_be_bytes w64 c.to_be_bytes.result ≡ c.args.word =
    ap (λ (bs : List ℕ). from_be_bytes w64 bs) c.to_be_bytes.ensures ∙ from_be_bytes-to_be_bytes_8 c.args.word c.ranges.word.fits in
    block_ends_g is (sound _) (sound _) c.write.ensures.wrote.call told (stands told) (sound _) c.write-2.ensures.wrote.call (sound _) c.sync.ensures.synced.call c.in_ok-write.ensures.wrote.done c.in_ok-write-2.ensures.wrote.done c.in_ok-sync.ensures.synced.done
    (sound _) c.write-3.ensures.wrote.call eight says

pub returns-in_err-write-clause-bare : goal.returns-in_err-write-clause-bare
returns-in_err-write-clause-bare g c s disks first last i slot is stands told =
    let sound = g.met.D.Depot.sound in
    block_bare_b is (sound _) (sound _) c.write.ensures.wrote.call told (stands told)

pub returns-in_err-write-2-clause-bare : goal.returns-in_err-write-2-clause-bare
returns-in_err-write-2-clause-bare g c s disks first last i slot is stands told =
    let sound = g.met.D.Depot.sound in
    block_bare_d is (sound _) (sound _) c.write.ensures.wrote.call told (stands told) (sound _) c.write-2.ensures.wrote.call

pub returns-in_err-sync-clause-bare : goal.returns-in_err-sync-clause-bare
returns-in_err-sync-clause-bare g c s disks first last i slot is stands told =
    let sound = g.met.D.Depot.sound in
    block_bare_e is (sound _) (sound _) c.write.ensures.wrote.call told (stands told) (sound _) c.write-2.ensures.wrote.call
    (sound _) c.sync.ensures.synced.call

pub returns-clause-bare : goal.returns-clause-bare
returns-clause-bare g c s disks first last i slot is stands told =
    let sound = g.met.D.Depot.sound in
    let eight : length c.to_be_bytes.result ≡ 8 = search rules in
    let says : from_be_bytes w64 c.to_be_bytes.result ≡ c.args.word =
    ap (λ (bs : List ℕ). from_be_bytes w64 bs) c.to_be_bytes.ensures ∙ from_be_bytes-to_be_bytes_8 c.args.word c.ranges.word.fits in
    block_bare_g is (sound _) (sound _) c.write.ensures.wrote.call told (stands told) (sound _) c.write-2.ensures.wrote.call
    (sound _) c.sync.ensures.synced.call c.in_ok-write.ensures.wrote.done c.in_ok-write-2.ensures.wrote.done c.in_ok-sync.ensures.synced.done
    (sound _) c.write-3.ensures.wrote.call eight says

pub returns-in_err-write-clause-rows : goal.returns-in_err-write-clause-rows
returns-in_err-write-clause-rows g c s disks first last i slot is stands told =
    let sound = g.met.D.Depot.sound in
    let same = block_words_b is (sound _) (sound _) c.write.ensures.wrote.call told (stands told) in
    (same.0, λ m inside differ. same.1 m inside)

pub returns-in_err-write-2-clause-rows : goal.returns-in_err-write-2-clause-rows
returns-in_err-write-2-clause-rows g c s disks first last i slot is stands told =
    let sound = g.met.D.Depot.sound in
    let same = block_words_d is (sound _) (sound _) c.write.ensures.wrote.call told (stands told) (sound _) c.write-2.ensures.wrote.call in
    (same.0, λ m inside differ. same.1 m inside)

pub returns-in_err-sync-clause-rows : goal.returns-in_err-sync-clause-rows
returns-in_err-sync-clause-rows g c s disks first last i slot is stands told =
    let sound = g.met.D.Depot.sound in
    let same = block_words_e is (sound _) (sound _) c.write.ensures.wrote.call told (stands told) (sound _) c.write-2.ensures.wrote.call
    (sound _) c.sync.ensures.synced.call in
    (same.0, λ m inside differ. same.1 m inside)

pub returns-clause-rows : goal.returns-clause-rows
returns-clause-rows g c s disks first last i slot is stands told =
    let sound = g.met.D.Depot.sound in
    let eight : length c.to_be_bytes.result ≡ 8 = search rules in
    let says : from_be_bytes w64 c.to_be_bytes.result ≡ c.args.word =
    ap (λ (bs : List ℕ). from_be_bytes w64 bs) c.to_be_bytes.ensures ∙ from_be_bytes-to_be_bytes_8 c.args.word c.ranges.word.fits in
    block_words_g is (sound _) (sound _) c.write.ensures.wrote.call told (stands told) (sound _) c.write-2.ensures.wrote.call
    (sound _) c.sync.ensures.synced.call c.in_ok-write.ensures.wrote.done c.in_ok-write-2.ensures.wrote.done c.in_ok-sync.ensures.synced.done
    (sound _) c.write-3.ensures.wrote.call eight says

pub returns-in_err-write-clause-either : goal.returns-in_err-write-clause-either
returns-in_err-write-clause-either g c s disks first last i slot is stands told =
    let sound = g.met.D.Depot.sound in
    inl (block_word_b is (sound _) (sound _) c.write.ensures.wrote.call told (stands told))

pub returns-in_err-write-2-clause-either : goal.returns-in_err-write-2-clause-either
returns-in_err-write-2-clause-either g c s disks first last i slot is stands told =
    let sound = g.met.D.Depot.sound in
    inl (block_word_d is (sound _) (sound _) c.write.ensures.wrote.call told (stands told) (sound _) c.write-2.ensures.wrote.call)

pub returns-in_err-sync-clause-either : goal.returns-in_err-sync-clause-either
returns-in_err-sync-clause-either g c s disks first last i slot is stands told =
    let sound = g.met.D.Depot.sound in
    inl (block_word_e is (sound _) (sound _) c.write.ensures.wrote.call told (stands told) (sound _) c.write-2.ensures.wrote.call
    (sound _) c.sync.ensures.synced.call)

pub returns-clause-either : goal.returns-clause-either
returns-clause-either g c s disks first last i slot is stands told =
    let sound = g.met.D.Depot.sound in
    let eight : length c.to_be_bytes.result ≡ 8 = search rules in
    let says : from_be_bytes w64 c.to_be_bytes.result ≡ c.args.word =
    ap (λ (bs : List ℕ). from_be_bytes w64 bs) c.to_be_bytes.ensures ∙ from_be_bytes-to_be_bytes_8 c.args.word c.ranges.word.fits in
    block_either is (sound _) (sound _) c.write.ensures.wrote.call told (stands told) (sound _) c.write-2.ensures.wrote.call
    (sound _) c.sync.ensures.synced.call c.in_ok-write.ensures.wrote.done c.in_ok-write-2.ensures.wrote.done c.in_ok-sync.ensures.synced.done
    (sound _) c.write-3.ensures.wrote.call eight says

pub returns-in_err-write-clause-frame : goal.returns-in_err-write-clause-frame
returns-in_err-write-clause-frame g c told x out = wrote_beside c.in_err-write.ensures.wrote.call refl told x (λ is. out (inl is))

pub returns-in_err-write-2-clause-frame : goal.returns-in_err-write-2-clause-frame
returns-in_err-write-2-clause-frame g c told x out =
    wrote_beside c.in_err-write-2.ensures.wrote.call refl (told_on c.in_ok-write.ensures.wrote.call.run told) x (λ is. out (inr (inl is)))
    ∙ wrote_beside c.in_ok-write.ensures.wrote.call refl told x (λ is. out (inl is))

pub returns-in_err-sync-clause-frame : goal.returns-in_err-sync-clause-frame
returns-in_err-sync-clause-frame g c told x out =
    synced_beside c.in_err-sync.ensures.synced.call x
    ∙ wrote_beside c.in_ok-write-2.ensures.wrote.call refl (told_on c.in_ok-write.ensures.wrote.call.run told) x (λ is. out (inr (inl is)))
    ∙ wrote_beside c.in_ok-write.ensures.wrote.call refl told x (λ is. out (inl is))

pub returns-clause-frame : goal.returns-clause-frame
returns-clause-frame g c told x out =
    let told_b = told_on c.in_ok-write.ensures.wrote.call.run told in
    let told_d = told_on c.in_ok-write-2.ensures.wrote.call.run told_b in
    let told_e = told_on c.in_ok-sync.ensures.synced.call.run told_d in
    wrote_beside c.write-3.ensures.wrote.call (search rules) told_e x (λ is. out (inr (inr is)))
    ∙ synced_beside c.in_ok-sync.ensures.synced.call x
    ∙ wrote_beside c.in_ok-write-2.ensures.wrote.call refl told_b x (λ is. out (inr (inl is)))
    ∙ wrote_beside c.in_ok-write.ensures.wrote.call refl told x (λ is. out (inl is))
