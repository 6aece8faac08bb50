-- What the core makes of what the layers below export.
use Rattle.std.proofs.Common.{◌≡◌, ◌⊎◌, inl, inr, ⊎_elim, ℕ, ◌+◌, ◌≤◌, List, [], ◌∷◌, ◌++◌, length, map, Bool, false, IsTrue, refl, sym, ap, subst, ◌∙◌, arith}
use Rattle.std.specs.Prelude.{All, Contains, ◌==◌, slice_index_or, Result, Ok, Err, IsOk, OnOk}
use Rattle.std.proofs.lemmas.Bool.{cond_both, false≢true}
use Rattle.span_algebra.specs.Timelines as timelines
use Rattle.std.proofs.lemmas.List.{map-append}
use Rattle.std.proofs.Math.ListN.{get_or-map}
use Rattle.std.proofs.lemmas.List.Elements.{All-nil, All-cons, All-append, All-contains, Contains-get_or, Contains-append_left, Contains-push, Contains-push_cases, All-weaker}
use Rattle.disk_model.specs.Files.{overlay}
use Rattle.disk_model.specs.World.{World, Runs, only_file, EachSince, EachNow, EachSinceSync, Holds, making}
use Rattle.disk_model.proofs.Leads.{spare_leads}
use Rattle.disk_model.proofs.Bytes.{length-overlay_inside}
use Rattle.disk_model.proofs.Moments.{since_on, since_over, since_spared, since_more, since_sync, now_more, now_since, now_spared}
use Rattle.span_algebra.specs.declared.lists.Run.{Run}
use Rattle.bitmap_model.specs.Bitmap.{StoredBitmap}
use Rattle.bitmap_model.specs.Granules.{is_in}
use Rattle.bitmap_model.specs.Runs.{runs_of}
use Rattle.qc_layout.specs.Records.{record_of}
use Rattle.qc_layout.specs.declared.records.State.{State}
use Rattle.qc_layout.specs.declared.records.State.TheVariants as states
use Rattle.span_algebra.specs.declared.points.Point.{Point}
use Rattle.span_algebra.specs.declared.spans.Base.{Base}
use Rattle.plain_model.specs.History.{History, Entry, Wrote, IsHistory, now, without_bytes, timeline_of, with_entry}
use Rattle.image_model.specs.Space.{IsShapedStore, Hole, is_data}
use Rattle.plain_model.specs.Records.{RecordIsTrue, StateHolds}
use Rattle.image_model.specs.Backups.{Backup, BackupState, Blank, Begun, Sealed}
use Rattle.plain_model.specs.Lawful.{IsLawfulState, IsTrueEntry, IsOfEpoch, settle, writes_of, difference}
use Rattle.bitmap_model.specs.Bitmaps.{IsShapedEntry}
use Rattle.plain_model.specs.Laws.{IsLikeDisk}
use Rattle.plain_model.proofs.Histories.{length-now}
use Rattle.plain_model.proofs.Points.{now-wrote}
use Rattle.plain_model.proofs.Rising.{history-wrote}
use Rattle.plain_model.proofs.RecordLaws.{state-more}
use Rattle.plain_model.proofs.SettleLaws.{settles}
use Rattle.core_node.specs.Files.{IsLawfulTarget}
use Rattle.image_model.specs.Images.{IsSourceOf, IsBackupOf, is_blank, state_of}
use Rattle.core_node.specs.Rest.{Directory, Files, Allows, directory_of, unused, marked, AreLawful, Mixes, IsReady, IsSafe}
use Rattle.core_node.specs.Ends.{IsOpening, OpensWithin}
use Rattle.core_layers.specs.Layers.{Facts, IsFound, KeepsOrMarks, MayClose, IsInOrder, NoneTrusted, IsMixed, WritesDisk, ClaimsNothing, IsSealedFile, CarriesWrite}
use Rattle.core_node.proofs.Rests.{ready_is_safe, mixes_keep, allows_left, allows_right, ready_more, safe_more, kept_more}

-- ---- a file is read in one way

-- ---- within a session

-- settling adds writes alone
epochs-writes : (epoch : ℕ) (disk : List ℕ) (at : ℕ) (runs : List Run) → All (IsOfEpoch epoch) (map without_bytes (writes_of disk at runs))
epochs-writes epoch disk at [] = All-nil (IsOfEpoch epoch)
epochs-writes epoch disk at (r ∷ runs) =
    cond_both (r.flags == 1) _ _ (λ es. All (IsOfEpoch epoch) (map without_bytes es))
    (λ _. All-cons (IsOfEpoch epoch) _ _ tt (epochs-writes epoch disk (at + r.length) runs)) (λ _. epochs-writes epoch disk (at + r.length) runs)

epochs-settle : (epoch : ℕ) (h : History) (disk : List ℕ) → All (IsOfEpoch epoch) (timeline_of h).entries → All (IsOfEpoch epoch) (timeline_of (settle h disk)).entries
unfolding settle
epochs-settle epoch h disk all = subst (All (IsOfEpoch epoch)) (sym (map-append without_bytes h.entries _)) (All-append (IsOfEpoch epoch) _ _ all (epochs-writes epoch disk 0 (runs_of 512 (difference (now h) disk) (record { at = 0; size = length disk }))))

start-settle : (h : History) (disk : List ℕ) → (settle h disk).start ≡ h.start
unfolding settle
start-settle h disk = refl

-- an image in order, whose bitmaps say true things where they can be trusted, is ready for a history
pub in_order_is_ready : {id : List ℕ} {d : Directory} {h : History} {disk file : List ℕ} → disk ≡ now h → length disk ≡ length h.start → All (IsOfEpoch d.epoch) (timeline_of h).entries
    → All (λ (e : StoredBitmap). IsTrue e.trusted → IsTrueEntry h e) d.entries → IsInOrder id d disk file → IsReady (d ∷ []) id h file
in_order_is_ready {id} {d} {h} {disk} {file} is long epochs truths o = record {
  opening = record { epoch = d.epoch; entries = d.entries; store = o.store; taken = 0; given = 0 };
  finds = record {
    source = subst (λ (x : List ℕ). IsSourceOf file x id d.epoch o.store) is o.source;
    room = o.room;
    lawful = record {
      shapes = subst (λ (n : ℕ). All (IsShapedEntry n) d.entries) long o.shape.shapes;
      apart = o.shape.apart;
      few = o.shape.few;
      truths = truths;
      epochs = epochs;
      store_shape = subst (λ (n : ℕ). IsShapedStore n o.store) long o.store_shape;
    };
  };
  entries_are = sym o.entries_are;
  allowed = inl refl;
}

none_true : (h : History) (d : Directory) → NoneTrusted d → All (λ (e : StoredBitmap). IsTrue e.trusted → IsTrueEntry h e) d.entries
none_true h d in_use = λ k x below trusted. absurd (in_use (slice_index_or d.entries k x) (Contains-get_or d.entries k x below) trusted)

-- what a crash within a session leaves is safe, for each history whose disks are as long and none of whose points is of a later epoch
pub mixed_is_safe : {id : List ℕ} {d : Directory} {h : History} {mixed : List (List ℕ)} {file : List ℕ} → IsHistory h → All (IsOfEpoch d.epoch) (timeline_of h).entries → Contains mixed (now h)
    → IsMixed id d mixed file → IsSafe (d ∷ []) id h mixed file
mixed_is_safe {id} {d} {h} {mixed} {file} history epochs among m =
    let long : length m.disk ≡ length h.start = All-contains (λ d. length m.disk ≡ length d) mixed (now h) m.kept.long among ∙ length-now h history.inside in
    let like : IsLikeDisk h m.disk = record { long = long; whole = (m.in_order.sectors, m.in_order.whole) } in
    let start : length m.disk ≡ length (settle h m.disk).start = long ∙ ap length (sym (start-settle h m.disk)) in
    record {
      disk = m.disk;
      like = like;
      kept = m.kept;
      ready = in_order_is_ready (sym (settles h m.disk history like).leads) start (epochs-settle d.epoch h m.disk epochs) (none_true (settle h m.disk) d m.in_use) m.in_order;
      trusted = λ e here trusted. absurd (m.in_use e (subst (λ (es : List StoredBitmap). Contains es e) m.in_order.entries_are here) trusted);
    }

-- so is an image of a session that reads give
pub reads_ready : {id : List ℕ} {d : Directory} {h : History} {file : List ℕ} → IsHistory h → All (IsOfEpoch d.epoch) (timeline_of h).entries
    → IsInOrder id d (now h) file × NoneTrusted d → IsReady (d ∷ []) id h file
reads_ready {d = d} {h = h} history epochs (o, in_use) = in_order_is_ready refl (length-now h history.inside) epochs (none_true h d in_use) o

-- ---- targets

-- a file that claims nothing is lawful for each history
pub nothing_is_lawful : {id : List ℕ} {h : History} {file : List ℕ} → ClaimsNothing file → IsLawfulTarget id h file
nothing_is_lawful {id} {h} {file} c = record {
  bytes = c.bytes;
  store = c.store;
  in_order = c.in_order;
  empty = c.empty;
  lawful = λ b long is. by_cases b is b.state refl;
}
  where
    blank_state : (state : State) (base : Base) (p : Point) → state_of state base p ≡ Blank → IsTrue (is_blank state)
    blank_state states.Blank base p is = refl
    blank_state states.Begun base p is = absurd (cc)
    blank_state states.Sealed base p is = absurd (cc)

    none_present : (b : Backup) (is : IsBackupOf file b) → IsTrue (is_blank (record_of is.bytes).state) → (n : ℕ) → is_in b.present n ≡ false
    none_present b is blank n =
        ap (λ (set : List Bool). is_in set n) is.present_is ∙ get_or-map is_data is.store.kinds n Hole ∙ c.empty is.bytes is.store n is.in_order blank

    by_cases : (b : Backup) → IsBackupOf file b → (state : BackupState) → b.state ≡ state → IsLawfulState id h b state
    by_cases b is Blank state = λ n. none_present b is (blank_state (record_of is.bytes).state (record_of is.bytes).base (record_of is.bytes).point (sym is.state_is ∙ state)) n
    by_cases b is Begun state = tt
    by_cases b is (Sealed base p) state = absurd (c.unsealed b is base p state)

-- a sealed one is so where its record is true
pub sealed_is_lawful : {id : List ℕ} {h : History} {sealed : Backup} {file : List ℕ} → RecordIsTrue h sealed → IsSealedFile sealed file → IsLawfulTarget id h file
sealed_is_lawful {id} {h} {sealed} {file} true_for s = record {
  bytes = s.bytes;
  store = s.store;
  in_order = s.in_order;
  empty = λ others other n is blank. absurd (s.not_blank others other is blank);
  lawful = λ b long is. by_cases b b.state (subst (RecordIsTrue h) (sym (s.alone b long is)) true_for);
}
  where
    by_cases : (b : Backup) (state : BackupState) → StateHolds h b state → IsLawfulState id h b state
    by_cases b Blank holds = holds
    by_cases b Begun holds = tt
    by_cases b (Sealed base p) holds = λ same. holds

-- a write brings no point
pub epochs-wrote : (epoch : ℕ) (h : History) (at : ℕ) (bytes : List ℕ) → All (IsOfEpoch epoch) (timeline_of h).entries → All (IsOfEpoch epoch) (timeline_of (with_entry h (Wrote at bytes))).entries
epochs-wrote epoch h at bytes all = subst (All (IsOfEpoch epoch)) (sym (map-append without_bytes h.entries (Wrote at bytes ∷ [])))
    (All-append (IsOfEpoch epoch) (map without_bytes h.entries) (map without_bytes (Wrote at bytes ∷ [])) all (All-cons (IsOfEpoch epoch) _ [] tt (All-nil (IsOfEpoch epoch))))

-- what a target's record claims stays lawful as the history goes on
state_goes_on : (id : List ℕ) (h : History) (entry : Entry) (b : Backup) (state : BackupState) → IsLawfulState id h b state → IsLawfulState id (with_entry h entry) b state
state_goes_on id h entry b Blank is = is
state_goes_on id h entry b Begun is = tt
state_goes_on id h entry b (Sealed base p) is = λ same. state-more h (entry ∷ []) b (Sealed base p) (is same)

pub target_goes_on : {id : List ℕ} {h : History} (entry : Entry) {c : List ℕ} → IsLawfulTarget id h c → IsLawfulTarget id (with_entry h entry) c
target_goes_on {id} {h} entry t = record { bytes = t.bytes; store = t.store; in_order = t.in_order; empty = t.empty; lawful = λ b long is. state_goes_on id h entry b b.state (t.lawful b long is) }

-- ---- a guest's write

mixed_more : {id : List ℕ} {d : Directory} {mixed : List (List ℕ)} (disk other : List ℕ) {file : List ℕ} → Contains mixed disk → length disk ≡ length other → IsMixed id d mixed file → IsMixed id d (mixed ++ other ∷ []) file
mixed_more {id} {d} {mixed} disk other {file} among long m =
    record { disk = m.disk; kept = kept_more mixed other m.disk (All-contains (λ d. length m.disk ≡ length d) mixed disk m.kept.long among ∙ long) m.kept; in_order = m.in_order; in_use = m.in_use }

module _ {source target : ℕ} {id : List ℕ} {d : Directory} {at : ℕ} {bytes left : List ℕ} {h : History} {mixed : List (List ℕ)} {L : List ℕ → List (List ℕ) → Type 0} {old mid new : World}
    (history : IsHistory h) (epochs : All (IsOfEpoch d.epoch) (timeline_of h).entries) (range : at + length bytes ≤ length h.start) (apart : source ≡ target → ⊥)
    (before : EachNow old source (IsMixed id d mixed)) (among : Contains mixed (now h)) (copied : Runs (only_file target) old mid) (wrote : Runs (only_file source) mid new)
    (put : EachSinceSync old mid target ClaimsNothing) (claims : EachNow old target (IsLawfulTarget id h)) (claimed : IsTrue new.tells → ClaimsNothing (new.seen target))
    (w : WritesDisk source id d at bytes left (now h) mixed L mid new)
    (after : L (overlay (now h) at left) (mixed ++ overlay (now h) at left ∷ []) → Holds source (λ c. IsInOrder id d (overlay (now h) at left) c × NoneTrusted d) (IsMixed id d (mixed ++ overlay (now h) at left ∷ [])) new) where
  abbrev written : History
  written = with_entry h (Wrote at left)

  disk_is : now written ≡ overlay (now h) at left
  disk_is = now-wrote h at left

  fits : at + length left ≤ length h.start
  fits = let long = w.torn.long in omega (arith, long, range)

  written_is : IsHistory written
  written_is = history-wrote h at left history fits

  long : length (now h) ≡ length (overlay (now h) at left)
  long = let same = length-now h history.inside in sym (length-overlay_inside (now h) at left (omega (arith, same, fits)))

  in_copy : EachSince mid old.now target (IsLawfulTarget id h)
  in_copy = since_more mid old.now target (λ c. IsLawfulTarget id h c ⊎ ClaimsNothing c) (IsLawfulTarget id h) (λ c either. ⊎_elim (λ (is : IsLawfulTarget id h c). is) (λ (claim : ClaimsNothing c). nothing_is_lawful claim) either)
      (since_sync (IsLawfulTarget id h) ClaimsNothing claims put)

  pub carried : {well claim : Type 0} → claim → (well → left ≡ bytes) → CarriesWrite source target id d at bytes well h mixed L claim old new
  carried claim whole = record {
    left = left;
    whole = whole;
    torn = w.torn;
    crashes = subst (λ (x : List ℕ). EachSince new old.now source (IsSafe (d ∷ []) id h (mixed ++ x ∷ []))) (sym disk_is)
        (since_more new old.now source (IsMixed id d (mixed ++ overlay (now h) at left ∷ [])) _
        (λ c m. mixed_is_safe history epochs (Contains-append_left mixed (overlay (now h) at left ∷ []) (now h) among) m)
        (since_on old.now source _ wrote
        (since_spared source _ copied apart (now_more old source (IsMixed id d mixed) _ (λ c m. mixed_more (now h) (overlay (now h) at left) among long m) before))
        w.since));
    holds_on = subst (λ (x : List ℕ). L x (mixed ++ x ∷ [])) (sym disk_is) w.after;
    safe =
        let o = after w.after in
        record {
          seen = λ told. reads_ready written_is (epochs-wrote d.epoch h at left epochs)
              (subst (λ (x : List ℕ). IsInOrder id d x (new.seen source) × NoneTrusted d) (sym disk_is) (o.seen told));
          each = subst (λ (x : List ℕ). EachNow new source (IsSafe (d ∷ []) id written (mixed ++ x ∷ []))) (sym disk_is)
              (now_more new source (IsMixed id d (mixed ++ overlay (now h) at left ∷ [])) _
              (λ c m. mixed_is_safe written_is (epochs-wrote d.epoch h at left epochs) (subst (Contains (mixed ++ overlay (now h) at left ∷ [])) (sym disk_is) (Contains-push mixed (overlay (now h) at left))) m) o.each);
        };
    history_is = written_is;
    target_crashes = since_over old.now target (IsLawfulTarget id h) wrote (λ same. apart (sym same)) copied.goes.later in_copy;
    target_claims = claim;
    target_holds = record {
      seen = λ told. nothing_is_lawful (claimed told);
      each = now_more new target (IsLawfulTarget id h) (IsLawfulTarget id written) (λ c is. target_goes_on (Wrote at left) is) (now_spared target (IsLawfulTarget id h) wrote (λ is. apart (sym is)) (now_since mid old.now target (IsLawfulTarget id h) copied.goes.later in_copy));
    };
  }

-- a flush that was answered leaves the very disk
pub flushed : {source : ℕ} {id : List ℕ} {d : Directory} {h : History} {new : World} → IsHistory h → All (IsOfEpoch d.epoch) (timeline_of h).entries
    → Holds source (λ c. IsInOrder id d (now h) c × NoneTrusted d) (IsMixed id d (now h ∷ [])) new → Holds source (IsReady (d ∷ []) id h) (IsSafe (d ∷ []) id h (now h ∷ [])) new
flushed {source} {id} {d} {h} {new} history epochs o = record {
  seen = λ told. reads_ready history epochs (o.seen told);
  each = now_more new source (IsMixed id d (now h ∷ [])) _ (λ c m. mixed_is_safe history epochs (0, omega arith, refl) m) o.each;
}

-- a seal, whatever it answered, leaves the target lawful, where the record that it makes is true
pub sealing_is_lawful : {id : List ℕ} {h : History} (target : ℕ) (sealed : Backup) {old new : World} → old.now ≤ new.now → RecordIsTrue h sealed → EachNow old target (IsLawfulTarget id h)
    → EachSinceSync old new target (λ c. ClaimsNothing c ⊎ IsSealedFile sealed c) → (IsTrue new.tells → ClaimsNothing (new.seen target) ⊎ IsSealedFile sealed (new.seen target))
    → EachSince new old.now target (IsLawfulTarget id h) × Holds target (IsLawfulTarget id h) (IsLawfulTarget id h) new
sealing_is_lawful {id} {h} target sealed {old} {new} later holds before within seen = (since, record { seen = λ told. either (new.seen target) (seen told); each = now_since new old.now target (IsLawfulTarget id h) later since })
  where
    either : (c : List ℕ) → ClaimsNothing c ⊎ IsSealedFile sealed c → IsLawfulTarget id h c
    either c (inl claim) = nothing_is_lawful claim
    either c (inr is) = sealed_is_lawful holds is

    since : EachSince new old.now target (IsLawfulTarget id h)
    since = since_more new old.now target (λ c. IsLawfulTarget id h c ⊎ (ClaimsNothing c ⊎ IsSealedFile sealed c)) (IsLawfulTarget id h)
        (λ c was. ⊎_elim (λ (is : IsLawfulTarget id h c). is) (λ (now_is : ClaimsNothing c ⊎ IsSealedFile sealed c). either c now_is) was) (since_sync (IsLawfulTarget id h) (λ c. ClaimsNothing c ⊎ IsSealedFile sealed c) before within)

pub from_ok : {T E : Type 0} (P : Type 0) (r : Result T E) → IsOk r → OnOk r P → P
from_ok P (Ok x) is has = has
from_ok P (Err e) is has = absurd (cc)

pub moved : {a b : Facts} (disk : List ℕ) (mixed : List (List ℕ)) (w : World) → a ≡ b
    → Holds a.file (λ c. IsInOrder a.id a.directory disk c × NoneTrusted a.directory) (IsMixed a.id a.directory mixed) w → Holds b.file (λ c. IsInOrder b.id b.directory disk c × NoneTrusted b.directory) (IsMixed b.id b.directory mixed) w
moved disk mixed w same holds = subst (λ (x : Facts). Holds x.file (λ c. IsInOrder x.id x.directory disk c × NoneTrusted x.directory) (IsMixed x.id x.directory mixed) w) same holds

-- ---- files that are made

-- a new target joins the backup files
pub target_joins : {allows : List Directory} (files : Files) {h : History} {disks : List (List ℕ)} {name : List ℕ} (f : ℕ) {old new : World} → AreLawful allows files h disks old → Runs (making name f) old new
    → (f ≡ files.source → ⊥) → ((g : ℕ) → Contains files.backups g → g ≡ f → ⊥) → Holds f ClaimsNothing ClaimsNothing new
    → AreLawful allows (record files { backups = files.backups ++ f ∷ [] }) h disks new
target_joins {allows} files {h} {disks} f {old} {new} lawful run other apart made = record {
  history_is = lawful.history_is;
  mixes = lawful.mixes;
  source = (spare_leads files.source _ _ run (λ is. other (sym is))).after lawful.source;
  apart = λ g named is. ⊎_elim (λ (was : Contains files.backups g). lawful.apart g was is) (λ (new_one : f ≡ g). other (new_one ∙ is)) (Contains-push_cases files.backups f g named);
  backups = λ g named. ⊎_elim
      (λ (was : Contains files.backups g). (spare_leads g _ _ run (apart g was)).after (lawful.backups g was))
      (λ (new_one : f ≡ g). subst (λ (k : ℕ). Holds k (IsLawfulTarget files.id h) (IsLawfulTarget files.id h) new) new_one
      (record { seen = λ told. nothing_is_lawful (made.seen told); each = now_more new f ClaimsNothing (IsLawfulTarget files.id h) (λ c claim. nothing_is_lawful claim) made.each }))
      (Contains-push_cases files.backups f g named);
}

-- ---- a closing

pub closing_is_safe : {id : List ℕ} {d closed : Directory} {h : History} {disks : List (List ℕ)} {file : List ℕ} → IsHistory h → All (IsOfEpoch d.epoch) (timeline_of h).entries → All (IsOfEpoch closed.epoch) (timeline_of h).entries → Mixes h disks
    → All (λ (e : StoredBitmap). IsTrue e.trusted → IsTrueEntry h e) closed.entries → IsMixed id d disks file ⊎ IsInOrder id closed (now h) file → IsSafe (d ∷ closed ∷ []) id h disks file
closing_is_safe {d = d} {closed = closed} history epochs later mixes truths (inl m) = safe_more (λ x is. allows_left (d ∷ []) (closed ∷ []) x is) (mixed_is_safe history epochs mixes.among m)
closing_is_safe {d = d} {closed = closed} {h = h} {disks = disks} history epochs later mixes truths (inr o) =
    ready_is_safe history (All-contains (IsLikeDisk h) disks (now h) mixes.alike mixes.among).whole (mixes_keep history mixes)
    (ready_more (λ x is. allows_right (d ∷ []) (closed ∷ []) x is) (in_order_is_ready refl (length-now h history.inside) later truths o))

pub closing_leads : {id : List ℕ} {d closing : Directory} {h : History} {mixed : List (List ℕ)} (f : ℕ) (old new : World) → old.now ≤ new.now → MayClose d closing h mixed
    → EachSince new old.now f (λ c. IsMixed id d mixed c ⊎ IsInOrder id closing (now h) c) → (IsTrue new.tells → IsInOrder id d (now h) (new.seen f) ⊎ IsInOrder id closing (now h) (new.seen f))
    → EachSince new old.now f (IsSafe (d ∷ closing ∷ []) id h mixed) × Holds f (IsReady (d ∷ closing ∷ []) id h) (IsSafe (d ∷ closing ∷ []) id h mixed) new
closing_leads {id} {d} {closing} {h} {mixed} f old new later may since seen =
    (each, record { seen = λ told. ready (new.seen f) (seen told); each = now_since new old.now f (IsSafe (d ∷ closing ∷ []) id h mixed) later each })
  where
    each : EachSince new old.now f (IsSafe (d ∷ closing ∷ []) id h mixed)
    each = since_more new old.now f _ (IsSafe (d ∷ closing ∷ []) id h mixed) (λ c left. closing_is_safe may.history_is may.epochs may.later may.mixes may.truths left) since

    ready : (c : List ℕ) → IsInOrder id d (now h) c ⊎ IsInOrder id closing (now h) c → IsReady (d ∷ closing ∷ []) id h c
    ready c (inl o) = ready_more (λ x is. allows_left (d ∷ []) (closing ∷ []) x is) (in_order_is_ready refl (length-now h may.history_is.inside) may.epochs (none_true h d may.none) o)
    ready c (inr o) = ready_more (λ x is. allows_right (d ∷ []) (closing ∷ []) x is) (in_order_is_ready refl (length-now h may.history_is.inside) may.later may.truths o)

pub closed_leads : {id : List ℕ} {d closing : Directory} {h : History} {mixed : List (List ℕ)} {f : ℕ} {new : World} → MayClose d closing h mixed
    → Holds f (IsInOrder id closing (now h)) (IsInOrder id closing (now h)) new → Holds f (IsReady (closing ∷ []) id h) (IsSafe (closing ∷ []) id h (now h ∷ [])) new
closed_leads {id} {d} {closing} {h} {mixed} {f} {new} may o = record {
  seen = λ told. ready (new.seen f) (o.seen told);
  each = now_more new f (IsInOrder id closing (now h)) _ (λ c is. ready_is_safe may.history_is (All-contains (IsLikeDisk h) mixed (now h) may.mixes.alike may.mixes.among).whole
      (record { long = All-cons (λ d. length (now h) ≡ length d) (now h) [] refl (All-nil (λ d. length (now h) ≡ length d)); kept = λ k below. (0, now h, omega arith, refl, refl) }) (ready c is)) o.each;
}
  where
    ready : (c : List ℕ) → IsInOrder id closing (now h) c → IsReady (closing ∷ []) id h c
    ready c is = in_order_is_ready refl (length-now h may.history_is.inside) may.later may.truths is

-- ---- an opening over bytes alone

pub only_one : {d found : Directory} → Allows (d ∷ []) found → found ≡ d
only_one (inl is) = is
only_one (inr none) = absurd none

next_epoch : (epoch : ℕ) (e : timelines.Entry) → IsOfEpoch epoch e → IsOfEpoch (epoch + 1) e
next_epoch epoch (timelines.Wrote extent) is = tt
next_epoch epoch (timelines.Reached p) is = omega (arith, is)

-- no bitmap that is marked can be trusted
unused_true : (h : History) (entries : List StoredBitmap) → All (λ (e : StoredBitmap). IsTrue e.trusted → IsTrueEntry h e) (map unused entries)
unused_true h [] = All-nil (λ (e : StoredBitmap). IsTrue e.trusted → IsTrueEntry h e)
unused_true h (e ∷ entries) = All-cons (λ (e : StoredBitmap). IsTrue e.trusted → IsTrueEntry h e) (unused e) (map unused entries) (λ trusted. absurd (false≢true trusted)) (unused_true h entries)

pub found_opens : {id : List ℕ} {d : Directory} {h : History} (f : ℕ) (old new : World) → IsHistory h → IsReady (d ∷ []) id h (old.seen f)
    → EachSinceSync old new f (λ c. IsFound id d (now h) c × KeepsOrMarks (old.seen f) d c) → IsFound id d (now h) (new.seen f)
    → KeepsOrMarks (old.seen f) d (new.seen f) → OpensWithin f d id h old new
found_opens {id} {d} {h} f old new history was since seen kept = record {
  since = record {
    moment = since.moment;
    from = since.from;
    to = since.to;
    before = since.before;
    since = since_more new since.moment f (λ c. IsFound id d (now h) c × KeepsOrMarks (old.seen f) d c) (IsOpening (old.seen f) d id h)
        (λ c is. (found c is.0, is.1.0, is.1.1)) since.since;
  };
  seen = (found (new.seen f) seen, kept.0, kept.1);
}
  where
    same : directory_of was.opening ≡ d
    same = only_one was.allowed

    epochs : All (IsOfEpoch d.epoch) (timeline_of h).entries
    epochs = subst (λ (n : ℕ). All (IsOfEpoch n) (timeline_of h).entries) (ap (λ (x : Directory). x.epoch) same) was.finds.lawful.epochs

    truths : All (λ (e : StoredBitmap). IsTrue e.trusted → IsTrueEntry h e) d.entries
    truths = subst (All (λ (e : StoredBitmap). IsTrue e.trusted → IsTrueEntry h e)) (ap (λ (x : Directory). x.entries) same) was.finds.lawful.truths

    found : (c : List ℕ) → IsFound id d (now h) c → IsReady (d ∷ marked d ∷ []) id h c
    found c (inl o) = ready_more (λ x is. allows_left (d ∷ []) (marked d ∷ []) x is) (in_order_is_ready refl (length-now h history.inside) epochs truths o)
    found c (inr o) = ready_more (λ x is. allows_right (d ∷ []) (marked d ∷ []) x is)
        (in_order_is_ready refl (length-now h history.inside) (All-weaker (IsOfEpoch d.epoch) (IsOfEpoch (d.epoch + 1)) (next_epoch d.epoch) (timeline_of h).entries epochs) (unused_true h d.entries) o)
