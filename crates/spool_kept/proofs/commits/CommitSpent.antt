-- A commit's draft is spent: what the disk and the catalog represent then.
use Rattle.std.proofs.lemmas.Grind.{common_steps}
use Rattle.std.proofs.Common.{Err, ◌≡◌, ◌≢◌, ◌⊎◌, Bool, true, false, ℕ, ◌*◌, ◌<◌, ◌≤◌, List, []}
use Rattle.std.proofs.Common.{Option, None, Some, length, get_or, set, refl, sym, ◌∙◌, ap, subst, arith}
use Rattle.spool_journal.specs.declared.TheConstants.{PAGE}
use Rattle.spool_blocks.specs.Blocks.{Held}
use Rattle.spool_disk.specs.declared.disk.Disk.{Ghosts}
use Rattle.spool_disk.specs.Views.{Lasts}
use Rattle.spool_journal.specs.Image.{journal_pages, text_page}
use Rattle.spool_drafts.specs.Drafts.{IsTailPlaced, list_of, tail_of}
use Rattle.spool_drafts.specs.Effect.{Effect, OnlyWrites}
use Rattle.spool_drafts.specs.declared.draft.SpoolDraft.{SpoolDraft}
use Rattle.spool_drafts.proofs.Stays.{has_same}
use Rattle.spool_pages.specs.View.{SlotRecord}
use Rattle.spool_texts.specs.Drafts.{GivesBack, IsReserved}
use Rattle.upload_rules.specs.Answers.{Answers, IsLate}
use Rattle.upload_rules.specs.Calls.{commit_outcome, commit_refusal, committed, committed_store, dropped, text_stays}
use Rattle.upload_rules.specs.Drafts.{DraftOf, draft_at}
use Rattle.upload_rules.specs.Grown.{IsGrown}
use Rattle.upload_rules.specs.Store.{Store, find, is_complete, patched, patched_at, patched_store, replaced}
use Rattle.upload_rules.specs.Store.{with_length, without}
use Rattle.upload_rules.specs.World.{Patch, World}
use Rattle.upload_rules.specs.declared.errors.UploadError.{UploadError}
use Rattle.upload_rules.specs.declared.errors.UploadError.TheVariants.{Stop, Refused}
use Rattle.common.specs.declared.stop.Stop as stops
use Rattle.common.specs.declared.stop.Stop.TheVariants.{NoMemory, DiskFault}
use Rattle.upload_rules.specs.declared.errors.UploadRefusal.{UploadRefusal}
use Rattle.upload_rules.proofs.Growing.{grown_dropped, grown_put}
use Rattle.spool_kept.specs.Committing.{IsCommit, with_length_at}
use Rattle.spool_kept.specs.Drafting.{DraftRepresents, DraftsRepresent, OnlyReserves, StandsFor}
use Rattle.spool_catalog.specs.Longer.{HandsOn, HasLonger, longer_record}
use Rattle.spool_kept.specs.Extending.{IsAppend}
use Rattle.spool_catalog.specs.Holding.{Holding}
use Rattle.spool_catalog.specs.Shows.{ImageShows}
use Rattle.spool_kept.specs.Stored.{ShowsEither, Stored}
use Rattle.spool_catalog.specs.declared.longer.Longer.{Longer}
use Rattle.spool_kept.proofs.commits.CommitRefusals as rules
use Rattle.spool_kept.proofs.drafts.DraftLonger.{WentOn, held_both, other_represents, put_on}
use Rattle.spool_kept.proofs.drafts.DraftSpent.{all_given, all_handed, open_before, other_upload, owned_declared}
use Rattle.spool_kept.proofs.drafts.DraftSpent.{rows_handed, represents_spent, others_longer}
use Rattle.spool_kept.proofs.drafts.Drafted.{stored_on, reserves_only}
use Rattle.spool_kept.proofs.slots.SlotChange.{owned_still}

-- THE STORES THAT A CRASH MAY LEAVE

pub outcome_is : (w : World) (d : ℕ) (p : Patch) → commit_refusal w d p ≡ None → (m : Store)
    → committed_store w.store p ≡ m → commit_outcome w d p ≡ m
outcome_is w d p allowed m is = cc

-- a call that leaves the old store, and after it one that leaves the old or the new one
pub crash_then : {D : Type 0} {disk : Ghosts D} {d d' d'' : D} {n n' : ℕ} (w : World) (number : ℕ) (p : Patch)
    → commit_refusal w number p ≡ None → text_stays w.store p ≡ false
    → Lasts disk d d' (λ image. ImageShows n image w.store) → n' ≡ n
    → Lasts disk d' d'' (ShowsEither n' w.store (patched_store w.store p.number p.declare p.body))
    → Lasts disk d d'' (ShowsEither n w.store (commit_outcome w number p))
crash_then {disk = disk} {d = d} {d' = d'} {d'' = d''} {n = n} w number p allowed changes lasts size next = search
    (arith, common_steps)

-- THE TEXT CHANGES

-- THE ANSWER

-- the same refusal of another call, which leaves something else
pub also_refused : {T U : Type 0} (refusal : Option UploadRefusal) (e : UploadError) (done : T → Type 0)
    (done' : U → Type 0) (X Y : Type 0) → Answers {T = T} refusal (Err e) done X → Y
    → Answers {T = U} refusal (Err e) done' Y
also_refused refusal (Stop NoMemory) done done' X Y is y = (is.0, y)
also_refused refusal (Stop DiskFault) done done' X Y is y = is
also_refused refusal (Refused f) done done' X Y is y = (is.0, y)

-- a call stopped that the rules don't refuse
pub stopped : {T : Type 0} (refusal : Option UploadRefusal) (stop : stops.Stop) (done : T → Type 0) (same : Type 0)
    → refusal ≡ None → (stop ≡ NoMemory → same) → Answers refusal (Err (Stop stop)) done same
stopped refusal NoMemory done same none unmade = (subst IsLate (sym none) tt, unmade refl)
stopped refusal DiskFault done same none unmade = subst IsLate (sym none) tt

-- WHAT IT REPRESENTS

pub on_disk : {D : Type 0} {sure : Bool} (disk : Ghosts D) (d d' : D) (h : Holding) (drafts : List (Option SpoolDraft))
    (w : World) → d' ≡ d → StandsFor sure disk d h drafts w → StandsFor sure disk d' h drafts w
on_disk {sure = sure} disk d d' h drafts w same represents = subst (λ e. StandsFor sure disk e h drafts w) (sym same)
    represents

module _ {D : Type 0} {sure : Bool} {disk : Ghosts D} {d d' : D} {h h' : Holding} (only : OnlyReserves h h')
    {drafts : List (Option SpoolDraft)} {number : ℕ} {o : SpoolDraft} (o' : SpoolDraft) {w : World} {p : Patch}
    (is : IsCommit sure disk d h drafts number o w p)
    (effect : Effect disk (journal_pages h.layout) (list_of o) (list_of o') d d' h.blocks h'.blocks)
    (reserved : IsReserved h'.blocks (list_of o')) (placed : IsTailPlaced h.layout o') where
  abbrev on : WentOn h.blocks h'.blocks drafts number o o' (set drafts number (Some o'))
  on = put_on number o' is.here effect.grasp

  -- the other drafts after the call
  others : (e : ℕ) → number ≢ e → (r : Patch) (a : SpoolDraft) → draft_at drafts e ≡ Some a
      → DraftRepresents (sure ≡ true) w.store.indexes (disk.current d)
      (text_page h.layout) h.slots h.blocks.rows w.store r a
      → DraftRepresents (sure ≡ true) w.store.indexes (disk.current d')
      (text_page h.layout) h.slots h'.blocks.rows w.store r a
  others = other_represents (disk.current d') is.represents.represents is.fits on only.rows
      (λ known. (effect.writes (is.represents.stored.honest known)).writes.outside)

  -- its blocks are given back
  pub represents_dropped : {inside : Holding} {blocks : Held} → inside ≡ h'
      → GivesBack inside.blocks blocks (list_of o')
      → Stored sure disk d' h' w.store
      → StandsFor sure disk d' (record inside { blocks = blocks }) (set drafts number None) (dropped w number)
  represents_dropped {inside = inside} {blocks = blocks} same given stored =
      let h'' : Holding = record inside { blocks = blocks } in
      let gives : GivesBack h'.blocks blocks (list_of o') = rw same at given in
      let here : DraftsRepresent (sure ≡ true) w.store.indexes (disk.current d') (text_page h.layout) h.slots blocks
      (dropped w number) (set drafts number None) = represents_spent (disk.current d') h.slots blocks w.store number
      is.represents.represents (λ e other r a found there s. rw gives.rows (others e other r a there s))
      (grown_dropped w is.represents.represents.grown number is.represents.represents.apart)
      (omega (arith, ap length gives.rows, ap length only.rows))
      (all_given is.fits on reserved placed is.represents.represents.all blocks gives) in
      let fields : ◌≡◌ {A = ℕ × List (Option SlotRecord)} (inside.layout, inside.slots) (h.layout, h.slots) =
      ap (λ (k : Holding). (k.layout, k.slots)) (same ∙ only.same) in
      record {
        stored = stored_on disk d' h' h'' w.store (reserves_only h' inside h'' same refl given.rows) stored;
        represents = subst (λ (k : ℕ × List (Option SlotRecord)). DraftsRepresent (sure ≡ true) w.store.indexes
            (disk.current d') (text_page k.0) k.1 blocks (dropped w number) (set drafts number None)) (sym fields) here;
      }

  brings : (0 < length p.body) ⊎ (is_complete (patched (with_length p.began is.still.0) p.declare p.body) ≡ true)
  brings = search (arith, common_steps)

  -- its blocks are its upload's
  module _ {longer : Longer} (append : IsAppend sure disk d' h' w.store p.number p.declare p.body longer (list_of o'))
      {used : SlotRecord} {d'' : D} {h'' : Holding} (is_longer : HasLonger h' used longer (list_of o') h'')
      (hands : HandsOn h'.blocks.reserved h''.blocks.reserved (list_of o'))
      (texts : sure ≡ true → (q : ℕ) → PAGE * text_page h'.layout ≤ q → disk.current d'' q ≡ disk.current d' q)
      (stored : Stored sure disk d'' h'' (patched_store w.store p.number p.declare p.body)) where
    abbrev after : Store
    after = record w.store
        { uploads = replaced p.number (patched (with_length p.began is.still.0) p.declare p.body) w.store.uploads }

    after_is : patched_store w.store p.number p.declare p.body ≡ after
    after_is = ap (patched_at w.store p.number p.declare p.body) is.still.1

    layout : h''.layout ≡ h.layout
    layout = is_longer.layout ∙ ap (λ (k : Holding). k.layout) only.same

    slots_same : h'.slots ≡ h.slots
    slots_same = ap (λ (k : Holding). k.slots) only.same

    grown : IsGrown (record w { store = after; patches = without number w.patches })
    grown = grown_put (dropped w number) (grown_dropped w is.represents.represents.grown number
        is.represents.represents.apart) p.number
        (with_length p.began is.still.0) p.declare p.body is.still.1

    put_represents : (e : ℕ) → number ≢ e → (r : Patch) (a : SpoolDraft) → find e w.patches ≡ Some r
        → draft_at drafts e ≡ Some a → DraftRepresents (sure ≡ true) w.store.indexes (disk.current d)
        (text_page h.layout)
        h.slots h.blocks.rows w.store r a → DraftRepresents (sure ≡ true) w.store.indexes (disk.current d'')
        (text_page h.layout) h''.slots h''.blocks.rows after r a
    put_represents e other r a found there s =
        let mid = others e other r a there s in
        let other_number = other_upload w is.represents.represents.grown p.number (with_length p.began is.still.0)
        is.still.1
        p.declare p.body brings e r found in
        let same : sure ≡ true → (q : ℕ) → PAGE * text_page h.layout ≤ q → disk.current d'' q ≡ disk.current d' q =
        λ known q from. texts known q (rw (← (ap (λ (k : Holding). k.layout) only.same)) at from) in
        record {
          holds = mid.holds;
          below = mid.below;
          carries = λ known still. has_same (disk.current d') (disk.current d'') (text_page h.layout) _ a.progress
              (same known) (mid.carries known (other_number still).1);
          tail = λ still.
              let away = other_number still in
              owned_still (Some (longer_record used longer)) is_longer.slots (others_longer is_longer reserved.no_owner)
              append.used away.0 (rw (← slots_same) at (mid.tail away.1));
        }

    here : DraftsRepresent (sure ≡ true) w.store.indexes (disk.current d'') (text_page h.layout) h''.slots h''.blocks
        (record w { store = after; patches = without number w.patches }) (set drafts number None)
    here =
        represents_spent (disk.current d'') h''.slots h''.blocks after number is.represents.represents put_represents
        grown
        (omega (arith, (rows_handed h' h'' used longer (list_of o') is_longer).size, ap length only.rows))
        (all_handed is.fits on reserved placed is.represents.represents.all h''.blocks hands)

    pub represents_committed : StandsFor sure disk d'' h'' (set drafts number None) (committed w number p)
    represents_committed =
        subst (λ (m : Store). StandsFor sure disk d'' h'' (set drafts number None)
        (record w { store = m; patches = without number w.patches }))
        (sym (cc (rules.store_changed w.store p is.changes))) record {
          stored = subst (Stored sure disk d'' h'') after_is stored;
          represents = rw (← layout) at here;
        }

-- ITS LENGTH ALONE

-- an upload gets its length, while all drafts stay
module _ {D : Type 0} {sure : Bool} {disk : Ghosts D} {d d' d'' : D} {h h' : Holding}
    {drafts : List (Option SpoolDraft)} {w : World} (represents : StandsFor sure disk d h drafts w) {longer : Longer}
    {used : SlotRecord} {n : ℕ} (there : get_or h.slots longer.slot None ≡ Some used) {declare : Option ℕ}
    (append : IsAppend sure disk d' h w.store n declare [] longer []) (unknown : append.upload.declared ≡ None)
    (is_longer : HasLonger h used longer [] h') (only : sure ≡ true → OnlyWrites disk (journal_pages h.layout) [] d d')
    (texts : sure ≡ true → (q : ℕ) → PAGE * text_page h.layout ≤ q → disk.current d'' q ≡ disk.current d' q)
    (stored : Stored sure disk d'' h' (patched_store w.store n declare [])) where
  abbrev named : Store
  named = record w.store { uploads = replaced n (patched append.upload declare []) w.store.uploads }

  named_is : patched_store w.store n declare [] ≡ named
  named_is = ap (patched_at w.store n declare []) append.there

  current_same : sure ≡ true → (q : ℕ) → PAGE * text_page h.layout ≤ q → disk.current d'' q ≡ disk.current d q
  current_same known q from = texts known q from ∙ (only known).writes.outside q (λ i. absurd (omega arith))

  each_named : (e : ℕ) → DraftOf
      (DraftRepresents (sure ≡ true) w.store.indexes (disk.current d'') (text_page h.layout) h'.slots h'.blocks.rows
      named)
      (find e w.patches) (draft_at drafts e)
  each_named e = held_both
      (DraftRepresents (sure ≡ true) w.store.indexes (disk.current d) (text_page h.layout) h.slots h.blocks.rows
      w.store)
      (DraftRepresents (sure ≡ true) w.store.indexes (disk.current d'') (text_page h.layout) h'.slots h'.blocks.rows
      named)
      (find e w.patches) (draft_at drafts e) (λ r a found at s.
      let before = open_before w represents.represents.grown n append.upload append.there declare [] unknown refl e r
      found in
      record {
        holds = s.holds;
        below = s.below;
        carries = λ known still. has_same (disk.current d) (disk.current d'') (text_page h.layout) _ a.progress
            (current_same known) (s.carries known (before still));
        tail = λ still. owned_declared h h' used longer r.number (tail_of a) there is_longer (s.tail (before still));
      }) (represents.represents.each e)

  pub represents_declared : StandsFor sure disk d'' h' drafts (with_length_at w n declare)
  represents_declared = grind (arith, common_steps, named_is, each_named, grown, grown_put)
