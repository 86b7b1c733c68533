-- A spool that represents a world, at its opening and from call to call.
use Rattle.std.proofs.Common.{◌≡◌, ◌↔◌, inl, inr, Result, Ok, Err, OnOk, IsErrOf, ℕ, ◌*◌, ◌≤◌, Bool, false, true}
use Rattle.std.proofs.Common.{List, [], Option, None, Some, length, get_or, replicate, refl, sym, ◌∙◌, ap, subst}
use Rattle.std.proofs.Common.{arith}
use Rattle.std.proofs.Math.ListN.{get_or-eq_default, length-replicate}
use Rattle.std.proofs.lemmas.Bool.{cases_lt}
use Rattle.std.proofs.lemmas.List.{get_or-replicate}
use Rattle.spool_journal.specs.declared.TheConstants.{PAGE}
use Rattle.enc_model.specs.Indexes.{IndexSet}
use Rattle.spool_blocks.specs.Blocks.{Row, Held}
use Rattle.spool_disk.specs.Disk.{Preserves}
use Rattle.spool_disk.specs.declared.disk.Disk.{Ghosts}
use Rattle.spool_drafts.specs.Drafts.{Carries, tail_of}
use Rattle.spool_drafts.specs.declared.draft.SpoolDraft.{SpoolDraft}
use Rattle.spool_drafts.proofs.Stays.{has_same}
use Rattle.spool_journal.specs.Image.{journal_pages, overlaid, text_page}
use Rattle.spool_journal.specs.Phases.{Settled}
use Rattle.spool_pages.proofs.Resting.{rests_preserve, settled_rests}
use Rattle.spool_pages.specs.View.{SlotRecord, View, IsViewOf}
use Rattle.upload_rules.proofs.Finds.{find_push_other}
use Rattle.upload_rules.proofs.Growing.{grown_created}
use Rattle.upload_rules.proofs.Patches.{draft_of, held_on}
use Rattle.upload_rules.specs.Answers.{Answers, BeginsWith}
use Rattle.upload_rules.specs.Calls.{created}
use Rattle.upload_rules.specs.Drafts.{draft_at}
use Rattle.upload_rules.specs.Store.{New, Store, Upload, created_store, find, new_upload, upload_of}
use Rattle.upload_rules.specs.World.{Patch, World, at_rest}
use Rattle.upload_rules.specs.declared.errors.UploadError.{UploadError}
use Rattle.upload_rules.specs.declared.errors.UploadError.TheVariants.{Stop, Refused}
use Rattle.common.specs.declared.stop.Stop.TheVariants.{NoMemory, DiskFault}
use Rattle.upload_rules.specs.declared.errors.UploadRefusal.{UploadRefusal}
use Rattle.spool_load.proofs.Opens.{same_function}
use Rattle.spool_kept.specs.Drafting.{DraftsRepresent, DraftRepresents, IsStillOpen, StandsFor}
use Rattle.spool_catalog.specs.Holding.{IsOwnedBy}
use Rattle.spool_catalog.specs.Holding.{Holding, IsUsedBy}
use Rattle.spool_catalog.specs.Catalog.{HasViewAlone}
use Rattle.spool_catalog.specs.Shows.{Shows}
use Rattle.spool_kept.specs.Stored.{Stored}

-- a draft of any upload
pub begun_any : (number count : ℕ) (declare : Option ℕ) (u : Option Upload)
    → BeginsWith (λ p. Unit {0}) number count declare u
begun_any number count declare None = tt
begun_any number count declare (Some u) = tt

-- A READ

module _ {D : Type 0} (disk : Ghosts D) (d d' : D) (h : Holding) (drafts : List (Option SpoolDraft)) (w : World) where
  pub represents_read : {sure : Bool} → (disk.honest d ↔ disk.honest d')
      → (disk.honest d → Preserves (disk.current d) (disk.current d') (disk.unsynced d) (disk.unsynced d'))
      → StandsFor sure disk d h drafts w → StandsFor sure disk d' h drafts w
  represents_read {sure = sure} honest has_view s = record {
    stored = record {
      honest = λ known. honest.0 (s.stored.honest known);
      view = s.stored.view;
      rests = λ known. rests_preserve (s.stored.rests known) (has_view (s.stored.honest known));
      has_view = s.stored.has_view;
      shows = s.stored.shows;
    };
    represents = record {
      each = λ k. held_on (AreAt (disk.current d)) (AreAt (disk.current d')) (find k w.patches) (draft_at drafts k)
          (λ p o there is. record {
            holds = is.holds;
            below = is.below;
            carries = λ known. subst (λ (current : ℕ → ℕ). IsStillOpen w.store p
                → Carries w.store.indexes current (text_page h.layout) p o)
                (sym (same_function _ _ (has_view (s.stored.honest known)).same)) (is.carries known);
            tail = is.tail;
          }) (s.represents.each k);
      apart = s.represents.apart;
      grown = s.represents.grown;
      limit = s.represents.limit;
      all = s.represents.all;
    };
  }
    where
      AreAt : (ℕ → ℕ) → Patch → SpoolDraft → Type 0
      AreAt current = DraftRepresents (sure ≡ true) w.store.indexes current
          (text_page h.layout) h.slots h.blocks.rows w.store

-- AN OPENED SPOOL

none_reserved : (n b : ℕ) → get_or (replicate n false) b false ≡ false
none_reserved n b = elim (cases_lt b n) [
  | inl below ↦ get_or-replicate n b false false below
  | inr from ↦ get_or-eq_default (replicate n false) false (omega (arith, length-replicate n false, from))
]

none_represents : {sure : Type 0} (x : IndexSet) (current : ℕ → ℕ) (first : ℕ) (h : Holding) (m : Store) (v : View)
    → HasViewAlone h v → Shows v m → DraftsRepresent sure x current first h.slots h.blocks (at_rest m (Some v.blocks))
    []
none_represents x current first h m v has_view shows = record {
  each = λ d. tt;
  apart = tt;
  grown = record { each = λ d p found. absurd cc };
  limit = ap Some (sym (ap length has_view.0.rows ∙ shows.valid.row_count));
  all = λ b reserved.
      let free = none_reserved v.blocks b in
      let is = sym (ap (λ bs. get_or bs b false) has_view.1) ∙ reserved in
      absurd (cc);
}

pub represents_opened : {D : Type 0} {sure : Bool} (disk : Ghosts D) (d' : D) (was : ℕ → ℕ) (h : Holding)
    (drafts : List (Option SpoolDraft)) (m : Store) (v : View) → drafts ≡ [] → (sure ≡ true → disk.honest d')
    → (sure ≡ true → IsViewOf was v) → HasViewAlone h v → Shows v m
    → (sure ≡ true → Settled (journal_pages h.layout) (overlaid was) (disk.current d') (disk.unsynced d'))
    → StandsFor sure disk d' h drafts (at_rest m (Some v.blocks))
represents_opened {sure = sure} disk d' was h drafts m v none honest is has_view shows settled = record {
  stored = record {
    honest = honest;
    view = v;
    rests = λ known. settled_rests (sym has_view.0.blocks) (settled known) (is known).encodes;
    has_view = has_view.0;
    shows = shows;
  };
  represents = subst (DraftsRepresent (sure ≡ true) m.indexes (disk.current d') (text_page h.layout) h.slots h.blocks
      (at_rest m (Some v.blocks))) (sym none)
      (none_represents m.indexes (disk.current d') (text_page h.layout) h m v has_view shows);
}

-- A NEW UPLOAD

module _ {sure : Type 0} (current current' : ℕ → ℕ) (first : ℕ) (slots slots' : List (Option SlotRecord)) (w : World)
    (new : New) (same : sure → (p : ℕ) → PAGE * first ≤ p → current' p ≡ current p)
    (used : (s n : ℕ) → IsUsedBy slots s n → IsUsedBy slots' s n) where
  draft_still : (rows : List Row) (p : Patch) (o : SpoolDraft)
      → DraftRepresents sure w.store.indexes current first slots rows
      w.store p o → DraftRepresents sure w.store.indexes current' first slots' rows (created_store w.store new) p o
  draft_still rows p o is =
      let found : upload_of (created_store w.store new) p.number ≡ upload_of w.store p.number =
      find_push_other p.number w.store.next (new_upload new) w.store.uploads (λ e. omega (arith, e, is.below)) in
      record {
        holds = is.holds;
        below = omega (arith, is.below);
        carries = λ known still. has_same current current' first _ o.progress (same known)
            (is.carries known (still.0, sym found ∙ still.1, still.2));
        tail = λ still. owned (is.tail (still.0, sym found ∙ still.1, still.2));
      }
    where
      owned : IsOwnedBy slots rows p.number (tail_of o) → IsOwnedBy slots' rows p.number (tail_of o)
      owned by = record { slot = by.slot; used = used by.slot p.number by.used; owned = by.owned }

  drafts_still : (h : Held) (drafts : List (Option SpoolDraft))
      → DraftsRepresent sure w.store.indexes current first slots h w drafts
      → DraftsRepresent sure w.store.indexes current' first slots' h (created w new) drafts
  drafts_still h drafts represent = record {
    each = λ d. held_on (DraftRepresents sure w.store.indexes current first slots h.rows w.store)
        (DraftRepresents sure w.store.indexes current' first slots' h.rows (created_store w.store new))
        (find d w.patches)
        (draft_at drafts d)
        (λ p o there. draft_still h.rows p o) (represent.each d);
    apart = represent.apart;
    grown = grown_created w represent.grown new
        (λ d p there. (draft_of (DraftRepresents sure w.store.indexes current first slots h.rows w.store) p
        (find d w.patches)
        (draft_at drafts d) there (represent.each d)).2.below);
    limit = represent.limit;
    all = represent.all;
  }

pub represents_created : {D : Type 0} {sure : Bool} (disk : Ghosts D) (d d' : D) (h h' : Holding)
    (drafts : List (Option SpoolDraft)) (w : World) (new : New) → StandsFor sure disk d h drafts w
    → h'.layout ≡ h.layout → h'.blocks ≡ h.blocks → ((s n : ℕ) → IsUsedBy h.slots s n → IsUsedBy h'.slots s n)
    → (sure ≡ true → (p : ℕ) → PAGE * text_page h.layout ≤ p → disk.current d' p ≡ disk.current d p)
    → Stored sure disk d' h' (created_store w.store new) → StandsFor sure disk d' h' drafts (created w new)
represents_created {sure = sure} disk d d' h h' drafts w new s layout blocks used texts stored = record {
  stored = stored;
  represents =
      let S : ℕ → Held → Type 0 =
      λ n held. DraftsRepresent (sure ≡ true) w.store.indexes (disk.current d') (text_page n) h'.slots held
      (created w new)
      drafts in
      subst (λ (n : ℕ). S n h'.blocks) (sym layout) (subst (S h.layout) (sym blocks)
      (drafts_still (disk.current d) (disk.current d')
      (text_page h.layout) h.slots h'.slots w new texts used h.blocks drafts
      s.represents));
}

-- nothing has changed
pub represents_same : {D : Type 0} {sure : Bool} (disk : Ghosts D) (d d' : D) (h h' : Holding)
    (drafts : List (Option SpoolDraft)) (w : World) → StandsFor sure disk d h drafts w → (d' ≡ d) × (h' ≡ h)
    → StandsFor sure disk d' h' drafts w
represents_same {D = D} {sure = sure} disk d d' h h' drafts w s same =
    subst (λ (x : D). StandsFor sure disk x h' drafts w) (sym same.0)
    (subst (λ (k : Holding). StandsFor sure disk d k drafts w) (sym same.1) s)

-- what holds of a call that succeeds, where something is known
pub on_known : {T E K : Type 0} (X : Type 0) (r : Result T E) → (K → OnOk r X) → OnOk r (K → X)
on_known X (Ok t) is = is
on_known X (Err e) is = tt

-- what was created, or nothing has changed
pub created_answers : (refusal : Option UploadRefusal) (r : Result ℕ UploadError) (next : ℕ) (Same : Type 0)
    {X Done Done' Same' : Type 0} → OnOk r X → (X → Done → Done') → (IsErrOf r (Stop NoMemory) → Same')
    → ((e : UploadRefusal) → IsErrOf r (Refused e) → Same')
    → Answers refusal r (λ n. (n ≡ next) × Done) Same → Answers refusal r (λ n. (n ≡ next) × Done') Same'
created_answers refusal (Ok n) next Same x done memory refused a = (a.0, (a.1.0, done x a.1.1))
created_answers refusal (Err (Stop NoMemory)) next Same x done memory refused a = (a.0, memory refl)
created_answers refusal (Err (Stop DiskFault)) next Same x done memory refused a = a
created_answers refusal (Err (Refused e)) next Same x done memory refused a = (a.0, refused e refl)
