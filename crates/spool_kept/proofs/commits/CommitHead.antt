-- What a commit finds of its draft's upload.
use Rattle.std.proofs.lemmas.Grind.{common_steps}
use Rattle.std.proofs.Common.{Result, Err, IsErrOf, refl, inl, inr, ◌↔◌, ◌⊎◌, ◌≡◌, ◌≤◌, ◌<◌, ◌&&◌, ℕ, ◌+◌, Bool, true}
use Rattle.std.proofs.Common.{false, if◌then◌else◌, List, [], ◌∷◌, Option, None, Some, length, get_or, sym, ◌∙◌, ap}
use Rattle.std.proofs.Common.{subst, arith, eqb-true}
use Rattle.spool_disk.specs.declared.disk.Disk.{Ghosts}
use Rattle.spool_journal.specs.Image.{text_page}
use Rattle.spool_drafts.specs.Drafts.{Holds, appended_count, declare_of, upload_number_of, offset_of}
use Rattle.spool_drafts.specs.declared.draft.SpoolDraft.{SpoolDraft}
use Rattle.spool_pages.specs.View.{SlotRecord}
use Rattle.upload_rules.specs.Calls.{commit_refusal, committed, committed_store, declares, declares_at, dropped}
use Rattle.upload_rules.specs.Calls.{is_empty, is_idle, length_refusal, text_stays, upload_refusal}
use Rattle.upload_rules.specs.Drafts.{draft_at}
use Rattle.upload_rules.specs.Lengths.{is_length, is_new, is_too_large, known_or, longest}
use Rattle.upload_rules.specs.Store.{Upload, Store, find, is_complete, patched_store, upload_of, accepted_count}
use Rattle.upload_rules.specs.World.{Patch, World, completes, reached}
use Rattle.upload_rules.specs.declared.errors.UploadError.{UploadError}
use Rattle.common.specs.declared.stop.Stop as stops
use Rattle.upload_rules.specs.declared.errors.UploadError.TheVariants.{Stop, Refused}
use Rattle.upload_rules.specs.declared.errors.UploadRefusal.{UploadRefusal}
use Rattle.upload_rules.specs.declared.errors.UploadRefusal.TheVariants.{NoSuch, Offset, TooLong, Unencodable, Full}
use Rattle.upload_rules.specs.declared.errors.UploadRefusal.TheVariants.{LengthSet}
use Rattle.upload_rules.proofs.Refusals.{no_such_upload, other_offset}
use Rattle.upload_rules.proofs.Same.{same_upload}
use Rattle.spool_kept.specs.Committing.{Finds, HasOtherCount, HasSameCount, IsCommit, IsEndRefusal, IsFound}
use Rattle.spool_kept.specs.Committing.{with_length_at}
use Rattle.spool_kept.specs.Drafting.{DraftRepresents, DraftsHold, IsStillOpen, StandsFor}
use Rattle.spool_catalog.specs.Holding.{Holding, IsUsedBy}
use Rattle.spool_catalog.specs.Shows.{IsRecorded}
use Rattle.spool_kept.specs.declared.finding.Found.{Found}
use Rattle.spool_catalog.proofs.Answered.{no_upload}
use Rattle.spool_kept.proofs.commits.CommitRefusals.{by_length, nothing_committed, nothing_refused, refused_by_length}
use Rattle.spool_kept.proofs.commits.CommitRefusals.{store_declared}
use Rattle.std.proofs.lemmas.Option.{same_Some}
use Rattle.std.proofs.lemmas.List.{nil_from_length}

-- WHAT A PATCH BRINGS

full_of : (body : List ℕ) → 0 < length body → is_empty body ≡ false
full_of [] lt = absurd (omega (arith, lt))
full_of (b ∷ body) lt = refl

new_length : (known declare : Option ℕ) → is_new known declare ≡ true → (known ≡ None) × (is_new known declare ≡ true)
new_length None declare new = (refl, new)
new_length (Some n) declare new = absurd cc

all_there : (declared : Option ℕ) (offset reached : ℕ) → is_length declared offset ≡ true → reached ≤ longest declared
    → offset ≤ reached → reached ≡ offset
all_there None offset reached is within from = absurd cc
all_there (Some n) offset reached is within from = omega (arith, eqb-true offset n is, within, from)

if_same : (b : Bool) → (if b then false else false) ≡ false
if_same true = refl
if_same false = refl

text_changes : (m : Store) (p : Patch) → 0 < length p.body → text_stays m p ≡ false
text_changes m p some = rw (full_of p.body some) (if_same (declares m p && completes m p))

text_completes : (m : Store) (p : Patch) → declares m p ≡ true → completes m p ≡ true → text_stays m p ≡ false
text_completes m p new ends = rw (new, ends) refl

text_left : (m : Store) (p : Patch) → length p.body ≡ 0 → (declares m p ≡ true → completes m p ≡ false)
    → text_stays m p ≡ true
text_left m p none open_still = search (arith, common_steps)

idle_patch : (m : Store) (p : Patch) → declares m p ≡ false → length p.body ≡ 0 → is_idle m p ≡ true
idle_patch m p old none = rw (old, nil_from_length p.body none) refl

-- WHAT IS FOUND

-- where the text changes, the upload isn't complete
pub found_open : (slots : List (Option SlotRecord)) (o : SpoolDraft) (found : Found) (finds : IsFound slots o found)
    → found.stays ≡ false → is_length finds.same.used.declared finds.same.used.accepted ≡ false
found_open slots o found finds goes = search (arith, common_steps)

-- the draft of a number represents a patch
pub record IsOpen {D : Type 0} (sure : Bool) (disk : Ghosts D) (d : D) (h : Holding)
    (drafts : List (Option SpoolDraft)) (number : ℕ) (o : SpoolDraft) (w : World) (p : Patch) : Type 0 where
  pub represents : StandsFor sure disk d h drafts w
  pub patch : find number w.patches ≡ Some p
  pub here : draft_at drafts number ≡ Some o

pub opened : {D : Type 0} {sure : Bool} {disk : Ghosts D} {d : D} {h : Holding} {drafts : List (Option SpoolDraft)}
    (number : ℕ) {o : SpoolDraft} {w : World} {p : Patch} → StandsFor sure disk d h drafts w
    → find number w.patches ≡ Some p → Some o ≡ draft_at drafts number → IsOpen sure disk d h drafts number o w p
opened number represents patch taken = record { represents = represents; patch = patch; here = sym taken }

module _ {D : Type 0} {sure : Bool} {disk : Ghosts D} {d : D} {h : Holding} {drafts : List (Option SpoolDraft)}
    {number : ℕ} {o : SpoolDraft} {w : World} {p : Patch} (k : IsOpen sure disk d h drafts number o w p) where
  pub own_draft : DraftRepresents (sure ≡ true) w.store.indexes (disk.current d) (text_page h.layout) h.slots
      h.blocks.rows
      w.store p o
  own_draft = search (arith, common_steps)

  held : Holds w.store.indexes p o
  held = own_draft.holds

  -- the upload of a slot's record
  recorded : (slot : ℕ) (used : SlotRecord) → get_or h.slots slot None ≡ Some used
      → IsRecorded w.store used (k.represents.stored.view.texts slot)
  recorded slot used there = k.represents.stored.shows.recorded slot used (cc)

  upload_there : (used : SlotRecord) (u : Upload) → used.number ≡ upload_number_of o
      → find used.number w.store.uploads ≡ Some u → upload_of w.store p.number ≡ Some u
  upload_there used u is found = ap (λ (n : ℕ). find n w.store.uploads) (sym (is ∙ held.number)) ∙ found

  reached_is : offset_of o + appended_count o ≡ reached p
  reached_is = omega (arith, held.offset, held.came)

  module _ {slot : ℕ} (same : HasSameCount h.slots o slot) where
    abbrev is : IsRecorded w.store same.used (k.represents.stored.view.texts slot)
    is = recorded slot same.used same.there

    there : upload_of w.store p.number ≡ Some is.upload
    there = upload_there same.used is.upload same.number is.there

    as_long : accepted_count is.upload ≡ accepted_count p.began
    as_long = sym is.represents.accepted ∙ same.count ∙ held.offset

    -- the length is refused by what is known of it in the record as by what is known of the upload
    length_is : length_refusal same.used.declared (declare_of o) (offset_of o + appended_count o) ≡ length_refusal
        is.upload.declared p.declare (reached p)
    length_is =
        ap (λ (k : Option ℕ). length_refusal k (declare_of o) (offset_of o + appended_count o)) is.represents.declared
        ∙ ap (λ (k : Option ℕ). length_refusal is.upload.declared k (offset_of o + appended_count o)) held.declare
        ∙ ap (length_refusal is.upload.declared p.declare) reached_is

    refused_so : (e : UploadRefusal)
        → length_refusal same.used.declared (declare_of o) (offset_of o + appended_count o) ≡ Some e
        → commit_refusal w number p ≡ Some e
    refused_so e refused = refused_by_length w number p is.upload e there as_long (sym length_is ∙ refused)

  pub head_refused : (e : UploadRefusal) → Finds h.slots o (Err e) → commit_refusal w number p ≡ Some e
  head_refused NoSuch free =
      let stored = k.represents.stored in
      no_such_upload w number p (no_upload stored.has_view stored.shows p.number
      (λ slot used. free slot (subst (IsUsedBy h.slots slot) (sym held.number) used)))
  head_refused Offset other =
      let is = recorded other.slot other.used.used other.used.there in
      other_offset w number p is.upload (upload_there other.used.used is.upload other.used.is is.there)
      (λ same. other.none other.slot (record {
        used = other.used.used;
        there = other.used.there;
        number = other.used.is;
        count = is.represents.accepted ∙ same ∙ sym held.offset;
      }))
  head_refused TooLong other = refused_so other.same TooLong other.refused
  head_refused LengthSet other = refused_so other.same LengthSet other.refused
  head_refused e found = absurd found

  module _ {found : Found} (finds : IsFound h.slots o found) where
    abbrev u : Upload
    u = (is finds.same).upload

    here_is : upload_of w.store p.number ≡ Some u
    here_is = there finds.same

    allows : upload_refusal p (upload_of w.store p.number) ≡ None
    allows = grind (arith, common_steps, here_is, by_length, as_long, length_is)

    declares_is : declares w.store p ≡ found.declares
    declares_is = ap (declares_at p) here_is ∙ sym (finds.declares
        ∙ ap (λ (k : Option ℕ). is_new k (declare_of o)) (is finds.same).represents.declared
        ∙ ap (is_new u.declared) held.declare)

    declared_is : found.declared ≡ known_or u.declared p.declare
    declared_is = finds.declared ∙ ap (λ (k : Option ℕ). known_or k (declare_of o)) (is finds.same).represents.declared
        ∙ ap (known_or u.declared) held.declare

    completes_is : completes w.store p ≡ is_length found.declared (reached p)
    completes_is = grind (arith, common_steps, here_is, declared_is)

    -- THE TEXT CHANGES

    module _ (goes : found.stays ≡ false) where
      changes : text_stays w.store p ≡ false
      changes =
          grind
          (arith, common_steps, text_changes, held, all_there, reached_is, text_completes, declares_is, completes_is)

      still : IsStillOpen w.store p
      still =
          let is_record = (is finds.same).represents in
          let was = same_upload w number p u k.represents.represents.grown k.patch here_is (as_long finds.same) in (
            was.0,
            here_is ∙ ap (λ (v : Upload). Some v) was.1,
            subst (λ (v : Upload). is_complete v ≡ false) was.1
                (rw (← is_record.declared, ← is_record.accepted) (found_open h.slots o found finds goes)),
          )

      pub commits : DraftsHold h.layout h.blocks drafts → IsCommit sure disk d h drafts number o w p
      commits fits = grind (arith, common_steps, still, allows, changes)

    -- THE TEXT STAYS

    module _ (stays : found.stays ≡ true) where
      none : appended_count o ≡ 0
      none = (finds.stays stays).0

      no_body : length p.body ≡ 0
      no_body = omega (arith, held.came, none)

      stays_so : text_stays w.store p ≡ true
      stays_so = grind (arith, common_steps, text_left, no_body, completes_is, reached_is, none, declares_is)

      pub left_allowed : commit_refusal w number p ≡ None
      left_allowed = nothing_refused w number p allows stays_so

      pub left_reached : (offset : ℕ) → offset ≡ offset_of o → offset ≡ reached p
      left_reached offset e = omega (arith, e, reached_is, none)

      -- nothing is brought
      pub idle_represents : found.declares ≡ false → (h' : Holding) (drafts' : List (Option SpoolDraft))
          → StandsFor sure disk d h' drafts' (dropped w number)
          → StandsFor sure disk d h' drafts' (committed w number p)
      idle_represents old h' drafts' represents = subst (StandsFor sure disk d h' drafts')
          (sym (nothing_committed w number p (idle_patch w.store p (declares_is ∙ old) no_body))) represents

      -- a length is
      module _ (new : found.declares ≡ true) where
        length_declared : found.declared ≡ p.declare
        length_declared = grind (arith, common_steps, new_length, held)

        pub length_small : is_too_large found.declared ≡ false
        length_small = ap is_too_large length_declared ∙ held.small

        pub store_is : committed_store w.store p ≡ patched_store w.store p.number found.declared []
        store_is = grind (arith, common_steps, store_declared, declares_is, length_declared, nil_from_length, no_body)

        pub length_represents : committed w number p ≡ with_length_at (dropped w number) p.number found.declared
        length_represents = ap (λ (m : Store). record (dropped w number) { store = m }) store_is

        pub used_is : IsUsedBy h.slots found.slot p.number
        used_is = search (arith, common_steps)

-- WHATEVER THE DISK GAVE

-- it is refused so exactly where the draft's upload is gone
abbrev pub IsGoneFor : {T : Type 0} → List (Option SlotRecord) → SpoolDraft → Result T UploadError → Type 0
IsGoneFor slots o result = IsErrOf result (Refused NoSuch) ↔ ((s : ℕ) → IsUsedBy slots s (upload_number_of o) → ⊥)

-- and so exactly where that has another count
abbrev pub IsOtherFor : {T : Type 0} → List (Option SlotRecord) → SpoolDraft → Result T UploadError → Type 0
IsOtherFor slots o result = IsErrOf result (Refused Offset) ↔ HasOtherCount slots o

abbrev pub IsExactFor : {T : Type 0} → List (Option SlotRecord) → SpoolDraft → Result T UploadError → Type 0
IsExactFor slots o result = IsGoneFor slots o result × IsOtherFor slots o result

-- with the same count it is refused with neither
same_exactly : {T : Type 0} (slots : List (Option SlotRecord)) (o : SpoolDraft) (slot : ℕ)
    (result : Result T UploadError)
    → HasSameCount slots o slot → (IsErrOf result (Refused NoSuch) → ⊥) → (IsErrOf result (Refused Offset) → ⊥)
    → IsExactFor slots o result
same_exactly slots o slot result has not_gone not_other = (
  (
    λ refused. absurd (not_gone refused),
    λ gone. absurd (gone slot (record { used = has.used; there = has.there; is = has.number })),
  ),
  (λ refused. absurd (not_other refused), λ other. absurd (other.none slot has)),
)

not_at_end : (e : UploadRefusal) → IsEndRefusal e → (e ≡ Unencodable → ⊥) → (e ≡ TooLong → ⊥) → (e ≡ Full → ⊥) → ⊥
not_at_end e (inl (inl is)) unencodable long full = unencodable is
not_at_end e (inl (inr is)) unencodable long full = long is
not_at_end e (inr is) unencodable long full = full is

done_exactly : {T : Type 0} (slots : List (Option SlotRecord)) (o : SpoolDraft) (slot : ℕ)
    (result : Result T UploadError) → HasSameCount slots o slot
    → ((e : UploadRefusal) → IsErrOf result (Refused e) → IsEndRefusal e) → IsExactFor slots o result
done_exactly slots o slot result has late = same_exactly slots o slot result has
    (λ refused. not_at_end NoSuch (late NoSuch refused) (λ e. cc) (λ e. cc) (λ e. cc))
    (λ refused. not_at_end Offset (late Offset refused) (λ e. cc) (λ e. cc) (λ e. cc))

refused_exactly : {T : Type 0} (slots : List (Option SlotRecord)) (o : SpoolDraft) (e : UploadRefusal)
    → Finds slots o (Err e) → IsExactFor {T = T} slots o (Err (Refused e))
refused_exactly slots o NoSuch free =
    ((λ refused. free, λ gone. refl), (λ refused. absurd cc, λ other. absurd (free other.slot other.used)))
refused_exactly slots o Offset other =
    ((λ refused. absurd cc, λ gone. absurd (gone other.slot other.used)), (λ refused. other, λ there. refl))
refused_exactly slots o TooLong other =
    same_exactly slots o other.slot (Err (Refused TooLong)) other.same (λ e. cc) (λ e. cc)
refused_exactly slots o LengthSet other =
    same_exactly slots o other.slot (Err (Refused LengthSet)) other.same (λ e. cc) (λ e. cc)
refused_exactly slots o e found = absurd found

-- a stop is no refusal
pub stop_refuses_not : {T : Type 0} (result : Result T UploadError) (stop : stops.Stop) → result ≡ Err (Stop stop)
    → (e : UploadRefusal) → IsErrOf result (Refused e) → IsEndRefusal e
stop_refuses_not result stop is e refused = absurd cc

-- the draft that was taken is the one of its number
module _ {T : Type 0} {slots : List (Option SlotRecord)} {o o' : SpoolDraft} {there : Option SpoolDraft}
    (taken : Some o ≡ there) (here : there ≡ Some o') where
  pub done_for : {slot : ℕ} (result : Result T UploadError) → HasSameCount slots o slot
      → ((e : UploadRefusal) → IsErrOf result (Refused e) → IsEndRefusal e) → IsExactFor slots o' result
  done_for {slot = slot} result has late = subst (λ (d : SpoolDraft). IsExactFor slots d result)
      (same_Some o o' (taken ∙ here)) (done_exactly slots o slot result has late)

  pub refused_for : (e : UploadRefusal) → Finds slots o (Err e) → IsExactFor {T = T} slots o' (Err (Refused e))
  refused_for e finds = subst (λ (d : SpoolDraft). IsExactFor {T = T} slots d (Err (Refused e)))
      (same_Some o o' (taken ∙ here)) (refused_exactly slots o e finds)
