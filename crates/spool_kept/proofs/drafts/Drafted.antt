-- Open drafts, where one of them changes.
use Rattle.std.proofs.lemmas.Grind.{common_steps}
use Rattle.std.proofs.Common.{◌≡◌, ◌≢◌, Result, Ok, Err, IfOk, inl, inr, ℕ, ◌<◌, List, [], Option, None, Some}
use Rattle.std.proofs.Common.{length, get_or, set, refl, sym, ◌∙◌, ap, subst, arith, Bool, true}
use Rattle.std.proofs.lemmas.Bool.{cases_eq}
use Rattle.std.proofs.lemmas.Option.{same_Some}
use Rattle.spool_blocks.specs.Blocks.{Row, Held}
use Rattle.spool_blocks.specs.Chains.{Owns}
use Rattle.spool_disk.specs.declared.disk.Disk.{Ghosts}
use Rattle.spool_journal.specs.Image.{text_page}
use Rattle.spool_texts.specs.Drafts.{IsReserved, GivesBack}
use Rattle.spool_texts.specs.Written.{NoneOf}
use Rattle.spool_drafts.specs.Drafts.{IsTailPlaced, list_of, tail_of, Carries}
use Rattle.spool_drafts.specs.declared.draft.SpoolDraft.{SpoolDraft}
use Rattle.spool_pages.specs.View.{SlotRecord, View}
use Rattle.enc_model.specs.Indexes.{IndexSet}
use Rattle.upload_rules.specs.Calls.{dropped, first_patch}
use Rattle.upload_rules.specs.Drafts.{draft_at}
use Rattle.upload_rules.specs.Store.{Upload, Store, upload_of}
use Rattle.upload_rules.specs.declared.errors.UploadRefusal.{UploadRefusal}
use Rattle.upload_rules.specs.World.{World}
use Rattle.upload_rules.proofs.Patches.{apart_without, dropped_represents}
use Rattle.upload_rules.proofs.Growing.{grown_dropped}
use Rattle.spool_catalog.specs.Holding.{Holding}
use Rattle.spool_catalog.specs.Catalog.{HasView}
use Rattle.spool_kept.specs.Stored.{Stored}
use Rattle.spool_kept.specs.Drafting.{list_in, lists_at, DraftsHold, OnlyReserves, DraftRepresents, DraftsRepresent}
use Rattle.spool_catalog.specs.Holding.{IsOwnedBy}
use Rattle.spool_kept.specs.Drafting.{CarriesFor, StandsFor}
use Rattle.spool_kept.proofs.drafts.DraftLists.{IsSwapped, all_reserved, all_apart, in_other, unchanged_out}

-- ANOTHER DRAFT AT ONE NUMBER

pub record IsChanged (old : List (Option SpoolDraft)) (d : ℕ) (o : Option SpoolDraft)
    (new : List (Option SpoolDraft)) : Type 0 where
  pub here : draft_at new d ≡ o
  pub others : (e : ℕ) → d ≢ e → draft_at new e ≡ draft_at old e

pub changed_lists : (old new : List (Option SpoolDraft)) (d : ℕ) (o : Option SpoolDraft) → IsChanged old d o new
    → IsSwapped (lists_at old) d (list_in o) (lists_at new)
changed_lists old new d o is = record { here = ap list_in is.here; others = λ e other. ap list_in (is.others e other) }

pub changed_out : (old new : List (Option SpoolDraft)) (d : ℕ) → new ≡ set old d None → IsChanged old d None new
changed_out old new d is = record {
  here = ap (λ (xs : List (Option SpoolDraft)). draft_at xs d) is ∙ gone;
  others = search (arith, common_steps);
}
  where
    gone : draft_at (set old d None) d ≡ None
    gone = search (arith, common_steps)

pub changed_in : (old new : List (Option SpoolDraft)) (d : ℕ) (o : SpoolDraft) → d < length old
    → new ≡ set old d (Some o) → IsChanged old d (Some o) new
changed_in old new d o lt is = search (arith, common_steps)

-- the drafts fit where the changed one does
pub fit_changed : (n : ℕ) (h h' : Held) (old new : List (Option SpoolDraft)) (d : ℕ) (o : Option SpoolDraft)
    → DraftsHold n h old → IsChanged old d o new
    → IsReserved h' (list_in o) → ((e : ℕ) → d ≢ e → IsReserved h' (lists_at old e))
    → ((a : SpoolDraft) → o ≡ Some a → IsTailPlaced n a)
    → ((e : ℕ) → d ≢ e → NoneOf (list_in o) (lists_at old e)) → DraftsHold n h' new
fit_changed n h h' old new d o fit is own others placed apart = record {
  reserved = all_reserved (lists_at old) (lists_at new) d (list_in o) (changed_lists old new d o is) h' own others;
  placed = λ e a there. elim (cases_eq d e) [
    | inl same ↦ placed a (sym is.here ∙ ap (draft_at new) same ∙ there)
    | inr other ↦ fit.placed e a (sym (is.others e other) ∙ there)
  ];
  distinct = all_apart (lists_at old) (lists_at new) d (list_in o) (changed_lists old new d o is) apart fit.distinct;
}

-- THE CATALOG

pub preserves_on : (old new : Holding) (v : View) → OnlyReserves old new → HasView old v → HasView new v
preserves_on old new v same has_view =
    let rows : new.blocks.rows ≡ v.rows = same.rows ∙ has_view.rows in
    subst (λ (h : Holding). HasView h v) (sym same.same) (assumption (rows, has_view))

pub stored_on : {D : Type 0} {sure : Bool} (disk : Ghosts D) (d : D) (old new : Holding) (m : Store)
    → OnlyReserves old new → Stored sure disk d old m → Stored sure disk d new m
stored_on disk d old new m same stored = record {
  honest = stored.honest;
  view = stored.view;
  rests = stored.rests;
  has_view = preserves_on old new stored.view same stored.has_view;
  shows = stored.shows;
}

-- A DRAFT LESS

module _ (n : ℕ) (h h' : Held) (old new : List (Option SpoolDraft)) (d : ℕ) (is : new ≡ set old d None) where
  gone : IsChanged old d None new
  gone = changed_out old new d is

  pub fit_dropped : DraftsHold n h old → GivesBack h h' (lists_at old d) → DraftsHold n h' new
  fit_dropped fit gives = search (arith, common_steps)

  pub represents_drop : {sure : Type 0} (x : IndexSet) (current : ℕ
      → ℕ) (first : ℕ) (records : List (Option SlotRecord))
      (w : World) → GivesBack h h' (lists_at old d) → DraftsRepresent sure x current first records h w old
      → DraftsRepresent sure x current first records h' (dropped w d) new
  represents_drop {sure = sure} x current first records w gives represent = record {
    each = dropped_represents (DraftRepresents sure x current first records h'.rows w.store) w.patches old new
        (rw (← gives.rows) at represent.each) d represent.apart is;
    apart = apart_without d w.patches represent.apart;
    grown = grown_dropped w represent.grown d represent.apart;
    limit = represent.limit ∙ ap (λ (rows : List Row). Some (length rows)) (sym gives.rows);
    all = λ b reserved.
        let out = unchanged_out b gives reserved in
        in_other (lists_at old) (lists_at new) d [] (changed_lists old new d None gone) b
        (represent.all b (sym (gives.others b out) ∙ reserved)) out;
  }

-- nothing is given back
pub gives_nothing : (h : Held) (list : List ℕ) → list ≡ [] → GivesBack h h list
gives_nothing h list none = search (arith, common_steps)

pub reserves_only : (old inside new : Holding) → inside ≡ old → new ≡ record inside { blocks = new.blocks }
    → new.blocks.rows ≡ inside.blocks.rows → OnlyReserves old new
reserves_only old inside new is same rows = search (arith, common_steps)

pub drops : {D : Type 0} {sure : Bool} {disk : Ghosts D} {d : D} {old new : Holding}
    {drafts drafts' : List (Option SpoolDraft)} (number : ℕ) {w : World} → OnlyReserves old new
    → drafts' ≡ set drafts number None → GivesBack old.blocks new.blocks (lists_at drafts number)
    → StandsFor sure disk d old drafts w → StandsFor sure disk d new drafts' (dropped w number)
drops {sure = sure} {disk = disk} {d = d} {old = old} {new = new} {drafts = drafts} {drafts' = drafts'} number
    {w = w} same
    is gives s = record {
      stored = stored_on disk d old new w.store same s.stored;
      represents = subst (λ (h : Holding). DraftsRepresent (sure ≡ true) w.store.indexes (disk.current d)
          (text_page h.layout) h.slots new.blocks (dropped w number) drafts') (sym same.same)
          (represents_drop old.layout old.blocks new.blocks drafts drafts' number is w.store.indexes (disk.current d)
          (text_page old.layout) old.slots w gives s.represents);
    }

-- a draft was taken, and its blocks were given back
pub dropped_out : {D : Type 0} {sure : Bool} {disk : Ghosts D} {d : D} {old inside : Holding} {blocks : Held}
    {drafts drafts' : List (Option SpoolDraft)} (number : ℕ) {o : SpoolDraft} {w : World} → inside ≡ old
    → Some o ≡ draft_at drafts number → drafts' ≡ set drafts number None → GivesBack inside.blocks blocks (list_of o)
    → StandsFor sure disk d old drafts w
    → StandsFor sure disk d (record inside { blocks = blocks }) drafts' (dropped w number)
dropped_out {old =
    old} {inside = inside} {blocks = blocks} {drafts = drafts} number is there after gives = drops number (reserves_only
    old inside (record inside { blocks = blocks }) is refl gives.rows) after (rw is at (rw (ap list_in there) at gives))

-- A DRAFT MORE

-- the block at one place of the list is the upload's too
abbrev pub AllAt : List ℕ → ℕ → List ℕ → Type 0
AllAt list k some = (i : ℕ) → i < length some → (k < length list) × (get_or some i 0 ≡ get_or list k 0)

pub owned_in : (slots : List (Option SlotRecord)) (rows : List Row) (number k : ℕ) (list some : List ℕ)
    → IsOwnedBy slots rows number list → AllAt list k some → IsOwnedBy slots rows number some
owned_in slots rows number k list some is all = record {
  slot = is.slot;
  used = is.used;
  owned = λ i lt.
      let at = all i lt in
      let own = is.owned k at.0 in
      (own.0, subst (λ (b : ℕ). Owns rows b is.slot own.0) (sym at.1) own.1);
}

pub tail_owned : (slots : List (Option SlotRecord)) (rows : List Row) (number k : ℕ) (list : List ℕ)
    (r : Result SpoolDraft UploadRefusal) → IsOwnedBy slots rows number list
    → IfOk r (λ o. AllAt list k (tail_of o)) → IfOk r (λ o. IsOwnedBy slots rows number (tail_of o))
tail_owned slots rows number k list (Ok o) is all = owned_in slots rows number k list (tail_of o) is all
tail_owned slots rows number k list (Err e) is all = tt

pub carries_for : (m : Store) (number count : ℕ) (declare : Option ℕ) (current : ℕ → ℕ) (first : ℕ) (u : Upload)
    (r : Result SpoolDraft UploadRefusal) → upload_of m number ≡ Some u
    → IfOk r (λ d. Carries m.indexes current first (first_patch number count declare u) d)
    → IfOk r (CarriesFor m number count declare current first)
carries_for m number count declare current first u (Ok o) there carries = λ w found. rw (same_Some u w (cc)) at carries
carries_for m number count declare current first u (Err e) there carries = tt
