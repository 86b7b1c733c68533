-- A draft that is spent after a call on it: its blocks are given back, or its upload's.
use Rattle.std.proofs.lemmas.Grind.{common_steps}
use Rattle.std.proofs.Common.{◌≡◌, ◌≢◌, ◌⊎◌, inl, inr, ℕ, ◌/◌, ◌≤◌, ◌<◌, true, false, List, [], Option, None, Some}
use Rattle.std.proofs.Common.{length, get_or, set, refl, sym, ◌∙◌, ap, subst, arith, length-append, ◌+◌}
use Rattle.std.proofs.lemmas.Bool.{both_ways, cases_eq, cases_lt}
use Rattle.std.proofs.lemmas.List.{set-set}
use Rattle.std.proofs.lemmas.Option.{same_Some}
use Rattle.spool_journal.specs.declared.TheConstants.{PAGE}
use Rattle.enc_model.specs.Indexes.{IndexSet}
use Rattle.spool_blocks.specs.Blocks.{Row, Held}
use Rattle.spool_drafts.specs.Drafts.{IsTailPlaced, list_of}
use Rattle.spool_drafts.specs.declared.draft.SpoolDraft.{SpoolDraft}
use Rattle.spool_pages.specs.View.{SlotRecord}
use Rattle.spool_room.specs.Holdings.{IsInSome}
use Rattle.spool_texts.specs.Drafts.{GivesBack, IsReserved}
use Rattle.spool_texts.specs.Written.{NoneOf}
use Rattle.upload_rules.specs.Drafts.{draft_at}
use Rattle.upload_rules.specs.Grown.{GrewFrom, IsGrown}
use Rattle.upload_rules.specs.Lengths.{is_length}
use Rattle.upload_rules.specs.Store.{Store, Upload, find, is_complete, patched, replaced, upload_of, with_length}
use Rattle.upload_rules.specs.Store.{without, accepted_count}
use Rattle.upload_rules.specs.World.{Patch, World}
use Rattle.upload_rules.proofs.Finds.{find_replaced_other, find_replaced_same, find_without_other, find_without_same}
use Rattle.upload_rules.proofs.Patches.{apart_without}
use Rattle.upload_rules.proofs.Same.{same_upload}
use Rattle.spool_kept.specs.Drafting.{DraftRepresents, DraftsHold, DraftsRepresent, IsStillOpen, list_in, lists_at}
use Rattle.spool_catalog.specs.Holding.{IsOwnedBy}
use Rattle.spool_catalog.specs.Longer.{HandsOn, HasLonger, longer_record}
use Rattle.spool_catalog.specs.Holding.{Holding, IsUsedBy}
use Rattle.spool_catalog.specs.declared.longer.Longer.{Longer}
use Rattle.spool_catalog.proofs.slots.ChangedSlots.{one_value, slot_here}
use Rattle.spool_catalog.proofs.slots.Members.{IsOut, nothing_reserved}
use Rattle.spool_kept.proofs.drafts.DraftLists.{in_other, unchanged_out, none_in_nothing}
use Rattle.spool_kept.proofs.drafts.DraftLonger.{WentOn, all_longer, each_other, fit_longer}
use Rattle.spool_kept.proofs.drafts.Drafted.{IsChanged, changed_lists, changed_out, fit_changed, fit_dropped}
use Rattle.spool_catalog.proofs.slots.HandedOver.{others_same}
use Rattle.spool_catalog.proofs.Valid.{in_use}
use Rattle.spool_catalog.proofs.slots.SlotFits.{same_others}
use Rattle.spool_catalog.specs.Rows.{SameOthers}

-- BLOCKS

-- rows that only the listed blocks and owned ones left
pub record StaysFree (old new : List Row) (list : List ℕ) : Type 0 where
  pub size : length new ≡ length old
  pub free : (b : ℕ) → IsOut list b → get_or old b None ≡ None → get_or new b None ≡ None

pub rows_handed : (h new : Holding) (used : SlotRecord) (longer : Longer) (more : List ℕ)
    → HasLonger h used longer more new → StaysFree h.blocks.rows new.blocks.rows more
rows_handed h new used longer more is = search (arith, common_steps)

handed_preserves : (h h' : Held) (list other : List ℕ) → HandsOn h.reserved h'.reserved list
    → StaysFree h.rows h'.rows list
    → IsReserved h other → NoneOf list other → IsReserved h' other
handed_preserves h h' list other hands rows is apart = search (arith, common_steps)

module _ {n : ℕ} {h h' : Held} {old : List (Option SpoolDraft)} {d : ℕ} {o o' : SpoolDraft} (fit : DraftsHold n h old)
    (on : WentOn h h' old d o o' (set old d (Some o'))) (reserved : IsReserved h' (list_of o'))
    (placed : IsTailPlaced n o') where
  fit_mid : DraftsHold n h' (set old d (Some o'))
  fit_mid = fit_longer fit on reserved placed

  gone : set old d None ≡ set (set old d (Some o')) d None
  gone = sym (set-set old d (Some o') None)

  list_mid : lists_at (set old d (Some o')) d ≡ list_of o'
  list_mid = ap list_in on.changed.here

  mid_out : IsChanged (set old d (Some o')) d None (set old d None)
  mid_out = changed_out (set old d (Some o')) (set old d None) d gone

  pub fit_given : (h'' : Held) → GivesBack h' h'' (list_of o') → DraftsHold n h'' (set old d None)
  fit_given h'' gives = grind (arith, common_steps, fit_dropped, gone, fit_mid, list_mid)

  pub fit_handed : (h'' : Held) → HandsOn h'.reserved h''.reserved (list_of o')
      → StaysFree h'.rows h''.rows (list_of o') → DraftsHold n h'' (set old d None)
  fit_handed h'' hands rows =
      fit_changed n h' h'' (set old d (Some o')) (set old d None) d None fit_mid mid_out (nothing_reserved h'' [] refl)
      (λ e other. handed_preserves h' h'' (list_of o') (lists_at (set old d (Some o')) e) hands rows
      (fit_mid.reserved e)
      (subst (λ (xs : List ℕ). NoneOf xs (lists_at (set old d (Some o')) e)) list_mid (fit_mid.distinct d e other)))
      (λ a e. absurd cc) (λ e other. none_in_nothing [] (lists_at (set old d (Some o')) e) refl)

  module _ (all : (b : ℕ) → get_or h.reserved b false ≡ true → IsInSome (lists_at old) b) where
    -- a block that is reserved after is another draft's
    still_in : (b : ℕ) → IsOut (list_of o') b → get_or h'.reserved b false ≡ true
        → IsInSome (lists_at (set old d None)) b
    still_in b out was =
        in_other (lists_at (set old d (Some o'))) (lists_at (set old d None)) d [] (changed_lists (set old d (Some o'))
        (set old d None) d None mid_out) b (all_longer fit on all b was) (rw (← list_mid) at out)

    pub all_given : (h'' : Held) → GivesBack h' h'' (list_of o') → (b : ℕ) → get_or h''.reserved b false ≡ true
        → IsInSome (lists_at (set old d None)) b
    all_given h'' gives b is = let out = unchanged_out b gives is in still_in b out (sym (gives.others b out) ∙ is)

    pub all_handed : (h'' : Held) → HandsOn h'.reserved h''.reserved (list_of o') → (b : ℕ)
        → get_or h''.reserved b false ≡ true → IsInSome (lists_at (set old d None)) b
    all_handed h'' hands b is = grind (arith, common_steps, both_ways, still_in)

-- THE OTHER DRAFTS

pub represents_spent : {sure : Type 0} {x : IndexSet} {current : ℕ → ℕ} (current' : ℕ → ℕ) {first : ℕ}
    {records : List (Option SlotRecord)} (records' : List (Option SlotRecord)) {h : Held} (h' : Held) {w : World}
    (m : Store) {old : List (Option SpoolDraft)} (d : ℕ) → DraftsRepresent sure x current first records h w old
    → ((e : ℕ) → d ≢ e → (r : Patch) (a : SpoolDraft) → find e w.patches ≡ Some r → draft_at old e ≡ Some a
    → DraftRepresents sure x current first records h.rows w.store r a
    → DraftRepresents sure x current' first records' h'.rows m r a)
    → IsGrown (record w { store = m; patches = without d w.patches }) → length h'.rows ≡ length h.rows
    → ((b : ℕ) → get_or h'.reserved b false ≡ true → IsInSome (lists_at (set old d None)) b)
    → DraftsRepresent sure x current' first records' h' (record w { store = m; patches = without d w.patches })
    (set old d None)
represents_spent {sure = sure} {x = x} {current = current} current' {first = first} {records = records} records'
    {h = h} h'
    {w = w} m {old = old} d represent weaker grown size all =
    grind (arith, common_steps, each_other, find_without_same, find_without_other, changed_out, apart_without)

-- WHERE AN UPLOAD HAS MORE

module _ (w : World) (grown : IsGrown w) (n : ℕ) (u : Upload) (upload : upload_of w.store n ≡ Some u)
    (declare : Option ℕ) (body : List ℕ) where
  abbrev put : Store
  put = record w.store { uploads = replaced n (patched u declare body) w.store.uploads }

  -- a draft of this upload that is still open
  same_number : (r : Patch) → n ≡ r.number
      → (still : IsStillOpen (record w.store { uploads = replaced n (patched u declare body) w.store.uploads }) r)
      → patched u declare body ≡ with_length r.began still.0
  same_number r same still = grind (arith, common_steps, same_Some, find_replaced_same)

  -- and of another one, which is as it was
  other_number : (r : Patch) → n ≢ r.number
      → IsStillOpen (record w.store { uploads = replaced n (patched u declare body) w.store.uploads }) r
      → IsStillOpen w.store r
  other_number r other still = grind (arith, common_steps, find_replaced_other)

  longer_by : {v : Upload} → patched u declare body ≡ v → accepted_count u + length body ≡ accepted_count v
  longer_by is = omega (arith, length-append u.accepted body, ap (λ (z : Upload). accepted_count z) is)

  shorter : (r : Patch) → GrewFrom r (Some u) → accepted_count r.began ≤ accepted_count u
  shorter r grew = omega (arith, ap (λ (v : Upload). accepted_count v) grew.2, length-append r.began.accepted grew.1)

  -- nothing can be put after an upload that got longer or complete any more
  pub other_upload : (0 < length body) ⊎ (is_complete (patched u declare body) ≡ true) → (e : ℕ) (r : Patch)
      → find e w.patches ≡ Some r
      → IsStillOpen (record w.store { uploads = replaced n (patched u declare body) w.store.uploads }) r
      → (n ≢ r.number) × IsStillOpen w.store r
  other_upload more e r found still =
      grind (arith, common_steps, cases_eq, same_number, longer_by, shorter, both_ways, other_number)

  -- where an upload got its length alone, what is still open was so
  pub open_before : u.declared ≡ None → body ≡ [] → (e : ℕ) (r : Patch) → find e w.patches ≡ Some r
      → IsStillOpen (record w.store { uploads = replaced n (patched u declare body) w.store.uploads }) r
      → IsStillOpen w.store r
  open_before unknown none e r found still = elim (cases_eq n r.number) [
    | inl same ↦
        let is = same_number r same still in
        let there = subst (λ (k : ℕ). find k w.store.uploads ≡ Some u) same upload in
        let same_length : accepted_count u ≡ accepted_count r.began = omega (arith, longer_by is, ap length none) in
        let was = same_upload w e r u grown found there same_length in (
          was.0,
          there ∙ ap (λ (v : Upload). Some v) was.1,
          rw was.1 at (ap (λ (k : Option ℕ). is_length k (accepted_count u)) unknown),
        )
    | inr other ↦ other_number r other still
  ]

-- the other slots own what they did
pub others_longer : {h new : Holding} {used : SlotRecord} {longer : Longer} {more : List ℕ}
    → HasLonger h used longer more new → ((i : ℕ) → i < length more
    → get_or h.blocks.rows (get_or more i 0) None ≡ None)
    → SameOthers longer.slot h.blocks.rows new.blocks.rows
others_longer {h = h} {new = new} {used = used} {longer = longer} {more = more} is no_owner =
    elim (cases_lt 0 (length more)) [
      | inl some ↦ others_same h.blocks.rows longer.slot (used.text_len / PAGE) more new.blocks.rows (is.rows some)
          no_owner
      | inr none ↦ same_others longer.slot h.blocks.rows new.blocks.rows (cc (is.same (omega (arith, none))))
    ]

-- where only its record is another, an upload's blocks stay its own
pub owned_declared : (h new : Holding) (used : SlotRecord) (longer : Longer) (k : ℕ) (list : List ℕ)
    → get_or h.slots longer.slot None ≡ Some used → HasLonger h used longer [] new
    → IsOwnedBy h.slots h.blocks.rows k list → IsOwnedBy new.slots new.blocks.rows k list
owned_declared h new used longer k list there is owned = record {
  slot = owned.slot;
  used = subst (λ (xs : List (Option SlotRecord)). IsUsedBy xs owned.slot k) (sym is.slots) used_still;
  owned = λ i lt.
      let own = owned.owned i lt in
      (own.0, ap (λ (c : Held). get_or c.rows (get_or list i 0) None) (is.same refl) ∙ own.1);
}
  where
    used_still : IsUsedBy (set h.slots longer.slot (Some (longer_record used longer))) owned.slot k
    used_still = elim (cases_eq owned.slot longer.slot) [
      | inl same ↦ record {
        used = longer_record used longer;
        there = ap (λ (s : ℕ). get_or (set h.slots longer.slot (Some (longer_record used longer))) s None) same
            ∙ slot_here h.slots longer.slot (Some (longer_record used longer)) (in_use h.slots longer.slot used there);
        is = cc (one_value there (ap (λ (s : ℕ). get_or h.slots s None) (sym same) ∙ owned.used.there));
      }
      | inr other ↦ search (arith, common_steps)
    ]
