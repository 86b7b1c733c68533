-- A draft that went on: its blocks and those of the others, the rule of room, and the disk.
use Rattle.std.proofs.lemmas.Grind.{common_steps}
use Rattle.std.proofs.Common.{Result, Ok, Err, OnOk, IsErrOf, ◌≡◌, ◌≢◌, inl, inr, ℕ, ◌==◌, if◌then◌else◌, Bool}
use Rattle.std.proofs.Common.{true}
use Rattle.std.proofs.Common.{false, List, Option, None, Some, length, get_or, set, refl, sym, ◌∙◌, ap, subst}
use Rattle.std.proofs.Common.{arith}
use Rattle.std.proofs.lemmas.Bool.{cases_eq, cases_Bool}
use Rattle.std.proofs.lemmas.List.{set-set}
use Rattle.enc_model.specs.Indexes.{IndexSet}
use Rattle.spool_blocks.specs.Blocks.{Row, Held}
use Rattle.spool_disk.specs.declared.disk.Disk.{Ghosts}
use Rattle.spool_journal.specs.Image.{text_page}
use Rattle.spool_texts.specs.Drafts.{IsReserved, Takes}
use Rattle.spool_texts.specs.Written.{NoneOf, SameOutside, WritesIn}
use Rattle.spool_room.specs.Holdings.{IsInSome, OwnsTexts, RuleHolds}
use Rattle.spool_room.proofs.Numbers.{rising_apart}
use Rattle.spool_room.proofs.Rule.{rule_holds}
use Rattle.spool_drafts.specs.Drafts.{Holds, Carries, IsLonger, IsTailPlaced, PreservesTail, with_piece, list_of}
use Rattle.spool_drafts.specs.Drafts.{tail_of}
use Rattle.spool_drafts.specs.Effect.{Regrasps, RunsShort}
use Rattle.spool_drafts.specs.declared.draft.SpoolDraft.{SpoolDraft}
use Rattle.spool_drafts.proofs.Stays.{has_preserved}
use Rattle.spool_pages.specs.Rests.{Unowned}
use Rattle.spool_pages.specs.View.{SlotRecord, View}
use Rattle.upload_rules.specs.Calls.{appended_at, longer_patch}
use Rattle.upload_rules.specs.Drafts.{DraftOf, draft_at}
use Rattle.upload_rules.specs.Grown.{IsGrown}
use Rattle.upload_rules.specs.Room.{wants, is_short}
use Rattle.upload_rules.specs.Store.{Store, find, replaced}
use Rattle.upload_rules.specs.World.{Patch, World, patch_text}
use Rattle.upload_rules.proofs.Finds.{find_replaced_same, find_replaced_other}
use Rattle.upload_rules.proofs.Patches.{apart_replaced}
use Rattle.spool_pages.proofs.Resting.{rests_writes}
use Rattle.upload_rules.specs.Answers.{DoesOrStops}
use Rattle.common.specs.declared.stop.Stop.{Stop}
use Rattle.common.specs.declared.stop.Stop.TheVariants as Stops
use Rattle.spool_catalog.specs.Holding.{Holding}
use Rattle.spool_kept.specs.Stored.{Stored}
use Rattle.spool_kept.specs.Changed.{slot_of}
use Rattle.spool_catalog.specs.Shows.{Shows}
use Rattle.spool_kept.specs.Drafting.{list_in, lists_at, DraftsHold, DraftRepresents, DraftsRepresent, OnlyReserves}
use Rattle.spool_catalog.specs.Holding.{IsOwnedBy}
use Rattle.spool_kept.specs.Drafting.{StandsFor}
use Rattle.spool_catalog.proofs.slots.Members.{IsOut}
use Rattle.spool_kept.proofs.drafts.DraftLists.{IsSwapped, all_reserved, all_apart, cases_in, in_other, in_own}
use Rattle.spool_kept.proofs.drafts.DraftLists.{unchanged_out, given_preserves, none_in_nothing, none_sym, out_of_more}
use Rattle.spool_kept.proofs.drafts.DraftLists.{reserved_before, taken_apart, taken_preserves}
use Rattle.spool_kept.proofs.drafts.Drafted.{IsChanged, changed_lists, fit_changed, preserves_on, changed_in}
use Rattle.spool_kept.proofs.slots.SlotsOf.{upload_slot, slots_apart, owner_upload}
use Rattle.std.proofs.lemmas.Option.{same_Some}
use Rattle.spool_catalog.proofs.Valid.{in_use}

-- A DRAFT THAT WENT ON: it took blocks, and has them beside its own, or gave all back

pub record WentOn (h h' : Held) (old : List (Option SpoolDraft)) (d : ℕ) (o o' : SpoolDraft)
    (new : List (Option SpoolDraft)) : Type 0 where
  pub here : draft_at old d ≡ Some o
  pub changed : IsChanged old d (Some o') new
  pub own : List ℕ
  pub grasp : Regrasps h h' (list_of o) (list_of o') own

-- put in its place
abbrev pub put_on : {h h' : Held} {old : List (Option SpoolDraft)} (d : ℕ) {o : SpoolDraft}
    (o' : SpoolDraft) {own : List ℕ}
    → draft_at old d ≡ Some o → Regrasps h h' (list_of o) (list_of o') own
    → WentOn h h' old d o o' (set old d (Some o'))
put_on {old = old} d {o = o} o' {own = own} here grasp = record {
  here = here;
  changed = changed_in old (set old d (Some o')) d o' (in_use old d o here) refl;
  own = own;
  grasp = grasp;
}

-- ITS BLOCKS

module _ {n : ℕ} {h h' : Held} {old new : List (Option SpoolDraft)} {d : ℕ} {o o' : SpoolDraft}
    (fit : DraftsHold n h old) (on : WentOn h h' old d o o' new) where
  own_apart : {held : Held} {own : List ℕ} → Takes h held (list_of o) own → (e : ℕ) → d ≢ e
      → NoneOf own (lists_at old e)
  own_apart takes e other =
      taken_apart (lists_at old e) takes (fit.reserved e) (rw (ap list_in on.here) at (fit.distinct d e other))

  out_here : {held : Held} {own : List ℕ} (b : ℕ) → Takes h held (list_of o) own → IsOut own b
      → IsOut (lists_at old d) b
  out_here b takes out = rw (← (ap list_in on.here)) at (out_of_more (list_of o) takes.more b (rw takes.grown at out))

  -- after some blocks were taken, whether or not they were given back
  taken_in : {held : Held} {own : List ℕ} (lists : ℕ → List ℕ) → Takes h held (list_of o) own
      → IsSwapped (lists_at old) d own lists → ((b : ℕ) → get_or h.reserved b false ≡ true → IsInSome (lists_at old) b)
      → (b : ℕ) → get_or held.reserved b false ≡ true → IsInSome lists b
  taken_in {own = own} lists takes swapped all b is =
      elim (cases_in own b) [
        | inl inside ↦ in_own (lists_at old) lists d own swapped b inside
        | inr out ↦ in_other (lists_at old) lists d own swapped b (all b (reserved_before b takes is out))
            (out_here b takes out)
      ]

  swapped : IsSwapped (lists_at old) d (list_of o') (lists_at new)
  swapped = changed_lists old new d (Some o') on.changed

  others_unchanged : (e : ℕ) → d ≢ e → IsReserved h' (lists_at old e)
  others_unchanged e other =
      let reserved_still = taken_preserves (lists_at old e) on.grasp.takes (fit.reserved e) in
      elim on.grasp.holds [
        | inl holds ↦ subst (λ (k : Held). IsReserved k (lists_at old e)) holds.0 reserved_still
        | inr given ↦ given_preserves (lists_at old e) given.0 reserved_still (own_apart on.grasp.takes e other)
      ]

  list_apart : (e : ℕ) → d ≢ e → NoneOf (list_of o') (lists_at old e)
  list_apart e other = elim on.grasp.holds [
    | inl holds ↦ subst (λ (xs : List ℕ). NoneOf xs (lists_at old e)) (sym holds.1) (own_apart on.grasp.takes e other)
    | inr given ↦ none_in_nothing (list_of o') (lists_at old e) given.1
  ]

  pub fit_longer : IsReserved h' (list_of o') → IsTailPlaced n o' → DraftsHold n h' new
  fit_longer reserved placed =
      fit_changed n h h' old new d (Some o') fit on.changed reserved others_unchanged
      (λ a e. subst (IsTailPlaced n) (same_Some o' a e) placed) list_apart

  pub all_longer : ((b : ℕ) → get_or h.reserved b false ≡ true → IsInSome (lists_at old) b) → (b : ℕ)
      → get_or h'.reserved b false ≡ true → IsInSome (lists_at new) b
  all_longer all b is = elim on.grasp.holds [
    | inl holds ↦ taken_in (lists_at new) on.grasp.takes
        (record { here = swapped.here ∙ holds.1; others = swapped.others }) all b (rw (← holds.0) at is)
    | inr given ↦
        let out = unchanged_out b given.0 is in
        let before = reserved_before b on.grasp.takes (sym (given.0.others b out) ∙ is) out in
        in_other (lists_at old) (lists_at new) d (list_of o') swapped b (all b before) (out_here b on.grasp.takes out)
  ]

-- THE RULE OF ROOM

module _ {sure : Type 0} {w : World} {current : ℕ → ℕ} {first : ℕ} {records : List (Option SlotRecord)} {h : Held}
    {old : List (Option SpoolDraft)} (represent : DraftsRepresent sure w.store.indexes current first records h w old)
    {v : View} (shows : Shows v w.store) where
  abbrev slots : ℕ → ℕ
  slots n = slot_of n v.slots

  owns_texts : (rows : List Row) → rows ≡ v.rows → OwnsTexts w.store.indexes w.store.uploads slots rows
  owns_texts rows same = record {
    apart = rising_apart w.store.uploads shows.rising;
    texts = λ n u found. rw (← same) at (upload_slot v w.store shows n u found).blocks;
    distinct = λ m n u z found there same. slots_apart v w.store shows m n u z found there same;
    owners = λ b slot ordinal owns.
        let is = owner_upload v w.store shows b slot ordinal (rw same at owns) in
        record { number = is.0; upload = is.1; there = is.2; is = sym is.3 };
  }

  room_rule : (h' : Held) (d : ℕ) (list : List ℕ) (new : ℕ → List ℕ) → h'.rows ≡ h.rows → h.rows ≡ v.rows
      → length h'.reserved ≡ length h'.rows → IsSwapped (lists_at old) d list new
      → ((e : ℕ) → IsReserved h' (new e)) → ((e f : ℕ) → e ≢ f → NoneOf (new e) (new f))
      → ((b : ℕ) → get_or h'.reserved b false ≡ true → IsInSome new b) → RuleHolds w d (new d) h'
  room_rule h' d list new same rows size swapped reserved apart all = rule_holds w slots new d h' size record {
    texts = owns_texts h'.rows (same ∙ rows);
    drafts = search (arith, common_steps);
    limit = represent.limit ∙ ap (λ (r : List Row). Some (length r)) (sym same);
  }

-- OTHER DRAFTS

-- what owned a draft's tail owns what it is now, if there is one
pub owned_or_none : {slots : List (Option SlotRecord)} {rows : List Row} {number : ℕ} (o o' : SpoolDraft)
    → PreservesTail o o' → IsOwnedBy slots rows number (tail_of o) → IsOwnedBy slots rows number (tail_of o')
owned_or_none {slots = slots} {rows = rows} {number = number} o o' (inl same) by =
    subst (IsOwnedBy slots rows number) (sym same) by
owned_or_none o o' (inr none) by = record {
  slot = by.slot;
  used = by.used;
  owned = λ i lt. absurd (omega (arith, lt, ap length none.0));
}

owned_apart : (slots : List (Option SlotRecord)) (rows : List Row) (number : ℕ) (tail own : List ℕ)
    → IsOwnedBy slots rows number tail → Unowned rows own → NoneOf tail own
owned_apart slots rows number tail own is unowned i k lt lt' e =
    let owned = (is.owned i lt).1 in
    let none = ap (λ (b : ℕ). get_or rows b None) e ∙ unowned k lt' in
    cc

pub held_both : (R S : Patch → SpoolDraft → Type 0) (q : Option Patch) (o : Option SpoolDraft)
    → ((p : Patch) (a : SpoolDraft) → q ≡ Some p → o ≡ Some a → R p a → S p a) → DraftOf R q o → DraftOf S q o
held_both R S None None weaker h = tt
held_both R S (Some p) (Some o) weaker h = weaker p o refl refl h
held_both R S q o weaker h = absurd h

-- another patch and draft of a number, or none, and the others as they are
pub each_other : (R S : Patch → SpoolDraft → Type 0) (ps qs : List (ℕ × Patch)) {old new : List (Option SpoolDraft)}
    {d : ℕ} {q : Option Patch} {o : Option SpoolDraft} → find d qs ≡ q
    → ((e : ℕ) → d ≢ e → find e qs ≡ find e ps) → IsChanged old d o new
    → ((e : ℕ) → DraftOf R (find e ps) (draft_at old e))
    → ((e : ℕ) → d ≢ e → (r : Patch) (a : SpoolDraft) → find e ps ≡ Some r → draft_at old e ≡ Some a → R r a → S r a)
    → DraftOf S q o → (e : ℕ) → DraftOf S (find e qs) (draft_at new e)
each_other R S ps qs {old = old} {d = d} there same changed all weaker represents e = elim (cases_eq d e) [
  | inl is ↦ rw (← is, there, changed.here) represents
  | inr other ↦ search (arith, common_steps)
]

-- THE DRAFT PUT BACK

abbrev pub went_back : {h h' : Held} {old mid new : List (Option SpoolDraft)} (d : ℕ) {o : SpoolDraft} (o' : SpoolDraft)
    {own : List ℕ} → draft_at old d ≡ Some o → mid ≡ set old d None → new ≡ set mid d (Some o')
    → Regrasps h h' (list_of o) (list_of o') own → WentOn h h' old d o o' new
went_back {old = old} {mid = mid} {new = new} d {o = o} o' {own = own} there out back grasp = record {
  here = there;
  changed = changed_in old new d o' (in_use old d o there) (cc (set-set old d None (Some o')));
  own = own;
  grasp = grasp;
}

module _ {sure : Type 0} {x : IndexSet} {current : ℕ → ℕ} (current' : ℕ → ℕ) {first n : ℕ}
    {records : List (Option SlotRecord)} {h h' : Held} {w : World} {old new : List (Option SpoolDraft)} {d : ℕ}
    {o o' : SpoolDraft} (represent : DraftsRepresent sure x current first records h w old) (fit : DraftsHold n h old)
    (on : WentOn h h' old d o o' new) (rows : h'.rows ≡ h.rows)
    (same : sure → SameOutside first on.own current current') where
  unowned : Unowned h.rows on.own
  unowned i lt = cc (on.grasp.reserved.no_owner i lt)

  pub other_represents : (e : ℕ) → d ≢ e → (r : Patch) (a : SpoolDraft) → draft_at old e ≡ Some a
      → DraftRepresents sure x current first records h.rows w.store r a
      → DraftRepresents sure x current' first records h'.rows w.store r a
  other_represents e other r a there is = rw rows (record {
    holds = is.holds;
    below = is.below;
    carries = λ known open_still. has_preserved current current' first _ on.own a.progress (same known) (rw
        (ap list_in there) at (none_sym on.own (lists_at old e) (own_apart fit on on.grasp.takes e other))) (owned_apart
        records h.rows r.number (tail_of a) on.own (is.tail open_still) unowned) (is.carries known open_still);
    tail = is.tail;
  })

  pub represents_longer : (p q : Patch) → find d w.patches ≡ Some p
      → IsGrown (record w { patches = replaced d q w.patches })
      → DraftRepresents sure x current' first records h'.rows w.store q o'
      → DraftsRepresent sure x current' first records h' (record w { patches = replaced d q w.patches }) new
  represents_longer p q there grown is = record {
    each = each_other (DraftRepresents sure x current first records h.rows w.store)
        (DraftRepresents sure x current' first records h'.rows w.store) w.patches (replaced d q w.patches)
        (find_replaced_same d p q w.patches there) (λ e. find_replaced_other d e q w.patches) on.changed represent.each
        (λ e other r a found. other_represents e other r a) is;
    apart = apart_replaced d q w.patches represent.apart;
    grown = grown;
    limit = represent.limit ∙ ap (λ (r : List Row). Some (length r)) (sym rows);
    all = all_longer fit on represent.all;
  }

module _ {sure : Type 0} {w : World} {current : ℕ → ℕ} {first n : ℕ} {records : List (Option SlotRecord)} {h h' : Held}
    {old new : List (Option SpoolDraft)} {d : ℕ} {o o' : SpoolDraft}
    (represent : DraftsRepresent sure w.store.indexes current first records h w old) (fit : DraftsHold n h old)
    (on : WentOn h h' old d o o' new) (rows : h'.rows ≡ h.rows) {v : View} (shows : Shows v w.store)
    (known : h.rows ≡ v.rows) (size : length h.reserved ≡ length h.rows) (after : DraftsHold n h' new) where
  size_after : length h'.reserved ≡ length h'.rows
  size_after = search (arith, common_steps)

  list_here : lists_at new d ≡ list_of o'
  list_here = ap list_in on.changed.here

  rule_after : RuleHolds w d (lists_at new d) h'
  rule_after =
      room_rule represent shows h' d (list_of o') (lists_at new) rows known size_after (swapped fit on) after.reserved
      after.distinct (all_longer fit on represent.all)

  -- the draft holds all blocks that its patch wants
  pub holds_all : (q : Patch) (done : Bool) → q.short ≡ false → length (list_of o') ≡ wants w.store.indexes q done
      → is_short w d q done ≡ false
  holds_all q done roomy listed = rule_after.enough q done roomy (omega (arith, listed, ap length list_here))

  -- it ran short of blocks for its patch
  pub lacks : (q : Patch) (done : Bool) → RunsShort h h' (list_of o) (wants w.store.indexes q done)
      → is_short w d q done ≡ true
  lacks q done short =
      let lists : ℕ → List ℕ = λ e. if e == d then short.own else lists_at old e in
      let swap : IsSwapped (lists_at old) d short.own lists = search (arith, common_steps) in
      let rule = room_rule represent shows short.held d short.own lists short.takes.rows known
      (omega (arith, short.takes.size, size, ap length short.takes.rows)) swap
      (all_reserved (lists_at old) lists d short.own swap short.held short.reserved
      (λ e other. taken_preserves (lists_at old e) short.takes (fit.reserved e)))
      (all_apart (lists_at old) lists d short.own swap (own_apart fit on short.takes) fit.distinct)
      (taken_in fit on lists short.takes swap represent.all) in
      rule.lacking q done short.full (omega (arith, short.scarce, ap length swap.here))

  module _ (p : Patch) (piece : List ℕ) where
    abbrev more : Patch
    more = with_piece p piece

    unchanged_short : Holds w.store.indexes more o' → is_short w d more false ≡ p.short
    unchanged_short holds = grind (arith, common_steps, cases_Bool, rule_after, holds_all)

    pub longer_holds : IsLonger w.store.indexes more o o' h h' → Holds w.store.indexes (longer_patch w d p piece) o'
    longer_holds (inl holds) = rw (← (unchanged_short holds)) at holds
    longer_holds (inr short) = rw (← (lacks more false short.1)) at short.0

    pub longer_carries : (current' : ℕ → ℕ) → Carries w.store.indexes current' first more o'
        → Carries w.store.indexes current' first (longer_patch w d p piece) o'
    unfolding patch_text
    longer_carries current' carries = carries

-- THE DISK AND THE ANSWER

pub moved : {D : Type 0} {sure : Bool} {disk : Ghosts D} {d : D} (d' : D) {old new : Holding} {m : Store} {n : ℕ}
    (s : Stored sure disk d old m) → OnlyReserves old new → (disk.honest d → disk.honest d') → (own : List ℕ)
    → Unowned s.view.rows own → n ≡ old.layout
    → (sure ≡ true → WritesIn (text_page n) own (disk.current d) (disk.current d') (disk.unsynced d) (disk.unsynced d'))
    → Stored sure disk d' new m
moved d' {old = old} {new = new} s same honest own unowned size writes = record {
  honest = λ known. honest (s.honest known);
  view = s.view;
  rests = λ known. rests_writes own (sym s.has_view.blocks ∙ sym size) (s.rests known) unowned (writes known);
  has_view = preserves_on old new s.view same s.has_view;
  shows = s.shows;
}

pub ok_more : {T E P X Y Z : Type 0} (r : Result T E) → OnOk r X → (P → OnOk r Y) → (X → (P → Y) → Z) → OnOk r Z
ok_more (Ok t) x y on = on x y
ok_more (Err e) x y on = tt

pub answered : {T : Type 0} (X Y : Type 0) (r : Result T Stop) → OnOk r X → (IsErrOf r Stops.NoMemory → Y)
    → DoesOrStops r (λ t. X) Y
answered X Y (Ok t) done same = done
answered X Y (Err Stops.NoMemory) done same = same refl
answered X Y (Err Stops.DiskFault) done same = tt

pub longer_world : {D : Type 0} {sure : Bool} {disk : Ghosts D} {d : D} {h : Holding} {drafts : List
    (Option SpoolDraft)}
    (w : World) (number : ℕ) (piece : List ℕ) {p : Patch} {a : Option Patch} → a ≡ Some p
    → Stored sure disk d h w.store → DraftsRepresent (sure ≡ true) w.store.indexes (disk.current d) (text_page h.layout)
    h.slots h.blocks (record w { patches = replaced number (longer_patch w number p piece) w.patches }) drafts
    → StandsFor sure disk d h drafts (appended_at w number piece a)
longer_world w number piece e stored represents = rw e (record { stored = stored; represents = represents })
