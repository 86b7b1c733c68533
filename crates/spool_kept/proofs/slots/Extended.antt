-- A longer upload, as the disk is to encode it.
use Rattle.std.proofs.lemmas.Grind.{common_steps}
use Rattle.std.proofs.Common.{◌≡◌, inl, inr, ◌⊎◌, ℕ, ◌+◌, ◌-◌, ◌/◌, ◌<◌, ◌≤◌, List, [], ◌++◌, Option, None, Some, false}
use Rattle.std.proofs.Common.{length, length-append, get_or, drop, refl, sym, ◌∙◌, ap, subst, arith, Bool, true}
use Rattle.std.proofs.lemmas.Bool.{cases_lt}
use Rattle.std.proofs.lemmas.Option.{same_Some}
use Rattle.spool_journal.specs.declared.TheConstants.{PAGE}
use Rattle.common.specs.declared.limits.TheConstants.{MOST_BLOCKS, MOST_LENGTH}
use Rattle.upload_rules.proofs.Finds.{find_replaced_same, find_replaced_other}
use Rattle.upload_rules.specs.Lengths.{is_too_large, known_or, longest}
use Rattle.upload_rules.specs.Room.{blocks_of}
use Rattle.upload_rules.specs.Slots.{IsRising}
use Rattle.upload_rules.specs.Store.{Upload, Store, replaced, patched, patched_at, patched_store, text_of}
use Rattle.spool_blocks.specs.Blocks.{Row, Held}
use Rattle.spool_disk.specs.declared.disk.Disk.{Ghosts}
use Rattle.spool_disk.specs.Views.{Lasts}
use Rattle.spool_journal.specs.Image.{text_page}
use Rattle.spool_texts.specs.Texts.{text_shown}
use Rattle.spool_pages.specs.Changes.{SameRowsBut, ChangesButRows, Changes, with_record}
use Rattle.spool_pages.proofs.Resting.{rests_encodes}
use Rattle.spool_pages.specs.Rests.{Rests, Unowned, HasTexts}
use Rattle.spool_pages.specs.View.{SlotRecord, View, slot_at, IsViewOf}
use Rattle.spool_texts.specs.Drafts.{IsReserved}
use Rattle.spool_texts.specs.TextOn.{text_on}
use Rattle.spool_catalog.specs.Rows.{HandsOver}
use Rattle.spool_kept.specs.Changed.{appended_view, texts_with}
use Rattle.spool_catalog.specs.Longer.{MayExtend, HasLonger, longer_record}
use Rattle.spool_kept.specs.Extending.{IsAppend, full_bytes}
use Rattle.spool_catalog.specs.declared.longer.Longer.{Longer}
use Rattle.spool_catalog.specs.Holding.{Holding, FitsTogether}
use Rattle.spool_catalog.specs.Shows.{IsRecordOf, IsValidRecord, Shows}
use Rattle.spool_kept.specs.Stored.{Stored, ShowsEither}
use Rattle.spool_kept.proofs.slots.AppendedTexts.{text_longer}
use Rattle.spool_catalog.proofs.slots.ChangedSlots.{one_value}
use Rattle.spool_kept.proofs.slots.SlotChange.{text_else, text_here}
use Rattle.spool_catalog.proofs.numbers.Entries.{numbers_replaced}
use Rattle.spool_catalog.proofs.slots.HandedOver.{listed_now, others_same, owns_one_each, room_for, rows_but_last}
use Rattle.spool_catalog.proofs.slots.HasViews.{has_view_of}
use Rattle.spool_kept.proofs.slots.SlotChange.{HasRows, IsChange, changed_shows, changed_texts, lasts_either}
use Rattle.spool_catalog.proofs.slots.SlotFits.{same_others}
use Rattle.spool_kept.proofs.slots.SlotChange.{recorded_upload}
use Rattle.spool_catalog.proofs.NewRecords.{small_is, state_length}
use Rattle.spool_catalog.proofs.Recorded.{patched_after, recorded_state}
use Rattle.spool_catalog.proofs.Valid.{in_use}
use Rattle.spool_blocks.specs.Chains.{OwnsOneEach}

-- the length that is known, else a declared one that isn't too large
known_small : (known declare : Option ℕ) → longest known ≤ MOST_LENGTH → is_too_large declare ≡ false
    → longest (known_or known declare) ≤ MOST_LENGTH
known_small None declare old small = small_is declare small
known_small (Some n) declare old small = old

module _ {D : Type 0} {sure : Bool} {disk : Ghosts D} {d : D} {h new : Holding} {longer : Longer} {more : List ℕ}
    (may : MayExtend h longer more) (reserved : IsReserved h.blocks more) (is : HasLonger h may.used longer more new)
    {m : Store} {n : ℕ} {declare : Option ℕ} {bytes : List ℕ}
    (append : IsAppend sure disk d h m n declare bytes longer more) where
  abbrev s : Stored sure disk d h m
  s = append.stored

  abbrev pub before : View
  before = append.stored.view

  abbrev used : SlotRecord
  used = may.used

  -- its record, its rows and its text then
  abbrev now : SlotRecord
  now = longer_record may.used longer

  abbrev rows : List Row
  rows = new.blocks.rows

  abbrev text : List ℕ
  text = append.stored.view.texts longer.slot ++ append.added

  abbrev upload : Upload
  upload = patched append.upload declare bytes

  abbrev pub after : View
  after = appended_view append.stored.view longer.slot (longer_record may.used longer) new.blocks.rows
      (append.stored.view.texts longer.slot ++ append.added)

  there : slot_at before longer.slot ≡ Some used
  there = ap (λ (xs : List (Option SlotRecord)). get_or xs longer.slot None) (sym s.has_view.slots) ∙ may.there

  number : used.number ≡ n
  number = ap (λ (r : SlotRecord). r.number) (one_value may.there append.used.there) ∙ append.used.is

  recorded : IsRecordOf m.indexes used (before.texts longer.slot) append.upload
  recorded = recorded_upload before m s.shows longer.slot used there append.upload (cc)

  -- THE ROWS

  no_owner : Unowned before.rows more
  no_owner = subst (λ (old : List Row). Unowned old more) s.has_view.rows reserved.no_owner

  hands : 0 < length more → HandsOver before.rows longer.slot (used.text_len / PAGE) more rows
  hands some = rw s.has_view.rows at (is.rows some)

  same_rows : length more ≡ 0 → rows ≡ before.rows
  same_rows none = ap (λ (b : Held). b.rows) (is.same none) ∙ s.has_view.rows

  room : used.text_len / PAGE + length more ≤ MOST_BLOCKS
  room =
      let below = rw s.has_view.rows at reserved.below in
      let all = room_for before.rows longer.slot (used.text_len / PAGE) (get_or h.lists longer.slot []) more
      (s.has_view.listed longer.slot used there).owned (omega (arith, s.has_view.sizes longer.slot used there))
      no_owner below reserved.distinct in
      omega (arith, all, s.shows.valid.row_count, s.shows.valid.most)

  rows_now : HasRows before longer.slot (Some now) rows
  rows_now = elim (cases_lt 0 (length more)) [
    | inl some ↦
        let one = owns_one_each before.rows longer.slot (used.text_len / PAGE) more rows (hands some) no_owner
        (blocks_of used.text_len) (omega arith) (s.shows.valid.lists longer.slot used there) in
        record {
          size = (hands some).size;
          others = others_same before.rows longer.slot (used.text_len / PAGE) more rows (hands some) no_owner;
          blocks = subst (OwnsOneEach rows longer.slot) (sym (may.blocks some)) one;
          owners = λ b i owns. (now, refl, omega (arith, one.only b i owns, room));
        }
    | inr over ↦
        let none : length more ≡ 0 = omega (arith, over) in
        let same = same_rows none in
        record {
          size = ap length same;
          others = same_others longer.slot before.rows rows same;
          blocks = rw (← (may.same none)) at (rw (← same) at (s.shows.valid.lists longer.slot used there));
          owners = λ b i owns.
              let was = ap (λ (xs : List Row). get_or xs b None) (sym same) ∙ owns in
              (now, refl, (s.shows.valid.owners b longer.slot i was).fits);
        }
  ]

  -- THE RECORD

  represents : IsRecordOf m.indexes now text upload
  represents =
      let phase = patched_after m.indexes append.upload declare bytes append.extension.few recorded.phase in
      grind (arith, common_steps, recorded, phase, length-append append.upload.accepted bytes)

  record_valid : IsValidRecord before.next now
  record_valid =
      let old = s.shows.valid.records longer.slot used there in
      let ext = append.extension in
      record {
        some = old.some;
        below = old.below;
        accepted = omega (arith, ext.accepted, ext.few, ap longest ext.declared);
        declared = rw ext.declared (known_small append.upload.declared declare
            (subst (λ (k : Option ℕ). longest k ≤ MOST_LENGTH) recorded.declared old.declared) ext.small);
        text_fits = elim (cases_lt 0 (length more)) [
          | inl some ↦ omega (arith, may.blocks some, room)
          | inr none ↦ omega (arith, may.same (omega (arith, none)), old.text_fits)
        ];
        state_size = ap length may.state.is ∙ state_length may.state.after;
        state = recorded_state m.indexes now text upload represents;
        metadata_size = old.metadata_size;
        printable = old.printable;
      }

  -- THE TEXT

  text_now : sure ≡ true → HasTexts (disk.current d) before
      → text ≡ text_shown (disk.current d) (text_page before.blocks) rows longer.slot longer.text_len
  text_now known texts = elim (cases_lt 0 (length more)) [
    | inl some ↦
        let was = texts longer.slot used there in
        let size = s.has_view.sizes longer.slot used there in
        let list = get_or h.lists longer.slot [] in
        let long = ap (λ (xs : List ℕ). length xs) append.extension.text
        ∙ length-append (text_of m.indexes append.upload) append.added in
        let grown : used.text_len ≤ longer.text_len = omega (
          arith,
          recorded.text_len,
          append.extension.text_len,
          long,
        ) in
        let content : text_on (disk.current d) (text_page before.blocks) more
        (longer.text_len - full_bytes used.text_len) ≡ drop (full_bytes used.text_len) (before.texts longer.slot)
        ++ append.added = rw (recorded.text_len, recorded.text, ← s.has_view.blocks)
        (append.extension.content known some) in
        ap (λ (xs : List ℕ). xs ++ append.added) was ∙ sym (text_longer (disk.current d) (text_page before.blocks)
        before.rows rows longer.slot used.text_len list (s.has_view.listed longer.slot used there) size
        (longer.text_len -
        full_bytes used.text_len) longer.text_len more append.added (listed_now before.rows longer.slot (used.text_len /
        PAGE) more rows (hands some) no_owner list (omega (arith, size)) (s.has_view.listed longer.slot used there))
        (omega
        (arith, grown, may.blocks some)) (cc) (omega (arith, grown)))
    | inr over ↦ search (arith, common_steps)
  ]

  -- ALL OF IT

  extends : IsChange before m longer.slot n (Some now) rows (texts_with before longer.slot text) before.next m.next
      (replaced n upload m.uploads)
  extends = record {
    within = omega (arith, in_use before.slots longer.slot used there, s.shows.valid.slot_count);
    own = λ q e. ap (λ (r : SlotRecord). r.number) (one_value e there) ∙ number;
    apart = λ t q other e same. other (s.shows.valid.distinct t longer.slot q used e there (sym same ∙ sym number));
    more = omega arith;
    most = s.shows.valid.next_most;
    next_is = s.shows.next;
    has = rows_now;
    texts_else = text_else before longer.slot text;
    uploads_else = λ k other. find_replaced_other n k upload m.uploads other;
    rising = subst IsRising (sym (numbers_replaced n upload m.uploads)) s.shows.rising;
    now = record {
      number = number;
      valid = record_valid;
      upload = upload;
      there = find_replaced_same n append.upload upload m.uploads append.there;
      represents = rw (← (text_here before longer.slot text longer.slot refl)) at represents;
    };
    gone = λ u e. (now, refl);
  }

  pub after_shows : Shows after (patched_store m n declare bytes)
  after_shows = subst (λ (o : Option Upload). Shows after (patched_at m n declare bytes o)) (sym append.there)
      (changed_shows s.shows extends)

  pub after_texts : sure ≡ true → HasTexts (disk.current d) after
  after_texts known =
      let texts = (rests_encodes (s.rests known)).texts in
      changed_texts s.shows extends (disk.current d) texts (λ q e. text_here before longer.slot text longer.slot refl
      ∙ text_now known texts ∙ ap (λ (r : SlotRecord). text_shown (disk.current d) (text_page before.blocks) rows
      longer.slot r.text_len) (same_Some now q e))

  pub after_stored : (d' : D) → FitsTogether new → (disk.honest d → disk.honest d')
      → (sure ≡ true → Rests after (disk.current d') (disk.unsynced d'))
      → Stored sure disk d' new (patched_store m n declare bytes)
  after_stored d' fits honest rests = record {
    honest = λ known. honest (s.honest known);
    view = after;
    rests = rests;
    has_view = has_view_of new after fits after_shows.valid (cc) (cc) (cc) (cc) (cc) refl;
    shows = after_shows;
  }

  pub after_lasts : (d' : D) → Lasts disk d d' (λ image. IsViewOf image before ⊎ IsViewOf image after)
      → Lasts disk d d' (ShowsEither h.layout m (patched_store m n declare bytes))
  after_lasts d' = lasts_either disk d d' s after after_shows refl

  pub after_changes : (blank filled : List (ℕ × List ℕ))
      → ((v : View) → v.blocks ≡ h.layout → v.version ≡ h.version → v.slots ≡ h.slots → (r : SlotRecord)
      → get_or h.slots longer.slot None ≡ Some r → (rows : List Row) → (length more ≡ 0 → SameRowsBut [] v.rows rows)
      → (0 < length more → SameRowsBut (more ++ drop (r.text_len / PAGE) (get_or h.lists longer.slot [])) v.rows rows)
      → ChangesButRows blank v (record (with_record v longer.slot (longer_record r longer)) { rows = rows }))
      → ((v v' : View) → v.blocks ≡ new.layout → ChangesButRows blank v v' → v'.rows ≡ new.blocks.rows
      → Changes filled v v') → Changes filled before after
  after_changes blank filled but fill =
      let pages = but before (sym s.has_view.blocks) (sym s.has_view.version) (sym s.has_view.slots) used may.there rows
      (λ none b not. ap (λ (xs : List Row). get_or xs b None) (same_rows none))
      (λ some. rows_but_last before.rows longer.slot (used.text_len / PAGE) more rows (hands some) no_owner
      (blocks_of used.text_len) (get_or h.lists longer.slot []) (s.shows.valid.lists longer.slot used there)
      (s.has_view.listed longer.slot used there) (s.has_view.sizes longer.slot used there)) in
      fill before after (sym s.has_view.blocks ∙ sym is.layout) (assumption pages) refl
