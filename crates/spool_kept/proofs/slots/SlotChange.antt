-- A view in which one slot changes shows the store in which that slot's upload does: one comes, is replaced or goes.
use Rattle.std.proofs.lemmas.Grind.{common_steps}
use Rattle.std.proofs.Common.{◌≡◌, ◌≢◌, inl, inr, ◌⊎◌, ℕ, ◌^◌, ◌<◌, ◌≤◌, List, Option, None, Some, length, map, sym}
use Rattle.std.proofs.Common.{◌∙◌, ap, subst, arith, get_or, set, Bool}
use Rattle.std.proofs.lemmas.Bool.{cases_eq}
use Rattle.std.proofs.lemmas.List.{length-set}
use Rattle.common.specs.declared.limits.TheConstants.{SLOTS}
use Rattle.enc_model.specs.Indexes.{IndexSet}
use Rattle.upload_rules.specs.Room.{blocks_of}
use Rattle.upload_rules.specs.Slots.{IsRising}
use Rattle.upload_rules.specs.Store.{Upload, Store, find}
use Rattle.spool_blocks.specs.Blocks.{Row}
use Rattle.spool_blocks.specs.Chains.{Owns, OwnsOneEach}
use Rattle.spool_disk.specs.Views.{Lasts}
use Rattle.spool_disk.specs.declared.disk.Disk.{Ghosts}
use Rattle.spool_journal.specs.Image.{text_page}
use Rattle.spool_texts.specs.Texts.{text_shown}
use Rattle.spool_pages.specs.Changes.{with_slot}
use Rattle.spool_pages.specs.Rests.{HasTexts}
use Rattle.spool_pages.specs.View.{IsViewOf, SlotRecord, View, slot_at}
use Rattle.spool_catalog.specs.Rows.{SameOthers}
use Rattle.spool_catalog.specs.Holding.{Holding, OwnsText, IsUsedBy}
use Rattle.spool_catalog.specs.Shows.{IsRecordOf, IsValid, IsValidRecord, Shows}
use Rattle.spool_kept.specs.Stored.{ShowsEither, Stored}
use Rattle.spool_kept.proofs.slots.AppendedTexts.{text_still}
use Rattle.spool_catalog.proofs.slots.ChangedSlots.{one_value, slot_else, slot_here, slot_is, valid_more}
use Rattle.spool_catalog.specs.Holding.{IsOwnedBy}
use Rattle.std.proofs.Common.{refl, eq-eqb}
use Rattle.std.proofs.lemmas.Bool.{ne_eqb}
use Rattle.spool_kept.specs.Changed.{texts_with}

-- another text for a slot
pub text_here : (v : View) (slot : ℕ) (text : List ℕ) (s : ℕ) → s ≡ slot → texts_with v slot text s ≡ text
text_here v slot text s same = rw (eq-eqb s slot same) refl

pub text_else : (v : View) (slot : ℕ) (text : List ℕ) (s : ℕ) → s ≢ slot → texts_with v slot text s ≡ v.texts s
text_else v slot text s other = rw (ne_eqb s slot other) refl

-- a record represents the upload that has its number
pub recorded_upload : (v : View) (m : Store) → Shows v m → (s : ℕ) (r : SlotRecord) → slot_at v s ≡ Some r
    → (u : Upload)
    → find r.number m.uploads ≡ Some u → IsRecordOf m.indexes r (v.texts s) u
recorded_upload v m shows s r there u found =
    let recorded = shows.recorded s r there in
    subst (IsRecordOf m.indexes r (v.texts s)) (one_value recorded.there found) recorded.represents

-- other rows of the other slots' blocks give those the same blocks
pub others_listed : (old new : List Row) (slot t n : ℕ) → SameOthers slot old new → t ≢ slot → OwnsOneEach old t n
    → OwnsOneEach new t n
others_listed old new slot t n others other one = record {
  there = λ i lt. let own = one.there i lt in (own.0, others.still own.0 t i other own.1);
  once = λ a b i owns more. one.once a b i (others.before a t i other owns) (others.before b t i other more);
  only = λ b i owns. one.only b i (others.before b t i other owns);
}

-- another upload's blocks stay its own
pub owned_still : {slots now : List (Option SlotRecord)} {slot : ℕ} (o : Option SlotRecord) {rows new : List Row}
    → now ≡ set slots slot o → SameOthers slot rows new → {n k : ℕ} {list : List ℕ} → IsUsedBy slots slot n → n ≢ k
    → IsOwnedBy slots rows k list → IsOwnedBy now new k list
owned_still {slots = slots} {slot = slot} o same others {list = list} used apart owned =
    let other : owned.slot ≢ slot = search (arith, common_steps) in
    record {
      slot = owned.slot;
      used = search (arith, common_steps);
      owned = λ i lt.
          let own = owned.owned i lt in
          (own.0, others.still (get_or list i 0) owned.slot own.0 other own.1);
    }

-- the slot, the rows, the texts and the next number are these
abbrev pub changed : View → ℕ → Option SlotRecord → List Row → (ℕ → List ℕ) → ℕ → View
changed v s o rows texts next = record (with_slot v s o) { rows = rows; texts = texts; next = next }

-- the slot's record and text represent the upload that has its number
pub record IsNow (x : IndexSet) (n next : ℕ) (text : List ℕ) (uploads : List (ℕ × Upload))
    (r : SlotRecord) : Type 0 where
  pub number : r.number ≡ n
  pub valid : IsValidRecord next r
  pub upload : Upload
  pub there : find n uploads ≡ Some upload
  pub represents : IsRecordOf x r text upload

abbrev pub IsSlotNow : IndexSet → ℕ → ℕ → List ℕ → List (ℕ × Upload) → Option SlotRecord → Type 0
IsSlotNow x n next text uploads None = Unit {0}
IsSlotNow x n next text uploads (Some r) = IsNow x n next text uploads r

-- the slot owns the blocks of its text, or none; each other slot owns what it did
pub record HasRows (v : View) (s : ℕ) (o : Option SlotRecord) (rows : List Row) : Type 0 where
  pub size : length rows ≡ length v.rows
  pub others : SameOthers s v.rows rows
  pub blocks : OwnsText rows s o
  pub owners : (b i : ℕ) → Owns rows b s i → (r : SlotRecord) × (o ≡ Some r) × (i < 2 ^ 32)

-- the slot is that of number n, before and after; all else is as it was
pub record IsChange (v : View) (m : Store) (s n : ℕ) (o : Option SlotRecord) (rows : List Row) (texts : ℕ → List ℕ)
    (next next' : ℕ) (uploads : List (ℕ × Upload)) : Type 0 where
  pub within : s < SLOTS
  pub own : (r : SlotRecord) → slot_at v s ≡ Some r → r.number ≡ n
  pub apart : (t : ℕ) (r : SlotRecord) → t ≢ s → slot_at v t ≡ Some r → n ≢ r.number
  pub more : v.next ≤ next
  pub most : next ≤ 10 ^ 18
  pub next_is : next ≡ next'
  pub has : HasRows v s o rows
  pub texts_else : (t : ℕ) → t ≢ s → texts t ≡ v.texts t
  pub uploads_else : (k : ℕ) → n ≢ k → find k uploads ≡ find k m.uploads
  pub rising : IsRising (map (λ e. e.0) uploads)
  pub now : IsSlotNow m.indexes n next (texts s) uploads o
  pub gone : (u : Upload) → find n uploads ≡ Some u → (r : SlotRecord) × (o ≡ Some r)

module _ {v : View} {m : Store} {s n : ℕ} {o : Option SlotRecord} {rows : List Row} {texts : ℕ → List ℕ}
    {next next' : ℕ} {uploads : List (ℕ × Upload)} (shows : Shows v m)
    (c : IsChange v m s n o rows texts next next' uploads) where
  inside : s < length v.slots
  inside = omega (arith, c.within, shows.valid.slot_count)

  -- a record is the slot's, or was there
  is_or_was : (t : ℕ) (q : SlotRecord) → slot_at (changed v s o rows texts next) t ≡ Some q
      → ((t ≡ s) × IsNow m.indexes n next (texts s) uploads q × OwnsOneEach rows s (blocks_of q.text_len))
      ⊎ ((t ≢ s) × (slot_at v t ≡ Some q))
  is_or_was t q e = search (arith, common_steps)

  still : (t : ℕ) (r : SlotRecord) → t ≢ s → slot_at v t ≡ Some r → slot_at (changed v s o rows texts next) t ≡ Some r
  still t r other e = slot_else v.slots s o t other ∙ e

  changed_valid : IsValid (changed v s o rows texts next)
  changed_valid = record {
    least = shows.valid.least;
    most = shows.valid.most;
    next_least = omega (arith, shows.valid.next_least, c.more);
    next_most = c.most;
    indexes = shows.valid.indexes;
    slot_count = length-set v.slots s o ∙ shows.valid.slot_count;
    row_count = c.has.size ∙ shows.valid.row_count;
    records = λ t q e. elim (is_or_was t q e) [
      | inl here ↦ here.1.valid
      | inr was ↦ valid_more c.more (shows.valid.records t q was.1)
    ];
    distinct = λ t k q p e f same. elim (is_or_was t q e) [
      | inl here ↦ search (arith, common_steps)
      | inr was ↦ elim (is_or_was k p f) [
        | inl here' ↦ absurd (c.apart t q was.0 was.1 (sym here'.1.number ∙ sym same))
        | inr was' ↦ shows.valid.distinct t k q p was.1 was'.1 same
      ]
    ];
    owners = λ b t i owns. elim (cases_eq t s) [
      | inl same ↦
          let own = c.has.owners b i (subst (λ (k : ℕ). Owns rows b k i) same owns) in
          let here = ap (slot_at (changed v s o rows texts next)) same ∙ slot_here v.slots s o inside in
          record { used = own.0; there = here ∙ own.1; fits = own.2 }
      | inr other ↦
          let owned = shows.valid.owners b t i (c.has.others.before b t i other owns) in
          record { used = owned.used; there = still t owned.used other owned.there; fits = owned.fits }
    ];
    lists = λ t q e. elim (is_or_was t q e) [
      | inl here ↦ subst (λ (k : ℕ). OwnsOneEach rows k (blocks_of q.text_len)) (sym here.0) here.2
      | inr was ↦ others_listed v.rows rows s t (blocks_of q.text_len) c.has.others was.0 (shows.valid.lists t q was.1)
    ];
  }

  pub changed_shows : Shows (changed v s o rows texts next) (record m { next = next'; uploads = uploads })
  changed_shows = record {
    valid = changed_valid;
    next = c.next_is;
    indexes = shows.indexes;
    rising = c.rising;
    recorded = λ t q e. elim (is_or_was t q e) [
      | inl here ↦ search (arith, common_steps)
      | inr was ↦
          let recorded = shows.recorded t q was.1 in
          record {
            upload = recorded.upload;
            there = c.uploads_else q.number (c.apart t q was.0 was.1) ∙ recorded.there;
            represents = rw (← (c.texts_else t was.0)) at recorded.represents;
          }
    ];
    all = λ k u e. elim (cases_eq n k) [
      | inl same ↦
          let is = c.gone u (ap (λ (j : ℕ). find j uploads) same ∙ e) in
          let now : IsNow m.indexes n next (texts s) uploads is.0 = rw is.1 at c.now in
          record { slot = s; used = is.0; there = slot_here v.slots s o inside ∙ is.1; number = now.number ∙ same }
      | inr other ↦
          let has = shows.all k u (sym (c.uploads_else k other) ∙ e) in
          let away : has.slot ≢ s = λ same. other (cc (c.own has.used (ap (slot_at v) (sym same) ∙ has.there))) in
          record {
            slot = has.slot;
            used = has.used;
            there = still has.slot has.used away has.there;
            number = search (arith, common_steps);
          }
    ];
  }

  -- where the slot's rows show its text, the texts are those that the rows show
  pub changed_texts : (current : ℕ → ℕ) → HasTexts current v
      → ((r : SlotRecord) → o ≡ Some r → texts s ≡ text_shown current (text_page v.blocks) rows s r.text_len)
      → HasTexts current (changed v s o rows texts next)
  changed_texts current old new t q e = elim (slot_is v.slots s o t q inside e) [
    | inl here ↦ search (arith, common_steps)
    | inr was ↦
        let one = shows.valid.lists t q was.1 in
        c.texts_else t was.0 ∙ old t q was.1 ∙ sym (text_still current (text_page v.blocks) v.rows rows t q.text_len one
        (others_listed v.rows rows s t (blocks_of q.text_len) c.has.others was.0 one)
        (λ b i owns. c.has.others.still b t i was.0 owns))
  ]

-- AS THE DISK HOLDS IT

-- a crash leaves the old store, or the one that another view shows
pub lasts_either : {D : Type 0} {sure : Bool} {h : Holding} {m m' : Store} (disk : Ghosts D) (d d' : D)
    (stored : Stored sure disk d h m) (v : View) → Shows v m' → v.blocks ≡ stored.view.blocks
    → Lasts disk d d' (λ image. IsViewOf image stored.view ⊎ IsViewOf image v)
    → Lasts disk d d' (ShowsEither h.layout m m')
lasts_either disk d d' stored v shows blocks lasts = search (arith, common_steps)
