-- The slots of uploads.
use Rattle.std.proofs.Common.{◌≡◌, ℕ, zero, suc, ◌<◌, List, [], ◌∷◌, Option, None, Some, length, get_or, refl, sym, ◌∙◌}
use Rattle.std.proofs.Common.{ap, subst, arith, eq-eqb}
use Rattle.std.proofs.lemmas.Bool.{ne_eqb}
use Rattle.upload_rules.specs.Store.{Upload, Store, find, text_of}
use Rattle.upload_rules.specs.Room.{blocks_of}
use Rattle.spool_blocks.specs.Chains.{Owns, OwnsOneEach}
use Rattle.spool_pages.specs.View.{SlotRecord, View, slot_at}
use Rattle.spool_catalog.specs.Shows.{IsRecordOf, Shows}
use Rattle.spool_kept.specs.Changed.{slot_of, HasUpload}
use Rattle.spool_catalog.proofs.slots.ChangedSlots.{clash, one_value}
use Rattle.spool_kept.proofs.slots.SlotChange.{recorded_upload}

-- the first record of a number is in its slot
pub slot_of_is : (n : ℕ) (slots : List (Option SlotRecord)) (s : ℕ) (r : SlotRecord) → get_or slots s None ≡ Some r
    → r.number ≡ n → ((t : ℕ) (q : SlotRecord) → t < s → get_or slots t None ≡ Some q → q.number ≡ n → ⊥)
    → slot_of n slots ≡ s
unfolding slot_of
slot_of_is n [] s r e number before = clash refl e
slot_of_is n (None ∷ slots) zero r e number before = clash refl e
slot_of_is n (Some q ∷ slots) zero r e number before = rw (eq-eqb q.number n (cc (one_value refl e))) refl
slot_of_is n (None ∷ slots) (suc s) r e number before =
    ap (λ (k : ℕ). suc k) (slot_of_is n slots s r e number (λ t q lt f. before (suc t) q (omega (arith, lt)) f))
slot_of_is n (Some q ∷ slots) (suc s) r e number before =
    rw (ne_eqb q.number n (before 0 q (omega arith) refl))
    (ap (λ (k : ℕ). suc k) (slot_of_is n slots s r e number (λ t p lt f. before (suc t) p (omega (arith, lt)) f)))

module _ (v : View) (m : Store) (shows : Shows v m) where
  -- each record is in the slot of its number
  pub own_slot : (s : ℕ) (r : SlotRecord) → slot_at v s ≡ Some r → slot_of r.number v.slots ≡ s
  own_slot s r e = slot_of_is r.number v.slots s r e refl
      (λ t q lt f same. omega (arith, lt, shows.valid.distinct t s q r f e same))

  pub upload_slot : (n : ℕ) (u : Upload) → find n m.uploads ≡ Some u → HasUpload v m.indexes n u
  upload_slot n u found =
      let has = shows.all n u found in
      let at : slot_of n v.slots ≡ has.slot = cc (own_slot has.slot has.used has.there) in
      let represents = recorded_upload v m shows has.slot has.used has.there u (cc) in
      let blocks = rw represents.text_len at (shows.valid.lists has.slot has.used has.there) in
      record {
        used = has.used;
        there = ap (slot_at v) at ∙ has.there;
        number = has.number;
        represents = subst (λ (k : ℕ). IsRecordOf m.indexes has.used (v.texts k) u) (sym at) represents;
        blocks = subst (λ (k : ℕ). OwnsOneEach v.rows k (blocks_of (length (text_of m.indexes u)))) (sym at) blocks;
      }

  -- two uploads have two slots
  pub slots_apart : (n k : ℕ) (u w : Upload) → find n m.uploads ≡ Some u → find k m.uploads ≡ Some w
      → slot_of n v.slots ≡ slot_of k v.slots → n ≡ k
  slots_apart n k u w e f same =
      let first = upload_slot n u e in
      let second = upload_slot k w f in
      sym first.number ∙ ap (λ (x : SlotRecord). x.number) (one_value first.there (ap (slot_at v) same ∙ second.there))
      ∙ second.number

  -- each block that is owned is an upload's
  pub owner_upload : (b slot ordinal : ℕ) → Owns v.rows b slot ordinal
      → (n : ℕ) × (u : Upload) × (find n m.uploads ≡ Some u) × (slot ≡ slot_of n v.slots)
  owner_upload b slot ordinal owns =
      let owned = shows.valid.owners b slot ordinal owns in
      let recorded = shows.recorded slot owned.used owned.there in
      (owned.used.number, recorded.upload, recorded.there, sym (own_slot slot owned.used owned.there))
