-- What is read of the upload that a commit is for.
use Rattle.std.proofs.lemmas.Grind.{common_steps}
use Rattle.std.proofs.Common.{◌≡◌, ◌∙◌, ◌⊎◌, ◌≤◌, ◌<◌, ◌+◌, ◌^◌, inl, inr, ℕ, Bool, true, false, List, Option, None}
use Rattle.std.proofs.Common.{Some, Err, get_or, ap, subst, arith}
use Rattle.spool_drafts.specs.Drafts.{appended_count, declare_of, upload_number_of, offset_of}
use Rattle.spool_drafts.specs.declared.draft.SpoolDraft.{SpoolDraft}
use Rattle.spool_pages.specs.View.{SlotRecord}
use Rattle.upload_rules.specs.Calls.{length_refusal}
use Rattle.upload_rules.specs.Lengths.{is_length, is_new, known_or, longest}
use Rattle.upload_rules.specs.declared.errors.UploadRefusal.{UploadRefusal}
use Rattle.upload_rules.specs.declared.records.Record.{Record}
use Rattle.spool_kept.specs.Committing.{Finds, HasSameCount, IsFound, HasOtherLength}
use Rattle.spool_catalog.specs.Holding.{IsUsedBy}
use Rattle.spool_catalog.specs.Records.{IsUnpacked, slot_record_of}
use Rattle.spool_catalog.proofs.slots.ChangedSlots.{one_value}
use Rattle.spool_kept.proofs.commits.CommitRefusals.{length_refused}

-- the count of a slot that has the draft's
pub has_count : {slots : List (Option SlotRecord)} {o : SpoolDraft} {s slot : ℕ} {r : SlotRecord}
    → HasSameCount slots o s → s ≡ slot → get_or slots slot None ≡ Some r → r.accepted ≡ offset_of o
has_count has at there = cc (has.there, has.count)

-- the slot's record was read, and it has the count that the draft began at
module _ {slots : List (Option SlotRecord)} (o : SpoolDraft) {slot : ℕ} (r : Record)
    (there : get_or slots slot None ≡ Some (slot_record_of r)) (used : IsUsedBy slots slot (upload_number_of o))
    (count : r.accepted ≡ offset_of o) where
  abbrev pub same : HasSameCount slots o slot
  same = record {
    used = slot_record_of r;
    there = there;
    number = ap (λ (q : SlotRecord). q.number) (one_value there used.there) ∙ used.is;
    count = count;
  }

  -- so many bytes came, and this length
  module _ {declare : Option ℕ} (declare_is : declare ≡ declare_of o) {came : ℕ} (came_is : came ≡ appended_count o)
    where
      refusal_is : length_refusal r.declared (declare_of o) (offset_of o + appended_count o) ≡ length_refusal r.declared
          declare
          (r.accepted + came)
      refusal_is = search (arith, common_steps)

      pub refused : (e : UploadRefusal) → length_refusal r.declared declare (r.accepted + came) ≡ Some e
          → Finds slots o (Err e)
      refused e is =
          let length_so : HasOtherLength slots o e = record { slot = slot; same = same; refused = refusal_is ∙ is } in
          elim (length_refused r.declared declare (r.accepted + came) e is) [
            | inl set ↦ rw set (subst (HasOtherLength slots o) set length_so)
            | inr long ↦ rw long (subst (HasOtherLength slots o) long length_so)
          ]

      -- the length is allowed
      module _ {declared : Option ℕ} (declared_is : declared ≡ known_or r.declared declare)
          (within : r.accepted + came ≤ longest declared)
          (allowed : length_refusal r.declared declare (r.accepted + came) ≡ None) (fits : longest declared < 2 ^ 64)
          (unpacked : IsUnpacked r) {declares : Bool} (declares_is : declares ≡ is_new r.declared declare) where
        pub found : (stays : Bool)
            → (stays ≡ true → (came ≡ 0) × (declares ≡ true → is_length declared r.accepted ≡ false))
            → (stays ≡ false → (0 < came) ⊎ ((declares ≡ true) × (is_length declared r.accepted ≡ true)))
            → IsFound slots o (record { slot = slot; declares = declares; declared = declared; stays = stays })
        found stays nothing something = record {
          same = same;
          state = record { transcoder = unpacked.transcoder; valid = unpacked.valid; is = unpacked.is };
          allowed = refusal_is ∙ allowed;
          declares = declares_is ∙ ap (is_new r.declared) declare_is;
          declared = declared_is ∙ ap (known_or r.declared) declare_is;
          within = omega (arith, within, count, came_is);
          fits = fits;
          stays = search (arith, common_steps);
          goes = search (arith, common_steps);
        }
