-- The append that `begin` opens.
use Rattle.std.proofs.Common.{◌≡◌, ℕ, ◌+◌, ◌<◌, ◌≤◌, ◌^◌, [], length, Option, Some, None, Ok, Err, refl, sym, ◌∙◌, ap}
use Rattle.std.proofs.Common.{arith}
use Rattle.enc_model.specs.Indexes.{IndexSet}
use Rattle.upload_rules.specs.declared.new_text.NewText.{NewText}
use Rattle.upload_rules.specs.declared.slot.Slot.{Slot}
use Rattle.upload_rules.specs.declared.table.Table.{Table}
use Rattle.upload_rules.specs.declared.errors.UploadRefusal.{UploadRefusal}
use Rattle.upload_rules.specs.Lengths.{known_or, longest}
use Rattle.upload_rules.specs.Store.{Upload, upload_of, text_with, is_complete, accepted_count}
use Rattle.upload_rules.specs.States.{IsKeptState, transcoder_with}
use Rattle.upload_rules.specs.Records.{Represents}
use Rattle.upload_rules.specs.World.{World}
use Rattle.upload_rules.specs.Calls.{begin_refusal_at}
use Rattle.upload_rules.specs.Texts.{HoldsText}
use Rattle.upload_rules.specs.Table.{TableRepresents, IsSlotOf, IsOpened}
use Rattle.upload_rules.proofs.Finds.{found_below}
use Rattle.upload_rules.proofs.RecordOfUpload.{all_below}

-- the rules' refusal
pub refuses : (w : World) (n offset count : ℕ) (declare : Option ℕ) (u : Option Upload) (s : Slot) (e : UploadRefusal)
    → IsSlotOf w.store.indexes n u (Some s)
    → ((x : IndexSet) (n : ℕ) (u : Upload) → Represents x n s.record u
    → begin_refusal_at offset count declare (Some u) ≡ Some e)
    → IsOpened w n offset count declare u (Err e)
refuses w n offset count declare None s e held rules = absurd held
refuses w n offset count declare (Some u) s e held rules = rules w.store.indexes n u held.represents

module _ (t : Table) (w : World) (represents : TableRepresents t w) where
  pub opens : (n offset count : ℕ) (declare : Option ℕ) (u : Option Upload) (s : Slot) (text : NewText)
      → upload_of w.store n ≡ u → IsSlotOf w.store.indexes n u (Some s)
      → s.record.accepted ≡ offset → offset + count ≤ longest (known_or s.record.declared declare)
      → longest (known_or s.record.declared declare) < 2 ^ 64
      → ((x : IndexSet) (n : ℕ) (u : Upload) → Represents x n s.record u
      → begin_refusal_at offset count declare (Some u) ≡ None)
      → ((x : IndexSet) (n : ℕ) (u : Upload) → Represents x n s.record u
      → (text_with x u [] (is_complete u)).fault ≡ None
      → IsKeptState (transcoder_with x u [] (is_complete u)) (is_complete u) → HoldsText x u [] text)
      → IsOpened w n offset count declare u (Ok (record {
        number = n;
        offset = offset;
        came = 0;
        declare = declare;
        text = text;
      }))
  opens n offset count declare None s text there held at within fits rules holds = absurd held
  opens n offset count declare (Some u) s text there held at within fits rules holds =
      let here : accepted_count u ≡ offset = sym held.represents.accepted ∙ at in
      let longest_is = ap (λ d. longest (known_or d declare)) held.represents.declared in (
        rules w.store.indexes n u held.represents,
        record {
          number = refl;
          offset = sym here;
          came = refl;
          declare = refl;
          held = omega arith;
          within = omega (arith, here, within, longest_is);
          fits = omega (arith, fits, longest_is);
          below = found_below n w.store.next u w.store.uploads
              (all_below w.store.indexes w.store.next w.store.uploads t.slots.items represents.slots represents.below)
              there;
          roomy = refl;
          text = holds w.store.indexes n u held.represents held.encodable held.valid;
        },
      )
