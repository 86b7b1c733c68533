-- The record of a new upload.
use Rattle.std.proofs.lemmas.Grind.{common_steps}
use Rattle.std.proofs.Common.{◌≡◌, ℕ, ◌+◌, ◌≤◌, List, [], false, length, sym, ◌∙◌, ap, subst, arith}
use Rattle.common.specs.declared.limits.TheConstants.{MOST_METADATA}
use Rattle.enc_model.specs.Indexes.{IndexSet}
use Rattle.enc_stream.specs.StateBytes.{state_bytes}
use Rattle.upload_rules.specs.Lengths.{is_too_large}
use Rattle.upload_rules.specs.Records.{RepresentsValid, IsValidNew}
use Rattle.upload_rules.specs.States.{state_with, transcoder_with}
use Rattle.upload_rules.specs.Store.{New, new_upload, is_complete}
use Rattle.upload_rules.specs.declared.records.Record.{Record}
use Rattle.upload_rules.proofs.NewUploads.{new_text}
use Rattle.spool_catalog.specs.TakenIn.{IsNewRecord}
use Rattle.spool_catalog.specs.Records.{slot_record_of, FitsMemory}
use Rattle.spool_catalog.specs.Shows.{FitsAfter, IsRecordOf, IsValidRecord}
use Rattle.spool_catalog.proofs.Recorded.{recorded_state, with_from, with_to, with_mode}
use Rattle.std.proofs.Common.{inl, inr, Option, None, Some}
use Rattle.std.proofs.lemmas.Bool.{cases_lt, both_ways, lt-ltb}
use Rattle.common.specs.declared.limits.TheConstants.{MOST_LENGTH}
use Rattle.enc_model.specs.Transcode.{Transcoder}
use Rattle.upload_rules.specs.Lengths.{longest}

-- a length that isn't too large
pub small_is : (declare : Option ℕ) → is_too_large declare ≡ false → longest declare ≤ MOST_LENGTH
small_is None small = omega arith
small_is (Some n) small = elim (cases_lt MOST_LENGTH n) [
  | inl lt ↦ absurd (both_ways (is_too_large (Some n)) small (lt-ltb MOST_LENGTH n lt))
  | inr le ↦ le
]

pub state_length : (t : Transcoder) → length (state_bytes t) ≡ 32
state_length t = search (arith, common_steps)

module _ (x : IndexSet) (n : ℕ) (r : Record) (new : New) (valid_record : RepresentsValid x n r (new_upload new)) where
  state_is : r.state ≡ state_bytes (transcoder_with x (new_upload new) [] (is_complete (new_upload new)))
  unfolding state_with
  state_is = valid_record.represents.state

  pub new_fits : IsValidNew new → FitsMemory r
  new_fits well = grind (arith, common_steps, state_is, with_from, with_to, with_mode)

  represents_new : IsRecordOf x (slot_record_of r) [] (new_upload new)
  represents_new =
      let text = sym (new_text x new) in
      let phase : FitsAfter x (new_upload new) None = tt in
      assumption (text, phase, valid_record, valid_record.represents)

  no_text : r.text_len ≡ 0
  no_text = valid_record.represents.text_len ∙ ap length (new_text x new)

  valid_new : IsValidNew new → 1 ≤ n → is_too_large new.declared ≡ false → IsValidRecord (n + 1) (slot_record_of r)
  valid_new well some small = record {
    some = omega (arith, valid_record.represents.number_is, some);
    below = omega (arith, valid_record.represents.number_is);
    accepted = omega (arith, valid_record.represents.accepted);
    declared = rw (← valid_record.represents.declared) at (small_is new.declared small);
    text_fits = omega (arith, no_text);
    state_size = ap length state_is ∙ state_length (transcoder_with x (new_upload new) [] (is_complete (new_upload
        new)));
    state = recorded_state x (slot_record_of r) [] (new_upload new) represents_new;
    metadata_size = subst (λ (bytes : List ℕ). length bytes ≤ MOST_METADATA) (sym valid_record.represents.metadata)
        well.short;
    printable = rw (← valid_record.represents.metadata) at well.printable;
  }

pub new_record : (x : IndexSet) (n : ℕ) (r : Record) (new : New)
    → ((y : IndexSet) → RepresentsValid y n r (new_upload new))
    → IsValidNew new → IsNewRecord n new (slot_record_of r)
new_record x n r new valid_record well = record {
  number_is = (valid_record x).represents.number_is;
  represents = λ y. represents_new y n r new (valid_record y);
  no_text = no_text x n r new (valid_record x);
  valid = valid_new x n r new (valid_record x) well;
}
