use Rattle.std.proofs.Common.{◌≡◌, [], length, refl, sym, ◌∙◌, ap, subst}
use Rattle.enc_stream.specs.TranscoderState.{TranscoderState, start, ended_state}
use Rattle.enc_stream.specs.StateBytes.{IsValidState, state_bytes}
use Rattle.upload_rules.specs.Lengths.{is_length}
use Rattle.upload_rules.specs.Store.{New, new_upload, is_complete}
use Rattle.upload_rules.specs.States.{transcoder_with, state_with}
use Rattle.upload_rules.proofs.NewUploads.{new_text, new_encodable, new_open, new_open_phase, new_complete}
use Rattle.upload_rules.proofs.records.Record.first.Goals as goal
use Rattle.upload_rules.proofs.records.Record.first.Goals.{then-is_length, else-is_length}

pub returns-clause-valid : goal.returns-clause-valid
unfolding state_with
returns-clause-valid c = λ x.
    let is = c.fields.view_is in
    let new = c.args.fields in
    let u = new_upload new in
    let declared = ap (λ (n : New). n.declared) is in
    let transcoder_is : c.if-is_length.transcoder.transcoder ≡ transcoder_with x u [] (is_complete u) =
    elim c.if-is_length.branch [
      | then-is_length w ↦
          ap (λ (t : TranscoderState). t.transcoder) w.transcoder-is
          ∙ new_complete x new w.ended-transcoder.result
          (w.ended-transcoder.ensures ∙ ap (λ (n : New). ended_state (start n.from n.to n.mode)) is)
          (ap (λ k. is_length k 0) (sym declared) ∙ sym c.is_length.ensures ∙ w.if-is_length.true)
      | else-is_length w ↦
          ap (λ (t : TranscoderState). t.transcoder) w.transcoder-is
          ∙ new_open x new w.new-transcoder.result
          (w.new-transcoder.ensures.value ∙ ap (λ (n : New). start n.from n.to n.mode) is)
          (ap (λ k. is_length k 0) (sym declared) ∙ sym c.is_length.ensures ∙ w.if-is_length.false)
    ] in
    record {
      represents = record {
        number_is = refl;
        declared = declared;
        accepted = refl;
        text_len = sym (ap length (new_text x new));
        from = ap (λ (n : New). n.from) is;
        to = ap (λ (n : New). n.to) is;
        mode = ap (λ (n : New). n.mode) is;
        state = c.pack.ensures.bytes ∙ ap state_bytes transcoder_is;
        metadata = ap (λ (n : New). n.metadata) is;
      };
      encodable = new_encodable x new (is_complete u);
      valid = record {
        valid = subst IsValidState transcoder_is c.pack.ensures.valid;
        takes_more = new_open_phase x new;
      };
    }
