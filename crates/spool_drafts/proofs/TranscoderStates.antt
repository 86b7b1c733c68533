-- The state of transcoding after an upload's bytes.
use Rattle.std.proofs.Common.{◌≡◌, ℕ, Bool, false, List, [], ◌++◌, None, Some, Ok, Err, IsErrOf, Result, refl, sym, ◌∙◌}
use Rattle.std.proofs.Common.{ap, subst, append_assoc, append-nil, Vec, Global}
use Rattle.enc_model.specs.Indexes.{IndexSet, tables}
use Rattle.enc_model.specs.Transcode.{added}
use Rattle.enc_stream.specs.TranscoderState.{TranscoderState, stepped_on}
use Rattle.enc_stream.specs.StateBytes.{IsValidState, state_bytes}
use Rattle.upload_rules.specs.declared.errors.UploadError.{UploadError}
use Rattle.upload_rules.specs.declared.errors.UploadError.TheVariants.{Stop, Refused}
use Rattle.common.specs.declared.stop.Stop.TheVariants.{NoMemory, DiskFault}
use Rattle.upload_rules.specs.declared.errors.UploadRefusal.{UploadRefusal}
use Rattle.upload_rules.specs.declared.errors.UploadRefusal.TheVariants as refusals
use Rattle.upload_rules.specs.States.{phase_from, transcoder_from, state_with}
use Rattle.upload_rules.specs.Store.{Upload, text_with, is_complete}
use Rattle.upload_rules.specs.Texts.{IsEnded, IsReading, IsRest}
use Rattle.upload_rules.specs.World.{is_there}
use Rattle.upload_rules.proofs.Transcoders.{further}
use Rattle.spool_drafts.specs.Progress.{ReadsOn, FinishesAs, IsCompleteIn, refusal_in}
use Rattle.spool_drafts.specs.declared.progress.Progress.{Progress}
use Rattle.spool_drafts.specs.declared.progress.Progress.TheVariants as progress

-- an upload with these bytes accepted, of a length that isn't known
abbrev pub after : Upload → List ℕ → Upload
after u bytes = record u { accepted = u.accepted ++ bytes; declared = None }

module _ (x : IndexSet) (u : Upload) (bytes : List ℕ) where
  at_nil : (u.accepted ++ bytes) ++ [] ≡ u.accepted ++ bytes
  at_nil = append-nil (u.accepted ++ bytes)

  same_text : (done : Bool) → text_with x (after u bytes) [] done ≡ text_with x u bytes done
  same_text done = ap (λ (b : List ℕ). text_with x (record u { accepted = [] }) b done) at_nil

  pub nothing_yet : (old : List ℕ) → old ≡ [] → IsRest x (after u bytes) [] false old
  nothing_yet old none = ap (λ (b : List ℕ). (text_with x (after u bytes) [] false).bytes ++ b) none
      ∙ append-nil (text_with x (after u bytes) [] false).bytes

  pub reads_after : (t : TranscoderState) → IsReading x u bytes t → IsReading x (after u bytes) [] t
  reads_after t here = record {
    unspent = here.unspent;
    from = here.from;
    to = here.to;
    mode = here.mode;
    phase = here.phase ∙ ap (phase_from (tables x) u.origin u.from) (sym at_nil);
    shift = here.shift ∙ ap (λ r. r.state) (sym (same_text false));
    encodable = ap (λ r. r.fault) (same_text false) ∙ here.encodable;
  }

  assoc : (piece : List ℕ) → (u.accepted ++ bytes) ++ piece ≡ u.accepted ++ (bytes ++ piece)
  assoc piece = append_assoc u.accepted bytes piece

  longer_text : (piece : List ℕ) (done : Bool) → text_with x (after u bytes) piece done ≡ text_with x u
      (bytes ++ piece) done
  longer_text piece done = ap (λ (b : List ℕ). text_with x (record u { accepted = [] }) b done) (assoc piece)

  -- a piece further
  pub fed : (piece old text : List ℕ) (t next : TranscoderState) → IsReading x u bytes t → old ≡ []
      → (added (tables x) t.transcoder piece).fault ≡ None → next ≡ stepped_on (tables x) t piece
      → text ≡ old ++ (added (tables x) t.transcoder piece).bytes
      → ReadsOn x u bytes piece (Some next) text
  fed piece old text t next here none ok is grown =
      let both : IsReading x (after u bytes) piece next × IsRest x (after u bytes) piece false text =
      further x (after u bytes) [] t (reads_after t here) piece old text next (nothing_yet old none) ok is grown in
      record {
        state_after =
            record {
              unspent = both.0.unspent;
              from = both.0.from;
              to = both.0.to;
              mode = both.0.mode;
              phase = both.0.phase ∙ ap (phase_from (tables x) u.origin u.from) (assoc piece);
              shift = both.0.shift ∙ ap (λ r. r.state) (longer_text piece false);
              encodable = ap (λ r. r.fault) (sym (longer_text piece false)) ∙ both.0.encodable;
            };
        adds = ap (λ r. r.bytes ++ text) (sym (same_text false)) ∙ both.1 ∙ ap (λ r. r.bytes) (longer_text piece false);
      }

  pub finishes : (done : Bool) (result : Result (List ℕ × Vec ℕ Global) UploadError)
      → ((e : UploadRefusal) → IsErrOf result (Refused e) → e ≡ refusals.Unencodable)
      → IsEnded x (after u bytes) [] done result → FinishesAs x u bytes done result
  unfolding state_with
  finishes done (Ok parts) only ended = record {
    state_is = ended.state_is
        ∙ ap (λ (b : List ℕ). state_bytes (transcoder_from (tables x) u.origin u.from u.to u.mode b done)) at_nil;
    valid = subst (λ (b : List ℕ). IsValidState (transcoder_from (tables x) u.origin u.from u.to u.mode b done)) at_nil
        ended.valid.valid;
    encodable = ap (λ r. r.fault) (sym (same_text done)) ∙ ended.encodable;
    adds = ap (λ r. r.bytes ++ parts.1.items) (sym (same_text false)) ∙ ended.rest ∙ ap (λ r. r.bytes) (same_text done);
  }
  finishes done (Err (Stop NoMemory)) only ended = tt
  finishes done (Err (Stop DiskFault)) only ended = absurd ended
  finishes done (Err (Refused e)) only ended =
      let is = only e refl in (
        is,
        ap (λ r. is_there r.fault) (sym (same_text done))
            ∙ subst (λ (r : UploadRefusal). IsEnded x (after u bytes) [] done (Err (Refused r))) is ended,
      )

-- where the upload isn't complete, bytes may not come because of a character
pub open_refusal : (u : Upload) (s : Progress) → is_complete u ≡ false → IsCompleteIn u s
    → refusal_in s ≡ refusals.Unencodable
open_refusal u (progress.Text t text) still complete = refl
open_refusal u (progress.OutOfRoom t) still complete = refl
open_refusal u progress.Unencodable still complete = refl
open_refusal u progress.Complete still complete = absurd cc
