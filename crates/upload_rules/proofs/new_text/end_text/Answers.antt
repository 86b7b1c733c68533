use Rattle.std.proofs.Common.{◌≡◌, ℕ, List, Err, refl, ap, subst, sym, ◌∙◌}
use Rattle.std.proofs.lemmas.Result.{err_from_is_err_and}
use Rattle.enc_model.specs.Transcode.{Transcoder}
use Rattle.enc_stream.specs.TranscoderState.{TranscoderState}
use Rattle.enc_stream.specs.StateBytes.{IsValidState, state_bytes}
use Rattle.upload_rules.specs.States.{IsState, IsStateLike, SameEncodings}
use Rattle.upload_rules.specs.Texts.{IsEnded}
use Rattle.upload_rules.proofs.Transcoders.{end_refused, whole_ended, whole_open}
use Rattle.upload_rules.proofs.new_text.end_text.Goals as goal

pub returns-in_err-end-clause-ended : goal.returns-in_err-end-clause-ended
returns-in_err-end-clause-ended c u bytes here rest =
    let x = c.args.indexes.now in
    let e = err_from_is_err_and c.from_residual.result c.from_residual.ensures.1 in
    rw c.if-completes.true (subst (IsEnded x u bytes _) (sym (e.1 ∙ ap Err e.2))
    (end_refused x u bytes c.args.transcoder.now here c.in_err-end.field-0.0 c.args.text c.ended.new.out
    c.in_err-end.ensures.refused))

pub returns-then-completes-clause-ended : goal.returns-then-completes-clause-ended
returns-then-completes-clause-ended c u bytes here rest =
    rw c.if-completes.true (whole_ended c.args.indexes.now u bytes c.args.transcoder.now here c.in_ok-end.end
    c.pack.result c.args.text.items c.ended.new.out.items c.in_ok-end.ensures.over c.pack.ensures.bytes
    c.pack.ensures.valid rest c.in_ok-end.ensures.no_fault c.in_ok-end.ensures.added)

pub returns-clause-ended : goal.returns-clause-ended
returns-clause-ended c u bytes here rest =
    rw c.if-completes.false (whole_open c.args.indexes.now u bytes c.args.transcoder.now here c.pack-2.result
    c.args.text.items c.pack-2.ensures.bytes c.pack-2.ensures.valid c.pack-2.ensures.more rest)

-- WHATEVER THE UPLOAD

-- the encodings and the mode stay
same_encodings : (state packed : List ℕ) (t next : Transcoder) → IsState state → IsStateLike state t
    → next.from ≡ t.from → next.to ≡ t.to → next.mode ≡ t.mode → packed ≡ state_bytes next → IsValidState next
    → SameEncodings state packed
same_encodings state packed t next old goes from to mode is valid = record {
  before = old.transcoder;
  after = next;
  before_valid = old.valid;
  after_valid = valid;
  was = old.is;
  is = is;
  from = from ∙ goes.from old.transcoder old.valid old.is;
  to = to ∙ goes.to old.transcoder old.valid old.is;
  mode = mode ∙ goes.mode old.transcoder old.valid old.is;
}

pub returns-then-completes-clause-same : goal.returns-then-completes-clause-same
returns-then-completes-clause-same c state old goes =
    let is = c.in_ok-end.ensures.over in
    same_encodings state c.pack.result c.args.transcoder.now.transcoder c.in_ok-end.end.transcoder old goes
    (ap (λ (t : TranscoderState). t.transcoder.from) is) (ap (λ (t : TranscoderState). t.transcoder.to) is)
    (ap (λ (t : TranscoderState). t.transcoder.mode) is) c.pack.ensures.bytes c.pack.ensures.valid

pub returns-clause-same : goal.returns-clause-same
returns-clause-same c state old goes =
    let t = c.args.transcoder.now.transcoder in
    same_encodings state c.pack-2.result t t old goes refl refl refl c.pack-2.ensures.bytes c.pack-2.ensures.valid
