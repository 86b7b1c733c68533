use Rattle.std.proofs.Common.{◌≡◌, Some, Bool, false, refl, sym, subst, ap, rules}
use Rattle.enc_model.specs.declared.Encoding.{Encoding}
use Rattle.enc_model.specs.Transcode.{Transcoder, Phase}
use Rattle.enc_encode.specs.State.{EncoderState}
use Rattle.enc_stream.specs.Stage.{phase_at, is_spent_at}
use Rattle.enc_stream.specs.StateBytes.{IsPhaseOf, IsShiftIn, transcoder_state}
use Rattle.enc_stream.proofs.Bytes.{from_there, to_there, mode_there, phase_there, shift_there, unfinished_there}
use Rattle.enc_stream.proofs.transcoder.Transcoder.read.Goals as goal

transcoder_is : (s : Transcoder) (from : Encoding) (e : EncoderState) (phase : Phase) (spent : Bool) → from ≡ s.from → e
    ≡ record {
      to = s.to;
      mode = s.mode;
      shift = s.shift;
    } →
    phase ≡ s.phase → spent ≡ false →
    transcoder_state s ≡ record {
      transcoder =
          record { from = from; to = e.to; mode = e.mode; phase = phase; shift = e.shift };
      spent = spent;
    }
transcoder_is s from e phase spent e1 e2 e3 e4 = rw (e1, e2, e3, e4) refl

pub returns-in_err-encoder-clause-same : goal.returns-in_err-encoder-clause-same
returns-in_err-encoder-clause-same c s valid is =
    let b = c.args.bytes.now in
    let e : EncoderState = record { to = s.to; mode = s.mode; shift = s.shift } in
    let k = c.in_err-encoder.ensures.same e valid.fitting.output (to_there s b is) (mode_there s b is)
    (shift_there s b is) in
    cc

pub returns-in_err-stage-clause-same : goal.returns-in_err-stage-clause-same
returns-in_err-stage-clause-same c s valid is =
    let b = c.args.bytes.now in
    let f = c.in_ok-from.ensures s.from (from_there s b is) in
    let from : c.in_ok-from.from ≡ s.from = cc in
    absurd (c.in_err-stage.ensures.same s.phase
    (subst (λ (z : Encoding). IsPhaseOf z s.phase) (sym from) valid.fitting.phase) valid.reached
    (phase_there s b is) (unfinished_there s b is))

pub returns-then-not-is_encoder_in-clause-same : goal.returns-then-not-is_encoder_in-clause-same
returns-then-not-is_encoder_in-clause-same c s valid is =
    let b = c.args.bytes.now in
    let f = c.in_ok-from.ensures s.from (from_there s b is) in
    let from : c.in_ok-from.from ≡ s.from = cc in
    let e : EncoderState = record { to = s.to; mode = s.mode; shift = s.shift } in
    let k = c.in_ok-encoder.ensures.same e valid.fitting.output (to_there s b is) (mode_there s b is)
    (shift_there s b is) in
    let encoder : c.in_ok-encoder.encoder ≡ e = cc in
    let phase : phase_at c.in_ok-stage.stage ≡ s.phase =
    c.in_ok-stage.ensures.same s.phase (subst (λ (z : Encoding). IsPhaseOf z s.phase) (sym from) valid.fitting.phase)
    valid.reached (phase_there s b is) (unfinished_there s b is) in
    let shift : IsShiftIn (phase_at c.in_ok-stage.stage) c.in_ok-encoder.encoder.to c.in_ok-encoder.encoder.shift =
    subst (λ (z : Phase). IsShiftIn z c.in_ok-encoder.encoder.to c.in_ok-encoder.encoder.shift) (sym phase)
    (subst (λ (z : EncoderState). IsShiftIn s.phase z.to z.shift) (sym encoder) valid.fitting.shift) in
    let shown = c.is_encoder_in.ensures.1 shift in
    absurd (search rules)

pub returns-clause-same : goal.returns-clause-same
returns-clause-same c s valid is =
    let b = c.args.bytes.now in
    let f = c.in_ok-from.ensures s.from (from_there s b is) in
    let from : c.in_ok-from.from ≡ s.from = cc in
    let e : EncoderState = record { to = s.to; mode = s.mode; shift = s.shift } in
    let k = c.in_ok-encoder.ensures.same e valid.fitting.output (to_there s b is) (mode_there s b is)
    (shift_there s b is) in
    let encoder : c.in_ok-encoder.encoder ≡ e = cc in
    let phase : phase_at c.in_ok-stage.stage ≡ s.phase =
    c.in_ok-stage.ensures.same s.phase (subst (λ (z : Encoding). IsPhaseOf z s.phase) (sym from) valid.fitting.phase)
    valid.reached (phase_there s b is) (unfinished_there s b is) in
    ap Some (sym (transcoder_is s c.in_ok-from.from c.in_ok-encoder.encoder (phase_at c.in_ok-stage.stage)
    (is_spent_at c.in_ok-stage.stage) from encoder phase c.in_ok-stage.ensures.fits.1))
