use Rattle.std.proofs.Common.{[], sym, subst}
use Rattle.enc_encode.specs.State.{EncoderState}
use Rattle.enc_model.specs.Transcode.{IsStateAt, Before}
use Rattle.enc_stream.proofs.Begins.{start_at}
use Rattle.enc_stream.proofs.transcoder.Transcoder.new.Goals as goal

pub returns-clause-nothing_read : goal.returns-clause-nothing_read
returns-clause-nothing_read c t =
    subst (λ (e : EncoderState). IsStateAt t
    (record {
      from = c.args.from;
      to = e.to;
      mode = e.mode;
      phase = Before [];
      shift = e.shift;
    }) []) (sym c.new.ensures)
    (start_at t c.args.from c.args.to c.args.mode)
