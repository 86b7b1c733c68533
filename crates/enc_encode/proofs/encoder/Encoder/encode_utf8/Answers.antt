use Rattle.std.proofs.Common.{refl, ap}
use Rattle.std.proofs.lemmas.Result.{err_from_is_err_and}
use Rattle.enc_encode.specs.State.{EncoderState}
use Rattle.enc_encode.proofs.Codes.{utf8_texts, text_code}
use Rattle.enc_encode.proofs.encoder.Encoder.encode_utf8.Goals as goal

pub returns-in_err-append : goal.returns-in_err-append
returns-in_err-append c t =
    let e = c.args.self.now in
    let p = err_from_is_err_and c.from_residual.result c.from_residual.ensures.1 in
    rw (text_code t e.to e.mode e.shift c.args.run.now (utf8_texts t e.to c.requires) c.utf8.run, p.1, p.2)
    (rw c.as_bytes.ensures.value at c.in_err-append.ensures.grew)

pub returns : goal.returns
returns c t =
    let e = c.args.self.now in
    rw (text_code t e.to e.mode e.shift c.args.run.now (utf8_texts t e.to c.requires) c.utf8.run) (
      refl,
      ap (λ (z : EncoderState). z.shift) c.self.view_is,
      rw c.as_bytes.ensures.value at c.in_ok-append.ensures.grew,
    )
