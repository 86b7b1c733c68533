use Rattle.std.proofs.Common.{refl}
use Rattle.std.proofs.lemmas.Result.{err_from_is_err_and}
use Rattle.enc_encode.specs.State.{shift_of}
use Rattle.enc_encode.proofs.Codes.{ascii_code}
use Rattle.enc_encode.proofs.encoder.Encoder.encode_ascii.Goals as goal

pub returns-in_err-append-in_default : goal.returns-in_err-append-in_default
returns-in_err-append-in_default c t =
    let i = c.self.inside in
    let p = err_from_is_err_and c.from_residual.result c.from_residual.ensures.1 in
    rw (
      ← c.self.view_is,
      ascii_code t i.to i.mode (shift_of i.shift) c.args.run.now c.in_default.not-Iso2022Jp
          c.requires,
      p.1,
      p.2,
    )
    c.in_err-append-in_default.ensures.grew

pub returns-in_ok-append-in_default : goal.returns-in_ok-append-in_default
returns-in_ok-append-in_default c t =
    let i = c.self.inside in
    rw (
      ← c.self.view_is,
      ascii_code t i.to i.mode (shift_of i.shift) c.args.run.now c.in_default.not-Iso2022Jp
          c.requires,
    )
    (refl, refl, c.in_ok-append-in_default.ensures.grew)
