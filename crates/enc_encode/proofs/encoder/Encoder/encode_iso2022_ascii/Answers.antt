use Rattle.std.proofs.Common.{refl, ap, subst}
use Rattle.std.proofs.lemmas.Result.{err_from_is_err_and}
use Rattle.enc_model.specs.Encode.{encoder}
use Rattle.enc_encode.specs.Code.{code_bytes, written_of, final}
use Rattle.enc_encode.specs.State.{EncoderState, shift_of}
use Rattle.enc_encode.specs.Reasons.{Gave}
use Rattle.enc_encode.proofs.Growth.{prefix}
use Rattle.enc_encode.proofs.Final.{gave_after}
use Rattle.enc_encode.proofs.Codes.{coded_once, coded_twice, not_again}
use Rattle.enc_encode.proofs.encoder.Encoder.encode_iso2022_ascii.Goals as goal

pub returns-in_err-append-in-Restore : goal.returns-in_err-append-in-Restore
returns-in_err-append-in-Restore c t =
    let e = c.args.self.now in
    let w = encoder t e.to (shift_of c.in-Restore.next) c.args.b in
    let code = coded_twice t e.to e.mode (shift_of c.args.shift) c.args.b (code_bytes c.in-Restore.bytes)
    (shift_of c.in-Restore.next) w (rw c.requires.to (c.in-Restore.ensures t.jis0208 t.katakana)) refl in
    let p = err_from_is_err_and c.from_residual.result c.from_residual.ensures.1 in
    rw (code, p.1, p.2)
    (prefix (final e.mode w).bytes (rw c.as_slice.ensures at c.in_err-append-in-Restore.ensures.grew))

pub returns-in_ok-append-in-Restore : goal.returns-in_ok-append-in-Restore
returns-in_ok-append-in-Restore c t =
    let e = c.args.self.now in
    let bytes = code_bytes c.in-Restore.bytes in
    let w = written_of c.iso2022_ascii-in-Restore.result in
    let code = coded_twice t e.to e.mode (shift_of c.args.shift) c.args.b bytes (shift_of c.in-Restore.next) w
    (rw c.requires.to (c.in-Restore.ensures t.jis0208 t.katakana))
    (rw c.requires.to (c.iso2022_ascii-in-Restore.ensures t.jis0208 t.katakana)) in
    rw code
    (gave_after bytes (final e.mode w) c.write_out.new.out c.write_out.result
    (rw c.as_slice.ensures at c.in_ok-append-in-Restore.ensures.grew)
    (subst (λ m. Gave (final m w) c.append.new.out c.write_out.new.out c.write_out.result)
    (ap (λ (z : EncoderState). z.mode) c.self.view_is) c.write_out.ensures))

pub returns-in_default : goal.returns-in_default
returns-in_default c t =
    let e = c.args.self.now in
    let code = coded_once t e.to e.mode (shift_of c.args.shift) c.args.b (written_of c.iso2022_ascii.result)
    (rw c.requires.to (c.iso2022_ascii.ensures t.jis0208 t.katakana))
    (not_again c.iso2022_ascii.result c.in_default.not-Restore) in
    rw code (subst (λ m. Gave (final m (written_of c.iso2022_ascii.result)) c.args.out.now
    c.write_out-in_default.new.out c.write_out-in_default.result) (ap (λ (z : EncoderState). z.mode)
    c.self.view_is) c.write_out-in_default.ensures)
