use Rattle.std.proofs.Common.{refl}
use Rattle.std.proofs.lemmas.Result.{err_from_is_err_and}
use Rattle.enc_model.specs.Encode.{encoder}
use Rattle.enc_model.specs.Indexes.{tables}
use Rattle.enc_encode.specs.Code.{code_bytes, written_of, final}
use Rattle.enc_encode.specs.State.{shift_of}
use Rattle.enc_encode.proofs.Growth.{prefix}
use Rattle.enc_encode.proofs.Final.{gave_after}
use Rattle.enc_encode.proofs.Codes.{coded_once, coded_twice, not_again}
use Rattle.enc_encode.proofs.encoder.Encoder.encode.Goals as goal

pub returns-in_err-append-in-Restore : goal.returns-in_err-append-in-Restore
returns-in_err-append-in-Restore c =
    let i = c.self.inside in
    let w = encoder (tables c.args.set.now) i.to (shift_of c.in-Restore.next) c.args.c in
    let e = coded_twice (tables c.args.set.now) i.to i.mode (shift_of c.args.shift) c.args.c
    (code_bytes c.in-Restore.bytes)
    (shift_of c.in-Restore.next) w c.in-Restore.ensures refl in
    let p = err_from_is_err_and c.from_residual.result c.from_residual.ensures.1 in
    rw (← c.self.view_is, e, p.1, p.2)
    (prefix (final i.mode w).bytes (rw c.as_slice.ensures at c.in_err-append-in-Restore.ensures.grew))

pub returns-in_ok-append-in-Restore : goal.returns-in_ok-append-in-Restore
returns-in_ok-append-in-Restore c =
    let i = c.self.inside in
    let e = coded_twice (tables c.args.set.now) i.to i.mode (shift_of c.args.shift) c.args.c
    (code_bytes c.in-Restore.bytes)
    (shift_of c.in-Restore.next) (written_of c.written-in-Restore.result)
    c.in-Restore.ensures c.written-in-Restore.ensures in
    rw (← c.self.view_is, e)
    (gave_after (code_bytes c.in-Restore.bytes) (final i.mode
    (written_of c.written-in-Restore.result)) c.write_out.new.out
    c.write_out.result
    (rw c.as_slice.ensures at c.in_ok-append-in-Restore.ensures.grew) c.write_out.ensures)

pub returns-in_default : goal.returns-in_default
returns-in_default c =
    let i = c.self.inside in
    let e = coded_once (tables c.args.set.now) i.to i.mode (shift_of c.args.shift) c.args.c
    (written_of c.written.result) c.written.ensures (not_again c.written.result c.in_default.not-Restore) in
    rw (← c.self.view_is, e) c.write_out-in_default.ensures
