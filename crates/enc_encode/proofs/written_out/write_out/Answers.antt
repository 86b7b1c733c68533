use Rattle.std.proofs.lemmas.Result.{err_from_is_err_and}
use Rattle.enc_encode.specs.Code.{code_bytes}
use Rattle.enc_encode.specs.State.{shift_of}
use Rattle.enc_encode.proofs.Growth.{after_part}
use Rattle.enc_encode.proofs.Final.{unmappable_prefix}
use Rattle.enc_encode.proofs.written_out.write_out.Goals as goal

pub returns-in_err-append-in-Unmappable : goal.returns-in_err-append-in-Unmappable
returns-in_err-append-in-Unmappable c =
    let p = err_from_is_err_and c.from_residual.result c.from_residual.ensures.1 in
    rw (c.in-Unmappable.is, p.1, p.2)
    (unmappable_prefix c.args.mode (code_bytes c.in-Unmappable.bytes) (shift_of c.in-Unmappable.next) c.in-Unmappable.c
    (rw c.as_slice.ensures at c.in_err-append-in-Unmappable.ensures.grew))

pub returns-in_err-append_reference-in-Html : goal.returns-in_err-append_reference-in-Html
returns-in_err-append_reference-in-Html c =
    let r = c.from_residual-in_err-append_reference-in-Html in
    let p = err_from_is_err_and r.result r.ensures.1 in
    rw (c.in-Unmappable.is, c.in-Html.is, p.1, p.2)
    (after_part (rw c.as_slice.ensures at c.in_ok-append-in-Unmappable.ensures.grew)
    c.in_err-append_reference-in-Html.ensures)
