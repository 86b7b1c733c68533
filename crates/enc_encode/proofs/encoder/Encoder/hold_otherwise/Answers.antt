use Rattle.std.proofs.Common.{◌≡◌, refl, sym, ◌∙◌, ap, subst, [], ◌∷◌, Ok, Err}
use Rattle.std.proofs.lemmas.Result.{err_from_is_err_and}
use Rattle.enc_model.specs.declared.Mode.TheVariants.{Html}
use Rattle.enc_model.specs.Indexes.{tables}
use Rattle.enc_model.specs.Encode.{coded, encoder}
use Rattle.enc_encode.specs.Code.{code_bytes}
use Rattle.enc_encode.specs.Held.{HoldsCode}
use Rattle.enc_encode.specs.State.{EncoderState, shift_of}
use Rattle.enc_encode.specs.declared.error.EncodeError.TheVariants.{NoMemory}
use Rattle.enc_encode.proofs.Growth.{prefix}
use Rattle.enc_encode.proofs.Helds.{held_given, reference_code, twice_held}
use Rattle.enc_encode.proofs.encoder.Encoder.hold_otherwise.Goals as goal

pub returns-in_err-hold_reference-in-Unmappable-Html : goal.returns-in_err-hold_reference-in-Unmappable-Html
returns-in_err-hold_reference-in-Unmappable-Html g c =
    let p = err_from_is_err_and c.from_residual.result c.from_residual.ensures.1 in
    let code = coded (encoder (tables c.args.set.now) c.args.self.now.to) c.args.self.now.mode (shift_of c.args.shift)
    (c.args.c ∷ []) in
    rw (p.1, p.2) (prefix code.bytes c.in_err-hold_reference-in-Unmappable-Html.ensures.err)

pub returns-in-Unmappable-Html : goal.returns-in-Unmappable-Html
returns-in-Unmappable-Html g c =
    let e = c.args.self.now in
    let lacks = c.in-Unmappable-Html in
    let same = c.encoding_of-to.ensures ∙ ap (λ (z : EncoderState). z.to) c.self.view_is in
    let html : e.mode ≡ Html = sym (ap (λ (z : EncoderState). z.mode) c.self.view_is) ∙ lacks.is-1 in
    let code = reference_code (tables c.args.set.now) e c.encoding_of-to.result c.args.shift c.args.c lacks.bytes
    lacks.next lacks.d same html (rw lacks.is-0 at c.written.ensures) in
    subst (λ z. HoldsCode z c.args.out.now c.args.held.now c.hold_reference.new.out c.hold_reference.new.self
    (Ok lacks.next)) (sym code) (refl, refl, c.in_ok-hold_reference-in-Unmappable-Html.ensures.ok)

pub returns-in_err-hold-in-Restore-default : goal.returns-in_err-hold-in-Restore-default
returns-in_err-hold-in-Restore-default g c =
    let p = err_from_is_err_and c.from_residual-in_err-hold-in-Restore-default.result
    c.from_residual-in_err-hold-in-Restore-default.ensures.1 in
    let code = coded (encoder (tables c.args.set.now) c.args.self.now.to) c.args.self.now.mode (shift_of c.args.shift)
    (c.args.c ∷ []) in
    rw (p.1, p.2) (prefix code.bytes c.in_err-hold-in-Restore-default.ensures.err)

pub returns-in_err-hold-in-Restore-default-2 : goal.returns-in_err-hold-in-Restore-default-2
returns-in_err-hold-in-Restore-default-2 g c =
    let p = err_from_is_err_and c.from_residual-in_err-hold-in-Restore-default-2.result
    c.from_residual-in_err-hold-in-Restore-default-2.ensures.1 in
    let again = c.in-Restore-default in
    let wrote = c.in-Wrote in
    let mid = c.hold.new in
    let new = c.hold-in-Wrote.new in
    let same = c.encoding_of-to.ensures ∙ ap (λ (z : EncoderState). z.to) c.self.view_is in
    rw (p.1, p.2) (twice_held (tables c.args.set.now) c.args.self.now c.encoding_of-to.result c.args.shift c.args.c
    again.bytes again.between wrote.more wrote.next same (rw again.is-0 at c.written.ensures) wrote.ensures
    c.args.out.now c.args.held.now mid.out mid.self new.out new.self (Err NoMemory)
    c.in_ok-hold-in-Restore-default.ensures.ok
    (prefix (code_bytes wrote.more) c.in_err-hold-in-Restore-default-2.ensures.err))

pub returns-in-Wrote : goal.returns-in-Wrote
returns-in-Wrote g c =
    let again = c.in-Restore-default in
    let wrote = c.in-Wrote in
    let mid = c.hold.new in
    let new = c.hold-in-Wrote.new in
    let same = c.encoding_of-to.ensures ∙ ap (λ (z : EncoderState). z.to) c.self.view_is in
    twice_held (tables c.args.set.now) c.args.self.now c.encoding_of-to.result c.args.shift c.args.c again.bytes
    again.between wrote.more wrote.next same (rw again.is-0 at c.written.ensures) wrote.ensures c.args.out.now
    c.args.held.now mid.out mid.self new.out new.self (Ok wrote.next) c.in_ok-hold-in-Restore-default.ensures.ok
    (refl, refl, c.in_ok-hold-in-Restore-default-2.ensures.ok)

pub returns-in_err-flush : goal.returns-in_err-flush
returns-in_err-flush g c =
    let p = err_from_is_err_and c.from_residual-in_err-flush.result c.from_residual-in_err-flush.ensures.1 in
    let code = coded (encoder (tables c.args.set.now) c.args.self.now.to) c.args.self.now.mode (shift_of c.args.shift)
    (c.args.c ∷ []) in
    rw (p.1, p.2) (prefix code.bytes c.in_err-flush.ensures.err)

pub returns : goal.returns
returns g c =
    let code = coded (encoder (tables c.args.set.now) c.args.self.now.to) c.args.self.now.mode (shift_of c.args.shift)
    (c.args.c ∷ []) in
    let done = c.in_ok-flush.ensures.ok in
    subst (λ still_held. HoldsCode code c.args.out.now c.args.held.now c.encode.new.out still_held c.encode.result)
    (sym done.1)
    (held_given code c.args.out.now c.args.held.now c.flush.new.out c.encode.new.out c.encode.result done.0
    c.encode.ensures)
