use Rattle.std.proofs.Common.{◌≡◌, [], ◌∷◌, ◌++◌, Ok, Err, refl, sym, ◌∙◌, ap, subst}
use Rattle.std.proofs.lemmas.Result.{err_from_is_err_and}
use Rattle.std.proofs.lemmas.Str.{IsUtf8-nil}
use Rattle.std.specs.Str.{chars}
use Rattle.std.specs.Str.Iter.{chars_rest}
use lib.Utf8.{encode}
use Rattle.enc_model.specs.declared.Mode.TheVariants.{Html}
use Rattle.enc_model.specs.Encode.{Wrote, coded, encoder}
use Rattle.enc_encode.specs.Code.{code_bytes}
use Rattle.enc_encode.proofs.Codes.{coded_once}
use Rattle.enc_model.specs.Indexes.{tables}
use Rattle.enc_encode.specs.Held.{HeldPrefix, HoldsCode}
use Rattle.enc_encode.specs.Runs.{IsCoded, RunPrefix}
use Rattle.enc_encode.specs.State.{EncoderState, shift_of, shifted, code_from}
use Rattle.enc_encode.specs.declared.error.EncodeError.TheVariants.{NoMemory}
use Rattle.enc_encode.proofs.Growth.{prefix}
use Rattle.enc_encode.proofs.Prefixes.{own_cut, ascii_held, char_held, coded_held, prefix_then}
use Rattle.enc_encode.proofs.encoder.Encoder.hold_prefix.Goals as goal

pub returns-in_err-make_room-clause-err : goal.returns-in_err-make_room-clause-err
returns-in_err-make_room-clause-err g c =
    let p = err_from_is_err_and c.from_residual.result c.from_residual.ensures.1 in
    let code = code_from (tables c.args.set.now) (shifted c.args.self.now (shift_of c.args.shift)) (chars []) in
    rw (p.1, p.2) (
      c.args.text.now,
      record {
        prefix = [];
        parts = refl;
        own = IsUtf8-nil;
        code = prefix code.bytes c.in_err-make_room.ensures.err;
      },
    )

pub range_from-requires : goal.range_from-requires
range_from-requires g c = λ some. own_cut c.args.to (shift_of c.args.shift) c.args.text.now c.in-Some.lanes.now
    c.in-Some.prefix c.utf8.text
    c.in-Some.ensures

pub returns-in-Some-clause-ok : goal.returns-in-Some-clause-ok
returns-in-Some-clause-ok g c =
    rw c.range_from.ensures.value
    (ascii_held (tables c.args.set.now) c.args.self.now c.args.to c.args.text.now c.in-Some.lanes.now c.in-Some.prefix
    c.args.shift c.args.out.now c.args.held.now c.make_room.new.out c.make_room.new.self c.push_prefix.new.self
    c.requires.same c.in-Some.ensures c.in_ok-make_room.ensures.ok c.push_prefix.ensures)

pub returns-in_err-hold-clause-err : goal.returns-in_err-hold-clause-err
returns-in_err-hold-clause-err g c =
    let p = err_from_is_err_and c.from_residual-in_err-hold.result c.from_residual-in_err-hold.ensures.1 in
    let e = c.args.self.now in
    let left = chars_rest c.next.new.self in
    let code = coded (encoder (tables c.args.set.now) e.to) e.mode (shift_of c.args.shift) (c.in-Some-next.c ∷ []) in
    rw (p.1, p.2) (
      left,
      char_held (tables c.args.set.now) e c.args.text.now left c.in-Some-next.c c.args.shift c.args.out.now
          c.args.held.now c.hold.new.out c.hold.new.self (Err NoMemory) c.utf8.text
          (sym c.chars-chars.ensures.rest ∙ c.in-Some-next.ensures.steps.0)
          (prefix code.bytes c.in_err-hold.ensures.err),
    )

pub returns-in-Wrote-clause-ok : goal.returns-in-Wrote-clause-ok
returns-in-Wrote-clause-ok g c =
    let e = c.args.self.now in
    let x = c.in-Some-next.c in
    let next = c.in-Wrote.next in
    let once = coded_once (tables c.args.set.now) e.to e.mode (shift_of c.args.shift) x
    (Wrote (code_bytes c.in-Wrote.bytes) (shift_of next)) (rw (c.requires.same, c.in-Wrote.is) at c.written.ensures)
    tt in
    rw c.as_str.ensures
    (char_held (tables c.args.set.now) e c.args.text.now (chars_rest c.next.new.self) x c.args.shift c.args.out.now
    c.args.held.now c.hold.new.out c.hold.new.self (Ok next) c.utf8.text
    (sym c.chars-chars.ensures.rest ∙ c.in-Some-next.ensures.steps.0)
    (subst (λ code. HoldsCode code c.args.out.now c.args.held.now c.hold.new.out c.hold.new.self (Ok next)) (sym once)
    (refl, refl, c.in_ok-hold.ensures.ok)))

pub returns-in_err-next-clause-err : goal.returns-in_err-next-clause-err
returns-in_err-next-clause-err g c =
    let p = err_from_is_err_and c.from_residual-in_err-next.result c.from_residual-in_err-next.ensures.1 in
    let left = chars_rest c.next.new.self in
    rw (p.1, p.2) (
      left,
      char_held (tables c.args.set.now) c.args.self.now c.args.text.now left c.in-Some-next.c c.args.shift
          c.args.out.now c.args.held.now c.hold_otherwise.new.out c.hold_otherwise.new.held
          (Err c.in_err-next.field-0.0) c.utf8.text
          (sym c.chars-chars.ensures.rest ∙ c.in-Some-next.ensures.steps.0) c.in_err-next.ensures,
    )

pub returns-in_default-mode-clause-ok : goal.returns-in_default-mode-clause-ok
returns-in_default-mode-clause-ok g c =
    rw c.as_str-rest.ensures
    (char_held (tables c.args.set.now) c.args.self.now c.args.text.now (chars_rest c.next.new.self) c.in-Some-next.c
    c.args.shift c.args.out.now c.args.held.now c.hold_otherwise.new.out c.hold_otherwise.new.held
    (Ok c.in_ok-next.next) c.utf8.text (sym c.chars-chars.ensures.rest ∙ c.in-Some-next.ensures.steps.0)
    c.in_ok-next.ensures)

pub returns-in-Html-clause-ok : goal.returns-in-Html-clause-ok
returns-in-Html-clause-ok g c =
    let t = tables c.args.set.now in
    let e = c.args.self.now in
    let text = c.args.text.now in
    let next = c.in_ok-next.next in
    let after = c.as_str-rest.result.now in
    let left = c.push_coded-left.result.now in
    let old = c.args.out.now in
    let out = c.hold_otherwise.new.out in
    let mid = c.hold_otherwise.new.held in
    let still_held = c.push_coded-left.new.self in
    let html : e.mode ≡ Html = sym (ap (λ (z : EncoderState). z.mode) c.self.view_is) ∙ c.in-Html.is in
    let parts = sym c.chars-chars.ensures.rest ∙ c.in-Some-next.ensures.steps.0
    ∙ ap (λ z. encode c.in-Some-next.c ++ z) (sym c.as_str-rest.ensures) in
    let one : HeldPrefix (code_from t (shifted e (shift_of c.args.shift))) text after old c.args.held.now out mid
    (Ok next) =
    char_held t e text after c.in-Some-next.c c.args.shift old c.args.held.now out mid (Ok next) c.utf8.text parts
    c.in_ok-next.ensures in
    let gives : RunPrefix (IsCoded t e.to e.mode (shift_of next)) after left mid still_held =
    subst (λ m. RunPrefix (IsCoded t e.to m (shift_of next)) after left mid still_held) (sym html)
    (subst (λ to. RunPrefix (IsCoded t to Html (shift_of next)) after left mid still_held) c.requires.same
    c.push_coded-left.ensures) in
    prefix_then t (shifted e (shift_of c.args.shift)) text after left old c.args.held.now out mid out still_held next
    (Ok next) one (coded_held t (shifted e (shift_of c.args.shift)) after left next out mid still_held gives)
