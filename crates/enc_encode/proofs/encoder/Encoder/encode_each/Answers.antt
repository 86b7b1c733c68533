use Rattle.std.proofs.Common.{◌+◌, ◌∷◌, [], ◌++◌, ◌≡◌, sym, ◌∙◌, ap, take, drop, get_or, Ok, Err, take-append-drop}
use Rattle.std.proofs.Common.{subst}
use Rattle.std.proofs.lemmas.Result.{err_from_is_err_and}
use Rattle.std.proofs.lemmas.List.{take_more, take_all}
use Rattle.enc_encode.specs.State.{EncoderState, code_from}
use Rattle.enc_encode.specs.Reasons.{Gave}
use Rattle.enc_encode.proofs.Runs.{gave_nothing, gave_then, gave_stop}
use Rattle.enc_encode.proofs.encoder.Encoder.encode_each.Goals as goal

pub loop-byte-init : goal.loop-byte-init
loop-byte-init c t =
    let same = ap (λ (e : EncoderState). e.shift) c.self.view_is in
    gave_nothing t c.args.self.now c.args.out.now c.self.inside.shift same

pub returns-in_err-shift : goal.returns-in_err-shift
returns-in_err-shift c t =
    let p = err_from_is_err_and c.from_residual.result c.from_residual.ensures.1 in
    let e = c.args.self.now in
    let i = c.loop-byte.byte-index in
    let run = c.args.run.now in
    let x = get_or run i 0 ∷ [] in
    let d = c.in_err-shift.field-0.0 in
    let new = c.encode_iso2022_ascii.new.out in
    let whole : (take i run ++ x) ++ drop (i + 1) run ≡ run =
    ap (λ z. z ++ drop (i + 1) run) (sym (take_more run i 0 c.loop-byte-test.true)) ∙ take-append-drop (i + 1) run in
    rw (p.1, p.2) (subst (λ z. Gave (code_from t e z) c.args.out.now new (Err d)) whole
    (gave_stop t e (take i run ++ x) (drop (i + 1) run) c.args.out.now new d
    (gave_then t e (take i run) x c.args.out.now c.loop-byte.out new c.loop-byte.shift (Err d) (c.loop-byte.invariant t)
    (c.in_err-shift.ensures t))))

pub loop-byte-preserved : goal.loop-byte-preserved
loop-byte-preserved c t =
    let i = c.loop-byte.byte-index in
    let run = c.args.run.now in
    rw (take_more run i 0 c.loop-byte-test.true)
    (gave_then t c.args.self.now (take i run) (get_or run i 0 ∷ []) c.args.out.now c.loop-byte.out
    c.encode_iso2022_ascii.new.out c.loop-byte.shift (Ok c.in_ok-shift.shift)
    (c.loop-byte.invariant t) (c.in_ok-shift.ensures t))

pub returns : goal.returns
returns c t =
    let run = c.args.run.now in
    let i = c.loop-byte.byte-index in
    subst (λ z. Gave (code_from t c.args.self.now z) c.args.out.now c.loop-byte.out (Ok c.loop-byte.shift))
    (take_all i run c.loop-byte-test.false) (c.loop-byte.invariant t)
