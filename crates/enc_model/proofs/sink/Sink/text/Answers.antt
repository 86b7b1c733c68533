use Rattle.std.proofs.Common.{suc, ◌∙◌, ◌++◌, ◌∷◌, [], ap, sym, subst, length, drop, get_or}
use Rattle.std.proofs.lemmas.Iterator.{YieldsList-from_chars}
use Rattle.std.proofs.lemmas.Iterator.Consumers.{YieldsList-so_far, YieldsList-turn, YieldsList-end}
use Rattle.std.proofs.lemmas.List.{map-id, take-append-drop}
use Rattle.std.proofs.Math.Seq.{drop-cons}
use Rattle.std.specs.Str.{chars}
use Rattle.enc_model.proofs.Sinks.{given_err}
use Rattle.enc_model.proofs.sink.Sink.text.Goals as goal

pub returns-in_err-put : goal.returns-in_err-put
returns-in_err-put g c =
    let refuses = g.Self.Sink.refuses in
    let is = g.met.Self.Sink.is_sink in
    let all = chars c.args.run.now in
    let so_far = c.loop-c.yielded in
    let n = length so_far in
    let why = c.in_err-put.field-0.0 in
    let given = YieldsList-from_chars c.args.run.now c.utf8.run cc in
    let turn = YieldsList-turn given so_far _ c.loop-c.yielded_by _ _ c.in-Some.c c.in-Some.is c.next.ensures.steps in
    let prefix = sym (map-id so_far) ∙ YieldsList-so_far given so_far _ c.loop-c.yielded_by in
    let one = subst (λ x. refuses c.loop-c.self (x ∷ []) why c.put.new.self) turn.1 c.in_err-put.ensures in
    let rest = is.more c.loop-c.self c.put.new.self (get_or all n c.in-Some.c ∷ []) (drop (suc n) all) why one in
    let left = subst (λ x. refuses c.loop-c.self x why c.put.new.self) (sym (drop-cons all n c.in-Some.c turn.0))
    rest in
    let whole = is.later c.args.self.now c.loop-c.self c.put.new.self so_far (drop n all) why c.loop-c.invariant left in
    given_err g.Self.Sink.takes refuses c.args.self.now c.put.new.self all c.from_residual.result why
    c.from_residual.ensures.1
    (subst (λ x. refuses c.args.self.now x why c.put.new.self)
    (ap (λ x. x ++ drop n all) prefix ∙ take-append-drop n all) whole)

pub returns : goal.returns
returns g c =
    let so_far = c.loop-c.yielded in
    let given = YieldsList-from_chars c.args.run.now c.utf8.run cc in
    let end = YieldsList-end given so_far _ c.loop-c.yielded_by _ _ c.in-None.is c.next.ensures.steps in
    subst (λ x. g.Self.Sink.takes c.args.self.now x c.loop-c.self) (sym (map-id so_far) ∙ end.0) c.loop-c.invariant
